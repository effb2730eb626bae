-- The insertion's plan in the front of the price row, and 0 behind it.
-- Assumes nothing.
use mathlib.Core.Path.{◌≡◌, ap}
use mathlib.Core.List.{◌++◌}
use Prim.Native.Nat.{◌-◌}
use native.Mathlib.Omega.{arith}
use lib.ListN.{length}
use Rattle.full_plan.proofs.plan_day.Goals as goal

pub returns : goal.returns
returns c =
    let size : length c.split_at_mut-front.result.1.now ≡ length c.args.prices.now - length c.args.day.capacities.now = omega (arith, c.split_at_mut-front.ensures.back_len) in
    record {
      front = c.insert_all.new.prices;
      planned = c.insert_all.ensures;
      behind = ap (λ rest. c.insert_all.new.prices ++ rest) (rw size at (c.fill.ensures.after (λ y e. e)));
    }
