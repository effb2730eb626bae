use Prim.Native.Nat.{ℕ}
use native.Mathlib.Omega.{arith}
use mathlib.Core.Path.{refl}
use lib.ListN.{length-replicate}
use Rattle.day.specs.Day.{most_flights}
use Rattle.day.proofs.Curfew.{open_valid}
use Rattle.day.proofs.Valid.{valid_means, valid_flights}
use Rattle.insertion.proofs.Building.{building_start, building_small, building_price, building_end}
use Rattle.insertion.proofs.insert_all.Goals as goal

pub order_flights-requires : goal.order_flights-requires
order_flights-requires c =
    let v = valid_means c.args.day.good in
    record { valid = valid_flights v; row = omega (arith, v.flights_to, length-replicate {A = ℕ} most_flights 0) }

pub loop-n-init : goal.loop-n-init
loop-n-init c =
    building_start (open_valid (valid_means c.args.day.good)) c.requires refl c.order_flights.auto.order c.order_flights.ensures (c.fill.ensures.after (λ y e. e))

pub overflow_add-total : goal.overflow_add-total
overflow_add-total c =
    omega (arith, building_small c.loop-n.invariant c.insert-added.ensures.inserted)

pub price_closed-requires : goal.price_closed-requires
price_closed-requires c = building_price c.loop-n.invariant (omega (arith, c.requires.holds_row))

pub returns : goal.returns
returns c =
    building_end c.loop-n.invariant (omega (arith, c.requires.holds_row)) c.price_closed.auto.prices c.price_closed.ensures
