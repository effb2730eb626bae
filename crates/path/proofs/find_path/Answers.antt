use mathlib.Core.Path.{refl, ◌∙◌}
use Prim.Native.Nat.{ℕ}
use lib.ListN.{replicate, length-replicate}
use Rattle.day.specs.Day.{period_row}
use Rattle.path.proofs.Expanding.{find_list, find_offer, finding_start, finding_end, finding_expand, finding_stop, finding_on, finding_again, finding_next}
use Rattle.path.proofs.find_path.Goals as goal

pub list_periods-all-requires : goal.list_periods-all-requires
list_periods-all-requires c =
    find_list c.requires refl c.flight_at-f.ensures refl (length-replicate {A = ℕ} period_row 0)

pub offer-requires : goal.offer-requires
offer-requires c =
    find_offer c.requires refl c.flight_at-f.ensures refl (replicate period_row 0) (c.list_periods-all.auto.list ∙ length-replicate {A = ℕ} period_row 0) (length-replicate {A = ℕ} period_row 0) c.list_periods-all.ensures

pub loop-t-init : goal.loop-t-init
loop-t-init c =
    finding_start c.requires refl c.flight_at-f.ensures refl (replicate period_row 0) (c.list_periods-all.auto.list ∙ length-replicate {A = ℕ} period_row 0) (length-replicate {A = ℕ} period_row 0) c.list_periods-all.ensures c.offer.auto.dist c.offer.auto.via c.offer.ensures c.take_nearest-left.auto.list c.take_nearest-left.auto.queue c.take_nearest-left.ensures

pub expand-requires : goal.expand-requires
expand-requires c = finding_expand c.loop-t.invariant c.loop-t-test.true refl

pub returns-then-dist-target : goal.returns-then-dist-target
returns-then-dist-target c =
    finding_stop c.loop-t.invariant c.loop-t-test.true refl c.expand.ensures c.if-dist-target.true

pub take_nearest-left-requires-then-t-all : goal.take_nearest-left-requires-then-t-all
take_nearest-left-requires-then-t-all c = let all = finding_again c.loop-t.invariant c.loop-t-test.true refl c.expand.ensures c.if-t-all.true in record { can_near = all.0; queue_len = all.1 }

pub loop-t-preserved-then-t-all : goal.loop-t-preserved-then-t-all
loop-t-preserved-then-t-all c =
    finding_next c.loop-t.invariant c.loop-t-test.true refl c.expand.ensures c.if-t-all.true c.take_nearest-left-then-t-all.auto.list c.take_nearest-left-then-t-all.auto.queue c.take_nearest-left-then-t-all.ensures

pub loop-t-preserved : goal.loop-t-preserved
loop-t-preserved c =
    finding_on c.loop-t.invariant c.loop-t-test.true refl c.expand.ensures c.if-t-all.false

pub returns : goal.returns
returns c = finding_end c.loop-t.invariant c.loop-t-test.false
