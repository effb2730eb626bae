-- Assumes nothing.
use native.Mathlib.Omega.{arith}
use Rattle.day.proofs.Valid.{valid_means}
use Rattle.answers.proofs.Decides.{say_yes, say_no}
use Rattle.price_check.proofs.Laws.{unsold_free_lem, unsold_full, unsold_not}
use Rattle.price_check.proofs.are_unsold.Goals as goal
use Rattle.price_check.proofs.are_unsold.Goals.{else-of_period-ne0-via-then-of_period-ne0+else-landings_of-capacity_of, else-of_period-ne0-via-else-of_period-ne0}

pub loop-k-init : goal.loop-k-init
loop-k-init c = λ j a b. absurd (omega arith)

pub landings_of-requires : goal.landings_of-requires
landings_of-requires c = omega (arith, c.requires, (valid_means c.args.day.good).whole)

pub returns-then-landings_of-capacity_of : goal.returns-then-landings_of-capacity_of
returns-then-landings_of-capacity_of c =
    say_no (unsold_not c.loop-k.auto.k (omega (arith, c.counted-last.ensures)) c.of_period.ensures.0 c.if-of_period-ne0.true c.requires c.landings_of.ensures c.capacity_of.ensures c.if-landings_of-capacity_of.true)

pub loop-k-preserved : goal.loop-k-preserved
loop-k-preserved c = elim c.else-of_period-ne0.branch [
  | else-of_period-ne0-via-then-of_period-ne0+else-landings_of-capacity_of w ↦
      unsold_full c.loop-k.invariant c.requires w.landings_of.ensures w.capacity_of.ensures w.if-landings_of-capacity_of.false
  | else-of_period-ne0-via-else-of_period-ne0 w ↦ unsold_free_lem c.loop-k.invariant c.of_period.ensures.0 w.if-of_period-ne0.false
]

pub returns : goal.returns
returns c = say_yes (λ j a b. c.loop-k.invariant j a (omega (arith, c.counted-last.ensures)))

pub returns-else-of_period-ne0 : goal.returns-else-of_period-ne0
returns-else-of_period-ne0 c = elim c.else-of_period-ne0.branch [
  | else-of_period-ne0-via-then-of_period-ne0+else-landings_of-capacity_of w ↦
      let upto = unsold_full c.loop-k.invariant c.requires w.landings_of.ensures w.capacity_of.ensures w.if-landings_of-capacity_of.false in
      say_yes (λ j a b. upto j a (omega (arith, c.counted-last.ensures)))
  | else-of_period-ne0-via-else-of_period-ne0 w ↦
      let upto = unsold_free_lem c.loop-k.invariant c.of_period.ensures.0 w.if-of_period-ne0.false in
      say_yes (λ j a b. upto j a (omega (arith, c.counted-last.ensures)))
]
