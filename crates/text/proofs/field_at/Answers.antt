-- One law for each way through the function.
use Rattle.text.proofs.Reading.{field_bad, field_end, field_miss, field_hit}
use mathlib.Core.Path.{sym, ◌∙◌}
use Rattle.text.proofs.field_at.Goals as goal
use Rattle.text.proofs.field_at.Goals.{else-next-s-via-then-next-s+else-s-next, else-next-s-via-else-next-s}

pub returns-in_err-n : goal.returns-in_err-n
returns-in_err-n c = c.from_residual.ensures ∙ field_bad _ _ _ _ (sym c.number_at.ensures ∙ c.in_err-n.was)

pub returns-then-s-next : goal.returns-then-s-next
returns-then-s-next c = field_hit _ _ _ _ _ (sym c.number_at.ensures ∙ c.in_ok-n.was) c.if-s-next.true

pub returns : goal.returns
returns c = elim c.else-next-s.branch [
  | else-next-s-via-then-next-s+else-s-next w ↦ field_miss _ _ _ _ _ (sym c.number_at.ensures ∙ c.in_ok-n.was) w.if-s-next.false
  | else-next-s-via-else-next-s w ↦ field_end _ _ _ _ _ (sym c.number_at.ensures ∙ c.in_ok-n.was) c.requires.2 w.if-next-s.false
]
