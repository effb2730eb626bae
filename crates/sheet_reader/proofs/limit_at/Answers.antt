-- One law for each way through the function.
use Rattle.sheet.proofs.Lines.{dash_end, dash_hit, dash_miss, no_dash, limit_bad, limit_low, limit_high}
use lib.ListN.{get_or}
use mathlib.Core.Path.{◌≡◌, sym, ◌∙◌}
use Rattle.sheet_reader.proofs.limit_at.Goals as goal
use Rattle.sheet_reader.proofs.limit_at.Goals.{Joined-else-at-s, else-at-s-via-then-at-s+else-s-at-eq-DASH, else-at-s-via-else-at-s, else-at-s-2-via-then-at-s-2+else-s-at-eq-COMMA, else-at-s-2-via-else-at-s-2}

pub returns-then-s-at-eq-COMMA : goal.returns-then-s-at-eq-COMMA
returns-then-s-at-eq-COMMA c = dash_hit _ _ c.if-s-at-eq-DASH.true c.if-s-at-eq-COMMA.true

pub returns-then-s-at-eq-DASH : goal.returns-then-s-at-eq-DASH
returns-then-s-at-eq-DASH c = elim c.else-at-s-2.branch [
  | else-at-s-2-via-then-at-s-2+else-s-at-eq-COMMA w ↦ dash_miss _ _ c.if-s-at-eq-DASH.true w.if-s-at-eq-COMMA.false
  | else-at-s-2-via-else-at-s-2 w ↦ dash_end _ _ c.if-s-at-eq-DASH.true w.if-at-s-2.false
]

not_dash : (c : Joined-else-at-s) → get_or c.args.s.now c.args.at 0 ≡ 45 → ⊥
not_dash c = elim c.else-at-s.branch [
  | else-at-s-via-then-at-s+else-s-at-eq-DASH w ↦ w.if-s-at-eq-DASH.false
  | else-at-s-via-else-at-s w ↦ no_dash c.args.s.now c.args.at w.if-at-s.false
]

pub returns-in_err-n : goal.returns-in_err-n
returns-in_err-n c = c.from_residual.ensures ∙ limit_bad _ _ (not_dash (goal.at.returns-in_err-n c).Joined-else-at-s) (sym c.field_at.ensures ∙ c.in_err-n.was)

pub returns-then-n-le96 : goal.returns-then-n-le96
returns-then-n-le96 c = limit_low _ _ (not_dash (goal.at.returns-then-n-le96 c).Joined-else-at-s) _ (sym c.field_at.ensures ∙ c.in_ok-n.was) c.if-n-le96.true

pub returns-else-n-le96 : goal.returns-else-n-le96
returns-else-n-le96 c = limit_high _ _ (not_dash (goal.at.returns-else-n-le96 c).Joined-else-at-s) _ (sym c.field_at.ensures ∙ c.in_ok-n.was) c.if-n-le96.false
