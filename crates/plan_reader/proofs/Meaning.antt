-- What the contract of reading a plan text comes to: which line is named, that answer and row follow from the day and the text, which texts
-- are accepted, and that text to holds and holds to text undo each other.
-- Assumes nothing.
use Rattle.std.proofs.Common.{Result, Ok, Err}
use mathlib.Core.Path.{◌≡◌, refl, sym, ap, ◌∙◌}
use mathlib.Core.Logic.{inl, inr, ◌↔◌}
use mathlib.Core.Bool.{Bool, true, false, cond}
use mathlib.Core.List.{List}
use Prim.Native.Nat.{ℕ, ◌≤◌, ◌<◌}
use native.Mathlib.Omega.{arith}
use lib.ListN.{length, take, drop, take-append-drop}
use lib.Seq.{take-take, take-length}
use lib.Dec.{eqb}
use borrow.Author.Tests.{eq-eqb}
use Rattle.assignment.proofs.Tests.{lt?}
use Rattle.answers.specs.declared.Refusal.{Refusal}
use Rattle.answers.specs.declared.Refusal.TheVariants.{BadDay, BadLength, BadPlanText}
use Rattle.text.specs.Fixed.{starts_with}
use Rattle.text.specs.Writing.{text_answer, text_after}
use Rattle.text.proofs.Fixed.{starts_with_lem}
use Rattle.day.specs.Day.{Day, N, total, valid}
use Rattle.day.specs.Plan.{Legal}
use Rattle.plan_text.specs.PlanText.{plan_text, plan_text_answer, plan_text_after}
use Rattle.plan_text.proofs.OneText.{one_text}
use Rattle.plan_text.proofs.Short.{plan_written}
use Rattle.plan_reader.specs.PlanReading.{LineEnds, WholeLines, PlanBegins, FirstWrongLine, TextRead, accepted, refused, ReadPlan}
use Rattle.plan_reader.proofs.Ends.{same_front}

-- ---- the line that refusal 15 names

line_inside : {text : List ℕ} {at : ℕ} → WholeLines text at → at ≤ length text
line_inside {text} {at} (inl e) = omega arith
line_inside (inr ends) = ends.inside

-- some legal plan's text begins with the lines up to each one before it: it is "the first line such that" none does
pub right_before : {d : Day} {text : List ℕ} {at : ℕ} → FirstWrongLine d text at → (next : ℕ) → LineEnds text next → next ≤ at → PlanBegins d (take next text)
right_before {d} {text} {at} w next ends l =
    let b = w.before (omega (arith, ends.some)) in
    let t = plan_text d.flights b.plan in
    let e : take next t ≡ take next text =
    sym (take-take next at t l) ∙ (ap (take next) (same_front t text at (line_inside w.whole) b.begins) ∙ take-take next at text l)
    in
    record { plan = b.plan; legal = b.legal; begins = rw (← e) (begun next t) }
  where
    begun : (n : ℕ) (t : List ℕ) → starts_with t (take n t) ≡ true
    begun n t = let e = starts_with_lem (take n t) (drop n t) in rw take-append-drop at e

-- no two lines are the first
not_later : {d : Day} {text : List ℕ} {a b : ℕ} → FirstWrongLine d text a → FirstWrongLine d text b → a < b → ⊥
not_later {d} {text} {a} {b} v w l = at w.whole
  where
    at : WholeLines text b → ⊥
    at (inl e) = omega arith
    at (inr ends) = v.beyond b l ends (w.before ends.some)

pub one_line : {d : Day} {text : List ℕ} {a b : ℕ} → FirstWrongLine d text a → FirstWrongLine d text b → a ≡ b
one_line {a = a} {b = b} v w = elim (lt? a b) [
  | inl l ↦ absurd (not_later v w l)
  | inr g ↦ elim (lt? b a) [ inl l ↦ absurd (not_later w v l) | inr k ↦ omega arith ]
]

-- on a day without a legal plan it is the first line, whatever the text
pub no_plan_first : {d : Day} (text : List ℕ) → ((plan : List ℕ) → Legal d plan → ⊥) → FirstWrongLine d text 0
no_plan_first text none = record { whole = inl refl; before = λ l. absurd (omega arith); beyond = λ next l ends b. none b.plan b.legal }

-- "a text of whole lines that merely ends early gives its length"
pub ends_early : {d : Day} {text : List ℕ} → WholeLines text (length text) → PlanBegins d text → FirstWrongLine d text (length text)
ends_early {d} {text} whole b = record {
  whole = whole;
  before = λ l. rw take-length b;
  beyond = λ next l ends c. omega (arith, ends.inside);
}

-- "a last line without its end byte is such a line": the lines before it are the text's only whole ones
pub not_ended : {d : Day} {text : List ℕ} {at : ℕ} → WholeLines text at → (1 ≤ at → PlanBegins d (take at text))
    → ((next : ℕ) → at < next → LineEnds text next → ⊥) → FirstWrongLine d text at
not_ended whole before none = record { whole = whole; before = before; beyond = λ next l ends b. none next l ends }

-- ---- one answer and one row

planned_not_refused : {t k : ℕ} → ◌≡◌ {A = Result ℕ Refusal} (Ok t) (Err (BadPlanText k)) → ⊥
planned_not_refused e = let z : ◌≡◌ {A = ℕ} 0 1 = cc in omega (arith, z)

same_reading : {d : Day} {text : List ℕ} {a b : Result ℕ Refusal} {h₀ g h : List ℕ} → TextRead d text a h₀ g → TextRead d text b h₀ h → (a ≡ b) × (g ≡ h)
same_reading {d} {text} {a} {b} {h₀} {g} {h} (accepted x) (accepted y) =
    let e : g ≡ h = one_text d g h x.legal y.legal (sym x.text_is ∙ y.text_is) in
    (x.total_is ∙ (ap (λ (k : List ℕ). Ok (total d k)) e ∙ sym y.total_is), e)
same_reading (accepted x) (refused y) = absurd (y.other _ x.legal x.text_is)
same_reading (refused x) (accepted y) = absurd (x.other _ y.legal y.text_is)
same_reading (refused x) (refused y) =
    (x.line_is ∙ (ap (λ (k : ℕ). Err (BadPlanText k)) (one_line x.first_wrong y.first_wrong) ∙ sym y.line_is), x.same_holds ∙ sym y.same_holds)

-- the answer and the row after the call follow from the day, the text and the row before it
pub one_outcome : (d : Day) (text h₀ : List ℕ) (a b : Result ℕ Refusal) (g h : List ℕ) → ReadPlan d text a h₀ g → ReadPlan d text b h₀ h → (a ≡ b) × (g ≡ h)
unfolding ReadPlan
one_outcome d text h₀ a b g h = go (valid d) (eqb (length h₀) (N d))
  where
    kept : (refusal : Refusal) (answer : Result ℕ Refusal) (row : List ℕ) → Type 0
    kept refusal answer row = (answer ≡ Err refusal) × (row ≡ h₀)

    go : (good each : Bool) → cond good (cond each (TextRead d text a h₀ g) (kept (BadLength (N d)) a g)) (kept BadDay a g)
        → cond good (cond each (TextRead d text b h₀ h) (kept (BadLength (N d)) b h)) (kept BadDay b h) → (a ≡ b) × (g ≡ h)
    go true true x y = same_reading x y
    go true false x y = (x.0 ∙ sym y.0, x.1 ∙ sym y.1)
    go false each x y = (x.0 ∙ sym y.0, x.1 ∙ sym y.1)

-- ---- which texts are accepted

-- the text is that of some legal plan
pub record IsPlanText (d : Day) (text : List ℕ) : Type 0 where
  pub plan : List ℕ
  pub legal : Legal d plan
  pub text_is : text ≡ plan_text d.flights plan

pub record IsAccepted (answer : Result ℕ Refusal) : Type 0 where
  pub total : ℕ
  pub is : answer ≡ Ok total

module _ (d : Day) (text : List ℕ) (a : Result ℕ Refusal) (h₀ h : List ℕ) (good : valid d ≡ true) (each : length h₀ ≡ N d) (call : ReadPlan d text a h₀ h) where
  read : TextRead d text a h₀ h
  unfolding ReadPlan
  read = rw (good, eq-eqb (length h₀) (N d) each) at call

  pub accepted_exactly : IsAccepted a ↔ IsPlanText d text
  accepted_exactly = (to read, from read)
    where
      to : TextRead d text a h₀ h → IsAccepted a → IsPlanText d text
      to (accepted x) i = record { plan = h; legal = x.legal; text_is = x.text_is }
      to (refused x) i = absurd (planned_not_refused (sym i.is ∙ x.line_is))

      from : TextRead d text a h₀ h → IsPlanText d text → IsAccepted a
      from (accepted x) i = record { total = total d h; is = x.total_is }
      from (refused x) i = absurd (x.other i.plan i.legal i.text_is)

  -- ---- text to holds and holds to text undo each other

  -- a text that is read is what the writer makes of the row, with whatever buffer and place
  pub read_then_written : IsAccepted a → (buffer : List ℕ) (place : ℕ)
      → (plan_text d.flights h ≡ text) × (text_answer buffer place text ≡ plan_text_answer d h buffer place)
      × (text_after buffer place text ≡ plan_text_after d h buffer place)
  read_then_written i buffer place = go read
    where
      go : TextRead d text a h₀ h → (plan_text d.flights h ≡ text) × (text_answer buffer place text ≡ plan_text_answer d h buffer place)
          × (text_after buffer place text ≡ plan_text_after d h buffer place)
      go (accepted x) =
          let w = plan_written d good h x.legal buffer place in
          (sym x.text_is, rw x.text_is w.0, rw x.text_is w.1)
      go (refused x) = absurd (planned_not_refused (sym i.is ∙ x.line_is))

  -- the text that the writer makes of a legal plan is read as that plan, with its total
  pub written_then_read : (plan : List ℕ) → Legal d plan → text ≡ plan_text d.flights plan → (a ≡ Ok (total d plan)) × (h ≡ plan)
  written_then_read plan legal e = go read
    where
      go : TextRead d text a h₀ h → (a ≡ Ok (total d plan)) × (h ≡ plan)
      go (accepted x) =
          let q : h ≡ plan = one_text d h plan x.legal legal (sym x.text_is ∙ e) in
          (x.total_is ∙ ap (λ (k : List ℕ). Ok (total d k)) q, q)
      go (refused x) = absurd (x.other plan legal e)
