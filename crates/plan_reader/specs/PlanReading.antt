-- A plan text read back (#107): which texts are accepted, what the hold row then is, and which line refusal 15 names. All of it is said of
-- legal plans and their texts.
-- Assumes nothing.
use Rattle.std.specs.Prelude.{◌≡◌, ◌⊎◌, true, cond, List, ℕ, ◌-◌, ◌≤◌, ◌<◌, length, get_or, take, eqb, Result, Ok, Err}
use Rattle.answers.specs.declared.Refusal.{Refusal}
use Rattle.answers.specs.declared.Refusal.TheVariants.{BadDay, BadLength, BadPlanText}
use Rattle.text.specs.Digits.{line_end}
use Rattle.text.specs.Fixed.{starts_with}
use Rattle.day.specs.Day.{Day, N, total, valid}
use Rattle.day.specs.Plan.{Legal}
use Rattle.plan_text.specs.PlanText.{plan_text}

-- a line of the text, "end byte included", ends just before `next`
pub record LineEnds (text : List ℕ) (next : ℕ) : Type 0 where
  pub some : 1 ≤ next
  pub inside : next ≤ length text
  pub end_byte : get_or text (next - 1) 0 ≡ line_end

-- what stands before `at` is whole lines: none of them, or the last one ends there
abbrev pub WholeLines : List ℕ → ℕ → Type 0
WholeLines text at = (at ≡ 0) ⊎ LineEnds text at

-- some "legal plan's text begins with" these bytes
pub record PlanBegins (d : Day) (bytes : List ℕ) : Type 0 where
  pub plan : List ℕ
  pub legal : Legal d plan
  pub begins : starts_with (plan_text d.flights plan) bytes ≡ true

-- "the offset of the first line, end byte included, such that no legal plan's text begins with the lines up to and including it": some legal
-- plan's text begins with the lines before it, if there are any, and none with those up to its end or the end of a later one. A last
-- line without its end byte has no such end, and in "a text of whole lines that merely ends early" no line begins at its length.
pub record FirstWrongLine (d : Day) (text : List ℕ) (at : ℕ) : Type 0 where
  pub whole : WholeLines text at
  pub before : 1 ≤ at → PlanBegins d (take at text)
  pub beyond : (next : ℕ) → at < next → LineEnds text next → PlanBegins d (take next text) → ⊥

-- "It accepts just the bytes that the writer makes for some legal plan of that day", fills the hold row with it and "answers the plan's total"
pub record TextAccepted (d : Day) (text : List ℕ) (answer : Result ℕ Refusal) (holds : List ℕ) : Type 0 where
  pub legal : Legal d holds
  pub text_is : text ≡ plan_text d.flights holds
  pub total_is : answer ≡ Ok (total d holds)

-- "Any other text is refused with 15, .. the hold row untouched."
pub record TextRefused (d : Day) (text : List ℕ) (answer : Result ℕ Refusal) (holds₀ holds : List ℕ) : Type 0 where
  pub line : ℕ
  pub first_wrong : FirstWrongLine d text line
  pub other : (plan : List ℕ) → Legal d plan → text ≡ plan_text d.flights plan → ⊥
  pub line_is : answer ≡ Err (BadPlanText line)
  pub same_holds : holds ≡ holds₀

-- of a valid day and a row of N: one of the two
pub data TextRead (d : Day) (text : List ℕ) (answer : Result ℕ Refusal) (holds₀ holds : List ℕ) : Type 0 where
  accepted : TextAccepted d text answer holds → TextRead d text answer holds₀ holds
  refused : TextRefused d text answer holds₀ holds → TextRead d text answer holds₀ holds

-- the call: "after 6 and 7", which leave the row as it was too
unfoldable pub ReadPlan : Day → List ℕ → Result ℕ Refusal → (holds₀ holds : List ℕ) → Type 0
ReadPlan d text answer holds₀ holds =
    cond (valid d)
    (cond (eqb (length holds₀) (N d)) (TextRead d text answer holds₀ holds) ((answer ≡ Err (BadLength (N d))) × (holds ≡ holds₀)))
    ((answer ≡ Err BadDay) × (holds ≡ holds₀))
