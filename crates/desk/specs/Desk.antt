-- What the exports answer in numbers, where it is not `code_of` alone.
-- Assumes nothing.
use Rattle.std.specs.Prelude.{◌≡◌, List, ℕ, Result, Ok, Err, length, Option, Some, None}
use Rattle.answers.specs.declared.Refusal.{Refusal}
use Rattle.answers.specs.declared.Code.{Code}
use Rattle.answers.specs.Answers.{code, refusal_code, code_of}
use Rattle.choice.specs.declared.Which.{Which}
use Rattle.choice.specs.declared.Which.TheVariants.{First, Second}
use Rattle.day.specs.Day.{Day}
use Rattle.full_plan.specs.FullPlan.{FullPlan}
use Rattle.period_card.specs.declared.Card.{Card}
use Rattle.plan_reader.specs.PlanReading.{ReadPlan}
use Rattle.sheet.specs.Sheet.{Reading, read, refused}
use Rattle.desk.specs.declared.CardCode.{CardCode}
use Rattle.desk.specs.declared.ReadingCode.{ReadingCode}

-- 1 for the first row, 2 for the second, 0 for neither
abbrev pub row_number : Option Which → ℕ
row_number (Some First) = 1
row_number (Some Second) = 2
row_number None = 0

-- the answer of a call that returns no value: 0 and no values, or the refusal
abbrev pub done_code : Result Unit Refusal → Code
done_code (Ok done) = code 0 0 0
done_code (Err refusal) = refusal_code refusal

-- what the reader answers in numbers: P, N or the refusal, and "beside P and N" the closing number, "0 in a refusal" (#108)
abbrev pub reading_code : Reading → ReadingCode
reading_code (read capacities flights closing) = record { number = 0; first = length capacities; second = length flights; closing = closing }
reading_code (refused a) = record { number = (refusal_code a).number; first = (refusal_code a).first; second = (refusal_code a).second; closing = 0 }

-- the card's answer in numbers, beside its words and its size: "A refusal gives 0 for words and size."
abbrev pub card_code : Result Card Refusal → CardCode
card_code (Ok card) = record { number = 0; first = 0; second = 0; low = card.low; high = card.high; size = card.size }
card_code (Err refusal) = record {
  number = (refusal_code refusal).number;
  first = (refusal_code refusal).first;
  second = (refusal_code refusal).second;
  low = 0;
  high = 0;
  size = 0;
}

-- the full plan's answer in numbers, and what that answer says of the rows
pub record Exported (d : Day) (code : Code) (holds₀ prices₀ holds prices : List ℕ) : Type 0 where
  pub answer : Result ℕ Refusal
  pub code_is : code ≡ code_of answer
  pub outcome : FullPlan d answer holds₀ prices₀ holds prices

-- the same of a plan text that is read back
pub record ReadExported (d : Day) (text : List ℕ) (code : Code) (holds₀ holds : List ℕ) : Type 0 where
  pub answer : Result ℕ Refusal
  pub code_is : code ≡ code_of answer
  pub outcome : ReadPlan d text answer holds₀ holds
