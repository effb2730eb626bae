-- What the calls answer, as documents 01 ("Turned down") and 02 number it, with 0 for an accepted call, and what a call that fills a hold
-- row comes to.
-- Assumes nothing.
use Rattle.std.specs.Prelude.{List, ℕ, Result, Ok, Err}
use Rattle.answers.specs.declared.Refusal.{Refusal}
use Rattle.answers.specs.declared.Refusal.TheVariants.{
  TooLong,
  BadForm,
  OutOfRange,
  NumberUsed,
  BadCount,
  BadDay,
  BadLength,
  JumpOrLimit,
  NoPlan,
  NotLegal,
  NoSuchPeriod,
  BadForecasts,
  BadTerms,
  BadGrowth,
  BadPlanText,
}
use Rattle.answers.specs.declared.Code.{Code}

-- a number, and the first and second value returned with it
abbrev pub code : ℕ → ℕ → ℕ → Code
code number first second = record { number = number; first = first; second = second }

abbrev pub refusal_code : Refusal → Code
refusal_code TooLong = code 1 8192 0
refusal_code (BadForm line) = code 2 line 0
refusal_code (OutOfRange line) = code 3 line 0
refusal_code (NumberUsed line) = code 4 line 0
refusal_code (BadCount line) = code 5 line 0
refusal_code BadDay = code 6 0 0
refusal_code (BadLength needed) = code 7 needed 0
refusal_code (JumpOrLimit place) = code 8 place 0
refusal_code (NoPlan first last) = code 9 first last
refusal_code (NotLegal place) = code 10 place 0
refusal_code (NoSuchPeriod periods) = code 11 periods 0
refusal_code BadForecasts = code 12 0 0
refusal_code BadTerms = code 13 0 0
refusal_code BadGrowth = code 14 0 0
refusal_code (BadPlanText line) = code 15 line 0

-- what a call answers that returns one value where it is accepted, a total or how many bytes were written: the number 0 and the value
abbrev pub code_of : Result ℕ Refusal → Code
code_of (Ok value) = code 0 value 0
code_of (Err refusal) = refusal_code refusal

-- the answer of a call that fills a hold row, its total or a refusal, and the row after the call
pub record Outcome : Type 0 where
  pub answer : Result ℕ Refusal
  pub holds : List ℕ

abbrev pub outcome : Result ℕ Refusal → List ℕ → Outcome
outcome answer holds = record { answer = answer; holds = holds }
