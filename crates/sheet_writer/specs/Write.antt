-- What writing a day's sheet answers and leaves in the buffer: 6, then 7 with the text's length.
-- Assumes nothing.
use Rattle.std.specs.Prelude.{ℕ, List, cond, Result, Err}
use Rattle.answers.specs.declared.Refusal.{Refusal}
use Rattle.answers.specs.declared.Refusal.TheVariants.{BadDay}
use Rattle.text.specs.Writing.{text_answer, text_after}
use Rattle.day.specs.Day.{Day, valid}
use Rattle.sheet.specs.Text.{sheet_of}

unfoldable pub write_answer : Day → List ℕ → ℕ → Result ℕ Refusal
write_answer d buffer place = cond (valid d) (text_answer buffer place (sheet_of d)) (Err BadDay)

-- the buffer afterwards
unfoldable pub write_after : Day → List ℕ → ℕ → List ℕ
write_after d buffer place = cond (valid d) (text_after buffer place (sheet_of d)) buffer
