-- A text put into a lent byte buffer "from a given place on; bytes before it and after the text keep their values".
-- Assumes nothing.
use Rattle.std.specs.Prelude.{ℕ, ◌+◌, ◌≡◌, List, ◌++◌, Bool, cond, leb, length, take, drop, Result, Ok, Err}
use Rattle.answers.specs.declared.Refusal.{Refusal}
use Rattle.answers.specs.declared.Refusal.TheVariants.{BadLength}

-- the buffer with the text from the place on
unfoldable pub placed : List ℕ → ℕ → List ℕ → List ℕ
placed buffer place text = take place buffer ++ (text ++ drop (place + length text) buffer)

-- "A given place beyond the buffer is too few bytes."
unfoldable pub fits : List ℕ → ℕ → List ℕ → Bool
fits buffer place text = leb (place + length text) (length buffer)

-- "bytes written, 0 (texts)", or 7 with "length needed (for a text its own bytes, the place not added)"
unfoldable pub text_answer : List ℕ → ℕ → List ℕ → Result ℕ Refusal
text_answer buffer place text = cond (fits buffer place text) (Ok (length text)) (Err (BadLength (length text)))

-- the buffer afterwards
unfoldable pub text_after : List ℕ → ℕ → List ℕ → List ℕ
text_after buffer place text = cond (fits buffer place text) (placed buffer place text) buffer

-- what the line writers promise (only inner contracts cite it): the text stands in the buffer from `at` on, and r is the place behind it
pub record Put (before : List ℕ) (at : ℕ) (text : List ℕ) (r : ℕ) (after : List ℕ) : Type 0 where
  pub place : r ≡ at + length text
  pub bytes : after ≡ placed before at text
