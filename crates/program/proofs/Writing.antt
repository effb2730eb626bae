-- A text that is short enough stands at the front of the buffer after the call that writes it, and the call answers its length.
-- Assumes nothing.
use Rattle.std.proofs.Common.{Result, Ok}
use Prim.Native.Nat.{ℕ, ◌≤◌, ◌<◌, ◌+◌, ◌^◌}
use native.Mathlib.Omega.{arith}
use mathlib.Core.Path.{◌≡◌, refl, ap, sym, ◌∙◌}
use mathlib.Core.Bool.{true}
use mathlib.Core.List.{List, [], ◌∷◌, ◌++◌}
use lib.ListN.{length, drop, length-append}
use lib.Seq.{take-append_seam}
use Rattle.answers.specs.declared.Refusal.{Refusal}
use Rattle.answers.specs.declared.Code.{Code}
use Rattle.answers.specs.Answers.{refusal_code}
use Rattle.text.specs.Digits.{separated}
use Rattle.text.specs.Fixed.{refusal_text}
use Rattle.text.specs.Writing.{Put, placed, text_answer, text_after}
use Rattle.text.proofs.Digits.{ended_le}
use Rattle.text.proofs.Writing.{it_fits, placed_zero, length_line, length_refusal}
use Rattle.day.specs.Day.{Day, valid}
use Rattle.day.specs.Plan.{Legal}
use Rattle.plan_text.specs.PlanText.{plan_text, plan_text_answer, plan_text_after}
use Rattle.plan_text.proofs.Short.{plan_short, plan_written}
use Rattle.program.specs.Program.{Front, refusal_of}

pub ok_same : {a b : ℕ} → ◌≡◌ {A = Result ℕ Refusal} (Ok a) (Ok b) → a ≡ b
ok_same e = cc

-- the call answers how many bytes the text has
pub text_front : (buffer text : List ℕ) {after : List ℕ} {written : Result ℕ Refusal} → length text ≤ length buffer
    → written ≡ text_answer buffer 0 text → after ≡ text_after buffer 0 text → (written ≡ Ok (length text)) × Front after (length text) text
text_front buffer text {after} {written} room answer left =
    let put : Put buffer 0 text (0 + length text) (placed buffer 0 text) = record { place = refl; bytes = refl } in
    let w = it_fits buffer text 0 (omega arith) put in
    let bytes : after ≡ text ++ drop (length text) buffer = left ∙ (sym w.1 ∙ placed_zero buffer text) in
    (answer ∙ sym w.0, record { within = rw (bytes, length-append) (omega arith); bytes = rw bytes (take-append_seam text (drop (length text) buffer)) })

values_short : (a b : ℕ) → a < 2 ^ 64 → b < 2 ^ 64 → length (separated (a ∷ b ∷ [])) ≤ 42
unfolding separated
values_short a b p q = simp length-append (omega (arith, ended_le 44 a p, ended_le 44 b q))

-- three numbers of 64 bits
refusal_short : (number first second : ℕ) → number < 2 ^ 64 → first < 2 ^ 64 → second < 2 ^ 64 → length (refusal_text number first second) ≤ 84
refusal_short number first second p q r =
    omega (arith, length_refusal number first second, length_line (number ∷ first ∷ []) second, values_short number first p q, ended_le 10 second r)

pub refusal_front : (buffer : List ℕ) (refusal : Refusal) {after : List ℕ} {written : Result ℕ Refusal} {code : Code} → 4096 ≤ length buffer
    → code ≡ refusal_code refusal → code.number < 2 ^ 64 → code.first < 2 ^ 64 → code.second < 2 ^ 64
    → written ≡ text_answer buffer 0 (refusal_text code.number code.first code.second)
    → after ≡ text_after buffer 0 (refusal_text code.number code.first code.second)
    → (written ≡ Ok (length (refusal_of refusal))) × Front after (length (refusal_of refusal)) (refusal_of refusal)
refusal_front buffer refusal {after} {written} {code} room is p q r made left =
    let same : refusal_text code.number code.first code.second ≡ refusal_of refusal =
    ap (λ (k : Code). refusal_text k.number k.first k.second) is
    in
    rw same at (text_front buffer (refusal_text code.number code.first code.second) (omega (arith, refusal_short code.number code.first code.second p q r)) made left)

pub plan_front : (buffer : List ℕ) (d : Day) (holds : List ℕ) {after : List ℕ} {written : Result ℕ Refusal} → valid d ≡ true → Legal d holds
    → 4096 ≤ length buffer → written ≡ plan_text_answer d holds buffer 0 → after ≡ plan_text_after d holds buffer 0
    → (written ≡ Ok (length (plan_text d.flights holds))) × Front after (length (plan_text d.flights holds)) (plan_text d.flights holds)
plan_front buffer d holds good legal room made left =
    let w = plan_written d good holds legal buffer 0 in
    text_front buffer (plan_text d.flights holds) (omega (arith, plan_short d good holds legal)) (made ∙ sym w.0) (left ∙ sym w.1)
