-- The chain sums the lengths of the fields; each number fits 64 bits, so it has at most 20 digits.
use borrow.Author.Rules.{rules}
use Prim.Native.Nat.{ℕ, ◌<◌, ◌^◌, suc}
use native.Mathlib.Omega.{arith}
use lib.ListN.{length, get_or, length-append}
use lib.Dec.{lit<}
use mathlib.Core.List.{List, [], ◌∷◌}
use mathlib.Core.Path.{◌≡◌, refl, ◌∙◌}
use Rattle.std.specs.Prelude.{sum_by}
use Rattle.std.proofs.lemmas.List.Sums.{sum_by-cons}
use Rattle.text.specs.Digits.{ended, separated}
use Rattle.text.specs.Standing.{AllShort}
use Rattle.text.proofs.Digits.{count_le}
use Rattle.text.proofs.Lines.{separated_short}
use Rattle.text.proofs.separated_len.Goals as goal

summed : (ns : List ℕ) → sum_by (λ n. length (ended 44 n)) ns ≡ length (separated ns)
unfolding separated
summed [] = refl
summed (n ∷ ns) = rw (sum_by-cons, summed ns, length-append)

all_short : (ns : List ℕ) → ((i : ℕ) → get_or ns i 0 < 2 ^ 64) → AllShort 20 ns
all_short [] h = tt
all_short (n ∷ ns) h = (count_le n 20 (lit< tt) (omega (arith, h 0)), all_short ns (λ i. h (suc i)))

pub returns : goal.returns
returns c =
    let ns = c.args.numbers.now in
    let k : c.sum.result ≡ sum_by (λ n. length (ended 44 n)) ns = search rules in
    (k ∙ summed ns, omega (arith, k ∙ summed ns, separated_short 20 ns (all_short ns (λ i. omega (arith, c.type_inv.numbers i)))))
