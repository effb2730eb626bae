-- Fixed bytes stand at the front of a list exactly when its front is them.
-- Assumes nothing.
use Rattle.std.specs.Prelude.{ℕ, List, ◌++◌, true, ◌≡◌, length, take}
use Rattle.std.specs.Cmp.Lexicographic.{same_text}
use Rattle.std.proofs.lemmas.Cmp.{nat_list_eq_equiv}
use lib.Seq.{take-append_seam}
use mathlib.Core.Path.{sym}
use Rattle.text.specs.Fixed.{starts_with}

pub starts_is : (l w : List ℕ) → starts_with l w ≡ true → take (length w) l ≡ w
unfolding starts_with
starts_is l w e = sym (same_text w (take (length w) l) (sym e))

pub starts_with_lem : (xs ys : List ℕ) → starts_with (xs ++ ys) xs ≡ true
unfolding starts_with
starts_with_lem xs ys = rw (take-append_seam xs ys) (nat_list_eq_equiv.refl xs)
