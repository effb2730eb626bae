-- Texts in a buffer: parts lent on, one text behind another, and the loops that fill a buffer.
-- Assumes nothing.
use Rattle.std.proofs.Common.{Ok, Err}
use Prim.Native.Nat.{ℕ, zero, suc, ◌≤◌, ◌<◌, ◌+◌, ◌-◌, ◌/◌, ◌%◌}
use native.Mathlib.Omega.{arith}
use native.Mathlib.Numerals.{add-one}
use mathlib.Core.Path.{◌≡◌, refl, ap, sym, ◌∙◌}
use mathlib.Core.List.{List, [], ◌∷◌, ◌++◌, append_assoc, append-nil}
use lib.ListN.{length, get_or, take, drop, set, length-append, length-drop, length-set, drop_of_length-le, take-append-drop}
use Rattle.std.proofs.lemmas.List.{take-set-le}
use lib.Seq.{take-suc, set_split, drop-drop, take_all, take_at, drop-append-add, length-take-le}
use borrow.Author.Tests.{le-leb, lt-leb}
use Rattle.answers.specs.declared.Refusal.TheVariants.{BadLength}
use Rattle.text.specs.Digits.{digits, ended, separated, line}
use Rattle.text.specs.Fixed.{refusal_names, refusal_text}
use Rattle.text.specs.Writing.{placed, fits, text_answer, text_after, Put}
use Rattle.text.specs.Loops.{dec, Backwards, Grown}
use Rattle.text.proofs.Digits.{digits_dec, separated_snoc}

-- the number writer's loop, from the last digit on

drop_set : (l : List ℕ) (j v : ℕ) → j < length l → drop j (set l j v) ≡ v ∷ drop (suc j) l
drop_set [] j v h = absurd (omega arith)
drop_set (x ∷ xs) zero v h = refl
drop_set (x ∷ xs) (suc j) v h = drop_set xs j v (omega arith)

pub placed_zero : (o t : List ℕ) → placed o 0 t ≡ t ++ drop (length t) o
unfolding placed
placed_zero o t = let z : 0 + length t ≡ length t = omega arith in rw z

-- a part that was lent on, from `at` on, and filled at its front
pub lent : (o t : List ℕ) (at r : ℕ) (part : List ℕ) → at + length t ≤ length o → Put (take (length o - at) (drop at o)) 0 t r part
    → Put o at t (at + r) (take at o ++ (part ++ drop (length o - at) (drop at o)))
unfolding placed
lent o t at r part h p =
    let z : drop (length o - at) (drop at o) ≡ [] = drop_of_length-le (drop at o) {i = length o - at} (rw length-drop (omega arith)) in
    let a : take (length o - at) (drop at o) ≡ drop at o = take_all (length o - at) (drop at o) (rw length-drop (omega arith)) in
    record { place = omega (arith, p.place); bytes = rw (p.bytes, placed_zero, z, a, drop-drop, append-nil) }

length_placed : (o t : List ℕ) (at : ℕ) → at + length t ≤ length o → length (placed o at t) ≡ length o
unfolding placed
length_placed o t at h = simp (length-append, length-drop, length-take-le at o (omega arith)) (omega arith)

-- one text behind another
placed_on : (o t u : List ℕ) (at m : ℕ) → m ≡ at + length t → at + length t + length u ≤ length o → placed (placed o at t) m u ≡ placed o at (t ++ u)
unfolding placed
placed_on o t u at m e h =
    let k : length (take at o) ≡ at = length-take-le at o (omega arith) in
    let n : length (take at o ++ t) ≡ m = simp (length-append, k) (omega arith) in
    let g : take at o ++ (t ++ drop (at + length t) o) ≡ (take at o ++ t) ++ drop (at + length t) o = sym (append_assoc (take at o) t _) in
    let f : take m ((take at o ++ t) ++ drop (at + length t) o) ≡ take at o ++ t = take_at (take at o ++ t) _ m n in
    let x : at + length t + length u ≡ at + length (t ++ u) = simp length-append (omega arith) in
    let d : drop (m + length u) ((take at o ++ t) ++ drop (at + length t) o) ≡ drop (at + length (t ++ u)) o =
    rw (← n) (drop-append-add (take at o ++ t) (drop (at + length t) o) (length u)) ∙ (drop-drop (length u) (at + length t) o ∙ rw x)
    in
    rw (g, f, d) (simp append_assoc)

pub put_length : {o t o' : List ℕ} {at r : ℕ} → at + length t ≤ length o → Put o at t r o' → length o' ≡ length o
put_length {o} {t} {o'} {at} h d = rw d.bytes (length_placed o t at h)

pub then : {o o1 o2 t u : List ℕ} {at a r : ℕ} → at + length t + length u ≤ length o → Put o at t a o1 → Put o1 a u r o2 → Put o at (t ++ u) r o2
then {o} {o1} {o2} {t} {u} {at} {a} h d f =
    record { place = simp length-append (omega (arith, d.place, f.place)); bytes = f.bytes ∙ rw d.bytes (placed_on o t u at a d.place h) }

pub put_none : (o : List ℕ) (at : ℕ) → at ≤ length o → Put o at [] at o
unfolding placed
put_none o at h =
    let z : at + 0 ≡ at = omega arith in
    record { place = sym z; bytes = rw z (sym (take-append-drop at o)) }

pub grown_none : (o : List ℕ) (start : ℕ) → start ≤ length o → Grown o start [] o start
grown_none o start h = record { long = refl; put = put_none o start h }

module _ {o : List ℕ} {start : ℕ} {t out : List ℕ} {at : ℕ} (g : Grown o start t out at) where
  pub grown_room : (u : List ℕ) → start + length t + length u ≤ length o → at + length u ≤ length out
  grown_room u h = omega (arith, g.long, g.put.place)

  pub grown_more : {u next : List ℕ} {r : ℕ} → start + length t + length u ≤ length o → Put out at u r next → Grown o start (t ++ u) next r
  grown_more h p = let q = then h g.put p in record { long = put_length (simp length-append (omega arith)) q; put = q }

set_placed : (o : List ℕ) (m v : ℕ) → m < length o → set o m v ≡ placed o m (v ∷ [])
unfolding placed
set_placed o m v h = rw (add-one, set_split o m v h)

pub back_start : (o : List ℕ) (at end n : ℕ) → end ≡ at + length (digits n) → end < length o → Backwards o at end n o end n
back_start o at end n e h =
    let k : end - at ≡ length (digits n) = omega arith in
    record { whole = e; room = h; long = refl; from = omega arith; upto = omega arith; front = refl; rest = rw (k, ← digits_dec) refl }

module _ {o out : List ℕ} {at end n i left : ℕ} (b : Backwards o at end n out i left) where
  pub back_step : (v : ℕ) → at < i → v ≡ 48 + left % 10 → Backwards o at end n (set out (i - 1) v) (i - 1) (left / 10)
  unfolding dec
  back_step v h e =
      let j : i ≡ suc (i - 1) = omega arith in
      let k : i - at ≡ suc (i - 1 - at) = omega arith in
      let r : i - 1 < length out = omega (arith, b.upto, b.room, b.long) in
      let l : drop (i - 1) (set out (i - 1) v) ≡ v ∷ drop i out = rw (← j) at (drop_set out (i - 1) v r) in
      record {
        whole = b.whole;
        room = b.room;
        long = rw length-set b.long;
        from = omega arith;
        upto = omega (arith, b.upto);
        front = take-set-le at out (i - 1) v (omega arith) ∙ b.front;
        rest = rw k at b.rest ∙ rw (l, e, append_assoc);
      }

  pub back_end : i ≡ at → (e : ℕ) → Put o at (ended e n) (end + 1) (set out end e)
  unfolding dec placed ended
  back_end z e =
      let k : i - at ≡ 0 = omega arith in
      let d : digits n ++ drop end o ≡ drop at out = rw z at (rw k at b.rest) in
      let p : Put o at (digits n) end out = record { place = b.whole; bytes = sym (take-append-drop at out) ∙ rw (b.front, ← d, ← b.whole) } in
      let q : Put out end (e ∷ []) (end + 1) (set out end e) = record { place = refl; bytes = set_placed out end e (omega (arith, b.room, b.long)) } in
      then (omega (arith, b.whole, b.room)) p q

-- one number more
pub separated_part : (ns : List ℕ) (i : ℕ) → i < length ns
    → (separated (take (i + 1) ns) ≡ separated (take i ns) ++ ended 44 (get_or ns i 0))
    × (length (separated (take i ns)) + length (ended 44 (get_or ns i 0)) ≤ length (separated ns))
unfolding separated
separated_part ns i h =
    let e : take (i + 1) ns ≡ take i ns ++ (get_or ns i 0 ∷ []) = rw add-one (take-suc ns i 0 h) in
    let a : separated (take (i + 1) ns) ≡ separated (take i ns) ++ ended 44 (get_or ns i 0) = rw e (separated_snoc (take i ns) (get_or ns i 0)) in
    let b = rw take-append-drop at (separated_append (take (i + 1) ns) (drop (i + 1) ns)) in
    let c = simp length-append at (ap length b) in
    let d = simp length-append at (ap length a) in
    (a, omega arith)
  where
    separated_append : (xs ys : List ℕ) → separated (xs ++ ys) ≡ separated xs ++ separated ys
    separated_append [] ys = refl
    separated_append (x ∷ xs) ys = rw (separated_append xs ys, append_assoc)

pub no_numbers : separated [] ≡ []
unfolding separated
no_numbers = refl

pub length_line : (ns : List ℕ) (last : ℕ) → length (line ns last) ≡ length (separated ns) + length (ended 10 last)
unfolding line
length_line ns last = length-append (separated ns) (ended 10 last)

pub line_put : {o o1 o2 : List ℕ} {at a r : ℕ} (ns : List ℕ) (last : ℕ) → at + length (line ns last) ≤ length o → Put o at (separated ns) a o1
    → Put o1 a (ended 10 last) r o2 → Put o at (line ns last) r o2
unfolding line
line_put ns last h d e = then (omega (arith, length-append (separated ns) (ended 10 last))) d e

-- the outcome of a text's call
module _ (buffer text : List ℕ) (place : ℕ) where
  pub not_fits : length buffer < place + length text → (Err (BadLength (length text)) ≡ text_answer buffer place text) × (buffer ≡ text_after buffer place text)
  unfolding text_answer text_after fits
  not_fits h = rw (lt-leb (place + length text) (length buffer) h) (refl, refl)

  pub it_fits : place + length text ≤ length buffer → {r : ℕ} {out : List ℕ} → Put buffer place text r out
      → (Ok (length text) ≡ text_answer buffer place text) × (out ≡ text_after buffer place text)
  unfolding text_answer text_after fits
  it_fits h p = rw (le-leb (place + length text) (length buffer) h, p.bytes) (refl, refl)

-- the refusal's text

pub length_refusal_names : length refusal_names ≡ 21
unfolding refusal_names
length_refusal_names = refl

pub length_refusal : (number first second : ℕ) → length (refusal_text number first second) ≡ 21 + length (line (number ∷ first ∷ []) second)
unfolding refusal_text
length_refusal number first second = length-append refusal_names (line (number ∷ first ∷ []) second) ∙ rw length_refusal_names

pub refusal_put : {o o1 o2 : List ℕ} {a r : ℕ} (number first second : ℕ) → length (refusal_text number first second) ≤ length o → Put o 0 refusal_names a o1
    → Put o1 a (line (number ∷ first ∷ []) second) r o2 → Put o 0 (refusal_text number first second) r o2
unfolding refusal_text
refusal_put number first second h d e = then (omega (arith, length-append refusal_names (line (number ∷ first ∷ []) second))) d e
