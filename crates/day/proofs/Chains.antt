-- The laws of the chains of flights by residue: a walk up one chain, and the pass over the flights that chains them.
-- Assumes nothing.
use mathlib.Core.Path.{◌≡◌, refl, sym, ap, ◌∙◌}
use mathlib.Core.Logic.{◌≢◌, inl, inr}
use mathlib.Core.Bool.{Bool, true, false}
use mathlib.Core.List.{List}
use Prim.Native.Nat.{ℕ, ◌+◌, ◌-◌, ◌*◌, ◌%◌, ◌≤◌, ◌<◌, zero-le}
use native.Mathlib.Omega.{arith}
use native.Mathlib.Nat.{mod-lt}
use lib.ListN.{length, get_or, set, length-set, replicate, length-replicate, get_or-replicate}
use borrow.Author.Tests.{eq-eqb, ne_eqb}
use Rattle.assignment.specs.Chains.{Newest}
use Rattle.assignment.proofs.Tests.{eq?, lt?}
use Rattle.assignment.proofs.Rows.{set_moved}
use Rattle.assignment.proofs.Chains.{chained_start, chained_add}
use Rattle.day.specs.Day.{most_flights, column, width, all, is_new}
use Rattle.day.specs.Chains.{chains, chain, Linked, Passed}
use Rattle.day.proofs.Tests.{all_next, all_from, all_not}

-- ---- the walk up a chain

-- the flights from entry r to place i have numbers other than x, the number of flight i
pub record Walking (f nearest above : List ℕ) (i x r : ℕ) : Type 0 where
  pub rows : (i + 1) * width ≤ length f
  pub linked : Linked f nearest above i
  pub own : x ≡ column 0 f i
  pub within : r ≤ i
  pub same : 0 < r → chain f (r - 1) ≡ x % chains
  pub rest : (s : ℕ) → r ≤ s → s < i → column 0 f s ≢ x

module _ {f nearest above : List ℕ} {i x : ℕ} where
  -- at the nearest flight above place k: a flight of another chain has another number
  walk_at : (i + 1) * width ≤ length f → Linked f nearest above i → x ≡ column 0 f i → (k : ℕ) → k ≤ i
      → ((s : ℕ) → k ≤ s → s < i → column 0 f s ≢ x) → {r : ℕ} → Newest (chain f) (x % chains) k r → Walking f nearest above i x r
  walk_at rows linked own k b rest h = record {
    rows = rows;
    linked = linked;
    own = own;
    within = omega (arith, h.before);
    same = h.there;
    rest = λ s from l. elim (lt? s k) [ inl less ↦ λ e. h.none s from less (ap (λ y. y % chains) e) | inr past ↦ rest s past l ];
  }

  pub walk_start : (i + 1) * width ≤ length f → Linked f nearest above i → x ≡ column 0 f i → {q : ℕ} → q ≡ chain f i → {r : ℕ}
      → r ≡ get_or nearest q 0 → Walking f nearest above i x r
  walk_start rows linked own e h =
      walk_at rows linked own i (omega arith) (λ s from l. absurd (omega arith)) (rw (h, e, own) (linked.chained.heads (chain f i) (mod-lt _ (omega arith))))

  module _ {r : ℕ} (w : Walking f nearest above i x r) (more : 0 < r) where
    pub walk_not : {y : ℕ} → y ≡ column 0 f (r - 1) → y ≡ x → false ≡ is_new f i
    unfolding is_new
    walk_not at e = sym (all_not i _ (r - 1) (omega arith) (rw (eq-eqb (column 0 f (r - 1)) (column 0 f i) (sym at ∙ e ∙ w.own))))

    module _ {s : ℕ} (link : s ≡ get_or above (r - 1) 0) where
      next_entry : Newest (chain f) (x % chains) (r - 1) s
      next_entry = rw (link, sym (w.same more)) (w.linked.chained.links (r - 1) (omega arith))

      pub walk_less : s < r
      walk_less = omega (arith, next_entry.before)

      pub walk_next : {y : ℕ} → y ≡ column 0 f (r - 1) → (y ≡ x → ⊥) → Walking f nearest above i x s
      walk_next at o = walk_at w.rows w.linked w.own (r - 1) (omega arith)
          (λ k from l. elim (eq? k (r - 1)) [ inl e ↦ λ z. o (at ∙ ap (column 0 f) (sym e) ∙ z) | inr g ↦ w.rest k (omega arith) l ]) next_entry

  pub walk_end : {r : ℕ} → Walking f nearest above i x r → r ≡ 0 → true ≡ is_new f i
  unfolding is_new
  walk_end w e = sym (all_from i _ (λ s l. rw (ne_eqb (column 0 f s) (column 0 f i) (λ z. w.rest s (omega arith) l (z ∙ sym w.own)))))

-- ---- the pass

pub pass_start : {f : List ℕ} {n : ℕ} → n * width ≤ length f → n ≤ most_flights → Passed f n (replicate chains 0) (replicate most_flights 0) 0
unfolding all
pass_start rows most = record {
  rows = rows;
  most = most;
  upto = zero-le;
  linked = record {
    heads = length-replicate {A = ℕ} chains 0;
    places = length-replicate {A = ℕ} most_flights 0;
    few = zero-le;
    chained = chained_start (λ q l. get_or-replicate {A = ℕ} chains q 0 0 l);
  };
  own = refl;
}

module _ {f nearest above : List ℕ} {n i : ℕ} (p : Passed f n nearest above i) (more : i < n) where
  pub pass_not : {t : Bool} → t ≡ is_new f i → t ≡ false → false ≡ all n (is_new f)
  pass_not e s = sym (all_not n (is_new f) i more (sym e ∙ s))

  pub pass_next : {q : ℕ} → q ≡ chain f i → q < chains → {t : Bool} → t ≡ is_new f i → t ≡ true
      → Passed f n (set nearest q (i + 1)) (set above i (get_or nearest q 0)) (i + 1)
  pass_next {q} e inside t s = record {
    rows = p.rows;
    most = p.most;
    upto = omega arith;
    linked = record {
      heads = simp length-set p.linked.heads;
      places = simp length-set p.linked.places;
      few = omega arith;
      chained = chained_add p.linked.chained inside (λ s l. refl) (sym e) (set_moved nearest q (i + 1) (omega arith)) (set_moved above i (get_or nearest q 0) (omega arith));
    };
    own = all_next i (is_new f) p.own (sym t ∙ s);
  }

pub pass_end : {f nearest above : List ℕ} {n i : ℕ} → Passed f n nearest above i → n ≤ i → true ≡ all n (is_new f)
pass_end {f} p l = sym (ap (λ k. all k (is_new f)) (omega arith) ∙ p.own)
