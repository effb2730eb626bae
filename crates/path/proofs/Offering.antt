-- The loop of `offer`.
-- Assumes nothing.
use mathlib.Core.Path.{◌≡◌, refl, sym, ap, ◌∙◌}
use mathlib.Core.Logic.{◌⊎◌, inl, inr, ◌≢◌}
use mathlib.Core.List.{List}
use Prim.Native.Nat.{ℕ, ◌+◌, ◌-◌, ◌*◌, ◌^◌, ◌≤◌, ◌<◌}
use native.Mathlib.Omega.{arith}
use lib.ListN.{get_or, length, length-set}
use Rattle.assignment.specs.Rows.{el}
use Rattle.assignment.specs.Search.{Took, Kept}
use Rattle.assignment.proofs.Tests.{lt?, eq?}
use Rattle.assignment.proofs.Rows.{set_moved}
use Rattle.day.specs.declared.Flight.{Flight}
use Rattle.day.specs.Day.{period_row, of_period, hold_cost, latest_of}
use Rattle.day.proofs.Costs.{hold_rises, period_in}
use Rattle.path.specs.declared.Origin.{Origin}
use Rattle.path.specs.Path.{away, dearest, pays, offers_to, Nearer, FirstFrom, CanOffer, Offers}
use Rattle.path.proofs.Rows.{away_moved, as_read}
use Rattle.path.proofs.Listing.{list_to, list_apart, list_before}

module _ (f : Flight) (o : Origin) (prices : List ℕ) (target : ℕ) (dist₀ dist via₀ via : List ℕ) where
  -- what an offer to period k comes to
  abbrev pub Heard : ℕ → Type 0
  Heard k =
      Took f.due (offers_to f target) (pays f prices) o.who o.from o.base (away dist₀) (away dist) (el via) k
      ⊎ Kept f.due (offers_to f target) (pays f prices) o.from o.base (away dist₀ target) (away dist₀) (away dist) (el via₀) (el via) k

-- what stands before place z of the list has been offered
pub record Offering (f : Flight) (o : Origin) (prices list dist₀ dist via₀ via : List ℕ) (left target due last goal z : ℕ) : Type 0 where
  pub can : CanOffer f o prices list dist₀ via₀ left target
  pub due_is : due ≡ f.due
  pub last_is : last ≡ latest_of (target - 1) f
  pub goal_is : goal ≡ away dist₀ target + o.base
  pub upto : z ≤ left
  pub later : (y : ℕ) → z ≤ y → y ≤ left → due ≤ el list y
  pub same_d : length dist ≡ length dist₀
  pub same_v : length via ≡ length via₀
  pub done : (y : ℕ) → y < z → Heard f o prices target dist₀ dist via₀ via (el list y)
  pub rest : (j : ℕ) → ((y : ℕ) → y < z → el list y ≢ j) → (away dist j ≡ away dist₀ j) × (el via j ≡ el via₀ j)

module _ {f : Flight} {o : Origin} {prices list dist via : List ℕ} {left target : ℕ} (c : CanOffer f o prices list dist via left target) where
  pub offering_start : {last z : ℕ} → last ≡ latest_of (target - 1) f → FirstFrom list left f.due z
      → Offering f o prices list dist dist via via left target f.due last (get_or dist target 0 + o.base) z
  offering_start {z = z} g h = record {
    can = c;
    due_is = refl;
    last_is = g;
    goal_is = ap (λ z. z + o.base) (as_read dist target (omega (arith, c.within, c.dists)));
    upto = h.to;
    later = later;
    same_d = refl;
    same_v = refl;
    done = λ y l. inr (record { far = refl; by = refl; no_nearer = λ a b. absurd (omega (arith, h.before y l)) });
    rest = λ j _. (refl, refl);
  }
    where
      later : (y : ℕ) → z ≤ y → y ≤ left → f.due ≤ el list y
      later y a b = elim (eq? y left) [
        | inl last ↦ omega (arith, ap (el list) last, c.shape.ends, c.by_target)
        | inr less ↦ elim (eq? y z) [
          | inl first ↦ rw first (h.there (omega arith))
          | inr more ↦ omega (arith, h.there (omega arith), c.shape.rising z y (omega arith) b)
        ]
      ]

module _ {f : Flight} {o : Origin} {prices list dist₀ dist via₀ via : List ℕ} {left target due last goal z : ℕ}
    (s : Offering f o prices list dist₀ dist via₀ via left target due last goal z) where
  -- what stands at place z or behind it is as it was
  as_was : (y : ℕ) → z ≤ y → y ≤ left → (away dist (el list y) ≡ away dist₀ (el list y)) × (el via (el list y) ≡ el via₀ (el list y))
  as_was y a b = s.rest (el list y) (λ x c. list_apart s.can.shape x y (omega arith) b (omega arith))

  -- and stays so, where no offer to it is nearer than the goal
  stop : ((y : ℕ) → z ≤ y → y ≤ left → f.due ≤ el list y → el list y ≤ offers_to f target → away dist₀ target + o.base ≤ o.from + pays f prices (el list y))
      → Offers f o prices list dist₀ dist via₀ via left target
  stop none = record {
    listed = λ y l. elim (lt? y z) [
      | inl b ↦ s.done y b
      | inr b ↦ inr (record { far = (as_was y b l).0; by = (as_was y b l).1; no_nearer = λ a e. omega (arith, none y b l a e) })
    ];
    others = λ j out. s.rest j (λ y b. out y (omega (arith, s.upto)));
  }

  -- the period at place z
  module _ {at : ℕ} (at-is : at ≡ get_or list z 0) where
    rises : (y : ℕ) → z ≤ y → y ≤ left → at ≤ el list y
    rises y a b = elim (eq? y z) [ inl e ↦ rw e (omega arith) | inr e ↦ omega (arith, s.can.shape.rising z y (omega arith) b) ]

    pub offering_beyond : last < at → Offers f o prices list dist₀ dist via₀ via left target
    offering_beyond b = stop (λ y a l e g. absurd (omega (arith, s.last_is, rises y a l)))

    here_was : (away dist at ≡ away dist₀ at) × (el via at ≡ el via₀ at)
    here_was = rw at-is (as_was z (omega arith) s.upto)

    pub offering_from : due ≤ at
    offering_from = rw at-is (s.later z (omega arith) s.upto)

    module _ (to : at ≤ last) where
      due_by_lem : f.due ≤ at
      due_by_lem = omega (arith, s.due_is, offering_from)

      to_target : at ≤ target
      to_target = rw at-is (list_to s.can.shape z s.upto)

      in_window : at ≤ offers_to f target
      in_window = omega (arith, s.last_is, to_target)

      fair : (o.base ≤ o.from + pays f prices at) × (pays f prices at ≤ dearest)
      fair = rw at-is (s.can.fair z s.upto (rw at-is at due_by_lem) (rw at-is at in_window))

      pub offering_room : (at < length dist) × (at < length via) × (at < period_row) × (at - due < 2 ^ 32)
      offering_room = omega (arith, to_target, s.can.within, s.can.dists, s.can.vias, s.same_d, s.same_v)

      module _ {r : ℕ} (r-is : r ≡ hold_cost f (at - due)) where
        cost_is : r ≡ hold_cost f (at - f.due)
        cost_is = rw s.due_is at r-is

        pub offering_reach : o.from + r ≤ (period_row + 1) * dearest
        offering_reach = omega (arith, cost_is, fair, s.can.low)

        -- costs rise
        pub offering_stop : goal ≤ o.from + r → Offers f o prices list dist₀ dist via₀ via left target
        offering_stop h =
            stop (λ y a b c e. omega (arith, s.goal_is, cost_is, hold_rises f (at - f.due) (el list y - f.due) (omega (arith, rises y a b))))

        module _ {q : ℕ} (q-is : q ≡ of_period prices at) where
          pub offering_small : (o.base ≤ (o.from + r) + q) × ((o.from + r) + q ≤ (period_row + 1) * dearest)
          offering_small = omega (arith, cost_is, q-is, fair, s.can.low)

          -- period `at` is heard
          module _ {dist₂ via₂ : List ℕ} {v : ℕ} (v-is : v ≡ ((o.from + r) + q) - o.base) (h : Nearer dist dist₂ via via₂ at v o.who) where
            sizes : (length dist₂ ≡ length dist) × (length via₂ ≡ length via)
            sizes = elim h.cases [
              | inl a ↦ rw (a.1, a.2) (length-set dist at v, length-set via at o.who)
              | inr a ↦ rw (a.1, a.2) (refl, refl)
            ]

            heard : Heard f o prices target dist₀ dist₂ via₀ via₂ at
            heard = elim h.cases [
              | inl a ↦ rw (a.1, a.2) (inl (record {
                from_lo = due_by_lem;
                to_hi = in_window;
                less = omega (arith, a.0, here_was.0, v-is, cost_is, q-is, offering_small);
                far = omega (arith, (away_moved dist at v offering_room.0).here, v-is, cost_is, q-is, offering_small);
                by = (set_moved via at o.who offering_room.1).here;
              }))
              | inr a ↦ rw (a.1, a.2) (inr (record {
                far = here_was.0;
                by = here_was.1;
                no_nearer = λ _ _. omega (arith, a.0, here_was.0, v-is, cost_is, q-is, offering_small);
              }))
            ]

            elsewhere : (j : ℕ) → j ≢ at → (away dist₂ j ≡ away dist j) × (el via₂ j ≡ el via j)
            elsewhere j e = elim h.cases [
              | inl a ↦ rw (a.1, a.2) ((away_moved dist at v offering_room.0).others j e, (set_moved via at o.who offering_room.1).others j e)
              | inr a ↦ rw (a.1, a.2) (refl, refl)
            ]

            -- the places before stay as they are
            before : (y : ℕ) → y < z → Heard f o prices target dist₀ dist₂ via₀ via₂ (el list y)
            before y b =
                let same = elsewhere (el list y) (λ e. list_apart s.can.shape y z (omega (arith, s.upto)) s.upto (omega arith) (e ∙ at-is)) in
                elim (s.done y b) [
                  | inl t ↦ inl (record { from_lo = t.from_lo; to_hi = t.to_hi; less = t.less; far = rw same.0 t.far; by = same.1 ∙ t.by })
                  | inr k ↦ inr (record { far = same.0 ∙ k.far; by = same.1 ∙ k.by; no_nearer = k.no_nearer })
                ]

            up_to : (y : ℕ) → y < z + 1 → Heard f o prices target dist₀ dist₂ via₀ via₂ (el list y)
            up_to y b = elim (eq? y z) [ inl e ↦ rw (e, ← at-is) heard | inr e ↦ before y (omega arith) ]

            behind : (j : ℕ) → ((y : ℕ) → y < z + 1 → el list y ≢ j) → (away dist₂ j ≡ away dist₀ j) × (el via₂ j ≡ el via₀ j)
            behind j a =
                let same = elsewhere j (λ e. a z (omega arith) (sym (e ∙ at-is))) in
                let was = s.rest j (λ y b. a y (omega arith)) in
                (same.0 ∙ was.0, same.1 ∙ was.1)

            pub offering_next : z < left → Offering f o prices list dist₀ dist₂ via₀ via₂ left target due last goal (z + 1)
            offering_next l = record {
              can = s.can;
              due_is = s.due_is;
              last_is = s.last_is;
              goal_is = s.goal_is;
              upto = omega arith;
              later = λ y a b. s.later y (omega arith) b;
              same_d = sizes.0 ∙ s.same_d;
              same_v = sizes.1 ∙ s.same_v;
              done = up_to;
              rest = behind;
            }

            -- the target stands last
            pub offering_last : z ≡ left → Offers f o prices list dist₀ dist₂ via₀ via₂ left target
            offering_last e = record { listed = λ y l. up_to y (omega arith); others = λ j a. behind j (λ y b. a y (omega arith)) }

      -- a period before the target has its price in the row
      pub offering_price : z < left → (1 ≤ at) × (at - 1 < length prices)
      offering_price b =
          let less : at < target = rw at-is (list_before s.can.shape z b) in
          omega (arith, due_by_lem, s.can.from_due, s.can.prices_row, s.can.within)

      pub price_is : {q : ℕ} → q ≡ get_or prices (at - 1) 0 → q ≡ of_period prices at
      price_is e = e ∙ sym (period_in prices at (λ g. omega (arith, due_by_lem, s.can.from_due)))

  module _ (e : z ≡ left) where
    pub target_at : target ≡ get_or list z 0
    target_at = sym (ap (el list) e ∙ s.can.shape.ends)

    pub target_free : 0 ≡ of_period prices target
    target_free = sym s.can.free
