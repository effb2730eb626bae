-- The steps of the search: it starts with what the new flight offers, reaches the nearest period, hears the flights that land there, and ends
-- at the target. Where the target were far, a stretch before it would be short.
-- Assumes nothing.
use mathlib.Core.Path.{◌≡◌, refl, ap, ◌∙◌}
use mathlib.Core.Logic.{◌⊎◌, inl, inr, ◌≢◌}
use mathlib.Core.Bool.{Bool, ◌&&◌, ◌||◌}
use mathlib.Core.List.{List}
use Prim.Native.Nat.{ℕ, ◌+◌, ◌*◌, ◌≤◌, ◌<◌}
use native.Mathlib.Omega.{arith}
use lib.Dec.{T, leb, ltb, eqb, leb→le, le→leb, ltb→lt, lt→ltb, eqb→eq, eqb_refl}
use lib.ListN.{length, set, length-set}
use Rattle.assignment.specs.Assignment.{Instance, In}
use Rattle.assignment.specs.Rows.{el}
use Rattle.assignment.specs.Moves.{Moved}
use Rattle.assignment.specs.Search.{Took, Offered}
use Rattle.assignment.proofs.Tests.{eq?, lt?, gate_eq, gate_ne, and_t, T_and, or_t, T-or-l, T-or-r}
use Rattle.assignment.proofs.Sums.{count_move, count_member, count_all}
use Rattle.assignment.proofs.Closed.{lands_open}
use Rattle.assignment.proofs.Near.{near_start, near_reach, near_pass, near_offer, offer_kept, offer_falls}
use Rattle.assignment.proofs.Stuck.{Stuck, stuck_is_short}
use Rattle.assignment.proofs.Rows.{set_moved}
use Rattle.day.specs.Day.{period_row}
use Rattle.path.specs.Path.{far, away, dearest, InList, Scene, Search, Around, CanNear, Nearest, Searched}

-- ---- the start

module _ {d : Instance} {x p : ℕ → ℕ} {target : ℕ} (dist₀ dist turn via₀ via : List ℕ) {hi : ℕ} (scene : Scene d x p target) (to : hi ≡ d.hi d.n)
    (dists : length dist ≡ period_row) (vias : length via ≡ period_row)
    (far-first : (k : ℕ) → away dist₀ k ≡ far) (fresh : (k : ℕ) → el turn k ≡ 0) (turns : length turn ≡ period_row)
    (o : Offered (d.lo d.n) hi (λ k. d.cost d.n k + p k) d.n 0 0 (away dist₀ target) (away dist₀) (away dist) (el via₀) (el via)) where
  fits : (k : ℕ) → d.lo d.n ≤ k → k ≤ hi → In d d.n k
  fits k a b = record { from = a; to = omega arith }

  small : (k : ℕ) → In d d.n k → 0 < d.cap k → d.cost d.n k + p k ≤ dearest
  small k w some = scene.pays d.n k (omega arith) w some

  -- an open period of the window is no longer far
  heard : (k : ℕ) → In d d.n k → 0 < d.cap k → (away dist k ≡ d.cost d.n k + p k) × (el via k ≡ d.n)
  heard k w some = elim (o k) [
    | inl c ↦ (omega (arith, c.far), c.by)
    | inr e ↦ absurd (omega (arith, e.no_nearer w.from (omega (arith, w.to)), small k w some, far-first k, far-first target))
  ]

  most : (k : ℕ) → away dist k ≤ far
  most k = elim (o k) [
    | inl c ↦ omega (arith, c.less, c.far, far-first k)
    | inr e ↦ omega (arith, e.far, far-first k)
  ]

  -- what is near was heard, and is open
  near_open : (k : ℕ) → away dist k < far → 0 < d.cap k
  near_open k near = elim (eq? (d.cap k) 0) [
    | inr some ↦ omega arith
    | inl none ↦ absurd (elim (o k) [
      | inl c ↦ omega (arith, c.far, scene.shut d.n k none)
      | inr e ↦ omega (arith, e.far, far-first k)
    ])
  ]

  near_in : (k : ℕ) → away dist k < far → In d d.n k
  near_in k near = elim (o k) [
    | inl c ↦ fits k c.from_lo c.to_hi
    | inr e ↦ absurd (omega (arith, e.far, far-first k))
  ]

  pub search_start : Search d x p target dist turn via 0 0
  search_start = record {
    rows = record { dists = dists; turns = turns; vias = vias };
    root = away dist;
    rooted = λ k near. let w = near_in k near in (w, (heard k w (near_open k near)).0);
    reach = λ k w. elim (eq? (d.cap k) 0) [
      | inl none ↦ omega (arith, most k, scene.shut d.n k none)
      | inr some ↦ omega (arith, (heard k w (omega arith)).0)
    ];
    near = near_start (record { window = scene.sound.accepted.legal.window; best = scene.sound.accepted.best }) (λ _. refl)
        (λ k w pays. elim (eq? (d.cap k) 0) [
          | inl none ↦ absurd (omega (arith, most k, pays, scene.shut d.n k none))
          | inr some ↦ (heard k w (omega arith)).1
        ]) fresh;
    most = most;
    inside = λ k near.
        let w = near_in k near in
        let some = near_open k near in
        omega (arith, w.from, w.to, scene.ceiling d.n (omega arith) scene.before, (heard k w some).0, small k w some, some);
    reached = λ k some. absurd (omega (arith, fresh k));
    zeros = omega (arith, count_all period_row 0 (el turn) fresh);
  }

-- ---- a period is reached

module _ {d : Instance} {x p : ℕ → ℕ} {target : ℕ} {dist turn via : List ℕ} {t : ℕ} (s : Search d x p target dist turn via t 0)
    (scene : Scene d x p target) where
  pub search_near : {list : List ℕ} {left level : ℕ} → InList list left target → ((y : ℕ) → y ≤ left → level ≤ away dist (el list y))
      → CanNear dist list left target level
  search_near o low = record { dists = s.rows.dists; shape = o; within = omega (arith, scene.within, scene.periods); low = low }

  module _ {first k : ℕ} (first-is : first ≡ d.lo d.n) (a : Nearest d.cap dist turn first target k) where
    -- nothing that is not reached is nearer
    nearest_least : (j : ℕ) → el turn j ≡ 0 → away dist k ≤ away dist j
    nearest_least j none = elim (lt? (away dist j) far) [
      | inr out ↦ omega (arith, a.target_least, s.most target)
      | inl near ↦ elim (eq? j target) [
        | inl e ↦ rw e a.target_least
        | inr e ↦ a.least j (omega (arith, s.inside j near)) (omega (arith, s.inside j near)) (s.inside j near).3 none
      ]
    ]

    module _ (e : k ≢ target) where
      pub reach_in : (k < target) × (k < period_row) × (t < period_row) × (k < length turn) × (away dist k ≤ period_row * dearest)
      reach_in =
          let b : k < period_row = omega (arith, a.to, scene.within, scene.periods) in
          let c : t < period_row = omega (arith, s.zeros, count_member period_row k 0 (el turn) b (a.fresh e)) in
          omega (arith, a.to, s.rows.turns, s.inside k (a.near e))

      pub reach_next : Around d x p target dist (set turn k (t + 1)) via (t + 1) k d.n
      reach_next = record {
        so_far = record {
          rows = record { dists = s.rows.dists; turns = length-set turn k (t + 1) ∙ s.rows.turns; vias = s.rows.vias };
          root = s.root;
          rooted = s.rooted;
          reach = s.reach;
          near = near_reach s.near refl (a.fresh e) nearest_least v;
          most = s.most;
          inside = λ j near. let b = s.inside j near in omega (arith, b);
          reached = λ j some. elim (eq? j k) [
            | inl f ↦ rw f (omega (arith, reach_in.0, a.from, s.inside k (a.near e)))
            | inr f ↦ omega (arith, s.reached j (omega (arith, v.others j f)))
          ];
          zeros = omega (
            arith,
            s.zeros,
            count_move period_row k (el turn) (el (set turn k (t + 1))) reach_in.1 (λ j _ f. v.others j f) 0,
            gate_eq (el turn k) 0 1 (a.fresh e),
            gate_ne (el (set turn k (t + 1)) k) 0 1 (omega (arith, v.here)),
          );
        };
        some = omega arith;
        here = v.here;
        only = λ j f. elim (eq? j k) [ inl g ↦ g | inr g ↦ absurd (omega (arith, v.others j g, s.near.top j)) ];
      }
        where
          v : Moved (el turn) (el (set turn k (t + 1))) k (t + 1)
          v = set_moved turn k (t + 1) reach_in.3

    -- ---- the end

    module _ (e : k ≡ target) where
      least : (j : ℕ) → el turn j ≡ 0 → away dist target ≤ away dist j
      least j none = rw e at (nearest_least j none)

      -- reached, or closed
      r : ℕ → Bool
      r j = ltb 0 (el turn j) || (eqb (d.cap j) 0 && (leb (d.lo d.n) j && ltb j target))

      reached_in : (j : ℕ) → 0 < el turn j → T (r j)
      unfolding r
      reached_in j some = T-or-l (ltb 0 (el turn j)) _ (lt→ltb 0 (el turn j) some)

      closed_in : (j : ℕ) → d.cap j ≡ 0 → d.lo d.n ≤ j → j < target → T (r j)
      unfolding r
      closed_in j none a b = T-or-r (ltb 0 (el turn j)) _
          (T_and (eqb (d.cap j) 0) _ (rw none (eqb_refl 0)) (T_and (leb (d.lo d.n) j) _ (le→leb (d.lo d.n) j a) (lt→ltb j target b)))

      -- both lie before the target and are full
      in_range : (j : ℕ) → T (r j) → (d.lo d.n ≤ j) × (j < target) × ((0 < el turn j) ⊎ (d.cap j ≡ 0))
      unfolding r
      in_range j t = elim (or_t (ltb 0 (el turn j)) _ t) [
        | inl some ↦ let b = s.reached j (ltb→lt 0 (el turn j) some) in (b.0, b.1, inl (ltb→lt 0 (el turn j) some))
        | inr shut ↦
            let c = and_t (eqb (d.cap j) 0) _ shut in
            let b = and_t (leb (d.lo d.n) j) _ c.1 in
            (leb→le (d.lo d.n) j b.0, ltb→lt j target b.1, inr (eqb→eq (d.cap j) 0 c.0))
      ]

      -- with the target far, whatever of a window is open and near is reached
      in_window : far ≤ away dist target → (i j : ℕ) → i ≤ d.n → In d i j → d.lo i ≤ target → (0 < d.cap j → away dist j < far) → T (r j)
      in_window out i j l w low near = elim (eq? (d.cap j) 0) [
        | inl none ↦ closed_in j none (omega (arith, w.from, floor)) (before none)
        | inr some ↦ elim (lt? 0 (el turn j)) [
          | inl done ↦ reached_in j done
          | inr fresh ↦ absurd (omega (arith, least j (omega arith), near (omega arith)))
        ]
      ]
        where
          floor : d.lo d.n ≤ d.lo i
          floor = elim (eq? i d.n) [ inl e ↦ rw e (omega arith) | inr e ↦ scene.floor i (omega arith) ]

          before : d.cap j ≡ 0 → j < target
          before none = elim (eq? j target) [
            | inl e ↦ absurd (omega (arith, scene.free, ap d.cap e))
            | inr e ↦ omega (arith, w.to, scene.ceiling i l low)
          ]

      stuck : far ≤ away dist target → Stuck d x r
      stuck out = record {
        window = scene.sound.accepted.legal.window;
        within = λ j t. omega (arith, in_range j t, scene.from, scene.within);
        full = λ j t. let b = in_range j t in scene.full j b.0 b.1;
        closed = λ i j l t w.
            let b = in_range (x i) t in
            let low = (scene.sound.accepted.legal.window i l).from in
            elim b.2 [
              | inr none ↦ absurd (omega (arith, none, lands_open scene.sound.accepted.legal i l))
              | inl some ↦ in_window out i j (omega arith) w (omega (arith, low, b.1)) (λ open-j. omega (
                arith,
                out,
                s.near.near i j l w some (inr (omega arith)),
                s.reached (x i) some,
                scene.pays i j (omega arith) w open-j,
                s.zeros,
              ))
            ];
        new = λ j w. in_window out d.n j (omega arith) w scene.before
            (λ open-j. omega (arith, s.near.low j, s.reach j w, scene.pays d.n j (omega arith) w open-j));
        some = scene.some;
      }

      not_far : away dist target < far
      not_far = elim (lt? (away dist target) far) [
        | inl near ↦ near
        | inr out ↦
            let h = stuck_is_short (stuck out) in
            let last = in_range h.b (h.inside h.b h.stretch (omega arith)) in
            absurd (scene.none_short h.a h.b h.from h.stretch last.1 h.short)
      ]

      pub search_end : Searched d x p target dist via
      search_end = record { turn = turn; t = t; so_far = s; least = least; near = not_far }

-- ---- the flights that land in the period reached last

module _ {d : Instance} {x p : ℕ → ℕ} {target : ℕ} {dist turn via : List ℕ} {t k m : ℕ} (s : Around d x p target dist turn via t k (m + 1)) where
  pub around_pass : x m ≢ k → Around d x p target dist turn via t k m
  around_pass e = record {
    so_far = record {
      rows = s.so_far.rows;
      root = s.so_far.root;
      rooted = s.so_far.rooted;
      reach = s.so_far.reach;
      near = near_pass s.so_far.near (λ f. e (s.only (x m) f));
      most = s.so_far.most;
      inside = s.so_far.inside;
      reached = s.so_far.reached;
      zeros = s.so_far.zeros;
    };
    some = s.some;
    here = s.here;
    only = s.only;
  }

  module _ (dist₂ via₂ : List ℕ) {hi from base : ℕ} (scene : Scene d x p target) (l : m < d.n) (lands : x m ≡ k) (to : hi ≡ d.hi m)
      (from_is : from ≡ away dist k) (base_is : base ≡ d.cost m k + p k) (dists : length dist₂ ≡ length dist) (vias : length via₂ ≡ length via)
      (o : Offered (d.lo m) hi (λ k. d.cost m k + p k) m from base (away dist target) (away dist) (away dist₂) (el via) (el via₂)) where
    here : el turn (x m) ≡ t
    here = rw lands s.here

    from_x : from ≡ away dist (x m)
    from_x = rw lands from_is

    base_x : base ≡ d.cost m (x m) + p (x m)
    base_x = rw lands base_is

    kept : (j : ℕ) → 0 < el turn j → away dist₂ j ≡ away dist j
    kept j q = offer_kept s.so_far.near l s.some here to from_x base_x o j q

    pub around_kept : away dist₂ k ≡ away dist k
    around_kept = kept k (omega (arith, s.here, s.some))

    at_home : (d.lo m ≤ k) × (k < target)
    at_home = (rw lands at (scene.sound.accepted.legal.window m l).from, (s.so_far.reached k (omega (arith, s.here, s.some))).1)

    -- nobody goes to a closed period
    taken_open : (j : ℕ) → Took (d.lo m) hi (λ k. d.cost m k + p k) m from base (away dist) (away dist₂) (el via₂) j → 0 < d.cap j
    taken_open j c = elim (eq? (d.cap j) 0) [
      | inr some ↦ omega arith
      | inl none ↦ absurd (omega (
        arith,
        c.less,
        scene.shut m j none,
        s.so_far.most j,
        base_x,
        scene.pays m (x m) (omega arith) (scene.sound.accepted.legal.window m l) (lands_open scene.sound.accepted.legal m l),
      ))
    ]

    pub around_offered : Around d x p target dist₂ turn via₂ t k m
    around_offered = record {
      so_far = record {
        rows = record { dists = dists ∙ s.so_far.rows.dists; turns = s.so_far.rows.turns; vias = vias ∙ s.so_far.rows.vias };
        root = s.so_far.root;
        rooted = s.so_far.rooted;
        reach = s.so_far.reach;
        near = near_offer s.so_far.near l s.some here to from_x base_x o;
        most = λ j. omega (arith, offer_falls s.so_far.near l s.some here to from_x base_x o j, s.so_far.most j);
        inside = λ j near. elim (o j) [
          | inr f ↦ let b = s.so_far.inside j (omega (arith, f.far)) in omega (arith, f.far, b)
          | inl c ↦ let some = taken_open j c in omega (
            arith,
            c.from_lo,
            c.to_hi,
            to,
            scene.floor m l,
            scene.ceiling m (omega arith) (omega (arith, at_home)),
            c.far,
            scene.pays m j (omega arith) (record { from = c.from_lo; to = omega (arith, c.to_hi) }) some,
            some,
            from_is,
            s.so_far.reached k (omega (arith, s.here, s.some)),
          )
        ];
        reached = λ j some. omega (arith, kept j some, s.so_far.reached j some);
        zeros = s.so_far.zeros;
      };
      some = s.some;
      here = s.here;
      only = s.only;
    }
