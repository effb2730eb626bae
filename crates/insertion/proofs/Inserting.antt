-- The steps of `insert`.
-- Assumes nothing.
use mathlib.Core.Path.{◌≡◌, refl, sym, ap, ◌∙◌}
use mathlib.Core.Logic.{◌⊎◌, inl, inr, ◌≢◌}
use mathlib.Core.List.{List}
use Prim.Native.Nat.{ℕ, suc, ◌+◌, ◌-◌, ◌≤◌, ◌<◌}
use native.Mathlib.Omega.{arith}
use lib.ListN.{get_or, length, set, length-set}
use Rattle.assignment.specs.Sum.{count}
use Rattle.assignment.specs.Assignment as A
use Rattle.assignment.specs.Assignment.{In}
use Rattle.assignment.specs.Rows.{el}
use Rattle.assignment.specs.Moves.{Moved}
use Rattle.assignment.specs.Instances.{opened, ordered, until_le, restricted}
use Rattle.assignment.specs.Search.{Step}
use Rattle.assignment.specs.Insertion.{Sound}
use Rattle.assignment.proofs.Tests.{eq?, lt?}
use Rattle.assignment.proofs.Sums.{sum_most, count_le}
use Rattle.assignment.proofs.Moves.{put_moved}
use Rattle.assignment.proofs.Insertion.{Found, going, ground, order as reach-order, z_free, going_end, going_total}
use Rattle.assignment.proofs.Saving.{price_le}
use Rattle.assignment.proofs.Closed.{open_cost, shut_cost, opened_short, lands_open}
use Rattle.assignment.proofs.Permuted.{permuted_short, reordered_sound, reordered_total}
use Rattle.assignment.proofs.Restricted.{Rising, until_near, restrict, widen, widen_short}
use Rattle.assignment.proofs.Rows.{set_moved}
use Rattle.day.specs.Day.{Day, P, N, most_flights, period_row, of_period, unlimited, takes_of, takes, due, cost, last_of, last}
use Rattle.day.specs.Instance.{instance, last_to}
use Rattle.day.proofs.Costs.{takes_closing, counted_from, due_latest, cost_grows}
use Rattle.day.proofs.Instance.{cost_le, instance_short}
use Rattle.path.specs.Path.{far, away, dear, begun, scope, landing, Table, Scene, Searched, CanSearchSome, SearchedAll}
use Rattle.path.proofs.Rows.{as_read}
use Rattle.insertion.specs.Insertion.{Placed, Kept, cost_of_placed, Added, CanFind, FirstRoom, Linked, CanWalk, Arrived, Walked, CanForget, Forgotten, CanRaise, Raised, Inserted}
use Rattle.insertion.proofs.Steps.{added_chained, added_loads}

-- ---- the numbers of a day

due_last : (d : Day) (i : ℕ) → due d i ≤ P d → due d i ≤ last d i
unfolding last_of
due_last d i l = omega (arith, due_latest d i l)

-- a restriction changes no cost
same_total : (d : A.Instance) (target : ℕ) (x : ℕ → ℕ) → A.total (restricted d target) x ≡ A.total d x
unfolding A.total
same_total d target x = refl

module _ {d : Day} {places : List ℕ} (t : Table d places) where
  in_table : (s : ℕ) → s < N d → el places s < N d
  in_table s l = t.permuted.below s l

  place_cost : (s k : ℕ) → s < N d → k ≤ last d (el places s) → cost d (el places s) (k - due d (el places s)) ≤ 1960000
  place_cost s k l to = cost_le t.valid (el places s) (k - due d (el places s)) (in_table s l) (omega (
    arith,
    last_to d (el places s),
    (t.valid.flight (el places s) (in_table s l)).due_from,
    t.valid.periods_to,
  ))

  pub rising : (n : ℕ) → n ≤ N d → Rising (begun d places n)
  rising n l = record {
    dearer = λ s j k b v w some less. omega (
      arith,
      open_cost (instance d) dear (el places s) j some,
      cost_grows d (el places s) (j - due d (el places s)) (k - due d (el places s))
          (t.valid.flight (el places s) (in_table s (omega arith))).rate_from (omega (arith, v.from)),
    );
  }

  -- "never above 250,880,000"
  pub sound_total : {n : ℕ} {x q : ℕ → ℕ} → n ≤ N d → Sound (begun d places n) x q → A.total (begun d places n) x ≤ 250880000
  unfolding A.total
  sound_total {n} {x} upto sound = omega (
    arith,
    t.valid.flights_to,
    sum_most n 1960000 (λ o. (begun d places n).cost o (x o)) (λ o l. omega (
      arith,
      open_cost (instance d) dear (el places o) (x o) (lands_open sound.accepted.legal o l),
      place_cost o (x o) (omega arith) (sound.accepted.legal.window o l).to,
    )),
  )

module _ {d : Day} {places holds prices : List ℕ} {n : ℕ} (s : Placed d places holds prices n) where
  pub placed_total : cost_of_placed d places holds n ≤ 250880000
  placed_total = sound_total s.table s.upto s.sound

  placed_low : (k : ℕ) → of_period prices k ≤ 250880000
  placed_low k = omega (arith, placed_total, price_le s.sound k)

  -- what a period takes without a closing line is what it takes on this day
  without_line_lem : (k : ℕ) → takes_of d.capacities unlimited k ≡ takes d k
  without_line_lem k = ap (λ c. takes_of d.capacities c k) (sym s.no_line)

  module _ {loads links dist₀ via₀ : List ℕ} (kept : Kept d places holds loads links dist₀ via₀ n)
      (l : n < N d) where
    pub insert_room : (n < length places) × (n < most_flights)
    insert_room = omega (arith, s.table.row, s.table.valid.flights_to)

    module _ {i : ℕ} (i-is : i ≡ get_or places n 0) where
      module _ {first : ℕ} (first-is : first ≡ due d i) where
        first_at : first ≡ due d (get_or places n 0)
        first_at = rw i-is at first-is

        pub insert_find : CanFind d.capacities loads first
        insert_find =
            let f = s.table.valid.flight (el places n) (in_table s.table n l) in
            record {
              few = s.table.valid.periods_to;
              rows = kept.loads_row;
              from = omega (arith, first_at, f.due_from);
              to = omega (arith, first_at, f.due_to);
              closing = omega (
                arith,
                takes_closing d.capacities unlimited,
                kept.loads_are (P d + 1) (omega (arith, s.table.valid.periods_to)),
                count_le n (landing d.flights places holds) (P d + 1),
                insert_room,
              );
            }

        module _ {target : ℕ} (room : FirstRoom d.capacities loads first target) where
          pub insert_within : target < period_row
          insert_within = omega (arith, room.to, s.table.valid.periods_to)

          free : count n (landing d.flights places holds) target < takes d target
          free = omega (arith, room.free, without_line_lem target, kept.loads_are target insert_within)

          pub insert_scene : Scene (scope d places n target) (landing d.flights places holds) (of_period prices) target
          insert_scene =
              let near : due d (el places n) ≤ target = omega (arith, first_at, room.from) in
              let f = s.table.valid.flight (el places n) (in_table s.table n l) in
              record {
                sound = restrict (begun d places n) target (rising s.table n s.upto) (omega (arith, free)) (s.sound.accepted.unsold target free) s.sound;
                periods = omega (arith, s.table.valid.periods_to);
                pays = λ o k b w some. omega (
                  arith,
                  open_cost (instance d) dear (el places o) k some,
                  place_cost s.table o k (omega arith) (omega (arith, w.to, until_le target (due d (el places o)) (last d (el places o)))),
                  placed_low k,
                );
                shut = λ o k none. shut_cost (instance d) dear (el places o) k none;
                floor = λ o b. s.falling o n (omega arith) (omega arith) l;
                ceiling = λ o b low. omega (arith, until_near (last d (el places o)) low);
                from = f.due_from;
                some = omega (arith, until_near (last d (el places n)) near, due_last d (el places n) f.due_to, first_at, room.from);
                before = near;
                within = omega (arith, room.to);
                full = λ k a b. omega (
                  arith,
                  room.full k (omega (arith, first_at)) b,
                  without_line_lem k,
                  kept.loads_are k (omega (arith, insert_within)),
                );
                free = free;
                none_short = λ a b from stretch less short. s.none_short a b (instance_short d a b from stretch
                    (omega (arith, room.to, counted_from (P d) d.closing))
                    (permuted_short (instance d) s.table.permuted l
                    (opened_short (ordered (instance d) (el places) (suc n)) dear (widen_short (begun d places (suc n)) target less short))));
              }

          pub insert_search : CanSearchSome d places links prices dist₀ via₀ n target
          insert_search = record {
            x = landing d.flights places holds;
            can = record {
              ready = record {
                table = s.table;
                scene = insert_scene;
                upto = l;
                chained = kept.chained;
                prices_row = omega (arith, s.prices_row, room.to);
              };
              dists = kept.dists;
              vias = kept.vias;
              all_far = kept.all_far;
            };
          }

          module _ {dist via : List ℕ} (all : SearchedAll d places links prices dist₀ dist via₀ via n target) where
            h : Searched (scope d places n target) (landing d.flights places holds) (of_period prices) target dist via
            unfolding insert_search
            h = all (landing d.flights places holds) insert_search.can

            abbrev turn : List ℕ
            turn = h.turn

            -- the target is reached last
            abbrev last_turn : List ℕ
            last_turn = set turn target (period_row + 1)

            reached_last : Moved (el turn) (el last_turn) target (period_row + 1)
            reached_last = set_moved turn target (period_row + 1) (omega (arith, insert_within, h.so_far.rows.turns))

            fresh : el turn target ≡ 0
            fresh = elim (lt? 0 (el turn target)) [ inl some ↦ absurd (omega (arith, h.so_far.reached target some)) | inr e ↦ omega arith ]

            pub insert_rows : (target < length dist) × (target < period_row)
            insert_rows = omega (arith, insert_within, h.so_far.rows.dists)

            found : Found (scope d places n target) (landing d.flights places holds) (of_period prices) h.so_far.root (away dist) (el turn) (el via) h.t (away dist target) target
            found = record {
              near = h.so_far.near;
              fresh = fresh;
              here = refl;
              least = h.least;
              free = free;
              full = λ k some. let b = h.so_far.reached k some in insert_scene.full k b.0 b.1;
              rooted = λ k low. h.so_far.rooted k (omega (arith, h.near));
              reach = h.so_far.reach;
            }

            pub insert_walk : CanWalk d.flights places holds via n target
            insert_walk = record {
              once = record { whole = s.table.valid.whole; few = s.table.valid.flights_to; row = s.table.row; permuted = s.table.permuted };
              upto = l;
              holds_row = s.holds_row;
              vias = h.so_far.rows.vias;
              within = insert_within;
              turn = last_turn;
              some = omega (arith, v.here);
              latest = omega (arith, v.here);
              chain = λ k b some low. linked k some (h.so_far.near.how k);
            }
              where
                v : Moved (el turn) (el last_turn) target (period_row + 1)
                v = reached_last

                k_in : (k : ℕ) → 0 < el last_turn k → (k ≤ P d + 1) × (away dist k < far)
                k_in k some = elim (eq? k target) [
                  | inl e ↦ rw e (room.to, h.near)
                  | inr e ↦
                      let at = h.so_far.reached k (omega (arith, v.others k e)) in
                      (omega (arith, room.to, at.1), omega (arith, at.2, h.so_far.zeros))
                ]

                -- what the search reached from k keeps its turn
                linked : (k : ℕ) → 0 < el last_turn k
                    → ((away dist k ≡ h.so_far.root k)
                    × (In (scope d places n target) n k → h.so_far.root k ≡ (scope d places n target).cost n k + of_period prices k → el via k ≡ n))
                    ⊎ Step (scope d places n target) (landing d.flights places holds) (of_period prices) (away dist) (el turn) k (el via k)
                    → Linked d.flights places (landing d.flights places holds) last_turn via n k
                linked k some how = elim how [
                  | inl e ↦
                      let root = h.so_far.rooted k (omega (arith, e.0, (k_in k some).1)) in
                      let new = e.1 root.0 root.1 in
                      record { due_by_lem = rw new root.0.from; flight = inl new }
                  | inr a ↦
                      let other : landing d.flights places holds (el via k) ≢ target = λ f. omega (arith, a.from, fresh, ap (el turn) f) in
                      let same = v.others (landing d.flights places holds (el via k)) other in
                      let at = h.so_far.reached (landing d.flights places holds (el via k)) a.from in
                      record {
                        due_by_lem = a.fits.from;
                        flight = inr (record {
                          who = a.who;
                          in_day = omega (arith, at.1, insert_within);
                          some = omega (arith, same, a.from);
                          lower = elim (eq? k target) [
                            | inl e ↦ omega (arith, same, ap (el last_turn) e, v.here, h.so_far.near.top (landing d.flights places holds (el via k)), h.so_far.zeros)
                            | inr e ↦ omega (arith, same, v.others k e, a.lower (omega (arith, v.others k e)))
                          ];
                        });
                      }
                ]

            module _ {places₂ holds₂ : List ℕ} (w : Walked d.flights places places₂ holds holds₂ via n target) where
              f : Found (scope d places n target) (landing d.flights places holds) (of_period prices) h.so_far.root (away dist) (el turn) (el via) h.t (away dist target) target
              f = found

              narrow : Sound (scope d places n target) (landing d.flights places holds) (of_period prices)
              narrow = insert_scene.sound

              -- whatever prices are higher by what their periods are nearer than the target
              module _ {q : ℕ → ℕ} (rise : (k : ℕ) → q k ≡ of_period prices k + (away dist target - away dist k)) where
                arrived : Arrived (scope d places n target) (landing d.flights places holds) w.y q (reach-order f narrow rise) (el via) (away dist target) target
                arrived = w.keeps (scope d places n target) q (reach-order f narrow rise) (away dist target) refl (going f narrow rise)

                whole : Sound (begun d places (suc n)) w.y q
                whole = widen (begun d places (suc n)) target (rising s.table (suc n) l) (omega (arith, free)) (z_free f narrow rise)
                    (going_end arrived.going (ground f narrow rise) arrived.new arrived.last)

                adds : A.total (begun d places (suc n)) w.y ≡ cost_of_placed d places holds n + away dist target
                adds = omega (
                  arith,
                  same_total (begun d places (suc n)) target w.y,
                  same_total (begun d places n) target (landing d.flights places holds),
                  going_total arrived.going (ground f narrow rise) arrived.new arrived.last (z_free f narrow rise),
                )

              -- outside the searched periods all is far
              outside : (k : ℕ) → (k < first) ⊎ (target < k) → away dist target ≤ away dist k
              outside k out = elim (lt? (away dist k) far) [
                | inr beyond ↦ omega (arith, h.near)
                | inl near ↦ absurd (elim out [
                  | inl a ↦ omega (arith, first_at, h.so_far.inside k near)
                  | inr a ↦ omega (arith, h.so_far.inside k near)
                ])
              ]

              -- no price of a sound plan is above its total, so that the raised ones fit
              pub insert_raise : CanRaise prices dist first target
              insert_raise = record {
                few = omega (arith, s.prices_row, s.table.valid.periods_to);
                dists = h.so_far.rows.dists;
                from = insert_find.from;
                to = omega (arith, room.to, s.prices_row);
                low = λ k. omega (arith, price_le (whole (λ j. refl)) k, sound_total s.table l (whole (λ j. refl)));
                before = λ k a. outside k (inl a);
                behind = λ k a. outside k (inr a);
              }

              module _ {prices₂ : List ℕ} (r : Raised prices prices₂ dist target) (Holds-same : length holds₂ ≡ length holds)
                  (prices-same : length prices₂ ≡ length prices) where
                next : suc n ≡ n + 1
                next = omega arith

                -- those that are not placed stand where they stood, and those that are were due no earlier
                falling : (o t : ℕ) → o ≤ t → n + 1 ≤ t → t < N d → due d (el places₂ t) ≤ due d (el places₂ o)
                falling o t le out b = elim (lt? n o) [
                  | inl c ↦ rw (w.beyond t (omega arith), w.beyond o c) (s.falling o t le (omega arith) b)
                  | inr c ↦
                      let low = w.permuted.below o (omega arith) in
                      rw (w.beyond t (omega arith), w.moved o (omega arith)) (s.falling (w.σ o) t (omega arith) (omega arith) b)
                ]

                pub insert_end : {added : ℕ} → added ≡ get_or dist target 0 → Inserted d places places₂ holds holds₂ prices₂ n added
                insert_end {added} e = record {
                  placed = record {
                    table = record { valid = s.table.valid; row = w.once.row; permuted = w.once.permuted };
                    no_line = s.no_line;
                    falling = falling;
                    none_short = s.none_short;
                    upto = omega arith;
                    holds_row = Holds-same ∙ s.holds_row;
                    prices_row = prices-same ∙ s.prices_row;
                    sound = rw next at (reordered_sound (opened (instance d) dear) (el places) (el places₂) w.y (landing d.flights places₂ holds₂) w.permuted w.moved w.lands_are (whole r.rise));
                  };
                  adds = rw next at added_up;
                }
                  where
                    added_up : cost_of_placed d places₂ holds₂ (suc n) ≡ cost_of_placed d places holds n + added
                    added_up = omega (
                      arith,
                      reordered_total (opened (instance d) dear) (el places) (el places₂) w.y (landing d.flights places₂ holds₂) w.permuted w.moved w.lands_are,
                      adds r.rise,
                      as_read dist target insert_rows.0,
                    )

              -- ---- what is kept

              pub insert_forget : CanForget dist first target
              insert_forget = record { dists = h.so_far.rows.dists; within = insert_within; outside = far_out }
                where
                  far_out : (k : ℕ) → (k < first) ⊎ (target < k) → away dist k ≡ far
                  far_out k out = elim (lt? (away dist k) far) [
                    | inr beyond ↦ omega (arith, h.so_far.most k)
                    | inl near ↦ absurd (elim out [
                      | inl a ↦ omega (arith, first_at, h.so_far.inside k near)
                      | inr a ↦ omega (arith, h.so_far.inside k near)
                    ])
                  ]

              pub insert_add : (target < length loads) × (period_row + n < length links) × (target < period_row) × (n < most_flights) × (el loads target ≤ most_flights)
              insert_add = omega (
                arith,
                insert_within,
                insert_room,
                kept.loads_row,
                kept.chained.row,
                kept.loads_are target insert_within,
                count_le n (landing d.flights places holds) target,
              )

              module _ {loads₂ links₂ dist₂ : List ℕ} (a : Added loads loads₂ links links₂ n target) (f : Forgotten dist₂) where
                pub insert_kept : length dist₂ ≡ length dist → Kept d places₂ holds₂ loads₂ links₂ dist₂ via (n + 1)
                insert_kept same_d = record {
                  loads_row = ap length a.counted ∙ length-set loads target (el loads target + 1) ∙ kept.loads_row;
                  loads_are = added_loads kept.chained insert_within insert_room.1 stays here a kept.loads_row kept.loads_are;
                  chained = added_chained kept.chained insert_within insert_room.1 stays here a;
                  dists = same_d ∙ h.so_far.rows.dists;
                  vias = h.so_far.rows.vias;
                  all_far = f.all_far;
                }
                  where
                    stays : (o : ℕ) → o < n → landing d.flights places₂ holds₂ o ≡ landing d.flights places holds o
                    stays o b = w.at_home o (omega arith) ∙ (put_moved (landing d.flights places holds) n target).others o (omega arith)

                    here : landing d.flights places₂ holds₂ n ≡ target
                    here = w.at_home n (omega arith) ∙ (put_moved (landing d.flights places holds) n target).here
