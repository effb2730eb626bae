-- The reader's laws: how the flights' lines are read one after another, where no legal plan's text goes on, and which line is then the
-- first wrong one.
-- Assumes nothing.
use Prim.Native.Nat.{ℕ, ◌≤◌, ◌<◌, ◌+◌, ◌*◌}
use native.Mathlib.Omega.{arith}
use mathlib.Core.Path.{◌≡◌, refl, sym, ap, ◌∙◌}
use mathlib.Core.Logic.{inl, inr}
use mathlib.Core.Bool.{true, false}
use mathlib.Core.List.{List, [], ◌++◌, append_assoc, append-nil}
use lib.ListN.{length, take, drop, set, length-append}
use lib.Seq.{ext_get_or, length-take-le, get_or-take, get_or-set_same, get_or-set_other, take-length, drop-append_seam}
use lib.Dec.{lit<}
use Rattle.assignment.proofs.Tests.{lt?, eq?}
use Rattle.answers.proofs.Decides.{true_false}
use Rattle.text.specs.Digits.{ended}
use Rattle.text.specs.Fixed.{starts_with}
use Rattle.text.specs.Standing.{Stands}
use Rattle.text.proofs.Digits.{count_le}
use Rattle.text.proofs.Fixed.{starts_with_lem}
use Rattle.text.proofs.Reading.{stand, join, parted}
use Rattle.day.specs.Day.{Day, N, most_flights, width, flight_count, hold, total_of, total}
use Rattle.day.specs.Plan.{Legal, breaks}
use Rattle.day.specs.Valid.{Valid}
use Rattle.day.proofs.Valid.{valid_means}
use Rattle.day.proofs.Instance.{total_le}
use Rattle.legality.proofs.Laws.{can_sum}
use Rattle.plan_text.specs.PlanText.{plan_names, total_name, plan_line, plan_lines, plan_text}
use Rattle.plan_text.proofs.OneText.{same_line}
use Rattle.plan_text.proofs.Placing.{line_is, no_lines, length_plan_names}
use Rattle.completion.specs.Rest.{Completed}
use Rattle.completion.specs.Loop.{Partial, Landed, MostCompleted}
use Rattle.completion.proofs.Completion.{left_length, breaks_same, legal_unbroken, partial_set, partial_legal}
use Rattle.plan_reader.specs.PlanReading.{LineEnds, PlanBegins, FirstWrongLine}
use Rattle.text.specs.Reading.{some_number}
use Rattle.plan_reader.specs.declared.WrongLine.{WrongLine}
use Rattle.plan_reader.specs.Loop.{wrong_at, HoldRead, front_lines, Read, NoneBeyond, LinesRead, BehindMost, place_behind, CanEnd, Diverges, EndRead, RowsRead}
use Rattle.plan_reader.specs.declared.Front.{Front}
use Rattle.std.specs.Prelude.{Ok, Err, Some, None, Option, Result}
use Rattle.plan_reader.proofs.Ends.{names_line, number_line, line_pos, line_ends, same_front, line_more}
use Rattle.plan_reader.proofs.Fronts.{front_same, front_next, front_part, behind, text_line, text_names, text_end, front_begins, shown}
use Rattle.plan_reader.proofs.Holds.{legal_short}
use Rattle.plan_reader.proofs.Ending.{front_is, front_inside, plan_line_lem, front_ends, fixed_stands, goes_wrong}

-- ---- the flights' lines

module _ {d : Day} {s h left : List ℕ} {i at : ℕ} (r : Read d s h left i at) where
  v : Valid d
  v = valid_means r.partial.good

  pub read_inside : at ≤ length s
  read_inside = front_inside r.stands

  -- a plan whose text goes with this one beyond the lines that are read has the same holds so far ..
  agrees : (next : ℕ) → at < next → LineEnds s next → (b : PlanBegins d (take next s)) → (j : ℕ) → j < i → hold h j ≡ hold b.plan j
  agrees next beyond ends b =
      shown d.flights h b.plan s i at next r.partial.upto r.stands (same_front _ s next ends.inside b.begins) (omega arith)

  -- .. and the text has its next flight's line
  goes_on : i < N d → (next : ℕ) → at < next → LineEnds s next → (b : PlanBegins d (take next s)) → Stands (plan_line d.flights b.plan i) s at (at + length (plan_line d.flights b.plan i))
  goes_on less next beyond ends b =
      let f = d.flights in
      let g = b.plan in
      let e : front_lines f h i ≡ front_lines f g i = front_same f h g i (agrees next beyond ends b) in
      let place : length (front_lines f g i) ≡ at = omega (arith, r.stands.place, ap length e) in
      let w = (line_more (plan_text f g) s (front_lines f g i) (plan_line f g i) (behind f g (i + 1)) next (text_line f g i less) (plan_line_lem f g i) ends
      (same_front _ s next ends.inside b.begins) (omega arith)).1 in
      rw place at w

  module _ (less : i < N d) where
    pub read_place : (i + 1) * width ≤ length d.flights
    read_place = omega (arith, v.whole)

    -- where no line of the flight stands, no plan goes on
    pub no_line : HoldRead d.flights s at i None → NoneBeyond d s at
    no_line bad next beyond ends b =
        bad (hold b.plan i) _ (legal_short v b.legal i less) (rw (line_is d.flights b.plan i) at (goes_on less next beyond ends b))

    module _ {next : ℕ} (line : HoldRead d.flights s at i (some_number (hold h i) next)) where
      here : Stands (plan_line d.flights h i) s at next
      here = rw (line_is d.flights h i) line

      -- nor where the line's hold breaks the row: a plan that went on would have that hold
      pub broken_line : breaks d h i ≡ true → NoneBeyond d s at
      broken_line broken x beyond ends b =
          let g = b.plan in
          let w = goes_on less x beyond ends b in
          let p = (same_line d.flights h g i _ _ (sym here.text ∙ w.text)).0 in
          let q = breaks_same d h g i (λ j l. elim (eq? j i) [ inl e ↦ rw e p | inr o ↦ agrees x beyond ends b j (omega arith) ]) in
          true_false (sym (sym q ∙ broken) ∙ (legal_unbroken v b.legal (i + 1) (omega arith)).none i (omega arith))

      pub read_next : {left₂ : List ℕ} → Partial d h left₂ (i + 1) → Read d s h left₂ (i + 1) next
      read_next p = record { partial = p; stands = rw (front_next d.flights h i) (join r.stands here) }

  -- holds from i on are free
  pub read_set : (x : ℕ) → Read d s (set h i x) left i at
  read_set x = record {
    partial = partial_set r.partial x;
    stands = rw (← (front_same d.flights h (set h i x) i (λ j l. sym (get_or-set_other h i j x 0 (omega arith))))) r.stands;
  }

module _ {d : Day} {s h left : List ℕ} {i at : ℕ} (r : Read d s h left i at) (less : i < N d) where
  -- the line stops the reading
  pub stops_at_line : HoldRead d.flights s at i None → LinesRead d s h left (record { flights = i; at = at })
  stops_at_line bad = record { read = r; stopped = λ l. no_line r l bad }

  -- or its hold is put into the row
  module _ (x next : ℕ) (line : HoldRead d.flights s at i (some_number x next)) where
    stored : HoldRead d.flights s at i (some_number (hold (set h i x) i) next)
    stored = rw (get_or-set_same h i x 0 (omega (arith, r.partial.each))) line

    pub stops_at_landing : {left₂ : List ℕ} → Landed d (set h i x) left₂ i false → LinesRead d s (set h i x) left₂ (record { flights = i; at = at })
    stops_at_landing {left₂} (broken, p) =
        let q : Read d s (set h i x) left₂ i at = record { partial = p; stands = (read_set r x).stands } in
        record { read = q; stopped = λ l. broken_line q l stored broken }

    pub goes_to_next : {left₂ : List ℕ} → Landed d (set h i x) left₂ i true → Read d s (set h i x) left₂ (i + 1) next
    goes_to_next p = read_next (read_set r x) less stored p

-- rows that the reading changed have their lengths
pub same_rows : {d : Day} {s h h₂ left left₂ : List ℕ} {i j at : ℕ} → Read d s h left i at → Partial d h₂ left₂ j → (length h₂ ≡ length h) × (length left₂ ≡ length left)
same_rows {d} {h = h} {h₂} {i = i} {j = j} r p = (
  p.each ∙ sym r.partial.each,
  ap length p.left_is ∙ (left_length d h₂ j ∙ sym (ap length r.partial.left_is ∙ left_length d h i)),
)

-- ---- the names line

length_front_0 : (f h : List ℕ) → front_lines f h 0 ≡ plan_names
length_front_0 f h = rw (no_lines f h) (append-nil plan_names)

pub read_start : {d : Day} {s h left : List ℕ} → starts_with s plan_names ≡ true → Partial d h left 0 → Read d s h left 0 (length plan_names)
read_start {d} {s} {h} e p =
    let z : 0 + length plan_names ≡ length plan_names = omega arith in
    record { partial = p; stands = rw (length_front_0 d.flights h) (rw z at (fixed_stands s plan_names 0 e)) }

module _ (d : Day) {s : List ℕ} (other : starts_with s plan_names ≡ false) where
  wrong_names : (g : List ℕ) → Diverges (plan_text d.flights g) s 0
  wrong_names g =
      goes_wrong _ s [] plan_names (behind d.flights g 0) 0 (text_names d.flights g) names_line (record { text = refl; place = refl }) (inl refl)
      (λ next w. let y : starts_with s plan_names ≡ true = rw w.text (starts_with_lem plan_names (drop next s)) in true_false (sym y ∙ other))

  pub no_names : (h : List ℕ) → RowsRead d s h (wrong_at 0)
  no_names h = (
    record { whole = inl refl; before = λ l. absurd (omega arith); beyond = λ next l ends b. (wrong_names b.plan).beyond next l ends b.begins },
    λ g legal e. (wrong_names g).other e,
  )

-- ---- a whole plan text

pub plan_ends : (f g : List ℕ) {s : List ℕ} → s ≡ plan_text f g → LineEnds s (length s)
plan_ends f g {s} e =
    let a = front_lines f g (flight_count f) ++ total_name in
    let t = ended 10 (total_of f g) in
    let is : s ≡ a ++ t = e ∙ (text_end f g ∙ sym (append_assoc (front_lines f g (flight_count f)) total_name t)) in
    let long : length a + length t ≡ length s = sym (ap length is ∙ length-append a t) in
    let w = stand s t [] (length a) (ap (drop (length a)) is ∙ (drop-append_seam a t ∙ sym (append-nil t))) in
    rw long at (line_ends (number_line (total_of f g)) w (omega (arith, long)))

pub whole_begins : {d : Day} {g s : List ℕ} → Legal d g → s ≡ plan_text d.flights g → PlanBegins d (take (length s) s)
whole_begins {d} {g} {s} legal e = record { plan = g; legal = legal; begins = rw (take-length, e) (rw append-nil at (starts_with_lem (plan_text d.flights g) [])) }

-- ---- where a text goes wrong within the flights' lines

-- The lines of i flights are read, and no plan's text goes on behind them. Let m be the most of their holds that some legal plan has. Then
-- that plan's text begins with the names line and m of the lines. A text that began with one line more, or went on behind all i of them,
-- would be that of a plan that has m + 1 of the holds, or goes on where none does. So the line behind m is the first wrong one.
module _ {d : Day} {s h left : List ℕ} {i at : ℕ} (r : Read d s h left i at) (stopped : NoneBeyond d s at) where
  abbrev f : List ℕ
  f = d.flights

  -- the lines of fewer flights stand there too
  fewer : (m : ℕ) → m ≤ i → Stands (front_lines f h m) s 0 (length (front_lines f h m))
  fewer m l =
      let z : 0 + length (front_lines f h m) ≡ length (front_lines f h m) = omega arith in
      rw z at (parted {t = front_lines f h m} (rw (front_part f h m i l) at r.stands)).0

  -- a plan's text that begins with the lines of the first m flights has their holds
  completes : (m next : ℕ) → m ≤ i → length (front_lines f h m) ≤ next → LineEnds s next → PlanBegins d (take next s) → Completed d h m
  completes m next l upto ends b = record {
    plan = b.plan;
    legal = b.legal;
    same = λ j k. sym (shown f h b.plan s m _ next (omega (arith, r.partial.upto)) (fewer m l) (same_front _ s next ends.inside b.begins) upto j k);
  }

  -- the first wrong line is behind those that can be completed
  behind_most : (m : ℕ) → m ≤ i → Completed d h m → (m < i → Completed d h (m + 1) → ⊥) → FirstWrongLine d s (length (front_lines f h m))
  behind_most m l can over = record {
    whole = inr (front_ends f h m (fewer m l));
    before = λ pos. record { plan = can.plan; legal = can.legal; begins = begins };
    beyond = λ next far ends b. elim (lt? m i) [
      | inl less ↦ over less (completes (m + 1) next (omega arith) (one_more less next far ends) ends b)
      | inr all ↦ let e : m ≡ i = omega arith in stopped next (omega (arith, r.stands.place, ap (λ k. length (front_lines f h k)) e)) ends b
    ];
  }
    where
      begins : starts_with (plan_text f can.plan) (take (length (front_lines f h m)) s) ≡ true
      begins =
          rw (front_is (fewer m l), front_same f h can.plan m (λ j k. sym (can.same j k)))
          (front_begins f can.plan m (omega (arith, r.partial.upto)))

      -- a text that goes on behind m of its own lines has the next one whole
      one_more : m < i → (next : ℕ) → length (front_lines f h m) < next → LineEnds s next → length (front_lines f h (m + 1)) ≤ next
      one_more less next far ends =
          let w = (fewer (m + 1) (omega arith)).text in
          let q = rw (front_next f h m, append_assoc) at w in
          let k = (line_more s s (front_lines f h m) (plan_line f h m) _ next q (plan_line_lem f h m) ends refl far).0 in
          omega (arith, k, ap length (front_next f h m), length-append (front_lines f h m) (plan_line f h m))

  module _ (less : i < N d) where
    -- the text of a plan is longer than these lines, and ends in one
    not_plan : (g : List ℕ) → Legal d g → s ≡ plan_text f g → ⊥
    not_plan g legal e = stopped (length s) longer (plan_ends f g e) (whole_begins legal e)
      where
        longer : at < length s
        longer =
            let all : take (length s) (plan_text f g) ≡ take (length s) s = ap (take (length s)) (sym e) in
            let same = front_same f h g i (shown f h g s i at (length s) r.partial.upto r.stands all (read_inside r)) in
            let long = ap length (e ∙ text_line f g i less) ∙ length-append (front_lines f g i) (plan_line f g i ++ behind f g (i + 1)) in
            omega (arith, long, length-append (plan_line f g i) (behind f g (i + 1)), line_pos (plan_line_lem f g i), r.stands.place, ap length same)

    pub rows_stopped : {x : ℕ} → BehindMost d h i x → RowsRead d s h (wrong_at x)
    rows_stopped {x} b = (go b.most b.is_most b.place, not_plan)
      where
        go : (most : Option ℕ) → MostCompleted d h i most → x ≡ place_behind f h most → FirstWrongLine d s x
        go (Some m) is e = rw e (behind_most m is.0 is.1.0 is.1.1)
        go None is e = rw e (record {
          whole = inl refl;
          before = λ pos. absurd (omega arith);
          beyond = λ next far ends p. is (record { plan = p.plan; legal = p.legal; same = λ j l. absurd (omega arith) });
        })

module _ {d : Day} {h left : List ℕ} {i : ℕ} (p : Partial d h left i) where
  pub most_none : MostCompleted d h i None → BehindMost d h i 0
  most_none is = record { most = None; is_most = is; place = refl }

  pub most_some : {m x : ℕ} → MostCompleted d h i (Some m) → x ≡ length (front_lines d.flights h m) → BehindMost d h i x
  most_some {m} is e = record { most = Some m; is_most = is; place = e }

-- the place behind the lines of m flights, by the holds of these alone
pub place_is : (f h : List ℕ) (m : ℕ) {x : ℕ} → m ≤ length h → x ≡ length (plan_lines f (take m h) (length (take m h)) 0)
    → 27 + x ≡ length (front_lines f h m)
place_is f h m inside e =
    let long : length (take m h) ≡ m = length-take-le m h inside in
    let same = front_same f (take m h) h m (λ j l. get_or-take m h j 0 l) in
    let y = rw long at e in
    omega (arith, y, ap length same, length-append plan_names (plan_lines f (take m h) m 0), length_plan_names)

-- what the rows of a plan begun are
pub partial_rows : {d : Day} {h left : List ℕ} {i : ℕ} → Partial d h left i → (i ≤ length h) × (length h * width ≤ length d.flights) × (length h ≤ most_flights)
partial_rows p =
    let v = valid_means p.good in
    (omega (arith, p.each, p.upto), omega (arith, p.each, v.whole), omega (arith, p.each, v.flights_to))

-- ---- behind the lines of all flights

module _ {d : Day} {s h left : List ℕ} {at : ℕ} (r : Read d s h left (N d) at) where
  legal_row : Legal d h
  legal_row = partial_legal r.partial

  pub can_end : CanEnd d.flights s h at
  can_end = record {
    can = can_sum d r.partial.good r.partial.each;
    short = count_le (total d h) 9 (lit< tt) (omega (arith, total_le (valid_means r.partial.good) legal_row));
    stands = r.stands;
  }

  -- a plan whose text goes with this one beyond the flights' lines is the one that they show
  same_plan : (g : List ℕ) → Legal d g → (next : ℕ) → take next (plan_text d.flights g) ≡ take next s → at ≤ next → h ≡ g
  same_plan g legal next same upto =
      let holds = shown d.flights h g s (N d) at next (omega arith) r.stands same upto in
      ext_get_or 0 h g (r.partial.each ∙ sym legal.each) (λ k l. holds k (omega (arith, r.partial.each)))

  pub rows_ended : (e : Result ℕ WrongLine) → EndRead d.flights s h e → RowsRead d s h e
  rows_ended (Ok t) (is, sum) = (legal_row, (is, sum))
  rows_ended (Err x) (wrong, past) = (
    record {
      whole = wrong.whole;
      before = λ pos. record { plan = h; legal = legal_row; begins = wrong.before };
      beyond = λ next far ends b.
          let e = same_plan b.plan b.legal next (same_front _ s next ends.inside b.begins) (omega (arith, r.stands.place)) in
          wrong.beyond next far ends (rw e b.begins);
    },
    λ g legal is. wrong.other (is ∙ ap (plan_text d.flights) (sym (same_plan g legal (length s) (ap (take (length s)) (sym is)) (read_inside r)))),
  )

-- ---- the whole text

module _ {d : Day} {s h left : List ℕ} {front : Front} (l : LinesRead d s h left front) {n : ℕ} (is : n ≡ N d) where
  pub lines_stopped : front.flights < n → {x : ℕ} → BehindMost d h front.flights x → RowsRead d s h (wrong_at x)
  lines_stopped less b = rows_stopped l.read (l.stopped (omega arith)) (omega arith) b

  pub lines_all : n ≤ front.flights → Read d s h left (N d) front.at
  lines_all all = let e : front.flights ≡ N d = omega (arith, l.read.partial.upto) in rw e at l.read
