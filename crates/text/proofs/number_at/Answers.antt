-- One law for each way through the function.
use native.Mathlib.Omega.{arith}
use lib.ListN.{drop, length-drop}
use Rattle.text.proofs.Reading.{counted, digits_here, run_within, run_digits_each, number_none, number_long, number_zero, number_one, number_more}
use Rattle.text.proofs.number_at.Goals as goal
use Rattle.text.proofs.number_at.Goals.{then-k-eq0-via-then-k-eq0, then-k-eq0-via-else-k-eq0+then-most-k, else-k-gt1-via-then-k-gt1+else-s-at-eq48, else-k-gt1-via-else-k-gt1}

pub returns-then-k-eq0 : goal.returns-then-k-eq0
returns-then-k-eq0 c =
    let e = counted c.args.s.now c.args.at c.run_len-k.ensures in
    elim c.then-k-eq0.branch [
      | then-k-eq0-via-then-k-eq0 w ↦ number_none _ _ _ _ e w.if-k-eq0.true
      | then-k-eq0-via-else-k-eq0+then-most-k w ↦ number_long _ _ _ _ e (omega arith)
    ]

pub bounds-s-at : goal.bounds-s-at
bounds-s-at c = omega (arith, run_within (drop c.args.at c.args.s.now), counted c.args.s.now c.args.at c.run_len-k.ensures, length-drop c.args.at c.args.s.now)

pub returns-then-s-at-eq48 : goal.returns-then-s-at-eq48
returns-then-s-at-eq48 c = number_zero _ _ _ _ (counted c.args.s.now c.args.at c.run_len-k.ensures) c.if-k-gt1.true c.if-s-at-eq48.true

pub slice_bounds-value_of-end : goal.slice_bounds-value_of-end
slice_bounds-value_of-end c = omega (arith, run_within (drop c.args.at c.args.s.now), counted c.args.s.now c.args.at c.run_len-k.ensures, length-drop c.args.at c.args.s.now)

pub value_of-n-requires-clause-digits : goal.value_of-n-requires-clause-digits
value_of-n-requires-clause-digits c = rw (digits_here c.args.s.now c.args.at c.run_len-k.result (counted c.args.s.now c.args.at c.run_len-k.ensures)) (run_digits_each (drop c.args.at c.args.s.now))

pub returns : goal.returns
returns c =
    let e = counted c.args.s.now c.args.at c.run_len-k.ensures in
    rw (c.value_of-n.ensures, digits_here c.args.s.now c.args.at c.run_len-k.result e)
    (elim c.else-k-gt1.branch [
      | else-k-gt1-via-then-k-gt1+else-s-at-eq48 w ↦ number_more _ _ _ _ e w.if-k-gt1.true (omega arith) w.if-s-at-eq48.false
      | else-k-gt1-via-else-k-gt1 w ↦ number_one _ _ _ _ e w.if-k-gt1.false (omega arith) (omega arith)
    ])
