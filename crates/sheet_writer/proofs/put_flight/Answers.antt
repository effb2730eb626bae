-- The limit stands behind the other numbers, and the late behind it.
use Rattle.sheet_writer.proofs.Placing.{flight_put}
use Rattle.sheet.proofs.Grammar.{flight_length}
use native.Mathlib.Omega.{arith}
use Rattle.sheet_writer.proofs.put_flight.Goals as goal

pub put_separated_at-next-requires : goal.put_separated_at-next-requires
put_separated_at-next-requires c = rw c.values_of-values.ensures (omega (arith, flight_length c.args.f, c.requires))

pub put_limit-last-requires : goal.put_limit-last-requires
put_limit-last-requires c =
    let numbers = rw c.values_of-values.ensures at c.put_separated_at-next.ensures in
    omega (arith, flight_length c.args.f, numbers.place, c.put_separated_at-next.auto, c.requires)

pub put_number_at-requires : goal.put_number_at-requires
put_number_at-requires c =
    let numbers = rw c.values_of-values.ensures at c.put_separated_at-next.ensures in
    omega (arith, flight_length c.args.f, numbers.place, c.put_separated_at-next.auto, c.put_limit-last.ensures.place, c.put_limit-last.auto, c.requires)

pub returns : goal.returns
returns c =
    let numbers = rw c.values_of-values.ensures at c.put_separated_at-next.ensures in
    flight_put c.args.f (omega (arith, c.requires)) numbers c.put_limit-last.ensures c.put_number_at.ensures
