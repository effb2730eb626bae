-- The five parts, one behind the other.
use Rattle.day.specs.Checked.{day_of}
use Rattle.day.proofs.Valid.{valid_means}
use Rattle.sheet.specs.Text.{period_names, flight_names}
use Rattle.sheet.proofs.Grammar.{length_top, length_names}
use Rattle.sheet_writer.proofs.Placing.{sheet_room, sheet_put}
use native.Mathlib.Omega.{arith}
use Rattle.sheet_writer.proofs.fill_sheet.Goals as goal

pub put_fixed-a-requires : goal.put_fixed-a-requires
put_fixed-a-requires c = omega (arith, length_top, sheet_room (day_of c.args.day) c.requires)

pub put_periods-b-requires : goal.put_periods-b-requires
put_periods-b-requires c =
    let room = sheet_room (day_of c.args.day) c.requires in
    (omega (arith, room, length_top, c.put_fixed-a.ensures.place, c.put_fixed-a.auto), (valid_means c.args.day.good).periods_to)

pub put_closing_at-c-requires : goal.put_closing_at-c-requires
put_closing_at-c-requires c =
    let room = sheet_room (day_of c.args.day) c.requires in
    omega (arith, room, length_top, c.put_fixed-a.ensures.place, c.put_fixed-a.auto, c.put_periods-b.ensures.place, c.put_periods-b.auto)

pub put_fixed_at-d-requires : goal.put_fixed_at-d-requires
put_fixed_at-d-requires c =
    let room = sheet_room (day_of c.args.day) c.requires in
    omega (
      arith,
      room,
      length_top,
      length_names,
      c.put_fixed-a.ensures.place,
      c.put_fixed-a.auto,
      c.put_periods-b.ensures.place,
      c.put_periods-b.auto,
      c.put_closing_at-c.ensures.place,
      c.put_closing_at-c.auto,
    )

pub put_flights-requires : goal.put_flights-requires
put_flights-requires c =
    let room = sheet_room (day_of c.args.day) c.requires in
    let n = c.flight_count-n.ensures in (
      rw n.0 (omega (
        arith,
        room,
        length_top,
        length_names,
        c.put_fixed-a.ensures.place,
        c.put_fixed-a.auto,
        c.put_periods-b.ensures.place,
        c.put_periods-b.auto,
        c.put_closing_at-c.ensures.place,
        c.put_closing_at-c.auto,
        c.put_fixed_at-d.ensures.place,
        c.put_fixed_at-d.auto,
      )),
      n.1,
      omega (arith, n.0, (valid_means c.args.day.good).whole),
    )

pub returns : goal.returns
unfolding period_names flight_names
returns c =
    sheet_put (day_of c.args.day) c.requires c.put_fixed-a.ensures c.put_periods-b.ensures c.put_closing_at-c.ensures c.put_fixed_at-d.ensures (rw c.flight_count-n.ensures.0 at c.put_flights.ensures)
