-- A missing limit is two bytes, another is a number.
use Rattle.sheet.proofs.Lines.{text_missing, text_number}
use native.Mathlib.Omega.{arith}
use lib.ListN.{length}
use mathlib.Core.Path.{ap}
use Rattle.sheet_writer.proofs.put_limit.Goals as goal

pub put_fixed_at-requires : goal.put_fixed_at-requires
put_fixed_at-requires c = omega (arith, ap length (text_missing c.args.limit c.if-limit-eq-MISSING.true), c.requires)

pub returns-then-limit-eq-MISSING : goal.returns-then-limit-eq-MISSING
returns-then-limit-eq-MISSING c = rw (text_missing c.args.limit c.if-limit-eq-MISSING.true) c.put_fixed_at.ensures

pub put_number_at-requires : goal.put_number_at-requires
put_number_at-requires c = omega (arith, ap length (text_number c.args.limit c.if-limit-eq-MISSING.false), c.requires)

pub returns : goal.returns
returns c = rw (text_number c.args.limit c.if-limit-eq-MISSING.false) c.put_number_at.ensures
