-- A missing limit takes two bytes, another is a number.
use Rattle.sheet.proofs.Lines.{text_missing, text_number}
use lib.Dec.{lit≤}
use lib.ListN.{length}
use mathlib.Core.Path.{ap, sym, ◌∙◌}
use Rattle.sheet_writer.proofs.limit_len.Goals as goal

pub returns-then-limit-eq-MISSING : goal.returns-then-limit-eq-MISSING
returns-then-limit-eq-MISSING c = (sym (ap length (text_missing c.args.limit c.if-limit-eq-MISSING.true)), lit≤ tt)

pub returns : goal.returns
returns c =
    let e = c.number_len.ensures in
    (e.0 ∙ sym (ap length (text_number c.args.limit c.if-limit-eq-MISSING.false)), e.2)
