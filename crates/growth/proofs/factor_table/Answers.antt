-- The checker computes the test of the whole table. Assumes nothing.
use mathlib.Core.Path.{refl}
use Rattle.day.specs.Day.{all}
use Rattle.growth.specs.Growth.{factor}
use Rattle.growth.proofs.Table.{is_table, table_rule}
use Rattle.growth.proofs.factor_table.Goals as goal

pub returns : goal.returns
unfolding is_table all factor
returns c = table_rule _ refl
