use Rattle.steppers.proofs.LogicTable.{logic_rows}
use Rattle.steppers.proofs.laws.logic_steps_by_its_table.Goals as goal

pub returns : goal.returns
returns c = logic_rows
