use Rattle.steppers.proofs.SequenceTable.{sequence_rows}
use Rattle.steppers.proofs.laws.sequence_steps_by_its_table.Goals as goal

pub returns : goal.returns
returns c = sequence_rows
