use Rattle.lists.specs.Held.{listed_in}
use Rattle.lists.proofs.Meaning.{answer_means}
use Rattle.lists.proofs.accept.list_meant.Goals as goal

pub returns : goal.returns
returns c = record { answer = c.read_list.ensures; law = answer_means listed_in _ _ c.read_list.result c.read_list.ensures }
