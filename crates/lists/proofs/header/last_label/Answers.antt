use Rattle.lists.proofs.Judging.{last_label_at}
use Rattle.lists.proofs.header.last_label.Goals as goal

pub returns-in-Some : goal.returns-in-Some
returns-in-Some c = last_label_at c.args.forms.now c.in-Some.form.now c.in-Some.ensures.value
