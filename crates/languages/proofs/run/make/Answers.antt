-- A show is made into a Vec that is lent as a slice.
use Rattle.languages.proofs.Shown.{lent_shown}
use Rattle.languages.proofs.run.make.Goals as goal

pub returns-in-Show : goal.returns-in-Show
returns-in-Show g c =
    let shown = c.show-shown.ensures in
    record { answer = lent_shown _ (g.met.L.Language.laws c.args.language.now) _ _ c.args.call c.in-Show.buffer _ _ _ c.in-Show.is c.deref_mut.ensures.value c.show-shown.auto.buffer shown.answer shown.keeps; stays = shown.stays }
