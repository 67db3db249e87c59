use Rattle.std.proofs.Common.{length, Some, Ok, sym, subst, ap, arith}
use Rattle.languages.specs.Calls.{BufferShowGives}
use Rattle.terms.specs.Trees.{term_of}
use Rattle.steppers.specs.Loads.{meaning_of}
use Rattle.steppers.proofs.Machining.{no_words, some_words, shows_nothing_held, shows_term}
use Rattle.steppers.proofs.run.MachineLanguage.show.Goals as goal

pub returns-then-is_empty-clause-answer : goal.returns-then-is_empty-clause-answer
returns-then-is_empty-clause-answer g c =
    shows_nothing_held g.S.Stepper.table g.met.S.Stepper.sound _ _ (no_words _ _ c.as_slice-term.ensures c.if-is_empty.ensures) c.if-buffer-lt-SHOWN_WORDS.false

pub write_shown-requires : goal.write_shown-requires
write_shown-requires g c =
    let h = some_words g.S.Stepper.table _ _ c.as_slice-term.ensures c.args.self.now.holds c.if-is_empty.ensures in
    omega (arith, ap length c.as_slice-term.ensures, h.few, g.met.S.Stepper.sound.holds_few, c.if-buffer-lt-SHOWN_WORDS.false)

pub returns-clause-answer : goal.returns-clause-answer
returns-clause-answer g c =
    let table = g.S.Stepper.table in
    let h = some_words table _ _ c.as_slice-term.ensures c.args.self.now.holds c.if-is_empty.ensures in
    let shown = shows_term table g.met.S.Stepper.sound _ _ c.args.buffer.now c.as_slice-term.ensures h c.if-buffer-lt-SHOWN_WORDS.false in
    subst (λ xs. BufferShowGives (meaning_of table) (term_of c.args.self.now.term) c.args.buffer.now (Ok (Some (length c.as_slice-term.result.now))) xs) (sym c.write_shown.ensures) shown
