use Rattle.std.proofs.Common.{◌++◌, length, Ok, sym, ap, ◌∙◌, subst, arith}
use Rattle.languages.specs.Calls.{Loads}
use Rattle.terms.specs.Trees.{term_of}
use Rattle.steppers.specs.Loads.{holdable_by, meaning_of}
use Rattle.steppers.proofs.Machining.{loads_held}
use Rattle.steppers.proofs.run.MachineLanguage.load.Goals as goal

pub append-requires : goal.append-requires
append-requires g c =
    let l = loads_held g.S.Stepper.table g.met.S.Stepper.sound c.args.words.now (term_of c.args.self.now.term) _ c.in_ok-admit.ensures in
    omega (arith, ap length c.clear.ensures, l.2)

pub invariant_of-self : goal.invariant_of-self
invariant_of-self g c =
    let l = loads_held g.S.Stepper.table g.met.S.Stepper.sound c.args.words.now (term_of c.args.self.now.term) _ c.in_ok-admit.ensures in
    record { holds = ap (holdable_by g.S.Stepper.table) (c.append.ensures ∙ ap (λ xs. xs ++ c.args.words.now) c.clear.ensures) ∙ l.1 }

pub returns-clause-answer : goal.returns-clause-answer
returns-clause-answer g c =
    let table = g.S.Stepper.table in
    let was = term_of c.args.self.now.term in
    let words = c.args.words.now in
    let l = loads_held table g.met.S.Stepper.sound words was _ c.in_ok-admit.ensures in
    subst (λ xs. Loads (meaning_of table) words was (Ok (record { words = length words; uses = 0 })) (term_of xs)) (sym (c.append.ensures ∙ ap (λ xs. xs ++ words) c.clear.ensures)) l.0
