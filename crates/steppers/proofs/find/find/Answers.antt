-- The turns and the exits of the loop, by `Spots`.
use Rattle.std.proofs.Common.{ℕ, ◌+◌, ◌-◌, ◌≤◌, List, length, take, drop, Some, None, Option, subst, arith}
use Rattle.std.proofs.lemmas.List.{length-drop, take_rest}
use Rattle.steppers.specs.declared.action.Action.{Action}
use Rattle.steppers.specs.Table.{Table}
use Rattle.steppers.specs.Placed.{InsideOf, ActionOf, StartOf}
use Rattle.steppers.proofs.Spots.{spotted_here, spotted_no_child, spotted_child}
use Rattle.steppers.proofs.find.find.Goals as goal

-- what is answered about the slice from n on holds of the words from n on
module _ (words : List ℕ) (n : ℕ) where
  inside_rest : (r : ℕ) → InsideOf (take (length words - n) (drop n words)) r → InsideOf (drop n words) r
  inside_rest r h = subst (λ l. InsideOf l r) (take_rest words n) h

  acts_rest : (table : Table) (image : ℕ) (r : Action) → ActionOf table (take (length words - n) (drop n words)) image r → ActionOf table (drop n words) image r
  acts_rest table image r h = subst (λ l. ActionOf table l image r) (take_rest words n) h

  starts_rest : (i : ℕ) (r : Option ℕ) → StartOf (take (length words - n) (drop n words)) i r → StartOf (drop n words) i r
  starts_rest i r h = subst (λ l. StartOf l i r) (take_rest words n) h

  within_rest : (r : ℕ) → n ≤ length words → r ≤ length (drop n words) → n + r ≤ length words
  within_rest r h l = let left = length-drop n words in omega arith

pub returns-in_default : goal.returns-in_default
returns-in_default g c =
    let table = g.S.Stepper.table in
    let words = c.args.words.now in
    let image = c.args.inputs in
    let outer = c.loop-i.outer in
    let n = c.inside.result in
    let a = c.act_at-action.result in
    let inside = inside_rest words outer n c.inside.ensures in
    let act = acts_rest words (outer + n) table image a c.act_at-action.ensures in
    (omega arith, within_rest words outer n c.loop-i.invariant.0 inside.0, spotted_here table words image outer c.loop-i.invariant.1 n inside a act c.in_default.not-Child)

pub returns-in_default-child_start : goal.returns-in_default-child_start
returns-in_default-child_start g c =
    let table = g.S.Stepper.table in
    let words = c.args.words.now in
    let image = c.args.inputs in
    let outer = c.loop-i.outer in
    let n = c.inside.result in
    let a = c.act_at-action.result in
    let i = c.in-Child.i in
    let inside = inside_rest words outer n c.inside.ensures in
    let act = acts_rest words (outer + n) table image a c.act_at-action.ensures in
    let start = starts_rest words (outer + n) i None c.in_default-child_start.ensures in
    (omega arith, within_rest words outer n c.loop-i.invariant.0 inside.0, spotted_no_child table words image outer c.loop-i.invariant.1 n inside a act i c.in-Child.is start)

pub loop-i-preserved : goal.loop-i-preserved
loop-i-preserved g c =
    let table = g.S.Stepper.table in
    let words = c.args.words.now in
    let image = c.args.inputs in
    let outer = c.loop-i.outer in
    let n = c.inside.result in
    let a = c.act_at-action.result in
    let i = c.in-Child.i in
    let inside = inside_rest words outer n c.inside.ensures in
    let act = acts_rest words (outer + n) table image a c.act_at-action.ensures in
    let start = starts_rest words (outer + n) i (Some c.in-Some.start) c.in-Some.ensures in
    let node = within_rest words outer n c.loop-i.invariant.0 inside.0 in
    (within_rest words (outer + n) c.in-Some.start node start.1, spotted_child table words image outer c.loop-i.invariant.1 n inside a act i c.in-Child.is c.in-Some.start start)
