-- What the spot of a term says of its step.
use Rattle.std.proofs.Common.{◌≡◌, ℕ, true, false, cond, List, [], ◌++◌, sym, refl, ap, ◌∙◌, subst}
use Rattle.std.proofs.lemmas.List.{append-nil}
use Rattle.terms.specs.Trees.{Tree, written, WellFormed}
use Rattle.languages.specs.Meaning.{moved, ended, stuck}
use Rattle.languages.proofs.Asked.{apart}
use Rattle.steppers.specs.declared.action.Made.{Made}
use Rattle.steppers.specs.declared.action.Action.TheVariants as action
use Rattle.steppers.specs.declared.spot.Spot.{Spot}
use Rattle.steppers.specs.Looks.{seen}
use Rattle.steppers.specs.Table.{Table, Sound}
use Rattle.steppers.specs.Steps.{Change, replaced, within, waits, sticks, step_of, move_of, rule_of}
use Rattle.steppers.specs.Places.{spot_of}
use Rattle.steppers.specs.Written.{Wordable, rewritten}
use Rattle.steppers.proofs.Splicing.{Spliced, Shown, tree_shown}
use Rattle.steppers.proofs.Making.{spliced_words, made_wordable}

module _ (table : Table) (t : Tree) (image : ℕ) where
  -- the rule of a term that has not ended
  pub goes_on_lem : (c : Change Tree) → table.over (seen t) ≡ false → step_of table t image ≡ c → rule_of table t image ≡ move_of t c
  unfolding rule_of
  goes_on_lem c over e =
      ap (λ b. cond b ended (move_of t (step_of table t image))) over ∙ ap (move_of t) e

  -- and of one that has
  pub rule_ended : table.over (seen t) ≡ true → rule_of table t image ≡ ended
  unfolding rule_of
  rule_ended over = ap (λ b. cond b ended (move_of t (step_of table t image))) over

module _ (table : Table) (sound : Sound table) (t : Tree) (image : ℕ) (formed : WellFormed t) where
  abbrev spot : Spot
  spot = spot_of table t image 0 0

  abbrev out : Tree → List ℕ
  out n = written n ++ []

  -- the step of the whole term, as its spot shows it
  whole_shown : Shown table sound image (written t) spot out out (step_of table t image)
  whole_shown = tree_shown table sound image (written t) t [] [] [] 0 0 formed refl refl (sym (append-nil (written t)))

  module _ (over : table.over (seen t) ≡ false) where
    pub rule_waits : spot.action ≡ action.Wait → rule_of table t image ≡ moved 0 t
    rule_waits e = by_change (step_of table t image) refl whole_shown
      where
        by_change : (c : Change Tree) → step_of table t image ≡ c → Shown table sound image (written t) spot out out c → rule_of table t image ≡ moved 0 t
        by_change (replaced effect n) is p = let f = p.acts in apart (cc)
        by_change (within effect n) is p = let f = p.acts in apart (cc)
        by_change waits is p = goes_on_lem table t image waits over is
        by_change sticks is p = apart (cc)

    pub rule_sticks : spot.action ≡ action.Stuck → rule_of table t image ≡ stuck
    rule_sticks e = by_change (step_of table t image) refl whole_shown
      where
        by_change : (c : Change Tree) → step_of table t image ≡ c → Shown table sound image (written t) spot out out c → rule_of table t image ≡ stuck
        by_change (replaced effect n) is p = let f = p.acts in apart (cc)
        by_change (within effect n) is p = let f = p.acts in apart (cc)
        by_change waits is p = apart (cc)
        by_change sticks is p = goes_on_lem table t image sticks over is

    -- at the spot no child is left to step
    pub no_child : (i : ℕ) → spot.action ≡ action.Child i → ⊥
    no_child i e = by_change (step_of table t image) whole_shown
      where
        by_change : (c : Change Tree) → Shown table sound image (written t) spot out out c → ⊥
        by_change (replaced effect n) p = let f = p.acts in apart (cc)
        by_change (within effect n) p = let f = p.acts in apart (cc)
        by_change waits p = apart (cc)
        by_change sticks p = apart (cc)

    -- the node at the spot is replaced: the next term, its words, and that they can be written
    pub record Replaced (effect : ℕ) (by : Made) : Type 0 where
      pub next : Tree
      pub rule : rule_of table t image ≡ moved effect next
      pub words : rewritten (written t) spot.outer spot.node by ≡ written next
      pub wordable : Wordable by

    by_splice : (effect e : ℕ) (by : Made) (n : Tree) → spot.action ≡ action.Replace effect by → rule_of table t image ≡ moved e n → Spliced table sound image (written t) spot e (out n) → Replaced effect by
    by_splice effect e by n acts rule p =
        let f = p.acts in
        let same_by : p.by ≡ by = cc in
        let same_effect : e ≡ effect = cc in
        let words = spliced_words table sound image (written t) spot e (out n) p in
        record {
          next = n;
          rule = rule ∙ ap (λ x. moved x n) same_effect;
          words = ap (rewritten (written t) spot.outer spot.node) (sym same_by) ∙ words ∙ append-nil (written n);
          wordable = subst Wordable same_by (made_wordable table sound _ p.by p.soundly);
        }

    pub rule_replaces : (effect : ℕ) (by : Made) → spot.action ≡ action.Replace effect by → Replaced effect by
    rule_replaces effect by acts = by_change (step_of table t image) refl whole_shown
      where
        by_change : (c : Change Tree) → step_of table t image ≡ c → Shown table sound image (written t) spot out out c → Replaced effect by
        by_change (replaced e n) is p = by_splice effect e by n acts (goes_on_lem table t image (replaced e n) over is) p
        by_change (within e n) is p = by_splice effect e by n acts (goes_on_lem table t image (within e n) over is) p
        by_change waits is p = apart (cc)
        by_change sticks is p = apart (cc)
