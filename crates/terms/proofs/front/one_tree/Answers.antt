-- The three ways that the front of the run may go, and what the answer means.
use Rattle.std.proofs.Common.{◌≡◌, ℕ, Bool, List, Err, Result, sym, ap, ◌∙◌, subst}
use Rattle.std.proofs.lemmas.Result.{err_from_is_err_and}
use Rattle.terms.specs.declared.front.Broken.{Broken}
use Rattle.terms.specs.Fronts.{wholly}
use Rattle.terms.specs.Laws.{Whole}
use Rattle.terms.proofs.Verdicts.{whole_means, wholly_broken, wholly_all, wholly_part}
use Rattle.terms.proofs.front.one_tree.Goals as goal

-- the answer says whether the run is one tree
means : (v : Bool) (ws : List ℕ) (r : Result (Unit {0}) Broken) → r ≡ wholly v ws → Whole v ws r
means v ws r e = subst (Whole v ws) (sym e) (whole_means v ws)

pub returns-in_err-end : goal.returns-in_err-end
returns-in_err-end c =
    let p = err_from_is_err_and c.from_residual.result c.from_residual.ensures.1 in
    let value = p.1 ∙ ap Err p.2 ∙ sym (wholly_broken _ _ _ (sym c.in_err-end.ensures.value)) in
    record { value = value; law = means _ _ _ value }

pub returns-then-end-words : goal.returns-then-end-words
returns-then-end-words c =
    let value = sym (wholly_all _ _ _ (sym c.in_ok-end.ensures.value) c.if-end-words.true) in
    record { value = value; law = means _ _ _ value }

pub returns-else-end-words : goal.returns-else-end-words
returns-else-end-words c =
    let value = sym (wholly_part _ _ _ (sym c.in_ok-end.ensures.value) c.if-end-words.false) in
    record { value = value; law = means _ _ _ value }
