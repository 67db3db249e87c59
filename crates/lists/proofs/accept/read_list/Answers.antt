use Rattle.std.proofs.Common.{sym, ap, ◌∙◌, inl, inr, ⊎_elim}
use Rattle.std.proofs.lemmas.Result.{err_from_is_err_and}
use Rattle.std.proofs.lemmas.Bool.{lt-leb, le-leb, and_from, and_left, and_right}
use Rattle.lists.specs.Lines.{declared_by}
use Rattle.lists.specs.Acceptance.{with_header, with_table, unless_fault}
use Rattle.lists.specs.Held.{listed_in}
use Rattle.lists.proofs.Judging.{passed_on}
use Rattle.lists.proofs.Accepting.{too_long, by_header, by_table, same_fault, header_keeps, few_parts}
use Rattle.lists.proofs.Faultless.{no_fault}
use Rattle.lists.proofs.accept.read_list.Goals as goal

pub returns-then-header-gt-MOST_BYTES : goal.returns-then-header-gt-MOST_BYTES
returns-then-header-gt-MOST_BYTES c =
    inr (too_long _ _ (⊎_elim (λ l. and_left _ _ (lt-leb _ 16384 l)) (λ p. and_right _ _ (lt-leb _ 16384 p.1)) c.then-header-gt-MOST_BYTES.either))

pub returns-in_err-head : goal.returns-in_err-head
returns-in_err-head c =
    let short = and_from _ _ (le-leb _ 16384 c.if-header-gt-MOST_BYTES.false) (le-leb _ 16384 c.if-table-gt-MOST_BYTES.false) in
    let p = err_from_is_err_and c.from_residual.result c.from_residual.ensures.1 in
    passed_on listed_in _ _ _ _ p.1 p.2 (⊎_elim inl (λ e. inr (by_header _ _ short ∙ ap (with_header c.args.table.now) e)) c.in_err-head.ensures)

pub returns-in_err-rules : goal.returns-in_err-rules
returns-in_err-rules c =
    let short = and_from _ _ (le-leb _ 16384 c.if-header-gt-MOST_BYTES.false) (le-leb _ 16384 c.if-table-gt-MOST_BYTES.false) in
    let head = by_header _ _ short ∙ ap (with_header c.args.table.now) c.in_ok-head.ensures in
    let p = err_from_is_err_and c.from_residual-in_err-rules.result c.from_residual-in_err-rules.ensures.1 in
    passed_on listed_in _ _ _ _ p.1 p.2 (⊎_elim inl (λ e. inr (head ∙ ap (with_table (declared_by c.in_ok-head.field-0)) e)) c.in_err-rules.ensures)

pub invariant_of-draft : goal.invariant_of-draft
invariant_of-draft c =
    let few = few_parts _ _ _ _ _ _ c.in_ok-head.ensures c.in_ok-rules.ensures c.deref.ensures.value c.deref-2.ensures.value in
    record { few_forms = few.0; few_rules = few.1 }

pub returns-in-Some : goal.returns-in-Some
returns-in-Some c =
    let short = and_from _ _ (le-leb _ 16384 c.if-header-gt-MOST_BYTES.false) (le-leb _ 16384 c.if-table-gt-MOST_BYTES.false) in
    let fault = same_fault _ _ _ _ _ _ c.deref.ensures.value c.deref-2.ensures.value (sym c.in-Some.is ∙ c.fault.ensures) in
    inr (by_table _ _ _ _ short c.in_ok-head.ensures c.in_ok-rules.ensures ∙ ap (unless_fault _) fault)

pub invariant_of-result : goal.invariant_of-result
invariant_of-result c =
    let keeps = header_keeps _ _ c.in_ok-head.ensures in
    let clean = no_fault _ (same_fault _ _ _ _ _ _ c.deref.ensures.value c.deref-2.ensures.value (sym c.in-None.is ∙ c.fault.ensures)) in
    record { layered = keeps.layer; rising = keeps.rising_forms; shaped = clean.shaped; linear = clean.linear; apart = clean.apart; ruled = clean.ruled }

pub returns-in-None : goal.returns-in-None
returns-in-None c =
    let short = and_from _ _ (le-leb _ 16384 c.if-header-gt-MOST_BYTES.false) (le-leb _ 16384 c.if-table-gt-MOST_BYTES.false) in
    let fault = same_fault _ _ _ _ _ _ c.deref.ensures.value c.deref-2.ensures.value (sym c.in-None.is ∙ c.fault.ensures) in
    by_table _ _ _ _ short c.in_ok-head.ensures c.in_ok-rules.ensures ∙ ap (unless_fault _) fault
