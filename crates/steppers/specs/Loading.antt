-- What a stepper loads, and the laws that its meaning keeps.
use Rattle.std.specs.Prelude.{◌≡◌, ℕ, ◌≤◌, Bool, true, false, cond, List, [], ◌∷◌, length, is_ok, Some, None, Ok, Err, Option, Result, nat_le}
use Rattle.std.proofs.Math.Path.{refl}
use Rattle.std.proofs.Common.{sym, ap, subst, ◌∙◌}
use Rattle.std.proofs.lemmas.List.{append-nil}
use Rattle.std.proofs.lemmas.Bool.{leb-true, le-leb}
use Rattle.terms.specs.declared.front.Broken.{Broken}
use Rattle.terms.specs.Trees.{Tree, written, WellFormed, bare, term_of}
use Rattle.terms.specs.Fronts.{ending, wholly}
use Rattle.terms.specs.Laws.{Whole}
use Rattle.terms.proofs.Readings.{term_read}
use Rattle.terms.proofs.Endings.{one_ends}
use Rattle.terms.proofs.Verdicts.{whole_means, wholly_all}
use Rattle.terms.proofs.Marks.{bare_same}
use Rattle.languages.specs.declared.refusal.Refusal.{Refusal}
use Rattle.languages.specs.declared.refusal.Refusal.TheVariants.{TooLong, NoTerm, NoSuchForm}
use Rattle.languages.specs.Meaning.{Expanded}
use Rattle.languages.specs.Calls.{Expands}
use Rattle.languages.specs.Laws.{Laws}
use Rattle.languages.proofs.Asked.{apart}
use Rattle.steppers.specs.Table.{Table, Sound}
use Rattle.steppers.specs.Loads.{lacking, itself, expansion_of, holdable_by, meaning_of}
use Rattle.steppers.specs.Marking.{rule-bare}
use Rattle.steppers.specs.Closing.{next_kept}

-- the words of a term are one whole term
pub whole_term : (t : Tree) → WellFormed t → wholly false (written t) ≡ Ok tt
whole_term t h =
    wholly_all false (written t) (length (written t)) (ap (ending false 1) (sym (append-nil (written t))) ∙ one_ends t false [] h) refl

-- a whole run is the writing of a term
pub term_whole : (words : List ℕ) (x : Unit {0}) → wholly false words ≡ Ok x → (t : Tree) × WellFormed t × (written t ≡ words)
term_whole words x e = subst (Whole false words) e (whole_means false words)

module _ (table : Table) where
  -- the expansion by its tests
  abbrev judged : Bool → Result (Unit {0}) Broken → Option Tree → Result Expanded Refusal
  judged false whole o = Err (TooLong 0 table.capacity)
  judged true (Err b) o = Err (NoTerm 0 b.place)
  judged true (Ok x) o = itself table.has o

  pub expansion_judged : (words : List ℕ) → expansion_of table words ≡ judged (nat_le (length words) table.capacity) (wholly false words) (term_of words)
  unfolding expansion_of
  expansion_judged words = by_length (nat_le (length words) table.capacity)
    where
      by_whole : (r : Result (Unit {0}) Broken) → elim r [ Err b ↦ Err (NoTerm 0 b.place) | Ok x ↦ itself table.has (term_of words) ] ≡ judged true r (term_of words)
      by_whole (Ok x) = refl
      by_whole (Err b) = refl

      by_length : (b : Bool) → cond b (elim (wholly false words) [ Err b ↦ Err (NoTerm 0 b.place) | Ok x ↦ itself table.has (term_of words) ]) (Err (TooLong 0 table.capacity)) ≡ judged b (wholly false words) (term_of words)
      by_length true = by_whole (wholly false words)
      by_length false = refl

  -- a term by the place of the first form that is lacking
  abbrev unless : Tree → Option ℕ → Result Expanded Refusal
  unless t None = Ok (record { term = t; uses = 0 })
  unless t (Some place) = Err (NoSuchForm place)

  itself-unless : (t : Tree) → itself table.has (Some t) ≡ unless t (lacking table.has t)
  itself-unless t = same (lacking table.has t)
    where
      same : (o : Option ℕ) → elim o [ None ↦ Ok (record { term = t; uses = 0 }) | Some place ↦ Err (NoSuchForm place) ] ≡ unless t o
      same None = refl
      same (Some place) = refl

  -- the words of a term within the capacity expand to it, unless a form is lacking
  pub expansion_of_lem : (t : Tree) → WellFormed t → length (written t) ≤ table.capacity → expansion_of table (written t) ≡ unless t (lacking table.has t)
  expansion_of_lem t formed few =
      expansion_judged (written t)
      ∙ ap (λ b. judged b (wholly false (written t)) (term_of (written t))) (le-leb (length (written t)) table.capacity few)
      ∙ ap (λ r. judged true r (term_of (written t))) (whole_term t formed)
      ∙ ap (itself table.has) (term_read t false formed)
      ∙ itself-unless t

  pub loads_term : (t : Tree) → WellFormed t → length (written t) ≤ table.capacity → lacking table.has t ≡ None → expansion_of table (written t) ≡ Ok (record { term = t; uses = 0 })
  loads_term t formed few had = expansion_of_lem t formed few ∙ ap (unless t) had

  -- what is loaded is a term within the capacity, of the stepper's forms, and expands to itself
  pub record Loadable (words : List ℕ) (e : Expanded) : Type 0 where
    pub formed : WellFormed e.term
    pub spelled : written e.term ≡ words
    pub few : length words ≤ table.capacity
    pub had : lacking table.has e.term ≡ None
    pub none_used : e ≡ record { term = e.term; uses = 0 }

  unless_means : (t : Tree) (e : Expanded) (o : Option ℕ) → unless t o ≡ Ok e → (o ≡ None) × (e ≡ record { term = t; uses = 0 })
  unless_means t e None h = (refl, cc)
  unless_means t e (Some place) h = apart (cc)

  judged_means : (words : List ℕ) (e : Expanded) (b : Bool) (r : Result (Unit {0}) Broken) → nat_le (length words) table.capacity ≡ b → wholly false words ≡ r → judged b r (term_of words) ≡ Ok e → Loadable words e
  judged_means words e false r few whole h = apart (cc)
  judged_means words e true (Err b) few whole h = apart (cc)
  judged_means words e true (Ok x) few whole h =
      let found = term_whole words x whole in
      let t = found.0 in
      let term : term_of words ≡ Some t = ap term_of (sym found.2) ∙ term_read t false found.1 in
      let is = unless_means t e (lacking table.has t) (sym (itself-unless t) ∙ ap (itself table.has) (sym term) ∙ h) in
      let same : e.term ≡ t = ap (λ x. x.term) is.1 in
      record {
        formed = subst WellFormed (sym same) found.1;
        spelled = ap written same ∙ found.2;
        few = leb-true (length words) table.capacity few;
        had = ap (lacking table.has) same ∙ is.0;
        none_used = is.1 ∙ ap (λ u. record { term = u; uses = 0 }) (sym same);
      }

  pub loadable : (words : List ℕ) (e : Expanded) → expansion_of table words ≡ Ok e → Loadable words e
  loadable words e h =
      judged_means words e (nat_le (length words) table.capacity) (wholly false words) refl refl (sym (expansion_judged words) ∙ h)

  -- a term expands to itself alone
  pub expands_to : (u t : Tree) → WellFormed u → Expands (meaning_of table) u t → u ≡ t
  expands_to u t formed h =
      let l = loadable (written u) h.0 h.1 in
      let same : Some u ≡ Some h.0.term = sym (term_read u false formed) ∙ ap term_of (sym l.spelled) ∙ term_read h.0.term false l.formed in
      let found = h.2 in
      cc

  -- the laws of a stepper's meaning
  pub laws_of : Sound table → Laws (meaning_of table)
  laws_of sound = record {
    one_term = λ t u v formed other h k. expands_to u t formed h ∙ sym (expands_to v t other k);
    loads_core = λ words e h. let l = loadable words e h in ap (expansion_of table) l.spelled ∙ h ∙ ap Ok l.none_used;
    core_fits = λ t h. let l = loadable (written t) (record { term = t; uses = 0 }) h in (l.formed, l.few);
    next_loads = λ t next image effect h rule few. let l = loadable (written t) (record { term = t; uses = 0 }) h in let kept = next_kept table sound t next image effect l.formed rule in loads_term next kept.0 few (kept.1 l.had);
    marks_change_nothing = λ t image h. rule-bare table t image;
    plain_is_held = λ u t formed unmarked h. ap bare (sym (expands_to u t formed h)) ∙ bare_same u unmarked;
  }

module _ (table : Table) where
  -- what a machine may hold: nothing, or words that the stepper loads
  pub data Held (words : List ℕ) : Type 0 where
    empty : words ≡ [] → Held words
    loads : (e : Expanded) → expansion_of table words ≡ Ok e → Held words

  ok_loads : (words : List ℕ) (r : Result Expanded Refusal) → expansion_of table words ≡ r → is_ok r ≡ true → Held words
  ok_loads words (Ok e) v h = loads e v
  ok_loads words (Err refusal) v h = apart (cc)

  pub held_words : (words : List ℕ) → holdable_by table words ≡ true → Held words
  unfolding holdable_by
  held_words [] h = empty refl
  held_words (w ∷ ws) h = ok_loads (w ∷ ws) (expansion_of table (w ∷ ws)) refl h

  -- what the stepper loads may be held
  pub loaded_holdable : (words : List ℕ) (e : Expanded) → expansion_of table words ≡ Ok e → holdable_by table words ≡ true
  unfolding holdable_by
  loaded_holdable [] e h = refl
  loaded_holdable (w ∷ ws) e h = ap is_ok h

  -- nothing may be held
  pub holdable_none : (words : List ℕ) → words ≡ [] → holdable_by table words ≡ true
  unfolding holdable_by
  holdable_none words e = ap (holdable_by table) e
