-- The expansion of words by a stepper, one way for each answer.
use Rattle.std.proofs.Common.{◌≡◌, ℕ, ◌<◌, ◌≤◌, false, cond, leb, List, length, Some, None, Ok, Err, Option, Result, sym, refl, ap, ◌∙◌}
use Rattle.std.specs.Result.{result_map_both}
use Rattle.std.proofs.lemmas.Bool.{cond-true, cond-false, le-leb, lt-leb}
use Rattle.terms.specs.declared.front.Broken.{Broken}
use Rattle.terms.specs.Trees.{Tree, written, WellMade, term_of}
use Rattle.terms.specs.Fronts.{wholly}
use Rattle.terms.proofs.Readings.{term_read}
use Rattle.languages.specs.declared.refusal.Refusal.{Refusal}
use Rattle.languages.specs.declared.refusal.Refusal.TheVariants.{TooLong, NoTerm, NoSuchForm}
use Rattle.languages.specs.Meaning.{Expanded}
use Rattle.steppers.specs.Table.{Table}
use Rattle.steppers.specs.Loads.{itself, expansion_of}
use Rattle.steppers.specs.Written.{LacksAt, Admitted}

-- the words of a term are those of that term
pub term_of_lem : (words : List ℕ) (t : Tree) → WellMade t false → written t ≡ words → term_of words ≡ Some t
term_of_lem words t h e = ap term_of (sym e) ∙ term_read t false h

-- the expansion, by whether the words are one term
abbrev loaded_by : Table → List ℕ → Result (Unit {0}) Broken → Result Expanded Refusal
loaded_by table words (Err b) = Err (NoTerm 0 b.place)
loaded_by table words (Ok x) = itself table.has (term_of words)

-- the expansion is that, within the capacity
expansion_is : (table : Table) (words : List ℕ) → expansion_of table words ≡ cond (leb (length words) table.capacity) (loaded_by table words (wholly false words)) (Err (TooLong 0 table.capacity))
unfolding expansion_of
expansion_is table words =
    ap (λ r. cond (leb (length words) table.capacity) r (Err (TooLong 0 table.capacity))) (same (wholly false words))
  where
    same : (r : Result (Unit {0}) Broken) → elim r [ Err b ↦ Err (NoTerm 0 b.place) | Ok x ↦ itself table.has (term_of words) ] ≡ loaded_by table words r
    same (Ok x) = refl
    same (Err b) = refl

-- the answer that is left of an expansion
abbrev admits : Result Expanded Refusal → Result (Unit {0}) Refusal
admits r = result_map_both (λ e. tt) (λ e. e) r

module _ (table : Table) (words : List ℕ) where
  -- words past the capacity are refused
  pub too_long : table.capacity < length words → Admitted table words (Err (TooLong 0 table.capacity))
  too_long h = sym (ap admits (expansion_is table words ∙ cond-false _ _ _ (lt-leb (length words) table.capacity h)))

  module _ (h : length words ≤ table.capacity) where
    short : expansion_of table words ≡ loaded_by table words (wholly false words)
    short = expansion_is table words ∙ cond-true _ _ _ (le-leb (length words) table.capacity h)

    -- words that are not one term are refused at the place that cannot stand
    pub no_term : (b : Broken) → wholly false words ≡ Err b → Admitted table words (Err (NoTerm 0 b.place))
    no_term b e = sym (ap admits (short ∙ ap (loaded_by table words) e))

    module _ (x : Unit {0}) (e : wholly false words ≡ Ok x) (t : Tree) (made : WellMade t false) (is : written t ≡ words) where
      -- the search for a form that the stepper lacks decides
      loaded : (o : Option ℕ) → LacksAt table.has words o → expansion_of table words ≡ elim o [ None ↦ Ok (record { term = t; uses = 0 }) | Some place ↦ Err (NoSuchForm place) ]
      loaded o l =
          short
          ∙ ap (loaded_by table words) e
          ∙ ap (itself table.has) (term_of_lem words t made is)
          ∙ ap (λ x. elim x [ None ↦ Ok (record { term = t; uses = 0 }) | Some place ↦ Err (NoSuchForm place) ]) (sym (l t made (sym is)))

      -- a form that the stepper lacks is refused
      pub lacks : (place : ℕ) → LacksAt table.has words (Some place) → Admitted table words (Err (NoSuchForm place))
      lacks place l = sym (ap admits (loaded (Some place) l))

      -- a term without such a form is admitted
      pub lacks_none : LacksAt table.has words None → Admitted table words (Ok tt)
      lacks_none l = sym (ap admits (loaded None l))
