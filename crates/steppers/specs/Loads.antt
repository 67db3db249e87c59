-- What a stepper loads, and its meaning as a language.
use Rattle.std.specs.Prelude.{ℕ, ◌+◌, Bool, true, false, cond, List, [], ◌∷◌, length, is_ok, Some, None, Ok, Err, Option, Result, nat_le}
use Rattle.terms.specs.Trees.{Tree, Trees, atom, variable, body, head, form, none, more, count, written, written_all, term_of}
use Rattle.terms.specs.Fronts.{wholly}
use Rattle.languages.specs.declared.refusal.Refusal.{Refusal}
use Rattle.languages.specs.declared.refusal.Refusal.TheVariants.{TooLong, NoTerm, NoSuchForm}
use Rattle.languages.specs.Meaning.{Expanded, Meaning}
use Rattle.steppers.specs.Table.{Table}
use Rattle.steppers.specs.Steps.{rule_of}

abbrev pub behind : ℕ → Option ℕ → Option ℕ
behind n None = None
behind n (Some place) = Some (n + place)

abbrev pub or_else : Option ℕ → Option ℕ → Option ℕ
or_else None o = o
or_else (Some place) o = Some place

-- the place of the first form outside dropped terms that the stepper lacks
unfoldable mutual
  pub lacking : (ℕ → ℕ → Bool) → Tree → Option ℕ
  lacking has (atom v) = None
  lacking has (variable n) = None
  lacking has (body k t) = behind 1 (lacking has t)
  lacking has (head k r ds t) = behind (1 + length (written_all ds)) (lacking has t)
  lacking has (form l ts) = elim (has l (count ts)) [ false ↦ Some 0 | true ↦ behind 1 (lacking_all has ts) ]

  pub lacking_all : (ℕ → ℕ → Bool) → Trees → Option ℕ
  lacking_all has none = None
  lacking_all has (more t ts) = or_else (lacking has t) (behind (length (written t)) (lacking_all has ts))

-- a term expands to itself with 0 uses, if the stepper has its forms
abbrev pub itself : (ℕ → ℕ → Bool) → Option Tree → Result Expanded Refusal
itself has None = Err (NoTerm 0 0)
itself has (Some t) = elim (lacking has t) [ None ↦ Ok (record { term = t; uses = 0 }) | Some place ↦ Err (NoSuchForm place) ]

-- The stepper's expansion: refused past the capacity, then where the words are not one term, then at a form that it lacks.
unfoldable pub expansion_of : Table → List ℕ → Result Expanded Refusal
unfolding wholly term_of lacking
expansion_of table words =
    cond (nat_le (length words) table.capacity) (elim (wholly false words) [ Err b ↦ Err (NoTerm 0 b.place) | Ok x ↦ itself table.has (term_of words) ]) (Err (TooLong 0 table.capacity))

-- no words, or words that the stepper loads
unfoldable pub holdable_by : Table → List ℕ → Bool
unfolding expansion_of
holdable_by table [] = true
holdable_by table (w ∷ ws) = is_ok (expansion_of table (w ∷ ws))

-- the meaning of the machine that holds this stepper's term
abbrev pub meaning_of : Table → Meaning
meaning_of table = record { height = 0; capacity = table.capacity; expansion = expansion_of table; base = expansion_of table; plain = λ t. t; rule = rule_of table }
