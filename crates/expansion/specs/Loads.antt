-- What a list makes of any words, standing over a language of a given height: the expansion, or the layer's own refusal.
use Rattle.std.specs.Prelude.{ℕ, true, false, cond, List, length, Some, None, Ok, Err, Option, Result, nat_le, nat_lt}
use Rattle.terms.specs.Trees.{Tree, written, term_of}
use Rattle.terms.specs.Fronts.{wholly}
use Rattle.languages.specs.declared.refusal.Refusal.{Refusal}
use Rattle.languages.specs.declared.refusal.Refusal.TheVariants.{NotAbove, TooLong, NoTerm, LowMark, Unmatched, ExpansionTooLong}
use Rattle.languages.specs.Meaning.{Expanded}
use Rattle.lists.specs.Acceptance.{Listed}
use Rattle.expansion.specs.Rules.{Rule, rules_of}
use Rattle.expansion.specs.Expansion.{expanded, uses_of}
use Rattle.expansion.specs.Offences.{Offence, mark, unmatched, offence}

-- an expansion of at most 1,024 words
abbrev pub if_short : ℕ → Expanded → Result Expanded Refusal
if_short k e = cond (nat_le (length (written e.term)) 1024) (Ok e) (Err (ExpansionTooLong k))

-- a term, by its first offence
abbrev pub unless_offence : ℕ → List Rule → Tree → Option Offence → Result Expanded Refusal
unless_offence k rules t None = if_short k (record { term = expanded k rules t; uses = uses_of k rules t })
unless_offence k rules t (Some (mark place)) = Err (LowMark k place)
unless_offence k rules t (Some (unmatched place)) = Err (Unmatched k place)

abbrev pub of_term : ℕ → List Rule → Option Tree → Result Expanded Refusal
of_term k rules None = Err (NoTerm k 0)
of_term k rules (Some t) = unless_offence k rules t (offence k rules t)

-- The layer must stand above the height below; then at most 1,024 words; then one well-formed term; then no offence; then an expansion of at most 1,024 words.
unfoldable pub expansion_by : Listed → ℕ → List ℕ → Result Expanded Refusal
unfolding wholly term_of expanded uses_of offence
expansion_by l height words =
    elim (nat_lt height l.layer) [ false ↦ Err (NotAbove l.layer) | true ↦ elim (nat_le (length words) 1024) [ false ↦ Err (TooLong l.layer 1024) | true ↦ elim (wholly false words) [ Err b ↦ Err (NoTerm l.layer b.place) | Ok x ↦ of_term l.layer (rules_of l) (term_of words) ] ] ]
