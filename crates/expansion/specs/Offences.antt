-- The first word of a term, outside dropped and to-be-dropped parts, at which a layer refuses it.
use Rattle.std.specs.Prelude.{◌≡◌, ℕ, ◌+◌, ◌<◌, ◌≤◌, true, false, ◌⊎◌, List, length, Some, None, Option, nat_le}
use Rattle.terms.specs.Trees.{Tree, Trees, atom, variable, body, head, form, none, more, written, written_all}
use Rattle.lists.specs.Lines.{owned}
use Rattle.expansion.specs.Rules.{Rule}
use Rattle.expansion.specs.Matches.{Numbered, matching, lost}

-- a mark of layer k or lower, or an owned form without a matching rule, at a place
pub data Offence : Type 0 where
  mark : ℕ → Offence
  unmatched : ℕ → Offence

-- so many words further on
abbrev pub moved : ℕ → Offence → Offence
moved n (mark place) = mark (n + place)
moved n (unmatched place) = unmatched (n + place)

abbrev pub later : ℕ → Option Offence → Option Offence
later n None = None
later n (Some o) = Some (moved n o)

abbrev pub or_else : Option Offence → Option Offence → Option Offence
or_else None o = o
or_else (Some f) o = Some f

unfoldable mutual
  pub offence : ℕ → List Rule → Tree → Option Offence
  offence k rules (atom v) = None
  offence k rules (variable n) = None
  offence k rules (body j t) = elim (nat_le j k) [ true ↦ Some (mark 0) | false ↦ later 1 (offence k rules t) ]
  offence k rules (head j r ds t) = elim (nat_le j k) [ true ↦ Some (mark 0) | false ↦ later (1 + length (written_all ds)) (offence k rules t) ]
  offence k rules (form l ts) =
      elim (owned k l) [ false ↦ later 1 (offences k rules ts) | true ↦ elim (matching 0 rules l ts) [ None ↦ Some (unmatched 0) | Some m ↦ later 1 (offences_kept k rules m.rule.right m.rule.arguments ts) ] ]

  pub offences : ℕ → List Rule → Trees → Option Offence
  offences k rules none = None
  offences k rules (more t ts) = or_else (offence k rules t) (later (length (written t)) (offences k rules ts))

  -- the children of an owned form, those that its rule drops passed over
  pub offences_kept : ℕ → List Rule → Tree → Trees → Trees → Option Offence
  offences_kept k rules right arguments none = None
  offences_kept k rules right none (more t ts) = None
  offences_kept k rules right (more a rest) (more t ts) =
      or_else (elim (lost right a) [ true ↦ None | false ↦ offence k rules t ]) (later (length (written t)) (offences_kept k rules right rest ts))

-- where an offence stands
abbrev pub place_of : Offence → ℕ
place_of (mark place) = place
place_of (unmatched place) = place

-- Some word of the term offends, outside dropped terms and the trees that a rule is to drop: a mark of layer k or lower, or an owned form that no rule matches.
unfoldable mutual
  pub Offends : ℕ → List Rule → Tree → Offence → Type 0
  Offends k rules (atom v) o = ⊥
  Offends k rules (variable n) o = ⊥
  Offends k rules (body j t) o = ((j ≤ k) × (o ≡ mark 0)) ⊎ ((k < j) × ((f : Offence) × Offends k rules t f × (o ≡ moved 1 f)))
  Offends k rules (head j r ds t) o = ((j ≤ k) × (o ≡ mark 0)) ⊎ ((k < j) × ((f : Offence) × Offends k rules t f × (o ≡ moved (1 + length (written_all ds)) f)))
  Offends k rules (form l ts) o =
      ((owned k l ≡ false) × ((f : Offence) × OffendsIn k rules ts f × (o ≡ moved 1 f)))
      ⊎ (((owned k l ≡ true) × (matching 0 rules l ts ≡ None) × (o ≡ unmatched 0))
      ⊎ ((owned k l ≡ true) × ((m : Numbered) × (matching 0 rules l ts ≡ Some m) × ((f : Offence) × OffendsKept k rules m.rule.right m.rule.arguments ts f × (o ≡ moved 1 f)))))

  -- in one of the trees
  pub OffendsIn : ℕ → List Rule → Trees → Offence → Type 0
  OffendsIn k rules none o = ⊥
  OffendsIn k rules (more t ts) o = Offends k rules t o ⊎ ((f : Offence) × OffendsIn k rules ts f × (o ≡ moved (length (written t)) f))

  -- in one of the children that the rule keeps
  pub OffendsKept : ℕ → List Rule → Tree → Trees → Trees → Offence → Type 0
  OffendsKept k rules right arguments none o = ⊥
  OffendsKept k rules right none (more t ts) o = ⊥
  OffendsKept k rules right (more a rest) (more t ts) o =
      ((lost right a ≡ false) × Offends k rules t o) ⊎ ((f : Offence) × OffendsKept k rules right rest ts f × (o ≡ moved (length (written t)) f))
