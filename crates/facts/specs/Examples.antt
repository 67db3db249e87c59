-- The worked examples, with their texts and words written out.
use Rattle.std.specs.Prelude.{◌≡◌, ℕ, List, [], ◌∷◌, ◌++◌, length, Some, None, Ok, Err, codes, Option}
use Rattle.lists.specs.declared.refusal.Refusal.TheVariants.{Overlap}
use Rattle.lists.specs.Refusals.{fault_of}
use Rattle.lists.specs.declared.parts.Form.{Form}
use Rattle.lists.specs.Lines.{Sides}
use Rattle.lists.specs.Acceptance.{Listed, accepted}
use Rattle.terms.specs.Words.{word}
use Rattle.terms.specs.Trees.{Tree, atom, form, none, more, written}
use Rattle.languages.specs.Meaning.{moved}
use Rattle.languages.specs.declared.refusal.Refusal.TheVariants.{NoTerm, Unmatched}
use Rattle.expansion.specs.Rules.{rules_of}
use Rattle.expansion.specs.Expansion.{plain}
use Rattle.expansion.specs.Loads.{expansion_by}
use Rattle.steppers.specs.Steps.{rule_of}
use Rattle.steppers.specs.Loads.{expansion_of}
use Rattle.steppers.specs.Sequence.{sequence_table}

-- bytes and the byte 10 that ends a line
abbrev line : List ℕ → List ℕ
line bytes = bytes ++ 10 ∷ []

-- one form, 66 with 2 children, and two rules
abbrev pub pick_header : List ℕ
pick_header = line (codes "head,1,1,2") ++ line (codes "form,66,2")

-- PICK(0, a) to SEQ(SET 1, a), and PICK(a, b) to SEQ(NOP, b)
abbrev pub pick_table : List ℕ
pick_table =
    line (codes "table,1,2")
    ++ line (codes "rule,0,3,4,66,2,0,0,2,0,32,2,33,1,0,1,2,0")
    ++ line (codes "rule,1,3,3,66,2,2,0,2,1,32,2,38,0,2,1")

-- a second rule for PICK with two variables overlaps the first: cause 15 at its line, place 1,003
abbrev pub ASecondPickOverlaps : Type 0
ASecondPickOverlaps = (accepted pick_header pick_table ≡ Err (Overlap 1)) × (fault_of (Overlap 1) ≡ record { cause = 15; layer = 9; place = 1003 })

-- a repetition of NOP, as often as the count says
abbrev pub repetition : ℕ → Tree
repetition n = form 36 (more (atom n) (more (form 38 none) none))

-- 36:2 0:2 38:0 is the repetition of NOP, twice. It steps to 32:2 38:0 36:2 0:1 38:0: NOP, and then the repetition, once.
abbrev pub ARepetitionSteps : Type 0
ARepetitionSteps =
    (expansion_of sequence_table (word 36 2 ∷ word 0 2 ∷ word 38 0 ∷ []) ≡ Ok (record { term = repetition 2; uses = 0 }))
    × ((image : ℕ) → rule_of sequence_table (repetition 2) image ≡ moved 0 (form 32 (more (form 38 none) (more (repetition 1) none))))
    × (written (form 32 (more (form 38 none) (more (repetition 1) none))) ≡ word 32 2 ∷ word 38 0 ∷ word 36 2 ∷ word 0 1 ∷ word 38 0 ∷ [])

-- the list G, layer 1: GO(a, b) to SEQ(SET a, AWAIT b), NOTE(a, b) to SEQ(NOP, b), PICK(0, a) to SEQ(SET 1, a), PICK(1, a) to SEQ(SET 2, a)
abbrev pub g_header : List ℕ
g_header = line (codes "head,1,3,4") ++ line (codes "form,64,2") ++ line (codes "form,65,2") ++ line (codes "form,66,2")

abbrev pub g_table : List ℕ
g_table =
    line (codes "table,1,4")
    ++ line (codes "rule,0,3,5,64,2,2,0,2,1,32,2,33,1,2,0,35,1,2,1")
    ++ line (codes "rule,1,3,3,65,2,2,0,2,1,32,2,38,0,2,1")
    ++ line (codes "rule,2,3,4,66,2,0,0,2,0,32,2,33,1,0,1,2,0")
    ++ line (codes "rule,3,3,4,66,2,0,1,2,0,32,2,33,1,0,2,2,0")

abbrev declares : ℕ → ℕ → Form
declares l n = record { label = l; count = n }

abbrev sides : List ℕ → List ℕ → Sides
sides left right = record { left = left; right = right }

abbrev pub list_g : Listed
list_g = record {
  layer = 1;
  forms = declares 64 2 ∷ declares 65 2 ∷ declares 66 2 ∷ [];
  rules = sides (word 64 2 ∷ word 2 0 ∷ word 2 1 ∷ []) (word 32 2 ∷ word 33 1 ∷ word 2 0 ∷ word 35 1 ∷ word 2 1 ∷ []) ∷ sides (word 65 2 ∷ word 2 0 ∷ word 2 1 ∷ []) (word 32 2 ∷ word 38 0 ∷ word 2 1 ∷ []) ∷ sides (word 66 2 ∷ word 0 0 ∷ word 2 0 ∷ []) (word 32 2 ∷ word 33 1 ∷ word 0 1 ∷ word 2 0 ∷ []) ∷ sides (word 66 2 ∷ word 0 1 ∷ word 2 0 ∷ []) (word 32 2 ∷ word 33 1 ∷ word 0 2 ∷ word 2 0 ∷ []) ∷ [];
}

-- the list H, layer 2: STROKE(a, b, c, d) to SEQ(GO(a, b), GO(c, d))
abbrev pub h_header : List ℕ
h_header = line (codes "head,2,1,1") ++ line (codes "form,96,4")

abbrev pub h_table : List ℕ
h_table = line (codes "table,2,1") ++ line (codes "rule,0,5,7,96,4,2,0,2,1,2,2,2,3,32,2,64,2,2,0,2,1,64,2,2,2,2,3")

abbrev pub list_h : Listed
list_h = record {
  layer = 2;
  forms = declares 96 4 ∷ [];
  rules = sides (word 96 4 ∷ word 2 0 ∷ word 2 1 ∷ word 2 2 ∷ word 2 3 ∷ []) (word 32 2 ∷ word 64 2 ∷ word 2 0 ∷ word 2 1 ∷ word 64 2 ∷ word 2 2 ∷ word 2 3 ∷ []) ∷ [];
}

abbrev pub GAndHAreAccepted : Type 0
GAndHAreAccepted = (accepted g_header g_table ≡ Ok list_g) × (accepted h_header h_table ≡ Ok list_h)

-- the words of an expansion and its rule uses, if words have one
abbrev pub expands : Listed → ℕ → List ℕ → Option (List ℕ × ℕ)
expands l height words = elim (expansion_by l height words) [ Ok e ↦ Some (written e.term, e.uses) | Err refusal ↦ None ]

-- 64:2 0:3 0:7 expands to nine words with one use
abbrev pub AGoExpands : Type 0
AGoExpands =
    expands list_g 0 (word 64 2 ∷ word 0 3 ∷ word 0 7 ∷ []) ≡ Some (word 4 65536 ∷ word 3 1 ∷ word 32 2 ∷ word 3 1 ∷ word 33 1 ∷ word 0 3 ∷ word 3 1 ∷ word 35 1 ∷ word 0 7 ∷ [], 1)

-- 65:2 0:9 64:2 0:3 0:7 expands to fifteen words with two uses, the first 4:65793 0:9
abbrev pub ANoteDropsItsFirst : Type 0
ANoteDropsItsFirst =
    expands list_g 0 (word 65 2 ∷ word 0 9 ∷ word 64 2 ∷ word 0 3 ∷ word 0 7 ∷ []) ≡ Some (word 4 65793 ∷ word 0 9 ∷ word 3 1 ∷ word 32 2 ∷ word 3 1 ∷ word 38 0 ∷ word 4 65536 ∷ word 3 1 ∷ word 32 2 ∷ word 3 1 ∷ word 33 1 ∷ word 0 3 ∷ word 3 1 ∷ word 35 1 ∷ word 0 7 ∷ [], 2)

-- 66:2 0:2 38:0 meets no rule: cause 24, layer 1, place 0; 64:2 0:3 ends early: cause 22, place 2; no words: cause 22, place 0
abbrev pub GRefuses : Type 0
GRefuses =
    (expansion_by list_g 0 (word 66 2 ∷ word 0 2 ∷ word 38 0 ∷ []) ≡ Err (Unmatched 1 0))
    × (expansion_by list_g 0 (word 64 2 ∷ word 0 3 ∷ []) ≡ Err (NoTerm 1 2))
    × (expansion_by list_g 0 [] ≡ Err (NoTerm 1 0))

-- 96:4 0:3 0:7 0:4 0:8, and its expansions by H, and then by G
abbrev pub stroke : List ℕ
stroke = word 96 4 ∷ word 0 3 ∷ word 0 7 ∷ word 0 4 ∷ word 0 8 ∷ []

abbrev pub stroke_by_h : List ℕ
stroke_by_h = word 4 131072 ∷ word 3 2 ∷ word 32 2 ∷ word 3 2 ∷ word 64 2 ∷ word 0 3 ∷ word 0 7 ∷ word 3 2 ∷ word 64 2 ∷ word 0 4 ∷ word 0 8 ∷ []

abbrev pub stroke_by_both : List ℕ
stroke_by_both = word 4 131072 ∷ word 3 2 ∷ word 32 2 ∷ word 3 2 ∷ word 4 65536 ∷ word 3 1 ∷ word 32 2 ∷ word 3 1 ∷ word 33 1 ∷ word 0 3 ∷ word 3 1 ∷ word 35 1 ∷ word 0 7 ∷ word 3 2 ∷ word 4 65536 ∷ word 3 1 ∷ word 32 2 ∷ word 3 1 ∷ word 33 1 ∷ word 0 4 ∷ word 3 1 ∷ word 35 1 ∷ word 0 8 ∷ []

abbrev pub stroke_term : Tree
stroke_term = form 96 (more (atom 3) (more (atom 7) (more (atom 4) (more (atom 8) none))))

-- by both it has 23 words and three uses, one of H and two of G; without marks it has 11 words
abbrev pub AStrokeExpandsByBoth : Type 0
AStrokeExpandsByBoth =
    (expands list_h 1 stroke ≡ Some (stroke_by_h, 1))
    × (expands list_g 0 stroke_by_h ≡ Some (stroke_by_both, 2))
    × (length stroke_by_both ≡ 23)
    × (written stroke_term ≡ stroke)
    × (length (written (plain 1 (rules_of list_g) (plain 2 (rules_of list_h) stroke_term))) ≡ 11)
