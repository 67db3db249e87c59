-- The two sides of a rule: their shape, their variables, and what two left sides have in common.
use Rattle.std.specs.Prelude.{ℕ, ◌+◌, ◌*◌, Bool, true, false, not, ◌&&◌, ◌||◌, List, [], ◌∷◌, length, Some, None, Option, ◌==◌, nat_eq, nat_lt}
use Rattle.std.specs.List.{list_all, list_any}
use Rattle.terms.specs.declared.words.Node.{Node}
use Rattle.terms.specs.declared.words.Node.TheVariants.{Atom, Variable, Body, Head, Form}
use Rattle.terms.specs.Words.{word, node_of}
use Rattle.terms.specs.Fronts.{is_tree}
use Rattle.lists.specs.declared.parts.Form as declared
use Rattle.lists.specs.Lines.{Sides}

abbrev pub is_atom : Option Node → Bool
is_atom None = false
is_atom (Some (Atom v)) = true
is_atom (Some (Variable n)) = false
is_atom (Some (Body k)) = false
is_atom (Some (Head k r d)) = false
is_atom (Some (Form l n)) = false

abbrev pub is_variable : Option Node → Bool
is_variable None = false
is_variable (Some (Atom v)) = false
is_variable (Some (Variable n)) = true
is_variable (Some (Body k)) = false
is_variable (Some (Head k r d)) = false
is_variable (Some (Form l n)) = false

-- a form whose label is below the first that layer k owns
abbrev pub is_lower_form : ℕ → Option Node → Bool
is_lower_form k None = false
is_lower_form k (Some (Atom v)) = false
is_lower_form k (Some (Variable n)) = false
is_lower_form k (Some (Body j)) = false
is_lower_form k (Some (Head j r d)) = false
is_lower_form k (Some (Form l n)) = nat_lt l (32 + 32 * k)

-- an argument of a left side: a variable or an atom
abbrev pub is_argument : ℕ → Bool
is_argument w = is_variable (node_of w) || is_atom (node_of w)

-- a word of a right side: a variable, an atom or a lower form
abbrev pub on_right : ℕ → ℕ → Bool
on_right k w = is_argument w || is_lower_form k (node_of w)

abbrev pub form_word : declared.Form → ℕ
form_word f = word f.label f.count

-- a left side: a declared form with its declared count, and that many arguments
abbrev pub left_shaped : List declared.Form → List ℕ → Bool
left_shaped forms [] = false
left_shaped forms (w ∷ args) = list_any (λ f. (form_word f == w) && length args == f.count) forms && list_all is_argument args

-- a right side: one tree of atoms, variables and lower forms, its root a form
abbrev pub right_shaped : ℕ → List ℕ → Bool
right_shaped k [] = false
right_shaped k (w ∷ ws) = is_lower_form k (node_of w) && list_all (on_right k) ws && is_tree (w ∷ ws)

abbrev pub shaped : ℕ → List declared.Form → Sides → Bool
shaped k forms s = left_shaped forms s.left && right_shaped k s.right

-- the word stands among the words
abbrev pub holds : List ℕ → ℕ → Bool
holds ws w = list_any (nat_eq w) ws

-- a variable that stands again behind
abbrev pub repeated : List ℕ → ℕ → Bool
repeated behind w = is_variable (node_of w) && holds behind w

-- no variable stands twice
unfoldable pub once_each : List ℕ → Bool
once_each [] = true
once_each (w ∷ ws) = not (repeated ws w) && once_each ws

-- a variable stands on the left
abbrev pub bound : List ℕ → ℕ → Bool
bound left w = not (is_variable (node_of w)) || holds left w

abbrev pub linear : Sides → Bool
linear s = once_each s.left && once_each s.right && list_all (bound s.left) s.right

-- two different atoms
abbrev pub clash : ℕ → ℕ → Bool
clash v w = is_atom (node_of v) && is_atom (node_of w) && not (v == w)

-- no argument place holds two different atoms
unfoldable pub agree : List ℕ → List ℕ → Bool
agree [] ws = true
agree (v ∷ vs) [] = true
agree (v ∷ vs) (w ∷ ws) = not (clash v w) && agree vs ws

-- two left sides overlap: the same form, and no argument place with two different atoms
abbrev pub overlapping : List ℕ → List ℕ → Bool
overlapping [] ws = false
overlapping (v ∷ vs) [] = false
overlapping (v ∷ vs) (w ∷ ws) = v == w && agree vs ws

-- the rule is for the form
abbrev pub is_for : declared.Form → Sides → Bool
is_for f s = elim s.left [ [] ↦ false | w ∷ ws ↦ nat_eq (form_word f) w ]
