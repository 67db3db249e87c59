-- One word: its label and payload, and the node that it stands for.
use Rattle.std.specs.Prelude.{ℕ, ◌+◌, ◌*◌, ◌/◌, ◌%◌, Bool, cond, ◌&&◌, Some, None, Option, ◌==◌, nat_le, nat_lt}
use Rattle.terms.specs.declared.words.Node.{Node}
use Rattle.terms.specs.declared.words.Node.TheVariants.{Atom, Variable, Body, Head, Form}

abbrev pub word : ℕ → ℕ → ℕ
word label payload = label * 16777216 + payload

-- a label, 0 to 255, and a payload, 0 to 16,777,215
abbrev pub is_parts : ℕ → ℕ → Bool
is_parts label payload = nat_le label 255 && nat_le payload 16777215

-- a layer's number
abbrev pub is_layer : ℕ → Bool
is_layer k = nat_le 1 k && nat_le k 6

-- a head mark's payload is layer × 65,536 + rule × 256 + dropped
abbrev pub head_payload : ℕ → ℕ → ℕ → ℕ
head_payload layer rule dropped = layer * 65536 + rule * 256 + dropped

abbrev pub is_head : ℕ → ℕ → ℕ → Bool
is_head layer rule dropped = is_layer layer && nat_lt rule 32 && nat_le dropped 8

abbrev pub head_at : ℕ → Option Node
head_at p = cond (is_head (p / 65536) (p / 256 % 256) (p % 256)) (Some (Head (p / 65536) (p / 256 % 256) (p % 256))) None

abbrev pub is_form_label : ℕ → Bool
is_form_label l = nat_le 16 l && nat_le l 255

abbrev pub form_at : ℕ → ℕ → Option Node
form_at l n = cond (is_form_label l && nat_le n 8) (Some (Form l n)) None

-- by the label: 0 an atom, 2 a variable, 3 a body mark, 4 a head mark, 16 to 255 a form
abbrev pub node_at : ℕ → ℕ → Option Node
node_at l p =
    cond (l == 0) (Some (Atom p))
    (cond (l == 2) (cond (nat_lt p 8) (Some (Variable p)) None)
    (cond (l == 3) (cond (is_layer p) (Some (Body p)) None)
    (cond (l == 4) (head_at p)
    (form_at l p))))

abbrev pub node_of : ℕ → Option Node
node_of w = node_at (w / 16777216) (w % 16777216)

-- how many children follow a node
abbrev pub arity_of : Node → ℕ
arity_of (Atom v) = 0
arity_of (Variable n) = 0
arity_of (Body k) = 1
arity_of (Head k r d) = d + 1
arity_of (Form l n) = n
