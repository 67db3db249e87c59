-- The line of a rule: what it says that fits, and what fits; and the lines of all rules.
use Rattle.std.proofs.Common.{◌≡◌, ℕ, ◌+◌, ◌*◌, ◌<◌, ◌≤◌, Bool, true, false, cond, ◌&&◌, eqb, leb, List, [], ◌∷◌, ◌++◌, length, take, drop, Some, None, Option, sym, refl, ap, ◌∙◌, subst, add-one, arith}
use Rattle.std.specs.List.{AllByRecursion}
use Rattle.std.proofs.lemmas.List.{take-append-drop, length-take-le, length-drop, length-append, length_push, take_at, drop_at}
use Rattle.std.proofs.lemmas.Bool.{and_parts, leb-true, eqb-true}
use Rattle.lists.specs.declared.refusal.Place.TheVariants as place
use Rattle.texts.specs.Texts.{Reading, head_line, form_line, table_line, rule_line, broken_line}
use Rattle.lists.specs.Lines.{Sides, within, sides_from, words_of, rule_of, rule_of_line}
use Rattle.lists.specs.Spelling.{word_fields, rule_says, rules_say}
use Rattle.std.proofs.lemmas.Option.{same_Some, none-some}
use Rattle.lists.proofs.Keeping.{ReadAs}
use Rattle.lists.proofs.Worded.{fields_of_words, words_of_fields, fields_length}
use Rattle.lists.proofs.Wording.{rule_is}

-- 1 to 9 words on the left, 1 to 64 on the right
abbrev pub Sized : Sides → Type 0
Sized s = (1 ≤ length s.left) × (length s.left ≤ 9) × (1 ≤ length s.right) × (length s.right ≤ 64)

-- an answer under a test, of two sides
two_sides : (t : Bool) (l r : Option (List ℕ)) (s : Sides) → cond t (sides_from l r) None ≡ Some s → (t ≡ true) × (l ≡ Some s.left) × (r ≡ Some s.right)
two_sides false l r s e = absurd (none-some _ e)
two_sides true None r s e = absurd (none-some _ e)
two_sides true (Some l) None s e = absurd (none-some _ e)
two_sides true (Some l) (Some r) s e = let same = same_Some _ _ e in (refl, ap (λ (x : Sides). Some x.left) same, ap (λ (x : Sides). Some x.right) same)

rule_of_says : (k n a b : ℕ) (ns : List ℕ) (s : Sides) → rule_of k (n ∷ a ∷ b ∷ ns) ≡ Some s → (rule_line (n ∷ a ∷ b ∷ ns) ≡ rule_says k s) × Sized s
rule_of_says k n a b ns s e =
    let t = two_sides (eqb n k && within 1 9 a && within 1 64 b && eqb (length ns) (2 * (a + b))) (words_of (take (2 * a) ns)) (words_of (drop (2 * a) ns)) s e in
    let tests = and_parts (eqb n k && within 1 9 a && within 1 64 b) (eqb (length ns) (2 * (a + b))) t.0 in
    let three = and_parts (eqb n k && within 1 9 a) (within 1 64 b) tests.0 in
    let two = and_parts (eqb n k) (within 1 9 a) three.0 in
    let lefts = and_parts (leb 1 a) (leb a 9) two.1 in
    let rights = and_parts (leb 1 b) (leb b 64) three.1 in
    let number = eqb-true n k two.0 in
    let long = eqb-true (length ns) (2 * (a + b)) tests.1 in
    let left = fields_of_words (take (2 * a) ns) s.left t.1 in
    let right = fields_of_words (drop (2 * a) ns) s.right t.2 in
    let left_long : length s.left ≡ a = omega (arith, left.1, length-take-le (2 * a) ns (omega arith)) in
    let right_long : length s.right ≡ b = omega (arith, right.1, length-drop (2 * a) ns) in
    let fields : ns ≡ word_fields s.left ++ word_fields s.right = sym (take-append-drop (2 * a) ns) ∙ (λ i. left.0 i ++ right.0 i) in (
      (λ i. rule_line (number i ∷ sym left_long i ∷ sym right_long i ∷ fields i)),
      (omega (arith, leb-true 1 a lefts.0), omega (arith, leb-true a 9 lefts.1), omega (arith, leb-true 1 b rights.0), omega (arith, leb-true b 64 rights.1)),
    )

pub rule_says_lem : (k : ℕ) (r : Reading) (s : Sides) → rule_of_line k r ≡ Some s → (r ≡ rule_says k s) × Sized s
rule_says_lem k (rule_line []) s e = absurd (none-some _ e)
rule_says_lem k (rule_line (n ∷ [])) s e = absurd (none-some _ e)
rule_says_lem k (rule_line (n ∷ a ∷ [])) s e = absurd (none-some _ e)
rule_says_lem k (rule_line (n ∷ a ∷ b ∷ ns)) s e = rule_of_says k n a b ns s e
rule_says_lem k (head_line ns) s e = absurd (none-some _ e)
rule_says_lem k (form_line ns) s e = absurd (none-some _ e)
rule_says_lem k (table_line ns) s e = absurd (none-some _ e)
rule_says_lem k broken_line s e = absurd (none-some _ e)

-- the words fit 32 bits
abbrev pub InWords : Sides → Type 0
InWords s = AllByRecursion (λ w. w < 4294967296) s.left × AllByRecursion (λ w. w < 4294967296) s.right

pub rule_fits : (k : ℕ) (s : Sides) → Sized s → InWords s → rule_of_line k (rule_says k s) ≡ Some s
rule_fits k s sized words =
    let ls = word_fields s.left in
    let rs = word_fields s.right in
    let left_long = fields_length s.left in
    let right_long = fields_length s.right in
    let long : length (ls ++ rs) ≡ 2 * (length s.left + length s.right) = omega (arith, length-append ls rs) in
    rule_is k (k ∷ length s.left ∷ length s.right ∷ (ls ++ rs)) (omega arith) refl sized.0 sized.1 sized.2 sized.3 long
    ∙ (λ i. sides_from (words_of (take_at ls rs (2 * length s.left) left_long i)) (words_of (drop_at ls rs (2 * length s.left) left_long i)))
    ∙ (λ i. sides_from (words_of_fields s.left words.0 i) (words_of_fields s.right words.1 i))

abbrev pub RulesRead : List Sides → List Sides → List Reading → Type 0
RulesRead = ReadAs (λ i. place.Rule i) (λ read. rule_of_line (length read))

pub rules_said : (read xs : List Sides) (rs : List Reading) → RulesRead read xs rs → (rs ≡ rules_say (length read) xs) × AllByRecursion Sized xs
rules_said read [] [] p = (refl, tt)
rules_said read [] (r ∷ rs) p = absurd p
rules_said read (x ∷ xs) [] p = absurd p
rules_said read (x ∷ xs) (r ∷ rs) p =
    let here = rule_says_lem (length read) r x p.0 in
    let rest = rules_said (read ++ x ∷ []) xs rs p.1 in
    let next = length_push read x ∙ add-one (length read) in
    ((λ i. here.0 i ∷ (rest.0 ∙ ap (λ n. rules_say n xs) next) i), (here.1, rest.1))

pub said_rules : (read xs : List Sides) → AllByRecursion Sized xs → AllByRecursion InWords xs → RulesRead read xs (rules_say (length read) xs)
said_rules read [] p q = tt
said_rules read (x ∷ xs) p q =
    let next = length_push read x ∙ add-one (length read) in
    (rule_fits (length read) x p.0 q.0, subst (λ n. RulesRead (read ++ x ∷ []) xs (rules_say n xs)) next (said_rules (read ++ x ∷ []) xs p.1 q.1))
