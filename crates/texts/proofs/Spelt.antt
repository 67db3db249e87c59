-- A text reads as a list of readings exactly when it spells them, line by line.
use Rattle.std.proofs.Common.{◌≡◌, ℕ, List, [], ◌∷◌, ◌++◌, map, sym, refl, ap, ◌∙◌, arith}
use Rattle.std.specs.List.{AllByRecursion}
use Rattle.std.proofs.lemmas.List.{append_assoc}
use Rattle.texts.specs.Texts.{Reading, broken_line, said, pieces, lines_of, lines, reading, readings}
use Rattle.texts.specs.Laws.{Unbroken}
use Rattle.texts.specs.Spelling.{TextSpelled}
use Rattle.texts.proofs.Cutting.{lines_ended, no_lines}
use Rattle.texts.proofs.Parted.{Without, piece_then, Cut, cut_of}
use Rattle.texts.proofs.Worded.{line_said, line_spelled}

not_broken : (r : Reading) → Unbroken r → broken_line ≡ r → ⊥
not_broken r u e = rw (← e) at u

-- the first line of a text
line_first : (bytes rest : List ℕ) → Without 10 bytes → readings (bytes ++ 10 ∷ rest) ≡ said bytes ∷ readings rest
unfolding readings lines
line_first bytes rest none = rw (piece_then 10 bytes rest none, lines_ended)

-- a text that spells readings reads as them
pub read_if_spelled : (rs : List Reading) (text : List ℕ) → TextSpelled rs text → readings text ≡ rs
read_if_spelled [] text s = ap readings s ∙ no_lines [] refl
read_if_spelled (r ∷ rs) text s =
    let line = line_said r s.0 s.2 in
    let begins : text ≡ line.0 ++ 10 ∷ s.1 = s.3 ∙ ap (λ l. l ++ s.1) line.1 ∙ append_assoc line.0 (10 ∷ []) s.1 in
    let others = read_if_spelled rs s.1 s.4 in
    ap readings begins ∙ line_first line.0 s.1 line.2 ∙ cc

-- the lines of these pieces, read
abbrev said_of : List (List ℕ) → List Reading
said_of ps = map reading (lines_of ps)

-- a text of which nothing is read is empty
none_read : (ps : List (List ℕ)) (text : List ℕ) → Cut 10 text ps → said_of ps ≡ [] → text ≡ []
unfolding lines_of
none_read [] text cut e = absurd cut
none_read ([] ∷ []) text cut e = cut
none_read ((b ∷ bs) ∷ []) text cut e = cc
none_read (p ∷ q ∷ qs) text cut e = cc

-- a text of which a line that is not broken is read begins with that line
one_read : (ps : List (List ℕ)) (text : List ℕ) (r : Reading) (rs : List Reading) → Unbroken r → Cut 10 text ps → said_of ps ≡ r ∷ rs → (bytes : List ℕ) × (rest : List ℕ) × (text ≡ bytes ++ 10 ∷ rest) × (said bytes ≡ r) × (readings rest ≡ rs)
unfolding lines_of readings lines
one_read [] text r rs u cut e = absurd cut
one_read ([] ∷ []) text r rs u cut e = let z : ◌≡◌ {A = ℕ} 0 1 = cc in absurd (omega arith)
one_read ((b ∷ bs) ∷ []) text r rs u cut e = absurd (not_broken r u (cc))
one_read (p ∷ q ∷ qs) text r rs u cut e = (p, cut.0, cut.1, cc, ap said_of cut.2 ∙ cc)

-- a text that reads as readings, none of them broken, spells them
pub spelled_if_read : (rs : List Reading) (text : List ℕ) → AllByRecursion Unbroken rs → readings text ≡ rs → TextSpelled rs text
unfolding readings lines
spelled_if_read [] text u e = none_read (pieces 10 text) text (cut_of 10 text) e
spelled_if_read (r ∷ rs) text u e =
    let first = one_read (pieces 10 text) text r rs u.0 (cut_of 10 text) e in
    let begins : text ≡ (first.0 ++ 10 ∷ []) ++ first.1 = first.2 ∙ sym (append_assoc first.0 (10 ∷ []) first.1) in
    (first.0 ++ 10 ∷ [], first.1, line_spelled first.0 r (not_broken r u.0) first.3, begins, spelled_if_read rs first.1 u.1 first.4)
