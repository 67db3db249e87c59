-- The first field of a line: what a line says, by the five bytes that it begins with.
use Rattle.std.proofs.Common.{◌≡◌, ℕ, ◌<◌, Bool, true, false, eqb, List, [], ◌∷◌, ◌++◌, length, get_or, take, drop, Some, None, codes, Option, sym, refl, ap, ◌∙◌, arith}
use Rattle.std.proofs.lemmas.List.{take-append-drop}
use Rattle.std.proofs.lemmas.Bool.{eqb-true}
use Rattle.texts.specs.Texts.{Reading, behind, said, numbered, head_line, form_line, table_line, rule_line, broken_line}
use Rattle.texts.specs.Pieces.{Begins}

-- five bytes, one by one
pub five : (bs : List ℕ) (a b c d e : ℕ) → length bs ≡ 5 → get_or bs 0 0 ≡ a → get_or bs 1 0 ≡ b → get_or bs 2 0 ≡ c → get_or bs 3 0 ≡ d → get_or bs 4 0 ≡ e → bs ≡ a ∷ b ∷ c ∷ d ∷ e ∷ []
five [] a b c d e l p q r s t = absurd (omega arith)
five (v ∷ []) a b c d e l p q r s t = absurd (omega arith)
five (v ∷ w ∷ []) a b c d e l p q r s t = absurd (omega arith)
five (v ∷ w ∷ x ∷ []) a b c d e l p q r s t = absurd (omega arith)
five (v ∷ w ∷ x ∷ y ∷ []) a b c d e l p q r s t = absurd (omega arith)
five (v ∷ w ∷ x ∷ y ∷ z ∷ []) a b c d e l p q r s t = cc
five (v ∷ w ∷ x ∷ y ∷ z ∷ u ∷ us) a b c d e l p q r s t = absurd (omega arith)

-- what is behind a front
pub behind_some : (fs bs r : List ℕ) → behind fs bs ≡ Some r → bs ≡ fs ++ r
unfolding behind
behind_some [] bs r e = cc
behind_some (f ∷ fs) [] r e = cc
behind_some (f ∷ fs) (b ∷ bs) r e = by (behind_some fs bs r) (eqb f b) refl e
  where
    by : (behind fs bs ≡ Some r → bs ≡ fs ++ r) → (t : Bool) → eqb f b ≡ t → elim t [ true ↦ behind fs bs | false ↦ None ] ≡ Some r → b ∷ bs ≡ f ∷ (fs ++ r)
    by rest true t e = let same = eqb-true f b t in let tail = rest e in cc
    by rest false t e = cc

not_behind : (fs bs : List ℕ) → ((r : List ℕ) → bs ≡ fs ++ r → ⊥) → behind fs bs ≡ None
not_behind fs bs no_rest = by (behind fs bs) refl
  where
    by : (o : Option (List ℕ)) → behind fs bs ≡ o → o ≡ None
    by None e = refl
    by (Some r) e = absurd (no_rest r (behind_some fs bs r e))

nothing_said : (bs : List ℕ) → ((r : List ℕ) → bs ≡ codes "head," ++ r → ⊥) → ((r : List ℕ) → bs ≡ codes "form," ++ r → ⊥) → ((r : List ℕ) → bs ≡ codes "table," ++ r → ⊥) → ((r : List ℕ) → bs ≡ codes "rule," ++ r → ⊥) → said bs ≡ broken_line
unfolding said
nothing_said bs h f t r = rw (not_behind (codes "head,") bs h, not_behind (codes "form,") bs f, not_behind (codes "table,") bs t, not_behind (codes "rule,") bs r)

pub short_line : (bs : List ℕ) → length bs < 5 → said bs ≡ broken_line
short_line bs l =
    nothing_said bs (λ r e. omega (arith, ap length e)) (λ r e. omega (arith, ap length e)) (λ r e. omega (arith, ap length e)) (λ r e. omega (arith, ap length e))

-- what stands behind the word `table` says
pub table_said : Option (List ℕ) → Reading
table_said (Some fields) = numbered table_line fields
table_said None = broken_line

pub table_at : (fields : List ℕ) → table_said (Some fields) ≡ numbered table_line fields
unfolding table_said
table_at fields = refl

pub table_none : table_said None ≡ broken_line
unfolding table_said
table_none = refl

-- a line of at least five bytes, of which w are the first
module _ (bs w r : List ℕ) (front : w ≡ take 5 bs) (back : r ≡ drop 5 bs) where
  parts : bs ≡ w ++ r
  parts = sym (take-append-drop 5 bs) ∙ cc

  begun : {v : List ℕ} → w ≡ v → bs ≡ v ++ r
  begun e = rw (← e) parts

  pub is_head_lem : w ≡ codes "head," → said bs ≡ numbered head_line r
  unfolding said behind
  is_head_lem e = ap said (begun e)

  pub is_form : w ≡ codes "form," → said bs ≡ numbered form_line r
  unfolding said behind
  is_form e = ap said (begun e)

  pub is_rule : w ≡ codes "rule," → said bs ≡ numbered rule_line r
  unfolding said behind
  is_rule e = ap said (begun e)

  pub is_table : w ≡ codes "table" → said bs ≡ table_said (behind (codes ",") r)
  unfolding said behind table_said
  is_table e = ap said (begun e)

  pub no_word : Begins w None → said bs ≡ broken_line
  no_word told =
      nothing_said bs (λ s e. told.0 (front ∙ ap (take 5) e)) (λ s e. told.1 (front ∙ ap (take 5) e)) (λ s e. told.2 (front ∙ ap (take 5) e)) (λ s e. told.3 (front ∙ ap (take 5) e))
