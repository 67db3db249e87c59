-- What a header and a table keep whose lines are in order, and what a list keeps that has no fault.
use Rattle.std.proofs.Common.{◌≡◌, ℕ, zero, suc, Bool, true, false, ◌&&◌, eqb, List, [], ◌∷◌, ◌++◌, length, Some, None, Ok, Err, Option, Result, sym, refl, ap, ◌∙◌, subst, append_assoc, append-nil, arith}
use Rattle.std.proofs.lemmas.Bool.{and_parts, eqb-true}
use Rattle.lists.specs.declared.parts.Form.{Form}
use Rattle.lists.specs.declared.parts.Head.{Head}
use Rattle.lists.specs.declared.refusal.Place.{Place}
use Rattle.lists.specs.declared.refusal.Place.TheVariants as place
use Rattle.lists.specs.declared.refusal.Refusal.{Refusal}
use Rattle.lists.specs.declared.refusal.Refusal.TheVariants.{LineBroken, TableDiffers}
use Rattle.texts.specs.Texts.{Reading}
use Rattle.lists.specs.Lines.{Sides, Declared, judge_lines, head_of_line, judge_forms, judge_rules, with_forms, judge_header, table_of_line, judge_table}
use Rattle.texts.proofs.Answering.{err_not_ok, same_ok}

-- the lines read as the elements, one by one, each behind those before it
module _ {X : Type 0} (at : ℕ → Place) (reads : List X → Reading → Option X) where
  abbrev pub ReadAs : List X → List X → List Reading → Type 0
  ReadAs read [] [] = Unit {0}
  ReadAs read [] (r ∷ rs) = ⊥
  ReadAs read (x ∷ xs) [] = ⊥
  ReadAs read (x ∷ xs) (r ∷ rs) = (reads read r ≡ Some x) × ReadAs (read ++ x ∷ []) xs rs

  pub lines_read : (read : List X) (n : ℕ) (rs : List Reading) (all : List X) → judge_lines at reads read n rs ≡ Ok all → (xs : List X) × (all ≡ read ++ xs) × (length xs ≡ n) × ReadAs read xs rs
  unfolding judge_lines
  lines_read read zero [] all e = ([], sym (same_ok e) ∙ sym (append-nil read), refl, tt)
  lines_read read zero (r ∷ rs) all e = absurd (err_not_ok e)
  lines_read read (suc n) [] all e = absurd (err_not_ok e)
  lines_read read (suc n) (r ∷ rs) all e = by (λ x. lines_read (read ++ x ∷ []) n rs all) (reads read r) refl e
    where
      by :
          ((x : X) → judge_lines at reads (read ++ x ∷ []) n rs ≡ Ok all → (xs : List X) × (all ≡ (read ++ x ∷ []) ++ xs) × (length xs ≡ n) × ReadAs (read ++ x ∷ []) xs rs)
          → (o : Option X) → reads read r ≡ o
          → ◌≡◌ {A = Result (List X) Refusal} (elim o [ None ↦ Err (LineBroken (at (length read))) | Some x ↦ judge_lines at reads (read ++ x ∷ []) n rs ]) (Ok all)
          → (xs : List X) × (all ≡ read ++ xs) × (length xs ≡ suc n) × ReadAs read xs (r ∷ rs)
      by go None has e = absurd (err_not_ok e)
      by go (Some x) has e = let rest = go x e in (x ∷ rest.0, rest.1 ∙ append_assoc read (x ∷ []) rest.0, ap suc rest.2, (has, rest.3))

  pub lines_judged : (read xs : List X) (rs : List Reading) (n : ℕ) → length xs ≡ n → ReadAs read xs rs → judge_lines at reads read n rs ≡ Ok (read ++ xs)
  unfolding judge_lines
  lines_judged read [] [] zero l p = ap (λ (ys : List X). Ok ys) (sym (append-nil read))
  lines_judged read [] [] (suc n) l p = absurd (omega arith)
  lines_judged read [] (r ∷ rs) n l p = absurd p
  lines_judged read (x ∷ xs) [] n l p = absurd p
  lines_judged read (x ∷ xs) (r ∷ rs) zero l p = absurd (omega arith)
  lines_judged read (x ∷ xs) (r ∷ rs) (suc n) l p =
      rw (p.0, judge_lines) (lines_judged (read ++ x ∷ []) xs rs n (omega arith) p.1 ∙ ap (λ (ys : List X). Ok ys) (append_assoc read (x ∷ []) xs))

-- a header whose lines are in order
pub record HeaderRead (rs : List Reading) (d : Declared) : Type 0 where
  pub first : Reading
  pub rest : List Reading
  pub lines : rs ≡ first ∷ rest
  pub head : head_of_line first ≡ Some d.head
  pub forms : judge_forms d.head.layer [] d.head.forms rest ≡ Ok d.forms

with_forms_lem : (h : Head) (o : Result (List Form) Refusal) (d : Declared) → with_forms h o ≡ Ok d → (d.head ≡ h) × (o ≡ Ok d.forms)
with_forms_lem h (Ok fs) d e = let same = same_ok e in (sym (ap (λ (x : Declared). x.head) same), ap (λ (x : Declared). Ok x.forms) same)
with_forms_lem h (Err f) d e = absurd (err_not_ok e)

pub header_read : (rs : List Reading) (d : Declared) → judge_header rs ≡ Ok d → HeaderRead rs d
unfolding judge_header
header_read [] d e = absurd (err_not_ok e)
header_read (r ∷ rs) d e = by (head_of_line r) refl e
  where
    by : (o : Option Head) → head_of_line r ≡ o → ◌≡◌ {A = Result Declared Refusal} (elim o [ None ↦ Err (LineBroken place.Head) | Some h ↦ with_forms h (judge_forms h.layer [] h.forms rs) ]) (Ok d) → HeaderRead (r ∷ rs) d
    by None has e = absurd (err_not_ok e)
    by (Some h) has e =
        let p = with_forms_lem h _ d e in
        record {
          first = r;
          rest = rs;
          lines = refl;
          head = has ∙ ap (λ (x : Head). Some x) (sym p.0);
          forms = subst (λ (x : Head). judge_forms x.layer [] x.forms rs ≡ Ok d.forms) (sym p.0) p.1;
        }

-- a table whose lines are in order, and that agrees with the header
pub record TableRead (h : Head) (rs : List Reading) (rules : List Sides) : Type 0 where
  pub first : Reading
  pub rest : List Reading
  pub lines : rs ≡ first ∷ rest
  pub head : table_of_line first ≡ Some (h.layer, h.rules)
  pub rules_are : judge_rules [] h.rules rest ≡ Ok rules

pub table_read : (h : Head) (rs : List Reading) (rules : List Sides) → judge_table h rs ≡ Ok rules → TableRead h rs rules
unfolding judge_table
table_read h [] rules e = absurd (err_not_ok e)
table_read h (r ∷ rs) rules e = by (table_of_line r) refl e
  where
    same : (k n : ℕ) → table_of_line r ≡ Some (k, n) → (t : Bool) → (eqb k h.layer && eqb n h.rules) ≡ t → ◌≡◌ {A = Result (List Sides) Refusal} (elim t [ false ↦ Err TableDiffers | true ↦ judge_rules [] h.rules rs ]) (Ok rules) → TableRead h (r ∷ rs) rules
    same k n has true is e =
        let both = and_parts _ _ is in
        record { first = r; rest = rs; lines = refl; head = has ∙ (λ i. Some (eqb-true k h.layer both.0 i, eqb-true n h.rules both.1 i)); rules_are = e }
    same k n has false is e = absurd (err_not_ok e)

    by : (o : Option (ℕ × ℕ)) → table_of_line r ≡ o → ◌≡◌ {A = Result (List Sides) Refusal} (elim o [ None ↦ Err (LineBroken place.Table) | Some t ↦ elim (eqb t.0 h.layer && eqb t.1 h.rules) [ false ↦ Err TableDiffers | true ↦ judge_rules [] h.rules rs ] ]) (Ok rules) → TableRead h (r ∷ rs) rules
    by None has e = absurd (err_not_ok e)
    by (Some t) has e = same t.0 t.1 has _ refl e
