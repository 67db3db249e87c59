-- The lines behind a text's first, judged one by one.
use Rattle.std.proofs.Common.{◌≡◌, ℕ, zero, suc, ◌-◌, ◌<◌, false, ◌&&◌, eqb, ◌⊎◌, List, [], ◌∷◌, ◌++◌, length, Some, None, Ok, Err, Option, Result, get_or, sym, refl, ap, ◌∙◌, arith}
use Rattle.std.specs.List.{slice_get}
use Rattle.std.proofs.lemmas.Option.{slice_get_within, get_or_from_slice_get}
use Rattle.std.proofs.lemmas.Bool.{and_from, eq-eqb}
use Rattle.lists.specs.declared.parts.Form.{Form}
use Rattle.lists.specs.declared.refusal.Place.{Place}
use Rattle.lists.specs.declared.refusal.Refusal.{Refusal}
use Rattle.lists.specs.declared.refusal.Refusal.TheVariants.{LineBroken, LineMissing, LineExtra, TableDiffers, NoMemory}
use Rattle.texts.specs.Texts.{Reading}
use Rattle.lists.specs.declared.parts.Head.{Head}
use Rattle.lists.specs.declared.refusal.Place.TheVariants as place
use Rattle.lists.specs.Lines.{Answers, judge_lines, last_from, last_label, head_of_line, table_of_line, with_forms, judge_forms, judge_rules, judge_header, judge_table}

module _ {X : Type 0} (at : ℕ → Place) (reads : List X → Reading → Option X) (read : List X) (i : ℕ) (read-i : length read ≡ i) where
  abbrev judged : ℕ → List Reading → Result (List X) Refusal
  judged = judge_lines at reads read

  pub line_missing : (n : ℕ) (rs : List Reading) → 0 < n → rs ≡ [] → judged n rs ≡ Err (LineMissing (at i))
  unfolding judge_lines
  line_missing zero rs l e = absurd (omega arith)
  line_missing (suc n) rs l e = rw (e, read-i)

  pub line_broken : (n : ℕ) (all : List Reading) (r : Reading) (rs : List Reading) → 0 < n → all ≡ r ∷ rs → reads read r ≡ None → judged n all ≡ Err (LineBroken (at i))
  unfolding judge_lines
  line_broken zero all r rs l e none = absurd (omega arith)
  line_broken (suc n) all r rs l e none = rw e (rw (none, judge_lines) (rw read-i))

  pub line_extra : (n : ℕ) (all : List Reading) (r : Reading) (rs : List Reading) → n ≡ 0 → all ≡ r ∷ rs → judged n all ≡ Err (LineExtra (at i))
  unfolding judge_lines
  line_extra n all r rs z e = rw (z, e, read-i)

  pub lines_end : (n : ℕ) (all : List Reading) → n ≡ 0 → all ≡ [] → judged n all ≡ Ok read
  unfolding judge_lines
  lines_end n all z e = rw (z, e)

  pub line_read : (n m : ℕ) (all : List Reading) (r : Reading) (rs : List Reading) (x : X) → n ≡ suc m → all ≡ r ∷ rs → reads read r ≡ Some x → judged n all ≡ judge_lines at reads (read ++ x ∷ []) m rs
  unfolding judge_lines
  line_read n m all r rs x s e has = rw (s, e) (rw (has, judge_lines))

last_from_lem : (before : ℕ) (fs : List Form) (f : Form) → last_from before (fs ++ f ∷ []) ≡ f.label
last_from_lem before [] f = refl
last_from_lem before (g ∷ fs) f = last_from_lem g.label fs f

pub last_label_lem : (fs : List Form) (f : Form) → last_label (fs ++ f ∷ []) ≡ f.label
last_label_lem fs f = last_from_lem 0 fs f

last_from_at : (before : ℕ) (fs : List Form) (n : ℕ) (d : Form) → length fs ≡ suc n → last_from before fs ≡ (get_or fs n d).label
last_from_at before [] n d l = absurd (omega arith)
last_from_at before (f ∷ []) zero d l = refl
last_from_at before (f ∷ []) (suc n) d l = absurd (omega arith)
last_from_at before (f ∷ g ∷ fs) zero d l = absurd (omega arith)
last_from_at before (f ∷ g ∷ fs) (suc n) d l = last_from_at f.label (g ∷ fs) n d (omega arith)

pub last_label_at : (fs : List Form) (f : Form) → Some f ≡ slice_get fs (length fs - 1) → f.label ≡ last_label fs
last_label_at fs f e =
    let within = slice_get_within fs (length fs - 1) f (sym e) in
    sym (last_from_at 0 fs (length fs - 1) f (omega (arith, within)) ∙ ap (λ (x : Form). x.label) (get_or_from_slice_get fs (length fs - 1) f f (sym e)))

pub no_header : (rs : List Reading) → rs ≡ [] → judge_header rs ≡ Err (LineMissing place.Head)
unfolding judge_header
no_header rs e = rw e

module _ (all : List Reading) (r : Reading) (rs : List Reading) (e : all ≡ r ∷ rs) where
  pub bad_header : head_of_line r ≡ None → judge_header all ≡ Err (LineBroken place.Head)
  unfolding judge_header
  bad_header none = rw e (rw (none, judge_header))

  pub header_is : (h : Head) → head_of_line r ≡ Some h → judge_header all ≡ with_forms h (judge_forms h.layer [] h.forms rs)
  unfolding judge_header
  header_is h has = rw e (rw (has, judge_header))

pub no_table : (h : Head) (rs : List Reading) → rs ≡ [] → judge_table h rs ≡ Err (LineMissing place.Table)
unfolding judge_table
no_table h rs e = rw e

module _ (h : Head) (all : List Reading) (r : Reading) (rs : List Reading) (e : all ≡ r ∷ rs) where
  pub bad_table : table_of_line r ≡ None → judge_table h all ≡ Err (LineBroken place.Table)
  unfolding judge_table
  bad_table none = rw e (rw (none, judge_table))

  pub table_is : (k n : ℕ) → table_of_line r ≡ Some (k, n) → k ≡ h.layer → n ≡ h.rules → judge_table h all ≡ judge_rules [] h.rules rs
  unfolding judge_table
  table_is k n has layer rules = rw e (rw (has, judge_table) (rw (and_from _ _ (eq-eqb k h.layer layer) (eq-eqb n h.rules rules))))

  pub table_differs : (k n : ℕ) → table_of_line r ≡ Some (k, n) → (eqb k h.layer && eqb n h.rules) ≡ false → judge_table h all ≡ Err TableDiffers
  unfolding judge_table
  table_differs k n has other = rw e (rw (has, judge_table) (rw other))

-- a refusal that is passed on
pub passed_on : {X Y : Type 0} (model : X → Y) (s : Result Y Refusal) (r : Result X Refusal) (f e : Refusal) → r ≡ Err f → f ≡ e → (e ≡ NoMemory) ⊎ (s ≡ Err e) → Answers model s r
passed_on model s r f e is same why = rw (is, same) why
