-- The patterns of the four kinds of line: what a line says that fits, and what fits.
use Rattle.std.proofs.Common.{◌≡◌, ℕ, true, ◌&&◌, ltb, leb, [], ◌∷◌, Some, sym, ap, ◌∙◌}
use Rattle.std.proofs.lemmas.Bool.{and_parts, and_from}
use Rattle.lists.specs.declared.parts.Form.{Form}
use Rattle.lists.specs.declared.parts.Head.{Head}
use Rattle.texts.specs.Texts.{Reading, head_line, form_line, table_line, rule_line, broken_line}
use Rattle.lists.specs.Lines.{within, owned, head_of_line, form_of_line, table_of_line}
use Rattle.std.proofs.lemmas.Option.{none-some, cond_some}

-- the header's first line
abbrev pub HeadFits : Head → Type 0
HeadFits h = (within 1 6 h.layer ≡ true) × (within 1 32 h.forms ≡ true) × (within 1 32 h.rules ≡ true)

pub head_says : (r : Reading) (h : Head) → head_of_line r ≡ Some h → (r ≡ head_line (h.layer ∷ h.forms ∷ h.rules ∷ [])) × HeadFits h
head_says (head_line []) h e = absurd (none-some _ e)
head_says (head_line (k ∷ [])) h e = absurd (none-some _ e)
head_says (head_line (k ∷ f ∷ [])) h e = absurd (none-some _ e)
head_says (head_line (k ∷ f ∷ n ∷ [])) h e =
    let t = cond_some (within 1 6 k && within 1 32 f && within 1 32 n) (record { layer = k; forms = f; rules = n }) h e in
    let all = and_parts (within 1 6 k && within 1 32 f) (within 1 32 n) t.0 in
    let two = and_parts (within 1 6 k) (within 1 32 f) all.0 in (
      ap (λ (x : Head). head_line (x.layer ∷ x.forms ∷ x.rules ∷ [])) t.1,
      (ap (λ (x : Head). within 1 6 x.layer) (sym t.1) ∙ two.0, ap (λ (x : Head). within 1 32 x.forms) (sym t.1) ∙ two.1, ap (λ (x : Head). within 1 32 x.rules) (sym t.1) ∙ all.1),
    )
head_says (head_line (k ∷ f ∷ n ∷ m ∷ ns)) h e = absurd (none-some _ e)
head_says (form_line ns) h e = absurd (none-some _ e)
head_says (table_line ns) h e = absurd (none-some _ e)
head_says (rule_line ns) h e = absurd (none-some _ e)
head_says broken_line h e = absurd (none-some _ e)

pub head_fits : (h : Head) → HeadFits h → head_of_line (head_line (h.layer ∷ h.forms ∷ h.rules ∷ [])) ≡ Some h
head_fits h fits = rw (and_from _ _ (and_from _ _ fits.0 fits.1) fits.2)

-- the line of a form
abbrev pub FormFits : ℕ → ℕ → Form → Type 0
FormFits k before f = (owned k f.label && ltb before f.label && leb f.count 8) ≡ true

pub form_says_lem : (k before : ℕ) (r : Reading) (f : Form) → form_of_line k before r ≡ Some f → (r ≡ form_line (f.label ∷ f.count ∷ [])) × FormFits k before f
form_says_lem k before (form_line []) f e = absurd (none-some _ e)
form_says_lem k before (form_line (l ∷ [])) f e = absurd (none-some _ e)
form_says_lem k before (form_line (l ∷ c ∷ [])) f e =
    let t = cond_some (owned k l && ltb before l && leb c 8) (record { label = l; count = c }) f e in
    (ap (λ (x : Form). form_line (x.label ∷ x.count ∷ [])) t.1, ap (λ (x : Form). owned k x.label && ltb before x.label && leb x.count 8) (sym t.1) ∙ t.0)
form_says_lem k before (form_line (l ∷ c ∷ n ∷ ns)) f e = absurd (none-some _ e)
form_says_lem k before (head_line ns) f e = absurd (none-some _ e)
form_says_lem k before (table_line ns) f e = absurd (none-some _ e)
form_says_lem k before (rule_line ns) f e = absurd (none-some _ e)
form_says_lem k before broken_line f e = absurd (none-some _ e)

pub form_fits : (k before : ℕ) (f : Form) → FormFits k before f → form_of_line k before (form_line (f.label ∷ f.count ∷ [])) ≡ Some f
form_fits k before f fits = rw fits

-- the table's first line
pub table_says_lem : (r : Reading) (k n : ℕ) → table_of_line r ≡ Some (k, n) → r ≡ table_line (k ∷ n ∷ [])
table_says_lem (table_line []) k n e = absurd (none-some _ e)
table_says_lem (table_line (a ∷ [])) k n e = absurd (none-some _ e)
table_says_lem (table_line (a ∷ b ∷ [])) k n e =
    let t = cond_some (within 1 6 a && within 1 32 b) (a, b) (k, n) e in
    ap (λ (x : ℕ × ℕ). table_line (x.0 ∷ x.1 ∷ [])) t.1
table_says_lem (table_line (a ∷ b ∷ c ∷ ns)) k n e = absurd (none-some _ e)
table_says_lem (head_line ns) k n e = absurd (none-some _ e)
table_says_lem (form_line ns) k n e = absurd (none-some _ e)
table_says_lem (rule_line ns) k n e = absurd (none-some _ e)
table_says_lem broken_line k n e = absurd (none-some _ e)

pub table_fits : (k n : ℕ) → within 1 6 k ≡ true → within 1 32 n ≡ true → table_of_line (table_line (k ∷ n ∷ [])) ≡ Some (k, n)
table_fits k n layer rules = rw (and_from _ _ layer rules)
