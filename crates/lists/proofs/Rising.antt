-- Forms that are read line by line are owned and rising, and forms that are so are read.
use Rattle.std.proofs.Common.{◌≡◌, ℕ, ◌+◌, ◌*◌, ◌<◌, ◌≤◌, true, ◌&&◌, ltb, leb, List, [], ◌∷◌, ◌++◌, map, sym, refl, ap, ◌∙◌, arith}
use Rattle.std.specs.List.{AllByRecursion}
use Rattle.std.proofs.lemmas.Bool.{and_parts, and_from, leb-true, ltb-true, le-leb, lt-ltb}
use Rattle.lists.specs.declared.parts.Form.{Form}
use Rattle.lists.specs.declared.refusal.Place.TheVariants as place
use Rattle.texts.specs.Texts.{Reading}
use Rattle.lists.specs.Lines.{owned, last_label, form_of_line}
use Rattle.lists.specs.Sides.{form_word}
use Rattle.lists.specs.Laws.{Rising}
use Rattle.lists.specs.Sound.{rising_from}
use Rattle.lists.specs.Spelling.{form_says}
use Rattle.lists.proofs.Judging.{last_label_lem}
use Rattle.lists.proofs.Keeping.{ReadAs}
use Rattle.lists.proofs.Patterns.{form_says_lem, form_fits}

abbrev pub FormsRead : ℕ → List Form → List Form → List Reading → Type 0
FormsRead k = ReadAs (λ i. place.Form i) (λ read. form_of_line k (last_label read))

pub forms_rise : (k : ℕ) (read xs : List Form) (rs : List Reading) → FormsRead k read xs rs → (rs ≡ map form_says xs) × (rising_from k (last_label read) xs ≡ true)
unfolding rising_from
forms_rise k read [] [] p = (refl, refl)
forms_rise k read [] (r ∷ rs) p = absurd p
forms_rise k read (x ∷ xs) [] p = absurd p
forms_rise k read (x ∷ xs) (r ∷ rs) p =
    let here = form_says_lem k (last_label read) r x p.0 in
    let rest = forms_rise k (read ++ x ∷ []) xs rs p.1 in
    ((λ i. here.0 i ∷ rest.0 i), and_from _ _ here.1 (ap (λ b. rising_from k b xs) (sym (last_label_lem read x)) ∙ rest.1))

pub rising_read : (k : ℕ) (read xs : List Form) → rising_from k (last_label read) xs ≡ true → FormsRead k read xs (map form_says xs)
unfolding rising_from
rising_read k read [] p = tt
rising_read k read (x ∷ xs) p =
    let both = and_parts _ (rising_from k x.label xs) p in
    (form_fits k (last_label read) x both.0, rising_read k (read ++ x ∷ []) xs (ap (λ b. rising_from k b xs) (last_label_lem read x) ∙ both.1))

-- the test of rising forms as a statement, both ways
pub rise : (k before : ℕ) (forms : List Form) → rising_from k before forms ≡ true → Rising k before forms
unfolding rising_from
rise k before [] e = tt
rise k before (f ∷ fs) e =
    let p = and_parts (owned k f.label && ltb before f.label && leb f.count 8) (rising_from k f.label fs) e in
    let q = and_parts (owned k f.label && ltb before f.label) (leb f.count 8) p.0 in
    let r = and_parts (owned k f.label) (ltb before f.label) q.0 in
    let own = and_parts (leb (32 + 32 * k) f.label) (leb f.label (63 + 32 * k)) r.0 in
    (leb-true (32 + 32 * k) f.label own.0, leb-true f.label (63 + 32 * k) own.1, ltb-true before f.label r.1, leb-true f.count 8 q.1, rise k f.label fs p.1)

pub risen : (k before : ℕ) (forms : List Form) → Rising k before forms → rising_from k before forms ≡ true
unfolding rising_from
risen k before [] p = refl
risen k before (f ∷ fs) p =
    and_from _ _ (and_from _ _ (and_from _ _ (and_from _ _ (le-leb (32 + 32 * k) f.label p.0) (le-leb f.label (63 + 32 * k) p.1)) (lt-ltb before f.label p.2)) (le-leb f.count 8 p.3)) (risen k f.label fs p.4)

-- the words of declared forms fit 32 bits
pub form_words : (k before : ℕ) (forms : List Form) → k ≤ 6 → Rising k before forms → AllByRecursion (λ f. form_word f < 4294967296) forms
form_words k before [] l p = tt
form_words k before (f ∷ fs) l p = (omega (arith, p.1, p.3), form_words k f.label fs l p.4)
