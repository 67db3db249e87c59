-- Number fields: what digits are worth, and that a field reads as a number exactly when its digits spell the number.
use Rattle.std.proofs.Common.{◌≡◌, ℕ, ◌+◌, ◌-◌, ◌*◌, ◌<◌, ◌≤◌, ◌&&◌, leb, ◌⊎◌, List, [], ◌∷◌, length, get_or, drop, Some, None, Option, sym, refl, ap, ◌∙◌, inl, inr, arith}
use Rattle.std.specs.List.{AllByRecursion}
use Rattle.std.proofs.lemmas.List.{drop_more}
use Rattle.std.proofs.lemmas.Bool.{le-leb, lt-leb, leb-true, and_from, and_parts, cond-true, cases_lt}
use Rattle.texts.specs.Numbers.{with_digit, digits_of, number_of}
use Rattle.texts.specs.Texts.{number}
use Rattle.texts.specs.Spelling.{value_from, Digits}
use Rattle.std.proofs.lemmas.Option.{same_Some, none-some, cond_some}

-- one of the bytes 48 to 57
abbrev pub Digit : ℕ → Type 0
Digit b = (48 ≤ b) × (b ≤ 57)

module _ (most v b : ℕ) (bs : List ℕ) where
  no_digit : with_digit most v b ≡ None → digits_of most v (b ∷ bs) ≡ None
  unfolding digits_of
  no_digit e = rw (e, digits_of)

  one_digit : (next : ℕ) → with_digit most v b ≡ Some next → digits_of most v (b ∷ bs) ≡ digits_of most next bs
  unfolding digits_of
  one_digit next e = rw (e, digits_of)

-- the same at the byte at an index
module _ (most : ℕ) (digits : List ℕ) (i v : ℕ) (lt : i < length digits) where
  pub no_digit_at : with_digit most v (get_or digits i 0) ≡ None → digits_of most v (drop i digits) ≡ None
  no_digit_at e = ap (digits_of most v) (drop_more digits i 0 lt) ∙ no_digit most v _ _ e

  pub one_digit_at : (next : ℕ) → with_digit most v (get_or digits i 0) ≡ Some next → digits_of most v (drop i digits) ≡ digits_of most next (drop (i + 1) digits)
  one_digit_at next e = ap (digits_of most v) (drop_more digits i 0 lt) ∙ one_digit most v _ _ next e

pub digits_none : (most v : ℕ) → digits_of most v [] ≡ Some v
unfolding digits_of
digits_none most v = refl

pub no_bytes : (most : ℕ) (digits : List ℕ) → length digits ≡ 0 → number_of most digits ≡ None
no_bytes most [] l = refl
no_bytes most (b ∷ bs) l = absurd (omega arith)

pub number_is : (most : ℕ) (digits : List ℕ) → 0 < length digits → number_of most digits ≡ digits_of most 0 digits
number_is most [] l = absurd (omega arith)
number_is most (b ∷ bs) l = refl

-- the value stays at most `most`
with_within : (most v b next : ℕ) → with_digit most v b ≡ Some next → (v * 10 + (b - 48) ≡ next) × (next ≤ most) × Digit b
with_within most v b next e =
    let t = cond_some (leb 48 b && leb b 57 && leb (v * 10 + (b - 48)) most) (v * 10 + (b - 48)) next e in
    let parts = and_parts (leb 48 b && leb b 57) (leb (v * 10 + (b - 48)) most) t.0 in
    let fits = leb-true (v * 10 + (b - 48)) most parts.1 in
    let digit = and_parts (leb 48 b) (leb b 57) parts.0 in
    (t.1, omega (arith, t.1, fits), (leb-true 48 b digit.0, leb-true b 57 digit.1))

digits_within : (most v : ℕ) (bs : List ℕ) (n : ℕ) → v ≤ most → digits_of most v bs ≡ Some n → n ≤ most
digits_within most v [] n l e = let same : v ≡ n = same_Some _ _ (sym (digits_none most v) ∙ e) in omega arith
digits_within most v (b ∷ bs) n l e = by (with_digit most v b) refl (digits_within most (v * 10 + (b - 48)) bs n)
  where
    by : (o : Option ℕ) → with_digit most v b ≡ o → (v * 10 + (b - 48) ≤ most → digits_of most (v * 10 + (b - 48)) bs ≡ Some n → n ≤ most) → n ≤ most
    by None o rest = absurd (none-some _ (sym (no_digit most v b bs o) ∙ e))
    by (Some next) o rest =
        let is = with_within most v b next o in
        rest (omega (arith, is.0, is.1)) (ap (λ (x : ℕ). digits_of most x bs) is.0 ∙ sym (one_digit most v b bs next o) ∙ e)

pub number_within : (most : ℕ) (digits : List ℕ) (n : ℕ) → number_of most digits ≡ Some n → n ≤ most
number_within most [] n e = absurd (none-some _ e)
number_within most (b ∷ bs) n e = digits_within most 0 (b ∷ bs) n (omega arith) e

with_is : (most v b : ℕ) → Digit b → v * 10 + (b - 48) ≤ most → with_digit most v b ≡ Some (v * 10 + (b - 48))
with_is most v b d l =
    cond-true _ (Some (v * 10 + (b - 48))) None (and_from _ _ (and_from _ _ (le-leb 48 b d.0) (le-leb b 57 d.1)) (le-leb (v * 10 + (b - 48)) most l))

-- more digits never lower a value
value_grows : (v : ℕ) (bs : List ℕ) → v ≤ value_from v bs
value_grows v [] = omega arith
value_grows v (b ∷ bs) = let more = value_grows (v * 10 + (b - 48)) bs in omega arith

digits_read : (most v : ℕ) (bs : List ℕ) → AllByRecursion Digit bs → value_from v bs ≤ most → digits_of most v bs ≡ Some (value_from v bs)
digits_read most v [] a l = digits_none most v
digits_read most v (b ∷ bs) a l =
    let more = value_grows (v * 10 + (b - 48)) bs in
    one_digit most v b bs _ (with_is most v b a.0 (omega arith)) ∙ digits_read most (v * 10 + (b - 48)) bs a.1 l

digits_spelled : (most v : ℕ) (bs : List ℕ) (n : ℕ) → digits_of most v bs ≡ Some n → AllByRecursion Digit bs × (value_from v bs ≡ n)
digits_spelled most v [] n e = (tt, same_Some _ _ (sym (digits_none most v) ∙ e))
digits_spelled most v (b ∷ bs) n e = by (with_digit most v b) refl (digits_spelled most (v * 10 + (b - 48)) bs n)
  where
    by : (o : Option ℕ) → with_digit most v b ≡ o → (digits_of most (v * 10 + (b - 48)) bs ≡ Some n → AllByRecursion Digit bs × (value_from (v * 10 + (b - 48)) bs ≡ n)) → AllByRecursion Digit (b ∷ bs) × (value_from v (b ∷ bs) ≡ n)
    by None o rest = absurd (none-some _ (sym (no_digit most v b bs o) ∙ e))
    by (Some next) o rest =
        let is = with_within most v b next o in
        let others = rest (ap (λ (x : ℕ). digits_of most x bs) is.0 ∙ sym (one_digit most v b bs next o) ∙ e) in
        ((is.2, others.0), others.1)

pub long_field : (field : List ℕ) → 8 < length field → number field ≡ None
unfolding number
long_field field l = rw (lt-leb (length field) 8 l, number)

pub field_is : (field : List ℕ) → length field ≤ 8 → number field ≡ number_of 16777215 field
unfolding number
field_is field l = rw (le-leb (length field) 8 l, number)

-- a field that spells a number reads as it
pub number_read : (n : ℕ) (field : List ℕ) → Digits n field → number field ≡ Some n
number_read n field d =
    field_is field d.few ∙ number_is 16777215 field d.some ∙ digits_read 16777215 0 field d.digits (rw d.worth d.small) ∙ ap (λ (v : ℕ). Some v) d.worth

-- a field that reads as a number spells it
pub number_spelled : (n : ℕ) (field : List ℕ) → number field ≡ Some n → Digits n field
number_spelled n field e =
    let is = digits_spelled 16777215 0 field n (sym (number_is 16777215 field some) ∙ worth) in
    record { some = some; few = few; digits = is.0; worth = is.1; small = number_within 16777215 field n worth }
  where
    few_by : (8 < length field) ⊎ (length field ≤ 8) → length field ≤ 8
    few_by (inl l) = absurd (none-some _ (sym (long_field field l) ∙ e))
    few_by (inr l) = l

    few : length field ≤ 8
    few = few_by (cases_lt 8 (length field))

    worth : number_of 16777215 field ≡ Some n
    worth = sym (field_is field few) ∙ e

    some_by : (0 < length field) ⊎ (length field ≤ 0) → 0 < length field
    some_by (inl l) = l
    some_by (inr l) = absurd (none-some _ (sym (no_bytes 16777215 field (omega arith)) ∙ worth))

    some : 0 < length field
    some = some_by (cases_lt 0 (length field))
