-- The tests `list_all` and `list_any` as statements about each element and about some element.
use Rattle.std.proofs.Common.{◌≡◌, ℕ, zero, suc, ◌<◌, Bool, true, false, ◌||◌, List, [], ◌∷◌, length, get_or, refl, ap, ◌∙◌, arith}
use Rattle.std.specs.List.{ContainsAt, AllByRecursion}
use Rattle.std.proofs.lemmas.Bool.{and_parts, and_from, or_left, or_right, both_ways, false≢true}
use Rattle.std.specs.List.{list_all, list_any}

pub all_if_every : {X : Type 0} (test : X → Bool) (xs : List X) → list_all test xs ≡ true → AllByRecursion (λ x. test x ≡ true) xs
all_if_every test [] e = tt
all_if_every test (x ∷ xs) e = let p = and_parts (test x) (list_all test xs) e in (p.0, all_if_every test xs p.1)

pub every_if_all : {X : Type 0} (test : X → Bool) (xs : List X) → AllByRecursion (λ x. test x ≡ true) xs → list_all test xs ≡ true
every_if_all test [] p = refl
every_if_all test (x ∷ xs) p = and_from (test x) (list_all test xs) p.0 (every_if_all test xs p.1)

-- one property of each element from others
pub all_by₂ : {X : Type 0} {P Q R : X → Type 0} → ((x : X) → P x → Q x → R x) → (xs : List X) → AllByRecursion P xs → AllByRecursion Q xs → AllByRecursion R xs
all_by₂ f [] p q = tt
all_by₂ f (x ∷ xs) p q = (f x p.0 q.0, all_by₂ f xs p.1 q.1)

pub all_by₃ : {X : Type 0} {P Q R S : X → Type 0} → ((x : X) → P x → Q x → R x → S x) → (xs : List X) → AllByRecursion P xs → AllByRecursion Q xs → AllByRecursion R xs → AllByRecursion S xs
all_by₃ f [] p q r = tt
all_by₃ f (x ∷ xs) p q r = (f x p.0 q.0 r.0, all_by₃ f xs p.1 q.1 r.1)

pub has_first : {X : Type 0} (x : X) (xs : List X) → ContainsAt (x ∷ xs) x
has_first x xs = (0, omega arith, λ d. refl)

pub has_later : {X : Type 0} (y : X) (xs : List X) (x : X) → ContainsAt xs x → ContainsAt (y ∷ xs) x
has_later y xs x h = (suc h.0, (let l = h.1 in omega arith), h.2)

pub has_if_any : {X : Type 0} (test : X → Bool) (xs : List X) → list_any test xs ≡ true → (x : X) × ContainsAt xs x × (test x ≡ true)
has_if_any test [] e = absurd (false≢true e)
has_if_any test (y ∷ ys) e = by (has_if_any test ys) (test y) refl e
  where
    by : (list_any test ys ≡ true → (x : _) × ContainsAt ys x × (test x ≡ true)) → (t : Bool) → test y ≡ t → (t || list_any test ys) ≡ true → (x : _) × ContainsAt (y ∷ ys) x × (test x ≡ true)
    by rest true t e = (y, has_first y ys, t)
    by rest false t e = let r = rest e in (r.0, has_later y ys r.0 r.1, r.2)

any_at : {X : Type 0} (test : X → Bool) (xs : List X) (x : X) (k : ℕ) → k < length xs → get_or xs k x ≡ x → test x ≡ true → list_any test xs ≡ true
any_at test [] x k l e t = absurd (omega arith)
any_at test (y ∷ ys) x zero l e t = or_left (test y) (list_any test ys) (ap test e ∙ t)
any_at test (y ∷ ys) x (suc k) l e t = or_right (test y) (list_any test ys) (any_at test ys x k (omega arith) e t)

pub any_if_has : {X : Type 0} (test : X → Bool) (xs : List X) (x : X) → ContainsAt xs x → test x ≡ true → list_any test xs ≡ true
any_if_has test xs x h t = any_at test xs x h.0 h.1 (h.2 x) t

-- no element passes the test
pub none_if_not_any : {X : Type 0} (test : X → Bool) (xs : List X) (x : X) → list_any test xs ≡ false → ContainsAt xs x → test x ≡ true → ⊥
none_if_not_any test xs x e h t = both_ways (list_any test xs) e (any_if_has test xs x h t)

pub not_any_if_none : {X : Type 0} (test : X → Bool) (xs : List X) → ((x : X) → ContainsAt xs x → test x ≡ true → ⊥) → list_any test xs ≡ false
not_any_if_none test xs h = by (list_any test xs) refl
  where
    by : (t : Bool) → list_any test xs ≡ t → t ≡ false
    by false e = refl
    by true e = let r = has_if_any test xs e in absurd (h r.0 r.1 r.2)
