-- What holds of an answer, where it is no refusal.
use Rattle.std.proofs.Common.{ℕ, ◌≡◌, ◌+◌, refl, subst, Bool, true, false, Option, Some, None, Ok, Err, List, [], ◌∷◌, ◌++◌, length, length-append, arith}
use Rattle.typed_exprs.specs.declared.refusal.Why.{Why}
use Rattle.typed_exprs.specs.Answer.{Answer, ◌>>=◌, or_refuse, refuse_if}
use Rattle.sql_binder.specs.Each.{each_after, each}

abbrev pub Holds : {A : Type 0} → (A → Type 0) → Answer A → Type 0
Holds P (Ok x) = P x
Holds P (Err r) = Unit {0}

pub after : {A B : Type 0} (P : A → Type 0) (Q : B → Type 0) (a : Answer A) (f : A → Answer B) → Holds P a → ((x : A) → P x → Holds Q (f x)) → Holds Q (a >>= f)
after P Q (Ok x) f h g = g x h
after P Q (Err r) f h g = tt

-- whatever was answered before
pub whatever : {A B : Type 0} (Q : B → Type 0) (a : Answer A) (f : A → Answer B) → ((x : A) → Holds Q (f x)) → Holds Q (a >>= f)
whatever Q (Ok x) f g = g x
whatever Q (Err r) f g = tt

pub unless : {A : Type 0} (P : A → Type 0) (b : Bool) (why : Why) (place : ℕ) (a : Answer A) → Holds P a → Holds P (refuse_if b why place a)
unless P true why place a h = tt
unless P false why place a h = h

pub where_some : {A : Type 0} (P : A → Type 0) (why : Why) (place : ℕ) (o : Option A) → ((x : A) → o ≡ Some x → P x) → Holds P (or_refuse why place o)
where_some P why place None h = tt
where_some P why place (Some x) h = h x refl

pub answered : {A : Type 0} (P : A → Type 0) (a : Answer A) (x : A) → Holds P a → a ≡ Ok x → P x
answered P a x h e = subst (Holds P) e h

pub weaker : {A : Type 0} (P Q : A → Type 0) (a : Answer A) → ((x : A) → P x → Q x) → Holds P a → Holds Q a
weaker P Q (Ok x) f h = f x h
weaker P Q (Err r) f h = tt

-- ---- lists

abbrev pub Every : {A : Type 0} → (A → Type 0) → List A → Type 0
Every P [] = Unit {0}
Every P (x ∷ xs) = P x × Every P xs

pub every_append : {A : Type 0} (P : A → Type 0) (xs ys : List A) → Every P xs → Every P ys → Every P (xs ++ ys)
every_append P [] ys h i = i
every_append P (x ∷ xs) ys h i = (h.0, every_append P xs ys h.1 i)

pub every_split : {A : Type 0} (P : A → Type 0) (xs ys : List A) → Every P (xs ++ ys) → Every P xs × Every P ys
every_split P [] ys h = (tt, h)
every_split P (x ∷ xs) ys h = let p = every_split P xs ys h.1 in ((h.0, p.0), p.1)

-- so many answers, of each of which something holds
abbrev pub AreSo : {A : Type 0} → (A → Type 0) → ℕ → List A → Type 0
AreSo P n ys = (length ys ≡ n) × Every P ys

from_done : {A B : Type 0} (P : B → Type 0) (f : A → Answer B) (xs : List A) → Every (λ x. Holds P (f x)) xs → (done : List B) → Every P done → Holds (AreSo P (length done + length xs)) (each_after f done xs)
from_done P f [] h done d = ((omega arith), d)
from_done P f (x ∷ xs) h done d =
    after P (AreSo P (length done + length (x ∷ xs))) (f x) (λ y. each_after f (done ++ y ∷ []) xs) h.0
    (λ y p.
    let e = length-append done (y ∷ []) in
    let n : length (done ++ y ∷ []) + length xs ≡ length done + length (x ∷ xs) = omega arith in
    subst (λ (n : ℕ). Holds (AreSo P n) (each_after f (done ++ y ∷ []) xs)) n (from_done P f xs h.1 (done ++ y ∷ []) (every_append P done (y ∷ []) d (p, tt))))

pub each_holds : {A B : Type 0} (P : B → Type 0) (f : A → Answer B) (xs : List A) → Every (λ x. Holds P (f x)) xs → Holds (AreSo P (length xs)) (each f xs)
each_holds P f xs h = weaker (AreSo P (0 + length xs)) (AreSo P (length xs)) (each f xs) (λ ys a. ((let e = a.0 in omega arith), a.1)) (from_done P f xs h [] tt)

pub every_of : {A : Type 0} (P : A → Type 0) → ((x : A) → P x) → (xs : List A) → Every P xs
every_of P f [] = tt
every_of P f (x ∷ xs) = (f x, every_of P f xs)

-- of answers that nothing is said of there are as many
pub each_length : {A B : Type 0} (f : A → Answer B) (xs : List A) → Holds (λ ys. length ys ≡ length xs) (each f xs)
each_length f xs = weaker (AreSo (λ y. Unit {0}) (length xs)) (λ ys. length ys ≡ length xs) (each f xs) (λ ys a. a.0)
    (each_holds (λ y. Unit {0}) f xs (every_of (λ x. Holds (λ y. Unit {0}) (f x)) (λ x. anything (f x)) xs))
  where
    anything : {B : Type 0} (a : Answer B) → Holds (λ y. Unit {0}) a
    anything (Ok y) = tt
    anything (Err r) = tt
