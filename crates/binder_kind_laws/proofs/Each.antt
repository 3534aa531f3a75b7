-- What holds of answers, of lists of them one by one, and of lists.
use Rattle.std.proofs.Common.{ℕ, ◌≡◌, refl, sym, ◌∙◌, subst, Bool, true, false, Ok, Err, List, [], ◌∷◌, ◌++◌, length, arith}
use Rattle.std.proofs.lemmas.List.{append_assoc, append-nil}
use Rattle.typed_exprs.specs.declared.refusal.Why.{Why}
use Rattle.typed_exprs.specs.Answer.{Answer, refuse_if}
use Rattle.sql_binder.specs.Each.{each_after, each}
use Rattle.binder_laws.proofs.Holding.{Holds, after, weaker, Every}

-- where it isn't refused
pub unless_so : {A : Type 0} (P : A → Type 0) (b : Bool) (why : Why) (place : ℕ) (a : Answer A) → (b ≡ false → Holds P a) → Holds P (refuse_if b why place a)
unless_so P true why place a h = tt
unless_so P false why place a h = h refl

pub both_hold : {A : Type 0} (P Q : A → Type 0) (a : Answer A) → Holds P a → Holds Q a → Holds (λ x. P x × Q x) a
both_hold P Q (Ok x) h i = (h, i)
both_hold P Q (Err r) h i = tt

-- one by one, and as many
abbrev pub Pairs : {A B : Type 0} → (A → B → Type 0) → List A → List B → Type 0
Pairs R [] [] = Unit {0}
Pairs R (x ∷ xs) (y ∷ ys) = R x y × Pairs R xs ys
Pairs R _ _ = ⊥

pub pairs_length : {A B : Type 0} (R : A → B → Type 0) (xs : List A) (ys : List B) → Pairs R xs ys → length ys ≡ length xs
pairs_length R [] [] h = refl
pairs_length R (x ∷ xs) (y ∷ ys) h = let e = pairs_length R xs ys h.1 in omega arith
pairs_length R [] (y ∷ ys) h = absurd h
pairs_length R (x ∷ xs) [] h = absurd h

-- of the first list, and of the second one
pub pairs_first : {A B : Type 0} (R : A → B → Type 0) (P : A → Type 0) → ((x : A) (y : B) → R x y → P x) → (xs : List A) (ys : List B) → Pairs R xs ys → Every P xs
pairs_first R P f [] [] h = tt
pairs_first R P f (x ∷ xs) (y ∷ ys) h = (f x y h.0, pairs_first R P f xs ys h.1)
pairs_first R P f [] (y ∷ ys) h = absurd h
pairs_first R P f (x ∷ xs) [] h = absurd h

pub pairs_second : {A B : Type 0} (R : A → B → Type 0) (P : B → Type 0) → ((x : A) (y : B) → R x y → P y) → (xs : List A) (ys : List B) → Pairs R xs ys → Every P ys
pairs_second R P f [] [] h = tt
pairs_second R P f (x ∷ xs) (y ∷ ys) h = (f x y h.0, pairs_second R P f xs ys h.1)
pairs_second R P f [] (y ∷ ys) h = absurd h
pairs_second R P f (x ∷ xs) [] h = absurd h

-- behind those that are done
abbrev Behind : {A B : Type 0} → (A → B → Type 0) → List A → List B → List B → Type 0
Behind {A} {B} R xs done ys = (zs : List B) × ((ys ≡ done ++ zs) × Pairs R xs zs)

pairs_after : {A B : Type 0} (R : A → B → Type 0) (f : A → Answer B) → ((x : A) → Holds (R x) (f x)) → (xs : List A) (done : List B) → Holds (Behind R xs done) (each_after f done xs)
pairs_after R f h [] done = ([], (sym (append-nil done), tt))
pairs_after R f h (x ∷ xs) done =
    after (R x) (Behind R (x ∷ xs) done) (f x) (λ y. each_after f (done ++ y ∷ []) xs) (h x)
    (λ y r. weaker (Behind R xs (done ++ y ∷ [])) (Behind R (x ∷ xs) done) (each_after f (done ++ y ∷ []) xs)
    (λ ys b. (y ∷ b.0, (b.1.0 ∙ append_assoc done (y ∷ []) b.0, (r, b.1.1)))) (pairs_after R f h xs (done ++ y ∷ [])))

pub each_pairs : {A B : Type 0} (R : A → B → Type 0) (f : A → Answer B) → ((x : A) → Holds (R x) (f x)) → (xs : List A) → Holds (Pairs R xs) (each f xs)
each_pairs R f h xs = weaker (Behind R xs []) (Pairs R xs) (each f xs) (λ ys b. subst (Pairs R xs) (sym b.1.0) b.1.1) (pairs_after R f h xs [])
