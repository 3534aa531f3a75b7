-- Lists that change at one place.
use Rattle.std.proofs.Common.{◌≡◌, ℕ, zero, suc, ◌+◌, ◌<◌, ◌≢◌, ◌⊎◌, Bool, true, false, List, [], ◌∷◌, ◌++◌, length, get_or, set, sym, refl, ap, ◌∙◌, subst, inl, inr, ⊎_elim, arith}
use mathlib.Core.Option.{some, some-injective, some-ne-none}
use lib.ListN.{get_elem?}
use Rattle.atomic_table.proofs.Lists.{at_set, at_snoc}

-- the one view of a new table
pub only : {A : Type 0} (P : A → Type 0) (w : A) → P w → (i : ℕ) (v : A) → get_elem? (w ∷ []) i ≡ some v → P v
only P w here zero v e = subst P (some-injective w v e) here
only P w here (suc i) v e = absurd (some-ne-none v (sym e))

pub each_snoc : {A : Type 0} (P : ℕ → A → Type 0) (l : List A) (w : A) → ((i : ℕ) → P i w) → ((i : ℕ) (v : A) → get_elem? l i ≡ some v → P i v)
    → (i : ℕ) (v : A) → get_elem? (l ++ w ∷ []) i ≡ some v → P i v
each_snoc {A} P l w here old i v e = ⊎_elim (λ (t : get_elem? l i ≡ some v). old i v t) (λ (t : w ≡ v). subst (λ (z : A). P i z) t (here i)) (at_snoc l w v i e)

-- what holds at the seat that changed and at each other
pub each_set : {A : Type 0} (P : ℕ → A → Type 0) (l : List A) (id : ℕ) (w : A) → P id w → ((i : ℕ) (v : A) → i ≢ id → get_elem? l i ≡ some v → P i v)
    → (i : ℕ) (v : A) → get_elem? (set l id w) i ≡ some v → P i v
each_set {A} P l id w here old i v e = ⊎_elim
    (λ (t : (i ≡ id) × (w ≡ v)). subst (λ (z : ℕ × A). P z.0 z.1) (λ k. (sym t.0 k, t.1 k)) here)
    (λ (t : (i ≢ id) × (get_elem? l i ≡ some v)). old i v t.0 t.1)
    (at_set l id i w v e)

abbrev pub tail : {A : Type 0} → List A → List A
tail [] = []
tail (x ∷ xs) = xs

pub tail_at : {A : Type 0} (l : List A) (k : ℕ) → get_elem? (tail l) k ≡ get_elem? l (suc k)
tail_at [] k = refl
tail_at (x ∷ xs) k = refl

pub tail_length : {A : Type 0} (l : List A) (a : A) → get_elem? l 0 ≡ some a → length l ≡ 1 + length (tail l)
tail_length [] a e = absurd (some-ne-none a (sym e))
tail_length (x ∷ xs) a e = omega arith

pub not_true : (b : Bool) → ¬ (b ≡ true) → b ≡ false
not_true true not = absurd (not refl)
not_true false not = refl

-- who stands in the line, and not first, stands in the rest of it
pub moved_up : (l : List ℕ) (id i k : ℕ) → get_elem? l 0 ≡ some id → i ≢ id → get_elem? l k ≡ some i → (j : ℕ) × (k ≡ suc j) × (get_elem? (tail l) j ≡ some i)
moved_up l id i zero first other e = absurd (other (some-injective i id (sym e ∙ first)))
moved_up l id i (suc j) first other e = (j, refl, tail_at l j ∙ e)

pub snoc_index : {A : Type 0} (l : List A) (a b : A) (j : ℕ) → get_elem? (l ++ a ∷ []) j ≡ some b → (get_elem? l j ≡ some b) ⊎ ((a ≡ b) × (j ≡ length l))
snoc_index [] a b zero e = inr (some-injective a b e, refl)
snoc_index [] a b (suc j) e = absurd (some-ne-none b (sym e))
snoc_index (x ∷ xs) a b zero e = inl e
snoc_index (x ∷ xs) a b (suc j) e = ⊎_elim (λ t. inl t) (λ t. inr (t.0, ap suc t.1)) (snoc_index xs a b j e)

pub snoc_each : {A : Type 0} (P : ℕ → A → Type 0) (l : List A) (x : A) → ((k : ℕ) (d : A) → k < length l → P k (get_or l k d)) → P (length l) x
    → (k : ℕ) (d : A) → k < length (l ++ x ∷ []) → P k (get_or (l ++ x ∷ []) k d)
snoc_each P [] x old new zero d h = new
snoc_each P [] x old new (suc k) d h = absurd (omega arith)
snoc_each P (y ∷ ys) x old new zero d h = old 0 d (omega arith)
snoc_each P (y ∷ ys) x old new (suc k) d h = snoc_each (λ j. P (suc j)) ys x (λ j e b. old (suc j) e (omega arith)) new k d (omega arith)

-- two views that aren't equal stand at different places
pub differ : {A : Type 0} (l : List A) (i id : ℕ) (v u : A) → get_elem? l i ≡ some v → get_elem? l id ≡ some u → (v ≡ u → ⊥) → i ≢ id
differ l i id v u e at ne same = ne (some-injective v u (sym e ∙ (ap (λ k. get_elem? l k) same ∙ at)))
