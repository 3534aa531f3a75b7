-- Lists of distinct numbers below a bound.
use Rattle.std.proofs.Common.{ℕ, zero, suc, ◌+◌, ◌<◌, ◌≤◌, ◌≡◌, ◌≢◌, ◌⊎◌, inl, inr, refl, sym, ap, ◌∙◌, subst, List, [], ◌∷◌, ◌++◌, length, arith}
use Rattle.std.proofs.lemmas.Bool.Decides.{eqb_tells}
use Rattle.std.specs.List.{remove}
use Rattle.std.specs.Prelude.{Option, None, Some, IfSome}
use Rattle.std.specs.Option.{option_to_list}
use Rattle.std.proofs.lemmas.List.{length_push}
use Rattle.task_shape.specs.Numbers.{one, count, without}
use Rattle.task_shape.proofs.Numbers.{one_same, one_yes, one_no, same_or_not, count-append, count_without}
use Rattle.task_shape.specs.Numbers.{IsDistinctBelow, AreApart}

length_without : (t : ℕ) (xs : List ℕ) → 0 < count t xs → length xs ≡ suc (length (without t xs))
length_without t [] h = absurd (omega arith)
length_without t (x ∷ xs) h = elim (eqb_tells x t) [
  | inl w ↦ rw w.0 refl
  | inr w ↦ rw w.0 (let z : one x t ≡ 0 = one_no x t w.1 in ap suc (length_without t xs (omega arith)))
]

-- as many distinct numbers as there are below the bound, at most
pub length_below : (n : ℕ) (xs : List ℕ) → IsDistinctBelow xs n → length xs ≤ n
length_below zero [] d = omega arith
length_below zero (x ∷ xs) d = absurd (let h : 0 < count x (x ∷ xs) = (let a : one x x ≡ 1 = one_same x in omega arith) in let k : x < 0 = d.below x h in omega arith)
length_below (suc n) xs d = elim (same_or_not (count n xs) 0) [
  | inl z ↦ (let h : length xs ≤ n = length_below n xs (record { once = d.once; below = λ t k. below_n t k (same_or_not t n) z }) in omega arith)
  | inr m ↦ (let k : 0 < count n xs = omega arith in
      let h : length (without n xs) ≤ n = length_below n (without n xs) (record { once = λ t. once_n t k; below = λ t l. below_without t l k (same_or_not t n) }) in
      let e : length xs ≡ suc (length (without n xs)) = length_without n xs k in omega arith)
]
  where
    below_n : (t : ℕ) → 0 < count t xs → (t ≡ n) ⊎ (t ≢ n) → count n xs ≡ 0 → t < n
    below_n t k (inl e) z = absurd (let y : count t xs ≡ 0 = ap (λ j. count j xs) e ∙ z in omega arith)
    below_n t k (inr m) z = let y : t < suc n = d.below t k in omega arith

    once_n : (t : ℕ) → 0 < count n xs → count t (without n xs) ≤ 1
    once_n t k = let y : one n t + count t (without n xs) ≡ count t xs = count_without n t xs k in let o : count t xs ≤ 1 = d.once t in omega arith

    below_without : (t : ℕ) → 0 < count t (without n xs) → 0 < count n xs → (t ≡ n) ⊎ (t ≢ n) → t < n
    below_without t l k (inl e) = absurd (
        let y : one n t + count t (without n xs) ≡ count t xs = count_without n t xs k in
        let o : count t xs ≤ 1 = d.once t in
        let s : one n t ≡ 1 = one_yes n t (sym e) in omega arith)
    below_without t l k (inr m) =
        let y : one n t + count t (without n xs) ≡ count t xs = count_without n t xs k in
        let b : 0 < count t xs = omega arith in
        let z : t < suc n = d.below t b in omega arith

pub push_distinct : (n t : ℕ) (xs : List ℕ) → IsDistinctBelow xs n → t < n → count t xs ≡ 0 → IsDistinctBelow (xs ++ t ∷ []) n
push_distinct n t xs d h z = record { once = λ u. once u (same_or_not t u); below = λ u k. below u k (same_or_not t u) }
  where
    once : (u : ℕ) → (t ≡ u) ⊎ (t ≢ u) → count u (xs ++ t ∷ []) ≤ 1
    once u (inl e) = rw (count-append u xs (t ∷ [])) (let a : count u xs ≡ 0 = subst (λ j. count j xs ≡ 0) e z in let b : one t u ≡ 1 = one_yes t u e in omega arith)
    once u (inr m) = rw (count-append u xs (t ∷ [])) (let a : count u xs ≤ 1 = d.once u in let b : one t u ≡ 0 = one_no t u m in omega arith)

    below : (u : ℕ) → 0 < count u (xs ++ t ∷ []) → (t ≡ u) ⊎ (t ≢ u) → u < n
    below u k (inl e) = subst (λ j. j < n) e h
    below u k (inr m) = d.below u (let a : count u (xs ++ t ∷ []) ≡ count u xs + count u (t ∷ []) = count-append u xs (t ∷ []) in let b : one t u ≡ 0 = one_no t u m in omega arith)

-- with one more below the bound there is room
pub fresh_room : (n t : ℕ) (xs : List ℕ) → IsDistinctBelow xs n → t < n → count t xs ≡ 0 → length xs < n
fresh_room n t xs d h z =
    let a : length (xs ++ t ∷ []) ≤ n = length_below n (xs ++ t ∷ []) (push_distinct n t xs d h z) in
    let b : length (xs ++ t ∷ []) ≡ length xs + 1 = length_push xs t in omega arith

pub count_remove : (u i : ℕ) (xs : List ℕ) → count u (remove xs i) ≤ count u xs
count_remove u zero [] = omega arith
count_remove u (suc i) [] = omega arith
count_remove u zero (x ∷ xs) = omega arith
count_remove u (suc i) (x ∷ xs) = let h : count u (remove xs i) ≤ count u xs = count_remove u i xs in omega arith

pub remove_distinct : (n i : ℕ) (xs : List ℕ) → IsDistinctBelow xs n → IsDistinctBelow (remove xs i) n
remove_distinct n i xs d = record {
  once = λ u. (let a : count u (remove xs i) ≤ count u xs = count_remove u i xs in let b : count u xs ≤ 1 = d.once u in omega arith);
  below = λ u k. d.below u (let a : count u (remove xs i) ≤ count u xs = count_remove u i xs in omega arith);
}

pub push_apart : (x : ℕ) (xs ys : List ℕ) → AreApart (x ∷ xs) ys → count x xs ≡ 0 → AreApart xs (ys ++ x ∷ [])
push_apart x xs ys a z = λ t k. (
    let old : count t ys ≡ 0 = a t (omega arith) in
    let here : one x t ≡ 0 = one_no x t (λ e. (let s : count t xs ≡ 0 = subst (λ j. count j xs ≡ 0) e z in omega arith)) in
    let both : count t (ys ++ x ∷ []) ≡ count t ys + count t (x ∷ []) = count-append t ys (x ∷ []) in
    omega arith)

-- the first of distinct numbers is below the bound, and stands no more in the rest
pub front_below : (n x : ℕ) (xs : List ℕ) → IsDistinctBelow (x ∷ xs) n → x < n
front_below n x xs d = d.below x (let a : one x x ≡ 1 = one_same x in omega arith)

pub front_once : (n x : ℕ) (xs : List ℕ) → IsDistinctBelow (x ∷ xs) n → count x xs ≡ 0
front_once n x xs d = let a : one x x ≡ 1 = one_same x in let b : count x (x ∷ xs) ≤ 1 = d.once x in omega arith

pub rest_distinct : (n x : ℕ) (xs : List ℕ) → IsDistinctBelow (x ∷ xs) n → IsDistinctBelow xs n
rest_distinct n x xs d = record {
  once = λ t. (let b : count t (x ∷ xs) ≤ 1 = d.once t in omega arith);
  below = λ t k. d.below t (omega arith);
}

-- what is left after the front was taken, if there was one
pub popped_rest : (n : ℕ) (o : Option ℕ) (xs ys : List ℕ) → xs ≡ option_to_list o ++ ys → IsDistinctBelow xs n → IsDistinctBelow ys n
popped_rest n None xs ys e d = subst (λ l. IsDistinctBelow l n) e d
popped_rest n (Some x) xs ys e d = rest_distinct n x ys (subst (λ l. IsDistinctBelow l n) e d)

pub popped_front : (n : ℕ) (o : Option ℕ) (xs ys : List ℕ) → xs ≡ option_to_list o ++ ys → IsDistinctBelow xs n → IfSome o (λ t. (t < n) × (count t ys ≡ 0))
popped_front n None xs ys e d = tt
popped_front n (Some x) xs ys e d = (front_below n x ys (subst (λ l. IsDistinctBelow l n) e d), front_once n x ys (subst (λ l. IsDistinctBelow l n) e d))
