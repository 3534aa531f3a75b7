-- First ones of lists of keys, by the weights of bags.
use Rattle.std.proofs.Common.{ℕ, zero, suc, ◌+◌, ◌<◌, ◌≡◌, refl, sym, ap, ◌∙◌, subst, cond, List, [], ◌∷◌, ◌++◌, map, Bool, true, false, not, ◌||◌, arith}
use Rattle.std.specs.Cmp.{IsEquivalence}
use Rattle.std.specs.List.{sum_by, filter, list_any}
use Rattle.std.proofs.lemmas.Bool.{true≢false}
use Rattle.std.proofs.lemmas.List.Sums.{sum_by-cons}
use Rattle.scalar_exprs.specs.Groups.{firsts}
use Rattle.phase_laws.proofs.Bags.{Each}
use Rattle.content_laws.proofs.Weights.{sum_same, sum-filter}

-- a weight, but for what is like x
abbrev pub without : {K : Type 0} → (K → K → Bool) → K → (K → ℕ) → K → ℕ
without same x w k = cond (not (same x k)) (w k) 0

without_yes : {K : Type 0} (same : K → K → Bool) (x : K) (w : K → ℕ) (k : K) → same x k ≡ true → without same x w k ≡ 0
without_yes same x w k e = ap (λ b. cond (not b) (w k) 0) e

without_no : {K : Type 0} (same : K → K → Bool) (x : K) (w : K → ℕ) (k : K) → same x k ≡ false → without same x w k ≡ w k
without_no same x w k e = ap (λ b. cond (not b) (w k) 0) e

-- the first ones weigh the front one, and the others without what is like it
pub firsts-cons : {K : Type 0} (same : K → K → Bool) (w : K → ℕ) (x : K) (xs : List K) → sum_by w (firsts same (x ∷ xs)) ≡ w x + sum_by (without same x w) (firsts same xs)
firsts-cons same w x xs = sum_by-cons w x (filter (λ s. not (same x s)) (firsts same xs)) ∙ ap (λ m. w x + m) (sum-filter (λ s. not (same x s)) w (firsts same xs))

swap_conds : (a b : Bool) (n : ℕ) → cond a (cond b n 0) 0 ≡ cond b (cond a n 0) 0
swap_conds true true n = refl
swap_conds true false n = refl
swap_conds false true n = refl
swap_conds false false n = refl

same_conds : (a : Bool) (n : ℕ) → cond a (cond a n 0) 0 ≡ cond a n 0
same_conds true n = refl
same_conds false n = refl

abbrev pub if_any : Bool → ℕ → ℕ
if_any b n = cond b n 0

-- among those that pass, keys that are the same are one
pub record IsExactAmong {K : Type 0} (same : K → K → Bool) (ok : K → Bool) : Type 0 where
  pub laws : IsEquivalence same
  pub exact : (a b : K) → ok a ≡ true → ok b ≡ true → same a b ≡ true → a ≡ b

-- what is like x among the first ones is x, once
pub taken_out : {K : Type 0} {same : K → K → Bool} {ok : K → Bool} → IsExactAmong same ok → (w : K → ℕ) (x : K) (ys : List K) → ok x ≡ true → Each ok ys
    → sum_by w (firsts same ys) ≡ if_any (list_any (same x) ys) (w x) + sum_by (without same x w) (firsts same ys)
taken_out l w x [] good h = refl
taken_out {K = K} {same = same} {ok = ok} l w x (y ∷ ys) good h = by (same x y) refl (λ v. taken_out l v x ys good h.1)
  where
    by : (b : Bool) → same x y ≡ b → ((v : K → ℕ) → sum_by v (firsts same ys) ≡ if_any (list_any (same x) ys) (v x) + sum_by (without same x v) (firsts same ys)) → sum_by w (firsts same (y ∷ ys)) ≡ if_any (list_any (same x) (y ∷ ys)) (w x) + sum_by (without same x w) (firsts same (y ∷ ys))
    by true e ih =
        let q : x ≡ y = l.exact x y good h.0 e in
        let P : K → Type 0 = λ z. sum_by w (firsts same (z ∷ ys)) ≡ if_any (same x z || list_any (same x) ys) (w x) + sum_by (without same x w) (firsts same (z ∷ ys)) in
        subst P q here
      where
        here : sum_by w (firsts same (x ∷ ys)) ≡ if_any (same x x || list_any (same x) ys) (w x) + sum_by (without same x w) (firsts same (x ∷ ys))
        here =
            let r : same x x ≡ true = l.laws.refl x in
            let a : sum_by w (firsts same (x ∷ ys)) ≡ w x + sum_by (without same x w) (firsts same ys) = firsts-cons same w x ys in
            let b : sum_by (without same x w) (firsts same (x ∷ ys)) ≡ without same x w x + sum_by (without same x (without same x w)) (firsts same ys) = firsts-cons same (without same x w) x ys in
            let c : without same x w x ≡ 0 = without_yes same x w x r in
            let d : sum_by (without same x (without same x w)) (firsts same ys) ≡ sum_by (without same x w) (firsts same ys) = sum_same _ _ (λ k. same_conds (not (same x k)) (w k)) (firsts same ys) in
            let e : if_any (same x x || list_any (same x) ys) (w x) ≡ w x = ap (λ b. if_any (b || list_any (same x) ys) (w x)) r in
            omega arith
    by false e ih =
        let back : same y x ≡ false = l.laws.symm y x ∙ e in
        let a : sum_by w (firsts same (y ∷ ys)) ≡ w y + sum_by (without same y w) (firsts same ys) = firsts-cons same w y ys in
        let b : sum_by (without same x w) (firsts same (y ∷ ys)) ≡ without same x w y + sum_by (without same y (without same x w)) (firsts same ys) = firsts-cons same (without same x w) y ys in
        let c : without same x w y ≡ w y = without_no same x w y e in
        let d : sum_by (without same y w) (firsts same ys) ≡ if_any (list_any (same x) ys) (without same y w x) + sum_by (without same x (without same y w)) (firsts same ys) = ih (without same y w) in
        let f : sum_by (without same y (without same x w)) (firsts same ys) ≡ sum_by (without same x (without same y w)) (firsts same ys) = sum_same _ _ (λ k. swap_conds (not (same y k)) (not (same x k)) (w k)) (firsts same ys) in
        let g : if_any (list_any (same x) ys) (without same y w x) ≡ if_any (list_any (same x) ys) (w x) = ap (if_any (list_any (same x) ys)) (without_no same y w x back) in
        let i : if_any (same x y || list_any (same x) ys) (w x) ≡ if_any (list_any (same x) ys) (w x) = ap (λ b. if_any (b || list_any (same x) ys) (w x)) e in
        omega arith

none_weighs : {K : Type 0} (same : K → K → Bool) → IsEquivalence same → (ok : K → Bool) (w : K → ℕ) (ys : List K) → Each ok ys
    → ((k : K) → ok k ≡ true → 0 < w k → false ≡ list_any (same k) ys) → sum_by w (firsts same ys) ≡ 0
none_weighs same laws ok w [] good h = refl
none_weighs {K = K} same laws ok w (y ∷ ys) good h =
    let a : sum_by w (firsts same (y ∷ ys)) ≡ w y + sum_by (without same y w) (firsts same ys) = firsts-cons same w y ys in
    let b : sum_by (without same y w) (firsts same ys) ≡ 0 = none_weighs same laws ok (without same y w) ys good.1 (λ k g p. later k g (by_weight (same y k) (w k) p)) in
    let c : w y ≡ 0 = zero_or (w y) refl in
    omega arith
  where
    by_weight : (b : Bool) (n : ℕ) → 0 < cond (not b) n 0 → 0 < n
    by_weight true n p = absurd (omega arith)
    by_weight false n p = p

    later : (k : K) → ok k ≡ true → 0 < w k → false ≡ list_any (same k) ys
    later k g p = split (same k y) (list_any (same k) ys) (h k g p)
      where
        split : (a b : Bool) → false ≡ (a || b) → false ≡ b
        split true b e = absurd (true≢false (sym e))
        split false b e = e

    zero_or : (n : ℕ) → w y ≡ n → n ≡ 0
    zero_or zero e = refl
    zero_or (suc n) e = absurd (true≢false (sym (h y good.0 (rw e (omega arith)) ∙ ap (λ b. b || list_any (same y) ys) (laws.refl y))))

-- lists in which the same keys occur have first ones of one weight
pub firsts_same : {K : Type 0} {same : K → K → Bool} {ok : K → Bool} → IsExactAmong same ok → (w : K → ℕ) (xs ys : List K) → Each ok xs → Each ok ys
    → ((k : K) → ok k ≡ true → 0 < w k → list_any (same k) xs ≡ list_any (same k) ys) → sum_by w (firsts same xs) ≡ sum_by w (firsts same ys)
firsts_same {same = same} {ok = ok} l w [] ys gx gy h = sym (none_weighs same l.laws ok w ys gy h)
firsts_same {K = K} {same = same} {ok = ok} l w (x ∷ xs) ys gx gy h =
    let a : sum_by w (firsts same (x ∷ xs)) ≡ w x + sum_by (without same x w) (firsts same xs) = firsts-cons same w x xs in
    let b : sum_by w (firsts same ys) ≡ if_any (list_any (same x) ys) (w x) + sum_by (without same x w) (firsts same ys) = taken_out l w x ys gx.0 gy in
    let c : sum_by (without same x w) (firsts same xs) ≡ sum_by (without same x w) (firsts same ys) = firsts_same l (without same x w) xs ys gx.1 gy later in
    let d : if_any (list_any (same x) ys) (w x) ≡ w x = weighs (w x) refl in
    omega arith
  where
    later : (k : K) → ok k ≡ true → 0 < without same x w k → list_any (same k) xs ≡ list_any (same k) ys
    later k g p = by (same x k) refl
      where
        by : (b : Bool) → same x k ≡ b → list_any (same k) xs ≡ list_any (same k) ys
        by true e = absurd (let z : without same x w k ≡ 0 = without_yes same x w k e in omega arith)
        by false e = ap (λ b. b || list_any (same k) xs) (sym (l.laws.symm k x ∙ e)) ∙ h k g (let z : without same x w k ≡ w k = without_no same x w k e in omega arith)

    weighs : (n : ℕ) → w x ≡ n → if_any (list_any (same x) ys) (w x) ≡ w x
    weighs zero e = rw e (cases (list_any (same x) ys))
      where
        cases : (b : Bool) → cond {A = ℕ} b 0 0 ≡ 0
        cases true = refl
        cases false = refl
    weighs (suc n) e = ap (λ b. if_any b (w x)) (sym (h x gx.0 (rw e (omega arith))) ∙ ap (λ b. b || list_any (same x) xs) (l.laws.refl x))

-- first ones of two lists, one after the other
pub firsts-append : {K : Type 0} (same : K → K → Bool) (w : K → ℕ) (xs ys : List K)
    → sum_by w (firsts same (xs ++ ys)) ≡ sum_by w (firsts same xs) + sum_by (λ k. cond (list_any (λ x. same x k) xs) 0 (w k)) (firsts same ys)
firsts-append same w [] ys = let a : sum_by w (firsts same ys) ≡ sum_by w (firsts same ys) = refl in omega arith
firsts-append same w (x ∷ xs) ys =
    let a : sum_by w (firsts same (x ∷ (xs ++ ys))) ≡ w x + sum_by (without same x w) (firsts same (xs ++ ys)) = firsts-cons same w x (xs ++ ys) in
    let b : sum_by w (firsts same (x ∷ xs)) ≡ w x + sum_by (without same x w) (firsts same xs) = firsts-cons same w x xs in
    let c : sum_by (without same x w) (firsts same (xs ++ ys)) ≡ sum_by (without same x w) (firsts same xs) + sum_by (λ k. cond (list_any (λ x. same x k) xs) 0 (without same x w k)) (firsts same ys) = firsts-append same (without same x w) xs ys in
    let d : sum_by (λ k. cond (list_any (λ x. same x k) xs) 0 (without same x w k)) (firsts same ys) ≡ sum_by (λ k. cond (same x k || list_any (λ x. same x k) xs) 0 (w k)) (firsts same ys) = sum_same _ _ (λ k. both (same x k) (list_any (λ x. same x k) xs) (w k)) (firsts same ys) in
    omega arith
  where
    both : (a b : Bool) (n : ℕ) → cond b 0 (cond (not a) n 0) ≡ cond (a || b) 0 n
    both true true n = refl
    both true false n = refl
    both false true n = refl
    both false false n = refl

-- first ones by their keys
pub firsts-map : {R K : Type 0} (same : K → K → Bool) (key : R → K) (w : K → ℕ) (xs : List R) → sum_by (λ r. w (key r)) (firsts (λ r s. same (key r) (key s)) xs) ≡ sum_by w (firsts same (map key xs))
firsts-map same key w [] = refl
firsts-map same key w (x ∷ xs) = firsts-cons (λ r s. same (key r) (key s)) (λ r. w (key r)) x xs ∙ (ap (λ m. w (key x) + m) (firsts-map same key (without same (key x) w) xs) ∙ sym (firsts-cons same w (key x) (map key xs)))

-- of what a test keeps that holds of like ones alike, and of like ones alone, the first one is the front one
pub any-firsts : {K : Type 0} (same : K → K → Bool) (p : K → Bool) → ((a b : K) → same a b ≡ true → p a ≡ p b) → (xs : List K) → list_any p (firsts same xs) ≡ list_any p xs
any-firsts same p alike [] = refl
any-firsts {K = K} same p alike (x ∷ xs) = by (p x) refl (any-firsts same p alike xs)
  where
    kept : (ys : List K) → p x ≡ false → list_any p (filter (λ s. not (same x s)) ys) ≡ list_any p ys
    kept [] e = refl
    kept (y ∷ ys) e = cases (same x y) refl (kept ys e)
      where
        cases : (b : Bool) → same x y ≡ b → list_any p (filter (λ s. not (same x s)) ys) ≡ list_any p ys → list_any p (cond (not b) (y ∷ filter (λ s. not (same x s)) ys) (filter (λ s. not (same x s)) ys)) ≡ (p y || list_any p ys)
        cases true h ih = ih ∙ ap (λ b. b || list_any p ys) (sym (sym (alike x y h) ∙ e))
        cases false h ih = ap (λ b. p y || b) ih

    by : (b : Bool) → p x ≡ b → list_any p (firsts same xs) ≡ list_any p xs → (p x || list_any p (filter (λ s. not (same x s)) (firsts same xs))) ≡ (p x || list_any p xs)
    by true e ih = rw e refl
    by false e ih = ap (λ b. p x || b) (kept (firsts same xs) e ∙ ih)
