-- Grouped rows.
use Rattle.std.proofs.Common.{ℕ, ◌+◌, ◌≡◌, refl, sym, ap, ◌∙◌, cond, List, [], ◌∷◌, ◌++◌, map, Bool, true, false, not, ◌||◌, arith}
use Rattle.std.specs.List.{sum_by, filter, list_any}
use Rattle.std.proofs.lemmas.Bool.{true≢false}
use Rattle.std.proofs.lemmas.List.{append-nil}
use Rattle.std.proofs.lemmas.List.Elements.{filter-append}
use Rattle.scalar_exprs.specs.Groups.{same_keys, firsts}
use Rattle.logical_plan.specs.Items.{Cells}
use Rattle.phase_laws.specs.Phases.{grouped}
use Rattle.phase_laws.proofs.Bags.{Each, each_more, each_both, each-filter, sum_each, each-map}
use Rattle.content_laws.proofs.Weights.{sum_by-map, sum_same}
use Rattle.phase_laws.proofs.Firsts.{IsExactAmong, firsts_same, firsts-append, firsts-map}
use Rattle.key_laws.proofs.Found.{same_keys_laws}

-- a group's rows, by its keys
abbrev pub of_keys : {R : Type 0} → (R → Cells) → Cells → List R → List R
of_keys key k all = filter (λ s. same_keys k (key s)) all

abbrev pub like : {R : Type 0} → (R → Cells) → R → R → Bool
like key r s = same_keys (key r) (key s)

grouped_weigh : {R X : Type 0} (key : R → Cells) (ans : Cells → List R → X) (w : X → ℕ) (all : List R) → sum_by w (grouped key ans all) ≡ sum_by (λ r. w (ans (key r) (of_keys key (key r) all))) (firsts (like key) all)
grouped_weigh key ans w all = sum_by-map (λ r. ans (key r) (of_keys key (key r) all)) w (firsts (like key) all)

pub any-map : {A B : Type 0} (h : A → B) (p : B → Bool) (xs : List A) → list_any p (map h xs) ≡ list_any (λ x. p (h x)) xs
any-map h p [] = refl
any-map h p (x ∷ xs) = ap (λ b. p (h x) || b) (any-map h p xs)

-- ---- lists apart

pub not_any : {A : Type 0} (p : A → Bool) (xs : List A) → not (list_any p xs) ≡ true → Each (λ x. not (p x)) xs
not_any p [] h = tt
not_any p (x ∷ xs) h = by (p x) refl h (not_any p xs)
  where
    by : (b : Bool) → p x ≡ b → not (b || list_any p xs) ≡ true → (not (list_any p xs) ≡ true → Each (λ x. not (p x)) xs) → (not (p x) ≡ true) × Each (λ x. not (p x)) xs
    by true e h more = absurd (true≢false (sym h))
    by false e h more = (ap not e, more h)

pub none_kept : {A : Type 0} (p : A → Bool) (xs : List A) → Each (λ x. not (p x)) xs → filter p xs ≡ []
none_kept p [] h = refl
none_kept p (x ∷ xs) h = by (p x) h.0 (none_kept p xs h.1)
  where
    by : (b : Bool) → not b ≡ true → filter p xs ≡ [] → cond b (x ∷ filter p xs) (filter p xs) ≡ []
    by true e ih = absurd (true≢false (sym e))
    by false e ih = ih

neither : (a b : Bool) → not a ≡ true → not b ≡ true → not (a || b) ≡ true
neither true b h k = h
neither false b h k = k

pub turned_round : {A : Type 0} (rel : A → A → Bool) (xs ys : List A) → Each (λ x. not (list_any (rel x) ys)) xs → Each (λ y. not (list_any (λ x. rel x y) xs)) ys
turned_round rel [] ys h = nothing ys
  where
    nothing : {B : Type 0} (zs : List B) → Each (λ z. true) zs
    nothing [] = tt
    nothing (z ∷ zs) = (refl, nothing zs)
turned_round rel (x ∷ xs) ys h = each_both (λ y. not (rel x y)) (λ y. not (list_any (λ x. rel x y) xs)) (λ y. not (rel x y || list_any (λ x. rel x y) xs)) (λ y a b. neither _ _ a b) ys (not_any (rel x) ys h.0) (turned_round rel xs ys h.1)

-- ---- first ones

pub each-firsts : {A : Type 0} (p : A → Bool) (rel : A → A → Bool) (xs : List A) → Each p xs → Each p (firsts rel xs)
each-firsts p rel [] h = tt
each-firsts p rel (x ∷ xs) h = (h.0, each-filter p (λ s. not (rel x s)) (firsts rel xs) (each-firsts p rel xs h.1))

-- what a row's group among all weighs
abbrev weight_at : {R X : Type 0} → (R → Cells) → (Cells → List R → X) → (X → ℕ) → List R → R → ℕ
weight_at key ans w all r = w (ans (key r) (of_keys key (key r) all))

-- groups of rows apart are those of each
pub grouped-append : {R X : Type 0} (key : R → Cells) (ans : Cells → List R → X) (w : X → ℕ) (xs ys : List R) → Each (λ r. not (list_any (like key r) ys)) xs
    → sum_by w (grouped key ans (xs ++ ys)) ≡ sum_by w (grouped key ans xs) + sum_by w (grouped key ans ys)
grouped-append {R = R} key ans w xs ys h =
    let a : sum_by w (grouped key ans (xs ++ ys)) ≡ sum_by (weight_at key ans w (xs ++ ys)) (firsts (like key) (xs ++ ys)) = grouped_weigh key ans w (xs ++ ys) in
    let b : sum_by (weight_at key ans w (xs ++ ys)) (firsts (like key) (xs ++ ys)) ≡ sum_by (weight_at key ans w (xs ++ ys)) (firsts (like key) xs) + sum_by (λ s. cond (list_any (λ r. like key r s) xs) 0 (weight_at key ans w (xs ++ ys) s)) (firsts (like key) ys)
    = firsts-append (like key) (weight_at key ans w (xs ++ ys)) xs ys in
    let c : sum_by (weight_at key ans w (xs ++ ys)) (firsts (like key) xs) ≡ sum_by (weight_at key ans w xs) (firsts (like key) xs)
    = sum_each (λ r. not (list_any (like key r) ys)) _ _ at_left (firsts (like key) xs) (each-firsts _ (like key) xs h) in
    let d : sum_by (λ s. cond (list_any (λ r. like key r s) xs) 0 (weight_at key ans w (xs ++ ys) s)) (firsts (like key) ys) ≡ sum_by (weight_at key ans w ys) (firsts (like key) ys)
    = sum_each (λ s. not (list_any (λ r. like key r s) xs)) _ _ at_right (firsts (like key) ys) (each-firsts _ (like key) ys (turned_round (like key) xs ys h)) in
    let e : sum_by w (grouped key ans xs) ≡ sum_by (weight_at key ans w xs) (firsts (like key) xs) = grouped_weigh key ans w xs in
    let f : sum_by w (grouped key ans ys) ≡ sum_by (weight_at key ans w ys) (firsts (like key) ys) = grouped_weigh key ans w ys in
    omega arith
  where
    at_left : (r : R) → not (list_any (like key r) ys) ≡ true → weight_at key ans w (xs ++ ys) r ≡ weight_at key ans w xs r
    at_left r e = ap (λ zs. w (ans (key r) zs)) (filter-append (like key r) xs ys ∙ (ap (λ zs. filter (like key r) xs ++ zs) (none_kept (like key r) ys (not_any (like key r) ys e)) ∙ append-nil (filter (like key r) xs)))

    other : (s : R) (zs : List R) → Each (λ r. not (like key r s)) zs → Each (λ r. not (like key s r)) zs
    other s zs e = each_more (λ r. not (like key r s)) (λ r. not (like key s r)) (λ r k. ap not (same_keys_laws.symm (key s) (key r)) ∙ k) zs e

    at_right : (s : R) → not (list_any (λ r. like key r s) xs) ≡ true → cond (list_any (λ r. like key r s) xs) 0 (weight_at key ans w (xs ++ ys) s) ≡ weight_at key ans w ys s
    at_right s e = ap (λ b. cond b 0 (weight_at key ans w (xs ++ ys) s)) (not_is (list_any (λ r. like key r s) xs) e)
        ∙ ap (λ zs. w (ans (key s) zs)) (filter-append (like key s) xs ys ∙ ap (λ zs. zs ++ filter (like key s) ys) (none_kept (like key s) xs (other s xs (not_any (λ r. like key r s) xs e))))
      where
        not_is : (b : Bool) → not b ≡ true → b ≡ false
        not_is true h = absurd (true≢false (sym h))
        not_is false h = refl

-- rows of two sorts, by whose keys the answers weigh the same, and in which the same keys occur
pub grouped_same : {R Q X : Type 0} (key : R → Cells) (other : Q → Cells) (ans : Cells → List R → X) (bns : Cells → List Q → X) (w : X → ℕ) (ok : Cells → Bool) → IsExactAmong same_keys ok
    → (xs : List R) (ys : List Q) → Each (λ r. ok (key r)) xs → Each (λ s. ok (other s)) ys
    → ((k : Cells) → w (ans k (of_keys key k xs)) ≡ w (bns k (of_keys other k ys)))
    → ((k : Cells) → list_any (λ r. same_keys k (key r)) xs ≡ list_any (λ s. same_keys k (other s)) ys)
    → sum_by w (grouped key ans xs) ≡ sum_by w (grouped other bns ys)
grouped_same key other ans bns w ok exact xs ys gx gy one any =
    let v : Cells → ℕ = λ k. w (ans k (of_keys key k xs)) in
    let u : Cells → ℕ = λ k. w (bns k (of_keys other k ys)) in
    let a : sum_by w (grouped key ans xs) ≡ sum_by v (firsts same_keys (map key xs)) = grouped_weigh key ans w xs ∙ firsts-map same_keys key v xs in
    let b : sum_by w (grouped other bns ys) ≡ sum_by u (firsts same_keys (map other ys)) = grouped_weigh other bns w ys ∙ firsts-map same_keys other u ys in
    let c : sum_by v (firsts same_keys (map key xs)) ≡ sum_by u (firsts same_keys (map key xs)) = sum_same v u one (firsts same_keys (map key xs)) in
    let d : sum_by u (firsts same_keys (map key xs)) ≡ sum_by u (firsts same_keys (map other ys)) = firsts_same exact u (map key xs) (map other ys) (each-map key ok xs gx) (each-map other ok ys gy) (λ k g p. any-map key (same_keys k) xs ∙ (any k ∙ sym (any-map other (same_keys k) ys))) in
    a ∙ (c ∙ (d ∙ sym b))
