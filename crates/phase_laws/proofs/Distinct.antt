-- DISTINCT is an aggregate by all columns without calls; partitions by a number of the keys are apart.
use Rattle.std.proofs.Common.{ℕ, ◌<◌, ◌≡◌, refl, sym, ap, ◌∙◌, cond, eqb, List, [], ◌∷◌, ◌++◌, map, length, Bool, true, false, not, ◌||◌, Ok, arith}
use Rattle.std.specs.List.{filter, list_any, list_all, AllPass}
use Rattle.std.proofs.lemmas.Bool.{eqb-true}
use Rattle.std.proofs.lemmas.List.{append-nil}
use Rattle.std.proofs.lemmas.List.Sums.{AllPass-from_list_all}
use Rattle.dfx_value.specs.Kinds.{are_of}
use Rattle.dfx_value.specs.declared.kind.Kind.{Kind}
use Rattle.dfx_value.proofs.BatchLemmas.{length-are_of}
use Rattle.dfx_value.specs.Rows.{cells_at}
use Rattle.scalar_exprs.specs.Groups.{same_keys, firsts}
use Rattle.logical_plan.specs.Items.{Cells, Item, rows, faults, of_rows, of_faults}
use Rattle.logical_plan.specs.Groups.{alike, group_of, group_item, aggregated, distinct}
use Rattle.phase_laws.specs.Phases.{IsApart}
use Rattle.physical_plan.specs.Numbers.{numbers}
use Rattle.phase_laws.proofs.Bags.{Each, each_more}
use Rattle.phase_laws.proofs.Groups.{each-firsts}
use Rattle.phase_laws.proofs.Items.{each_pass}
use Rattle.phase_laws.proofs.Phases.{all_columns}

filter_on : {A : Type 0} (ok p q : A → Bool) → ((x : A) → ok x ≡ true → p x ≡ q x) → (xs : List A) → Each ok xs → filter p xs ≡ filter q xs
filter_on ok p q h [] e = refl
filter_on ok p q h (x ∷ xs) e = ap (λ b. cond b (x ∷ filter p xs) (filter p xs)) (h x e.0) ∙ ap (λ zs. cond (q x) (x ∷ zs) zs) (filter_on ok p q h xs e.1)

firsts_on : {A : Type 0} (ok : A → Bool) (p q : A → A → Bool) → ((x y : A) → ok x ≡ true → ok y ≡ true → p x y ≡ q x y) → (xs : List A) → Each ok xs → firsts p xs ≡ firsts q xs
firsts_on ok p q h [] e = refl
firsts_on ok p q h (x ∷ xs) e = ap (λ zs. x ∷ filter (λ s. not (p x s)) zs) (firsts_on ok p q h xs e.1)
    ∙ ap (λ zs. x ∷ zs) (filter_on ok (λ s. not (p x s)) (λ s. not (q x s)) (λ s f. ap not (h x s e.0 f)) (firsts q xs) (each-firsts ok q xs e.1))

map_on : {A B : Type 0} (ok : A → Bool) (f g : A → B) → ((x : A) → ok x ≡ true → f x ≡ g x) → (xs : List A) → Each ok xs → map f xs ≡ map g xs
map_on ok f g h [] e = refl
map_on ok f g h (x ∷ xs) e = ap (λ y. y ∷ map f xs) (h x e.0) ∙ ap (λ ys. g x ∷ ys) (map_on ok f g h xs e.1)

row_is : (kinds : List Kind) (row : Cells) → are_of kinds row ≡ true → cells_at (numbers (length kinds)) row ≡ row
row_is kinds row e = ap (λ n. cells_at (numbers n) row) (sym (length-are_of kinds row e)) ∙ (ap (cells_at (numbers (length row))) (sym (append-nil row)) ∙ all_columns row [])

pub distinct_is : (kinds : List Kind) (input : List Item) → AllPass (are_of kinds) (rows input) → 0 < length kinds → distinct input ≡ aggregated (numbers (length kinds)) [] kinds input
distinct_is [] input good some = absurd (omega arith)
distinct_is (k ∷ ks) input good some =
    ap (λ zs. of_faults (faults input) ++ zs)
    (ap of_rows (firsts_on (are_of (k ∷ ks)) same_keys (alike (numbers (length (k ∷ ks)))) (λ r s e f. sym (ap (λ x. same_keys x (cells_at (numbers (length (k ∷ ks))) s)) (row_is (k ∷ ks) r e) ∙ ap (same_keys r) (row_is (k ∷ ks) s f))) (rows input) each)
    ∙ map_on (are_of (k ∷ ks)) (λ r. Ok r) (λ r. group_item (cells_at (numbers (length (k ∷ ks))) r) [] (k ∷ ks) (group_of (numbers (length (k ∷ ks))) (rows input) r)) (λ r e. ap (λ x. Ok x) (sym (append-nil (cells_at (numbers (length (k ∷ ks))) r) ∙ row_is (k ∷ ks) r e))) (firsts (alike (numbers (length (k ∷ ks)))) (rows input)) (each-firsts (are_of (k ∷ ks)) (alike (numbers (length (k ∷ ks)))) (rows input) each))
  where
    each : Each (are_of (k ∷ ks)) (rows input)
    each = each_pass (are_of (k ∷ ks)) (rows input) good

-- ---- rows of two numbers, which keys tell

pub all_from : {A : Type 0} (p : A → Bool) (xs : List A) → Each p xs → AllPass p xs
all_from {A = A} p xs h = AllPass-from_list_all p xs (by xs h)
  where
    by : (ys : List A) → Each p ys → list_all p ys ≡ true
    by [] e = refl
    by (y ∷ ys) e = rw e.0 (by ys e.1)

none_like : {A : Type 0} (p : A → Bool) (number : A → ℕ) (i j : ℕ) → (i ≡ j → ⊥) → ((s : A) → p s ≡ true → i ≡ number s) → (ys : List A) → Each (λ s. eqb (number s) j) ys → list_any p ys ≡ false
none_like p number i j other tells [] h = refl
none_like p number i j other tells (y ∷ ys) h = by (p y) refl (none_like p number i j other tells ys h.1)
  where
    by : (b : Bool) → p y ≡ b → list_any p ys ≡ false → (b || list_any p ys) ≡ false
    by true e ih = absurd (other (tells y e ∙ eqb-true (number y) j h.0))
    by false e ih = ih

-- a number that rows with the same keys share parts them
pub apart_by : (keys : List ℕ) (number : Cells → ℕ) → ((r s : Cells) → alike keys r s ≡ true → number r ≡ number s)
    → (i j : ℕ) → (i ≡ j → ⊥) → (xs ys : List Item) → AllPass (λ r. eqb (number r) i) (rows xs) → AllPass (λ s. eqb (number s) j) (rows ys) → IsApart keys xs ys
apart_by keys number shared i j other xs ys h g = all_from _ (rows xs) (each_more (λ r. eqb (number r) i) (λ r. not (list_any (λ s. alike keys r s) (rows ys)))
    (λ r e. ap not (none_like (λ s. alike keys r s) number i j other (λ s f. sym (eqb-true (number r) i e) ∙ shared r s f) (rows ys) (each_pass _ (rows ys) g)))
    (rows xs) (each_pass _ (rows xs) h))
