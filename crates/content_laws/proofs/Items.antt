-- Rows and faults of items, by weights.
use Rattle.std.proofs.Common.{ℕ, zero, suc, ◌+◌, ◌<◌, ◌≡◌, ◌⊎◌, inl, inr, refl, sym, ap, ◌∙◌, List, [], ◌∷◌, ◌++◌, length, map, Ok, Err, arith}
use Rattle.std.specs.Prelude.{IsPermutation, slice_index_or}
use Rattle.std.specs.List.{sum_by}
use Rattle.std.proofs.lemmas.Bool.{cases_eq}
use Rattle.std.proofs.lemmas.List.{length_push, get_or_push, get_or_append_left}
use Rattle.std.proofs.lemmas.List.Sums.{sum_by-cons, sum_by-append}
use Rattle.dfx_value.specs.declared.fault.ItemFault.{ItemFault}
use Rattle.logical_plan.specs.Items.{Cells, Item, rows, faults, of_rows, of_faults, concat}
use Rattle.content_laws.specs.Bags.{SameBag, Alike, together, row_parts}
use Rattle.content_laws.proofs.Identity.{cells, cells_exact, items, items_exact}
use Rattle.content_laws.proofs.Weights.{sum_by-map, permuted}

pub rows-append : (xs ys : List Item) → rows (xs ++ ys) ≡ rows xs ++ rows ys
rows-append [] ys = refl
rows-append (Ok r ∷ xs) ys = ap (λ zs. r ∷ zs) (rows-append xs ys)
rows-append (Err f ∷ xs) ys = rows-append xs ys

pub faults-append : (xs ys : List Item) → faults (xs ++ ys) ≡ faults xs ++ faults ys
faults-append [] ys = refl
faults-append (Ok r ∷ xs) ys = faults-append xs ys
faults-append (Err f ∷ xs) ys = ap (λ zs. f ∷ zs) (faults-append xs ys)

pub rows_of_rows : (rs : List Cells) → rows (of_rows rs) ≡ rs
rows_of_rows [] = refl
rows_of_rows (r ∷ rs) = ap (λ zs. r ∷ zs) (rows_of_rows rs)

pub faults_of_rows : (rs : List Cells) → faults (of_rows rs) ≡ []
faults_of_rows [] = refl
faults_of_rows (r ∷ rs) = faults_of_rows rs

pub rows_both : (fs : List ItemFault) (rs : List Cells) → rows (of_faults fs ++ of_rows rs) ≡ rs
rows_both [] rs = rows_of_rows rs
rows_both (f ∷ fs) rs = rows_both fs rs

pub faults_both : (fs : List ItemFault) (rs : List Cells) → faults (of_faults fs ++ of_rows rs) ≡ fs
faults_both [] rs = faults_of_rows rs
faults_both (f ∷ fs) rs = ap (λ zs. f ∷ zs) (faults_both fs rs)

pub rows-concat : (segments : List (List Item)) → rows (concat segments) ≡ concat (map rows segments)
rows-concat [] = refl
rows-concat (s ∷ ss) = rows-append s (concat ss) ∙ ap (λ zs. rows s ++ zs) (rows-concat ss)

-- ---- weights

abbrev pub row_weight : (Cells → ℕ) → Item → ℕ
row_weight w (Ok r) = w r
row_weight w (Err f) = 0

abbrev pub fault_weight : (ItemFault → ℕ) → Item → ℕ
fault_weight w (Ok r) = 0
fault_weight w (Err f) = w f

pub rows_weigh : (w : Cells → ℕ) (xs : List Item) → sum_by w (rows xs) ≡ sum_by (row_weight w) xs
rows_weigh w [] = refl
rows_weigh w (Ok r ∷ xs) = sum_by-cons w r (rows xs) ∙ (ap (λ m. w r + m) (rows_weigh w xs) ∙ sym (sum_by-cons (row_weight w) (Ok r) xs))
rows_weigh w (Err f ∷ xs) = let a : sum_by w (rows xs) ≡ sum_by (row_weight w) xs = rows_weigh w xs in let b : sum_by (row_weight w) (Err f ∷ xs) ≡ 0 + sum_by (row_weight w) xs = sum_by-cons (row_weight w) (Err f) xs in omega arith

pub faults_weigh : (w : ItemFault → ℕ) (xs : List Item) → sum_by w (faults xs) ≡ sum_by (fault_weight w) xs
faults_weigh w [] = refl
faults_weigh w (Err f ∷ xs) = sum_by-cons w f (faults xs) ∙ (ap (λ m. w f + m) (faults_weigh w xs) ∙ sym (sum_by-cons (fault_weight w) (Err f) xs))
faults_weigh w (Ok r ∷ xs) = let a : sum_by w (faults xs) ≡ sum_by (fault_weight w) xs = faults_weigh w xs in let b : sum_by (fault_weight w) (Ok r ∷ xs) ≡ 0 + sum_by (fault_weight w) xs = sum_by-cons (fault_weight w) (Ok r) xs in omega arith

pub apart_weigh : (w : Item → ℕ) (xs : List Item) → sum_by w xs ≡ sum_by (λ r. w (Ok r)) (rows xs) + sum_by (λ f. w (Err f)) (faults xs)
apart_weigh w [] = refl
apart_weigh w (Ok r ∷ xs) =
    let a : sum_by w (Ok r ∷ xs) ≡ w (Ok r) + sum_by w xs = sum_by-cons w (Ok r) xs in
    let b : sum_by (λ r. w (Ok r)) (r ∷ rows xs) ≡ w (Ok r) + sum_by (λ r. w (Ok r)) (rows xs) = sum_by-cons (λ r. w (Ok r)) r (rows xs) in
    let c : sum_by w xs ≡ sum_by (λ r. w (Ok r)) (rows xs) + sum_by (λ f. w (Err f)) (faults xs) = apart_weigh w xs in
    omega arith
apart_weigh w (Err f ∷ xs) =
    let a : sum_by w (Err f ∷ xs) ≡ w (Err f) + sum_by w xs = sum_by-cons w (Err f) xs in
    let b : sum_by (λ f. w (Err f)) (f ∷ faults xs) ≡ w (Err f) + sum_by (λ f. w (Err f)) (faults xs) = sum_by-cons (λ f. w (Err f)) f (faults xs) in
    let c : sum_by w xs ≡ sum_by (λ r. w (Ok r)) (rows xs) + sum_by (λ f. w (Err f)) (faults xs) = apart_weigh w xs in
    omega arith

pub length_weighs : {A : Type 0} (xs : List A) → sum_by (λ _. 1) xs ≡ length xs
length_weighs [] = refl
length_weighs (x ∷ xs) = let a : sum_by (λ _. 1) (x ∷ xs) ≡ 1 + sum_by (λ _. 1) xs = sum_by-cons (λ _. 1) x xs in let b : sum_by (λ _. 1) xs ≡ length xs = length_weighs xs in omega arith

-- ---- bags of items

pub bag_rows : (xs ys : List Item) → SameBag xs ys → SameBag (rows xs) (rows ys)
bag_rows xs ys h = λ w. rows_weigh w xs ∙ (h (row_weight w) ∙ sym (rows_weigh w ys))

pub bag_faults : (xs ys : List Item) → SameBag xs ys → SameBag (faults xs) (faults ys)
bag_faults xs ys h = λ w. faults_weigh w xs ∙ (h (fault_weight w) ∙ sym (faults_weigh w ys))

pub alike_rows : (xs ys : List Item) → Alike xs ys → SameBag (rows xs) (rows ys)
alike_rows xs ys h = λ w. rows_weigh w xs ∙ (h (row_weight w) (λ f g. refl) ∙ sym (rows_weigh w ys))

-- faults weigh the same, where all faults weigh alike
pub alike_weigh : (xs ys : List Item) → Alike xs ys → (w : ItemFault → ℕ) → ((f g : ItemFault) → w f ≡ w g) → sum_by w (faults xs) ≡ sum_by w (faults ys)
alike_weigh xs ys h = λ w same. faults_weigh w xs ∙ (h (fault_weight w) same ∙ sym (faults_weigh w ys))

-- and there are as many
pub alike_faults : (xs ys : List Item) → Alike xs ys → length (faults xs) ≡ length (faults ys)
alike_faults xs ys h = sym (length_weighs (faults xs)) ∙ (alike_weigh xs ys h (λ _. 1) (λ f g. refl) ∙ length_weighs (faults ys))

one_weight : (v : ItemFault → ℕ) → ((f g : ItemFault) → v f ≡ v g) → (fs gs : List ItemFault) → length fs ≡ length gs → sum_by v fs ≡ sum_by v gs
one_weight v same [] [] e = refl
one_weight v same (f ∷ fs) (g ∷ gs) e =
    let a : sum_by v (f ∷ fs) ≡ v f + sum_by v fs = sum_by-cons v f fs in
    let b : sum_by v (g ∷ gs) ≡ v g + sum_by v gs = sum_by-cons v g gs in
    let c : v f ≡ v g = same f g in
    let d : sum_by v fs ≡ sum_by v gs = one_weight v same fs gs (omega (arith, e)) in
    omega arith
one_weight v same [] (g ∷ gs) e = absurd (omega (arith, e))
one_weight v same (f ∷ fs) [] e = absurd (omega (arith, e))

pub alike_from : (xs ys : List Item) → SameBag (rows xs) (rows ys) → length (faults xs) ≡ length (faults ys) → Alike xs ys
alike_from xs ys h e = λ w same.
    let a : sum_by w xs ≡ sum_by (λ r. w (Ok r)) (rows xs) + sum_by (λ f. w (Err f)) (faults xs) = apart_weigh w xs in
    let b : sum_by w ys ≡ sum_by (λ r. w (Ok r)) (rows ys) + sum_by (λ f. w (Err f)) (faults ys) = apart_weigh w ys in
    let c : sum_by (λ r. w (Ok r)) (rows xs) ≡ sum_by (λ r. w (Ok r)) (rows ys) = h (λ r. w (Ok r)) in
    let d : sum_by (λ f. w (Err f)) (faults xs) ≡ sum_by (λ f. w (Err f)) (faults ys) = one_weight (λ f. w (Err f)) same (faults xs) (faults ys) e in
    omega arith

pub items_permuted : (xs ys : List Item) → SameBag xs ys → IsPermutation xs ys
items_permuted = permuted items items_exact

pub rows_permuted : (xs ys : List Cells) → SameBag xs ys → IsPermutation xs ys
rows_permuted = permuted cells cells_exact

-- ---- partitions

pub together_both : {A : Type 0} (w : A → ℕ) (n : ℕ) (F G : ℕ → List A) → sum_by w (together n (λ i. F i ++ G i)) ≡ sum_by w (together n F) + sum_by w (together n G)
together_both w zero F G = refl
together_both w (suc n) F G =
    let a : sum_by w (together n (λ i. F i ++ G i) ++ (F n ++ G n)) ≡ sum_by w (together n (λ i. F i ++ G i)) + sum_by w (F n ++ G n) = sum_by-append w (together n (λ i. F i ++ G i)) (F n ++ G n) in
    let b : sum_by w (F n ++ G n) ≡ sum_by w (F n) + sum_by w (G n) = sum_by-append w (F n) (G n) in
    let c : sum_by w (together n (λ i. F i ++ G i)) ≡ sum_by w (together n F) + sum_by w (together n G) = together_both w n F G in
    let d : sum_by w (together n F ++ F n) ≡ sum_by w (together n F) + sum_by w (F n) = sum_by-append w (together n F) (F n) in
    let e : sum_by w (together n G ++ G n) ≡ sum_by w (together n G) + sum_by w (G n) = sum_by-append w (together n G) (G n) in
    omega arith

pub together_faults : (w : Item → ℕ) (n : ℕ) (parts : ℕ → List Item) → sum_by w (together n (λ i. of_faults (faults (parts i)))) ≡ sum_by (λ f. w (Err f)) (faults (together n parts))
together_faults w zero parts = refl
together_faults w (suc n) parts =
    sum_by-append w (together n (λ i. of_faults (faults (parts i)))) (of_faults (faults (parts n)))
    ∙ (ap (λ m. m + sum_by w (of_faults (faults (parts n)))) (together_faults w n parts)
    ∙ (ap (λ m. sum_by (λ f. w (Err f)) (faults (together n parts)) + m) (sum_by-map (λ f. Err f) w (faults (parts n)))
    ∙ sym (ap (sum_by (λ f. w (Err f))) (faults-append (together n parts) (parts n)) ∙ sum_by-append (λ f. w (Err f)) (faults (together n parts)) (faults (parts n)))))

-- the rows of a partition in the list of all
pub length-row_parts : (n : ℕ) (parts : ℕ → List Item) → length (row_parts n parts) ≡ n
length-row_parts zero parts = refl
length-row_parts (suc n) parts = let a : length (row_parts n parts ++ rows (parts n) ∷ []) ≡ length (row_parts n parts) + 1 = length_push (row_parts n parts) (rows (parts n)) in let b : length (row_parts n parts) ≡ n = length-row_parts n parts in omega arith

pub row_parts_at : (n i : ℕ) (parts : ℕ → List Item) → i < n → slice_index_or (row_parts n parts) i [] ≡ rows (parts i)
row_parts_at zero i parts l = absurd (omega arith)
row_parts_at (suc n) i parts l = by (cases_eq i n) (λ m. row_parts_at n i parts m)
  where
    by : (i ≡ n) ⊎ (i ≡ n → ⊥) → (i < n → slice_index_or (row_parts n parts) i [] ≡ rows (parts i)) → slice_index_or (row_parts n parts ++ rows (parts n) ∷ []) i [] ≡ rows (parts i)
    by (inl e) ih = get_or_push (row_parts n parts) (rows (parts n)) [] i (length-row_parts n parts ∙ sym e) ∙ ap (λ m. rows (parts m)) (sym e)
    by (inr e) ih =
        let m : i < n = omega (arith, e) in
        let z : i < length (row_parts n parts) = let y : length (row_parts n parts) ≡ n = length-row_parts n parts in omega arith in
        get_or_append_left (row_parts n parts) (rows (parts n) ∷ []) [] i z ∙ ih m
