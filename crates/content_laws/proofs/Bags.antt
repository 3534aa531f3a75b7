-- Sums over bags.
use Rattle.std.proofs.Common.{ℕ, zero, suc, ◌+◌, ◌<◌, ◌≤◌, ◌≡◌, ◌≢◌, inl, inr, refl, sym, ap, ◌∙◌, subst, eqb, cond, List, [], ◌∷◌, ◌++◌, Bool, true, false, arith}
use Rattle.std.specs.List.{sum_by, list_all, AllPass}
use Rattle.std.proofs.lemmas.Bool.{eqb-true, eq-eqb}
use Rattle.std.proofs.lemmas.Bool.Decides.{eqb_tells}
use Rattle.std.proofs.lemmas.List.{append-nil}
use Rattle.std.proofs.lemmas.List.Folds.{sum_by-zero}
use Rattle.std.proofs.lemmas.List.Sums.{sum_by-append, list_all-from_AllPass, AllPass-from_list_all}
use Rattle.std.specs.List.Sorted.{IsPermutation}
use Rattle.std.proofs.lemmas.List.Sorted.{sum_by-IsPermutation}
use Rattle.task_shape.proofs.Numbers.{same_or_not, lt_or_le}
use Rattle.history_laws.specs.Contents.{by_sender, parts_in}
use Rattle.logical_plan.specs.Items.{Cells, Item, of_rows, concat}
use Rattle.tree_laws.specs.Tasks.{Parts, Split, all_parts}
use Rattle.tree_laws.specs.Runs.{for_channel}
use Rattle.tree_laws.proofs.Fronts.{of_rows-append, concat-append}
use Rattle.tree_laws.proofs.Desks.{same_functions}
use Rattle.content_laws.specs.Bags.{SameBag, sum_below, together}
use Rattle.content_laws.specs.Senders.{bodies}

-- ------------------------------------------------------------ sums below a number

pub sums_same : (n : ℕ) (F G : ℕ → ℕ) → ((i : ℕ) → i < n → F i ≡ G i) → sum_below n F ≡ sum_below n G
sums_same zero F G h = refl
sums_same (suc n) F G h = let a : sum_below n F ≡ sum_below n G = sums_same n F G (λ i l. h i (omega arith)) in let b : F n ≡ G n = h n (omega arith) in omega arith

pub sums_add : (n : ℕ) (F G : ℕ → ℕ) → sum_below n (λ i. F i + G i) ≡ sum_below n F + sum_below n G
sums_add zero F G = refl
sums_add (suc n) F G = let a : sum_below n (λ i. F i + G i) ≡ sum_below n F + sum_below n G = sums_add n F G in omega arith

pub sums_zero : (n : ℕ) → sum_below n (λ i. 0) ≡ 0
sums_zero zero = refl
sums_zero (suc n) = omega (arith, sums_zero n)

pub sums_swap : (n m : ℕ) (F : ℕ → ℕ → ℕ) → sum_below n (λ i. sum_below m (F i)) ≡ sum_below m (λ j. sum_below n (λ i. F i j))
sums_swap zero m F = sym (sums_zero m)
sums_swap (suc n) m F =
    let a : sum_below n (λ i. sum_below m (F i)) ≡ sum_below m (λ j. sum_below n (λ i. F i j)) = sums_swap n m F in
    let b : sum_below m (λ j. sum_below n (λ i. F i j) + F n j) ≡ sum_below m (λ j. sum_below n (λ i. F i j)) + sum_below m (F n) = sums_add m (λ j. sum_below n (λ i. F i j)) (F n) in
    omega arith

-- one index alone counts
pub sums_at : (n i v : ℕ) → i < n → sum_below n (λ j. cond (eqb i j) v 0) ≡ v
sums_at zero i v h = absurd (omega arith)
sums_at (suc n) i v h = elim (eqb_tells i n) [
  | inl e ↦ rw e.0 (let a : sum_below n (λ j. cond (eqb i j) v 0) ≡ 0 = none n (omega (arith, e.1)) in omega arith)
  | inr e ↦ rw e.0 (let a : sum_below n (λ j. cond (eqb i j) v 0) ≡ v = sums_at n i v (omega (arith, h, e.1)) in omega arith)
]
  where
    none : (m : ℕ) → m ≤ i → sum_below m (λ j. cond (eqb i j) v 0) ≡ 0
    none zero l = refl
    none (suc m) l = elim (eqb_tells i m) [
      | inl e ↦ absurd (omega (arith, e.1, l))
      | inr e ↦ rw e.0 (let a : sum_below m (λ j. cond (eqb i j) v 0) ≡ 0 = none m (omega arith) in omega arith)
    ]

pub sums_front : (n : ℕ) (F : ℕ → ℕ) → sum_below (suc n) F ≡ F 0 + sum_below n (λ i. F (suc i))
sums_front zero F = omega arith
sums_front (suc n) F = let a : sum_below (suc n) F ≡ F 0 + sum_below n (λ i. F (suc i)) = sums_front n F in omega arith

pub sums_none : (n : ℕ) (F : ℕ → ℕ) → ((i : ℕ) → i < n → F i ≡ 0) → sum_below n F ≡ 0
sums_none n F h = sums_same n F (λ i. 0) h ∙ sums_zero n

pub sums_each : (n : ℕ) (F : ℕ → ℕ) → sum_below n F ≡ 0 → (i : ℕ) → i < n → F i ≡ 0
sums_each zero F e i h = absurd (omega arith)
sums_each (suc n) F e i h = elim (same_or_not i n) [
  | inl s ↦ subst (λ j. F j ≡ 0) (sym s) (omega (arith, e))
  | inr m ↦ sums_each n F (omega (arith, e)) i (omega (arith, h, m))
]

-- ------------------------------------------------------------ rows in batches

-- the weight of rows that are spread over batches
abbrev pub weight : (Item → ℕ) → List (List Cells) → ℕ
weight w bs = sum_by w (of_rows (concat bs))

pub weight-append : (w : Item → ℕ) (xs ys : List (List Cells)) → weight w (xs ++ ys) ≡ weight w xs + weight w ys
weight-append w xs ys = ap (λ l. sum_by w (of_rows l)) (concat-append xs ys) ∙ (ap (sum_by w) (of_rows-append (concat xs) (concat ys)) ∙ sum_by-append w (of_rows (concat xs)) (of_rows (concat ys)))

pub weight-cons : (w : Item → ℕ) (b : List Cells) (bs : List (List Cells)) → weight w (b ∷ bs) ≡ sum_by w (of_rows b) + weight w bs
weight-cons w b bs = ap (sum_by w) (of_rows-append b (concat bs)) ∙ sum_by-append w (of_rows b) (of_rows (concat bs))

weight-one : (w : Item → ℕ) (b : List Cells) (c : Bool) → weight w (cond c (b ∷ []) []) ≡ cond c (sum_by w (of_rows b)) 0
weight-one w b true = ap (λ l. sum_by w (of_rows l)) (append-nil b)
weight-one w b false = refl

nil_parts : {A : Type 0} (b : A) (c : Bool) (ys : List A) → cond c (b ∷ []) [] ++ ys ≡ [] → (c ≡ false) × (ys ≡ [])
nil_parts b true ys e = cc
nil_parts b false ys e = (refl, e)

-- ------------------------------------------------------------ parts at channels, and at senders

-- parts for channels below n: each is counted at its channel
pub spread : (w : Item → ℕ) (n : ℕ) (ps : Parts) → ((c : ℕ) → n ≤ c → for_channel c ps ≡ []) → sum_below n (λ c. weight w (for_channel c ps)) ≡ weight w (bodies ps)
spread w n [] h = sums_zero n
spread w n (x ∷ ps) h =
    let rest : sum_below n (λ c. weight w (for_channel c ps)) ≡ weight w (bodies ps) = spread w n ps (λ c l. (nil_parts x.1 (eqb x.0 c) (for_channel c ps) (h c l)).1) in
    let split : sum_below n (λ c. weight w (for_channel c (x ∷ ps))) ≡ sum_below n (λ c. cond (eqb x.0 c) (sum_by w (of_rows x.1)) 0) + sum_below n (λ c. weight w (for_channel c ps)) =
    sums_same n (λ c. weight w (for_channel c (x ∷ ps))) (λ c. cond (eqb x.0 c) (sum_by w (of_rows x.1)) 0 + weight w (for_channel c ps)) (λ c l. (weight-append w (cond (eqb x.0 c) (x.1 ∷ []) []) (for_channel c ps) ∙ ap (λ m. m + weight w (for_channel c ps)) (weight-one w x.1 (eqb x.0 c))))
    ∙ sums_add n (λ c. cond (eqb x.0 c) (sum_by w (of_rows x.1)) 0) (λ c. weight w (for_channel c ps)) in
    let one : sum_below n (λ c. cond (eqb x.0 c) (sum_by w (of_rows x.1)) 0) ≡ sum_by w (of_rows x.1) = sums_at n x.0 (sum_by w (of_rows x.1)) inside in
    let whole : weight w (x.1 ∷ bodies ps) ≡ sum_by w (of_rows x.1) + weight w (bodies ps) = weight-cons w x.1 (bodies ps) in
    omega arith
  where
    inside : x.0 < n
    inside = elim (lt_or_le x.0 n) [ inl l ↦ l | inr l ↦ (let z : eqb x.0 x.0 ≡ false = (nil_parts x.1 (eqb x.0 x.0) (for_channel x.0 ps) (h x.0 l)).0 in let y : true ≡ false = sym (eq-eqb x.0 x.0 refl) ∙ z in cc) ]

-- a log is counted at its senders
pub by_senders : (w : Item → ℕ) (n : ℕ) (log : List (ℕ × List Cells)) → ((u : ℕ) → n ≤ u → by_sender u log ≡ []) → sum_below n (λ u. weight w (by_sender u log)) ≡ weight w (parts_in log)
by_senders w n [] h = sums_zero n
by_senders w n (x ∷ xs) h =
    let rest : sum_below n (λ c. weight w (by_sender c xs)) ≡ weight w (parts_in xs) = by_senders w n xs (λ c l. (nil_parts x.1 (eqb x.0 c) (by_sender c xs) (h c l)).1) in
    let split : sum_below n (λ c. weight w (by_sender c (x ∷ xs))) ≡ sum_below n (λ c. cond (eqb x.0 c) (sum_by w (of_rows x.1)) 0) + sum_below n (λ c. weight w (by_sender c xs)) =
    sums_same n (λ c. weight w (by_sender c (x ∷ xs))) (λ c. cond (eqb x.0 c) (sum_by w (of_rows x.1)) 0 + weight w (by_sender c xs)) (λ c l. (weight-append w (cond (eqb x.0 c) (x.1 ∷ []) []) (by_sender c xs) ∙ ap (λ m. m + weight w (by_sender c xs)) (weight-one w x.1 (eqb x.0 c))))
    ∙ sums_add n (λ c. cond (eqb x.0 c) (sum_by w (of_rows x.1)) 0) (λ c. weight w (by_sender c xs)) in
    let one : sum_below n (λ c. cond (eqb x.0 c) (sum_by w (of_rows x.1)) 0) ≡ sum_by w (of_rows x.1) = sums_at n x.0 (sum_by w (of_rows x.1)) inside in
    let whole : weight w (x.1 ∷ parts_in xs) ≡ sum_by w (of_rows x.1) + weight w (parts_in xs) = weight-cons w x.1 (parts_in xs) in
    omega arith
  where
    inside : x.0 < n
    inside = elim (lt_or_le x.0 n) [ inl l ↦ l | inr l ↦ (let z : eqb x.0 x.0 ≡ false = (nil_parts x.1 (eqb x.0 x.0) (by_sender x.0 xs) (h x.0 l)).0 in let y : true ≡ false = sym (eq-eqb x.0 x.0 refl) ∙ z in cc) ]

-- a log of one sender alone
pub one_sender : (u : ℕ) (log : List (ℕ × List Cells)) → ((v : ℕ) → u ≢ v → by_sender v log ≡ []) → parts_in log ≡ by_sender u log
one_sender u [] h = refl
one_sender u (x ∷ xs) h = rw mine (ap (λ l. x.1 ∷ l) (one_sender u xs (λ v n. (nil_parts x.1 (eqb x.0 v) (by_sender v xs) (h v n)).1)))
  where
    mine : eqb x.0 u ≡ true
    mine = elim (eqb_tells x.0 u) [
      | inl e ↦ e.0
      | inr e ↦ (let z : eqb x.0 x.0 ≡ false = (nil_parts x.1 (eqb x.0 x.0) (by_sender x.0 xs) (h x.0 (λ y. e.1 (sym y)))).0 in let y : true ≡ false = sym (eq-eqb x.0 x.0 refl) ∙ z in cc)
    ]

pub bodies-append : (xs ys : Parts) → bodies (xs ++ ys) ≡ bodies xs ++ bodies ys
bodies-append [] ys = refl
bodies-append (x ∷ xs) ys = ap (λ l. x.1 ∷ l) (bodies-append xs ys)

-- the parts of batches weigh what the batches do
pub all_weigh : (w : Item → ℕ) (f : Split) → ((j : ℕ) (b : List Cells) → weight w (bodies (f j b)) ≡ sum_by w (of_rows b)) → (j : ℕ) (bs : List (List Cells)) → weight w (bodies (all_parts f j bs)) ≡ weight w bs
all_weigh w f h j [] = refl
all_weigh w f h j (b ∷ bs) =
    let a : weight w (bodies (f j b ++ all_parts f (j + 1) bs)) ≡ weight w (bodies (f j b)) + weight w (bodies (all_parts f (j + 1) bs)) = ap (weight w) (bodies-append (f j b) (all_parts f (j + 1) bs)) ∙ weight-append w (bodies (f j b)) (bodies (all_parts f (j + 1) bs)) in
    let c : weight w (bodies (f j b)) ≡ sum_by w (of_rows b) = h j b in
    let d : weight w (bodies (all_parts f (j + 1) bs)) ≡ weight w bs = all_weigh w f h (j + 1) bs in
    let e : weight w (b ∷ bs) ≡ sum_by w (of_rows b) + weight w bs = weight-cons w b bs in
    omega arith

-- ------------------------------------------------------------ tests

-- a test of elements, counted where it fails
abbrev pub fails : {A : Type 0} → (A → Bool) → A → ℕ
fails test x = cond (test x) 0 1

abbrev pub NoneFails : {A : Type 0} → (A → Bool) → List A → Type 0
NoneFails test xs = sum_by (fails test) xs ≡ 0

zero_if : (b : Bool) → eqb (cond b 0 1) 0 ≡ b
zero_if true = refl
zero_if false = refl

no_failure : {A : Type 0} (test : A → Bool) (xs : List A) → eqb (sum_by (fails test) xs) 0 ≡ list_all test xs
no_failure test xs = sum_by-zero (fails test) xs ∙ ap (λ f. list_all f xs) (same_functions (λ x. eqb (fails test x) 0) test (λ x. zero_if (test x)))

pub none_fails : {A : Type 0} (test : A → Bool) (xs : List A) → AllPass test xs → NoneFails test xs
none_fails test xs a = eqb-true (sum_by (fails test) xs) 0 (no_failure test xs ∙ list_all-from_AllPass test xs a)

pub all_pass : {A : Type 0} (test : A → Bool) (xs : List A) → NoneFails test xs → AllPass test xs
all_pass test xs e = AllPass-from_list_all test xs (sym (no_failure test xs) ∙ eq-eqb (sum_by (fails test) xs) 0 e)

-- ------------------------------------------------------------ bags

pub together_weighs : {A : Type 0} (w : A → ℕ) (n : ℕ) (F : ℕ → List A) → sum_by w (together n F) ≡ sum_below n (λ i. sum_by w (F i))
together_weighs w zero F = refl
together_weighs w (suc n) F = sum_by-append w (together n F) (F n) ∙ ap (λ m. m + sum_by w (F n)) (together_weighs w n F)

pub permuted : (xs ys : List Item) → IsPermutation xs ys → SameBag xs ys
permuted xs ys m = λ w. sym (sum_by-IsPermutation w xs ys m)

pub passes : (test : Item → Bool) (xs ys : List Item) → SameBag xs ys → AllPass test xs → AllPass test ys
passes test xs ys same a = all_pass test ys (sym (same (fails test)) ∙ none_fails test xs a)
