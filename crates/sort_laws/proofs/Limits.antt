-- What a limit cuts of items: of clean ones the rows after the first, and of any a stretch of their rows.
use Rattle.std.proofs.Common.{ℕ, zero, suc, ◌+◌, ◌≡◌, refl, sym, ap, ◌∙◌, List, [], ◌∷◌, length, take, drop, Bool, true, Option, None, Some, Ok, Err, arith}
use Rattle.std.specs.List.{AllPass, list_all}
use Rattle.std.proofs.lemmas.Bool.{and_parts, and_from}
use Rattle.std.proofs.lemmas.List.Sums.{AllPass-from_list_all, list_all-from_AllPass}
use Rattle.std.proofs.lemmas.List.{take-append-drop, take_at, drop_at, take_all}
use Rattle.logical_plan.specs.Items.{Item, rows, faults}
use Rattle.logical_plan.specs.Allowed.{first_of}
use Rattle.tree_laws.specs.OperatorKinds.{cut}
use Rattle.content_laws.proofs.Items.{rows-append}

-- where there is no fault in front, as many items as rows
clean_cut : (skip n : ℕ) (xs : List Item) → faults (take (skip + n) xs) ≡ [] → rows (take n (drop skip xs)) ≡ drop skip (rows (take (skip + n) xs))
clean_cut skip n xs e = go skip (skip + n) xs refl e
  where
    go : (s m : ℕ) (ys : List Item) → m ≡ s + n → faults (take m ys) ≡ [] → rows (take n (drop s ys)) ≡ drop s (rows (take m ys))
    go zero m ys q e = ap (λ k. rows (take k ys)) (let z : n ≡ m = omega (arith, q) in z)
    go (suc s) zero ys q e = absurd (omega (arith, q))
    go (suc s) (suc m) [] q e = none n
      where
        none : (k : ℕ) → rows (take k []) ≡ []
        none zero = refl
        none (suc k) = refl
    go (suc s) (suc m) (Ok r ∷ ys) q e = go s m ys (omega (arith, q)) e
    go (suc s) (suc m) (Err f ∷ ys) q e = cc

clean_drop : (skip : ℕ) (xs : List Item) → faults xs ≡ [] → rows (drop skip xs) ≡ drop skip (rows xs)
clean_drop zero xs e = refl
clean_drop (suc s) [] e = refl
clean_drop (suc s) (Ok r ∷ xs) e = clean_drop s xs e
clean_drop (suc s) (Err f ∷ xs) e = cc

pub cut_first : (skip : ℕ) (fetch : Option ℕ) (xs : List Item) → faults (first_of skip fetch xs) ≡ [] → rows (cut skip fetch xs) ≡ drop skip (rows (first_of skip fetch xs))
cut_first skip None xs e = clean_drop skip xs e
cut_first skip (Some n) xs e = clean_cut skip n xs e

-- ---- faults or not

rows_after : (n : ℕ) (xs : List Item) → rows (drop n xs) ≡ drop (length (rows (take n xs))) (rows xs)
rows_after n xs = sym (ap (drop (length (rows (take n xs)))) (sym (ap rows (take-append-drop n xs)) ∙ rows-append (take n xs) (drop n xs)) ∙ drop_at (rows (take n xs)) (rows (drop n xs)) (length (rows (take n xs))) refl)

rows_until : (n : ℕ) (xs : List Item) → rows (take n xs) ≡ take (length (rows (take n xs))) (rows xs)
rows_until n xs = sym (ap (take (length (rows (take n xs)))) (sym (ap rows (take-append-drop n xs)) ∙ rows-append (take n xs) (drop n xs)) ∙ take_at (rows (take n xs)) (rows (drop n xs)) (length (rows (take n xs))) refl)

pub cut_stretch : (skip : ℕ) (fetch : Option ℕ) (xs : List Item) → (k m : ℕ) × (rows (cut skip fetch xs) ≡ take m (drop k (rows xs)))
cut_stretch skip None xs =
    let k : ℕ = length (rows (take skip xs)) in
    (k, length (rows (drop skip xs)), rows_after skip xs ∙ sym (take_all (length (rows (drop skip xs))) (drop k (rows xs)) (let e : length (rows (drop skip xs)) ≡ length (drop k (rows xs)) = ap length (rows_after skip xs) in omega arith)))
cut_stretch skip (Some n) xs =
    let k : ℕ = length (rows (take skip xs)) in
    let m : ℕ = length (rows (take n (drop skip xs))) in
    (k, m, rows_until n (drop skip xs) ∙ ap (take m) (rows_after skip xs))

-- ---- nothing else

all_taken : (test : Item → Bool) (n : ℕ) (xs : List Item) → list_all test xs ≡ true → list_all test (take n xs) ≡ true
all_taken test zero xs e = refl
all_taken test (suc n) [] e = refl
all_taken test (suc n) (x ∷ xs) e = let p = and_parts (test x) (list_all test xs) e in and_from (test x) _ p.0 (all_taken test n xs p.1)

all_dropped : (test : Item → Bool) (n : ℕ) (xs : List Item) → list_all test xs ≡ true → list_all test (drop n xs) ≡ true
all_dropped test zero xs e = e
all_dropped test (suc n) [] e = refl
all_dropped test (suc n) (x ∷ xs) e = all_dropped test n xs (and_parts (test x) (list_all test xs) e).1

pub cut_keeps : (skip : ℕ) (fetch : Option ℕ) (test : Item → Bool) (xs : List Item) → AllPass test xs → AllPass test (cut skip fetch xs)
cut_keeps skip None test xs a = AllPass-from_list_all test (drop skip xs) (all_dropped test skip xs (list_all-from_AllPass test xs a))
cut_keeps skip (Some n) test xs a = AllPass-from_list_all test (take n (drop skip xs)) (all_taken test n (drop skip xs) (all_dropped test skip xs (list_all-from_AllPass test xs a)))
