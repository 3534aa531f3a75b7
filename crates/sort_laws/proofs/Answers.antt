-- What a query may answer, of a list that is alike to its items.
use Rattle.std.proofs.Common.{ℕ, zero, suc, ◌+◌, ◌≤◌, ◌≡◌, refl, sym, ap, ◌∙◌, subst, inl, inr, ◌⊎◌, eqb, leb, List, [], ◌∷◌, ◌++◌, length, take, drop, Bool, true, false, ◌||◌, Option, None, Some, Ok, Err, arith}
use Rattle.std.specs.Prelude.{IsPermutation, IsSorted}
use Rattle.std.proofs.lemmas.Bool.{true≢false, or_cases, eqb-true, leb-true}
use Rattle.std.proofs.lemmas.List.{append_assoc, append-nil, length-append, length-map, take-map, drop-map, drop-take, take-append-drop, take-append-le, nil_from_length}
use Rattle.std.proofs.lemmas.List.Sorted.{length_permutation, IsPermutation-sym, IsPermutation-trans, IsPermutation-map, IsPermutation-append_left, IsPermutation-append_right}
use Rattle.dfx_value.specs.Rows.{row_cmp}
use Rattle.dfx_value.specs.declared.rows.SortKey.{SortKey}
use Rattle.dfx_value.specs.declared.fault.ItemFault.{ItemFault}
use Rattle.logical_plan.specs.Items.{Cells, Item, rows, faults, of_rows}
use Rattle.logical_plan.specs.Allowed.{first_of, IsArranged, Allows}
use Rattle.tree_laws.specs.Operators.{IsFront, Reads}
use Rattle.tree_laws.specs.OperatorKinds.{cut, has_cut}
use Rattle.sort_laws.specs.Sorting.{row_before}
use Rattle.content_laws.specs.Bags.{Alike}
use Rattle.content_laws.proofs.Items.{rows-append, rows_of_rows, faults_of_rows}
pub use Rattle.content_laws.proofs.Items.{rows_of_rows as rows_back}
use Rattle.sort_laws.proofs.Bags.{with_faults, arranged_as}
use Rattle.sort_laws.proofs.Sorts.{Ascends}
use Rattle.sort_laws.proofs.Rows.{ascends, is_in_order, part_permuted}

-- ---- faults replaced, in the first items

taken_rows : (n : ℕ) (xs : List Item) (fs : List ItemFault) → rows (take n (with_faults xs fs)) ≡ rows (take n xs)
taken_rows zero xs fs = refl
taken_rows (suc n) [] fs = refl
taken_rows (suc n) (Ok r ∷ xs) fs = ap (λ rs. r ∷ rs) (taken_rows n xs fs)
taken_rows (suc n) (Err f ∷ xs) [] = taken_rows n xs []
taken_rows (suc n) (Err f ∷ xs) (g ∷ gs) = taken_rows n xs gs

taken_clean : (n : ℕ) (xs : List Item) (fs : List ItemFault) → faults (take n xs) ≡ [] → faults (take n (with_faults xs fs)) ≡ []
taken_clean zero xs fs e = refl
taken_clean (suc n) [] fs e = refl
taken_clean (suc n) (Ok r ∷ xs) fs e = taken_clean n xs fs e
taken_clean (suc n) (Err f ∷ xs) fs e = cc

all_rows : (xs : List Item) (fs : List ItemFault) → rows (with_faults xs fs) ≡ rows xs
all_rows [] fs = refl
all_rows (Ok r ∷ xs) fs = ap (λ rs. r ∷ rs) (all_rows xs fs)
all_rows (Err f ∷ xs) [] = all_rows xs []
all_rows (Err f ∷ xs) (g ∷ gs) = all_rows xs gs

all_clean : (xs : List Item) (fs : List ItemFault) → faults xs ≡ [] → faults (with_faults xs fs) ≡ []
all_clean [] fs e = refl
all_clean (Ok r ∷ xs) fs e = all_clean xs fs e
all_clean (Err f ∷ xs) fs e = cc

first_rows : (offset : ℕ) (limit : Option ℕ) (xs : List Item) (fs : List ItemFault) → rows (first_of offset limit (with_faults xs fs)) ≡ rows (first_of offset limit xs)
first_rows offset None xs fs = all_rows xs fs
first_rows offset (Some n) xs fs = taken_rows (offset + n) xs fs

first_clean : (offset : ℕ) (limit : Option ℕ) (xs : List Item) (fs : List ItemFault) → faults (first_of offset limit xs) ≡ [] → faults (first_of offset limit (with_faults xs fs)) ≡ []
first_clean offset None xs fs = all_clean xs fs
first_clean offset (Some n) xs fs = taken_clean (offset + n) xs fs

pub clean : (order : List SortKey) (offset : ℕ) (limit : Option ℕ) (out items : List Item)
    → Alike out items → IsSorted (row_cmp order) (rows out) → faults (first_of offset limit out) ≡ []
    → Allows order offset limit items (drop offset (rows (first_of offset limit out)))
clean order offset limit out items same sorted none =
    let a = arranged_as out items same in
    inr (record {
      arranged = with_faults out (faults items);
      same = a.same;
      answers = record {
        sorted = subst (IsSorted (row_cmp order)) (sym a.rows_same) sorted;
        clean = first_clean offset limit out (faults items) none;
        cut = ap (drop offset) (sym (first_rows offset limit out (faults items)));
      };
    })

-- ---- rows that a limit took

rows_taken : (n : ℕ) (rs : List Cells) → rows (take n (of_rows rs)) ≡ take n rs
rows_taken n rs = ap rows (take-map (λ r. Ok r) n rs) ∙ rows_of_rows (take n rs)

rows_dropped : (n : ℕ) (rs : List Cells) → rows (drop n (of_rows rs)) ≡ drop n rs
rows_dropped n rs = ap rows (drop-map (λ r. Ok r) n rs) ∙ rows_of_rows (drop n rs)

taken_no_faults : (n : ℕ) (rs : List Cells) → faults (take n (of_rows rs)) ≡ []
taken_no_faults n rs = ap faults (take-map (λ r. Ok r) n rs) ∙ faults_of_rows (take n rs)

cut_rows : (skip n : ℕ) (rs : List Cells) → rows (take n (drop skip (of_rows rs))) ≡ drop skip (rows (take (skip + n) (of_rows rs)))
cut_rows skip n rs =
    ap (λ is. rows (take n is)) (drop-map (λ r. Ok r) skip rs) ∙ (rows_taken n (drop skip rs)
    ∙ (sym (drop-take skip n rs) ∙ ap (drop skip) (sym (rows_taken (skip + n) rs))))

pub taken_all : (order : List SortKey) (skip : ℕ) (fetch : Option ℕ) (taken : List Cells) (out items : List Item)
    → of_rows taken ≡ out → Alike out items → IsSorted (row_cmp order) (rows out) → Allows order skip fetch items (rows (cut skip fetch (of_rows taken)))
taken_all order skip None taken out items e same sorted =
    subst (Allows order skip None items) (ap (λ is. drop skip (rows is)) (sym e) ∙ (ap (drop skip) (rows_of_rows taken) ∙ sym (rows_dropped skip taken)))
    (clean order skip None out items same sorted (subst (λ is. faults is ≡ []) e (faults_of_rows taken)))
taken_all order skip (Some n) taken out items e same sorted =
    subst (Allows order skip (Some n) items) (ap (λ is. drop skip (rows (take (skip + n) is))) (sym e) ∙ sym (cut_rows skip n taken))
    (clean order skip (Some n) out items same sorted (subst (λ is. faults (take (skip + n) is) ≡ []) e (taken_no_faults (skip + n) taken)))

taken_some : (order : List SortKey) (skip n : ℕ) (taken : List Cells) (out items : List Item)
    → IsFront (of_rows taken) out → skip + n ≤ length taken → Alike out items → IsSorted (row_cmp order) (rows out)
    → Allows order skip (Some n) items (rows (take n (drop skip (of_rows taken))))
taken_some order skip n taken out items front long same sorted =
    let l : length (of_rows taken) ≡ length taken = length-map taken (λ r. Ok r) in
    let e : take (skip + n) out ≡ take (skip + n) (of_rows taken) = ap (take (skip + n)) (sym front.1) ∙ take-append-le (skip + n) (of_rows taken) front.0 (omega (arith, l, long)) in
    subst (Allows order skip (Some n) items) (ap (λ is. drop skip (rows is)) e ∙ sym (cut_rows skip n taken))
    (clean order skip (Some n) out items same sorted (ap faults e ∙ taken_no_faults (skip + n) taken))

pub limit_taken : (order : List SortKey) (skip : ℕ) (fetch : Option ℕ) (taken : List Cells) (ended : Bool) (out items : List Item)
    → Reads taken ended out → ended || has_cut skip fetch taken ≡ true → Alike out items → IsSorted (row_cmp order) (rows out)
    → Allows order skip fetch items (rows (cut skip fetch (of_rows taken)))
limit_taken order skip fetch taken true out items reads done same sorted = taken_all order skip fetch taken out items (reads.all refl) same sorted
limit_taken order skip None taken false out items reads done same sorted = absurd (true≢false (sym done))
limit_taken order skip (Some n) taken false out items reads done same sorted = by (or_cases (eqb n 0) (leb (skip + n) (length taken)) done)
  where
    by : (eqb n 0 ≡ true) ⊎ (leb (skip + n) (length taken) ≡ true) → Allows order skip (Some n) items (rows (take n (drop skip (of_rows taken))))
    by (inl e) = let z : n ≡ 0 = eqb-true n 0 e in inl (ap Some z, ap (λ m. rows (take m (drop skip (of_rows taken)))) z)
    by (inr e) = taken_some order skip n taken out items reads.front (leb-true (skip + n) (length taken) e) same sorted

pub all_given : (order : List SortKey) (given : List Cells) (items : List Item) → Alike (of_rows given) items → IsSorted (row_cmp order) given → Allows order 0 None items given
all_given order given items same sorted =
    subst (Allows order 0 None items) (rows_of_rows given) (clean order 0 None (of_rows given) items same (subst (IsSorted (row_cmp order)) (sym (rows_of_rows given)) sorted) (faults_of_rows given))

-- ---- the answer in another order

drop_front : {A : Type 0} (n : ℕ) (xs ys : List A) → length ys ≡ length (drop n xs) → drop n (take n xs ++ ys) ≡ ys
drop_front zero xs ys e = refl
drop_front (suc n) [] [] e = refl
drop_front (suc n) [] (y ∷ ys) e = absurd (omega (arith, e))
drop_front (suc n) (x ∷ xs) ys e = drop_front n xs ys e

take_front : {A : Type 0} (n : ℕ) (xs ys : List A) → length ys ≡ length (take n xs) → take n (ys ++ drop n xs) ≡ ys
take_front zero xs [] e = refl
take_front zero xs (y ∷ ys) e = absurd (omega (arith, e))
take_front (suc n) [] [] e = refl
take_front (suc n) [] (y ∷ ys) e = absurd (omega (arith, e))
take_front (suc n) (x ∷ xs) [] e = absurd (omega (arith, e))
take_front (suc n) (x ∷ xs) (y ∷ ys) e = ap (λ zs. y ∷ zs) (take_front n xs ys (omega (arith, e)))

only_rows : (xs : List Item) → faults xs ≡ [] → of_rows (rows xs) ≡ xs
only_rows [] e = refl
only_rows (Ok r ∷ xs) e = ap (λ is. Ok r ∷ is) (only_rows xs e)
only_rows (Err f ∷ xs) e = cc

-- the items behind the first ones
behind : ℕ → Option ℕ → List Item → List Item
behind offset None xs = []
behind offset (Some n) xs = drop (offset + n) xs

whole_is : (offset : ℕ) (limit : Option ℕ) (xs : List Item) → first_of offset limit xs ++ behind offset limit xs ≡ xs
unfolding behind
whole_is offset None xs = append-nil xs
whole_is offset (Some n) xs = take-append-drop (offset + n) xs

first_is : (offset : ℕ) (limit : Option ℕ) (xs ys : List Item) → length ys ≡ length (first_of offset limit xs) → first_of offset limit (ys ++ behind offset limit xs) ≡ ys
unfolding behind
first_is offset None xs ys e = append-nil ys
first_is offset (Some n) xs ys e = take_front (offset + n) xs ys e

pub another : (order : List SortKey) (offset : ℕ) (limit : Option ℕ) (items : List Item) (answer other : List Cells)
    → IsArranged order offset limit items answer → IsPermutation answer other → IsSorted (row_cmp order) other → IsArranged order offset limit items other
another order offset limit items answer other a p sorted =
    let xs : List Item = a.arranged in
    let first : List Item = first_of offset limit xs in
    let back : List Item = behind offset limit xs in
    let front : List Cells = take offset (rows first) in
    let long : length other ≡ length (drop offset (rows first)) = length_permutation answer other p ∙ ap length a.answers.cut in
    let those : of_rows (rows first) ≡ first = only_rows first a.answers.clean in
    let q : IsPermutation (drop offset (rows first)) other = subst (λ rs. IsPermutation rs other) a.answers.cut p in
    let whole : of_rows (front ++ drop offset (rows first)) ++ back ≡ xs = ap (λ rs. of_rows rs ++ back) (take-append-drop offset (rows first)) ∙ (ap (λ is. is ++ back) those ∙ whole_is offset limit xs) in
    let as_long : length (of_rows (front ++ other)) ≡ length first =
    length-map (front ++ other) (λ r. Ok r) ∙ (length-append front other ∙ (ap (λ n. length front + n) long ∙ (sym (length-append front (drop offset (rows first)))
    ∙ (ap length (take-append-drop offset (rows first)) ∙ (sym (length-map (rows first) (λ r. Ok r)) ∙ ap length those))))) in
    let first_new : first_of offset limit (of_rows (front ++ other) ++ back) ≡ of_rows (front ++ other) = first_is offset limit xs (of_rows (front ++ other)) as_long in
    let rows_old : rows xs ≡ front ++ (drop offset (rows first) ++ rows back) =
    ap rows (sym whole) ∙ (rows-append (of_rows (front ++ drop offset (rows first))) back ∙ (ap (λ rs. rs ++ rows back) (rows_of_rows (front ++ drop offset (rows first))) ∙ append_assoc front (drop offset (rows first)) (rows back))) in
    let rows_new : rows (of_rows (front ++ other) ++ back) ≡ front ++ (other ++ rows back) =
    rows-append (of_rows (front ++ other)) back ∙ (ap (λ rs. rs ++ rows back) (rows_of_rows (front ++ other)) ∙ append_assoc front other (rows back)) in
    record {
      arranged = of_rows (front ++ other) ++ back;
      same = IsPermutation-trans (of_rows (front ++ other) ++ back) xs items
          (subst (IsPermutation (of_rows (front ++ other) ++ back)) whole
          (IsPermutation-append_left back (of_rows (front ++ other)) (of_rows (front ++ drop offset (rows first)))
          (IsPermutation-map (λ r. Ok r) (front ++ other) (front ++ drop offset (rows first))
          (IsPermutation-append_right front other (drop offset (rows first)) (IsPermutation-sym (drop offset (rows first)) other q)))))
          a.same;
      answers = record {
        sorted = is_in_order order (rows (of_rows (front ++ other) ++ back)) (subst (λ rs. Ascends (row_before order) rs) (sym rows_new)
            (part_permuted (row_before order) front (drop offset (rows first)) other (rows back) q (ascends order other sorted)
            (subst (λ rs. Ascends (row_before order) rs) rows_old (ascends order (rows xs) a.answers.sorted))));
        clean = ap faults first_new ∙ faults_of_rows (front ++ other);
        cut = sym (drop_front offset (rows first) other long) ∙ (ap (drop offset) (sym (rows_of_rows (front ++ other))) ∙ ap (λ is. drop offset (rows is)) (sym first_new));
      };
    }

pub resorted : (order : List SortKey) (offset : ℕ) (limit : Option ℕ) (items : List Item) (answer other : List Cells)
    → Allows order offset limit items answer → IsPermutation answer other → IsSorted (row_cmp order) other → Allows order offset limit items other
resorted order offset limit items answer other (inl n) p sorted = inl (n.0, nil_from_length other (length_permutation answer other p ∙ ap length n.1))
resorted order offset limit items answer other (inr a) p sorted = inr (another order offset limit items answer other a p sorted)
