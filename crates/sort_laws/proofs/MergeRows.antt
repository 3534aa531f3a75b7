-- The rows of a merge, wherever faults stand in its inputs; and the sort of items.
use Rattle.std.proofs.Common.{ℕ, ◌<◌, ◌≤◌, ◌≡◌, ◌⊎◌, inl, inr, refl, sym, ap, ◌∙◌, subst, eqb, cond, List, [], ◌∷◌, ◌++◌, length, drop, Bool, true, false, Ok, Err, arith}
use Rattle.std.specs.Prelude.{slice_set, IsPermutation}
use Rattle.std.specs.List.{sum_by}
use Rattle.std.proofs.lemmas.Bool.{true≢false, cases_eq, cases_lt}
use Rattle.std.proofs.lemmas.List.{length-set, get_or-set_same, get_or-set_other, get_or_past}
use Rattle.std.proofs.lemmas.List.Sorted.{IsPermutation-refl, IsPermutation-trans, IsPermutation-cons, IsPermutation-swap, sum_by-IsPermutation}
use Rattle.dfx_value.specs.declared.rows.SortKey.{SortKey}
use Rattle.dfx_value.specs.declared.fault.ItemFault.{ItemFault}
use Rattle.logical_plan.specs.Items.{Cells, Item, rows, faults, of_rows, of_faults}
use Rattle.plan_props.specs.Meets.{part}
use Rattle.node_laws.specs.Weaves.{NotBeforeFirst, IsLeast, Merges}
use Rattle.tree_laws.specs.OperatorKinds.{without_front, merge}
use Rattle.content_laws.specs.Bags.{SameBag, together}
use Rattle.sort_laws.specs.Sorting.{put, sorted, row_before, item_before, sort_items}
use Rattle.sort_laws.proofs.Sorts.{Ascends}
use Rattle.sort_laws.proofs.Rows.{row_order, not_before}
use Rattle.sort_laws.proofs.Splits.{together_same, together_none, IsTaken, IsFirst, first_sorts, Starts, starts_behind, starts_after}
use Rattle.sort_laws.proofs.Merges.{item_order, Picks, front_taken, merge_by}

module _ (keys : List SortKey) where
  abbrev At : ℕ → (ℕ → List Item) → ℕ → Item → Type 0
  At n inputs i x = Picks (item_before keys) (item_order keys) n inputs i x

  -- ---- a row that is picked comes first of the rows

  earlier_rows : (r : Cells) (xs : List Item) → Starts (item_before keys) (item_order keys) (λ y. item_before keys (Ok r) y ≡ true) xs → Starts (row_before keys) (row_order keys) (λ s. row_before keys r s ≡ true) (rows xs)
  earlier_rows r [] s = tt
  earlier_rows r (Ok t ∷ xs) s = s
  earlier_rows r (Err f ∷ xs) s = absurd (true≢false (sym s))

  least_rows : (r : Cells) (xs : List Item) → Starts (item_before keys) (item_order keys) (λ y. item_before keys y (Ok r) ≡ false) xs → Starts (row_before keys) (row_order keys) (λ s. row_before keys s r ≡ false) (rows xs)
  least_rows r [] s = tt
  least_rows r (Ok t ∷ xs) s = s
  least_rows r (Err f ∷ xs) s = absurd (true≢false s)

  rows_taken : (n : ℕ) (inputs : ℕ → List Item) (i : ℕ) (r : Cells) → At n inputs i (Ok r) → IsTaken n i r (λ j. rows (inputs j)) (λ j. rows (without_front inputs i j))
  rows_taken n inputs i r p =
      let t = front_taken (item_before keys) (item_order keys) n inputs i (Ok r) p in
      record { within = t.within; here = ap rows t.here; others = λ j h q. ap rows (t.others j h q) }

  rows_first : (n : ℕ) (inputs : ℕ → List Item) (i : ℕ) (r : Cells) → ((j : ℕ) → j < n → Ascends (row_before keys) (rows (inputs j))) → At n inputs i (Ok r) → IsFirst (row_before keys) n i r (λ j. rows (inputs j)) (λ j. rows (without_front inputs i j))
  rows_first n inputs i r a p =
      let t = rows_taken n inputs i r p in
      record {
        taken = t;
        earlier = λ j h. starts_behind (row_before keys) (row_order keys) r (rows (inputs j)) (a j (let w : i < n = p.within in omega (arith, h))) (earlier_rows r (inputs j) (p.earlier j h));
        later = λ j h k. starts_after (row_before keys) (row_order keys) r (rows (inputs j)) (a j k) (least_rows r (inputs j) (p.least j k));
        rest = (subst (Ascends (row_before keys)) t.here (a i p.within)).0;
      }

  -- a fault that is picked leaves all rows
  rows_left : (n : ℕ) (inputs : ℕ → List Item) (i : ℕ) (f : ItemFault) → At n inputs i (Err f) → (j : ℕ) → j < n → rows (without_front inputs i j) ≡ rows (inputs j)
  rows_left n inputs i f p j h =
      let t = front_taken (item_before keys) (item_order keys) n inputs i (Err f) p in
      by t (cases_eq j i)
    where
      by : IsTaken n i (Err f) inputs (without_front inputs i) → (j ≡ i) ⊎ (j ≡ i → ⊥) → rows (without_front inputs i j) ≡ rows (inputs j)
      by t (inl e) = ap (λ k. rows (without_front inputs i k)) e ∙ (sym (ap rows t.here) ∙ ap (λ k. rows (inputs k)) (sym e))
      by t (inr q) = ap rows (t.others j h q)

  rows_dropped : (xs : List Item) → Ascends (row_before keys) (rows xs) → Ascends (row_before keys) (rows (drop 1 xs))
  rows_dropped [] a = tt
  rows_dropped (Ok r ∷ xs) a = a.1
  rows_dropped (Err f ∷ xs) a = a

  all_rows_dropped : (n : ℕ) (inputs : ℕ → List Item) (i : ℕ) → ((j : ℕ) → j < n → Ascends (row_before keys) (rows (inputs j))) → (j : ℕ) → j < n → Ascends (row_before keys) (rows (without_front inputs i j))
  all_rows_dropped n inputs i a j h = by (eqb j i)
    where
      by : (b : Bool) → Ascends (row_before keys) (rows (cond b (drop 1 (inputs j)) (inputs j)))
      by true = rows_dropped (inputs j) (a j h)
      by false = a j h

  abbrev SortsRows : ℕ → (ℕ → List Item) → List Item → Type 0
  SortsRows n inputs given = ((j : ℕ) → j < n → Ascends (row_before keys) (rows (inputs j))) → rows given ≡ sorted (row_before keys) (together n (λ j. rows (inputs j)))

  sorts_step : (n : ℕ) (inputs : ℕ → List Item) (i : ℕ) (x : Item) (given : List Item) → At n inputs i x → SortsRows n (without_front inputs i) given → SortsRows n inputs (x ∷ given)
  sorts_step n inputs i (Ok r) given p ih a =
      ap (λ l. r ∷ l) (ih (all_rows_dropped n inputs i a)) ∙ sym (first_sorts (row_before keys) n i r (λ j. rows (inputs j)) (λ j. rows (without_front inputs i j)) (rows_first n inputs i r a p))
  sorts_step n inputs i (Err f) given p ih a =
      ih (all_rows_dropped n inputs i a) ∙ ap (sorted (row_before keys)) (together_same n (λ j. rows (without_front inputs i j)) (λ j. rows (inputs j)) (rows_left n inputs i f p))

  pub merge_rows : (n : ℕ) (inputs : ℕ → List Item) → ((j : ℕ) → j < n → Ascends (row_before keys) (rows (inputs j))) → rows (merge (item_before keys) n inputs (λ _. true)).given ≡ sorted (row_before keys) (together n (λ j. rows (inputs j)))
  merge_rows n inputs a = merge_by (item_before keys) (item_order keys) (SortsRows n) n
      (λ F e a. ap (sorted (row_before keys)) (sym (together_none n (λ j. rows (F j)) (λ j h. ap rows (e j h)))))
      (sorts_step n) inputs a

  -- ---- the rows as node_laws has them: a front each time that no other front is before

  record Are (n : ℕ) (inputs : ℕ → List Item) (parts : List (List Cells)) : Type 0 where
    many : length parts ≡ n
    each : (j : ℕ) → j < n → part parts j ≡ rows (inputs j)

  past : (n : ℕ) (inputs : ℕ → List Item) (parts : List (List Cells)) → Are n inputs parts → (j : ℕ) → n ≤ j → part parts j ≡ []
  past n inputs parts a j h = get_or_past parts j [] (let m : length parts ≡ n = a.many in omega (arith, h, m))

  abbrev MergesRows : ℕ → (ℕ → List Item) → List Item → Type 0
  MergesRows n inputs given = (parts : List (List Cells)) → Are n inputs parts → Merges keys parts (rows given)

  least_first : (n : ℕ) (inputs : ℕ → List Item) (parts : List (List Cells)) (i : ℕ) (r : Cells) → Are n inputs parts → At n inputs i (Ok r) → IsLeast keys parts r
  least_first n inputs parts i r a p j = by (cases_lt j n)
    where
      first : (rs : List Cells) → Starts (row_before keys) (row_order keys) (λ s. row_before keys s r ≡ false) rs → NotBeforeFirst keys r rs
      first [] s = tt
      first (t ∷ ts) s = not_before keys r t s

      by : (j < n) ⊎ (n ≤ j) → NotBeforeFirst keys r (part parts j)
      by (inl h) = subst (NotBeforeFirst keys r) (sym (a.each j h)) (first (rows (inputs j)) (least_rows r (inputs j) (p.least j h)))
      by (inr h) = subst (NotBeforeFirst keys r) (sym (past n inputs parts a j h)) tt

  parts_left : (n : ℕ) (inputs : ℕ → List Item) (parts : List (List Cells)) (i : ℕ) (r : Cells) → Are n inputs parts → At n inputs i (Ok r) → Are n (without_front inputs i) (slice_set parts i (rows (without_front inputs i i)))
  parts_left n inputs parts i r a p =
      let t = front_taken (item_before keys) (item_order keys) n inputs i (Ok r) p in
      record { many = length-set parts i (rows (without_front inputs i i)) ∙ a.many; each = λ j h. by t j h (cases_eq j i) }
    where
      by : IsTaken n i (Ok r) inputs (without_front inputs i) → (j : ℕ) → j < n → (j ≡ i) ⊎ (j ≡ i → ⊥) → part (slice_set parts i (rows (without_front inputs i i))) j ≡ rows (without_front inputs i j)
      by t j h (inl e) =
          ap (part (slice_set parts i (rows (without_front inputs i i)))) e
          ∙ (get_or-set_same parts i (rows (without_front inputs i i)) [] (let w : i < n = t.within in let m : length parts ≡ n = a.many in omega arith)
          ∙ ap (λ k. rows (without_front inputs i k)) (sym e))
      by t j h (inr q) = get_or-set_other parts i j (rows (without_front inputs i i)) [] q ∙ (a.each j h ∙ ap rows (sym (t.others j h q)))

  merges_step : (n : ℕ) (inputs : ℕ → List Item) (i : ℕ) (x : Item) (given : List Item) → At n inputs i x → MergesRows n (without_front inputs i) given → MergesRows n inputs (x ∷ given)
  merges_step n inputs i (Ok r) given p ih parts a =
      let t = rows_taken n inputs i r p in
      (i, rows (without_front inputs i i), a.each i p.within ∙ t.here, least_first n inputs parts i r a p, ih (slice_set parts i (rows (without_front inputs i i))) (parts_left n inputs parts i r a p))
  merges_step n inputs i (Err f) given p ih parts a = ih parts (record { many = a.many; each = λ j h. a.each j h ∙ sym (rows_left n inputs i f p j h) })

  none_taken : (n : ℕ) (inputs : ℕ → List Item) → ((j : ℕ) → j < n → inputs j ≡ []) → MergesRows n inputs []
  none_taken n inputs e parts a j = by (cases_lt j n)
    where
      by : (j < n) ⊎ (n ≤ j) → part parts j ≡ []
      by (inl h) = a.each j h ∙ ap rows (e j h)
      by (inr h) = past n inputs parts a j h

  pub merge_merges : (n : ℕ) (inputs : ℕ → List Item) (parts : List (List Cells)) → length parts ≡ n → ((j : ℕ) → j < n → part parts j ≡ rows (inputs j)) → Merges keys parts (rows (merge (item_before keys) n inputs (λ _. true)).given)
  merge_merges n inputs parts many each = merge_by (item_before keys) (item_order keys) (MergesRows n) n (none_taken n) (merges_step n) inputs parts (record { many = many; each = each })

  -- ---- the sort of items

  put_fault : (f : ItemFault) (fs : List ItemFault) (rs : List Cells) → put (item_before keys) (Err f) (of_faults fs ++ of_rows rs) ≡ Err f ∷ (of_faults fs ++ of_rows rs)
  put_fault f [] [] = refl
  put_fault f [] (r ∷ rs) = refl
  put_fault f (g ∷ gs) rs = refl

  put_row : (r : Cells) (fs : List ItemFault) (rs : List Cells) → put (item_before keys) (Ok r) (of_faults fs ++ of_rows rs) ≡ of_faults fs ++ of_rows (put (row_before keys) r rs)
  put_row r [] [] = refl
  put_row r [] (s ∷ ss) = by (row_before keys s r) (put_row r [] ss)
    where
      by : (b : Bool) → put (item_before keys) (Ok r) (of_rows ss) ≡ of_rows (put (row_before keys) r ss)
          → cond b (Ok s ∷ put (item_before keys) (Ok r) (of_rows ss)) (Ok r ∷ Ok s ∷ of_rows ss) ≡ of_rows (cond b (s ∷ put (row_before keys) r ss) (r ∷ s ∷ ss))
      by true ih = ap (λ l. Ok s ∷ l) ih
      by false ih = refl
  put_row r (f ∷ fs) rs = ap (λ l. Err f ∷ l) (put_row r fs rs)

  pub sort_is : (items : List Item) → sorted (item_before keys) items ≡ sort_items keys items
  sort_is [] = refl
  sort_is (Ok r ∷ items) = ap (put (item_before keys) (Ok r)) (sort_is items) ∙ put_row r (faults items) (sorted (row_before keys) (rows items))
  sort_is (Err f ∷ items) = ap (put (item_before keys) (Err f)) (sort_is items) ∙ put_fault f (faults items) (sorted (row_before keys) (rows items))

-- ---- a sort only moves elements

module _ {A : Type 0} (lt : A → A → Bool) where
  put_moves : (x : A) (ys : List A) → IsPermutation (x ∷ ys) (put lt x ys)
  put_moves x [] = IsPermutation-refl (x ∷ [])
  put_moves x (y ∷ ys) = by (lt y x) (put_moves x ys)
    where
      by : (b : Bool) → IsPermutation (x ∷ ys) (put lt x ys) → IsPermutation (x ∷ y ∷ ys) (cond b (y ∷ put lt x ys) (x ∷ y ∷ ys))
      by true ih = IsPermutation-trans (x ∷ y ∷ ys) (y ∷ x ∷ ys) (y ∷ put lt x ys) (IsPermutation-swap (x ∷ y ∷ ys) (y ∷ x ∷ ys) 0 1 (omega arith) (omega arith) refl) (IsPermutation-cons y (x ∷ ys) (put lt x ys) ih)
      by false ih = IsPermutation-refl (x ∷ y ∷ ys)

  pub sort_moves : (xs : List A) → IsPermutation xs (sorted lt xs)
  sort_moves [] = IsPermutation-refl []
  sort_moves (x ∷ xs) = IsPermutation-trans (x ∷ xs) (x ∷ sorted lt xs) (put lt x (sorted lt xs)) (IsPermutation-cons x xs (sorted lt xs) (sort_moves xs)) (put_moves x (sorted lt xs))

  pub sort_bag : (xs : List A) → SameBag (sorted lt xs) xs
  sort_bag xs = λ w. sum_by-IsPermutation w xs (sorted lt xs) (sort_moves xs)

rows_of_items : (fs : List ItemFault) (rs : List Cells) → rows (of_faults fs ++ of_rows rs) ≡ rs
rows_of_items [] [] = refl
rows_of_items [] (r ∷ rs) = ap (λ ss. r ∷ ss) (rows_of_items [] rs)
rows_of_items (f ∷ fs) rs = rows_of_items fs rs

faults_of_items : (fs : List ItemFault) (rs : List Cells) → faults (of_faults fs ++ of_rows rs) ≡ fs
faults_of_items [] [] = refl
faults_of_items [] (r ∷ rs) = faults_of_items [] rs
faults_of_items (f ∷ fs) rs = ap (λ gs. f ∷ gs) (faults_of_items fs rs)

pub sort_gives : (keys : List SortKey) (items : List Item)
    → (sort_items keys items ≡ sorted (item_before keys) items) × SameBag (sort_items keys items) items
    × (rows (sort_items keys items) ≡ sorted (row_before keys) (rows items)) × (faults (sort_items keys items) ≡ faults items)
sort_gives keys items = (
  sym (sort_is keys items),
  (λ w. ap (sum_by w) (sym (sort_is keys items)) ∙ sort_bag (item_before keys) items w),
  rows_of_items (faults items) (sorted (row_before keys) (rows items)),
  faults_of_items (faults items) (sorted (row_before keys) (rows items)),
)
