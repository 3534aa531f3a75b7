-- Rows in order: no later one before an earlier one, one by one or each to the next, and parts of such lists in another order.
use Rattle.std.proofs.Common.{◌≡◌, refl, sym, ap, ◌∙◌, List, [], ◌∷◌, ◌++◌, Bool, true, false}
use Rattle.std.specs.Prelude.{IsPermutation, IsSorted}
use Rattle.std.specs.List.{list_any}
use Rattle.std.specs.Cmp.{IsStrictWeakOrder}
use Rattle.std.specs.Ordering.{is_lt, ordering_reverse}
use Rattle.std.specs.declared.cmp.Ordering.{Ordering}
use Rattle.std.specs.declared.cmp.Ordering.TheVariants.{Less, Equal, Greater}
use Rattle.std.proofs.lemmas.Bool.{or_parts, or_from}
use Rattle.std.proofs.lemmas.List.Folds.{list_any-append}
use Rattle.std.proofs.lemmas.List.Sorted.{ranks_by, list_any-IsPermutation}
use Rattle.dfx_value.specs.Rows.{row_cmp}
use Rattle.dfx_value.specs.declared.rows.SortKey.{SortKey}
use Rattle.dfx_value.proofs.RowLemmas.{row_cmp_total}
use Rattle.logical_plan.specs.Items.{Cells}
use Rattle.plan_props.specs.Meets.{Each, NotBefore, InOrder}
use Rattle.sort_laws.specs.Sorting.{row_before}
use Rattle.sort_laws.proofs.Sorts.{Ascends, ascends_from, sorted_by_from}

pub row_order : (keys : List SortKey) → IsStrictWeakOrder (row_before keys)
row_order keys = ranks_by (row_cmp_total keys) (λ r. r)

pub ascends : (keys : List SortKey) (rs : List Cells) → IsSorted (row_cmp keys) rs → Ascends (row_before keys) rs
ascends keys rs h = ascends_from (row_before keys) (row_order keys) rs h

pub is_in_order : (keys : List SortKey) (rs : List Cells) → Ascends (row_before keys) rs → IsSorted (row_cmp keys) rs
is_in_order keys rs a = sorted_by_from (row_before keys) (row_order keys) rs a

pub unordered : (rs : List Cells) → IsSorted (row_cmp []) rs
unordered rs = λ k d low high. refl

-- ---- as properties say it

pub not_less : (keys : List SortKey) (r s : Cells) → NotBefore keys r s → row_before keys s r ≡ false
not_less keys r s h = by (row_cmp keys s r) refl
  where
    by : (o : Ordering) → row_cmp keys s r ≡ o → is_lt o ≡ false
    by Less e = absurd (h ((row_cmp_total keys).antisymm r s ∙ ap ordering_reverse e))
    by Equal e = refl
    by Greater e = refl

pub not_before : (keys : List SortKey) (r s : Cells) → row_before keys s r ≡ false → NotBefore keys r s
not_before keys r s h e =
    let l : is_lt (row_cmp keys s r) ≡ true = ap is_lt ((row_cmp_total keys).antisymm s r ∙ ap ordering_reverse e) in
    let c : true ≡ false = sym l ∙ h in
    cc

none_less : (keys : List SortKey) (r : Cells) (rs : List Cells) → Each (NotBefore keys r) rs → list_any (λ s. row_before keys s r) rs ≡ false
none_less keys r [] e = refl
none_less keys r (s ∷ ss) e = or_from (row_before keys s r) _ (not_less keys r s e.0) (none_less keys r ss e.1)

none_before : (keys : List SortKey) (r : Cells) (rs : List Cells) → list_any (λ s. row_before keys s r) rs ≡ false → Each (NotBefore keys r) rs
none_before keys r [] e = tt
none_before keys r (s ∷ ss) e = let p = or_parts (row_before keys s r) (list_any (λ s. row_before keys s r) ss) e in (not_before keys r s p.0, none_before keys r ss p.1)

ordered_ascends : (keys : List SortKey) (rs : List Cells) → InOrder keys rs → Ascends (row_before keys) rs
ordered_ascends keys [] h = tt
ordered_ascends keys (r ∷ rs) h = (none_less keys r rs h.0, ordered_ascends keys rs h.1)

ascends_ordered : (keys : List SortKey) (rs : List Cells) → Ascends (row_before keys) rs → InOrder keys rs
ascends_ordered keys [] h = tt
ascends_ordered keys (r ∷ rs) h = (none_before keys r rs h.0, ascends_ordered keys rs h.1)

pub sorted_from_order : (keys : List SortKey) (rs : List Cells) → InOrder keys rs → IsSorted (row_cmp keys) rs
sorted_from_order keys rs h = is_in_order keys rs (ordered_ascends keys rs h)

pub order_from_sorted : (keys : List SortKey) (rs : List Cells) → IsSorted (row_cmp keys) rs → InOrder keys rs
order_from_sorted keys rs h = ascends_ordered keys rs (ascends keys rs h)

-- ---- a part in another order

module _ {X : Type 0} (lt : X → X → Bool) where
  -- none of the second is before one of the first
  abbrev Above : List X → List X → Type 0
  Above xs [] = Unit {0}
  Above xs (y ∷ ys) = (list_any (λ x. lt y x) xs ≡ false) × Above xs ys

  above_none : (ys : List X) → Above [] ys
  above_none [] = tt
  above_none (y ∷ ys) = (refl, above_none ys)

  above_more : (x : X) (xs ys : List X) → list_any (λ z. lt z x) ys ≡ false → Above xs ys → Above (x ∷ xs) ys
  above_more x xs [] h a = tt
  above_more x xs (y ∷ ys) h a = let p = or_parts (lt y x) (list_any (λ z. lt z x) ys) h in (or_from (lt y x) _ p.0 a.0, above_more x xs ys p.1 a.1)

  above_first : (x : X) (xs ys : List X) → Above (x ∷ xs) ys → list_any (λ z. lt z x) ys ≡ false
  above_first x xs [] a = refl
  above_first x xs (y ∷ ys) a = or_from (lt y x) _ (or_parts (lt y x) (list_any (λ x. lt y x) xs) a.0).0 (above_first x xs ys a.1)

  above_rest : (x : X) (xs ys : List X) → Above (x ∷ xs) ys → Above xs ys
  above_rest x xs [] a = tt
  above_rest x xs (y ∷ ys) a = ((or_parts (lt y x) (list_any (λ x. lt y x) xs) a.0).1, above_rest x xs ys a.1)

  parts_of : (p : X → Bool) (xs ys : List X) → list_any p (xs ++ ys) ≡ false → (list_any p xs ≡ false) × (list_any p ys ≡ false)
  parts_of p xs ys h = or_parts (list_any p xs) (list_any p ys) (sym (list_any-append p xs ys) ∙ h)

  ascends_above : (xs ys : List X) → Ascends lt (xs ++ ys) → Above xs ys
  ascends_above [] ys a = above_none ys
  ascends_above (x ∷ xs) ys a = above_more x xs ys (parts_of (λ z. lt z x) xs ys a.0).1 (ascends_above xs ys a.1)

  ascends_back : (xs ys : List X) → Ascends lt (xs ++ ys) → Ascends lt ys
  ascends_back [] ys a = a
  ascends_back (x ∷ xs) ys a = ascends_back xs ys a.1

  above_permuted : (xs zs ys : List X) → IsPermutation xs zs → Above xs ys → Above zs ys
  above_permuted xs zs [] p a = tt
  above_permuted xs zs (y ∷ ys) p a = (sym (list_any-IsPermutation (λ x. lt y x) xs zs p) ∙ a.0, above_permuted xs zs ys p a.1)

  joined : (xs ys : List X) → Ascends lt xs → Ascends lt ys → Above xs ys → Ascends lt (xs ++ ys)
  joined [] ys a b c = b
  joined (x ∷ xs) ys a b c = (list_any-append (λ z. lt z x) xs ys ∙ or_from _ _ a.0 (above_first x xs ys c), joined xs ys a.1 b (above_rest x xs ys c))

  pub part_permuted : (front part other back : List X) → IsPermutation part other → Ascends lt other → Ascends lt (front ++ (part ++ back)) → Ascends lt (front ++ (other ++ back))
  part_permuted [] part other back p o a = joined other back o (ascends_back part back a) (above_permuted part other back p (ascends_above part back a))
  part_permuted (x ∷ xs) part other back p o a = (none, part_permuted xs part other back p o a.1)
    where
      none : list_any (λ z. lt z x) (xs ++ (other ++ back)) ≡ false
      none =
          let q = parts_of (λ z. lt z x) xs (part ++ back) a.0 in
          let r = parts_of (λ z. lt z x) part back q.1 in
          list_any-append (λ z. lt z x) xs (other ++ back)
          ∙ or_from _ _ q.0 (list_any-append (λ z. lt z x) other back ∙ or_from _ _ (sym (list_any-IsPermutation (λ z. lt z x) part other p) ∙ r.0) r.1)
