-- Runs: the least front of all comes first in the sort of what they hold, and the rest are runs again.
use Rattle.std.proofs.Common.{ℕ, zero, suc, ◌<◌, ◌≤◌, ◌≡◌, ◌⊎◌, inl, inr, refl, sym, ap, ◌∙◌, subst, List, [], ◌∷◌, ◌++◌, length, map, if◌then◌else◌, Bool, true, false, append-nil}
use Rattle.std.specs.Prelude.{slice_set, IsSorted}
use Rattle.std.specs.List.Sorted.{IsStable}
use Rattle.std.proofs.lemmas.Bool.{cases_eq, cases_lt}
use Rattle.std.proofs.lemmas.List.{length-map, map-append, length-set, get_or-set_same, get_or-set_other, get_or_past}
use Rattle.dfx_value.specs.Rows.{row_cmp}
use Rattle.dfx_value.specs.declared.rows.SortKey.{SortKey}
use Rattle.logical_plan.specs.Items.{Cells, concat, rows, of_rows}
use Rattle.plan_props.specs.Meets.{Each, InOrder, part}
use Rattle.node_laws.specs.NodeRows.{Holds, Arranged}
use Rattle.tree_laws.specs.OperatorKinds.{merge}
use Rattle.content_laws.specs.Bags.{together}
use Rattle.tree_laws.proofs.Fronts.{concat-append}
use Rattle.content_laws.proofs.Items.{rows_of_rows}
use Rattle.node_laws.proofs.Weavings.{own_rows}
use Rattle.sort_laws.specs.Sorting.{put, sorted, row_before, item_before, run, OfFirst, IsLeastFront}
use Rattle.sort_laws.proofs.Sorts.{Ascends, sorted_ascends, sorted_stable, sorted_from, sorted-runs}
use Rattle.sort_laws.proofs.Rows.{row_order, ascends, is_in_order, order_from_sorted}
use Rattle.sort_laws.proofs.Splits.{together_same, together_none, IsTaken, first_sorts, Starts, starts_behind, starts_after, concat_together}
use Rattle.sort_laws.proofs.MergeRows.{merge_rows}

module _ (keys : List SortKey) where
  pub sort_order : (rs : List Cells) → IsSorted (row_cmp keys) (sorted (row_before keys) rs)
  sort_order rs = is_in_order keys (sorted (row_before keys) rs) (sorted_ascends (row_before keys) (row_order keys) rs)

  pub sort_stable : (rs : List Cells) → IsStable (row_cmp keys) rs (sorted (row_before keys) rs)
  sort_stable rs x = sorted_stable (row_before keys) (row_order keys) x rs

  pub one_sort : (rs given : List Cells) → IsSorted (row_cmp keys) given → IsStable (row_cmp keys) rs given → given ≡ sorted (row_before keys) rs
  one_sort rs given s t = sorted_from (row_before keys) (row_order keys) rs given s t

  pub cut_sorts : (segments : List (List Cells)) → sorted (row_before keys) (concat (map (sorted (row_before keys)) segments)) ≡ sorted (row_before keys) (concat segments)
  cut_sorts = sorted-runs (row_before keys) (row_order keys)

  pub split_sorts : (closed : List (List Cells)) (since all : List Cells) → concat closed ++ since ≡ all
      → sorted (row_before keys) (concat (map (sorted (row_before keys)) closed ++ sorted (row_before keys) since ∷ [])) ≡ sorted (row_before keys) all
  split_sorts closed since all e =
      ap (λ l. sorted (row_before keys) (concat l)) (sym (map-append (sorted (row_before keys)) closed (since ∷ [])))
      ∙ (cut_sorts (closed ++ since ∷ [])
      ∙ ap (sorted (row_before keys)) (concat-append closed (since ∷ []) ∙ (ap (λ l. concat closed ++ l) (append-nil since) ∙ e)))

  -- ---- the least front

  starts : (P : Cells → Type 0) (rs : List Cells) → OfFirst P rs → Starts (row_before keys) (row_order keys) P rs
  starts P [] s = tt
  starts P (r ∷ rs) s = s

  within : (runs : List (List Cells)) (i : ℕ) (r : Cells) (rest : List Cells) → run runs i ≡ r ∷ rest → i < length runs
  within runs i r rest e = by (cases_lt i (length runs))
    where
      by : (i < length runs) ⊎ (length runs ≤ i) → i < length runs
      by (inl h) = h
      by (inr h) = (let n : [] ≡ r ∷ rest = sym (get_or_past runs i [] h) ∙ e in cc)

  taken : (runs : List (List Cells)) (i : ℕ) (r : Cells) (rest : List Cells) → run runs i ≡ r ∷ rest → IsTaken (length runs) i r (run runs) (run (slice_set runs i rest))
  taken runs i r rest e = record {
    within = within runs i r rest e;
    here = e ∙ ap (λ l. r ∷ l) (sym (get_or-set_same runs i rest [] (within runs i r rest e)));
    others = λ j h q. get_or-set_other runs i j rest [] q;
  }

  concat_left : (runs : List (List Cells)) (i : ℕ) (rest : List Cells) → concat (slice_set runs i rest) ≡ together (length runs) (run (slice_set runs i rest))
  concat_left runs i rest = concat_together (slice_set runs i rest) ∙ ap (λ n. together n (run (slice_set runs i rest))) (length-set runs i rest)

  pub front_least : (runs : List (List Cells)) (i : ℕ) (r : Cells) (rest : List Cells) → ((j : ℕ) → IsSorted (row_cmp keys) (run runs j)) → IsLeastFront keys runs i r rest
      → sorted (row_before keys) (concat runs) ≡ r ∷ sorted (row_before keys) (concat (slice_set runs i rest))
  front_least runs i r rest s f =
      let t = taken runs i r rest f.here in
      ap (sorted (row_before keys)) (concat_together runs)
      ∙ (first_sorts (row_before keys) (length runs) i r (run runs) (run (slice_set runs i rest)) (record {
        taken = t;
        earlier = λ j h. starts_behind (row_before keys) (row_order keys) r (run runs j) (ascends keys (run runs j) (s j)) (starts (λ y. row_before keys r y ≡ true) (run runs j) (f.earlier j h));
        later = λ j h k. starts_after (row_before keys) (row_order keys) r (run runs j) (ascends keys (run runs j) (s j)) (starts (λ y. row_before keys y r ≡ false) (run runs j) (f.later j h));
        rest = (subst (Ascends (row_before keys)) t.here (ascends keys (run runs i) (s i))).0;
      })
      ∙ ap (λ l. r ∷ sorted (row_before keys) l) (sym (concat_left runs i rest)))

  -- and the rest are runs again
  pub runs_left : (runs : List (List Cells)) (i : ℕ) (r : Cells) (rest : List Cells) → ((j : ℕ) → IsSorted (row_cmp keys) (run runs j)) → run runs i ≡ r ∷ rest → (j : ℕ) → IsSorted (row_cmp keys) (run (slice_set runs i rest) j)
  runs_left runs i r rest s e j = by (cases_eq j i)
    where
      t : IsTaken (length runs) i r (run runs) (run (slice_set runs i rest))
      t = taken runs i r rest e

      by : (j ≡ i) ⊎ (j ≡ i → ⊥) → IsSorted (row_cmp keys) (run (slice_set runs i rest) j)
      by (inl q) = subst (λ k. IsSorted (row_cmp keys) (run (slice_set runs i rest) k)) (sym q) (is_in_order keys (run (slice_set runs i rest) i) (subst (Ascends (row_before keys)) t.here (ascends keys (run runs i) (s i))).1)
      by (inr q) = subst (IsSorted (row_cmp keys)) (sym (get_or-set_other runs i j rest [] q)) (s j)

  -- ---- runs merged

  pub runs_merged : (runs : List (List Cells)) → ((j : ℕ) → IsSorted (row_cmp keys) (run runs j)) → rows (merge (item_before keys) (length runs) (λ i. of_rows (run runs i)) (λ _. true)).given ≡ sorted (row_before keys) (concat runs)
  runs_merged runs s =
      merge_rows keys (length runs) (λ i. of_rows (run runs i)) (λ j h. subst (Ascends (row_before keys)) (sym (rows_of_rows (run runs j))) (ascends keys (run runs j) (s j)))
      ∙ ap (sorted (row_before keys)) (together_same (length runs) (λ j. rows (of_rows (run runs j))) (run runs) (λ j h. rows_of_rows (run runs j)) ∙ sym (concat_together runs))

pub no_front : (runs : List (List Cells)) → ((j : ℕ) → run runs j ≡ []) → concat runs ≡ []
no_front runs e = concat_together runs ∙ together_none (length runs) (run runs) (λ j h. e j)

-- ---- a sort of each partition, as node_laws has it

module _ (P : Cells → Type 0) (lt : Cells → Cells → Bool) where
  each_put : (x : Cells) (ys : List Cells) → P x → Each P ys → Each P (put lt x ys)
  each_put x [] p e = (p, tt)
  each_put x (y ∷ ys) p e = by (lt y x) (each_put x ys p e.1)
    where
      by : (b : Bool) → Each P (put lt x ys) → Each P (if b then y ∷ put lt x ys else x ∷ y ∷ ys)
      by true ih = (e.0, ih)
      by false ih = (p, e)

  each_sorted : (xs : List Cells) → Each P xs → Each P (sorted lt xs)
  each_sorted [] e = tt
  each_sorted (x ∷ xs) e = each_put x (sorted lt xs) e.0 (each_sorted xs e.1)

part_of_map : (f : List Cells → List Cells) → f [] ≡ [] → (parts : List (List Cells)) (j : ℕ) → part (map f parts) j ≡ f (part parts j)
part_of_map f e [] j = sym e
part_of_map f e (p ∷ ps) zero = refl
part_of_map f e (p ∷ ps) (suc j) = part_of_map f e ps j

pub arranged : (keys : List SortKey) (parts : List (List Cells)) → Arranged keys parts (map (sorted (row_before keys)) parts)
arranged keys parts = record {
  count = length-map parts (sorted (row_before keys));
  from = λ j. subst (Each (Holds (part parts j))) (sym (part_of_map (sorted (row_before keys)) refl parts j)) (each_sorted (Holds (part parts j)) (row_before keys) (part parts j) (own_rows (part parts j)));
  ordered = λ j. subst (InOrder keys) (sym (part_of_map (sorted (row_before keys)) refl parts j)) (order_from_sorted keys (sorted (row_before keys) (part parts j)) (sort_order keys (part parts j)));
}
