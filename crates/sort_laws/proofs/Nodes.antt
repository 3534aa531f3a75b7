-- What sorts, merges and limits give, partition by partition, is what their nodes give.
use Rattle.std.proofs.Common.{ℕ, zero, suc, ◌<◌, ◌≤◌, ◌≡◌, ◌⊎◌, inl, inr, refl, sym, ap, ◌∙◌, subst, List, [], ◌∷◌, ◌++◌, map, length, Option, arith}
use Rattle.std.proofs.lemmas.Bool.{cases_lt}
use Rattle.std.proofs.lemmas.List.{map-append, get_or_past}
use Rattle.dfx_value.specs.declared.rows.SortKey.{SortKey}
use Rattle.logical_plan.specs.Items.{Cells, Item, rows}
use Rattle.plan_props.specs.Meets.{part}
use Rattle.node_laws.specs.NodeRows.{Arranged}
use Rattle.node_laws.specs.Rows.{IsStretch, Stretches}
use Rattle.node_laws.specs.Weaves.{Merges}
use Rattle.tree_laws.specs.OperatorKinds.{cut}
use Rattle.content_laws.specs.Bags.{row_parts}
use Rattle.content_laws.proofs.Items.{length-row_parts, row_parts_at}
use Rattle.sort_laws.specs.Sorting.{sort_rows, sort_items, merge_items}
use Rattle.sort_laws.proofs.Limits.{cut_stretch}
use Rattle.sort_laws.proofs.MergeRows.{merge_merges, sort_gives}
use Rattle.sort_laws.proofs.Runs.{arranged}

row_parts-map : (f : List Cells → List Cells) (n : ℕ) (inputs outs : ℕ → List Item) → ((i : ℕ) → rows (outs i) ≡ f (rows (inputs i))) → row_parts n outs ≡ map f (row_parts n inputs)
row_parts-map f zero inputs outs h = refl
row_parts-map f (suc n) inputs outs h =
    ap (λ zs. zs ++ rows (outs n) ∷ []) (row_parts-map f n inputs outs h)
    ∙ (ap (λ r. map f (row_parts n inputs) ++ r ∷ []) (h n) ∙ sym (map-append f (row_parts n inputs) (rows (inputs n) ∷ [])))

pub sorts : (keys : List SortKey) (n : ℕ) (inputs : ℕ → List Item) → Arranged keys (row_parts n inputs) (row_parts n (λ i. sort_items keys (inputs i)))
sorts keys n inputs =
    subst (Arranged keys (row_parts n inputs)) (sym (row_parts-map (sort_rows keys) n inputs (λ i. sort_items keys (inputs i)) (λ i. (sort_gives keys (inputs i)).2)))
    (arranged keys (row_parts n inputs))

pub merges : (keys : List SortKey) (n : ℕ) (inputs : ℕ → List Item) → (out : List Cells) × (row_parts 1 (λ i. merge_items keys n inputs) ≡ out ∷ []) × Merges keys (row_parts n inputs) out
merges keys n inputs = (rows (merge_items keys n inputs), refl, merge_merges keys n inputs (row_parts n inputs) (length-row_parts n inputs) (λ i l. row_parts_at n i inputs l))

pub limits : (skip : ℕ) (fetch : Option ℕ) (n : ℕ) (inputs : ℕ → List Item) → Stretches (row_parts n inputs) (row_parts n (λ i. cut skip fetch (inputs i)))
limits skip fetch n inputs = record {
  count = length-row_parts n out ∙ sym (length-row_parts n inputs);
  rows = λ j. by j (cases_lt j n);
}
  where
    out : ℕ → List Item
    out i = cut skip fetch (inputs i)

    by : (j : ℕ) → (j < n) ⊎ (n ≤ j) → IsStretch (part (row_parts n inputs) j) (part (row_parts n out) j)
    by j (inl l) =
        subst (IsStretch (part (row_parts n inputs) j)) (sym (row_parts_at n j out l))
        (subst (λ zs. IsStretch zs (rows (out j))) (sym (row_parts_at n j inputs l)) (cut_stretch skip fetch (inputs j)))
    by j (inr l) =
        let e : length (row_parts n out) ≡ n = length-row_parts n out in
        subst (IsStretch (part (row_parts n inputs) j)) (sym (get_or_past (row_parts n out) j [] (omega arith))) (0, 0, refl)
