-- What each node gives of rows of its inputs' kinds.
use Rattle.std.specs.List.{list_all}
use Rattle.std.proofs.Common.{◌≡◌, refl, ℕ, Bool, true, false, cond, Option, Some, None, List, [], ◌∷◌, ◌++◌, map, length, Result, Ok, Err}
use Rattle.std.proofs.lemmas.Bool.{and_from}
use Rattle.dfx_value.specs.Checked.{◌>>=◌}
use Rattle.dfx_value.specs.Kinds.{are_of}
use Rattle.dfx_value.specs.KindedRows.{all_are}
use Rattle.dfx_value.specs.declared.fault.EvalFault.{EvalFault}
use Rattle.dfx_value.specs.declared.fault.ItemFault.{ItemFault}
use Rattle.dfx_value.specs.declared.kind.Kind.{Kind}
use Rattle.dfx_value.specs.declared.op.AggCall.{AggCall}
use Rattle.dfx_value.specs.declared.op.JoinKind.{JoinKind}
use Rattle.dfx_value.specs.Rows.{cells_at}
use Rattle.scalar_exprs.specs.declared.expr.Expr.{Expr}
use Rattle.scalar_exprs.specs.Agg.{agg_rows}
use Rattle.scalar_exprs.specs.Eval.{Outcome, eval}
use Rattle.scalar_exprs.specs.Groups.{same_keys, firsts}
use Rattle.scalar_exprs.specs.Truth.{is_true}
use Rattle.logical_plan.specs.Items.{Cells, Item, rows, faults, of_rows, of_faults, as_item, all_values, tested, filtered, filter_items, projected_row, projected, project_items}
use Rattle.logical_plan.specs.Joins.{keys_match, residual, paired, left_pairs, right_pairs, pairs, nulls, alone, left_alone, right_alone, keeps_left, keeps_right, when, joined}
use Rattle.logical_plan.specs.Groups.{alike, group_of, group_item, one_group, aggregated, distinct}
use Rattle.logical_plan.specs.Body.{item_kinds, key_kinds, call_kinds}
use Rattle.kind_laws.specs.Kinded.{has_kind, has_columns, calls_fit}
use Rattle.kind_laws.proofs.Rows.{are_append, nulls_are, all_filter, all_firsts, items_append, faults_alone, rows_alone, rows_flat, items_flat, item_is, items_map, rows_map}
use Rattle.kind_laws.proofs.Values.{RowFits, items_fit, keys_fit, answers_fit}

-- ---- filters and projections

tested_fits : (ks : List Kind) (row : Cells) (o : Outcome) → are_of ks row ≡ true → all_are ks (rows (tested row o)) ≡ true
tested_fits ks row (Err f) p = refl
tested_fits ks row (Ok v) p = go (is_true v) where
  go : (b : Bool) → all_are ks (rows (cond b (Ok row ∷ []) [])) ≡ true
  go true = and_from _ _ p refl
  go false = refl

pub filter_gives : (ks : List Kind) (test : Expr) (items : List Item) → all_are ks (rows items) ≡ true → all_are ks (rows (filter_items test items)) ≡ true
filter_gives ks test items p = items_flat ks ks (filtered test) (λ r h. tested_fits ks r (eval r test) h) (λ e. refl) items p

as_item_fits : (ks : List Kind) (r : Result Cells EvalFault) → RowFits ks r → item_is ks (as_item r) ≡ true
as_item_fits ks (Ok vs) h = and_from _ _ h refl
as_item_fits ks (Err f) h = refl

pub project_gives : (ks : List Kind) (exprs : List Expr) → list_all (has_kind ks) exprs ≡ true → (items : List Item) → all_are ks (rows items) ≡ true → all_are (item_kinds ks exprs) (rows (project_items exprs items)) ≡ true
project_gives ks exprs e items p =
    items_map ks (item_kinds ks exprs) (projected exprs)
    (λ r h. as_item_fits (item_kinds ks exprs) (projected_row exprs r) (items_fit ks r h exprs e)) (λ f. refl) items p

-- ---- joins

residual_fits : (ks : List Kind) (rest : Option Expr) (row : Cells) → are_of ks row ≡ true → all_are ks (rows (residual rest row)) ≡ true
residual_fits ks None row p = and_from _ _ p refl
residual_fits ks (Some test) row p = tested_fits ks row (eval row test) p

alone_fits : (ks : List Kind) (padded : Cells) (found : List Item) → are_of ks padded ≡ true → all_are ks (rows (alone padded found)) ≡ true
alone_fits ks padded [] p = and_from _ _ p refl
alone_fits ks padded (x ∷ xs) p = refl

when_fits : (ks : List Kind) (b : Bool) (items : List Item) → all_are ks (rows items) ≡ true → all_are ks (rows (when b items)) ≡ true
when_fits ks true items p = p
when_fits ks false items p = refl

five : (ks : List Kind) (a b c d e : List Item) → all_are ks (rows a) ≡ true → all_are ks (rows b) ≡ true → all_are ks (rows c) ≡ true → all_are ks (rows d) ≡ true → all_are ks (rows e) ≡ true
    → all_are ks (rows (a ++ b ++ c ++ d ++ e)) ≡ true
five ks a b c d e p q r s t =
    items_append ks (a ++ b ++ c ++ d) e
    (items_append ks (a ++ b ++ c) d (items_append ks (a ++ b) c (items_append ks a b p q) r) s) t

module _ (js ks : List Kind) (keys : List (ℕ × ℕ)) (rest : Option Expr) where
  paired_fits : (l r : Cells) → are_of js l ≡ true → are_of ks r ≡ true → all_are (js ++ ks) (rows (paired keys rest l r)) ≡ true
  paired_fits l r p q = go (keys_match keys l r) where
    go : (b : Bool) → all_are (js ++ ks) (rows (cond b (residual rest (l ++ r)) [])) ≡ true
    go true = residual_fits (js ++ ks) rest (l ++ r) (are_append js ks l r p q)
    go false = refl

  pairs_fit : (ls rs : List Cells) → all_are js ls ≡ true → all_are ks rs ≡ true → all_are (js ++ ks) (rows (pairs keys rest ls rs)) ≡ true
  pairs_fit ls rs p q =
      rows_flat js (js ++ ks) (left_pairs keys rest rs)
      (λ l h. rows_flat ks (js ++ ks) (paired keys rest l) (λ r g. paired_fits l r h g) rs q) ls p

  left_fits : (ls rs : List Cells) → all_are js ls ≡ true → all_are (js ++ ks) (rows (left_alone keys rest (length ks) ls rs)) ≡ true
  left_fits ls rs p =
      rows_flat js (js ++ ks) (λ l. alone (l ++ nulls (length ks)) (left_pairs keys rest rs l))
      (λ l h. alone_fits (js ++ ks) (l ++ nulls (length ks)) (left_pairs keys rest rs l) (are_append js ks l (nulls (length ks)) h (nulls_are ks))) ls p

  right_fits : (ls rs : List Cells) → all_are ks rs ≡ true → all_are (js ++ ks) (rows (right_alone keys rest (length js) ls rs)) ≡ true
  right_fits ls rs q =
      rows_flat ks (js ++ ks) (λ r. alone (nulls (length js) ++ r) (right_pairs keys rest ls r))
      (λ r h. alone_fits (js ++ ks) (nulls (length js) ++ r) (right_pairs keys rest ls r) (are_append js ks (nulls (length js)) r (nulls_are js) h)) rs q

  pub join_gives : (kind : JoinKind) (ls rs : List Item) → all_are js (rows ls) ≡ true → all_are ks (rows rs) ≡ true
      → all_are (js ++ ks) (rows (joined kind (length js) (length ks) keys rest ls rs)) ≡ true
  join_gives kind ls rs p q =
      five (js ++ ks) (of_faults (faults ls)) (of_faults (faults rs)) (pairs keys rest (rows ls) (rows rs))
      (when (keeps_left kind) (left_alone keys rest (length ks) (rows ls) (rows rs))) (when (keeps_right kind) (right_alone keys rest (length js) (rows ls) (rows rs)))
      (faults_alone (js ++ ks) (faults ls)) (faults_alone (js ++ ks) (faults rs)) (pairs_fit (rows ls) (rows rs) p q)
      (when_fits (js ++ ks) (keeps_left kind) _ (left_fits (rows ls) (rows rs) p)) (when_fits (js ++ ks) (keeps_right kind) _ (right_fits (rows ls) (rows rs) q))

-- ---- groups

group_fits : (ks columns : List Kind) (keys : Cells) (calls : List AggCall) (group : List Cells) → are_of ks keys ≡ true → calls_fit columns calls ≡ true → all_are columns group ≡ true
    → item_is (ks ++ call_kinds columns calls) (group_item keys calls columns group) ≡ true
group_fits ks columns keys calls group p q g = go (all_values (map (agg_rows columns group) calls)) (answers_fit columns group g calls q) where
  go : (r : Result Cells EvalFault) → RowFits (call_kinds columns calls) r → item_is (ks ++ call_kinds columns calls) (as_item (r >>= λ answers. Ok (keys ++ answers))) ≡ true
  go (Ok vs) h = and_from _ _ (are_append ks (call_kinds columns calls) keys vs p h) refl
  go (Err f) h = refl

one_fits : (columns : List Kind) (calls : List AggCall) (all : List Cells) (fs : List ItemFault) → calls_fit columns calls ≡ true → all_are columns all ≡ true
    → item_is (call_kinds columns calls) (one_group calls columns all fs) ≡ true
one_fits columns calls all [] q g = group_fits [] columns [] calls all refl q g
one_fits columns calls all (f ∷ fs) q g = refl

pub aggregate_gives : (columns : List Kind) (keys : List ℕ) (calls : List AggCall) → has_columns columns keys ≡ true → calls_fit columns calls ≡ true → (items : List Item) → all_are columns (rows items) ≡ true
    → all_are (key_kinds columns keys ++ call_kinds columns calls) (rows (aggregated keys calls columns items)) ≡ true
aggregate_gives columns [] calls p q items g = one_fits columns calls (rows items) (faults items) q g
aggregate_gives columns (c ∷ cs) calls p q items g =
    let ks = key_kinds columns (c ∷ cs) ++ call_kinds columns calls in
    let of = λ (r : Cells). group_item (cells_at (c ∷ cs) r) calls columns (group_of (c ∷ cs) (rows items) r) in
    items_append ks (of_faults (faults items)) (map of (firsts (alike (c ∷ cs)) (rows items))) (faults_alone ks (faults items))
    (rows_map columns ks of
    (λ r h. group_fits (key_kinds columns (c ∷ cs)) columns (cells_at (c ∷ cs) r) calls (group_of (c ∷ cs) (rows items) r) (keys_fit columns r h (c ∷ cs) p) q (all_filter columns (alike (c ∷ cs) r) (rows items) g))
    (firsts (alike (c ∷ cs)) (rows items)) (all_firsts columns (alike (c ∷ cs)) (rows items) g))

pub distinct_gives : (ks : List Kind) (items : List Item) → all_are ks (rows items) ≡ true → all_are ks (rows (distinct items)) ≡ true
distinct_gives ks items g =
    items_append ks (of_faults (faults items)) (of_rows (firsts same_keys (rows items))) (faults_alone ks (faults items))
    (rows_alone ks (firsts same_keys (rows items)) (all_firsts ks same_keys (rows items) g))
