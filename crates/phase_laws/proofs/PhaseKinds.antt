-- The kinds of the rows of the first phase.
use Rattle.std.proofs.Common.{ℕ, ◌^◌, ◌≡◌, refl, sym, subst, cond, ltb, List, [], ◌∷◌, ◌++◌, map, length, Bool, true, false, not, ◌||◌, Option, Some, None}
use Rattle.std.specs.Prelude.{slice_get}
use Rattle.std.specs.List.{filter, AllPass}
use Rattle.std.proofs.lemmas.Bool.{true≢false, and_from, eq-eqb}
use Rattle.dfx_value.specs.Rows.{cell, cells_at}
use Rattle.dfx_value.specs.Kinds.{is_of, are_of}
use Rattle.dfx_value.specs.declared.kind.Kind.{Kind}
use Rattle.dfx_value.specs.declared.kind.Kind.TheVariants as kind
use Rattle.dfx_value.specs.declared.value.Value.{Value}
use Rattle.dfx_value.specs.declared.value.Value.TheVariants as value
use Rattle.dfx_value.specs.declared.op.AggCall.{AggCall}
use Rattle.dfx_value.specs.declared.op.AggCall.TheVariants as call
use Rattle.scalar_exprs.specs.Kinds.{argument_kind, scale_of}
use Rattle.scalar_exprs.specs.Agg.{argument, present, gains, losses, least, greatest}
use Rattle.scalar_exprs.specs.Groups.{firsts}
use Rattle.logical_plan.specs.Body.{kind_or_text, key_kinds}
use Rattle.logical_plan.specs.Items.{Cells, Item, rows, faults}
use Rattle.phase_laws.specs.States.{Totals, state_of, capped, past, within, cells_of, count_cells, sum_cells}
use Rattle.phase_laws.specs.States.State.{Sums}
use Rattle.phase_laws.specs.Phases.{states_of, phase_row, phase_rows, phase, state_kinds, states_kinds, phase_kinds}
use Rattle.phase_laws.proofs.Bags.{Each, each-filter}
use Rattle.phase_laws.proofs.Exact.{of_column, cell_fits}
use Rattle.phase_laws.proofs.Groups.{like, each-firsts}
use Rattle.phase_laws.proofs.Core.{best_column, least_fits, greatest_fits}
use Rattle.content_laws.proofs.Items.{rows_both}
use Rattle.phase_laws.proofs.Items.{each_pass}
use Rattle.phase_laws.proofs.Distinct.{all_from}

-- a state is within its columns' kinds
record IsWithin (t : Totals) : Type 0 where
  count : ltb t.count (2 ^ 63) ≡ true
  plus : ltb t.plus (10 ^ 38) ≡ true
  minus : ltb t.minus (10 ^ 38) ≡ true

capped_within : (n p m : ℕ) → IsWithin (capped n p m false)
unfolding capped
capped_within n p m = by (ltb n (2 ^ 63)) (ltb p (10 ^ 38)) (ltb m (10 ^ 38)) refl refl refl
  where
    by : (x y z : Bool) → ltb n (2 ^ 63) ≡ x → ltb p (10 ^ 38) ≡ y → ltb m (10 ^ 38) ≡ z → IsWithin (cond (not x || not y || not z) past (within n p m))
    by true true true d e f = record { count = d; plus = e; minus = f }
    by false y z d e f = record { count = refl; plus = refl; minus = refl }
    by true false z d e f = record { count = refl; plus = refl; minus = refl }
    by true true false d e f = record { count = refl; plus = refl; minus = refl }

text_of : (o : Option Kind) (v : Value) → of_column o v ≡ true → is_of (kind_or_text o) v ≡ true
text_of (Some k) v e = e
text_of None value.Null e = refl
text_of None (value.Bool b) e = absurd (true≢false (sym e))
text_of None (value.Int n) e = absurd (true≢false (sym e))
text_of None (value.Dec d) e = absurd (true≢false (sym e))
text_of None (value.Text t) e = absurd (true≢false (sym e))

count_fits : (n : ℕ) (ks : List Kind) (vs : Cells) → are_of ks vs ≡ true → are_of (kind.Int ∷ kind.Bool ∷ ks) (count_cells (Sums (capped n 0 0 false)) ++ vs) ≡ true
count_fits n ks vs h = and_from _ _ (capped_within n 0 0).count h

sums_fit : (s n p m : ℕ) (ks : List Kind) (vs : Cells) → are_of ks vs ≡ true → are_of (kind.Int ∷ kind.Dec 38 s ∷ kind.Dec 38 s ∷ kind.Bool ∷ ks) (sum_cells s (Sums (capped n p m false)) ++ vs) ≡ true
sums_fit s n p m ks vs h =
    let w = capped_within n p m in
    and_from _ _ w.count (and_from _ _ (and_from _ _ (eq-eqb s s refl) w.plus) (and_from _ _ (and_from _ _ (eq-eqb s s refl) w.minus) h))

state_fits : (c : AggCall) (kinds : List Kind) (group : List Cells) (ks : List Kind) (vs : Cells) → Each (are_of kinds) group → are_of ks vs ≡ true
    → are_of (state_kinds c (argument_kind c kinds) ++ ks) (cells_of c (argument_kind c kinds) (state_of c (map (argument c) group)) ++ vs) ≡ true
state_fits call.CountAll kinds group ks vs g h = count_fits (length (map (argument call.CountAll) group)) ks vs h
state_fits (call.Count c) kinds group ks vs g h = count_fits (length (present (map (argument (call.Count c)) group))) ks vs h
state_fits (call.Sum c) kinds group ks vs g h = sums_fit (scale_of (slice_get kinds c)) (length (present (map (argument (call.Sum c)) group))) (gains (present (map (argument (call.Sum c)) group))) (losses (present (map (argument (call.Sum c)) group))) ks vs h
state_fits (call.Avg c) kinds group ks vs g h = sums_fit (scale_of (slice_get kinds c)) (length (present (map (argument (call.Avg c)) group))) (gains (present (map (argument (call.Avg c)) group))) (losses (present (map (argument (call.Avg c)) group))) ks vs h
state_fits (call.Min c) kinds group ks vs g h = and_from _ _ (text_of (slice_get kinds c) _ (best_column least kinds c (least_fits (of_column (slice_get kinds c))) group g)) h
state_fits (call.Max c) kinds group ks vs g h = and_from _ _ (text_of (slice_get kinds c) _ (best_column greatest kinds c (greatest_fits (of_column (slice_get kinds c))) group g)) h

states_fit : (calls : List AggCall) (kinds : List Kind) (group : List Cells) → Each (are_of kinds) group → are_of (states_kinds calls kinds) (states_of calls kinds group) ≡ true
states_fit [] kinds group g = refl
states_fit (c ∷ calls) kinds group g = state_fits c kinds group (states_kinds calls kinds) (states_of calls kinds group) g (states_fit calls kinds group g)

row_fits : (columns : List ℕ) (kinds ks : List Kind) (row vs : Cells) → are_of kinds row ≡ true → are_of ks vs ≡ true → are_of (key_kinds kinds columns ++ ks) (cells_at columns row ++ vs) ≡ true
row_fits [] kinds ks row vs g h = h
row_fits (c ∷ cs) kinds ks row vs g h = and_from _ _ (text_of (slice_get kinds c) (cell row c) (cell_fits kinds row c g)) (row_fits cs kinds ks row vs g h)

rows_fit : (columns : List ℕ) (calls : List AggCall) (kinds : List Kind) (segment rest : List Cells) → Each (are_of kinds) segment → Each (are_of kinds) rest
    → Each (are_of (phase_kinds columns calls kinds)) (map (λ r. phase_row calls kinds (cells_at columns r) (filter (like (cells_at columns) r) segment)) rest)
rows_fit columns calls kinds segment [] g h = tt
rows_fit columns calls kinds segment (r ∷ rs) g h = (row_fits columns kinds (states_kinds calls kinds) r (states_of calls kinds (filter (like (cells_at columns) r) segment)) h.0 (states_fit calls kinds (filter (like (cells_at columns) r) segment) (each-filter (are_of kinds) (like (cells_at columns) r) segment g)), rows_fit columns calls kinds segment rs g h.1)

pub phase_fits : (columns : List ℕ) (calls : List AggCall) (kinds : List Kind) (segment : List Item) → AllPass (are_of kinds) (rows segment) → AllPass (are_of (phase_kinds columns calls kinds)) (rows (phase columns calls kinds segment))
phase_fits columns calls kinds segment good =
    let g : Each (are_of kinds) (rows segment) = each_pass (are_of kinds) (rows segment) good in
    subst (AllPass (are_of (phase_kinds columns calls kinds))) (sym (rows_both (faults segment) (phase_rows columns calls kinds (rows segment))))
    (all_from (are_of (phase_kinds columns calls kinds)) (phase_rows columns calls kinds (rows segment)) (rows_fit columns calls kinds (rows segment) (firsts (like (cells_at columns)) (rows segment)) g (each-firsts (are_of kinds) (like (cells_at columns)) (rows segment) g)))
