-- What the second phase makes of rows of the first: the answers over all rows of a key.
use Rattle.std.proofs.Common.{ℕ, ◌≡◌, refl, sym, ap, ◌∙◌, cond, List, [], ◌∷◌, ◌++◌, map, drop, Bool, true, false, not, Option}
use Rattle.std.specs.Prelude.{slice_get}
use Rattle.std.specs.Ordering.{is_gt, is_lt}
use Rattle.std.specs.List.{sum_by, fold, flat_map}
use Rattle.std.proofs.lemmas.List.{append-nil, append_assoc}
use Rattle.std.proofs.lemmas.List.Folds.{fold-map}
use Rattle.dfx_value.specs.Order.{value_cmp}
use Rattle.dfx_value.specs.Rows.{cell}
use Rattle.dfx_value.specs.Kinds.{are_of}
use Rattle.dfx_value.specs.declared.kind.Kind.{Kind}
use Rattle.dfx_value.specs.declared.value.Value.{Value}
use Rattle.dfx_value.specs.declared.value.Value.TheVariants as value
use Rattle.dfx_value.specs.declared.op.AggCall.{AggCall}
use Rattle.dfx_value.specs.declared.op.AggCall.TheVariants as call
use Rattle.scalar_exprs.specs.Truth.{is_null}
use Rattle.scalar_exprs.specs.Kinds.{argument_kind}
use Rattle.scalar_exprs.specs.Agg.{agg_rows, argument, present, lesser, greater, least, greatest}
use Rattle.logical_plan.specs.Items.{Cells, concat}
use Rattle.phase_laws.specs.States.{State, state_of, merged, all_merged, cells_of, read, finished, best}
use Rattle.physical_plan.specs.Properties.{state_width}
use Rattle.phase_laws.specs.Phases.{states_of, answers, state_kinds, states_kinds, told_kind}
use Rattle.content_laws.specs.Bags.{SameBag}
use Rattle.content_laws.proofs.Identity.{cells, cells_exact}
use Rattle.content_laws.proofs.Weights.{bag-map}
use Rattle.phase_laws.proofs.Bags.{Each, each-filter, bag_each, fold_bag}
use Rattle.phase_laws.proofs.States.{Ties, merged_swap, state-append, read-cells_of, drop-cells_of, agg-finished}
use Rattle.phase_laws.proofs.Exact.{of_column, null_of, exact_cell, cell_fits}

-- ---- the best of values is one of them

lesser_fits : (ok : Value → Bool) (v w : Value) → ok v ≡ true → ok w ≡ true → ok (lesser v w) ≡ true
lesser_fits ok v w e f = by (is_gt (value_cmp v w))
  where
    by : (b : Bool) → ok (cond b w v) ≡ true
    by true = f
    by false = e

greater_fits : (ok : Value → Bool) (v w : Value) → ok v ≡ true → ok w ≡ true → ok (greater v w) ≡ true
greater_fits ok v w e f = by (is_lt (value_cmp v w))
  where
    by : (b : Bool) → ok (cond b w v) ≡ true
    by true = f
    by false = e

pub least_fits : (ok : Value → Bool) (v : Value) (ws : List Value) → ok v ≡ true → Each ok ws → ok (least v ws) ≡ true
least_fits ok v [] e h = e
least_fits ok v (w ∷ ws) e h = least_fits ok (lesser v w) ws (lesser_fits ok v w e h.0) h.1

pub greatest_fits : (ok : Value → Bool) (v : Value) (ws : List Value) → ok v ≡ true → Each ok ws → ok (greatest v ws) ≡ true
greatest_fits ok v [] e h = e
greatest_fits ok v (w ∷ ws) e h = greatest_fits ok (greater v w) ws (greater_fits ok v w e h.0) h.1

best_fits : (ok : Value → Bool) (all : Value → List Value → Value) → ((v : Value) (ws : List Value) → ok v ≡ true → Each ok ws → ok (all v ws) ≡ true) → ok value.Null ≡ true → (vs : List Value) → Each ok vs → ok (best all vs) ≡ true
best_fits ok all keeps null [] h = null
best_fits ok all keeps null (v ∷ vs) h = keeps v vs h.0 h.1

-- ---- rows in which a call's state stands first

abbrev pub call_fits : AggCall → Option Kind → Cells → Bool
call_fits (call.Min c) k row = of_column k (cell row 0)
call_fits (call.Max c) k row = of_column k (cell row 0)
call_fits _ k row = true

pub ties_read : (c : AggCall) (k : Option Kind) (a b : Cells) → call_fits c k a ≡ true → call_fits c k b ≡ true → Ties (read c a) (read c b)
ties_read call.CountAll k a b e f = tt
ties_read (call.Count c) k a b e f = tt
ties_read (call.Sum c) k a b e f = tt
ties_read (call.Min c) k a b e f = exact_cell k (cell a 0) (cell b 0) e f
ties_read (call.Max c) k a b e f = exact_cell k (cell a 0) (cell b 0) e f
ties_read (call.Avg c) k a b e f = tt

-- the cells of a column of rows of kinds
column_each : (kinds : List Kind) (c : ℕ) (rows : List Cells) → Each (are_of kinds) rows → Each (of_column (slice_get kinds c)) (map (λ row. cell row c) rows)
column_each kinds c [] h = tt
column_each kinds c (r ∷ rs) h = (cell_fits kinds r c h.0, column_each kinds c rs h.1)

pub best_column : (all : Value → List Value → Value) (kinds : List Kind) (c : ℕ) → ((v : Value) (ws : List Value) → of_column (slice_get kinds c) v ≡ true → Each (of_column (slice_get kinds c)) ws → of_column (slice_get kinds c) (all v ws) ≡ true)
    → (rows : List Cells) → Each (are_of kinds) rows → of_column (slice_get kinds c) (best all (present (map (λ row. cell row c) rows))) ≡ true
best_column all kinds c keeps rows h =
    best_fits (of_column (slice_get kinds c)) all keeps (null_of (slice_get kinds c)) (present (map (λ row. cell row c) rows)) (each-filter (of_column (slice_get kinds c)) (λ v. not (is_null v)) (map (λ row. cell row c) rows) (column_each kinds c rows h))

state_fits : (c : AggCall) (kinds : List Kind) (group rest : List Cells) (more : Cells) → Each (are_of kinds) group → call_fits c (argument_kind c kinds) (cells_of c (argument_kind c kinds) (state_of c (map (argument c) group)) ++ more) ≡ true
state_fits call.CountAll kinds group rest more h = refl
state_fits (call.Count c) kinds group rest more h = refl
state_fits (call.Sum c) kinds group rest more h = refl
state_fits (call.Min c) kinds group rest more h = best_column least kinds c (least_fits (of_column (slice_get kinds c))) group h
state_fits (call.Max c) kinds group rest more h = best_column greatest kinds c (greatest_fits (of_column (slice_get kinds c))) group h
state_fits (call.Avg c) kinds group rest more h = refl

-- ---- what is left of the rows of one key, a row for each segment that has it

abbrev pub piece : List AggCall → List Kind → List Cells → List Cells
piece calls kinds [] = []
piece calls kinds (r ∷ rs) = states_of calls kinds (r ∷ rs) ∷ []

abbrev pub step : AggCall → State → Cells → State
step c s row = merged c s (read c row)

pub map-append : {A B : Type 0} (h : A → B) (xs ys : List A) → map h (xs ++ ys) ≡ map h xs ++ map h ys
map-append h [] ys = refl
map-append h (x ∷ xs) ys = ap (λ zs. h x ∷ zs) (map-append h xs ys)

fold_pieces : (c : AggCall) (calls : List AggCall) (kinds : List Kind) (xs : List Value) (groups : List (List Cells)) → fold (step c) (state_of c xs) (flat_map (piece (c ∷ calls) kinds) groups) ≡ state_of c (xs ++ map (argument c) (concat groups))
fold_pieces c calls kinds xs [] = ap (state_of c) (sym (append-nil xs))
fold_pieces c calls kinds xs ([] ∷ groups) = fold_pieces c calls kinds xs groups
fold_pieces c calls kinds xs ((r ∷ rs) ∷ groups) =
    ap (λ s. fold (step c) (merged c (state_of c xs) s) (flat_map (piece (c ∷ calls) kinds) groups)) (read-cells_of c (argument_kind c kinds) (map (argument c) (r ∷ rs)) (states_of calls kinds (r ∷ rs)))
    ∙ (ap (λ s. fold (step c) s (flat_map (piece (c ∷ calls) kinds) groups)) (state-append c xs (map (argument c) (r ∷ rs)))
    ∙ (fold_pieces c calls kinds (xs ++ map (argument c) (r ∷ rs)) groups
    ∙ ap (state_of c) (append_assoc xs (map (argument c) (r ∷ rs)) (map (argument c) (concat groups)) ∙ ap (λ zs. xs ++ zs) (sym (map-append (argument c) (r ∷ rs) (concat groups))))))

drop_pieces : (c : AggCall) (calls : List AggCall) (kinds : List Kind) (groups : List (List Cells)) → map (drop (state_width c)) (flat_map (piece (c ∷ calls) kinds) groups) ≡ flat_map (piece calls kinds) groups
drop_pieces c calls kinds [] = refl
drop_pieces c calls kinds ([] ∷ groups) = drop_pieces c calls kinds groups
drop_pieces c calls kinds ((r ∷ rs) ∷ groups) = ap (λ x. x ∷ map (drop (state_width c)) (flat_map (piece (c ∷ calls) kinds) groups)) (drop-cells_of c (argument_kind c kinds) (map (argument c) (r ∷ rs)) (states_of calls kinds (r ∷ rs))) ∙ ap (λ xs. states_of calls kinds (r ∷ rs) ∷ xs) (drop_pieces c calls kinds groups)

abbrev pub EachOf : List Kind → List (List Cells) → Type 0
EachOf kinds [] = Unit {0}
EachOf kinds (g ∷ gs) = Each (are_of kinds) g × EachOf kinds gs

pieces_fit : (c : AggCall) (calls : List AggCall) (kinds : List Kind) (groups : List (List Cells)) → EachOf kinds groups → Each (call_fits c (argument_kind c kinds)) (flat_map (piece (c ∷ calls) kinds) groups)
pieces_fit c calls kinds [] h = tt
pieces_fit c calls kinds ([] ∷ groups) h = pieces_fit c calls kinds groups h.1
pieces_fit c calls kinds ((r ∷ rs) ∷ groups) h = (state_fits c kinds (r ∷ rs) [] (states_of calls kinds (r ∷ rs)) h.0, pieces_fit c calls kinds groups h.1)

told_finished : (c : AggCall) (k : Option Kind) (rest : List Kind) (s : State) → finished c (told_kind c (state_kinds c k ++ rest)) s ≡ finished c k s
told_finished call.CountAll k rest s = refl
told_finished (call.Count c) k rest s = refl
told_finished (call.Sum c) k rest s = refl
told_finished (call.Min c) k rest s = refl
told_finished (call.Max c) k rest s = refl
told_finished (call.Avg c) k rest s = refl

drop_kinds : (c : AggCall) (k : Option Kind) (rest : List Kind) → drop (state_width c) (state_kinds c k ++ rest) ≡ rest
drop_kinds call.CountAll k rest = refl
drop_kinds (call.Count c) k rest = refl
drop_kinds (call.Sum c) k rest = refl
drop_kinds (call.Min c) k rest = refl
drop_kinds (call.Max c) k rest = refl
drop_kinds (call.Avg c) k rest = refl

-- from any arrangement of them, the answers over all rows of the key
pub answers_are : (calls : List AggCall) (kinds : List Kind) (groups : List (List Cells)) (left : List Cells) → EachOf kinds groups → SameBag (flat_map (piece calls kinds) groups) left → answers calls (states_kinds calls kinds) left ≡ map (agg_rows kinds (concat groups)) calls
answers_are [] kinds groups left h same = refl
answers_are (c ∷ calls) kinds groups left h same =
    ap (λ x. x ∷ answers calls (drop (state_width c) (states_kinds (c ∷ calls) kinds)) (map (drop (state_width c)) left)) (told_finished c (argument_kind c kinds) (states_kinds calls kinds) (all_merged c (map (read c) left)) ∙ head)
    ∙ ap (λ xs. agg_rows kinds (concat groups) c ∷ xs) (ap (λ ks. answers calls ks (map (drop (state_width c)) left)) (drop_kinds c (argument_kind c kinds) (states_kinds calls kinds)) ∙ answers_are calls kinds groups (map (drop (state_width c)) left) h rest)
  where
    rest : SameBag (flat_map (piece calls kinds) groups) (map (drop (state_width c)) left)
    rest = λ w. sym (ap (sum_by w) (drop_pieces c calls kinds groups)) ∙ bag-map (drop (state_width c)) (flat_map (piece (c ∷ calls) kinds) groups) left same w

    fit : Each (call_fits c (argument_kind c kinds)) (flat_map (piece (c ∷ calls) kinds) groups)
    fit = pieces_fit c calls kinds groups h

    head : finished c (argument_kind c kinds) (all_merged c (map (read c) left)) ≡ agg_rows kinds (concat groups) c
    head = ap (finished c (argument_kind c kinds))
        (fold-map (merged c) (read c) (state_of c []) left
        ∙ (sym (fold_bag cells cells_exact (step c) (call_fits c (argument_kind c kinds)) (λ s a b e f. merged_swap c s (read c a) (read c b) (ties_read c (argument_kind c kinds) a b e f)) (state_of c []) (flat_map (piece (c ∷ calls) kinds) groups) left fit (bag_each (call_fits c (argument_kind c kinds)) (flat_map (piece (c ∷ calls) kinds) groups) left same fit) same)
        ∙ fold_pieces c calls kinds [] groups))
        ∙ sym (agg-finished c (argument_kind c kinds) (map (argument c) (concat groups)))

-- ---- the answers over rows don't hang on their order

-- a state with one row more
abbrev pub one_step : AggCall → State → Cells → State
one_step c s row = merged c s (state_of c (argument c row ∷ []))

-- what a fold over rows keeps is the state of all
pub fold_rows : (c : AggCall) (xs : List Value) (rows : List Cells) → fold (one_step c) (state_of c xs) rows ≡ state_of c (xs ++ map (argument c) rows)
fold_rows c xs [] = ap (state_of c) (sym (append-nil xs))
fold_rows c xs (r ∷ rs) = ap (λ s. fold (one_step c) s rs) (state-append c xs (argument c r ∷ [])) ∙ (fold_rows c (xs ++ argument c r ∷ []) rs ∙ ap (state_of c) (append_assoc xs (argument c r ∷ []) (map (argument c) rs)))

ties_one : (c : AggCall) (kinds : List Kind) (a b : Cells) → are_of kinds a ≡ true → are_of kinds b ≡ true → Ties (state_of c (argument c a ∷ [])) (state_of c (argument c b ∷ []))
ties_one call.CountAll kinds a b e f = tt
ties_one (call.Count c) kinds a b e f = tt
ties_one (call.Sum c) kinds a b e f = tt
ties_one (call.Min c) kinds a b e f = exact_cell (slice_get kinds c) _ _ (best_column least kinds c (least_fits (of_column (slice_get kinds c))) (a ∷ []) (e, tt)) (best_column least kinds c (least_fits (of_column (slice_get kinds c))) (b ∷ []) (f, tt))
ties_one (call.Max c) kinds a b e f = exact_cell (slice_get kinds c) _ _ (best_column greatest kinds c (greatest_fits (of_column (slice_get kinds c))) (a ∷ []) (e, tt)) (best_column greatest kinds c (greatest_fits (of_column (slice_get kinds c))) (b ∷ []) (f, tt))
ties_one (call.Avg c) kinds a b e f = tt

pub agg_order : (kinds : List Kind) (c : AggCall) (xs ys : List Cells) → Each (are_of kinds) xs → SameBag xs ys → agg_rows kinds xs c ≡ agg_rows kinds ys c
agg_order kinds c xs ys h same =
    agg-finished c (argument_kind c kinds) (map (argument c) xs)
    ∙ (ap (finished c (argument_kind c kinds))
    (sym (fold_rows c [] xs)
    ∙ (fold_bag cells cells_exact (one_step c) (are_of kinds) (λ s a b e f. merged_swap c s (state_of c (argument c a ∷ [])) (state_of c (argument c b ∷ [])) (ties_one c kinds a b e f)) (state_of c []) xs ys h (bag_each (are_of kinds) xs ys same h) same
    ∙ fold_rows c [] ys))
    ∙ sym (agg-finished c (argument_kind c kinds) (map (argument c) ys)))
