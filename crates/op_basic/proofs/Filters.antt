-- What a test keeps of rows, up to its first fault.
use Rattle.std.proofs.Common.{◌≡◌, refl, ℕ, Bool, true, false, cond, List, [], ◌∷◌, ◌++◌, length, take, map, ap, ◌∙◌, Ok, Err}
use Rattle.std.specs.Prelude.{slice_range}
use Rattle.std.proofs.Math.Nat.{sub-zero}
use Rattle.column_batch.specs.Batches.{kept}
use Rattle.logical_plan.specs.Items.{Item, Cells, of_rows, tested, filter_items}
use Rattle.scalar_exprs.specs.declared.expr.Expr.{Expr}
use Rattle.scalar_exprs.specs.Eval.{Outcome, eval}
use Rattle.scalar_exprs.specs.Truth.{is_true}
use Rattle.scalar_vector.specs.Fronts.{Front, before, evaluated}
use Rattle.operator_poll.specs.Waiting.{as_far, faulted}

-- bits for the first rows alone
kept-take : {A : Type 0} (bits : List Bool) (xs : List A) → kept bits (take (length bits) xs) ≡ kept bits xs
kept-take [] xs = refl
kept-take (b ∷ bs) [] = refl
kept-take {A = A} (b ∷ bs) (x ∷ xs) = ap (λ (l : List A). cond b (x ∷ l) l) (kept-take bs xs)

pub kept_first : (bits : List Bool) (rows : List Cells) → kept bits (slice_range rows 0 (length bits)) ≡ kept bits rows
kept_first bits rows = ap (λ (k : ℕ). kept bits (take k rows)) (sub-zero (length bits)) ∙ kept-take bits rows

step : (o : Outcome) (row : Cells) (rows : List Cells) (f : Front) (rest : List Item) → of_rows (kept (map is_true f.values) rows) ++ faulted f.fault ≡ as_far rest
    → of_rows (kept (map is_true (before o f).values) (row ∷ rows)) ++ faulted (before o f).fault ≡ as_far (tested row o ++ rest)
step (Err e) row rows f rest h = refl
step (Ok v) row rows f rest h = by (is_true v) where
  by : (b : Bool) → of_rows (cond b (row ∷ kept (map is_true f.values) rows) (kept (map is_true f.values) rows)) ++ faulted f.fault ≡ as_far (cond b (Ok row ∷ []) [] ++ rest)
  by true = ap (λ (l : List Item). Ok row ∷ l) h
  by false = h

-- the rows that the test keeps before its first fault, and that fault, are what it makes of the rows, as far as the first fault
pub filter_front : (test : Expr) (rows : List Cells) → of_rows (kept (map is_true (evaluated rows test).values) rows) ++ faulted (evaluated rows test).fault ≡ as_far (filter_items test (of_rows rows))
filter_front test [] = refl
filter_front test (r ∷ rs) = step (eval r test) r rs (evaluated rs test) (filter_items test (of_rows rs)) (filter_front test rs)

pub ruleset filter_steps = (filter_front)
