-- Meaning: the values of an expression on rows, up to the first row on which it has none.
use Rattle.std.specs.Prelude.{ℕ, Option, Some, None, List, [], ◌∷◌, Ok, Err, map, slice_index_or, slice_get, take, length, ◌≡◌}
use Rattle.dfx_value.specs.declared.value.Value.{Value}
use Rattle.dfx_value.specs.declared.fault.EvalFault.{EvalFault}
use Rattle.scalar_exprs.specs.declared.expr.Expr.{Expr}
use Rattle.scalar_exprs.specs.Functions.{Outcome}
use Rattle.scalar_exprs.specs.Eval.{eval}

-- values of the first rows, and the fault of the row after them where it has one
pub record Front : Type 0 where
  pub values : List Value
  pub fault : Option EvalFault

-- an outcome before those of the rows after it
abbrev pub before : Outcome → Front → Front
before (Ok v) f = record { values = v ∷ f.values; fault = f.fault }
before (Err e) f = record { values = []; fault = Some e }

-- outcomes up to the first fault
abbrev pub front : List Outcome → Front
front [] = record { values = []; fault = None }
front (o ∷ os) = before o (front os)

-- the row at a place; past the last one a row without a cell
abbrev pub row_at : List (List Value) → ℕ → List Value
row_at rows place = slice_index_or rows place []

-- an expression on the rows at these places
unfoldable pub evals : List (List Value) → List ℕ → Expr → Front
evals rows places e = front (map (λ p. eval (row_at rows p) e) places)

-- an expression on all rows, as `eval` gives it row by row
abbrev pub evaluated : List (List Value) → Expr → Front
evaluated rows e = front (map (λ row. eval row e) rows)

-- what a front of outcomes is: the outcomes before its end are its values, and the one there is its fault
abbrev pub Ends : Option EvalFault → ℕ → List Outcome → Type 0
Ends None n os = n ≡ length os
Ends (Some e) n os = slice_get os n ≡ Some (Err e)

pub record IsFront (os : List Outcome) (f : Front) : Type 0 where
  pub values : take (length f.values) os ≡ map Ok f.values
  pub ended : Ends f.fault (length f.values) os
