-- Meaning: plans whose columns are in range: each lies below the number of columns of the input that it is a column of.
use Rattle.std.specs.Prelude.{ℕ, ◌+◌, ◌==◌, Bool, true, ◌&&◌, Option, Some, None, List, [], ◌∷◌, ◌++◌, length, map, sum}
use Rattle.dfx_value.specs.declared.rows.SortKey.{SortKey}
use Rattle.dfx_value.specs.declared.op.AggCall.{AggCall}
use Rattle.dfx_value.specs.declared.op.AggCall.TheVariants.{CountAll, Count, Sum, Min, Max, Avg}
use Rattle.plan_props.specs.declared.properties.Partitioning.{Partitioning}
use Rattle.plan_props.specs.declared.properties.Partitioning.TheVariants as parting
use Rattle.scalar_exprs.specs.declared.expr.Expr.{Expr}
use Rattle.join_lowering.specs.Keys.{columns}
use Rattle.physical_plan.specs.declared.plan.Plan.TheOpen.{Plan-F}
use Rattle.physical_plan.specs.Properties.{state_width, left_keys, right_keys}
use Rattle.physical_plan.specs.Everywhere.{Test}
pub use Rattle.node_laws.specs.Tests.{width, are_below}

-- ---- lists of columns

abbrev pub key_columns : List SortKey → List ℕ
key_columns keys = map (λ (k : SortKey). k.column) keys

abbrev pub call_column : AggCall → List ℕ
call_column CountAll = []
call_column (Count c) = c ∷ []
call_column (Sum c) = c ∷ []
call_column (Min c) = c ∷ []
call_column (Max c) = c ∷ []
call_column (Avg c) = c ∷ []

-- the columns of aggregate calls
abbrev pub call_columns : List AggCall → List ℕ
call_columns [] = []
call_columns (c ∷ cs) = call_column c ++ call_columns cs

-- the columns of expressions, and of a test, where there is one
abbrev pub expr_columns : List Expr → List ℕ
expr_columns [] = []
expr_columns (e ∷ es) = columns e ++ expr_columns es

abbrev pub rest_columns : Option Expr → List ℕ
rest_columns None = []
rest_columns (Some e) = columns e

-- the columns by whose hash rows are split
abbrev pub hash_columns : Partitioning → List ℕ
hash_columns (parting.Hash cs n) = cs
hash_columns _ = []

abbrev pub are_all : ℕ → List ℕ → Bool
are_all w [] = true
are_all w (v ∷ vs) = (v == w) && are_all w vs

-- all inputs of a union have as many columns
abbrev pub are_equal : List ℕ → Bool
are_equal [] = true
are_equal (w ∷ ws) = are_all w ws

-- ---- plans

-- the columns of a node are in range; a FinalGroup stands on the keys and then the states, and the inputs of a union have one width
abbrev pub in_range : Test
in_range (Plan-F.Filter input test) = are_below (width input) (columns test)
in_range (Plan-F.Project input items) = are_below (width input) (expr_columns items)
in_range (Plan-F.PartialGroup input keys calls) = are_below (width input) keys && are_below (width input) (call_columns calls)
in_range (Plan-F.FinalGroup input keys calls) = are_below (width input) keys && (width input == length keys + sum (map state_width calls))
in_range (Plan-F.HashJoin kind left right keys rest) = are_below (width left) (left_keys keys) && are_below (width right) (right_keys keys) && are_below (width left + width right) (rest_columns rest)
in_range (Plan-F.Sort input keys) = are_below (width input) (key_columns keys)
in_range (Plan-F.Merge input keys) = are_below (width input) (key_columns keys)
in_range (Plan-F.Repartition input to) = are_below (width input) (hash_columns to)
in_range (Plan-F.UnionAll inputs) = are_equal (map width inputs)
in_range _ = true
