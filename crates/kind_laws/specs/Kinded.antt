-- Meaning: bodies of queries that are well-kinded over tables whose columns have these kinds.
use Rattle.std.specs.Prelude.{ℕ, Bool, true, false, ◌&&◌, nat_lt, Option, Some, None, is_some}
use Rattle.std.specs.Prelude.{List, [], ◌∷◌, ◌++◌, length, slice_get}
use Rattle.std.specs.List.{list_all}
use Rattle.dfx_value.specs.Kinds.{are_kinds}
use Rattle.dfx_value.specs.declared.kind.Kind.{Kind}
use Rattle.dfx_value.specs.declared.kind.Kind.TheVariants as kind
use Rattle.scalar_exprs.specs.declared.expr.Expr.{Expr}
use Rattle.scalar_exprs.specs.Kinds.{one_class, kind_of, constants_fit}
use Rattle.logical_plan.specs.declared.plan.Logical.{Logical}
use Rattle.logical_plan.specs.declared.plan.Logical.TheOpen.{Logical-F}
use Rattle.logical_plan.specs.declared.plan.Logical.TheFolds.{para-Logical}
use Rattle.logical_plan.specs.Body.{kinds}
pub use Rattle.plan_kinds.specs.Phases.{has_columns, calls_fit}
pub use Rattle.plan_kinds.specs.Kinds.{same_kinds}

-- ---- expressions over columns of these kinds

-- an expression has a kind, and each of its constants is of its own
abbrev pub has_kind : List Kind → Expr → Bool
has_kind columns e = is_some (kind_of columns e) && constants_fit e

abbrev pub is_truth : Option Kind → Bool
is_truth (Some kind.Bool) = true
is_truth _ = false

-- a test is a truth
abbrev pub is_test : List Kind → Expr → Bool
is_test columns test = is_truth (kind_of columns test) && constants_fit test

-- what is left of a join's test, if anything is
abbrev pub is_rest : List Kind → Option Expr → Bool
is_rest columns None = true
is_rest columns (Some test) = is_test columns test

-- ---- columns by their numbers

-- both are there, and are truths, numbers or texts
abbrev pub are_comparable : Option Kind → Option Kind → Bool
are_comparable (Some j) (Some k) = one_class j k
are_comparable _ _ = false

abbrev pub keys_compare : List Kind → List Kind → List (ℕ × ℕ) → Bool
keys_compare left right =
    list_all (λ (key : ℕ × ℕ). are_comparable (slice_get left key.0) (slice_get right key.1))

-- ---- nodes

-- the table is there and has these kinds; it has a column, and each kind is one
abbrev pub is_table : Option (List Kind) → List Kind → Bool
is_table None ks = false
is_table (Some own) ks = same_kinds own ks && (nat_lt 0 (length ks) && are_kinds ks)

-- well-kinded inputs of these kinds
abbrev pub all_as : List Kind → List (Logical × Bool) → Bool
all_as ks [] = true
all_as ks (q ∷ qs) = q.1 && (same_kinds ks (kinds q.0) && all_as ks qs)

-- one input at least, and all of one list of kinds
abbrev pub are_united : List (Logical × Bool) → Bool
are_united [] = false
are_united (q ∷ qs) = q.1 && all_as (kinds q.0) qs

-- one node, from its inputs
abbrev pub kinded_node : List (List Kind) → Logical-F (Logical × Bool) → Bool
kinded_node tables (Logical-F.Scan table ks) = is_table (slice_get tables table) ks
kinded_node tables (Logical-F.Filter input test) = input.1 && is_test (kinds input.0) test
kinded_node tables (Logical-F.Project input items) = input.1 && list_all (has_kind (kinds input.0)) items
kinded_node tables (Logical-F.Join kind left right keys rest) =
    left.1 && (right.1 && (keys_compare (kinds left.0) (kinds right.0) keys
    && is_rest (kinds left.0 ++ kinds right.0) rest))
kinded_node tables (Logical-F.Aggregate input keys calls) =
    input.1 && (has_columns (kinds input.0) keys && calls_fit (kinds input.0) calls)
kinded_node tables (Logical-F.Distinct input) = input.1 && nat_lt 0 (length (kinds input.0))
kinded_node tables (Logical-F.UnionAll inputs) = are_united inputs

-- every node is
unfoldable pub is_well_kinded : List (List Kind) → Logical → Bool
is_well_kinded tables = para-Logical Bool (kinded_node tables)
