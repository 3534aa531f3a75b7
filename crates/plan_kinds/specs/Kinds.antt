-- Meaning: the kinds of the columns that each node of a plan gives, where each of them has one.
use Rattle.std.specs.Prelude.{ℕ, ◌≡◌, ⊤, Bool, true, false, ◌&&◌, Option, Some, None, is_some, List, [], ◌∷◌, ◌++◌, length, drop}
use Rattle.std.specs.List.{list_all}
use Rattle.dfx_value.specs.declared.kind.Kind.{Kind}
use Rattle.dfx_value.specs.declared.op.AggCall.{AggCall}
use Rattle.scalar_exprs.specs.declared.expr.Expr.{Expr}
use Rattle.scalar_exprs.specs.Kinds.{◌>>=◌, same, kind_of}
use Rattle.logical_plan.specs.Body.{item_kinds, key_kinds}
use Rattle.physical_plan.specs.declared.plan.Plan.{Plan}
use Rattle.physical_plan.specs.declared.plan.Plan.TheOpen.{Plan-F}
use Rattle.physical_plan.specs.declared.plan.Plan.TheFolds.{fold-Plan}
use Rattle.physical_plan.specs.Everywhere.{Test, kids}
use Rattle.plan_kinds.specs.declared.refused.KindsRefused.{KindsRefused}
use Rattle.plan_kinds.specs.declared.refused.KindsRefused.TheVariants as refused
use Rattle.plan_kinds.specs.Phases.{has_columns, calls_fit, phase_kinds, answer_kinds}

-- these kinds, where a test holds
abbrev pub provided : Bool → List Kind → Option (List Kind)
provided true ks = Some ks
provided false ks = None

-- the columns of the one, then those of the other
abbrev pub side_by_side : Option (List Kind) → Option (List Kind) → Option (List Kind)
side_by_side left right = left >>= λ js. right >>= λ ks. Some (js ++ ks)

-- one by one, and as many
abbrev pub same_kinds : List Kind → List Kind → Bool
same_kinds [] [] = true
same_kinds (j ∷ js) (k ∷ ks) = same j k && same_kinds js ks
same_kinds _ _ = false

-- ---- nodes, from the kinds of their inputs' columns

abbrev pub all_have_kinds : List Kind → List Expr → Bool
all_have_kinds columns = list_all (λ e. is_some (kind_of columns e))

abbrev pub projected_kinds : List Kind → List Expr → Option (List Kind)
projected_kinds columns items = provided (all_have_kinds columns items) (item_kinds columns items)

abbrev pub partial_kinds : List ℕ → List AggCall → List Kind → Option (List Kind)
partial_kinds keys calls columns =
    provided (has_columns columns keys && calls_fit columns calls) (phase_kinds keys calls columns)

-- the state columns stand behind the keys
abbrev pub final_kinds : List ℕ → List AggCall → List Kind → Option (List Kind)
final_kinds keys calls columns =
    side_by_side (provided (has_columns columns keys) (key_kinds columns keys))
    (answer_kinds calls (drop (length keys) columns))

-- these kinds, where all the others are the same
abbrev pub agreed_kinds : List Kind → List (Option (List Kind)) → Option (List Kind)
agreed_kinds ks [] = Some ks
agreed_kinds ks (other ∷ others) =
    other >>= λ js. provided (same_kinds ks js) ks >>= λ _. agreed_kinds ks others

abbrev pub union_kinds : List (Option (List Kind)) → Option (List Kind)
union_kinds [] = Some []
union_kinds (first ∷ others) = first >>= λ ks. agreed_kinds ks others

abbrev pub node_kinds : Plan-F (Option (List Kind)) → Option (List Kind)
node_kinds (Plan-F.Scan table kinds files partitions) = Some kinds
node_kinds (Plan-F.Filter input test) = input
node_kinds (Plan-F.Project input items) = input >>= λ columns. projected_kinds columns items
node_kinds (Plan-F.PartialGroup input keys calls) = input >>= partial_kinds keys calls
node_kinds (Plan-F.FinalGroup input keys calls) = input >>= final_kinds keys calls
node_kinds (Plan-F.HashJoin kind left right keys rest) = side_by_side left right
node_kinds (Plan-F.Sort input keys) = input
node_kinds (Plan-F.Merge input keys) = input
node_kinds (Plan-F.Coalesce input) = input
node_kinds (Plan-F.Repartition input to) = input
node_kinds (Plan-F.UnionAll inputs) = union_kinds inputs
node_kinds (Plan-F.Limit input skip fetch) = input

-- None where some column has none, an input isn't what a second phase reads, or a union's inputs have different ones
unfoldable pub kinds : Plan → Option (List Kind)
kinds = fold-Plan (Option (List Kind)) node_kinds

-- the columns of each input have kinds
abbrev pub inputs_have_kinds : Test
inputs_have_kinds z = list_all (λ p. is_some (kinds p)) (kids z)

-- ---- refusals

-- a call that answered this refusal was asked for these kinds, or for kinds by this test
abbrev pub Refuses : KindsRefused → Option (List Kind) → Type 0
Refuses refused.NoKind o = o ≡ None
Refuses refused.NoMemory o = ⊤

abbrev pub Fails : KindsRefused → Bool → Type 0
Fails refused.NoKind test = test ≡ false
Fails refused.NoMemory test = ⊤
