-- Meaning: what a hash join gives, and partitions in which matching rows lie together.
use Rattle.std.specs.Prelude.{ℕ, ◌<◌, ◌≡◌, true, Option, List, [], ◌∷◌, ◌++◌, Ok, Err}
use Rattle.std.specs.List.{flat_map}
use Rattle.dfx_value.specs.declared.op.JoinKind.{JoinKind}
use Rattle.scalar_exprs.specs.declared.expr.Expr.{Expr}
use Rattle.logical_plan.specs.Items.{Cells, Item, rows, faults, of_faults}
use Rattle.logical_plan.specs.Joins.{keys_match, right_pairs, left_alone, alone, nulls, keeps_left, keeps_right, when}
use Rattle.plan_props.specs.Meets.{Each}
use Rattle.tree_laws.specs.Operators.{Told, Op}
use Rattle.tree_laws.specs.OperatorKinds.{join_op}
use Rattle.content_laws.specs.Bags.{together}

-- ---- the operator, with all of its left side before the first of its right side

-- what an item of the right side gives: its matches in the order of the left side, and where it has
-- none, the padded row of a kept side
abbrev pub probe : JoinKind → ℕ → List (ℕ × ℕ) → Option Expr → List Item → Item → List Item
probe kind left_width keys rest ls (Ok r) =
    right_pairs keys rest (rows ls) r
    ++ when (keeps_right kind) (alone (nulls left_width ++ r) (right_pairs keys rest (rows ls) r))
probe kind left_width keys rest ls (Err f) = Err f ∷ []

-- what comes at the right side's end: the padded rows of the left side, where it is kept, then its
-- faults
abbrev pub last : JoinKind → ℕ → List (ℕ × ℕ) → Option Expr → List Item → List Item → List Item
last kind right_width keys rest ls rs =
    when (keeps_left kind) (left_alone keys rest right_width (rows ls) (rows rs)) ++ of_faults (faults ls)

-- the operator: it reserves the amount of left rows for its consumer
abbrev pub hash_join : JoinKind → ℕ → ℕ → List (ℕ × ℕ) → Option Expr → (Told → List Cells → ℕ) → Option ℕ → Op
hash_join kind left_width right_width keys rest amount consumer =
    join_op (probe kind left_width keys rest) (last kind right_width keys rest) amount consumer

-- all that it gives of whole inputs
abbrev pub join_items : JoinKind → ℕ → ℕ → List (ℕ × ℕ) → Option Expr → List Item → List Item → List Item
join_items kind left_width right_width keys rest ls rs =
    flat_map (probe kind left_width keys rest ls) rs ++ last kind right_width keys rest ls rs

-- ---- partitions

-- what the joins of n partitions give together
abbrev pub joined_parts : JoinKind → ℕ → ℕ → List (ℕ × ℕ) → Option Expr
    → ℕ → (ℕ → List Item) → (ℕ → List Item) → List Item
joined_parts kind left_width right_width keys rest n lefts rights =
    together n (λ i. join_items kind left_width right_width keys rest (lefts i) (rights i))

-- a left row and a right row with equal keys, none of them NULL, lie in partitions of one number
abbrev pub AreMatched : List (ℕ × ℕ) → ℕ → (ℕ → List Item) → (ℕ → List Item) → Type 0
AreMatched keys n lefts rights =
    (i j : ℕ) → i < n → j < n
    → Each (λ l. Each (λ r. keys_match keys l r ≡ true → i ≡ j) (rows (rights j))) (rows (lefts i))
