-- Meaning: the join of two bodies on a test, by its keys.
use Rattle.std.specs.Prelude.{ℕ, zero, suc, ◌+◌, ◌-◌, nat_lt, Option, Some, None, option_map, List, [], ◌∷◌, ◌++◌, map, length, if◌then◌else◌}
use Rattle.dfx_value.specs.declared.op.JoinKind.{JoinKind}
use Rattle.scalar_exprs.specs.declared.expr.Expr.{Expr}
use Rattle.scalar_exprs.specs.declared.expr.Expr.TheVariants as expr
use Rattle.scalar_exprs.specs.declared.expr.Expr.TheOpen.{Expr-F}
use Rattle.scalar_exprs.specs.declared.expr.Expr.TheViews.{out-Expr, roll-Expr}
use Rattle.scalar_exprs.specs.declared.expr.Expr.TheFolds.{fold-Expr}
use Rattle.logical_plan.specs.declared.plan.Logical.{Logical}
use Rattle.logical_plan.specs.declared.plan.Logical.TheVariants as logical
use Rattle.join_lowering.specs.declared.lower.Side.{Side}
use Rattle.join_lowering.specs.Keys.{conjuncts, keys, residual}

-- ---- other numbers of columns

abbrev pub renumber : (ℕ → ℕ) → Expr-F Expr → Expr
renumber f (Expr-F.Column c) = expr.Column (f c)
renumber f z = roll-Expr z

-- an expression with new numbers of its columns
unfoldable pub renumbered : (ℕ → ℕ) → Expr → Expr
renumbered f = fold-Expr Expr (renumber f)

-- columns of the right input, without the left width before them
abbrev pub without_left : ℕ → ℕ → ℕ
without_left w c = c - w

-- columns of both inputs, with n more between them
abbrev pub spread : ℕ → ℕ → ℕ → ℕ
spread w n c = if nat_lt c w then c else c + n

-- ---- keys that are plain columns

abbrev pub node_column : Expr-F Expr → Option ℕ
node_column (Expr-F.Column c) = Some c
node_column _ = None

-- the column that an expression is
abbrev pub column_of : Expr → Option ℕ
column_of e = node_column (out-Expr e)

abbrev pub plain_key : ℕ → Option ℕ → Option ℕ → Option (ℕ × ℕ)
plain_key w (Some a) (Some b) = Some (a, without_left w b)
plain_key w _ _ = None

abbrev pub cons_both : Option (ℕ × ℕ) → Option (List (ℕ × ℕ)) → Option (List (ℕ × ℕ))
cons_both (Some key) (Some keys) = Some (key ∷ keys)
cons_both _ _ = None

-- the keys as columns of their inputs, where all are
abbrev pub plain_keys : ℕ → List (Expr × Expr) → Option (List (ℕ × ℕ))
plain_keys w [] = Some []
plain_keys w (key ∷ more) = cons_both (plain_key w (column_of key.0) (column_of key.1)) (plain_keys w more)

-- ---- keys that are appended

-- so many columns from one on
unfoldable pub columns_from : ℕ → ℕ → List Expr
columns_from c zero = []
columns_from c (suc n) = expr.Column c ∷ columns_from (c + 1) n

-- so many keys, of the columns from these on
abbrev pub keys_from : ℕ → ℕ → ℕ → List (ℕ × ℕ)
keys_from a b zero = []
keys_from a b (suc n) = (a, b) ∷ keys_from (a + 1) (b + 1) n

abbrev pub left_exprs : List (Expr × Expr) → List Expr
left_exprs = map (λ key. key.0)

abbrev pub right_exprs : ℕ → List (Expr × Expr) → List Expr
right_exprs w = map (λ key. renumbered (without_left w) key.1)

-- an input's columns and then its key expressions
abbrev pub extended : Side → List Expr → Logical
extended side exprs = logical.Project side.body (columns_from 0 side.width ++ exprs)

-- the join on the appended columns, n of each side
abbrev pub join_extended : JoinKind → Side → Side → List (Expr × Expr) → ℕ → Option Expr → Logical
join_extended kind left right keys n rest =
    logical.Join kind (extended left (left_exprs keys)) (extended right (right_exprs left.width keys)) (keys_from left.width right.width n) (option_map (renumbered (spread left.width n)) rest)

-- the columns of both inputs without the appended ones
unfoldable pub on_appended : JoinKind → Side → Side → List (Expr × Expr) → ℕ → Option Expr → Logical
on_appended kind left right keys n rest =
    logical.Project (join_extended kind left right keys n rest) (columns_from 0 left.width ++ columns_from (left.width + n) right.width)

-- ---- the join

abbrev pub on_keys : JoinKind → Side → Side → List (Expr × Expr) → Option (List (ℕ × ℕ)) → Option Expr → Logical
on_keys kind left right keys (Some plain) rest = logical.Join kind left.body right.body plain rest
on_keys kind left right keys None rest = on_appended kind left right keys (length keys) rest

-- none without a key
unfoldable pub where_keyed : JoinKind → Side → Side → List (Expr × Expr) → Option Expr → Option Logical
where_keyed kind left right [] rest = None
where_keyed kind left right (key ∷ more) rest = Some (on_keys kind left right (key ∷ more) (plain_keys left.width (key ∷ more)) rest)

abbrev pub lowered : JoinKind → Side → Side → Expr → Option Logical
lowered kind left right on = where_keyed kind left right (keys left.width (conjuncts on)) (residual left.width on)
