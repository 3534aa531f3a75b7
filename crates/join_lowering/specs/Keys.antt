-- Meaning: the keys of a join and what is left of its test. Columns count from 0, the w columns of the left input first.
use Rattle.std.specs.Prelude.{ℕ, Bool, not, ◌&&◌, nat_lt, nat_le, Option, Some, None, is_none, List, [], ◌∷◌, ◌++◌, filter, if◌then◌else◌}
use Rattle.std.specs.List.{concat, filter_map, list_any}
use Rattle.dfx_value.specs.declared.op.Op.{Op}
use Rattle.dfx_value.specs.declared.op.Op.TheVariants as op
use Rattle.scalar_exprs.specs.declared.expr.Expr.{Expr}
use Rattle.scalar_exprs.specs.declared.expr.Expr.TheVariants as expr
use Rattle.scalar_exprs.specs.declared.expr.Expr.TheOpen.{Expr-F}
use Rattle.scalar_exprs.specs.declared.expr.Expr.TheViews.{out-Expr, roll-Expr}
use Rattle.scalar_exprs.specs.declared.expr.Expr.TheFolds.{fold-Expr, para-Expr, map-Expr}

-- ---- the parts of a test

-- an operator between two operands, each with its parts
abbrev pub split_at : Op → Expr × List Expr → Expr × List Expr → List Expr
split_at op.And a b = a.1 ++ b.1
split_at o a b = expr.Binary o a.0 b.0 ∷ []

abbrev pub split : Expr-F (Expr × List Expr) → List Expr
split (Expr-F.Binary o a b) = split_at o a b
split z = roll-Expr (map-Expr (Expr × List Expr) Expr (λ p. p.0) z) ∷ []

-- the parts between the ANDs at the top of a test, in text order
unfoldable pub conjuncts : Expr → List Expr
conjuncts = para-Expr (List Expr) split

-- ---- the columns of an expression

abbrev pub in_arms : List (List ℕ × List ℕ) → List ℕ
in_arms [] = []
in_arms (arm ∷ arms) = (arm.0 ++ arm.1) ++ in_arms arms

abbrev pub node_columns : Expr-F (List ℕ) → List ℕ
node_columns (Expr-F.Column c) = c ∷ []
node_columns (Expr-F.Const v kind) = []
node_columns (Expr-F.Not a) = a
node_columns (Expr-F.Neg a) = a
node_columns (Expr-F.IsNull a) = a
node_columns (Expr-F.Binary op a b) = a ++ b
node_columns (Expr-F.Case arms other) = in_arms arms ++ other
node_columns (Expr-F.Coalesce parts) = concat parts
node_columns (Expr-F.Cast a kind) = a
node_columns (Expr-F.Abs a) = a
node_columns (Expr-F.Length a) = a

-- the columns that an expression uses, each as often as it stands there
unfoldable pub columns : Expr → List ℕ
columns = fold-Expr (List ℕ) node_columns

-- some column of the left input, and some of the right one
abbrev pub uses_left : ℕ → List ℕ → Bool
uses_left w = list_any (λ c. nat_lt c w)

abbrev pub uses_right : ℕ → List ℕ → Bool
uses_right w = list_any (λ c. nat_le w c)

-- columns of the left input alone, and of the right one alone
abbrev pub is_left : ℕ → Expr → Bool
is_left w e = uses_left w (columns e) && not (uses_right w (columns e))

abbrev pub is_right : ℕ → Expr → Bool
is_right w e = uses_right w (columns e) && not (uses_left w (columns e))

-- ---- keys and residual

-- two equal expressions as a key, the left input's first
abbrev pub oriented : ℕ → Expr → Expr → Option (Expr × Expr)
oriented w a b = if is_left w a && is_right w b then Some (a, b) else if is_left w b && is_right w a then Some (b, a) else None

abbrev pub equated : ℕ → Expr-F Expr → Option (Expr × Expr)
equated w (Expr-F.Binary op.Eq a b) = oriented w a b
equated w _ = None

-- the key that a part is
abbrev pub key_of : ℕ → Expr → Option (Expr × Expr)
key_of w e = equated w (out-Expr e)

-- the keys among parts, and the parts that are none
abbrev pub keys : ℕ → List Expr → List (Expr × Expr)
keys w = filter_map (key_of w)

abbrev pub others : ℕ → List Expr → List Expr
others w = filter (λ e. is_none (key_of w e))

abbrev pub and_also : Option Expr → Expr → Expr
and_also None e = e
and_also (Some test) e = expr.Binary op.And test e

-- a test and then these, joined by AND and grouped to the left; none where there is nothing to test
abbrev pub conjoined : Option Expr → List Expr → Option Expr
conjoined test [] = test
conjoined test (e ∷ es) = conjoined (Some (and_also test e)) es

-- what is left of a test beside its keys
abbrev pub residual : ℕ → Expr → Option Expr
residual w on = conjoined None (others w (conjuncts on))
