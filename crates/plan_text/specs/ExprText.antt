-- Meaning: the text of an expression in the text of a plan.
use Rattle.std.specs.Prelude.{ℕ, ◌==◌, List, [], ◌∷◌, ◌++◌, map, codes, if◌then◌else◌}
use Rattle.std.specs.Fmt.{decimal}
use Rattle.dfx_value.specs.Print.{printed}
use Rattle.dfx_value.specs.declared.kind.Kind.{Kind}
use Rattle.dfx_value.specs.declared.kind.Kind.TheVariants as kind
use Rattle.dfx_value.specs.declared.op.Op.{Op}
use Rattle.dfx_value.specs.declared.op.Op.TheVariants as op
use Rattle.dfx_value.specs.declared.value.Value.{Value}
use Rattle.dfx_value.specs.declared.value.Value.TheVariants as value
use Rattle.scalar_exprs.specs.declared.expr.Expr.{Expr}
use Rattle.scalar_exprs.specs.declared.expr.Expr.TheOpen.{Expr-F}
use Rattle.scalar_exprs.specs.declared.expr.Expr.TheFolds.{fold-Expr}
use Rattle.plan_text.specs.ListText.{separated}

-- a column: a number sign and the column's number, from 0
abbrev pub column_text : ℕ → List ℕ
column_text k = codes "#" ++ decimal k

-- each quote twice
abbrev pub doubled : List ℕ → List ℕ
doubled [] = []
doubled (b ∷ bs) = if b == 39 then 39 ∷ 39 ∷ doubled bs else b ∷ doubled bs

-- a text as SQL writes it
abbrev pub quoted : List ℕ → List ℕ
quoted t = codes "'" ++ (doubled t ++ codes "'")

abbrev pub constant_text : Value → List ℕ
constant_text value.Null = codes "NULL"
constant_text (value.Text t) = quoted t
constant_text v = printed v

abbrev pub decimal_kind : ℕ → ℕ → List ℕ
decimal_kind precision scale =
    codes "DECIMAL(" ++ (decimal precision ++ (codes "," ++ (decimal scale ++ codes ")")))

abbrev pub kind_text : Kind → List ℕ
kind_text kind.Bool = codes "BOOLEAN"
kind_text kind.Int = codes "BIGINT"
kind_text (kind.Dec precision scale) = decimal_kind precision scale
kind_text kind.Text = codes "VARCHAR"

abbrev pub op_text : Op → List ℕ
op_text op.Add = codes "+"
op_text op.Sub = codes "-"
op_text op.Mul = codes "*"
op_text op.Div = codes "/"
op_text op.Rem = codes "%"
op_text op.Concat = codes "||"
op_text op.Eq = codes "="
op_text op.Ne = codes "<>"
op_text op.Lt = codes "<"
op_text op.Le = codes "<="
op_text op.Gt = codes ">"
op_text op.Ge = codes ">="
op_text op.And = codes "AND"
op_text op.Or = codes "OR"

-- a word, and between parentheses what it is applied to
abbrev pub call_of : List ℕ → List ℕ → List ℕ
call_of name inner = name ++ (codes "(" ++ (inner ++ codes ")"))

-- a test of a CASE, and its result
abbrev pub arm_text : List ℕ × List ℕ → List ℕ
arm_text arm = arm.0 ++ (codes ": " ++ arm.1)

-- one level of an expression, from the texts of its parts
abbrev pub level_text : Expr-F (List ℕ) → List ℕ
level_text (Expr-F.Column k) = column_text k
level_text (Expr-F.Const v kind) = constant_text v
level_text (Expr-F.Not a) = call_of (codes "NOT") a
level_text (Expr-F.Neg a) = call_of (codes "NEG") a
level_text (Expr-F.IsNull a) = call_of (codes "ISNULL") a
level_text (Expr-F.Binary op a b) =
    codes "(" ++ (a ++ (codes " " ++ (op_text op ++ (codes " " ++ (b ++ codes ")")))))
level_text (Expr-F.Case arms other) =
    call_of (codes "CASE") (separated (map arm_text arms ++ (codes "ELSE " ++ other) ∷ []))
level_text (Expr-F.Coalesce parts) = call_of (codes "COALESCE") (separated parts)
level_text (Expr-F.Cast a kind) = call_of (codes "CAST") (a ++ (codes " AS " ++ kind_text kind))
level_text (Expr-F.Abs a) = call_of (codes "ABS") a
level_text (Expr-F.Length a) = call_of (codes "LENGTH") a

unfoldable pub expr_text : Expr → List ℕ
expr_text = fold-Expr (List ℕ) level_text

-- ---- words

-- the arms of a CASE, each ended by a comma and a space
abbrev pub arms_text : List (Expr × Expr) → List ℕ
arms_text [] = []
arms_text (arm ∷ arms) =
    arm_text (expr_text arm.0, expr_text arm.1) ++ (codes ", " ++ arms_text arms)
