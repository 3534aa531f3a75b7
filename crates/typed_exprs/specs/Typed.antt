-- Meaning: kinds that are given to NULL, unified and cast to.
use Rattle.std.specs.Prelude.{ℕ, max, Bool, true, false, ◌&&◌, Option, Some, None, option_and_then, List, [], ◌∷◌, Ok, map, if◌then◌else◌}
use Rattle.dfx_value.specs.declared.kind.Kind.{Kind}
use Rattle.dfx_value.specs.declared.kind.Kind.TheVariants as kind
use Rattle.dfx_value.specs.declared.value.Value.TheVariants as value
use Rattle.dfx_value.specs.declared.op.Op.{Op}
use Rattle.dfx_value.specs.declared.op.Op.TheVariants as op
use Rattle.scalar_exprs.specs.declared.expr.Expr.{Expr}
use Rattle.scalar_exprs.specs.declared.expr.Expr.TheVariants as expr
use Rattle.scalar_exprs.specs.Kinds.{same, widest, numeric_kind, binary_kind, when_bool, when_number, cast_kind}
use Rattle.typed_exprs.specs.declared.refusal.Why.{Why}
use Rattle.typed_exprs.specs.declared.refusal.Why.TheVariants as why
use Rattle.typed_exprs.specs.declared.typed.Typed.{Typed}
use Rattle.typed_exprs.specs.declared.typed.Typed.TheVariants as typed
use Rattle.typed_exprs.specs.declared.typed.Unary.{Unary}
use Rattle.typed_exprs.specs.declared.typed.Unary.TheVariants as operator
use Rattle.typed_exprs.specs.Answer.{Answer, ◌>>=◌, refuse, or_refuse}

-- an expression with its kind
abbrev pub Kinded : Type 0
Kinded = Expr × Kind

-- a lone NULL is of this kind
abbrev pub given : Kind → Typed → Kinded
given k typed.Null = (expr.Const value.Null k, k)
given k (typed.Of e j) = (e, j)

-- a lone NULL is a text
abbrev pub settled : Typed → Kinded
settled = given kind.Text

abbrev pub kind_or : Kind → Typed → Kind
kind_or k typed.Null = k
kind_or k (typed.Of e j) = j

abbrev pub or_mismatch : ℕ → Option Kind → Answer Kind
or_mismatch place k = or_refuse why.KindMismatch place k

-- an operator or a function of one operand
abbrev pub of_kind : ℕ → (Expr → Expr) → (Kind → Option Kind) → Kinded → Answer Typed
of_kind place make kind_of operand = or_mismatch place (kind_of operand.1) >>= λ k. Ok (typed.Of (make operand.0) k)

abbrev pub cast : ℕ → Kind → Typed → Answer Typed
cast place to operand = or_mismatch place (cast_kind to (settled operand).1) >>= λ k. Ok (typed.Of (expr.Cast (settled operand).0 to) k)

abbrev pub null_test : Typed → Typed
null_test operand = typed.Of (expr.IsNull (settled operand).0) kind.Bool

-- an operator of one operand
abbrev pub unary : ℕ → Unary → Typed → Answer Typed
unary place operator.Not t = of_kind place expr.Not when_bool (settled t)
unary place operator.Neg t = of_kind place expr.Neg when_number (settled t)
unary place operator.IsNull t = Ok (null_test t)
unary place (operator.Cast to) t = cast place to t

-- ---- binary operators

-- what two lone NULLs are: numbers in arithmetic
abbrev pub alone : Op → Kind
alone op.Add = kind.Int
alone op.Sub = kind.Int
alone op.Mul = kind.Int
alone op.Div = kind.Int
alone op.Rem = kind.Int
alone _ = kind.Text

abbrev pub is_number : Kind → Bool
is_number kind.Int = true
is_number (kind.Dec p s) = true
is_number _ = false

-- two numbers, one of them a decimal, have no `/` and no `%`
abbrev pub ratio_mismatch : Kind → Kind → Why
ratio_mismatch j k = if is_number j && is_number k then why.Unsupported else why.KindMismatch

abbrev pub mismatch : Op → Kind → Kind → Why
mismatch op.Div j k = ratio_mismatch j k
mismatch op.Rem j k = ratio_mismatch j k
mismatch _ j k = why.KindMismatch

abbrev pub operator_kind : ℕ → Op → Kind → Kind → Answer Kind
operator_kind place o j k = or_refuse (mismatch o j k) place (binary_kind o j k)

abbrev pub operated : ℕ → Op → Kinded → Kinded → Answer Typed
operated place o a b = operator_kind place o a.1 b.1 >>= λ k. Ok (typed.Of (expr.Binary o a.0 b.0) k)

-- a lone NULL has the kind of the other operand
abbrev pub binary : ℕ → Op → Typed → Typed → Answer Typed
binary place o a b = operated place o (given (kind_or (alone o) b) a) (given (kind_or (alone o) a) b)

-- ---- one kind for several

abbrev pub widened : Kind → Kind → Option Kind
widened = numeric_kind (λ s t. Some (widest (max s t)))

-- one kind where they are one, or else decimals with the greater scale
abbrev pub unified : Kind → Kind → Option Kind
unified j k = if same j k then Some j else widened j k

-- with the kind that those before have
abbrev pub common_with : Option Kind → Typed → Option (Option Kind)
common_with found typed.Null = Some found
common_with None (typed.Of e k) = Some (Some k)
common_with (Some j) (typed.Of e k) = option_and_then (λ u. Some (Some u)) (unified j k)

abbrev pub common_after : Option Kind → List Typed → Option (Option Kind)
common_after found [] = Some found
common_after found (t ∷ ts) = option_and_then (λ next. common_after next ts) (common_with found t)

abbrev pub or_text : Option Kind → Kind
or_text None = kind.Text
or_text (Some k) = k

-- the unified kind of those that are no lone NULL; texts where all are
abbrev pub common : List Typed → Option Kind
common ts = option_and_then (λ found. Some (or_text found)) (common_after None ts)

-- with a CAST where the kind is another one; NULL has any kind
abbrev pub as_kind : Kind → Typed → Expr
as_kind k typed.Null = expr.Const value.Null k
as_kind k (typed.Of e j) = if same j k then e else expr.Cast e k

-- ---- COALESCE and CASE

-- there is one part at least
abbrev pub coalesced : ℕ → List Typed → Answer Typed
coalesced place [] = refuse why.KindMismatch place
coalesced place parts = or_mismatch place (common parts) >>= λ k. Ok (typed.Of (expr.Coalesce (map (as_kind k) parts)) k)

-- a test, with its place, must be a truth
abbrev pub tested : ℕ → Typed → Answer Expr
tested place t = or_mismatch place (when_bool (settled t).1) >>= λ k. Ok (settled t).0
