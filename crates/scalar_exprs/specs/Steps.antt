-- Words: what single calls of evaluation and of kinds answer.
use Rattle.std.specs.Prelude.{ℕ, ◌++◌, List, map, Option, Some, None, Result, Ok}
use Rattle.dfx_value.specs.declared.fault.EvalFault.{EvalFault}
use Rattle.dfx_value.specs.declared.kind.Kind.{Kind}
use Rattle.dfx_value.specs.declared.op.Op.{Op}
use Rattle.dfx_value.specs.declared.op.Op.TheVariants as op
use Rattle.dfx_value.specs.declared.value.Value.{Value}
use Rattle.dfx_value.specs.declared.value.Value.TheVariants as value
use Rattle.scalar_exprs.specs.declared.expr.Expr.{Expr}
use Rattle.scalar_exprs.specs.Functions.{operated}
use Rattle.scalar_exprs.specs.Eval.{Outcome, eval, taken, first_value}
use Rattle.scalar_exprs.specs.Kinds.{all_kind, coalesced_kind}

-- a text behind another
abbrev pub texts_in_one : List ℕ → List ℕ → Outcome
texts_in_one a b = Ok (value.Text (a ++ b))

-- a binary operator where `||` is left out
abbrev pub operated_within : Op → Value → Value → Outcome
operated_within op.Concat a b = Ok value.Null
operated_within o a b = operated o a b

-- the arms of CASE, and the parts of COALESCE
abbrev pub of_arms : List Value → List (Expr × Expr) → Result (Option Value) EvalFault
of_arms row arms = taken (map (λ arm. (eval row arm.0, eval row arm.1)) arms)

abbrev pub coalesced : List Value → List Expr → Outcome
coalesced row parts = first_value (map (eval row) parts)

-- the kind of COALESCE's parts, where parts before these have this kind
abbrev pub agreeing : List Kind → Option Kind → List Expr → Option Kind
agreeing columns None parts = coalesced_kind columns parts
agreeing columns (Some k) parts = all_kind columns parts k
