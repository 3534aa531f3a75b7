-- What an expression is and says, node by node.
use Rattle.std.proofs.Common.{◌≡◌, ℕ, List, ap, sym, ◌∙◌}
use Rattle.dfx_value.specs.declared.kind.Kind.{Kind}
use Rattle.dfx_value.specs.declared.op.Op.{Op}
use Rattle.dfx_value.specs.declared.value.Value.{Value}
use Rattle.scalar_exprs.specs.declared.expr.Expr.{Expr}
use Rattle.scalar_exprs.specs.declared.expr.Expr.TheOpen.{Expr-F}
use Rattle.scalar_exprs.specs.declared.expr.Expr.TheFolds.{fold-roll-Expr}
use Rattle.scalar_exprs.specs.declared.expr.Expr.TheVariants.{Column, Const, Not, Neg, IsNull, Binary, Case, Coalesce, Cast, Abs, Length, rolls-Column, rolls-Const, rolls-Not, rolls-Neg, rolls-IsNull, rolls-Binary, rolls-Case, rolls-Coalesce, rolls-Cast, rolls-Abs, rolls-Length}
use Rattle.physical_plan.specs.declared.facts.Fact.{Fact}
use Rattle.physical_plan.specs.Facts.{nothing, of_column, of_literal, is_null_at, compared, fact, fact_of}

pub fact-Column : (k : ℕ) → fact_of (Column k) ≡ of_column k
unfolding fact_of
fact-Column k = ap fact_of (sym (rolls-Column k)) ∙ fold-roll-Expr Fact fact (Expr-F.Column k)

pub fact-Const : (v : Value) (k : Kind) → fact_of (Const v k) ≡ of_literal
unfolding fact_of
fact-Const v k = ap fact_of (sym (rolls-Const v k)) ∙ fold-roll-Expr Fact fact (Expr-F.Const v k)

pub fact-Not : (a : Expr) → fact_of (Not a) ≡ nothing
unfolding fact_of
fact-Not a = ap fact_of (sym (rolls-Not a)) ∙ fold-roll-Expr Fact fact (Expr-F.Not a)

pub fact-Neg : (a : Expr) → fact_of (Neg a) ≡ nothing
unfolding fact_of
fact-Neg a = ap fact_of (sym (rolls-Neg a)) ∙ fold-roll-Expr Fact fact (Expr-F.Neg a)

pub fact-IsNull : (a : Expr) → fact_of (IsNull a) ≡ is_null_at (fact_of a).column
unfolding fact_of
fact-IsNull a = ap fact_of (sym (rolls-IsNull a)) ∙ fold-roll-Expr Fact fact (Expr-F.IsNull a)

pub fact-Binary : (op : Op) (a : Expr) (b : Expr) → fact_of (Binary op a b) ≡ compared op (fact_of a) (fact_of b)
unfolding fact_of
fact-Binary op a b = ap fact_of (sym (rolls-Binary op a b)) ∙ fold-roll-Expr Fact fact (Expr-F.Binary op a b)

pub fact-Case : (arms : List (Expr × Expr)) (other : Expr) → fact_of (Case arms other) ≡ nothing
unfolding fact_of
fact-Case arms other = ap fact_of (sym (rolls-Case arms other)) ∙ fold-roll-Expr Fact fact (Expr-F.Case arms other)

pub fact-Coalesce : (parts : List Expr) → fact_of (Coalesce parts) ≡ nothing
unfolding fact_of
fact-Coalesce parts = ap fact_of (sym (rolls-Coalesce parts)) ∙ fold-roll-Expr Fact fact (Expr-F.Coalesce parts)

pub fact-Cast : (a : Expr) (k : Kind) → fact_of (Cast a k) ≡ nothing
unfolding fact_of
fact-Cast a k = ap fact_of (sym (rolls-Cast a k)) ∙ fold-roll-Expr Fact fact (Expr-F.Cast a k)

pub fact-Abs : (a : Expr) → fact_of (Abs a) ≡ nothing
unfolding fact_of
fact-Abs a = ap fact_of (sym (rolls-Abs a)) ∙ fold-roll-Expr Fact fact (Expr-F.Abs a)

pub fact-Length : (a : Expr) → fact_of (Length a) ≡ nothing
unfolding fact_of
fact-Length a = ap fact_of (sym (rolls-Length a)) ∙ fold-roll-Expr Fact fact (Expr-F.Length a)

pub ruleset fact_nodes = (fact-Column, fact-Const, fact-Not, fact-Neg, fact-IsNull, fact-Binary, fact-Case, fact-Coalesce, fact-Cast, fact-Abs, fact-Length)
