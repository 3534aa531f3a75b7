use Rattle.std.specs.Prelude.{IfOk}
use Rattle.std.proofs.Common.{◌≡◌, ◌++◌, ap, ◌∙◌, sym, subst, List}
use Rattle.scalar_exprs.specs.declared.expr.Expr.{Expr}
use Rattle.join_lowering.specs.Keys.{conjuncts}
use Rattle.join_lowering.proofs.Parts.{alone}
use Rattle.join_lowering.proofs.split.+conjuncts.Goals as goal

pub returns-in_default-op : goal.returns-in_default-op
returns-in_default-op t c =
    subst (λ (es : List Expr). IfOk c.with_last.result (λ parts. parts.items ≡ c.args.before.items ++ es))
    (sym (alone c.in-Binary.op c.in-Binary.left c.in-Binary.right c.in_default-op.not-And) ∙ ap conjuncts (sym c.in-Binary.is))
    c.with_last.ensures
