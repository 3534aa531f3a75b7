use Rattle.std.proofs.Common.{take}
use Rattle.scan_run.specs.Words.{IsProjection}
use Rattle.scan_run.proofs.front.project_batch.Given as goal

-- the columns of the expressions so far
abbrev pub invariant-loop-expr : goal.invariant-loop-expr
invariant-loop-expr l = IsProjection (take l.expr-index l.exprs) l.batch.rows l.made
