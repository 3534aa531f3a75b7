use Rattle.std.proofs.Common.{◌≡◌, drop}
use Rattle.logical_plan.specs.Items.{projected_row}
use Rattle.scan_run.specs.Words.{after}
use Rattle.scan_run.proofs.pass.project_row.Given as goal

-- the values so far, and those of the other expressions
abbrev pub invariant-loop-expr : goal.invariant-loop-expr
invariant-loop-expr l = after l.cells.items (projected_row (drop l.expr-index l.exprs) l.row) ≡ projected_row l.exprs l.row
