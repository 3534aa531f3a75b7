use Rattle.std.proofs.Common.{◌≡◌, take}
use Rattle.column_batch.specs.Batches.{kinds_of}
use Rattle.op_basic.specs.Projects.{IsMade}
use Rattle.op_basic.proofs.project.made_of.Given as goal

abbrev pub invariant-loop-at : goal.invariant-loop-at
invariant-loop-at l = record {
  made : IsMade (take l.at l.items) l.fn.batch.rows l.all.columns.items l.all.front.rows l.all.fault;
  columns : kinds_of l.all.columns.items ≡ take l.at l.made;
  kinds : l.all.front.kinds ≡ l.kinds;
}
