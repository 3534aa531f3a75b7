use Rattle.std.proofs.Common.{◌≡◌, take, ◌≤◌}
use Rattle.fair_pool.specs.Share.{spillables}
use Rattle.fair_pool.proofs.pool.count_spillable.Given as goal

abbrev pub invariant-loop-can_spill : goal.invariant-loop-can_spill
invariant-loop-can_spill l = record {
  counted : l.many ≡ spillables (take l.can_spill-index l.spillable);
  few : l.many ≤ l.can_spill-index;
}
