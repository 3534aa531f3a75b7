use Rattle.std.proofs.Common.{◌≡◌, ◌≤◌, length, drop}
use Rattle.scalar_vector.specs.Vectors.{values_of}
use Rattle.scalar_vector.specs.Woven.{woven, after}
use Rattle.scalar_vector.proofs.level.weave_values.Given as goal

abbrev pub invariant-loop-mark : goal.invariant-loop-mark
invariant-loop-mark l = after l.values.items (woven (drop l.mark-index l.marks) (drop l.from_taken (values_of l.taken.vector)) l.taken.fault (drop l.from_rest (values_of l.rest.vector)) l.rest.fault)
    ≡ woven l.marks (values_of l.taken.vector) l.taken.fault (values_of l.rest.vector) l.rest.fault
    × l.from_taken ≤ length (values_of l.taken.vector)
    × l.from_rest ≤ length (values_of l.rest.vector)
