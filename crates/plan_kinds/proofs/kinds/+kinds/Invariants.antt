use Rattle.std.proofs.Common.{◌≡◌, map, drop}
use Rattle.plan_kinds.specs.Kinds.{kinds, union_kinds}
use Rattle.plan_kinds.specs.Unions.{items_of, united_behind}
use Rattle.plan_kinds.proofs.kinds.+kinds.Given as goal

abbrev pub invariant-union_kinds-loop-input : goal.invariant-union_kinds-loop-input
invariant-union_kinds-loop-input l =
    united_behind (items_of l.found) (map kinds (drop l.input-index l.inputs)) ≡ union_kinds (map kinds l.inputs)
