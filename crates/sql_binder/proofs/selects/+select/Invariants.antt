use Rattle.std.proofs.Common.{◌≡◌, [], drop}
use Rattle.std.specs.Prelude.{map}
use Rattle.sql_binder.specs.Each.{each, each_after}
use Rattle.sql_binder.specs.Selects as spec
use Rattle.sql_binder.specs.Sources as sources
use Rattle.sql_binder.proofs.selects.+select.Given as goal

-- what is left answers as the whole
abbrev pub invariant-read_joins-loop-join : goal.invariant-read_joins-loop-join
invariant-read_joins-loop-join l = sources.all_joined l.source (map (spec.joining_of l.tables) (drop l.join-index l.joins)) ≡ sources.all_joined l.initial.source (map (spec.joining_of l.tables) l.joins)

-- those so far, and the rest
abbrev pub invariant-bind_all-loop-part : goal.invariant-bind_all-loop-part
invariant-bind_all-loop-part l = each_after spec.placed l.done.items (map (spec.select l.tables) (drop l.part-index l.parts)) ≡ each spec.placed (map (spec.select l.tables) l.parts)
