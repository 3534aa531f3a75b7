use Rattle.std.proofs.Common.{◌≡◌, drop}
use Rattle.sql_grammar.specs.Class as spec
use Rattle.sql_grammar.proofs.class.among.Given as goal

abbrev pub invariant-loop-one : goal.invariant-loop-one
invariant-loop-one l = spec.among l.class (drop l.one-index l.classes) ≡ spec.among l.class l.classes
