use Rattle.std.proofs.Common.{◌≡◌, drop}
use Rattle.sql_binder.specs.Firsts as spec
use Rattle.sql_binder.proofs.scope.first_keys.Given as goal

-- those of the keys that are done
abbrev pub invariant-loop-at : goal.invariant-loop-at
invariant-loop-at l = l.firsts.items ≡ spec.firsts_from l.columns l.at (drop l.at l.keys)
