use Rattle.std.proofs.Common.{◌≡◌, take, map}
use Rattle.dfx_prepare.specs.Preparing as spec
use Rattle.dfx_prepare.proofs.declared.schemas_of.Given as goal

-- those so far
abbrev pub invariant-loop-table : goal.invariant-loop-table
invariant-loop-table l = l.schemas.items ≡ map spec.schema_of (take l.table-index l.tables)
