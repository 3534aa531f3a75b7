use Rattle.std.proofs.Common.{◌≡◌, take, map}
use Rattle.dfx_prepare.proofs.declared.table_names.Given as goal

-- those so far
abbrev pub invariant-loop-table : goal.invariant-loop-table
invariant-loop-table l = l.names.items ≡ map (λ t. t.name) (take l.table-index l.tables)
