use Rattle.std.proofs.Common.{◌≡◌, take, map}
use Rattle.dfx_prepare.proofs.declared.are_arrow.Given as goal

-- those so far
abbrev pub invariant-loop-table : goal.invariant-loop-table
invariant-loop-table l = l.arrow.items ≡ map (λ t. t.arrow) (take l.table-index l.tables)
