use Rattle.std.proofs.Common.{◌≡◌, ◌++◌, map, drop}
use Rattle.script_cases.specs.Rows as spec
use Rattle.script_cases.proofs.compare.rows_of.Given as goal

-- the rows so far, and then those of what is left
abbrev pub invariant-loop-byte : goal.invariant-loop-byte
invariant-loop-byte l =
    map (λ row. row.items) l.rows.items ++ spec.rows_behind (drop l.byte-index l.text) l.is_quoted l.row.items
    ≡ spec.rows_of l.text
