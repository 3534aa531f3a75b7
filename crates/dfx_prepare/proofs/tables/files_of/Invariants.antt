use Rattle.std.proofs.Common.{◌≡◌, ◌≤◌, Some, drop, length}
use Rattle.dfx_outside.specs.Contents.{Contents}
use Rattle.dfx_prepare.specs.Preparing as spec
use Rattle.dfx_prepare.proofs.TableSteps.{files_after}
use Rattle.dfx_prepare.proofs.tables.files_of.Given as goal

-- the files so far, and after them those of the rest
abbrev pub invariant-loop-table : goal.invariant-loop-table
invariant-loop-table g l = record {
  found : (all : Contents) → g.F.Files.told l.fn.files ≡ Some all →
      files_after all l.found.items (drop l.table-index l.tables) ≡ spec.files_of all l.tables;
  each : length l.found.items ≡ l.table-index;
  same : g.F.Files.told l.files ≡ g.F.Files.told l.fn.files;
  faults : g.F.Files.faults l.fn.files ≤ g.F.Files.faults l.files;
  absences : g.F.Files.absences l.fn.files ≤ g.F.Files.absences l.files;
}
