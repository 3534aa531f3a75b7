use Rattle.std.proofs.Common.{◌≡◌, ◌≤◌, Some, length, map}
use Rattle.dfx_outside.specs.Contents.{Contents}
use Rattle.scan_run.specs.Words.{Opening}
use Rattle.scan_run.proofs.opened.open_all.Given as goal

-- the files before this one were opened
abbrev pub invariant-loop-file : goal.invariant-loop-file
invariant-loop-file g l = record {
  same : g.F.Files.told l.files ≡ g.F.Files.told l.fn.files;
  faults : g.F.Files.faults l.fn.files ≤ g.F.Files.faults l.files;
  absences : g.F.Files.absences l.fn.files ≤ g.F.Files.absences l.files;
  many : length l.opened.items ≡ l.file;
  opening : (all : Contents) → g.F.Files.told l.fn.files ≡ Some all → Opening all l.paths l.file (map g.F.One.Source.told l.opened.items);
}
