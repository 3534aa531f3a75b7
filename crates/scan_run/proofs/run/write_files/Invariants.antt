use Rattle.std.proofs.Common.{◌≡◌, ◌≤◌, ◌+◌, ℕ, List, Some, length, map}
use Rattle.scan_run.specs.Chains.{Scanned, scanned}
use Rattle.scan_run.specs.Words.{Tell, WritingFiles}
use Rattle.scan_run.proofs.run.write_files.Given as goal

-- the files before this one were written
abbrev pub invariant-loop-file : goal.invariant-loop-file
invariant-loop-file g l = record {
  same : g.F.Files.told l.files ≡ g.F.Files.told l.fn.files;
  absences : g.F.Files.absences l.files ≡ g.F.Files.absences l.fn.files;
  read : g.F.Files.faults l.fn.files ≤ g.F.Files.faults l.files;
  write : g.K.Sink.faults l.fn.sink ≤ g.K.Sink.faults l.sink;
  left : length l.opened.items + l.file ≡ l.count;
  writing : (s : Scanned) (contents : List (List ℕ)) (before : List ℕ) → scanned l.body ≡ Some s → Tell (map g.F.One.Source.told l.fn.opened.items) contents → g.K.Sink.told l.fn.sink ≡ Some before
      → WritingFiles l.body s contents before l.file (map g.F.One.Source.told l.opened.items) (g.K.Sink.told l.sink);
}
