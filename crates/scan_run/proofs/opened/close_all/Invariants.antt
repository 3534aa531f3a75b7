use Rattle.std.proofs.Common.{◌≡◌, ◌≤◌, ◌+◌, length}
use Rattle.scan_run.proofs.opened.close_all.Given as goal

abbrev pub invariant-loop-at : goal.invariant-loop-at
invariant-loop-at g l = record {
  same : g.F.Files.told l.files ≡ g.F.Files.told l.fn.files;
  absences : g.F.Files.absences l.files ≡ g.F.Files.absences l.fn.files;
  faults : g.F.Files.faults l.fn.files ≤ g.F.Files.faults l.files;
  left : length l.opened.items + l._at ≡ l.count;
}
