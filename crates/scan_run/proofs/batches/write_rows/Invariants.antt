use Rattle.std.proofs.Common.{◌≡◌, ◌≤◌, ◌+◌, ℕ, List, Some, true, false, cond}
use Rattle.csv_source.specs.CsvItems as csv
use Rattle.scan_run.specs.Written.{WroteAll}
use Rattle.scan_run.specs.Words.{Writing, items_of_file}
use Rattle.scan_run.proofs.batches.write_rows.Given as goal

-- the lines of the rows so far were written; where no more may be left, all were
abbrev pub invariant-loop-more : goal.invariant-loop-more
invariant-loop-more g l = record {
  going : l.scan.refused ≡ false;
  read : g.S.Source.faults l.fn.scan.source ≤ g.S.Source.faults l.scan.source;
  write : g.K.Sink.faults l.fn.sink ≤ g.K.Sink.faults l.sink;
  more : l.more ≡ true → (items : List csv.Item) (before : List ℕ) → l.fn.scan.left ≡ Some items → g.K.Sink.told l.fn.sink ≡ Some before → Writing l.body items before l.scan.left (g.K.Sink.told l.sink);
  last : l.more ≡ false → (items : List csv.Item) (before : List ℕ) (table : ℕ) → l.fn.scan.left ≡ Some items → g.K.Sink.told l.fn.sink ≡ Some before → WroteAll l.body (items_of_file table l.file items) before (g.K.Sink.told l.sink);
}

abbrev pub decreases-loop-more : goal.decreases-loop-more
decreases-loop-more g l = cond l.more (l.scan.most + 1) 0
