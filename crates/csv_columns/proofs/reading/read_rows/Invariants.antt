use Rattle.std.proofs.Common.{◌≡◌, ◌≤◌, ◌<◌, ◌+◌, ◌^◌, option_map}
use Rattle.csv_records.specs.Left.{most_left}
use Rattle.column_batch.specs.Batches.{kinds_of, rows_from}
use Rattle.csv_source.specs.Scans.{rows_then}
use Rattle.csv_columns.specs.Filled.{Even}
use Rattle.csv_columns.specs.Left.{items_left}
use Rattle.csv_columns.proofs.reading.read_rows.Given as goal

-- the rows so far, and the items that are left
abbrev pub invariant-loop-at : goal.invariant-loop-at
invariant-loop-at g l = record {
  kinds : kinds_of l.columns.items ≡ l.kinds;
  even : Even l.at l.columns.items;
  counts : l.reading.number + most_left (g.S.Source.size l.fn.source) l.reading.reader < 2 ^ 64;
  falls : l.at + most_left (g.S.Source.size l.fn.source) l.reading.reader ≤ most_left (g.S.Source.size l.fn.source) l.fn.reading.reader;
  told : g.S.Source.told l.source ≡ g.S.Source.told l.fn.source;
  size : g.S.Source.size l.source ≡ g.S.Source.size l.fn.source;
  later : g.S.Source.faults l.fn.source ≤ g.S.Source.faults l.source;
  whole : option_map (rows_then (rows_from l.columns.items 0 l.at)) (items_left (g.S.Source.told l.fn.source) l.kinds l.reading.number l.reading.reader)
      ≡ items_left (g.S.Source.told l.fn.source) l.kinds l.fn.reading.number l.fn.reading.reader;
}
