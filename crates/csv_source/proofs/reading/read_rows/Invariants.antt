use Rattle.std.proofs.Common.{◌≡◌, ◌≤◌, length, option_map}
use Rattle.csv_source.specs.Records.{IsSet, records_left}
use Rattle.csv_source.specs.Scans.{Counts, items_left, rows_then}
use Rattle.csv_source.proofs.reading.read_rows.Given as goal

-- the rows so far, and the items that are left
abbrev pub invariant-loop-at : goal.invariant-loop-at
invariant-loop-at g l = record {
  kinds : l.builder.kinds ≡ l.kinds;
  count : length l.builder.rows ≡ l._at;
  set : IsSet l.reading.reader;
  counts : Counts (records_left g.R.Read.remaining l.reading.reader) l.reading.number;
  whole : option_map (rows_then l.builder.rows) (items_left g.R.Read.remaining l.kinds l.reading.number l.reading.reader)
      ≡ items_left g.R.Read.remaining l.kinds l.fn.reading.number l.fn.reading.reader;
}
