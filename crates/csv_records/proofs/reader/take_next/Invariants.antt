use Rattle.std.proofs.Common.{◌≡◌, ◌≤◌, ◌<◌, [], true, option_map}
use Rattle.csv.specs.Machine.{next_record, ends_at_end}
use Rattle.csv.specs.Reading.{default_config}
use Rattle.csv_records.specs.Places.{state_of}
use Rattle.csv_records.specs.Left.{bytes_left, count_left}
use Rattle.csv_records.proofs.reader.take_next.Given as goal

-- the record that was begun is the one at hand
abbrev pub invariant-bytes : goal.invariant-bytes
invariant-bytes g l = record {
  tracks : option_map (next_record default_config (state_of l.fn.start) [] []) (bytes_left (g.S.Source.told l.fn.source) l.fn.cursor.bytes l.fn.cursor.at)
      ≡ option_map (next_record default_config (state_of l.place) l.cursor.fields l.cursor.field) (bytes_left (g.S.Source.told l.fn.source) l.cursor.bytes l.cursor.at);
  told : g.S.Source.told l.source ≡ g.S.Source.told l.fn.source;
  size : g.S.Source.size l.source ≡ g.S.Source.size l.fn.source;
  later : g.S.Source.faults l.fn.source ≤ g.S.Source.faults l.source;
  most : count_left (g.S.Source.size l.fn.source) l.cursor.bytes l.cursor.at ≤ count_left (g.S.Source.size l.fn.source) l.fn.cursor.bytes l.fn.cursor.at;
  taken : ends_at_end (state_of l.place) ≡ true
      → count_left (g.S.Source.size l.fn.source) l.cursor.bytes l.cursor.at < count_left (g.S.Source.size l.fn.source) l.fn.cursor.bytes l.fn.cursor.at;
}

abbrev pub decreases-bytes : goal.decreases-bytes
decreases-bytes g l = count_left (g.S.Source.size l.fn.source) l.cursor.bytes l.cursor.at
