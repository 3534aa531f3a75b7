-- Meaning: runs over other batches: the same, with each batch changed by one map, in the histories too.
use Rattle.std.specs.Prelude.{map}
use Rattle.core_frame.specs.Step.{Need}
use Rattle.core_frame.specs.Carried.{map_frame, map_need}
use Rattle.history_laws.specs.Histories.{Reply, Go, Batch, Ended, Refused, Gone, Past, Run}

abbrev pub map_reply : {A B : Type 0} → (A → B) → Reply A → Reply B
map_reply m Go = Go
map_reply m (Batch b) = Batch (m b)
map_reply m Ended = Ended
map_reply m Refused = Refused
map_reply m (Gone last) = Gone last

-- a need with its reply
abbrev pub map_answered : {A B : Type 0} → (A → B) → Need A × Reply A → Need B × Reply B
map_answered m x = (map_need m x.0, map_reply m x.1)

abbrev pub map_past : {A B : Type 0} → (A → B) → Past A → Past B
map_past m h = map (map_answered m) h

abbrev pub map_run : {A B : Type 0} → (A → B) → Run A → Run B
map_run m r = record { frame = map_frame m r.frame; pasts = map (map_past m) r.pasts }
