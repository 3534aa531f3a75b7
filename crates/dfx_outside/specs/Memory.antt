-- Meaning: the forms in memory as a caller sees them, and which of their calls fail.
use Rattle.std.specs.Prelude.{ℕ, ◌+◌, ◌-◌, ◌^◌, ◌==◌, min, Bool, List, [], ◌∷◌, nat_eq, if◌then◌else◌}
use Rattle.std.specs.List.{list_any}
use Rattle.std.specs.Cmp.Lexicographic.{pointwise}
use Rattle.dfx_outside.specs.Contents.{Contents}

-- how many calls were made, the numbers of those that fail, counted from 1, and how many have failed
pub record Calls : Type 0 where
  pub made : ℕ
  pub failing : List ℕ
  pub faults : ℕ

-- before the first call
abbrev pub none_made : List ℕ → Calls
none_made failing = record { made = 0; failing = failing; faults = 0 }

-- the number of the next call; all calls from number 2^32 - 1 on have that number
abbrev pub next : Calls → ℕ
next c = min (c.made + 1) (2 ^ 32 - 1)

abbrev pub fails : Calls → Bool
fails c = list_any (λ n. nat_eq n (next c)) c.failing

-- the count of faults after one more, which stops at its type's last value
abbrev pub one_more : ℕ → ℕ
one_more faults = min (faults + 1) (2 ^ 64 - 1)

-- after the next call
abbrev pub called : Calls → Calls
called c = record { made = next c; failing = c.failing; faults = if fails c then one_more c.faults else c.faults }

-- a source: its bytes, and its reads
pub record SourceInMemory : Type 0 where
  pub bytes : List ℕ
  pub reads : Calls

-- a sink: what it took, and its writes
pub record SinkInMemory : Type 0 where
  pub taken : List ℕ
  pub writes : Calls

-- files: their contents, pairs of a path and the number of a read that fails on each source of that path, and the counts
pub record FilesInMemory : Type 0 where
  pub files : Contents
  pub failing : List (List ℕ × ℕ)
  pub faults : ℕ
  pub absences : ℕ

-- the numbers of the reads that fail on a source of a path
abbrev pub reads_of : List (List ℕ × ℕ) → List ℕ → List ℕ
reads_of [] path = []
reads_of (f ∷ fs) path = if pointwise nat_eq f.0 path then f.1 ∷ reads_of fs path else reads_of fs path
