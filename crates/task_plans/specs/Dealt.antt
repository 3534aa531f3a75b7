-- Words: the files of a scan's partition, by their numbers.
use Rattle.std.specs.Prelude.{ℕ, ◌+◌, ◌-◌, ◌%◌, ◌==◌, List, map}
use Rattle.std.specs.List.{filter}
use Rattle.physical_plan.specs.Numbers.{numbers, numbers_from}
use Rattle.task_plans.specs.declared.station.ScanFile.{ScanFile}

-- a file, from the source of the scan's first one
abbrev pub file_at : ℕ → ℕ → ScanFile
file_at source n = record { number = n; source = source + n }

-- those of partition i of n, from a number on
abbrev pub dealt_from : ℕ → ℕ → ℕ → ℕ → ℕ → List ScanFile
dealt_from source files n i at =
    map (file_at source) (filter (λ (x : ℕ). x % n == i) (numbers_from at (files - at)))

abbrev pub dealt : ℕ → ℕ → ℕ → ℕ → List ScanFile
dealt source files n i = map (file_at source) (filter (λ (x : ℕ). x % n == i) (numbers files))
