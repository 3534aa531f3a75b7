-- Meaning: the cause of a refused CSV file.
use Rattle.std.specs.Prelude.{ℕ}
use Rattle.csv_source.specs.declared.refused.CsvRefused.{CsvRefused}
use Rattle.csv_source.specs.declared.refused.CsvRefused.TheVariants as csv
use Rattle.run_journal.specs.declared.cause.Cause.{Cause}
use Rattle.run_journal.specs.declared.cause.Cause.TheVariants as cause

-- of the file with this number, in the order of opening
abbrev pub cause_of : ℕ → CsvRefused → Cause
cause_of file (csv.Header fields) = cause.Csv file 1 0 0
cause_of file (csv.Fields row) = cause.Csv file 2 row 0
cause_of file (csv.NotUtf8 row) = cause.Csv file 3 row 0
cause_of file (csv.Value row column) = cause.Csv file 4 row column
cause_of file csv.Read = cause.Read
cause_of file csv.NoMemory = cause.NoMemory
