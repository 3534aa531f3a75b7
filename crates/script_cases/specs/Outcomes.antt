-- Meaning: which records passed, and when a record does.
use Rattle.std.specs.Prelude.{◌≡◌, ℕ, List, Bool, true, false}
use Rattle.script_cases.specs.Rows.{rows_of, SameRows}
use Rattle.script_cases.specs.declared.report.Outcome.{Outcome}
use Rattle.script_cases.specs.declared.report.Outcome.TheVariants as went
use Rattle.script_cases.specs.declared.record.Step.{Step}
use Rattle.script_cases.specs.declared.record.Says.{Says}
use Rattle.script_cases.specs.declared.record.Says.TheVariants as says
use Rattle.script_cases.specs.declared.record.Expected.{Expected}
use Rattle.script_cases.specs.declared.record.Output.{Output}
use Rattle.script_cases.specs.declared.record.Output.TheVariants as wanted

abbrev pub is_passed : Outcome → Bool
is_passed went.Passed = true
is_passed went.Failed = false

-- records count, and so does what is none
abbrev pub counts : Says → Bool
counts (says.Common common) = false
counts (says.Record one) = true
counts (says.Refused one) = true

abbrev pub is_counted : Step → Bool
is_counted step = counts step.says

-- just these bytes, or the same rows
abbrev pub MeetsOutput : Output → List ℕ → Type 0
MeetsOutput (wanted.Exactly bytes) output = bytes.items ≡ output
MeetsOutput (wanted.InAnyOrder bytes) output = SameRows (rows_of bytes.items) (rows_of output)

-- the status, standard output and standard error are what they must be
pub record Meets (expected : Expected) (status : ℕ) (output error : List ℕ) : Type 0 where
  pub status_is : expected.status ≡ status
  pub error_is : expected.error.items ≡ error
  pub output_is : MeetsOutput expected.output output
