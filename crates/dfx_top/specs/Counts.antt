-- Words: what a call leaves of the files and the sink that it uses, and which failures their counts
-- account for.
use Rattle.std.specs.Prelude.{ℕ, ◌≡◌, ◌≤◌, Option, Result, Err}
use Rattle.dfx_outside.specs.Causes.{Rose}
use Rattle.dfx_outside.specs.Contents.{Contents}
use Rattle.dfx_prepare.specs.Preparing.{Path}
use Rattle.failure_text.specs.declared.failure.Failure.{Failure}
use Rattle.failure_text.specs.declared.failure.Failure.TheVariants as failure

-- The files' contents stay, and no count falls: of the files' faults, of their absences, and of the
-- sink's faults. Read, Missing and Write come only where the count of each rose.
pub record HasCauses {A : Type 0} (told told_now : Option Contents)
    (faults faults_now absences absences_now sink sink_now : ℕ)
    (r : Result A Failure) : Type 0 where
  pub same : told_now ≡ told
  pub later : (faults ≤ faults_now) × ((absences ≤ absences_now) × (sink ≤ sink_now))
  pub read : r ≡ Err failure.Read → Rose faults faults_now
  pub missing : (p : Path) → r ≡ Err (failure.Missing p) → Rose absences absences_now
  pub write : r ≡ Err failure.Write → Rose sink sink_now
