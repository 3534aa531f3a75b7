-- Meaning: what a command wrote, by what was asked and how it ended. `all` are the contents of the
-- files, `before` and `now` what the sink had taken at the call and at its end.
use Rattle.std.specs.Prelude.{ℕ, ◌≡◌, ◌⊎◌, ◌++◌, List, Option, Some, None, Result, Ok, Err}
use Rattle.dfx_outside.specs.Bytes.{EndsInFront}
use Rattle.dfx_outside.specs.Contents.{Contents}
use Rattle.dfx_value.specs.declared.fault.ItemFault.TheVariants.{Evaluation}
use Rattle.csv_source.specs.declared.refused.CsvRefused.{CsvRefused}
use Rattle.run_journal.specs.declared.cause.Cause.{Cause}
use Rattle.plan_text.specs.PlanText.{plan_text}
use Rattle.dfx_prepare.specs.Preparing.{Path}
use Rattle.failure_text.specs.declared.failure.Failure.{Failure}
use Rattle.failure_text.specs.declared.failure.Failure.TheVariants as failure
use Rattle.dfx_prepare.specs.declared.prepared.Prepared.{Prepared}
use Rattle.scan_run.specs.Chains.{Scanned, scanned}
use Rattle.csv_source.specs.TableItems.{fault_of}
use Rattle.scan_run.specs.Outcomes.{Asked as Run, Answered, Stopped, Began}
use Rattle.dfx_top.specs.Requests.{Ready, asked, not_run, scan_paths, path_at}
use Rattle.dfx_top.specs.Causes.{cause_of}
use Rattle.dfx_top.specs.declared.words.Request.TheVariants as request

-- ---- queries

-- the run of a prepared query over its Scan
abbrev pub run_of : Contents → List ℕ → Prepared → Scanned → Run
run_of all before p s = record {
  query = p.query;
  scan = s;
  paths = scan_paths p;
  all = all;
  before = before;
}

-- what holds of that run
abbrev pub OfRun : Contents → List ℕ → Prepared → (Run → Type 0) → Type 0
OfRun all before p P = (s : Scanned) × ((scanned p.query.body ≡ Some s) × P (run_of all before p s))

-- a record of the file at this path is refused, for this cause
abbrev pub StoppedBy : Run → Path → Cause → Option (List ℕ) → Type 0
StoppedBy run path cause now =
    (file : ℕ) × ((e : CsvRefused) × ((path ≡ path_at run.paths file)
    × ((cause ≡ cause_of file e) × Stopped run file (fault_of run.scan.table file e) now)))

-- nothing was written; or the query is one that is run, and its answer was begun
abbrev pub Partly : Contents → List ℕ → Prepared → Option (List ℕ) → Type 0
Partly all before p now =
    (now ≡ Some before) ⊎ ((not_run all p ≡ None) × OfRun all before p (λ run. Began run now))

abbrev pub EndedQuery : Contents → List ℕ → Prepared → Option (List ℕ) → Option Failure → Type 0
EndedQuery all before p now None = OfRun all before p (λ run. Answered run now)
EndedQuery all before p now (Some (failure.BadFile path cause)) =
    OfRun all before p (λ run. StoppedBy run path cause now)
EndedQuery all before p now (Some (failure.Evaluation f)) =
    OfRun all before p (λ run. (file : ℕ) × Stopped run file (Evaluation f) now)
EndedQuery all before p now (Some failure.Read) = Partly all before p now
EndedQuery all before p now (Some failure.Write) = Partly all before p now
EndedQuery all before p now (Some failure.NoMemory) = Partly all before p now
EndedQuery all before p now (Some f) = now ≡ Some before

-- ---- plans

abbrev pub text_of : Prepared → List ℕ
text_of p = plan_text p.tables p.plan

-- The plan's text was written; or, where the sink failed or memory was wanting, a beginning of it,
-- which may be nothing. No other failure comes, but for a file that failed before.
abbrev pub EndedExplain : List ℕ → Prepared → Option (List ℕ) → Option Failure → Type 0
EndedExplain before p now None = now ≡ Some (before ++ text_of p)
EndedExplain before p now (Some failure.Write) = EndsInFront before (text_of p) now
EndedExplain before p now (Some failure.NoMemory) = EndsInFront before (text_of p) now
EndedExplain before p now (Some failure.Read) = now ≡ Some before
EndedExplain before p now (Some f) = ⊥

-- ---- commands

abbrev pub EndedRequest : Contents → List ℕ → Ready → Option (List ℕ) → Option Failure → Type 0
EndedRequest all before (request.Query, p) now f = EndedQuery all before p now f
EndedRequest all before (request.Explain n, p) now f = EndedExplain before p now f

-- where nothing is asked, nothing was written
abbrev pub EndedOf : Contents → List ℕ → Result Ready Failure
    → Option (List ℕ) → Option Failure → Type 0
EndedOf all before (Err refusal) now f = now ≡ Some before
EndedOf all before (Ok r) now f = EndedRequest all before r now f

abbrev pub Ended : List (List ℕ) → Contents → List ℕ → Option (List ℕ) → Option Failure → Type 0
Ended words all before now f = EndedOf all before (asked words all) now f
