-- Words: all that is said of a command where the files and the sink tell their bytes. `quiet` says
-- that no count of faults rose.
use Rattle.std.specs.Prelude.{ℕ, ◌≡◌, List, [], Option, Some, None, Result, Ok, Err}
use Rattle.dfx_outside.specs.Contents.{Contents}
use Rattle.dfx_outside.specs.Causes.{Rose}
use Rattle.logical_plan.specs.Body.{Tables, all_faults}
use Rattle.failure_text.specs.declared.failure.Failure.{Failure}
use Rattle.dfx_prepare.specs.declared.prepared.Prepared.{Prepared}
use Rattle.scan_run.specs.Chains.{Scanned, scanned}
use Rattle.scan_run.specs.Outcomes.{HasFiles}
use Rattle.dfx_top.specs.Answers.{EndedQuery, EndedOf, run_of}
use Rattle.dfx_top.specs.Requests.{Ready, scan_paths, not_run, by_asked}
use Rattle.dfx_top.specs.Outcomes.{IsCalledFor, IsMet, IsDone}
use Rattle.dfx_top.specs.declared.words.Request.TheVariants as request

-- neither of two counts rose
abbrev pub Quiet : ℕ → ℕ → ℕ → ℕ → Type 0
Quiet files files_now sink sink_now = (¬ (Rose files files_now)) × (¬ (Rose sink sink_now))

-- of a prepared query. `tables` are any that have the query's files as the table that it scans
pub record QueryEndsRight (all : Contents) (before : List ℕ) (p : Prepared) (now : Option (List ℕ))
    (quiet : Type 0) (f : Option Failure) : Type 0 where
  pub ended : EndedQuery all before p now f
  pub called : IsCalledFor (not_run all p) f
  pub met : (scan : Scanned) (tables : Tables) → scanned p.query.body ≡ Some scan
      → HasFiles (run_of all before p scan) tables
      → IsMet (scan_paths p) scan.table (all_faults tables p.query.body) f
  pub complete : (scan : Scanned) (tables : Tables) → scanned p.query.body ≡ Some scan
      → HasFiles (run_of all before p scan) tables
      → not_run all p ≡ None → all_faults tables p.query.body ≡ [] → quiet → IsDone f

-- of what is asked, or its refusal
pub record EndsRight (all : Contents) (before : List ℕ) (asked : Result Ready Failure)
    (now : Option (List ℕ)) (quiet : Type 0) (f : Option Failure) : Type 0 where
  pub ended : EndedOf all before asked now f
  pub called : IsCalledFor (by_asked all asked) f
  pub query : (p : Prepared) → asked ≡ Ok (request.Query, p) → QueryEndsRight all before p now quiet f
  pub explained : (n : ℕ) (p : Prepared) → asked ≡ Ok (request.Explain n, p) → quiet → IsDone f
