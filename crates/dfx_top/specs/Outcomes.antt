-- Words: which failures a part of the command answers.
use Rattle.std.specs.Prelude.{⊤, ℕ, ◌≡◌, ◌⊎◌, true, List, [], Option, Some, None, Result, Ok, Err, Contains}
use Rattle.dfx_outside.specs.Bytes.{EndsInFront}
use Rattle.dfx_value.specs.declared.fault.ItemFault.{ItemFault}
use Rattle.dfx_value.specs.declared.fault.ItemFault.TheVariants.{Evaluation}
use Rattle.csv_source.specs.declared.refused.CsvRefused.{CsvRefused}
use Rattle.logical_plan.specs.declared.query.Query.{Query}
use Rattle.failure_text.specs.Failures.{status_of, failure_line}
use Rattle.dfx_prepare.specs.Preparing.{Path}
use Rattle.failure_text.specs.declared.failure.Failure.{Failure}
use Rattle.failure_text.specs.declared.failure.Failure.TheVariants as failure
use Rattle.scan_run.specs.Chains.{is_chain}
use Rattle.csv_source.specs.TableItems.{fault_of}
use Rattle.scan_run.specs.declared.refused.RunRefused.{RunRefused}
use Rattle.scan_run.specs.declared.refused.RunRefused.TheVariants as refused
use Rattle.dfx_top.specs.Requests.{path_at}
use Rattle.dfx_top.specs.Causes.{cause_of}

-- the parts of a query that is run
pub record IsBuilt (q : Query) : Type 0 where
  pub chain : is_chain q.body ≡ true
  pub unordered : q.order ≡ []
  pub uncut : (q.offset ≡ 0) × (q.limit ≡ None)

-- a file isn't there, failed, or there was no memory
abbrev pub IsOpening : Failure → Type 0
IsOpening (failure.Missing path) = ⊤
IsOpening failure.Read = ⊤
IsOpening failure.NoMemory = ⊤
IsOpening f = ⊥

-- a run refuses what is asked of it, or a file, or fails, or there was no memory
abbrev pub IsRunning : Failure → Type 0
IsRunning failure.NotBuilt = ⊤
IsRunning (failure.TooManySources sources) = ⊤
IsRunning (failure.Missing path) = ⊤
IsRunning (failure.BadFile path cause) = ⊤
IsRunning (failure.Evaluation f) = ⊤
IsRunning failure.Read = ⊤
IsRunning failure.Write = ⊤
IsRunning failure.NoMemory = ⊤
IsRunning f = ⊥

-- the sink failed, or there was no memory
abbrev pub IsWriting : Failure → Type 0
IsWriting failure.Write = ⊤
IsWriting failure.NoMemory = ⊤
IsWriting f = ⊥

-- the failure of a refused run over files at these paths, but for want of memory
abbrev pub FailureOf : List Path → RunRefused → Failure → Type 0
FailureOf paths (refused.Missing file) f =
    (f ≡ failure.Missing (path_at paths file)) ⊎ (f ≡ failure.NoMemory)
FailureOf paths (refused.Bad file e) f =
    (f ≡ failure.BadFile (path_at paths file) (cause_of file e)) ⊎ (f ≡ failure.NoMemory)
FailureOf paths (refused.Evaluation fault) f = f ≡ failure.Evaluation fault
FailureOf paths refused.Read f = f ≡ failure.Read
FailureOf paths refused.Write f = f ≡ failure.Write
FailureOf paths refused.NoMemory f = f ≡ failure.NoMemory

-- the failure is the refusal that is called for, none where none is, or an object failed, or there
-- was no memory; only where no refusal is called for may a file or a value be refused
abbrev pub IsCalledFor : Option Failure → Option Failure → Type 0
IsCalledFor refusal (Some failure.Read) = ⊤
IsCalledFor refusal (Some failure.Write) = ⊤
IsCalledFor refusal (Some failure.NoMemory) = ⊤
IsCalledFor refusal (Some (failure.BadFile path cause)) = refusal ≡ None
IsCalledFor refusal (Some (failure.Evaluation f)) = refusal ≡ None
IsCalledFor refusal f = f ≡ refusal

-- a refused record or value is among the faults that are met; the table's files are at these paths
abbrev pub IsMet : List Path → ℕ → List ItemFault → Option Failure → Type 0
IsMet paths table met (Some (failure.BadFile path cause)) =
    (file : ℕ) × ((e : CsvRefused) × ((path ≡ path_at paths file)
    × ((cause ≡ cause_of file e) × Contains met (fault_of table file e))))
IsMet paths table met (Some (failure.Evaluation f)) = Contains met (Evaluation f)
IsMet paths table met f = ⊤

-- the refusal of the script's text is answered, or its file failed, or there was no memory
abbrev pub IsTextRefused : Failure → Option Failure → Type 0
IsTextRefused refusal (Some failure.Read) = ⊤
IsTextRefused refusal (Some failure.NoMemory) = ⊤
IsTextRefused refusal f = f ≡ Some refusal

-- an answer, or want of memory
abbrev pub IsDone : Option Failure → Type 0
IsDone None = ⊤
IsDone (Some failure.NoMemory) = ⊤
IsDone (Some f) = ⊥

-- the failure of a result
abbrev pub of_result : {A : Type 0} → Result A Failure → Option Failure
of_result (Ok done) = None
of_result (Err f) = Some f

-- 0 where there is none
abbrev pub status_for : Option Failure → ℕ
status_for None = 0
status_for (Some f) = status_of f

-- what the error sink took: the failure's line or a beginning of it, and nothing where there is no
-- failure
abbrev pub IsLine : Option Failure → List ℕ → Option (List ℕ) → Type 0
IsLine None before now = now ≡ Some before
IsLine (Some f) before now = EndsInFront before (failure_line f) now
