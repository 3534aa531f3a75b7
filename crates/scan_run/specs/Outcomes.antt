-- Meaning: how the run of a query over a chain ends, and what it wrote.
use Rattle.std.specs.Prelude.{ℕ, ◌≡◌, ◌⊎◌, ◌++◌, ◌∷◌, List, length, Option, Some, None, Result, Ok, Err, ⊤, slice_get, Contains}
use Rattle.dfx_outside.specs.Contents.{Contents}
use Rattle.dfx_value.specs.declared.fault.ItemFault.{ItemFault}
use Rattle.dfx_value.specs.declared.fault.ItemFault.TheVariants.{Evaluation}
use Rattle.logical_plan.specs.Items.{Cells, Item, concat}
use Rattle.logical_plan.specs.Body.{Tables}
use Rattle.logical_plan.specs.Allowed.{Allowed}
use Rattle.logical_plan.specs.declared.query.Query.{Query}
use Rattle.result_text.specs.AnswerText.{header_line, answer_text}
use Rattle.scan_run.specs.Chains.{Scanned}
use Rattle.csv_source.specs.TableItems.{table_files, missing, fault_of}
use Rattle.scan_run.specs.Written.{WroteBefore, BeganOver}
use Rattle.scan_run.specs.declared.refused.RunRefused.{RunRefused}
use Rattle.scan_run.specs.declared.refused.RunRefused.TheVariants as refused

-- a query over a chain that scans this, the paths of the table's files, the contents of all files, and what the sink had taken
pub record Asked : Type 0 where
  pub query : Query
  pub scan : Scanned
  pub paths : List (List ℕ)
  pub all : Contents
  pub before : List ℕ

-- the items of each of the scan's files
abbrev pub files_of : Asked → List (List Item)
files_of a = table_files a.all a.scan.table a.scan.kinds a.paths

-- these tables have those files as the scan's table
abbrev pub HasFiles : Asked → Tables → Type 0
HasFiles a tables = slice_get tables a.scan.table ≡ Some (files_of a)

abbrev pub with_header : Asked → List ℕ
with_header a = a.before ++ header_line a.query.names

-- all files are there, and an answer that is allowed was written whole
pub record Answered (a : Asked) (now : Option (List ℕ)) : Type 0 where
  pub there : missing a.all a.paths ≡ None
  pub answer : List Cells
  pub allowed : (tables : Tables) → HasFiles a tables → Allowed a.query tables answer
  pub written : now ≡ Some (a.before ++ answer_text a.query.names answer)

-- all files are there, and the items of the one with this number meet a fault: the header and the lines of what the earlier
-- files and the file's whole batches before the fault give were written
pub record Stopped (a : Asked) (file : ℕ) (fault : ItemFault) (now : Option (List ℕ)) : Type 0 where
  pub there : missing a.all a.paths ≡ None
  pub earlier : List (List Item)
  pub later : List (List Item)
  pub items : List Item
  pub are : files_of a ≡ earlier ++ items ∷ later
  pub number : length earlier ≡ file
  pub wrote : WroteBefore a.query.body (concat earlier) items (with_header a) fault now

-- a beginning of the text of the names and of the rows that some first items give, without a fault, was written; none of it
-- unless all files are there
pub record Began (a : Asked) (now : Option (List ℕ)) : Type 0 where
  pub opened : (now ≡ Some a.before) ⊎ (missing a.all a.paths ≡ None)
  pub wrote : BeganOver a.query (concat (files_of a)) a.before now

-- how the run ended: the fault of a file or of an evaluation is the first that the body meets
abbrev pub Ran : {A : Type 0} → Asked → Option (List ℕ) → Result A RunRefused → Type 0
Ran a now (Ok done) = Answered a now
Ran a now (Err (refused.Missing file)) = (missing a.all a.paths ≡ Some file) × (now ≡ Some a.before)
Ran a now (Err (refused.Bad file e)) = Stopped a file (fault_of a.scan.table file e) now
Ran a now (Err (refused.Evaluation f)) = (file : ℕ) × Stopped a file (Evaluation f) now
Ran a now (Err refused.Read) = Began a now
Ran a now (Err refused.Write) = Began a now
Ran a now (Err refused.NoMemory) = Began a now

-- where the refusal names a fault of an item of this table, it is among these
abbrev pub IsMet : {A : Type 0} → ℕ → List ItemFault → Result A RunRefused → Type 0
IsMet table met (Err (refused.Bad file e)) = Contains met (fault_of table file e)
IsMet table met (Err (refused.Evaluation f)) = Contains met (Evaluation f)
IsMet table met result = ⊤

-- the answer, or want of memory
abbrev pub IsOkOrMemory : {A : Type 0} → Result A RunRefused → Type 0
IsOkOrMemory (Ok done) = ⊤
IsOkOrMemory (Err refused.NoMemory) = ⊤
IsOkOrMemory (Err e) = ⊥
