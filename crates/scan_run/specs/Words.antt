-- Words: what the steps of a run over a chain tell one another.
use Rattle.std.specs.Prelude.{ℕ, ◌≡◌, ◌≤◌, ◌%◌, ◌++◌, ◌∷◌, [], List, length, map, take, drop, Option, Some, None, Result, Ok, Err, All, ⊤}
use Rattle.csv_source.specs.CsvItems as csv
use Rattle.csv_source.specs.declared.refused.CsvRefused.{CsvRefused}
use Rattle.csv_source.specs.declared.refused.CsvRefused.TheVariants as scan
use Rattle.dfx_outside.specs.declared.files.FilesRefused.{FilesRefused}
use Rattle.dfx_outside.specs.declared.files.FilesRefused.TheVariants as opening
use Rattle.dfx_outside.specs.declared.source.OutsideRefused.{OutsideRefused}
use Rattle.dfx_outside.specs.declared.source.OutsideRefused.TheVariants as outside
use Rattle.dfx_value.specs.Checked.{◌>>=◌}
use Rattle.dfx_value.specs.declared.fault.EvalFault.{EvalFault}
use Rattle.dfx_value.specs.declared.fault.ItemFault.{ItemFault}
use Rattle.dfx_value.specs.declared.fault.ItemFault.TheVariants.{Evaluation}
use Rattle.dfx_value.specs.declared.value.Value.{Value}
use Rattle.column_batch.specs.Batches.{rows_from}
use Rattle.scan_run.specs.declared.front.Projected.{Projected}
use Rattle.logical_plan.specs.Items.{Cells, Item, of_rows, rows, faults, concat, as_item, projected_row}
use Rattle.logical_plan.specs.declared.plan.Logical.{Logical}
use Rattle.dfx_outside.specs.Contents.{Contents, content}
use Rattle.result_text.specs.AnswerText.{row_lines}
use Rattle.scalar_exprs.specs.declared.expr.Expr.{Expr}
use Rattle.scalar_exprs.specs.declared.refused.EvalRefused.{EvalRefused}
use Rattle.scalar_exprs.specs.declared.refused.EvalRefused.TheVariants as eval
use Rattle.scan_run.specs.Chains.{Scanned, over}
use Rattle.csv_source.specs.TableItems.{item_of, fault_of, files_from, missing, missing_from}
use Rattle.scan_run.specs.Written.{batch_rows, lines, WroteAll, WroteBefore}
use Rattle.scan_run.specs.declared.refused.RunRefused.{RunRefused}
use Rattle.scan_run.specs.declared.refused.RunRefused.TheVariants as refused

-- ---- refusals

-- what a refused scan of the file with this number means for the run
abbrev pub of_scan : ℕ → CsvRefused → RunRefused
of_scan file scan.Read = refused.Read
of_scan file scan.NoMemory = refused.NoMemory
of_scan file e = refused.Bad file e

-- what a refused evaluation means
abbrev pub of_eval : EvalRefused → RunRefused
of_eval (eval.Fault f) = refused.Evaluation f
of_eval eval.NoMemory = refused.NoMemory

-- what a refused write means
abbrev pub of_sink : OutsideRefused → RunRefused
of_sink outside.Failed = refused.Write
of_sink outside.NoMemory = refused.NoMemory

-- what a refused opening of the file with this number means
abbrev pub of_opening : ℕ → FilesRefused → RunRefused
of_opening file opening.Failed = refused.Read
of_opening file opening.NoSuchFile = refused.Missing file
of_opening file opening.NoMemory = refused.NoMemory

-- the fault of an item of this table that a refusal names
abbrev pub fault_named : ℕ → RunRefused → Option ItemFault
fault_named table (refused.Bad file e) = Some (fault_of table file e)
fault_named table (refused.Evaluation f) = Some (Evaluation f)
fault_named table _ = None

-- the refusal is of rows, and of no other file than the one with this number
abbrev pub IsOfRows : ℕ → RunRefused → Type 0
IsOfRows file (refused.Bad f e) = f ≡ file
IsOfRows file (refused.Missing f) = ⊥
IsOfRows file refused.Read = ⊤
IsOfRows file refused.Write = ⊤
IsOfRows file (refused.Evaluation f) = ⊤
IsOfRows file refused.NoMemory = ⊤

-- the refusal isn't of the opening of files
abbrev pub IsOfRun : RunRefused → Type 0
IsOfRun (refused.Missing f) = ⊥
IsOfRun e = ⊤

-- the refusal is of the opening of files
abbrev pub IsOfOpening : RunRefused → Type 0
IsOfOpening (refused.Missing f) = ⊤
IsOfOpening refused.Read = ⊤
IsOfOpening refused.NoMemory = ⊤
IsOfOpening (refused.Bad f e) = ⊥
IsOfOpening refused.Write = ⊥
IsOfOpening (refused.Evaluation f) = ⊥

-- ---- rows

-- the row that a chain gives for one row, if it gives one, or its fault
abbrev pub Passes : Result (Option Cells) EvalRefused → List Item → Type 0
Passes (Ok (Some row)) items = items ≡ Ok row ∷ []
Passes (Ok None) items = items ≡ []
Passes (Err (eval.Fault f)) items = items ≡ Err (Evaluation f) ∷ []
Passes (Err eval.NoMemory) items = ⊤

-- the values before those of a row
abbrev pub after : Cells → Result Cells EvalFault → Result Cells EvalFault
after front row = row >>= λ more. Ok (front ++ more)

-- the lines of what was given stand behind this text, or its first fault was met
abbrev pub Adds : {A : Type 0} → Result A EvalRefused → List Item → List ℕ → List ℕ → Type 0
Adds (Ok done) items text made = (faults items ≡ []) × (made ≡ text ++ row_lines (rows items))
Adds (Err (eval.Fault f)) items text made = (more : List ItemFault) × (faults items ≡ Evaluation f ∷ more)
Adds (Err eval.NoMemory) items text made = ⊤

-- ---- rows in columns

abbrev pub BeginsWith : List Value → List Value → Type 0
BeginsWith values front = take (length front) values ≡ front

-- a fault and what comes behind it, or nothing
abbrev pub fault_then : Option EvalFault → List Item → List Item
fault_then None rest = []
fault_then (Some f) rest = Err (Evaluation f) ∷ rest

-- the rows are the items up to the first fault, and this is that fault
pub record IsFrontOf (items : List Item) (front : List Cells) (fault : Option EvalFault) : Type 0 where
  pub rest : List Item
  pub is : items ≡ of_rows front ++ fault_then fault rest

-- the columns hold the values of the expressions on the first rows, so many, and this is the fault of the row behind them
pub record IsProjection (exprs : List Expr) (batch : List Cells) (made : Projected) : Type 0 where
  pub few : made.rows ≤ length batch
  pub long : All (λ c. made.rows ≤ length c.values) made.columns.items
  pub front : IsFrontOf (map (λ row. as_item (projected_row exprs row)) batch) (rows_from made.columns.items 0 made.rows) made.fault

-- ---- batches

-- so many rows were taken from a file's items, these items are left, and the lines of what the rows give, without a fault,
-- were put behind a text
pub record Taken (body : Logical) (items : List csv.Item) (text : List ℕ) (count : ℕ) (left : Option (List csv.Item)) (made : List ℕ) : Type 0 where
  pub rows : List Cells
  pub rest : List csv.Item
  pub is : items ≡ map Ok rows ++ rest
  pub many : length rows ≡ count
  pub left_is : left ≡ Some rest
  pub clean : faults (over body (of_rows rows)) ≡ []
  pub made_is : made ≡ text ++ lines body (of_rows rows)

-- all items were rows
pub record TakenAll (body : Logical) (items : List csv.Item) (text : List ℕ) (made : List ℕ) : Type 0 where
  pub rows : List Cells
  pub is : items ≡ map Ok rows
  pub clean : faults (over body (of_rows rows)) ≡ []
  pub made_is : made ≡ text ++ lines body (of_rows rows)

-- a batch of a file's next items meets a fault, its only one, at its end
pub record Meets (body : Logical) (items : List Item) (fault : ItemFault) : Type 0 where
  pub last : List Item
  pub left : List Item
  pub is : items ≡ last ++ left
  pub few : length last ≤ batch_rows
  pub met : faults (over body last) ≡ fault ∷ []

-- ---- files

-- whole batches of rows were taken from a file's items, these items are left, and the lines of what the rows give were written
pub record Writing (body : Logical) (items : List csv.Item) (before : List ℕ) (left : Option (List csv.Item)) (now : Option (List ℕ)) : Type 0 where
  pub rows : List Cells
  pub rest : List csv.Item
  pub is : items ≡ map Ok rows ++ rest
  pub left_is : left ≡ Some rest
  pub batches : length rows % batch_rows ≡ 0
  pub clean : faults (over body (of_rows rows)) ≡ []
  pub written : now ≡ Some (before ++ lines body (of_rows rows))

abbrev pub items_of_file : ℕ → ℕ → List csv.Item → List Item
items_of_file table file = map (item_of table file)

-- ---- opened files

-- the files tell these contents
abbrev pub Tell : List (Option (List ℕ)) → List (List ℕ) → Type 0
Tell told contents = told ≡ map Some contents

-- one more file was opened, which tells this content
abbrev pub Opens : {S : Type 0} → (S → Option (List ℕ)) → List S → List S → Option (List ℕ) → Type 0
Opens told before now None = ⊥
Opens told before now (Some bytes) = map told now ≡ map told before ++ Some bytes ∷ []

-- the files at so many first paths were opened, and tell their contents
pub record Opening (all : Contents) (paths : List (List ℕ)) (count : ℕ) (told : List (Option (List ℕ))) : Type 0 where
  pub contents : List (List ℕ)
  pub tell : Tell told contents
  pub found : map (content all) (take count paths) ≡ map Some contents
  pub next : missing_from all count (drop count paths) ≡ missing all paths

-- each path has a content, and the opened files tell these
pub record AreOpened (all : Contents) (paths : List (List ℕ)) (told : List (Option (List ℕ))) : Type 0 where
  pub contents : List (List ℕ)
  pub tell : Tell told contents
  pub found : map (content all) paths ≡ map Some contents
  pub there : missing all paths ≡ None

-- ---- all files

-- the items of files with these contents
abbrev pub items_of_all : Scanned → List (List ℕ) → List (List Item)
items_of_all s contents = files_from s.table s.kinds 0 (map Some contents)

-- so many files were written whole, without a fault, and those that are left tell these contents
pub record WritingFiles (body : Logical) (s : Scanned) (contents : List (List ℕ)) (before : List ℕ) (count : ℕ) (told : List (Option (List ℕ))) (now : Option (List ℕ)) : Type 0 where
  pub earlier : List (List Item)
  pub rest : List (List ℕ)
  pub tell : Tell told rest
  pub are : items_of_all s contents ≡ earlier ++ files_from s.table s.kinds count (map Some rest)
  pub number : length earlier ≡ count
  pub wrote : WroteAll body (concat earlier) before now

-- among the items of these files a fault is met in one that the refusal names, if it names one
pub record StopsIn (body : Logical) (files : List (List Item)) (before : List ℕ) (e : RunRefused) (fault : ItemFault) (now : Option (List ℕ)) : Type 0 where
  pub earlier : List (List Item)
  pub later : List (List Item)
  pub items : List Item
  pub are : files ≡ earlier ++ items ∷ later
  pub number : IsOfRows (length earlier) e
  pub wrote : WroteBefore body (concat earlier) items before fault now
