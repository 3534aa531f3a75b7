-- Meaning: how far the lines of what a chain gives were written. `before` is what the sink had taken, `now` what it has.
use Rattle.std.specs.Prelude.{ℕ, ◌≡◌, ◌≤◌, ◌%◌, ◌++◌, ◌∷◌, [], List, length, Option, Some}
use Rattle.dfx_outside.specs.Bytes.{EndsInFront}
use Rattle.dfx_value.specs.declared.fault.ItemFault.{ItemFault}
use Rattle.logical_plan.specs.Items.{Item, rows, faults}
use Rattle.logical_plan.specs.declared.plan.Logical.{Logical}
use Rattle.logical_plan.specs.declared.query.Query.{Query}
use Rattle.result_text.specs.AnswerText.{row_lines, answer_text}
use Rattle.scan_run.specs.Chains.{over}

-- the rows of a batch: 8,192
abbrev pub batch_rows : ℕ
batch_rows = 8192

-- the lines of the rows that a chain gives over these items
abbrev pub lines : Logical → List Item → List ℕ
lines body items = row_lines (rows (over body items))

-- the items give no fault, and the lines of all that they give were written
pub record WroteAll (body : Logical) (items : List Item) (before : List ℕ) (now : Option (List ℕ)) : Type 0 where
  pub clean : faults (over body items) ≡ []
  pub written : now ≡ Some (before ++ lines body items)

-- a fault is met among a file's items, which come after earlier ones: the lines of the earlier items and of the file's whole
-- batches before the fault were written. `last` is the batch up to the fault
pub record WroteBefore (body : Logical) (earlier items : List Item) (before : List ℕ) (fault : ItemFault) (now : Option (List ℕ)) : Type 0 where
  pub whole : List Item
  pub last : List Item
  pub left : List Item
  pub is : items ≡ whole ++ last ++ left
  pub batches : length whole % batch_rows ≡ 0
  pub few : length last ≤ batch_rows
  pub clean : faults (over body (earlier ++ whole)) ≡ []
  pub met : faults (over body last) ≡ fault ∷ []
  pub written : now ≡ Some (before ++ lines body (earlier ++ whole))

-- a beginning of the lines of what some first items give, which is no fault, was written
pub record WrotePart (body : Logical) (items : List Item) (before : List ℕ) (now : Option (List ℕ)) : Type 0 where
  pub first : List Item
  pub rest : List Item
  pub is : items ≡ first ++ rest
  pub clean : faults (over body first) ≡ []
  pub written : EndsInFront before (lines body first) now

-- a beginning of the text of a query's names and of the rows that some first items give, without a fault, was written
pub record BeganOver (q : Query) (items : List Item) (before : List ℕ) (now : Option (List ℕ)) : Type 0 where
  pub first : List Item
  pub rest : List Item
  pub is : items ≡ first ++ rest
  pub clean : faults (over q.body first) ≡ []
  pub written : EndsInFront before (answer_text q.names (rows (over q.body first))) now
