-- Meaning: items that wait to be given.
use Rattle.std.specs.Prelude.{List, [], ◌∷◌, ◌++◌, Option, Some, None, Ok, Err}
use Rattle.dfx_value.specs.Items.{Item, of_rows, Cells}
use Rattle.dfx_value.specs.KindedRows.{KindedRows}
use Rattle.dfx_value.specs.declared.fault.EvalFault.{EvalFault}
use Rattle.dfx_value.specs.declared.fault.ItemFault.TheVariants.{Evaluation}
use Rattle.dfx_value.specs.declared.kind.Kind.{Kind}

-- the items, and the kinds of their rows
pub record Waiting : Type 0 where
  pub kinds : List Kind
  pub items : List Item

-- the items up to the first fault
abbrev pub as_far : List Item → List Item
as_far [] = []
as_far (Ok row ∷ items) = Ok row ∷ as_far items
as_far (Err f ∷ items) = Err f ∷ []

-- the fault as an item, where there is one
abbrev pub faulted : Option EvalFault → List Item
faulted None = []
faulted (Some f) = Err (Evaluation f) ∷ []

-- the rows of batches, one behind the other
abbrev pub all_rows : List KindedRows → List Cells
all_rows [] = []
all_rows (b ∷ bs) = b.rows ++ all_rows bs

-- the rows of a batch, where there is one
abbrev pub given_rows : Option KindedRows → List Cells
given_rows None = []
given_rows (Some b) = b.rows
