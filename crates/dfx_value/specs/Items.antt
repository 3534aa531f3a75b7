-- Meaning: items, which are rows or faults.
use Rattle.std.specs.Prelude.{List, [], ◌∷◌, ◌++◌, map, Result, Ok, Err}
use Rattle.dfx_value.specs.declared.fault.ItemFault.{ItemFault}
use Rattle.dfx_value.specs.declared.value.Value.{Value}

abbrev pub Cells : Type 0
Cells = List Value

-- a row or a fault
abbrev pub Item : Type 0
Item = Result Cells ItemFault

abbrev pub concat : {A : Type 0} → List (List A) → List A
concat [] = []
concat (xs ∷ more) = xs ++ concat more

-- the rows among the items, and the faults
abbrev pub rows : List Item → List Cells
rows [] = []
rows (Ok row ∷ items) = row ∷ rows items
rows (Err f ∷ items) = rows items

abbrev pub faults : List Item → List ItemFault
faults [] = []
faults (Ok row ∷ items) = faults items
faults (Err f ∷ items) = f ∷ faults items

abbrev pub of_rows : List Cells → List Item
of_rows = map (λ row. Ok row)

abbrev pub of_faults : List ItemFault → List Item
of_faults = map (λ f. Err f)
