-- Meaning: groups in two phases: rows of keys and states of segments, and what is made of such
-- rows.
use Rattle.std.specs.Prelude.{slice_get, Option, None, ℕ, ◌<◌, ◌≡◌, not, List, [], ◌∷◌, ◌++◌, length, map, filter, drop, Ok, Err}
use Rattle.std.specs.List.{list_any, AllPass}
use Rattle.dfx_value.specs.Checked.{◌>>=◌}
use Rattle.dfx_value.specs.declared.fault.ItemFault.{ItemFault}
use Rattle.dfx_value.specs.declared.kind.Kind.{Kind}
use Rattle.dfx_value.specs.declared.op.AggCall.{AggCall}
use Rattle.dfx_value.specs.declared.op.AggCall.TheVariants as call
use Rattle.dfx_value.specs.Rows.{cells_at}
use Rattle.scalar_exprs.specs.Functions.{Outcome}
use Rattle.scalar_exprs.specs.Agg.{argument}
use Rattle.scalar_exprs.specs.Kinds.{argument_kind}
use Rattle.scalar_exprs.specs.Groups.{same_keys, firsts}
use Rattle.logical_plan.specs.Groups.{alike}
use Rattle.logical_plan.specs.Items.{Cells, Item, rows, faults, of_rows, of_faults, all_values, as_item, concat}
use Rattle.physical_plan.specs.Numbers.{numbers}
use Rattle.phase_laws.specs.States.{state_of, all_merged, cells_of, read, finished}
use Rattle.physical_plan.specs.Properties.{state_width}
pub use Rattle.plan_kinds.specs.Phases.{state_kinds, states_kinds, phase_kinds}

-- something for each list of keys among rows, from it and from the rows that have it, in the order
-- of first rows
abbrev pub grouped : {R X : Type 0} → (R → Cells) → (Cells → List R → X) → List R → List X
grouped key answer all =
    map (λ r. answer (key r) (filter (λ s. same_keys (key r) (key s)) all))
    (firsts (λ r s. same_keys (key r) (key s)) all)

-- ---- the first phase

-- the state cells of each call over a group
abbrev pub states_of : List AggCall → List Kind → List Cells → Cells
states_of [] kinds group = []
states_of (c ∷ calls) kinds group =
    cells_of c (argument_kind c kinds) (state_of c (map (argument c) group)) ++ states_of calls kinds group

abbrev pub phase_row : List AggCall → List Kind → Cells → List Cells → Cells
phase_row calls kinds keys group = keys ++ states_of calls kinds group

-- of a segment: every fault, and for each list of keys a row of it and of the states
abbrev pub phase_rows : List ℕ → List AggCall → List Kind → List Cells → List Cells
phase_rows columns calls kinds = grouped (cells_at columns) (phase_row calls kinds)

abbrev pub phase : List ℕ → List AggCall → List Kind → List Item → List Item
phase columns calls kinds items =
    of_faults (faults items) ++ of_rows (phase_rows columns calls kinds (rows items))

-- ---- the second phase, which knows the kinds of those rows alone

-- the kind that a call's state columns tell of its argument: its scale, where the answer needs one
abbrev pub told_kind : AggCall → List Kind → Option Kind
told_kind (call.Sum c) kinds = slice_get kinds 1
told_kind (call.Avg c) kinds = slice_get kinds 1
told_kind _ kinds = None

-- the answers of the calls, from what is left of rows behind their keys, and the kinds of these
-- cells
abbrev pub answers : List AggCall → List Kind → List Cells → List Outcome
answers [] kinds group = []
answers (c ∷ calls) kinds group =
    finished c (told_kind c kinds) (all_merged c (map (read c) group))
    ∷ answers calls (drop (state_width c) kinds) (map (drop (state_width c)) group)

-- the item of a list of keys, from its rows of so many keys and then states
abbrev pub final_item : ℕ → List AggCall → List Kind → Cells → List Cells → Item
final_item n calls kinds keys group =
    as_item (all_values (answers calls (drop n kinds) (map (drop n) group)) >>= λ vs. Ok (keys ++ vs))

-- without keys: the first fault alone where there is one, else the one group of all rows, also of
-- none
abbrev pub one_final : List AggCall → List Kind → List Cells → List ItemFault → Item
one_final calls kinds all [] = final_item 0 calls kinds [] all
one_final calls kinds all (f ∷ fs) = Err f

-- of rows of keys at these columns, which come first, and of states: without keys one item; else
-- every fault, and an item for each list of keys
abbrev pub final : List ℕ → List AggCall → List Kind → List Item → List Item
final [] calls kinds items = one_final calls kinds (rows items) (faults items) ∷ []
final (column ∷ columns) calls kinds items =
    of_faults (faults items)
    ++ grouped (cells_at (column ∷ columns)) (final_item (length (column ∷ columns)) calls kinds) (rows items)

-- the second phase over rows of the first, of groups by these columns of rows of these kinds
abbrev pub second_phase : List ℕ → List AggCall → List Kind → List Item → List Item
second_phase columns calls kinds = final (numbers (length columns)) calls (phase_kinds columns calls kinds)

-- ---- partitions

-- no row among these has the keys of a row among those
abbrev pub IsApart : List ℕ → List Item → List Item → Type 0
IsApart keys xs ys = AllPass (λ r. not (list_any (alike keys r) (rows ys))) (rows xs)

-- rows with the same keys lie in one of n lists; without keys there is one list
abbrev pub AreApart : List ℕ → ℕ → (ℕ → List Item) → Type 0
AreApart [] n parts = n ≡ 1
AreApart (column ∷ columns) n parts =
    (i j : ℕ) → i < j → j < n → IsApart (column ∷ columns) (parts i) (parts j)

-- segments of an operator's input: those that flushes closed, and the rest
abbrev pub segments_of : List (List Cells) → List Item → List (List Item)
segments_of closed items = map of_rows closed ++ drop (length (concat closed)) items ∷ []
