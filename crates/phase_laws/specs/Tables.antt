-- Words: tables of states by keys, which take one row after the other.
use Rattle.std.specs.Prelude.{List, [], ◌∷◌, ◌++◌, ℕ, fold, drop, Ok}
use Rattle.dfx_value.specs.Checked.{◌>>=◌}
use Rattle.dfx_value.specs.declared.kind.Kind.{Kind}
use Rattle.dfx_value.specs.declared.op.AggCall.{AggCall}
use Rattle.scalar_exprs.specs.Agg.{argument}
use Rattle.scalar_exprs.specs.Functions.{Outcome}
use Rattle.scalar_exprs.specs.Kinds.{argument_kind}
use Rattle.logical_plan.specs.Items.{Cells, Item, all_values, as_item}
use Rattle.key_laws.specs.Entries.{upsert}
use Rattle.phase_laws.specs.States.{State, state_of, merged, read, cells_of, finished}
use Rattle.physical_plan.specs.Properties.{state_width}
use Rattle.phase_laws.specs.Phases.{told_kind}

-- a table with one row more
abbrev pub table_step : {R S : Type 0} → (R → Cells) → S → (S → R → S) → List (Cells × S) → R → List (Cells × S)
table_step key start add t r = upsert t (key r) start (λ s. add s r)

-- by the keys of rows, from a start, with what each row adds
abbrev pub table : {R S : Type 0} → (R → Cells) → S → (S → R → S) → List R → List (Cells × S)
table key start add = fold (table_step key start add) []

-- the states of no rows
abbrev pub starts : List AggCall → List State
starts [] = []
starts (c ∷ calls) = state_of c [] ∷ starts calls

-- ---- the first phase: states with one row more, and their cells

abbrev pub with_row : List AggCall → List State → Cells → List State
with_row (c ∷ calls) (s ∷ ss) row = merged c s (state_of c (argument c row ∷ [])) ∷ with_row calls ss row
with_row _ _ row = []

abbrev pub all_cells : List AggCall → List Kind → List State → Cells
all_cells (c ∷ calls) kinds (s ∷ ss) = cells_of c (argument_kind c kinds) s ++ all_cells calls kinds ss
all_cells _ kinds _ = []

-- a row of the first phase: the keys, then the cells of all states
abbrev pub state_row : List AggCall → List Kind → Cells × List State → Cells
state_row calls kinds e = e.0 ++ all_cells calls kinds e.1

-- ---- the second phase: states with the states of a row more, and their answers

abbrev pub with_cells : List AggCall → List State → Cells → List State
with_cells (c ∷ calls) (s ∷ ss) left =
    merged c s (read c left) ∷ with_cells calls ss (drop (state_width c) left)
with_cells _ _ left = []

-- behind so many keys
abbrev pub with_cells_behind : ℕ → List AggCall → List State → Cells → List State
with_cells_behind n calls ss row = with_cells calls ss (drop n row)

abbrev pub all_finished : List AggCall → List Kind → List State → List Outcome
all_finished (c ∷ calls) kinds (s ∷ ss) =
    finished c (told_kind c kinds) s ∷ all_finished calls (drop (state_width c) kinds) ss
all_finished _ kinds _ = []

abbrev pub finished_item : ℕ → List AggCall → List Kind → Cells × List State → Item
finished_item n calls kinds e =
    as_item (all_values (all_finished calls (drop n kinds) e.1) >>= λ vs. Ok (e.0 ++ vs))
