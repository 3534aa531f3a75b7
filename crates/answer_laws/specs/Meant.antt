-- Meaning: what a physical plan means, and which plans are told by their partitions.
use Rattle.std.specs.Prelude.{ℕ, ◌==◌, nat_lt, Bool, true, false, ◌&&◌, Option, Some, None, is_some, not, List, [], ◌∷◌, ◌++◌, length, map, slice_get, unwrap_or}
use Rattle.std.specs.List.{flat_map}
use Rattle.dfx_value.specs.KindedRows.{all_are}
use Rattle.dfx_value.specs.declared.kind.Kind.{Kind}
use Rattle.dfx_value.specs.declared.op.AggCall.{AggCall}
use Rattle.dfx_value.specs.declared.op.AggCall.TheVariants.{CountAll, Count, Sum, Min, Max, Avg}
use Rattle.physical_plan.specs.declared.plan.Plan.{Plan}
use Rattle.physical_plan.specs.declared.plan.Plan.TheOpen.{Plan-F}
use Rattle.physical_plan.specs.declared.plan.Plan.TheFolds.{fold-Plan, para-Plan}
use Rattle.physical_plan.specs.Numbers.{numbers}
use Rattle.logical_plan.specs.Items.{Cells, Item, rows, concat, filter_items, project_items}
use Rattle.logical_plan.specs.Joins.{joined}
use Rattle.logical_plan.specs.Groups.{aggregated}
use Rattle.logical_plan.specs.Body.{Tables, scan, item_kinds, key_kinds, call_kinds}
use Rattle.content_laws.specs.Bags.{SameBag, Alike}

-- groups between their two phases: the columns of their keys, their calls, and the kinds of the rows that are grouped
pub record Grouping : Type 0 where
  pub columns : List ℕ
  pub calls : List AggCall
  pub kinds : List Kind

-- what a plan means: its items and the kinds of their columns. Where it gives states of groups, these are the items
-- that are grouped
pub record Meaning : Type 0 where
  pub kinds : List Kind
  pub groups : Option Grouping
  pub items : List Item

abbrev pub meaning : List Kind → List Item → Meaning
meaning ks is = record { kinds = ks; groups = None; items = is }

abbrev pub grouping : List ℕ → List AggCall → Meaning → Grouping
grouping keys calls m = record { columns = keys; calls = calls; kinds = m.kinds }

-- the second phase
abbrev pub answered : Option Grouping → List Item → Meaning
answered None items = meaning [] []
answered (Some g) items =
    meaning (key_kinds g.kinds g.columns ++ call_kinds g.kinds g.calls) (aggregated g.columns g.calls g.kinds items)

abbrev pub first_kinds : List Meaning → List Kind
first_kinds [] = []
first_kinds (m ∷ ms) = m.kinds

-- exchanges, merges and sorts mean what their inputs mean, and a limit what it chooses from
abbrev pub meant_node : Tables → Plan-F Meaning → Meaning
meant_node tables (Plan-F.Scan table kinds files partitions) = meaning kinds (scan tables table)
meant_node tables (Plan-F.Filter input test) = meaning input.kinds (filter_items test input.items)
meant_node tables (Plan-F.Project input items) =
    meaning (item_kinds input.kinds items) (project_items items input.items)
meant_node tables (Plan-F.PartialGroup input keys calls) =
    record { kinds = input.kinds; groups = Some (grouping keys calls input); items = input.items }
meant_node tables (Plan-F.FinalGroup input keys calls) = answered input.groups input.items
meant_node tables (Plan-F.HashJoin kind left right keys rest) =
    meaning (left.kinds ++ right.kinds)
    (joined kind (length left.kinds) (length right.kinds) keys rest left.items right.items)
meant_node tables (Plan-F.Sort input keys) = input
meant_node tables (Plan-F.Merge input keys) = input
meant_node tables (Plan-F.Coalesce input) = input
meant_node tables (Plan-F.Repartition input to) = input
meant_node tables (Plan-F.UnionAll inputs) =
    meaning (first_kinds inputs) (concat (map (λ (m : Meaning). m.items) inputs))
meant_node tables (Plan-F.Limit input skip fetch) = input

unfoldable pub meaning_of : Tables → Plan → Meaning
meaning_of tables = fold-Plan Meaning (meant_node tables)

abbrev pub meant : Tables → Plan → List Item
meant tables plan = (meaning_of tables plan).items

-- ------------------------------------------------------------ partitions that tell it

-- the two phases of groups, of lists of items
pub record Phases : Type 0 where
  pub first : Grouping → List Item → List Item
  pub second : Grouping → List Item → List Item

-- the partitions together are the items that are meant; or they are first phases of segments that together are those
abbrev pub TellsBy : Phases → Option Grouping → List Item → List (List Item) → Type 0
TellsBy phases None items parts = Alike (concat parts) items
TellsBy phases (Some g) items parts =
    (segments : List (List Item)) × Alike (concat segments) items
    × SameBag (concat parts) (flat_map (phases.first g) segments)

abbrev pub Tells : Phases → Meaning → List (List Item) → Type 0
Tells phases m parts = TellsBy phases m.groups m.items parts

-- ------------------------------------------------------------ plans that can be told

abbrev pub files_of : Tables → ℕ → List (List Item)
files_of tables table = unwrap_or (slice_get tables table) []

-- no states of groups
abbrev pub is_whole : Meaning → Bool
is_whole m = not (is_some m.groups)

abbrev pub all_told : (Plan → Bool) → List (Plan × Bool) → Bool
all_told test [] = true
all_told test (p ∷ ps) = p.1 && (test p.0 && all_told test ps)

abbrev pub same_numbers : List ℕ → List ℕ → Bool
same_numbers [] [] = true
same_numbers (x ∷ xs) (y ∷ ys) = x == y && same_numbers xs ys
same_numbers _ _ = false

abbrev pub same_call : AggCall → AggCall → Bool
same_call CountAll CountAll = true
same_call (Count a) (Count b) = a == b
same_call (Sum a) (Sum b) = a == b
same_call (Min a) (Min b) = a == b
same_call (Max a) (Max b) = a == b
same_call (Avg a) (Avg b) = a == b
same_call _ _ = false

abbrev pub same_calls : List AggCall → List AggCall → Bool
same_calls [] [] = true
same_calls (x ∷ xs) (y ∷ ys) = same_call x y && same_calls xs ys
same_calls _ _ = false

-- a second phase goes by the first columns, with the calls of the first phase, and what is grouped is of its kinds
abbrev pub finishes : Option Grouping → List ℕ → List AggCall → List Cells → Bool
finishes None keys calls all = false
finishes (Some g) keys calls all =
    same_numbers keys (numbers (length g.columns)) && (same_calls calls g.calls && all_are g.kinds all)

-- scans of all files of a table, in some partitions; states of groups under second phases alone; no limit; and groups
-- and joins whose inputs are distributed as this test of nodes says
abbrev pub told_node : Tables → (Plan-F Plan → Bool) → Plan-F (Plan × Bool) → Bool
told_node tables spread (Plan-F.Scan table kinds files partitions) =
    nat_lt 0 partitions && (files == length (files_of tables table))
told_node tables spread (Plan-F.Filter input test) = input.1 && is_whole (meaning_of tables input.0)
told_node tables spread (Plan-F.Project input items) = input.1 && is_whole (meaning_of tables input.0)
told_node tables spread (Plan-F.PartialGroup input keys calls) = input.1 && is_whole (meaning_of tables input.0)
told_node tables spread (Plan-F.FinalGroup input keys calls) =
    input.1
    && (finishes (meaning_of tables input.0).groups keys calls (rows (meant tables input.0))
    && spread (Plan-F.FinalGroup input.0 keys calls))
told_node tables spread (Plan-F.HashJoin kind left right keys rest) =
    (left.1 && is_whole (meaning_of tables left.0))
    && ((right.1 && is_whole (meaning_of tables right.0)) && spread (Plan-F.HashJoin kind left.0 right.0 keys rest))
told_node tables spread (Plan-F.Sort input keys) = input.1
told_node tables spread (Plan-F.Merge input keys) = input.1
told_node tables spread (Plan-F.Coalesce input) = input.1
told_node tables spread (Plan-F.Repartition input to) = input.1
told_node tables spread (Plan-F.UnionAll inputs) = all_told (λ p. is_whole (meaning_of tables p)) inputs
told_node tables spread (Plan-F.Limit input skip fetch) = false

unfoldable pub is_told : Tables → (Plan-F Plan → Bool) → Plan → Bool
is_told tables spread = para-Plan Bool (told_node tables spread)
