-- Meaning: bodies of queries of which every node gives rows of its kinds.
use Rattle.std.specs.Prelude.{Bool, true, ◌&&◌, List, [], ◌∷◌}
use Rattle.dfx_value.specs.KindedRows.{all_are}
use Rattle.logical_plan.specs.declared.plan.Logical.{Logical}
use Rattle.logical_plan.specs.declared.plan.Logical.TheOpen.{Logical-F}
use Rattle.logical_plan.specs.declared.plan.Logical.TheFolds.{para-Logical}
use Rattle.logical_plan.specs.Items.{rows}
use Rattle.logical_plan.specs.Body.{Tables, body, kinds}

-- its rows are of its kinds
abbrev pub gives_kinds : Tables → Logical → Bool
gives_kinds tables q = all_are (kinds q) (rows (body tables q))

-- each of these does, and what is below it
abbrev pub all_give : Tables → List (Logical × Bool) → Bool
all_give tables [] = true
all_give tables (q ∷ qs) = gives_kinds tables q.0 && (q.1 && all_give tables qs)

abbrev pub below_node : Tables → Logical-F (Logical × Bool) → Bool
below_node tables (Logical-F.Scan table ks) = true
below_node tables (Logical-F.Filter input test) = all_give tables (input ∷ [])
below_node tables (Logical-F.Project input items) = all_give tables (input ∷ [])
below_node tables (Logical-F.Join kind left right keys rest) = all_give tables (left ∷ right ∷ [])
below_node tables (Logical-F.Aggregate input keys calls) = all_give tables (input ∷ [])
below_node tables (Logical-F.Distinct input) = all_give tables (input ∷ [])
below_node tables (Logical-F.UnionAll inputs) = all_give tables inputs

-- every node below does
unfoldable pub all_below_give : Tables → Logical → Bool
all_below_give tables = para-Logical Bool (below_node tables)

-- every node does
abbrev pub everywhere_kinded : Tables → Logical → Bool
everywhere_kinded tables q = gives_kinds tables q && all_below_give tables q
