-- Meaning: bodies of queries over tables of so many files, with rows of the scans' widths, and of their kinds where
-- an aggregate groups them.
use Rattle.std.specs.Prelude.{ℕ, ◌==◌, Bool, ◌&&◌, List, length, map, slice_index_or}
use Rattle.dfx_value.specs.KindedRows.{all_are}
use Rattle.physical_plan.specs.Everywhere.{all_true}
use Rattle.logical_plan.specs.declared.plan.Logical.{Logical}
use Rattle.logical_plan.specs.declared.plan.Logical.TheOpen.{Logical-F}
use Rattle.logical_plan.specs.declared.plan.Logical.TheFolds.{para-Logical}
use Rattle.logical_plan.specs.Items.{rows, concat}
use Rattle.logical_plan.specs.Body.{Tables, Part, meant_part}
use Rattle.answer_laws.specs.Meant.{files_of}
use Rattle.finished_laws.specs.Sound.{are_wide}

-- the rows are of their columns' kinds
abbrev pub is_kinded : Part → Bool
is_kinded p = all_are p.kinds (rows p.items)

-- scans of tables of so many files, whose rows have the scan's columns; and what an aggregate groups is of its kinds
abbrev pub known_node : Tables → List ℕ → Logical-F (Logical × Bool) → Bool
known_node tables files (Logical-F.Scan table kinds) =
    (slice_index_or files table 0 == length (files_of tables table))
    && are_wide (length kinds) (rows (concat (files_of tables table)))
known_node tables files (Logical-F.Filter input test) = input.1
known_node tables files (Logical-F.Project input items) = input.1
known_node tables files (Logical-F.Join kind left right keys rest) = left.1 && right.1
known_node tables files (Logical-F.Aggregate input keys calls) = input.1 && is_kinded (meant_part tables input.0)
known_node tables files (Logical-F.Distinct input) = input.1
known_node tables files (Logical-F.UnionAll inputs) = all_true (map (λ (q : Logical × Bool). q.1) inputs)

unfoldable pub is_known : Tables → List ℕ → Logical → Bool
is_known tables files = para-Logical Bool (known_node tables files)
