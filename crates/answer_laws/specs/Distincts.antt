-- Meaning: bodies in which DISTINCT is over rows of its kinds, with at least one column.
use Rattle.std.specs.Prelude.{Bool, true, ◌&&◌, nat_lt, length, map}
use Rattle.dfx_value.specs.KindedRows.{all_are}
use Rattle.physical_plan.specs.Everywhere.{all_true}
use Rattle.logical_plan.specs.declared.plan.Logical.{Logical}
use Rattle.logical_plan.specs.declared.plan.Logical.TheOpen.{Logical-F}
use Rattle.logical_plan.specs.declared.plan.Logical.TheFolds.{para-Logical}
use Rattle.logical_plan.specs.Items.{rows}
use Rattle.logical_plan.specs.Body.{Tables, meant_part}

abbrev pub distinct_node : Tables → Logical-F (Logical × Bool) → Bool
distinct_node tables (Logical-F.Scan table kinds) = true
distinct_node tables (Logical-F.Filter input test) = input.1
distinct_node tables (Logical-F.Project input items) = input.1
distinct_node tables (Logical-F.Join kind left right keys rest) = left.1 && right.1
distinct_node tables (Logical-F.Aggregate input keys calls) = input.1
distinct_node tables (Logical-F.Distinct input) =
    input.1
    && (nat_lt 0 (length (meant_part tables input.0).kinds)
    && all_are (meant_part tables input.0).kinds (rows (meant_part tables input.0).items))
distinct_node tables (Logical-F.UnionAll inputs) = all_true (map (λ (q : Logical × Bool). q.1) inputs)

unfoldable pub has_distincts : Tables → Logical → Bool
has_distincts tables = para-Logical Bool (distinct_node tables)
