-- Meaning: bodies of which each Scan has kinds that are kinds, at most 256 of them.
use Rattle.std.specs.Prelude.{Bool, ◌&&◌, nat_le, List, length}
use Rattle.dfx_value.specs.Kinds.{are_kinds}
use Rattle.dfx_value.specs.declared.kind.Kind.{Kind}
use Rattle.logical_plan.specs.declared.plan.Logical.{Logical}
use Rattle.logical_plan.specs.declared.plan.Logical.TheOpen.{Logical-F}
use Rattle.logical_plan.specs.declared.plan.Logical.TheFolds.{fold-Logical}
use Rattle.binder_kind_laws.specs.Scripts.{all_have}

-- a list of a script has at most 256 items, so a table has at most 256 columns
abbrev pub are_few : List Kind → Bool
are_few ks = nat_le (length ks) 256

abbrev pub are_sound : List Kind → Bool
are_sound ks = are_kinds ks && are_few ks

abbrev pub node_sound : Logical-F Bool → Bool
node_sound (Logical-F.Scan table ks) = are_sound ks
node_sound (Logical-F.Filter input test) = input
node_sound (Logical-F.Project input items) = input
node_sound (Logical-F.Join kind left right keys rest) = left && right
node_sound (Logical-F.Aggregate input keys calls) = input
node_sound (Logical-F.Distinct input) = input
node_sound (Logical-F.UnionAll inputs) = all_have inputs

-- so are those of each Scan of a body
unfoldable pub has_sound_scans : Logical → Bool
has_sound_scans = fold-Logical Bool node_sound
