-- Meaning: chains, which are bodies of Filters and Projects over one Scan, and what a chain gives over items of its Scan.
use Rattle.std.specs.Prelude.{ℕ, ◌≡◌, ◌^◌, ◌<◌, ◌&&◌, nat_lt, Bool, true, false, Option, Some, None, List, [], length, ⊤}
use Rattle.dfx_value.specs.Kinds.{are_kinds}
use Rattle.dfx_value.specs.declared.kind.Kind.{Kind}
use Rattle.logical_plan.specs.Items.{Item, filter_items, project_items}
use Rattle.logical_plan.specs.declared.plan.Logical.{Logical}
use Rattle.logical_plan.specs.declared.plan.Logical.TheOpen.{Logical-F}
use Rattle.logical_plan.specs.declared.plan.Logical.TheFolds.{fold-Logical}
use Rattle.scan_run.specs.declared.chain.ChainScan.{ChainScan as Held}

-- the number of a table, and the kinds of its columns
pub record Scanned : Type 0 where
  pub table : ℕ
  pub kinds : List Kind

abbrev pub node_scanned : Logical-F (Option Scanned) → Option Scanned
node_scanned (Logical-F.Scan table kinds) = Some (record { table = table; kinds = kinds })
node_scanned (Logical-F.Filter input test) = input
node_scanned (Logical-F.Project input items) = input
node_scanned _ = None

-- what the one Scan below the Filters and Projects reads; none where the body has any other node
unfoldable pub scanned : Logical → Option Scanned
scanned = fold-Logical (Option Scanned) node_scanned

abbrev pub is_there : {A : Type 0} → Option A → Bool
is_there None = false
is_there (Some x) = true

abbrev pub is_chain : Logical → Bool
is_chain q = is_there (scanned q)

-- the same as the code holds it
abbrev pub viewed : Held → Scanned
viewed s = record { table = s.table; kinds = s.kinds.now }

-- whether the kinds are kinds, and fewer than 2^32
abbrev pub has_sound_kinds : Option Scanned → Bool
has_sound_kinds None = true
has_sound_kinds (Some s) = nat_lt (length s.kinds) (2 ^ 32) && are_kinds s.kinds

-- so they are
abbrev pub AreSound : Option Scanned → Type 0
AreSound None = ⊤
AreSound (Some s) = (are_kinds s.kinds ≡ true) × (length s.kinds < 2 ^ 32)

abbrev pub node_over : List Item → Logical-F (List Item) → List Item
node_over items (Logical-F.Scan table kinds) = items
node_over items (Logical-F.Filter input test) = filter_items test input
node_over items (Logical-F.Project input exprs) = project_items exprs input
node_over items _ = []

-- what a chain gives where its Scan has these items
unfoldable pub over : Logical → List Item → List Item
over q items = fold-Logical (List Item) (node_over items) q
