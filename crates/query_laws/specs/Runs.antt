-- Meaning: runs of the query that a script is prepared to, over files that tell their bytes.
use Rattle.std.specs.Prelude.{ℕ, ◌<◌, ◌≡◌, Ok, List, [], ◌∷◌}
use Rattle.dfx_outside.specs.Contents.{Contents}
use Rattle.run_journal.specs.declared.entry.Entry.{Entry}
use Rattle.plan_props.specs.Meets.{Hashing, IsHash}
use Rattle.sql_grammar.specs.declared.ast.Script.{Script}
use Rattle.sql_grammar.specs.declared.ast.TableAst.{TableAst}
use Rattle.physical_plan.specs.declared.plan.Plan.TheOpen.{Plan-F}
use Rattle.physical_plan.specs.declared.plan.Plan.{Plan}
use Rattle.plan_shape.specs.Layout.{shape}
use Rattle.logical_plan.specs.Body.{Tables}
use Rattle.csv_source.specs.TableItems.{CsvTable, tables_from}
use Rattle.dfx_prepare.specs.Preparing.{Path, schema_of, script_of, prepared}
use Rattle.dfx_prepare.specs.declared.prepared.Prepared.{Prepared}
use Rattle.tree_laws.specs.Runs.{State}
use Rattle.tree_laws.specs.Settles.{Leads}
use Rattle.plan_task_laws.specs.Trees.{Doing}
use Rattle.plan_task_laws.specs.Starts.{start_of}
use Rattle.part_laws.specs.Made.{Amount}
use Rattle.part_laws.specs.Doing.{the_doing}
use Rattle.planner_laws.specs.Channels.{channel_by}

-- what a run is of: a text over files of these contents, for so many partitions; the script that it spells, and what that is
-- prepared to; a hash of keys, and what rows reserve; how many rows a batch has at most, and how many bytes there are
pub record Setting : Type 0 where
  pub text : List ℕ
  pub contents : Contents
  pub partitions : ℕ
  pub script : Script
  pub made : Prepared
  pub hash : Hashing
  pub amount : Plan-F Plan → Amount
  pub size : ℕ
  pub limit : ℕ

-- the tables that a script declares, over these files of each: their columns' kinds, and their files' paths
abbrev pub csv_tables : List TableAst → List (List Path) → List CsvTable
csv_tables (t ∷ ts) (paths ∷ more) = record { kinds = (schema_of t).kinds; paths = paths } ∷ csv_tables ts more
csv_tables _ _ = []

-- what they hold
abbrev pub tables_in : Setting → Tables
tables_in r = tables_from r.contents 0 (csv_tables r.script.tables r.made.paths)

-- the text spells the script, which is prepared so, for at least one partition; and equal keys have one hash
pub record IsSetting (r : Setting) : Type 0 where
  pub some : 0 < r.partitions
  pub spelled : script_of r.text ≡ Ok r.script
  pub ready : prepared r.text r.contents r.partitions ≡ Ok r.made
  pub same_hash : IsHash r.hash

-- what the plan's nodes do: their meanings, with rows sent by the hash
abbrev pub doing_in : Setting → Doing
doing_in r = the_doing (tables_in r) r.amount (channel_by r.hash)

-- these entries are legal from the start of the plan, and lead to this state
abbrev pub LeadsTo : Setting → List Entry → State → Type 0
LeadsTo r entries s = Leads (shape r.made.plan) r.size (start_of (doing_in r) r.made.plan r.limit) entries s
