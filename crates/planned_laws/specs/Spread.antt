-- Meaning: a plan with the exchanges that its needs ask for, before its sorts are looked at.
use Rattle.std.specs.Prelude.{ℕ, ◌≡◌, true, false}
use Rattle.plan_props.specs.declared.properties.Distribution.TheVariants as need
use Rattle.physical_plan.specs.declared.plan.Plan.{Plan}
use Rattle.physical_plan.specs.declared.plan.Plan.TheOpen.{Plan-F}
use Rattle.physical_plan.specs.Properties.{partitions}
use Rattle.physical_plan.specs.Everywhere.{Test, everywhere, erased}
use Rattle.physical_plan.specs.Needs.{spread_needs}
use Rattle.planned_laws.specs.Finished.{have_parts, lean, serves, inputs_serve, on_scans, found, wanted}

-- no exchange that was there already
abbrev pub lean_exchanges : ℕ → Test
lean_exchanges n (Plan-F.Sort x keys) = true
lean_exchanges n z = lean n z

pub record IsSpread (plain : Plan) (n : ℕ) (p : Plan) : Type 0 where
  pub tree : erased p ≡ erased plain
  pub spread_met : everywhere (spread_needs n) p ≡ true
  pub root_single : partitions p ≡ 1
  pub parts : everywhere (have_parts n) p ≡ true
  pub lean_nodes : everywhere (lean_exchanges n) p ≡ true
  pub exchanges_serve : everywhere (inputs_serve n) p ≡ true
  pub root_served : serves p need.Single ≡ true
  pub robins : everywhere on_scans p ≡ true
  pub spread : found p false ≡ wanted n plain false
