-- Meaning: plain plans: without exchanges, and with a limit and a sort at most at the top.
use Rattle.std.specs.Prelude.{◌≡◌, Bool, true, false, ◌&&◌, map}
use Rattle.physical_plan.specs.declared.plan.Plan.{Plan, out-Plan}
use Rattle.physical_plan.specs.declared.plan.Plan.TheOpen.{Plan-F}
use Rattle.physical_plan.specs.Everywhere.{Test, everywhere, all_true, kids}
use Rattle.planned_laws.specs.Finished.{no_limit}

-- no exchange
abbrev pub plain_node : Plan-F Plan → Bool
plain_node (Plan-F.Merge x keys) = false
plain_node (Plan-F.Coalesce x) = false
plain_node (Plan-F.Repartition x to) = false
plain_node _ = true

abbrev pub plain_child : Plan → Bool
plain_child p = plain_node (out-Plan p)

-- neither here nor right below
abbrev pub plain : Test
plain z = plain_node z && all_true (map plain_child (kids z))

-- no exchange anywhere
pub record IsPlain (p : Plan) : Type 0 where
  pub everywhere_plain : everywhere plain p ≡ true
  pub top_plain : plain_child p ≡ true

abbrev pub lone : Test
lone z = no_limit z && plain z

-- no exchange and no limit anywhere
pub record IsBody (p : Plan) : Type 0 where
  pub everywhere_lone : everywhere lone p ≡ true
  pub top_plain : plain_child p ≡ true
