-- A plain plan with its exchanges.
use Rattle.std.proofs.Common.{ℕ, ◌≡◌, refl, ◌∙◌, eqb, Bool, true, false, List, [], ◌∷◌}
use Rattle.plan_props.specs.Satisfies.{satisfies_distribution}
use Rattle.plan_props.specs.declared.properties.Distribution.TheVariants as need
use Rattle.physical_plan.specs.declared.plan.Plan.{Plan}
use Rattle.physical_plan.specs.declared.plan.Plan.TheOpen.{Plan-F}
use Rattle.physical_plan.specs.Properties.{props, partitions, left_keys, right_keys}
use Rattle.physical_plan.specs.Everywhere.{Test, everywhere}
use Rattle.physical_plan.specs.Needs.{group_need, spread_needs}
use Rattle.planned_laws.specs.Finished.{have_parts, grouped_parts, inputs_serve, on_scans}
use Rattle.planned_laws.specs.Plain.{plain, plain_child, IsPlain}
use Rattle.physical_plan.proofs.Everywhere.{and_parts}
use Rattle.planned_laws.proofs.Weaker.{weaker, weaker_below}
use Rattle.enforce_dist.specs.Distribute.{distributed, enforce_distribution}
use Rattle.planned_laws.specs.Spread.{lean_exchanges, IsSpread}
use Rattle.planned_laws.proofs.Spreading.{Spreads, spreads, spreading_keeps, gathered_erased, gathered_single, gathered_holds}
use Rattle.planned_laws.proofs.Spreads.{needs_spread, lean_spread, scans_spread}
use Rattle.planned_laws.proofs.Serving.{no_exchange, no_exchanges, plain_inputs, plain_root, serves_distributed, gathered_serves, serves_spread}
use Rattle.planned_laws.proofs.SpreadRobins.{found_spread}

-- ---- partitions follow from needs

grouped_count : (n : ℕ) (keys : List ℕ) (p : Plan) → satisfies_distribution (props p) (group_need keys n) ≡ true → grouped_parts keys n p ≡ true
unfolding satisfies_distribution
grouped_count n [] p e = refl
grouped_count n (k ∷ keys) p e = (and_parts (eqb (partitions p) n) _ e).0

joined_count : (n : ℕ) (keys : List ℕ) (p : Plan) → satisfies_distribution (props p) (need.JoinHash keys n) ≡ true → eqb (partitions p) n ≡ true
unfolding satisfies_distribution
joined_count n keys p e = (and_parts (eqb (partitions p) n) _ e).0

pub counted : (n : ℕ) (z : Plan-F Plan) → spread_needs n z ≡ true → have_parts n z ≡ true
counted n (Plan-F.FinalGroup x keys calls) e = grouped_count n keys x e
counted n (Plan-F.HashJoin kind x y keys rest) e = joined_count n (left_keys keys) x (and_parts (satisfies_distribution (props x) (need.JoinHash (left_keys keys) n)) (satisfies_distribution (props y) (need.JoinHash (right_keys keys) n)) e).0
counted n _ e = refl

-- ---- together

-- a test that holds of the plain plan turns into one of the plan with its exchanges
pub held : (n : ℕ) (T : Test) (C : Plan → Bool) (U : Test) → Spreads n T C U → (p : Plan) → everywhere T p ≡ true → C p ≡ true → everywhere U (enforce_distribution p n) ≡ true
held n T C U h p all top = gathered_holds n T C U h p false top (spreads n T C U h p all false)

pub is_spread : (p : Plan) (n : ℕ) → IsPlain p → IsSpread p n (enforce_distribution p n)
is_spread p n h = record {
  tree = gathered_erased (distributed n p false) ∙ spreading_keeps n p false;
  spread_met = needs;
  root_single = gathered_single (distributed n p false);
  parts = weaker (spread_needs n) (have_parts n) (counted n) (enforce_distribution p n) needs;
  lean_nodes = held n plain plain_child (lean_exchanges n) (lean_spread n) p h.everywhere_plain h.top_plain;
  exchanges_serve = held n no_exchanges no_exchange (inputs_serve n) (serves_spread n) p (weaker_below plain no_exchanges plain_inputs p h.everywhere_plain) free;
  root_served = gathered_serves n need.Single (distributed n p false) (serves_distributed n p free false need.Single);
  robins = held n plain plain_child on_scans (scans_spread n) p h.everywhere_plain h.top_plain;
  spread = found_spread n p h.everywhere_plain;
}
  where
    free : no_exchange p ≡ true
    free = plain_root p h.everywhere_plain h.top_plain

    needs : everywhere (spread_needs n) (enforce_distribution p n) ≡ true
    needs = held n plain plain_child (spread_needs n) (needs_spread n) p h.everywhere_plain h.top_plain
