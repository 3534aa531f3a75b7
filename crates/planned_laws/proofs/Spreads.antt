-- What holds at every node once exchanges are put in.
use Rattle.std.specs.Prelude.{nat_lt}
use Rattle.std.proofs.Common.{ℕ, ◌≡◌, ◌≢◌, refl, sym, ap, ◌∙◌, cond, eqb, Bool, true, false, ◌&&◌, not, List, [], ◌∷◌, map}
use Rattle.std.proofs.lemmas.Bool.{false≢true, eq-eqb}
use Rattle.dfx_value.specs.declared.rows.SortKey.{SortKey}
use Rattle.plan_props.specs.Satisfies.{satisfies_distribution}
use Rattle.plan_props.specs.declared.properties.Partitioning.TheVariants as parting
use Rattle.plan_props.specs.declared.properties.Distribution.{Distribution}
use Rattle.plan_props.specs.declared.properties.Distribution.TheVariants as need
use Rattle.physical_plan.specs.declared.plan.Plan.{Plan, out-Plan}
use Rattle.physical_plan.specs.declared.plan.Plan.TheOpen.{Plan-F}
use Rattle.physical_plan.specs.declared.plan.Plan.TheFolds.{map-Plan}
use Rattle.physical_plan.specs.declared.plan.Plan.TheVariants.{Scan, Filter, Project, PartialGroup, FinalGroup, HashJoin, Sort, Repartition, UnionAll, Limit, outs-Scan, outs-Filter, outs-Project, outs-PartialGroup, outs-FinalGroup, outs-HashJoin, outs-Sort, outs-Merge, outs-Coalesce, outs-Repartition, outs-UnionAll, outs-Limit, rolls-Scan, rolls-Filter, rolls-Project, rolls-PartialGroup, rolls-FinalGroup, rolls-HashJoin, rolls-Sort, rolls-UnionAll, rolls-Limit}
use Rattle.physical_plan.specs.Properties.{props, partitions, left_keys, right_keys}
use Rattle.enforce_dist.specs.Distribute.{Below, gathered, gathered_by, hashed, grouped_input, join_input, distributed}
use Rattle.physical_plan.specs.Everywhere.{all_true, kids}
use Rattle.physical_plan.specs.Needs.{group_need, spread_needs}
use Rattle.planned_laws.specs.Finished.{on_scan, on_scans}
use Rattle.enforce_dist.proofs.Nodes.{distributed-Scan, distributed-Filter, distributed-Project, distributed-PartialGroup, distributed-FinalGroup, distributed-HashJoin, distributed-Sort, distributed-UnionAll, distributed-Limit}
use Rattle.physical_plan.proofs.Everywhere.{both_true, and_parts}
use Rattle.planned_laws.proofs.Spreading.{passes, Spreads, group_met, join_met, single_met, gathered_single}
use Rattle.planned_laws.specs.Spread.{lean_exchanges}
use Rattle.planned_laws.specs.Plain.{plain_node, plain_child, plain}
use Rattle.planned_laws.proofs.Tops.{made}

children : (z : Plan-F Plan) → plain z ≡ true → all_true (map plain_child (kids z)) ≡ true
children z e = (and_parts (plain_node z) (all_true (map plain_child (kids z))) e).1

-- ---- needs of distribution

needs_same : (n : ℕ) (z : Plan-F Plan) (b : Bool) → passes z ≡ true → spread_needs n (map-Plan Plan Plan (λ p. distributed n p b) z) ≡ true
needs_same n (Plan-F.Scan table kinds files partitions) b e = refl
needs_same n (Plan-F.FinalGroup x keys calls) b e = absurd (false≢true e)
needs_same n (Plan-F.HashJoin kind x y keys rest) b e = absurd (false≢true e)
needs_same n (Plan-F.Limit x skip fetch) b e = absurd (false≢true e)
needs_same n _ b e = refl

pub needs_spread : (n : ℕ) → Spreads n plain plain_child (spread_needs n)
needs_spread n = record {
  child = children;
  scan = λ t k f p. refl;
  robin = λ t k f p. refl;
  same = λ z b e t. needs_same n z b e;
  group = λ p keys calls b t. group_met keys n (distributed n p b);
  join = λ kind p q keys rest t. both_true _ _ (join_met (left_keys keys) n (distributed n p true)) (join_met (right_keys keys) n (distributed n q true));
  limit = λ p skip fetch b t. single_met (gathered (distributed n p b)) (gathered_single (distributed n p b));
  hash = λ p b d keys c e. refl;
  coalesce = λ p b c e. refl;
  merge = λ p b keys c e o. refl;
}

-- ---- nothing without need

lean_same : (n : ℕ) (z : Plan-F Plan) (b : Bool) → plain z ≡ true → lean_exchanges n (map-Plan Plan Plan (λ p. distributed n p b) z) ≡ true
lean_same n (Plan-F.Merge x keys) b e = absurd (false≢true e)
lean_same n (Plan-F.Coalesce x) b e = absurd (false≢true e)
lean_same n (Plan-F.Repartition x to) b e = absurd (false≢true e)
lean_same n _ b e = refl

pub lean_spread : (n : ℕ) → Spreads n plain plain_child (lean_exchanges n)
lean_spread n = record {
  child = children;
  scan = λ t k f p. refl;
  robin = λ t k f p. eq-eqb n n refl;
  same = λ z b e t. lean_same n z b t;
  group = λ p keys calls b t. refl;
  join = λ kind p q keys rest t. refl;
  limit = λ p skip fetch b t. refl;
  hash = λ p b d keys c e. eq-eqb n n refl;
  coalesce = λ p b c e. ap not e;
  merge = λ p b keys c e o. ap not e;
}

-- ---- round-robin on scans

-- a plan whose top is known
scans_same : (n : ℕ) (z : Plan-F Plan) (b : Bool) → plain z ≡ true → on_scans (map-Plan Plan Plan (λ p. distributed n p b) z) ≡ true
scans_same n (Plan-F.Repartition x to) b e = absurd (false≢true e)
scans_same n _ b e = refl

pub scans_spread : (n : ℕ) → Spreads n plain plain_child on_scans
scans_spread n = record {
  child = children;
  scan = λ t k f p. refl;
  robin = λ t k f p. ap on_scan (outs-Scan t k f p);
  same = λ z b e t. scans_same n z b t;
  group = λ p keys calls b t. refl;
  join = λ kind p q keys rest t. refl;
  limit = λ p skip fetch b t. refl;
  hash = λ p b d keys c e. refl;
  coalesce = λ p b c e. refl;
  merge = λ p b keys c e o. refl;
}
