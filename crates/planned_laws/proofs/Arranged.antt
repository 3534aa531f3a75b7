-- What holds at every node once sorts are put in and dropped.
use Rattle.std.proofs.Common.{ℕ, ◌≡◌, refl, ap, ◌∙◌, eqb, true, not}
use Rattle.std.proofs.lemmas.Bool.{false≢true}
use Rattle.plan_props.specs.Satisfies.{satisfies_distribution}
use Rattle.plan_props.specs.declared.properties.Partitioning.{Partitioning}
use Rattle.plan_props.specs.declared.properties.Partitioning.TheVariants as parting
use Rattle.plan_props.specs.declared.properties.Distribution.TheVariants as need
use Rattle.physical_plan.specs.declared.plan.Plan.{Plan, out-Plan}
use Rattle.physical_plan.specs.declared.plan.Plan.TheOpen.{Plan-F}
use Rattle.physical_plan.specs.declared.plan.Plan.TheFolds.{map-Plan}
use Rattle.physical_plan.specs.declared.plan.Plan.TheVariants.{Scan, outs-Scan, rolls-Scan}
use Rattle.physical_plan.specs.Properties.{props, left_keys, right_keys}
use Rattle.enforce_sort.specs.Arrange.{with_sort, enforce_sorting}
use Rattle.physical_plan.specs.Everywhere.{Test}
use Rattle.physical_plan.specs.Needs.{group_need, spread_needs, order_needs}
use Rattle.planned_laws.specs.Finished.{lean, on_scan, robin_on, on_scans}
use Rattle.enforce_sort.proofs.Nodes.{arranged-Scan}
use Rattle.physical_plan.proofs.Everywhere.{both_true, and_parts}
use Rattle.planned_laws.proofs.Likes.{like, sorted_like, sat_like, parts_like}
use Rattle.planned_laws.proofs.Sorting.{stays, Arranges, sorted_by}
use Rattle.planned_laws.proofs.Tops.{made}
use Rattle.planned_laws.specs.Spread.{lean_exchanges}

needs_stay : (n : ℕ) (z : Plan-F Plan) → stays z ≡ true → spread_needs n z ≡ true → spread_needs n (map-Plan Plan Plan enforce_sorting z) ≡ true
needs_stay n (Plan-F.FinalGroup x keys calls) s e = sat_like (group_need keys n) (enforce_sorting x) x (like x) ∙ e
needs_stay n (Plan-F.HashJoin kind x y keys rest) s e =
    let a = and_parts (satisfies_distribution (props x) (need.JoinHash (left_keys keys) n)) (satisfies_distribution (props y) (need.JoinHash (right_keys keys) n)) e in
    both_true _ _ (sat_like (need.JoinHash (left_keys keys) n) (enforce_sorting x) x (like x) ∙ a.0) (sat_like (need.JoinHash (right_keys keys) n) (enforce_sorting y) y (like y) ∙ a.1)
needs_stay n (Plan-F.Limit x skip fetch) s e = sat_like need.Single (enforce_sorting x) x (like x) ∙ e
needs_stay n _ s e = refl

pub needs_arrange : (n : ℕ) → Arranges (spread_needs n) (spread_needs n)
needs_arrange n = record {
  same = λ z s t k. needs_stay n z s t;
  sort = λ p keys t k e. refl;
  below = λ p keys t k e. refl;
  merge = λ p keys t k. refl;
}

-- ---- needs of order

orders_stay : (z : Plan-F Plan) → stays z ≡ true → order_needs (map-Plan Plan Plan enforce_sorting z) ≡ true
orders_stay (Plan-F.Merge x keys) s = absurd (false≢true s)
orders_stay _ s = refl

pub orders_arrange : (T : Test) → Arranges T order_needs
orders_arrange T = record {
  same = λ z s t k. orders_stay z s;
  sort = λ p keys t k e. refl;
  below = λ p keys t k e. refl;
  merge = λ p keys t k. sorted_by keys (enforce_sorting p);
}

lean_stays : (n : ℕ) (z : Plan-F Plan) → stays z ≡ true → lean_exchanges n z ≡ true → lean n (map-Plan Plan Plan enforce_sorting z) ≡ true
lean_stays n (Plan-F.Sort x keys) s e = absurd (false≢true s)
lean_stays n (Plan-F.Merge x keys) s e = absurd (false≢true s)
lean_stays n (Plan-F.Coalesce x) s e = ap (λ (m : ℕ). not (eqb m 1)) (parts_like (enforce_sorting x) x (like x)) ∙ e
lean_stays n (Plan-F.Repartition x to) s e = e
lean_stays n _ s e = refl

pub lean_arrange : (n : ℕ) → Arranges (lean_exchanges n) (lean n)
lean_arrange n = record {
  same = λ z s t k. lean_stays n z s t;
  sort = λ p keys t k e. ap not e;
  below = λ p keys t k e. ap not e;
  merge = λ p keys t k. ap (λ (m : ℕ). not (eqb m 1)) (parts_like (with_sort keys (enforce_sorting p)) p (sorted_like keys (enforce_sorting p) ∙ like p)) ∙ t;
}

scan_stays : (p : Plan) (z : Plan-F Plan) → out-Plan p ≡ z → on_scan z ≡ true → on_scan (out-Plan (enforce_sorting p)) ≡ true
scan_stays p (Plan-F.Scan t k f c) e h = ap (λ (q : Plan). on_scan (out-Plan (enforce_sorting q))) (made p (Plan-F.Scan t k f c) (Scan t k f c) e (rolls-Scan t k f c)) ∙ ap (λ (q : Plan). on_scan (out-Plan q)) (arranged-Scan t k f c) ∙ ap on_scan (outs-Scan t k f c)
scan_stays p _ e h = absurd (false≢true h)

robin_stays : (to : Partitioning) (p : Plan) → robin_on to p ≡ true → robin_on to (enforce_sorting p) ≡ true
robin_stays parting.Single p e = refl
robin_stays (parting.RoundRobin m) p e = scan_stays p (out-Plan p) refl e
robin_stays (parting.Hash cs m) p e = refl
robin_stays (parting.Unknown m) p e = refl

scans_stay : (z : Plan-F Plan) → stays z ≡ true → on_scans z ≡ true → on_scans (map-Plan Plan Plan enforce_sorting z) ≡ true
scans_stay (Plan-F.Repartition x to) s e = robin_stays to x e
scans_stay _ s e = refl

pub scans_arrange : Arranges on_scans on_scans
scans_arrange = record {
  same = λ z s t k. scans_stay z s t;
  sort = λ p keys t k e. refl;
  below = λ p keys t k e. refl;
  merge = λ p keys t k. refl;
}
