-- What each pass gives of a plan whose columns are in range.
use Rattle.std.proofs.Common.{ℕ, ◌≡◌, ◌+◌, refl, sym, ap, subst, cond, eqb, Bool, true, false, ◌&&◌, List, [], ◌∷◌, map, length, sum}
use Rattle.physical_plan.specs.declared.plan.Plan.{Plan}
use Rattle.physical_plan.specs.declared.plan.Plan.TheOpen.{Plan-F}
use Rattle.physical_plan.specs.declared.plan.Plan.TheViews.{roll-Plan}
use Rattle.physical_plan.specs.declared.plan.Plan.TheFolds.{map-Plan, ind-Plan}
use Rattle.physical_plan.specs.declared.plan.Plan.TheVariants.{Scan, Sort, Repartition, rolls-Scan, rolls-Filter, rolls-Project, rolls-PartialGroup, rolls-FinalGroup, rolls-HashJoin, rolls-Sort, rolls-Merge, rolls-Coalesce, rolls-Repartition, rolls-UnionAll, rolls-Limit}
use Rattle.physical_plan.specs.Properties.{state_width, left_keys, right_keys, props, partitions}
use Rattle.physical_plan.specs.Everywhere.{everywhere, all_true}
use Rattle.physical_plan.proofs.Nodes.{declared-Scan, declared-Filter, declared-Project, declared-PartialGroup, declared-FinalGroup, declared-HashJoin, declared-Sort, declared-Merge, declared-Coalesce, declared-Repartition, declared-Limit}
use Rattle.physical_plan.proofs.Everywhere.{and_parts, parts-Filter, parts-Project, parts-PartialGroup, parts-FinalGroup, parts-HashJoin, parts-Sort, parts-Merge, parts-Coalesce, parts-Repartition, parts-UnionAll, parts-Limit}
use Rattle.planned_laws.specs.Ranges.{are_below, rest_columns, key_columns, call_columns, width, in_range}
use Rattle.planned_laws.proofs.Nodes.{Ranged, AllRanged, ranged-Scan, ranged-Filter, ranged-Project, ranged-PartialGroup, ranged-FinalGroup, ranged-HashJoin, ranged-Sort, ranged-Merge, ranged-Coalesce, ranged-Repartition, ranged-UnionAll, ranged-Limit}
use Rattle.std.specs.Prelude.{nat_lt}
use Rattle.dfx_value.specs.declared.kind.Kind.{Kind}
use Rattle.dfx_value.specs.declared.rows.SortKey.{SortKey}
use Rattle.plan_props.specs.Satisfies.{satisfies_distribution, satisfies_order}
use Rattle.plan_props.specs.declared.properties.Partitioning.TheVariants as parting
use Rattle.plan_props.specs.declared.properties.Distribution.{Distribution}
use Rattle.plan_props.specs.declared.properties.Distribution.TheVariants as need
use Rattle.enforce_dist.specs.Distribute.{Below, gathered, gathered_by, hashed, grouped_input, join_input, spread, distributed, enforce_distribution}
use Rattle.enforce_dist.proofs.Nodes.{distributed-Scan, distributed-Filter, distributed-Project, distributed-PartialGroup, distributed-FinalGroup, distributed-HashJoin, distributed-Sort, distributed-Merge, distributed-Coalesce, distributed-Repartition, distributed-UnionAll, distributed-Limit}
use Rattle.enforce_sort.specs.Arrange.{with_sort, enforce_sorting}
use Rattle.enforce_sort.proofs.Nodes.{arranged-Scan, arranged-Filter, arranged-Project, arranged-PartialGroup, arranged-FinalGroup, arranged-HashJoin, arranged-Sort, arranged-Merge, arranged-Coalesce, arranged-Repartition, arranged-UnionAll, arranged-Limit}
use Rattle.planned_laws.proofs.Orders.{place, wide, union_wide, group_parts, final_parts, join_parts}

-- ---- what is put in

ranged_gathered : (w : ℕ) (p : Plan) → Ranged w p → Ranged w (gathered p)
ranged_gathered w p r = go (eqb (partitions p) 1)
  where
    by : (o : List SortKey) → are_below w (key_columns o) ≡ true → Ranged w (gathered_by o p)
    by [] h = ranged-Coalesce w p r
    by (k ∷ ks) h = ranged-Merge w p (k ∷ ks) h r

    go : (b : Bool) → Ranged w (cond b p (gathered_by (props p).ordering p))
    go true = r
    go false = by (props p).ordering r.order

ranged_hashed : (w : ℕ) (d : Distribution) (keys : List ℕ) (n : ℕ) (p : Plan) → are_below w keys ≡ true → Ranged w p → Ranged w (hashed d keys n p)
ranged_hashed w d keys n p h r = go (satisfies_distribution (props p) d)
  where
    go : (b : Bool) → Ranged w (cond b p (Repartition p (parting.Hash keys n)))
    go true = r
    go false = ranged-Repartition w p (parting.Hash keys n) h r

ranged_grouped : (w : ℕ) (keys : List ℕ) (n : ℕ) (p : Plan) → are_below w keys ≡ true → Ranged w p → Ranged w (grouped_input keys n p)
ranged_grouped w [] n p h r = ranged_gathered w p r
ranged_grouped w (k ∷ keys) n p h r = ranged_hashed w (need.Hash (k ∷ keys) n) (k ∷ keys) n p h r

ranged_spread : (n : ℕ) (t : ℕ) (k : List Kind) (f c : ℕ) (above : Bool) → Ranged (length k) (spread n c above (Scan t k f c))
ranged_spread n t k f c above = go (above && nat_lt c n)
  where
    go : (b : Bool) → Ranged (length k) (cond b (Repartition (Scan t k f c) (parting.RoundRobin n)) (Scan t k f c))
    go true = ranged-Repartition (length k) (Scan t k f c) (parting.RoundRobin n) refl (ranged-Scan t k f c)
    go false = ranged-Scan t k f c

ranged_sorted : (w : ℕ) (keys : List SortKey) (p : Plan) → are_below w (key_columns keys) ≡ true → Ranged w p → Ranged w (with_sort keys p)
ranged_sorted w keys p h r = go (satisfies_order (props p) keys)
  where
    go : (b : Bool) → Ranged w (cond b p (Sort p keys))
    go true = r
    go false = ranged-Sort w p keys h r

-- ---- exchanges

module _ (n : ℕ) where
  abbrev Turns : Plan → Type 0
  Turns p = everywhere in_range p ≡ true → (b : Bool) → Ranged (width p) (distributed n p b)

  abbrev Known : Type 0
  Known = (p : Plan) × Turns p

  abbrev plans : List Known → List Plan
  plans xs = map (λ (k : Known). k.0) xs

  all_turn : (xs : List Known) (b : Bool) → all_true (map (everywhere in_range) (plans xs)) ≡ true → AllRanged (map width (plans xs)) (map (λ (f : Below). f b) (map (distributed n) (plans xs)))
  all_turn [] b e = tt
  all_turn (x ∷ xs) b e = let a = and_parts (everywhere in_range x.0) (all_true (map (everywhere in_range) (plans xs))) e in (x.1 a.0 b, all_turn xs b a.1)

  step : (y : Plan-F Known) → Turns (roll-Plan (map-Plan Known Plan (λ k. k.0) y))
  step (Plan-F.Scan t k f c) = subst Turns (sym (rolls-Scan t k f c)) (λ e b. place _ (length k) _ _ (ap wide (declared-Scan t k f c)) (distributed-Scan n t k f c b) (ranged_spread n t k f c b))
  step (Plan-F.Filter x test) = subst Turns (sym (rolls-Filter x.0 test)) (λ e b. let a = parts-Filter in_range x.0 test e in
      place _ _ _ _ (ap wide (declared-Filter x.0 test)) (distributed-Filter n x.0 test b) (ranged-Filter (width x.0) (distributed n x.0 b) test a.0 (x.1 a.1 b)))
  step (Plan-F.Project x items) = subst Turns (sym (rolls-Project x.0 items)) (λ e b. let a = parts-Project in_range x.0 items e in
      place _ _ _ _ (ap wide (declared-Project x.0 items)) (distributed-Project n x.0 items b) (ranged-Project (width x.0) (distributed n x.0 b) items a.0 (x.1 a.1 b)))
  step (Plan-F.PartialGroup x keys calls) = subst Turns (sym (rolls-PartialGroup x.0 keys calls)) (λ e b. let a = parts-PartialGroup in_range x.0 keys calls e in let c = group_parts (width x.0) keys (call_columns calls) a.0 in
      place _ _ _ _ (ap wide (declared-PartialGroup x.0 keys calls)) (distributed-PartialGroup n x.0 keys calls b) (ranged-PartialGroup (width x.0) (distributed n x.0 true) keys calls c.0 c.1 (x.1 a.1 true)))
  step (Plan-F.FinalGroup x keys calls) = subst Turns (sym (rolls-FinalGroup x.0 keys calls)) (λ e b. let a = parts-FinalGroup in_range x.0 keys calls e in let c = final_parts (width x.0) (length keys + sum (map state_width calls)) keys a.0 in
      place _ _ _ _ (ap wide (declared-FinalGroup x.0 keys calls)) (distributed-FinalGroup n x.0 keys calls b) (ranged-FinalGroup (width x.0) (grouped_input keys n (distributed n x.0 b)) keys calls c.0 c.1 (ranged_grouped (width x.0) keys n (distributed n x.0 b) c.0 (x.1 a.1 b))))
  step (Plan-F.HashJoin kind x y keys rest) = subst Turns (sym (rolls-HashJoin kind x.0 y.0 keys rest)) (λ e b. let a = parts-HashJoin in_range kind x.0 y.0 keys rest e in let c = join_parts (width x.0) (width y.0) (left_keys keys) (right_keys keys) (rest_columns rest) a.0 in
      place _ _ _ _ (ap wide (declared-HashJoin kind x.0 y.0 keys rest)) (distributed-HashJoin n kind x.0 y.0 keys rest b)
      (ranged-HashJoin (width x.0) (width y.0) kind (join_input (left_keys keys) n (distributed n x.0 true)) (join_input (right_keys keys) n (distributed n y.0 true)) keys rest c.0 c.1 c.2
      (ranged_hashed (width x.0) (need.JoinHash (left_keys keys) n) (left_keys keys) n (distributed n x.0 true) c.0 (x.1 a.1 true))
      (ranged_hashed (width y.0) (need.JoinHash (right_keys keys) n) (right_keys keys) n (distributed n y.0 true) c.1 (y.1 a.2 true))))
  step (Plan-F.Sort x keys) = subst Turns (sym (rolls-Sort x.0 keys)) (λ e b. let a = parts-Sort in_range x.0 keys e in
      place _ _ _ _ (ap wide (declared-Sort x.0 keys)) (distributed-Sort n x.0 keys b) (ranged-Sort (width x.0) (distributed n x.0 true) keys a.0 (x.1 a.1 true)))
  step (Plan-F.Merge x keys) = subst Turns (sym (rolls-Merge x.0 keys)) (λ e b. let a = parts-Merge in_range x.0 keys e in
      place _ _ _ _ (ap wide (declared-Merge x.0 keys)) (distributed-Merge n x.0 keys b) (ranged-Merge (width x.0) (distributed n x.0 b) keys a.0 (x.1 a.1 b)))
  step (Plan-F.Coalesce x) = subst Turns (sym (rolls-Coalesce x.0)) (λ e b. let a = parts-Coalesce in_range x.0 e in
      place _ _ _ _ (ap wide (declared-Coalesce x.0)) (distributed-Coalesce n x.0 b) (ranged-Coalesce (width x.0) (distributed n x.0 b) (x.1 a.1 b)))
  step (Plan-F.Repartition x to) = subst Turns (sym (rolls-Repartition x.0 to)) (λ e b. let a = parts-Repartition in_range x.0 to e in
      place _ _ _ _ (ap wide (declared-Repartition x.0 to)) (distributed-Repartition n x.0 to b) (ranged-Repartition (width x.0) (distributed n x.0 b) to a.0 (x.1 a.1 b)))
  step (Plan-F.UnionAll xs) = subst Turns (sym (rolls-UnionAll (plans xs))) (λ e b. let a = parts-UnionAll in_range (plans xs) e in
      place _ _ _ _ (union_wide (plans xs)) (distributed-UnionAll n (plans xs) b) (ranged-UnionAll (map width (plans xs)) (map (λ (f : Below). f b) (map (distributed n) (plans xs))) a.0 (all_turn xs b a.1)))
  step (Plan-F.Limit x skip fetch) = subst Turns (sym (rolls-Limit x.0 skip fetch)) (λ e b. let a = parts-Limit in_range x.0 skip fetch e in
      place _ _ _ _ (ap wide (declared-Limit x.0 skip fetch)) (distributed-Limit n x.0 skip fetch b) (ranged-Limit (width x.0) (gathered (distributed n x.0 b)) skip fetch (ranged_gathered (width x.0) (distributed n x.0 b) (x.1 a.1 b))))

  ranged_turns : (p : Plan) → Turns p
  ranged_turns = ind-Plan Turns (λ x y is. subst (λ z. Turns (roll-Plan z)) is (step y))

  pub ranged_distribution : (p : Plan) → everywhere in_range p ≡ true → Ranged (width p) (enforce_distribution p n)
  ranged_distribution p e = ranged_gathered (width p) (distributed n p false) (ranged_turns p e false)

-- ---- sorts

abbrev Stays : Plan → Type 0
Stays p = everywhere in_range p ≡ true → Ranged (width p) (enforce_sorting p)

abbrev Stayed : Type 0
Stayed = (p : Plan) × Stays p

abbrev kept : List Stayed → List Plan
kept xs = map (λ (k : Stayed). k.0) xs

all_stay : (xs : List Stayed) → all_true (map (everywhere in_range) (kept xs)) ≡ true → AllRanged (map width (kept xs)) (map enforce_sorting (kept xs))
all_stay [] e = tt
all_stay (x ∷ xs) e = let a = and_parts (everywhere in_range x.0) (all_true (map (everywhere in_range) (kept xs))) e in (x.1 a.0, all_stay xs a.1)

stay_step : (y : Plan-F Stayed) → Stays (roll-Plan (map-Plan Stayed Plan (λ k. k.0) y))
stay_step (Plan-F.Scan t k f c) = subst Stays (sym (rolls-Scan t k f c)) (λ e. place _ (length k) _ _ (ap wide (declared-Scan t k f c)) (arranged-Scan t k f c) (ranged-Scan t k f c))
stay_step (Plan-F.Filter x test) = subst Stays (sym (rolls-Filter x.0 test)) (λ e. let a = parts-Filter in_range x.0 test e in
    place _ _ _ _ (ap wide (declared-Filter x.0 test)) (arranged-Filter x.0 test) (ranged-Filter (width x.0) (enforce_sorting x.0) test a.0 (x.1 a.1)))
stay_step (Plan-F.Project x items) = subst Stays (sym (rolls-Project x.0 items)) (λ e. let a = parts-Project in_range x.0 items e in
    place _ _ _ _ (ap wide (declared-Project x.0 items)) (arranged-Project x.0 items) (ranged-Project (width x.0) (enforce_sorting x.0) items a.0 (x.1 a.1)))
stay_step (Plan-F.PartialGroup x keys calls) = subst Stays (sym (rolls-PartialGroup x.0 keys calls)) (λ e. let a = parts-PartialGroup in_range x.0 keys calls e in let c = group_parts (width x.0) keys (call_columns calls) a.0 in
    place _ _ _ _ (ap wide (declared-PartialGroup x.0 keys calls)) (arranged-PartialGroup x.0 keys calls) (ranged-PartialGroup (width x.0) (enforce_sorting x.0) keys calls c.0 c.1 (x.1 a.1)))
stay_step (Plan-F.FinalGroup x keys calls) = subst Stays (sym (rolls-FinalGroup x.0 keys calls)) (λ e. let a = parts-FinalGroup in_range x.0 keys calls e in let c = final_parts (width x.0) (length keys + sum (map state_width calls)) keys a.0 in
    place _ _ _ _ (ap wide (declared-FinalGroup x.0 keys calls)) (arranged-FinalGroup x.0 keys calls) (ranged-FinalGroup (width x.0) (enforce_sorting x.0) keys calls c.0 c.1 (x.1 a.1)))
stay_step (Plan-F.HashJoin kind x y keys rest) = subst Stays (sym (rolls-HashJoin kind x.0 y.0 keys rest)) (λ e. let a = parts-HashJoin in_range kind x.0 y.0 keys rest e in let c = join_parts (width x.0) (width y.0) (left_keys keys) (right_keys keys) (rest_columns rest) a.0 in
    place _ _ _ _ (ap wide (declared-HashJoin kind x.0 y.0 keys rest)) (arranged-HashJoin kind x.0 y.0 keys rest)
    (ranged-HashJoin (width x.0) (width y.0) kind (enforce_sorting x.0) (enforce_sorting y.0) keys rest c.0 c.1 c.2 (x.1 a.1) (y.1 a.2)))
stay_step (Plan-F.Sort x keys) = subst Stays (sym (rolls-Sort x.0 keys)) (λ e. let a = parts-Sort in_range x.0 keys e in
    place _ _ _ _ (ap wide (declared-Sort x.0 keys)) (arranged-Sort x.0 keys) (ranged_sorted (width x.0) keys (enforce_sorting x.0) a.0 (x.1 a.1)))
stay_step (Plan-F.Merge x keys) = subst Stays (sym (rolls-Merge x.0 keys)) (λ e. let a = parts-Merge in_range x.0 keys e in
    place _ _ _ _ (ap wide (declared-Merge x.0 keys)) (arranged-Merge x.0 keys) (ranged-Merge (width x.0) (with_sort keys (enforce_sorting x.0)) keys a.0 (ranged_sorted (width x.0) keys (enforce_sorting x.0) a.0 (x.1 a.1))))
stay_step (Plan-F.Coalesce x) = subst Stays (sym (rolls-Coalesce x.0)) (λ e. let a = parts-Coalesce in_range x.0 e in
    place _ _ _ _ (ap wide (declared-Coalesce x.0)) (arranged-Coalesce x.0) (ranged-Coalesce (width x.0) (enforce_sorting x.0) (x.1 a.1)))
stay_step (Plan-F.Repartition x to) = subst Stays (sym (rolls-Repartition x.0 to)) (λ e. let a = parts-Repartition in_range x.0 to e in
    place _ _ _ _ (ap wide (declared-Repartition x.0 to)) (arranged-Repartition x.0 to) (ranged-Repartition (width x.0) (enforce_sorting x.0) to a.0 (x.1 a.1)))
stay_step (Plan-F.UnionAll xs) = subst Stays (sym (rolls-UnionAll (kept xs))) (λ e. let a = parts-UnionAll in_range (kept xs) e in
    place _ _ _ _ (union_wide (kept xs)) (arranged-UnionAll (kept xs)) (ranged-UnionAll (map width (kept xs)) (map enforce_sorting (kept xs)) a.0 (all_stay xs a.1)))
stay_step (Plan-F.Limit x skip fetch) = subst Stays (sym (rolls-Limit x.0 skip fetch)) (λ e. let a = parts-Limit in_range x.0 skip fetch e in
    place _ _ _ _ (ap wide (declared-Limit x.0 skip fetch)) (arranged-Limit x.0 skip fetch) (ranged-Limit (width x.0) (enforce_sorting x.0) skip fetch (x.1 a.1)))

pub ranged_sorting : (p : Plan) → everywhere in_range p ≡ true → Ranged (width p) (enforce_sorting p)
ranged_sorting = ind-Plan Stays (λ x y is. subst (λ z. Stays (roll-Plan z)) is (stay_step y))
