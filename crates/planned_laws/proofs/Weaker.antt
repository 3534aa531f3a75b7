-- A test that says less holds wherever one that says more does.
use Rattle.std.proofs.Common.{◌≡◌, refl, sym, subst, true, List, [], ◌∷◌, map}
use Rattle.physical_plan.specs.declared.plan.Plan.{Plan}
use Rattle.physical_plan.specs.declared.plan.Plan.TheOpen.{Plan-F}
use Rattle.physical_plan.specs.declared.plan.Plan.TheViews.{roll-Plan}
use Rattle.physical_plan.specs.declared.plan.Plan.TheFolds.{map-Plan, ind-Plan}
use Rattle.physical_plan.specs.declared.plan.Plan.TheVariants.{rolls-Scan, rolls-Filter, rolls-Project, rolls-PartialGroup, rolls-FinalGroup, rolls-HashJoin, rolls-Sort, rolls-Merge, rolls-Coalesce, rolls-Repartition, rolls-UnionAll, rolls-Limit}
use Rattle.physical_plan.specs.Everywhere.{Test, everywhere, all_true, kids}
use Rattle.physical_plan.proofs.Everywhere.{both_true, and_parts, holds-Scan, holds-Filter, holds-Project, holds-PartialGroup, holds-FinalGroup, holds-HashJoin, holds-UnionAll, holds-Sort, holds-Limit, holds-Merge, holds-Coalesce, holds-Repartition, parts-Scan, parts-Filter, parts-Project, parts-PartialGroup, parts-FinalGroup, parts-HashJoin, parts-Sort, parts-Merge, parts-Coalesce, parts-Repartition, parts-UnionAll, parts-Limit}

module _ (T U : Test) (f : (z : Plan-F Plan) → T z ≡ true → all_true (map (everywhere T) (kids z)) ≡ true → U z ≡ true) where
  abbrev Less : Plan → Type 0
  Less p = everywhere T p ≡ true → everywhere U p ≡ true

  abbrev Known : Type 0
  Known = (p : Plan) × Less p

  all_less : (xs : List Known) → all_true (map (everywhere T) (map (λ (k : Known). k.0) xs)) ≡ true → all_true (map (everywhere U) (map (λ (k : Known). k.0) xs)) ≡ true
  all_less [] e = refl
  all_less (x ∷ xs) e = let a = and_parts (everywhere T x.0) (all_true (map (everywhere T) (map (λ (k : Known). k.0) xs))) e in both_true _ _ (x.1 a.0) (all_less xs a.1)

  less_step : (y : Plan-F Known) → Less (roll-Plan (map-Plan Known Plan (λ k. k.0) y))
  less_step (Plan-F.Scan t k g c) = subst Less (sym (rolls-Scan t k g c)) (λ e. holds-Scan U t k g c (f (Plan-F.Scan t k g c) (parts-Scan T t k g c e) refl))
  less_step (Plan-F.Filter x test) = subst Less (sym (rolls-Filter x.0 test)) (λ e. let a = parts-Filter T x.0 test e in holds-Filter U x.0 test (f (Plan-F.Filter x.0 test) a.0 (both_true _ _ a.1 refl)) (x.1 a.1))
  less_step (Plan-F.Project x items) = subst Less (sym (rolls-Project x.0 items)) (λ e. let a = parts-Project T x.0 items e in holds-Project U x.0 items (f (Plan-F.Project x.0 items) a.0 (both_true _ _ a.1 refl)) (x.1 a.1))
  less_step (Plan-F.PartialGroup x keys calls) = subst Less (sym (rolls-PartialGroup x.0 keys calls)) (λ e. let a = parts-PartialGroup T x.0 keys calls e in holds-PartialGroup U x.0 keys calls (f (Plan-F.PartialGroup x.0 keys calls) a.0 (both_true _ _ a.1 refl)) (x.1 a.1))
  less_step (Plan-F.FinalGroup x keys calls) = subst Less (sym (rolls-FinalGroup x.0 keys calls)) (λ e. let a = parts-FinalGroup T x.0 keys calls e in holds-FinalGroup U x.0 keys calls (f (Plan-F.FinalGroup x.0 keys calls) a.0 (both_true _ _ a.1 refl)) (x.1 a.1))
  less_step (Plan-F.Sort x keys) = subst Less (sym (rolls-Sort x.0 keys)) (λ e. let a = parts-Sort T x.0 keys e in holds-Sort U x.0 keys (f (Plan-F.Sort x.0 keys) a.0 (both_true _ _ a.1 refl)) (x.1 a.1))
  less_step (Plan-F.Merge x keys) = subst Less (sym (rolls-Merge x.0 keys)) (λ e. let a = parts-Merge T x.0 keys e in holds-Merge U x.0 keys (f (Plan-F.Merge x.0 keys) a.0 (both_true _ _ a.1 refl)) (x.1 a.1))
  less_step (Plan-F.Coalesce x) = subst Less (sym (rolls-Coalesce x.0)) (λ e. let a = parts-Coalesce T x.0 e in holds-Coalesce U x.0 (f (Plan-F.Coalesce x.0) a.0 (both_true _ _ a.1 refl)) (x.1 a.1))
  less_step (Plan-F.Repartition x to) = subst Less (sym (rolls-Repartition x.0 to)) (λ e. let a = parts-Repartition T x.0 to e in holds-Repartition U x.0 to (f (Plan-F.Repartition x.0 to) a.0 (both_true _ _ a.1 refl)) (x.1 a.1))
  less_step (Plan-F.Limit x skip fetch) = subst Less (sym (rolls-Limit x.0 skip fetch)) (λ e. let a = parts-Limit T x.0 skip fetch e in holds-Limit U x.0 skip fetch (f (Plan-F.Limit x.0 skip fetch) a.0 (both_true _ _ a.1 refl)) (x.1 a.1))
  less_step (Plan-F.HashJoin kind x y keys rest) = subst Less (sym (rolls-HashJoin kind x.0 y.0 keys rest)) (λ e. let a = parts-HashJoin T kind x.0 y.0 keys rest e in holds-HashJoin U kind x.0 y.0 keys rest (f (Plan-F.HashJoin kind x.0 y.0 keys rest) a.0 (both_true _ _ a.1 (both_true _ _ a.2 refl))) (x.1 a.1) (y.1 a.2))
  less_step (Plan-F.UnionAll xs) = subst Less (sym (rolls-UnionAll (map (λ (k : Known). k.0) xs))) (λ e. let a = parts-UnionAll T (map (λ (k : Known). k.0) xs) e in holds-UnionAll U (map (λ (k : Known). k.0) xs) (f (Plan-F.UnionAll (map (λ (k : Known). k.0) xs)) a.0 a.1) (all_less xs a.1))

  -- where the first test holds at a node and everywhere below it
  pub weaker_below : (p : Plan) → everywhere T p ≡ true → everywhere U p ≡ true
  weaker_below = ind-Plan Less (λ x y is. subst (λ z. Less (roll-Plan z)) is (less_step y))

pub weaker : (T U : Test) → ((z : Plan-F Plan) → T z ≡ true → U z ≡ true) → (p : Plan) → everywhere T p ≡ true → everywhere U p ≡ true
weaker T U f = weaker_below T U (λ z t k. f z t)
