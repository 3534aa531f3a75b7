-- Round-robin stands on the scans that are to be spread.
use Rattle.std.specs.Prelude.{nat_lt}
use Rattle.std.proofs.Common.{ℕ, ◌≡◌, ◌≢◌, ◌+◌, refl, sym, ap, ◌∙◌, subst, cond, eqb, Bool, true, false, ◌&&◌, List, [], ◌∷◌, ◌++◌, map}
use Rattle.std.proofs.lemmas.Bool.{false≢true}
use Rattle.dfx_value.specs.Items.{concat}
use Rattle.dfx_value.specs.declared.rows.SortKey.{SortKey}
use Rattle.plan_props.specs.Satisfies.{satisfies_distribution}
use Rattle.plan_props.specs.declared.properties.Partitioning.TheVariants as parting
use Rattle.plan_props.specs.declared.properties.Distribution.{Distribution}
use Rattle.plan_props.specs.declared.properties.Distribution.TheVariants as need
use Rattle.physical_plan.specs.declared.plan.Plan.{Plan}
use Rattle.physical_plan.specs.declared.plan.Plan.TheOpen.{Plan-F}
use Rattle.physical_plan.specs.declared.plan.Plan.TheViews.{roll-Plan}
use Rattle.physical_plan.specs.declared.plan.Plan.TheFolds.{map-Plan, ind-Plan}
use Rattle.physical_plan.specs.declared.plan.Plan.TheVariants.{Scan, Repartition, rolls-Scan, rolls-Filter, rolls-Project, rolls-PartialGroup, rolls-FinalGroup, rolls-HashJoin, rolls-Sort, rolls-Merge, rolls-Coalesce, rolls-Repartition, rolls-UnionAll, rolls-Limit}
use Rattle.physical_plan.specs.Properties.{props, partitions, left_keys, right_keys}
use Rattle.enforce_dist.specs.Distribute.{Below, gathered, gathered_by, hashed, grouped_input, join_input, spread, distributed}
use Rattle.physical_plan.specs.Everywhere.{everywhere, all_true}
use Rattle.planned_laws.specs.Finished.{Wanting, wanted, found}
use Rattle.enforce_dist.proofs.Nodes.{distributed-Scan, distributed-Filter, distributed-Project, distributed-PartialGroup, distributed-FinalGroup, distributed-HashJoin, distributed-Sort, distributed-Merge, distributed-Coalesce, distributed-UnionAll, distributed-Limit}
use Rattle.physical_plan.proofs.Everywhere.{and_parts, parts-Filter, parts-Project, parts-PartialGroup, parts-FinalGroup, parts-HashJoin, parts-Sort, parts-Merge, parts-Coalesce, parts-Repartition, parts-UnionAll, parts-Limit}
use Rattle.planned_laws.proofs.Wantings.{wanted-Scan, wanted-Filter, wanted-Project, wanted-PartialGroup, wanted-FinalGroup, wanted-HashJoin, wanted-Sort, wanted-Merge, wanted-Coalesce, wanted-UnionAll, wanted-Limit, found-Scan, found-Filter, found-Project, found-PartialGroup, found-FinalGroup, found-HashJoin, found-Sort, found-Merge, found-Coalesce, found-Repartition, found-UnionAll, found-Limit}
use Rattle.planned_laws.specs.Plain.{plain}

gathered_found : (p : Plan) → found (gathered p) false ≡ found p false
gathered_found p = go (eqb (partitions p) 1)
  where
    by : (keys : List SortKey) → found (gathered_by keys p) false ≡ found p false
    by [] = found-Coalesce p false
    by (k ∷ keys) = found-Merge p (k ∷ keys) false

    go : (b : Bool) → found (cond b p (gathered_by (props p).ordering p)) false ≡ found p false
    go true = refl
    go false = by (props p).ordering

hashed_found : (d : Distribution) (keys : List ℕ) (n : ℕ) (p : Plan) → found (hashed d keys n p) false ≡ found p false
hashed_found d keys n p = go (satisfies_distribution (props p) d)
  where
    go : (b : Bool) → found (cond b p (Repartition p (parting.Hash keys n))) false ≡ found p false
    go true = refl
    go false = found-Repartition p (parting.Hash keys n) false

grouped_found : (keys : List ℕ) (n : ℕ) (p : Plan) → found (grouped_input keys n p) false ≡ found p false
grouped_found [] n p = gathered_found p
grouped_found (k ∷ keys) n p = hashed_found (need.Hash (k ∷ keys) n) (k ∷ keys) n p

spread_found : (n partitions : ℕ) (above : Bool) (p : Plan) → ((b : Bool) → found p b ≡ b ∷ []) → found (spread n partitions above p) false ≡ (above && nat_lt partitions n) ∷ []
spread_found n partitions above p f = go (above && nat_lt partitions n)
  where
    go : (b : Bool) → found (cond b (Repartition p (parting.RoundRobin n)) p) false ≡ b ∷ []
    go true = found-Repartition p (parting.RoundRobin n) false ∙ f true
    go false = f false

module _ (n : ℕ) where
  abbrev Spread : Plan → Type 0
  Spread p = everywhere plain p ≡ true → (above : Bool) → found (distributed n p above) false ≡ wanted n p above

  abbrev Known : Type 0
  Known = (p : Plan) × Spread p

  abbrev plans : List Known → List Plan
  plans xs = map (λ (k : Known). k.0) xs

  all_found : (xs : List Known) (b : Bool) → all_true (map (everywhere plain) (plans xs)) ≡ true → concat (map (λ (f : Wanting). f false) (map found (map (λ (f : Below). f b) (map (distributed n) (plans xs))))) ≡ concat (map (λ (f : Wanting). f b) (map (wanted n) (plans xs)))
  all_found [] b e = refl
  all_found (x ∷ xs) b e =
      let a = and_parts (everywhere plain x.0) (all_true (map (everywhere plain) (plans xs))) e in
      ap (λ (bs : List Bool). bs ++ concat (map (λ (f : Wanting). f false) (map found (map (λ (f : Below). f b) (map (distributed n) (plans xs)))))) (x.1 a.0 b)
      ∙ ap (λ (bs : List Bool). wanted n x.0 b ++ bs) (all_found xs b a.1)

  step : (y : Plan-F Known) → Spread (roll-Plan (map-Plan Known Plan (λ k. k.0) y))
  step (Plan-F.Scan t k f c) = subst Spread (sym (rolls-Scan t k f c)) (λ e b. ap (λ (p : Plan). found p false) (distributed-Scan n t k f c b) ∙ spread_found n c b (Scan t k f c) (found-Scan t k f c) ∙ sym (wanted-Scan n t k f c b))
  step (Plan-F.Filter x test) = subst Spread (sym (rolls-Filter x.0 test)) (λ e b. let a = parts-Filter plain x.0 test e in ap (λ (p : Plan). found p false) (distributed-Filter n x.0 test b) ∙ found-Filter (distributed n x.0 b) test false ∙ x.1 a.1 b ∙ sym (wanted-Filter n x.0 test b))
  step (Plan-F.Project x items) = subst Spread (sym (rolls-Project x.0 items)) (λ e b. let a = parts-Project plain x.0 items e in ap (λ (p : Plan). found p false) (distributed-Project n x.0 items b) ∙ found-Project (distributed n x.0 b) items false ∙ x.1 a.1 b ∙ sym (wanted-Project n x.0 items b))
  step (Plan-F.PartialGroup x keys calls) = subst Spread (sym (rolls-PartialGroup x.0 keys calls)) (λ e b. let a = parts-PartialGroup plain x.0 keys calls e in ap (λ (p : Plan). found p false) (distributed-PartialGroup n x.0 keys calls b) ∙ found-PartialGroup (distributed n x.0 true) keys calls false ∙ x.1 a.1 true ∙ sym (wanted-PartialGroup n x.0 keys calls b))
  step (Plan-F.Sort x keys) = subst Spread (sym (rolls-Sort x.0 keys)) (λ e b. let a = parts-Sort plain x.0 keys e in ap (λ (p : Plan). found p false) (distributed-Sort n x.0 keys b) ∙ found-Sort (distributed n x.0 true) keys false ∙ x.1 a.1 true ∙ sym (wanted-Sort n x.0 keys b))
  step (Plan-F.Merge x keys) = subst Spread (sym (rolls-Merge x.0 keys)) (λ e b. let a = parts-Merge plain x.0 keys e in ap (λ (p : Plan). found p false) (distributed-Merge n x.0 keys b) ∙ found-Merge (distributed n x.0 b) keys false ∙ x.1 a.1 b ∙ sym (wanted-Merge n x.0 keys b))
  step (Plan-F.Coalesce x) = subst Spread (sym (rolls-Coalesce x.0)) (λ e b. let a = parts-Coalesce plain x.0 e in ap (λ (p : Plan). found p false) (distributed-Coalesce n x.0 b) ∙ found-Coalesce (distributed n x.0 b) false ∙ x.1 a.1 b ∙ sym (wanted-Coalesce n x.0 b))
  step (Plan-F.FinalGroup x keys calls) = subst Spread (sym (rolls-FinalGroup x.0 keys calls)) (λ e b. let a = parts-FinalGroup plain x.0 keys calls e in ap (λ (p : Plan). found p false) (distributed-FinalGroup n x.0 keys calls b) ∙ found-FinalGroup (grouped_input keys n (distributed n x.0 b)) keys calls false ∙ grouped_found keys n (distributed n x.0 b) ∙ x.1 a.1 b ∙ sym (wanted-FinalGroup n x.0 keys calls b))
  step (Plan-F.HashJoin kind x y keys rest) = subst Spread (sym (rolls-HashJoin kind x.0 y.0 keys rest)) (λ e b. let a = parts-HashJoin plain kind x.0 y.0 keys rest e in ap (λ (p : Plan). found p false) (distributed-HashJoin n kind x.0 y.0 keys rest b) ∙ found-HashJoin kind (join_input (left_keys keys) n (distributed n x.0 true)) (join_input (right_keys keys) n (distributed n y.0 true)) keys rest false ∙ ap (λ (bs : List Bool). bs ++ found (join_input (right_keys keys) n (distributed n y.0 true)) false) (hashed_found (need.JoinHash (left_keys keys) n) (left_keys keys) n (distributed n x.0 true) ∙ x.1 a.1 true) ∙ ap (λ (bs : List Bool). wanted n x.0 true ++ bs) (hashed_found (need.JoinHash (right_keys keys) n) (right_keys keys) n (distributed n y.0 true) ∙ y.1 a.2 true) ∙ sym (wanted-HashJoin n kind x.0 y.0 keys rest b))
  step (Plan-F.Repartition x to) = subst Spread (sym (rolls-Repartition x.0 to)) (λ e b. let a = parts-Repartition plain x.0 to e in absurd (false≢true a.0))
  step (Plan-F.UnionAll xs) = subst Spread (sym (rolls-UnionAll (plans xs))) (λ e b. let a = parts-UnionAll plain (plans xs) e in ap (λ (p : Plan). found p false) (distributed-UnionAll n (plans xs) b) ∙ found-UnionAll (map (λ (f : Below). f b) (map (distributed n) (plans xs))) false ∙ all_found xs b a.1 ∙ sym (wanted-UnionAll n (plans xs) b))
  step (Plan-F.Limit x skip fetch) = subst Spread (sym (rolls-Limit x.0 skip fetch)) (λ e b. let a = parts-Limit plain x.0 skip fetch e in ap (λ (p : Plan). found p false) (distributed-Limit n x.0 skip fetch b) ∙ found-Limit (gathered (distributed n x.0 b)) skip fetch false ∙ gathered_found (distributed n x.0 b) ∙ x.1 a.1 b ∙ sym (wanted-Limit n x.0 skip fetch b))

  pub found_spread : (p : Plan) → everywhere plain p ≡ true → found (gathered (distributed n p false)) false ≡ wanted n p false
  found_spread p e = gathered_found (distributed n p false) ∙ ind-Plan Spread (λ x y is. subst (λ z. Spread (roll-Plan z)) is (step y)) p e false
