-- What is put in meets the need, and a test that holds before gives one that holds after.
use Rattle.std.specs.Prelude.{nat_lt}
use Rattle.std.proofs.Common.{ℕ, ◌≡◌, ◌≢◌, ◌+◌, refl, sym, ap, ◌∙◌, subst, cond, eqb, Option, Bool, true, false, ◌&&◌, ◌||◌, List, [], ◌∷◌, ◌++◌, map, append_assoc}
use Rattle.std.proofs.lemmas.Bool.{false≢true, eq-eqb, eqb-true}
use Rattle.dfx_value.specs.declared.kind.Kind.{Kind}
use Rattle.dfx_value.specs.declared.rows.SortKey.{SortKey}
use Rattle.scalar_exprs.specs.declared.expr.Expr.{Expr}
use Rattle.dfx_value.specs.declared.op.JoinKind.{JoinKind}
use Rattle.dfx_value.specs.declared.op.AggCall.{AggCall}
use Rattle.plan_props.specs.Same.{is_same, is_same_as_some, are_each_some, are_same_in_place}
use Rattle.plan_props.specs.Satisfies.{satisfies_distribution, partition_count, hashed_by_some, hashed_by_each}
use Rattle.plan_props.specs.declared.properties.Partitioning.TheVariants as parting
use Rattle.plan_props.specs.declared.properties.Distribution.{Distribution}
use Rattle.plan_props.specs.declared.properties.Distribution.TheVariants as need
use Rattle.physical_plan.specs.declared.plan.Plan.{Plan}
use Rattle.physical_plan.specs.declared.plan.Plan.TheOpen.{Plan-F}
use Rattle.physical_plan.specs.declared.plan.Plan.TheViews.{roll-Plan}
use Rattle.physical_plan.specs.declared.plan.Plan.TheFolds.{map-Plan, ind-Plan}
use Rattle.physical_plan.specs.declared.plan.Plan.TheVariants.{Scan, Filter, Project, PartialGroup, FinalGroup, HashJoin, Repartition, UnionAll, Limit, rolls-Scan, rolls-Filter, rolls-Project, rolls-PartialGroup, rolls-FinalGroup, rolls-HashJoin, rolls-Sort, rolls-Merge, rolls-Coalesce, rolls-Repartition, rolls-UnionAll, rolls-Limit}
use Rattle.physical_plan.specs.declared.properties.Declared.{Declared}
use Rattle.physical_plan.specs.Properties.{declared_of, props, partitions, declared_partitions, left_keys, right_keys, repartitioned}
use Rattle.enforce_dist.specs.Distribute.{gathered, gathered_by, hashed, grouped_input, join_input, spread, distributed}
use Rattle.physical_plan.specs.Everywhere.{Test, everywhere, all_true, kids, erased}
use Rattle.physical_plan.specs.Needs.{group_need}
use Rattle.physical_plan.proofs.Nodes.{declared-Repartition, declared-Coalesce, declared-Merge}
use Rattle.enforce_dist.proofs.Nodes.{distributed-Scan, distributed-Filter, distributed-Project, distributed-PartialGroup, distributed-FinalGroup, distributed-HashJoin, distributed-Sort, distributed-Merge, distributed-Coalesce, distributed-Repartition, distributed-UnionAll, distributed-Limit}
use Rattle.physical_plan.proofs.Everywhere.{both_true, and_parts, holds-Scan, holds-Filter, holds-Project, holds-PartialGroup, holds-FinalGroup, holds-HashJoin, holds-Sort, holds-Merge, holds-Coalesce, holds-Repartition, holds-UnionAll, holds-Limit, parts-Filter, parts-Project, parts-PartialGroup, parts-FinalGroup, parts-HashJoin, parts-Sort, parts-Merge, parts-Coalesce, parts-Repartition, parts-UnionAll, parts-Limit, erased-Filter, erased-Project, erased-PartialGroup, erased-FinalGroup, erased-HashJoin, erased-Sort, erased-Merge, erased-Coalesce, erased-Repartition, erased-UnionAll, erased-Limit}

-- ---- what is put in meets the need

same_itself : (ps : List (ℕ × ℕ)) (k : ℕ) → is_same ps k k ≡ true
same_itself ps k = eq-eqb _ _ refl

or_left : (a b : Bool) → a ≡ true → a || b ≡ true
or_left true b e = refl
or_left false b e = absurd (false≢true e)

or_right : (a b : Bool) → b ≡ true → a || b ≡ true
or_right true b e = refl
or_right false b e = e

some_later : (ps : List (ℕ × ℕ)) (front keys : List ℕ) (k : ℕ) → is_same_as_some ps (front ++ k ∷ keys) k ≡ true
some_later ps [] keys k = or_left _ _ (same_itself ps k)
some_later ps (x ∷ front) keys k = or_right _ _ (some_later ps front keys k)

each_later : (ps : List (ℕ × ℕ)) (front keys : List ℕ) → are_each_some ps (front ++ keys) keys ≡ true
each_later ps front [] = refl
each_later ps front (k ∷ keys) = both_true _ _ (some_later ps front keys k)
    (ap (λ (all : List ℕ). are_each_some ps all keys) (sym (append_assoc front (k ∷ []) keys)) ∙ each_later ps (front ++ k ∷ []) keys)

each_itself : (ps : List (ℕ × ℕ)) (keys : List ℕ) → are_each_some ps keys keys ≡ true
each_itself ps keys = each_later ps [] keys

place_itself : (ps : List (ℕ × ℕ)) (keys : List ℕ) → are_same_in_place ps keys keys ≡ true
place_itself ps [] = refl
place_itself ps (k ∷ keys) = both_true _ _ (same_itself ps k) (place_itself ps keys)

fresh_grouped : (keys : List ℕ) (n : ℕ) (x : Declared) → satisfies_distribution (repartitioned (parting.Hash keys n) x).props (need.Hash keys n) ≡ true
unfolding satisfies_distribution
fresh_grouped keys n x = go (eqb n 1) refl
  where
    go : (b : Bool) → eqb n 1 ≡ b → eqb (partition_count (cond b parting.Single (parting.Hash keys n))) n && hashed_by_some x.props.same keys (cond b parting.Single (parting.Hash keys n)) ≡ true
    go true e = both_true _ _ (eq-eqb 1 n (sym (eqb-true n 1 e))) refl
    go false e = both_true _ _ (eq-eqb n n refl) (each_itself x.props.same keys)

fresh_joined : (keys : List ℕ) (n : ℕ) (x : Declared) → satisfies_distribution (repartitioned (parting.Hash keys n) x).props (need.JoinHash keys n) ≡ true
unfolding satisfies_distribution
fresh_joined keys n x = go (eqb n 1) refl
  where
    go : (b : Bool) → eqb n 1 ≡ b → eqb (partition_count (cond b parting.Single (parting.Hash keys n))) n && hashed_by_each x.props.same keys (cond b parting.Single (parting.Hash keys n)) ≡ true
    go true e = both_true _ _ (eq-eqb 1 n (sym (eqb-true n 1 e))) refl
    go false e = both_true _ _ (eq-eqb n n refl) (place_itself x.props.same keys)

hashed_met : (d : Distribution) (keys : List ℕ) (n : ℕ) (p : Plan) → ((x : Declared) → satisfies_distribution (repartitioned (parting.Hash keys n) x).props d ≡ true) → satisfies_distribution (props (hashed d keys n p)) d ≡ true
hashed_met d keys n p f = go (satisfies_distribution (props p) d) refl
  where
    go : (b : Bool) → satisfies_distribution (props p) d ≡ b → satisfies_distribution (props (cond b p (Repartition p (parting.Hash keys n)))) d ≡ true
    go true e = e
    go false e = ap (λ (x : Declared). satisfies_distribution x.props d) (declared-Repartition p (parting.Hash keys n)) ∙ f (declared_of p)

gathered_by_single : (keys : List SortKey) (p : Plan) → partitions (gathered_by keys p) ≡ 1
gathered_by_single [] p = ap (λ (x : Declared). declared_partitions x) (declared-Coalesce p)
gathered_by_single (k ∷ keys) p = ap (λ (x : Declared). declared_partitions x) (declared-Merge p (k ∷ keys))

pub gathered_single : (p : Plan) → partitions (gathered p) ≡ 1
gathered_single p = go (eqb (partitions p) 1) refl
  where
    go : (b : Bool) → eqb (partitions p) 1 ≡ b → partitions (cond b p (gathered_by (props p).ordering p)) ≡ 1
    go true e = eqb-true (partitions p) 1 e
    go false e = gathered_by_single (props p).ordering p

pub single_met : (p : Plan) → partitions p ≡ 1 → satisfies_distribution (props p) need.Single ≡ true
unfolding satisfies_distribution
single_met p e = eq-eqb (partitions p) 1 e

pub group_met : (keys : List ℕ) (n : ℕ) (p : Plan) → satisfies_distribution (props (grouped_input keys n p)) (group_need keys n) ≡ true
group_met [] n p = single_met (gathered p) (gathered_single p)
group_met (k ∷ keys) n p = hashed_met (need.Hash (k ∷ keys) n) (k ∷ keys) n p (fresh_grouped (k ∷ keys) n)

pub join_met : (keys : List ℕ) (n : ℕ) (p : Plan) → satisfies_distribution (props (join_input keys n p)) (need.JoinHash keys n) ≡ true
join_met keys n p = hashed_met (need.JoinHash keys n) keys n p (fresh_joined keys n)

-- ---- the same tree

pub gathered_erased : (p : Plan) → erased (gathered p) ≡ erased p
gathered_erased p = go (eqb (partitions p) 1)
  where
    by : (keys : List SortKey) → erased (gathered_by keys p) ≡ erased p
    by [] = erased-Coalesce p
    by (k ∷ keys) = erased-Merge p (k ∷ keys)

    go : (b : Bool) → erased (cond b p (gathered_by (props p).ordering p)) ≡ erased p
    go true = refl
    go false = by (props p).ordering

hashed_erased : (d : Distribution) (keys : List ℕ) (n : ℕ) (p : Plan) → erased (hashed d keys n p) ≡ erased p
hashed_erased d keys n p = go (satisfies_distribution (props p) d)
  where
    go : (b : Bool) → erased (cond b p (Repartition p (parting.Hash keys n))) ≡ erased p
    go true = refl
    go false = erased-Repartition p (parting.Hash keys n)

grouped_erased : (keys : List ℕ) (n : ℕ) (p : Plan) → erased (grouped_input keys n p) ≡ erased p
grouped_erased [] n p = gathered_erased p
grouped_erased (k ∷ keys) n p = hashed_erased (need.Hash (k ∷ keys) n) (k ∷ keys) n p

spread_erased : (n partitions : ℕ) (above : Bool) (p : Plan) → erased (spread n partitions above p) ≡ erased p
spread_erased n partitions above p = go (above && nat_lt partitions n)
  where
    go : (b : Bool) → erased (cond b (Repartition p (parting.RoundRobin n)) p) ≡ erased p
    go true = erased-Repartition p (parting.RoundRobin n)
    go false = refl

module _ (n : ℕ) where
  abbrev Kept : Plan → Type 0
  Kept p = (above : Bool) → erased (distributed n p above) ≡ erased p

  abbrev Kept_plan : Type 0
  Kept_plan = (p : Plan) × Kept p

  all_kept : (xs : List Kept_plan) (above : Bool) → map erased (map (λ (f : Bool → Plan). f above) (map (distributed n) (map (λ (k : Kept_plan). k.0) xs))) ≡ map erased (map (λ (k : Kept_plan). k.0) xs)
  all_kept [] above = refl
  all_kept (x ∷ xs) above = ap (λ (q : Plan). q ∷ map erased (map (λ (f : Bool → Plan). f above) (map (distributed n) (map (λ (k : Kept_plan). k.0) xs)))) (x.1 above) ∙ ap (λ (qs : List Plan). erased x.0 ∷ qs) (all_kept xs above)

  kept_step : (y : Plan-F Kept_plan) → Kept (roll-Plan (map-Plan Kept_plan Plan (λ k. k.0) y))
  kept_step (Plan-F.Scan table kinds files partitions) = subst Kept (sym (rolls-Scan table kinds files partitions)) (λ b. ap erased (distributed-Scan n table kinds files partitions b) ∙ spread_erased n partitions b (Scan table kinds files partitions))
  kept_step (Plan-F.Filter x test) = subst Kept (sym (rolls-Filter x.0 test)) (λ b. ap erased (distributed-Filter n x.0 test b) ∙ erased-Filter (distributed n x.0 b) test ∙ ap (λ (p : Plan). Filter p test) (x.1 b) ∙ sym (erased-Filter x.0 test))
  kept_step (Plan-F.Project x items) = subst Kept (sym (rolls-Project x.0 items)) (λ b. ap erased (distributed-Project n x.0 items b) ∙ erased-Project (distributed n x.0 b) items ∙ ap (λ (p : Plan). Project p items) (x.1 b) ∙ sym (erased-Project x.0 items))
  kept_step (Plan-F.PartialGroup x keys calls) = subst Kept (sym (rolls-PartialGroup x.0 keys calls)) (λ b. ap erased (distributed-PartialGroup n x.0 keys calls b) ∙ erased-PartialGroup (distributed n x.0 true) keys calls ∙ ap (λ (p : Plan). PartialGroup p keys calls) (x.1 true) ∙ sym (erased-PartialGroup x.0 keys calls))
  kept_step (Plan-F.FinalGroup x keys calls) = subst Kept (sym (rolls-FinalGroup x.0 keys calls)) (λ b. ap erased (distributed-FinalGroup n x.0 keys calls b) ∙ erased-FinalGroup (grouped_input keys n (distributed n x.0 b)) keys calls ∙ ap (λ (p : Plan). FinalGroup p keys calls) (grouped_erased keys n (distributed n x.0 b) ∙ x.1 b) ∙ sym (erased-FinalGroup x.0 keys calls))
  kept_step (Plan-F.HashJoin kind x y keys rest) = subst Kept (sym (rolls-HashJoin kind x.0 y.0 keys rest)) (λ b. ap erased (distributed-HashJoin n kind x.0 y.0 keys rest b) ∙ erased-HashJoin kind (join_input (left_keys keys) n (distributed n x.0 true)) (join_input (right_keys keys) n (distributed n y.0 true)) keys rest ∙ ap (λ (p : Plan). HashJoin kind p (erased (join_input (right_keys keys) n (distributed n y.0 true))) keys rest) (hashed_erased (need.JoinHash (left_keys keys) n) (left_keys keys) n (distributed n x.0 true) ∙ x.1 true) ∙ ap (λ (p : Plan). HashJoin kind (erased x.0) p keys rest) (hashed_erased (need.JoinHash (right_keys keys) n) (right_keys keys) n (distributed n y.0 true) ∙ y.1 true) ∙ sym (erased-HashJoin kind x.0 y.0 keys rest))
  kept_step (Plan-F.Sort x keys) = subst Kept (sym (rolls-Sort x.0 keys)) (λ b. ap erased (distributed-Sort n x.0 keys b) ∙ erased-Sort (distributed n x.0 true) keys ∙ x.1 true ∙ sym (erased-Sort x.0 keys))
  kept_step (Plan-F.Merge x keys) = subst Kept (sym (rolls-Merge x.0 keys)) (λ b. ap erased (distributed-Merge n x.0 keys b) ∙ erased-Merge (distributed n x.0 b) keys ∙ x.1 b ∙ sym (erased-Merge x.0 keys))
  kept_step (Plan-F.Coalesce x) = subst Kept (sym (rolls-Coalesce x.0)) (λ b. ap erased (distributed-Coalesce n x.0 b) ∙ erased-Coalesce (distributed n x.0 b) ∙ x.1 b ∙ sym (erased-Coalesce x.0))
  kept_step (Plan-F.Repartition x to) = subst Kept (sym (rolls-Repartition x.0 to)) (λ b. ap erased (distributed-Repartition n x.0 to b) ∙ erased-Repartition (distributed n x.0 b) to ∙ x.1 b ∙ sym (erased-Repartition x.0 to))
  kept_step (Plan-F.UnionAll xs) = subst Kept (sym (rolls-UnionAll (map (λ (k : Kept_plan). k.0) xs))) (λ b. ap erased (distributed-UnionAll n (map (λ (k : Kept_plan). k.0) xs) b) ∙ erased-UnionAll (map (λ (f : Bool → Plan). f b) (map (distributed n) (map (λ (k : Kept_plan). k.0) xs))) ∙ ap UnionAll (all_kept xs b) ∙ sym (erased-UnionAll (map (λ (k : Kept_plan). k.0) xs)))
  kept_step (Plan-F.Limit x skip fetch) = subst Kept (sym (rolls-Limit x.0 skip fetch)) (λ b. ap erased (distributed-Limit n x.0 skip fetch b) ∙ erased-Limit (gathered (distributed n x.0 b)) skip fetch ∙ ap (λ (p : Plan). Limit p skip fetch) (gathered_erased (distributed n x.0 b) ∙ x.1 b) ∙ sym (erased-Limit x.0 skip fetch))

  pub spreading_keeps : (p : Plan) (above : Bool) → erased (distributed n p above) ≡ erased p
  spreading_keeps = ind-Plan Kept (λ x y is. subst (λ z. Kept (roll-Plan z)) is (kept_step y))

-- ---- a test at every node

-- nodes that stay what they are, over the same inputs
abbrev pub passes : Plan-F Plan → Bool
passes (Plan-F.Scan table kinds files partitions) = false
passes (Plan-F.FinalGroup x keys calls) = false
passes (Plan-F.HashJoin kind x y keys rest) = false
passes (Plan-F.Limit x skip fetch) = false
passes _ = true

pub record Spreads (n : ℕ) (T : Test) (C : Plan → Bool) (U : Test) : Type 0 where
  pub child : (z : Plan-F Plan) → T z ≡ true → all_true (map C (kids z)) ≡ true
  pub scan : (table : ℕ) (kinds : List Kind) (files partitions : ℕ) → U (Plan-F.Scan table kinds files partitions) ≡ true
  pub robin : (table : ℕ) (kinds : List Kind) (files partitions : ℕ) → U (Plan-F.Repartition (Scan table kinds files partitions) (parting.RoundRobin n)) ≡ true
  pub same : (z : Plan-F Plan) (b : Bool) → passes z ≡ true → T z ≡ true → U (map-Plan Plan Plan (λ p. distributed n p b) z) ≡ true
  pub group : (p : Plan) (keys : List ℕ) (calls : List AggCall) (b : Bool) → T (Plan-F.FinalGroup p keys calls) ≡ true → U (Plan-F.FinalGroup (grouped_input keys n (distributed n p b)) keys calls) ≡ true
  pub join : (kind : JoinKind) (p q : Plan) (keys : List (ℕ × ℕ)) (rest : Option Expr) → T (Plan-F.HashJoin kind p q keys rest) ≡ true → U (Plan-F.HashJoin kind (join_input (left_keys keys) n (distributed n p true)) (join_input (right_keys keys) n (distributed n q true)) keys rest) ≡ true
  pub limit : (p : Plan) (skip : ℕ) (fetch : Option ℕ) (b : Bool) → T (Plan-F.Limit p skip fetch) ≡ true → U (Plan-F.Limit (gathered (distributed n p b)) skip fetch) ≡ true
  pub hash : (p : Plan) (b : Bool) (d : Distribution) (keys : List ℕ) → C p ≡ true → satisfies_distribution (props (distributed n p b)) d ≡ false → U (Plan-F.Repartition (distributed n p b) (parting.Hash keys n)) ≡ true
  pub coalesce : (p : Plan) (b : Bool) → C p ≡ true → eqb (partitions (distributed n p b)) 1 ≡ false → U (Plan-F.Coalesce (distributed n p b)) ≡ true
  pub merge : (p : Plan) (b : Bool) (keys : List SortKey) → C p ≡ true → eqb (partitions (distributed n p b)) 1 ≡ false → (props (distributed n p b)).ordering ≡ keys → U (Plan-F.Merge (distributed n p b) keys) ≡ true

module _ (n : ℕ) (T : Test) (C : Plan → Bool) (U : Test) (h : Spreads n T C U) where
  abbrev Turns : Plan → Type 0
  Turns p = everywhere T p ≡ true → (above : Bool) → everywhere U (distributed n p above) ≡ true

  abbrev Known : Type 0
  Known = (p : Plan) × Turns p

  spread_holds : (table : ℕ) (kinds : List Kind) (files partitions : ℕ) (above : Bool) → everywhere U (spread n partitions above (Scan table kinds files partitions)) ≡ true
  spread_holds table kinds files partitions above = go (above && nat_lt partitions n)
    where
      scan : everywhere U (Scan table kinds files partitions) ≡ true
      scan = holds-Scan U table kinds files partitions (h.scan table kinds files partitions)

      go : (b : Bool) → everywhere U (cond b (Repartition (Scan table kinds files partitions) (parting.RoundRobin n)) (Scan table kinds files partitions)) ≡ true
      go true = holds-Repartition U (Scan table kinds files partitions) (parting.RoundRobin n) (h.robin table kinds files partitions) scan
      go false = scan

  hashed_holds : (p : Plan) (b : Bool) (d : Distribution) (keys : List ℕ) → C p ≡ true → everywhere U (distributed n p b) ≡ true → everywhere U (hashed d keys n (distributed n p b)) ≡ true
  hashed_holds p b d keys c u = go (satisfies_distribution (props (distributed n p b)) d) refl
    where
      go : (t : Bool) → satisfies_distribution (props (distributed n p b)) d ≡ t → everywhere U (cond t (distributed n p b) (Repartition (distributed n p b) (parting.Hash keys n))) ≡ true
      go true e = u
      go false e = holds-Repartition U (distributed n p b) (parting.Hash keys n) (h.hash p b d keys c e) u

  pub gathered_holds : (p : Plan) (b : Bool) → C p ≡ true → everywhere U (distributed n p b) ≡ true → everywhere U (gathered (distributed n p b)) ≡ true
  gathered_holds p b c u = go (eqb (partitions (distributed n p b)) 1) refl
    where
      by : (keys : List SortKey) → (props (distributed n p b)).ordering ≡ keys → eqb (partitions (distributed n p b)) 1 ≡ false → everywhere U (gathered_by keys (distributed n p b)) ≡ true
      by [] o e = holds-Coalesce U (distributed n p b) (h.coalesce p b c e) u
      by (k ∷ keys) o e = holds-Merge U (distributed n p b) (k ∷ keys) (h.merge p b (k ∷ keys) c e o) u

      go : (t : Bool) → eqb (partitions (distributed n p b)) 1 ≡ t → everywhere U (cond t (distributed n p b) (gathered_by (props (distributed n p b)).ordering (distributed n p b))) ≡ true
      go true e = u
      go false e = by (props (distributed n p b)).ordering refl e

  grouped_holds : (keys : List ℕ) (p : Plan) (b : Bool) → C p ≡ true → everywhere U (distributed n p b) ≡ true → everywhere U (grouped_input keys n (distributed n p b)) ≡ true
  grouped_holds [] p b c u = gathered_holds p b c u
  grouped_holds (k ∷ keys) p b c u = hashed_holds p b (need.Hash (k ∷ keys) n) (k ∷ keys) c u

  all_turn : (xs : List Known) (above : Bool) → all_true (map (everywhere T) (map (λ (k : Known). k.0) xs)) ≡ true → all_true (map (everywhere U) (map (λ (f : Bool → Plan). f above) (map (distributed n) (map (λ (k : Known). k.0) xs)))) ≡ true
  all_turn [] above e = refl
  all_turn (x ∷ xs) above e = let a = and_parts (everywhere T x.0) (all_true (map (everywhere T) (map (λ (k : Known). k.0) xs))) e in both_true _ _ (x.1 a.0 above) (all_turn xs above a.1)

  mapped : (xs : List Plan) (b : Bool) → map (λ (f : Bool → Plan). f b) (map (distributed n) xs) ≡ map (λ (p : Plan). distributed n p b) xs
  mapped [] b = refl
  mapped (x ∷ xs) b = ap (λ (qs : List Plan). distributed n x b ∷ qs) (mapped xs b)

  step : (y : Plan-F Known) → Turns (roll-Plan (map-Plan Known Plan (λ k. k.0) y))
  step (Plan-F.Scan table kinds files partitions) = subst Turns (sym (rolls-Scan table kinds files partitions)) (λ e b. ap (everywhere U) (distributed-Scan n table kinds files partitions b) ∙ spread_holds table kinds files partitions b)
  step (Plan-F.Filter x test) = subst Turns (sym (rolls-Filter x.0 test)) (λ e b. let a = parts-Filter T x.0 test e in ap (everywhere U) (distributed-Filter n x.0 test b) ∙ holds-Filter U (distributed n x.0 b) test (h.same (Plan-F.Filter x.0 test) b refl a.0) (x.1 a.1 b))
  step (Plan-F.Project x items) = subst Turns (sym (rolls-Project x.0 items)) (λ e b. let a = parts-Project T x.0 items e in ap (everywhere U) (distributed-Project n x.0 items b) ∙ holds-Project U (distributed n x.0 b) items (h.same (Plan-F.Project x.0 items) b refl a.0) (x.1 a.1 b))
  step (Plan-F.PartialGroup x keys calls) = subst Turns (sym (rolls-PartialGroup x.0 keys calls)) (λ e b. let a = parts-PartialGroup T x.0 keys calls e in ap (everywhere U) (distributed-PartialGroup n x.0 keys calls b) ∙ holds-PartialGroup U (distributed n x.0 true) keys calls (h.same (Plan-F.PartialGroup x.0 keys calls) true refl a.0) (x.1 a.1 true))
  step (Plan-F.FinalGroup x keys calls) = subst Turns (sym (rolls-FinalGroup x.0 keys calls)) (λ e b. let a = parts-FinalGroup T x.0 keys calls e in let c = and_parts (C x.0) true (h.child (Plan-F.FinalGroup x.0 keys calls) a.0) in ap (everywhere U) (distributed-FinalGroup n x.0 keys calls b) ∙ holds-FinalGroup U (grouped_input keys n (distributed n x.0 b)) keys calls (h.group x.0 keys calls b a.0) (grouped_holds keys x.0 b c.0 (x.1 a.1 b)))
  step (Plan-F.HashJoin kind x y keys rest) = subst Turns (sym (rolls-HashJoin kind x.0 y.0 keys rest)) (λ e b. let a = parts-HashJoin T kind x.0 y.0 keys rest e in let c = and_parts (C x.0) (C y.0 && true) (h.child (Plan-F.HashJoin kind x.0 y.0 keys rest) a.0) in let d = and_parts (C y.0) true c.1 in ap (everywhere U) (distributed-HashJoin n kind x.0 y.0 keys rest b) ∙ holds-HashJoin U kind (join_input (left_keys keys) n (distributed n x.0 true)) (join_input (right_keys keys) n (distributed n y.0 true)) keys rest (h.join kind x.0 y.0 keys rest a.0) (hashed_holds x.0 true (need.JoinHash (left_keys keys) n) (left_keys keys) c.0 (x.1 a.1 true)) (hashed_holds y.0 true (need.JoinHash (right_keys keys) n) (right_keys keys) d.0 (y.1 a.2 true)))
  step (Plan-F.Sort x keys) = subst Turns (sym (rolls-Sort x.0 keys)) (λ e b. let a = parts-Sort T x.0 keys e in ap (everywhere U) (distributed-Sort n x.0 keys b) ∙ holds-Sort U (distributed n x.0 true) keys (h.same (Plan-F.Sort x.0 keys) true refl a.0) (x.1 a.1 true))
  step (Plan-F.Merge x keys) = subst Turns (sym (rolls-Merge x.0 keys)) (λ e b. let a = parts-Merge T x.0 keys e in ap (everywhere U) (distributed-Merge n x.0 keys b) ∙ holds-Merge U (distributed n x.0 b) keys (h.same (Plan-F.Merge x.0 keys) b refl a.0) (x.1 a.1 b))
  step (Plan-F.Coalesce x) = subst Turns (sym (rolls-Coalesce x.0)) (λ e b. let a = parts-Coalesce T x.0 e in ap (everywhere U) (distributed-Coalesce n x.0 b) ∙ holds-Coalesce U (distributed n x.0 b) (h.same (Plan-F.Coalesce x.0) b refl a.0) (x.1 a.1 b))
  step (Plan-F.Repartition x to) = subst Turns (sym (rolls-Repartition x.0 to)) (λ e b. let a = parts-Repartition T x.0 to e in ap (everywhere U) (distributed-Repartition n x.0 to b) ∙ holds-Repartition U (distributed n x.0 b) to (h.same (Plan-F.Repartition x.0 to) b refl a.0) (x.1 a.1 b))
  step (Plan-F.UnionAll xs) = subst Turns (sym (rolls-UnionAll (map (λ (k : Known). k.0) xs))) (λ e b. let a = parts-UnionAll T (map (λ (k : Known). k.0) xs) e in ap (everywhere U) (distributed-UnionAll n (map (λ (k : Known). k.0) xs) b) ∙ holds-UnionAll U (map (λ (f : Bool → Plan). f b) (map (distributed n) (map (λ (k : Known). k.0) xs))) (ap (λ (qs : List Plan). U (Plan-F.UnionAll qs)) (mapped (map (λ (k : Known). k.0) xs) b) ∙ h.same (Plan-F.UnionAll (map (λ (k : Known). k.0) xs)) b refl a.0) (all_turn xs b a.1))
  step (Plan-F.Limit x skip fetch) = subst Turns (sym (rolls-Limit x.0 skip fetch)) (λ e b. let a = parts-Limit T x.0 skip fetch e in let c = and_parts (C x.0) true (h.child (Plan-F.Limit x.0 skip fetch) a.0) in ap (everywhere U) (distributed-Limit n x.0 skip fetch b) ∙ holds-Limit U (gathered (distributed n x.0 b)) skip fetch (h.limit x.0 skip fetch b a.0) (gathered_holds x.0 b c.0 (x.1 a.1 b)))

  pub spreads : (p : Plan) → everywhere T p ≡ true → (above : Bool) → everywhere U (distributed n p above) ≡ true
  spreads = ind-Plan Turns (λ x y is. subst (λ z. Turns (roll-Plan z)) is (step y))
