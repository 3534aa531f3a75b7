-- What is sorted is in order, and a test that holds before gives one that holds after.
use Rattle.std.proofs.Common.{◌≡◌, refl, sym, ap, ◌∙◌, subst, cond, Bool, true, false, List, [], ◌∷◌, map}
use Rattle.std.proofs.lemmas.Bool.{eq-eqb}
use Rattle.dfx_value.specs.declared.rows.SortKey.{SortKey}
use Rattle.plan_props.specs.Satisfies.{satisfies_order, struck, is_front, equal_truths}
use Rattle.plan_props.specs.declared.properties.Props.{Props}
use Rattle.physical_plan.specs.declared.plan.Plan.{Plan}
use Rattle.physical_plan.specs.declared.plan.Plan.TheOpen.{Plan-F}
use Rattle.physical_plan.specs.declared.plan.Plan.TheViews.{roll-Plan}
use Rattle.physical_plan.specs.declared.plan.Plan.TheFolds.{map-Plan, ind-Plan}
use Rattle.physical_plan.specs.declared.plan.Plan.TheVariants.{Filter, Project, PartialGroup, FinalGroup, HashJoin, Sort, UnionAll, Limit, rolls-Scan, rolls-Filter, rolls-Project, rolls-PartialGroup, rolls-FinalGroup, rolls-HashJoin, rolls-Sort, rolls-Merge, rolls-Coalesce, rolls-Repartition, rolls-UnionAll, rolls-Limit}
use Rattle.physical_plan.specs.declared.properties.Declared.{Declared}
use Rattle.physical_plan.specs.Properties.{props, partitions}
use Rattle.enforce_sort.specs.Arrange.{with_sort, enforce_sorting}
use Rattle.physical_plan.specs.Everywhere.{Test, everywhere, all_true, kids, erased}
use Rattle.physical_plan.proofs.Nodes.{declared-Sort}
use Rattle.enforce_sort.proofs.Nodes.{arranged-Scan, arranged-Filter, arranged-Project, arranged-PartialGroup, arranged-FinalGroup, arranged-HashJoin, arranged-Sort, arranged-Merge, arranged-Coalesce, arranged-Repartition, arranged-UnionAll, arranged-Limit}
use Rattle.physical_plan.proofs.Everywhere.{both_true, and_parts, holds-Scan, holds-Filter, holds-Project, holds-PartialGroup, holds-FinalGroup, holds-HashJoin, holds-Sort, holds-Merge, holds-Coalesce, holds-Repartition, holds-UnionAll, holds-Limit, parts-Scan, parts-Filter, parts-Project, parts-PartialGroup, parts-FinalGroup, parts-HashJoin, parts-Sort, parts-Merge, parts-Coalesce, parts-Repartition, parts-UnionAll, parts-Limit, erased-Filter, erased-Project, erased-PartialGroup, erased-FinalGroup, erased-HashJoin, erased-Sort, erased-Merge, erased-Coalesce, erased-Repartition, erased-UnionAll, erased-Limit}

-- an order satisfies itself
same_both : (b : Bool) → equal_truths b b ≡ true
same_both true = refl
same_both false = refl

leads_itself : (p : Props) (ks : List SortKey) → is_front p ks ks ≡ true
leads_itself p [] = refl
leads_itself p (k ∷ ks) = both_true _ _ (both_true _ _ (both_true _ _ (eq-eqb _ _ refl) (same_both k.descending)) (same_both k.nulls_first)) (leads_itself p ks)

pub order_itself : (p : Props) → satisfies_order p p.ordering ≡ true
unfolding satisfies_order
order_itself p = leads_itself p (struck p [] p.ordering)

-- what a sort gives is sorted by its keys
pub sorted_by : (keys : List SortKey) (p : Plan) → satisfies_order (props (with_sort keys p)) keys ≡ true
sorted_by keys p = go (satisfies_order (props p) keys) refl
  where
    go : (b : Bool) → satisfies_order (props p) keys ≡ b → satisfies_order (props (cond b p (Sort p keys))) keys ≡ true
    go true e = e
    go false e = ap (λ (d : Declared). satisfies_order d.props keys) (declared-Sort p keys) ∙ order_itself (record { partitioning = (props p).partitioning; ordering = keys; same = (props p).same; constants = (props p).constants })

-- nodes that sorting leaves alone
abbrev pub stays : Plan-F Plan → Bool
stays (Plan-F.Sort x keys) = false
stays (Plan-F.Merge x keys) = false
stays _ = true

-- a test T before gives a test U after
pub record Arranges (T U : Test) : Type 0 where
  pub same : (z : Plan-F Plan) → stays z ≡ true → T z ≡ true → all_true (map (everywhere T) (kids z)) ≡ true → U (map-Plan Plan Plan enforce_sorting z) ≡ true
  pub sort : (p : Plan) (keys : List SortKey) → T (Plan-F.Sort p keys) ≡ true → everywhere T p ≡ true → satisfies_order (props (enforce_sorting p)) keys ≡ false → U (Plan-F.Sort (enforce_sorting p) keys) ≡ true
  pub below : (p : Plan) (keys : List SortKey) → T (Plan-F.Merge p keys) ≡ true → everywhere T p ≡ true → satisfies_order (props (enforce_sorting p)) keys ≡ false → U (Plan-F.Sort (enforce_sorting p) keys) ≡ true
  pub merge : (p : Plan) (keys : List SortKey) → T (Plan-F.Merge p keys) ≡ true → everywhere T p ≡ true → U (Plan-F.Merge (with_sort keys (enforce_sorting p)) keys) ≡ true

module _ (T U : Test) (h : Arranges T U) where
  abbrev Turns : Plan → Type 0
  Turns p = everywhere T p ≡ true → everywhere U (enforce_sorting p) ≡ true

  abbrev Known : Type 0
  Known = (p : Plan) × Turns p

  put : (keys : List SortKey) (p : Plan) → (satisfies_order (props p) keys ≡ false → U (Plan-F.Sort p keys) ≡ true) → everywhere U p ≡ true → everywhere U (with_sort keys p) ≡ true
  put keys p f u = go (satisfies_order (props p) keys) refl
    where
      go : (b : Bool) → satisfies_order (props p) keys ≡ b → everywhere U (cond b p (Sort p keys)) ≡ true
      go true e = u
      go false e = holds-Sort U p keys (f e) u

  all_turn : (xs : List Known) → all_true (map (everywhere T) (map (λ (k : Known). k.0) xs)) ≡ true → all_true (map (everywhere U) (map enforce_sorting (map (λ (k : Known). k.0) xs))) ≡ true
  all_turn [] e = refl
  all_turn (x ∷ xs) e = let a = and_parts (everywhere T x.0) (all_true (map (everywhere T) (map (λ (k : Known). k.0) xs))) e in both_true _ _ (x.1 a.0) (all_turn xs a.1)

  step : (y : Plan-F Known) → Turns (roll-Plan (map-Plan Known Plan (λ k. k.0) y))
  step (Plan-F.Scan table kinds files partitions) = subst Turns (sym (rolls-Scan table kinds files partitions)) (λ e. ap (everywhere U) (arranged-Scan table kinds files partitions) ∙ holds-Scan U table kinds files partitions (h.same (Plan-F.Scan table kinds files partitions) refl (parts-Scan T table kinds files partitions e) refl))
  step (Plan-F.Filter x test) = subst Turns (sym (rolls-Filter x.0 test)) (λ e. let a = parts-Filter T x.0 test e in ap (everywhere U) (arranged-Filter x.0 test) ∙ holds-Filter U (enforce_sorting x.0) test (h.same (Plan-F.Filter x.0 test) refl a.0 (both_true _ _ a.1 refl)) (x.1 a.1))
  step (Plan-F.Project x items) = subst Turns (sym (rolls-Project x.0 items)) (λ e. let a = parts-Project T x.0 items e in ap (everywhere U) (arranged-Project x.0 items) ∙ holds-Project U (enforce_sorting x.0) items (h.same (Plan-F.Project x.0 items) refl a.0 (both_true _ _ a.1 refl)) (x.1 a.1))
  step (Plan-F.PartialGroup x keys calls) = subst Turns (sym (rolls-PartialGroup x.0 keys calls)) (λ e. let a = parts-PartialGroup T x.0 keys calls e in ap (everywhere U) (arranged-PartialGroup x.0 keys calls) ∙ holds-PartialGroup U (enforce_sorting x.0) keys calls (h.same (Plan-F.PartialGroup x.0 keys calls) refl a.0 (both_true _ _ a.1 refl)) (x.1 a.1))
  step (Plan-F.FinalGroup x keys calls) = subst Turns (sym (rolls-FinalGroup x.0 keys calls)) (λ e. let a = parts-FinalGroup T x.0 keys calls e in ap (everywhere U) (arranged-FinalGroup x.0 keys calls) ∙ holds-FinalGroup U (enforce_sorting x.0) keys calls (h.same (Plan-F.FinalGroup x.0 keys calls) refl a.0 (both_true _ _ a.1 refl)) (x.1 a.1))
  step (Plan-F.HashJoin kind x y keys rest) = subst Turns (sym (rolls-HashJoin kind x.0 y.0 keys rest)) (λ e. let a = parts-HashJoin T kind x.0 y.0 keys rest e in ap (everywhere U) (arranged-HashJoin kind x.0 y.0 keys rest) ∙ holds-HashJoin U kind (enforce_sorting x.0) (enforce_sorting y.0) keys rest (h.same (Plan-F.HashJoin kind x.0 y.0 keys rest) refl a.0 (both_true _ _ a.1 (both_true _ _ a.2 refl))) (x.1 a.1) (y.1 a.2))
  step (Plan-F.Sort x keys) = subst Turns (sym (rolls-Sort x.0 keys)) (λ e. let a = parts-Sort T x.0 keys e in ap (everywhere U) (arranged-Sort x.0 keys) ∙ put keys (enforce_sorting x.0) (h.sort x.0 keys a.0 a.1) (x.1 a.1))
  step (Plan-F.Merge x keys) = subst Turns (sym (rolls-Merge x.0 keys)) (λ e. let a = parts-Merge T x.0 keys e in ap (everywhere U) (arranged-Merge x.0 keys) ∙ holds-Merge U (with_sort keys (enforce_sorting x.0)) keys (h.merge x.0 keys a.0 a.1) (put keys (enforce_sorting x.0) (h.below x.0 keys a.0 a.1) (x.1 a.1)))
  step (Plan-F.Coalesce x) = subst Turns (sym (rolls-Coalesce x.0)) (λ e. let a = parts-Coalesce T x.0 e in ap (everywhere U) (arranged-Coalesce x.0) ∙ holds-Coalesce U (enforce_sorting x.0) (h.same (Plan-F.Coalesce x.0) refl a.0 (both_true _ _ a.1 refl)) (x.1 a.1))
  step (Plan-F.Repartition x to) = subst Turns (sym (rolls-Repartition x.0 to)) (λ e. let a = parts-Repartition T x.0 to e in ap (everywhere U) (arranged-Repartition x.0 to) ∙ holds-Repartition U (enforce_sorting x.0) to (h.same (Plan-F.Repartition x.0 to) refl a.0 (both_true _ _ a.1 refl)) (x.1 a.1))
  step (Plan-F.UnionAll xs) = subst Turns (sym (rolls-UnionAll (map (λ (k : Known). k.0) xs))) (λ e. let a = parts-UnionAll T (map (λ (k : Known). k.0) xs) e in ap (everywhere U) (arranged-UnionAll (map (λ (k : Known). k.0) xs)) ∙ holds-UnionAll U (map enforce_sorting (map (λ (k : Known). k.0) xs)) (h.same (Plan-F.UnionAll (map (λ (k : Known). k.0) xs)) refl a.0 a.1) (all_turn xs a.1))
  step (Plan-F.Limit x skip fetch) = subst Turns (sym (rolls-Limit x.0 skip fetch)) (λ e. let a = parts-Limit T x.0 skip fetch e in ap (everywhere U) (arranged-Limit x.0 skip fetch) ∙ holds-Limit U (enforce_sorting x.0) skip fetch (h.same (Plan-F.Limit x.0 skip fetch) refl a.0 (both_true _ _ a.1 refl)) (x.1 a.1))

  pub arranges : (p : Plan) → everywhere T p ≡ true → everywhere U (enforce_sorting p) ≡ true
  arranges = ind-Plan Turns (λ x y is. subst (λ z. Turns (roll-Plan z)) is (step y))

-- ---- the same tree

abbrev Kept : Plan → Type 0
Kept p = erased (enforce_sorting p) ≡ erased p

abbrev Kept_plan : Type 0
Kept_plan = (p : Plan) × Kept p

pub sorted_erased : (keys : List SortKey) (p : Plan) → erased (with_sort keys p) ≡ erased p
sorted_erased keys p = go (satisfies_order (props p) keys)
  where
    go : (b : Bool) → erased (cond b p (Sort p keys)) ≡ erased p
    go true = refl
    go false = erased-Sort p keys

all_kept : (xs : List Kept_plan) → map erased (map enforce_sorting (map (λ (k : Kept_plan). k.0) xs)) ≡ map erased (map (λ (k : Kept_plan). k.0) xs)
all_kept [] = refl
all_kept (x ∷ xs) = ap (λ (q : Plan). q ∷ map erased (map enforce_sorting (map (λ (k : Kept_plan). k.0) xs))) x.1 ∙ ap (λ (qs : List Plan). erased x.0 ∷ qs) (all_kept xs)

kept_step : (y : Plan-F Kept_plan) → Kept (roll-Plan (map-Plan Kept_plan Plan (λ k. k.0) y))
kept_step (Plan-F.Scan table kinds files partitions) = subst Kept (sym (rolls-Scan table kinds files partitions)) (ap erased (arranged-Scan table kinds files partitions))
kept_step (Plan-F.Filter x test) = subst Kept (sym (rolls-Filter x.0 test)) (ap erased (arranged-Filter x.0 test) ∙ erased-Filter (enforce_sorting x.0) test ∙ ap (λ (p : Plan). Filter p test) x.1 ∙ sym (erased-Filter x.0 test))
kept_step (Plan-F.Project x items) = subst Kept (sym (rolls-Project x.0 items)) (ap erased (arranged-Project x.0 items) ∙ erased-Project (enforce_sorting x.0) items ∙ ap (λ (p : Plan). Project p items) x.1 ∙ sym (erased-Project x.0 items))
kept_step (Plan-F.PartialGroup x keys calls) = subst Kept (sym (rolls-PartialGroup x.0 keys calls)) (ap erased (arranged-PartialGroup x.0 keys calls) ∙ erased-PartialGroup (enforce_sorting x.0) keys calls ∙ ap (λ (p : Plan). PartialGroup p keys calls) x.1 ∙ sym (erased-PartialGroup x.0 keys calls))
kept_step (Plan-F.FinalGroup x keys calls) = subst Kept (sym (rolls-FinalGroup x.0 keys calls)) (ap erased (arranged-FinalGroup x.0 keys calls) ∙ erased-FinalGroup (enforce_sorting x.0) keys calls ∙ ap (λ (p : Plan). FinalGroup p keys calls) x.1 ∙ sym (erased-FinalGroup x.0 keys calls))
kept_step (Plan-F.HashJoin kind x y keys rest) = subst Kept (sym (rolls-HashJoin kind x.0 y.0 keys rest)) (ap erased (arranged-HashJoin kind x.0 y.0 keys rest) ∙ erased-HashJoin kind (enforce_sorting x.0) (enforce_sorting y.0) keys rest ∙ ap (λ (p : Plan). HashJoin kind p (erased (enforce_sorting y.0)) keys rest) x.1 ∙ ap (λ (p : Plan). HashJoin kind (erased x.0) p keys rest) y.1 ∙ sym (erased-HashJoin kind x.0 y.0 keys rest))
kept_step (Plan-F.Sort x keys) = subst Kept (sym (rolls-Sort x.0 keys)) (ap erased (arranged-Sort x.0 keys) ∙ sorted_erased keys (enforce_sorting x.0) ∙ x.1 ∙ sym (erased-Sort x.0 keys))
kept_step (Plan-F.Merge x keys) = subst Kept (sym (rolls-Merge x.0 keys)) (ap erased (arranged-Merge x.0 keys) ∙ erased-Merge (with_sort keys (enforce_sorting x.0)) keys ∙ sorted_erased keys (enforce_sorting x.0) ∙ x.1 ∙ sym (erased-Merge x.0 keys))
kept_step (Plan-F.Coalesce x) = subst Kept (sym (rolls-Coalesce x.0)) (ap erased (arranged-Coalesce x.0) ∙ erased-Coalesce (enforce_sorting x.0) ∙ x.1 ∙ sym (erased-Coalesce x.0))
kept_step (Plan-F.Repartition x to) = subst Kept (sym (rolls-Repartition x.0 to)) (ap erased (arranged-Repartition x.0 to) ∙ erased-Repartition (enforce_sorting x.0) to ∙ x.1 ∙ sym (erased-Repartition x.0 to))
kept_step (Plan-F.UnionAll xs) = subst Kept (sym (rolls-UnionAll (map (λ (k : Kept_plan). k.0) xs))) (ap erased (arranged-UnionAll (map (λ (k : Kept_plan). k.0) xs)) ∙ erased-UnionAll (map enforce_sorting (map (λ (k : Kept_plan). k.0) xs)) ∙ ap UnionAll (all_kept xs) ∙ sym (erased-UnionAll (map (λ (k : Kept_plan). k.0) xs)))
kept_step (Plan-F.Limit x skip fetch) = subst Kept (sym (rolls-Limit x.0 skip fetch)) (ap erased (arranged-Limit x.0 skip fetch) ∙ erased-Limit (enforce_sorting x.0) skip fetch ∙ ap (λ (p : Plan). Limit p skip fetch) x.1 ∙ sym (erased-Limit x.0 skip fetch))

pub sorting_keeps : (p : Plan) → erased (enforce_sorting p) ≡ erased p
sorting_keeps = ind-Plan Kept (λ x y is. subst (λ z. Kept (roll-Plan z)) is (kept_step y))
