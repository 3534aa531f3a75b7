-- Sorts move no exchange.
use Rattle.std.proofs.Common.{◌≡◌, refl, sym, ap, ◌∙◌, subst, cond, Bool, true, false, List, [], ◌∷◌, ◌++◌, map}
use Rattle.std.proofs.lemmas.Bool.{false≢true}
use Rattle.dfx_value.specs.Items.{concat}
use Rattle.dfx_value.specs.declared.rows.SortKey.{SortKey}
use Rattle.plan_props.specs.Satisfies.{satisfies_order}
use Rattle.plan_props.specs.declared.properties.Partitioning.{Partitioning}
use Rattle.plan_props.specs.declared.properties.Partitioning.TheVariants as parting
use Rattle.physical_plan.specs.declared.plan.Plan.{Plan, out-Plan}
use Rattle.physical_plan.specs.declared.plan.Plan.TheOpen.{Plan-F}
use Rattle.physical_plan.specs.declared.plan.Plan.TheViews.{roll-Plan}
use Rattle.physical_plan.specs.declared.plan.Plan.TheFolds.{map-Plan, ind-Plan}
use Rattle.physical_plan.specs.declared.plan.Plan.TheVariants.{Scan, Sort, rolls-Scan, rolls-Filter, rolls-Project, rolls-PartialGroup, rolls-FinalGroup, rolls-HashJoin, rolls-Sort, rolls-Merge, rolls-Coalesce, rolls-Repartition, rolls-UnionAll, rolls-Limit}
use Rattle.physical_plan.specs.Properties.{props}
use Rattle.enforce_sort.specs.Arrange.{with_sort, enforce_sorting}
use Rattle.physical_plan.specs.Everywhere.{everywhere, all_true}
use Rattle.planned_laws.specs.Finished.{on_scan, on_scans, robin_on, is_robin, Wanting, found}
use Rattle.enforce_sort.proofs.Nodes.{arranged-Scan, arranged-Filter, arranged-Project, arranged-PartialGroup, arranged-FinalGroup, arranged-HashJoin, arranged-Sort, arranged-Merge, arranged-Coalesce, arranged-Repartition, arranged-UnionAll, arranged-Limit}
use Rattle.physical_plan.proofs.Everywhere.{and_parts, parts-Filter, parts-Project, parts-PartialGroup, parts-FinalGroup, parts-HashJoin, parts-Sort, parts-Merge, parts-Coalesce, parts-Repartition, parts-UnionAll, parts-Limit}
use Rattle.planned_laws.proofs.Wantings.{found-Filter, found-Project, found-PartialGroup, found-FinalGroup, found-HashJoin, found-Sort, found-Merge, found-Coalesce, found-Repartition, found-UnionAll, found-Limit}
use Rattle.planned_laws.proofs.Tops.{made}

sorted_found : (keys : List SortKey) (p : Plan) → found (with_sort keys p) false ≡ found p false
sorted_found keys p = go (satisfies_order (props p) keys)
  where
    go : (b : Bool) → found (cond b p (Sort p keys)) false ≡ found p false
    go true = refl
    go false = found-Sort p keys false

-- ---- sorts move nothing

abbrev Stays : Plan → Type 0
Stays p = everywhere on_scans p ≡ true → found (enforce_sorting p) false ≡ found p false

abbrev Kept : Type 0
Kept = (p : Plan) × Stays p

abbrev kepts : List Kept → List Plan
kepts xs = map (λ (k : Kept). k.0) xs

all_stay : (xs : List Kept) → all_true (map (everywhere on_scans) (kepts xs)) ≡ true → concat (map (λ (f : Wanting). f false) (map found (map enforce_sorting (kepts xs)))) ≡ concat (map (λ (f : Wanting). f false) (map found (kepts xs)))
all_stay [] e = refl
all_stay (x ∷ xs) e =
    let a = and_parts (everywhere on_scans x.0) (all_true (map (everywhere on_scans) (kepts xs))) e in
    ap (λ (bs : List Bool). bs ++ concat (map (λ (f : Wanting). f false) (map found (map enforce_sorting (kepts xs))))) (x.1 a.0)
    ∙ ap (λ (bs : List Bool). found x.0 false ++ bs) (all_stay xs a.1)

scan_same : (p : Plan) (z : Plan-F Plan) → out-Plan p ≡ z → on_scan z ≡ true → enforce_sorting p ≡ p
scan_same p (Plan-F.Scan t k f c) e h = let m = made p (Plan-F.Scan t k f c) (Scan t k f c) e (rolls-Scan t k f c) in ap enforce_sorting m ∙ arranged-Scan t k f c ∙ sym m
scan_same p _ e h = absurd (false≢true h)

robin_same : (x : Plan) (to : Partitioning) → robin_on to x ≡ true → found (enforce_sorting x) false ≡ found x false → found (enforce_sorting x) (is_robin to) ≡ found x (is_robin to)
robin_same x parting.Single r h = h
robin_same x (parting.RoundRobin m) r h = ap (λ (p : Plan). found p true) (scan_same x (out-Plan x) refl r)
robin_same x (parting.Hash cs m) r h = h
robin_same x (parting.Unknown m) r h = h

stay_step : (y : Plan-F Kept) → Stays (roll-Plan (map-Plan Kept Plan (λ k. k.0) y))
stay_step (Plan-F.Scan t k f c) = subst Stays (sym (rolls-Scan t k f c)) (λ e. ap (λ (p : Plan). found p false) (arranged-Scan t k f c))
stay_step (Plan-F.Filter x test) = subst Stays (sym (rolls-Filter x.0 test)) (λ e. let a = parts-Filter on_scans x.0 test e in ap (λ (p : Plan). found p false) (arranged-Filter x.0 test) ∙ found-Filter (enforce_sorting x.0) test false ∙ x.1 a.1 ∙ sym (found-Filter x.0 test false))
stay_step (Plan-F.Project x items) = subst Stays (sym (rolls-Project x.0 items)) (λ e. let a = parts-Project on_scans x.0 items e in ap (λ (p : Plan). found p false) (arranged-Project x.0 items) ∙ found-Project (enforce_sorting x.0) items false ∙ x.1 a.1 ∙ sym (found-Project x.0 items false))
stay_step (Plan-F.PartialGroup x keys calls) = subst Stays (sym (rolls-PartialGroup x.0 keys calls)) (λ e. let a = parts-PartialGroup on_scans x.0 keys calls e in ap (λ (p : Plan). found p false) (arranged-PartialGroup x.0 keys calls) ∙ found-PartialGroup (enforce_sorting x.0) keys calls false ∙ x.1 a.1 ∙ sym (found-PartialGroup x.0 keys calls false))
stay_step (Plan-F.FinalGroup x keys calls) = subst Stays (sym (rolls-FinalGroup x.0 keys calls)) (λ e. let a = parts-FinalGroup on_scans x.0 keys calls e in ap (λ (p : Plan). found p false) (arranged-FinalGroup x.0 keys calls) ∙ found-FinalGroup (enforce_sorting x.0) keys calls false ∙ x.1 a.1 ∙ sym (found-FinalGroup x.0 keys calls false))
stay_step (Plan-F.Coalesce x) = subst Stays (sym (rolls-Coalesce x.0)) (λ e. let a = parts-Coalesce on_scans x.0 e in ap (λ (p : Plan). found p false) (arranged-Coalesce x.0) ∙ found-Coalesce (enforce_sorting x.0) false ∙ x.1 a.1 ∙ sym (found-Coalesce x.0 false))
stay_step (Plan-F.Limit x skip fetch) = subst Stays (sym (rolls-Limit x.0 skip fetch)) (λ e. let a = parts-Limit on_scans x.0 skip fetch e in ap (λ (p : Plan). found p false) (arranged-Limit x.0 skip fetch) ∙ found-Limit (enforce_sorting x.0) skip fetch false ∙ x.1 a.1 ∙ sym (found-Limit x.0 skip fetch false))
stay_step (Plan-F.Sort x keys) = subst Stays (sym (rolls-Sort x.0 keys)) (λ e. let a = parts-Sort on_scans x.0 keys e in ap (λ (p : Plan). found p false) (arranged-Sort x.0 keys) ∙ sorted_found keys (enforce_sorting x.0) ∙ x.1 a.1 ∙ sym (found-Sort x.0 keys false))
stay_step (Plan-F.Merge x keys) = subst Stays (sym (rolls-Merge x.0 keys)) (λ e. let a = parts-Merge on_scans x.0 keys e in ap (λ (p : Plan). found p false) (arranged-Merge x.0 keys) ∙ found-Merge (with_sort keys (enforce_sorting x.0)) keys false ∙ sorted_found keys (enforce_sorting x.0) ∙ x.1 a.1 ∙ sym (found-Merge x.0 keys false))
stay_step (Plan-F.HashJoin kind x y keys rest) = subst Stays (sym (rolls-HashJoin kind x.0 y.0 keys rest)) (λ e. let a = parts-HashJoin on_scans kind x.0 y.0 keys rest e in ap (λ (p : Plan). found p false) (arranged-HashJoin kind x.0 y.0 keys rest) ∙ found-HashJoin kind (enforce_sorting x.0) (enforce_sorting y.0) keys rest false ∙ ap (λ (bs : List Bool). bs ++ found (enforce_sorting y.0) false) (x.1 a.1) ∙ ap (λ (bs : List Bool). found x.0 false ++ bs) (y.1 a.2) ∙ sym (found-HashJoin kind x.0 y.0 keys rest false))
stay_step (Plan-F.Repartition x to) = subst Stays (sym (rolls-Repartition x.0 to)) (λ e. let a = parts-Repartition on_scans x.0 to e in ap (λ (p : Plan). found p false) (arranged-Repartition x.0 to) ∙ found-Repartition (enforce_sorting x.0) to false ∙ robin_same x.0 to a.0 (x.1 a.1) ∙ sym (found-Repartition x.0 to false))
stay_step (Plan-F.UnionAll xs) = subst Stays (sym (rolls-UnionAll (kepts xs))) (λ e. let a = parts-UnionAll on_scans (kepts xs) e in ap (λ (p : Plan). found p false) (arranged-UnionAll (kepts xs)) ∙ found-UnionAll (map enforce_sorting (kepts xs)) false ∙ all_stay xs a.1 ∙ sym (found-UnionAll (kepts xs) false))

pub found_stays : (p : Plan) → everywhere on_scans p ≡ true → found (enforce_sorting p) false ≡ found p false
found_stays = ind-Plan Stays (λ x y is. subst (λ z. Stays (roll-Plan z)) is (stay_step y))
