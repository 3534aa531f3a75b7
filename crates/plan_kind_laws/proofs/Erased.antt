-- Exchanges, sorts and merges keep the kinds of a plan's columns.
use Rattle.std.proofs.Common.{◌≡◌, refl, sym, ap, ◌∙◌, subst, List, [], ◌∷◌, Option, map}
use Rattle.dfx_value.specs.declared.kind.Kind.{Kind}
use Rattle.scalar_exprs.specs.Kinds.{◌>>=◌}
use Rattle.physical_plan.specs.declared.plan.Plan.{Plan}
use Rattle.physical_plan.specs.declared.plan.Plan.TheVariants.{rolls-Scan, rolls-Filter, rolls-Project, rolls-PartialGroup, rolls-FinalGroup, rolls-HashJoin, rolls-UnionAll, rolls-Limit}
use Rattle.physical_plan.specs.declared.plan.Plan.TheOpen.{Plan-F}
use Rattle.physical_plan.specs.declared.plan.Plan.TheViews.{roll-Plan}
use Rattle.physical_plan.specs.declared.plan.Plan.TheFolds.{fold-roll-Plan, map-Plan, ind-Plan}
use Rattle.physical_plan.specs.Everywhere.{bare_node, erased}
use Rattle.plan_kinds.specs.Kinds.{kinds, node_kinds, projected_kinds, partial_kinds, final_kinds, side_by_side, union_kinds}
use Rattle.plan_kinds.proofs.Nodes.{kinds_rolled}

erased_rolled : (z : Plan-F Plan) → erased (roll-Plan z) ≡ bare_node (map-Plan Plan Plan erased z)
unfolding erased
erased_rolled z = fold-roll-Plan Plan bare_node z

abbrev Same : Plan → Type 0
Same p = kinds (erased p) ≡ kinds p

abbrev Known : Type 0
Known = (p : Plan) × Same p

abbrev here : Plan-F Plan → Option (List Kind)
here z = node_kinds (map-Plan Plan (Option (List Kind)) kinds z)

level : (z y : Plan-F Plan) → bare_node (map-Plan Plan Plan erased z) ≡ roll-Plan y → here y ≡ here z → Same (roll-Plan z)
level z y e m = ap kinds (erased_rolled z ∙ e) ∙ kinds_rolled y ∙ m ∙ sym (kinds_rolled z)

-- a node that is left out
leaves : (z : Plan-F Plan) (q : Plan) → bare_node (map-Plan Plan Plan erased z) ≡ erased q → here z ≡ kinds q → Same q → Same (roll-Plan z)
leaves z q e m h = ap kinds (erased_rolled z ∙ e) ∙ h ∙ sym m ∙ sym (kinds_rolled z)

abbrev plans : List Known → List Plan
plans ps = map (λ (p : Known). p.0) ps

all_same : (ps : List Known) → map kinds (map erased (plans ps)) ≡ map kinds (plans ps)
all_same [] = refl
all_same (p ∷ ps) = ap (λ m. m ∷ map kinds (map erased (plans ps))) p.1 ∙ ap (λ ms. kinds p.0 ∷ ms) (all_same ps)

step : (y : Plan-F Known) → Same (roll-Plan (map-Plan Known Plan (λ k. k.0) y))
step (Plan-F.Scan table ks files partitions) = level (Plan-F.Scan table ks files partitions) (Plan-F.Scan table ks files partitions) (sym (rolls-Scan table ks files partitions)) refl
step (Plan-F.Filter x test) = level (Plan-F.Filter x.0 test) (Plan-F.Filter (erased x.0) test) (sym (rolls-Filter (erased x.0) test)) x.1
step (Plan-F.Project x items) = level (Plan-F.Project x.0 items) (Plan-F.Project (erased x.0) items) (sym (rolls-Project (erased x.0) items)) (ap (λ o. o >>= λ columns. projected_kinds columns items) x.1)
step (Plan-F.PartialGroup x keys calls) = level (Plan-F.PartialGroup x.0 keys calls) (Plan-F.PartialGroup (erased x.0) keys calls) (sym (rolls-PartialGroup (erased x.0) keys calls)) (ap (λ o. o >>= partial_kinds keys calls) x.1)
step (Plan-F.FinalGroup x keys calls) = level (Plan-F.FinalGroup x.0 keys calls) (Plan-F.FinalGroup (erased x.0) keys calls) (sym (rolls-FinalGroup (erased x.0) keys calls)) (ap (λ o. o >>= final_kinds keys calls) x.1)
step (Plan-F.HashJoin kind x y keys rest) = level (Plan-F.HashJoin kind x.0 y.0 keys rest) (Plan-F.HashJoin kind (erased x.0) (erased y.0) keys rest) (sym (rolls-HashJoin kind (erased x.0) (erased y.0) keys rest))
    (ap (λ o. side_by_side o (kinds (erased y.0))) x.1 ∙ ap (λ o. side_by_side (kinds x.0) o) y.1)
step (Plan-F.Sort x keys) = leaves (Plan-F.Sort x.0 keys) x.0 refl refl x.1
step (Plan-F.Merge x keys) = leaves (Plan-F.Merge x.0 keys) x.0 refl refl x.1
step (Plan-F.Coalesce x) = leaves (Plan-F.Coalesce x.0) x.0 refl refl x.1
step (Plan-F.Repartition x to) = leaves (Plan-F.Repartition x.0 to) x.0 refl refl x.1
step (Plan-F.UnionAll xs) = level (Plan-F.UnionAll (plans xs)) (Plan-F.UnionAll (map erased (plans xs))) (sym (rolls-UnionAll (map erased (plans xs)))) (ap union_kinds (all_same xs))
step (Plan-F.Limit x skip fetch) = level (Plan-F.Limit x.0 skip fetch) (Plan-F.Limit (erased x.0) skip fetch) (sym (rolls-Limit (erased x.0) skip fetch)) x.1

pub erased_kinds : (p : Plan) → kinds (erased p) ≡ kinds p
erased_kinds = ind-Plan Same (λ x y is. subst (λ z. Same (roll-Plan z)) is (step y))
