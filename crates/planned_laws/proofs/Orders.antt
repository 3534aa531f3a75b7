-- A plan whose columns are in range declares orders in range.
use Rattle.std.proofs.Common.{ℕ, ◌≡◌, ◌+◌, refl, sym, ap, ◌∙◌, subst, true, ◌&&◌, eqb, List, [], ◌∷◌, map, length, sum}
use Rattle.std.proofs.lemmas.Bool.{eqb-true}
use Rattle.physical_plan.specs.declared.plan.Plan.{Plan}
use Rattle.physical_plan.specs.declared.plan.Plan.TheOpen.{Plan-F}
use Rattle.physical_plan.specs.declared.plan.Plan.TheViews.{roll-Plan}
use Rattle.physical_plan.specs.declared.plan.Plan.TheFolds.{map-Plan, ind-Plan}
use Rattle.physical_plan.specs.declared.plan.Plan.TheVariants.{Scan, Filter, Project, PartialGroup, FinalGroup, HashJoin, Sort, Merge, Coalesce, Repartition, UnionAll, Limit, rolls-Scan, rolls-Filter, rolls-Project, rolls-PartialGroup, rolls-FinalGroup, rolls-HashJoin, rolls-Sort, rolls-Merge, rolls-Coalesce, rolls-Repartition, rolls-UnionAll, rolls-Limit}
use Rattle.physical_plan.specs.declared.properties.Declared.{Declared}
use Rattle.physical_plan.specs.Properties.{declared_of, first_width, state_width, left_keys, right_keys}
use Rattle.physical_plan.specs.Everywhere.{everywhere, all_true}
use Rattle.physical_plan.proofs.Nodes.{declared-Scan, declared-Filter, declared-Project, declared-PartialGroup, declared-FinalGroup, declared-HashJoin, declared-Sort, declared-Merge, declared-Coalesce, declared-Repartition, declared-UnionAll, declared-Limit}
use Rattle.physical_plan.proofs.Everywhere.{and_parts, parts-Filter, parts-Project, parts-PartialGroup, parts-FinalGroup, parts-HashJoin, parts-Sort, parts-Merge, parts-Coalesce, parts-Repartition, parts-UnionAll, parts-Limit}
use Rattle.planned_laws.specs.Ranges.{are_below, rest_columns, call_columns, width, in_range}
use Rattle.planned_laws.proofs.Nodes.{Ranged, AllRanged, first_of, ranged-Scan, ranged-Filter, ranged-Project, ranged-PartialGroup, ranged-FinalGroup, ranged-HashJoin, ranged-Sort, ranged-Merge, ranged-Coalesce, ranged-Repartition, ranged-UnionAll, ranged-Limit}

-- the same plan and the same width under other names
pub place : (w v : ℕ) (p q : Plan) → w ≡ v → p ≡ q → Ranged v q → Ranged w p
place w v p q e f r = subst (λ (x : ℕ). Ranged x p) (sym e) (subst (Ranged v) (sym f) r)

abbrev pub wide : Declared → ℕ
wide d = d.width

first_wide : (ps : List Plan) → first_width (map declared_of ps) ≡ first_of (map width ps)
first_wide [] = refl
first_wide (p ∷ ps) = refl

pub union_wide : (ps : List Plan) → width (UnionAll ps) ≡ first_of (map width ps)
union_wide ps = ap wide (declared-UnionAll ps) ∙ first_wide ps

-- ---- what the tests of a node say

pub group_parts : (w : ℕ) (cs ds : List ℕ) → are_below w cs && are_below w ds ≡ true → (are_below w cs ≡ true) × (are_below w ds ≡ true)
group_parts w cs ds h = and_parts (are_below w cs) (are_below w ds) h

pub final_parts : (w v : ℕ) (cs : List ℕ) → are_below w cs && eqb w v ≡ true → (are_below w cs ≡ true) × (w ≡ v)
final_parts w v cs h = let a = and_parts (are_below w cs) (eqb w v) h in (a.0, eqb-true w v a.1)

pub join_parts : (w v : ℕ) (cs ds es : List ℕ) → are_below w cs && are_below v ds && are_below (w + v) es ≡ true → (are_below w cs ≡ true) × (are_below v ds ≡ true) × (are_below (w + v) es ≡ true)
join_parts w v cs ds es h =
    let a = and_parts (are_below w cs && are_below v ds) (are_below (w + v) es) h in
    let b = and_parts (are_below w cs) (are_below v ds) a.0 in
    (b.0, b.1, a.1)

-- ---- the induction

abbrev Itself : Plan → Type 0
Itself p = everywhere in_range p ≡ true → Ranged (width p) p

abbrev Known : Type 0
Known = (p : Plan) × Itself p

abbrev plans : List Known → List Plan
plans xs = map (λ (k : Known). k.0) xs

all_ranged : (xs : List Known) → all_true (map (everywhere in_range) (plans xs)) ≡ true → AllRanged (map width (plans xs)) (plans xs)
all_ranged [] e = tt
all_ranged (x ∷ xs) e = let a = and_parts (everywhere in_range x.0) (all_true (map (everywhere in_range) (plans xs))) e in (x.1 a.0, all_ranged xs a.1)

step : (y : Plan-F Known) → Itself (roll-Plan (map-Plan Known Plan (λ k. k.0) y))
step (Plan-F.Scan t k f c) = subst Itself (sym (rolls-Scan t k f c)) (λ e. place _ (length k) (Scan t k f c) _ (ap wide (declared-Scan t k f c)) refl (ranged-Scan t k f c))
step (Plan-F.Filter x test) = subst Itself (sym (rolls-Filter x.0 test)) (λ e. let a = parts-Filter in_range x.0 test e in
    place _ (width x.0) (Filter x.0 test) _ (ap wide (declared-Filter x.0 test)) refl (ranged-Filter (width x.0) x.0 test a.0 (x.1 a.1)))
step (Plan-F.Project x items) = subst Itself (sym (rolls-Project x.0 items)) (λ e. let a = parts-Project in_range x.0 items e in
    place _ (length items) (Project x.0 items) _ (ap wide (declared-Project x.0 items)) refl (ranged-Project (width x.0) x.0 items a.0 (x.1 a.1)))
step (Plan-F.PartialGroup x keys calls) = subst Itself (sym (rolls-PartialGroup x.0 keys calls)) (λ e. let a = parts-PartialGroup in_range x.0 keys calls e in let b = group_parts (width x.0) keys (call_columns calls) a.0 in
    place _ _ (PartialGroup x.0 keys calls) _ (ap wide (declared-PartialGroup x.0 keys calls)) refl (ranged-PartialGroup (width x.0) x.0 keys calls b.0 b.1 (x.1 a.1)))
step (Plan-F.FinalGroup x keys calls) = subst Itself (sym (rolls-FinalGroup x.0 keys calls)) (λ e. let a = parts-FinalGroup in_range x.0 keys calls e in let b = final_parts (width x.0) (length keys + sum (map state_width calls)) keys a.0 in
    place _ _ (FinalGroup x.0 keys calls) _ (ap wide (declared-FinalGroup x.0 keys calls)) refl (ranged-FinalGroup (width x.0) x.0 keys calls b.0 b.1 (x.1 a.1)))
step (Plan-F.HashJoin kind x y keys rest) = subst Itself (sym (rolls-HashJoin kind x.0 y.0 keys rest)) (λ e. let a = parts-HashJoin in_range kind x.0 y.0 keys rest e in let b = join_parts (width x.0) (width y.0) (left_keys keys) (right_keys keys) (rest_columns rest) a.0 in
    place _ _ (HashJoin kind x.0 y.0 keys rest) _ (ap wide (declared-HashJoin kind x.0 y.0 keys rest)) refl (ranged-HashJoin (width x.0) (width y.0) kind x.0 y.0 keys rest b.0 b.1 b.2 (x.1 a.1) (y.1 a.2)))
step (Plan-F.Sort x keys) = subst Itself (sym (rolls-Sort x.0 keys)) (λ e. let a = parts-Sort in_range x.0 keys e in
    place _ (width x.0) (Sort x.0 keys) _ (ap wide (declared-Sort x.0 keys)) refl (ranged-Sort (width x.0) x.0 keys a.0 (x.1 a.1)))
step (Plan-F.Merge x keys) = subst Itself (sym (rolls-Merge x.0 keys)) (λ e. let a = parts-Merge in_range x.0 keys e in
    place _ (width x.0) (Merge x.0 keys) _ (ap wide (declared-Merge x.0 keys)) refl (ranged-Merge (width x.0) x.0 keys a.0 (x.1 a.1)))
step (Plan-F.Coalesce x) = subst Itself (sym (rolls-Coalesce x.0)) (λ e. let a = parts-Coalesce in_range x.0 e in
    place _ (width x.0) (Coalesce x.0) _ (ap wide (declared-Coalesce x.0)) refl (ranged-Coalesce (width x.0) x.0 (x.1 a.1)))
step (Plan-F.Repartition x to) = subst Itself (sym (rolls-Repartition x.0 to)) (λ e. let a = parts-Repartition in_range x.0 to e in
    place _ (width x.0) (Repartition x.0 to) _ (ap wide (declared-Repartition x.0 to)) refl (ranged-Repartition (width x.0) x.0 to a.0 (x.1 a.1)))
step (Plan-F.UnionAll xs) = subst Itself (sym (rolls-UnionAll (plans xs))) (λ e. let a = parts-UnionAll in_range (plans xs) e in
    place _ _ (UnionAll (plans xs)) _ (union_wide (plans xs)) refl (ranged-UnionAll (map width (plans xs)) (plans xs) a.0 (all_ranged xs a.1)))
step (Plan-F.Limit x skip fetch) = subst Itself (sym (rolls-Limit x.0 skip fetch)) (λ e. let a = parts-Limit in_range x.0 skip fetch e in
    place _ (width x.0) (Limit x.0 skip fetch) _ (ap wide (declared-Limit x.0 skip fetch)) refl (ranged-Limit (width x.0) x.0 skip fetch (x.1 a.1)))

pub ranged_itself : (p : Plan) → everywhere in_range p ≡ true → Ranged (width p) p
ranged_itself = ind-Plan Itself (λ x y is. subst (λ z. Itself (roll-Plan z)) is (step y))
