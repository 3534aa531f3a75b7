-- Enforcing sorts changes nothing that a plan declares but orderings.
use Rattle.std.specs.Prelude.{◌==◌}
use Rattle.std.proofs.Common.{ℕ, ◌≡◌, ◌+◌, refl, sym, ap, ◌∙◌, subst, cond, Bool, true, false, List, [], ◌∷◌, map, sum}
use Rattle.dfx_value.specs.declared.rows.SortKey.{SortKey}
use Rattle.dfx_value.specs.declared.op.JoinKind.{JoinKind}
use Rattle.dfx_value.specs.declared.op.JoinKind.TheVariants.{Inner, Left, Right, Full}
use Rattle.plan_props.specs.declared.properties.Partitioning.{Partitioning}
use Rattle.plan_props.specs.declared.properties.Partitioning.TheVariants as parting
use Rattle.plan_props.specs.declared.properties.Distribution.{Distribution}
use Rattle.plan_props.specs.declared.properties.Distribution.TheVariants as need
use Rattle.plan_props.specs.Satisfies.{satisfies_distribution, satisfies_order}
use Rattle.physical_plan.specs.declared.plan.Plan.{Plan}
use Rattle.physical_plan.specs.declared.plan.Plan.TheOpen.{Plan-F}
use Rattle.physical_plan.specs.declared.plan.Plan.TheViews.{roll-Plan}
use Rattle.physical_plan.specs.declared.plan.Plan.TheFolds.{map-Plan, ind-Plan}
use Rattle.physical_plan.specs.declared.plan.Plan.TheVariants.{Filter, Project, PartialGroup, FinalGroup, Sort, Merge, Coalesce, Repartition, Limit, rolls-Scan, rolls-Filter, rolls-Project, rolls-PartialGroup, rolls-FinalGroup, rolls-HashJoin, rolls-Sort, rolls-Merge, rolls-Coalesce, rolls-Repartition, rolls-UnionAll, rolls-Limit}
use Rattle.std.proofs.Common.{length}
use Rattle.physical_plan.specs.declared.properties.Declared.{Declared}
use Rattle.physical_plan.specs.Properties.{declares, declared_of, declared_partitions, props, filtered, projected, grouped, merged, repartitioned, hash_joined, united, first_width, state_width}
use Rattle.enforce_sort.specs.Arrange.{with_sort, enforce_sorting}
use Rattle.physical_plan.proofs.Nodes.{declared-Filter, declared-Project, declared-PartialGroup, declared-FinalGroup, declared-HashJoin, declared-Sort, declared-Merge, declared-Coalesce, declared-Repartition, declared-UnionAll, declared-Limit}
use Rattle.enforce_sort.proofs.Nodes.{arranged-Scan, arranged-Filter, arranged-Project, arranged-PartialGroup, arranged-FinalGroup, arranged-HashJoin, arranged-Sort, arranged-Merge, arranged-Coalesce, arranged-Repartition, arranged-UnionAll, arranged-Limit}

-- without its ordering
abbrev pub forget : Declared → Declared
forget d = declares d.width d.props.partitioning [] d.props.same d.props.constants

abbrev pub said : Plan → Declared
said p = forget (declared_of p)

abbrev es : Plan → Plan
es = enforce_sorting

abbrev Like : Plan → Type 0
Like p = said (enforce_sorting p) ≡ said p

-- a sort, where there is one, changes the ordering alone
pub sorted_like : (keys : List SortKey) (p : Plan) → said (with_sort keys p) ≡ said p
sorted_like keys p = go (satisfies_order (props p) keys)
  where
    go : (b : Bool) → said (cond b p (Sort p keys)) ≡ said p
    go true = refl
    go false = ap forget (declared-Sort p keys)

abbrev Known : Type 0
Known = (p : Plan) × Like p

unary : (C : Plan → Plan) (F : Declared → Declared) → ((p : Plan) → declared_of (C p) ≡ F (declared_of p)) → ((d : Declared) → forget (F d) ≡ forget (F (forget d))) → (p q : Plan) → said p ≡ said q → said (C p) ≡ said (C q)
unary C F e f p q h = ap forget (e p) ∙ f (declared_of p) ∙ ap (λ (d : Declared). forget (F d)) h ∙ sym (f (declared_of q)) ∙ sym (ap forget (e q))

joins : (kind : JoinKind) (keys : List (ℕ × ℕ)) (a b c d : Declared) → forget a ≡ forget c → forget b ≡ forget d → forget (hash_joined kind keys a b) ≡ forget (hash_joined kind keys c d)
joins Inner keys a b c d h i = ap (λ (x : Declared). forget (hash_joined Inner keys x (forget b))) h ∙ ap (λ (x : Declared). forget (hash_joined Inner keys (forget c) x)) i
joins Left keys a b c d h i = ap (λ (x : Declared). forget (hash_joined Left keys x (forget b))) h ∙ ap (λ (x : Declared). forget (hash_joined Left keys (forget c) x)) i
joins Right keys a b c d h i = ap (λ (x : Declared). forget (hash_joined Right keys x (forget b))) h ∙ ap (λ (x : Declared). forget (hash_joined Right keys (forget c) x)) i
joins Full keys a b c d h i = ap (λ (x : Declared). forget (hash_joined Full keys x (forget b))) h ∙ ap (λ (x : Declared). forget (hash_joined Full keys (forget c) x)) i

widths : (ps : List Known) → first_width (map declared_of (map enforce_sorting (map (λ (k : Known). k.0) ps))) ≡ first_width (map declared_of (map (λ (k : Known). k.0) ps))
widths [] = refl
widths (p ∷ ps) = ap (λ (d : Declared). d.width) p.1

counts : (ps : List Known) → map (λ (d : Declared). declared_partitions d) (map declared_of (map enforce_sorting (map (λ (k : Known). k.0) ps))) ≡ map (λ (d : Declared). declared_partitions d) (map declared_of (map (λ (k : Known). k.0) ps))
counts [] = refl
counts (p ∷ ps) = ap (λ (n : ℕ). n ∷ map (λ (d : Declared). declared_partitions d) (map declared_of (map enforce_sorting (map (λ (k : Known). k.0) ps)))) (ap (λ (d : Declared). declared_partitions d) p.1) ∙ ap (λ (ns : List ℕ). declared_partitions (declared_of p.0) ∷ ns) (counts ps)

abbrev union_of : ℕ → List ℕ → Declared
union_of w ns = declares w (cond {A = Partitioning} (sum ns == 1) parting.Single (parting.Unknown (sum ns))) [] [] []

step : (y : Plan-F Known) → Like (roll-Plan (map-Plan Known Plan (λ k. k.0) y))
step (Plan-F.Scan table kinds files partitions) = subst Like (sym (rolls-Scan table kinds files partitions)) (ap said (arranged-Scan table kinds files partitions))
step (Plan-F.Filter x test) = subst Like (sym (rolls-Filter x.0 test)) (ap said (arranged-Filter x.0 test) ∙ unary (λ p. Filter p test) (filtered test) (λ p. declared-Filter p test) (λ d. refl) (enforce_sorting x.0) x.0 x.1)
step (Plan-F.Project x items) = subst Like (sym (rolls-Project x.0 items)) (ap said (arranged-Project x.0 items) ∙ unary (λ p. Project p items) (projected items) (λ p. declared-Project p items) (λ d. refl) (enforce_sorting x.0) x.0 x.1)
step (Plan-F.PartialGroup x keys calls) = subst Like (sym (rolls-PartialGroup x.0 keys calls)) (ap said (arranged-PartialGroup x.0 keys calls) ∙ unary (λ p. PartialGroup p keys calls) (grouped (length keys + sum (map state_width calls)) keys) (λ p. declared-PartialGroup p keys calls) (λ d. refl) (enforce_sorting x.0) x.0 x.1)
step (Plan-F.FinalGroup x keys calls) = subst Like (sym (rolls-FinalGroup x.0 keys calls)) (ap said (arranged-FinalGroup x.0 keys calls) ∙ unary (λ p. FinalGroup p keys calls) (grouped (length keys + length calls) keys) (λ p. declared-FinalGroup p keys calls) (λ d. refl) (enforce_sorting x.0) x.0 x.1)
step (Plan-F.HashJoin kind x y keys rest) = subst Like (sym (rolls-HashJoin kind x.0 y.0 keys rest)) (ap said (arranged-HashJoin kind x.0 y.0 keys rest) ∙ ap forget (declared-HashJoin kind (enforce_sorting x.0) (enforce_sorting y.0) keys rest) ∙ joins kind keys (declared_of (enforce_sorting x.0)) (declared_of (enforce_sorting y.0)) (declared_of x.0) (declared_of y.0) x.1 y.1 ∙ sym (ap forget (declared-HashJoin kind x.0 y.0 keys rest)))
step (Plan-F.Sort x keys) = subst Like (sym (rolls-Sort x.0 keys)) (ap said (arranged-Sort x.0 keys) ∙ sorted_like keys (enforce_sorting x.0) ∙ x.1 ∙ sym (ap forget (declared-Sort x.0 keys)))
step (Plan-F.Merge x keys) = subst Like (sym (rolls-Merge x.0 keys)) (ap said (arranged-Merge x.0 keys) ∙ unary (λ p. Merge p keys) (merged keys) (λ p. declared-Merge p keys) (λ d. refl) (with_sort keys (enforce_sorting x.0)) x.0 (sorted_like keys (enforce_sorting x.0) ∙ x.1))
step (Plan-F.Coalesce x) = subst Like (sym (rolls-Coalesce x.0)) (ap said (arranged-Coalesce x.0) ∙ unary (λ p. Coalesce p) (merged []) (λ p. declared-Coalesce p) (λ d. refl) (enforce_sorting x.0) x.0 x.1)
step (Plan-F.Repartition x to) = subst Like (sym (rolls-Repartition x.0 to)) (ap said (arranged-Repartition x.0 to) ∙ unary (λ p. Repartition p to) (repartitioned to) (λ p. declared-Repartition p to) (λ d. refl) (enforce_sorting x.0) x.0 x.1)
step (Plan-F.UnionAll xs) = subst Like (sym (rolls-UnionAll (map (λ (k : Known). k.0) xs))) (ap said (arranged-UnionAll (map (λ (k : Known). k.0) xs)) ∙ ap forget (declared-UnionAll (map enforce_sorting (map (λ (k : Known). k.0) xs))) ∙ both ∙ sym (ap forget (declared-UnionAll (map (λ (k : Known). k.0) xs))))
  where
    both : forget (united (map declared_of (map enforce_sorting (map (λ (k : Known). k.0) xs)))) ≡ forget (united (map declared_of (map (λ (k : Known). k.0) xs)))
    both = ap (λ (w : ℕ). union_of w (map (λ (d : Declared). declared_partitions d) (map declared_of (map enforce_sorting (map (λ (k : Known). k.0) xs))))) (widths xs) ∙ ap (union_of (first_width (map declared_of (map (λ (k : Known). k.0) xs)))) (counts xs)
step (Plan-F.Limit x skip fetch) = subst Like (sym (rolls-Limit x.0 skip fetch)) (ap said (arranged-Limit x.0 skip fetch) ∙ unary (λ p. Limit p skip fetch) (λ d. d) (λ p. declared-Limit p skip fetch) (λ d. refl) (enforce_sorting x.0) x.0 x.1)

pub like : (p : Plan) → said (enforce_sorting p) ≡ said p
like = ind-Plan Like (λ x y is. subst (λ z. Like (roll-Plan z)) is (step y))

-- what doesn't look at orderings sees no difference
sat_forget : (d : Distribution) (x : Declared) → satisfies_distribution (forget x).props d ≡ satisfies_distribution x.props d
unfolding satisfies_distribution
sat_forget need.Unspecified x = refl
sat_forget need.Single x = refl
sat_forget (need.Hash keys n) x = refl
sat_forget (need.JoinHash keys n) x = refl

pub sat_like : (d : Distribution) (p q : Plan) → said p ≡ said q → satisfies_distribution (props p) d ≡ satisfies_distribution (props q) d
sat_like d p q h = sym (sat_forget d (declared_of p)) ∙ ap (λ (x : Declared). satisfies_distribution x.props d) h ∙ sat_forget d (declared_of q)

pub parts_like : (p q : Plan) → said p ≡ said q → declared_partitions (declared_of p) ≡ declared_partitions (declared_of q)
parts_like p q h = ap (λ (x : Declared). declared_partitions x) h
