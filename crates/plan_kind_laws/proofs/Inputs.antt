-- Where a plan has kinds, so has each node's input.
use Rattle.std.specs.List.{list_all}
use Rattle.std.proofs.Common.{◌≡◌, refl, sym, ap, ◌∙◌, subst, Bool, true, false, ◌&&◌, Option, Some, None, is_some, List, [], ◌∷◌, map}
use Rattle.std.proofs.lemmas.Bool.{false≢true}
use Rattle.dfx_value.specs.declared.kind.Kind.{Kind}
use Rattle.scalar_exprs.specs.Kinds.{◌>>=◌}
use Rattle.physical_plan.specs.declared.plan.Plan.{Plan}
use Rattle.physical_plan.specs.declared.plan.Plan.TheOpen.{Plan-F}
use Rattle.physical_plan.specs.declared.plan.Plan.TheViews.{roll-Plan}
use Rattle.physical_plan.specs.declared.plan.Plan.TheFolds.{para-roll-Plan, map-Plan, ind-Plan}
use Rattle.physical_plan.specs.Everywhere.{everywhere, node_holds, all_true}
use Rattle.physical_plan.proofs.Everywhere.{both_true, and_parts}
use Rattle.plan_kinds.specs.Kinds.{kinds, node_kinds, provided, same_kinds, projected_kinds, partial_kinds, final_kinds, side_by_side, agreed_kinds, union_kinds, inputs_have_kinds}
use Rattle.plan_kinds.proofs.Nodes.{kinds_rolled}

abbrev Ready : Plan → Type 0
Ready p = is_some (kinds p) ≡ true → everywhere inputs_have_kinds p ≡ true

abbrev Known : Type 0
Known = (p : Plan) × Ready p

abbrev plans : List Known → List Plan
plans ps = map (λ (p : Known). p.0) ps

abbrev marked : Plan → Plan × Bool
marked p = (p, everywhere inputs_have_kinds p)

level : (z : Plan-F Plan)
    → (is_some (node_kinds (map-Plan Plan (Option (List Kind)) kinds z)) ≡ true → node_holds inputs_have_kinds (map-Plan Plan (Plan × Bool) marked z) ≡ true)
    → Ready (roll-Plan z)
unfolding everywhere
level z h e = para-roll-Plan Bool (node_holds inputs_have_kinds) z ∙ h (sym (ap is_some (kinds_rolled z)) ∙ e)

bound : {A B : Type 0} (o : Option A) (f : A → Option B) → is_some (o >>= f) ≡ true → is_some o ≡ true
bound None f e = absurd (false≢true e)
bound (Some x) f e = refl

beside : (o u : Option (List Kind)) → is_some (side_by_side o u) ≡ true → (is_some o ≡ true) × (is_some u ≡ true)
beside None u e = absurd (false≢true e)
beside (Some ks) None e = absurd (false≢true e)
beside (Some ks) (Some js) e = (refl, refl)

-- one input
one : (x : Known) → is_some (kinds x.0) ≡ true → (is_some (kinds x.0) && true) && (everywhere inputs_have_kinds x.0 && true) ≡ true
one x e = both_true _ _ (both_true _ _ e refl) (both_true _ _ (x.1 e) refl)

-- ---- a union

abbrev some_of : List Known → Bool
some_of ps = list_all (λ (o : Option (List Kind)). is_some o) (map kinds (plans ps))

agreed : (ks : List Kind) (ps : List Known) → is_some (agreed_kinds ks (map kinds (plans ps))) ≡ true → some_of ps ≡ true
agreed ks [] e = refl
agreed ks (p ∷ ps) e = go (agreed ks ps) (kinds p.0) e
  where
    under : (is_some (agreed_kinds ks (map kinds (plans ps))) ≡ true → some_of ps ≡ true) → (b : Bool)
        → is_some (provided b ks >>= λ _. agreed_kinds ks (map kinds (plans ps))) ≡ true → some_of ps ≡ true
    under more true h = more h
    under more false h = absurd (false≢true h)

    go : (is_some (agreed_kinds ks (map kinds (plans ps))) ≡ true → some_of ps ≡ true) → (o : Option (List Kind))
        → is_some (o >>= λ js. provided (same_kinds ks js) ks >>= λ _. agreed_kinds ks (map kinds (plans ps))) ≡ true → is_some o && some_of ps ≡ true
    go more None h = absurd (false≢true h)
    go more (Some js) h = under more (same_kinds ks js) h

united : (ps : List Known) → is_some (union_kinds (map kinds (plans ps))) ≡ true → some_of ps ≡ true
united [] e = refl
united (p ∷ ps) e = go (kinds p.0) e
  where
    go : (o : Option (List Kind)) → is_some (o >>= λ ks. agreed_kinds ks (map kinds (plans ps))) ≡ true → is_some o && some_of ps ≡ true
    go None h = absurd (false≢true h)
    go (Some ks) h = agreed ks ps h

all_have : (ps : List Known) → some_of ps ≡ true
    → list_all (λ p. is_some (kinds p)) (map (λ (q : Plan × Bool). q.0) (map marked (plans ps))) && all_true (map (λ (q : Plan × Bool). q.1) (map marked (plans ps))) ≡ true
all_have ps e = both_true _ _ (go ps e).0 (go ps e).1
  where
    go : (qs : List Known) → some_of qs ≡ true
        → (list_all (λ p. is_some (kinds p)) (map (λ (q : Plan × Bool). q.0) (map marked (plans qs))) ≡ true) × (all_true (map (λ (q : Plan × Bool). q.1) (map marked (plans qs))) ≡ true)
    go [] h = (refl, refl)
    go (q ∷ qs) h =
        let a = and_parts (is_some (kinds q.0)) (some_of qs) h in
        let b = go qs a.1 in
        (both_true _ _ a.0 b.0, both_true _ _ (q.1 a.0) b.1)

step : (y : Plan-F Known) → Ready (roll-Plan (map-Plan Known Plan (λ k. k.0) y))
step (Plan-F.Scan table ks files partitions) = level (Plan-F.Scan table ks files partitions) (λ e. refl)
step (Plan-F.Filter x test) = level (Plan-F.Filter x.0 test) (one x)
step (Plan-F.Project x items) = level (Plan-F.Project x.0 items) (λ e. one x (bound (kinds x.0) (λ columns. projected_kinds columns items) e))
step (Plan-F.PartialGroup x keys calls) = level (Plan-F.PartialGroup x.0 keys calls) (λ e. one x (bound (kinds x.0) (partial_kinds keys calls) e))
step (Plan-F.FinalGroup x keys calls) = level (Plan-F.FinalGroup x.0 keys calls) (λ e. one x (bound (kinds x.0) (final_kinds keys calls) e))
step (Plan-F.HashJoin kind x y keys rest) = level (Plan-F.HashJoin kind x.0 y.0 keys rest) (λ e. (
    let a = beside (kinds x.0) (kinds y.0) e in
    both_true _ _ (both_true _ _ a.0 (both_true _ _ a.1 refl)) (both_true _ _ (x.1 a.0) (both_true _ _ (y.1 a.1) refl))))
step (Plan-F.Sort x keys) = level (Plan-F.Sort x.0 keys) (one x)
step (Plan-F.Merge x keys) = level (Plan-F.Merge x.0 keys) (one x)
step (Plan-F.Coalesce x) = level (Plan-F.Coalesce x.0) (one x)
step (Plan-F.Repartition x to) = level (Plan-F.Repartition x.0 to) (one x)
step (Plan-F.UnionAll xs) = level (Plan-F.UnionAll (plans xs)) (λ e. all_have xs (united xs e))
step (Plan-F.Limit x skip fetch) = level (Plan-F.Limit x.0 skip fetch) (one x)

pub inputs_kinds : (p : Plan) (columns : List Kind) → kinds p ≡ Some columns → everywhere inputs_have_kinds p ≡ true
inputs_kinds p columns e = ind-Plan Ready (λ x y is. subst (λ z. Ready (roll-Plan z)) is (step y)) p (ap is_some e)
