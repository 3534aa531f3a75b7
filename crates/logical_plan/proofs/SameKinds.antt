-- The kinds of a body don't depend on the tables.
use Rattle.std.proofs.Common.{◌≡◌, refl, List, [], ◌∷◌, ◌++◌, map, subst, sym, ap, ◌∙◌}
use Rattle.logical_plan.specs.declared.plan.Logical.{Logical}
use Rattle.logical_plan.specs.declared.plan.Logical.TheOpen.{Logical-F}
use Rattle.logical_plan.specs.declared.plan.Logical.TheViews.{roll-Logical}
use Rattle.logical_plan.specs.declared.plan.Logical.TheFolds.{fold-roll-Logical, map-Logical, ind-Logical}
use Rattle.logical_plan.specs.Body.{Tables, Part, meant_part, node, first_kinds, item_kinds, key_kinds, call_kinds}

module _ (t u : Tables) where
  abbrev Same : Logical → Type 0
  Same q = (meant_part t q).kinds ≡ (meant_part u q).kinds

  abbrev Known : Type 0
  Known = (q : Logical) × Same q

  level : (z : Logical-F Logical) → (node t (map-Logical Logical Part (meant_part t) z)).kinds ≡ (node u (map-Logical Logical Part (meant_part u) z)).kinds → Same (roll-Logical z)
  unfolding meant_part
  level z h = ap (λ (p : Part). p.kinds) (fold-roll-Logical Part (node t) z) ∙ h ∙ sym (ap (λ (p : Part). p.kinds) (fold-roll-Logical Part (node u) z))

  firsts : (qs : List Known) → first_kinds (map (meant_part t) (map (λ (k : Known). k.0) qs)) ≡ first_kinds (map (meant_part u) (map (λ (k : Known). k.0) qs))
  firsts [] = refl
  firsts (q ∷ qs) = q.1

  step : (y : Logical-F Known) → Same (roll-Logical (map-Logical Known Logical (λ k. k.0) y))
  step (Logical-F.Scan table kinds) = level (Logical-F.Scan table kinds) refl
  step (Logical-F.Filter input test) = level (Logical-F.Filter input.0 test) input.1
  step (Logical-F.Project input items) = level (Logical-F.Project input.0 items) (ap (λ ks. item_kinds ks items) input.1)
  step (Logical-F.Join kind left right keys rest) = level (Logical-F.Join kind left.0 right.0 keys rest) (ap (λ ks. ks ++ (meant_part t right.0).kinds) left.1 ∙ ap (λ ks. (meant_part u left.0).kinds ++ ks) right.1)
  step (Logical-F.Aggregate input keys calls) = level (Logical-F.Aggregate input.0 keys calls) (ap (λ ks. key_kinds ks keys ++ call_kinds ks calls) input.1)
  step (Logical-F.Distinct input) = level (Logical-F.Distinct input.0) input.1
  step (Logical-F.UnionAll inputs) = level (Logical-F.UnionAll (map (λ (k : Known). k.0) inputs)) (firsts inputs)

  pub same_kinds : (q : Logical) → Same q
  same_kinds = ind-Logical Same (λ x y is. subst (λ z. Same (roll-Logical z)) is (step y))
