-- The plan of a body is plain.
use Rattle.std.proofs.Common.{ℕ, ◌≡◌, refl, sym, ap, subst, true, ◌&&◌, List, [], ◌∷◌, map, length}
use Rattle.dfx_value.specs.declared.op.AggCall.{AggCall}
use Rattle.logical_plan.specs.declared.plan.Logical.{Logical}
use Rattle.logical_plan.specs.declared.plan.Logical.TheOpen.{Logical-F}
use Rattle.logical_plan.specs.declared.plan.Logical.TheViews.{roll-Logical}
use Rattle.logical_plan.specs.declared.plan.Logical.TheFolds.{map-Logical, ind-Logical, fold-Logical, fold-roll-Logical}
use Rattle.physical_plan.specs.declared.plan.Plan.{Plan}
use Rattle.physical_plan.specs.declared.plan.Plan.TheVariants.{PartialGroup, outs-Scan, outs-Filter, outs-Project, outs-PartialGroup, outs-FinalGroup, outs-HashJoin, outs-UnionAll}
use Rattle.physical_plan.specs.Numbers.{numbers}
use Rattle.physical_plan.specs.Everywhere.{everywhere, all_true}
use Rattle.planned_laws.specs.Plain.{plain_node, plain_child, lone, IsBody}
use Rattle.physical_plan.proofs.Everywhere.{both_true, holds-Scan, holds-Filter, holds-Project, holds-PartialGroup, holds-FinalGroup, holds-HashJoin, holds-UnionAll}
use Rattle.physical_build.specs.Build.{Built, node, built_of, body_plan, two_phases}

module _ (files : List ℕ) (n : ℕ) where
  abbrev Plain : Plan → Type 0
  Plain p = (everywhere lone p ≡ true) × (plain_child p ≡ true)

  abbrev Bodied : Logical → Type 0
  Bodied l = Plain (body_plan files n l)

  abbrev Body : Type 0
  Body = (l : Logical) × Bodied l

  level : (z : Logical-F Logical) → Plain (node files n (map-Logical Logical Built (fold-Logical Built (node files n)) z)).plan → Bodied (roll-Logical z)
  unfolding built_of
  level z h = subst Plain (sym (ap (λ (b : Built). b.plan) (fold-roll-Logical Built (node files n) z))) h

  one_kid : (p : Plan) → plain_child p ≡ true → plain_child p && true ≡ true
  one_kid p h = both_true _ _ h refl

  plain_group : (p : Plan) (keys : List ℕ) (calls : List AggCall) → Plain p → Plain (two_phases p keys calls)
  plain_group p keys calls h = (
    holds-FinalGroup lone (PartialGroup p keys calls) (numbers (length keys)) calls (both_true _ _ (ap plain_node (outs-PartialGroup p keys calls)) refl) (holds-PartialGroup lone p keys calls (one_kid p h.1) h.0),
    ap plain_node (outs-FinalGroup (PartialGroup p keys calls) (numbers (length keys)) calls),
  )

  abbrev plan_of : Logical → Plan
  plan_of l = (fold-Logical Built (node files n) l).plan

  all_lone : (ls : List Body) → all_true (map (everywhere lone) (map (λ (b : Built). b.plan) (map (fold-Logical Built (node files n)) (map (λ (b : Body). b.0) ls)))) ≡ true
  unfolding built_of
  all_lone [] = refl
  all_lone (l ∷ ls) = both_true _ _ l.1.0 (all_lone ls)

  all_plain : (ls : List Body) → all_true (map plain_child (map (λ (b : Built). b.plan) (map (fold-Logical Built (node files n)) (map (λ (b : Body). b.0) ls)))) ≡ true
  unfolding built_of
  all_plain [] = refl
  all_plain (l ∷ ls) = both_true _ _ l.1.1 (all_plain ls)

  step : (y : Logical-F Body) → Bodied (roll-Logical (map-Logical Body Logical (λ b. b.0) y))
  unfolding built_of
  step (Logical-F.Scan table kinds) = level (Logical-F.Scan table kinds) (holds-Scan lone _ _ _ _ refl, ap plain_node (outs-Scan _ _ _ _))
  step (Logical-F.Filter x test) = level (Logical-F.Filter x.0 test) (holds-Filter lone (plan_of x.0) test (one_kid (plan_of x.0) x.1.1) x.1.0, ap plain_node (outs-Filter (plan_of x.0) test))
  step (Logical-F.Project x items) = level (Logical-F.Project x.0 items) (holds-Project lone (plan_of x.0) items (one_kid (plan_of x.0) x.1.1) x.1.0, ap plain_node (outs-Project (plan_of x.0) items))
  step (Logical-F.Join kind x y keys rest) = level (Logical-F.Join kind x.0 y.0 keys rest) (holds-HashJoin lone kind (plan_of x.0) (plan_of y.0) keys rest (both_true _ _ x.1.1 (one_kid (plan_of y.0) y.1.1)) x.1.0 y.1.0, ap plain_node (outs-HashJoin kind (plan_of x.0) (plan_of y.0) keys rest))
  step (Logical-F.Aggregate x keys calls) = level (Logical-F.Aggregate x.0 keys calls) (plain_group (plan_of x.0) keys calls x.1)
  step (Logical-F.Distinct x) = level (Logical-F.Distinct x.0) (plain_group (plan_of x.0) (numbers (fold-Logical Built (node files n) x.0).width) [] x.1)
  step (Logical-F.UnionAll xs) = level (Logical-F.UnionAll (map (λ (b : Body). b.0) xs)) (holds-UnionAll lone (map (λ (b : Built). b.plan) (map (fold-Logical Built (node files n)) (map (λ (b : Body). b.0) xs))) (all_plain xs) (all_lone xs), ap plain_node (outs-UnionAll (map (λ (b : Built). b.plan) (map (fold-Logical Built (node files n)) (map (λ (b : Body). b.0) xs)))))

  body_plain : (l : Logical) → Bodied l
  body_plain = ind-Logical Bodied (λ x y is. subst (λ z. Bodied (roll-Logical z)) is (step y))

  pub body_is_plain : (l : Logical) → IsBody (body_plan files n l)
  body_is_plain l = record { everywhere_lone = (body_plain l).0; top_plain = (body_plain l).1 }
