-- Columns in range, by their test.
use Rattle.std.specs.Prelude.{nat_lt}
use Rattle.std.proofs.Common.{ℕ, ◌≡◌, refl, eqb, subst, true, ◌&&◌, List, [], ◌∷◌, map}
use Rattle.std.proofs.lemmas.Bool.{ltb-true, eqb-true}
use Rattle.physical_plan.specs.declared.plan.Plan.TheOpen.{Plan-F}
use Rattle.physical_plan.specs.Facts.{fact_of}
use Rattle.node_laws.specs.Joins.{Within, PairsWithin}
use Rattle.physical_plan.specs.Properties.{declared_of, first_width, left_keys, right_keys}
use Rattle.physical_plan.proofs.Everywhere.{and_parts}
use Rattle.node_laws.specs.Nodes.{Input, PlanInput, plans_of, inputs_of, declared_inputs, HaveWidth, InRange}
use Rattle.node_laws.specs.Tests.{width, are_below, pairs_below, have_width, needs_in_range}

pub within : (w : ℕ) (cs : List ℕ) → are_below w cs ≡ true → Within w cs
within w [] h = tt
within w (c ∷ cs) h = let a = and_parts (nat_lt c w) (are_below w cs) h in (ltb-true c w a.0, within w cs a.1)

pub pairs_within : (w : ℕ) (ps : List (ℕ × ℕ)) → pairs_below w ps ≡ true → PairsWithin w ps
pairs_within w [] h = tt
pairs_within w (p ∷ ps) h =
    let a = and_parts (nat_lt p.0 w) (nat_lt p.1 w && pairs_below w ps) h in
    let b = and_parts (nat_lt p.1 w) (pairs_below w ps) a.1 in
    (ltb-true p.0 w a.0, ltb-true p.1 w b.0, pairs_within w ps b.1)

abbrev inputs_in : List PlanInput → List Input
inputs_in is = map (λ (i : PlanInput). (declared_of i.0, i.1)) is

first_is : (is : List PlanInput) → first_width (map declared_of (map (λ (i : PlanInput). i.0) is)) ≡ first_width (declared_inputs (inputs_in is))
first_is [] = refl
first_is (i ∷ is) = refl

one_width : (w : ℕ) (is : List PlanInput) → have_width w (map (λ (i : PlanInput). i.0) is) ≡ true → HaveWidth w (inputs_in is)
one_width w [] h = tt
one_width w (i ∷ is) h =
    let a = and_parts (eqb (width i.0) w) (have_width w (map (λ (i : PlanInput). i.0) is)) h in
    (eqb-true (width i.0) w a.0, one_width w is a.1)

pub tested : (z : Plan-F PlanInput) → needs_in_range (plans_of z) ≡ true → InRange (inputs_of z)
tested (Plan-F.Filter i test) h =
    let a = and_parts (pairs_below (width i.0) (fact_of test).same) (are_below (width i.0) (fact_of test).constants) h in
    (pairs_within (width i.0) (fact_of test).same a.0, within (width i.0) (fact_of test).constants a.1)
tested (Plan-F.HashJoin kind i j keys rest) h =
    let a = and_parts (are_below (width i.0) (left_keys keys)) (are_below (width j.0) (right_keys keys)) h in
    (within (width i.0) (left_keys keys) a.0, within (width j.0) (right_keys keys) a.1)
tested (Plan-F.UnionAll is) h = subst (λ (w : ℕ). HaveWidth w (inputs_in is)) (first_is is) (one_width (first_width (map declared_of (map (λ (i : PlanInput). i.0) is))) is h)
tested _ h = tt
