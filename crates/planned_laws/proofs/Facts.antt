-- What a test says names the columns of the test, and what the law of needs asks of a node's columns follows.
use Rattle.std.specs.Prelude.{nat_lt}
use Rattle.std.proofs.Common.{ℕ, ◌≡◌, ◌<◌, refl, sym, ap, ◌∙◌, subst, eqb, Bool, true, false, ◌&&◌, Option, Some, None, List, [], ◌∷◌, map}
use Rattle.std.proofs.lemmas.Bool.{lt-ltb, eqb-true, eq-eqb}
use Rattle.dfx_value.specs.declared.op.Op.{Op}
use Rattle.dfx_value.specs.declared.op.Op.TheVariants as op
use Rattle.scalar_exprs.specs.declared.expr.Expr.{Expr}
use Rattle.scalar_exprs.specs.declared.expr.Expr.TheOpen.{Expr-F}
use Rattle.scalar_exprs.specs.declared.expr.Expr.TheViews.{roll-Expr}
use Rattle.scalar_exprs.specs.declared.expr.Expr.TheFolds.{map-Expr, ind-Expr}
use Rattle.scalar_exprs.specs.declared.expr.Expr.TheVariants.{Column, rolls-Column, rolls-Const, rolls-Not, rolls-Neg, rolls-IsNull, rolls-Binary, rolls-Case, rolls-Coalesce, rolls-Cast, rolls-Abs, rolls-Length}
use Rattle.physical_plan.specs.declared.facts.Fact.{Fact}
use Rattle.physical_plan.specs.declared.plan.Plan.{Plan}
use Rattle.physical_plan.specs.declared.plan.Plan.TheOpen.{Plan-F}
use Rattle.physical_plan.specs.Everywhere.{everywhere}
use Rattle.physical_plan.specs.Facts.{nothing, equals_at, is_null_at, compared, fact_of}
use Rattle.node_laws.specs.Joins.{Within, PairsWithin}
use Rattle.physical_plan.specs.Properties.{declared_of, left_keys, right_keys, first_width}
use Rattle.physical_plan.proofs.Everywhere.{both_true, and_parts}
use Rattle.planned_laws.proofs.Weaker.{weaker}
use Rattle.physical_plan.proofs.ExprFacts.{fact-Column, fact-Const, fact-Not, fact-Neg, fact-IsNull, fact-Binary, fact-Case, fact-Coalesce, fact-Cast, fact-Abs, fact-Length}
use Rattle.join_lowering.specs.Keys.{columns}
use Rattle.join_lowering.proofs.Nodes.{columns-Column, columns-IsNull, columns-Binary}
use Rattle.node_laws.specs.Nodes.{PlanInput, plans_of, inputs_of, declared_inputs, HaveWidth, InRange}
use Rattle.node_laws.specs.Tests.{pairs_below, have_width, needs_in_range}
use Rattle.node_laws.proofs.Ranges.{within_append, pairs_within_append}
use Rattle.node_laws.proofs.Tested.{within}
use Rattle.planned_laws.specs.Ranges.{are_below, are_all, are_equal, rest_columns, width, in_range}
use Rattle.planned_laws.proofs.Below.{below_split}
use Rattle.planned_laws.proofs.Orders.{join_parts}

-- ---- facts

record Says (w : ℕ) (f : Fact) : Type 0 where
  column : (k : ℕ) → f.column ≡ Some k → k < w
  pairs : PairsWithin w f.same
  constants : Within w f.constants

module _ (w : ℕ) where
  abbrev Factual : Expr → Type 0
  Factual e = are_below w (columns e) ≡ true → Says w (fact_of e)

  abbrev Known : Type 0
  Known = (e : Expr) × Factual e

  says_nothing : Says w nothing
  says_nothing = record { column = λ k e. cc; pairs = tt; constants = tt }

  silent : (e : Expr) → fact_of e ≡ nothing → Factual e
  silent e q h = subst (Says w) (sym q) says_nothing

  null_says : (f : Fact) → Says w f → (o : Option ℕ) → f.column ≡ o → Says w (is_null_at o)
  null_says f s None e = says_nothing
  null_says f s (Some k) e = record { column = λ j q. cc; pairs = tt; constants = (s.column k e, tt) }

  equal_says : (f g : Fact) → Says w f → Says w g → (a : Option ℕ) → f.column ≡ a → (l : Bool) → (b : Option ℕ) → g.column ≡ b → (r : Bool) → Says w (equals_at a l b r)
  equal_says f g s t (Some k) e l (Some m) i r = record { column = λ j q. cc; pairs = (s.column k e, t.column m i, tt); constants = tt }
  equal_says f g s t (Some k) e l None i true = record { column = λ j q. cc; pairs = tt; constants = (s.column k e, tt) }
  equal_says f g s t None e true (Some m) i r = record { column = λ j q. cc; pairs = tt; constants = (t.column m i, tt) }
  equal_says f g s t (Some k) e l None i false = says_nothing
  equal_says f g s t None e true None i r = says_nothing
  equal_says f g s t None e false b i r = says_nothing

  compared_says : (o : Op) (f g : Fact) → Says w f → Says w g → Says w (compared o f g)
  compared_says op.Eq f g s t = equal_says f g s t f.column refl f.literal g.column refl g.literal
  compared_says op.And f g s t = record { column = λ k q. cc; pairs = pairs_within_append w f.same g.same s.pairs t.pairs; constants = within_append w f.constants g.constants s.constants t.constants }
  compared_says _ f g s t = says_nothing

  column_says : (k : ℕ) → Factual (Column k)
  column_says k h = subst (Says w) (sym (fact-Column k)) (record { column = λ j q. let p : k ≡ j = cc in subst (λ (x : ℕ). x < w) p (within w (k ∷ []) (sym (ap (are_below w) (columns-Column k)) ∙ h)).0; pairs = tt; constants = tt })

  step : (y : Expr-F Known) → Factual (roll-Expr (map-Expr Known Expr (λ k. k.0) y))
  step (Expr-F.Column c) = subst Factual (sym (rolls-Column c)) (column_says c)
  step (Expr-F.Const v k) = subst Factual (sym (rolls-Const v k)) (λ h. subst (Says w) (sym (fact-Const v k)) (record { column = λ j e. cc; pairs = tt; constants = tt }))
  step (Expr-F.Not a) = subst Factual (sym (rolls-Not a.0)) (silent _ (fact-Not a.0))
  step (Expr-F.Neg a) = subst Factual (sym (rolls-Neg a.0)) (silent _ (fact-Neg a.0))
  step (Expr-F.IsNull a) = subst Factual (sym (rolls-IsNull a.0)) (λ h. subst (Says w) (sym (fact-IsNull a.0)) (null_says (fact_of a.0) (a.1 (sym (ap (are_below w) (columns-IsNull a.0)) ∙ h)) (fact_of a.0).column refl))
  step (Expr-F.Binary o a b) = subst Factual (sym (rolls-Binary o a.0 b.0)) (λ h. let p = below_split w (columns a.0) (columns b.0) (sym (ap (are_below w) (columns-Binary o a.0 b.0)) ∙ h) in
      subst (Says w) (sym (fact-Binary o a.0 b.0)) (compared_says o (fact_of a.0) (fact_of b.0) (a.1 p.0) (b.1 p.1)))
  step (Expr-F.Case arms other) = subst Factual (sym (rolls-Case (map (λ (arm : Known × Known). (arm.0.0, arm.1.0)) arms) other.0)) (silent _ (fact-Case (map (λ (arm : Known × Known). (arm.0.0, arm.1.0)) arms) other.0))
  step (Expr-F.Coalesce parts) = subst Factual (sym (rolls-Coalesce (map (λ (k : Known). k.0) parts))) (silent _ (fact-Coalesce (map (λ (k : Known). k.0) parts)))
  step (Expr-F.Cast a k) = subst Factual (sym (rolls-Cast a.0 k)) (silent _ (fact-Cast a.0 k))
  step (Expr-F.Abs a) = subst Factual (sym (rolls-Abs a.0)) (silent _ (fact-Abs a.0))
  step (Expr-F.Length a) = subst Factual (sym (rolls-Length a.0)) (silent _ (fact-Length a.0))

  factual : (e : Expr) → Factual e
  factual = ind-Expr Factual (λ x y is. subst (λ z. Factual (roll-Expr z)) is (step y))

-- ---- nodes

widths : (w v : ℕ) (is : List PlanInput) → v ≡ w → are_all v (map width (map (λ (i : PlanInput). i.0) is)) ≡ true → HaveWidth w (map (λ (i : PlanInput). (declared_of i.0, i.1)) is)
widths w v [] e h = tt
widths w v (i ∷ is) e h = let a = and_parts (eqb (width i.0) v) (are_all v (map width (map (λ (i : PlanInput). i.0) is))) h in (eqb-true (width i.0) v a.0 ∙ e, widths w v is e a.1)

union_widths : (is : List PlanInput) → are_equal (map width (map (λ (i : PlanInput). i.0) is)) ≡ true
    → HaveWidth (first_width (declared_inputs (map (λ (i : PlanInput). (declared_of i.0, i.1)) is))) (map (λ (i : PlanInput). (declared_of i.0, i.1)) is)
union_widths [] h = tt
union_widths (i ∷ is) h = (refl, widths (width i.0) (width i.0) is refl h)

pub ranges_of : (node : Plan-F PlanInput) → in_range (plans_of node) ≡ true → InRange (inputs_of node)
ranges_of (Plan-F.Filter i test) h = let s = factual (width i.0) test h in (s.pairs, s.constants)
ranges_of (Plan-F.HashJoin kind i j keys rest) h = let a = join_parts (width i.0) (width j.0) (left_keys keys) (right_keys keys) (rest_columns rest) h in (within (width i.0) (left_keys keys) a.0, within (width j.0) (right_keys keys) a.1)
ranges_of (Plan-F.UnionAll is) h = union_widths is h
ranges_of _ h = tt

-- ---- the test of needs says less

are_within : (w : ℕ) (cs : List ℕ) → Within w cs → are_below w cs ≡ true
are_within w [] h = refl
are_within w (c ∷ cs) h = both_true (nat_lt c w) (are_below w cs) (lt-ltb c w h.0) (are_within w cs h.1)

pairs_are_within : (w : ℕ) (ps : List (ℕ × ℕ)) → PairsWithin w ps → pairs_below w ps ≡ true
pairs_are_within w [] h = refl
pairs_are_within w (p ∷ ps) h = both_true (nat_lt p.0 w) (nat_lt p.1 w && pairs_below w ps) (lt-ltb p.0 w h.0) (both_true (nat_lt p.1 w) (pairs_below w ps) (lt-ltb p.1 w h.1) (pairs_are_within w ps h.2))

equal_widths : (w v : ℕ) (ps : List Plan) → v ≡ w → are_all v (map width ps) ≡ true → have_width w ps ≡ true
equal_widths w v [] e h = refl
equal_widths w v (p ∷ ps) e h =
    let a = and_parts (eqb (width p) v) (are_all v (map width ps)) h in
    both_true (eqb (width p) w) (have_width w ps) (eq-eqb (width p) w (eqb-true (width p) v a.0 ∙ e)) (equal_widths w v ps e a.1)

first_widths : (ps : List Plan) → are_equal (map width ps) ≡ true → have_width (first_width (map declared_of ps)) ps ≡ true
first_widths [] h = refl
first_widths (p ∷ ps) h = both_true (eqb (width p) (width p)) (have_width (width p) ps) (eq-eqb (width p) (width p) refl) (equal_widths (width p) (width p) ps refl h)

needs_ranged : (z : Plan-F Plan) → in_range z ≡ true → needs_in_range z ≡ true
needs_ranged (Plan-F.Filter p test) h =
    let s = factual (width p) test h in
    both_true (pairs_below (width p) (fact_of test).same) (are_below (width p) (fact_of test).constants) (pairs_are_within (width p) (fact_of test).same s.pairs) (are_within (width p) (fact_of test).constants s.constants)
needs_ranged (Plan-F.HashJoin kind p q keys rest) h =
    let a = join_parts (width p) (width q) (left_keys keys) (right_keys keys) (rest_columns rest) h in
    both_true (are_below (width p) (left_keys keys)) (are_below (width q) (right_keys keys)) a.0 a.1
needs_ranged (Plan-F.UnionAll ps) h = first_widths ps h
needs_ranged _ h = refl

pub all_needs_ranged : (p : Plan) → everywhere in_range p ≡ true → everywhere needs_in_range p ≡ true
all_needs_ranged = weaker in_range needs_in_range needs_ranged
