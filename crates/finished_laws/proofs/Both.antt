-- Two tests everywhere are their conjunction everywhere.
use Rattle.std.proofs.Common.{◌≡◌, List, [], ◌∷◌, Bool, true, ◌&&◌, map, ap, sym, subst, ◌∙◌, refl}
use Rattle.physical_plan.specs.declared.plan.Plan.{Plan}
use Rattle.physical_plan.specs.declared.plan.Plan.TheOpen.{Plan-F}
use Rattle.physical_plan.specs.declared.plan.Plan.TheViews.{roll-Plan}
use Rattle.physical_plan.specs.declared.plan.Plan.TheFolds.{map-Plan, ind-Plan}
use Rattle.physical_plan.specs.Everywhere.{Test, node_holds, everywhere, all_true}
use Rattle.answer_laws.proofs.Meaning.{both_true}
use Rattle.finished_laws.proofs.Everywhere.{both_are, rolled, seconds, firsts, one_below, two_below}

module _ (a b : Test) where
  abbrev pub both : Test
  both z = a z && b z

  abbrev Holds : Plan → Type 0
  Holds p = everywhere a p ≡ true → everywhere b p ≡ true → everywhere both p ≡ true

  abbrev Known : Type 0
  Known = (p : Plan) × Holds p

  abbrev plans : List Known → List Plan
  plans ps = map (λ (p : Known). p.0) ps

  abbrev node : Test → Plan-F Plan → Bool
  node test z = node_holds test (map-Plan Plan (Plan × Bool) (λ p. (p, everywhere test p)) z)

  level : (z : Plan-F Plan) → (node a z ≡ true → node b z ≡ true → node both z ≡ true) → Holds (roll-Plan z)
  level z h e i = rolled both z ∙ h (sym (rolled a z) ∙ e) (sym (rolled b z) ∙ i)

  one : (z : Plan-F Plan) (p : Known) → a z && (everywhere a p.0 && true) ≡ true → b z && (everywhere b p.0 && true) ≡ true → both z && (everywhere both p.0 && true) ≡ true
  one z p e i =
      let x = one_below (a z) (everywhere a p.0) e in
      let y = one_below (b z) (everywhere b p.0) i in
      both_are (both z) (everywhere both p.0 && true) (both_are (a z) (b z) x.0 y.0) (both_are (everywhere both p.0) true (p.1 x.1 y.1) refl)

  two : (z : Plan-F Plan) (p q : Known) → a z && (everywhere a p.0 && (everywhere a q.0 && true)) ≡ true → b z && (everywhere b p.0 && (everywhere b q.0 && true)) ≡ true
      → both z && (everywhere both p.0 && (everywhere both q.0 && true)) ≡ true
  two z p q e i =
      let x = two_below (a z) (everywhere a p.0) (everywhere a q.0) e in
      let y = two_below (b z) (everywhere b p.0) (everywhere b q.0) i in
      both_are (both z) (everywhere both p.0 && (everywhere both q.0 && true)) (both_are (a z) (b z) x.0 y.0)
      (both_are (everywhere both p.0) (everywhere both q.0 && true) (p.1 x.1 y.1) (both_are (everywhere both q.0) true (q.1 x.2 y.2) refl))

  all : (ps : List Known) → all_true (map (everywhere a) (plans ps)) ≡ true → all_true (map (everywhere b) (plans ps)) ≡ true → all_true (map (everywhere both) (plans ps)) ≡ true
  all [] e i = refl
  all (p ∷ ps) e i =
      let x = both_true (everywhere a p.0) (all_true (map (everywhere a) (plans ps))) e in
      let y = both_true (everywhere b p.0) (all_true (map (everywhere b) (plans ps))) i in
      both_are (everywhere both p.0) (all_true (map (everywhere both) (plans ps))) (p.1 x.0 y.0) (all ps x.1 y.1)

  -- of a union: the test there, and everywhere below
  apart : (test : Test) (ps : List Plan) → node test (Plan-F.UnionAll ps) ≡ test (Plan-F.UnionAll ps) && all_true (map (everywhere test) ps)
  apart test ps = ap (λ (qs : List Plan). test (Plan-F.UnionAll qs) && all_true (map (λ (p : Plan × Bool). p.1) (map (λ (x : Plan). (x, everywhere test x)) ps))) (firsts test ps)
      ∙ ap (λ (bs : List Bool). test (Plan-F.UnionAll ps) && all_true bs) (seconds test ps)

  step : (y : Plan-F Known) → Holds (roll-Plan (map-Plan Known Plan (λ k. k.0) y))
  step (Plan-F.Scan table kinds files partitions) = level (Plan-F.Scan table kinds files partitions) (λ e i. (let z = Plan-F.Scan table kinds files partitions in
      both_are (both z) true (both_are (a z) (b z) (both_true (a z) true e).0 (both_true (b z) true i).0) refl))
  step (Plan-F.Filter p test) = level (Plan-F.Filter p.0 test) (one (Plan-F.Filter p.0 test) p)
  step (Plan-F.Project p items) = level (Plan-F.Project p.0 items) (one (Plan-F.Project p.0 items) p)
  step (Plan-F.PartialGroup p keys calls) = level (Plan-F.PartialGroup p.0 keys calls) (one (Plan-F.PartialGroup p.0 keys calls) p)
  step (Plan-F.FinalGroup p keys calls) = level (Plan-F.FinalGroup p.0 keys calls) (one (Plan-F.FinalGroup p.0 keys calls) p)
  step (Plan-F.HashJoin kind p q keys rest) = level (Plan-F.HashJoin kind p.0 q.0 keys rest) (two (Plan-F.HashJoin kind p.0 q.0 keys rest) p q)
  step (Plan-F.Sort p keys) = level (Plan-F.Sort p.0 keys) (one (Plan-F.Sort p.0 keys) p)
  step (Plan-F.Merge p keys) = level (Plan-F.Merge p.0 keys) (one (Plan-F.Merge p.0 keys) p)
  step (Plan-F.Coalesce p) = level (Plan-F.Coalesce p.0) (one (Plan-F.Coalesce p.0) p)
  step (Plan-F.Repartition p to) = level (Plan-F.Repartition p.0 to) (one (Plan-F.Repartition p.0 to) p)
  step (Plan-F.UnionAll ps) = level (Plan-F.UnionAll (plans ps)) (λ e i. (
      let z = Plan-F.UnionAll (plans ps) in
      let x = both_true (a z) (all_true (map (everywhere a) (plans ps))) (sym (apart a (plans ps)) ∙ e) in
      let y = both_true (b z) (all_true (map (everywhere b) (plans ps))) (sym (apart b (plans ps)) ∙ i) in
      apart both (plans ps) ∙ both_are (both z) (all_true (map (everywhere both) (plans ps))) (both_are (a z) (b z) x.0 y.0) (all ps x.1 y.1)))
  step (Plan-F.Limit p skip fetch) = level (Plan-F.Limit p.0 skip fetch) (one (Plan-F.Limit p.0 skip fetch) p)

  pub everywhere_both : (p : Plan) → everywhere a p ≡ true → everywhere b p ≡ true → everywhere both p ≡ true
  everywhere_both = ind-Plan Holds (λ x y is. subst (λ z. Holds (roll-Plan z)) is (step y))
