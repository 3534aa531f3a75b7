-- Whether a plan can be told, but for how its rows are spread, hangs on it without exchanges and sorts.
use Rattle.std.proofs.Common.{◌≡◌, refl, sym, ap, ◌∙◌, subst, List, [], ◌∷◌, map, Bool, true, ◌&&◌}
use Rattle.physical_plan.specs.declared.plan.Plan.{Plan}
use Rattle.physical_plan.specs.declared.plan.Plan.TheVariants.{rolls-Scan, rolls-Filter, rolls-Project, rolls-PartialGroup, rolls-FinalGroup, rolls-HashJoin, rolls-UnionAll, rolls-Limit}
use Rattle.physical_plan.specs.declared.plan.Plan.TheOpen.{Plan-F}
use Rattle.physical_plan.specs.declared.plan.Plan.TheViews.{roll-Plan}
use Rattle.physical_plan.specs.declared.plan.Plan.TheFolds.{map-Plan, ind-Plan}
use Rattle.physical_plan.specs.Everywhere.{bare_node, erased}
use Rattle.logical_plan.specs.Items.{rows}
use Rattle.logical_plan.specs.Body.{Tables}
use Rattle.answer_laws.specs.Meant.{Meaning, meaning_of, is_whole, all_told, finishes, told_node, is_told}
use Rattle.answer_laws.proofs.Built.{erased_means, erased_rolled}
use Rattle.finished_laws.specs.Sound.{anyhow}
use Rattle.finished_laws.proofs.Told.{told_rolled}

module _ (tables : Tables) where
  abbrev told : Plan → Bool
  told = is_told tables anyhow

  abbrev pairs : List Plan → List (Plan × Bool)
  pairs ps = map (λ (p : Plan). (p, told p)) ps

  abbrev node : Plan-F Plan → Bool
  node z = told_node tables anyhow (map-Plan Plan (Plan × Bool) (λ p. (p, told p)) z)

  abbrev Same : Plan → Type 0
  Same p = told (erased p) ≡ told p

  abbrev Known : Type 0
  Known = (p : Plan) × Same p

  abbrev plans : List Known → List Plan
  plans ps = map (λ (p : Known). p.0) ps

  rolled : (z : Plan-F Plan) → told (roll-Plan z) ≡ node z
  rolled z = told_rolled tables 0 anyhow z

  level : (z y : Plan-F Plan) → bare_node (map-Plan Plan Plan erased z) ≡ roll-Plan y → node y ≡ node z → Same (roll-Plan z)
  level z y e m = ap told (erased_rolled tables z ∙ e) ∙ rolled y ∙ m ∙ sym (rolled z)

  leaves : (z : Plan-F Plan) (q : Plan) → bare_node (map-Plan Plan Plan erased z) ≡ erased q → node z ≡ told q → Same q → Same (roll-Plan z)
  leaves z q e m h = ap told (erased_rolled tables z ∙ e) ∙ h ∙ sym m ∙ sym (rolled z)

  abbrev wholly : Plan → Bool
  wholly p = told p && is_whole (meaning_of tables p)

  whole_same : (x : Known) → wholly (erased x.0) ≡ wholly x.0
  whole_same x = ap (λ (b : Bool). b && is_whole (meaning_of tables (erased x.0))) x.1 ∙ ap (λ m. told x.0 && is_whole m) (erased_means tables x.0)

  abbrev all_whole : List Plan → Bool
  all_whole ps = all_told (λ p. is_whole (meaning_of tables p)) (pairs ps)

  all_same : (ps : List Known) → all_whole (map erased (plans ps)) ≡ all_whole (plans ps)
  all_same [] = refl
  all_same (p ∷ ps) =
      ap (λ (b : Bool). b && (is_whole (meaning_of tables (erased p.0)) && all_whole (map erased (plans ps)))) p.1
      ∙ ap (λ m. told p.0 && (is_whole m && all_whole (map erased (plans ps)))) (erased_means tables p.0)
      ∙ ap (λ (b : Bool). told p.0 && (is_whole (meaning_of tables p.0) && b)) (all_same ps)

  step : (y : Plan-F Known) → Same (roll-Plan (map-Plan Known Plan (λ k. k.0) y))
  step (Plan-F.Scan table kinds files partitions) = level (Plan-F.Scan table kinds files partitions) (Plan-F.Scan table kinds files partitions) (sym (rolls-Scan table kinds files partitions)) refl
  step (Plan-F.Filter x test) = level (Plan-F.Filter x.0 test) (Plan-F.Filter (erased x.0) test) (sym (rolls-Filter (erased x.0) test)) (whole_same x)
  step (Plan-F.Project x items) = level (Plan-F.Project x.0 items) (Plan-F.Project (erased x.0) items) (sym (rolls-Project (erased x.0) items)) (whole_same x)
  step (Plan-F.PartialGroup x keys calls) = level (Plan-F.PartialGroup x.0 keys calls) (Plan-F.PartialGroup (erased x.0) keys calls) (sym (rolls-PartialGroup (erased x.0) keys calls)) (whole_same x)
  step (Plan-F.FinalGroup x keys calls) = level (Plan-F.FinalGroup x.0 keys calls) (Plan-F.FinalGroup (erased x.0) keys calls) (sym (rolls-FinalGroup (erased x.0) keys calls))
      (ap (λ (b : Bool). b && (finishes (meaning_of tables (erased x.0)).groups keys calls (rows (meaning_of tables (erased x.0)).items) && true)) x.1
      ∙ ap (λ (m : Meaning). told x.0 && (finishes m.groups keys calls (rows m.items) && true)) (erased_means tables x.0))
  step (Plan-F.HashJoin kind x y keys rest) = level (Plan-F.HashJoin kind x.0 y.0 keys rest) (Plan-F.HashJoin kind (erased x.0) (erased y.0) keys rest) (sym (rolls-HashJoin kind (erased x.0) (erased y.0) keys rest))
      (ap (λ (b : Bool). b && (wholly (erased y.0) && true)) (whole_same x) ∙ ap (λ (b : Bool). wholly x.0 && (b && true)) (whole_same y))
  step (Plan-F.Sort x keys) = leaves (Plan-F.Sort x.0 keys) x.0 refl refl x.1
  step (Plan-F.Merge x keys) = leaves (Plan-F.Merge x.0 keys) x.0 refl refl x.1
  step (Plan-F.Coalesce x) = leaves (Plan-F.Coalesce x.0) x.0 refl refl x.1
  step (Plan-F.Repartition x to) = leaves (Plan-F.Repartition x.0 to) x.0 refl refl x.1
  step (Plan-F.UnionAll xs) = level (Plan-F.UnionAll (plans xs)) (Plan-F.UnionAll (map erased (plans xs))) (sym (rolls-UnionAll (map erased (plans xs)))) (all_same xs)
  step (Plan-F.Limit x skip fetch) = level (Plan-F.Limit x.0 skip fetch) (Plan-F.Limit (erased x.0) skip fetch) (sym (rolls-Limit (erased x.0) skip fetch)) refl

  pub erased_told : (p : Plan) → is_told tables anyhow (erased p) ≡ is_told tables anyhow p
  erased_told = ind-Plan Same (λ x y is. subst (λ z. Same (roll-Plan z)) is (step y))
