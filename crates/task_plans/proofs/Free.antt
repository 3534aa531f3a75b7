-- Built plans have no consumers.
use Rattle.std.proofs.Common.{ℕ, ◌+◌, ◌≡◌, refl, sym, ap, ◌∙◌, subst, Bool, true, false, List, [], ◌∷◌, ◌++◌, map, append_assoc}
use Rattle.std.proofs.lemmas.Bool.{false≢true}
use Rattle.plan_props.specs.Satisfies.{partition_count}
use Rattle.physical_plan.specs.declared.plan.Plan.{Plan}
use Rattle.physical_plan.specs.declared.plan.Plan.TheVariants.{rolls-Filter, rolls-Project, rolls-PartialGroup, rolls-FinalGroup, rolls-HashJoin, rolls-Sort, rolls-Merge, rolls-UnionAll, rolls-Limit}
use Rattle.physical_plan.specs.declared.plan.Plan.TheOpen.{Plan-F}
use Rattle.physical_plan.specs.declared.plan.Plan.TheViews.{roll-Plan}
use Rattle.physical_plan.specs.declared.plan.Plan.TheFolds.{map-Plan, ind-Plan}
use Rattle.physical_plan.specs.Everywhere.{all_true}
use Rattle.physical_plan.specs.Numbers.{numbers}
use Rattle.physical_plan.proofs.Everywhere.{and_parts}
use Rattle.tree_laws.specs.Operators.{Op}
use Rattle.plan_task_laws.specs.Trees.{Doing, Seed, leaf, inlet, scanning, passing, dealt_files, partitions_of, stages_in, sources_in}
use Rattle.plan_task_laws.specs.Starts.{consumers_in}
use Rattle.plan_task_laws.proofs.Branches.{rolled, ends}
use Rattle.plan_task_laws.proofs.Laws.{grown}
use Rattle.task_plans.specs.Built.{is_built}
use Rattle.task_plans.proofs.Nodes.{built-Filter, built-Project, built-PartialGroup, built-FinalGroup, built-HashJoin, built-Sort, built-Merge, built-UnionAll, built-Limit}

none_made : (h : ℕ → Seed) → ((i : ℕ) → (h i).consumers ≡ []) → (xs : List ℕ) → consumers_in (map h xs) ≡ []
none_made h e [] = refl
none_made h e (x ∷ xs) = ap (λ cs. cs ++ consumers_in (map h xs)) (e x) ∙ none_made h e xs

append_in : (xs ys : List Seed) → consumers_in (xs ++ ys) ≡ consumers_in xs ++ consumers_in ys
append_in [] ys = refl
append_in (x ∷ xs) ys = ap (λ cs. x.consumers ++ cs) (append_in xs ys) ∙ sym (append_assoc x.consumers (consumers_in xs) (consumers_in ys))

passed : (op : ℕ → Op) (xs : List Seed) → consumers_in (map (passing op) xs) ≡ consumers_in xs
passed op [] = refl
passed op (x ∷ xs) = ap (λ cs. x.consumers ++ cs) (passed op xs)

pub unbuilt : {P : Type 0} (p q : Plan) → p ≡ q → is_built q ≡ false → is_built p ≡ true → P
unbuilt p q e f t = absurd (false≢true (sym f ∙ ap is_built (sym e) ∙ t))

module _ (f : Doing) where
  abbrev Free : Plan → Type 0
  Free p = is_built p ≡ true → (k s : ℕ) → consumers_in (partitions_of f p k s) ≡ []

  abbrev Known : Type 0
  Known = (p : Plan) × Free p

  abbrev plans : List Known → List Plan
  plans ps = map (λ (p : Known). p.0) ps

  level : (z : Plan-F Plan) → (is_built (roll-Plan z) ≡ true → (k s : ℕ) → consumers_in (rolled f z k s) ≡ []) → Free (roll-Plan z)
  level z h e k s = ap (λ g. consumers_in (g k s)) (grown f z) ∙ h e k s

  all_free : (ps : List Known) → all_true (map is_built (plans ps)) ≡ true → (k s : ℕ) → consumers_in (ends f (plans ps) k s) ≡ []
  all_free [] e k s = refl
  all_free (p ∷ ps) e k s =
      let a = and_parts (is_built p.0) (all_true (map is_built (plans ps))) e in
      let rest = ends f (plans ps) (k + stages_in p.0) (s + sources_in p.0) in
      append_in (partitions_of f p.0 k s) rest ∙ ap (λ cs. cs ++ consumers_in rest) (p.1 a.0 k s) ∙ all_free ps a.1 (k + stages_in p.0) (s + sources_in p.0)

  step : (y : Plan-F Known) → Free (roll-Plan (map-Plan Known Plan (λ k. k.0) y))
  step (Plan-F.Scan table ks files n) = level (Plan-F.Scan table ks files n) (λ e k s. none_made (λ i. scanning (dealt_files (f.items table) s files n i)) (λ i. refl) (numbers n))
  step (Plan-F.Filter x test) = level (Plan-F.Filter x.0 test) (λ e k s.
      passed (f.operator (Plan-F.Filter x.0 test) 1) (partitions_of f x.0 k s) ∙ x.1 (sym (ap is_built (rolls-Filter x.0 test) ∙ built-Filter x.0 test) ∙ e) k s)
  step (Plan-F.Project x items) = level (Plan-F.Project x.0 items) (λ e k s.
      passed (f.operator (Plan-F.Project x.0 items) 1) (partitions_of f x.0 k s) ∙ x.1 (sym (ap is_built (rolls-Project x.0 items) ∙ built-Project x.0 items) ∙ e) k s)
  step (Plan-F.Coalesce x) = level (Plan-F.Coalesce x.0) (λ e k s. none_made (λ i. leaf (inlet k i)) (λ i. refl) (numbers 1))
  step (Plan-F.Repartition x to) = level (Plan-F.Repartition x.0 to) (λ e k s. none_made (λ i. leaf (inlet k i)) (λ i. refl) (numbers (partition_count to)))
  step (Plan-F.UnionAll xs) = level (Plan-F.UnionAll (plans xs)) (λ e k s. all_free xs (sym (ap is_built (rolls-UnionAll (plans xs)) ∙ built-UnionAll (plans xs)) ∙ e) k s)
  step (Plan-F.PartialGroup x keys calls) = λ e. unbuilt _ _ (rolls-PartialGroup x.0 keys calls) (built-PartialGroup x.0 keys calls) e
  step (Plan-F.FinalGroup x keys calls) = λ e. unbuilt _ _ (rolls-FinalGroup x.0 keys calls) (built-FinalGroup x.0 keys calls) e
  step (Plan-F.HashJoin kind x y keys rest) = λ e. unbuilt _ _ (rolls-HashJoin kind x.0 y.0 keys rest) (built-HashJoin kind x.0 y.0 keys rest) e
  step (Plan-F.Sort x keys) = λ e. unbuilt _ _ (rolls-Sort x.0 keys) (built-Sort x.0 keys) e
  step (Plan-F.Merge x keys) = λ e. unbuilt _ _ (rolls-Merge x.0 keys) (built-Merge x.0 keys) e
  step (Plan-F.Limit x skip fetch) = λ e. unbuilt _ _ (rolls-Limit x.0 skip fetch) (built-Limit x.0 skip fetch) e

  pub no_consumers : (p : Plan) → is_built p ≡ true → (k s : ℕ) → consumers_in (partitions_of f p k s) ≡ []
  no_consumers = ind-Plan Free (λ x y is. subst (λ z. Free (roll-Plan z)) is (step y))
