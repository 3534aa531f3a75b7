-- What the calls that append the tasks of stages answer, node by node.
use Rattle.std.specs.Prelude.{OnOk, IfErr, Ok}
use Rattle.std.proofs.Common.{ℕ, ◌+◌, ◌≡◌, refl, sym, ap, ◌∙◌, subst, Bool, true, false, ◌&&◌, is_some, List, map, ◌++◌}
use Rattle.scalar_exprs.specs.declared.expr.Expr.{Expr}
use Rattle.plan_props.specs.declared.properties.Partitioning.{Partitioning}
use Rattle.plan_props.specs.Satisfies.{partition_count}
use Rattle.physical_plan.specs.declared.plan.Plan.{Plan}
use Rattle.physical_plan.specs.declared.plan.Plan.TheVariants as plan
use Rattle.physical_plan.specs.Everywhere.{everywhere, all_true}
use Rattle.physical_plan.proofs.Everywhere.{and_parts}
use Rattle.plan_kinds.specs.Kinds.{kinds, inputs_have_kinds}
use Rattle.tree_laws.specs.Tasks.{Task}
use Rattle.plan_task_laws.specs.Trees.{Doing, partitions_of}
use Rattle.plan_task_laws.specs.Tops as tops
use Rattle.plan_task_laws.specs.Starts.{split_by, tasks_by, tasks_in}
use Rattle.task_plans.specs.declared.refused.PlanRefused.{PlanRefused}
use Rattle.task_plans.specs.declared.refused.PlanRefused.TheVariants as refused
use Rattle.task_plans.specs.declared.station.TaskPlan.{TaskPlan}
use Rattle.task_plans.specs.Built.{is_built, is_in_turn}
use Rattle.task_plans.specs.Refusals.{Refuses}
use Rattle.task_plans.specs.Added.{AddsTasks, tops_over}
use Rattle.task_plans.proofs.Nodes.{built-Filter, built-Project, built-Coalesce, built-Repartition, built-UnionAll, kinded-Coalesce, kinded-Repartition}
use Rattle.task_plans.proofs.Pushes.{Answer, ok_map, err_map, and_false, below_filter, below_project}
use Rattle.task_plans.proofs.Stages.{below_one, below_exchange, in_filter, in_project, in_coalesce, in_repartition, in_union}

-- ---- what is appended

pub filter_stages : (f : Doing) (old new : List TaskPlan) (p x q : Plan) (test : Expr) (k s : ℕ) (v : Answer) → p ≡ plan.Filter x test → q ≡ x
    → (is_built q ≡ true → OnOk v (AddsTasks f old new (tasks_in f 0 (tops.tops q k s)))) → is_built p ≡ true → OnOk v (AddsTasks f old new (tasks_in f 0 (tops.tops p k s)))
filter_stages f old new p x q test k s v e g h b =
    let e2 : p ≡ plan.Filter q test = e ∙ ap (λ y. plan.Filter y test) (sym g) in
    below_one f old new p q v (tasks_in f 0 (tops.tops q k s)) (tasks_in f 0 (tops.tops p k s)) (in_filter f p q test k s e2) (h (sym (ap is_built e2 ∙ built-Filter q test) ∙ b))

pub project_stages : (f : Doing) (old new : List TaskPlan) (p x q : Plan) (items : List Expr) (k s : ℕ) (v : Answer) → p ≡ plan.Project x items → q ≡ x
    → (is_built q ≡ true → OnOk v (AddsTasks f old new (tasks_in f 0 (tops.tops q k s)))) → is_built p ≡ true → OnOk v (AddsTasks f old new (tasks_in f 0 (tops.tops p k s)))
project_stages f old new p x q items k s v e g h b =
    let e2 : p ≡ plan.Project q items = e ∙ ap (λ y. plan.Project y items) (sym g) in
    below_one f old new p q v (tasks_in f 0 (tops.tops q k s)) (tasks_in f 0 (tops.tops p k s)) (in_project f p q items k s e2) (h (sym (ap is_built e2 ∙ built-Project q items) ∙ b))

-- of an exchange: the tasks of the stage that it opens, then of those in it
opened_adds : (f : Doing) (old mid new : List TaskPlan) (x q q2 : Plan) (k s k2 s2 : ℕ) (w : tops.Way) (r v : Answer) (u : Unit {0}) (all : List Task) → q ≡ x → q2 ≡ x → k2 ≡ k + 1 → s2 ≡ s → r ≡ Ok u
    → OnOk r (AddsTasks f old mid (tasks_by (split_by f w) 0 0 (partitions_of f q k2 s2))) → OnOk v (AddsTasks f mid new (tasks_in f 0 (tops.tops q2 k2 s2)))
    → tasks_by (split_by f w) 0 0 (partitions_of f x (k + 1) s) ++ tasks_in f 0 (tops.tops x (k + 1) s) ≡ all → OnOk v (AddsTasks f old new all)
opened_adds f old mid new x q q2 k s k2 s2 w r v u all g g2 a d ok h i e =
    below_exchange f old mid new r v u (tasks_by (split_by f w) 0 0 (partitions_of f q k2 s2)) (tasks_in f 0 (tops.tops q2 k2 s2)) all ok h i
    (ap (λ y. tasks_by (split_by f w) 0 0 (partitions_of f y k2 s2) ++ tasks_in f 0 (tops.tops q2 k2 s2)) g
    ∙ ap (λ y. tasks_by (split_by f w) 0 0 (partitions_of f x k2 s2) ++ tasks_in f 0 (tops.tops y k2 s2)) g2
    ∙ ap (λ (n : ℕ). tasks_by (split_by f w) 0 0 (partitions_of f x n s2) ++ tasks_in f 0 (tops.tops x n s2)) a
    ∙ ap (λ (n : ℕ). tasks_by (split_by f w) 0 0 (partitions_of f x (k + 1) n) ++ tasks_in f 0 (tops.tops x (k + 1) n)) d ∙ e)

pub coalesce_stages : (f : Doing) (old mid new : List TaskPlan) (p x q q2 : Plan) (k s k2 s2 : ℕ) (r v : Answer) (u : Unit {0}) → p ≡ plan.Coalesce x → q ≡ x → q2 ≡ x → k2 ≡ k + 1 → s2 ≡ s → r ≡ Ok u
    → (is_built q ≡ true → OnOk r (AddsTasks f old mid (tasks_by (split_by f tops.ToOne) 0 0 (partitions_of f q k2 s2))))
    → (is_built q2 ≡ true → OnOk v (AddsTasks f mid new (tasks_in f 0 (tops.tops q2 k2 s2))))
    → is_built p ≡ true → OnOk v (AddsTasks f old new (tasks_in f 0 (tops.tops p k s)))
coalesce_stages f old mid new p x q q2 k s k2 s2 r v u e g g2 a d ok h i b =
    let t : is_built x ≡ true = sym (ap is_built e ∙ built-Coalesce x) ∙ b in
    opened_adds f old mid new x q q2 k s k2 s2 tops.ToOne r v u (tasks_in f 0 (tops.tops p k s)) g g2 a d ok (h (ap is_built g ∙ t)) (i (ap is_built g2 ∙ t)) (in_coalesce f p x k s e t)

pub repartition_stages : (f : Doing) (old mid new : List TaskPlan) (p x q q2 : Plan) (to : Partitioning) (k s k2 s2 n : ℕ) (r v : Answer) (u : Unit {0}) → p ≡ plan.Repartition x to → q ≡ x → q2 ≡ x
    → n ≡ partition_count to → k2 ≡ k + 1 → s2 ≡ s → r ≡ Ok u
    → (is_built q ≡ true → OnOk r (AddsTasks f old mid (tasks_by (split_by f (tops.InTurn n)) 0 0 (partitions_of f q k2 s2))))
    → (is_built q2 ≡ true → OnOk v (AddsTasks f mid new (tasks_in f 0 (tops.tops q2 k2 s2))))
    → is_built p ≡ true → OnOk v (AddsTasks f old new (tasks_in f 0 (tops.tops p k s)))
repartition_stages f old mid new p x q q2 to k s k2 s2 n r v u e g g2 m a d ok h i b =
    let t = and_parts (is_in_turn to) (is_built x) (sym (ap is_built e ∙ built-Repartition x to) ∙ b) in
    opened_adds f old mid new x q q2 k s k2 s2 (tops.InTurn n) r v u (tasks_in f 0 (tops.tops p k s)) g g2 a d ok (h (ap is_built g ∙ t.1)) (i (ap is_built g2 ∙ t.1))
    (ap (λ (c : ℕ). tasks_by (split_by f (tops.InTurn c)) 0 0 (partitions_of f x (k + 1) s) ++ tasks_in f 0 (tops.tops x (k + 1) s)) m ∙ in_repartition f p x to k s e t.1 t.0)

pub union_stages : (f : Doing) (old new : List TaskPlan) (p : Plan) (xs qs : List Plan) (k s : ℕ) (v : Answer) → p ≡ plan.UnionAll xs → qs ≡ xs
    → (all_true (map is_built qs) ≡ true → OnOk v (AddsTasks f old new (tasks_in f 0 (tops_over qs k s)))) → is_built p ≡ true → OnOk v (AddsTasks f old new (tasks_in f 0 (tops.tops p k s)))
union_stages f old new p xs qs k s v e g h b =
    let e2 : p ≡ plan.UnionAll qs = e ∙ ap plan.UnionAll (sym g) in
    below_one f old new p p v (tasks_in f 0 (tops_over qs k s)) (tasks_in f 0 (tops.tops p k s)) (in_union f p qs k s e2) (h (sym (ap is_built e2 ∙ built-UnionAll qs) ∙ b))

-- ---- refusals

pub below_coalesce : (q x p : Plan) (e : PlanRefused) → p ≡ plan.Coalesce x → q ≡ x → Refuses e q → Refuses e p
below_coalesce q x p refused.NotBuilt g h r = ap is_built g ∙ built-Coalesce x ∙ ap is_built (sym h) ∙ r
below_coalesce q x p refused.NoMemory g h r = r
below_coalesce q x p refused.NoKind g h r =
    ap (everywhere inputs_have_kinds) g ∙ kinded-Coalesce x ∙ ap (λ b. is_some (kinds x) && b) (ap (everywhere inputs_have_kinds) (sym h) ∙ r) ∙ and_false (is_some (kinds x))

pub below_repartition : (q x p : Plan) (to : Partitioning) (e : PlanRefused) → p ≡ plan.Repartition x to → q ≡ x → Refuses e q → Refuses e p
below_repartition q x p to refused.NotBuilt g h r = ap is_built g ∙ built-Repartition x to ∙ ap (λ b. is_in_turn to && b) (ap is_built (sym h) ∙ r) ∙ and_false (is_in_turn to)
below_repartition q x p to refused.NoMemory g h r = r
below_repartition q x p to refused.NoKind g h r =
    ap (everywhere inputs_have_kinds) g ∙ kinded-Repartition x to ∙ ap (λ b. is_some (kinds x) && b) (ap (everywhere inputs_have_kinds) (sym h) ∙ r) ∙ and_false (is_some (kinds x))

pub filter_fails : (v : Answer) (q x p : Plan) (test : Expr) → p ≡ plan.Filter x test → q ≡ x → IfErr v (λ e. Refuses e q) → IfErr v (λ e. Refuses e p)
filter_fails v q x p test g h r = err_map v (λ e. Refuses e q) (λ e. Refuses e p) (λ e. below_filter q x p test e g h) r

pub project_fails : (v : Answer) (q x p : Plan) (items : List Expr) → p ≡ plan.Project x items → q ≡ x → IfErr v (λ e. Refuses e q) → IfErr v (λ e. Refuses e p)
project_fails v q x p items g h r = err_map v (λ e. Refuses e q) (λ e. Refuses e p) (λ e. below_project q x p items e g h) r

pub coalesce_fails : (v : Answer) (q x p : Plan) → p ≡ plan.Coalesce x → q ≡ x → IfErr v (λ e. Refuses e q) → IfErr v (λ e. Refuses e p)
coalesce_fails v q x p g h r = err_map v (λ e. Refuses e q) (λ e. Refuses e p) (λ e. below_coalesce q x p e g h) r

pub repartition_fails : (v : Answer) (q x p : Plan) (to : Partitioning) → p ≡ plan.Repartition x to → q ≡ x → IfErr v (λ e. Refuses e q) → IfErr v (λ e. Refuses e p)
repartition_fails v q x p to g h r = err_map v (λ e. Refuses e q) (λ e. Refuses e p) (λ e. below_repartition q x p to e g h) r
