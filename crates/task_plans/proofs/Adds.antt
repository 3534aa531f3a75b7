-- Stations that stand for the tree of a node, over those of its input.
use Rattle.std.proofs.Common.{ℕ, zero, suc, ◌+◌, ◌-◌, ◌<◌, ◌≡◌, refl, sym, ap, ◌∙◌, subst, Bool, Option, Some, None, List, [], ◌∷◌, ◌++◌, length, map, take, sum, reverse, get_or, append_assoc, arith}
use Rattle.std.specs.Prelude.{option_map, ◌%◌, ◌==◌}
use Rattle.std.specs.List.{filter}
use Rattle.std.proofs.lemmas.List.{reverse-append, length-append, length-reverse}
use Rattle.std.proofs.Math.Seq.{take-length}
use Rattle.dfx_value.specs.declared.kind.Kind.{Kind}
use Rattle.scalar_exprs.specs.declared.expr.Expr.{Expr}
use Rattle.plan_props.specs.declared.properties.Partitioning.{Partitioning}
use Rattle.physical_plan.specs.declared.plan.Plan.{Plan}
use Rattle.physical_plan.specs.declared.plan.Plan.TheVariants as plan
use Rattle.physical_plan.specs.declared.plan.Plan.TheVariants.{rolls-Scan, rolls-Filter, rolls-Project, rolls-Coalesce, rolls-Repartition, rolls-UnionAll}
use Rattle.physical_plan.specs.declared.plan.Plan.TheOpen.{Plan-F}
use Rattle.physical_plan.specs.declared.plan.Plan.TheViews.{roll-Plan}
use Rattle.physical_plan.specs.Numbers.{numbers}
use Rattle.plan_shape.specs.Counts.{counts_of}
use Rattle.tree_laws.specs.Operators.{Op}
use Rattle.tree_laws.specs.Trees.{File, Tree, Nothing}
use Rattle.plan_task_laws.specs.Trees.{Doing, Seed, reserving, node, scan, scanning, passing, dealt_files}
use Rattle.plan_task_laws.specs.Branches.{seed_at, union_at, branch, IsEven}
use Rattle.plan_task_laws.proofs.Widths.{branches}
use Rattle.task_plans.specs.declared.station.ScanFile.{ScanFile}
use Rattle.task_plans.specs.declared.station.Node.TheVariants.{Filter, Project}
use Rattle.task_plans.specs.declared.station.OperatorPlan.{OperatorPlan}
use Rattle.task_plans.specs.declared.station.StationPlan.{StationPlan}
use Rattle.task_plans.specs.declared.station.StationPlan.TheVariants as station
use Rattle.task_plans.specs.Dealt.{file_at, dealt}
use Rattle.task_plans.specs.Stations.{file_of, DoesAs, IsOperator, piece, StandFor}
use Rattle.task_plans.specs.Added.{AddsFor, IsOver, AddsOperator}

-- ---- a node's partition

at_node : (f : Doing) (p : Plan) (z : Plan-F Plan) (k s i : ℕ) → roll-Plan z ≡ p → IsEven z → i < (counts_of p).parts → seed_at f p k s i ≡ branch f z k s i
at_node f p z k s i r e h = subst (λ q. i < (counts_of q).parts → seed_at f q k s i ≡ branch f z k s i) r (branches f z k s i e) h

adds : (f : Doing) (old new ss : List StationPlan) (a b : Seed) → a ≡ b → new ≡ old ++ reverse ss → ((c : ℕ) → StandFor f c ss (b.tree c)) → AddsFor f old new a
adds f old new ss a b e n h = (ss, n, subst (λ (s : Seed). (c : ℕ) → StandFor f c ss (s.tree c)) (sym e) h)

-- ---- leaves

named : (f : Doing) (table source : ℕ) (xs : List ℕ) → map (file_of f table) (map (file_at source) xs) ≡ map (λ (x : ℕ). record { source = source + x; items = f.items table x }) xs
named f table source [] = refl
named f table source (x ∷ xs) = ap (λ (ys : List File). record { source = source + x; items = f.items table x } ∷ ys) (named f table source xs)

pub scan_adds : (old : List StationPlan) (p : Plan) (table : ℕ) (ks : List Kind) (files n k s i : ℕ) → p ≡ plan.Scan table ks files n → i < (counts_of p).parts
    → (f : Doing) → AddsFor f old (old ++ station.Scan table (dealt s files n i) ∷ []) (seed_at f p k s i)
scan_adds old p table ks files n k s i e h f =
    adds f old (old ++ station.Scan table (dealt s files n i) ∷ []) (station.Scan table (dealt s files n i) ∷ []) (seed_at f p k s i) (scanning (dealt_files (f.items table) s files n i))
    (at_node f p (Plan-F.Scan table ks files n) k s i (rolls-Scan table ks files n ∙ sym e) tt h) refl
    (λ c. ap scan (sym (named f table s (filter (λ (x : ℕ). x % n == i) (numbers files)))))

pub gathered_adds : (old : List StationPlan) (p q : Plan) (k s i : ℕ) → p ≡ plan.Coalesce q → i < (counts_of p).parts
    → (f : Doing) → AddsFor f old (old ++ station.Inlet k i ∷ []) (seed_at f p k s i)
gathered_adds old p q k s i e h f =
    adds f old (old ++ station.Inlet k i ∷ []) (station.Inlet k i ∷ []) (seed_at f p k s i) (branch f (Plan-F.Coalesce q) k s i)
    (at_node f p (Plan-F.Coalesce q) k s i (rolls-Coalesce q ∙ sym e) tt h) refl (λ c. refl)

pub split_adds : (old : List StationPlan) (p q : Plan) (to : Partitioning) (k s i : ℕ) → p ≡ plan.Repartition q to → i < (counts_of p).parts
    → (f : Doing) → AddsFor f old (old ++ station.Inlet k i ∷ []) (seed_at f p k s i)
split_adds old p q to k s i e h f =
    adds f old (old ++ station.Inlet k i ∷ []) (station.Inlet k i ∷ []) (seed_at f p k s i) (branch f (Plan-F.Repartition q to) k s i)
    (at_node f p (Plan-F.Repartition q to) k s i (rolls-Repartition q to ∙ sym e) tt h) refl (λ c. refl)

-- ---- operators over one input

below : (f : Doing) (c : ℕ) (ss : List StationPlan) (t : Tree) (i : ℕ) → StandFor f c ss t → StandFor f c (piece (length ss ∷ []) ss i) (get_or (t ∷ []) i Nothing)
below f c ss t zero h = subst (λ xs. StandFor f c xs t) (sym (take-length ss)) h
below f c ss t (suc i) h = refl

over : (f : Doing) (c : ℕ) (o : OperatorPlan) (ss : List StationPlan) (z : Plan-F Plan) (t : Tree) → DoesAs o.node o.kinds z → o.consumer ≡ None → reserving z ≡ None
    → o.sizes ≡ length ss ∷ [] → StandFor f c ss t → StandFor f c (station.Operator o ∷ ss) (node (f.operator z 1 c) (t ∷ []))
over f c o ss z t does none free sizes h = (
  (
    record {
      of = z;
      next = 0;
      does = does;
      is = ap (λ (n : ℕ). f.operator z n c) (sym (ap length sizes)) ∙ ap (f.operator z (length o.sizes)) (let e : c ≡ c + 0 = omega arith in e);
      consumer = none ∙ sym (ap (option_map (λ (spillable : Bool). 0)) free);
    },
    (let e : sum o.sizes ≡ 0 + length ss = ap sum sizes in omega arith),
  ),
  refl,
  refl,
  λ i. subst (λ ns. StandFor f c (piece ns ss i) (get_or (t ∷ []) i Nothing)) (sym sizes) (below f c ss t i h),
)

width_of : (old mid ss : List StationPlan) → mid ≡ old ++ reverse ss → length mid - length old ≡ length ss
width_of old mid ss e =
    let a = ap length e in
    let b = length-append old (reverse ss) in
    let d = length-reverse ss in
    omega arith

passing_adds : (f : Doing) (old mid new : List StationPlan) (o : OperatorPlan) (z : Plan-F Plan) (a b : Seed) → AddsFor f old mid a → b ≡ passing (f.operator z 1) a
    → new ≡ mid ++ station.Operator o ∷ [] → DoesAs o.node o.kinds z → o.consumer ≡ None → reserving z ≡ None → o.sizes ≡ (length mid - length old) ∷ []
    → AddsFor f old new b
passing_adds f old mid new o z a b h e n does none free sizes =
    adds f old new (station.Operator o ∷ h.0) b (passing (f.operator z 1) a) e
    (n ∙ ap (λ xs. xs ++ station.Operator o ∷ []) h.1 ∙ append_assoc old (reverse h.0) (station.Operator o ∷ []) ∙ ap (λ xs. old ++ xs) (sym (reverse-append (station.Operator o ∷ []) h.0)))
    (λ c. over f c o h.0 z (a.tree c) does none free (sizes ∙ ap (λ (m : ℕ). m ∷ []) (width_of old mid h.0 h.1)) (h.2 c))

pub filter_adds : (old mid new : List StationPlan) (p q : Plan) (test : Expr) (k s i : ℕ) → p ≡ plan.Filter q test → i < (counts_of p).parts
    → ((f : Doing) → AddsFor f old mid (seed_at f q k s i)) → AddsOperator mid new (Filter test) q (length mid - length old)
    → (f : Doing) → AddsFor f old new (seed_at f p k s i)
filter_adds old mid new p q test k s i e h below_it op f =
    let o = op.0 in let w = op.2 in
    passing_adds f old mid new o (Plan-F.Filter q test) (seed_at f q k s i) (seed_at f p k s i) (below_it f)
    (at_node f p (Plan-F.Filter q test) k s i (rolls-Filter q test ∙ sym e) tt h) op.1
    (subst (λ n. DoesAs n o.kinds (Plan-F.Filter q test)) (sym w.node) (refl, w.kinds)) w.consumer refl w.sizes

pub project_adds : (old mid new : List StationPlan) (p q : Plan) (items : List Expr) (k s i : ℕ) → p ≡ plan.Project q items → i < (counts_of p).parts
    → ((f : Doing) → AddsFor f old mid (seed_at f q k s i)) → AddsOperator mid new (Project items) q (length mid - length old)
    → (f : Doing) → AddsFor f old new (seed_at f p k s i)
project_adds old mid new p q items k s i e h below_it op f =
    let o = op.0 in let w = op.2 in
    passing_adds f old mid new o (Plan-F.Project q items) (seed_at f q k s i) (seed_at f p k s i) (below_it f)
    (at_node f p (Plan-F.Project q items) k s i (rolls-Project q items ∙ sym e) tt h) op.1
    (subst (λ n. DoesAs n o.kinds (Plan-F.Project q items)) (sym w.node) (refl, w.kinds)) w.consumer refl w.sizes

-- ---- a union

pub union_adds : (old new : List StationPlan) (p : Plan) (qs : List Plan) (k s i : ℕ) → p ≡ plan.UnionAll qs → i < (counts_of p).parts
    → ((f : Doing) → AddsFor f old new (union_at f qs k s i)) → (f : Doing) → AddsFor f old new (seed_at f p k s i)
union_adds old new p qs k s i e h g f =
    let a = g f in
    adds f old new a.0 (seed_at f p k s i) (union_at f qs k s i) (at_node f p (Plan-F.UnionAll qs) k s i (rolls-UnionAll qs ∙ sym e) tt h) a.1 a.2
