-- The tasks of a stage, partition by partition, and those of stages one after the other.
use Rattle.std.specs.Prelude.{OnOk, Result, Ok, Err}
use Rattle.std.proofs.Math.ListN.{drop_of_length-le}
use Rattle.std.proofs.Common.{ℕ, zero, suc, ◌+◌, ◌<◌, ◌≡◌, refl, sym, ap, ◌∙◌, subst, ◌≤◌, Bool, true, false, Option, List, [], ◌∷◌, ◌++◌, map, length, take, drop, get_or, reverse, append_assoc, arith}
use Rattle.std.proofs.lemmas.List.{append-nil, reverse-reverse}
use Rattle.dfx_value.specs.declared.kind.Kind.{Kind}
use Rattle.scalar_exprs.specs.declared.expr.Expr.{Expr}
use Rattle.plan_props.specs.declared.properties.Partitioning.{Partitioning}
use Rattle.plan_props.specs.declared.properties.Partitioning.TheVariants as parting
use Rattle.plan_props.specs.Satisfies.{partition_count}
use Rattle.physical_plan.specs.declared.plan.Plan.{Plan}
use Rattle.physical_plan.specs.declared.plan.Plan.TheVariants as plan
use Rattle.physical_plan.specs.declared.plan.Plan.TheVariants.{rolls-Scan, rolls-Filter, rolls-Project, rolls-Coalesce, rolls-Repartition, rolls-UnionAll, rolls-PartialGroup, rolls-FinalGroup, rolls-HashJoin, rolls-Sort, rolls-Merge, rolls-Limit}
use Rattle.physical_plan.specs.declared.plan.Plan.TheOpen.{Plan-F}
use Rattle.physical_plan.specs.declared.plan.Plan.TheViews.{roll-Plan}
use Rattle.physical_plan.specs.declared.plan.Plan.TheFolds.{map-Plan, ind-Plan}
use Rattle.physical_plan.specs.Everywhere.{all_true}
use Rattle.physical_plan.proofs.Everywhere.{and_parts}
use Rattle.plan_shape.specs.Counts.{counts_of}
use Rattle.tree_laws.specs.Trees.{Nothing}
use Rattle.tree_laws.specs.Tasks.{Split, Task}
use Rattle.plan_task_laws.specs.Trees.{Doing, Seed, leaf, partitions_of, stages_in, sources_in}
use Rattle.plan_task_laws.specs.Tops as tops
use Rattle.plan_task_laws.specs.Tops.{Top, Topping, top_node, tops_after, way_to, InTurn}
use Rattle.plan_task_laws.specs.Starts.{split_by, starting, tasks_by, consumers_in, seeds_of, tasks_in, tasks_of}
use Rattle.plan_task_laws.specs.Branches.{seed_at, width_at}
use Rattle.plan_task_laws.proofs.Laws.{topped}
use Rattle.plan_task_laws.proofs.Widths.{width_counts}
use Rattle.task_plans.specs.declared.station.StationPlan.{StationPlan}
use Rattle.task_plans.specs.declared.station.Sending.{Sending}
use Rattle.task_plans.specs.declared.station.TaskPlan.{TaskPlan}
use Rattle.task_plans.specs.Built.{is_built, is_in_turn}
use Rattle.task_plans.specs.Stations.{StandFor}
use Rattle.task_plans.specs.Tasks.{split_of, IsTask, AreTasks}
use Rattle.task_plans.specs.Added.{AddsFor, AddsTasks, tops_over}
use Rattle.task_plans.proofs.Free.{no_consumers, unbuilt}
use Rattle.task_plans.proofs.Pushes.{Answer, ok_map, ok_is, next_input}
use Rattle.task_plans.proofs.Nodes.{built-Filter, built-Project, built-Coalesce, built-Repartition, built-PartialGroup, built-FinalGroup, built-HashJoin, built-Sort, built-Merge, built-UnionAll, built-Limit}

-- ---- lists of tasks

are_append : (f : Doing) (ps qs : List TaskPlan) (ts us : List Task) → AreTasks f ps ts → AreTasks f qs us → AreTasks f (ps ++ qs) (ts ++ us)
are_append f [] qs [] us a b = b
are_append f [] qs (t ∷ ts) us a b = absurd a
are_append f (p ∷ ps) qs [] us a b = absurd a
are_append f (p ∷ ps) qs (t ∷ ts) us a b = (a.0, are_append f ps qs ts us a.1 b)

pub adds_none : (f : Doing) (old : List TaskPlan) → AddsTasks f old old []
adds_none f old = ([], sym (append-nil old), tt)

pub adds_then : (f : Doing) (a b c : List TaskPlan) (ts us : List Task) → AddsTasks f a b ts → AddsTasks f b c us → AddsTasks f a c (ts ++ us)
adds_then f a b c ts us x y =
    (x.0 ++ y.0, y.1 ∙ ap (λ xs. xs ++ y.0) x.1 ∙ append_assoc a x.0 y.0, are_append f x.0 y.0 ts us x.2 y.2)

pub adds_same : (f : Doing) (a b : List TaskPlan) (ts us : List Task) → ts ≡ us → AddsTasks f a b ts → AddsTasks f a b us
adds_same f a b ts us e h = subst (AddsTasks f a b) e h

-- ---- one stage

nothing_in : (cs ds : List Bool) → cs ++ ds ≡ [] → (cs ≡ []) × (ds ≡ [])
nothing_in [] ds e = (refl, e)
nothing_in (c ∷ cs) ds e = cc

front_free : (xs : List Seed) (i : ℕ) → consumers_in xs ≡ [] → consumers_in (take i xs) ≡ []
front_free xs zero e = refl
front_free [] (suc i) e = refl
front_free (x ∷ xs) (suc i) e =
    let a = nothing_in x.consumers (consumers_in xs) e in
    ap (λ cs. cs ++ consumers_in (take i xs)) a.0 ∙ front_free xs i a.1

one_more : (split : ℕ → Option Split) (a c : ℕ) (xs : List Seed) (p : Seed) → consumers_in xs ≡ []
    → tasks_by split a c (xs ++ p ∷ []) ≡ tasks_by split a c xs ++ starting (split (a + length xs)) (p.tree c) ∷ []
one_more split a c [] p e = ap (λ (n : ℕ). starting (split n) (p.tree c) ∷ []) (let k : a ≡ a + 0 = omega arith in k)
one_more split a c (x ∷ xs) p e =
    let b = nothing_in x.consumers (consumers_in xs) e in
    let same : c + length x.consumers ≡ c = (let k : length x.consumers ≡ 0 = ap length b.0 in omega arith) in
    ap (λ ts. starting (split a) (x.tree c) ∷ ts) (
    ap (λ (n : ℕ). tasks_by split (a + 1) n (xs ++ p ∷ [])) same ∙ one_more split (a + 1) c xs p b.1
    ∙ ap (λ (n : ℕ). tasks_by split (a + 1) c xs ++ starting (split n) (p.tree c) ∷ []) (let k : a + 1 + length xs ≡ a + suc (length xs) = omega arith in k)
    ∙ ap (λ (n : ℕ). tasks_by split (a + 1) n xs ++ starting (split (a + suc (length xs))) (p.tree c) ∷ []) (sym same))

take_length : (xs : List Seed) (i : ℕ) → i < length xs → length (take i xs) ≡ i
take_length [] i h = absurd (omega arith)
take_length (x ∷ xs) zero h = refl
take_length (x ∷ xs) (suc i) h = ap suc (take_length xs i (omega arith))

next_seed : (xs : List Seed) (i : ℕ) (d : Seed) → i < length xs → take (i + 1) xs ≡ take i xs ++ get_or xs i d ∷ []
next_seed [] i d h = absurd (omega arith)
next_seed (x ∷ xs) zero d h = refl
next_seed (x ∷ xs) (suc i) d h =
    ap (λ (n : ℕ). take n (x ∷ xs)) (let e : suc i + 1 ≡ suc (i + 1) = omega arith in e) ∙ ap (λ ys. x ∷ ys) (next_seed xs i d (omega arith))

-- a turn: the tasks of the partitions so far, and one more
pub stage_step : (f : Doing) (old now new : List TaskPlan) (p : Plan) (k s i : ℕ) (split : ℕ → Option Split) (backwards stations : List StationPlan) (sending : Sending)
    → is_built p ≡ true → i < (counts_of p).parts
    → AddsTasks f old now (tasks_by split 0 0 (take i (partitions_of f p k s)))
    → AddsFor f [] backwards (seed_at f p k s i) → stations ≡ reverse backwards → split_of f sending ≡ split i
    → new ≡ now ++ record { stations = stations; consumer = 0; sending = sending } ∷ []
    → AddsTasks f old new (tasks_by split 0 0 (take (i + 1) (partitions_of f p k s)))
stage_step f old now new p k s i split backwards stations sending b w before a r g n =
    let seeds = partitions_of f p k s in
    let seed = seed_at f p k s i in
    let free = no_consumers f p b k s in
    let wide : width_at f p k s ≡ (counts_of p).parts = width_counts f p k s in
    let within : i < length seeds = omega arith in
    let came : stations ≡ a.0 = r ∙ ap reverse a.1 ∙ reverse-reverse a.0 in
    let tail : AreTasks f (record { stations = stations; consumer = 0; sending = sending } ∷ []) (starting (split i) (seed.tree 0) ∷ []) = (
      record { tree = seed.tree 0; stands = subst (λ ss. StandFor f 0 ss (seed.tree 0)) (sym came) (a.2 0); is = ap (λ o. starting o (seed.tree 0)) (sym g) },
      tt,
    ) in
    adds_same f old new (tasks_by split 0 0 (take i seeds) ++ starting (split i) (seed.tree 0) ∷ []) (tasks_by split 0 0 (take (i + 1) seeds))
    (sym (ap (tasks_by split 0 0) (next_seed seeds i (leaf Nothing) within) ∙ one_more split 0 0 (take i seeds) seed (front_free seeds i free)
    ∙ ap (λ (m : ℕ). tasks_by split 0 0 (take i seeds) ++ starting (split m) (seed.tree 0) ∷ []) (let e = take_length seeds i within in let k2 : 0 + length (take i seeds) ≡ i = omega arith in k2)))
    (adds_then f old now new (tasks_by split 0 0 (take i seeds)) (starting (split i) (seed.tree 0) ∷ []) before (record { stations = stations; consumer = 0; sending = sending } ∷ [], n, tail))

take_all : (xs : List Seed) (n : ℕ) → length xs ≡ n → take n xs ≡ xs
take_all [] zero e = refl
take_all [] (suc n) e = refl
take_all (x ∷ xs) zero e = absurd (omega arith)
take_all (x ∷ xs) (suc n) e = ap (λ ys. x ∷ ys) (take_all xs n (omega arith))

pub stage_end : (f : Doing) (old new : List TaskPlan) (p : Plan) (k s n : ℕ) (split : ℕ → Option Split) → n ≡ (counts_of p).parts
    → AddsTasks f old new (tasks_by split 0 0 (take n (partitions_of f p k s))) → AddsTasks f old new (tasks_by split 0 0 (partitions_of f p k s))
stage_end f old new p k s n split e h =
    adds_same f old new _ _ (ap (tasks_by split 0 0) (take_all (partitions_of f p k s) n (let w : width_at f p k s ≡ (counts_of p).parts = width_counts f p k s in omega arith))) h

-- ---- the stages that open in a plan

tops_at : (p : Plan) (z : Plan-F Plan) → roll-Plan z ≡ p → tops.tops p ≡ top_node (map-Plan Plan (Plan × Topping) (λ (q : Plan). (q, tops.tops q)) z)
tops_at p z r = ap tops.tops (sym r) ∙ topped z

over_is : (ps : List Plan) (k s : ℕ) → tops_after (map (λ (q : Plan). (q, tops.tops q)) ps) k s ≡ tops_over ps k s
over_is [] k s = refl
over_is (p ∷ ps) k s = ap (λ ts. tops.tops p k s ++ ts) (over_is ps (k + stages_in p) (s + sources_in p))

pub in_scan : (f : Doing) (p : Plan) (table : ℕ) (ks : List Kind) (files n k s : ℕ) → p ≡ plan.Scan table ks files n → [] ≡ tasks_in f 0 (tops.tops p k s)
in_scan f p table ks files n k s e = sym (ap (λ (g : Topping). tasks_in f 0 (g k s)) (tops_at p (Plan-F.Scan table ks files n) (rolls-Scan table ks files n ∙ sym e)))

pub in_filter : (f : Doing) (p x : Plan) (test : Expr) (k s : ℕ) → p ≡ plan.Filter x test → tasks_in f 0 (tops.tops x k s) ≡ tasks_in f 0 (tops.tops p k s)
in_filter f p x test k s e = sym (ap (λ (g : Topping). tasks_in f 0 (g k s)) (tops_at p (Plan-F.Filter x test) (rolls-Filter x test ∙ sym e)))

pub in_project : (f : Doing) (p x : Plan) (items : List Expr) (k s : ℕ) → p ≡ plan.Project x items → tasks_in f 0 (tops.tops x k s) ≡ tasks_in f 0 (tops.tops p k s)
in_project f p x items k s e = sym (ap (λ (g : Topping). tasks_in f 0 (g k s)) (tops_at p (Plan-F.Project x items) (rolls-Project x items ∙ sym e)))

opens : (f : Doing) (x : Plan) (w : tops.Way) (k s : ℕ) → is_built x ≡ true
    → tasks_by (split_by f w) 0 0 (partitions_of f x (k + 1) s) ++ tasks_in f 0 (tops.tops x (k + 1) s) ≡ tasks_in f 0 (tops.top k s x w ∷ tops.tops x (k + 1) s)
opens f x w k s b =
    ap (λ cs. tasks_by (split_by f w) 0 0 (partitions_of f x (k + 1) s) ++ tasks_in f (0 + length cs) (tops.tops x (k + 1) s)) (sym (no_consumers f x b (k + 1) s))

pub in_coalesce : (f : Doing) (p x : Plan) (k s : ℕ) → p ≡ plan.Coalesce x → is_built x ≡ true
    → tasks_by (split_by f tops.ToOne) 0 0 (partitions_of f x (k + 1) s) ++ tasks_in f 0 (tops.tops x (k + 1) s) ≡ tasks_in f 0 (tops.tops p k s)
in_coalesce f p x k s e b = opens f x tops.ToOne k s b ∙ sym (ap (λ (g : Topping). tasks_in f 0 (g k s)) (tops_at p (Plan-F.Coalesce x) (rolls-Coalesce x ∙ sym e)))

turn_way : (to : Partitioning) → is_in_turn to ≡ true → InTurn (partition_count to) ≡ way_to to
turn_way (parting.RoundRobin n) e = refl
turn_way (parting.Hash cs n) e = cc
turn_way parting.Single e = cc
turn_way (parting.Unknown n) e = cc

pub in_repartition : (f : Doing) (p x : Plan) (to : Partitioning) (k s : ℕ) → p ≡ plan.Repartition x to → is_built x ≡ true → is_in_turn to ≡ true
    → tasks_by (split_by f (InTurn (partition_count to))) 0 0 (partitions_of f x (k + 1) s) ++ tasks_in f 0 (tops.tops x (k + 1) s) ≡ tasks_in f 0 (tops.tops p k s)
in_repartition f p x to k s e b t =
    opens f x (InTurn (partition_count to)) k s b ∙ ap (λ w. tasks_in f 0 (tops.top k s x w ∷ tops.tops x (k + 1) s)) (turn_way to t)
    ∙ sym (ap (λ (g : Topping). tasks_in f 0 (g k s)) (tops_at p (Plan-F.Repartition x to) (rolls-Repartition x to ∙ sym e)))

pub in_union : (f : Doing) (p : Plan) (xs : List Plan) (k s : ℕ) → p ≡ plan.UnionAll xs → tasks_in f 0 (tops_over xs k s) ≡ tasks_in f 0 (tops.tops p k s)
in_union f p xs k s e = ap (tasks_in f 0) (sym (over_is xs k s)) ∙ sym (ap (λ (g : Topping). tasks_in f 0 (g k s)) (tops_at p (Plan-F.UnionAll xs) (rolls-UnionAll xs ∙ sym e)))

-- ---- stages one after the other

abbrev Clear : Doing → List Top → Type 0
Clear f ts = (rest : List Top) → tasks_in f 0 (ts ++ rest) ≡ tasks_in f 0 ts ++ tasks_in f 0 rest

clear_append : (f : Doing) (xs ys : List Top) → Clear f xs → Clear f ys → Clear f (xs ++ ys)
clear_append f xs ys a b rest =
    ap (tasks_in f 0) (append_assoc xs ys rest) ∙ a (ys ++ rest) ∙ ap (λ ts. tasks_in f 0 xs ++ ts) (b rest)
    ∙ sym (append_assoc (tasks_in f 0 xs) (tasks_in f 0 ys) (tasks_in f 0 rest)) ∙ ap (λ ts. ts ++ tasks_in f 0 rest) (sym (a ys))

clear_cons : (f : Doing) (t : Top) (ts : List Top) → consumers_in (seeds_of f t) ≡ [] → Clear f ts → Clear f (t ∷ ts)
clear_cons f t ts e a rest =
    let own = tasks_by (split_by f t.way) 0 0 (seeds_of f t) in
    ap (λ cs. own ++ tasks_in f (0 + length cs) (ts ++ rest)) e ∙ ap (λ us. own ++ us) (a rest) ∙ sym (append_assoc own (tasks_in f 0 ts) (tasks_in f 0 rest))
    ∙ ap (λ cs. (own ++ tasks_in f (0 + length cs) ts) ++ tasks_in f 0 rest) (sym e)

module _ (f : Doing) where
  abbrev Sorted : Plan → Type 0
  Sorted p = is_built p ≡ true → (k s : ℕ) → Clear f (tops.tops p k s)

  abbrev Known : Type 0
  Known = (p : Plan) × Sorted p

  abbrev plans : List Known → List Plan
  plans ps = map (λ (p : Known). p.0) ps

  level : (z : Plan-F Plan) → (is_built (roll-Plan z) ≡ true → (k s : ℕ) → Clear f (top_node (map-Plan Plan (Plan × Topping) (λ (q : Plan). (q, tops.tops q)) z) k s)) → Sorted (roll-Plan z)
  level z h e k s = subst (λ (g : Topping). Clear f (g k s)) (sym (topped z)) (h e k s)

  all_clear : (ps : List Known) → all_true (map is_built (plans ps)) ≡ true → (k s : ℕ) → Clear f (tops_after (map (λ (q : Plan). (q, tops.tops q)) (plans ps)) k s)
  all_clear [] e k s = λ rest. refl
  all_clear (p ∷ ps) e k s =
      let a = and_parts (is_built p.0) (all_true (map is_built (plans ps))) e in
      clear_append f (tops.tops p.0 k s) (tops_after (map (λ (q : Plan). (q, tops.tops q)) (plans ps)) (k + stages_in p.0) (s + sources_in p.0)) (p.1 a.0 k s)
      (all_clear ps a.1 (k + stages_in p.0) (s + sources_in p.0))

  step : (y : Plan-F Known) → Sorted (roll-Plan (map-Plan Known Plan (λ k. k.0) y))
  step (Plan-F.Scan table ks files n) = level (Plan-F.Scan table ks files n) (λ e k s rest. refl)
  step (Plan-F.Filter x test) = level (Plan-F.Filter x.0 test) (λ e k s. x.1 (sym (ap is_built (rolls-Filter x.0 test) ∙ built-Filter x.0 test) ∙ e) k s)
  step (Plan-F.Project x items) = level (Plan-F.Project x.0 items) (λ e k s. x.1 (sym (ap is_built (rolls-Project x.0 items) ∙ built-Project x.0 items) ∙ e) k s)
  step (Plan-F.Coalesce x) = level (Plan-F.Coalesce x.0) (λ e k s. (
      let b = sym (ap is_built (rolls-Coalesce x.0) ∙ built-Coalesce x.0) ∙ e in
      clear_cons f (tops.top k s x.0 tops.ToOne) (tops.tops x.0 (k + 1) s) (no_consumers f x.0 b (k + 1) s) (x.1 b (k + 1) s)))
  step (Plan-F.Repartition x to) = level (Plan-F.Repartition x.0 to) (λ e k s. (
      let b = (and_parts (is_in_turn to) (is_built x.0) (sym (ap is_built (rolls-Repartition x.0 to) ∙ built-Repartition x.0 to) ∙ e)).1 in
      clear_cons f (tops.top k s x.0 (way_to to)) (tops.tops x.0 (k + 1) s) (no_consumers f x.0 b (k + 1) s) (x.1 b (k + 1) s)))
  step (Plan-F.UnionAll xs) = level (Plan-F.UnionAll (plans xs)) (λ e k s. all_clear xs (sym (ap is_built (rolls-UnionAll (plans xs)) ∙ built-UnionAll (plans xs)) ∙ e) k s)
  step (Plan-F.PartialGroup x keys calls) = λ e. unbuilt _ _ (rolls-PartialGroup x.0 keys calls) (built-PartialGroup x.0 keys calls) e
  step (Plan-F.FinalGroup x keys calls) = λ e. unbuilt _ _ (rolls-FinalGroup x.0 keys calls) (built-FinalGroup x.0 keys calls) e
  step (Plan-F.HashJoin kind x y keys rest) = λ e. unbuilt _ _ (rolls-HashJoin kind x.0 y.0 keys rest) (built-HashJoin kind x.0 y.0 keys rest) e
  step (Plan-F.Sort x keys) = λ e. unbuilt _ _ (rolls-Sort x.0 keys) (built-Sort x.0 keys) e
  step (Plan-F.Merge x keys) = λ e. unbuilt _ _ (rolls-Merge x.0 keys) (built-Merge x.0 keys) e
  step (Plan-F.Limit x skip fetch) = λ e. unbuilt _ _ (rolls-Limit x.0 skip fetch) (built-Limit x.0 skip fetch) e

  pub clear : (p : Plan) → is_built p ≡ true → (k s : ℕ) → Clear f (tops.tops p k s)
  clear = ind-Plan Sorted (λ x y is. subst (λ z. Sorted (roll-Plan z)) is (step y))

-- the stages of the plans before, then of one more
pub stages_step : (f : Doing) (ps : List Plan) (at k s k2 s2 : ℕ) (p : Plan) (ts T : List Task) → at < length ps → p ≡ get_or ps at p → is_built p ≡ true
    → k2 ≡ k + stages_in p → s2 ≡ s + sources_in p → ts ++ tasks_in f 0 (tops_over (drop at ps) k s) ≡ T
    → (ts ++ tasks_in f 0 (tops.tops p k s)) ++ tasks_in f 0 (tops_over (drop (at + 1) ps) k2 s2) ≡ T
stages_step f ps at k s k2 s2 p ts T l e b a d h =
    let rest = drop (at + 1) ps in
    append_assoc ts (tasks_in f 0 (tops.tops p k s)) (tasks_in f 0 (tops_over rest k2 s2))
    ∙ ap (λ us. ts ++ us) (
    ap (λ (x : ℕ). tasks_in f 0 (tops.tops p k s) ++ tasks_in f 0 (tops_over rest x s2)) a
    ∙ ap (λ (x : ℕ). tasks_in f 0 (tops.tops p k s) ++ tasks_in f 0 (tops_over rest (k + stages_in p) x)) d
    ∙ sym (clear f p b k s (tops_over rest (k + stages_in p) (s + sources_in p)))
    ∙ ap (λ ys. tasks_in f 0 (tops_over ys k s)) (sym (next_input ps at p l e)))
    ∙ h

built_one : (ps : List Plan) (at : ℕ) (p : Plan) → at < length ps → p ≡ get_or ps at p → all_true (map is_built ps) ≡ true → is_built p ≡ true
built_one [] at p l e b = absurd (omega arith)
built_one (q ∷ qs) zero p l e b = ap is_built e ∙ (and_parts (is_built q) (all_true (map is_built qs)) b).0
built_one (q ∷ qs) (suc at) p l e b = built_one qs at p (omega arith) e (and_parts (is_built q) (all_true (map is_built qs)) b).1

-- what the loop over a union's inputs keeps
abbrev pub AddsSoFar : Doing → List TaskPlan → List TaskPlan → List Task → List Task → Type 0
AddsSoFar f old now rest all = (ts : List Task) × AddsTasks f old now ts × (ts ++ rest ≡ all)

pub input_step : (f : Doing) (ps : List Plan) (old now new : List TaskPlan) (at k s k2 s2 : ℕ) (p : Plan) (all : List Task) (r : Answer) (u : Unit {0}) → at < length ps → p ≡ get_or ps at p
    → k2 ≡ k + stages_in p → s2 ≡ s + sources_in p → r ≡ Ok u → (is_built p ≡ true → OnOk r (AddsTasks f now new (tasks_in f 0 (tops.tops p k s))))
    → all_true (map is_built ps) ≡ true → AddsSoFar f old now (tasks_in f 0 (tops_over (drop at ps) k s)) all
    → AddsSoFar f old new (tasks_in f 0 (tops_over (drop (at + 1) ps) k2 s2)) all
input_step f ps old now new at k s k2 s2 p all r u l e a d ok h b so =
    let built = built_one ps at p l e b in
    let here = ok_is r u ok (h built) in
    (so.0 ++ tasks_in f 0 (tops.tops p k s), adds_then f old now new so.0 (tasks_in f 0 (tops.tops p k s)) so.1 here, stages_step f ps at k s k2 s2 p so.0 all l e built a d so.2)

pub input_end : (f : Doing) (ps : List Plan) (old now : List TaskPlan) (at k s : ℕ) (all : List Task) → length ps ≤ at
    → AddsSoFar f old now (tasks_in f 0 (tops_over (drop at ps) k s)) all → AddsTasks f old now all
input_end f ps old now at k s all l so =
    adds_same f old now so.0 all (sym (append-nil so.0) ∙ ap (λ ys. so.0 ++ tasks_in f 0 (tops_over ys k s)) (sym (drop_of_length-le ps l)) ∙ so.2) so.1

-- ---- the stages below a node

pub below_one : (f : Doing) (old new : List TaskPlan) (p q : Plan) (v : Answer) (ts us : List Task) → ts ≡ us → OnOk v (AddsTasks f old new ts) → OnOk v (AddsTasks f old new us)
below_one f old new p q v ts us e h = ok_map v (adds_same f old new ts us e) h

pub below_exchange : (f : Doing) (old mid new : List TaskPlan) (r v : Answer) (u : Unit {0}) (ts us all : List Task) → r ≡ Ok u → OnOk r (AddsTasks f old mid ts) → OnOk v (AddsTasks f mid new us)
    → ts ++ us ≡ all → OnOk v (AddsTasks f old new all)
below_exchange f old mid new r v u ts us all ok a b e =
    ok_map v (λ h. adds_same f old new (ts ++ us) all e (adds_then f old mid new ts us (ok_is r u ok a) h)) b

-- ---- all stages

pub all_tasks : (f : Doing) (old mid new : List TaskPlan) (p : Plan) → is_built p ≡ true → old ≡ []
    → AddsTasks f old mid (tasks_by (split_by f tops.Written) 0 0 (partitions_of f p 1 0)) → AddsTasks f mid new (tasks_in f 0 (tops.tops p 1 0)) → AreTasks f new (tasks_of f p)
all_tasks f old mid new p b e x y =
    let z = adds_same f old new _ (tasks_of f p) (opens f p tops.Written 0 0 b)
    (adds_then f old mid new (tasks_by (split_by f tops.Written) 0 0 (partitions_of f p 1 0)) (tasks_in f 0 (tops.tops p 1 0)) x y) in
    subst (λ ts. AreTasks f ts (tasks_of f p)) (sym (z.1 ∙ ap (λ ts. ts ++ z.0) e)) z.2
