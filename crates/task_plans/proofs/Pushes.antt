-- What the calls that append stations answer, node by node.
use Rattle.std.specs.Prelude.{OnOk, IfOk, IfErr, IsErrAnd, Result, Ok, Err}
use Rattle.std.specs.List.{list_all}
use Rattle.std.proofs.Math.ListN.{drop_of_length-le}
use Rattle.plan_props.specs.declared.properties.Partitioning.{Partitioning}
use Rattle.std.proofs.Common.{ℕ, zero, suc, ◌+◌, ◌-◌, ◌<◌, ◌≤◌, ◌≡◌, refl, sym, ap, ◌∙◌, subst, cond, Bool, true, false, ◌&&◌, ltb, Option, Some, None, is_some, List, [], ◌∷◌, ◌++◌, length, map, drop, get_or, arith}
use Rattle.std.proofs.lemmas.Bool.{lt-ltb, le-ltb}
use Rattle.std.proofs.Math.Seq.{drop-cons}
use Rattle.dfx_value.specs.declared.kind.Kind.{Kind}
use Rattle.dfx_value.specs.declared.no_memory.NoMemory.{NoMemory}
use Rattle.scalar_exprs.specs.declared.expr.Expr.{Expr}
use Rattle.physical_plan.specs.declared.plan.Plan.{Plan}
use Rattle.physical_plan.specs.declared.plan.Plan.TheVariants as plan
use Rattle.physical_plan.specs.Everywhere.{everywhere, all_true}
use Rattle.plan_kinds.specs.Kinds.{kinds, inputs_have_kinds}
use Rattle.plan_shape.specs.Counts.{in_all, counts_of}
use Rattle.plan_shape.proofs.Nodes.{counts-Scan, counts-Filter, counts-Project, counts-UnionAll}
use Rattle.plan_task_laws.specs.Trees.{Doing, Seed, stages_in, sources_in}
use Rattle.plan_task_laws.specs.Branches.{seed_at, union_at, width_at}
use Rattle.plan_task_laws.proofs.Widths.{width_counts}
use Rattle.task_plans.specs.declared.refused.PlanRefused.{PlanRefused}
use Rattle.task_plans.specs.declared.refused.PlanRefused.TheVariants as refused
use Rattle.task_plans.specs.declared.station.ScanFile.{ScanFile}
use Rattle.task_plans.specs.declared.station.Node.TheVariants.{Filter, Project}
use Rattle.task_plans.specs.declared.station.StationPlan.{StationPlan}
use Rattle.task_plans.specs.declared.station.StationPlan.TheVariants as station
use Rattle.task_plans.specs.Built.{is_built}
use Rattle.task_plans.specs.Refusals.{Refuses, RefusesSome, RefusesOver}
use Rattle.task_plans.specs.Dealt.{dealt}
use Rattle.task_plans.specs.Added.{AddsFor, AddsOperator}
use Rattle.task_plans.proofs.Adds.{scan_adds, gathered_adds, split_adds, filter_adds, project_adds, union_adds}
use Rattle.task_plans.proofs.Nodes.{built-Filter, built-Project, built-UnionAll, kinded-Filter, kinded-Project, kinded-UnionAll}

abbrev pub Answer : Type 0
Answer = Result (Unit {0}) PlanRefused

pub ok_map : (r : Answer) {P Q : Type 0} → (P → Q) → OnOk r P → OnOk r Q
ok_map (Ok u) h p = h p
ok_map (Err e) h p = p

pub ok_is : (r : Answer) (u : Unit {0}) {P : Type 0} → r ≡ Ok u → OnOk r P → P
ok_is r u {P} e p = let Q : Answer → Type 0 = λ x. OnOk x P in subst Q e p

pub err_map : (r : Answer) (P Q : PlanRefused → Type 0) → ((e : PlanRefused) → P e → Q e) → IfErr r P → IfErr r Q
err_map (Ok u) P Q h p = p
err_map (Err e) P Q h p = h e p

-- an error that is handed on
pub err_kept : (r : Answer) (Q P : PlanRefused → Type 0) → IsErrAnd r Q → ((e : PlanRefused) → Q e → P e) → IfErr r P
err_kept (Ok u) Q P h k = absurd h
err_kept (Err e) Q P h k = k e h

-- ---- refusals

pub and_false : (b : Bool) → b && false ≡ false
and_false true = refl
and_false false = refl

over_filter : (q x p : Plan) (test : Expr) (e : PlanRefused) → p ≡ plan.Filter x test → q ≡ x → RefusesOver e q → Refuses e p
over_filter q x p test refused.NotBuilt g h r = absurd r
over_filter q x p test refused.NoMemory g h r = r
over_filter q x p test refused.NoKind g h r =
    ap (everywhere inputs_have_kinds) g ∙ kinded-Filter x test ∙ ap (λ (o : Option (List Kind)). is_some o && everywhere inputs_have_kinds x) (ap kinds (sym h) ∙ r)

over_project : (q x p : Plan) (items : List Expr) (e : PlanRefused) → p ≡ plan.Project x items → q ≡ x → RefusesOver e q → Refuses e p
over_project q x p items refused.NotBuilt g h r = absurd r
over_project q x p items refused.NoMemory g h r = r
over_project q x p items refused.NoKind g h r =
    ap (everywhere inputs_have_kinds) g ∙ kinded-Project x items ∙ ap (λ (o : Option (List Kind)). is_some o && everywhere inputs_have_kinds x) (ap kinds (sym h) ∙ r)

pub below_filter : (q x p : Plan) (test : Expr) (e : PlanRefused) → p ≡ plan.Filter x test → q ≡ x → Refuses e q → Refuses e p
below_filter q x p test refused.NotBuilt g h r = ap is_built g ∙ built-Filter x test ∙ ap is_built (sym h) ∙ r
below_filter q x p test refused.NoMemory g h r = r
below_filter q x p test refused.NoKind g h r =
    ap (everywhere inputs_have_kinds) g ∙ kinded-Filter x test ∙ ap (λ b. is_some (kinds x) && b) (ap (everywhere inputs_have_kinds) (sym h) ∙ r) ∙ and_false (is_some (kinds x))

pub below_project : (q x p : Plan) (items : List Expr) (e : PlanRefused) → p ≡ plan.Project x items → q ≡ x → Refuses e q → Refuses e p
below_project q x p items refused.NotBuilt g h r = ap is_built g ∙ built-Project x items ∙ ap is_built (sym h) ∙ r
below_project q x p items refused.NoMemory g h r = r
below_project q x p items refused.NoKind g h r =
    ap (everywhere inputs_have_kinds) g ∙ kinded-Project x items ∙ ap (λ b. is_some (kinds x) && b) (ap (everywhere inputs_have_kinds) (sym h) ∙ r) ∙ and_false (is_some (kinds x))

below_union : (qs xs : List Plan) (p : Plan) (e : PlanRefused) → p ≡ plan.UnionAll xs → qs ≡ xs → RefusesSome e qs → Refuses e p
below_union qs xs p refused.NotBuilt g h r = ap is_built g ∙ built-UnionAll xs ∙ ap (λ ys. all_true (map is_built ys)) (sym h) ∙ r
below_union qs xs p refused.NoMemory g h r = r
below_union qs xs p refused.NoKind g h r =
    ap (everywhere inputs_have_kinds) g ∙ kinded-UnionAll xs
    ∙ ap (λ b. list_all (λ y. is_some (kinds y)) xs && b) (ap (λ ys. all_true (map (everywhere inputs_have_kinds) ys)) (sym h) ∙ r)
    ∙ and_false (list_all (λ y. is_some (kinds y)) xs)

no_memory : (p : Plan) (e : PlanRefused) → e ≡ refused.NoMemory → Refuses e p
no_memory p e h = subst (λ x. Refuses x p) (sym h) tt

one_false : (test : Plan → Bool) (ps : List Plan) (i : ℕ) (p : Plan) → i < length ps → p ≡ get_or ps i p → test p ≡ false → all_true (map test ps) ≡ false
one_false test [] i p h e f = absurd (omega arith)
one_false test (q ∷ qs) zero p h e f = ap (λ b. b && all_true (map test qs)) (ap test (sym e) ∙ f)
one_false test (q ∷ qs) (suc i) p h e f = ap (λ b. test q && b) (one_false test qs i p (omega arith) e f) ∙ and_false (test q)

pub some_refused : (ps : List Plan) (i : ℕ) (p : Plan) (e : PlanRefused) → i < length ps → p ≡ get_or ps i p → Refuses e p → RefusesSome e ps
some_refused ps i p refused.NotBuilt h e r = one_false is_built ps i p h e r
some_refused ps i p refused.NoKind h e r = one_false (everywhere inputs_have_kinds) ps i p h e r
some_refused ps i p refused.NoMemory h e r = r

pub filter_refused : (v : Answer) (q x p : Plan) (test : Expr) → p ≡ plan.Filter x test → q ≡ x → IfErr v (λ e. RefusesOver e q) → IfErr v (λ e. Refuses e p)
filter_refused v q x p test g h r = err_map v (λ e. RefusesOver e q) (λ e. Refuses e p) (λ e. over_filter q x p test e g h) r

pub project_refused : (v : Answer) (q x p : Plan) (items : List Expr) → p ≡ plan.Project x items → q ≡ x → IfErr v (λ e. RefusesOver e q) → IfErr v (λ e. Refuses e p)
project_refused v q x p items g h r = err_map v (λ e. RefusesOver e q) (λ e. Refuses e p) (λ e. over_project q x p items e g h) r

pub union_refused : (v : Answer) (qs xs : List Plan) (p : Plan) → p ≡ plan.UnionAll xs → qs ≡ xs → IfErr v (λ e. RefusesSome e qs) → IfErr v (λ e. Refuses e p)
union_refused v qs xs p g h r = err_map v (λ e. RefusesSome e qs) (λ e. Refuses e p) (λ e. below_union qs xs p e g h) r

pub inlet_refused : (v : Answer) (p : Plan) → IfErr v (λ e. e ≡ refused.NoMemory) → IfErr v (λ e. Refuses e p)
inlet_refused v p r = err_map v (λ e. e ≡ refused.NoMemory) (λ e. Refuses e p) (no_memory p) r

pub input_refused : (v : Answer) (ps : List Plan) (i : ℕ) (p : Plan) → i < length ps → p ≡ get_or ps i p → IfErr v (λ e. Refuses e p) → IfErr v (λ e. RefusesSome e ps)
input_refused v ps i p h e r = err_map v (λ x. Refuses x p) (λ x. RefusesSome x ps) (λ x. some_refused ps i p x h e) r

-- ---- what is appended

pub scanned : (old new : List StationPlan) (all : List ScanFile) (r : Result (List ScanFile) NoMemory) (p : Plan) (table : ℕ) (ks : List Kind) (files n k s i : ℕ)
    → p ≡ plan.Scan table ks files n → r ≡ Ok all → (i < n → IfOk r (λ a. a ≡ dealt s files n i)) → new ≡ old ++ station.Scan table all ∷ []
    → (f : Doing) → i < (counts_of p).parts → AddsFor f old new (seed_at f p k s i)
scanned old new all r p table ks files n k s i e a d g f w =
    let parts = ap counts_of e ∙ counts-Scan table ks files n in
    let within : i < n = subst (λ c. i < c.parts) parts w in
    let P : Result (List ScanFile) NoMemory → Type 0 = λ x. IfOk x (λ ys. ys ≡ dealt s files n i) in
    let same : all ≡ dealt s files n i = subst P a (d within) in
    subst (λ ss. AddsFor f old ss (seed_at f p k s i)) (sym (g ∙ ap (λ xs. old ++ station.Scan table xs ∷ []) same)) (scan_adds old p table ks files n k s i e w f)

pub gathered : (old new : List StationPlan) (p x : Plan) (k s i : ℕ) (v : Answer) → p ≡ plan.Coalesce x → OnOk v (new ≡ old ++ station.Inlet k i ∷ [])
    → (f : Doing) → i < (counts_of p).parts → OnOk v (AddsFor f old new (seed_at f p k s i))
gathered old new p x k s i v e g f w = ok_map v (λ h. subst (λ ss. AddsFor f old ss (seed_at f p k s i)) (sym h) (gathered_adds old p x k s i e w f)) g

pub split : (old new : List StationPlan) (p x : Plan) (to : Partitioning) (k s i : ℕ) (v : Answer) → p ≡ plan.Repartition x to → OnOk v (new ≡ old ++ station.Inlet k i ∷ [])
    → (f : Doing) → i < (counts_of p).parts → OnOk v (AddsFor f old new (seed_at f p k s i))
split old new p x to k s i v e g f w = ok_map v (λ h. subst (λ ss. AddsFor f old ss (seed_at f p k s i)) (sym h) (split_adds old p x to k s i e w f)) g

within_filter : (p x q : Plan) (test : Expr) (i : ℕ) → p ≡ plan.Filter x test → q ≡ x → i < (counts_of p).parts → i < (counts_of q).parts
within_filter p x q test i e g w = let a = ap counts_of e ∙ counts-Filter x test ∙ ap counts_of (sym g) in subst (λ d. i < d.parts) a w

within_project : (p x q : Plan) (items : List Expr) (i : ℕ) → p ≡ plan.Project x items → q ≡ x → i < (counts_of p).parts → i < (counts_of q).parts
within_project p x q items i e g w = let a = ap counts_of e ∙ counts-Project x items ∙ ap counts_of (sym g) in subst (λ d. i < d.parts) a w

pub filtered : (old mid new : List StationPlan) (p x q z : Plan) (test copied : Expr) (k s i m n size : ℕ) (r v : Answer) (u : Unit {0}) → p ≡ plan.Filter x test → q ≡ x → z ≡ x
    → copied ≡ test → m ≡ length old → n ≡ length mid → size ≡ n - m
    → r ≡ Ok u → ((f : Doing) → i < (counts_of q).parts → OnOk r (AddsFor f old mid (seed_at f q k s i))) → OnOk v (AddsOperator mid new (Filter copied) z size)
    → (f : Doing) → i < (counts_of p).parts → OnOk v (AddsFor f old new (seed_at f p k s i))
filtered old mid new p x q z test copied k s i m n size r v u e g h t a b d ok below op f w =
    ok_map v (λ o. filter_adds old mid new p x test k s i e w
    (λ f2. subst (λ y. AddsFor f2 old mid (seed_at f2 y k s i)) g (ok_is r u ok (below f2 (within_filter p x q test i e g w))))
    (subst (λ y. AddsOperator mid new (Filter test) y (length mid - length old)) h
    (subst (λ c. AddsOperator mid new (Filter c) z (length mid - length old)) t
    (subst (AddsOperator mid new (Filter copied) z) (let j : size ≡ length mid - length old = omega arith in j) o))) f) op

pub projected : (old mid new : List StationPlan) (p x q z : Plan) (items from copied : List Expr) (k s i m n size : ℕ) (r v : Answer) (u : Unit {0}) → p ≡ plan.Project x items → q ≡ x → z ≡ x
    → from ≡ items → copied ≡ from → m ≡ length old → n ≡ length mid → size ≡ n - m
    → r ≡ Ok u → ((f : Doing) → i < (counts_of q).parts → OnOk r (AddsFor f old mid (seed_at f q k s i))) → OnOk v (AddsOperator mid new (Project copied) z size)
    → (f : Doing) → i < (counts_of p).parts → OnOk v (AddsFor f old new (seed_at f p k s i))
projected old mid new p x q z items from copied k s i m n size r v u e g h t t2 a b d ok below op f w =
    ok_map v (λ o. project_adds old mid new p x items k s i e w
    (λ f2. subst (λ y. AddsFor f2 old mid (seed_at f2 y k s i)) g (ok_is r u ok (below f2 (within_project p x q items i e g w))))
    (subst (λ y. AddsOperator mid new (Project items) y (length mid - length old)) h
    (subst (λ c. AddsOperator mid new (Project c) z (length mid - length old)) (t2 ∙ t)
    (subst (AddsOperator mid new (Project copied) z) (let j : size ≡ length mid - length old = omega arith in j) o))) f) op

pub united : (old new : List StationPlan) (p : Plan) (xs qs : List Plan) (k s i : ℕ) (v : Answer) → p ≡ plan.UnionAll xs → qs ≡ xs
    → ((f : Doing) → i < (in_all (map counts_of qs)).parts → OnOk v (AddsFor f old new (union_at f qs k s i)))
    → (f : Doing) → i < (counts_of p).parts → OnOk v (AddsFor f old new (seed_at f p k s i))
united old new p xs qs k s i v e g h f w = go v (λ f2. h f2 within)
  where
    within : i < (in_all (map counts_of qs)).parts
    within = let a = ap counts_of e ∙ counts-UnionAll xs ∙ ap (λ ys. in_all (map counts_of ys)) (sym g) in subst (λ d. i < d.parts) a w

    go : (r : Answer) → ((f2 : Doing) → OnOk r (AddsFor f2 old new (union_at f2 qs k s i))) → OnOk r (AddsFor f old new (seed_at f p k s i))
    go (Ok u) a = union_adds old new p xs k s i e w (λ f2. subst (λ ys. AddsFor f2 old new (union_at f2 ys k s i)) g (a f2)) f
    go (Err x) a = a f

-- ---- the inputs of a union, one after the other

pub next_input : (ps : List Plan) (i : ℕ) (p : Plan) → i < length ps → p ≡ get_or ps i p → drop i ps ≡ p ∷ drop (i + 1) ps
next_input ps i p h e =
    drop-cons ps i p h ∙ ap (λ q. q ∷ drop (suc i) ps) (sym e) ∙ ap (λ (n : ℕ). p ∷ drop n ps) (let k : suc i ≡ i + 1 = omega arith in k)

not_below : (a b : ℕ) → b ≤ a → ltb a b ≡ false
not_below = le-ltb

pub in_input : (old here new : List StationPlan) (ps : List Plan) (at i k s : ℕ) (p : Plan) (n : ℕ) (v : Answer) (T : Doing → Seed) (W : Type 0) → at < length ps → p ≡ get_or ps at p → here ≡ old
    → n ≡ (counts_of p).parts → i < n → ((f : Doing) → union_at f (drop at ps) k s i ≡ T f)
    → ((f : Doing) → i < (counts_of p).parts → OnOk v (AddsFor f here new (seed_at f p k s i))) → (f : Doing) → W → OnOk v (AddsFor f old new (T f))
in_input old here new ps at i k s p n v T W l e o c b found h f w =
    let width : width_at f p k s ≡ (counts_of p).parts = width_counts f p k s in
    let is : union_at f (p ∷ drop (at + 1) ps) k s i ≡ seed_at f p k s i =
    ap (λ t. cond t (seed_at f p k s i) (union_at f (drop (at + 1) ps) (k + stages_in p) (s + sources_in p) (i - width_at f p k s))) (lt-ltb i (width_at f p k s) (omega arith)) in
    let same : seed_at f p k s i ≡ T f = sym (ap (λ ys. union_at f ys k s i) (next_input ps at p l e) ∙ is) ∙ found f in
    ok_map v (λ a. subst (λ y. AddsFor f y new (T f)) o (subst (AddsFor f here new) same a)) (h f (omega arith))

pub found_step : (ps : List Plan) (at i k s k2 s2 n : ℕ) (p : Plan) (T : Doing → Seed) → at < length ps → p ≡ get_or ps at p → n ≡ (counts_of p).parts → n ≤ i
    → k2 ≡ k + stages_in p → s2 ≡ s + sources_in p → ((f : Doing) → union_at f (drop at ps) k s i ≡ T f) → (f : Doing) → union_at f (drop (at + 1) ps) k2 s2 (i - n) ≡ T f
found_step ps at i k s k2 s2 n p T l e c b a d found f =
    let width : width_at f p k s ≡ (counts_of p).parts = width_counts f p k s in
    let rest = drop (at + 1) ps in
    let is : union_at f (p ∷ rest) k s i ≡ union_at f rest (k + stages_in p) (s + sources_in p) (i - width_at f p k s) =
    ap (λ t. cond t (seed_at f p k s i) (union_at f rest (k + stages_in p) (s + sources_in p) (i - width_at f p k s))) (not_below i (width_at f p k s) (omega arith)) in
    ap (λ (x : ℕ). union_at f rest x s2 (i - n)) a ∙ ap (λ (x : ℕ). union_at f rest (k + stages_in p) x (i - n)) d
    ∙ ap (union_at f rest (k + stages_in p) (s + sources_in p)) (let j : i - n ≡ i - width_at f p k s = omega arith in j)
    ∙ sym (ap (λ ys. union_at f ys k s i) (next_input ps at p l e) ∙ is) ∙ found f

pub within_step : (ps : List Plan) (at i n : ℕ) (p : Plan) → at < length ps → p ≡ get_or ps at p → n ≡ (counts_of p).parts → n ≤ i
    → i < (in_all (map counts_of (drop at ps))).parts → i - n < (in_all (map counts_of (drop (at + 1) ps))).parts
within_step ps at i n p l e c b w =
    let a : (in_all (map counts_of (drop at ps))).parts ≡ (counts_of p).parts + (in_all (map counts_of (drop (at + 1) ps))).parts = ap (λ ys. (in_all (map counts_of ys)).parts) (next_input ps at p l e) in
    omega arith

-- behind the last there is none
pub at_end : (ps : List Plan) (at i : ℕ) {P : Type 0} → length ps ≤ at → i < (in_all (map counts_of (drop at ps))).parts → P
at_end ps at i l w =
    let a : drop at ps ≡ [] = drop_of_length-le ps l in
    let b : (in_all (map counts_of (drop at ps))).parts ≡ 0 = ap (λ ys. (in_all (map counts_of ys)).parts) a in
    absurd (omega arith)
