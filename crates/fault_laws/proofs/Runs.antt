-- From a run to the causes of its failures.
use Rattle.std.specs.List.{AllPass, sum_by}
use Rattle.std.proofs.Common.{ℕ, zero, suc, ◌+◌, ◌<◌, ◌≡◌, ◌⊎◌, inl, inr, refl, sym, ap, ◌∙◌, subst, List, [], ◌∷◌, ◌++◌, length, get_or, map, take, drop, Bool, true, Option, Some, None, arith}
use Rattle.std.proofs.lemmas.List.Sums.{sum_by-append, sum_by-cons}
use Rattle.dfx_value.specs.declared.fault.ItemFault.{ItemFault}
use Rattle.run_journal.specs.declared.entry.Entry.{Entry}
use Rattle.physical_plan.specs.declared.plan.Plan.{Plan}
use Rattle.physical_plan.specs.declared.plan.Plan.TheOpen.{Plan-F}
use Rattle.physical_plan.specs.declared.plan.Plan.TheViews.{roll-Plan}
use Rattle.plan_shape.specs.Layout.{shape}
use Rattle.physical_plan.specs.Numbers.{numbers}
use Rattle.logical_plan.specs.Items.{Item, faults, concat}
use Rattle.logical_plan.specs.Body.{Tables}
use Rattle.tree_laws.specs.Trees.{File, Tree, Nothing, Files, Inlet, Node, Form, NoForm, FilesForm, InletForm, NodeForm, form}
use Rattle.tree_laws.specs.Tasks.{Task}
use Rattle.tree_laws.specs.Runs.{State, no_task, the_task, IsReached}
use Rattle.tree_laws.specs.Operators.{Told, IsSplit, ReadsAll, Op}
use Rattle.tree_laws.specs.Linked.{whole}
use Rattle.tree_laws.specs.OperatorKinds as ops
use Rattle.content_laws.specs.Whole.{tree_in, AreFull}
use Rattle.plan_task_laws.specs.Trees.{Doing, Growing, Seed, leaf, node, partitions_of, passing, tree_of}
use Rattle.plan_task_laws.specs.Tops.{Topping, Top, tops, all_tops}
use Rattle.plan_task_laws.specs.Starts.{seeds_of, start_of, tasks_of}
use Rattle.plan_task_laws.specs.Reading.{AreOperators, Opens}
use Rattle.plan_task_laws.specs.Sources.{files_of, seed_files, files_in, reads_all}
use Rattle.plan_task_laws.specs.Placed.{deal_of, HasChannels, consumers_before}
use Rattle.plan_task_laws.proofs.Laws.{grown, topped, part_of}
use Rattle.plan_task_laws.proofs.Begun.{is_start}
use Rattle.plan_task_laws.proofs.Placed.{placed}
use Rattle.plan_task_laws.proofs.Senders.{covered}
use Rattle.plan_task_laws.proofs.Sources.{all_read}
use Rattle.join_laws.proofs.Items.{pass_weigh, pass_from}
use Rattle.answer_laws.specs.Gives.{AllGive}
use Rattle.answer_laws.specs.Fed.{AllFed}
use Rattle.answer_laws.proofs.Feeds.{fed, root_gives}
use Rattle.answer_laws.proofs.Splits as splits
use Rattle.part_laws.specs.Phased.{the_phases}
use Rattle.plan_props.specs.Meets.{Hashing}
use Rattle.finished_laws.specs.Engine.{IsEngineBy}
use Rattle.finished_laws.proofs.Hashes.{hashing_of}
use Rattle.fault_laws.specs.Met.{met_of}
use Rattle.fault_laws.specs.Trees.{Evaluates, GivesOnly, Meets, AllMeet, TopsMeet, FilesPass, LeavesPass}
use Rattle.fault_laws.specs.Found.{IsTold, IsToldTop}
use Rattle.fault_laws.proofs.Meets.{bad, badly, bads}
use Rattle.fault_laws.proofs.Everywhere.{everywhere}
use Rattle.fault_laws.proofs.Everywhere as around
use Rattle.fault_laws.proofs.Bodies.{mets}
use Rattle.fault_laws.proofs.Evaluations.{limit_evaluates}
use Rattle.fault_laws.proofs.Fails.{take_less, drop_less}

-- ------------------------------------------------------------ the tasks of a start

outside : (tasks : List Task) (u : ℕ) → (u < length tasks) ⊎ (the_task tasks u ≡ no_task)
outside [] u = inr refl
outside (k ∷ ks) zero = inl (let l : 0 < suc (length ks) = omega arith in l)
outside (k ∷ ks) (suc u) = elim (outside ks u) [
  | inl a ↦ inl (let l : suc u < suc (length ks) = omega arith in l)
  | inr b ↦ inr b
]

module _ (f : Doing) (are : AreOperators f) (p : Plan) (limit : ℕ) where
  -- what holds of each partition's tree holds of each task's
  each_task : (P : Tree → Type 0) → P Nothing
      → ((before after : List Top) (t : Top) → all_tops p ≡ before ++ t ∷ after → (i : ℕ) → i < length (seeds_of f t)
      → P (tree_of f t.plan (record { stage = t.stage + 1; source = t.source; consumer = consumers_before f before t i }) i))
      → (u : ℕ) → P (the_task (start_of f p limit).tasks u).tree
  each_task P none h u = elim (outside (tasks_of f p) u) [
    | inl l ↦ (let c = covered f are p u (let e = (is_start f are p 0 limit).long in omega arith) in
        let r = placed f are p c.0 c.2 c.1 c.4 c.3 c.5 in
        subst (λ (v : ℕ). P (the_task (tasks_of f p) v).tree) (sym c.6) (subst (λ (k : Task). P k.tree) (sym r.task) (h c.0 c.2 c.1 c.4 c.3 c.5)))
    | inr e ↦ subst (λ (k : Task). P k.tree) (sym e) none
  ]

-- ------------------------------------------------------------ the files that tasks read

module _ (named : ℕ → ItemFault → Bool) where
  abbrev fw : File → ℕ
  fw x = badly (named x.source) (faults x.items)

  files_weigh : (xs : List File) → FilesPass named xs → sum_by fw xs ≡ 0
  files_weigh [] h = refl
  files_weigh (x ∷ xs) h = (let a = sum_by-cons fw x xs in let b = pass_weigh (named x.source) (faults x.items) h.0 in let c = files_weigh xs h.1 in omega arith)

  files_pass : (xs : List File) → sum_by fw xs ≡ 0 → FilesPass named xs
  files_pass [] e = tt
  files_pass (x ∷ xs) e = (let a = sum_by-cons fw x xs in (pass_from (named x.source) (faults x.items) (let b : badly (named x.source) (faults x.items) ≡ 0 = omega arith in b), files_pass xs (omega arith)))

  one_part : (parts : List (List File)) → sum_by fw (concat parts) ≡ 0 → (i : ℕ) → sum_by fw (get_or parts i []) ≡ 0
  one_part [] e i = refl
  one_part (x ∷ xs) e zero = (let a = sum_by-append fw x (concat xs) in omega arith)
  one_part (x ∷ xs) e (suc i) = one_part xs (let a = sum_by-append fw x (concat xs) in omega arith) i

  opened : (t : Tree) (xs : List File) → Opens t xs → sum_by fw xs ≡ 0 → LeavesPass named t
  opened Nothing xs o e = tt
  opened (Files all files gave unread) xs o e = files_pass files (ap (sum_by fw) (sym o) ∙ e)
  opened (Inlet g c gave unread over) xs o e = tt
  opened (Node op t d inputs) xs o e = λ i. opened (inputs i) (get_or o.0 i []) (o.1 i) (one_part o.0 (ap (sum_by fw) (sym o.2) ∙ e) i)

  in_seeds : (ss : List Seed) → sum_by fw (seed_files ss) ≡ 0 → (i : ℕ) → sum_by fw (get_or ss i (leaf Nothing)).files ≡ 0
  in_seeds [] e i = refl
  in_seeds (s ∷ ss) e zero = (let a = sum_by-append fw s.files (seed_files ss) in omega arith)
  in_seeds (s ∷ ss) e (suc i) = in_seeds ss (let a = sum_by-append fw s.files (seed_files ss) in omega arith) i

  in_tops : (f : Doing) (before after : List Top) (t : Top) → sum_by fw (files_in f (before ++ t ∷ after)) ≡ 0 → sum_by fw (seed_files (seeds_of f t)) ≡ 0
  in_tops f [] after t e = (let a = sum_by-append fw (seed_files (seeds_of f t)) (files_in f after) in omega arith)
  in_tops f (b ∷ before) after t e = in_tops f before after t (let a = sum_by-append fw (seed_files (seeds_of f b)) (files_in f (before ++ t ∷ after)) in omega arith)

  -- at the start each task reads files of the plan's
  pub starts : (f : Doing) (are : AreOperators f) (p : Plan) (limit : ℕ) → reads_all p ≡ true → FilesPass named (files_of f p 0) → (u : ℕ) → LeavesPass named (the_task (start_of f p limit).tasks u).tree
  starts f are p limit all h = each_task f are p limit (LeavesPass named) tt (λ before after t e i l. (
      let z : sum_by fw (files_in f (all_tops p)) ≡ 0 = all_read f p all fw ∙ files_weigh (files_of f p 0) h in
      let y = in_tops f before after t (ap (λ ts. sum_by fw (files_in f ts)) (sym e) ∙ z) in
      let c = consumers_before f before t i in
      opened (tree_of f t.plan (record { stage = t.stage + 1; source = t.source; consumer = c }) i) (get_or (seeds_of f t) i (leaf Nothing)).files
      ((part_of f are t.plan (t.stage + 1) t.source i).opens c) (in_seeds (seeds_of f t) y i)))

-- ------------------------------------------------------------ the faults that tasks can give

module _ (full : ℕ → ℕ → List Item) (test : ItemFault → Bool) where
  gives_only : (x : Form) → Meets test full x → GivesOnly test full x
  gives_only NoForm m = m
  gives_only (FilesForm all) m = m
  gives_only (InletForm g c) m = m
  gives_only (NodeForm op inputs) m = m.0

  at_seed : (ss : List Seed) → AllMeet test full ss → (i c : ℕ) → Meets test full (form ((get_or ss i (leaf Nothing)).tree c))
  at_seed [] m i c = around.nothing full test
  at_seed (s ∷ ss) m zero c = m.0 c
  at_seed (s ∷ ss) m (suc i) c = at_seed ss m.1 i c

  at_top : (f : Doing) (before after : List Top) (t : Top) → TopsMeet f test full (before ++ t ∷ after) → AllMeet test full (seeds_of f t)
  at_top f [] after t m = m.0
  at_top f (b ∷ before) after t m = at_top f before after t m.1

  -- a limit gives some of what its input does
  cut_less : (skip : ℕ) (fetch : Option ℕ) (xs : List Item) → AllPass test (faults xs) → AllPass test (faults (ops.cut skip fetch xs))
  cut_less skip None xs h = pass_from test (faults (drop skip xs)) (bads test (drop skip xs) ∙ (
      let a = drop_less (bad test) skip xs in
      let b : sum_by (bad test) xs ≡ 0 = sym (bads test xs) ∙ pass_weigh test (faults xs) h in
      let c : sum_by (bad test) (drop skip xs) ≡ 0 = omega arith in c))
  cut_less skip (Some n) xs h = pass_from test (faults (take n (drop skip xs))) (bads test (take n (drop skip xs)) ∙ (
      let a = drop_less (bad test) skip xs in
      let d = take_less (bad test) n (drop skip xs) in
      let b : sum_by (bad test) xs ≡ 0 = sym (bads test xs) ∙ pass_weigh test (faults xs) h in
      let c : sum_by (bad test) (take n (drop skip xs)) ≡ 0 = omega arith in c))

  -- an operator that gives some of what its input does
  abbrev Keeps : Op → Type 0
  Keeps op = (t : Told) (ins : ℕ → List Item) → IsSplit t → ReadsAll t ins → AllPass test (faults (ins 0)) → AllPass test (faults (op.whole t ins))

  over_cap : (op : Op) (t : Tree) → Evaluates op → Keeps op → Meets test full (form t) → Meets test full (form (node op (t ∷ [])))
  over_cap op t v keeps m = around.over_one full test op t v (λ xs g. subst (λ ys. AllPass test (faults ys)) (sym g.5) (keeps g.0 g.1 g.2 g.3 (gives_only (form t) m (g.1 0) (g.4 0)))) m

  passed : (op : ℕ → Op) → ((c : ℕ) → Evaluates (op c)) → ((c : ℕ) → Keeps (op c)) → (ss : List Seed) → AllMeet test full ss → AllMeet test full (map (passing op) ss)
  passed op v keeps [] m = tt
  passed op v keeps (s ∷ ss) m = (λ c. over_cap (op c) (s.tree c) (v c) (keeps c) (m.0 c), passed op v keeps ss m.1)

module _ (hash : Hashing) (f : Doing) (tables : Tables) (many : ℕ) (engine : IsEngineBy hash f tables many the_phases) (full : ℕ → ℕ → List Item) (test : ItemFault → Bool) where
  cuts : (q : Plan) (skip : ℕ) (fetch : Option ℕ) (c : ℕ) → Keeps full test (f.operator (Plan-F.Limit q skip fetch) 1 c)
  cuts q skip fetch c t ins s r h = subst (λ (o : Op). AllPass test (faults (o.whole t ins))) (sym (engine.limits q skip fetch c)) (cut_less full test skip fetch (ins 0) h)

  plain : (p : Plan) → IsTold tables many p → badly test (met_of tables p) ≡ 0 → (k s : ℕ) → AllFed f full (tops p k s)
      → (xs : List (List Item)) → AllGive full (partitions_of f p k s) xs → TopsMeet f test full (tops p k s) × AllMeet test full (partitions_of f p k s)
  plain p e m k s fed xs g = (let r = everywhere hash f tables many engine full test p k s fed e m in (r.0, r.1 xs g))

  limited : (p : Plan) (skip : ℕ) (fetch : Option ℕ) → IsTold tables many p → badly test (met_of tables (roll-Plan (Plan-F.Limit p skip fetch))) ≡ 0 → (k s : ℕ) → AllFed f full (tops (roll-Plan (Plan-F.Limit p skip fetch)) k s)
      → (xs : List (List Item)) → AllGive full (partitions_of f (roll-Plan (Plan-F.Limit p skip fetch)) k s) xs
      → TopsMeet f test full (tops (roll-Plan (Plan-F.Limit p skip fetch)) k s) × AllMeet test full (partitions_of f (roll-Plan (Plan-F.Limit p skip fetch)) k s)
  limited p skip fetch e m k s fed xs g =
      let z = Plan-F.Limit p skip fetch in
      let op = f.operator z 1 in
      let a = grown f z in
      let b = topped z in
      let fed2 : AllFed f full (tops p k s) = subst (λ (t : Topping). AllFed f full (t k s)) b fed in
      let g2 : AllGive full (map (passing op) (partitions_of f p k s)) xs = subst (λ (h : Growing). AllGive full (h k s) xs) a g in
      let d = splits.passed full op (partitions_of f p k s) xs g2 in
      let r = plain p e (ap (badly test) (sym (mets tables z)) ∙ m) k s fed2 d.0 d.1 in
      let u : AllMeet test full (map (passing op) (partitions_of f p k s)) = passed full test op (limit_evaluates hash f tables many engine p skip fetch) (cuts p skip fetch) (partitions_of f p k s) r.1 in
      (subst (λ (t : Topping). TopsMeet f test full (t k s)) (sym b) r.0, subst (λ (h : Growing). AllMeet test full (h k s)) (sym a) u)

  all_tops_meet : (p : Plan) → IsToldTop tables many p → badly test (met_of tables p) ≡ 0 → AllFed f full (tops p 1 0) → (xs : List (List Item)) → AllGive full (partitions_of f p 1 0) xs → TopsMeet f test full (all_tops p)
  all_tops_meet p (inl t) m fed xs g = (let r = plain p t m 1 0 fed xs g in (r.1, r.0))
  all_tops_meet p (inr l) m fed xs g =
      let e = l.3 in
      let r = limited l.0 l.1 l.2 l.4 (subst (λ (y : Plan). badly test (met_of tables y) ≡ 0) (sym e) m) 1 0 (subst (λ (y : Plan). AllFed f full (tops y 1 0)) (sym e) fed) xs
      (subst (λ (y : Plan). AllGive full (partitions_of f y 1 0) xs) (sym e) g) in
      subst (λ (y : Plan). TopsMeet f test full (all_tops y)) e (r.1, r.0)

  -- in a reached state each task, and each tree in one, would give faults that the plan meets
  pub tasks_meet : (p : Plan) → HasChannels p → IsToldTop tables many p → badly test (met_of tables p) ≡ 0
      → (size limit : ℕ) (entries : List Entry) (s : State) → IsReached (shape p) size limit (start_of f p limit) entries s → AreFull (shape p) s (deal_of f p) full
      → (u : ℕ) → Meets test full (form (tree_in s u))
  tasks_meet p wide told m size limit entries s reached wholes u =
      let feeds = fed f engine.operators (hashing_of hash f engine.channels) p wide size limit entries s full reached wholes in
      let root = root_gives f engine.operators (hashing_of hash f engine.channels) p wide size limit entries s full reached wholes in
      let all = all_tops_meet p told m feeds (map (λ (i : ℕ). whole full (tree_in s i)) (numbers (length (partitions_of f p 1 0)))) root in
      subst (Meets test full) (sym (reached.form u))
      (each_task f engine.operators p limit (λ t. Meets test full (form t)) (around.nothing full test)
      (λ before after t e i l. at_seed full test (seeds_of f t) (at_top full test f before after t (subst (TopsMeet f test full) e all)) i (consumers_before f before t i)) u)
