-- What the nodes of a plan gave, in a state that its run reaches.
use Rattle.std.specs.List.{AllByRecursion}
use Rattle.std.proofs.Common.{ℕ, zero, suc, ◌+◌, ◌<◌, ◌≡◌, refl, sym, ap, ◌∙◌, subst, List, [], ◌∷◌, ◌++◌, length, get_or, map, true, Option, arith, zero-add, add-zero}
use Rattle.std.proofs.lemmas.Bool.{false≢true}
use Rattle.run_journal.specs.declared.entry.Entry.{Entry}
use Rattle.plan_props.specs.Meets.{Hashing, part}
use Rattle.physical_plan.specs.declared.plan.Plan.{Plan}
use Rattle.physical_plan.specs.declared.plan.Plan.TheOpen.{Plan-F}
use Rattle.physical_plan.specs.declared.plan.Plan.TheViews.{roll-Plan}
use Rattle.plan_shape.specs.Layout.{shape}
use Rattle.physical_plan.specs.Numbers.{numbers, numbers_from}
use Rattle.physical_plan.specs.Properties.{declared_of}
use Rattle.plan_shape.proofs.Lawful.{is_shape}
use Rattle.node_laws.specs.Nodes.{Stands}
use Rattle.node_laws.specs.Rows.{Begins, Begun, IsStretch, Stretches}
use Rattle.node_laws.proofs.Wholes.{plan_stands, begun_stands}
use Rattle.logical_plan.specs.Items.{Cells, Item, of_rows, rows}
use Rattle.logical_plan.specs.Body.{Tables}
use Rattle.tree_laws.specs.Operators.{Op, IsFront}
use Rattle.tree_laws.specs.OperatorKinds.{cut, limit_op}
use Rattle.sort_laws.proofs.Limits.{cut_stretch}
use Rattle.tree_laws.specs.Trees.{Tree, Nothing, IsSubtree, form}
use Rattle.tree_laws.specs.Linked.{IsLinked, IsFlow, whole}
use Rattle.tree_laws.specs.Tasks.{Task}
use Rattle.tree_laws.specs.Runs.{State, IsReached}
use Rattle.content_laws.specs.Whole.{past_in, tree_in, AreFull}
use Rattle.content_laws.proofs.Flows.{flows}
use Rattle.plan_task_laws.specs.Trees.{Doing, Growing, Seed, leaf, passing, partitions_of}
use Rattle.plan_task_laws.proofs.Laws.{grown}
use Rattle.plan_task_laws.specs.Tops.{Top, Written, top, tops, all_tops}
use Rattle.plan_task_laws.specs.Starts.{seeds_of, start_of}
use Rattle.plan_task_laws.specs.Placed.{tasks_before, consumers_before, deal_of, HasChannels}
use Rattle.plan_task_laws.proofs.Begun.{is_start}
use Rattle.plan_task_laws.proofs.Placed.{placed}
use Rattle.plan_task_laws.proofs.Senders.{are_senders}
use Rattle.answer_laws.specs.Gives.{AllGive, Yields, AllYield}
use Rattle.answer_laws.specs.Meant.{Phases}
use Rattle.answer_laws.proofs.Splits.{passed}
use Rattle.answer_laws.proofs.Feeds.{fed}
use Rattle.finished_laws.specs.Sound.{anyhow, is_sound}
use Rattle.finished_laws.proofs.Told.{told_rolled}
use Rattle.finished_laws.specs.Engine.{IsEngineBy}
use Rattle.finished_laws.proofs.Answers.{tells, stands}
use Rattle.finished_laws.proofs.Hashes.{hashing_of}
use Rattle.state_laws.specs.Sites.{Site, Listing, site, sites_below, sites_of}
use Rattle.state_laws.specs.Good.{so_far, IsTreeOf, AreTreesOf, AreBegunOf, IsBegun, IsGoodNode}
use Rattle.state_laws.proofs.Inherited.{AllFrom, Below, each, listed_rolled}
use Rattle.state_laws.proofs.There as there
use Rattle.state_laws.proofs.Fed as feeding
use Rattle.state_laws.proofs.Sound as soundness
use Rattle.state_laws.proofs.Fronts.{wholes_given, all_begun}

-- ------------------------------------------------------------ trees of tasks

trees_by : (s : State) (F : ℕ → Tree) (d : Seed) (ss : List Seed) (at : ℕ) → ((i : ℕ) → i < length ss → IsTreeOf s (get_or ss i d) (F (at + i))) → AreTreesOf s ss (map F (numbers_from at (length ss)))
trees_by s F d [] at h = tt
trees_by s F d (x ∷ ss) at h = (
  subst (λ (n : ℕ). IsTreeOf s x (F n)) (add-zero at) (h 0 (omega arith)),
  trees_by s F d ss (at + 1) (λ i l. subst (λ (n : ℕ). IsTreeOf s (get_or ss i d) (F n)) (let e : at + suc i ≡ at + 1 + i = omega arith in e) (h (suc i) (omega arith))),
)

own : (t : Tree) → IsSubtree t t
own t = there.stands_own t

append-assoc : {A : Type 0} (xs ys zs : List A) → (xs ++ ys) ++ zs ≡ xs ++ (ys ++ zs)
append-assoc [] ys zs = refl
append-assoc (x ∷ xs) ys zs = ap (λ us. x ∷ us) (append-assoc xs ys zs)

-- ------------------------------------------------------------ rows so far

begins : (xs : List Cells) (ys : List Item) → IsFront (of_rows xs) ys → Begins xs (rows ys)
begins xs ys h = subst (λ zs. Begins xs (rows zs)) h.1 (go xs)
  where
    go : (us : List Cells) → Begins us (rows (of_rows us ++ h.0))
    go [] = tt
    go (u ∷ us) = (refl, go us)

fronts_begin : (size : ℕ) (ts : List Tree) (xs : List (List Item)) → AreBegunOf size ts xs → Begun (map rows xs) (map so_far ts)
fronts_begin size ts xs h = record { count = count ts xs h; rows = at ts xs h }
  where
    count : (ts : List Tree) (xs : List (List Item)) → AreBegunOf size ts xs → length (map so_far ts) ≡ length (map rows xs)
    count [] [] h = refl
    count [] (x ∷ xs) h = absurd h
    count (t ∷ ts) [] h = absurd h
    count (t ∷ ts) (x ∷ xs) h = ap suc (count ts xs h.1)

    at : (ts : List Tree) (xs : List (List Item)) → AreBegunOf size ts xs → (j : ℕ) → Begins (part (map so_far ts) j) (part (map rows xs) j)
    at [] [] h j = tt
    at [] (x ∷ xs) h j = absurd h
    at (t ∷ ts) [] h j = absurd h
    at (t ∷ ts) (x ∷ xs) h zero = begins (so_far t) x h.0.front
    at (t ∷ ts) (x ∷ xs) h (suc j) = at ts xs h.1 j

-- ------------------------------------------------------------ a reached state

module _ (h : Hashing) (f : Doing) (tables : Tables) (n : ℕ) (phases : Phases) (engine : IsEngineBy h f tables n phases) (p : Plan) (wide : HasChannels p)
    (size limit : ℕ) (entries : List Entry) (s : State) (full : ℕ → ℕ → List Item)
    (reached : IsReached (shape p) size limit (start_of f p limit) entries s) (wholes : AreFull (shape p) s (deal_of f p) full) where
  linked : (u : ℕ) → IsLinked size (past_in s u) (tree_in s u)
  linked u = (reached.task u).linked

  flow : (u : ℕ) → IsFlow (past_in s u) full (tree_in s u)
  flow = flows (shape p) (is_shape p) size limit (start_of f p limit) s entries (is_start f engine.operators p size limit) reached (deal_of f p) (are_senders f engine.operators (hashing_of h f engine.channels) p wide) full wholes

  -- a stage's partitions have their trees in its tasks
  stage_there : (before after : List Top) (t : Top) → all_tops p ≡ before ++ t ∷ after → there.AllThere s (seeds_of f t)
  stage_there before after t e = (
    map (λ i. tree_in s (tasks_before f before + i)) (numbers (length (seeds_of f t))),
    trees_by s (λ i. tree_in s (tasks_before f before + i)) (leaf Nothing) (seeds_of f t) 0 (λ i l. (
        let u = tasks_before f before + i in
        let r = placed f engine.operators p before after t e i l in
        subst (λ (k : ℕ). IsTreeOf s (get_or (seeds_of f t) i (leaf Nothing)) (tree_in s (tasks_before f before + k))) (sym (zero-add i))
        ((u, own (tree_in s u)), (consumers_before f before t i, reached.form u ∙ ap (λ (k : Task). form k.tree) r.task)))),
  )

  tops_there : (before ts : List Top) → all_tops p ≡ before ++ ts → there.TopsThere s f ts
  tops_there before [] e = tt
  tops_there before (t ∷ ts) e = (stage_there before ts t e, tops_there (before ++ t ∷ []) ts (e ∙ sym (append-assoc before (t ∷ []) ts)))

  -- the plan's own partitions have their trees, and so have all below
  found : there.Found s f p 1 0
  found = (stage_there [] (tops p 1 0) (top 0 0 p Written) refl, tops_there (top 0 0 p Written ∷ []) (tops p 1 0) refl)

  -- ---------------------------------------------------------- a node of which all is known

  abbrev Known : Plan → ℕ → ℕ → Type 0
  Known q k i = feeding.Fed f full q k i × there.Found s f q k i × soundness.Sound tables n q k i

  known_from : (ps : List Plan) (k i : ℕ) → AllFrom (feeding.Fed f full) ps k i → AllFrom (there.Found s f) ps k i → AllFrom (soundness.Sound tables n) ps k i → AllFrom Known ps k i
  known_from [] k i a b c = tt
  known_from (p ∷ ps) k i a b c = ((a.0, b.0, c.0), known_from ps _ _ a.1 b.1 c.1)

  down : (z : Plan-F Plan) (k i : ℕ) → Known (roll-Plan z) k i → Below Known z k i
  down (Plan-F.Scan table kinds files partitions) k i x = tt
  down (Plan-F.Filter q test) k i x = (feeding.down f full (Plan-F.Filter q test) k i x.0, there.down s f (Plan-F.Filter q test) k i x.1, soundness.down tables n (Plan-F.Filter q test) k i x.2)
  down (Plan-F.Project q items) k i x = (feeding.down f full (Plan-F.Project q items) k i x.0, there.down s f (Plan-F.Project q items) k i x.1, soundness.down tables n (Plan-F.Project q items) k i x.2)
  down (Plan-F.PartialGroup q keys calls) k i x = (feeding.down f full (Plan-F.PartialGroup q keys calls) k i x.0, there.down s f (Plan-F.PartialGroup q keys calls) k i x.1, soundness.down tables n (Plan-F.PartialGroup q keys calls) k i x.2)
  down (Plan-F.FinalGroup q keys calls) k i x = (feeding.down f full (Plan-F.FinalGroup q keys calls) k i x.0, there.down s f (Plan-F.FinalGroup q keys calls) k i x.1, soundness.down tables n (Plan-F.FinalGroup q keys calls) k i x.2)
  down (Plan-F.HashJoin kind q r keys rest) k i x = (
      let z = Plan-F.HashJoin kind q r keys rest in
      let a = feeding.down f full z k i x.0 in
      let b = there.down s f z k i x.1 in
      let c = soundness.down tables n z k i x.2 in
      ((a.0, b.0, c.0), (a.1, b.1, c.1)))
  down (Plan-F.Sort q keys) k i x = (feeding.down f full (Plan-F.Sort q keys) k i x.0, there.down s f (Plan-F.Sort q keys) k i x.1, soundness.down tables n (Plan-F.Sort q keys) k i x.2)
  down (Plan-F.Merge q keys) k i x = (feeding.down f full (Plan-F.Merge q keys) k i x.0, there.down s f (Plan-F.Merge q keys) k i x.1, soundness.down tables n (Plan-F.Merge q keys) k i x.2)
  down (Plan-F.Coalesce q) k i x = (feeding.down f full (Plan-F.Coalesce q) k i x.0, there.down s f (Plan-F.Coalesce q) k i x.1, soundness.down tables n (Plan-F.Coalesce q) k i x.2)
  down (Plan-F.Repartition q to) k i x = (feeding.down f full (Plan-F.Repartition q to) k i x.0, there.down s f (Plan-F.Repartition q to) k i x.1, soundness.down tables n (Plan-F.Repartition q to) k i x.2)
  down (Plan-F.UnionAll qs) k i x = known_from qs k i (feeding.down f full (Plan-F.UnionAll qs) k i x.0) (there.down s f (Plan-F.UnionAll qs) k i x.1) (soundness.down tables n (Plan-F.UnionAll qs) k i x.2)
  down (Plan-F.Limit q skip fetch) k i x = (feeding.down f full (Plan-F.Limit q skip fetch) k i x.0, there.down s f (Plan-F.Limit q skip fetch) k i x.1, soundness.down tables n (Plan-F.Limit q skip fetch) k i x.2)

  -- what a sound node would give stands as it declares, and tells what it means
  begun_by : (q : Plan) (k i : ℕ) → Known q k i → (ts : List Tree) → AreTreesOf s (partitions_of f q k i) ts → IsBegun size h tables phases q ts
  begun_by q k i x ts a =
      let xs = map (whole full) ts in
      let g = wholes_given size full s linked flow (partitions_of f q k i) ts a in
      record {
        wholes = xs;
        begun = all_begun size full s linked flow (partitions_of f q k i) ts a;
        stand = stands h f tables n phases engine full q x.2 k i x.0 xs g;
        tell = λ e. tells h f tables n phases engine full q x.2 k i x.0 xs g;
      }

  -- what trees gave meets what is declared, where they are begun
  begun_meets : (q : Plan) (ts : List Tree) → IsBegun size h tables phases q ts → Stands h (declared_of q) (map so_far ts)
  begun_meets q ts b = begun_stands h (declared_of q) (map rows b.wholes) (map so_far ts) (fronts_begin size ts b.wholes b.begun) b.stand

  good_node : (q : Plan) (k i : ℕ) → Known q k i → IsGoodNode size h f tables phases s (site q k i)
  good_node q k i x = record {
    there = x.1.0;
    meets = λ ts a. (begun_meets q ts (begun_by q k i x ts a)).meets;
    begun = begun_by q k i x;
  }

  mapped : (P Q : Site → Type 0) → ((x : Site) → P x → Q x) → (xs : List Site) → AllByRecursion P xs → AllByRecursion Q xs
  mapped P Q h [] a = tt
  mapped P Q h (x ∷ xs) a = (h x a.0, mapped P Q h xs a.1)

  -- the nodes below a node of which all is known
  pub good_below : (q : Plan) (k i : ℕ) → Known q k i → AllByRecursion (IsGoodNode size h f tables phases s) (sites_below q k i)
  good_below q k i x = mapped (λ y. Known y.plan y.stage y.source) (IsGoodNode size h f tables phases s) (λ y a. good_node y.plan y.stage y.source a) (sites_below q k i) (each Known down q k i x)

  fed_all : feeding.Fed f full p 1 0
  fed_all = fed f engine.operators (hashing_of h f engine.channels) p wide size limit entries s full reached wholes

  -- all nodes of a sound plan
  pub sound_nodes : is_sound tables n p ≡ true → AllByRecursion (IsGoodNode size h f tables phases s) (sites_of p)
  sound_nodes e = (let x : Known p 1 0 = (fed_all, found, e) in (good_node p 1 0 x, good_below p 1 0 x))

  -- ---------------------------------------------------------- a limit over a sound plan

  -- what a limit gives of whole lists are stretches of their rows
  stretches : (r : Plan) (skip : ℕ) (fetch : Option ℕ) (ws ys : List (List Item)) → AllYield (f.operator (Plan-F.Limit r skip fetch) 1) ws ys → Stretches (map rows ws) (map rows ys)
  stretches r skip fetch ws ys a = record { count = count ws ys a; rows = at ws ys a }
    where
      op : ℕ → Op
      op = f.operator (Plan-F.Limit r skip fetch) 1

      count : (ws ys : List (List Item)) → AllYield (f.operator (Plan-F.Limit r skip fetch) 1) ws ys → length (map rows ys) ≡ length (map rows ws)
      count [] [] a = refl
      count [] (y ∷ ys) a = absurd a
      count (w ∷ ws) [] a = absurd a
      count (w ∷ ws) (y ∷ ys) a = ap suc (count ws ys a.1)

      one : (w y : List Item) → Yields (f.operator (Plan-F.Limit r skip fetch) 1) (w ∷ []) y → IsStretch (rows w) (rows y)
      one w y a =
          let e : y ≡ (limit_op skip fetch).whole a.told a.taken = a.gives ∙ ap (λ (o : Op). o.whole a.told a.taken) (engine.limits r skip fetch a.consumer) in
          let d : y ≡ cut skip fetch w = e ∙ ap (cut skip fetch) (a.are 0) in
          let c = cut_stretch skip fetch w in
          (c.0, c.1, ap rows d ∙ c.2)

      at : (ws ys : List (List Item)) → AllYield (f.operator (Plan-F.Limit r skip fetch) 1) ws ys → (j : ℕ) → IsStretch (part (map rows ws) j) (part (map rows ys) j)
      at [] [] a j = (0, 0, refl)
      at [] (y ∷ ys) a j = absurd a
      at (w ∷ ws) [] a j = absurd a
      at (w ∷ ws) (y ∷ ys) a zero = one w y a.0
      at (w ∷ ws) (y ∷ ys) a (suc j) = at ws ys a.1 j

  limit_gives : (r : Plan) (skip : ℕ) (fetch : Option ℕ) (k i : ℕ) (xs : List (List Item)) → AllGive full (partitions_of f (roll-Plan (Plan-F.Limit r skip fetch)) k i) xs
      → AllGive full (map (passing (f.operator (Plan-F.Limit r skip fetch) 1)) (partitions_of f r k i)) xs
  limit_gives r skip fetch k i xs g = subst (λ (grow_by : Growing). AllGive full (grow_by k i) xs) (grown f (Plan-F.Limit r skip fetch)) g

  -- all nodes of a limit over a sound plan
  pub limit_nodes : (r : Plan) (skip : ℕ) (fetch : Option ℕ) → roll-Plan (Plan-F.Limit r skip fetch) ≡ p → is_sound tables n r ≡ true → AllByRecursion (IsGoodNode size h f tables phases s) (sites_of p)
  limit_nodes r skip fetch e sound =
      let z = Plan-F.Limit r skip fetch in
      let a : feeding.Fed f full (roll-Plan z) 1 0 = subst (λ (q : Plan). feeding.Fed f full q 1 0) (sym e) fed_all in
      let b : there.Found s f (roll-Plan z) 1 0 = subst (λ (q : Plan). there.Found s f q 1 0) (sym e) found in
      let x : Known r 1 0 = (feeding.down f full z 1 0 a, there.down s f z 1 0 b, sound) in
      let root : (ts : List Tree) → AreTreesOf s (partitions_of f (roll-Plan z) 1 0) ts → IsBegun size h tables phases (roll-Plan z) ts = λ ts t. (
      let xs = map (whole full) ts in
      let g = limit_gives r skip fetch 1 0 xs (wholes_given size full s linked flow (partitions_of f (roll-Plan z) 1 0) ts t) in
      let d = passed full (f.operator z 1) (partitions_of f r 1 0) xs g in
      record {
        wholes = xs;
        begun = all_begun size full s linked flow (partitions_of f (roll-Plan z) 1 0) ts t;
        stand = plan_stands h n (Plan-F.Limit (r, map rows d.0) skip fetch) (map rows xs) (stands h f tables n phases engine full r sound 1 0 x.0 d.0 d.1, tt) tt (stretches r skip fetch d.0 xs d.2);
        tell = λ told. absurd (false≢true (sym (told_rolled tables n anyhow z) ∙ told));
      }) in
      let top : IsGoodNode size h f tables phases s (site (roll-Plan z) 1 0) = record {
        there = b.0;
        meets = λ ts t. (begun_meets (roll-Plan z) ts (root ts t)).meets;
        begun = root;
      } in
      let below : AllByRecursion (IsGoodNode size h f tables phases s) (sites_below (roll-Plan z) 1 0) = limit_below r skip fetch (good_node r 1 0 x, good_below r 1 0 x) in
      subst (λ (q : Plan). AllByRecursion (IsGoodNode size h f tables phases s) (sites_of q)) e (top, below)
    where
      limit_below : (r : Plan) (skip : ℕ) (fetch : Option ℕ) → AllByRecursion (IsGoodNode size h f tables phases s) (site r 1 0 ∷ sites_below r 1 0) → AllByRecursion (IsGoodNode size h f tables phases s) (sites_below (roll-Plan (Plan-F.Limit r skip fetch)) 1 0)
      limit_below r skip fetch g = subst (λ (l : Listing). AllByRecursion (IsGoodNode size h f tables phases s) (l 1 0)) (sym (listed_rolled (Plan-F.Limit r skip fetch))) g
