-- Every fault in what the partitions of a plan's nodes would give passes a test, where all faults that the plan meets do.
use Rattle.std.specs.Prelude.{nat_lt}
use Rattle.std.specs.List.{AllPass, sum_by, flat_map}
use Rattle.std.proofs.Common.{ℕ, ◌+◌, ◌≡◌, ◌==◌, refl, sym, ap, ◌∙◌, subst, List, [], ◌∷◌, ◌++◌, length, map, Bool, true, ◌&&◌, Option, Some, None, Ok, Err, arith}
use Rattle.std.proofs.lemmas.Bool.{false≢true}
use Rattle.std.proofs.lemmas.List.{append-nil}
use Rattle.std.proofs.lemmas.List.Sums.{sum_by-append, sum_by-cons}
use Rattle.plan_props.specs.declared.properties.Partitioning.{Partitioning}
use Rattle.dfx_value.specs.KindedRows.{all_are}
use Rattle.dfx_value.specs.Kinds.{are_of}
use Rattle.dfx_value.specs.declared.fault.ItemFault.{ItemFault}
use Rattle.dfx_value.specs.declared.kind.Kind.{Kind}
use Rattle.dfx_value.specs.declared.op.AggCall.{AggCall}
use Rattle.dfx_value.specs.declared.op.JoinKind.{JoinKind}
use Rattle.dfx_value.specs.declared.rows.SortKey.{SortKey}
use Rattle.dfx_value.specs.Rows.{cells_at}
use Rattle.scalar_exprs.specs.Groups.{firsts}
use Rattle.scalar_exprs.specs.declared.expr.Expr.{Expr}
use Rattle.physical_plan.specs.declared.plan.Plan.{Plan}
use Rattle.physical_plan.specs.declared.plan.Plan.TheOpen.{Plan-F}
use Rattle.physical_plan.specs.declared.plan.Plan.TheViews.{roll-Plan}
use Rattle.physical_plan.specs.declared.plan.Plan.TheFolds.{para-roll-Plan, map-Plan}
use Rattle.physical_plan.specs.Numbers.{numbers}
use Rattle.logical_plan.specs.Items.{Cells, Item, rows, faults, concat, of_rows, of_faults, filtered, projected}
use Rattle.logical_plan.specs.Joins.{joined}
use Rattle.logical_plan.specs.Groups.{alike, group_of, group_item, one_group, aggregated}
use Rattle.logical_plan.specs.Body.{Tables, scan}
use Rattle.content_laws.specs.Bags.{SameBag, together, Alike}
use Rattle.content_laws.proofs.Bags.{sums_same}
use Rattle.tree_laws.specs.Trees.{in_files}
use Rattle.plan_task_laws.specs.Trees.{Doing, dealt_files}
use Rattle.phase_laws.specs.Phases.{phase, AreApart}
use Rattle.phase_laws.proofs.Bags.{sum_by-map}
use Rattle.phase_laws.proofs.Items.{rows_both, faults_both, apart_weigh, faults-phase, alike_rows, alike_faults}
use Rattle.phase_laws.proofs.Further.{faults_kept}
use Rattle.join_laws.specs.Joining.{join_items}
use Rattle.join_laws.proofs.Core.{one_join}
use Rattle.join_laws.proofs.Parts.{parts_faults}
use Rattle.join_laws.proofs.Items.{fails, pass_weigh, pass_from, faults_weigh}
use Rattle.join_laws.proofs.Items as items
use Rattle.answer_laws.specs.Gives.{Yields, AllYield, AllJoin}
use Rattle.answer_laws.specs.Kept.{AllHold, IsKept}
use Rattle.answer_laws.specs.Meant.{Grouping, answered, meaning_of, meant, TellsBy, files_of, is_whole, all_told, same_numbers, same_calls, finishes, told_node, is_told}
use Rattle.answer_laws.specs.Parted.{part}
use Rattle.answer_laws.proofs.Weights.{concat-append, flat_weighs, map_weighs, weighed, together_weighs, together_all, dealt, listed}
use Rattle.answer_laws.proofs.Meaning.{both_true, above_zero, equal_is, all_pass, same_numbers_are, same_calls_are, told_whole, segmented, seconds, joins_weigh}
use Rattle.finished_laws.proofs.Answers.{Standing, standing, delivers, Means, all_kept}
use Rattle.part_laws.specs.Phased.{the_phases}
use Rattle.plan_props.specs.Meets.{Hashing}
use Rattle.finished_laws.specs.Sound.{on_properties}
use Rattle.finished_laws.specs.Engine.{IsEngineBy}
use Rattle.fault_laws.specs.Met.{met_node, met_of}

-- ------------------------------------------------------------ weights of faults that don't pass

-- a weight that sees rows alone
abbrev by_rows : (Item → ℕ) → Item → ℕ
by_rows v (Ok r) = v (Ok r)
by_rows v (Err f) = 0

module _ (test : ItemFault → Bool) where
  abbrev pub bad : Item → ℕ
  bad = items.fault_weight (fails test)

  -- how many faults of a list don't pass
  abbrev pub badly : List ItemFault → ℕ
  badly = sum_by (fails test)

  pub bads : (xs : List Item) → badly (faults xs) ≡ sum_by bad xs
  bads xs = faults_weigh (fails test) xs

  -- a weight that sees such faults as they are: of rows, and of faults
  split_weigh : (v : Item → ℕ) → ((f : ItemFault) → v (Err f) ≡ fails test f) → (xs : List Item) → sum_by v xs ≡ sum_by (by_rows v) xs + sum_by bad xs
  split_weigh v e [] = refl
  split_weigh v e (Ok r ∷ xs) =
      let a = sum_by-cons v (Ok r) xs in
      let b = sum_by-cons (by_rows v) (Ok r) xs in
      let c = sum_by-cons bad (Ok r) xs in
      let d = split_weigh v e xs in
      omega arith
  split_weigh v e (Err f ∷ xs) =
      let a = sum_by-cons v (Err f) xs in
      let b = sum_by-cons (by_rows v) (Err f) xs in
      let c = sum_by-cons bad (Err f) xs in
      let d = split_weigh v e xs in
      let g : v (Err f) ≡ fails test f = e f in
      omega arith

  -- where a list is alike to one whose answers have no such fault, and has none itself, its answers have none
  pub none_of : (v : Item → ℕ) → ((f : ItemFault) → v (Err f) ≡ fails test f) → (xs ys : List Item) → Alike xs ys → sum_by bad xs ≡ 0 → sum_by v ys ≡ 0 → sum_by v xs ≡ 0
  none_of v e xs ys h n m =
      let a = split_weigh v e xs in
      let b = split_weigh v e ys in
      let c : sum_by (by_rows v) xs ≡ sum_by (by_rows v) ys = h (by_rows v) (λ f g. refl) in
      omega arith

-- ------------------------------------------------------------ groups and joins, over lists

-- what grouping means of the same rows with other faults has no such fault, where these are none and what it means of the items has none
regrouped : (test : ItemFault → Bool) (columns : List ℕ) (calls : List AggCall) (kinds : List Kind) (items : List Item) (fs : List ItemFault) → length fs ≡ length (faults items) → badly test fs ≡ 0
    → badly test (faults (aggregated columns calls kinds items)) ≡ 0 → badly test (faults (aggregated columns calls kinds (of_faults fs ++ of_rows (rows items)))) ≡ 0
regrouped test [] calls kinds items fs e h k =
    ap (λ rs. badly test (faults (one_group calls kinds rs (faults (of_faults fs ++ of_rows (rows items))) ∷ []))) (rows_both fs (rows items))
    ∙ ap (λ gs. badly test (faults (one_group calls kinds (rows items) gs ∷ []))) (faults_both fs (rows items)) ∙ by fs (faults items) e h k
  where
    by : (fs gs : List ItemFault) → length fs ≡ length gs → badly test fs ≡ 0 → badly test (faults (one_group calls kinds (rows items) gs ∷ [])) ≡ 0 → badly test (faults (one_group calls kinds (rows items) fs ∷ [])) ≡ 0
    by [] [] e h k = k
    by [] (g ∷ gs) e h k = absurd (omega (arith, e))
    by (f ∷ fs) gs e h k = (let a = sum_by-cons (fails test) f fs in let b = sum_by-cons (fails test) f [] in omega arith)
regrouped test (column ∷ columns) calls kinds items fs e h k =
    let cs = column ∷ columns in
    let input = of_faults fs ++ of_rows (rows items) in
    let answers : List Cells → List Item = λ rs. map (λ r. group_item (cells_at cs r) calls kinds (group_of cs rs r)) (firsts (alike cs) rs) in
    let w = bad test in
    let a1 = bads test (of_faults (faults items) ++ answers (rows items)) in
    let a2 = sum_by-append w (of_faults (faults items)) (answers (rows items)) in
    let b1 = bads test (of_faults (faults input) ++ answers (rows input)) in
    let b2 = sum_by-append w (of_faults (faults input)) (answers (rows input)) in
    let b3 : sum_by w (of_faults (faults input)) ≡ badly test fs = sum_by-map (λ f. Err f) w (faults input) ∙ ap (badly test) (faults_both fs (rows items)) in
    let b4 : sum_by w (answers (rows input)) ≡ sum_by w (answers (rows items)) = ap (λ rs. sum_by w (answers rs)) (rows_both fs (rows items)) in
    omega arith

module _ (hash : Hashing) (f : Doing) (tables : Tables) (many : ℕ) (engine : IsEngineBy hash f tables many the_phases) (test : ItemFault → Bool) where
  abbrev Meets : Plan → List (List Item) → Type 0
  Meets p xs = is_told tables (on_properties tables many) p ≡ true → badly test (met_of tables p) ≡ 0 → sum_by (bad test) (concat xs) ≡ 0

  abbrev Tells_of : Plan → List (List Item) → Type 0
  Tells_of = Means hash f tables many the_phases engine

  level : (z : Plan-F Plan) (xs : List (List Item))
      → (told_node tables (on_properties tables many) (map-Plan Plan (Plan × Bool) (λ p. (p, is_told tables (on_properties tables many) p)) z) ≡ true
      → badly test (met_node tables (map-Plan Plan (Plan × List ItemFault) (λ p. (p, met_of tables p)) z)) ≡ 0 → sum_by (bad test) (concat xs) ≡ 0)
      → Meets (roll-Plan z) xs
  unfolding is_told met_of
  level z xs h = (let a = para-roll-Plan Bool (told_node tables (on_properties tables many)) z in let b = para-roll-Plan (List ItemFault) (met_node tables) z in rw (a, b) h)

  scanned : (table : ℕ) (kinds : List Kind) (files partitions source : ℕ)
      → Meets (roll-Plan (Plan-F.Scan table kinds files partitions)) (map (λ (i : ℕ). in_files (dealt_files (f.items table) source files partitions i)) (numbers partitions))
  scanned table kinds files partitions source = level (Plan-F.Scan table kinds files partitions) (map (λ (i : ℕ). in_files (dealt_files (f.items table) source files partitions i)) (numbers partitions)) (λ e m. (
      let b = both_true (nat_lt 0 partitions) (files == length (files_of tables table)) e in
      let c = sum_by-append (fails test) (faults (scan tables table)) [] in
      let d = bads test (scan tables table) in
      let g = dealt (f.items table) source files partitions (above_zero partitions b.0) (bad test)
      ∙ ap (λ (n : ℕ). sum_by (bad test) (concat (map (f.items table) (numbers n)))) (equal_is files (length (files_of tables table)) b.1)
      ∙ ap (λ xs. sum_by (bad test) (concat xs)) (listed (f.items table) (files_of tables table) (λ i. engine.answering.items table i)) in
      omega arith))

  filters : (q : Plan) (t : Expr) (xs ys : List (List Item)) → Tells_of q xs → Meets q xs → AllYield (f.operator (Plan-F.Filter q t) 1) xs ys → Meets (roll-Plan (Plan-F.Filter q t)) ys
  filters q t xs ys h i a = level (Plan-F.Filter q t) ys (λ e m. (
      let w = bad test in
      let means = meaning_of tables q in
      let b = both_true (is_told tables (on_properties tables many) q) (is_whole means) e in
      let c = sum_by-append (fails test) (faults (flat_map (filtered t) means.items)) (met_of tables q) in
      let d = bads test (flat_map (filtered t) means.items) in
      let v : Item → ℕ = λ x. sum_by w (filtered t x) in
      let k : sum_by v means.items ≡ 0 = (let j = flat_weighs w (filtered t) means.items in omega arith) in
      let n : sum_by w (concat xs) ≡ 0 = i b.0 (omega arith) in
      weighed w v (f.operator (Plan-F.Filter q t) 1) (λ c t2 ins s r. ap (sum_by w) (engine.answering.filter q t c t2 ins s r) ∙ flat_weighs w (filtered t) (ins 0)) xs ys a
      ∙ none_of test v (λ g. (let o : 0 + fails test g ≡ fails test g = omega arith in o)) (concat xs) means.items (told_whole the_phases means.groups means.items xs b.1 (h.1 b.0)) n k))

  projects : (q : Plan) (is : List Expr) (xs ys : List (List Item)) → Tells_of q xs → Meets q xs → AllYield (f.operator (Plan-F.Project q is) 1) xs ys → Meets (roll-Plan (Plan-F.Project q is)) ys
  projects q is xs ys h i a = level (Plan-F.Project q is) ys (λ e m. (
      let w = bad test in
      let means = meaning_of tables q in
      let b = both_true (is_told tables (on_properties tables many) q) (is_whole means) e in
      let c = sum_by-append (fails test) (faults (map (projected is) means.items)) (met_of tables q) in
      let d = bads test (map (projected is) means.items) in
      let v : Item → ℕ = λ x. w (projected is x) in
      let k : sum_by v means.items ≡ 0 = (let j = map_weighs w (projected is) means.items in omega arith) in
      let n : sum_by w (concat xs) ≡ 0 = i b.0 (omega arith) in
      weighed w v (f.operator (Plan-F.Project q is) 1) (λ c t2 ins s r. ap (sum_by w) (engine.answering.project q is c t2 ins s r) ∙ map_weighs w (projected is) (ins 0)) xs ys a
      ∙ none_of test v (λ g. refl) (concat xs) means.items (told_whole the_phases means.groups means.items xs b.1 (h.1 b.0)) n k))

  partials : (q : Plan) (keys : List ℕ) (calls : List AggCall) (xs ys : List (List Item)) → Meets q xs → AllYield (f.operator (Plan-F.PartialGroup q keys calls) 1) xs ys → Meets (roll-Plan (Plan-F.PartialGroup q keys calls)) ys
  partials q keys calls xs ys i a = level (Plan-F.PartialGroup q keys calls) ys (λ e m. (
      let means = meaning_of tables q in
      let b = both_true (is_told tables (on_properties tables many) q) (is_whole means) e in
      let s = segmented f tables (on_properties tables many) the_phases engine.answering engine.lists (Standing hash f tables many the_phases engine) (standing hash f tables many the_phases engine) (delivers hash f tables many the_phases engine)
      q keys calls (record { told = b.0; items = b.1 }) xs ys a in
      let c = faults-phase keys calls means.kinds s.0 in
      s.2 (bad test) ∙ sym (bads test (flat_map (phase keys calls means.kinds) s.0)) ∙ ap (badly test) c ∙ bads test (concat s.0) ∙ ap (sum_by (bad test)) s.1 ∙ i b.0 m))

  sorts : (q : Plan) (keys : List SortKey) (xs ys : List (List Item)) → Meets q xs → AllYield (f.operator (Plan-F.Sort q keys) 1) xs ys → Meets (roll-Plan (Plan-F.Sort q keys)) ys
  sorts q keys xs ys i a = level (Plan-F.Sort q keys) ys (λ e m.
      weighed (bad test) (bad test) (f.operator (Plan-F.Sort q keys) 1) (λ c t ins s r. engine.answering.sort q keys c t ins s r (bad test)) xs ys a ∙ i e m)

  single : (y : List Item) → sum_by (bad test) (concat (y ∷ [])) ≡ sum_by (bad test) y
  single y = ap (sum_by (bad test)) (append-nil y)

  merges : (q : Plan) (keys : List SortKey) (xs : List (List Item)) (y : List Item) → Meets q xs → Yields (f.operator (Plan-F.Merge q keys) (length xs)) xs y → Meets (roll-Plan (Plan-F.Merge q keys)) (y ∷ [])
  merges q keys xs y i a = level (Plan-F.Merge q keys) (y ∷ []) (λ e m.
      single y ∙ ap (sum_by (bad test)) a.gives ∙ engine.answering.merge q keys (length xs) a.consumer a.told a.taken a.split a.reads (bad test) ∙ together_all xs a.taken a.are (bad test) ∙ i e m)

  coalesces : (q : Plan) (xs : List (List Item)) (y : List Item) → Meets q xs → SameBag y (concat xs) → Meets (roll-Plan (Plan-F.Coalesce q)) (y ∷ [])
  coalesces q xs y i b = level (Plan-F.Coalesce q) (y ∷ []) (λ e m. single y ∙ b (bad test) ∙ i e m)

  repartitions : (q : Plan) (to : Partitioning) (xs ys : List (List Item)) → Meets q xs → SameBag (concat ys) (concat xs) → Meets (roll-Plan (Plan-F.Repartition q to)) ys
  repartitions q to xs ys i b = level (Plan-F.Repartition q to) ys (λ e m. b (bad test) ∙ i e m)

  all_meet : (ps : List Plan) (xs : List (List (List Item))) → AllHold Meets ps xs
      → all_told (λ p. is_whole (meaning_of tables p)) (map (λ (p : Plan). (p, is_told tables (on_properties tables many) p)) ps) ≡ true
      → badly test (concat (map (λ (p : Plan × List ItemFault). p.1) (map (λ (p : Plan). (p, met_of tables p)) ps))) ≡ 0
      → sum_by (bad test) (concat (concat xs)) ≡ 0
  all_meet [] [] h e m = refl
  all_meet [] (x ∷ xs) h e m = absurd h
  all_meet (p ∷ ps) [] h e m = absurd h
  all_meet (p ∷ ps) (x ∷ xs) h e m =
      let rest = concat (map (λ (p : Plan × List ItemFault). p.1) (map (λ (p : Plan). (p, met_of tables p)) ps)) in
      let all = all_told (λ p. is_whole (meaning_of tables p)) (map (λ (p : Plan). (p, is_told tables (on_properties tables many) p)) ps) in
      let b = both_true (is_told tables (on_properties tables many) p) (is_whole (meaning_of tables p) && all) e in
      let d = both_true (is_whole (meaning_of tables p)) all b.1 in
      let s = sum_by-append (fails test) (met_of tables p) rest in
      let n : badly test (met_of tables p) ≡ 0 = omega arith in
      let o : badly test rest ≡ 0 = omega arith in
      let u = h.0 b.0 n in
      let r = all_meet ps xs h.1 d.1 o in
      let c = sum_by-append (bad test) (concat x) (concat (concat xs)) in
      let a : sum_by (bad test) (concat (x ++ concat xs)) ≡ sum_by (bad test) (concat x ++ concat (concat xs)) = ap (sum_by (bad test)) (concat-append x (concat xs)) in
      omega arith

  unions : (ps : List Plan) (xs : List (List (List Item))) → AllHold Meets ps xs → Meets (roll-Plan (Plan-F.UnionAll ps)) (concat xs)
  unions ps xs h = level (Plan-F.UnionAll ps) (concat xs) (λ e m. (
      let pairs = map (λ (p : Plan). (p, met_of tables p)) ps in
      let c = sum_by-append (fails test) (faults (concat (map (λ (p : Plan × List ItemFault). meant tables p.0) pairs))) (concat (map (λ (p : Plan × List ItemFault). p.1) pairs)) in
      all_meet ps xs h e (omega arith)))

  -- ------------------------------------------------------------ joins

  joins : (kind : JoinKind) (p q : Plan) (keys : List (ℕ × ℕ)) (rest : Option Expr) (xs ys zs : List (List Item)) → Tells_of p xs → Meets p xs → Tells_of q ys → Meets q ys
      → AllJoin (f.operator (Plan-F.HashJoin kind p q keys rest) 2) xs ys zs → Meets (roll-Plan (Plan-F.HashJoin kind p q keys rest)) zs
  joins kind p q keys rest xs ys zs h hm i im a = level (Plan-F.HashJoin kind p q keys rest) zs (λ e m. (
      let w = bad test in
      let mp = meaning_of tables p in
      let mq = meaning_of tables q in
      let s = (on_properties tables many) (Plan-F.HashJoin kind p q keys rest) in
      let b = both_true (is_told tables (on_properties tables many) p && is_whole mp) ((is_told tables (on_properties tables many) q && is_whole mq) && s) e in
      let c = both_true (is_told tables (on_properties tables many) p) (is_whole mp) b.0 in
      let d = both_true (is_told tables (on_properties tables many) q && is_whole mq) s b.1 in
      let k = both_true (is_told tables (on_properties tables many) q) (is_whole mq) d.0 in
      let t = told_whole the_phases mp.groups mp.items xs c.1 (h.1 c.0) in
      let u = told_whole the_phases mq.groups mq.items ys k.1 (i.1 k.0) in
      let o = (delivers hash f tables many the_phases engine).matched kind p q keys rest xs ys d.1 h.0 i.0 in
      let n = length xs in
      let lw = length mp.kinds in
      let rw2 = length mq.kinds in
      let all = joined kind lw rw2 keys rest mp.items mq.items in
      let g1 = sum_by-append (fails test) (faults all) (met_of tables p ++ met_of tables q) in
      let g2 = sum_by-append (fails test) (met_of tables p) (met_of tables q) in
      let np : badly test (met_of tables p) ≡ 0 = omega arith in
      let nq : badly test (met_of tables q) ≡ 0 = omega arith in
      let na : badly test (faults all) ≡ 0 = omega arith in
      let bl : SameBag (together n (part xs)) (concat xs) = together_all xs (part xs) (λ j. refl) in
      let br : SameBag (together n (part ys)) (concat ys) = (λ v. ap (λ (x : ℕ). sum_by v (together x (part ys))) o.0 ∙ together_all ys (part ys) (λ j. refl) v) in
      let pl : AllPass test (faults (together n (part xs))) = pass_from test (faults (together n (part xs))) (bads test (together n (part xs)) ∙ bl w ∙ hm c.0 np) in
      let pr : AllPass test (faults (together n (part ys))) = pass_from test (faults (together n (part ys))) (bads test (together n (part ys)) ∙ br w ∙ im k.0 nq) in
      let z = parts_faults kind lw rw2 keys rest mp.items mq.items n (part xs) (part ys) test (λ v blind. bl v ∙ t v blind) (λ v blind. br v ∙ u v blind) o.1 pl pr (pass_from test (faults all) na) in
      let given = together n (λ j. join_items kind lw rw2 keys rest (part xs j) (part ys j)) in
      let y : sum_by w given ≡ 0 = sym (bads test given) ∙ pass_weigh test (faults given) z in
      joins_weigh f tables (on_properties tables many) the_phases engine.answering engine.lists (Standing hash f tables many the_phases engine) (standing hash f tables many the_phases engine) (delivers hash f tables many the_phases engine)
      kind p q keys rest (record { told = c.0; items = c.1 }) (record { told = k.0; items = k.1 }) w xs ys zs o.0 a
      ∙ sums_same n (λ j. sum_by w (joined kind lw rw2 keys rest (part xs j) (part ys j))) (λ j. sum_by w (join_items kind lw rw2 keys rest (part xs j) (part ys j)))
      (λ j l. sym (one_join w kind lw rw2 keys rest (part xs j) (part ys j)))
      ∙ sym (together_weighs w n (λ j. join_items kind lw rw2 keys rest (part xs j) (part ys j))) ∙ y))

  -- ------------------------------------------------------------ groups

  finals : (q : Plan) (keys : List ℕ) (calls : List AggCall) (xs ys : List (List Item)) → Tells_of q xs → Meets q xs → AllYield (f.operator (Plan-F.FinalGroup q keys calls) 1) xs ys → Meets (roll-Plan (Plan-F.FinalGroup q keys calls)) ys
  finals q keys calls xs ys h i a = level (Plan-F.FinalGroup q keys calls) ys (λ e m. (
      let means = meaning_of tables q in
      let t = finishes means.groups keys calls (rows means.items) in
      let s = (on_properties tables many) (Plan-F.FinalGroup q keys calls) in
      let b = both_true (is_told tables (on_properties tables many) q) (t && s) e in
      let d = both_true t s b.1 in
      let c = sum_by-append (fails test) (faults (answered means.groups means.items).items) (met_of tables q) in
      let n : badly test (met_of tables q) ≡ 0 = omega arith in
      let o : badly test (faults (answered means.groups means.items).items) ≡ 0 = omega arith in
      by means.groups refl (h.1 b.0) d.0 d.1 (i b.0 n) o))
    where
      by : (o : Option Grouping) → (meaning_of tables q).groups ≡ o → TellsBy the_phases o (meaning_of tables q).items xs → finishes o keys calls (rows (meaning_of tables q).items) ≡ true
          → (on_properties tables many) (Plan-F.FinalGroup q keys calls) ≡ true → sum_by (bad test) (concat xs) ≡ 0 → badly test (faults (answered o (meaning_of tables q).items).items) ≡ 0
          → sum_by (bad test) (concat ys) ≡ 0
      by None e t n s c o = absurd (false≢true n)
      by (Some g) e t n s c o =
          let w = bad test in
          let is = (meaning_of tables q).items in
          let segments = t.0 in
          let b = both_true (same_numbers keys (numbers (length g.columns))) (same_calls calls g.calls && all_are g.kinds (rows is)) n in
          let d = both_true (same_calls calls g.calls) (all_are g.kinds (rows is)) b.1 in
          let k = same_numbers_are keys (numbers (length g.columns)) b.0 in
          let l = same_calls_are calls g.calls d.0 in
          let apart = subst (λ (ks : List ℕ). AreApart ks (length xs) (part xs)) k ((delivers hash f tables many the_phases engine).gathered q keys calls xs s h.0) in
          let fs = faults (concat segments) in
          let input = of_faults fs ++ of_rows (rows is) in
          let clear : badly test fs ≡ 0 = (sym (ap (badly test) (faults-phase g.columns g.calls g.kinds segments)) ∙ bads test (flat_map (phase g.columns g.calls g.kinds) segments) ∙ sym (t.2 w) ∙ c) in
          let own : AllPass test fs = pass_from test fs clear in
          let same_rows = rows_both fs (rows is) in
          let same_faults = faults_both fs (rows is) in
          let bag : SameBag (concat segments) input = (λ v. (
          let a1 = apart_weigh v (concat segments) in
          let a2 = apart_weigh v input in
          let a3 : sum_by (λ r. v (Ok r)) (rows (concat segments)) ≡ sum_by (λ r. v (Ok r)) (rows input) = alike_rows (concat segments) is t.1 (λ r. v (Ok r)) ∙ ap (sum_by (λ r. v (Ok r))) (sym same_rows) in
          let a4 : sum_by (λ g. v (Err g)) (faults (concat segments)) ≡ sum_by (λ g. v (Err g)) (faults input) = ap (sum_by (λ g. v (Err g))) (sym same_faults) in
          omega arith)) in
          let came : SameBag (together (length xs) (part xs)) (flat_map (phase g.columns g.calls g.kinds) segments) = (λ v. together_all xs (part xs) (λ j. refl) v ∙ t.2 v) in
          let z = faults_kept g.columns g.calls g.kinds segments input (length xs) (part xs) test
          (subst (AllPass (are_of g.kinds)) (sym same_rows) (all_pass g.kinds (rows is) d.1)) bag came apart (subst (AllPass test) (sym same_faults) own)
          (pass_from test (faults (aggregated g.columns g.calls g.kinds input)) (regrouped test g.columns g.calls g.kinds is fs (alike_faults (concat segments) is t.1) clear o)) in
          let given = together (length xs) (λ j. the_phases.second g (part xs j)) in
          seconds f tables (on_properties tables many) the_phases engine.answering engine.lists (Standing hash f tables many the_phases engine) (standing hash f tables many the_phases engine) (delivers hash f tables many the_phases engine)
          q keys calls g e k l w xs ys a ∙ sym (bads test given) ∙ pass_weigh test (faults given) z

  -- ------------------------------------------------------------ every node

  abbrev pub Holds : Plan → List (List Item) → Type 0
  Holds p xs = Tells_of p xs × Meets p xs

  stand_apart : (ps : List Plan) (xs : List (List (List Item))) → AllHold Holds ps xs → AllHold Tells_of ps xs × AllHold Meets ps xs
  stand_apart [] [] h = (tt, tt)
  stand_apart [] (x ∷ xs) h = absurd h
  stand_apart (p ∷ ps) [] h = absurd h
  stand_apart (p ∷ ps) (x ∷ xs) h = (let r = stand_apart ps xs h.1 in ((h.0.0, r.0), (h.0.1, r.1)))

  pub kept : IsKept f Holds
  kept = (let told = all_kept hash f tables many the_phases engine in record {
    scan = λ table kinds files partitions source. (told.scan table kinds files partitions source, scanned table kinds files partitions source);
    filter = λ q t xs ys h a. (told.filter q t xs ys h.0 a, filters q t xs ys h.0 h.1 a);
    project = λ q is xs ys h a. (told.project q is xs ys h.0 a, projects q is xs ys h.0 h.1 a);
    partial = λ q keys calls xs ys h a. (told.partial q keys calls xs ys h.0 a, partials q keys calls xs ys h.1 a);
    final = λ q keys calls xs ys h a. (told.final q keys calls xs ys h.0 a, finals q keys calls xs ys h.0 h.1 a);
    join = λ kind p q keys rest xs ys zs h i a. (told.join kind p q keys rest xs ys zs h.0 i.0 a, joins kind p q keys rest xs ys zs h.0 h.1 i.0 i.1 a);
    sort = λ q keys xs ys h a. (told.sort q keys xs ys h.0 a, sorts q keys xs ys h.1 a);
    limit = λ q skip fetch xs ys h a. (told.limit q skip fetch xs ys h.0 a, level (Plan-F.Limit q skip fetch) ys (λ e. absurd (false≢true e)));
    merge = λ q keys xs y h a. (told.merge q keys xs y h.0 a, merges q keys xs y h.1 a);
    coalesce = λ q xs y h b o. (told.coalesce q xs y h.0 b o, coalesces q xs y h.1 b);
    repartition = λ q to xs ys h n b s o. (told.repartition q to xs ys h.0 n b s o, repartitions q to xs ys h.1 b);
    union = λ ps xs h. (let r = stand_apart ps xs h in (told.union ps xs r.0, unions ps xs r.1));
  })
