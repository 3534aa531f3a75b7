-- What nodes declare stands of what their partitions would give.
use Rattle.std.specs.Prelude.{IsSorted}
use Rattle.std.specs.List.{filter_map, AllPass, list_all, sum_by, flat_map}
use Rattle.std.proofs.Common.{ℕ, zero, suc, ◌+◌, ◌%◌, ◌≡◌, ◌==◌, inl, inr, refl, sym, ap, ◌∙◌, subst, List, [], ◌∷◌, ◌++◌, length, get_or, map, sum, Bool, true, false, ◌&&◌, Option, Ok, Err, cond, arith}
use Rattle.std.proofs.lemmas.Bool.{false≢true, cases_lt}
use Rattle.std.proofs.lemmas.List.{append-nil}
use Rattle.std.proofs.lemmas.List.Sums.{list_all-from_AllPass}
use Rattle.dfx_value.specs.Rows.{row_cmp}
use Rattle.dfx_value.specs.declared.kind.Kind.{Kind}
use Rattle.dfx_value.specs.declared.op.JoinKind.{JoinKind}
use Rattle.dfx_value.specs.declared.op.AggCall.{AggCall}
use Rattle.dfx_value.specs.declared.rows.SortKey.{SortKey}
use Rattle.scalar_exprs.specs.declared.expr.Expr.{Expr}
use Rattle.plan_props.specs.declared.properties.Partitioning.{Partitioning}
use Rattle.plan_props.specs.declared.properties.Partitioning.TheVariants as parting
use Rattle.plan_props.specs.declared.properties.Distribution.TheVariants as need
use Rattle.plan_props.specs.Satisfies.{partition_count, satisfies_distribution}
use Rattle.plan_props.specs.Meets as meets
use Rattle.plan_props.specs.Meets.{Row, Hashing, Hashed, InOrder, AllInOrder, cells_at}
use Rattle.physical_plan.specs.declared.plan.Plan.{Plan}
use Rattle.physical_plan.specs.declared.plan.Plan.TheOpen.{Plan-F}
use Rattle.physical_plan.specs.declared.plan.Plan.TheViews.{roll-Plan}
use Rattle.physical_plan.specs.declared.plan.Plan.TheFolds.{fold-roll-Plan, map-Plan}
use Rattle.physical_plan.specs.declared.properties.Declared.{Declared}
use Rattle.physical_plan.specs.Numbers.{numbers}
use Rattle.node_laws.specs.NodeRows.{Holds, Dealt, by_row, kept, values}
use Rattle.physical_plan.specs.Properties.{repartitioned, state_width, first_width, counts, scattered, partitions, declared, declared_of, or_single, props, left_keys, right_keys}
use Rattle.physical_plan.specs.Everywhere.{node_holds, all_true, everywhere}
use Rattle.physical_plan.specs.Needs.{group_need}
use Rattle.logical_plan.specs.Items.{Cells, Item, rows, concat, filter_items, project_items}
use Rattle.logical_plan.specs.Joins.{joined}
use Rattle.logical_plan.specs.Body.{Tables}
use Rattle.tree_laws.specs.Operators.{Told, IsSplit, ReadsAll, Op}
use Rattle.content_laws.specs.Bags.{SameBag}
use Rattle.content_laws.specs.SenderKinds.{is_at}
use Rattle.tree_laws.specs.Trees.{in_files}
use Rattle.plan_task_laws.specs.Trees.{Doing, dealt_files}
use Rattle.plan_task_laws.proofs.Branches.{numbers_length, map_length}
use Rattle.node_laws.specs.Nodes.{Stands, IsWide, Input, JoinRow, AllStand, HaveWidth, rows_of}
use Rattle.node_laws.specs.Rows.{GroupRow, AnswerRow, AllDiffer}
use Rattle.node_laws.proofs.Weavings.{gathered_meets}
use Rattle.node_laws.proofs.Wholes.{node_stands}
use Rattle.node_laws.proofs.Tested.{tested}
use Rattle.plan_props.proofs.Sound.{order_sound}
use Rattle.sort_laws.proofs.Rows.{order_from_sorted, sorted_from_order}
use Rattle.answer_laws.specs.Gives.{Yields, AllYield, AllJoin}
use Rattle.answer_laws.specs.Kept.{AllHold, AreSplit, KeepsOrder, IsKept}
use Rattle.answer_laws.specs.Meant.{Grouping, grouping, Phases, meaning_of, meant, finishes, files_of, is_whole, all_told, told_node, is_told}
use Rattle.answer_laws.specs.Answering.{IsInput, IsAnswering}
use Rattle.answer_laws.specs.Ordered.{IsOrdering}
use Rattle.answer_laws.proofs.Meaning.{both_true, equal_is}
use Rattle.answer_laws.proofs.Weights.{together_all}
use Rattle.node_laws.specs.Tests.{width, have_width}
use Rattle.finished_laws.specs.Sound.{is_met, is_sound, on_properties, anyhow, IsAsDeclared}
use Rattle.finished_laws.specs.Rows.{IsChannelOf, AreGroups}
use Rattle.finished_laws.proofs.Everywhere.{one_below, two_below, seconds, firsts}
use Rattle.finished_laws.proofs.Held.{each_by, each_at, part_rows, bag_holds, apart, in_front, in_back}
use Rattle.finished_laws.proofs.Dealt.{rows_long, past, bag_from, one_wide, dealt}
use Rattle.finished_laws.proofs.Told.{met_of, sound, sound_node, told}
use Rattle.finished_laws.proofs.Delivered.{delivered_by}
use Rattle.finished_laws.proofs.JoinRows.{join_row}
use Rattle.finished_laws.proofs.Widths.{wide, finished_by}
use Rattle.finished_laws.proofs.Ranged.{wide_row, dealt_row}
use Rattle.finished_laws.proofs.Rowwise.{filter_rows, project_rows}
use Rattle.finished_laws.proofs.Counted.{single_count}

-- partition by partition, row by row
pub by_rows : (g : Row → Option Row) (F : List Item → List Item) → ((x : List Item) → rows (F x) ≡ filter_map g (rows x)) → (op : ℕ → Op) → ((c : ℕ) (t : Told) (ins : ℕ → List Item) → IsSplit t → ReadsAll t ins → (op c).whole t ins ≡ F (ins 0))
    → (xs ys : List (List Item)) → AllYield op xs ys → map rows ys ≡ by_row g (map rows xs)
by_rows g F are op owes [] [] h = refl
by_rows g F are op owes [] (y ∷ ys) h = absurd h
by_rows g F are op owes (x ∷ xs) [] h = absurd h
by_rows g F are op owes (x ∷ xs) (y ∷ ys) h =
    let a = h.0 in
    ap (λ r. r ∷ map rows ys) (ap rows (a.gives ∙ owes a.consumer a.told a.taken a.split a.reads ∙ ap F (a.are 0)) ∙ are x)
    ∙ ap (λ rs. filter_map g (rows x) ∷ rs) (by_rows g F are op owes xs ys h.1)

-- as many, and each with the rows of its input
pub answers_long : (op : ℕ → Op) (xs ys : List (List Item)) → AllYield op xs ys → length ys ≡ length xs
answers_long op [] [] h = refl
answers_long op [] (y ∷ ys) h = absurd h
answers_long op (x ∷ xs) [] h = absurd h
answers_long op (x ∷ xs) (y ∷ ys) h = ap suc (answers_long op xs ys h.1)

-- what holds of each partition's answer, over its input
pub answered : (op : ℕ → Op) (P : List Item → List Item → Type 0) → P [] [] → ((c : ℕ) (t : Told) (ins : ℕ → List Item) → IsSplit t → ReadsAll t ins → P (ins 0) ((op c).whole t ins))
    → (xs ys : List (List Item)) → AllYield op xs ys → (j : ℕ) → P (get_or xs j []) (get_or ys j [])
answered op P none owes [] [] h j = none
answered op P none owes [] (y ∷ ys) h j = absurd h
answered op P none owes (x ∷ xs) [] h j = absurd h
answered op P none owes (x ∷ xs) (y ∷ ys) h zero = (let a = h.0 in subst (λ z. P x z) (sym a.gives) (subst (λ z. P z ((op a.consumer).whole a.told a.taken)) (a.are 0) (owes a.consumer a.told a.taken a.split a.reads)))
answered op P none owes (x ∷ xs) (y ∷ ys) h (suc j) = answered op P none owes xs ys h.1 j

at_number : (number : Cells → ℕ) (c : ℕ) (xs : List Item) → AllPass (is_at number c) xs → meets.Each (λ r. number r ≡ c) (rows xs)
at_number number c xs h = by xs (list_all-from_AllPass (is_at number c) xs h)
  where
    by : (xs : List Item) → list_all (is_at number c) xs ≡ true → meets.Each (λ r. number r ≡ c) (rows xs)
    by [] e = tt
    by (Ok r ∷ xs) e = (let b = both_true (number r == c) (list_all (is_at number c) xs) e in (equal_is (number r) c b.0, by xs b.1))
    by (Err g ∷ xs) e = by xs e

module _ (f : Doing) (tables : Tables) (n : ℕ) (h : Hashing) (channels : IsChannelOf h f) (phases : Phases) (answering : IsAnswering f tables (on_properties tables n) phases) (ordering : IsOrdering f) where
  abbrev pub Holds-of : Plan → List (List Item) → Type 0
  Holds-of = IsAsDeclared h tables n

  abbrev here : Plan-F Plan → Bool
  here = is_met tables n

  abbrev input : Plan → List (List Item) → Input
  input q xs = (declared_of q, map rows xs)

  -- a sound node
  pub level : (z : Plan-F Plan) (ys : List (List Item))
      → (node_holds here (map-Plan Plan (Plan × Bool) (λ p. (p, everywhere here p)) z) ≡ true → told_node tables anyhow (map-Plan Plan (Plan × Bool) (λ p. (p, is_told tables anyhow p)) z) ≡ true
      → Stands h (declared (map-Plan Plan Declared declared_of z)) (map rows ys))
      → Holds-of (roll-Plan z) ys
  unfolding declared_of
  level z ys s e = (let b = sound_node tables n z e in let d = fold-roll-Plan Declared declared z in rw d (s b.0 b.1))

  whole_input : (b : Bool) (q : Plan) → b && (everywhere here q && true) ≡ true → is_told tables anyhow q && is_whole (meaning_of tables q) ≡ true → is_sound tables n q ≡ true
  whole_input b q e t = sound tables n q (one_below b (everywhere here q) e).1 (both_true (is_told tables anyhow q) (is_whole (meaning_of tables q)) t).0

  pub filters : (q : Plan) (test : Expr) (xs ys : List (List Item)) → Holds-of q xs → AllYield (f.operator (Plan-F.Filter q test) 1) xs ys → Holds-of (roll-Plan (Plan-F.Filter q test)) ys
  filters q test xs ys i a = level (Plan-F.Filter q test) ys (λ e t. (
      let z = Plan-F.Filter q test in
      let m = met_of tables n z (one_below (here z) (everywhere here q) e).0 in
      node_stands h n (Plan-F.Filter (input q xs) test) (map rows ys) (i (whole_input (here z) q e t), tt) (tested (Plan-F.Filter (q, map rows xs) test) m.ranges)
      (by_rows (kept test) (filter_items test) (filter_rows test) (f.operator z 1) (answering.filter q test) xs ys a)))

  pub projects : (q : Plan) (items : List Expr) (xs ys : List (List Item)) → Holds-of q xs → AllYield (f.operator (Plan-F.Project q items) 1) xs ys → Holds-of (roll-Plan (Plan-F.Project q items)) ys
  projects q items xs ys i a = level (Plan-F.Project q items) ys (λ e t. (
      let z = Plan-F.Project q items in
      node_stands h n (Plan-F.Project (input q xs) items) (map rows ys) (i (whole_input (here z) q e t), tt) tt
      (by_rows (values items) (project_items items) (project_rows items) (f.operator z 1) (answering.project q items) xs ys a)))

  -- ------------------------------------------------------------ scans

  pub scans : (table : ℕ) (kinds : List Kind) (files partitions source : ℕ) → Holds-of (roll-Plan (Plan-F.Scan table kinds files partitions)) (map (λ (i : ℕ). in_files (dealt_files (f.items table) source files partitions i)) (numbers partitions))
  scans table kinds files partitions source = level (Plan-F.Scan table kinds files partitions) ys (λ e t. (
      let z = Plan-F.Scan table kinds files partitions in
      let fit = (met_of tables n z (both_true (here z) true e).0).fits in
      node_stands h n (Plan-F.Scan table kinds files partitions) (map rows ys) tt tt (
        rows_long ys ∙ map_length G (numbers partitions) ∙ numbers_length 0 partitions,
        λ j. each_by (IsWide (length kinds)) (get_or (map rows ys) j []) (λ r i. wide_row (length kinds) (rows (concat (files_of tables table))) fit r
            (some_file (numbers partitions) j r (subst (λ rs. Holds rs r) (part_rows ys j) i))),
      )))
    where
      G : ℕ → List Item
      G i = in_files (dealt_files (f.items table) source files partitions i)

      ys : List (List Item)
      ys = map G (numbers partitions)

      some_file : (is : List ℕ) (j : ℕ) (r : Cells) → Holds (rows (get_or (map G is) j [])) r → Holds (rows (concat (files_of tables table))) r
      some_file [] j r i = absurd i
      some_file (k ∷ is) zero r i = dealt_row (f.items table) (files_of tables table) (answering.items table) source files partitions k r i
      some_file (k ∷ is) (suc j) r i = some_file is j r i

  -- ------------------------------------------------------------ bags, and orders

  sorted_rows : (q : Plan) (keys : List SortKey) (xs ys : List (List Item)) → AllYield (f.operator (Plan-F.Sort q keys) 1) xs ys → (j : ℕ) (r : Row) → Holds (get_or (map rows ys) j []) r → Holds (get_or (map rows xs) j []) r
  sorted_rows q keys xs ys a j r i =
      subst (λ rs. Holds rs r) (sym (part_rows xs j))
      (answered (f.operator (Plan-F.Sort q keys) 1) (λ x y. Holds (rows y) r → Holds (rows x) r) (λ k. k)
      (λ c t ins s d k. bag_holds (ins 0) ((f.operator (Plan-F.Sort q keys) 1 c).whole t ins) (answering.sort q keys c t ins s d) r k) xs ys a j (subst (λ rs. Holds rs r) (part_rows ys j) i))

  pub sorts : (q : Plan) (keys : List SortKey) (xs ys : List (List Item)) → Holds-of q xs → AllYield (f.operator (Plan-F.Sort q keys) 1) xs ys → Holds-of (roll-Plan (Plan-F.Sort q keys)) ys
  sorts q keys xs ys i a = level (Plan-F.Sort q keys) ys (λ e t. (
      let op = f.operator (Plan-F.Sort q keys) 1 in
      let s = i (sound tables n q (one_below (here (Plan-F.Sort q keys)) (everywhere here q) e).1 t) in
      node_stands h n (Plan-F.Sort (input q xs) keys) (map rows ys) (s, tt) tt (record {
        count = rows_long ys ∙ answers_long op xs ys a ∙ sym (rows_long xs);
        from = λ j. each_by (Holds (get_or (map rows xs) j [])) (get_or (map rows ys) j []) (sorted_rows q keys xs ys a j);
        ordered = λ j. subst (InOrder keys) (sym (part_rows ys j))
            (answered op (λ x y. InOrder keys (rows y)) tt (λ c t2 ins s d. order_from_sorted keys (rows ((op c).whole t2 ins)) (ordering.sort q keys c t2 ins s d)) xs ys a j);
      })))

  pub merges : (q : Plan) (keys : List SortKey) (xs : List (List Item)) (y : List Item) → Holds-of q xs → Yields (f.operator (Plan-F.Merge q keys) (length xs)) xs y → Holds-of (roll-Plan (Plan-F.Merge q keys)) (y ∷ [])
  merges q keys xs y i a = level (Plan-F.Merge q keys) (y ∷ []) (λ e t. (
      let b = one_below (here (Plan-F.Merge q keys)) (everywhere here q) e in
      let s = i (sound tables n q b.1 t) in
      let c : SameBag y (concat xs) = (λ w. ap (sum_by w) a.gives ∙ answering.merge q keys (length xs) a.consumer a.told a.taken a.split a.reads w ∙ together_all xs a.taken a.are w) in
      let from = bag_from xs y c in
      let k : AllInOrder keys (map rows xs) = order_sound h (props q) keys (map rows xs) (met_of tables n (Plan-F.Merge q keys) b.0).order s.meets in
      let o : InOrder keys (rows y) = order_from_sorted keys (rows y) (subst (λ zs. IsSorted (row_cmp keys) (rows zs)) (sym a.gives)
      (ordering.merge q keys (length xs) a.consumer a.told a.taken a.split a.reads (λ j l. sorted_from_order keys (rows (a.taken j))
      (subst (λ zs. InOrder keys (rows zs)) (sym (a.are j)) (subst (InOrder keys) (part_rows xs j) (k j)))))) in
      record {
        meets = gathered_meets h keys (declared_of q) (map rows xs) (rows y) from o s.meets;
        wide = one_wide (declared_of q).width (map rows xs) (rows y) s.wide from;
        pairs = s.pairs;
        constants = s.constants;
      }))

  pub coalesces : (q : Plan) (xs : List (List Item)) (y : List Item) → Holds-of q xs → SameBag y (concat xs) → KeepsOrder xs (y ∷ []) → Holds-of (roll-Plan (Plan-F.Coalesce q)) (y ∷ [])
  coalesces q xs y i b o = level (Plan-F.Coalesce q) (y ∷ []) (λ e t. (
      let s = i (sound tables n q (one_below (here (Plan-F.Coalesce q)) (everywhere here q) e).1 t) in
      let c : SameBag (concat (y ∷ [])) (concat xs) = subst (λ zs. SameBag zs (concat xs)) (sym (append-nil y)) b in
      node_stands h n (Plan-F.Coalesce (input q xs)) (map rows (y ∷ [])) (s, tt) tt (dealt xs (y ∷ []) c o)))

  -- rows at their numbers, where an exchange goes by a hash
  hashed_to : (cs : List ℕ) (m : ℕ) (ys : List (List Item)) → length ys ≡ m → AreSplit f (parting.Hash cs m) ys → (j : ℕ) → meets.Each (λ r. h (cells_at cs r) % m ≡ j) (rows (get_or ys j []))
  hashed_to cs m ys l s j = elim (cases_lt j m) [
    | inl b ↦ each_by (λ r. h (cells_at cs r) % m ≡ j) (rows (get_or ys j [])) (λ r k.
        sym (channels.channel cs m r) ∙ each_at (λ r. f.channel cs m r ≡ j) (rows (get_or ys j [])) (at_number (f.channel cs m) j (get_or ys j []) (s cs m refl j b)) r k)
    | inr b ↦ subst (λ xs. meets.Each (λ r. h (cells_at cs r) % m ≡ j) (rows xs)) (sym (past ys j (omega (arith, l, b)))) tt
  ]

  -- an exchange declares as one in turn does, where it goes by no hash
  unhashed : (m : ℕ) (d : Declared) (outs : List (List Row)) → Stands h (repartitioned (parting.RoundRobin m) d) outs → Stands h (repartitioned (parting.Unknown m) d) outs
  unhashed m d outs s = record {
    meets = record {
      count = s.meets.count ∙ single_count (parting.RoundRobin m) ∙ sym (single_count (parting.Unknown m));
      hashed = λ j. each_by (Hashed h (or_single (parting.Unknown m)) j) (get_or outs j []) (λ r k. free (m == 1) j r);
      ordered = s.meets.ordered;
      same = s.meets.same;
      constant = s.meets.constant;
    };
    wide = s.wide;
    pairs = s.pairs;
    constants = s.constants;
  }
    where
      free : (b : Bool) (j : ℕ) (r : Row) → Hashed h (cond b parting.Single (parting.Unknown m)) j r
      free true j r = tt
      free false j r = tt

  exchanged : (q : Plan) (to : Partitioning) (xs ys : List (List Item)) → length ys ≡ partition_count to → SameBag (concat ys) (concat xs) → AreSplit f to ys → KeepsOrder xs ys
      → Stands h (declared_of q) (map rows xs) → Stands h (repartitioned to (declared_of q)) (map rows ys)
  exchanged q (parting.Hash cs m) xs ys l b split o s = node_stands h n (Plan-F.Repartition (input q xs) (parting.Hash cs m)) (map rows ys) (s, tt) tt (record {
    dealt = subst (λ (k : ℕ). Dealt k (map rows xs) (map rows ys)) l (dealt xs ys b o);
    place = λ j. subst (meets.Each (λ r. h (cells_at cs r) % m ≡ j)) (sym (part_rows ys j)) (hashed_to cs m ys l split j);
  })
  exchanged q (parting.RoundRobin m) xs ys l b split o s = node_stands h n (Plan-F.Repartition (input q xs) (parting.RoundRobin m)) (map rows ys) (s, tt) tt (subst (λ (k : ℕ). Dealt k (map rows xs) (map rows ys)) l (dealt xs ys b o))
  exchanged q parting.Single xs ys l b split o s = node_stands h n (Plan-F.Repartition (input q xs) (parting.RoundRobin 1)) (map rows ys) (s, tt) tt (subst (λ (k : ℕ). Dealt k (map rows xs) (map rows ys)) l (dealt xs ys b o))
  exchanged q (parting.Unknown m) xs ys l b split o s = unhashed m (declared_of q) (map rows ys)
      (node_stands h n (Plan-F.Repartition (input q xs) (parting.RoundRobin m)) (map rows ys) (s, tt) tt (subst (λ (k : ℕ). Dealt k (map rows xs) (map rows ys)) l (dealt xs ys b o)))

  pub repartitions : (q : Plan) (to : Partitioning) (xs ys : List (List Item)) → Holds-of q xs → length ys ≡ partition_count to → SameBag (concat ys) (concat xs) → AreSplit f to ys → KeepsOrder xs ys → Holds-of (roll-Plan (Plan-F.Repartition q to)) ys
  repartitions q to xs ys i l b split o = level (Plan-F.Repartition q to) ys (λ e t.
      exchanged q to xs ys l b split o (i (sound tables n q (one_below (here (Plan-F.Repartition q to)) (everywhere here q) e).1 t)))

  -- ------------------------------------------------------------ joins

  joined_rows : (kind : JoinKind) (p q : Plan) (keys : List (ℕ × ℕ)) (rest : Option Expr) → IsInput tables (on_properties tables n) p → IsInput tables (on_properties tables n) q
      → (xs ys zs : List (List Item)) → length xs ≡ length ys → AllJoin (f.operator (Plan-F.HashJoin kind p q keys rest) 2) xs ys zs
      → (j : ℕ) (r : Row) → Holds (rows (get_or zs j [])) r
      → JoinRow kind keys (length (meaning_of tables p).kinds) (length (meaning_of tables q).kinds) (rows (get_or xs j [])) (rows (get_or ys j [])) r
  joined_rows kind p q keys rest u v [] [] [] l a j r i = absurd i
  joined_rows kind p q keys rest u v [] [] (z ∷ zs) l a j r i = absurd a
  joined_rows kind p q keys rest u v [] (y ∷ ys) zs l a j r i = absurd (omega arith)
  joined_rows kind p q keys rest u v (x ∷ xs) [] zs l a j r i = absurd (omega arith)
  joined_rows kind p q keys rest u v (x ∷ xs) (y ∷ ys) [] l a j r i = absurd a
  joined_rows kind p q keys rest u v (x ∷ xs) (y ∷ ys) (z ∷ zs) l a zero r i =
      let b = a.0 in
      let lw = length (meaning_of tables p).kinds in
      let rw2 = length (meaning_of tables q).kinds in
      let e : z ≡ (f.operator (Plan-F.HashJoin kind p q keys rest) 2 b.consumer).whole b.told b.taken = b.gives in
      let s : SameBag z (joined kind lw rw2 keys rest (b.taken 0) (b.taken 1)) = (λ w. ap (sum_by w) e ∙ answering.join kind p q keys rest u v b.consumer b.told b.taken b.split b.reads w) in
      let k : Holds (rows (joined kind lw rw2 keys rest (b.taken 0) (b.taken 1))) r = bag_holds (joined kind lw rw2 keys rest (b.taken 0) (b.taken 1)) z s r i in
      let m : Holds (rows (joined kind lw rw2 keys rest x y)) r = subst (λ ts. Holds (rows (joined kind lw rw2 keys rest ts y)) r) (b.are 0) (subst (λ ts. Holds (rows (joined kind lw rw2 keys rest (b.taken 0) ts)) r) (b.are 1) k) in
      join_row kind lw rw2 keys rest x y r m
  joined_rows kind p q keys rest u v (x ∷ xs) (y ∷ ys) (z ∷ zs) l a (suc j) r i = joined_rows kind p q keys rest u v xs ys zs (omega arith) a.1 j r i

  joins_long : (op : ℕ → Op) (xs ys zs : List (List Item)) → length xs ≡ length ys → AllJoin op xs ys zs → length zs ≡ length xs
  joins_long op [] [] [] l a = refl
  joins_long op [] [] (z ∷ zs) l a = absurd a
  joins_long op [] (y ∷ ys) zs l a = absurd (omega arith)
  joins_long op (x ∷ xs) [] zs l a = absurd (omega arith)
  joins_long op (x ∷ xs) (y ∷ ys) [] l a = absurd a
  joins_long op (x ∷ xs) (y ∷ ys) (z ∷ zs) l a = ap suc (joins_long op xs ys zs (omega arith) a.1)

  pub joins : (kind : JoinKind) (p q : Plan) (keys : List (ℕ × ℕ)) (rest : Option Expr) (xs ys zs : List (List Item)) → Holds-of p xs → Holds-of q ys
      → AllJoin (f.operator (Plan-F.HashJoin kind p q keys rest) 2) xs ys zs → Holds-of (roll-Plan (Plan-F.HashJoin kind p q keys rest)) zs
  joins kind p q keys rest xs ys zs i j a = level (Plan-F.HashJoin kind p q keys rest) zs (λ e t. (
      let z = Plan-F.HashJoin kind p q keys rest in
      let v = is_whole (meaning_of tables p) in
      let w = is_whole (meaning_of tables q) in
      let b = both_true (is_told tables anyhow p && v) ((is_told tables anyhow q && w) && true) t in
      let c = both_true (is_told tables anyhow p) v b.0 in
      let d = both_true (is_told tables anyhow q) w (both_true (is_told tables anyhow q && w) true b.1).0 in
      let m = two_below (here z) (everywhere here p) (everywhere here q) e in
      let sp = sound tables n p m.1 c.0 in
      let sq = sound tables n q m.2 d.0 in
      let met = met_of tables n z m.0 in
      let r = tested (Plan-F.HashJoin kind (p, map rows xs) (q, map rows ys) keys rest) met.ranges in
      let l = satisfies_distribution (props p) (need.JoinHash (left_keys keys) n) in
      let k = satisfies_distribution (props q) (need.JoinHash (right_keys keys) n) in
      let o = both_true l k met.spread in
      let left = delivered_by h channels.hash tables n p (need.JoinHash (left_keys keys) n) xs o.0 (i sp) in
      let right = delivered_by h channels.hash tables n q (need.JoinHash (right_keys keys) n) ys o.1 (j sq) in
      let even : length xs ≡ length ys = sym (rows_long xs) ∙ left.count ∙ sym right.count ∙ rows_long ys in
      let u : IsInput tables (on_properties tables n) p = record { told = told tables n p sp; items = c.1 } in
      let x : IsInput tables (on_properties tables n) q = record { told = told tables n q sq; items = d.1 } in
      let op = f.operator z 2 in
      node_stands h n (Plan-F.HashJoin kind (input p xs) (input q ys) keys rest) (map rows zs) (i sp, (j sq, tt))
      (left, right, r.0, r.1)
      (record {
        count = rows_long zs ∙ joins_long op xs ys zs even a ∙ sym (rows_long xs);
        rows = λ at. each_by (JoinRow kind keys (width p) (width q) (get_or (map rows xs) at []) (get_or (map rows ys) at [])) (get_or (map rows zs) at []) (λ s y. (
            let g = joined_rows kind p q keys rest u x xs ys zs even a at s (subst (λ rs. Holds rs s) (part_rows zs at) y) in
            let g1 = subst (λ (c : ℕ). JoinRow kind keys c (length (meaning_of tables q).kinds) (rows (get_or xs at [])) (rows (get_or ys at [])) s) (sym (wide tables n p sp c.1)) g in
            let g2 = subst (λ (c : ℕ). JoinRow kind keys (width p) c (rows (get_or xs at [])) (rows (get_or ys at [])) s) (sym (wide tables n q sq d.1)) g1 in
            let g3 = subst (λ rs. JoinRow kind keys (width p) (width q) rs (rows (get_or ys at [])) s) (sym (part_rows xs at)) g2 in
            subst (λ rs. JoinRow kind keys (width p) (width q) (get_or (map rows xs) at []) rs s) (sym (part_rows ys at)) g3));
      })))

  -- ------------------------------------------------------------ unions

  abbrev zipped : List Plan → List (List (List Item)) → List Input
  zipped [] xs = []
  zipped (p ∷ ps) [] = []
  zipped (p ∷ ps) (x ∷ xs) = input p x ∷ zipped ps xs

  all_stand : (ps : List Plan) (xs : List (List (List Item))) → AllHold Holds-of ps xs → all_true (map (everywhere here) ps) ≡ true
      → all_told (λ p. is_whole (meaning_of tables p)) (map (λ (p : Plan). (p, is_told tables anyhow p)) ps) ≡ true → AllStand h (zipped ps xs)
  all_stand [] xs k e t = tt
  all_stand (p ∷ ps) [] k e t = tt
  all_stand (p ∷ ps) (x ∷ xs) k e t =
      let w = is_whole (meaning_of tables p) in
      let more = all_told (λ p. is_whole (meaning_of tables p)) (map (λ (p : Plan). (p, is_told tables anyhow p)) ps) in
      let b = both_true (everywhere here p) (all_true (map (everywhere here) ps)) e in
      let c = both_true (is_told tables anyhow p) (w && more) t in
      (k.0 (sound tables n p b.0 c.0), all_stand ps xs k.1 b.1 (both_true w more c.1).1)

  zipped_widths : (w : ℕ) (ps : List Plan) (xs : List (List (List Item))) → have_width w ps ≡ true → HaveWidth w (zipped ps xs)
  zipped_widths w [] xs e = tt
  zipped_widths w (p ∷ ps) [] e = tt
  zipped_widths w (p ∷ ps) (x ∷ xs) e = (let b = both_true (width p == w) (have_width w ps) e in (equal_is (width p) w b.0, zipped_widths w ps xs b.1))

  zipped_first : (ps : List Plan) (xs : List (List (List Item))) → AllHold Holds-of ps xs → first_width (map (λ (i : Input). i.0) (zipped ps xs)) ≡ first_width (map declared_of ps)
  zipped_first [] xs k = refl
  zipped_first (p ∷ ps) [] k = absurd k
  zipped_first (p ∷ ps) (x ∷ xs) k = refl

  zipped_counts : (ps : List Plan) (xs : List (List (List Item))) → AllHold Holds-of ps xs → counts (map (λ (i : Input). i.0) (zipped ps xs)) ≡ counts (map declared_of ps)
  zipped_counts [] xs k = refl
  zipped_counts (p ∷ ps) [] k = absurd k
  zipped_counts (p ∷ ps) (x ∷ xs) k = ap (λ (cs : List ℕ). partitions p ∷ cs) (zipped_counts ps xs k.1)

  map_apart : (x y : List (List Item)) → map rows (x ++ y) ≡ map rows x ++ map rows y
  map_apart [] y = refl
  map_apart (a ∷ x) y = ap (λ rs. rows a ∷ rs) (map_apart x y)

  zipped_rows : (ps : List Plan) (xs : List (List (List Item))) → AllHold Holds-of ps xs → map rows (concat xs) ≡ concat (rows_of (zipped ps xs))
  zipped_rows [] [] k = refl
  zipped_rows [] (x ∷ xs) k = absurd k
  zipped_rows (p ∷ ps) [] k = absurd k
  zipped_rows (p ∷ ps) (x ∷ xs) k = map_apart x (concat xs) ∙ ap (λ rs. map rows x ++ rs) (zipped_rows ps xs k.1)

  pub unions : (ps : List Plan) (xs : List (List (List Item))) → AllHold Holds-of ps xs → Holds-of (roll-Plan (Plan-F.UnionAll ps)) (concat xs)
  unions ps xs k = level (Plan-F.UnionAll ps) (concat xs) (λ e t. (
      let zs = map (λ (x : Plan). (x, everywhere here x)) ps in
      let b = both_true (here (Plan-F.UnionAll (map (λ (p : Plan × Bool). p.0) zs))) (all_true (map (λ (p : Plan × Bool). p.1) zs)) e in
      let c : all_true (map (everywhere here) ps) ≡ true = sym (ap all_true (seconds here ps)) ∙ b.1 in
      let d : here (Plan-F.UnionAll ps) ≡ true = sym (ap (λ (qs : List Plan). here (Plan-F.UnionAll qs)) (firsts here ps)) ∙ b.0 in
      let w : HaveWidth (first_width (map declared_of ps)) (zipped ps xs) = zipped_widths (first_width (map declared_of ps)) ps xs (met_of tables n (Plan-F.UnionAll ps) d).ranges in
      let s = node_stands h n (Plan-F.UnionAll (zipped ps xs)) (map rows (concat xs)) (all_stand ps xs k c t) (subst (λ (m : ℕ). HaveWidth m (zipped ps xs)) (sym (zipped_first ps xs k)) w) (zipped_rows ps xs k) in
      subst (λ (m : ℕ). Stands h (scattered (first_width (map declared_of ps)) m) (map rows (concat xs))) (ap sum (zipped_counts ps xs k))
      (subst (λ (m : ℕ). Stands h (scattered m (sum (counts (map (λ (i : Input). i.0) (zipped ps xs))))) (map rows (concat xs))) (zipped_first ps xs k) s)))

  -- ------------------------------------------------------------ groups

  module _ (groups : AreGroups phases) where
    segment_row : (g : Grouping) (segments : List (List Item)) (s : Cells) → Holds (rows (flat_map (phases.first g) segments)) s → (x : List Item) × Holds (rows (phases.first g x)) s × ((r : Cells) → Holds (rows x) r → Holds (rows (concat segments)) r)
    segment_row g [] s i = absurd i
    segment_row g (x ∷ xs) s i = elim (apart (phases.first g x) (flat_map (phases.first g) xs) s i) [
      | inl a ↦ (x, a, λ r k. in_front x (concat xs) r k)
      | inr b ↦ (let m = segment_row g xs s b in (m.0, m.1, λ r k. in_back x (concat xs) r (m.2 r k)))
    ]

    -- a row of the first phase of a partition
    abbrev FirstRow : Grouping → List Item → List Item → Type 0
    FirstRow g x y = (s : Cells) → Holds (rows y) s → GroupRow g.columns (rows x) s × IsWide (length g.columns + sum (map state_width g.calls)) s

    first_row : (g : Grouping) (x : List Item) (segments : List (List Item)) → concat segments ≡ x → FirstRow g x (flat_map (phases.first g) segments)
    first_row g x segments e s i =
        let m = segment_row g segments s i in
        let r = each_at (GroupRow g.columns (rows m.0)) (rows (phases.first g m.0)) (groups.first g m.0) s m.1 in
        ((r.0, r.1, subst (λ zs. Holds (rows zs) r.0) e (m.2 r.0 r.2), r.3), each_at (IsWide (length g.columns + sum (map state_width g.calls))) (rows (phases.first g m.0)) (groups.first_wide g m.0) s m.1)

    pub partials : (q : Plan) (keys : List ℕ) (calls : List AggCall) (xs ys : List (List Item)) → Holds-of q xs → AllYield (f.operator (Plan-F.PartialGroup q keys calls) 1) xs ys → Holds-of (roll-Plan (Plan-F.PartialGroup q keys calls)) ys
    partials q keys calls xs ys i a = level (Plan-F.PartialGroup q keys calls) ys (λ e t. (
        let z = Plan-F.PartialGroup q keys calls in
        let op = f.operator z 1 in
        let sq = whole_input (here z) q e t in
        let w = (both_true (is_told tables anyhow q) (is_whole (meaning_of tables q)) t).1 in
        let u : IsInput tables (on_properties tables n) q = record { told = told tables n q sq; items = w } in
        let g = grouping keys calls (meaning_of tables q) in
        let at : (j : ℕ) → FirstRow g (get_or xs j []) (get_or ys j []) = answered op (FirstRow g) (λ s k. absurd k)
        (λ c t2 ins s d. (let m = answering.partial q keys calls u c t2 ins s d in subst (FirstRow g (ins 0)) (sym m.2) (first_row g (ins 0) m.0 m.1))) xs ys a in
        node_stands h n (Plan-F.PartialGroup (input q xs) keys calls) (map rows ys) (i sq, tt) tt (
          record {
            count = rows_long ys ∙ answers_long op xs ys a ∙ sym (rows_long xs);
            rows = λ j. each_by (GroupRow keys (get_or (map rows xs) j [])) (get_or (map rows ys) j []) (λ s k. subst (λ rs. GroupRow keys rs s) (sym (part_rows xs j)) (at j s (subst (λ rs. Holds rs s) (part_rows ys j) k)).0);
          },
          λ j. each_by (IsWide (length keys + sum (map state_width calls))) (get_or (map rows ys) j []) (λ s k. (at j s (subst (λ rs. Holds rs s) (part_rows ys j) k)).1),
        )))

    -- the rows of the second phase of a partition
    record SecondRows (ks : List ℕ) (calls : List AggCall) (x y : List Item) : Type 0 where
      pub from : meets.Each (AnswerRow ks (rows x)) (rows y)
      pub once : AllDiffer (length ks) (rows y)
      pub wide : meets.Each (IsWide (length ks + length calls)) (rows y)

    pub finals : (q : Plan) (keys : List ℕ) (calls : List AggCall) (xs ys : List (List Item)) → Holds-of q xs → AllYield (f.operator (Plan-F.FinalGroup q keys calls) 1) xs ys → Holds-of (roll-Plan (Plan-F.FinalGroup q keys calls)) ys
    finals q keys calls xs ys i a = level (Plan-F.FinalGroup q keys calls) ys (λ e t. (
        let z = Plan-F.FinalGroup q keys calls in
        let op = f.operator z 1 in
        let m = meaning_of tables q in
        let fin = finishes m.groups keys calls (rows (meant tables q)) in
        let b = both_true (is_told tables anyhow q) (fin && true) t in
        let g = finished_by m.groups keys calls (rows (meant tables q)) (both_true fin true b.1).0 in
        let d = one_below (here z) (everywhere here q) e in
        let sq = sound tables n q d.1 b.0 in
        let stand = i sq in
        let o = (met_of tables n z d.0).spread in
        let c = (subst (λ ks. (x y : List Item) → y ≡ phases.second g.0 x → SecondRows ks calls x y) (sym g.2) (subst (λ cs. (x y : List Item) → y ≡ phases.second g.0 x → SecondRows (numbers (length g.0.columns)) cs x y) (sym g.3)
        (λ x y k. subst (λ zs. SecondRows (numbers (length g.0.columns)) g.0.calls x zs) (sym k) (record { from = groups.second g.0 x; once = groups.once g.0 x; wide = groups.second_wide g.0 x })))) in
        let at : (j : ℕ) → SecondRows keys calls (get_or xs j []) (get_or ys j []) = answered op (SecondRows keys calls) (record { from = tt; once = tt; wide = tt })
        (λ k t2 ins s r. c (ins 0) ((op k).whole t2 ins) (answering.final q keys calls g.0 g.1 g.2 g.3 k t2 ins s r)) xs ys a in
        node_stands h n (Plan-F.FinalGroup (input q xs) keys calls) (map rows ys) (stand, tt) (delivered_by h channels.hash tables n q (group_need keys n) xs o stand) (
          record {
            count = rows_long ys ∙ answers_long op xs ys a ∙ sym (rows_long xs);
            rows = λ j. subst (λ rs. meets.Each (AnswerRow keys rs) (get_or (map rows ys) j [])) (sym (part_rows xs j)) (subst (λ rs. meets.Each (AnswerRow keys (rows (get_or xs j []))) rs) (sym (part_rows ys j)) (at j).from);
            once = λ j. subst (AllDiffer (length keys)) (sym (part_rows ys j)) (at j).once;
          },
          λ j. subst (meets.Each (IsWide (length keys + length calls))) (sym (part_rows ys j)) (at j).wide,
        )))

    pub standing : IsKept f Holds-of
    standing = record {
      scan = scans;
      filter = filters;
      project = projects;
      partial = partials;
      final = finals;
      join = joins;
      sort = sorts;
      limit = λ q skip fetch xs ys i a. level (Plan-F.Limit q skip fetch) ys (λ e t. absurd (false≢true t));
      merge = merges;
      coalesce = coalesces;
      repartition = repartitions;
      union = unions;
    }
