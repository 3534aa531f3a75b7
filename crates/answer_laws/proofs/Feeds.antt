-- From a run to lists: what trees would give, and what the channels of an exchange hold in whole.
use Rattle.std.specs.List.{sum_by}
use Rattle.std.proofs.Common.{ℕ, zero, suc, ◌+◌, ◌<◌, ◌≡◌, refl, sym, ap, ◌∙◌, subst, cond, List, [], ◌∷◌, ◌++◌, length, get_or, map, Bool, true, Some, arith, zero-add, add-zero, append_assoc}
use Rattle.std.proofs.lemmas.List.{length-append, append-nil}
use Rattle.std.proofs.lemmas.List.Sums.{sum_by-append}
use Rattle.run_journal.specs.declared.entry.Entry.{Entry}
use Rattle.task_shape.specs.Shape.{task_at, is_group, width}
use Rattle.physical_plan.specs.declared.plan.Plan.{Plan}
use Rattle.plan_shape.specs.Layout.{shape}
use Rattle.physical_plan.specs.Numbers.{numbers, numbers_from}
use Rattle.plan_shape.proofs.Lawful.{is_shape}
use Rattle.history_laws.specs.Histories.{Past}
use Rattle.logical_plan.specs.Items.{Cells, Item, of_rows, concat}
use Rattle.tree_laws.specs.Operators.{Told, Op, IsFront, Reads, ReadsAll}
use Rattle.tree_laws.specs.Trees.{Desk, Tree, Nothing, Files, Inlet, Node, Form, form, gave_of}
use Rattle.tree_laws.specs.Linked.{IsLinked, whole, waiting, IsFlow}
use Rattle.tree_laws.specs.Tasks.{Split, Task}
use Rattle.tree_laws.specs.Runs.{State, the_task, IsReached}
use Rattle.tree_laws.proofs.Wholes.{whole_of}
use Rattle.tree_laws.proofs.Fronts.{of_rows-append}
use Rattle.content_laws.specs.Bags.{sum_below}
use Rattle.content_laws.specs.Subsequences.{IsSubsequence}
use Rattle.content_laws.specs.Senders.{Deal, SendsOnly}
use Rattle.content_laws.specs.SenderKinds.{hash_split, hash_deal, is_at}
use Rattle.content_laws.specs.Whole.{past_in, tree_in, AreFull}
use Rattle.content_laws.proofs.Bags.{sums_same, sums_front}
use Rattle.content_laws.proofs.Flows.{flows}
use Rattle.content_laws.proofs.Exchanges.{exchanged, passed_at, only_sender as sent_alone, lone_sender as sent_in_order}
use Rattle.content_laws.proofs.SenderKinds.{hash_only}
use Rattle.plan_task_laws.specs.Trees.{Doing, Seed, leaf, partitions_of}
use Rattle.plan_task_laws.specs.Tops.{Way, Top, all_tops, tops, top, Written, width_by}
use Rattle.plan_task_laws.specs.Starts.{seeds_of, start_of, split_by}
use Rattle.plan_task_laws.specs.Reading.{AreOperators}
use Rattle.plan_task_laws.specs.Placed.{tasks_before, deal_by, deal_of, consumers_before, IsHashing, HasChannels}
use Rattle.plan_task_laws.proofs.Begun.{is_start}
use Rattle.plan_task_laws.proofs.Placed.{placed, stage_is, feeds, sender_of}
use Rattle.plan_task_laws.proofs.Senders.{are_senders, deal_is, only_sender, lone_sender}
use Rattle.answer_laws.specs.Gives.{channels, Gives, AllGive}
use Rattle.answer_laws.specs.Fed.{IsFed, AllFed}

-- ------------------------------------------------------------ a tree gives what its form can

-- what was taken is read of what was given
reads_of : (rows waits gave : List Cells) (over : Bool) (items : List Item) → gave ≡ rows ++ waits → IsFront (of_rows gave) items
    → (over ≡ true → of_rows rows ≡ items) → Reads rows over items
reads_of rows waits gave over items e f all = record {
  front = (of_rows waits ++ f.0, sym (append_assoc (of_rows rows) (of_rows waits) f.0) ∙ ap (λ xs. xs ++ f.0) (sym (of_rows-append rows waits) ∙ ap of_rows (sym e)) ∙ f.1);
  all = all;
}

-- what an operator took is read of what its inputs would give
pub node_reads : (size : ℕ) (past : Past (List Cells)) (full : ℕ → ℕ → List Item) (op : Op) (t : Told) (d : Desk) (inputs : ℕ → Tree)
    → IsLinked size past (Node op t d inputs) → IsFlow past full (Node op t d inputs) → ReadsAll t (λ i. whole full (inputs i))
node_reads size past full op t d inputs l w i =
    let is = whole_of size past full (inputs i) (l.1 i) (λ g c h. w g c (i, h)) in
    reads_of (t.taken i) (waiting op t d i) (gave_of (inputs i)) (t.ended i) (whole full (inputs i)) (l.0.taken i) is.front
    (λ e. (let q = l.0.ended i e in ap of_rows (sym q.1) ∙ is.all q.0))

pub gives : (size : ℕ) (past : Past (List Cells)) (full : ℕ → ℕ → List Item) (t : Tree) → IsLinked size past t → IsFlow past full t → Gives full (form t) (whole full t)
gives size past full Nothing l w = refl
gives size past full (Files all files gave unread) l w = refl
gives size past full (Inlet g c gave unread over) l w = refl
gives size past full (Node op t d inputs) l w =
    (t, λ i. whole full (inputs i), l.0.split, node_reads size past full op t d inputs l w, λ i. gives size past full (inputs i) (l.1 i) (λ g c h. w g c (i, h)), refl)

-- ------------------------------------------------------------ lists by place

all_give : (full : ℕ → ℕ → List Item) (F : ℕ → List Item) (d : Seed) (ss : List Seed) (at : ℕ)
    → ((i : ℕ) → i < length ss → (c : ℕ) × Gives full (form ((get_or ss i d).tree c)) (F (at + i))) → AllGive full ss (map F (numbers_from at (length ss)))
all_give full F d [] at h = tt
all_give full F d (s ∷ ss) at h = (
  (let r = h 0 (omega arith) in (r.0, subst (λ (n : ℕ). Gives full (form (s.tree r.0)) (F n)) (add-zero at) r.1)),
  all_give full F d ss (at + 1) (λ i l. (let r = h (suc i) (omega arith) in (r.0, subst (λ (n : ℕ). Gives full (form ((get_or ss i d).tree r.0)) (F n)) (let e : at + suc i ≡ at + 1 + i = omega arith in e) r.1))),
)

map_length : (F : ℕ → List Item) (at n : ℕ) → length (map F (numbers_from at n)) ≡ n
map_length F at zero = refl
map_length F at (suc n) = ap suc (map_length F (at + 1) n)

same_map : (F G : ℕ → List Item) (at n : ℕ) → ((i : ℕ) → i < n → F (at + i) ≡ G (at + i)) → map F (numbers_from at n) ≡ map G (numbers_from at n)
same_map F G at zero h = refl
same_map F G at (suc n) h =
    ap (λ x. x ∷ map F (numbers_from (at + 1) n)) (subst (λ (k : ℕ). F k ≡ G k) (add-zero at) (h 0 (omega arith)))
    ∙ ap (λ xs. G at ∷ xs) (same_map F G (at + 1) n (λ i l. subst (λ (k : ℕ). F k ≡ G k) (let e : at + suc i ≡ at + 1 + i = omega arith in e) (h (suc i) (omega arith))))

weighs : (w : Item → ℕ) (F : ℕ → List Item) (at n : ℕ) → sum_by w (concat (map F (numbers_from at n))) ≡ sum_below n (λ i. sum_by w (F (at + i)))
weighs w F at zero = refl
weighs w F at (suc n) =
    let a = sum_by-append w (F at) (concat (map F (numbers_from (at + 1) n))) in
    let b = weighs w F (at + 1) n in
    let c = sums_front n (λ i. sum_by w (F (at + i))) in
    let d : sum_by w (F (at + 0)) ≡ sum_by w (F at) = ap (λ (x : ℕ). sum_by w (F x)) (add-zero at) in
    let e : sum_below n (λ i. sum_by w (F (at + 1 + i))) ≡ sum_below n (λ i. sum_by w (F (at + suc i))) = sums_same n (λ i. sum_by w (F (at + 1 + i))) (λ i. sum_by w (F (at + suc i))) (λ i l. ap (λ (x : ℕ). sum_by w (F x)) (let q : at + 1 + i ≡ at + suc i = omega arith in q)) in
    omega arith

weighs_all : (w : Item → ℕ) (F : ℕ → List Item) (n : ℕ) → sum_by w (concat (map F (numbers n))) ≡ sum_below n (λ i. sum_by w (F i))
weighs_all w F n = weighs w F 0 n ∙ sums_same n (λ i. sum_by w (F (0 + i))) (λ i. sum_by w (F i)) (λ i l. ap (λ (x : ℕ). sum_by w (F x)) (zero-add i))

-- ------------------------------------------------------------ a reached state

module _ (f : Doing) (are : AreOperators f) (hashing : IsHashing f) (p : Plan) (wide : HasChannels p)
    (size limit : ℕ) (entries : List Entry) (s : State) (full : ℕ → ℕ → List Item)
    (reached : IsReached (shape p) size limit (start_of f p limit) entries s) (wholes : AreFull (shape p) s (deal_of f p) full) where
  abbrev start : State
  start = start_of f p limit

  tree_gives : (u : ℕ) → Gives full (form (the_task start.tasks u).tree) (whole full (tree_in s u))
  tree_gives u =
      let starts = is_start f are p size limit in
      let senders = are_senders f are hashing p wide in
      let w = flows (shape p) (is_shape p) size limit start s entries starts reached (deal_of f p) senders full wholes u in
      subst (λ (x : Form). Gives full x (whole full (tree_in s u))) (reached.form u) (gives size (past_in s u) full (tree_in s u) (reached.task u).linked w)

  -- what partition i of a stage would give
  abbrev given_by : List Top → ℕ → List Item
  given_by before i = whole full (tree_in s (tasks_before f before + i))

  stage_gives : (before after : List Top) (t : Top) → all_tops p ≡ before ++ t ∷ after → AllGive full (seeds_of f t) (map (given_by before) (numbers (length (seeds_of f t))))
  stage_gives before after t e = all_give full (given_by before) (leaf Nothing) (seeds_of f t) 0 (λ i l. (
    consumers_before f before t i,
    (let r = placed f are p before after t e i l in
        let g = tree_gives (tasks_before f before + i) in
        let h = subst (λ (k : Task). Gives full (form k.tree) (given_by before i)) r.task g in
        subst (λ (n : ℕ). Gives full (form ((get_or (seeds_of f t) i (leaf Nothing)).tree (consumers_before f before t i))) (given_by before n)) (sym (zero-add i)) h),
  ))

  run_at : (w : Item → ℕ) (g : ℕ) → sum_below (width (shape p) g) (λ c. sum_by w (full g c)) ≡ sum_below (length (shape p).tasks) (λ u. cond (is_group (task_at (shape p) u).sends g) (sum_by w (whole full (tree_in s u))) 0)
  run_at = exchanged (shape p) (is_shape p) size limit start s entries (is_start f are p size limit) reached (deal_of f p) (are_senders f are hashing p wide) full wholes

  pub fed_at : (before after : List Top) (t : Top) → all_tops p ≡ before ++ t ∷ after → 0 < t.stage → IsFed f full t
  fed_at before after t e l0 =
      let n = length (seeds_of f t) in
      let xs = map (given_by before) (numbers n) in
      let m : length xs ≡ n = map_length (given_by before) 0 n in
      let v : width (shape p) t.stage ≡ width_by t.way n = (stage_is f are p before after t e).1 in
      record {
        wholes = xs;
        given = stage_gives before after t e;
        shared = λ w. (
            let a = weighs_all w (full t.stage) (width_by t.way (length xs)) in
            let b : width_by t.way (length xs) ≡ width (shape p) t.stage = ap (width_by t.way) m ∙ sym v in
            a ∙ ap (λ (x : ℕ). sum_below x (λ c. sum_by w (full t.stage c))) b ∙ run_at w t.stage ∙ feeds f are p before after t e l0 (λ u. sum_by w (whole full (tree_in s u))) ∙ sym (weighs_all w (given_by before) n));
        own = λ w. ap (channels full t.stage) m ∙ same_map (full t.stage) (given_by before) 0 n (λ i k. (
            let o = only_sender f are p before after t e l0 w i k in
            let q = sent_alone (shape p) (is_shape p) size limit start s entries (is_start f are p size limit) reached (deal_of f p) (are_senders f are hashing p wide) full wholes (tasks_before f before + i) t.stage i o in
            ap (full t.stage) (zero-add i) ∙ q ∙ ap (given_by before) (sym (zero-add i))));
        ordered = λ one c l. (
            let z : n ≡ 1 = sym m ∙ one in
            let o = lone_sender f are p before after t e l0 z 0 (omega arith) in
            let i : c < width (shape p) t.stage = (let y : width_by t.way (length xs) ≡ width_by t.way n = ap (width_by t.way) m in omega arith) in
            let q = sent_in_order (shape p) (is_shape p) size limit start s entries (is_start f are p size limit) reached (deal_of f p) (are_senders f are hashing p wide) full wholes (tasks_before f before + 0) t.stage o c i in
            subst (IsSubsequence (full t.stage c)) (sym (ap (λ (x : ℕ). concat (map (given_by before) (numbers x))) z ∙ append-nil (given_by before 0))) q);
        hashed = λ columns k w c h. passed_at (shape p) (is_shape p) size limit start s entries (is_start f are p size limit) reached (deal_of f p) (are_senders f are hashing p wide) full wholes
            (is_at (f.channel columns k) c) t.stage c (let z : width_by t.way n ≡ k = ap (λ (y : Way). width_by y n) w in omega arith)
            (λ u split g q. (
            let o = sender_of f are p before after t e u g in
            let r = placed f are p before after t e o.0 o.1 in
            let d : deal_of f p u ≡ hash_deal (f.channel columns k) = ap (deal_of f p) o.2 ∙ deal_is f p before after t o.0 e o.1 ∙ ap (λ (y : Way). deal_by f y o.0) w in
            let z : Some split ≡ Some (hash_split (f.channel columns k) k) = sym q ∙ ap (λ (x : ℕ). (the_task start.tasks x).split) o.2 ∙ ap (λ (x : Task). x.split) r.task ∙ ap (λ (y : Way). split_by f y o.0) w in
            let x : split ≡ hash_split (f.channel columns k) k = cc in
            subst (λ (y : Split). SendsOnly (is_at (f.channel columns k) c) c y (deal_of f p u)) (sym x) (subst (λ (y : Deal). SendsOnly (is_at (f.channel columns k) c) c (hash_split (f.channel columns k) k) y) (sym d) (hash_only (f.channel columns k) k c))));
      }

  -- all exchanges are fed
  fed_from : (before ts : List Top) → 0 < length before → all_tops p ≡ before ++ ts → AllFed f full ts
  fed_from before [] l e = tt
  fed_from before (t ∷ ts) l e = (
    fed_at before ts t e (let k : t.stage ≡ length before = (stage_is f are p before ts t e).0 in omega arith),
    fed_from (before ++ t ∷ []) ts (let k = length-append before (t ∷ []) in omega arith) (e ∙ sym (append_assoc before (t ∷ []) ts)),
  )

  pub fed : AllFed f full (tops p 1 0)
  fed = fed_from (top 0 0 p Written ∷ []) (tops p 1 0) (let l : 0 < 1 = omega arith in l) refl

  -- and the partitions of the plan itself are the first tasks
  pub root_gives : AllGive full (partitions_of f p 1 0) (map (λ (i : ℕ). whole full (tree_in s i)) (numbers (length (partitions_of f p 1 0))))
  root_gives = subst (AllGive full (partitions_of f p 1 0)) (same_map (given_by []) (λ i. whole full (tree_in s i)) 0 (length (partitions_of f p 1 0)) (λ i l. ap (λ (u : ℕ). whole full (tree_in s u)) (zero-add (0 + i)))) (stage_gives [] (tops p 1 0) (top 0 0 p Written) refl)
