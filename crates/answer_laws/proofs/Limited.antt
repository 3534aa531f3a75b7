-- A plan with a limit on top: what its root gave.
use Rattle.std.specs.Prelude.{IsSorted}
use Rattle.std.proofs.lemmas.Bool.{false≢true}
use Rattle.std.proofs.Common.{ℕ, ◌≡◌, refl, sym, ap, ◌∙◌, subst, List, [], ◌∷◌, length, get_or, map, Bool, true, false, Option, arith}
use Rattle.dfx_value.specs.Rows.{row_cmp}
use Rattle.dfx_value.specs.declared.rows.SortKey.{SortKey}
use Rattle.run_journal.specs.declared.entry.Entry.{Entry}
use Rattle.core_frame.specs.Frame.{place_of}
use Rattle.core_frame.specs.declared.place.Place.TheVariants.{Done}
use Rattle.physical_plan.specs.declared.plan.Plan.{Plan}
use Rattle.physical_plan.specs.declared.plan.Plan.TheOpen.{Plan-F}
use Rattle.physical_plan.specs.declared.plan.Plan.TheViews.{roll-Plan}
use Rattle.plan_shape.specs.Counts.{counts_of}
use Rattle.plan_shape.specs.Layout.{shape}
use Rattle.plan_shape.proofs.Lawful.{is_shape}
use Rattle.history_laws.specs.Histories.{Past}
use Rattle.logical_plan.specs.Items.{Cells, Item, rows}
use Rattle.logical_plan.specs.Allowed.{Allows}
use Rattle.tree_laws.specs.Operators.{Told, Op}
use Rattle.tree_laws.specs.OperatorKinds.{limit_op}
use Rattle.tree_laws.specs.Trees.{Desk, Tree, Nothing, Files, Inlet, Node, Form, NoForm, NodeForm, form, poll, Ends, gave_of}
use Rattle.tree_laws.specs.Linked.{whole, IsLinked, IsFlow}
use Rattle.tree_laws.specs.Tasks.{Task}
use Rattle.tree_laws.specs.Runs.{State, the_task, IsReached}
use Rattle.tree_laws.proofs.Wholes.{whole_of}
use Rattle.content_laws.specs.Whole.{past_in, tree_in, AreFull}
use Rattle.content_laws.proofs.Flows.{flows}
use Rattle.plan_task_laws.specs.Trees.{Doing, Seed, leaf, node, passing, partitions_of}
use Rattle.plan_task_laws.specs.Tops.{Top, Written, top, tops}
use Rattle.plan_task_laws.specs.Starts.{start_of}
use Rattle.plan_task_laws.specs.Reading.{AreOperators}
use Rattle.plan_task_laws.specs.Placed.{consumers_before, deal_of, IsHashing, HasChannels}
use Rattle.plan_task_laws.proofs.Begun.{is_start}
use Rattle.plan_task_laws.proofs.Laws.{grown, topped}
use Rattle.plan_task_laws.proofs.Placed.{placed}
use Rattle.plan_task_laws.proofs.Senders.{are_senders}
use Rattle.plan_task_laws.proofs.Widths.{width_counts}
use Rattle.sort_laws.proofs.Roots.{limit_root}
use Rattle.answer_laws.specs.Gives.{Gives, AllGive}
use Rattle.answer_laws.specs.Fed.{AllFed}
use Rattle.answer_laws.specs.Kept.{IsKept}
use Rattle.content_laws.specs.Bags.{Alike}
use Rattle.answer_laws.proofs.Feeds.{gives, fed}
use Rattle.answer_laws.proofs.Recursion.{recursion}
use Rattle.answer_laws.proofs.Answer.{root_out}

-- a tree of the form of an operator over one input
abbrev op_or : Op → Form → Op
op_or d (NodeForm op inputs) = op
op_or d _ = d

abbrev input_or : Form → ℕ → Form
input_or (NodeForm op inputs) i = inputs i
input_or _ i = NoForm

abbrev is_node : Form → Bool
is_node (NodeForm op inputs) = true
is_node _ = false

record IsOver (o : Op) (u x : Tree) : Type 0 where
  pub told : Told
  pub desk : Desk
  pub inputs : ℕ → Tree
  pub is : x ≡ Node o told desk inputs
  pub below : form (inputs 0) ≡ form u

over : (o : Op) (u x : Tree) → form x ≡ form (node o (u ∷ [])) → IsOver o u x
over o u Nothing e = absurd (false≢true (ap is_node e))
over o u (Files all files gave unread) e = absurd (false≢true (ap is_node e))
over o u (Inlet g c gave unread done) e = absurd (false≢true (ap is_node e))
over o u (Node op t d inputs) e = record {
  told = t;
  desk = d;
  inputs = inputs;
  is = ap (λ (p : Op). Node p t d inputs) (ap (op_or o) e);
  below = ap (λ (y : Form). input_or y 0) e;
}

lone : (xs : List Seed) → length xs ≡ 1 → (x : Seed) × (xs ≡ x ∷ [])
lone [] e = absurd (omega arith)
lone (x ∷ []) e = (x, refl)
lone (x ∷ y ∷ xs) e = absurd (omega arith)

module _ (f : Doing) (q : Plan) (skip : ℕ) (fetch : Option ℕ)
    (limits : (c : ℕ) → f.operator (Plan-F.Limit q skip fetch) 1 c ≡ limit_op skip fetch) (one : (counts_of q).parts ≡ 1) where
  abbrev p : Plan
  p = roll-Plan (Plan-F.Limit q skip fetch)

  input : (x : Seed) × (partitions_of f q 1 0 ≡ x ∷ [])
  input = lone (partitions_of f q 1 0) (width_counts f q 1 0 ∙ one)

  -- the one partition
  abbrev seed : Seed
  seed = passing (f.operator (Plan-F.Limit q skip fetch) 1) input.0

  seed_is : partitions_of f p 1 0 ≡ seed ∷ []
  seed_is = ap (λ (g : ℕ → ℕ → List Seed). g 1 0) (grown f (Plan-F.Limit q skip fetch)) ∙ ap (map (passing (f.operator (Plan-F.Limit q skip fetch) 1))) input.1

  tops_are : tops p 1 0 ≡ tops q 1 0
  tops_are = ap (λ (g : ℕ → ℕ → List Top). g 1 0) (topped (Plan-F.Limit q skip fetch))

  pub one_part : (counts_of p).parts ≡ 1
  one_part = sym (width_counts f p 1 0) ∙ ap length seed_is

  -- a tree of the limit's form that has ended
  limit_tree : (size : ℕ) (past : Past (List Cells)) (full : ℕ → ℕ → List Item) → AllFed f full (tops q 1 0)
      → (holds : Plan → List (List Item) → Type 0) → IsKept f holds → (order : List SortKey) (items : List Item)
      → ((x : List Item) → holds q (x ∷ []) → Alike x items × IsSorted (row_cmp order) (rows x))
      → (c : ℕ) (x : Tree) → form x ≡ form (seed.tree c) → IsLinked size past x → IsFlow past full x → poll size x ≡ Ends → Allows order skip fetch items (gave_of x)
  limit_tree size past full fed_all holds kept order items tells c x e linked flow ends =
      let o = over (limit_op skip fetch) (input.0.tree c) x (e ∙ ap (λ (op : Op). form (node op (input.0.tree c ∷ []))) (limits c)) in
      let k = subst (IsLinked size past) o.is linked in
      let w : IsFlow past full (o.inputs 0) = (λ g d h. (subst (IsFlow past full) o.is flow) g d (0, h)) in
      let y = whole full (o.inputs 0) in
      let g : Gives full (form (input.0.tree c)) y = subst (λ (z : Form). Gives full z y) o.below (gives size past full (o.inputs 0) (k.1 0) w) in
      let a : AllGive full (partitions_of f q 1 0) (y ∷ []) = subst (λ ss. AllGive full ss (y ∷ [])) (sym input.1) ((c, g), tt) in
      let t = tells y (recursion f full holds kept q 1 0 fed_all (y ∷ []) a) in
      subst (Allows order skip fetch items) (sym (ap gave_of o.is))
      (limit_root order skip fetch size past full o.told o.desk o.inputs items k (whole_of size past full (o.inputs 0) (k.1 0) w) (subst (λ z. poll size z ≡ Ends) o.is ends) t.0 t.1)

  -- in a state in which the root has finished
  module _ (are : AreOperators f) (hashing : IsHashing f) (wide : HasChannels p) (size limit : ℕ) (entries : List Entry) (s : State) (full : ℕ → ℕ → List Item)
      (reached : IsReached (shape p) size limit (start_of f p limit) entries s) (wholes : AreFull (shape p) s (deal_of f p) full) where
    abbrev number : ℕ
    number = consumers_before f [] (top 0 0 p Written) 0

    root_form : form (tree_in s 0) ≡ form (seed.tree number)
    root_form =
        let r = placed f are p [] (tops p 1 0) (top 0 0 p Written) refl 0 (let e = ap length seed_is in omega arith) in
        reached.form 0 ∙ ap (λ (k : Task). form k.tree) r.task ∙ ap (λ (ss : List Seed). form ((get_or ss 0 (leaf Nothing)).tree number)) seed_is

    pub limited : (holds : Plan → List (List Item) → Type 0) → IsKept f holds → (order : List SortKey) (items : List Item)
        → ((x : List Item) → holds q (x ∷ []) → Alike x items × IsSorted (row_cmp order) (rows x))
        → place_of s.run.frame 0 ≡ Done → Allows order skip fetch items (the_task s.tasks 0).output
    limited holds kept order items tells done =
        let o = root_out f are hashing p wide size limit entries s full reached wholes one_part done in
        let flow = flows (shape p) (is_shape p) size limit (start_of f p limit) s entries (is_start f are p size limit) reached (deal_of f p) (are_senders f are hashing p wide) full wholes 0 in
        let d = subst (AllFed f full) tops_are (fed f are hashing p wide size limit entries s full reached wholes) in
        subst (Allows order skip fetch items) (sym o.0) (limit_tree size (past_in s 0) full d holds kept order items tells number (tree_in s 0) root_form (reached.task 0).linked flow o.1)
