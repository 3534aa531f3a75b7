-- Where the root has finished, its output is what the plan's one partition would give.
use Rattle.std.proofs.Common.{ℕ, suc, ◌+◌, ◌<◌, ◌≡◌, inl, inr, refl, sym, ap, ◌∙◌, subst, List, [], ◌∷◌, length, map, false, Option, Some, None, arith}
use Rattle.std.proofs.lemmas.List.{length-append}
use Rattle.std.proofs.lemmas.Bool.{false≢true}
use Rattle.run_journal.specs.declared.entry.Entry.{Entry}
use Rattle.core_frame.specs.Frame.{place_of}
use Rattle.core_frame.specs.declared.place.Place.TheVariants.{Done}
use Rattle.physical_plan.specs.declared.plan.Plan.{Plan}
use Rattle.plan_shape.specs.Counts.{counts_of}
use Rattle.plan_shape.specs.Layout.{shape}
use Rattle.physical_plan.specs.Numbers.{numbers}
use Rattle.plan_shape.proofs.Lawful.{is_shape}
use Rattle.logical_plan.specs.Items.{Item, of_rows}
use Rattle.tree_laws.specs.Trees.{poll, Ends, gave_of}
use Rattle.tree_laws.specs.Linked.{whole}
use Rattle.tree_laws.specs.Tasks.{Split, Task, IsOut}
use Rattle.tree_laws.specs.Runs.{State, the_task, IsReached}
use Rattle.tree_laws.proofs.Wholes.{whole_of}
use Rattle.content_laws.specs.Whole.{past_in, tree_in, AreFull}
use Rattle.content_laws.proofs.Flows.{flows}
use Rattle.plan_task_laws.specs.Trees.{Doing, Seed, partitions_of}
use Rattle.plan_task_laws.specs.Tops.{Written, top, tops}
use Rattle.plan_task_laws.specs.Starts.{tasks_by, tasks_in, start_of, split_by, consumers_in}
use Rattle.plan_task_laws.specs.Reading.{AreOperators}
use Rattle.plan_task_laws.specs.Placed.{deal_of, IsHashing, HasChannels}
use Rattle.plan_task_laws.proofs.Begun.{is_start}
use Rattle.plan_task_laws.proofs.Placed.{placed}
use Rattle.plan_task_laws.proofs.Senders.{are_senders}
use Rattle.plan_task_laws.proofs.Widths.{width_counts}
use Rattle.answer_laws.specs.Kept.{IsKept}
use Rattle.answer_laws.proofs.Feeds.{fed, root_gives}
use Rattle.answer_laws.proofs.Recursion.{recursion}

tasks_long : (split : ℕ → Option Split) (i c : ℕ) (ss : List Seed) → length (tasks_by split i c ss) ≡ length ss
tasks_long split i c [] = refl
tasks_long split i c (s ∷ ss) = ap suc (tasks_long split (i + 1) (c + length s.consumers) ss)

module _ (f : Doing) (are : AreOperators f) (hashing : IsHashing f) (p : Plan) (wide : HasChannels p)
    (size limit : ℕ) (entries : List Entry) (s : State) (full : ℕ → ℕ → List Item)
    (reached : IsReached (shape p) size limit (start_of f p limit) entries s) (wholes : AreFull (shape p) s (deal_of f p) full)
    (one : (counts_of p).parts ≡ 1) where
  count : length (partitions_of f p 1 0) ≡ 1
  count = width_counts f p 1 0 ∙ one

  has_task : 0 < length (shape p).tasks
  has_task =
      let a = (is_start f are p size limit).long in
      let b = tasks_long (split_by f Written) 0 0 (partitions_of f p 1 0) in
      let c = length-append (tasks_by (split_by f Written) 0 0 (partitions_of f p 1 0)) (tasks_in f (0 + length (consumers_in (partitions_of f p 1 0))) (tops p 1 0)) in
      let d = count in
      omega arith

  writes : (the_task s.tasks 0).split ≡ None
  writes =
      let r = placed f are p [] (tops p 1 0) (top 0 0 p Written) refl 0 (let d = count in omega arith) in
      reached.split 0 ∙ ap (λ (k : Task). k.split) r.task

  out_of : (k : Task) (o : Option Split) → o ≡ None → IsOut (past_in s 0) k o → (k.output ≡ gave_of k.tree) × (k.leaving ≡ false)
  out_of k None e h = (h.0, h.2)
  out_of k (Some x) e h = cc

  -- the root's tree has ended, and its output is what it gave
  pub root_out : place_of s.run.frame 0 ≡ Done → ((the_task s.tasks 0).output ≡ gave_of (tree_in s 0)) × (poll size (tree_in s 0) ≡ Ends)
  root_out d =
      let o = out_of (the_task s.tasks 0) (the_task s.tasks 0).split writes (reached.task 0).out in (
        o.0,
        elim (reached.delivered.done 0 has_task d) [
          | inl h ↦ absurd (false≢true (sym o.1 ∙ h))
          | inr h ↦ h.1
        ],
      )

  pub root_whole : place_of s.run.frame 0 ≡ Done → of_rows (the_task s.tasks 0).output ≡ whole full (tree_in s 0)
  root_whole d =
      let starts = is_start f are p size limit in
      let flow = flows (shape p) (is_shape p) size limit (start_of f p limit) s entries starts reached (deal_of f p) (are_senders f are hashing p wide) full wholes 0 in
      let is = whole_of size (past_in s 0) full (tree_in s 0) (reached.task 0).linked flow in
      let o = root_out d in
      ap of_rows o.0 ∙ is.all o.1

  pub answers : (holds : Plan → List (List Item) → Type 0) → IsKept f holds → place_of s.run.frame 0 ≡ Done → holds p (of_rows (the_task s.tasks 0).output ∷ [])
  answers holds kept d =
      let g = root_gives f are hashing p wide size limit entries s full reached wholes in
      let h = recursion f full holds kept p 1 0 (fed f are hashing p wide size limit entries s full reached wholes) (map (λ (i : ℕ). whole full (tree_in s i)) (numbers (length (partitions_of f p 1 0)))) g in
      let e = ap (λ (n : ℕ). map (λ (i : ℕ). whole full (tree_in s i)) (numbers n)) count in
      subst (holds p) (e ∙ ap (λ xs. xs ∷ []) (sym (root_whole d))) h
