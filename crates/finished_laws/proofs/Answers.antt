-- What the partitions of sound plans tell, and the output of a plan of one partition.
use Rattle.std.specs.Prelude.{IsSorted}
use Rattle.std.proofs.Common.{ℕ, ◌≡◌, subst, List, [], ◌∷◌, map, true, ◌&&◌}
use Rattle.std.proofs.lemmas.List.{append-nil}
use Rattle.dfx_value.specs.Rows.{row_cmp}
use Rattle.dfx_value.specs.declared.rows.SortKey.{SortKey}
use Rattle.plan_props.specs.Satisfies.{satisfies_order}
use Rattle.plan_props.specs.Meets.{Hashing}
use Rattle.plan_props.proofs.Sound.{order_sound}
use Rattle.physical_plan.specs.declared.plan.Plan.{Plan}
use Rattle.plan_shape.specs.Counts.{counts_of}
use Rattle.plan_shape.specs.Layout.{shape}
use Rattle.physical_plan.specs.Properties.{declared_of, props}
use Rattle.physical_plan.specs.Everywhere.{everywhere}
use Rattle.physical_plan.specs.Needs.{spread_needs, order_needs}
use Rattle.plan_shape.proofs.Lawful.{is_shape}
use Rattle.sort_laws.proofs.Rows.{sorted_from_order}
use Rattle.logical_plan.specs.Items.{Item, rows, of_rows}
use Rattle.logical_plan.specs.Body.{Tables}
use Rattle.tree_laws.specs.Runs.{State, the_task}
use Rattle.content_laws.specs.Bags.{Alike}
use Rattle.content_laws.proofs.Flows.{exist}
use Rattle.plan_task_laws.specs.Trees.{Doing, partitions_of}
use Rattle.plan_task_laws.specs.Tops.{tops}
use Rattle.plan_task_laws.specs.Starts.{start_of}
use Rattle.plan_task_laws.specs.Placed.{deal_of, HasChannels}
use Rattle.plan_task_laws.proofs.Begun.{is_start}
use Rattle.node_laws.specs.Nodes.{Stands}
use Rattle.node_laws.specs.Tests.{needs_in_range}
use Rattle.answer_laws.specs.Gives.{AllGive}
use Rattle.answer_laws.specs.Fed.{AllFed}
use Rattle.answer_laws.specs.Kept.{IsKept}
use Rattle.answer_laws.specs.Meant.{Phases, Tells, meaning_of, meant, is_told, is_whole}
use Rattle.answer_laws.specs.Parted.{Delivers}
use Rattle.answer_laws.specs.Finished.{IsFinishedRun}
use Rattle.answer_laws.proofs.Answer.{answers}
use Rattle.answer_laws.proofs.Recursion.{recursion}
use Rattle.answer_laws.proofs.Meaning.{Holds, kept, told_whole}
use Rattle.finished_laws.specs.Sound.{scans_fit, is_met, anyhow, is_sound, on_properties, IsAsDeclared}
use Rattle.finished_laws.specs.Engine.{IsEngineBy}
use Rattle.finished_laws.proofs.Hashes.{hashing_of}
use Rattle.finished_laws.proofs.Both.{everywhere_both}
use Rattle.finished_laws.proofs.Everywhere.{both_are}
use Rattle.finished_laws.proofs.Delivered as by_properties
use Rattle.finished_laws.proofs.Told as sound_plans
use Rattle.finished_laws.proofs.Standing.{standing as declared_stand}

-- a plan whose needs are met, in range, over fitting scans, and told but for its spread, is sound
pub is_sound_by : (tables : Tables) (n : ℕ) (p : Plan) → everywhere (spread_needs n) p ≡ true → everywhere order_needs p ≡ true → everywhere needs_in_range p ≡ true → everywhere (scans_fit tables) p ≡ true → is_told tables anyhow p ≡ true → is_sound tables n p ≡ true
is_sound_by tables n p s o r w t =
    both_are (everywhere (is_met tables n) p) (is_told tables anyhow p)
    (everywhere_both (spread_needs n) (λ z. order_needs z && (needs_in_range z && scans_fit tables z)) p s
    (everywhere_both order_needs (λ z. needs_in_range z && scans_fit tables z) p o (everywhere_both needs_in_range (scans_fit tables) p r w))) t

module _ (h : Hashing) (f : Doing) (tables : Tables) (n : ℕ) (phases : Phases) (engine : IsEngineBy h f tables n phases) where
  abbrev pub Standing : Plan → List (List Item) → Type 0
  Standing = IsAsDeclared h tables n

  pub standing : IsKept f Standing
  standing = declared_stand f tables n h engine.channels phases engine.answering engine.ordering engine.groups

  pub delivers : Delivers (on_properties tables n) Standing
  delivers = by_properties.delivers h engine.channels.hash tables n

  -- what is declared stands, and what can be told is told
  abbrev pub Means : Plan → List (List Item) → Type 0
  Means = Holds f tables (on_properties tables n) phases engine.answering engine.lists Standing standing delivers

  pub all_kept : IsKept f Means
  all_kept = kept f tables (on_properties tables n) phases engine.answering engine.lists Standing standing delivers

  pub tells : (full : ℕ → ℕ → List Item) (p : Plan) → is_sound tables n p ≡ true → (k s : ℕ) → AllFed f full (tops p k s)
      → (parts : List (List Item)) → AllGive full (partitions_of f p k s) parts → Tells phases (meaning_of tables p) parts
  tells full p sound k s fed parts gives = (recursion f full Means all_kept p k s fed parts gives).1 (sound_plans.told tables n p sound)

  pub stands : (full : ℕ → ℕ → List Item) (p : Plan) → is_sound tables n p ≡ true → (k s : ℕ) → AllFed f full (tops p k s)
      → (parts : List (List Item)) → AllGive full (partitions_of f p k s) parts → Stands h (declared_of p) (map rows parts)
  stands full p sound k s fed parts gives = (recursion f full Means all_kept p k s fed parts gives).0 sound

  pub one_tells : (p : Plan) (x : List Item) → is_sound tables n p ≡ true → is_whole (meaning_of tables p) ≡ true → Means p (x ∷ []) → Alike x (meant tables p)
  one_tells p x s w m = subst (λ xs. Alike xs (meant tables p)) (append-nil x) (told_whole phases (meaning_of tables p).groups (meant tables p) (x ∷ []) w (m.1 (sound_plans.told tables n p s)))

  pub one_sorts : (p : Plan) (x : List Item) (order : List SortKey) → is_sound tables n p ≡ true → satisfies_order (props p) order ≡ true → Means p (x ∷ []) → IsSorted (row_cmp order) (rows x)
  one_sorts p x order s e m = sorted_from_order order (rows x) (order_sound h (props p) order (map rows (x ∷ [])) e (m.0 s).meets 0)

  pub finished : (p : Plan) → HasChannels p → (counts_of p).parts ≡ 1 → (s : State) → IsFinishedRun f p s → Means p (of_rows (the_task s.tasks 0).output ∷ [])
  finished p wide one s run =
      let full = exist (shape p) (is_shape p) run.size run.limit (start_of f p run.limit) s run.entries (is_start f engine.operators p run.size run.limit) run.reached (deal_of f p) in
      answers f engine.operators (hashing_of h f engine.channels) p wide run.size run.limit run.entries s full.0 run.reached full.1 one Means all_kept run.done

  pub alike : (p : Plan) → HasChannels p → (counts_of p).parts ≡ 1 → is_sound tables n p ≡ true → is_whole (meaning_of tables p) ≡ true
      → (s : State) → IsFinishedRun f p s → Alike (of_rows (the_task s.tasks 0).output) (meant tables p)
  alike p wide one sound whole s run = one_tells p (of_rows (the_task s.tasks 0).output) sound whole (finished p wide one s run)
