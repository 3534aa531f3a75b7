-- The laws, from the recursion and the trees of a run.
use Rattle.std.specs.List.{AllPass}
use Rattle.std.proofs.Common.{ℕ, ◌<◌, ◌≡◌, inl, inr, refl, sym, ◌∙◌, subst, List, [], ◌∷◌, Bool, true, false, Some, cond, arith}
use Rattle.std.proofs.lemmas.List.Sums.{sum_by-cons}
use Rattle.dfx_value.specs.declared.fault.ItemFault.{ItemFault}
use Rattle.run_journal.specs.declared.cause.Cause.{Cause}
use Rattle.run_journal.specs.declared.entry.Entry.{Entry}
use Rattle.run_journal.specs.declared.entry.EntryKind.TheVariants.{Failed}
use Rattle.core_frame.specs.Step.{Fail}
use Rattle.history_laws.specs.Histories.{Past, Reply}
use Rattle.physical_plan.specs.declared.plan.Plan.{Plan}
use Rattle.plan_shape.specs.Layout.{shape}
use Rattle.logical_plan.specs.declared.query.Query.{Query}
use Rattle.logical_plan.specs.Items.{Cells, Item, faults, concat}
use Rattle.logical_plan.specs.Body.{Tables, all_faults}
use Rattle.tree_laws.specs.Trees.{Tree, Asks, poll, form}
use Rattle.tree_laws.specs.Linked.{IsLinked, IsFlow}
use Rattle.tree_laws.specs.Runs.{State, state_step, state_replay, IsReached}
use Rattle.content_laws.specs.Whole.{tree_in, AreFull}
use Rattle.plan_task_laws.specs.Trees.{Doing, partitions_of}
use Rattle.plan_task_laws.specs.Tops.{tops}
use Rattle.plan_task_laws.specs.Starts.{start_of}
use Rattle.plan_task_laws.specs.Sources.{files_of, places_of}
use Rattle.plan_task_laws.specs.Placed.{deal_of, HasChannels}
use Rattle.join_laws.proofs.Items.{fails, pass_weigh, pass_from}
use Rattle.answer_laws.specs.Gives.{AllGive}
use Rattle.answer_laws.specs.Fed.{AllFed}
use Rattle.answer_laws.specs.Meant.{is_told}
use Rattle.physical_build.specs.Build.{build}
use Rattle.answer_laws.specs.Distincts.{has_distincts}
use Rattle.answer_laws.proofs.Recursion.{recursion}
use Rattle.part_laws.specs.Phased.{the_phases}
use Rattle.part_laws.proofs.Lists.{parts}
use Rattle.plan_props.specs.Meets.{Hashing}
use Rattle.finished_laws.specs.Sound.{on_properties}
use Rattle.finished_laws.specs.Engine.{IsEngineBy}
use Rattle.physical_plan.specs.Everywhere.{erased, everywhere}
use Rattle.planned_laws.specs.Finished.{IsFinished}
use Rattle.node_laws.specs.Tests.{needs_in_range}
use Rattle.finished_laws.specs.Known.{is_known}
use Rattle.finished_laws.proofs.Channels.{channels}
use Rattle.kind_laws.specs.Tables.{FaultsAreNamed}
use Rattle.fault_laws.specs.Named.{EndsAt}
use Rattle.fault_laws.proofs.Named.{named}
use Rattle.fault_laws.proofs.Planned.{told_top}
use Rattle.fault_laws.specs.Met.{met_of}
use Rattle.fault_laws.specs.Trees.{Meets, LeavesPass}
use Rattle.fault_laws.specs.Found.{Found, IsIn, Ends, is_of_fault, IsToldTop}
use Rattle.fault_laws.proofs.Meets.{bads, badly, Holds, kept}
use Rattle.fault_laws.proofs.Bodies.{query_meets}
use Rattle.fault_laws.proofs.Fails.{PollFound, found}
use Rattle.fault_laws.proofs.Runs.{tasks_meet}
use Rattle.fault_laws.proofs.Chosen.{is_in, found_in, all_in}
use Rattle.fault_laws.proofs.Causes as causes

module _ (hash : Hashing) (f : Doing) (tables : Tables) (many : ℕ) (engine : IsEngineBy hash f tables many the_phases) (full : ℕ → ℕ → List Item) where
  clear : (test : ItemFault → Bool) (p : Plan) → is_told tables (on_properties tables many) p ≡ true → badly test (met_of tables p) ≡ 0 → (k s : ℕ) → AllFed f full (tops p k s)
      → (xs : List (List Item)) → AllGive full (partitions_of f p k s) xs → badly test (faults (concat xs)) ≡ 0
  clear test p told m k s fed xs g = bads test (concat xs) ∙ (recursion f full (Holds hash f tables many engine test) (kept hash f tables many engine test) p k s fed xs g).1 told m

  pub pass : (test : ItemFault → Bool) (p : Plan) → is_told tables (on_properties tables many) p ≡ true → AllPass test (met_of tables p) → (k s : ℕ) → AllFed f full (tops p k s)
      → (xs : List (List Item)) → AllGive full (partitions_of f p k s) xs → AllPass test (faults (concat xs))
  pass test p told m k s fed xs g = pass_from test (faults (concat xs)) (clear test p told (pass_weigh test (met_of tables p) m) k s fed xs g)

  pub one : (p : Plan) → is_told tables (on_properties tables many) p ≡ true → (k s : ℕ) → AllFed f full (tops p k s)
      → (xs : List (List Item)) → AllGive full (partitions_of f p k s) xs → (fault : ItemFault) → IsIn fault (faults (concat xs)) → IsIn fault (met_of tables p)
  one p told k s fed xs g fault h =
      let mets = met_of tables p in
      found_in mets fault (by (faults (concat xs)) h (clear (is_in mets) p told (all_in mets) k s fed xs g))
    where
      passes : (b : Bool) → cond {A = ℕ} b 0 1 ≡ 0 → b ≡ true
      passes true e = refl
      passes false e = absurd (omega (arith, e))

      by : (gs : List ItemFault) → IsIn fault gs → badly (is_in (met_of tables p)) gs ≡ 0 → is_in (met_of tables p) fault ≡ true
      by [] h e = absurd h
      by (g ∷ gs) h e =
          let t = is_in (met_of tables p) in
          let a = sum_by-cons (fails t) g gs in
          let b : fails t g ≡ 0 = omega arith in
          let c : badly t gs ≡ 0 = omega arith in
          elim h [
            | inl q ↦ subst (λ x. t x ≡ true) (sym q) (passes (t g) b)
            | inr r ↦ by gs r c
          ]

pub built : (tables : Tables) (files : List ℕ) (n : ℕ) (q : Query) (p : Plan) → has_distincts tables q.body ≡ true → erased p ≡ erased (build q files n) → met_of tables p ≡ all_faults tables q.body
built tables files n q p e t = query_meets the_phases parts tables files n q p e t

pub trees : (hash : Hashing) (f : Doing) (tables : Tables) (many : ℕ) → IsEngineBy hash f tables many the_phases → (test : ItemFault → Bool) (p : Plan) → HasChannels p → IsToldTop tables many p → AllPass test (met_of tables p)
    → (size limit : ℕ) (entries : List Entry) (s : State) (full : ℕ → ℕ → List Item) → IsReached (shape p) size limit (start_of f p limit) entries s → AreFull (shape p) s (deal_of f p) full
    → (u : ℕ) → Meets test full (form (tree_in s u))
trees hash f tables many engine test p wide told m size limit entries s full reached wholes u =
    tasks_meet hash f tables many engine full test p wide told (pass_weigh test (met_of tables p) m) size limit entries s reached wholes u

pub failed : (met : ItemFault → Bool) (named : ℕ → ItemFault → Bool) (size : ℕ) (past : Past (List Cells)) (full : ℕ → ℕ → List Item) (t : Tree)
    → IsLinked size past t → IsFlow past full t → Meets met full (form t) → LeavesPass named t
    → (cause : Cause) (after : Reply (List Cells) → Tree) → poll size t ≡ Asks (Fail cause) after → Found met named cause
failed met named size past full t l w m h cause after e = subst (PollFound met named) e (found met named size past full t l w m h)

pub meant : (hash : Hashing) (f : Doing) (tables : Tables) (many : ℕ) → IsEngineBy hash f tables many the_phases → (q : Query) → has_distincts tables q.body ≡ true
    → (files : List ℕ) → is_known tables files q.body ≡ true → 0 < many → (p : Plan) → IsFinished (build q files many) q.order many p → everywhere needs_in_range p ≡ true
    → (size limit steps : ℕ) (entries : List Entry) (s next : State) (e : Entry) (cause : Cause)
    → state_replay (shape p) size steps (Some (start_of f p limit)) entries ≡ Some s → state_step (shape p) size steps s e ≡ Some next
    → e.kind ≡ Failed cause → is_of_fault cause ≡ true → Ends (all_faults tables q.body) (files_of f p 0) cause
meant hash f tables many engine q distincts files known more p fin ranges size limit steps entries s next e cause replay step k of =
    subst (λ (ms : List ItemFault). Ends ms (files_of f p 0) cause) (built tables files many q p distincts fin.tree)
    (causes.ends hash f tables many engine p (channels (build q files many) p q.order many more fin) (told_top the_phases engine.lists tables q distincts files known many more p fin ranges)
    size limit steps entries s next e cause replay step k of)

pub at_file : (hash : Hashing) (f : Doing) (tables : Tables) (many : ℕ) → IsEngineBy hash f tables many the_phases → FaultsAreNamed tables → (q : Query) → has_distincts tables q.body ≡ true
    → (files : List ℕ) → is_known tables files q.body ≡ true → 0 < many → (p : Plan) → IsFinished (build q files many) q.order many p → everywhere needs_in_range p ≡ true
    → (size limit steps : ℕ) (entries : List Entry) (s next : State) (e : Entry) (cause : Cause)
    → state_replay (shape p) size steps (Some (start_of f p limit)) entries ≡ Some s → state_step (shape p) size steps s e ≡ Some next
    → e.kind ≡ Failed cause → is_of_fault cause ≡ true → EndsAt (all_faults tables q.body) (places_of p) cause
at_file hash f tables many engine are q distincts files known more p fin ranges size limit steps entries s next e cause replay step k of =
    named f tables engine.answering.items are p (all_faults tables q.body) cause
    (meant hash f tables many engine q distincts files known more p fin ranges size limit steps entries s next e cause replay step k of)
