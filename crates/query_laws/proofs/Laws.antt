-- From what a script is prepared to, to all that is said of every run of its plan.
use Rattle.std.specs.Prelude.{max}
use Rattle.std.proofs.Common.{ℕ, ◌≡◌, sym, ap, ◌∙◌, subst, List, [], ◌∷◌, ◌++◌, map, length, true, Some}
use Rattle.std.proofs.Math.Nat.{le-max_left, le-max_right}
use Rattle.run_journal.specs.declared.entry.Entry.{Entry}
use Rattle.run_journal.specs.declared.entry.EntryKind.TheVariants.{Failed}
use Rattle.run_journal.specs.declared.cause.Cause.{Cause}
use Rattle.core_frame.specs.Frame.{place_of}
use Rattle.core_frame.specs.declared.place.Place.TheVariants.{Done}
use Rattle.dfx_prepare.specs.Preparing.{schema_of}
use Rattle.dfx_prepare.specs.declared.prepared.Prepared.{Prepared}
use Rattle.physical_plan.specs.declared.plan.Plan.{Plan}
use Rattle.plan_shape.specs.Layout.{shape}
use Rattle.plan_shape.proofs.Lawful.{is_shape}
use Rattle.planned_laws.specs.Wholly.{IsWhollyPlanned}
use Rattle.planned_laws.proofs.Facts.{all_needs_ranged}
use Rattle.planned_laws.proofs.Wholly.{wholly_planned}
use Rattle.binder_laws.proofs.Bounds.{bound_in_range}
use Rattle.binder_kind_laws.specs.Scripts.{declared_kinds}
use Rattle.binder_kind_laws.proofs.Bounds.{declared_kinded}
use Rattle.binder_kind_laws.proofs.Spelled.{spelled}
use Rattle.logical_plan.specs.Allowed.{Allowed}
use Rattle.logical_plan.specs.Body.{all_faults, Tables}
use Rattle.kind_laws.specs.Kinded.{is_well_kinded}
use Rattle.kind_laws.specs.Tables.{table_kinds}
use Rattle.kind_laws.proofs.Files.{tables_named}
use Rattle.known_laws.proofs.Known.{csv_met}
use Rattle.tree_laws.specs.Runs.{State, the_task, IsReached}
use Rattle.tree_laws.proofs.Runs.{reached}
use Rattle.tree_laws.proofs.Settles.{replay_more, leads_front}
use Rattle.plan_task_laws.specs.Trees.{Doing}
use Rattle.plan_task_laws.specs.Starts.{start_of}
use Rattle.plan_task_laws.specs.Sources.{places_of}
use Rattle.plan_task_laws.proofs.Begun.{is_start}
use Rattle.answer_laws.specs.Distincts.{has_distincts}
use Rattle.part_laws.specs.Phased.{the_phases}
use Rattle.finished_laws.specs.Known.{is_known}
use Rattle.finished_laws.specs.Engine.{IsEngineBy}
use Rattle.finished_laws.proofs.Laws.{allowed}
use Rattle.planner_laws.proofs.Engine.{there_are}
use Rattle.fault_laws.specs.Found.{is_of_fault}
use Rattle.fault_laws.specs.Named.{EndsAt}
use Rattle.fault_laws.proofs.Laws.{at_file}
use Rattle.state_laws.specs.Good.{Good}
use Rattle.state_laws.proofs.Laws as good_states
use Rattle.query_laws.specs.Runs.{Setting, csv_tables, tables_in, IsSetting, doing_in, LeadsTo}
use Rattle.dfx_prepare.proofs.Meant.{spells}
use Rattle.query_laws.proofs.Prepared.{IsOf, is_of, kinds_are, counts_are}

module _ (r : Setting) (is : IsSetting r) where
  abbrev p : Prepared
  p = r.made

  abbrev n : ℕ
  n = r.partitions

  made : IsOf r.script n p
  made = is_of r.text r.contents n r.script p is.spelled is.ready

  abbrev files : List ℕ
  files = map length p.paths

  abbrev tables : Tables
  tables = tables_in r

  abbrev doing : Doing
  doing = doing_in r

  -- its query is well-kinded over the tables that the script declares
  kinded : is_well_kinded (map declared_kinds r.script.tables) p.query.body ≡ true
  kinded = let t = spells r.text r.script is.spelled in (declared_kinded r.script p.query (spelled r.text t.0 r.script t.1) made.query).body

  met : (has_distincts tables p.query.body ≡ true) × (is_known tables files p.query.body ≡ true)
  met =
      let ts = csv_tables r.script.tables p.paths in
      let k : is_well_kinded (table_kinds ts) p.query.body ≡ true = ap (λ ks. is_well_kinded ks p.query.body) (kinds_are r.script.tables p.paths made.each) ∙ kinded in
      let m = csv_met r.contents ts p.query.body k in
      (m.0, subst (λ (ns : List ℕ). is_known tables ns p.query.body ≡ true) (counts_are r.script.tables p.paths made.each) m.1)

  planned : IsWhollyPlanned p.query files p.plan n
  planned = subst (λ (q : Plan). IsWhollyPlanned p.query files q n) (sym made.plan) (wholly_planned p.query files n (bound_in_range r.script (map schema_of r.script.tables) p.query made.query).ranges)

  engine : IsEngineBy r.hash doing tables n the_phases
  engine = there_are r.hash is.same_hash tables n r.amount

  reached_by : (entries : List Entry) (s : State) → LeadsTo r entries s → IsReached (shape p.plan) r.size r.limit (start_of doing p.plan r.limit) entries s
  reached_by entries s l = reached (shape p.plan) (is_shape p.plan) r.size l.0 r.limit (start_of doing p.plan r.limit) (is_start doing engine.operators p.plan r.size r.limit) entries s l.1

  pub good : (entries : List Entry) (s : State) → LeadsTo r entries s → Good r.size r.hash doing tables the_phases p.plan s
  good entries s l = good_states.good r.hash doing tables n the_phases engine p.query met.0 files met.1 is.some p.plan planned.planned (all_needs_ranged p.plan planned.ranges) r.size r.limit entries s (reached_by entries s l)

  pub answer : (entries : List Entry) (s : State) → LeadsTo r entries s → place_of s.run.frame 0 ≡ Done → Allowed p.query tables (the_task s.tasks 0).output
  answer entries s l done = allowed r.hash doing tables n the_phases engine p.query met.0 files met.1 is.some p.plan planned.planned (all_needs_ranged p.plan planned.ranges) s
      (record { size = r.size; limit = r.limit; entries = entries; reached = reached_by entries s l; done = done })

  -- the entries before, and the one of the failure, within one number of steps
  pub cause : (entries : List Entry) (e : Entry) (next : State) → LeadsTo r (entries ++ e ∷ []) next → (why : Cause) → e.kind ≡ Failed why → is_of_fault why ≡ true
      → EndsAt (all_faults tables p.query.body) (places_of p.plan) why
  cause entries e next l why k of =
      let start = start_of doing p.plan r.limit in
      let front = leads_front (shape p.plan) r.size start next entries (e ∷ []) l in
      let s = front.0 in
      let before = front.1 in
      let step = front.2 in
      let steps = max before.0 step.0 in
      at_file r.hash doing tables n engine (tables_named r.contents (csv_tables r.script.tables p.paths)) p.query met.0 files met.1 is.some p.plan planned.planned (all_needs_ranged p.plan planned.ranges)
      r.size r.limit steps entries s next e why
      (replay_more (shape p.plan) r.size before.0 steps (Some start) entries s (le-max_left before.0 step.0) before.1)
      (replay_more (shape p.plan) r.size step.0 steps (Some s) (e ∷ []) next (le-max_right before.0 step.0) step.1) k of
