-- The laws on what plans declare and on finished plans of queries, as they are stated.
use Rattle.std.specs.Prelude.{nat_lt}
use Rattle.std.proofs.Common.{ℕ, ◌<◌, ◌≡◌, sym, ◌∙◌, List, true, false, ◌||◌, is_some}
use Rattle.plan_props.specs.Satisfies.{satisfies_order}
use Rattle.plan_props.specs.Meets.{Hashing, IsHash}
use Rattle.physical_plan.specs.declared.plan.Plan.{Plan}
use Rattle.physical_plan.specs.declared.plan.Plan.TheVariants as plan
use Rattle.physical_plan.specs.declared.plan.Plan.TheVariants.{rolls-Limit}
use Rattle.plan_shape.specs.Counts.{counts_of}
use Rattle.physical_plan.specs.Properties.{props}
use Rattle.physical_plan.specs.Everywhere.{everywhere}
use Rattle.planned_laws.specs.Finished.{IsFinished}
use Rattle.physical_build.specs.Build.{build}
use Rattle.logical_plan.specs.declared.query.Query.{Query}
use Rattle.logical_plan.specs.Body.{Tables}
use Rattle.tree_laws.specs.Runs.{State, the_task}
use Rattle.logical_plan.specs.Allowed.{Allowed}
use Rattle.plan_task_laws.specs.Trees.{Doing}
use Rattle.node_laws.specs.Tests.{needs_in_range}
use Rattle.answer_laws.specs.Kept.{IsKept}
use Rattle.answer_laws.specs.Meant.{Phases, is_told}
use Rattle.answer_laws.specs.Answering.{IsAnswering}
use Rattle.answer_laws.specs.Ordered.{IsOrdering}
use Rattle.answer_laws.specs.Parted.{Delivers, LawsOfParts}
use Rattle.answer_laws.specs.Distincts.{has_distincts}
use Rattle.answer_laws.specs.Finished.{IsFinishedRun}
use Rattle.finished_laws.specs.Sound.{is_sound, on_properties, IsAsDeclared}
use Rattle.finished_laws.specs.Rows.{IsChannelOf, AreGroups}
use Rattle.finished_laws.specs.Known.{is_known}
use Rattle.finished_laws.specs.Engine.{IsEngineBy}
use Rattle.finished_laws.proofs.Standing.{standing}
use Rattle.finished_laws.proofs.Delivered as by_properties
use Rattle.finished_laws.proofs.Told as sound_plans
use Rattle.finished_laws.proofs.Allowed as plans

pub kept : (h : Hashing) (f : Doing) → IsChannelOf h f → (tables : Tables) (n : ℕ) (phases : Phases)
    → IsAnswering f tables (on_properties tables n) phases → AreGroups phases → IsOrdering f → IsKept f (IsAsDeclared h tables n)
kept h f channels tables n phases answering groups ordering = standing f tables n h channels phases answering ordering groups

pub delivered : (h : Hashing) → IsHash h → (tables : Tables) (n : ℕ) → Delivers (on_properties tables n) (IsAsDeclared h tables n)
delivered h hash tables n = by_properties.delivers h hash tables n

pub told : (tables : Tables) (n : ℕ) (p : Plan) → is_sound tables n p ≡ true → is_told tables (on_properties tables n) p ≡ true
told tables n p s = sound_plans.told tables n p s

pub sound : (phases : Phases) → LawsOfParts phases → (tables : Tables) (q : Query) → has_distincts tables q.body ≡ true → (files : List ℕ) → is_known tables files q.body ≡ true → (n : ℕ) → 0 < n
    → is_some q.limit || nat_lt 0 q.offset ≡ false → (p : Plan) → IsFinished (build q files n) q.order n p → everywhere needs_in_range p ≡ true → is_sound tables n p ≡ true
sound phases lists tables q distincts files known n more none p fin ranges = plans.unlimited phases lists tables q distincts files known n more none p fin ranges

pub limited : (phases : Phases) → LawsOfParts phases → (tables : Tables) (q : Query) → has_distincts tables q.body ≡ true → (files : List ℕ) → is_known tables files q.body ≡ true → (n : ℕ) → 0 < n
    → is_some q.limit || nat_lt 0 q.offset ≡ true → (p : Plan) → IsFinished (build q files n) q.order n p → everywhere needs_in_range p ≡ true
    → (r : Plan) × (p ≡ plan.Limit r q.offset q.limit) × (is_sound tables n r ≡ true) × (satisfies_order (props r) q.order ≡ true) × ((counts_of r).parts ≡ 1)
limited phases lists tables q distincts files known n more some p fin ranges =
    let l = plans.limited phases lists tables q distincts files known n more some p fin ranges in
    (l.input, sym l.is ∙ rolls-Limit l.input q.offset q.limit, l.sound, l.order, l.one)

pub allowed : (h : Hashing) (f : Doing) (tables : Tables) (n : ℕ) (phases : Phases) → IsEngineBy h f tables n phases
    → (q : Query) → has_distincts tables q.body ≡ true → (files : List ℕ) → is_known tables files q.body ≡ true → 0 < n
    → (p : Plan) → IsFinished (build q files n) q.order n p → everywhere needs_in_range p ≡ true
    → (s : State) → IsFinishedRun f p s → Allowed q tables (the_task s.tasks 0).output
allowed h f tables n phases engine q distincts files known more p fin ranges s run = plans.allowed h f tables n phases engine q distincts files known more p fin ranges s run
