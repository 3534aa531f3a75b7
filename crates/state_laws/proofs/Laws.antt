-- Every state that a finished plan's run reaches is good.
use Rattle.std.specs.Prelude.{nat_lt}
use Rattle.std.specs.List.{AllByRecursion}
use Rattle.std.proofs.Common.{ℕ, ◌<◌, ◌≡◌, refl, sym, ◌∙◌, List, Bool, true, false, ◌||◌, is_some}
use Rattle.run_journal.specs.declared.entry.Entry.{Entry}
use Rattle.plan_props.specs.Meets.{Hashing}
use Rattle.physical_plan.specs.declared.plan.Plan.{Plan}
use Rattle.physical_plan.specs.declared.plan.Plan.TheVariants.{rolls-Limit}
use Rattle.plan_shape.specs.Layout.{shape}
use Rattle.planned_laws.specs.Finished.{IsFinished}
use Rattle.physical_plan.specs.Everywhere.{everywhere}
use Rattle.plan_shape.proofs.Lawful.{is_shape}
use Rattle.physical_build.specs.Build.{build}
use Rattle.node_laws.specs.Tests.{needs_in_range}
use Rattle.logical_plan.specs.declared.query.Query.{Query}
use Rattle.logical_plan.specs.Body.{Tables}
use Rattle.logical_plan.specs.Items.{Item}
use Rattle.tree_laws.specs.Runs.{State, IsReached}
use Rattle.content_laws.specs.Whole.{AreFull}
use Rattle.content_laws.proofs.Flows.{exist}
use Rattle.plan_task_laws.specs.Trees.{Doing}
use Rattle.plan_task_laws.specs.Starts.{start_of}
use Rattle.plan_task_laws.specs.Placed.{deal_of, HasChannels}
use Rattle.plan_task_laws.proofs.Begun.{is_start}
use Rattle.answer_laws.specs.Meant.{Phases}
use Rattle.answer_laws.specs.Distincts.{has_distincts}
use Rattle.finished_laws.specs.Known.{is_known}
use Rattle.finished_laws.specs.Engine.{IsEngineBy}
use Rattle.finished_laws.proofs.Channels.{channels}
use Rattle.finished_laws.proofs.Hashes.{hashing_of}
use Rattle.finished_laws.proofs.Laws as finished_plans
use Rattle.state_laws.specs.Sites.{sites_of}
use Rattle.state_laws.specs.Good.{IsGoodNode, Good}
use Rattle.state_laws.proofs.Nodes.{sound_nodes, limit_nodes}
use Rattle.state_laws.proofs.Carried.{carries_own}
use Rattle.state_laws.proofs.Frames.{good_frame, held_frame, told_frame}

pub good : (h : Hashing) (f : Doing) (tables : Tables) (n : ℕ) (phases : Phases) → IsEngineBy h f tables n phases
    → (q : Query) → has_distincts tables q.body ≡ true → (files : List ℕ) → is_known tables files q.body ≡ true
    → 0 < n → (p : Plan) → IsFinished (build q files n) q.order n p → everywhere needs_in_range p ≡ true
    → (size limit : ℕ) (entries : List Entry) (s : State) → IsReached (shape p) size limit (start_of f p limit) entries s → Good size h f tables phases p s
good h f tables n phases engine q distincts files known more p plan ranges size limit entries s reached = record {
  frame = good_frame p size limit start s entries reached;
  held = held_frame p size limit start s entries reached;
  told = told_frame p size limit start s entries reached;
  own = carries_own f engine.operators (hashing_of h f engine.channels) p wide size limit entries s wholes.0 reached wholes.1;
  nodes = nodes (is_some q.limit || nat_lt 0 q.offset) refl;
}
  where
    start : State
    start = start_of f p limit

    wide : HasChannels p
    wide = channels (build q files n) p q.order n more plan

    wholes : (full : ℕ → ℕ → List Item) × AreFull (shape p) s (deal_of f p) full
    wholes = exist (shape p) (is_shape p) size limit start s entries (is_start f engine.operators p size limit) reached (deal_of f p)

    nodes : (b : Bool) → is_some q.limit || nat_lt 0 q.offset ≡ b → AllByRecursion (IsGoodNode size h f tables phases s) (sites_of p)
    nodes true e =
        let l = finished_plans.limited phases engine.lists tables q distincts files known n more e p plan ranges in
        limit_nodes h f tables n phases engine p wide size limit entries s wholes.0 reached wholes.1 l.0 q.offset q.limit (rolls-Limit l.0 q.offset q.limit ∙ sym l.1) l.2
    nodes false e = sound_nodes h f tables n phases engine p wide size limit entries s wholes.0 reached wholes.1 (finished_plans.sound phases engine.lists tables q distincts files known n more e p plan ranges)
