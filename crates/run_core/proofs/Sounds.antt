-- A run's acts are sound.
use Rattle.std.proofs.Common.{ℕ, List, Option}
use Rattle.turn_cell.specs.declared.act.Act.{Act}
use Rattle.task_shape.specs.Shape.{Shape}
use Rattle.core_frame.specs.Frame.{Frame}
use Rattle.core_frame.specs.Step.{Need}
use Rattle.logical_plan.specs.Items.{Cells}
use Rattle.tree_laws.specs.Tasks.{Task}
use Rattle.work_pool.specs.declared.work.Claim.{Claim}
use Rattle.work_pool.specs.declared.work.Claim.TheVariants.{Job, Idle, Over}
use Rattle.work_pool.specs.Answers.{OnClaim}
use Rattle.run_core.specs.Given.{Given}
use Rattle.run_core.specs.Fits.{Sound}
use Rattle.run_core.specs.Holds.{Holds}

pub sound : {B T : Type 0} (rows : B → List Cells) (number : T → ℕ) (suits : T → Shape → Type 0) (need : T → Option (Need (List Cells))) (stands : T → ℕ → Task → Type 0) (o : Given) (p : Shape) (f : Frame B) (slots : List (Option T)) (acts : List Act)
    → Holds rows number suits need stands o p f slots acts → Sound B o acts
sound rows number suits need stands o p f slots acts k = record { given = k.given; legal = (f, k.run); told = λ start es. (let r = (k.told start es).run in (r.state, r.leads)) }

-- another fact where the run is over
pub claim_over : {J : Type 0} (r : Claim J) (P : J → Type 0) (idle over over2 : Type 0) → (over → over2) → OnClaim r P idle over → OnClaim r P idle over2
claim_over (Job job) P idle over over2 f a = a
claim_over Idle P idle over over2 f a = a
claim_over Over P idle over over2 f a = f a
