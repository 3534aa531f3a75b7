-- What is said of frames and histories in every state that a plan's run reaches.
use Rattle.std.proofs.Common.{ℕ, List}
use Rattle.run_journal.specs.declared.entry.Entry.{Entry}
use Rattle.core_frame.specs.Good.{IsGood}
use Rattle.core_frame.proofs.Sound.{sound, lawful_goes_on}
use Rattle.history_laws.specs.Contents.{IsTold}
use Rattle.history_laws.specs.Reserved.{IsHeld}
use Rattle.history_laws.proofs.Laws.{recorded, reserved}
use Rattle.physical_plan.specs.declared.plan.Plan.{Plan}
use Rattle.plan_shape.specs.Layout.{shape}
use Rattle.plan_shape.proofs.Lawful.{is_shape}
use Rattle.plan_shape.proofs.Owners.{has_owners}
use Rattle.tree_laws.specs.Runs.{State, IsReached}

module _ (p : Plan) (size limit : ℕ) (start s : State) (entries : List Entry) (reached : IsReached (shape p) size limit start entries s) where
  pub good_frame : IsGood (shape p) s.run.frame
  good_frame = (let r = recorded (shape p) limit reached.steps s.run (is_shape p) reached.own reached.run in
      record { sound = sound (shape p) s.run.frame r.lawful; goes_on = lawful_goes_on (shape p) s.run.frame (is_shape p) r.lawful })

  pub told_frame : IsTold (shape p) s.run.frame s.run.pasts
  told_frame = (recorded (shape p) limit reached.steps s.run (is_shape p) reached.own reached.run).told

  pub held_frame : IsHeld (shape p) s.run.frame s.run.pasts
  held_frame = reserved (shape p) limit reached.steps s.run (is_shape p) (has_owners p) reached.own reached.run
