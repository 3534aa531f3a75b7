use Rattle.std.proofs.Common.{map, refl, ◌∙◌, ap, List, Bool, ℕ}
use Rattle.scalar_vector.specs.Fronts.{evals}
use Rattle.scalar_vector.specs.Woven.{marked, unmarked}
use Rattle.scalar_vector.specs.Vectors.{front_of, level_of, places_of, open_places}
use Rattle.scalar_vector.proofs.Evals.{arms-step, arms-end, parts-step, parts-end}
use Rattle.scalar_vector.proofs.Loops.{if_ok_more}
use Rattle.scalar_vector.proofs.evaluate.+eval.Goals as goal

pub eval_arms-loop-arm-preserved : goal.eval_arms-loop-arm-preserved
eval_arms-loop-arm-preserved t c other = arms-step level_of c.loop-arm.levels.items c.push.new.self.items
    (record { marks = c.in_ok-marks.marks; ended = c.in_ok-tests.tests.fault; taken = c.in_ok-taken.taken }) c.args.batch.now.rows
    (open_places (places_of c.args.places) c.loop-arm.left) (places_of c.among-among.result) c.args.arms.now c.loop-arm.arm-index c.arm-item.result
    (front_of c.in_ok-tests.tests) (front_of c.in_ok-taken.taken) c.in_ok-marks.marks.items c.in_ok-chosen.chosen.items c.in_ok-chosen.rest.items other _
    c.loop-arm-test.true c.arm-item.is c.among-among.ensures c.in_ok-tests.ensures c.in_ok-marks.ensures
    (c.in_ok-chosen.ensures.yes ∙ ap (λ (ms : List Bool). marked ms (places_of c.among-among.result)) c.deref.ensures.value)
    (c.in_ok-chosen.ensures.no ∙ ap (λ (ms : List Bool). unmarked ms (places_of c.among-among.result)) c.deref.ensures.value)
    (c.in_ok-taken.ensures ∙ ap (λ (ps : List ℕ). evals c.args.batch.now.rows ps c.arm-item.result.1) c.deref-in-loop-arm.ensures.value) refl c.in_ok-push.ensures.items (c.loop-arm.invariant other)

pub eval_arms-returns : goal.eval_arms-returns
eval_arms-returns t c other = arms-end (map level_of c.loop-arm.levels.items) c.args.batch.now.rows (open_places (places_of c.args.places) c.loop-arm.left) c.args.arms.now c.loop-arm.arm-index other _ c.loop-arm-test.false (c.loop-arm.invariant other)

pub eval_coalesce-loop-part-preserved : goal.eval_coalesce-loop-part-preserved
eval_coalesce-loop-part-preserved t c = parts-step level_of c.loop-part.levels.items c.push.new.self.items c.in_ok-level.level c.args.batch.now.rows
    (open_places (places_of c.args.places) c.loop-part.left) (places_of c.among.result) c.in_ok-level.rest.items c.args.parts.now c.loop-part.part-index c.part-item.result _
    c.loop-part-test.true c.part-item.is c.among.ensures c.in_ok-level.ensures.level c.in_ok-level.ensures.left c.in_ok-push.ensures.items c.loop-part.invariant

pub eval_coalesce-returns : goal.eval_coalesce-returns
eval_coalesce-returns t c = if_ok_more _ _ c.rebuild.result
    (λ p e. e ∙ parts-end (map level_of c.loop-part.levels.items) c.args.batch.now.rows (open_places (places_of c.args.places) c.loop-part.left) (places_of c.among-2.result)
    c.args.parts.now c.loop-part.part-index c.len.result _ c.loop-part-test.false c.len.ensures c.among-2.ensures c.loop-part.invariant)
    c.rebuild.ensures
