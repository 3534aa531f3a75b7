use Rattle.std.proofs.Common.{ap, ◌∙◌, ◌∷◌, []}
use Rattle.phase_laws.specs.States.{state_of, merged}
use Rattle.phase_laws.proofs.States.{state-append, read-cells_of, agg-finished}
use Rattle.phase_laws.proofs.law.states_law.Goals as goal

pub returns-clause-updated : goal.returns-clause-updated
returns-clause-updated c = λ call values value. state-append call values (value ∷ [])

pub returns-clause-combined : goal.returns-clause-combined
returns-clause-combined c = λ call kind values others rest.
    ap (merged call (state_of call values)) (read-cells_of call kind others rest) ∙ state-append call values others

pub returns-clause-finished : goal.returns-clause-finished
returns-clause-finished c = agg-finished
