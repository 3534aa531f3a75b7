use Rattle.core_frame.proofs.Carried
use Rattle.core_frame.proofs.CarriedLawful
use Rattle.core_frame.proofs.law.carried_law.Goals as goal

pub returns-clause-opening : goal.returns-clause-opening
returns-clause-opening g c = λ m p limit. Carried.opening_map m p limit

pub returns-clause-step : goal.returns-clause-step
returns-clause-step g c = λ m p f e need. Carried.step_map m p f e need

pub returns-clause-replay : goal.returns-clause-replay
returns-clause-replay g c = λ m p o steps. Carried.replay_map m p o steps

pub returns-clause-lawful : goal.returns-clause-lawful
returns-clause-lawful g c = λ m p f k. CarriedLawful.lawful_map m p f k

pub returns-clause-own : goal.returns-clause-own
returns-clause-own g c = λ m p steps k. CarriedLawful.are_own_map m p steps k
