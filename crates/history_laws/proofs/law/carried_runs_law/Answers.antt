use Rattle.history_laws.proofs.Carried
use Rattle.history_laws.proofs.law.carried_runs_law.Goals as goal

pub returns-clause-begun : goal.returns-clause-begun
returns-clause-begun g c = λ m p limit. Carried.begun_map m p limit

pub returns-clause-reply : goal.returns-clause-reply
returns-clause-reply g c = λ m p f t k need. Carried.reply_map m p f t k need

pub returns-clause-step : goal.returns-clause-step
returns-clause-step g c = λ m p r e need. Carried.run_step_map m p r e need

pub returns-clause-replay : goal.returns-clause-replay
returns-clause-replay g c = λ m p o steps. Carried.run_replay_map m p o steps
