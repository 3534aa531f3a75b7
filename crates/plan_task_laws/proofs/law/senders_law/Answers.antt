use Rattle.plan_task_laws.proofs.Senders.{are_senders, only_sender, lone_sender}
use Rattle.plan_task_laws.proofs.law.senders_law.Goals as goal

pub returns : goal.returns
returns c = record { senders = are_senders; own = only_sender; lone = lone_sender }
