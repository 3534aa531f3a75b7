use Rattle.finished_laws.proofs.Channels.{channels}
use Rattle.finished_laws.proofs.Counted.{counted, single}
use Rattle.finished_laws.proofs.Laws.{sound, limited}
use Rattle.finished_laws.proofs.law.finished_law.Goals as goal

pub returns : goal.returns
returns c = record { channels = channels; parts = counted; single = single; sound = sound; limited = limited }
