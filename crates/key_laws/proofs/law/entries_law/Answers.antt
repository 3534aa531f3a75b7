use Rattle.key_laws.proofs.Found.{find-upsert}
use Rattle.key_laws.proofs.law.entries_law.Goals as goal

pub returns : goal.returns
returns g c = record { upserted = find-upsert }
