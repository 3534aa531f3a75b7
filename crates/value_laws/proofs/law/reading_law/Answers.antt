use Rattle.value_laws.proofs.ReadBack.{reads_back}
use Rattle.value_laws.proofs.law.reading_law.Goals as goal

pub returns : goal.returns
returns c k v kind fits some = reads_back k v kind fits some
