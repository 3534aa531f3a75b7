use Rattle.phase_laws.proofs.Segments.{segments_are, partitions}
use Rattle.phase_laws.proofs.Gathered.{gathered, needed}
use Rattle.phase_laws.proofs.law.parts_law.Goals as goal

pub returns-clause-segments : goal.returns-clause-segments
returns-clause-segments c = segments_are

pub returns-clause-partitions : goal.returns-clause-partitions
returns-clause-partitions c = partitions

pub returns-clause-gathered : goal.returns-clause-gathered
returns-clause-gathered c = gathered

pub returns-clause-needed : goal.returns-clause-needed
returns-clause-needed c = needed
