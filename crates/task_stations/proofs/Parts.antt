-- The parts that are left, of which the last is the next.
use Rattle.std.proofs.Common.{◌≡◌, ap, ◌∙◌, List, [], ◌∷◌, ◌++◌, reverse}
use Rattle.std.proofs.lemmas.List.{reverse-append, reverse-reverse}
use Rattle.task_stations.specs.declared.task.Part.{Part}
use Rattle.task_stations.specs.Turns.{parts_of, parts_left}

pub last_left : (old new : List Part) (p : Part) → old ≡ new ++ p ∷ [] → parts_left old ≡ (p.channel, p.batch.rows) ∷ parts_left new
last_left old new p e = ap parts_left e ∙ ap parts_of (reverse-append new (p ∷ []))

pub turned_left : (old new : List Part) → new ≡ reverse old → parts_left new ≡ parts_of old
turned_left old new e = ap parts_left e ∙ ap parts_of (reverse-reverse old)
