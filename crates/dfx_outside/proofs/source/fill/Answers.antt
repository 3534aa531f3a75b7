use Rattle.std.proofs.Common.{◌≡◌, ◌∙◌, take, length, arith, rules}
use Rattle.std.proofs.lemmas.List.{take_all}
use Rattle.dfx_outside.proofs.source.fill.Goals as goal

pub returns-after-loop-at-clause-front : goal.returns-after-loop-at-clause-front
returns-after-loop-at-clause-front g c v told size =
    c.loop-at.invariant.front v told ∙ take_all c.loop-at.at v (omega arith)
