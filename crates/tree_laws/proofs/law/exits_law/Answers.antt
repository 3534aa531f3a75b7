use Rattle.tree_laws.proofs.Exits
use Rattle.tree_laws.proofs.law.exits_law.Goals as goal

pub returns-clause-sends : goal.returns-clause-sends
returns-clause-sends c = λ size steps past k w at b task settled need. Exits.sends size steps past k w at b task settled need

pub returns-clause-writes : goal.returns-clause-writes
returns-clause-writes c = λ size steps past k w task heads settled need. Exits.writes size steps past k w task heads settled need

pub returns-clause-sent : goal.returns-clause-sent
returns-clause-sent c = λ p size steps limit start s next entries e shape starts replayed step of_send. Exits.sent p shape size steps limit start s next entries e starts replayed step of_send

pub returns-clause-wrote : goal.returns-clause-wrote
returns-clause-wrote c = λ p size steps limit start s next entries e shape starts heads replayed step is. Exits.wrote p shape size steps limit start s next entries e starts replayed step heads is
