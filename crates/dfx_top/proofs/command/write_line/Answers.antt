use Rattle.dfx_top.proofs.CommandEnds.{line_taken}
use Rattle.dfx_top.proofs.command.write_line.Goals as goal

pub returns-clause-front : goal.returns-clause-front
returns-clause-front g c before told = line_taken c.write_all.result before c.args.line.now _ (c.write_all.ensures.ok before told) (c.write_all.ensures.err before told)
