use Rattle.std.proofs.Common.{rules, ◌≡◌, ◌≤◌, length, arith}
use Rattle.value_columns.specs.Pieces.{start}
use Rattle.value_columns.proofs.PieceLemmas.{start_order, start_total}
use Rattle.value_columns.proofs.strings.bytes_of.Goals as goal

pub between-requires-clause-order : goal.between-requires-clause-order
between-requires-clause-order c =
    omega (arith, start_order c.args.ends.now (length c.args.bytes.now) c.args.from c.args.to c.requires.chained c.requires.order c.requires.within, c.start_of-start.ensures, c.start_of-end.ensures)

pub between-requires-clause-within : goal.between-requires-clause-within
between-requires-clause-within c =
    omega (arith, start_total c.args.ends.now (length c.args.bytes.now) c.args.to c.requires.chained c.requires.within, c.start_of-end.ensures)
