use Rattle.std.proofs.Common.{rules}
use Rattle.script_cases.proofs.RowSteps.{sorted_equal}
use Rattle.script_cases.proofs.compare.has_same_items.Goals as goal

pub returns : goal.returns
returns c equal =
    sorted_equal (λ row. row.items)
    c.args.wanted.items c.sort.new.self.items c.args.came.items c.sort-2.new.self.items
    c.sort.ensures.permutation c.sort-2.ensures.permutation (search rules)
