use Rattle.value_columns.proofs.print.+push_fixed.Given as goal

abbrev pub decreases-push_fixed : goal.decreases-push_fixed
decreases-push_fixed l = l.digits
