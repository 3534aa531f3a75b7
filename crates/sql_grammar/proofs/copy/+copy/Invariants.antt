use Rattle.std.proofs.Common.{◌≡◌, take}
use Rattle.sql_grammar.proofs.copy.+copy.Given as goal

abbrev pub invariant-copy_arms-loop-test : goal.invariant-copy_arms-loop-test
invariant-copy_arms-loop-test l = l.copies ≡ take l.test-index l.arms

abbrev pub invariant-copy_items-loop-one : goal.invariant-copy_items-loop-one
invariant-copy_items-loop-one l = l.copies ≡ take l.one-index l.items
