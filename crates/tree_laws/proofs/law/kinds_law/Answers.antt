use Rattle.tree_laws.proofs.OperatorKinds
use Rattle.tree_laws.proofs.Merges
use Rattle.tree_laws.proofs.law.kinds_law.Goals as goal

pub returns-clause-each : goal.returns-clause-each
returns-clause-each c = λ f. OperatorKinds.each_is f

pub returns-clause-end : goal.returns-clause-end
returns-clause-end c = λ f amount consumer. OperatorKinds.end_is f amount consumer

pub returns-clause-segment : goal.returns-clause-segment
returns-clause-segment c = λ f amount consumer. OperatorKinds.segment_is f amount consumer

pub returns-clause-limit : goal.returns-clause-limit
returns-clause-limit c = λ skip fetch. OperatorKinds.limit_is skip fetch

pub returns-clause-join : goal.returns-clause-join
returns-clause-join c = λ probe last amount consumer. OperatorKinds.join_is probe last amount consumer

pub returns-clause-merge : goal.returns-clause-merge
returns-clause-merge c = λ before n. Merges.merge_is before n
