use Rattle.sql_grammar.proofs.Scripts.{answers_spelled, answers_sole, answers_only, answers_unexpected, answers_deep, answers_many}
use Rattle.sql_parser.proofs.script.parse_script.Goals as goal

pub returns-clause-spelled : goal.returns-clause-spelled
returns-clause-spelled c = answers_spelled _ _ _ c.parse_tokens.ensures

pub returns-clause-sole : goal.returns-clause-sole
returns-clause-sole c = answers_sole _ _ _ c.parse_tokens.ensures

pub returns-clause-only : goal.returns-clause-only
returns-clause-only c = answers_only _ _ _ c.parse_tokens.ensures

pub returns-clause-unexpected : goal.returns-clause-unexpected
returns-clause-unexpected c = answers_unexpected _ _ _ c.parse_tokens.ensures

pub returns-clause-deep : goal.returns-clause-deep
returns-clause-deep c = answers_deep _ _ _ c.parse_tokens.ensures

pub returns-clause-many : goal.returns-clause-many
returns-clause-many c = answers_many _ _ _ c.parse_tokens.ensures
