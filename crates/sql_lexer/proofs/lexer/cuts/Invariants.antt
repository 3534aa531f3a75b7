use Rattle.std.proofs.Common.{◌≡◌, ◌≤◌, ◌-◌, drop, length}
use Rattle.sql_lexer.specs.Tokens.{tokens_from}
use Rattle.sql_lexer.proofs.Turns.{in_front}
use Rattle.sql_lexer.proofs.lexer.cuts.Given as goal

abbrev pub invariant-loop-turn : goal.invariant-loop-turn
invariant-loop-turn l = record {
  at : l.at ≤ length l.text;
  rest : in_front l.found.items (tokens_from (l._turn-end - l._turn) l.at (drop l.at l.text)) ≡ tokens_from (length l.text) 0 l.text;
}
