use Rattle.std.proofs.Common.{◌≡◌, ◌+◌, ◌*◌, ◌-◌, []}
use Rattle.sql_grammar.specs.declared.class.Class.TheVariants as class
use Rattle.sql_grammar.specs.Grammar.{one}
use Rattle.sql_grammar.specs.Reader.{turns_within, turns}
use Rattle.sql_grammar.specs.Reading as spec
use Rattle.sql_grammar.specs.Reading.{join_first}
use Rattle.expr_parser.specs.Cursors.{at_depth}
use Rattle.sql_parser.proofs.select.+select.Given as goal

abbrev pub decreases-nested_union : goal.decreases-nested_union
decreases-nested_union l = l.depth * 16 + 0

abbrev pub decreases-nested : goal.decreases-nested
decreases-nested l = l.depth * 16 + 1

abbrev pub decreases-derived_table : goal.decreases-derived_table
decreases-derived_table l = l.depth * 16 + 2

abbrev pub decreases-from_of : goal.decreases-from_of
decreases-from_of l = l.depth * 16 + 3

abbrev pub decreases-join_of : goal.decreases-join_of
decreases-join_of l = l.depth * 16 + 4

abbrev pub decreases-joins_of : goal.decreases-joins_of
decreases-joins_of l = l.depth * 16 + 5

abbrev pub decreases-select : goal.decreases-select
decreases-select l = l.depth * 16 + 6

abbrev pub decreases-united : goal.decreases-united
decreases-united l = l.depth * 16 + 7

abbrev pub decreases-more_parts : goal.decreases-more_parts
decreases-more_parts l = l.depth * 16 + 8

abbrev pub decreases-union_of : goal.decreases-union_of
decreases-union_of l = l.depth * 16 + 9

abbrev pub invariant-joins_of-loop-turn : goal.invariant-joins_of-loop-turn
invariant-joins_of-loop-turn l =
    let turn = at_depth spec.join_of l.depth in
    turns_within join_first turn (l._turn-end - l._turn) l.joins l.cursor.counted l.cursor.tokens
    ≡ turns join_first turn [] l.fn.cursor.counted l.fn.cursor.tokens

abbrev pub invariant-more_parts-loop-turn : goal.invariant-more_parts-loop-turn
invariant-more_parts-loop-turn l =
    let turn = at_depth spec.united l.depth in
    turns_within (one class.Union) turn (l._turn-end - l._turn) l.parts l.cursor.counted l.cursor.tokens
    ≡ turns (one class.Union) turn l.fn.parts l.fn.cursor.counted l.fn.cursor.tokens
