use Rattle.std.proofs.Common.{◌≡◌, ◌+◌, ◌*◌, ◌-◌}
use Rattle.sql_grammar.specs.declared.class.Class.TheVariants as class
use Rattle.sql_grammar.specs.Grammar.{one}
use Rattle.sql_grammar.specs.Reader.{turns_within, up_to}
use Rattle.sql_grammar.specs.Reading as spec
use Rattle.sql_grammar.specs.Reading.{expr_first, behind, full}
use Rattle.expr_parser.specs.Cursors.{at_depth, below, height, chain, operators, operand}
use Rattle.expr_parser.proofs.expr.+expr.Given as goal

abbrev pub decreases-chain::nested : goal.decreases-chain::nested
decreases-chain::nested l = l.depth * 32 + 0

abbrev pub decreases-chain::nested_negation : goal.decreases-chain::nested_negation
decreases-chain::nested_negation l = l.depth * 32 + 0

abbrev pub decreases-chain::nested_unary : goal.decreases-chain::nested_unary
decreases-chain::nested_unary l = l.depth * 32 + 0

abbrev pub decreases-primary::parenthesized : goal.decreases-primary::parenthesized
decreases-primary::parenthesized l = l.depth * 32 + 1

abbrev pub decreases-primary::arm : goal.decreases-primary::arm
decreases-primary::arm l = l.depth * 32 + 1

abbrev pub decreases-primary::more_arms : goal.decreases-primary::more_arms
decreases-primary::more_arms l = l.depth * 32 + 2

abbrev pub decreases-primary::otherwise : goal.decreases-primary::otherwise
decreases-primary::otherwise l = l.depth * 32 + 1

abbrev pub decreases-primary::case_of : goal.decreases-primary::case_of
decreases-primary::case_of l = l.depth * 32 + 3

abbrev pub decreases-primary::converted : goal.decreases-primary::converted
decreases-primary::converted l = l.depth * 32 + 1

abbrev pub decreases-primary::cast : goal.decreases-primary::cast
decreases-primary::cast l = l.depth * 32 + 2

abbrev pub decreases-primary::next_argument : goal.decreases-primary::next_argument
decreases-primary::next_argument l = l.depth * 32 + 2

abbrev pub decreases-primary::more_arguments : goal.decreases-primary::more_arguments
decreases-primary::more_arguments l = l.depth * 32 + 3

abbrev pub decreases-primary::arguments : goal.decreases-primary::arguments
decreases-primary::arguments l = l.depth * 32 + 4

abbrev pub decreases-primary::coalesce : goal.decreases-primary::coalesce
decreases-primary::coalesce l = l.depth * 32 + 5

abbrev pub decreases-primary::call : goal.decreases-primary::call
decreases-primary::call l = l.depth * 32 + 1

abbrev pub decreases-primary::argument : goal.decreases-primary::argument
decreases-primary::argument l = l.depth * 32 + 2

abbrev pub decreases-primary::star_or : goal.decreases-primary::star_or
decreases-primary::star_or l = l.depth * 32 + 2

abbrev pub decreases-primary::counted : goal.decreases-primary::counted
decreases-primary::counted l = l.depth * 32 + 3

abbrev pub decreases-primary::after : goal.decreases-primary::after
decreases-primary::after l = l.depth * 32 + 4

abbrev pub decreases-primary::named : goal.decreases-primary::named
decreases-primary::named l = l.depth * 32 + 5

abbrev pub decreases-primary::prim : goal.decreases-primary::prim
decreases-primary::prim l = l.depth * 32 + 6

abbrev pub decreases-chain::unary : goal.decreases-chain::unary
decreases-chain::unary l = l.depth * 32 + 7

abbrev pub decreases-chain::negative : goal.decreases-chain::negative
decreases-chain::negative l = l.depth * 32 + 1

abbrev pub decreases-chain::sum : goal.decreases-chain::sum
decreases-chain::sum l = l.depth * 32 + 14

abbrev pub decreases-predicate::compared : goal.decreases-predicate::compared
decreases-predicate::compared l = l.depth * 32 + 15

abbrev pub decreases-predicate::next_member : goal.decreases-predicate::next_member
decreases-predicate::next_member l = l.depth * 32 + 2

abbrev pub decreases-predicate::more_members : goal.decreases-predicate::more_members
decreases-predicate::more_members l = l.depth * 32 + 3

abbrev pub decreases-predicate::members : goal.decreases-predicate::members
decreases-predicate::members l = l.depth * 32 + 4

abbrev pub decreases-predicate::among_of : goal.decreases-predicate::among_of
decreases-predicate::among_of l = l.depth * 32 + 5

abbrev pub decreases-predicate::between_of : goal.decreases-predicate::between_of
decreases-predicate::between_of l = l.depth * 32 + 15

abbrev pub decreases-predicate::within : goal.decreases-predicate::within
decreases-predicate::within l = l.depth * 32 + 16

abbrev pub decreases-predicate::suffix : goal.decreases-predicate::suffix
decreases-predicate::suffix l = l.depth * 32 + 17

abbrev pub decreases-predicate::test : goal.decreases-predicate::test
decreases-predicate::test l = l.depth * 32 + 18

abbrev pub decreases-predicate::negated : goal.decreases-predicate::negated
decreases-predicate::negated l = l.depth * 32 + 1

abbrev pub decreases-predicate::negation : goal.decreases-predicate::negation
decreases-predicate::negation l = l.depth * 32 + 19

abbrev pub decreases-chain::expression : goal.decreases-chain::expression
decreases-chain::expression l = l.depth * 32 + 30

abbrev pub decreases-chain::operand : goal.decreases-chain::operand
decreases-chain::operand l = l.depth * 32 + (height l.level + 0)

abbrev pub decreases-chain::operation : goal.decreases-chain::operation
decreases-chain::operation l = l.depth * 32 + (height l.level + 1)

abbrev pub decreases-chain::chain : goal.decreases-chain::chain
decreases-chain::chain l = l.depth * 32 + (height l.level + 2)

abbrev pub invariant-chain::chain-loop-turn : goal.invariant-chain::chain-loop-turn
invariant-chain::chain-loop-turn l =
    let turn = at_depth spec.operation l.depth (operators l.level) (operand l.level l.depth) in
    turns_within (operators l.level) turn (l._turn-end - l._turn) l.left l.cursor.counted l.cursor.tokens
    ≡ chain l.level l.depth l.fn.cursor.counted l.fn.cursor.tokens

abbrev pub invariant-primary::more_arms-loop-turn : goal.invariant-primary::more_arms-loop-turn
invariant-primary::more_arms-loop-turn l =
    turns_within (one class.When) (at_depth spec.arm l.depth) (l._turn-end - l._turn) l.arms l.cursor.counted l.cursor.tokens
    ≡ at_depth spec.arms l.depth l.fn.arms l.fn.cursor.counted l.fn.cursor.tokens

abbrev pub invariant-primary::more_arguments-loop-turn : goal.invariant-primary::more_arguments-loop-turn
invariant-primary::more_arguments-loop-turn l =
    let item = spec.item_of (below l.depth).expr in
    up_to (one class.Comma) (behind item) (full expr_first) (255 - l._turn) l.found l.cursor.counted l.cursor.tokens
    ≡ spec.listing expr_first item 255 l.fn.found l.fn.cursor.counted l.fn.cursor.tokens

abbrev pub invariant-predicate::more_members-loop-turn : goal.invariant-predicate::more_members-loop-turn
invariant-predicate::more_members-loop-turn l =
    let item = at_depth spec.member l.depth l.place l.left l.copied in
    up_to (one class.Comma) (behind item) (full expr_first) (255 - l._turn) l.found l.cursor.counted l.cursor.tokens
    ≡ spec.listing expr_first item 255 l.fn.found l.fn.cursor.counted l.fn.cursor.tokens
