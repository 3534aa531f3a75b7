-- The text of a script.
use Rattle.std.proofs.Common.{◌≡◌, refl, ℕ, ◌<◌, List, length, Bool, true, false, nat_lt, if◌then◌else◌, Result, Ok, Err, arith}
use Rattle.sql_lexer.specs.Tokens.{Tokens, most}
use Rattle.sql_lexer.specs.declared.token.Token.{Token}
use Rattle.sql_lexer.specs.declared.refused.LexRefused.{LexRefused}
use Rattle.sql_lexer.specs.declared.refused.LexRefused.TheVariants.{TooLong}

by_length : (long : Bool) (n : ℕ) (rest : Result (List Token) LexRefused) (tokens : List Token) → nat_lt most n ≡ long → (if long then Err (TooLong n) else rest) ≡ Ok tokens → n < 4294967296
by_length true n rest tokens is e = cc
by_length false n rest tokens is e = first_of (omega arith, grind arith)

-- a text that has tokens isn't too long
pub small_text : (text : List ℕ) (tokens : List Token) → Tokens text ≡ Ok tokens → length text < 4294967296
unfolding Tokens
small_text text tokens e = by_length (nat_lt most (length text)) (length text) _ tokens refl e
