-- Meaning: what the tokens of a text are parsed to, by reading them from the left: a script, or the refusal with its place.
use Rattle.std.specs.Prelude.{◌≡◌, ℕ, List, [], ◌∷◌, map, length, Result, Ok, Err}
use Rattle.sql_lexer.specs.declared.token.Token as lexed
use Rattle.sql_grammar.specs.declared.ast.Script.{Script}
use Rattle.sql_grammar.specs.declared.refused.SyntaxRefused.{SyntaxRefused}
use Rattle.sql_grammar.specs.declared.refused.SyntaxRefused.TheVariants as refused
use Rattle.sql_grammar.specs.Class.{Tokens}
use Rattle.sql_grammar.specs.TokenClasses.{seen}
use Rattle.sql_grammar.specs.Reader.{Read, done, stop, unexpected, too_deep, too_many, only}
use Rattle.sql_grammar.specs.Reading.{script_at}

-- the tokens of a text, as the grammar sees them
abbrev pub tokens_of : List ℕ → List lexed.Token → Tokens
tokens_of text tokens = map (seen text) tokens

-- a script and no token after it, within the limits
unfoldable pub read : Tokens → Read Script
read ts = only (script_at 0) 0 ts

-- the place of the first token, or the text's end
abbrev pub place_or : ℕ → Tokens → ℕ
place_or end [] = end
place_or end (t ∷ ts) = t.place

-- what a reading comes to, where the text ends at this place
abbrev pub answer : ℕ → Read Script → Result Script SyntaxRefused
answer end (done s n rest) = Ok s
answer end (stop unexpected rest) = Err (refused.Unexpected (place_or end rest))
answer end (stop too_deep rest) = Err (refused.TooDeep (place_or end rest))
answer end (stop too_many rest) = Err (refused.TooMany (place_or end rest))

-- The script that the tokens spell within the limits, or the first refusal.
abbrev pub parsed : List ℕ → List lexed.Token → Result Script SyntaxRefused
parsed text tokens = answer (length text) (read (tokens_of text tokens))

-- what is expected is answered, or want of memory
abbrev pub Answers : Result Script SyntaxRefused → Result Script SyntaxRefused → Type 0
Answers (Ok s) expected = expected ≡ Ok s
Answers (Err refused.NoMemory) expected = Unit {0}
Answers (Err e) expected = expected ≡ Err e
