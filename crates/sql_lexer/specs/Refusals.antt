-- Words: what a call of the lexer says.
use Rattle.std.specs.Prelude.{◌≡◌, ℕ, ◌≤◌, List, Result, Ok, Err}
use Rattle.sql_lexer.specs.declared.token.Token.{Token}
use Rattle.sql_lexer.specs.declared.refused.LexRefused.{LexRefused}
use Rattle.sql_lexer.specs.declared.refused.LexRefused.TheVariants as refused
use Rattle.sql_lexer.specs.declared.cut.Cut.{Cut}
use Rattle.sql_lexer.specs.declared.cut.Cut.TheVariants as cut

-- what is expected is answered, or want of memory
abbrev pub Answers : {X : Type 0} → (X → List Token) → Result X LexRefused → Result (List Token) LexRefused → Type 0
Answers view (Ok v) expected = expected ≡ Ok (view v)
Answers view (Err refused.NoMemory) expected = Unit {0}
Answers view (Err e) expected = expected ≡ Err e

-- a cut is no longer than the text
abbrev pub Within : Cut → ℕ → Type 0
Within (cut.Blank n) len = n ≤ len
Within (cut.Found k n) len = n ≤ len
Within (cut.Bad n) len = n ≤ len
Within cut.Wide len = Unit {0}
Within cut.Open len = Unit {0}
