-- Meaning: the status and the line of each failure.
use Rattle.std.specs.Prelude.{ℕ, List, [], ◌∷◌, ◌++◌, codes}
use Rattle.std.specs.Fmt.{decimal}
use Rattle.dfx_value.specs.declared.fault.EvalFault.{EvalFault}
use Rattle.dfx_value.specs.declared.fault.EvalFault.TheVariants as fault
use Rattle.run_journal.specs.declared.cause.Cause.{Cause}
use Rattle.run_journal.specs.declared.cause.Cause.TheVariants as cause
use Rattle.sql_lexer.specs.Tokens.{most}
use Rattle.sql_lexer.specs.declared.refused.LexRefused.{LexRefused}
use Rattle.sql_lexer.specs.declared.refused.LexRefused.TheVariants as lexer
use Rattle.sql_grammar.specs.declared.refused.SyntaxRefused.{SyntaxRefused}
use Rattle.sql_grammar.specs.declared.refused.SyntaxRefused.TheVariants as syntax
use Rattle.typed_exprs.specs.declared.refused.BindRefused.{BindRefused}
use Rattle.typed_exprs.specs.declared.refused.BindRefused.TheVariants as binder
use Rattle.failure_text.specs.declared.failure.Failure.{Failure}
use Rattle.failure_text.specs.declared.failure.Failure.TheVariants as failure

abbrev pub status_of : Failure → ℕ
status_of failure.Words = 2
status_of (failure.Lexer refused) = 3
status_of (failure.Syntax refused) = 3
status_of (failure.Binder refused) = 3
status_of failure.NotBuilt = 3
status_of (failure.TooManySources sources) = 3
status_of (failure.Missing path) = 4
status_of (failure.BadFile path cause) = 4
status_of failure.Read = 5
status_of failure.Write = 6
status_of (failure.Evaluation fault) = 8
status_of failure.NoMemory = 10

abbrev pub file_text : List ℕ → List ℕ → List ℕ
file_text path what = codes "file " ++ path ++ codes ": " ++ what

-- a refused file's number, row and column; no file is refused for another cause
abbrev pub cause_text : Cause → List ℕ
cause_text (cause.Csv source number row column) =
    codes "csv " ++ (decimal number ++ (codes " row " ++ (decimal row ++ (codes " column "
    ++ decimal column))))
cause_text (cause.Arrow source number batch column place) = codes "arrow " ++ decimal number
cause_text other = []

-- the refused place of a text; of one that is too long, the greatest length
abbrev pub lexer_place : LexRefused → ℕ
lexer_place (lexer.TooLong length) = most
lexer_place (lexer.NotUtf8 place) = place
lexer_place (lexer.BadCharacter place) = place
lexer_place (lexer.OpenQuote place) = place
lexer_place (lexer.WideNumber place) = place
lexer_place lexer.NoMemory = 0

-- the refused token's place
abbrev pub syntax_place : SyntaxRefused → ℕ
syntax_place (syntax.Unexpected place) = place
syntax_place (syntax.TooDeep place) = place
syntax_place (syntax.TooMany place) = place
syntax_place syntax.NoMemory = 0

-- the binder's refusals have numbers
abbrev pub binder_number : BindRefused → ℕ
binder_number (binder.UnknownTable place) = 1
binder_number (binder.UnknownColumn place) = 2
binder_number (binder.Ambiguous place) = 3
binder_number (binder.KindMismatch place) = 4
binder_number (binder.NotGrouped place) = 5
binder_number (binder.NoEquiKey place) = 6
binder_number (binder.Unsupported place) = 7
binder_number (binder.LimitRange place) = 8
binder_number (binder.NoFiles place) = 9
binder_number binder.NoMemory = 0

-- the place of what is refused
abbrev pub binder_place : BindRefused → ℕ
binder_place (binder.UnknownTable place) = place
binder_place (binder.UnknownColumn place) = place
binder_place (binder.Ambiguous place) = place
binder_place (binder.KindMismatch place) = place
binder_place (binder.NotGrouped place) = place
binder_place (binder.NoEquiKey place) = place
binder_place (binder.Unsupported place) = place
binder_place (binder.LimitRange place) = place
binder_place (binder.NoFiles place) = place
binder_place binder.NoMemory = 0

abbrev pub binder_text : BindRefused → List ℕ
binder_text refused =
    codes "sql binder " ++ (decimal (binder_number refused) ++ (codes " at "
    ++ decimal (binder_place refused)))

abbrev pub evaluation_text : EvalFault → List ℕ
evaluation_text fault.Overflow = codes "evaluation: overflow"
evaluation_text fault.DivideByZero = codes "evaluation: division by zero"
evaluation_text fault.CastRefused = codes "evaluation: cast refused"

abbrev pub failure_text : Failure → List ℕ
failure_text failure.Words = codes "words refused"
failure_text (failure.Lexer refused) = codes "sql lexer at " ++ decimal (lexer_place refused)
failure_text (failure.Syntax refused) = codes "sql syntax at " ++ decimal (syntax_place refused)
failure_text (failure.Binder refused) = binder_text refused
failure_text failure.NotBuilt = codes "not built"
failure_text (failure.TooManySources sources) = codes "too many files: " ++ decimal sources
failure_text (failure.Missing path) = file_text path (codes "missing")
failure_text (failure.BadFile path why) = file_text path (cause_text why)
failure_text failure.Read = codes "read fault"
failure_text failure.Write = codes "write fault"
failure_text (failure.Evaluation fault) = evaluation_text fault
failure_text failure.NoMemory = codes "out of memory"

-- `dfx: `, the text and a line feed
abbrev pub failure_line : Failure → List ℕ
failure_line f = codes "dfx: " ++ failure_text f ++ 10 ∷ []
