-- Words: which failures come of preparing a script.
use Rattle.std.specs.Prelude.{⊤, ◌≡◌, Result, Ok, Err}
use Rattle.sql_lexer.specs.declared.refused.LexRefused.{LexRefused}
use Rattle.sql_lexer.specs.declared.refused.LexRefused.TheVariants as lexer
use Rattle.sql_grammar.specs.declared.refused.SyntaxRefused.{SyntaxRefused}
use Rattle.sql_grammar.specs.declared.refused.SyntaxRefused.TheVariants as syntax
use Rattle.typed_exprs.specs.declared.refused.BindRefused.{BindRefused}
use Rattle.typed_exprs.specs.declared.refused.BindRefused.TheVariants as binder
use Rattle.failure_text.specs.declared.failure.Failure.{Failure}
use Rattle.failure_text.specs.declared.failure.Failure.TheVariants as failure

-- this is answered, or want of memory
abbrev pub OrMemory : {A : Type 0} → Result A Failure → Result A Failure → Type 0
OrMemory (Ok v) expected = expected ≡ Ok v
OrMemory (Err failure.NoMemory) expected = ⊤
OrMemory (Err f) expected = expected ≡ Err f

-- this is answered, or a file failed, or there was no memory
abbrev pub Answers : {A : Type 0} → Result A Failure → Result A Failure → Type 0
Answers (Ok v) expected = expected ≡ Ok v
Answers (Err failure.Read) expected = ⊤
Answers (Err failure.NoMemory) expected = ⊤
Answers (Err f) expected = expected ≡ Err f

-- not want of memory
abbrev pub IsLexed : LexRefused → Type 0
IsLexed lexer.NoMemory = ⊥
IsLexed refused = ⊤

abbrev pub IsSyntax : SyntaxRefused → Type 0
IsSyntax syntax.NoMemory = ⊥
IsSyntax refused = ⊤

-- not want of memory, nor a folder without files, which is no fault of a folder of CSV files
abbrev pub IsBinding : BindRefused → Type 0
IsBinding binder.NoMemory = ⊥
IsBinding (binder.NoFiles place) = ⊥
IsBinding refused = ⊤

-- a text spells no script, or there was no memory
abbrev pub IsReading : Failure → Type 0
IsReading (failure.Lexer refused) = IsLexed refused
IsReading (failure.Syntax refused) = IsSyntax refused
IsReading failure.NoMemory = ⊤
IsReading f = ⊥

-- a table's files aren't there or aren't read, files failed, or there was no memory
abbrev pub IsListing : Failure → Type 0
IsListing failure.NotBuilt = ⊤
IsListing (failure.Missing path) = ⊤
IsListing failure.Read = ⊤
IsListing failure.NoMemory = ⊤
IsListing f = ⊥

-- a script has no query over its tables, or there was no memory
abbrev pub IsQuerying : Failure → Type 0
IsQuerying (failure.Binder refused) = IsBinding refused
IsQuerying failure.NoMemory = ⊤
IsQuerying f = ⊥

-- one of these: a text, a table or a query is refused, files failed, or there was no memory
abbrev pub IsPreparing : Failure → Type 0
IsPreparing (failure.Binder refused) = IsBinding refused
IsPreparing (failure.Lexer refused) = IsLexed refused
IsPreparing (failure.Syntax refused) = IsSyntax refused
IsPreparing f = IsListing f
