-- Worked examples of failures, by computing: the status, the text and the line of each.
use Rattle.std.specs.Prelude.{ℕ, codes, List}
use Rattle.std.proofs.Common.{◌≡◌, refl}
use Rattle.std.specs.Fmt.{digits}
use Rattle.dfx_value.specs.declared.fault.EvalFault.TheVariants as fault
use Rattle.run_journal.specs.declared.cause.Cause.TheVariants as cause
use Rattle.sql_lexer.specs.declared.refused.LexRefused.TheVariants as lexer
use Rattle.sql_grammar.specs.declared.refused.SyntaxRefused.TheVariants as syntax
use Rattle.typed_exprs.specs.declared.refused.BindRefused.TheVariants as binder
use Rattle.failure_text.specs.Failures.{status_of, failure_text, failure_line}
use Rattle.failure_text.specs.declared.failure.Failure.{Failure}
use Rattle.failure_text.specs.declared.failure.Failure.TheVariants as failure

abbrev path : List ℕ
path = codes "t.csv"

abbrev shown : Failure → ℕ × List ℕ × List ℕ
shown f = (status_of f, failure_text f, failure_line f)

-- ---- scripts

too_long : shown (failure.Lexer (lexer.TooLong 1048577)) ≡ (3, codes "sql lexer at 1048576", codes "dfx: sql lexer at 1048576\n")
unfolding digits
too_long = refl

no_utf8 : shown (failure.Lexer (lexer.NotUtf8 0)) ≡ (3, codes "sql lexer at 0", codes "dfx: sql lexer at 0\n")
unfolding digits
no_utf8 = refl

bad_character : shown (failure.Lexer (lexer.BadCharacter 7)) ≡ (3, codes "sql lexer at 7", codes "dfx: sql lexer at 7\n")
unfolding digits
bad_character = refl

open_quote : shown (failure.Lexer (lexer.OpenQuote 10)) ≡ (3, codes "sql lexer at 10", codes "dfx: sql lexer at 10\n")
unfolding digits
open_quote = refl

wide_number : shown (failure.Lexer (lexer.WideNumber 12)) ≡ (3, codes "sql lexer at 12", codes "dfx: sql lexer at 12\n")
unfolding digits
wide_number = refl

unexpected : shown (failure.Syntax (syntax.Unexpected 7)) ≡ (3, codes "sql syntax at 7", codes "dfx: sql syntax at 7\n")
unfolding digits
unexpected = refl

too_deep : shown (failure.Syntax (syntax.TooDeep 64)) ≡ (3, codes "sql syntax at 64", codes "dfx: sql syntax at 64\n")
unfolding digits
too_deep = refl

too_many : shown (failure.Syntax (syntax.TooMany 1000)) ≡ (3, codes "sql syntax at 1000", codes "dfx: sql syntax at 1000\n")
unfolding digits
too_many = refl

unknown_table : shown (failure.Binder (binder.UnknownTable 14)) ≡ (3, codes "sql binder 1 at 14", codes "dfx: sql binder 1 at 14\n")
unfolding digits
unknown_table = refl

unknown_column : shown (failure.Binder (binder.UnknownColumn 0)) ≡ (3, codes "sql binder 2 at 0", codes "dfx: sql binder 2 at 0\n")
unfolding digits
unknown_column = refl

ambiguous : shown (failure.Binder (binder.Ambiguous 7)) ≡ (3, codes "sql binder 3 at 7", codes "dfx: sql binder 3 at 7\n")
unfolding digits
ambiguous = refl

kind_mismatch : shown (failure.Binder (binder.KindMismatch 7)) ≡ (3, codes "sql binder 4 at 7", codes "dfx: sql binder 4 at 7\n")
unfolding digits
kind_mismatch = refl

not_grouped : shown (failure.Binder (binder.NotGrouped 7)) ≡ (3, codes "sql binder 5 at 7", codes "dfx: sql binder 5 at 7\n")
unfolding digits
not_grouped = refl

no_key : shown (failure.Binder (binder.NoEquiKey 7)) ≡ (3, codes "sql binder 6 at 7", codes "dfx: sql binder 6 at 7\n")
unfolding digits
no_key = refl

unsupported : shown (failure.Binder (binder.Unsupported 7)) ≡ (3, codes "sql binder 7 at 7", codes "dfx: sql binder 7 at 7\n")
unfolding digits
unsupported = refl

limit_range : shown (failure.Binder (binder.LimitRange 7)) ≡ (3, codes "sql binder 8 at 7", codes "dfx: sql binder 8 at 7\n")
unfolding digits
limit_range = refl

no_files : shown (failure.Binder (binder.NoFiles 7)) ≡ (3, codes "sql binder 9 at 7", codes "dfx: sql binder 9 at 7\n")
unfolding digits
no_files = refl

-- ---- files

missing : shown (failure.Missing path) ≡ (4, codes "file t.csv: missing", codes "dfx: file t.csv: missing\n")
unfolding digits
missing = refl

bad_value : shown (failure.BadFile path (cause.Csv 0 4 2 1)) ≡ (4, codes "file t.csv: csv 4 row 2 column 1", codes "dfx: file t.csv: csv 4 row 2 column 1\n")
unfolding digits
bad_value = refl

compressed : shown (failure.BadFile path (cause.Arrow 0 8 0 0 0)) ≡ (4, codes "file t.csv: arrow 8", codes "dfx: file t.csv: arrow 8\n")
unfolding digits
compressed = refl

-- ---- values

overflow : shown (failure.Evaluation fault.Overflow) ≡ (8, codes "evaluation: overflow", codes "dfx: evaluation: overflow\n")
unfolding digits
overflow = refl

division : shown (failure.Evaluation fault.DivideByZero) ≡ (8, codes "evaluation: division by zero", codes "dfx: evaluation: division by zero\n")
unfolding digits
division = refl

cast : shown (failure.Evaluation fault.CastRefused) ≡ (8, codes "evaluation: cast refused", codes "dfx: evaluation: cast refused\n")
unfolding digits
cast = refl

-- ---- the others

words : shown (failure.Words) ≡ (2, codes "words refused", codes "dfx: words refused\n")
unfolding digits
words = refl

not_built : shown (failure.NotBuilt) ≡ (3, codes "not built", codes "dfx: not built\n")
unfolding digits
not_built = refl

many_sources : shown (failure.TooManySources 513) ≡ (3, codes "too many files: 513", codes "dfx: too many files: 513\n")
unfolding digits
many_sources = refl

read : shown (failure.Read) ≡ (5, codes "read fault", codes "dfx: read fault\n")
unfolding digits
read = refl

write : shown (failure.Write) ≡ (6, codes "write fault", codes "dfx: write fault\n")
unfolding digits
write = refl

no_memory : shown (failure.NoMemory) ≡ (10, codes "out of memory", codes "dfx: out of memory\n")
unfolding digits
no_memory = refl
