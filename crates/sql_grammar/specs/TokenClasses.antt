-- Meaning: the class of a token.
use Rattle.std.specs.Prelude.{ℕ, List, Bool, if◌then◌else◌, codes, bytes_eq}
use Rattle.sql_lexer.specs.declared.token.TokenKind.{TokenKind}
use Rattle.sql_lexer.specs.declared.token.TokenKind.TheVariants as kind
use Rattle.sql_lexer.specs.declared.token.Token as lexed
use Rattle.sql_lexer.specs.Texts.{token_text}
use Rattle.sql_grammar.specs.declared.class.Class.{Class}
use Rattle.sql_grammar.specs.declared.class.Class.TheVariants as class
use Rattle.sql_grammar.specs.Class.{Token}

-- whether a text is this one
abbrev pub is : List ℕ → List ℕ → Bool
is text word = bytes_eq text word

unfoldable pub type_word : List ℕ → Class
type_word text =
    if is text (codes "bigint") then class.IntType else (
    if is text (codes "int") then class.IntType else (
    if is text (codes "integer") then class.IntType else (
    if is text (codes "smallint") then class.IntType else (
    if is text (codes "tinyint") then class.IntType else (
    if is text (codes "varchar") then class.TextType else (
    if is text (codes "text") then class.TextType else (
    if is text (codes "string") then class.TextType else (
    if is text (codes "boolean") then class.BoolType else (
    if is text (codes "decimal") then class.DecimalType else (class.Name))))))))))

unfoldable pub table_word : List ℕ → Class
table_word text =
    if is text (codes "create") then class.Create else (
    if is text (codes "external") then class.External else (
    if is text (codes "table") then class.Table else (
    if is text (codes "stored") then class.Stored else (
    if is text (codes "csv") then class.Csv else (
    if is text (codes "arrow") then class.Arrow else (
    if is text (codes "with") then class.With else (
    if is text (codes "header") then class.Header else (
    if is text (codes "row") then class.Row else (
    if is text (codes "location") then class.Location else (
    if is text (codes "options") then class.Options else (type_word text)))))))))))

unfoldable pub function_word : List ℕ → Class
function_word text =
    if is text (codes "cast") then class.Cast else (
    if is text (codes "coalesce") then class.Coalesce else (
    if is text (codes "abs") then class.Abs else (
    if is text (codes "length") then class.Length else (
    if is text (codes "count") then class.Count else (
    if is text (codes "sum") then class.Sum else (
    if is text (codes "min") then class.Min else (
    if is text (codes "max") then class.Max else (
    if is text (codes "avg") then class.Avg else (table_word text)))))))))

unfoldable pub expression_word : List ℕ → Class
expression_word text =
    if is text (codes "and") then class.And else (
    if is text (codes "or") then class.Or else (
    if is text (codes "not") then class.Not else (
    if is text (codes "is") then class.Is else (
    if is text (codes "null") then class.Null else (
    if is text (codes "in") then class.In else (
    if is text (codes "between") then class.Between else (
    if is text (codes "true") then class.True else (
    if is text (codes "false") then class.False else (
    if is text (codes "case") then class.Case else (
    if is text (codes "when") then class.When else (
    if is text (codes "then") then class.Then else (
    if is text (codes "else") then class.Else else (
    if is text (codes "end") then class.End else (function_word text))))))))))))))

unfoldable pub join_word : List ℕ → Class
join_word text =
    if is text (codes "inner") then class.Inner else (
    if is text (codes "left") then class.Left else (
    if is text (codes "right") then class.Right else (
    if is text (codes "full") then class.Full else (
    if is text (codes "outer") then class.Outer else (
    if is text (codes "join") then class.Join else (
    if is text (codes "on") then class.On else (
    if is text (codes "asc") then class.Asc else (
    if is text (codes "desc") then class.Desc else (
    if is text (codes "nulls") then class.Nulls else (
    if is text (codes "first") then class.First else (
    if is text (codes "last") then class.Last else (expression_word text))))))))))))

-- a word, by the grammar's words; any other is a name
unfoldable pub clause_word : List ℕ → Class
clause_word text =
    if is text (codes "select") then class.Select else (
    if is text (codes "distinct") then class.Distinct else (
    if is text (codes "from") then class.From else (
    if is text (codes "where") then class.Where else (
    if is text (codes "group") then class.Group else (
    if is text (codes "by") then class.By else (
    if is text (codes "having") then class.Having else (
    if is text (codes "order") then class.Order else (
    if is text (codes "limit") then class.Limit else (
    if is text (codes "offset") then class.Offset else (
    if is text (codes "union") then class.Union else (
    if is text (codes "all") then class.All else (
    if is text (codes "as") then class.As else (join_word text)))))))))))))

unfoldable pub symbol : List ℕ → Class
symbol text =
    if is text (codes "(") then class.Open else (
    if is text (codes ")") then class.Close else (
    if is text (codes ",") then class.Comma else (
    if is text (codes ";") then class.Semicolon else (
    if is text (codes ".") then class.Dot else (
    if is text (codes "*") then class.Star else (
    if is text (codes "+") then class.Plus else (
    if is text (codes "-") then class.Minus else (
    if is text (codes "/") then class.Slash else (
    if is text (codes "%") then class.Percent else (
    if is text (codes "=") then class.Equal else (
    if is text (codes "<>") then class.Unequal else (
    if is text (codes "!=") then class.Unequal else (
    if is text (codes "<") then class.Less else (
    if is text (codes "<=") then class.AtMost else (
    if is text (codes ">") then class.Greater else (
    if is text (codes ">=") then class.AtLeast else (class.Bars)))))))))))))))))

abbrev pub class_of : TokenKind → List ℕ → Class
class_of kind.Word text = clause_word text
class_of kind.Quoted text = class.Quoted
class_of kind.Number text = class.Number
class_of kind.Str text = class.Str
class_of kind.Symbol text = symbol text

-- a token of a script, as the grammar sees it
abbrev pub seen : List ℕ → lexed.Token → Token
seen script t = record { class = class_of t.kind (token_text script t); text = token_text script t; place = t.from }
