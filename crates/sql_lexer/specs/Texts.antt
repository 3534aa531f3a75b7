-- Meaning: the text of a token.
use Rattle.std.specs.Prelude.{ℕ, ◌-◌, nat_eq, List, [], ◌∷◌, length, take, drop, Bool, false, ◌&&◌, if◌then◌else◌}
use Rattle.std.specs.Str.{str_to_ascii_lowercase}
use Rattle.sql_lexer.specs.declared.token.Token.{Token}
use Rattle.sql_lexer.specs.declared.token.TokenKind.{TokenKind}
use Rattle.sql_lexer.specs.declared.token.TokenKind.TheVariants as kind
use Rattle.sql_lexer.specs.Parts.{bytes_of}

-- Each byte but the second of two quotes in a row; seen: whether a quote stands before, the first of two.
abbrev pub undoubled : ℕ → Bool → List ℕ → List ℕ
undoubled quote seen [] = []
undoubled quote seen (b ∷ bs) = if seen && nat_eq b quote then undoubled quote false bs else b ∷ undoubled quote (nat_eq b quote) bs

-- what stands between the first and the last byte
abbrev pub between_quotes : List ℕ → List ℕ
between_quotes bs = take (length bs - 2) (drop 1 bs)

-- a word in lower case, a quoted text without its quotes, and any other token as written
abbrev pub text_of : TokenKind → List ℕ → List ℕ
text_of kind.Word bs = str_to_ascii_lowercase bs
text_of kind.Quoted bs = undoubled 34 false (between_quotes bs)
text_of kind.Str bs = undoubled 39 false (between_quotes bs)
text_of kind.Number bs = bs
text_of kind.Symbol bs = bs

abbrev pub token_text : List ℕ → Token → List ℕ
token_text text t = text_of t.kind (bytes_of text t)
