-- Worked examples of the tokens of scripts, by computing.
use Rattle.std.specs.Prelude.{ℕ, ◌++◌, codes, List, [], ◌∷◌, map, Result, Ok, Err}
use Rattle.std.proofs.Common.{◌≡◌, refl}
use Rattle.std.specs.Str.{is_utf8, chars}
use Rattle.std.specs.Str.Lossy.{utf8_valid_len}
use lib.Utf8.{encode}
use Rattle.sql_lexer.specs.declared.refused.LexRefused.{LexRefused}
use Rattle.sql_lexer.specs.declared.refused.LexRefused.TheVariants.{NotUtf8, BadCharacter, OpenQuote, WideNumber}
use Rattle.sql_lexer.specs.declared.token.Token.{Token}
use Rattle.sql_lexer.specs.declared.token.TokenKind.{TokenKind}
use Rattle.sql_lexer.specs.declared.token.TokenKind.TheVariants as kind
use Rattle.sql_lexer.specs.Cuts.{cut, cut_number, number_length, significant, cut_quoted, cut_symbol, number as numbered}
use Rattle.sql_lexer.specs.Texts.{token_text}
use Rattle.sql_lexer.specs.Tokens.{Tokens, tokens_from}

-- a token's kind and text
abbrev Shown : Type 0
Shown = TokenKind × List ℕ

abbrev shown : List ℕ → Result (List Token) LexRefused → Result (List Shown) LexRefused
shown script (Ok ts) = Ok (map (λ (t : Token). (t.kind, token_text script t)) ts)
shown script (Err e) = Err e

abbrev lexed : List ℕ → Result (List Shown) LexRefused
lexed script = shown script (Tokens script)

abbrev word : List ℕ → Shown
word t = (kind.Word, t)

abbrev quoted : List ℕ → Shown
quoted t = (kind.Quoted, t)

abbrev number : List ℕ → Shown
number t = (kind.Number, t)

abbrev string : List ℕ → Shown
string t = (kind.Str, t)

abbrev symbol : List ℕ → Shown
symbol t = (kind.Symbol, t)

-- ---- scripts with their tokens

tokens-1 : lexed [] ≡ Ok []
unfolding Tokens tokens_from is_utf8 chars encode utf8_valid_len cut cut_number numbered number_length significant cut_quoted cut_symbol
tokens-1 = refl

tokens-2 : lexed (codes " \t\r\n") ≡ Ok []
unfolding Tokens tokens_from is_utf8 chars encode utf8_valid_len cut cut_number numbered number_length significant cut_quoted cut_symbol
tokens-2 = refl

tokens-3 : lexed (codes "SELECT Abc, _x1") ≡ Ok (word (codes "select") ∷ word (codes "abc") ∷ symbol (codes ",") ∷ word (codes "_x1") ∷ [])
unfolding Tokens tokens_from is_utf8 chars encode utf8_valid_len cut cut_number numbered number_length significant cut_quoted cut_symbol
tokens-3 = refl

tokens-4 : lexed (codes "a--b\nc -- d") ≡ Ok (word (codes "a") ∷ word (codes "c") ∷ [])
unfolding Tokens tokens_from is_utf8 chars encode utf8_valid_len cut cut_number numbered number_length significant cut_quoted cut_symbol
tokens-4 = refl

tokens-5 : lexed (codes "a--b\rc") ≡ Ok (word (codes "a") ∷ [])
unfolding Tokens tokens_from is_utf8 chars encode utf8_valid_len cut cut_number numbered number_length significant cut_quoted cut_symbol
tokens-5 = refl

tokens-6 : lexed (codes "a - - b") ≡ Ok (word (codes "a") ∷ symbol (codes "-") ∷ symbol (codes "-") ∷ word (codes "b") ∷ [])
unfolding Tokens tokens_from is_utf8 chars encode utf8_valid_len cut cut_number numbered number_length significant cut_quoted cut_symbol
tokens-6 = refl

tokens-7 : lexed (codes "\"Ab\"\"c\" \"\" 'it''s' ''''") ≡ Ok (quoted (codes "Ab\"c") ∷ quoted [] ∷ string (codes "it's") ∷ string (codes "'") ∷ [])
unfolding Tokens tokens_from is_utf8 chars encode utf8_valid_len cut cut_number numbered number_length significant cut_quoted cut_symbol
tokens-7 = refl

tokens-8 : lexed (codes "'a''''b' 'x''' '''x'") ≡ Ok (string (codes "a''b") ∷ string (codes "x'") ∷ string (codes "'x") ∷ [])
unfolding Tokens tokens_from is_utf8 chars encode utf8_valid_len cut cut_number numbered number_length significant cut_quoted cut_symbol
tokens-8 = refl

tokens-9 : lexed (codes "\"" ++ 195 ∷ 164 ∷ 240 ∷ 159 ∷ 152 ∷ 128 ∷ codes "\"'" ++ 226 ∷ 130 ∷ 172 ∷ codes "''" ++ 195 ∷ 164 ∷ codes "'") ≡ Ok (quoted (195 ∷ 164 ∷ 240 ∷ 159 ∷ 152 ∷ 128 ∷ []) ∷ string (226 ∷ 130 ∷ 172 ∷ codes "'" ++ 195 ∷ 164 ∷ []) ∷ [])
unfolding Tokens tokens_from is_utf8 chars encode utf8_valid_len cut cut_number numbered number_length significant cut_quoted cut_symbol
tokens-9 = refl

tokens-10 : lexed (codes "1 1.50 .5 1.a") ≡ Ok (number (codes "1") ∷ number (codes "1.50") ∷ number (codes ".5") ∷ number (codes "1") ∷ symbol (codes ".") ∷ word (codes "a") ∷ [])
unfolding Tokens tokens_from is_utf8 chars encode utf8_valid_len cut cut_number numbered number_length significant cut_quoted cut_symbol
tokens-10 = refl

tokens-11 : lexed (codes "1..5 1.2.3") ≡ Ok (number (codes "1") ∷ symbol (codes ".") ∷ number (codes ".5") ∷ number (codes "1.2") ∷ number (codes ".3") ∷ [])
unfolding Tokens tokens_from is_utf8 chars encode utf8_valid_len cut cut_number numbered number_length significant cut_quoted cut_symbol
tokens-11 = refl

tokens-12 : lexed (codes "(),;.*+-/%=<>") ≡ Ok (symbol (codes "(") ∷ symbol (codes ")") ∷ symbol (codes ",") ∷ symbol (codes ";") ∷ symbol (codes ".") ∷ symbol (codes "*") ∷ symbol (codes "+") ∷ symbol (codes "-") ∷ symbol (codes "/") ∷ symbol (codes "%") ∷ symbol (codes "=") ∷ symbol (codes "<>") ∷ [])
unfolding Tokens tokens_from is_utf8 chars encode utf8_valid_len cut cut_number numbered number_length significant cut_quoted cut_symbol
tokens-12 = refl

tokens-13 : lexed (codes "<= >= != || < > <") ≡ Ok (symbol (codes "<=") ∷ symbol (codes ">=") ∷ symbol (codes "!=") ∷ symbol (codes "||") ∷ symbol (codes "<") ∷ symbol (codes ">") ∷ symbol (codes "<") ∷ [])
unfolding Tokens tokens_from is_utf8 chars encode utf8_valid_len cut cut_number numbered number_length significant cut_quoted cut_symbol
tokens-13 = refl

tokens-14 : lexed (codes "<=>==<>>") ≡ Ok (symbol (codes "<=") ∷ symbol (codes ">=") ∷ symbol (codes "=") ∷ symbol (codes "<>") ∷ symbol (codes ">") ∷ [])
unfolding Tokens tokens_from is_utf8 chars encode utf8_valid_len cut cut_number numbered number_length significant cut_quoted cut_symbol
tokens-14 = refl

tokens-15 : lexed (codes "0000000000012345678901234567890123456789012345678") ≡ Ok (number (codes "0000000000012345678901234567890123456789012345678") ∷ [])
unfolding Tokens tokens_from is_utf8 chars encode utf8_valid_len cut cut_number numbered number_length significant cut_quoted cut_symbol
tokens-15 = refl

tokens-16 : lexed (codes "0.00000000000000000000000000000000000001") ≡ Ok (number (codes "0.00000000000000000000000000000000000001") ∷ [])
unfolding Tokens tokens_from is_utf8 chars encode utf8_valid_len cut cut_number numbered number_length significant cut_quoted cut_symbol
tokens-16 = refl

-- ---- scripts that are refused at a place

refused-1 : lexed (codes "SELECT ?") ≡ Err (BadCharacter 7)
unfolding Tokens tokens_from is_utf8 chars encode utf8_valid_len cut cut_number numbered number_length significant cut_quoted cut_symbol
refused-1 = refl

refused-2 : lexed (codes "a " ++ 195 ∷ 164 ∷ codes " '") ≡ Err (BadCharacter 2)
unfolding Tokens tokens_from is_utf8 chars encode utf8_valid_len cut cut_number numbered number_length significant cut_quoted cut_symbol
refused-2 = refl

refused-3 : lexed (codes "a!b |") ≡ Err (BadCharacter 1)
unfolding Tokens tokens_from is_utf8 chars encode utf8_valid_len cut cut_number numbered number_length significant cut_quoted cut_symbol
refused-3 = refl

refused-4 : lexed (codes "12a") ≡ Err (BadCharacter 2)
unfolding Tokens tokens_from is_utf8 chars encode utf8_valid_len cut cut_number numbered number_length significant cut_quoted cut_symbol
refused-4 = refl

refused-5 : lexed (codes "1.5_") ≡ Err (BadCharacter 3)
unfolding Tokens tokens_from is_utf8 chars encode utf8_valid_len cut cut_number numbered number_length significant cut_quoted cut_symbol
refused-5 = refl

refused-6 : lexed (codes "a 'b''") ≡ Err (OpenQuote 2)
unfolding Tokens tokens_from is_utf8 chars encode utf8_valid_len cut cut_number numbered number_length significant cut_quoted cut_symbol
refused-6 = refl

refused-7 : lexed (codes "\"") ≡ Err (OpenQuote 0)
unfolding Tokens tokens_from is_utf8 chars encode utf8_valid_len cut cut_number numbered number_length significant cut_quoted cut_symbol
refused-7 = refl

refused-8 : lexed (codes "'--") ≡ Err (OpenQuote 0)
unfolding Tokens tokens_from is_utf8 chars encode utf8_valid_len cut cut_number numbered number_length significant cut_quoted cut_symbol
refused-8 = refl

refused-9 : lexed (codes " 123456789012345678901234567890123456789") ≡ Err (WideNumber 1)
unfolding Tokens tokens_from is_utf8 chars encode utf8_valid_len cut cut_number numbered number_length significant cut_quoted cut_symbol
refused-9 = refl

refused-10 : lexed (codes "12345678901234567890.1234567890123456789x") ≡ Err (WideNumber 0)
unfolding Tokens tokens_from is_utf8 chars encode utf8_valid_len cut cut_number numbered number_length significant cut_quoted cut_symbol
refused-10 = refl

refused-11 : lexed (codes "0.000000000000000000000000000000000000001") ≡ Err (WideNumber 0)
unfolding Tokens tokens_from is_utf8 chars encode utf8_valid_len cut cut_number numbered number_length significant cut_quoted cut_symbol
refused-11 = refl

-- ---- scripts that aren't UTF-8

no_utf8-1 : lexed (codes "? '" ++ 228 ∷ codes "'") ≡ Err (NotUtf8 3)
unfolding Tokens tokens_from is_utf8 chars encode utf8_valid_len cut cut_number numbered number_length significant cut_quoted cut_symbol
no_utf8-1 = refl

no_utf8-2 : lexed (codes "--" ++ 195 ∷ []) ≡ Err (NotUtf8 2)
unfolding Tokens tokens_from is_utf8 chars encode utf8_valid_len cut cut_number numbered number_length significant cut_quoted cut_symbol
no_utf8-2 = refl

no_utf8-3 : lexed (237 ∷ 160 ∷ 128 ∷ []) ≡ Err (NotUtf8 0)
unfolding Tokens tokens_from is_utf8 chars encode utf8_valid_len cut cut_number numbered number_length significant cut_quoted cut_symbol
no_utf8-3 = refl
