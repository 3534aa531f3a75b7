-- What tokens are parsed to is what they spell, and their refusals.
use Rattle.std.proofs.Common.{◌≡◌, ◌≢◌, ℕ, List, [], ◌∷◌, length, Result, Ok, Err, IfOk, refl, sym, ap, ◌∙◌, subst}
use Rattle.sql_lexer.specs.declared.token.Token as lexed
use Rattle.sql_grammar.specs.declared.ast.Script.{Script}
use Rattle.sql_grammar.specs.declared.refused.SyntaxRefused.{SyntaxRefused}
use Rattle.sql_grammar.specs.declared.refused.SyntaxRefused.TheVariants as refused
use Rattle.sql_grammar.specs.Class.{Tokens}
use Rattle.sql_grammar.specs.Reader.{Stop, unexpected, too_deep, too_many, Read, done, stop}
use Rattle.sql_grammar.specs.Reading.{script_at}
use Rattle.sql_grammar.specs.Grammar.{ScriptAt, Spells, SpellsWithin}
use Rattle.sql_grammar.specs.Refusals.{Refuses, Passes, IsRefused, IsPassed, Gives, place_of}
use Rattle.sql_grammar.specs.Parsed.{tokens_of, read, place_or, answer, parsed, Answers}
use Rattle.sql_grammar.proofs.Whole.{read_spelled, spelled_read, at_most_one, read_refused, read_passes}
use Rattle.sql_grammar.proofs.Knot.{script_s, script_laws}

-- ---- readings of tokens

read_spells : (n : ℕ) (ts rest : Tokens) (s : Script) → read ts ≡ done s n rest → SpellsWithin s ts
unfolding read
read_spells n ts rest s e = (n, read_spelled ScriptAt script_at script_s script_laws refl 0 n ts s rest e)

spells_read : (n : ℕ) (ts : Tokens) (s : Script) → ScriptAt 0 0 s n ts → read ts ≡ done s n []
unfolding read
spells_read n ts s h = spelled_read ScriptAt script_at script_s script_laws refl 0 n ts s h

read_refuses : (ts rest : Tokens) → read ts ≡ stop unexpected rest → Refuses ScriptAt ts rest
unfolding read
read_refuses ts rest e = read_refused ScriptAt script_at script_s script_laws refl 0 ts rest e

read_limits : (k : Stop) → k ≢ unexpected → (ts rest : Tokens) → read ts ≡ stop k rest → Passes ScriptAt 0 ts rest
unfolding read
read_limits k ne ts rest e = read_passes ScriptAt script_at script_s script_laws refl k ne 0 ts rest e

-- At most one script is spelled, with limits left aside.
pub spelled_once : (ts : Tokens) (a b : Script) → Spells a ts → Spells b ts → a ≡ b
spelled_once ts a b h k = at_most_one ScriptAt script_at script_s script_laws refl ts a b h k

-- ---- what a reading comes to

same_place : (text : List ℕ) (rest : Tokens) → place_or (length text) rest ≡ place_of text rest
same_place text [] = refl
same_place text (t ∷ rest) = refl

found : (end : ℕ) (r : Read Script) (s : Script) → answer end r ≡ Ok s → (n : ℕ) × (rest : Tokens) × (r ≡ done s n rest)
found end (done x n rest) s e = (n, rest, let q : x ≡ s = cc in ap (λ (y : Script). done y n rest) q)
found end (stop unexpected rest) s e = absurd (cc)
found end (stop too_deep rest) s e = absurd (cc)
found end (stop too_many rest) s e = absurd (cc)

unexpected_at : (end : ℕ) (r : Read Script) (place : ℕ) → answer end r ≡ Err (refused.Unexpected place) → (rest : Tokens) × (place ≡ place_or end rest) × (r ≡ stop unexpected rest)
unexpected_at end (done x n rest) place e = absurd (cc)
unexpected_at end (stop unexpected rest) place e = (rest, cc, refl)
unexpected_at end (stop too_deep rest) place e = absurd (cc)
unexpected_at end (stop too_many rest) place e = absurd (cc)

too_deep_at : (end : ℕ) (r : Read Script) (place : ℕ) → answer end r ≡ Err (refused.TooDeep place) → (rest : Tokens) × (place ≡ place_or end rest) × (r ≡ stop too_deep rest)
too_deep_at end (done x n rest) place e = absurd (cc)
too_deep_at end (stop unexpected rest) place e = absurd (cc)
too_deep_at end (stop too_deep rest) place e = (rest, cc, refl)
too_deep_at end (stop too_many rest) place e = absurd (cc)

too_many_at : (end : ℕ) (r : Read Script) (place : ℕ) → answer end r ≡ Err (refused.TooMany place) → (rest : Tokens) × (place ≡ place_or end rest) × (r ≡ stop too_many rest)
too_many_at end (done x n rest) place e = absurd (cc)
too_many_at end (stop unexpected rest) place e = absurd (cc)
too_many_at end (stop too_deep rest) place e = absurd (cc)
too_many_at end (stop too_many rest) place e = (rest, cc, refl)

deep_differs : too_deep ≢ unexpected
deep_differs e = absurd (cc)

many_differs : too_many ≢ unexpected
many_differs e = absurd (cc)

-- ---- what the tokens of a text are parsed to

module _ (text : List ℕ) (tokens : List lexed.Token) where
  pub parsed_spelled : (s : Script) → parsed text tokens ≡ Ok s → SpellsWithin s (tokens_of text tokens)
  parsed_spelled s e = let k = found (length text) (read (tokens_of text tokens)) s e in read_spells k.0 (tokens_of text tokens) k.1 s k.2

  pub spelled_parsed : (s : Script) → SpellsWithin s (tokens_of text tokens) → parsed text tokens ≡ Ok s
  spelled_parsed s h = ap (answer (length text)) (spells_read h.0 (tokens_of text tokens) s h.1)

  pub parsed_refused : (place : ℕ) → parsed text tokens ≡ Err (refused.Unexpected place) → IsRefused ScriptAt text (tokens_of text tokens) place
  parsed_refused place e =
      let k = unexpected_at (length text) (read (tokens_of text tokens)) place e in
      record { rest = k.0; at = k.1 ∙ same_place text k.0; refuses = read_refuses (tokens_of text tokens) k.0 k.2 }

  pub parsed_deep : (place : ℕ) → parsed text tokens ≡ Err (refused.TooDeep place) → IsPassed ScriptAt text (tokens_of text tokens) place
  parsed_deep place e =
      let k = too_deep_at (length text) (read (tokens_of text tokens)) place e in
      record { rest = k.0; at = k.1 ∙ same_place text k.0; passes = read_limits too_deep deep_differs (tokens_of text tokens) k.0 k.2 }

  pub parsed_many : (place : ℕ) → parsed text tokens ≡ Err (refused.TooMany place) → IsPassed ScriptAt text (tokens_of text tokens) place
  parsed_many place e =
      let k = too_many_at (length text) (read (tokens_of text tokens)) place e in
      record { rest = k.0; at = k.1 ∙ same_place text k.0; passes = read_limits too_many many_differs (tokens_of text tokens) k.0 k.2 }

  -- ---- what a call says that answers so

  pub answers_spelled : (r : Result Script SyntaxRefused) → Answers r (parsed text tokens) → IfOk r (λ s. SpellsWithin s (tokens_of text tokens))
  answers_spelled (Ok s) h = parsed_spelled s h
  answers_spelled (Err e) h = tt

  pub answers_sole : (r : Result Script SyntaxRefused) → Answers r (parsed text tokens) → IfOk r (λ s. (other : Script) → Spells other (tokens_of text tokens) → other ≡ s)
  answers_sole (Ok s) h = λ other k. let q = parsed_spelled s h in spelled_once (tokens_of text tokens) other s k (0, q.0, q.1)
  answers_sole (Err e) h = tt

  pub answers_only : (r : Result Script SyntaxRefused) → Answers r (parsed text tokens) → (s : Script) → SpellsWithin s (tokens_of text tokens) → Gives s r
  answers_only (Ok x) h s k = let q : Ok x ≡ Ok s = sym h ∙ spelled_parsed s k in cc
  answers_only (Err refused.NoMemory) h s k = tt
  answers_only (Err (refused.Unexpected p)) h s k = let q : Err (refused.Unexpected p) ≡ Ok s = sym h ∙ spelled_parsed s k in absurd (cc)
  answers_only (Err (refused.TooDeep p)) h s k = let q : Err (refused.TooDeep p) ≡ Ok s = sym h ∙ spelled_parsed s k in absurd (cc)
  answers_only (Err (refused.TooMany p)) h s k = let q : Err (refused.TooMany p) ≡ Ok s = sym h ∙ spelled_parsed s k in absurd (cc)

  pub answers_unexpected : (r : Result Script SyntaxRefused) → Answers r (parsed text tokens) → (place : ℕ) → r ≡ Err (refused.Unexpected place) → IsRefused ScriptAt text (tokens_of text tokens) place
  answers_unexpected r h place e = parsed_refused place (subst (λ (x : Result Script SyntaxRefused). Answers x (parsed text tokens)) e h)

  pub answers_deep : (r : Result Script SyntaxRefused) → Answers r (parsed text tokens) → (place : ℕ) → r ≡ Err (refused.TooDeep place) → IsPassed ScriptAt text (tokens_of text tokens) place
  answers_deep r h place e = parsed_deep place (subst (λ (x : Result Script SyntaxRefused). Answers x (parsed text tokens)) e h)

  pub answers_many : (r : Result Script SyntaxRefused) → Answers r (parsed text tokens) → (place : ℕ) → r ≡ Err (refused.TooMany place) → IsPassed ScriptAt text (tokens_of text tokens) place
  answers_many r h place e = parsed_many place (subst (λ (x : Result Script SyntaxRefused). Answers x (parsed text tokens)) e h)
