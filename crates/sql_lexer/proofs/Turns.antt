-- The tokens of a text, a turn at a time.
use Rattle.std.proofs.Common.{◌≡◌, ℕ, zero, suc, ◌+◌, ◌<◌, ◌≤◌, List, [], ◌∷◌, ◌++◌, length, drop, Result, Ok, Err, refl, sym, ap, ◌∙◌, arith, append_assoc, append-nil, length-drop}
use Rattle.std.proofs.lemmas.List.{drop-drop}
use Rattle.sql_lexer.specs.declared.token.TokenKind.{TokenKind}
use Rattle.sql_lexer.specs.declared.cut.Cut.TheVariants.{Blank, Found, Bad, Wide, Open}
use Rattle.sql_lexer.specs.declared.token.Token.{Token}
use Rattle.sql_lexer.specs.declared.refused.LexRefused.{LexRefused}
use Rattle.sql_lexer.specs.declared.refused.LexRefused.TheVariants.{BadCharacter, WideNumber, OpenQuote}
use Rattle.sql_lexer.specs.Cuts.{cut}
use Rattle.sql_lexer.specs.Tokens.{tokens_from, by_cut, before}

abbrev pub in_front : List Token → Result (List Token) LexRefused → Result (List Token) LexRefused
in_front front (Ok ts) = Ok (front ++ ts)
in_front front (Err e) = Err e

pub in_front-before : (front : List Token) (t : Token) (r : Result (List Token) LexRefused) → in_front front (before t r) ≡ in_front (front ++ t ∷ []) r
in_front-before front t (Ok ts) = ap Ok (sym (append_assoc front (t ∷ []) ts))
in_front-before front t (Err e) = refl

pub turn_end : (n at : ℕ) (bs : List ℕ) → length bs ≤ 0 → tokens_from n at bs ≡ Ok []
unfolding tokens_from
turn_end zero at bs h = refl
turn_end (suc n) at [] h = refl
turn_end (suc n) at (b ∷ bs) h = absurd (omega arith)

pub turn_at : (n m at : ℕ) (bs : List ℕ) → n ≡ m + 1 → 0 < length bs → tokens_from n at bs ≡ by_cut (λ k. tokens_from m (at + k) (drop k bs)) at (cut bs)
unfolding tokens_from
turn_at zero m at bs e h = absurd (omega arith)
turn_at (suc n) m at [] e h = absurd (omega arith)
turn_at (suc n) m at (b ∷ bs) e h = let k : n ≡ m = omega arith in ap (λ (i : ℕ). by_cut (λ j. tokens_from i (at + j) (drop j (b ∷ bs))) at (cut (b ∷ bs))) k

module _ (text : List ℕ) where
  abbrev pub state : List Token → ℕ → ℕ → Result (List Token) LexRefused
  state front n at = in_front front (tokens_from n at (drop at text))

  pub over : (front : List Token) (n at : ℕ) → length text ≤ at → state front n at ≡ Ok front
  over front n at h = ap (in_front front) (turn_end n at (drop at text) (omega (arith, length-drop at text))) ∙ ap Ok (append-nil front)

  pub spent : (front : List Token) (at : ℕ) → state front 0 at ≡ Ok front
  unfolding tokens_from
  spent front at = ap Ok (append-nil front)

  one : (front : List Token) (n m at : ℕ) → n ≡ m + 1 → at < length text → state front n at ≡ in_front front (by_cut (λ k. tokens_from m (at + k) (drop k (drop at text))) at (cut (drop at text)))
  one front n m at e h = ap (in_front front) (turn_at n m at (drop at text) e (omega (arith, length-drop at text)))

  pub bad_at : (front : List Token) (n m at k : ℕ) → n ≡ m + 1 → at < length text → cut (drop at text) ≡ Bad k → state front n at ≡ Err (BadCharacter (at + k))
  bad_at front n m at k e h c = one front n m at e h ∙ ap (λ x. in_front front (by_cut (λ j. tokens_from m (at + j) (drop j (drop at text))) at x)) c

  pub wide_at : (front : List Token) (n m at : ℕ) → n ≡ m + 1 → at < length text → cut (drop at text) ≡ Wide → state front n at ≡ Err (WideNumber at)
  wide_at front n m at e h c = one front n m at e h ∙ ap (λ x. in_front front (by_cut (λ j. tokens_from m (at + j) (drop j (drop at text))) at x)) c

  pub open_at : (front : List Token) (n m at : ℕ) → n ≡ m + 1 → at < length text → cut (drop at text) ≡ Open → state front n at ≡ Err (OpenQuote at)
  open_at front n m at e h c = one front n m at e h ∙ ap (λ x. in_front front (by_cut (λ j. tokens_from m (at + j) (drop j (drop at text))) at x)) c

  pub blank_at : (front : List Token) (n m at k : ℕ) → n ≡ m + 1 → at < length text → cut (drop at text) ≡ Blank k → state front n at ≡ state front m (at + k)
  blank_at front n m at k e h c = one front n m at e h ∙ ap (λ x. in_front front (by_cut (λ j. tokens_from m (at + j) (drop j (drop at text))) at x)) c ∙ ap (λ (x : List ℕ). in_front front (tokens_from m (at + k) x)) (drop-drop k at text)

  pub found_at : (front : List Token) (n m at k : ℕ) (kind : TokenKind) → n ≡ m + 1 → at < length text → cut (drop at text) ≡ Found kind k
      → state front n at ≡ state (front ++ record { kind = kind; from = at; to = at + k } ∷ []) m (at + k)
  found_at front n m at k kind e h c = one front n m at e h ∙ ap (λ x. in_front front (by_cut (λ j. tokens_from m (at + j) (drop j (drop at text))) at x)) c
      ∙ in_front-before front (record { kind = kind; from = at; to = at + k }) (tokens_from m (at + k) (drop k (drop at text)))
      ∙ ap (λ (x : List ℕ). in_front (front ++ record { kind = kind; from = at; to = at + k } ∷ []) (tokens_from m (at + k) x)) (drop-drop k at text)
