-- A text between quotes is a text, and stays one without the second of two quotes in a row.
use Rattle.std.proofs.Common.{◌≡◌, ℕ, zero, suc, ◌-◌, ◌<◌, ◌≤◌, List, [], ◌∷◌, ◌++◌, length, take, drop, Bool, true, false, ◌&&◌, ◌⊎◌, inl, inr, refl, sym, ap, ◌∙◌, arith, subst, length-drop, length-take, append-nil, get_or}
use Rattle.std.specs.Prelude.{nat_eq, IsUtf8}
use Rattle.std.proofs.lemmas.Str.{IsUtf8-append, IsUtf8-nil, IsUtf8-encode, encode_ascii, IsUtf8-take, inside_one, length-encode, len_utf8_bounds}
use Rattle.std.proofs.lemmas.Bool.{eqb-true, eq-eqb}
use Rattle.std.proofs.lemmas.List.{take-take}
use lib.Utf8.{scalars, encodes, encode, scalar}
use Rattle.sql_lexer.specs.declared.token.Token.{Token}
use Rattle.sql_lexer.specs.declared.token.TokenKind.TheVariants as kind
use Rattle.sql_lexer.specs.declared.cut.Cut.TheVariants.{Found}
use Rattle.sql_lexer.specs.Texts.{undoubled, between_quotes}
use Rattle.sql_lexer.specs.Parts.{IsToken, bytes_of}
use Rattle.sql_lexer.proofs.Boundaries.{Bounded, bounded, IsEnclosed, Encloses}

-- no byte is the quote
abbrev Without : ℕ → List ℕ → Type 0
Without q [] = Unit {0}
Without q (x ∷ xs) = (nat_eq x q ≡ false) × Without q xs

not_so : (b : Bool) → (b ≡ true → ⊥) → b ≡ false
not_so true h = absurd (h refl)
not_so false h = refl

without_from : (q : ℕ) (xs : List ℕ) → ((k : ℕ) → k < length xs → get_or xs k 0 ≡ q → ⊥) → Without q xs
without_from q [] h = tt
without_from q (x ∷ xs) h = (not_so (nat_eq x q) (λ e. h 0 (omega arith) (eqb-true x q e)), without_from q xs (λ k l. h (suc k) (omega (arith, l))))

-- what has no quote stays
passes : (q : ℕ) (xs rest : List ℕ) → Without q xs → undoubled q false (xs ++ rest) ≡ xs ++ undoubled q false rest
passes q [] rest h = refl
passes q (x ∷ xs) rest h = rw h.0 (ap (λ ys. x ∷ ys) (passes q xs rest h.1))

passes_seen : (q : ℕ) (xs rest : List ℕ) (seen : Bool) → Without q xs → 0 < length xs → undoubled q seen (xs ++ rest) ≡ xs ++ undoubled q false rest
passes_seen q [] rest seen h some = absurd (omega arith)
passes_seen q (x ∷ xs) rest true h some = rw h.0 (ap (λ ys. x ∷ ys) (passes q xs rest h.1))
passes_seen q (x ∷ xs) rest false h some = passes q (x ∷ xs) rest h

tells : (b : Bool) → (b ≡ true) ⊎ (b ≡ false)
tells true = inl refl
tells false = inr refl

and_left : (a b : Bool) → (a && b) ≡ true → a ≡ true
and_left true b e = refl
and_left false b e = absurd (cc)

and_right : (a b : Bool) → (a && b) ≡ true → b ≡ true
and_right true b e = e
and_right false b e = absurd (cc)

module _ (q : ℕ) (ascii : q < 128) where
  -- a character that isn't the quote has no quote in it
  other : (c : ℕ) → nat_eq c q ≡ false → Without q (encode c)
  other c e = without_from q (encode c) (λ k l is.
      let same : c ≡ get_or (encode c) k 0 = inside_one c [] (encode c) k (sym (append-nil (encode c))) l (omega (arith, is, ascii)) in
      let t : nat_eq c q ≡ true = eq-eqb c q (same ∙ is) in
      both (nat_eq c q) t e)
    where
      both : (b : Bool) → b ≡ true → b ≡ false → ⊥
      both true x y = cc
      both false x y = cc

  undoubled_utf8 : (cs : List ℕ) (seen : Bool) → scalars cs ≡ true → IsUtf8 (undoubled q seen (encodes cs))
  undoubled_utf8 [] seen h = IsUtf8-nil
  undoubled_utf8 (c ∷ cs) seen h = by (nat_eq c q) refl seen (undoubled_utf8 cs true (and_right (scalar c) (scalars cs) h)) (undoubled_utf8 cs false (and_right (scalar c) (scalars cs) h))
    where
      character : IsUtf8 (encode c)
      character = IsUtf8-encode c (and_left (scalar c) (scalars cs) h)

      quote : nat_eq c q ≡ true → (s : Bool) → IsUtf8 (undoubled q true (encodes cs)) → IsUtf8 (undoubled q false (encodes cs)) → IsUtf8 (undoubled q s (c ∷ encodes cs))
      quote e true r f = rw e f
      quote e false r f = rw e (IsUtf8-append (c ∷ []) (undoubled q true (encodes cs)) (subst IsUtf8 (encode_ascii c (omega (arith, eqb-true c q e, ascii))) character) r)

      by : (t : Bool) → nat_eq c q ≡ t → (s : Bool) → IsUtf8 (undoubled q true (encodes cs)) → IsUtf8 (undoubled q false (encodes cs)) → IsUtf8 (undoubled q s (encode c ++ encodes cs))
      by true e s r f = rw (encode_ascii c (omega (arith, eqb-true c q e, ascii))) (quote e s r f)
      by false e s r f =
          let some : 0 < length (encode c) = omega (arith, length-encode c, (len_utf8_bounds c).0) in
          rw (passes_seen q (encode c) (encodes cs) s (other c e) some) (IsUtf8-append (encode c) (undoubled q false (encodes cs)) character f)

  pub stays_utf8 : (bs : List ℕ) → IsUtf8 bs → IsUtf8 (undoubled q false bs)
  stays_utf8 bs u = subst (λ x. IsUtf8 (undoubled q false x)) u.1.1 (undoubled_utf8 u.0 false u.1.0)

-- ---- tokens

take_of_cut : (n : ℕ) (bs : List ℕ) → 2 ≤ n → take (n - 2) (drop 1 (take n bs)) ≡ take (n - 2) (drop 1 bs)
take_of_cut zero bs h = absurd (omega arith)
take_of_cut (suc n) [] h = refl
take_of_cut (suc n) (b ∷ bs) h = take-take (suc n - 2) n bs (omega arith)

module _ (text : List ℕ) (t : Token) (h : IsToken text t) where
  pub long : length (bytes_of text t) ≡ t.to - t.from
  long = simp (length-take, length-drop) (omega (arith, h.order, h.inside))

  parts : Bounded (drop t.from text) (Found t.kind (t.to - t.from))
  parts = let some : 0 < length (drop t.from text) = omega (arith, length-drop t.from text, h.begins) in subst (Bounded (drop t.from text)) h.found (bounded (drop t.from text) h.utf8 some)

  pub is_text : IsUtf8 (bytes_of text t)
  is_text = IsUtf8-take (drop t.from text) (t.to - t.from) h.utf8 parts.0

  enclosed : IsEnclosed (drop t.from text) (t.to - t.from) → (2 ≤ length (bytes_of text t)) × IsUtf8 (between_quotes (bytes_of text t))
  enclosed e =
      let n = t.to - t.from in
      let two : 2 ≤ n = e.0 in
      let same : take (length (bytes_of text t) - 2) (drop 1 (bytes_of text t)) ≡ take (n - 2) (drop 1 (drop t.from text)) = rw long (take_of_cut n (drop t.from text) two) in
      (rw long two, subst IsUtf8 (sym same) e.1)

  pub is_enclosed : (t.kind ≡ kind.Quoted) ⊎ (t.kind ≡ kind.Str) → (2 ≤ length (bytes_of text t)) × IsUtf8 (between_quotes (bytes_of text t))
  is_enclosed (inl e) = enclosed (subst (λ k. Encloses k (drop t.from text) (t.to - t.from)) e parts.1)
  is_enclosed (inr e) = enclosed (subst (λ k. Encloses k (drop t.from text) (t.to - t.from)) e parts.1)
