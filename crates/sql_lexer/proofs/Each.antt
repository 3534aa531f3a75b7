-- Each token is a part of its script, which is cut between characters.
use Rattle.std.proofs.Common.{◌≡◌, ℕ, zero, suc, ◌+◌, ◌-◌, ◌<◌, ◌≤◌, List, [], ◌∷◌, length, drop, Result, Ok, Err, All, Bool, true, false, ◌⊎◌, inl, inr, add-one, refl, sym, ap, ◌∙◌, arith, subst, length-drop}
use Rattle.std.specs.Prelude.{IsUtf8, nat_lt}
use Rattle.std.proofs.lemmas.List.{drop-drop}
use Rattle.std.proofs.lemmas.List.Elements.{All-nil, All-cons}
use Rattle.std.proofs.lemmas.Str.{IsUtf8-drop, IsUtf8-from_is_utf8, is_utf8-from_IsUtf8}
use Rattle.sql_lexer.specs.declared.token.Token.{Token}
use Rattle.sql_lexer.specs.declared.refused.LexRefused.{LexRefused}
use Rattle.sql_lexer.specs.declared.cut.Cut.{Cut}
use Rattle.sql_lexer.specs.declared.cut.Cut.TheVariants.{Blank, Found, Bad, Wide, Open}
use Rattle.sql_lexer.specs.Cuts.{cut}
use Rattle.sql_lexer.specs.Parts.{IsToken}
use Rattle.sql_lexer.specs.Tokens.{tokens_from, by_cut, before, most, Tokens}
use Rattle.sql_lexer.specs.declared.refused.LexRefused.TheVariants.{NotUtf8}
use Rattle.std.specs.Str.{is_utf8}
use Rattle.std.specs.Str.Lossy.{utf8_valid_len}
use Rattle.sql_lexer.proofs.Boundaries.{Bounded, bounded}
use Rattle.sql_lexer.proofs.Turns.{turn_at, turn_end}

before_is : (t : Token) (r : Result (List Token) LexRefused) (ts : List Token) → before t r ≡ Ok ts → (more : List Token) × (r ≡ Ok more) × (t ∷ more ≡ ts)
before_is t (Ok more) ts e = (more, refl, cc)
before_is t (Err x) ts e = absurd (cc)

tells : (b : Bool) → (b ≡ true) ⊎ (b ≡ false)
tells true = inl refl
tells false = inr refl

none_is : (P : Token → Type 0) (ts : List Token) → ◌≡◌ {A = Result (List Token) LexRefused} (Ok []) (Ok ts) → All P ts
none_is P [] e = All-nil P
none_is P (t ∷ ts) e = absurd (cc)

module _ (text : List ℕ) where
  abbrev pub Each : ℕ → ℕ → Type 0
  Each n at = (ts : List Token) → at ≤ length text → IsUtf8 (drop at text) → tokens_from n at (drop at text) ≡ Ok ts → All (IsToken text) ts

  -- by what stands at the place
  by : (n at : ℕ) (c : Cut) → ((k : ℕ) → Each n (at + k)) → at < length text → (u : IsUtf8 (drop at text)) → cut (drop at text) ≡ c → Bounded (drop at text) c → (ts : List Token) → by_cut (λ k. tokens_from n (at + k) (drop k (drop at text))) at c ≡ Ok ts → All (IsToken text) ts
  by n at (Blank k) later begins u is b ts e =
      let there : at + k ≤ length text = omega (arith, b.0, length-drop at text, begins) in
      later k ts there (subst IsUtf8 (drop-drop k at text) (IsUtf8-drop (drop at text) k u b)) (ap (tokens_from n (at + k)) (sym (drop-drop k at text)) ∙ e)
  by n at (Found kind k) later begins u is b ts e =
      let t : Token = record { kind = kind; from = at; to = at + k } in
      let m = before_is t (tokens_from n (at + k) (drop k (drop at text))) ts e in
      let there : at + k ≤ length text = omega (arith, b.0.0, length-drop at text, begins) in
      let rest = later k m.0 there (subst IsUtf8 (drop-drop k at text) (IsUtf8-drop (drop at text) k u b.0)) (ap (tokens_from n (at + k)) (sym (drop-drop k at text)) ∙ m.1) in
      let len : k ≡ at + k - at = omega arith in
      let this : IsToken text t = record { begins = begins; order = omega arith; inside = there; utf8 = u; found = is ∙ ap (Found kind) len } in
      subst (All (IsToken text)) m.2 (All-cons (IsToken text) t m.0 this rest)
  by n at (Bad k) later begins u is b ts e = absurd (cc)
  by n at Wide later begins u is b ts e = absurd (cc)
  by n at Open later begins u is b ts e = absurd (cc)

  step : (n at : ℕ) → ((k : ℕ) → Each n (at + k)) → Each (suc n) at
  step n at later ts h u e = with_rest (tells (nat_lt 0 (length (drop at text))))
    where
      with_rest : (nat_lt 0 (length (drop at text)) ≡ true) ⊎ (nat_lt 0 (length (drop at text)) ≡ false) → All (IsToken text) ts
      with_rest (inl some) =
          let more : 0 < length (drop at text) = grind arith in
          by n at (cut (drop at text)) later (omega (arith, length-drop at text, more)) u refl (bounded (drop at text) u more) ts (sym (turn_at (suc n) n at (drop at text) (sym (add-one n)) more) ∙ e)
      with_rest (inr none) = let no : length (drop at text) ≤ 0 = grind arith in none_is (IsToken text) ts (sym (turn_end (suc n) at (drop at text) no) ∙ e)

  pub each_from : (n at : ℕ) → Each n at
  unfolding tokens_from
  each_from zero at ts h u e = none_is (IsToken text) ts e
  each_from (suc n) at ts h u e = step n at (λ k. each_from n (at + k)) ts h u e

  pub each_token : IsUtf8 text → (ts : List Token) → tokens_from (length text) 0 text ≡ Ok ts → All (IsToken text) ts
  each_token u ts e = each_from (length text) 0 ts (omega arith) u e

-- ---- the tests before

pub tokens_are : (text : List ℕ) → length text ≤ most → IsUtf8 text → Tokens text ≡ tokens_from (length text) 0 text
unfolding Tokens
tokens_are text h u = let short : nat_lt most (length text) ≡ false = grind arith in rw (short, is_utf8-from_IsUtf8 text u) refl

not_so : (b : Bool) → (b ≡ true → ⊥) → b ≡ false
not_so true h = absurd (h refl)
not_so false h = refl

pub not_utf8 : (text : List ℕ) → length text ≤ most → ¬ (IsUtf8 text) → Tokens text ≡ Err (NotUtf8 (utf8_valid_len text))
unfolding Tokens
not_utf8 text h never =
    let short : nat_lt most (length text) ≡ false = grind arith in
    rw (short, not_so (is_utf8 text) (λ e. never (IsUtf8-from_is_utf8 text e))) refl
