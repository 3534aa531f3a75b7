-- The tokens of a text and the blanks between them are the text.
use Rattle.std.proofs.Common.{◌≡◌, ℕ, zero, suc, ◌+◌, ◌-◌, ◌<◌, ◌≤◌, List, [], ◌∷◌, length, drop, take, Result, Ok, Err, Bool, true, false, not, ◌⊎◌, inl, inr, refl, sym, ap, ◌∙◌, arith, subst, length-drop, add-one}
use Rattle.std.specs.Prelude.{IsUtf8, nat_lt, nat_eq, codes}
use Rattle.std.specs.List.{AllPass}
use Rattle.std.specs.Str.{is_utf8}
use Rattle.std.proofs.lemmas.List.{drop-drop}
use Rattle.std.proofs.lemmas.Str.{IsUtf8-drop, IsUtf8-from_is_utf8}
use Rattle.sql_lexer.specs.declared.bytes.Group.TheVariants as group
use Rattle.sql_lexer.specs.declared.token.Token.{Token}
use Rattle.sql_lexer.specs.declared.refused.LexRefused.{LexRefused}
use Rattle.sql_lexer.specs.declared.cut.Cut.{Cut}
use Rattle.sql_lexer.specs.declared.cut.Cut.TheVariants.{Blank, Found, Bad, Wide, Open}
use Rattle.sql_lexer.specs.Bytes.{is_space, run}
use Rattle.sql_lexer.specs.Cuts.{first_of, begins_comment, cut}
use Rattle.sql_lexer.specs.Parts.{IsToken}
use Rattle.sql_lexer.specs.Tokens.{tokens_from, by_cut, before, most, Tokens}
use Rattle.sql_lexer.proofs.Boundaries.{Bounded, bounded}
use Rattle.sql_lexer.proofs.Each.{tokens_are}
use Rattle.sql_lexer.proofs.Turns.{turn_at, turn_end}
use Rattle.lexer_laws.specs.Covers.{Takes, part, IsBlank, IsGap, Covers, IsRefusedAt}
use Rattle.lexer_laws.proofs.Cutting.{Blanks, good}
use Rattle.lexer_laws.proofs.Runs.{run_all, run_ends}

tells : (b : Bool) → (b ≡ true) ⊎ (b ≡ false)
tells true = inl refl
tells false = inr refl

-- ---- blanks

-- two dashes begin a comment
dashes : (bs : List ℕ) → begins_comment bs ≡ true → take 2 (take (run group.Comment bs) bs) ≡ codes "--"
dashes [] e = absurd (cc)
dashes (b ∷ []) e = absurd (grind arith)
dashes (b ∷ c ∷ bs) e =
    let one : b ≡ 45 = grind arith in
    let two : c ≡ 45 = grind arith in
    rw (one, two) (front (run group.Comment bs))
  where
    front : (n : ℕ) → take 2 (take (n + 1 + 1) (45 ∷ 45 ∷ bs)) ≡ codes "--"
    front n = rw (add-one (n + 1), add-one n) refl

module _ (text : List ℕ) (at n : ℕ) (begins : at < length text) (within : n ≤ length (drop at text)) where
  part_is : part text at (at + n) ≡ take n (drop at text)
  part_is = ap (λ (k : ℕ). take k (drop at text)) (omega arith)

  blank : Blanks (drop at text) (Blank n) → IsBlank text at (at + n)
  blank (inl h) = inl (subst (AllPass is_space) (sym (part_is ∙ ap (λ (k : ℕ). take k (drop at text)) h.1)) (run_all group.Space (drop at text)))
  blank (inr h) =
      let same : part text at (at + n) ≡ take (run group.Comment (drop at text)) (drop at text) = part_is ∙ ap (λ (k : ℕ). take k (drop at text)) h.1 in
      inr (record {
        begins = ap (take 2) same ∙ dashes (drop at text) h.0;
        line = subst (AllPass (λ b. not (nat_eq b 10))) (sym same) (run_all group.Comment (drop at text));
        ends = over (tells (nat_lt n (length (drop at text))));
      })
    where
      line_feed : (b : ℕ) → not (nat_eq b 10) ≡ false → b ≡ 10
      line_feed b e = grind arith

      over : (nat_lt n (length (drop at text)) ≡ true) ⊎ (nat_lt n (length (drop at text)) ≡ false) → (at + n ≡ length text) ⊎ (first_of (drop (at + n) text) ≡ 10)
      over (inl e) =
          let more : run group.Comment (drop at text) < length (drop at text) = grind (arith, h.1) in
          let stop : not (nat_eq (first_of (drop (run group.Comment (drop at text)) (drop at text))) 10) ≡ false = run_ends group.Comment (drop at text) more in
          let place : drop (run group.Comment (drop at text)) (drop at text) ≡ drop (at + n) text = ap (λ (k : ℕ). drop k (drop at text)) (sym h.1) ∙ drop-drop n at text in
          inr (ap first_of (sym place) ∙ line_feed _ stop)
      over (inr e) = let all : length (drop at text) ≤ n = grind arith in inl (omega (arith, all, within, begins, length-drop at text))

-- ---- the whole text

module _ (text : List ℕ) where
  -- what is said of the answer from a place on
  abbrev pub Outcome : ℕ → Result (List Token) LexRefused → Type 0
  Outcome at (Ok ts) = Covers text at ts (length text)
  Outcome at (Err e) = (ts : List Token) × (stop : ℕ) × Covers text at ts stop × IsRefusedAt text stop e

  longer : (from at to : ℕ) → from < at → IsBlank text from at → IsGap text at to → IsGap text from to
  longer from at to h b g = (at ∷ g.0, (h, b, g.1))

  covers_blank : (from at to : ℕ) (ts : List Token) → from < at → IsBlank text from at → Covers text at ts to → Covers text from ts to
  covers_blank from at to [] h b c = longer from at to h b c
  covers_blank from at to (t ∷ ts) h b c = (longer from at t.from h b c.0, c.1, c.2, c.3)

  behind_blank : (from at : ℕ) (r : Result (List Token) LexRefused) → from < at → IsBlank text from at → Outcome at r → Outcome from r
  behind_blank from at (Ok ts) h b o = covers_blank from at (length text) ts h b o
  behind_blank from at (Err e) h b o = (o.0, o.1, covers_blank from at o.1 o.0 h b o.2, o.3)

  behind_token : (t : Token) (r : Result (List Token) LexRefused) → IsToken text t → t.from < t.to → Outcome t.to r → Outcome t.from (before t r)
  behind_token t (Ok ts) is h o = (([], refl), is, h, o)
  behind_token t (Err e) is h o = (t ∷ o.0, o.1, (([], refl), is, h, o.2), o.3)

  abbrev From : ℕ → ℕ → Type 0
  From n at = at ≤ length text → length text ≤ n + at → IsUtf8 (drop at text) → Outcome at (tokens_from n at (drop at text))

  -- by what stands at the place
  by : (n at : ℕ) (c : Cut) → ((k : ℕ) → From n (at + k)) → at < length text → length text ≤ suc n + at → IsUtf8 (drop at text) → cut (drop at text) ≡ c
      → Takes (length (drop at text)) c → Blanks (drop at text) c → Bounded (drop at text) c → Outcome at (by_cut (λ k. tokens_from n (at + k) (drop k (drop at text))) at c)
  by n at (Blank k) later begins enough u is takes blanks b =
      let there : at + k ≤ length text = omega (arith, takes.1, length-drop at text, begins) in
      let rest = later k there (omega (arith, takes.0, enough)) (subst IsUtf8 (drop-drop k at text) (IsUtf8-drop (drop at text) k u b)) in
      let same : tokens_from n (at + k) (drop k (drop at text)) ≡ tokens_from n (at + k) (drop (at + k) text) = ap (tokens_from n (at + k)) (drop-drop k at text) in
      rw same (behind_blank at (at + k) _ (omega (arith, takes.0)) (blank text at k begins takes.1 blanks) rest)
  by n at (Found kind k) later begins enough u is takes blanks b =
      let there : at + k ≤ length text = omega (arith, takes.1, length-drop at text, begins) in
      let rest = later k there (omega (arith, takes.0, enough)) (subst IsUtf8 (drop-drop k at text) (IsUtf8-drop (drop at text) k u b.0)) in
      let same : tokens_from n (at + k) (drop k (drop at text)) ≡ tokens_from n (at + k) (drop (at + k) text) = ap (tokens_from n (at + k)) (drop-drop k at text) in
      let t : Token = record { kind = kind; from = at; to = at + k } in
      let len : k ≡ at + k - at = omega arith in
      let token : IsToken text t = record { begins = begins; order = omega arith; inside = there; utf8 = u; found = is ∙ ap (Found kind) len } in
      rw same (behind_token t _ token (omega (arith, takes.0)) rest)
  by n at (Bad k) later begins enough u is takes blanks b = ([], at, ([], refl), (begins, (k, is, refl)))
  by n at Wide later begins enough u is takes blanks b = ([], at, ([], refl), (begins, (is, refl)))
  by n at Open later begins enough u is takes blanks b = ([], at, ([], refl), (begins, (is, refl)))

  at_end : (n at : ℕ) → at ≤ length text → length text ≤ at → Outcome at (tokens_from n at (drop at text))
  at_end n at h g =
      let none : tokens_from n at (drop at text) ≡ Ok [] = turn_end n at (drop at text) (omega (arith, length-drop at text, g)) in
      rw none ([], omega (arith, h, g))

  step : (n at : ℕ) → ((k : ℕ) → From n (at + k)) → From (suc n) at
  step n at later h enough u = with_rest (tells (nat_lt at (length text)))
    where
      with_rest : (nat_lt at (length text) ≡ true) ⊎ (nat_lt at (length text) ≡ false) → Outcome at (tokens_from (suc n) at (drop at text))
      with_rest (inl e) =
          let begins : at < length text = grind arith in
          let some : 0 < length (drop at text) = omega (arith, length-drop at text, begins) in
          let turn = turn_at (suc n) n at (drop at text) (sym (add-one n)) some in
          let g = good (drop at text) some in
          rw turn (by n at (cut (drop at text)) later begins enough u refl g.0 g.1 (bounded (drop at text) u some))
      with_rest (inr e) = let over : length text ≤ at = grind arith in at_end (suc n) at h over

  outcome : (n at : ℕ) → From n at
  outcome zero at h enough u = at_end zero at h (omega (arith, enough))
  outcome (suc n) at h enough u = step n at (λ k. outcome n (at + k)) h enough u

  pub front : (e : LexRefused) → length text ≤ most → IsUtf8 text → Tokens text ≡ Err e → (ts : List Token) × (at : ℕ) × Covers text 0 ts at × IsRefusedAt text at e
  front e h u is = subst (Outcome 0) (sym (tokens_are text h u) ∙ is) (outcome (length text) 0 (omega arith) (omega arith) u)

  -- a text with tokens has passed both tests
  tested : (ts : List Token) → Tokens text ≡ Ok ts → (length text ≤ most) × IsUtf8 text
  unfolding Tokens
  tested ts e = by_tests (nat_lt most (length text)) (is_utf8 text) refl refl e
    where
      by_tests : (t s : Bool) → nat_lt most (length text) ≡ t → is_utf8 text ≡ s → Tokens text ≡ Ok ts → (length text ≤ most) × IsUtf8 text
      by_tests true s long u e = absurd (grind (arith, long, e))
      by_tests false true short u e = (grind arith, IsUtf8-from_is_utf8 text u)
      by_tests false false short u e = absurd (grind (arith, short, u, e))

  pub whole : (ts : List Token) → Tokens text ≡ Ok ts → Covers text 0 ts (length text)
  whole ts is =
      let t = tested ts is in
      subst (Outcome 0) (sym (tokens_are text t.0 t.1) ∙ is) (outcome (length text) 0 (omega arith) (omega arith) t.1)
