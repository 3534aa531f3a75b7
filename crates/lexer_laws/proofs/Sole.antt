-- Tokens that cover a text are its tokens.
use Rattle.std.proofs.Common.{◌≡◌, ℕ, zero, suc, ◌+◌, ◌-◌, ◌<◌, ◌≤◌, List, [], ◌∷◌, ◌++◌, length, drop, take, Result, Ok, Bool, true, false, ◌&&◌, if◌then◌else◌, ◌⊎◌, inl, inr, refl, sym, ap, ◌∙◌, arith, length-drop, length-take, take-append-drop}
use Rattle.std.specs.Prelude.{IsUtf8, nat_eq, codes}
use Rattle.std.specs.List.{AllPass}
use Rattle.std.proofs.lemmas.List.{drop-drop, drop_all}
use Rattle.std.proofs.lemmas.List.Elements.{All-head, All-tail}
use Rattle.sql_lexer.specs.declared.bytes.Group.{Group}
use Rattle.sql_lexer.specs.declared.bytes.Group.TheVariants as group
use Rattle.sql_lexer.specs.declared.token.Token.{Token}
use Rattle.sql_lexer.specs.declared.refused.LexRefused.{LexRefused}
use Rattle.sql_lexer.specs.declared.cut.Cut.TheVariants.{Blank}
use Rattle.sql_lexer.specs.Bytes.{is_space, is_in, run}
use Rattle.sql_lexer.specs.Cuts.{first_of, second_of, begins_comment, cut}
use Rattle.sql_lexer.specs.Parts.{IsToken}
use Rattle.sql_lexer.specs.Tokens.{by_cut, before, most, Tokens}
use Rattle.sql_lexer.proofs.Each.{tokens_are}
use Rattle.sql_lexer.proofs.Turns.{turn_end}
use Rattle.lexer_laws.specs.Covers.{part, IsComment, IsBlank, AreBlank, Covers, tokens_at}
use Rattle.lexer_laws.proofs.Cutting.{good}
use Rattle.lexer_laws.proofs.Turning.{same_behind, turn}

-- ---- runs

run_append : (g : Group) (xs ys : List ℕ) → AllPass (is_in g) xs → run g (xs ++ ys) ≡ length xs + run g ys
run_append g [] ys h = omega arith
run_append g (x ∷ xs) ys h =
    let later : run g (xs ++ ys) ≡ length xs + run g ys = run_append g xs ys (All-tail (λ b. is_in g b ≡ true) x xs h) in
    rw (All-head (λ b. is_in g b ≡ true) x xs h) (omega (arith, later))

run_none : (g : Group) (bs : List ℕ) → is_in g (first_of bs) ≡ false → run g bs ≡ 0
run_none g [] e = refl
run_none g (b ∷ bs) e = rw e refl

run_first : (g : Group) (bs : List ℕ) (n : ℕ) → run g bs ≡ suc n → (is_in g (first_of bs) ≡ true) × (0 < length bs)
run_first g [] n e = absurd (omega (arith, e))
run_first g (b ∷ bs) n e = by (is_in g b) refl e
  where
    by : (t : Bool) → is_in g b ≡ t → (if t then run g bs + 1 else 0) ≡ suc n → (is_in g b ≡ true) × (0 < length (b ∷ bs))
    by true is e = (is, omega arith)
    by false is e = absurd (omega (arith, e))

first_passes : (p : ℕ → Bool) (k : ℕ) (bs : List ℕ) → 0 < k → 0 < length bs → AllPass p (take k bs) → p (first_of bs) ≡ true
first_passes p zero bs h some all = absurd (omega arith)
first_passes p (suc k) [] h some all = absurd (omega arith)
first_passes p (suc k) (b ∷ bs) h some all = All-head (λ x. p x ≡ true) b (take k bs) all

-- ---- what is blank at the front

cut_space : (bs : List ℕ) → is_space (first_of bs) ≡ true → cut bs ≡ Blank (run group.Space bs)
unfolding cut
cut_space bs e = rw e refl

dash_no_space : (a b : ℕ) → (nat_eq a 45 && nat_eq b 45) ≡ true → is_space a ≡ false
dash_no_space a b e = grind arith

cut_comment : (bs : List ℕ) → begins_comment bs ≡ true → cut bs ≡ Blank (run group.Comment bs)
unfolding cut
cut_comment bs e = rw (dash_no_space (first_of bs) (second_of bs) e, e) refl

dashes_in : (k : ℕ) (bs : List ℕ) → take 2 (take k bs) ≡ codes "--" → begins_comment bs ≡ true
dashes_in zero bs e = absurd (cc)
dashes_in (suc k) [] e = absurd (cc)
dashes_in (suc zero) (b ∷ bs) e = absurd (cc)
dashes_in (suc (suc k)) (b ∷ []) e = absurd (cc)
dashes_in (suc (suc k)) (b ∷ c ∷ bs) e =
    let one : b ≡ 45 = ap first_of e in
    let two : c ≡ 45 = ap second_of e in
    rw (one, two) refl

module _ (text : List ℕ) where
  -- the tokens of what stands from a place on
  abbrev On : ℕ → Result (List Token) LexRefused
  On at = tokens_at at (drop at text)

  on_turn : (at : ℕ) → at < length text → On at ≡ by_cut (λ k. On (at + k)) at (cut (drop at text))
  on_turn at h =
      let some : 0 < length (drop at text) = omega (arith, length-drop at text, h) in
      turn at (drop at text) some
      ∙ same_behind _ _ at (length (drop at text)) (cut (drop at text)) (good (drop at text) some).0 (λ k least within. ap (tokens_at (at + k)) (drop-drop k at text))

  on_end : On (length text) ≡ Ok []
  on_end = turn_end _ (length text) (drop (length text) text) (omega (arith, length-drop (length text) text))

  on_blank : (at k : ℕ) → at < length text → cut (drop at text) ≡ Blank k → On at ≡ On (at + k)
  on_blank at k h e = on_turn at h ∙ ap (by_cut (λ k. On (at + k)) at) e

  on_token : (t : Token) → IsToken text t → On t.from ≡ before t (On t.to)
  on_token t is =
      let same : t.from + (t.to - t.from) ≡ t.to = omega (arith, is.order) in
      on_turn t.from is.begins ∙ ap (by_cut (λ k. On (t.from + k)) t.from) is.found
      ∙ ap (λ (n : ℕ). before (record { kind = t.kind; from = t.from; to = n }) (On n)) same

  module _ (from at : ℕ) (h : from < at) (within : at ≤ length text) where
    begins : from < length text
    begins = omega (arith, h, within)

    some : 0 < length (drop from text)
    some = omega (arith, length-drop from text, begins)

    -- a run that goes over the part
    run_over : (g : Group) → AllPass (is_in g) (part text from at) → run g (drop from text) ≡ (at - from) + run g (drop at text)
    run_over g all =
        let long : length (part text from at) ≡ at - from = simp (length-take, length-drop) (omega (arith, h, within)) in
        let place : drop (at - from) (drop from text) ≡ drop at text = drop-drop (at - from) from text ∙ ap (λ (n : ℕ). drop n text) (omega (arith, h)) in
        ap (run g) (sym (take-append-drop (at - from) (drop from text))) ∙ run_append g (part text from at) (drop (at - from) (drop from text)) all
        ∙ ap (λ (n : ℕ). n + run g (drop (at - from) (drop from text))) long ∙ ap (λ xs. (at - from) + run g xs) place

    -- white space that goes on is passed as well
    on_space : (m : ℕ) → run group.Space (drop at text) ≡ m → On at ≡ On (at + m)
    on_space zero e = ap On (omega arith)
    on_space (suc m) e =
        let f = run_first group.Space (drop at text) m e in
        on_blank at (suc m) (omega (arith, length-drop at text, f.1)) (cut_space (drop at text) f.0 ∙ ap Blank e)

    by_space : AllPass is_space (part text from at) → On from ≡ On at
    by_space all =
        let first : is_space (first_of (drop from text)) ≡ true = first_passes is_space (at - from) (drop from text) (omega (arith, h)) some all in
        let over : run group.Space (drop from text) ≡ (at - from) + run group.Space (drop at text) = run_over group.Space all in
        let same : from + run group.Space (drop from text) ≡ at + run group.Space (drop at text) = omega (arith, over, h) in
        on_blank from _ begins (cut_space (drop from text) first) ∙ ap On same ∙ sym (on_space _ refl)

    none_left : (at ≡ length text) ⊎ (first_of (drop at text) ≡ 10) → run group.Comment (drop at text) ≡ 0
    none_left (inl e) = ap (run group.Comment) (drop_all at text (omega (arith, e)))
    none_left (inr e) = run_none group.Comment (drop at text) (rw e refl)

    by_comment : IsComment text from at → On from ≡ On at
    by_comment c =
        let over : run group.Comment (drop from text) ≡ (at - from) + run group.Comment (drop at text) = run_over group.Comment c.line in
        let none : run group.Comment (drop at text) ≡ 0 = none_left c.ends in
        let same : from + run group.Comment (drop from text) ≡ at = omega (arith, over, none, h) in
        on_blank from _ begins (cut_comment (drop from text) (dashes_in (at - from) (drop from text) c.begins)) ∙ ap On same

    by_blank : IsBlank text from at → On from ≡ On at
    by_blank (inl s) = by_space s
    by_blank (inr c) = by_comment c

  in_order : (ends : List ℕ) (from to : ℕ) → AreBlank text from ends to → from ≤ to
  in_order [] from to h = omega (arith, h)
  in_order (at ∷ ends) from to h = let later = in_order ends at to h.2 in omega (arith, h.0, later)

  by_gap : (ends : List ℕ) (from to : ℕ) → to ≤ length text → AreBlank text from ends to → On from ≡ On to
  by_gap [] from to h g = ap On g
  by_gap (at ∷ ends) from to h g =
      let last : at ≤ to = in_order ends at to g.2 in
      by_blank from at g.0 (omega (arith, last, h)) g.1 ∙ by_gap ends at to h g.2

  covered : (ts : List Token) (from : ℕ) → Covers text from ts (length text) → On from ≡ Ok ts
  covered [] from c = by_gap c.0 from (length text) (omega arith) c.1 ∙ on_end
  covered (t ∷ ts) from c =
      let there : t.from ≤ length text = omega (arith, c.1.begins) in
      by_gap c.0.0 from t.from there c.0.1 ∙ on_token t c.1 ∙ ap (before t) (covered ts t.to c.3)

  pub sole : (ts : List Token) → length text ≤ most → IsUtf8 text → Covers text 0 ts (length text) → Tokens text ≡ Ok ts
  sole ts h u c = tokens_are text h u ∙ covered ts 0 c
