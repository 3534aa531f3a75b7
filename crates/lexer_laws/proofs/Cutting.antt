-- What a text begins with: how many bytes it takes, and what is blank.
use Rattle.std.proofs.Common.{◌≡◌, ℕ, zero, suc, ◌+◌, ◌<◌, ◌≤◌, List, [], ◌∷◌, length, drop, Bool, true, false, ◌||◌, ◌&&◌, if◌then◌else◌, Option, Some, None, ◌⊎◌, inl, inr, refl, arith, length-drop}
use Rattle.std.specs.Prelude.{nat_eq, nat_lt, codes}
use Rattle.sql_lexer.specs.declared.bytes.Group.TheVariants as group
use Rattle.sql_lexer.specs.declared.token.TokenKind.{TokenKind}
use Rattle.sql_lexer.specs.declared.token.TokenKind.TheVariants as kind
use Rattle.sql_lexer.specs.declared.cut.Cut.{Cut}
use Rattle.sql_lexer.specs.declared.cut.Cut.TheVariants.{Blank, Found, Bad, Wide}
use Rattle.sql_lexer.specs.Bytes.{is_digit, begins_word, is_space, is_in, run, is_pair, is_one_of, symbol_length, quoted}
use Rattle.sql_lexer.specs.Cuts.{first_of, second_of, fraction_of, number_length, significant, number, cut_number, closed, cut_quoted, symbol_of, cut_symbol, begins_comment, begins_number, cut}
use Rattle.sql_lexer.proofs.Boundaries.{run_within}
use Rattle.lexer_laws.specs.Covers.{Takes}
use Rattle.lexer_laws.proofs.Runs.{run_some, quoted_within}

-- what is blank is a run of white space, or of what isn't a line feed behind `--`
abbrev pub Blanks : List ℕ → Cut → Type 0
Blanks bs (Blank n) = ((is_space (first_of bs) ≡ true) × (n ≡ run group.Space bs)) ⊎ ((begins_comment bs ≡ true) × (n ≡ run group.Comment bs))
Blanks bs _ = Unit {0}

-- what holds of both sides of a choice
pick : (P : Cut → Type 0) (b : Bool) (x y : Cut) → (b ≡ true → P x) → (b ≡ false → P y) → P (if b then x else y)
pick P true x y f g = f refl
pick P false x y f g = g refl

begins_within : (bs : List ℕ) (n : ℕ) → begins_word (first_of (drop n bs)) ≡ true → n < length bs
begins_within [] zero e = absurd (cc)
begins_within [] (suc n) e = absurd (cc)
begins_within (b ∷ bs) zero e = omega arith
begins_within (b ∷ bs) (suc n) e = let h = begins_within bs n e in omega (arith, h)

second_within : (bs : List ℕ) → 0 < second_of bs → 2 ≤ length bs
second_within [] h = absurd (omega arith)
second_within (b ∷ []) h = absurd (omega arith)
second_within (b ∷ c ∷ bs) h = omega arith

-- a point before a digit
dotted : (bs : List ℕ) → 0 < length bs → begins_number bs ≡ true → run group.Digit bs ≡ 0 → 0 < fraction_of bs 0
dotted [] h e none = absurd (omega arith)
dotted (b ∷ bs) h e none = by (is_digit b) refl e
  where
    digit_first : is_digit b ≡ true → ⊥
    digit_first is = let h : 0 < run group.Digit (b ∷ bs) = run_some group.Digit (b ∷ bs) (omega arith) is in absurd (omega (arith, h, none))

    there : (xs : List ℕ) → is_digit (first_of xs) ≡ true → 0 < length xs
    there [] e = absurd (cc)
    there (x ∷ xs) e = omega arith

    behind : (t : Bool) → (t && is_digit (first_of bs)) ≡ true → 0 < (if t then run group.Digit bs else 0)
    behind true e = run_some group.Digit bs (there bs e) e
    behind false e = absurd (cc)

    by : (t : Bool) → is_digit b ≡ t → (t || (nat_eq b 46 && is_digit (first_of bs))) ≡ true → 0 < (if nat_eq b 46 then run group.Digit bs else 0)
    by true is e = absurd (digit_first is)
    by false is e = behind (nat_eq b 46) e

-- how long a symbol is, which has a second byte where it is of two
abbrev Symbol : ℕ → ℕ → Type 0
Symbol b n = (n ≡ 0) ⊎ ((n ≡ 1) ⊎ ((n ≡ 2) × (0 < b)))

symbol_is : (a b : ℕ) → Symbol b (symbol_length a b)
symbol_is a b = by (is_pair a b) (is_one_of (codes "(),;.*+-/%=<>") a) (pair_second a b)
  where
    pair_second : (a b : ℕ) → is_pair a b ≡ true → 0 < b
    pair_second a b e = grind arith

    by : (t s : Bool) → (t ≡ true → 0 < b) → Symbol b (if t then 2 else (if s then 1 else 0))
    by true s p = inr (inr (refl, p refl))
    by false true p = inr (inl refl)
    by false false p = inl refl

dash_goes_on : (a b : ℕ) → (nat_eq a 45 && nat_eq b 45) ≡ true → is_in group.Comment a ≡ true
dash_goes_on a b e = grind arith

word_goes_on : (a : ℕ) → begins_word a ≡ true → is_in group.Word a ≡ true
word_goes_on a e = rw e refl

module _ (bs : List ℕ) (some : 0 < length bs) where
  abbrev Good : Cut → Type 0
  Good c = Takes (length bs) c × Blanks bs c

  -- ---- numbers

  fraction_within : (whole : ℕ) → (fraction_of bs whole ≡ 0) ⊎ (whole + 1 + fraction_of bs whole ≤ length bs)
  fraction_within whole = by (nat_eq (first_of (drop whole bs)) 46) (run group.Digit (drop (whole + 1) bs)) (run_within group.Digit (drop (whole + 1) bs))
    where
      by : (t : Bool) (n : ℕ) → n ≤ length (drop (whole + 1) bs) → ((if t then n else 0) ≡ 0) ⊎ (whole + 1 + (if t then n else 0) ≤ length bs)
      by true zero h = inl refl
      by true (suc n) h = inr (omega (arith, length-drop (whole + 1) bs, h))
      by false n h = inl refl

  length_some : (whole fraction : ℕ) → (0 < whole) ⊎ (0 < fraction) → 0 < number_length whole fraction
  unfolding number_length
  length_some whole zero (inl h) = h
  length_some whole zero (inr h) = absurd (omega arith)
  length_some whole (suc n) h = let some : nat_eq (suc n) 0 ≡ false = grind arith in rw some (omega arith)

  length_within : (whole fraction : ℕ) → whole ≤ length bs → (fraction ≡ 0) ⊎ (whole + 1 + fraction ≤ length bs) → number_length whole fraction ≤ length bs
  unfolding number_length
  length_within whole zero h g = h
  length_within whole (suc n) h (inl e) = absurd (omega arith)
  length_within whole (suc n) h (inr g) = let some : nat_eq (suc n) 0 ≡ false = grind arith in rw some g

  number_some : begins_number bs ≡ true → (0 < run group.Digit bs) ⊎ (0 < fraction_of bs (run group.Digit bs))
  number_some e = by (run group.Digit bs) refl
    where
      by : (n : ℕ) → run group.Digit bs ≡ n → (0 < n) ⊎ (0 < fraction_of bs n)
      by (suc n) none = inl (omega arith)
      by zero none = inr (dotted bs some e none)

  good_number : begins_number bs ≡ true → Good (cut_number bs)
  unfolding cut_number number
  good_number begins =
      let whole = run group.Digit bs in
      let n = number_length whole (fraction_of bs whole) in
      let least : 0 < n = length_some whole (fraction_of bs whole) (number_some begins) in
      let most : n ≤ length bs = length_within whole (fraction_of bs whole) (run_within group.Digit bs) (fraction_within whole) in
      pick Good (nat_lt 38 (significant bs whole (fraction_of bs whole)) || nat_lt 38 (fraction_of bs whole)) Wide _ (λ e. (tt, tt))
      (λ e. pick Good (begins_word (first_of (drop n bs))) (Bad n) (Found kind.Number n) (λ e. (begins_within bs n e, tt)) (λ e. ((least, most), tt)))

  -- ---- quoted texts and symbols

  good_quoted : (k : TokenKind) (q : ℕ) → Good (cut_quoted k q bs)
  unfolding cut_quoted
  good_quoted k q = by (quoted q (drop 1 bs)) refl
    where
      by : (r : Option ℕ) → quoted q (drop 1 bs) ≡ r → Good (closed k r)
      by None e = (tt, tt)
      by (Some n) e = let h = quoted_within q (drop 1 bs) n e in ((omega arith, omega (arith, h, length-drop 1 bs, some)), tt)

  good_symbol : Good (cut_symbol bs)
  unfolding cut_symbol
  good_symbol = by (symbol_length (first_of bs) (second_of bs)) (symbol_is (first_of bs) (second_of bs))
    where
      by : (n : ℕ) → Symbol (second_of bs) n → Good (symbol_of n)
      by n (inl e) = rw e (some, tt)
      by n (inr (inl e)) = rw e ((omega arith, some), tt)
      by n (inr (inr h)) = rw h.0 ((omega arith, second_within bs h.1), tt)

  -- ---- all of them

  pub good : Good (cut bs)
  unfolding cut
  good =
      pick Good (is_space (first_of bs)) _ _ (λ e. ((run_some group.Space bs some e, run_within group.Space bs), inl (e, refl))) (λ e.
      pick Good (begins_comment bs) _ _ (λ e. ((run_some group.Comment bs some (dash_goes_on (first_of bs) (second_of bs) e), run_within group.Comment bs), inr (e, refl))) (λ e.
      pick Good (begins_word (first_of bs)) _ _ (λ e. ((run_some group.Word bs some (word_goes_on (first_of bs) e), run_within group.Word bs), tt)) (λ e.
      pick Good (begins_number bs) _ _ (λ e. good_number e) (λ e.
      pick Good (nat_eq (first_of bs) 34) _ _ (λ e. good_quoted kind.Quoted 34) (λ e.
      pick Good (nat_eq (first_of bs) 39) _ _ (λ e. good_quoted kind.Str 39) (λ e. good_symbol))))))
