-- Where a text is cut, a character begins.
use Rattle.std.proofs.Common.{◌≡◌, ℕ, zero, suc, ◌+◌, ◌-◌, ◌<◌, ◌≤◌, List, [], ◌∷◌, ◌++◌, length, drop, take, Bool, true, false, not, ◌||◌, if◌then◌else◌, Option, Some, None, ◌⊎◌, inl, inr, refl, sym, ap, ◌∙◌, arith, subst, length-drop, length-append, get_or, add-one}
use Rattle.std.specs.Prelude.{nat_eq, nat_lt, codes, IsUtf8}
use Rattle.std.specs.Str.{IsCharBoundary}
use Rattle.std.proofs.lemmas.Bool.{eqb-true}
use Rattle.std.proofs.lemmas.List.{get_or-drop, get_or_at}
use Rattle.std.proofs.lemmas.Str.{IsUtf8-between, IsCharBoundary-start, IsCharBoundary-end, IsCharBoundary-before_ascii, IsCharBoundary-after_ascii}
use Rattle.sql_lexer.specs.declared.bytes.Group.{Group}
use Rattle.sql_lexer.specs.declared.bytes.Group.TheVariants as group
use Rattle.sql_lexer.specs.declared.token.TokenKind.{TokenKind}
use Rattle.sql_lexer.specs.declared.token.TokenKind.TheVariants as kind
use Rattle.sql_lexer.specs.declared.cut.Cut.{Cut}
use Rattle.sql_lexer.specs.declared.cut.Cut.TheVariants.{Blank, Found, Bad, Wide}
use Rattle.sql_lexer.specs.Bytes.{between, begins_word, is_space, is_in, run, is_one_of, is_pair, symbol_length, further, quoted}
use Rattle.sql_lexer.proofs.Quotes.{some_is, further_is}
use Rattle.sql_lexer.specs.Cuts.{first_of, second_of, fraction_of, number_length, significant, number, cut_number, closed, cut_quoted, symbol_of, cut_symbol, begins_comment, begins_number, cut}

tells : (b : Bool) → (b ≡ true) ⊎ (b ≡ false)
tells true = inl refl
tells false = inr refl

-- what holds of both sides of a choice
pick : (P : Cut → Type 0) (b : Bool) (x y : Cut) → (b ≡ true → P x) → (b ≡ false → P y) → P (if b then x else y)
pick P true x y f g = f refl
pick P false x y f g = g refl

-- ---- runs

pub run_within : (g : Group) (bs : List ℕ) → run g bs ≤ length bs
run_within g [] = omega arith
run_within g (b ∷ bs) = by (is_in g b) (run_within g bs)
  where
    by : (t : Bool) → run g bs ≤ length bs → (if t then run g bs + 1 else 0) ≤ length (b ∷ bs)
    by true h = omega arith
    by false h = omega arith

-- each byte of a run is of its group
run_at : (g : Group) (bs : List ℕ) (i : ℕ) → i < run g bs → is_in g (get_or bs i 0) ≡ true
run_at g [] i h = absurd (omega arith)
run_at g (b ∷ bs) i h = by (is_in g b) refl (run_at g bs) i h
  where
    by : (t : Bool) → is_in g b ≡ t → ((i : ℕ) → i < run g bs → is_in g (get_or bs i 0) ≡ true) → (i : ℕ) → i < (if t then run g bs + 1 else 0) → is_in g (get_or (b ∷ bs) i 0) ≡ true
    by true e later zero h = e
    by true e later (suc i) h = later i (omega arith)
    by false e later i h = absurd (omega arith)

-- a run ends before a byte that isn't of its group
run_stops : (g : Group) (bs : List ℕ) → run g bs < length bs → is_in g (get_or bs (run g bs) 0) ≡ false
run_stops g [] h = absurd (omega arith)
run_stops g (b ∷ bs) h = by (is_in g b) refl (run_stops g bs) h
  where
    next : (n : ℕ) → get_or (b ∷ bs) (n + 1) 0 ≡ get_or bs n 0
    next n = ap (λ k. get_or (b ∷ bs) k 0) (add-one n)

    by : (t : Bool) → is_in g b ≡ t → (run g bs < length bs → is_in g (get_or bs (run g bs) 0) ≡ false) → (if t then run g bs + 1 else 0) < length (b ∷ bs) → is_in g (get_or (b ∷ bs) (if t then run g bs + 1 else 0) 0) ≡ false
    by true e later h = ap (is_in g) (next (run g bs)) ∙ later (omega arith)
    by false e later h = e

abbrev IsAsciiGroup : Group → Type 0
IsAsciiGroup g = (b : ℕ) → is_in g b ≡ true → b < 128

small : (least most b : ℕ) → most < 128 → between least most b ≡ true → b < 128
small least most b h e = grind arith

digits_ascii : IsAsciiGroup group.Digit
digits_ascii b e = small 48 57 b (omega arith) e

word_ascii : IsAsciiGroup group.Word
word_ascii b e = grind arith

space_ascii : IsAsciiGroup group.Space
space_ascii b e = grind arith

-- behind a run of ASCII, which stands at a place
behind_run : (g : Group) → IsAsciiGroup g → (bs : List ℕ) → IsUtf8 bs → (at n : ℕ) → n ≡ run g (drop at bs) → 0 < n → at ≤ length bs → IsCharBoundary bs (at + n)
behind_run g ascii bs u at n e some h =
    let k : n - 1 < run g (drop at bs) = omega arith in
    let last : get_or bs (at + (n - 1)) 0 < 128 = ascii _ (ap (is_in g) (sym (get_or-drop at bs (n - 1) 0)) ∙ run_at g (drop at bs) (n - 1) k) in
    let in_text : at + (n - 1) < length bs = omega (arith, run_within g (drop at bs), length-drop at bs) in
    let same : at + (n - 1) + 1 ≡ at + n = omega arith in
    subst (IsCharBoundary bs) same (IsCharBoundary-after_ascii bs (at + (n - 1)) u in_text last)

run_boundary : (g : Group) → IsAsciiGroup g → (bs : List ℕ) → IsUtf8 bs → IsCharBoundary bs (run g bs)
run_boundary g ascii bs u = by (run g bs) refl
  where
    by : (n : ℕ) → n ≡ run g bs → IsCharBoundary bs n
    by zero e = IsCharBoundary-start bs u
    by (suc n) e =
        let same : 0 + suc n ≡ suc n = omega arith in
        subst (IsCharBoundary bs) same (behind_run g ascii bs u 0 (suc n) e (omega arith) (omega arith))

comment_boundary : (bs : List ℕ) → IsCharBoundary bs (run group.Comment bs)
comment_boundary bs = by (tells (nat_lt (run group.Comment bs) (length bs)))
  where
    line_feed : (b : ℕ) → not (nat_eq b 10) ≡ false → b < 128
    line_feed b e = grind arith

    by : (nat_lt (run group.Comment bs) (length bs) ≡ true) ⊎ (nat_lt (run group.Comment bs) (length bs) ≡ false) → IsCharBoundary bs (run group.Comment bs)
    by (inl e) = let h : run group.Comment bs < length bs = grind arith in IsCharBoundary-before_ascii bs _ h (line_feed _ (run_stops group.Comment bs h))
    by (inr e) = let h : length bs ≡ run group.Comment bs = grind (arith, run_within group.Comment bs) in subst (IsCharBoundary bs) h (IsCharBoundary-end bs)

-- ---- numbers

fraction_some : (t : Bool) (n m : ℕ) → n ≡ (if t then m else 0) → 0 < n → n ≡ m
fraction_some true n m e h = e
fraction_some false n m e h = absurd (omega arith)

-- behind so many digits, a point and more digits
behind_fraction : (bs : List ℕ) → IsUtf8 bs → (whole n : ℕ) → n ≡ fraction_of bs whole → 0 < n → IsCharBoundary bs (whole + 1 + n)
behind_fraction bs u whole n e h =
    let is : n ≡ run group.Digit (drop (whole + 1) bs) = fraction_some (nat_eq (first_of (drop whole bs)) 46) n (run group.Digit (drop (whole + 1) bs)) e h in
    let there : whole + 1 ≤ length bs = omega (arith, is, run_within group.Digit (drop (whole + 1) bs), length-drop (whole + 1) bs) in
    behind_run group.Digit digits_ascii bs u (whole + 1) n is h there

number_boundary : (bs : List ℕ) → IsUtf8 bs → IsCharBoundary bs (number_length (run group.Digit bs) (fraction_of bs (run group.Digit bs)))
unfolding number_length
number_boundary bs u = by (fraction_of bs (run group.Digit bs)) refl
  where
    some : (n : ℕ) → nat_eq (suc n) 0 ≡ false
    some n = grind arith

    by : (n : ℕ) → n ≡ fraction_of bs (run group.Digit bs) → IsCharBoundary bs (if nat_eq n 0 then run group.Digit bs else run group.Digit bs + 1 + n)
    by zero e = run_boundary group.Digit digits_ascii bs u
    by (suc n) e = rw (some n) (behind_fraction bs u (run group.Digit bs) (suc n) e (omega arith))

-- ---- quoted texts

-- so many bytes up to a last quote, with that
abbrev Closes : ℕ → List ℕ → ℕ → Type 0
Closes q bs n = (front : List ℕ) × (back : List ℕ) × (bs ≡ front ++ q ∷ back) × (n ≡ length front + 1)

closes_first : (q b : ℕ) (bs : List ℕ) (n : ℕ) → nat_eq b q ≡ true → Some 1 ≡ Some n → Closes q (b ∷ bs) n
closes_first q b bs n is e = ([], bs, ap (λ c. c ∷ bs) (eqb-true b q is), some_is 1 n e)

closes_later : (q b : ℕ) (bs : List ℕ) (n m : ℕ) → Closes q bs m → 1 + m ≡ n → Closes q (b ∷ bs) n
closes_later q b bs n m h e = (b ∷ h.0, h.1, ap (λ xs. b ∷ xs) h.2, omega (arith, h.3))

closes : (q : ℕ) (bs : List ℕ) (n : ℕ) → quoted q bs ≡ Some n → Closes q bs n
closes q [] n e = absurd (cc)
closes q (b ∷ []) n e = by (nat_eq b q) refl e
  where
    by : (t : Bool) → nat_eq b q ≡ t → (if t then Some 1 else None) ≡ Some n → Closes q (b ∷ []) n
    by true is e = closes_first q b [] n is e
    by false is e = absurd (cc)
closes q (b ∷ c ∷ bs) n e = by (nat_eq b q) (nat_eq c q) refl (closes q bs) (closes q (c ∷ bs)) e
  where
    by : (t s : Bool) → nat_eq b q ≡ t → ((m : ℕ) → quoted q bs ≡ Some m → Closes q bs m) → ((m : ℕ) → quoted q (c ∷ bs) ≡ Some m → Closes q (c ∷ bs) m)
        → (if t then (if s then further 2 (quoted q bs) else Some 1) else further 1 (quoted q (c ∷ bs))) ≡ Some n → Closes q (b ∷ c ∷ bs) n
    by true true is behind later e =
        let m = further_is 2 (quoted q bs) n e in
        closes_later q b (c ∷ bs) n (1 + m.0) (closes_later q c bs (1 + m.0) m.0 (behind m.0 m.1) refl) (omega (arith, m.2))
    by true false is behind later e = closes_first q b (c ∷ bs) n is e
    by false s is behind later e = let m = further_is 1 (quoted q (c ∷ bs)) n e in closes_later q b (c ∷ bs) n m.0 (later m.0 m.1) m.2

-- ---- symbols

abbrev Symbol : ℕ → ℕ → ℕ → Type 0
Symbol a b n = (n ≡ 0) ⊎ (((n ≡ 1) × (a < 128)) ⊎ ((n ≡ 2) × (b < 128) × (0 < b)))

pair_ascii : (a b : ℕ) → is_pair a b ≡ true → (b < 128) × (0 < b)
pair_ascii a b e = grind arith

single_ascii : (a : ℕ) → is_one_of (codes "(),;.*+-/%=<>") a ≡ true → a < 128
single_ascii a e = grind arith

symbol_ascii : (a b : ℕ) → Symbol a b (symbol_length a b)
symbol_ascii a b = by (is_pair a b) (is_one_of (codes "(),;.*+-/%=<>") a) (pair_ascii a b) (single_ascii a)
  where
    by : (t s : Bool) → (t ≡ true → (b < 128) × (0 < b)) → (s ≡ true → a < 128) → Symbol a b (if t then 2 else (if s then 1 else 0))
    by true s p q = inr (inr (refl, (p refl).0, (p refl).1))
    by false true p q = inr (inl (refl, q refl))
    by false false p q = inl refl

first_ascii : (bs : List ℕ) → first_of bs < 128 → get_or bs 0 0 < 128
first_ascii [] h = omega arith
first_ascii (b ∷ bs) h = h

second_there : (bs : List ℕ) → 0 < second_of bs → 1 < length bs
second_there [] h = absurd (omega arith)
second_there (b ∷ []) h = absurd (omega arith)
second_there (b ∷ c ∷ bs) h = omega arith

second_ascii : (bs : List ℕ) → second_of bs < 128 → get_or bs 1 0 < 128
second_ascii [] h = omega arith
second_ascii (b ∷ []) h = omega arith
second_ascii (b ∷ c ∷ bs) h = h

-- ---- cuts

-- a quoted text has its two quotes, and a text between them
abbrev pub IsEnclosed : List ℕ → ℕ → Type 0
IsEnclosed bs n = (2 ≤ n) × IsUtf8 (take (n - 2) (drop 1 bs))

abbrev pub Encloses : TokenKind → List ℕ → ℕ → Type 0
Encloses kind.Quoted bs n = IsEnclosed bs n
Encloses kind.Str bs n = IsEnclosed bs n
Encloses _ bs n = Unit {0}

abbrev pub Bounded : List ℕ → Cut → Type 0
Bounded bs (Blank n) = IsCharBoundary bs n
Bounded bs (Found k n) = IsCharBoundary bs n × Encloses k bs n
Bounded bs _ = Unit {0}

module _ (bs : List ℕ) (u : IsUtf8 bs) where
  bounded_number : Bounded bs (cut_number bs)
  unfolding cut_number number
  bounded_number =
      let whole = run group.Digit bs in
      let n = number_length whole (fraction_of bs whole) in
      pick (Bounded bs) (nat_lt 38 (significant bs whole (fraction_of bs whole)) || nat_lt 38 (fraction_of bs whole)) Wide _ (λ e. tt {0}) (λ e. pick (Bounded bs) (begins_word (first_of (drop n bs))) (Bad n) (Found kind.Number n) (λ e. tt {0}) (λ e. (number_boundary bs u, tt)))

  enclosed : (q n : ℕ) (front back : List ℕ) → q < 128 → bs ≡ q ∷ (front ++ q ∷ back) → n ≡ length front + 1 → IsCharBoundary bs (n + 1) × IsEnclosed bs (n + 1)
  enclosed q n front back ascii is e =
      let long : n < length bs = rw is (simp length-append (omega (arith, e))) in
      let last : get_or bs n 0 < 128 = rw is (let at : get_or ((q ∷ front) ++ q ∷ back) n 0 ≡ q = get_or_at (q ∷ front) q back 0 n (omega (arith, e)) in rw at ascii) in
      let first : get_or bs 0 0 < 128 = rw is ascii in
      let one : IsCharBoundary bs 1 = IsCharBoundary-after_ascii bs 0 u (omega (arith, long)) first in
      let inner = IsUtf8-between bs 1 n u (omega (arith, e)) one (IsCharBoundary-before_ascii bs n long last) in
      let same : n - 1 ≡ n + 1 - 2 = omega arith in
      (IsCharBoundary-after_ascii bs n u long last, (omega (arith, e), subst (λ k. IsUtf8 (take k (drop 1 bs))) same inner))

  bounded_quoted : (k : TokenKind) (q : ℕ) → q < 128 → ((n : ℕ) → IsEnclosed bs n → Encloses k bs n) → nat_eq (first_of bs) q ≡ true → 0 < length bs → Bounded bs (cut_quoted k q bs)
  unfolding cut_quoted
  bounded_quoted k q ascii encloses begins some = by (quoted q (drop 1 bs)) refl
    where
      begins_so : (xs : List ℕ) → 0 < length xs → nat_eq (first_of xs) q ≡ true → xs ≡ q ∷ drop 1 xs
      begins_so [] h e = absurd (omega arith)
      begins_so (x ∷ xs) h e = ap (λ y. y ∷ xs) (eqb-true x q e)

      by : (r : Option ℕ) → quoted q (drop 1 bs) ≡ r → Bounded bs (closed k r)
      by None e = tt
      by (Some n) e =
          let h = closes q (drop 1 bs) n e in
          let x = enclosed q n h.0 h.1 ascii (begins_so bs some begins ∙ ap (λ ys. q ∷ ys) h.2) (omega (arith, h.3)) in
          (x.0, encloses (n + 1) x.1)

  bounded_symbol : 0 < length bs → Bounded bs (cut_symbol bs)
  unfolding cut_symbol
  bounded_symbol some = by (symbol_length (first_of bs) (second_of bs)) (symbol_ascii (first_of bs) (second_of bs))
    where
      by : (n : ℕ) → Symbol (first_of bs) (second_of bs) n → Bounded bs (symbol_of n)
      by n (inl e) = rw e tt
      by n (inr (inl h)) = rw h.0 (IsCharBoundary-after_ascii bs 0 u some (first_ascii bs h.1), tt)
      by n (inr (inr h)) = rw h.0 (let two = second_there bs h.2 in (IsCharBoundary-after_ascii bs 1 u two (second_ascii bs h.1), tt))

  pub bounded : 0 < length bs → Bounded bs (cut bs)
  unfolding cut
  bounded some =
      pick (Bounded bs) (is_space (first_of bs)) _ _ (λ e. run_boundary group.Space space_ascii bs u) (λ e.
      pick (Bounded bs) (begins_comment bs) _ _ (λ e. comment_boundary bs) (λ e.
      pick (Bounded bs) (begins_word (first_of bs)) _ _ (λ e. (run_boundary group.Word word_ascii bs u, tt)) (λ e.
      pick (Bounded bs) (begins_number bs) _ _ (λ e. bounded_number) (λ e.
      pick (Bounded bs) (nat_eq (first_of bs) 34) _ _ (λ e. bounded_quoted kind.Quoted 34 (omega arith) (λ n h. h) e some) (λ e.
      pick (Bounded bs) (nat_eq (first_of bs) 39) _ _ (λ e. bounded_quoted kind.Str 39 (omega arith) (λ n h. h) e some) (λ e.
      bounded_symbol some))))))
