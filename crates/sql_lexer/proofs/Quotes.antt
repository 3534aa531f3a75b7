-- Where a quoted text ends, by whether a quote stands before that may end it.
use Rattle.std.proofs.Common.{◌≡◌, ℕ, ◌+◌, List, [], ◌∷◌, length, drop, get_or, ◌<◌, ◌≤◌, Bool, true, false, not, if◌then◌else◌, Option, Some, None, refl, ap, ◌∙◌, arith, sym}
use Rattle.std.specs.Prelude.{nat_eq}
use Rattle.std.proofs.lemmas.Bool.{eq-eqb}
use Rattle.std.proofs.lemmas.List.{at_drop_more, at_drop_all}
use Rattle.sql_lexer.specs.Bytes.{further, quoted}

-- how many bytes there are up to the end, which such a quote may be
abbrev pub rest_of : ℕ → Bool → List ℕ → Option ℕ
rest_of q false bs = quoted q bs
rest_of q true [] = Some 0
rest_of q true (b ∷ bs) = if nat_eq b q then further 1 (quoted q bs) else Some 0

further-further : (n m : ℕ) (r : Option ℕ) → further n (further m r) ≡ further (n + m) r
further-further n m None = refl
further-further n m (Some k) = ap Some (omega arith)

pub some_is : (n m : ℕ) → Some n ≡ Some m → m ≡ n
some_is n m e = cc

-- an end further on comes of an end
pub further_is : (k : ℕ) (r : Option ℕ) (n : ℕ) → further k r ≡ Some n → (m : ℕ) × (r ≡ Some m) × (k + m ≡ n)
further_is k None n e = absurd (cc)
further_is k (Some m) n e = (m, refl, sym (some_is (k + m) n e))

-- behind a first quote that may end it
pub at_quote : (q b : ℕ) (bs : List ℕ) → nat_eq b q ≡ true → quoted q (b ∷ bs) ≡ further 1 (rest_of q true bs)
at_quote q b [] e = rw e refl
at_quote q b (c ∷ bs) e = rw e (by (nat_eq c q))
  where
    by : (t : Bool) → (if t then further 2 (quoted q bs) else Some 1) ≡ further 1 (if t then further 1 (quoted q bs) else Some 0)
    by true = sym (further-further 1 1 (quoted q bs))
    by false = refl

-- behind any other byte
pub at_other : (q b : ℕ) (bs : List ℕ) → nat_eq b q ≡ false → quoted q (b ∷ bs) ≡ further 1 (quoted q bs)
at_other q b [] e = rw e refl
at_other q b (c ∷ bs) e = rw e refl

further-zero : (r : Option ℕ) → further 0 r ≡ r
further-zero None = refl
further-zero (Some n) = ap Some (omega arith)

pub at_start : (q : ℕ) (bs : List ℕ) → further 0 (rest_of q false bs) ≡ quoted q bs
at_start q bs = further-zero (quoted q bs)

module _ (q : ℕ) (bs : List ℕ) (i : ℕ) (h : i < length bs) where
  -- a quote further: one that stood before it is doubled by it
  pub past_quote : (seen : Bool) → get_or bs i 0 ≡ q → further i (rest_of q seen (drop i bs)) ≡ further (i + 1) (rest_of q (not seen) (drop (i + 1) bs))
  past_quote seen e = at_drop_more (λ xs. further i (rest_of q seen xs)) bs i 0 h ∙ by seen
    where
      is : nat_eq (get_or bs i 0) q ≡ true
      is = eq-eqb (get_or bs i 0) q e

      by : (s : Bool) → further i (rest_of q s (get_or bs i 0 ∷ drop (i + 1) bs)) ≡ further (i + 1) (rest_of q (not s) (drop (i + 1) bs))
      by true = rw is (further-further i 1 (quoted q (drop (i + 1) bs)))
      by false = ap (further i) (at_quote q (get_or bs i 0) (drop (i + 1) bs) is) ∙ further-further i 1 (rest_of q true (drop (i + 1) bs))

  -- any other byte further
  pub past_other : (seen : Bool) → seen ≡ false → (get_or bs i 0 ≡ q → ⊥) → further i (rest_of q seen (drop i bs)) ≡ further (i + 1) (rest_of q seen (drop (i + 1) bs))
  past_other true e other = absurd (cc)
  past_other false e other =
      let is : nat_eq (get_or bs i 0) q ≡ false = grind arith in
      at_drop_more (λ xs. further i (rest_of q false xs)) bs i 0 h
      ∙ ap (further i) (at_other q (get_or bs i 0) (drop (i + 1) bs) is) ∙ further-further i 1 (quoted q (drop (i + 1) bs))

  -- a quote before any other byte ends the text
  pub ends_before : (get_or bs i 0 ≡ q → ⊥) → further i (rest_of q true (drop i bs)) ≡ Some i
  ends_before other =
      let is : nat_eq (get_or bs i 0) q ≡ false = grind arith in
      at_drop_more (λ xs. further i (rest_of q true xs)) bs i 0 h ∙ rw is (ap Some (omega arith))

-- and so does one at the end
pub ends_at : (q : ℕ) (bs : List ℕ) (i : ℕ) → length bs ≤ i → further i (rest_of q true (drop i bs)) ≡ Some i
ends_at q bs i h = at_drop_all (λ xs. further i (rest_of q true xs)) bs i h ∙ ap Some (omega arith)

pub ruleset ends = (at_start, ends_before, ends_at)
