-- Runs of bytes of one group, and the ends of quoted texts.
use Rattle.std.proofs.Common.{◌≡◌, ℕ, ◌+◌, ◌<◌, ◌≤◌, List, [], ◌∷◌, length, take, drop, Bool, true, false, if◌then◌else◌, Some, None, refl, arith, add-one}
use Rattle.std.specs.Prelude.{nat_eq}
use Rattle.std.specs.List.{AllPass}
use Rattle.std.proofs.lemmas.List.Elements.{All-nil, All-cons}
use Rattle.sql_lexer.specs.declared.bytes.Group.{Group}
use Rattle.sql_lexer.specs.Bytes.{is_in, run, further, quoted}
use Rattle.sql_lexer.specs.Cuts.{first_of}
use Rattle.sql_lexer.proofs.Quotes.{some_is, further_is}

-- a run that a first byte begins
pub run_some : (g : Group) (bs : List ℕ) → 0 < length bs → is_in g (first_of bs) ≡ true → 0 < run g bs
run_some g [] h e = absurd (omega arith)
run_some g (b ∷ bs) h e = rw e (omega arith)

-- each byte of a run is of its group
pub run_all : (g : Group) (bs : List ℕ) → AllPass (is_in g) (take (run g bs) bs)
run_all g [] = All-nil (λ b. is_in g b ≡ true)
run_all g (b ∷ bs) = by (is_in g b) refl (run_all g bs)
  where
    by : (t : Bool) → is_in g b ≡ t → AllPass (is_in g) (take (run g bs) bs) → AllPass (is_in g) (take (if t then run g bs + 1 else 0) (b ∷ bs))
    by true e later = rw (add-one (run g bs)) (All-cons (λ b. is_in g b ≡ true) b (take (run g bs) bs) e later)
    by false e later = All-nil (λ b. is_in g b ≡ true)

-- a run that ends before the text does ends before a byte of another group
pub run_ends : (g : Group) (bs : List ℕ) → run g bs < length bs → is_in g (first_of (drop (run g bs) bs)) ≡ false
run_ends g [] h = absurd (omega arith)
run_ends g (b ∷ bs) h = by (is_in g b) refl (run_ends g bs) h
  where
    by : (t : Bool) → is_in g b ≡ t → (run g bs < length bs → is_in g (first_of (drop (run g bs) bs)) ≡ false) → (if t then run g bs + 1 else 0) < length (b ∷ bs)
        → is_in g (first_of (drop (if t then run g bs + 1 else 0) (b ∷ bs))) ≡ false
    by true e later h = rw (add-one (run g bs)) (later (omega arith))
    by false e later h = e

-- a quoted text ends within its text
pub quoted_within : (q : ℕ) (bs : List ℕ) (n : ℕ) → quoted q bs ≡ Some n → n ≤ length bs
quoted_within q [] n e = absurd (cc)
quoted_within q (b ∷ []) n e = by (nat_eq b q) e
  where
    by : (t : Bool) → (if t then Some 1 else None) ≡ Some n → n ≤ 1
    by true e = omega (arith, some_is 1 n e)
    by false e = absurd (cc)
quoted_within q (b ∷ c ∷ bs) n e = by (nat_eq b q) (nat_eq c q) (quoted_within q bs) (quoted_within q (c ∷ bs)) e
  where
    by : (t s : Bool) → ((m : ℕ) → quoted q bs ≡ Some m → m ≤ length bs) → ((m : ℕ) → quoted q (c ∷ bs) ≡ Some m → m ≤ length (c ∷ bs))
        → (if t then (if s then further 2 (quoted q bs) else Some 1) else further 1 (quoted q (c ∷ bs))) ≡ Some n → n ≤ length (b ∷ c ∷ bs)
    by true true behind later e = let m = further_is 2 (quoted q bs) n e in let h = behind m.0 m.1 in omega (arith, m.2, h)
    by true false behind later e = omega (arith, some_is 1 n e)
    by false s behind later e = let m = further_is 1 (quoted q (c ∷ bs)) n e in let h = later m.0 m.1 in omega (arith, m.2, h)
