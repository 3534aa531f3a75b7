-- A quoted text is a text with its quotes doubled, and a quote behind it.
use Rattle.std.proofs.Common.{◌≡◌, ℕ, ◌+◌, ◌<◌, List, [], ◌∷◌, ◌++◌, length, Bool, true, false, if◌then◌else◌, Some, None, refl, sym, ap, ◌∙◌, arith}
use Rattle.std.specs.Prelude.{nat_eq}
use Rattle.std.proofs.lemmas.Bool.{eqb-true, eq-eqb}
use Rattle.sql_lexer.specs.Bytes.{further, quoted}
use Rattle.sql_lexer.specs.Cuts.{first_of}
use Rattle.sql_lexer.specs.Texts.{undoubled}
use Rattle.sql_lexer.proofs.Quotes.{some_is, further_is, at_other}
use Rattle.lexer_laws.specs.Quotes.{doubled}

same : (q : ℕ) → nat_eq q q ≡ true
same q = eq-eqb q q refl

-- a quote that no quote follows ends the text
last : (q b : ℕ) (back : List ℕ) → nat_eq b q ≡ true → nat_eq (first_of back) q ≡ false → quoted q (b ∷ back) ≡ Some 1
last q b [] e h = rw e refl
last q b (c ∷ back) e h = rw (e, h) refl

pub ends : (q : ℕ) (s back : List ℕ) → nat_eq (first_of back) q ≡ false → quoted q (doubled q s ++ q ∷ back) ≡ Some (length (doubled q s) + 1)
ends q [] back h = last q q back (same q) h
ends q (b ∷ s) back h = by (nat_eq b q) refl (ends q s back h)
  where
    by : (t : Bool) → nat_eq b q ≡ t → quoted q (doubled q s ++ q ∷ back) ≡ Some (length (doubled q s) + 1)
        → quoted q ((if t then b ∷ b ∷ doubled q s else b ∷ doubled q s) ++ q ∷ back) ≡ Some (length (if t then b ∷ b ∷ doubled q s else b ∷ doubled q s) + 1)
    by true e later = rw e (ap (further 2) later ∙ ap Some (omega arith))
    by false e later = at_other q b (doubled q s ++ q ∷ back) e ∙ ap (further 1) later ∙ ap Some (omega arith)

-- what there is of a quoted text of so many bytes
abbrev pub IsQuoted : ℕ → List ℕ → ℕ → Type 0
IsQuoted q bs n = (s : List ℕ) × (back : List ℕ) × (bs ≡ doubled q s ++ q ∷ back) × (n ≡ length (doubled q s) + 1) × (nat_eq (first_of back) q ≡ false)

at_last : (q b : ℕ) (back : List ℕ) (n : ℕ) → nat_eq b q ≡ true → nat_eq (first_of back) q ≡ false → n ≡ 1 → IsQuoted q (b ∷ back) n
at_last q b back n e h is = ([], back, ap (λ c. c ∷ back) (eqb-true b q e), is, h)

at_pair : (q b c : ℕ) (bs : List ℕ) (n m : ℕ) → nat_eq b q ≡ true → nat_eq c q ≡ true → 2 + m ≡ n → IsQuoted q bs m → IsQuoted q (b ∷ c ∷ bs) n
at_pair q b c bs n m e f is h =
    let pair : doubled q (b ∷ h.0) ≡ b ∷ b ∷ doubled q h.0 = rw e refl in
    let two : c ≡ b = eqb-true c q f ∙ sym (eqb-true b q e) in
    (b ∷ h.0, h.1, ap (λ x. b ∷ x ∷ bs) two ∙ ap (λ xs. b ∷ b ∷ xs) h.2 ∙ ap (λ xs. xs ++ q ∷ h.1) (sym pair), omega (arith, h.3, ap length pair, is), h.4)

at_byte : (q b : ℕ) (bs : List ℕ) (n m : ℕ) → nat_eq b q ≡ false → 1 + m ≡ n → IsQuoted q bs m → IsQuoted q (b ∷ bs) n
at_byte q b bs n m e is h =
    let one : doubled q (b ∷ h.0) ≡ b ∷ doubled q h.0 = rw e refl in
    (b ∷ h.0, h.1, ap (λ xs. b ∷ xs) h.2 ∙ ap (λ xs. xs ++ q ∷ h.1) (sym one), omega (arith, h.3, ap length one, is), h.4)

pub only : (q : ℕ) → 0 < q → (bs : List ℕ) (n : ℕ) → quoted q bs ≡ Some n → IsQuoted q bs n
only q some [] n e = absurd (cc)
only q some (b ∷ []) n e = by (nat_eq b q) refl e
  where
    by : (t : Bool) → nat_eq b q ≡ t → (if t then Some 1 else None) ≡ Some n → IsQuoted q (b ∷ []) n
    by true is e = at_last q b [] n is (grind arith) (some_is 1 n e)
    by false is e = absurd (cc)
only q some (b ∷ c ∷ bs) n e = by (nat_eq b q) (nat_eq c q) refl refl (only q some bs) (only q some (c ∷ bs)) e
  where
    by : (t s : Bool) → nat_eq b q ≡ t → nat_eq c q ≡ s → ((m : ℕ) → quoted q bs ≡ Some m → IsQuoted q bs m) → ((m : ℕ) → quoted q (c ∷ bs) ≡ Some m → IsQuoted q (c ∷ bs) m)
        → (if t then (if s then further 2 (quoted q bs) else Some 1) else further 1 (quoted q (c ∷ bs))) ≡ Some n → IsQuoted q (b ∷ c ∷ bs) n
    by true true first second behind later e = let m = further_is 2 (quoted q bs) n e in at_pair q b c bs n m.0 first second m.2 (behind m.0 m.1)
    by true false first second behind later e = at_last q b (c ∷ bs) n first second (some_is 1 n e)
    by false s first second behind later e = let m = further_is 1 (quoted q (c ∷ bs)) n e in at_byte q b (c ∷ bs) n m.0 first m.2 (later m.0 m.1)

pub reads : (q : ℕ) (s : List ℕ) → undoubled q false (doubled q s) ≡ s
reads q [] = refl
reads q (b ∷ s) = by (nat_eq b q) refl (reads q s)
  where
    by : (t : Bool) → nat_eq b q ≡ t → undoubled q false (doubled q s) ≡ s → undoubled q false (if t then b ∷ b ∷ doubled q s else b ∷ doubled q s) ≡ b ∷ s
    by true e later = rw e (ap (λ xs. b ∷ xs) later)
    by false e later = rw e (ap (λ xs. b ∷ xs) later)
