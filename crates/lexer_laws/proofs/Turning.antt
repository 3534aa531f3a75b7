-- The number that bounds the turns never stops them.
use Rattle.std.proofs.Common.{◌≡◌, ℕ, zero, suc, ◌+◌, ◌-◌, ◌<◌, ◌≤◌, List, [], ◌∷◌, length, drop, Result, Ok, refl, sym, ap, ◌∙◌, arith, length-drop}
use Rattle.sql_lexer.specs.declared.token.Token.{Token}
use Rattle.sql_lexer.specs.declared.refused.LexRefused.{LexRefused}
use Rattle.sql_lexer.specs.declared.cut.Cut.{Cut}
use Rattle.sql_lexer.specs.declared.cut.Cut.TheVariants.{Blank, Found, Bad, Wide, Open}
use Rattle.sql_lexer.specs.Cuts.{cut}
use Rattle.sql_lexer.specs.Tokens.{tokens_from, by_cut, before}
use Rattle.sql_lexer.proofs.Turns.{turn_at, turn_end}
use Rattle.lexer_laws.specs.Covers.{Takes, tokens_at}
use Rattle.lexer_laws.proofs.Cutting.{good}

-- what is behind matters only behind what the text begins with
pub same_behind : (f g : ℕ → Result (List Token) LexRefused) (place len : ℕ) (c : Cut) → Takes len c → ((k : ℕ) → 0 < k → k ≤ len → f k ≡ g k) → by_cut f place c ≡ by_cut g place c
same_behind f g place len (Blank n) h e = e n h.0 h.1
same_behind f g place len (Found k n) h e = ap (before (record { kind = k; from = place; to = place + n })) (e n h.0 h.1)
same_behind f g place len (Bad n) h e = refl
same_behind f g place len Wide h e = refl
same_behind f g place len Open h e = refl

-- two numbers that are enough give the same
both : (n m place : ℕ) (bs : List ℕ) → length bs ≤ n → length bs ≤ m → tokens_from n place bs ≡ tokens_from m place bs
both n m place [] h g = turn_end n place [] (omega arith) ∙ sym (turn_end m place [] (omega arith))
both zero m place (b ∷ bs) h g = absurd (omega arith)
both (suc n) m place (b ∷ bs) h g =
    turn_at (suc n) n place (b ∷ bs) (omega arith) (omega arith)
    ∙ same_behind _ _ place (length (b ∷ bs)) (cut (b ∷ bs)) (good (b ∷ bs) (omega arith)).0
    (λ k least most. both n (m - 1) (place + k) (drop k (b ∷ bs)) (omega (arith, length-drop k (b ∷ bs), h, least, most)) (omega (arith, length-drop k (b ∷ bs), g, least, most)))
    ∙ sym (turn_at m (m - 1) place (b ∷ bs) (omega (arith, g)) (omega arith))

pub enough : (n place : ℕ) (bs : List ℕ) → length bs ≤ n → tokens_from n place bs ≡ tokens_at place bs
enough n place bs h = both n (length bs) place bs h (omega arith)

pub none : (place : ℕ) → tokens_at place [] ≡ Ok []
none place = turn_end 0 place [] (omega arith)

pub turn : (place : ℕ) (bs : List ℕ) → 0 < length bs → tokens_at place bs ≡ by_cut (λ k. tokens_at (place + k) (drop k bs)) place (cut bs)
turn place bs some =
    turn_at (length bs) (length bs - 1) place bs (omega (arith, some)) some
    ∙ same_behind _ _ place (length bs) (cut bs) (good bs some).0
    (λ k least most. enough (length bs - 1) (place + k) (drop k bs) (omega (arith, length-drop k bs, least, most)))
