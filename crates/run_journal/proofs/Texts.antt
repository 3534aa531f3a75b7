-- Pieces of a text, joined.
use Rattle.std.proofs.Common.{ℕ, ◌≡◌, ap, ◌∙◌, List, ◌++◌}
use Rattle.std.proofs.lemmas.List.{append_assoc}

-- the text after each of five writes
pub five_writes : (t t1 t2 t3 t4 t5 a b c d e : List ℕ) → t5 ≡ t4 ++ e → t4 ≡ t3 ++ d → t3 ≡ t2 ++ c → t2 ≡ t1 ++ b → t1 ≡ t ++ a → t5 ≡ t ++ (a ++ (b ++ (c ++ (d ++ e))))
five_writes t t1 t2 t3 t4 t5 a b c d e w5 w4 w3 w2 w1 =
    w5 ∙ (ap (λ x. x ++ e) w4 ∙ (append_assoc t3 d e ∙ (ap (λ x. x ++ (d ++ e)) w3 ∙ (append_assoc t2 c (d ++ e) ∙ (ap (λ x. x ++ (c ++ (d ++ e))) w2
    ∙ (append_assoc t1 b (c ++ (d ++ e)) ∙ (ap (λ x. x ++ (b ++ (c ++ (d ++ e)))) w1 ∙ append_assoc t a (b ++ (c ++ (d ++ e))))))))))
