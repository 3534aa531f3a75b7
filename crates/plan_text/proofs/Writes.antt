-- Pieces of a text, written one after another.
use Rattle.std.proofs.Common.{ℕ, ◌≡◌, ap, ◌∙◌, List, ◌++◌}
use Rattle.std.proofs.lemmas.List.{append_assoc}

pub two_writes : (t u v a b : List ℕ) → u ≡ t ++ a → v ≡ u ++ b → v ≡ t ++ (a ++ b)
two_writes t u v a b one two = two ∙ ap (λ (s : List ℕ). s ++ b) one ∙ append_assoc t a b

pub three_writes : (t u v w a b c : List ℕ) → u ≡ t ++ a → v ≡ u ++ b → w ≡ v ++ c → w ≡ t ++ (a ++ (b ++ c))
three_writes t u v w a b c one two three = three ∙ ap (λ (s : List ℕ). s ++ c) (two_writes t u v a b one two) ∙ append_assoc t (a ++ b) c ∙ ap (λ (s : List ℕ). t ++ s) (append_assoc a b c)
