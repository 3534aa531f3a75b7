-- Texts that start with another.
use Rattle.std.proofs.Common.{◌≡◌, ℕ, List, [], ◌++◌, length, take, drop, ap, sym, ◌∙◌, append_assoc}
use Rattle.std.proofs.Math.Seq.{take-append_seam, take-length}
use Rattle.std.proofs.lemmas.List.{take-append-drop}

pub starts_same : (a b : List ℕ) → b ≡ a → take (length a) b ≡ a
starts_same a b e = ap (take (length a)) e ∙ take-length a

pub starts_more : (a b x : List ℕ) → b ≡ a ++ x → take (length a) b ≡ a
starts_more a b x e = ap (take (length a)) e ∙ take-append_seam a x

-- what starts with more than a text starts with the text
pub starts_after : (a b c x : List ℕ) → b ≡ a ++ x → take (length b) c ≡ b → take (length a) c ≡ a
starts_after a b c x e h =
    let whole : c ≡ a ++ (x ++ drop (length b) c) =
    sym (take-append-drop (length b) c) ∙ ap (λ t. t ++ drop (length b) c) (h ∙ e) ∙ append_assoc a x (drop (length b) c) in
    starts_more a c (x ++ drop (length b) c) whole

pub ruleset starts = (starts_same, starts_more, starts_after)
