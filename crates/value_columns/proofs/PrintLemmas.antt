-- Texts that begin with what they were.
use Rattle.std.proofs.Common.{◌≡◌, ℕ, ◌+◌, ◌≤◌, List, [], ◌∷◌, ◌++◌, length, take, ap, sym, ◌∙◌, subst, arith, length-append}
use Rattle.std.proofs.lemmas.List.{take_all, take-append-le, take-take}
use Rattle.std.proofs.Math.Seq.{take-length}
use Rattle.std.specs.Io.{StartsWith}

pub starts-same : (x y : List ℕ) → x ≡ y → StartsWith x y
starts-same x y h = ap (take (length y)) h ∙ take-length y

-- what begins with a longer text begins with its front
pub starts-front : (z x y w : List ℕ) → StartsWith z y → y ≡ x ++ w → StartsWith z x
starts-front z x y w h is =
    let len : length y ≡ length x + length w = ap length is ∙ length-append x w in
    sym (take-take (length x) (length y) z (omega arith)) ∙ ap (take (length x)) (h ∙ is) ∙ take-append-le (length x) x w (omega arith) ∙ take-length x

pub ruleset starts = (starts-same, starts-front)
