-- What an escaped text stands for, behind bytes that were read.
use Rattle.std.proofs.Common.{◌≡◌, refl, ap, ℕ, List, [], ◌∷◌, ◌++◌, Option, Some, None, append_assoc}
use Rattle.std.specs.Prelude.{option_map}

-- these bytes, and then the others
abbrev pub behind_all : List ℕ → Option (List ℕ) → Option (List ℕ)
behind_all done None = None
behind_all done (Some rest) = Some (done ++ rest)

pub behind_none : (rest : Option (List ℕ)) → behind_all [] rest ≡ rest
behind_none None = refl
behind_none (Some rest) = refl

pub behind_byte : (done : List ℕ) (b : ℕ) (rest : Option (List ℕ))
    → behind_all done (option_map (λ bytes. b ∷ bytes) rest) ≡ behind_all (done ++ b ∷ []) rest
behind_byte done b None = refl
behind_byte done b (Some rest) = ap Some (search (append_assoc))

pub ruleset behind_steps = (behind_none, behind_byte)
