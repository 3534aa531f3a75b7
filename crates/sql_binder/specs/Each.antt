-- Meaning: a list, one after the other, to the first refusal.
use Rattle.std.specs.Prelude.{List, [], ◌∷◌, ◌++◌, Ok}
use Rattle.typed_exprs.specs.Answer.{Answer, ◌>>=◌}

-- behind those that are done
abbrev pub each_after : {A B : Type 0} → (A → Answer B) → List B → List A → Answer (List B)
each_after f done [] = Ok done
each_after f done (x ∷ xs) = f x >>= λ y. each_after f (done ++ y ∷ []) xs

abbrev pub each : {A B : Type 0} → (A → Answer B) → List A → Answer (List B)
each f xs = each_after f [] xs
