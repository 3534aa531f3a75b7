-- A list that is too short is no front.
use Rattle.std.proofs.Common.{ℕ, zero, suc, ◌<◌, ◌≤◌, ◌≡◌, refl, false, List, [], ◌∷◌, length, drop, arith}
use Rattle.dfx_value.specs.declared.rows.SortKey.{SortKey}
use Rattle.plan_props.specs.declared.properties.Props.{Props}
use Rattle.plan_props.specs.Satisfies.{is_front}

rest_too_short : (p : Props) (xs : List SortKey) (i : ℕ) → i < length xs → is_front p (drop i xs) [] ≡ false
rest_too_short p [] i h = absurd (omega arith)
rest_too_short p (x ∷ xs) zero h = refl
rest_too_short p (x ∷ xs) (suc i) h = rest_too_short p xs i (omega arith)

pub front_too_short : (p : Props) (xs ys : List SortKey) (i : ℕ) → i < length xs → length ys ≤ i → is_front p (drop i xs) (drop i ys) ≡ false
front_too_short p [] ys i h l = absurd (omega arith)
front_too_short p (x ∷ xs) [] zero h l = refl
front_too_short p (x ∷ xs) (y ∷ ys) zero h l = absurd (omega arith)
front_too_short p (x ∷ xs) [] (suc i) h l = rest_too_short p xs i (omega arith)
front_too_short p (x ∷ xs) (y ∷ ys) (suc i) h l = front_too_short p xs ys i (omega arith) (omega arith)
