-- Worked entries, by computing.
use Rattle.std.proofs.Common.{◌≡◌, refl, ℕ, ◌+◌, pos, List, [], ◌∷◌, Some, None}
use Rattle.dfx_value.specs.Order.{value_cmp}
use Rattle.dfx_value.specs.Decimal.{units, at_scale}
use Rattle.dfx_value.specs.declared.value.Value.{Value}
use Rattle.dfx_value.specs.declared.value.Value.TheVariants.{Null, Int, Dec}
use Rattle.key_laws.specs.Entries.{upsert, find}

abbrev one : Value
one = Int (pos 1)

-- 1.00
abbrev decimal_one : Value
decimal_one = Dec (at_scale (pos 100) 2)

-- how often each key was met
abbrev met : List (List Value × ℕ) → Value → List (List Value × ℕ)
met entries key = upsert entries (key ∷ []) 0 (λ n. n + 1)

abbrev all : List (List Value × ℕ)
all = met (met (met (met [] one) Null) decimal_one) Null

-- a number of another kind that is equal has the first one's entry, and NULL has one
counted : all ≡ (one ∷ [], 2) ∷ (Null ∷ [], 2) ∷ []
unfolding value_cmp units
counted = refl

found : find all (decimal_one ∷ []) ≡ Some 2
unfolding value_cmp units
found = refl

none_found : find all (Int (pos 2) ∷ []) ≡ None
unfolding value_cmp units
none_found = refl
