-- Worked examples of cells, by computing: eleven values in their order, and their printed texts.
use Rattle.std.specs.Prelude.{ℕ, ℤ, pos, neg_ℤ, true, false, codes, List, [], ◌∷◌, map}
use Rattle.std.proofs.Common.{◌≡◌, refl}
use Rattle.std.specs.Fmt.{digits}
use Rattle.std.specs.declared.cmp.Ordering.{Ordering}
use Rattle.std.specs.declared.cmp.Ordering.TheVariants.{Less, Equal, Greater}
use Rattle.dfx_value.specs.Decimal.{at_scale, units}
use Rattle.dfx_value.specs.Order.{value_cmp}
use Rattle.dfx_value.specs.Print.{printed, decimal_text}
use Rattle.dfx_value.specs.declared.value.Value.{Value}
use Rattle.dfx_value.specs.declared.value.Value.TheVariants as value

abbrev decimal : ℤ → ℕ → Value
decimal unscaled scale = value.Dec (at_scale unscaled scale)

abbrev ascending : List Value
ascending =
    value.Null
    ∷ (value.Bool false)
    ∷ (value.Bool true)
    ∷ (value.Int (neg_ℤ (pos 9223372036854775808)))
    ∷ (decimal (neg_ℤ (pos 25)) 1)
    ∷ (decimal (pos 5) 3)
    ∷ (value.Int (pos 1))
    ∷ (decimal (pos 1050) 2)
    ∷ (value.Text [])
    ∷ (value.Text (codes "a"))
    ∷ (value.Text (195 ∷ 169 ∷ []))
    ∷ []

texts : map printed ascending ≡ [] ∷ codes "false" ∷ codes "true" ∷ codes "-9223372036854775808" ∷ codes "-2.5" ∷ codes "0.005" ∷ codes "1" ∷ codes "10.50" ∷ [] ∷ codes "a" ∷ (195 ∷ 169 ∷ []) ∷ []
unfolding decimal_text digits
texts = refl

-- each stands to each as its place to the other's
abbrev against : Value → List Ordering
against v = map (value_cmp v) ascending

order : map against ascending ≡
    (Equal ∷ Less ∷ Less ∷ Less ∷ Less ∷ Less ∷ Less ∷ Less ∷ Less ∷ Less ∷ Less ∷ [])
    ∷ (Greater ∷ Equal ∷ Less ∷ Less ∷ Less ∷ Less ∷ Less ∷ Less ∷ Less ∷ Less ∷ Less ∷ [])
    ∷ (Greater ∷ Greater ∷ Equal ∷ Less ∷ Less ∷ Less ∷ Less ∷ Less ∷ Less ∷ Less ∷ Less ∷ [])
    ∷ (Greater ∷ Greater ∷ Greater ∷ Equal ∷ Less ∷ Less ∷ Less ∷ Less ∷ Less ∷ Less ∷ Less ∷ [])
    ∷ (Greater ∷ Greater ∷ Greater ∷ Greater ∷ Equal ∷ Less ∷ Less ∷ Less ∷ Less ∷ Less ∷ Less ∷ [])
    ∷ (Greater ∷ Greater ∷ Greater ∷ Greater ∷ Greater ∷ Equal ∷ Less ∷ Less ∷ Less ∷ Less ∷ Less ∷ [])
    ∷ (Greater ∷ Greater ∷ Greater ∷ Greater ∷ Greater ∷ Greater ∷ Equal ∷ Less ∷ Less ∷ Less ∷ Less ∷ [])
    ∷ (Greater ∷ Greater ∷ Greater ∷ Greater ∷ Greater ∷ Greater ∷ Greater ∷ Equal ∷ Less ∷ Less ∷ Less ∷ [])
    ∷ (Greater ∷ Greater ∷ Greater ∷ Greater ∷ Greater ∷ Greater ∷ Greater ∷ Greater ∷ Equal ∷ Less ∷ Less ∷ [])
    ∷ (Greater ∷ Greater ∷ Greater ∷ Greater ∷ Greater ∷ Greater ∷ Greater ∷ Greater ∷ Greater ∷ Equal ∷ Less ∷ [])
    ∷ (Greater ∷ Greater ∷ Greater ∷ Greater ∷ Greater ∷ Greater ∷ Greater ∷ Greater ∷ Greater ∷ Greater ∷ Equal ∷ [])
    ∷ []
unfolding value_cmp units
order = refl
