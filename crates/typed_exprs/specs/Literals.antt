-- Meaning: the constants that numbers as written are.
use Rattle.std.specs.Prelude.{ℕ, ◌+◌, max, Bool, false, ◌==◌, ◌||◌, Option, Some, None, option_and_then, List, [], ◌∷◌, length, if◌then◌else◌}
use Rattle.dfx_value.specs.Kinds.{is_kind}
use Rattle.dfx_value.specs.declared.kind.Kind.{Kind}
use Rattle.dfx_value.specs.declared.kind.Kind.TheVariants as kind
use Rattle.dfx_value.specs.declared.value.Value.{Value}
use Rattle.dfx_value.specs.Parse.{whole, fraction, is_point, parsed}

abbrev pub has_point : List ℕ → Bool
has_point [] = false
has_point (b ∷ bs) = is_point b || has_point bs

abbrev pub without_zeros : List ℕ → List ℕ
without_zeros [] = []
without_zeros (b ∷ bs) = if b == 48 then without_zeros bs else b ∷ bs

-- how many digits there are, those of the whole part without zeros at its front; where it has no other, nor are those of the fraction
abbrev pub significant : List ℕ → List ℕ → ℕ
significant [] f = length (without_zeros f)
significant (b ∷ bs) f = length (b ∷ bs) + length f

-- the digits after the point
abbrev pub scale : List ℕ → ℕ
scale text = length (fraction text)

abbrev pub precision : List ℕ → ℕ
precision text = max 1 (max (scale text) (significant (without_zeros (whole text)) (fraction text)))

abbrev pub decimal_kind : List ℕ → Kind
decimal_kind text = kind.Dec (precision text) (scale text)

abbrev pub with_kind : Kind → Option Value → Option (Value × Kind)
with_kind k v = option_and_then (λ w. Some (w, k)) v

-- none where there are more digits than a decimal has
abbrev pub kind_where : List ℕ → Option Kind
kind_where text = if is_kind (decimal_kind text) then Some (decimal_kind text) else None

abbrev pub decimal : List ℕ → Option (Value × Kind)
decimal text = option_and_then (λ k. with_kind k (parsed k text)) (kind_where text)

abbrev pub or_decimal : Option Value → List ℕ → Option (Value × Kind)
or_decimal None text = decimal text
or_decimal (Some v) text = Some (v, kind.Int)

-- a whole number within 64 bits, or else a decimal of as many digits as are written; none where a text is neither
abbrev pub literal : List ℕ → Option (Value × Kind)
literal text = if has_point text then decimal text else or_decimal (parsed kind.Int text) text
