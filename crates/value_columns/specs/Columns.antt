-- Meaning: a column as its kind and its values.
use Rattle.std.specs.Prelude.{ℕ, ◌+◌, ◌<◌, ◌^◌, ◌≡◌, Bool, true, ◌&&◌, List, [], ◌∷◌, ◌++◌, map, length, Option, Some, None, slice_index_or, slice_range}
use Rattle.dfx_value.specs.Kinds.{is_of, is_kind}
use Rattle.dfx_value.specs.declared.kind.Kind.{Kind}
use Rattle.dfx_value.specs.declared.value.Value.{Value}
use Rattle.dfx_value.specs.declared.value.Value.TheVariants as value

pub record KindedValues : Type 0 where
  pub kind : Kind
  pub values : List Value

-- each is NULL or of the kind
abbrev pub all_of : Kind → List Value → Bool
all_of k [] = true
all_of k (v ∷ vs) = is_of k v && all_of k vs

-- values of a kind, fewer than 2^32
pub record Kinded (k : Kind) (vs : List Value) : Type 0 where
  pub few : length vs < 2 ^ 32
  pub kind : is_kind k ≡ true
  pub values : all_of k vs ≡ true

-- NULL, or the value of an item
abbrev pub or_null : {A : Type 0} → (A → Value) → Option A → Value
or_null f None = value.Null
or_null f (Some x) = f x

-- the column with one value more
abbrev pub with_value : KindedValues → Value → KindedValues
with_value c v = record c { values = c.values ++ v ∷ [] }

-- the column with a part of another's values more
abbrev pub with_part : KindedValues → KindedValues → ℕ → ℕ → KindedValues
with_part c d from to = record c { values = c.values ++ slice_range d.values from to }

-- the values at these places, counted from a start
abbrev pub chosen_of : List Value → ℕ → List ℕ → List Value
chosen_of vs from places = map (λ p. slice_index_or vs (from + p) value.Null) places

abbrev pub chosen : KindedValues → ℕ → List ℕ → KindedValues
chosen c from places = record c { values = chosen_of c.values from places }
