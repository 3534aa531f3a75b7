-- Meaning: the values that a vector shows.
use Rattle.std.specs.Prelude.{ℕ, List, replicate, take, Option, Some, None, ◌≡◌}
use Rattle.std.specs.Prelude.{Vec}
use Rattle.std.specs.List.{range_with_len}
use Rattle.dfx_value.specs.declared.value.Value.{Value}
use Rattle.scalar_exprs.specs.declared.refused.EvalRefused.{EvalRefused}
use Rattle.scalar_exprs.specs.declared.refused.EvalRefused.TheVariants as refused
use Rattle.scalar_vector.specs.Fronts.{Front}
use Rattle.scalar_vector.specs.Items.{ints, truths}
use Rattle.scalar_vector.specs.declared.vector.Vector.{Vector}
use Rattle.scalar_vector.specs.declared.vector.Vector.TheVariants as vector
use Rattle.scalar_vector.specs.declared.vector.Part.{Part}
use Rattle.scalar_vector.specs.declared.level.Level.{Level}
use Rattle.scalar_vector.specs.Woven as arm
use Rattle.scalar_vector.specs.declared.places.Places.{Places}
use Rattle.scalar_vector.specs.declared.places.Places.TheVariants as places

abbrev pub values_of : Vector → List Value
values_of (vector.Constant v n) = replicate n v
values_of (vector.Shown c n) = take n c.values
values_of (vector.Made vs) = vs.items
values_of (vector.Ints ns) = ints ns
values_of (vector.Truths bs) = truths bs

abbrev pub front_of : Part → Front
front_of p = record { values = values_of p.vector; fault = p.fault }

-- the places that are meant
abbrev pub places_of : Places → List ℕ
places_of (places.First n) = range_with_len 0 n
places_of (places.Chosen ps) = ps.now

-- all of them, or those that are still open
abbrev pub open_places : {Z : Type 0} → List ℕ → Option (Vec ℕ Z) → List ℕ
open_places all None = all
open_places all (Some rest) = rest.items

-- the front of a part whose rows have been asked for, arm by arm
abbrev pub level_of : Level → arm.Level
level_of l = record { marks = l.marks.items; ended = l.ended; taken = front_of l.taken }

-- what a refusal after these values makes of them
abbrev pub StopsAt : EvalRefused → List Value → Front → Type 0
StopsAt (refused.Fault e) vs f = f ≡ record { values = vs; fault = Some e }
StopsAt refused.NoMemory vs f = ⊥
