-- Meaning: whose channels and consumers stations and needs name, told or not.
use Rattle.std.specs.Prelude.{ℕ, Bool, true, ◌&&◌, Option, Some, None, List, [], ◌∷◌}
use Rattle.task_stations.specs.declared.seat.Seat.{Seat}
use Rattle.task_stations.specs.declared.seat.Own.{Own}
use Rattle.task_stations.specs.declared.seat.Own.TheVariants as own
use Rattle.task_stations.specs.declared.station.Station.{Station}
use Rattle.task_stations.specs.declared.station.Station.TheVariants.{Leaf, Scans, Inner}
use Rattle.task_stations.specs.declared.needs.Need.{Need}
use Rattle.task_stations.specs.declared.needs.Need.TheVariants as need
use Rattle.task_stations.specs.declared.needs.Step.{Step}
use Rattle.task_stations.specs.declared.needs.Step.TheVariants as step

-- a number passes, where there is one
abbrev pub passes_if : (ℕ → Bool) → Option ℕ → Bool
passes_if h None = true
passes_if h (Some c) = h c

-- its consumer passes
abbrev pub is_seat_named : {T : Type 0} → (ℕ → Bool) → Seat T → Bool
is_seat_named h seat = passes_if h seat.consumer

-- the channels of the stations pass r, their consumers h
abbrev pub are_named : {T F : Type 0} → (ℕ → ℕ → Bool) → (ℕ → Bool) → List (Station T F) → Bool
are_named r h [] = true
are_named r h (Leaf l ∷ ss) = r l.group l.channel && are_named r h ss
are_named r h (Scans s ∷ ss) = are_named r h ss
are_named r h (Inner seat ∷ ss) = is_seat_named h seat && are_named r h ss

-- what a need names passes
abbrev pub is_need_named : (ℕ → ℕ → Bool) → (ℕ → Bool) → Need → Bool
is_need_named r h (need.Recv g c) = r g c
is_need_named r h (need.Grow c bytes) = h c
is_need_named r h (need.Free c bytes) = h c
is_need_named r h _ = true

abbrev pub is_named : (ℕ → ℕ → Bool) → (ℕ → Bool) → Step → Bool
is_named r h (step.Asks m) = is_need_named r h m
is_named r h _ = true

abbrev pub is_own_named : (ℕ → ℕ → Bool) → (ℕ → Bool) → Own → Bool
is_own_named r h (own.Done s) = is_named r h s
is_own_named r h (own.Wants i) = true
