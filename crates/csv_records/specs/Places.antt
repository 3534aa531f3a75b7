-- Words: the states and the actions of the crate `csv` that a place and an effect stand for.
use Rattle.std.specs.Prelude.{Bool, true, false}
use Rattle.csv.specs.declared.parser.State.{State}
use Rattle.csv.specs.declared.parser.State.TheVariants as st
use Rattle.csv.specs.declared.parser.Action.{Action}
use Rattle.csv.specs.declared.parser.Action.TheVariants as act
use Rattle.csv_records.specs.declared.machine.Place.{Place}
use Rattle.csv_records.specs.declared.machine.Place.TheVariants as place
use Rattle.csv_records.specs.declared.machine.Effect.{Effect}
use Rattle.csv_records.specs.declared.machine.Effect.TheVariants as effect

abbrev pub state_of : Place → State
state_of place.StartRecord = st.StartRecord
state_of place.AfterCr = st.AfterCr
state_of place.StartField = st.StartField
state_of place.InField = st.InField
state_of place.InQuoted = st.InQuoted
state_of place.AfterQuote = st.AfterQuote

abbrev pub action_of : Effect → Action
action_of effect.Skip = act.Skip
action_of effect.Copy = act.Copy
action_of effect.EndField = act.EndField
action_of effect.EndRecord = act.EndRecord

-- a field without quotes begins with the next byte that joins one
abbrev pub begins_field : Place → Bool
begins_field place.StartRecord = true
begins_field place.AfterCr = true
begins_field place.StartField = true
begins_field place.InField = false
begins_field place.InQuoted = false
begins_field place.AfterQuote = false
