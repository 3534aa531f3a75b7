-- The record at hand, where a byte is taken or the text ends.
use Rattle.std.proofs.Common.{◌≡◌, ℕ, ◌<◌, true, false, List, [], ◌∷◌, ◌++◌, Option, Some, option_map, drop}
use Rattle.csv.specs.Machine.{Read, next_record, ends_at_end, is_end, step, fields_after, field_after}
use Rattle.csv.specs.Reading.{default_config}
use Rattle.csv.specs.declared.parser.State.{State}
use Rattle.csv.specs.declared.parser.State.TheVariants as st
use Rattle.csv.specs.declared.parser.Action.{Action}
use Rattle.csv_records.specs.Cursors.{AtHand, TakesRun}
use Rattle.csv_records.specs.Left.{bytes_left, count_left}
use Rattle.csv_records.proofs.RecordSteps.{byte_goes, byte_ends, text_ends, byte_ahead, byte_fewer, run_goes}

-- a run was taken, and the next byte looked at
pub looked : (s t : State) (old ran now : AtHand) (told : Option (List ℕ)) (first : Option (Option Read)) → TakesRun s t old ran
    → first ≡ option_map (next_record default_config s old.fields old.field) (bytes_left told old.bytes old.at)
    → bytes_left told now.bytes now.at ≡ bytes_left told ran.bytes ran.at → now.fields ≡ ran.fields → now.field ≡ ran.field
    → first ≡ option_map (next_record default_config t now.fields now.field) (bytes_left told now.bytes now.at)
looked s t old ran now told first takes e left fields field = rw (left, fields, field) (run_goes s t old ran told first takes e)

-- the text ends in a record
pub ends_there : (s : State) (now last : AtHand) (told : Option (List ℕ)) (first : Option (Option Read))
    → first ≡ option_map (next_record default_config s now.fields now.field) (bytes_left told now.bytes now.at)
    → bytes_left told now.bytes now.at ≡ option_map (λ (v : List ℕ). []) told → ends_at_end s ≡ true
    → last.fields ≡ now.fields ++ (now.field ∷ []) → last.bytes ≡ now.bytes → last.at ≡ now.at
    → first ≡ option_map (λ (r : List ℕ). Some (last.fields, st.StartRecord, r)) (bytes_left told last.bytes last.at)
ends_there s now last told first e over ends fields bytes place =
    text_ends s now.fields last.fields now.field (bytes_left told now.bytes now.at) (bytes_left told last.bytes last.at) told first
    e over (rw (bytes, place) over) fields ends

ahead_then : (b : ℕ) (now put : AtHand) (told : Option (List ℕ)) → now.bytes ≡ b ∷ drop 1 now.bytes → put.bytes ≡ drop 1 now.bytes → put.at ≡ now.at
    → bytes_left told now.bytes now.at ≡ option_map (λ (ys : List ℕ). b ∷ ys) (bytes_left told put.bytes put.at)
ahead_then b now put told is bytes place = rw (bytes, place) (byte_ahead told b now.at now.bytes is)

-- a byte ends it
pub ends_by : (s t : State) (a : Action) (b : ℕ) (now put : AtHand) (told : Option (List ℕ)) (first : Option (Option Read))
    → first ≡ option_map (next_record default_config s now.fields now.field) (bytes_left told now.bytes now.at)
    → now.bytes ≡ b ∷ drop 1 now.bytes → put.bytes ≡ drop 1 now.bytes → put.at ≡ now.at
    → (t, a) ≡ step default_config s b → put.fields ≡ fields_after a now.fields now.field → is_end a ≡ true
    → first ≡ option_map (λ (r : List ℕ). Some (put.fields, t, r)) (bytes_left told put.bytes put.at)
ends_by s t a b now put told first e is bytes place stepped fields ends =
    byte_ends s t a b now.fields put.fields now.field (bytes_left told now.bytes now.at) (bytes_left told put.bytes put.at) first
    e (ahead_then b now put told is bytes place) stepped fields ends

-- a byte doesn't end it
pub goes_by : (s t : State) (a : Action) (b : ℕ) (now put : AtHand) (told : Option (List ℕ)) (first : Option (Option Read))
    → first ≡ option_map (next_record default_config s now.fields now.field) (bytes_left told now.bytes now.at)
    → now.bytes ≡ b ∷ drop 1 now.bytes → put.bytes ≡ drop 1 now.bytes → put.at ≡ now.at
    → (t, a) ≡ step default_config s b → put.fields ≡ fields_after a now.fields now.field → put.field ≡ field_after a b now.field
    → is_end a ≡ false
    → first ≡ option_map (next_record default_config t put.fields put.field) (bytes_left told put.bytes put.at)
goes_by s t a b now put told first e is bytes place stepped fields field goes =
    byte_goes s t a b now.fields put.fields now.field put.field (bytes_left told now.bytes now.at) (bytes_left told put.bytes put.at) first
    e (ahead_then b now put told is bytes place) stepped fields field goes

pub less_by : (b size : ℕ) (now put : AtHand) → now.bytes ≡ b ∷ drop 1 now.bytes → put.bytes ≡ drop 1 now.bytes → put.at ≡ now.at
    → count_left size put.bytes put.at < count_left size now.bytes now.at
less_by b size now put is bytes place = rw (bytes, place) (byte_fewer size b now.at now.bytes is)
