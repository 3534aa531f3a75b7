-- Words: the records that a reader of the crate `csv` has left.
use Rattle.std.specs.Prelude.{◌≡◌, ℕ, ◌+◌, List, [], ◌∷◌, length, Option, Some, None, option_map, true}
use Rattle.csv.specs.Reading.{default_config, Ready, records_from, reader_config, reader_trim, reader_state, source_of, is_flexible}
use Rattle.csv.specs.declared.reader.Reader.{Reader}
use Rattle.csv.specs.declared.reader.Trim.TheVariants as trim
use Rattle.csv.specs.declared.parser.State.{State}

-- a record's fields
abbrev pub Fields : Type 0
Fields = List (List ℕ)

-- the records of a text from a state
abbrev pub records_at : State → List ℕ → List Fields
records_at s xs = records_from default_config (length xs + 1) s xs

-- the reader has the settings that this crate gives it, and its next read is of one record
pub record IsSet {R : Type 0} (r : Reader R) : Type 0 where
  pub config : reader_config r ≡ default_config
  pub trim : reader_trim r ≡ trim.None
  pub flexible : is_flexible r ≡ true
  pub ready : Ready r

-- the records that it has left, where its bytes are known
abbrev pub records_left : {R : Type 0} → (R → Option (List ℕ)) → Reader R → Option (List Fields)
records_left remaining r = option_map (records_at (reader_state r)) (source_of remaining r)

-- the fields were the first record of these, and the others are left
abbrev pub Takes : Option (List Fields) → Fields → Option (List Fields) → Type 0
Takes None fields now = Rattle.std.specs.Prelude.⊤
Takes (Some []) fields now = ⊥
Takes (Some (r ∷ rs)) fields now = (r ≡ fields) × (now ≡ Some rs)

-- no record is left
abbrev pub HasNone : Option (List Fields) → Type 0
HasNone None = Rattle.std.specs.Prelude.⊤
HasNone (Some rs) = rs ≡ []
