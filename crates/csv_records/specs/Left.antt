-- Meaning: the records that a reader has left of a source's bytes.
-- The records of a text are those that the crate `csv` reads with its default reader: RFC 4180, where a line may also end in
-- CR or LF alone, and empty lines are no records.
use Rattle.std.specs.Prelude.{◌≡◌, ℕ, ◌+◌, ◌-◌, Bool, true, false, List, [], ◌∷◌, ◌++◌, length, drop, Option, Some, None, option_map, ⊤}
use Rattle.csv.specs.Reading.{default_config, records_from}
use Rattle.csv.specs.declared.parser.State.{State}
use Rattle.csv.specs.declared.parser.State.TheVariants as st

-- a record's fields
abbrev pub Fields : Type 0
Fields = List (List ℕ)

-- what a clause sees of a reader: the bytes that were read and not taken, the place in the source behind them, whether the
-- byte before them is a CR that ended a record, and the record that was taken last
pub record Ahead : Type 0 where
  pub bytes : List ℕ
  pub at : ℕ
  pub after_cr : Bool
  pub fields : Fields

-- the bytes that are left of a source that tells its own: those ahead, and those from a place on
abbrev pub bytes_left : Option (List ℕ) → List ℕ → ℕ → Option (List ℕ)
bytes_left told bytes at = option_map (λ v. bytes ++ drop at v) told

-- a bound on them, from the source's size
abbrev pub count_left : ℕ → List ℕ → ℕ → ℕ
count_left size bytes at = length bytes + (size - at)

abbrev pub most_left : ℕ → Ahead → ℕ
most_left size r = count_left size r.bytes r.at

-- the state of the machine between two records
abbrev pub between : Bool → State
between true = st.AfterCr
between false = st.StartRecord

-- the records of a text from a state
abbrev pub records_at : State → List ℕ → List Fields
records_at s xs = records_from default_config (length xs + 1) s xs

-- the records that a reader has left, where the source tells its bytes
abbrev pub records_left : Option (List ℕ) → Ahead → Option (List Fields)
records_left told r = option_map (records_at (between r.after_cr)) (bytes_left told r.bytes r.at)

-- the fields were the first record of these, and the others are left
abbrev pub Takes : Option (List Fields) → Fields → Option (List Fields) → Type 0
Takes None fields now = ⊤
Takes (Some []) fields now = ⊥
Takes (Some (r ∷ rs)) fields now = (r ≡ fields) × (now ≡ Some rs)

-- no record is left
abbrev pub HasNone : Option (List Fields) → Type 0
HasNone None = ⊤
HasNone (Some rs) = rs ≡ []
