-- Words: the record at hand.
use Rattle.std.specs.Prelude.{◌≡◌, ◌≤◌, ℕ, List, [], ◌∷◌, ◌++◌, map, slice_range}
use Rattle.csv.specs.Machine.{Runs, step}
use Rattle.csv.specs.Reading.{default_config}
use Rattle.csv.specs.declared.parser.State.{State}
use Rattle.csv.specs.declared.parser.Action.TheVariants as act
use Rattle.csv_records.specs.Left.{Fields}
use Rattle.csv_records.specs.declared.span.Span.{Span}

-- what a clause sees of a cursor: the fields of the record at hand that have ended, the bytes of the one that hasn't, the
-- bytes that were read and not taken, and the place in the source behind them
pub record AtHand : Type 0 where
  pub fields : Fields
  pub field : List ℕ
  pub bytes : List ℕ
  pub at : ℕ

-- the fields that stand in kept bytes
abbrev pub fields_in : List ℕ → List Span → Fields
fields_in kept spans = map (λ s. slice_range kept s.from s.to) spans

-- a field lies within so many bytes
pub record Lies (total : ℕ) (s : Span) : Type 0 where
  pub order : s.from ≤ s.to
  pub within : s.to ≤ total

-- bytes do nothing but join the field at hand, the first of which may begin it
abbrev pub Joins : State → List ℕ → State → Type 0
Joins s [] t = s ≡ t
Joins s (b ∷ bs) t = (step default_config s b ≡ (t, act.Copy)) × Runs default_config t bs

-- bytes at the front that do nothing but join the field at hand went to its end
pub record TakesRun (s t : State) (old new : AtHand) : Type 0 where
  pub run : List ℕ
  pub joins : Joins s run t
  pub bytes : old.bytes ≡ run ++ new.bytes
  pub field : new.field ≡ old.field ++ run
  pub fields : new.fields ≡ old.fields
  pub at : new.at ≡ old.at
