-- Meaning: what is kept of the values of an aggregate, and the cells that hold it.
use Rattle.std.specs.Prelude.{ℕ, ◌+◌, ◌^◌, pos, unsigned_abs, ◌-ℤ◌, nat_lt, not, Bool, true, false, ◌||◌, Option, List, [], ◌∷◌, length, fold, Ok, Err, if◌then◌else◌}
use Rattle.dfx_value.specs.Decimal.{at_scale, mean}
use Rattle.dfx_value.specs.Rows.{cell}
use Rattle.dfx_value.specs.declared.kind.Kind.{Kind}
use Rattle.dfx_value.specs.declared.value.Value.{Value}
use Rattle.dfx_value.specs.declared.value.Value.TheVariants as value
use Rattle.dfx_value.specs.declared.fault.EvalFault.TheVariants.{Overflow}
use Rattle.dfx_value.specs.declared.op.AggCall.{AggCall}
use Rattle.dfx_value.specs.declared.op.AggCall.TheVariants as call
use Rattle.scalar_exprs.specs.Truth.{is_null}
use Rattle.scalar_exprs.specs.Functions.{Outcome, decimal}
use Rattle.scalar_exprs.specs.Kinds.{scale_of, mean_scale}
use Rattle.scalar_exprs.specs.Agg.{present, gains, losses, unscaled, lesser, greater, least, greatest}

-- how many values, the sum of those above 0, that of the magnitudes below, and whether one of these
-- was past its range, for good, and then they are 0
pub record Totals : Type 0 where
  pub count : ℕ
  pub plus : ℕ
  pub minus : ℕ
  pub over : Bool

abbrev pub too_many : ℕ → ℕ → ℕ → Bool
too_many n p m = not (nat_lt n (2 ^ 63)) || not (nat_lt p (10 ^ 38)) || not (nat_lt m (10 ^ 38))

abbrev pub past : Totals
past = record { count = 0; plus = 0; minus = 0; over = true }

abbrev pub within : ℕ → ℕ → ℕ → Totals
within n p m = record { count = n; plus = p; minus = m; over = false }

unfoldable pub capped : ℕ → ℕ → ℕ → Bool → Totals
capped n p m over = if over || too_many n p m then past else within n p m

abbrev pub added : Totals → Totals → Totals
added s t = capped (s.count + t.count) (s.plus + t.plus) (s.minus + t.minus) (s.over || t.over)

-- what is kept of values: totals, or the best value, NULL of none
pub data State : Type 0 where
  Sums : (totals : Totals) → State
  Best : (value : Value) → State

-- the better one of two, of which NULL is none
abbrev pub better : (Value → Value → Value) → Value → Value → Value
better pick v w = if is_null v then w else if is_null w then v else pick v w

abbrev pub best : (Value → List Value → Value) → List Value → Value
best pick [] = value.Null
best pick (v ∷ vs) = pick v vs

abbrev pub counting : List Value → State
counting vs = Sums (capped (length vs) 0 0 false)

abbrev pub summing : List Value → State
summing vs = Sums (capped (length vs) (gains vs) (losses vs) false)

-- the state of all values of the argument
abbrev pub state_of : AggCall → List Value → State
state_of call.CountAll vs = counting vs
state_of (call.Count c) vs = counting (present vs)
state_of (call.Sum c) vs = summing (present vs)
state_of (call.Min c) vs = Best (best least (present vs))
state_of (call.Max c) vs = Best (best greatest (present vs))
state_of (call.Avg c) vs = summing (present vs)

-- the better value by the call
abbrev pub chosen : AggCall → Value → Value → Value
chosen (call.Max c) = better greater
chosen _ = better lesser

-- the state of the values of two
abbrev pub merged : AggCall → State → State → State
merged c (Sums s) (Sums t) = Sums (added s t)
merged c (Best v) (Best w) = Best (chosen c v w)
merged c (Sums s) (Best w) = Sums s
merged c (Best v) (Sums t) = Best v

abbrev pub all_merged : AggCall → List State → State
all_merged c = fold (merged c) (state_of c [])

-- ---- cells

abbrev pub count_cells : State → List Value
count_cells (Sums t) = value.Int (pos t.count) ∷ value.Bool t.over ∷ []
count_cells (Best v) = []

abbrev pub sum_cells : ℕ → State → List Value
sum_cells s (Sums t) =
    value.Int (pos t.count) ∷ value.Dec (at_scale (pos t.plus) s)
    ∷ value.Dec (at_scale (pos t.minus) s) ∷ value.Bool t.over ∷ []
sum_cells s (Best v) = []

abbrev pub best_cells : State → List Value
best_cells (Sums t) = []
best_cells (Best v) = v ∷ []

-- the state columns of a call, whose argument has this kind
abbrev pub cells_of : AggCall → Option Kind → State → List Value
cells_of call.CountAll k = count_cells
cells_of (call.Count c) k = count_cells
cells_of (call.Sum c) k = sum_cells (scale_of k)
cells_of (call.Min c) k = best_cells
cells_of (call.Max c) k = best_cells
cells_of (call.Avg c) k = sum_cells (scale_of k)

abbrev pub magnitude : Value → ℕ
magnitude v = unsigned_abs (unscaled v)

abbrev pub truth : Value → Bool
truth (value.Bool b) = b
truth _ = false

abbrev pub read_count : List Value → State
read_count cells = Sums (record {
  count = magnitude (cell cells 0);
  plus = 0;
  minus = 0;
  over = truth (cell cells 1);
})

abbrev pub read_sums : List Value → State
read_sums cells = Sums (record {
  count = magnitude (cell cells 0);
  plus = magnitude (cell cells 1);
  minus = magnitude (cell cells 2);
  over = truth (cell cells 3);
})

abbrev pub read_best : List Value → State
read_best cells = Best (cell cells 0)

-- the state that the first of these cells hold
abbrev pub read : AggCall → List Value → State
read call.CountAll = read_count
read (call.Count c) = read_count
read (call.Sum c) = read_sums
read (call.Min c) = read_best
read (call.Max c) = read_best
read (call.Avg c) = read_sums

-- ---- answers

abbrev pub or_over : Bool → Outcome → Outcome
or_over over answer = if over then Err Overflow else answer

abbrev pub unless_none : ℕ → Outcome → Outcome
unless_none n answer = if nat_lt 0 n then answer else Ok value.Null

abbrev pub count_answer : State → Outcome
count_answer (Sums t) = or_over t.over (Ok (value.Int (pos t.count)))
count_answer (Best v) = Ok v

abbrev pub sum_answer : ℕ → State → Outcome
sum_answer s (Sums t) =
    or_over t.over (unless_none t.count (Ok (value.Dec (at_scale (pos t.plus -ℤ pos t.minus) s))))
sum_answer s (Best v) = Ok v

abbrev pub mean_answer : ℕ → State → Outcome
mean_answer s (Sums t) =
    or_over t.over (unless_none t.count
    (decimal (mean (at_scale (pos t.plus -ℤ pos t.minus) s) t.count (mean_scale s))))
mean_answer s (Best v) = Ok v

-- the answer of a call, whose argument has this kind
abbrev pub finished : AggCall → Option Kind → State → Outcome
finished call.CountAll k = count_answer
finished (call.Count c) k = count_answer
finished (call.Sum c) k = sum_answer (scale_of k)
finished (call.Min c) k = count_answer
finished (call.Max c) k = count_answer
finished (call.Avg c) k = mean_answer (scale_of k)
