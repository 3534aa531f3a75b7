-- Runs of bytes that do nothing but join the field at hand.
use Rattle.std.proofs.Common.{◌≡◌, ◌≢◌, refl, ℕ, zero, suc, ◌≤◌, Bool, true, false, ◌||◌, ◌==◌, cond, List, [], ◌∷◌, length, take, get_or, ap, arith}
use Rattle.std.proofs.lemmas.Bool.{false_from_ne_true}
use Rattle.memchr.specs.Find.{Nowhere, Passes, is_byte, is_byte3}
use Rattle.csv.specs.Machine.{Runs, step}
use Rattle.csv.specs.Reading.{default_config}
use Rattle.csv.specs.declared.parser.State.{State}
use Rattle.csv.specs.declared.parser.State.TheVariants as st
use Rattle.csv.specs.declared.parser.Action.{Action}
use Rattle.csv.specs.declared.parser.Action.TheVariants as act
use Rattle.csv_records.specs.Cursors.{Joins}
use Rattle.csv_records.specs.Places.{begins_field, state_of}
use Rattle.csv_records.specs.declared.machine.Place.{Place}
use Rattle.csv_records.specs.declared.machine.Place.TheVariants as place

-- a run of bytes that don't pass a test
runs_none : (s : State) (test : ℕ → Bool) → ((b : ℕ) → test b ≡ false → step default_config s b ≡ (s, act.Copy))
    → (n : ℕ) (xs : List ℕ) → Nowhere (Passes test xs) 0 n → Runs default_config s (take n xs)
unfolding Runs
runs_none s test goes zero xs none = tt
runs_none s test goes (suc n) [] none = tt
runs_none s test goes (suc n) (x ∷ xs) none = (
  goes x (false_from_ne_true (test x) (none 0 (omega arith) (omega arith))),
  runs_none s test goes n xs (λ k low high. none (suc k) (omega arith) (omega arith)),
)

-- a byte of a field without quotes, by whether it is a comma, a CR and a line feed
abbrev in_field : Bool → Bool → Bool → State × Action
in_field t u w = cond t (st.StartField, act.EndField) (cond (u || w) (cond u st.AfterCr st.StartRecord, act.EndRecord) (st.InField, act.Copy))

plain_goes : (b : ℕ) → is_byte3 44 13 10 b ≡ false → step default_config st.InField b ≡ (st.InField, act.Copy)
plain_goes b e = by_tests (b == 44) (b == 13) (b == 10) e where
  by_tests : (t u w : Bool) → (t || u || w) ≡ false
      → in_field t u w ≡ (st.InField, act.Copy)
  by_tests false false false e = refl
  by_tests true u w e = cc
  by_tests false true w e = cc
  by_tests false false true e = cc

quoted_goes : (b : ℕ) → is_byte 34 b ≡ false → step default_config st.InQuoted b ≡ (st.InQuoted, act.Copy)
quoted_goes b e = by_test (b == 34) e where
  by_test : (t : Bool) → t ≡ false → ◌≡◌ {A = State × Action} (cond t (st.AfterQuote, act.Skip) (st.InQuoted, act.Copy)) (st.InQuoted, act.Copy)
  by_test false e = refl
  by_test true e = cc

pub plain_runs : (xs : List ℕ) (n : ℕ) → Nowhere (Passes (is_byte3 44 13 10) xs) 0 n → Runs default_config st.InField (take n xs)
plain_runs xs n none = runs_none st.InField (is_byte3 44 13 10) plain_goes n xs none

pub quoted_runs : (xs : List ℕ) (n : ℕ) → Nowhere (Passes (is_byte 34) xs) 0 n → Runs default_config st.InQuoted (take n xs)
quoted_runs xs n none = runs_none st.InQuoted (is_byte 34) quoted_goes n xs none

-- the end of a field or of a record isn't a byte that joins
no_field : (x y : State × Action) → ◌≡◌ {A = State × Action} (st.StartField, act.EndField) (st.InField, act.Copy) → x ≡ y
no_field x y e = let same : act.EndField ≡ act.Copy = ap (λ (p : State × Action). p.1) e in cc

no_record : (s : State) (x y : State × Action) → ◌≡◌ {A = State × Action} (s, act.EndRecord) (st.InField, act.Copy) → x ≡ y
no_record s x y e = let same : act.EndRecord ≡ act.Copy = ap (λ (p : State × Action). p.1) e in cc

-- a byte that joins a field without quotes begins one, unless it is a quote
begins : (p : Place) (b : ℕ) → begins_field p ≡ true → step default_config st.InField b ≡ (st.InField, act.Copy) → (b == 34) ≡ false
    → step default_config (state_of p) b ≡ (st.InField, act.Copy)
begins p b h e q = by_place p h where
  by_tests : (t u w v : Bool) → in_field t u w ≡ (st.InField, act.Copy)
      → v ≡ false
      → cond (u || w) (st.StartRecord, act.Skip) (cond v (st.InQuoted, act.Skip) (in_field t u w)) ≡ (st.InField, act.Copy)
  by_tests false false false false e q = refl
  by_tests t u w true e q = cc
  by_tests true u w false e q = no_field _ _ e
  by_tests false true w false e q = no_record st.AfterCr _ _ e
  by_tests false false true false e q = no_record st.StartRecord _ _ e

  after : (t u w v : Bool) → in_field t u w ≡ (st.InField, act.Copy)
      → v ≡ false
      → cond w (st.StartRecord, act.Skip) (cond (u || w) (st.StartRecord, act.Skip) (cond v (st.InQuoted, act.Skip) (in_field t u w))) ≡ (st.InField, act.Copy)
  after false false false false e q = refl
  after t u w true e q = cc
  after true u w false e q = no_field _ _ e
  after false true w false e q = no_record st.AfterCr _ _ e
  after false false true false e q = no_record st.StartRecord _ _ e

  by_place : (p : Place) → begins_field p ≡ true → step default_config (state_of p) b ≡ (st.InField, act.Copy)
  by_place place.StartRecord h = by_tests (b == 44) (b == 13) (b == 10) (b == 34) e q
  by_place place.AfterCr h = after (b == 44) (b == 13) (b == 10) (b == 34) e q
  by_place place.StartField h = rw q e
  by_place place.InField h = cc
  by_place place.InQuoted h = cc
  by_place place.AfterQuote h = cc

pub run_begins : (p : Place) (xs : List ℕ) (n : ℕ) → begins_field p ≡ true → Runs default_config st.InField (take n xs) → n ≢ 0 → n ≤ length xs
    → (get_or xs 0 0 == 34) ≡ false → Joins (state_of p) (take n xs) st.InField
unfolding Runs
run_begins p xs zero h r some within q = absurd (some refl)
run_begins p [] (suc n) h r some within q = absurd (omega arith)
run_begins p (x ∷ xs) (suc n) h r some within q = (begins p x h r.0 q, r.1)

-- a run in a field
pub run_joins : (s : State) (xs : List ℕ) → Runs default_config s xs → Joins s xs s
unfolding Runs
run_joins s [] r = refl
run_joins s (x ∷ xs) r = (r.0, r.1)

pub ruleset run_steps = (plain_runs, quoted_runs, run_begins, run_joins)
