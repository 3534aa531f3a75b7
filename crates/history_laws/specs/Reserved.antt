-- Meaning: what histories tell of consumers: what each one holds of the limit.
use Rattle.std.specs.Prelude.{ℕ, ◌+◌, ◌≡◌, ◌==◌, Bool, true, false, if◌then◌else◌, List, [], ◌∷◌, length}
use Rattle.fair_pool.specs.Share.{held_by}
use Rattle.task_shape.specs.Shape.{Shape, task_at, has}
use Rattle.core_frame.specs.Frame.{Frame, place_of, unfinished}
use Rattle.core_frame.specs.Step.{Need, Grow, Free}
use Rattle.history_laws.specs.Histories.{Reply, Go, Past, past_of}

-- what consumer c was granted, where it was n before this need and its reply
abbrev pub kept_one : {B : Type 0} → ℕ → Need B → Reply B → ℕ → ℕ
kept_one c (Grow a bytes) Go n = if a == c then n + bytes else n
kept_one c (Free a bytes) Go n = if a == c then 0 else n
kept_one c _ _ n = n

abbrev pub kept_from : {B : Type 0} → ℕ → ℕ → Past B → ℕ
kept_from c n [] = n
kept_from c n (s ∷ h) = kept_from c (kept_one c s.0 s.1 n) h

-- what consumer c was granted since it last gave all back
abbrev pub kept : {B : Type 0} → ℕ → Past B → ℕ
kept c h = kept_from c 0 h

-- a finished task holds nothing
abbrev pub owed : Bool → ℕ → ℕ
owed true n = n
owed false n = 0

-- each consumer holds what its task's history tells
pub record IsHeld {B : Type 0} (p : Shape) (f : Frame B) (pasts : List (Past B)) : Type 0 where
  pub wide : length f.pool.held ≡ length p.spillable
  pub holds : (t c : ℕ) → has (task_at p t).consumers c ≡ true → held_by f.pool c ≡ owed (unfinished (place_of f t)) (kept c (past_of pasts t))
