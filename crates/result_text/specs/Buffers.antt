-- Words: what a call appends to a buffer.
use Rattle.std.specs.Prelude.{ℕ, ◌≡◌, ◌++◌, List, Result, Ok, Err}
use Rattle.std.specs.Io.{StartsWith}

-- these bytes were put at the end; for want of memory what was there stands in front of what is there
abbrev pub Appends : {A E : Type 0} → Result A E → List ℕ → List ℕ → List ℕ → Type 0
Appends (Ok done) before bytes now = now ≡ before ++ bytes
Appends (Err e) before bytes now = StartsWith now before
