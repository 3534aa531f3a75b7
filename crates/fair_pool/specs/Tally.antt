-- Words: what a pool keeps beside its lists, so that a share is found at once.
use Rattle.std.specs.Prelude.{ℕ, ◌≤◌, ◌≡◌, sum, Bool, List, length}
use Rattle.fair_pool.specs.Share.{fixed, spillables}

-- each consumer has an entry, the limit is kept, and the three totals are those of the lists
pub record IsTallied (limit : ℕ) (can_spill : List Bool) (held : List ℕ) (all kept many : ℕ) : Type 0 where
  pub long : length held ≡ length can_spill
  pub within : sum held ≤ limit
  pub in_all : all ≡ sum held
  pub unspillable : kept ≡ fixed can_spill held
  pub spillable : many ≡ spillables can_spill
