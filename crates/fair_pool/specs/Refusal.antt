-- Words: what a refusal tells.
use Rattle.std.specs.Prelude.{ℕ, ◌≡◌}
use Rattle.fair_pool.specs.declared.pool.Exhausted.{Exhausted}
use Rattle.fair_pool.specs.Share.{Pool, held_by, share_of}

-- what was asked, what the consumer holds, and what it may hold
pub record Tells (p : Pool) (c bytes : ℕ) (e : Exhausted) : Type 0 where
  pub requested : e.requested ≡ bytes
  pub held : e.held ≡ held_by p c
  pub share : e.share ≡ share_of p c
