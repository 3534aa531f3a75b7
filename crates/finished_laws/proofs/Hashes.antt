-- A row's channel is one of those that there are.
use Rattle.std.proofs.Common.{ℕ, ◌<◌, sym, subst}
use Rattle.std.proofs.Math.Nat.{mod-lt}
use Rattle.plan_props.specs.Meets.{Hashing, cells_at}
use Rattle.plan_task_laws.specs.Trees.{Doing}
use Rattle.plan_task_laws.specs.Placed.{IsHashing}
use Rattle.finished_laws.specs.Rows.{IsChannelOf}

pub hashing_of : (h : Hashing) (f : Doing) → IsChannelOf h f → IsHashing f
hashing_of h f channels columns n r more = subst (λ (c : ℕ). c < n) (sym (channels.channel columns n r)) (mod-lt (h (cells_at columns r)) more)
