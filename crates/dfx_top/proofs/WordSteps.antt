-- Numbers that are too great for partitions.
use Rattle.std.proofs.Common.{◌≡◌, refl, ℕ, suc, ◌+◌, ◌*◌, ◌-◌, ◌<◌, Bool, true, false, cond, Option, Some, None, List, [], ◌∷◌, ap, arith}
use Rattle.std.specs.Prelude.{◌&&◌, nat_le}
use Rattle.std.proofs.lemmas.Bool.{lt-leb}
use Rattle.std.specs.Char.{is_ascii_digit}
use Rattle.dfx_top.specs.CommandWords.{number_after, in_range}

above : (n : ℕ) → 64 < n → nat_le n 64 ≡ false
above n h = lt-leb n 64 h

and_false : (a b : Bool) → b ≡ false → (a && b) ≡ false
and_false true b h = h
and_false false b h = refl

pub too_great : (n : ℕ) (bs : List ℕ) → 64 < n → in_range (number_after n bs) ≡ None
too_great n [] h = ap (λ (b : Bool). cond b (Some n) None) (and_false (nat_le 1 n) (nat_le n 64) (above n h))
too_great n (b ∷ bs) h = go (is_ascii_digit b) (too_great (n * 10 + (b - 48)) bs (omega arith)) where
  go : (d : Bool) → in_range (number_after (n * 10 + (b - 48)) bs) ≡ None → in_range (cond d (number_after (n * 10 + (b - 48)) bs) None) ≡ None
  go true more = more
  go false more = refl
