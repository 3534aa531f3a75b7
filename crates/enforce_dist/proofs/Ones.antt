-- A number that is cut at a greater one is 1 where it is 1.
use Rattle.std.proofs.Common.{ℕ, ◌≡◌, min, eqb, arith}
use Rattle.std.proofs.lemmas.Bool.Decides.{nat_tests}

pub one_below : (x y : ℕ) → y ≡ min x 4294967295 → eqb y 1 ≡ eqb x 1
one_below x y e = grind (arith, nat_tests)
