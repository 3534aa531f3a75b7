-- Reads of lists that were written, made or mapped, and what holds of what a test chooses.
use Rattle.std.proofs.Common.{ℕ, zero, suc, ◌≡◌, refl, ap, cond, List, [], ◌∷◌, ◌++◌, map, get_or, set, Bool, true, false, Option, IfSome}
use Rattle.std.specs.List.{AllByRecursion}
use Rattle.core_frame.specs.Frame.{tabulate}

pub read_map : {X Y : Type 0} (h : X → Y) (xs : List X) (i : ℕ) (d : X) → get_or (map h xs) i (h d) ≡ h (get_or xs i d)
read_map h [] i d = refl
read_map h (x ∷ xs) zero d = refl
read_map h (x ∷ xs) (suc i) d = read_map h xs i d

pub tabulate_map : {X Y : Type 0} (h : X → Y) (n : ℕ) (F : ℕ → X) (G : ℕ → Y) → ((i : ℕ) → h (F i) ≡ G i) → map h (tabulate n F) ≡ tabulate n G
tabulate_map h zero F G e = refl
tabulate_map h (suc n) F G e = rw (e 0) (ap (λ z. G 0 ∷ z) (tabulate_map h n (λ i. F (suc i)) (λ i. G (suc i)) (λ i. e (suc i))))

pub within_if : {X : Type 0} (P : X → Type 0) (b : Bool) (x y : Option X) → (b ≡ true → IfSome x P) → (b ≡ false → IfSome y P) → IfSome (cond b x y) P
within_if P true x y h k = h refl
within_if P false x y h k = k refl

pub set_at : {X : Type 0} (P : ℕ → X → Type 0) (xs : List X) (i : ℕ) (x d : X) (j : ℕ) → P i x → P j (get_or xs j d) → P j (get_or (set xs i x) j d)
set_at P [] i x d j n o = o
set_at P (y ∷ xs) zero x d zero n o = n
set_at P (y ∷ xs) zero x d (suc j) n o = o
set_at P (y ∷ xs) (suc i) x d zero n o = o
set_at P (y ∷ xs) (suc i) x d (suc j) n o = set_at (λ k. P (suc k)) xs i x d j n o

pub tabulate_at : {X : Type 0} (P : ℕ → X → Type 0) (n : ℕ) (F : ℕ → X) (d : X) (i : ℕ) → ((j : ℕ) → P j (F j)) → P i d → P i (get_or (tabulate n F) i d)
tabulate_at P zero F d i h k = k
tabulate_at P (suc n) F d zero h k = h zero
tabulate_at P (suc n) F d (suc i) h k = tabulate_at (λ j. P (suc j)) n (λ j. F (suc j)) d i (λ j. h (suc j)) k

pub all_append : {X : Type 0} (P : X → Type 0) (xs ys : List X) → AllByRecursion P xs → AllByRecursion P ys → AllByRecursion P (xs ++ ys)
all_append P [] ys h k = k
all_append P (x ∷ xs) ys h k = (h.0, all_append P xs ys h.1 k)
