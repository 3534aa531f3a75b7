-- Words: a test of shapes that computes.
use Rattle.std.specs.Prelude.{ℕ, zero, suc, ◌==◌, Bool, true, false, ◌&&◌, ◌||◌, not, nat_le, Option, Some, None, List, [], ◌∷◌, length}
use Rattle.task_shape.specs.Numbers.{count}
use Rattle.task_shape.specs.Shape.{Shape, task_at, width, is_group, receives_at}

abbrev pub all_in : {A : Type 0} → List A → (A → Bool) → Bool
all_in [] P = true
all_in (x ∷ xs) P = P x && all_in xs P

abbrev pub all_below : ℕ → (ℕ → Bool) → Bool
all_below zero P = true
all_below (suc n) P = P n && all_below n P

abbrev pub some_below : ℕ → (ℕ → Bool) → Bool
some_below zero P = false
some_below (suc n) P = P n || some_below n P

-- the targets of a task are channels of the group that it sends to
abbrev pub targets_fit : Shape → Option ℕ → List ℕ → Bool
targets_fit p None cs = true
targets_fit p (Some g) cs = all_in cs (λ c. nat_le (suc c) (width p g))

abbrev pub task_fits : Shape → ℕ → Bool
task_fits p t =
    all_in (task_at p t).receives (λ x. nat_le (suc x.1) (width p x.0))
    && (targets_fit p (task_at p t).sends (task_at p t).targets
    && (all_in (task_at p t).targets (λ c. nat_le (count c (task_at p t).targets) 1)
    && (all_in (task_at p t).receives (λ x. all_below (length p.tasks) (λ u. u == t || not (receives_at p u x.0 x.1)))
    && all_in (task_at p t).receives (λ x. all_below (length p.tasks) (λ u. not (is_group (task_at p u).sends x.0) || nat_le (suc (task_at p t).stage) (task_at p u).stage)))))

abbrev pub received_all : Shape → Bool
received_all p = all_below (length p.widths) (λ g. all_below (width p g) (λ c. some_below (length p.tasks) (λ t. receives_at p t g c)))

abbrev pub shape_test : Shape → Bool
shape_test p = all_below (length p.tasks) (task_fits p) && received_all p
