-- Facts of each row.
use Rattle.std.proofs.Common.{List, [], ◌∷◌, ◌++◌}
use Rattle.logical_plan.specs.Items.{Cells}
use Rattle.plan_props.specs.Meets.{Each}
pub use Rattle.content_laws.proofs.Bags.{fails, none_fails as pass_weigh, all_pass as pass_from}
pub use Rattle.content_laws.proofs.Items.{fault_weight, faults_weigh}

pub each-append : (P : Cells → Type 0) (xs ys : List Cells) → Each P xs → Each P ys → Each P (xs ++ ys)
each-append P [] ys h k = k
each-append P (x ∷ xs) ys h k = (h.0, each-append P xs ys h.1 k)

pub each_more : (P Q : Cells → Type 0) → ((r : Cells) → P r → Q r) → (xs : List Cells) → Each P xs → Each Q xs
each_more P Q h [] e = tt
each_more P Q h (x ∷ xs) e = (h x e.0, each_more P Q h xs e.1)

pub each_all : (P : Cells → Type 0) → ((r : Cells) → P r) → (xs : List Cells) → Each P xs
each_all P h [] = tt
each_all P h (x ∷ xs) = (h x, each_all P h xs)
