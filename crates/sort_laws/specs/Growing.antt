-- Meaning: a merge whose inputs go on.
use Rattle.std.specs.Prelude.{ℕ, ◌≡◌, Bool, true, List, [], ◌++◌}
use Rattle.logical_plan.specs.Items.{Item}
use Rattle.tree_laws.specs.OperatorKinds.{Merged}

-- with more behind each input
abbrev pub grown : (ℕ → List Item) → (ℕ → List Item) → ℕ → List Item
grown inputs more i = inputs i ++ more i

-- of an input that was over there is no more, and it stays over
abbrev pub GoesOn : (ℕ → Bool) → (ℕ → List Item) → (ℕ → Bool) → Type 0
GoesOn over more over2 = (i : ℕ) → over i ≡ true → (more i ≡ []) × (over2 i ≡ true)

-- what was given, and then what a merge gives
abbrev pub after : List Item → Merged → Merged
after given m = record { given = given ++ m.given; left = m.left }
