-- Meaning: two ways in which tasks send: whole batches, by their number; and each row, by a number of its own.
use Rattle.std.specs.Prelude.{ℕ, zero, suc, ◌==◌, Bool, true, if◌then◌else◌, Ok, Err, List, [], ◌∷◌, ◌++◌}
use Rattle.std.specs.List.{filter}
use Rattle.logical_plan.specs.Items.{Cells, Item}
use Rattle.tree_laws.specs.Tasks.{Parts, Split}
use Rattle.content_laws.specs.Senders.{Deal}

-- each batch goes whole to one channel, which its number tells
abbrev pub whole_split : (ℕ → ℕ) → Split
whole_split to j b = (to j, b) ∷ []

-- and what is not given yet to this one
abbrev pub home_deal : ℕ → Deal
home_deal home c xs = if home == c then xs else []

-- a part, unless it has no rows
abbrev pub part_of : ℕ → List Cells → Parts
part_of c [] = []
part_of c (r ∷ rows) = (c, r ∷ rows) ∷ []

-- of m channels from c on, each one's rows
abbrev pub parts_from : (Cells → ℕ) → ℕ → ℕ → List Cells → Parts
parts_from number c zero b = []
parts_from number c (suc m) b = part_of c (filter (λ row. number row == c) b) ++ parts_from number (suc c) m b

-- each row goes to the channel of its number
abbrev pub hash_split : (Cells → ℕ) → ℕ → Split
hash_split number n j b = parts_from number 0 n b

-- faults go to channel 0
abbrev pub item_number : (Cells → ℕ) → Item → ℕ
item_number number (Ok row) = number row
item_number number (Err f) = 0

abbrev pub hash_deal : (Cells → ℕ) → Deal
hash_deal number c xs = filter (λ x. item_number number x == c) xs

-- a row of number c, or a fault
abbrev pub is_at : (Cells → ℕ) → ℕ → Item → Bool
is_at number c (Ok row) = number row == c
is_at number c (Err f) = true
