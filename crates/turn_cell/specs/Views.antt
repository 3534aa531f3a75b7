-- Words: what a seat knows.
use Rattle.std.specs.Prelude.{ℕ, zero, suc, ◌+◌, true, false, cond, List, [], ◌∷◌, Option, Some, None, ◌==◌}
use Rattle.turn_cell.specs.declared.act.Act.{Act}
use Rattle.turn_cell.specs.declared.view.Hand.{Hand}
use Rattle.turn_cell.specs.declared.view.View.{View}

abbrev pub hand : ℕ → List Act → Hand
hand n seen = record { number = n; seen = seen }

-- hands with the numbers n and up, that have seen nothing
abbrev pub fresh : ℕ → ℕ → List Hand
fresh n zero = []
fresh n (suc k) = hand n [] ∷ fresh (n + 1) k

abbrev pub first_hand : List Hand → List Hand
first_hand [] = []
first_hand (h ∷ hs) = h ∷ []

abbrev pub later_hands : List Hand → List Hand
later_hands [] = []
later_hands (h ∷ hs) = hs

abbrev pub number_in : List Hand → ℕ
number_in [] = 0
number_in (h ∷ hs) = h.number

abbrev pub seen_in : List Hand → List Act
seen_in [] = []
seen_in (h ∷ hs) = h.seen

-- f of each, added up
abbrev pub total : {A : Type 0} → (A → ℕ) → List A → ℕ
total f [] = 0
total f (x ∷ xs) = f x + total f xs

-- how many of the hands have this number
abbrev pub times : ℕ → List Hand → ℕ
times n hands = total (λ h. cond (h.number == n) 1 0) hands

abbrev pub is_busy : Option ℕ → ℕ
is_busy None = 0
is_busy (Some x) = 1

module _ {O : Type 0} where
  abbrev pub resting : Option O → List Hand → View O
  resting o hands = record { opening = o; ticket = None; turn = false; hands = hands }

  abbrev pub waiting : Option O → ℕ → List Hand → View O
  waiting o x hands = record { opening = o; ticket = Some x; turn = false; hands = hands }

  abbrev pub at_turn : Option O → ℕ → List Hand → View O
  at_turn o x hands = record { opening = o; ticket = Some x; turn = true; hands = hands }

  abbrev pub spent : View O
  spent = resting None []
