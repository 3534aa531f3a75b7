-- Meaning: the rule of the cell. Word 0 is the ticket to be drawn next, word 1 the ticket that is served. Tickets are
-- counted modulo 2^64.
use Rattle.std.specs.Prelude.{◌≡◌, ℕ, ◌+◌, ◌%◌, ◌^◌, ◌<◌, ◌≤◌, ◌⊎◌, true, false, cond, List, [], ◌∷◌, length, slice_index, Option, Some, nat_lt}
use mathlib.Core.Option.{some, none}
use lib.ListN.{get_elem?}
use Rattle.atomic_table.specs.Table.{State}
use Rattle.turn_cell.specs.declared.act.Act.{Act}
use Rattle.turn_cell.specs.declared.view.Hand.{Hand}
use Rattle.turn_cell.specs.declared.view.View.{View}
use Rattle.turn_cell.specs.Acts.{acts_by, Follows}
use Rattle.turn_cell.specs.Views.{seen_in, is_busy, times, total}

-- each hand's seen acts begin the log, and the log has no others of its number
abbrev pub AllFollow : List Act → List Hand → Type 0
AllFollow log [] = Unit {0}
AllFollow log (h ∷ hs) = Follows h.number h.seen log × AllFollow log hs

module _ {T O : Type 0} (opened : T → O) (acts : T → List Act) where
  -- the value is at home, and has these acts
  pub record IsHome (s : State (Option T) (View O)) (opening : O) (log : List Act) : Type 0 where
    pub value : T
    pub home : s.homes ≡ some (Some value) ∷ []
    pub opening_is : opened value ≡ opening
    pub log_is : acts value ≡ log
    pub no_turn : (i : ℕ) (v : View O) → get_elem? s.views i ≡ some v → v.turn ≡ false

  -- the value is out with the seat whose ticket is served, which alone has the turn and has seen these acts
  pub record IsOut (s : State (Option T) (View O)) (line : List ℕ) (log : List Act) : Type 0 where
    pub seat : ℕ
    pub view : View O
    pub home : s.homes ≡ none ∷ []
    pub first : get_elem? line 0 ≡ some seat
    pub view_is : get_elem? s.views seat ≡ some view
    pub has_turn : view.turn ≡ true
    pub log_is : seen_in view.hands ≡ log
    pub one_turn : (i : ℕ) (v : View O) → get_elem? s.views i ≡ some v → v.turn ≡ true → i ≡ seat

  -- of a cell that was made with this opening and so many seats
  pub record Orderly (origin : O) (seats : ℕ) (s : State (Option T) (View O)) : Type 0 where
    -- the acts of the value, at home or as it was taken
    pub log : List Act
    -- the seats that have a ticket, in the order of their tickets
    pub line : List ℕ
    -- how many turns have ended
    pub served : ℕ
    pub few : seats < 2 ^ 32
    pub words : length s.words ≡ 2
    -- the word served counts the turns that have ended, and the word drawn those in the line too
    pub drawn_word : slice_index s.words 0 ≡ (served + length line) % 2 ^ 64
    pub served_word : slice_index s.words 1 ≡ served % 2 ^ 64
    -- each ticket from the served one up to the one drawn next is that of exactly one seat: who has a ticket has its place
    -- in the line, and who stands in the line has the ticket of its place
    pub has_place : (i : ℕ) (v : View O) (x : ℕ) → get_elem? s.views i ≡ some v → v.ticket ≡ Some x
        → (k : ℕ) × (get_elem? line k ≡ some i) × (x ≡ (served + k) % 2 ^ 64)
    pub has_ticket : (k i : ℕ) → get_elem? line k ≡ some i
        → (v : View O) × (get_elem? s.views i ≡ some v) × (v.ticket ≡ Some ((served + k) % 2 ^ 64))
    pub busy : total (λ v. is_busy v.ticket) s.views ≡ length line
    -- there are as many hands as seats were dealt, one for each number, and who has a ticket has a hand
    pub counted : total (λ v. length v.hands) s.views ≡ seats
    pub numbered : (n : ℕ) → total (λ v. times n v.hands) s.views ≡ cond (nat_lt n seats) 1 0
    pub handed : (i : ℕ) (v : View O) → get_elem? s.views i ≡ some v → is_busy v.ticket ≤ length v.hands
    -- all seats name one opening
    pub named : (i : ℕ) (v : View O) → get_elem? s.views i ≡ some v → 0 < length v.hands → v.opening ≡ Some origin
    -- the log begins with what each hand has seen, and has of its number nothing else
    pub follow : (i : ℕ) (v : View O) → get_elem? s.views i ≡ some v → AllFollow log v.hands
    -- nobody else has acts
    pub unmade : (n : ℕ) → seats ≤ n → acts_by n log ≡ []
    pub place : IsHome s origin log ⊎ IsOut s line log
