-- When every worker has ended.
use Rattle.std.proofs.Common.{◌≡◌, ℕ, ◌<◌, ◌≤◌, List, [], ◌∷◌, length, get_or, ap, ◌∙◌, subst, arith, None, All, lt_of_not-le}
use mathlib.Core.Logic.{dite}
use native.Mathlib.Decide.{dec_le}
use Rattle.turn_cell.specs.declared.act.Act.{Act}
use Rattle.turn_cell.specs.declared.holders.Seat.{Seat}
use Rattle.turn_cell.specs.Acts.{IsPrefix, Follows, acts_by, journal_of}
use Rattle.turn_cell.specs.declared.holders.TurnCell.{TurnCell}
use Rattle.turn_cell.specs.Cells.{seen_of, number_of}
use Rattle.turn_cell.specs.Loans.{loan_of, last_loan}
use Rattle.turn_cell.proofs.Journals.{journal_prefix}
use Rattle.run_journal.specs.declared.entry.Entry.{Entry}
use Rattle.work_pool.specs.Ended.{HasEnded}

some_element : {A : Type 0} (l : List A) → 1 ≤ length l → A
some_element [] above = absurd (omega arith)
some_element (x ∷ xs) above = x

module _ {T O : Type 0} (over : O → List Entry → Type 0) (o : O) (cell : TurnCell T O) (seats : List (Seat T O)) (workers : ℕ) (acts : List Act) where
  pub all_free : length seats ≡ workers → 1 ≤ workers → ((k : ℕ) (d : Seat T O) → k < workers → HasEnded over cell o k (get_or seats k d)) → All (λ (s : Seat T O). Follows (number_of s) (seen_of s) acts) seats
      → ((n : ℕ) → workers ≤ n → acts_by n acts ≡ []) → (n : ℕ) → loan_of n acts ≡ None
  all_free all above ended follows others n = dite (dec_le workers n)
      (λ beyond. ap last_loan (others n beyond))
      (λ within.
      let d : Seat T O = some_element seats (omega arith) in
      let below : n < workers = lt_of_not-le within in
      let e = ended n d below in
      let f = follows n d (omega arith) in
      subst (λ (m : ℕ). loan_of m acts ≡ None) e.number (ap last_loan f.1 ∙ e.free))

  pub all_over : ((o : O) (before after : List Entry) → over o before → IsPrefix before after → over o after)
      → length seats ≡ workers → 1 ≤ workers → ((k : ℕ) (d : Seat T O) → k < workers → HasEnded over cell o k (get_or seats k d)) → All (λ (s : Seat T O). Follows (number_of s) (seen_of s) acts) seats → over o (journal_of acts)
  all_over stays all above ended follows =
      let d : Seat T O = some_element seats (omega arith) in
      stays o _ (journal_of acts) (ended 0 d (omega arith)).ended (journal_prefix _ acts (follows 0 d (omega arith)).0)
