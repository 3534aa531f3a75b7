use Rattle.std.proofs.Common.{ap, sym, subst, ◌∙◌, ◌+◌, ◌-◌, ◌<◌, ◌≤◌, ◌≡◌, ℕ, length, length-append, arith, get_or, ◌∷◌, []}
use Rattle.turn_cell.specs.Seats.{named_in}
use Rattle.turn_cell.specs.Views.{fresh, resting, hand}
use Rattle.turn_cell.specs.Cells.{IsDealt}
use Rattle.turn_cell.proofs.Places.{snoc_each}
use Rattle.turn_cell.proofs.Dealing.{splits_fresh, one_dealt, last_dealt}
use Rattle.turn_cell.proofs.cell.seat_all.Goals as goal

pub split_seat-place-requires : goal.split_seat-place-requires
split_seat-place-requires g c =
    let i = c.loop-number.invariant in
    let n : ℕ = length c.loop-number.row.items in (
      i.table_is ∙ c.requires.table.0,
      c.requires.table.1,
      splits_fresh g.T.Kept.opened g.T.Kept.acts _ _ _ n _ (c.args.seats - (n + 1)) c.loop-number.root.me i.root_is (omega arith),
    )

pub loop-number-preserved : goal.loop-number-preserved
loop-number-preserved g c =
    let i = c.loop-number.invariant in
    let row = c.loop-number.row.items in
    let n : ℕ = length row in
    let split = c.split_seat-place.ensures in
    let push = c.push_reserved.ensures in
    let below : n + 1 ≤ c.args.seats = omega arith in
    let d = one_dealt n c.args.seats c.loop-number.root.me c.split_seat-place.new.seat.me c.split_seat-place.result.me i.root_is below split.2 split.4 in
    let longer : length c.push_reserved.new.self.items ≡ n + 1 = ap length push.items ∙ length-append row _ in
    record {
      made = omega arith;
      room = omega arith;
      table_is = split.0 ∙ i.table_is;
      opening_is = d.0 ∙ i.opening_is;
      root_is = d.1 ∙ ap (λ (j : ℕ). (resting (named_in c.split_seat-place.new.seat.me) (fresh j (c.args.seats - j)), [])) (sym longer);
      each = subst (λ l. (k : ℕ) (d : _) → k < length l → IsDealt (named_in c.args.root.me) c.args.root.table_id k (get_or l k d)) (sym push.items)
          (snoc_each (λ k s. IsDealt (named_in c.args.root.me) c.args.root.table_id k s) row _ i.each
          (omega arith, split.3 ∙ i.table_is, d.2 ∙ ap (λ o. (resting o (hand n [] ∷ []), [])) i.opening_is));
    }

pub returns : goal.returns
returns g c =
    let i = c.loop-number.invariant in
    let row = c.loop-number.row.items in
    let n : ℕ = length row in
    let push = c.push_reserved-2.ensures in
    let last : n + 1 ≡ c.args.seats = omega arith in
    let longer : length c.push_reserved-2.new.self.items ≡ n + 1 = ap length push.items ∙ length-append row _ in
    record {
      len = longer ∙ last;
      each = λ k d below. subst (λ l. (k : ℕ) (d : _) → k < length l → IsDealt (named_in c.args.root.me) c.args.root.table_id k (get_or l k d)) (sym push.items)
          (snoc_each (λ k s. IsDealt (named_in c.args.root.me) c.args.root.table_id k s) row _ i.each
          (omega arith, i.table_is, last_dealt n c.args.seats c.loop-number.root.me i.root_is last ∙ ap (λ o. (resting o (hand n [] ∷ []), [])) i.opening_is))
          k d (omega arith);
    }
