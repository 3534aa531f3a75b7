use Rattle.std.proofs.Common.{ap, sym, subst, ◌∙◌, ◌+◌, ◌≡◌, ℕ, length, length-append, arith, get_or, ◌∷◌, [], ◌++◌}
use Rattle.std.proofs.Math.ListN.{get_or-append}
use Rattle.std.proofs.Math.Seq.{get_or-append_seam}
use mathlib.Core.Logic.{dite}
use native.Mathlib.Decide.{ℕ_discrete}
use Rattle.turn_cell.specs.Acts.{Follows}
use Rattle.turn_cell.specs.Cells.{IsIdle, seen_of}
use Rattle.turn_cell.specs.Turns.{AllFollow}
use Rattle.turn_cell.specs.Views.{hand}
use Rattle.turn_cell.proofs.Joining.{joins_idle, joined_is, all_follow-split}
use Rattle.turn_cell.proofs.cell.gather.Goals as goal

pub join_seat-requires : goal.join_seat-requires
join_seat-requires g c =
    let i = c.loop-seat.invariant in
    let new = c.pop-in-loop-seat.new.self.items in
    let seat = c.in-Some-pop.seat in
    let pop = c.in-Some-pop.ensures.items in
    let longer : length c.loop-seat.seats.items ≡ length new + 1 = ap length pop ∙ length-append new (seat ∷ []) in
    let here : get_or c.loop-seat.seats.items (length new) seat ≡ seat = ap (λ l. get_or l (length new) seat) pop ∙ get_or-append_seam new seat [] seat in
    let idle = subst (λ s. (s.place.table_id ≡ c.args.table.now.shared.table_id) × IsIdle s) here (i.idle (length new) seat (omega arith)) in (
      i.table_is,
      idle.0,
      ap (λ m. m.1) idle.1,
      c.requires.table,
      joins_idle g.T.Kept.opened g.T.Kept.acts _ _ _ _ _ c.loop-seat.all.me seat.place.me i.all_is i.some idle.1,
    )

pub loop-seat-preserved : goal.loop-seat-preserved
loop-seat-preserved g c =
    let i = c.loop-seat.invariant in
    let old = c.loop-seat.seats.items in
    let new = c.pop-in-loop-seat.new.self.items in
    let all = c.args.seats.items in
    let seat = c.in-Some-pop.seat in
    let pop = c.in-Some-pop.ensures.items in
    let longer : length old ≡ length new + 1 = ap length pop ∙ length-append new (seat ∷ []) in
    let here : get_or old (length new) seat ≡ seat = ap (λ l. get_or l (length new) seat) pop ∙ get_or-append_seam new seat [] seat in
    let idle = subst (λ s. (s.place.table_id ≡ c.args.table.now.shared.table_id) × IsIdle s) here (i.idle (length new) seat (omega arith)) in
    let join = c.join_seat.ensures in
    let j = joined_is seat.number c.loop-seat.all.me seat.place.me c.join_seat.new.seat.me i.all_is idle.1 join.2 in
    let wider : length c.join_seat.new.seat.me.0.hands ≡ length c.loop-seat.all.me.0.hands + 1 = ap length j.1 ∙ length-append c.loop-seat.all.me.0.hands (hand seat.number (seen_of seat) ∷ []) in
    record {
      table_is = join.0 ∙ i.table_is;
      all_is = j.0;
      some = omega arith;
      count = omega (arith, i.count);
      idle = λ k d h. subst (λ s. (s.place.table_id ≡ c.args.table.now.shared.table_id) × IsIdle s) (ap (λ l. get_or l k d) pop ∙ get_or-append new (seat ∷ []) d k h) (i.idle k d (omega arith));
      front = λ k d h. sym (ap (λ l. get_or l k d) pop ∙ get_or-append new (seat ∷ []) d k h) ∙ i.front k d (omega arith);
      each = λ log f k d above below.
          let parts = all_follow-split log c.loop-seat.all.me.0.hands (hand seat.number (seen_of seat) ∷ []) (subst (AllFollow log) j.1 f) in
          dite (ℕ_discrete k (length new))
          (λ e. let at : get_or all k d ≡ seat = sym (i.front k d (omega arith)) ∙ (ap (λ l. get_or l k d) pop ∙ (ap (λ (n : ℕ). get_or (new ++ seat ∷ []) n d) e ∙ get_or-append_seam new seat [] d)) in
          subst (λ s. Follows s.number (seen_of s) log) (sym at) parts.1.0)
          (λ ne. i.each log parts.0 k d (omega arith) below);
    }

pub returns-clause-each : goal.returns-clause-each
returns-clause-each g c = λ log f k d below. c.loop-seat.invariant.each log f k d (let e = c.in_default-pop.ensures.cases.0 in omega arith) below
