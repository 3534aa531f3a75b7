use Rattle.std.proofs.Common.{subst, sym, ◌∙◌, ◌≤◌, ℕ, length}
use Rattle.turn_cell.specs.Acts.{journal_of}
use Rattle.work_pool.proofs.Ended.{all_free, all_over}
use Rattle.work_pool.proofs.pool.run_all.Goals as goal

pub returns-clause-over : goal.returns-clause-over
returns-clause-over g c =
    let made = c.in-Ok.ensures in
    let ended = c.run_each-ended.ensures in
    let laws = g.met.W.Work g.world.𝓛 g.world.𝓜 g.world.𝓡 ((λ s x. x), (λ x. x), (λ x. x), λ x. x) in
    subst (λ o. g.W.Work.over o (journal_of (g.W.Kept.acts c.close.result))) (sym c.close.ensures.opening)
    (all_over g.W.Work.over _ c.in-Ok.made.0 _ (length c.in-Ok.made.1.items) _ laws.stays_over ended.len (subst (λ (n : ℕ). 1 ≤ n) (sym made.seats) c.requires.some) ended.each c.close.ensures.each)

pub returns-clause-free : goal.returns-clause-free
returns-clause-free g c =
    let made = c.in-Ok.ensures in
    let ended = c.run_each-ended.ensures in
    all_free g.W.Work.over _ c.in-Ok.made.0 _ (length c.in-Ok.made.1.items) _ ended.len (subst (λ (n : ℕ). 1 ≤ n) (sym made.seats) c.requires.some) ended.each c.close.ensures.each
    (λ n beyond. c.close.ensures.others n (subst (λ (k : ℕ). k ≤ n) (made.seats ∙ sym made.cell.0) beyond))
