use Rattle.std.proofs.Common.{◌≡◌, ℕ, Some, sym, ◌∙◌, subst}
use Rattle.turn_cell.specs.Cells.{seen_of}
use Rattle.work_pool.proofs.pool.serve_once.Goals as goal

pub serve-answer-requires-clause-ready : goal.serve-answer-requires-clause-ready
serve-answer-requires-clause-ready g c =
    let laws = g.met.W.Work g.world.𝓛 g.world.𝓜 g.world.𝓡 ((λ s x. x), (λ x. x), (λ x. x), λ x. x) in
    (laws.advances c.args.job c.advance.new.self c.args.seat.now.number c.requires.fits.0 _ c.requires.fits.2 c.advance.ensures).1

pub serve-answer-requires-clause-fits : goal.serve-answer-requires-clause-fits
serve-answer-requires-clause-fits g c =
    let laws = g.met.W.Work g.world.𝓛 g.world.𝓜 g.world.𝓡 ((λ s x. x), (λ x. x), (λ x. x), λ x. x) in
    let seen = seen_of c.args.seat.now in
    let o = g.W.Kept.opened c.take-work.result in
    let same : c.requires.fits.0 ≡ o = let e : Some c.requires.fits.0 ≡ Some o = sym c.requires.fits.1 ∙ c.take-work.ensures.opening in cc in
    let advanced = (laws.advances c.args.job c.advance.new.self c.args.seat.now.number c.requires.fits.0 seen c.requires.fits.2 c.advance.ensures).0 in
    let here = subst (λ p. g.W.Work.fits c.advance.new.self c.args.seat.now.number p seen) same advanced in
    subst (λ (n : ℕ). g.W.Work.fits c.advance.new.self n o (g.W.Kept.acts c.take-work.result)) (sym c.number-number.ensures)
    (laws.stays_fit c.advance.new.self c.args.seat.now.number o seen (g.W.Kept.acts c.take-work.result) here c.vouch.ensures c.take-work.ensures.follows)
