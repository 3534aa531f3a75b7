use Rattle.std.proofs.Common.{◌≡◌, None, refl, arith, sym, subst}
use Rattle.run_journal.specs.declared.entry.EntryKind.TheVariants.{Scanned, Wrote}
use Rattle.core_frame.specs.Frame.{place_of}
use Rattle.core_frame.specs.declared.place.Place.TheVariants.{OwnedBy}
use Rattle.core_frame.specs.Step.{Scan, Writes}
use Rattle.run_frame.specs.Running.{Running}
use Rattle.run_frame.proofs.Owners.{owned_inside, scans, writes, scans_running}
use Rattle.run_frame.proofs.Served.{served}
use Rattle.run_frame.proofs.frame.RunFrame.go_on.Goals as goal

pub index_mut-requires : goal.index_mut-requires
index_mut-requires g c =
    let ok = subst (λ (r : Running g.row.B.Denot). r.frame.failure ≡ None) (sym c.self.view_is) c.requires.alive in
    let at = subst (λ (r : Running g.row.B.Denot). place_of r.frame c.args.task ≡ OwnedBy c.args.worker) (sym c.self.view_is) c.requires.owned in
    omega (arith, owned_inside _ _ _ _ _ _ _ _ _ _ _ c.self.invariant ok at, c.self.invariant.long, c.self.inside.progress.ok.0)

pub invariant_of-self : goal.invariant_of-self
invariant_of-self g c =
    let ok = subst (λ (r : Running g.row.B.Denot). r.frame.failure ≡ None) (sym c.self.view_is) c.requires.alive in
    let at = subst (λ (r : Running g.row.B.Denot). place_of r.frame c.args.task ≡ OwnedBy c.args.worker) (sym c.self.view_is) c.requires.owned in
    scans_running _ _ _ _ _ _ _ _ _ c.args.worker c.args.task c.self.invariant ok at

pub returns-clause-scanned : goal.returns-clause-scanned
returns-clause-scanned g c =
    let ok = subst (λ (r : Running g.row.B.Denot). r.frame.failure ≡ None) (sym c.self.view_is) c.requires.alive in
    let at = subst (λ (r : Running g.row.B.Denot). place_of r.frame c.args.task ≡ OwnedBy c.args.worker) (sym c.self.view_is) c.requires.owned in
    rw (← c.self.view_is) (served _ _ c.args.worker c.args.task Scan Scanned at ok refl refl refl (scans _ _ _ _ _ _ _ _ _ c.args.worker c.args.task c.self.invariant ok at))

pub returns-clause-wrote : goal.returns-clause-wrote
returns-clause-wrote g c =
    let ok = subst (λ (r : Running g.row.B.Denot). r.frame.failure ≡ None) (sym c.self.view_is) c.requires.alive in
    let at = subst (λ (r : Running g.row.B.Denot). place_of r.frame c.args.task ≡ OwnedBy c.args.worker) (sym c.self.view_is) c.requires.owned in
    rw (← c.self.view_is) (served _ _ c.args.worker c.args.task Writes Wrote at ok refl refl refl (writes _ _ _ _ _ _ _ _ _ c.args.worker c.args.task c.self.invariant ok at))
