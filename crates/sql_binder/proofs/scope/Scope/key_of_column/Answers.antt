use Rattle.std.proofs.Common.{◌<◌, length, sym, subst}
use Rattle.sql_binder.specs.Firsts.{Stand}
use Rattle.sql_binder.proofs.FirstKeys.{first_of}
use Rattle.sql_binder.proofs.scope.Scope.key_of_column.Goals as goal

pub returns : goal.returns
returns c =
    let within = subst (λ (s : Stand). c.args.number < length s.columns) (sym c.self.view_is) c.requires in
    rw (c.first_at.ensures, c.deref.ensures.value, ← c.self.view_is) (first_of _ _ _ _ c.self.invariant within)
