-- Each Scan of the query that a text spells has kinds that are kinds, at most 256 of them.
use Rattle.std.specs.Prelude.{◌≡◌, ℕ, true, Ok, List, map}
use Rattle.sql_lexer.specs.declared.token.Token.{Token}
use Rattle.sql_grammar.specs.Parsed.{parsed}
use Rattle.sql_grammar.specs.declared.ast.Script.{Script}
use Rattle.sql_binder.specs.Bound.{bound}
use Rattle.logical_plan.specs.declared.query.Query.{Query}
use Rattle.binder_kind_laws.specs.Scripts.{declared_schema, declared_kinds}
use Rattle.binder_kind_laws.specs.Scans.{has_sound_scans}
use Rattle.binder_kind_laws.proofs.Bounds.{declared_kinded}
use Rattle.binder_kind_laws.proofs.Spelled.{spelled}
use Rattle.binder_kind_laws.proofs.Scans.{sound}

pub scans_sound : (text : List ℕ) (tokens : List Token) (script : Script) (q : Query) → parsed text tokens ≡ Ok script
    → bound script (map declared_schema script.tables) ≡ Ok q → has_sound_scans q.body ≡ true
scans_sound text tokens script q p e =
    let s = spelled text tokens script p in
    sound (map declared_kinds script.tables) s.few q.body (declared_kinded script q s e).body
