-- A query that meets what is asked of it: SELECT k, COUNT(*) FROM t GROUP BY k ORDER BY 2 LIMIT 1, over a table of two files.
use Rattle.std.specs.Prelude.{pos}
use Rattle.std.proofs.Common.{◌≡◌, refl, ap, [], ◌∷◌, Bool, true, false, Some, Ok}
use Rattle.dfx_value.specs.declared.kind.Kind.TheVariants as kind
use Rattle.dfx_value.specs.declared.op.AggCall.TheVariants.{CountAll}
use Rattle.dfx_value.specs.declared.value.Value.TheVariants as value
use Rattle.logical_plan.specs.declared.plan.Logical.{Logical}
use Rattle.logical_plan.specs.declared.plan.Logical.TheOpen.{Logical-F}
use Rattle.logical_plan.specs.declared.plan.Logical.TheViews.{roll-Logical}
use Rattle.logical_plan.specs.declared.plan.Logical.TheFolds.{fold-roll-Logical, para-roll-Logical, map-Logical}
use Rattle.logical_plan.specs.declared.query.Query.{Query}
use Rattle.logical_plan.specs.Body.{Tables, Part, node, meant_part, kinds}
use Rattle.planned_laws.specs.Queries.{here_and_below, body_in_range, QueryInRange}
use Rattle.answer_laws.specs.Distincts.{distinct_node, has_distincts}
use Rattle.finished_laws.specs.Known.{known_node, is_known}

abbrev tables : Tables
tables = ((Ok (value.Null ∷ []) ∷ Ok (value.Int (pos 7) ∷ []) ∷ []) ∷ [] ∷ []) ∷ []

abbrev scan : Logical-F Logical
scan = Logical-F.Scan 0 (kind.Int ∷ [])

abbrev groups : Logical-F Logical
groups = Logical-F.Aggregate (roll-Logical scan) (0 ∷ []) (CountAll ∷ [])

abbrev query : Query
query = record {
  names = [];
  body = roll-Logical groups;
  order = record { column = 1; descending = false; nulls_first = false } ∷ [];
  offset = 0;
  limit = Some 1;
}

rolled : (ts : Tables) (z : Logical-F Logical) → meant_part ts (roll-Logical z) ≡ node ts (map-Logical Logical Part (meant_part ts) z)
unfolding meant_part
rolled ts z = fold-roll-Logical Part (node ts) z

pub distincts : has_distincts tables query.body ≡ true
unfolding has_distincts
distincts =
    let a = para-roll-Logical Bool (distinct_node tables) groups in
    let b = para-roll-Logical Bool (distinct_node tables) scan in
    rw (a, b) refl

pub known : is_known tables (2 ∷ []) query.body ≡ true
unfolding is_known
known =
    let a = para-roll-Logical Bool (known_node tables (2 ∷ [])) groups in
    let b = para-roll-Logical Bool (known_node tables (2 ∷ [])) scan in
    rw (a, b, rolled tables scan) refl

kinds_of : (z : Logical-F Logical) → kinds (roll-Logical z) ≡ (node [] (map-Logical Logical Part (meant_part []) z)).kinds
unfolding kinds
kinds_of z = ap (λ (p : Part). p.kinds) (rolled [] z)

pub ranges : QueryInRange query
unfolding body_in_range
ranges = record {
  body = (
      let a = para-roll-Logical Bool here_and_below groups in
      let b = para-roll-Logical Bool here_and_below scan in
      rw (a, b, kinds_of scan) refl);
  order = rw (kinds_of groups) refl;
}
