-- Some of the rows of each partition, in their order.
use Rattle.std.proofs.Common.{ℕ, zero, suc, ◌≡◌, sym, ◌∙◌, subst, List, [], ◌∷◌, length}
use Rattle.std.specs.Prelude.{take, drop}
use Rattle.dfx_value.specs.declared.rows.SortKey.{SortKey}
use Rattle.plan_props.specs.declared.properties.Props.{Props}
use Rattle.plan_props.specs.Meets.{Row, Hashing, Each, NotBefore, InOrder, Hashed, PairsHold, Agree, Meets, part}
use Rattle.plan_props.proofs.Sound.{each_map}
use Rattle.node_laws.specs.Rows.{IsStretch, Stretches, Begins, Begun}

-- what holds of each row, and any order, still holds
record Keeps (rows fewer : List Row) : Type 1 where
  each : (P : Row → Type 0) → Each P rows → Each P fewer
  order : (keys : List SortKey) → InOrder keys rows → InOrder keys fewer

keeps_all : (rows : List Row) → Keeps rows rows
keeps_all rows = record { each = λ P e. e; order = λ keys o. o }

keeps_on : (xs ys zs : List Row) → Keeps xs ys → Keeps ys zs → Keeps xs zs
keeps_on xs ys zs a b = record { each = λ P e. b.each P (a.each P e); order = λ keys o. b.order keys (a.order keys o) }

keeps_none : (rows : List Row) → Keeps rows []
keeps_none rows = record { each = λ P e. tt; order = λ keys o. tt }

keeps_rest : (r : Row) (rs : List Row) → Keeps (r ∷ rs) rs
keeps_rest r rs = record { each = λ P e. e.1; order = λ keys o. o.1 }

keeps_first : (r : Row) (rs ss : List Row) → Keeps rs ss → Keeps (r ∷ rs) (r ∷ ss)
keeps_first r rs ss k = record { each = λ P e. (e.0, k.each P e.1); order = λ keys o. (k.each (NotBefore keys r) o.0, k.order keys o.1) }

keeps_take : (n : ℕ) (rows : List Row) → Keeps rows (take n rows)
keeps_take zero rows = keeps_none rows
keeps_take (suc n) [] = keeps_none []
keeps_take (suc n) (r ∷ rs) = keeps_first r rs (take n rs) (keeps_take n rs)

keeps_drop : (n : ℕ) (rows : List Row) → Keeps rows (drop n rows)
keeps_drop zero rows = keeps_all rows
keeps_drop (suc n) [] = keeps_none []
keeps_drop (suc n) (r ∷ rs) = keeps_on (r ∷ rs) rs (drop n rs) (keeps_rest r rs) (keeps_drop n rs)

keeps_stretch : (rows out : List Row) → IsStretch rows out → Keeps rows out
keeps_stretch rows out s = subst (Keeps rows) (sym s.2) (keeps_on rows (drop s.0 rows) (take s.1 (drop s.0 rows)) (keeps_drop s.0 rows) (keeps_take s.1 (drop s.0 rows)))

keeps_front : (fewer rows : List Row) → Begins fewer rows → Keeps rows fewer
keeps_front [] rows b = keeps_none rows
keeps_front (r ∷ rs) [] b = absurd b
keeps_front (r ∷ rs) (s ∷ ss) b = subst (λ (t : Row). Keeps (s ∷ ss) (t ∷ rs)) (sym b.0) (keeps_first s ss rs (keeps_front rs ss b.1))

fewer_meets : (h : Hashing) (p : Props) (ins outs : List (List Row)) → length outs ≡ length ins → ((j : ℕ) → Keeps (part ins j) (part outs j)) → Meets h p ins → Meets h p outs
fewer_meets h p ins outs c k m = record {
  count = c ∙ m.count;
  hashed = λ j. (k j).each (Hashed h p.partitioning j) (m.hashed j);
  ordered = λ j. (k j).order p.ordering (m.ordered j);
  same = λ j. (k j).each (PairsHold p.same) (m.same j);
  constant = λ i j. each_map {P = λ r. Each (Agree p.constants r) (part ins j)} {Q = λ r. Each (Agree p.constants r) (part outs j)} (part outs i)
      (λ r x. (k j).each (Agree p.constants r) x)
      ((k i).each (λ r. Each (Agree p.constants r) (part ins j)) (m.constant i j));
}

pub stretches_meet : (h : Hashing) (p : Props) (ins outs : List (List Row)) → Stretches ins outs → Meets h p ins → Meets h p outs
stretches_meet h p ins outs s m = fewer_meets h p ins outs s.count (λ j. keeps_stretch (part ins j) (part outs j) (s.rows j)) m

pub begun_meets : (h : Hashing) (p : Props) (whole outs : List (List Row)) → Begun whole outs → Meets h p whole → Meets h p outs
begun_meets h p whole outs b m = fewer_meets h p whole outs b.count (λ j. keeps_front (part outs j) (part whole j) (b.rows j)) m

pub stretch_each : (P : Row → Type 0) (ins outs : List (List Row)) → Stretches ins outs → (j : ℕ) → Each P (part ins j) → Each P (part outs j)
stretch_each P ins outs s j e = (keeps_stretch (part ins j) (part outs j) (s.rows j)).each P e

pub begun_each : (P : Row → Type 0) (whole outs : List (List Row)) → Begun whole outs → (j : ℕ) → Each P (part whole j) → Each P (part outs j)
begun_each P whole outs b j e = (keeps_front (part outs j) (part whole j) (b.rows j)).each P e
