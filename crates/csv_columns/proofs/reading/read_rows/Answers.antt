use Rattle.std.proofs.Common.{◌≡◌, ◌∙◌, [], ℕ, List, Err, Some, true, false, refl, rules, arith, sym, ap, subst}
use Rattle.dfx_value.specs.declared.value.Value.{Value as Cell}
use Rattle.value_columns.specs.Columns.{KindedValues}
use Rattle.column_batch.specs.Batches.{kinds_of, rows_from}
use Rattle.column_batch.proofs.BatchLemmas.{length-rows_from}
use Rattle.column_batch.proofs.BuilderLemmas.{kinds-empties}
use Rattle.csv_records.specs.Left.{most_left}
use Rattle.csv_source.specs.ScanView.{GivesRows}
use Rattle.csv_columns.specs.Filled.{Even}
use Rattle.csv_columns.specs.Left.{items_left}
use Rattle.csv_columns.proofs.ItemSteps.{given_gives, given_falls, rows_none, even_none, gives_full, gives_short, refused_after}
use Rattle.csv_columns.proofs.ExtendSteps.{all_long, all_kinds, rows_same}
use Rattle.csv_columns.proofs.StopSteps.{stops_in, stops_front}
use Rattle.csv_columns.proofs.reading.read_rows.Goals as goal

pub loop-at-init : goal.loop-at-init
loop-at-init g c = record {
  kinds = ap kinds_of c.in-Ok.ensures ∙ kinds-empties c.args.kinds.now;
  even = subst (Even 0) (sym c.in-Ok.ensures) (even_none c.args.kinds.now);
  counts = c.requires.counts;
  falls = omega arith;
  told = refl;
  size = refl;
  later = omega arith;
  whole = rows_none (items_left (g.S.Source.told c.args.source.now) c.args.kinds.now c.args.reading.now.number c.args.reading.now.reader);
}

pub returns-in-Ok-false-clause-gives : goal.returns-in-Ok-false-clause-gives
returns-in-Ok-false-clause-gives g c items is =
    let stands : c.push_next.new.columns.items ≡ c.loop-at.columns.items = c.push_next.ensures.stands (search rules) in
    let rows : rows_from c.push_next.new.columns.items 0 c.loop-at.at ≡ rows_from c.loop-at.columns.items 0 c.loop-at.at = ap (λ (cs : List KindedValues). rows_from cs 0 c.loop-at.at) stands in
    let short : GivesRows c.args.rows items (rows_from c.loop-at.columns.items 0 c.loop-at.at) (Some []) =
    gives_short c.args.rows items (rows_from c.loop-at.columns.items 0 c.loop-at.at)
    (items_left (g.S.Source.told c.args.source.now) c.args.kinds.now c.loop-at.reading.number c.loop-at.reading.reader)
    (items_left (g.S.Source.told c.args.source.now) c.args.kinds.now c.args.reading.now.number c.args.reading.now.reader)
    (λ xs known. c.push_next.ensures.none (search rules) xs (rw (c.loop-at.invariant.told, c.loop-at.invariant.kinds) known))
    c.loop-at.invariant.whole is (omega (arith, length-rows_from c.loop-at.columns.items 0 c.loop-at.at)) in
    given_gives c.batch_given.result c.args.rows items (rows_from c.push_next.new.columns.items 0 c.loop-at.at) true
    (items_left (g.S.Source.told c.args.source.now) c.args.kinds.now c.push_next.new.reading.number c.push_next.new.reading.reader)
    c.batch_given.ensures.rows c.batch_given.ensures.ended
    (subst (λ (rs : List (List Cell)). GivesRows c.args.rows items rs (Some [])) (sym rows) short)

pub returns-in-Ok-false-clause-falls : goal.returns-in-Ok-false-clause-falls
returns-in-Ok-false-clause-falls g c =
    given_falls c.batch_given.result (rows_from c.push_next.new.columns.items 0 c.loop-at.at) true
    (most_left (g.S.Source.size c.args.source.now) c.push_next.new.reading.reader) (most_left (g.S.Source.size c.args.source.now) c.args.reading.now.reader)
    c.batch_given.ensures.rows c.batch_given.ensures.ended
    (omega (arith, length-rows_from c.push_next.new.columns.items 0 c.loop-at.at, c.loop-at.invariant.falls))

pub returns-clause-gives : goal.returns-clause-gives
returns-clause-gives g c items is =
    let all : c.loop-at.at ≡ c.args.rows = omega (arith, c.loop-at.auto.at-end) in
    let full : GivesRows c.args.rows items (rows_from c.loop-at.columns.items 0 c.loop-at.at)
    (items_left (g.S.Source.told c.args.source.now) c.args.kinds.now c.loop-at.reading.number c.loop-at.reading.reader) =
    gives_full c.args.rows items (rows_from c.loop-at.columns.items 0 c.loop-at.at)
    (items_left (g.S.Source.told c.args.source.now) c.args.kinds.now c.loop-at.reading.number c.loop-at.reading.reader)
    (items_left (g.S.Source.told c.args.source.now) c.args.kinds.now c.args.reading.now.number c.args.reading.now.reader)
    c.loop-at.invariant.whole is (length-rows_from c.loop-at.columns.items 0 c.loop-at.at ∙ all) in
    given_gives c.batch_given-2.result c.args.rows items (rows_from c.loop-at.columns.items 0 c.args.rows) false
    (items_left (g.S.Source.told c.args.source.now) c.args.kinds.now c.loop-at.reading.number c.loop-at.reading.reader)
    c.batch_given-2.ensures.rows c.batch_given-2.ensures.ended
    (subst (λ (k : ℕ). GivesRows c.args.rows items (rows_from c.loop-at.columns.items 0 k) (items_left (g.S.Source.told c.args.source.now) c.args.kinds.now c.loop-at.reading.number c.loop-at.reading.reader)) all full)

pub returns-clause-falls : goal.returns-clause-falls
returns-clause-falls g c =
    given_falls c.batch_given-2.result (rows_from c.loop-at.columns.items 0 c.args.rows) false
    (most_left (g.S.Source.size c.args.source.now) c.loop-at.reading.reader) (most_left (g.S.Source.size c.args.source.now) c.args.reading.now.reader)
    c.batch_given-2.ensures.rows c.batch_given-2.ensures.ended
    (omega (arith, length-rows_from c.loop-at.columns.items 0 c.args.rows, c.loop-at.auto.at-end, c.loop-at.invariant.falls))

pub stop_at-requires : goal.stop_at-requires
stop_at-requires g c = record { long = all_long c.loop-at.at c.loop-at.columns.items c.push_next.new.columns.items c.loop-at.invariant.even c.push_next.ensures.kept }

pub returns-in-Err-clause-stopped : goal.returns-in-Err-clause-stopped
returns-in-Err-clause-stopped g c items is =
    stops_in c.stop_at.result _ c.in-Err.refused c.args.rows items (rows_from c.loop-at.columns.items 0 c.loop-at.at) c.stop_at.ensures
    (rows_same c.loop-at.at c.loop-at.columns.items c.push_next.new.columns.items c.loop-at.invariant.even c.push_next.ensures.kept)
    (λ bad.
    refused_after c.args.rows items (rows_from c.loop-at.columns.items 0 c.loop-at.at)
    (items_left (g.S.Source.told c.args.source.now) c.args.kinds.now c.loop-at.reading.number c.loop-at.reading.reader)
    (items_left (g.S.Source.told c.args.source.now) c.args.kinds.now c.args.reading.now.number c.args.reading.now.reader)
    c.in-Err.refused
    (λ xs known. c.in-Err.ensures.refused xs c.in-Err.refused (rw (c.loop-at.invariant.told, c.loop-at.invariant.kinds) known) refl bad)
    c.loop-at.invariant.whole is (omega (arith, length-rows_from c.loop-at.columns.items 0 c.loop-at.at)))

pub returns-in-Err-clause-front : goal.returns-in-Err-clause-front
returns-in-Err-clause-front g c =
    stops_front c.stop_at.result _ c.in-Err.refused c.args.kinds.now (most_left (g.S.Source.size c.args.source.now) c.args.reading.now.reader) c.stop_at.ensures
    (all_kinds c.loop-at.columns.items c.push_next.new.columns.items c.push_next.ensures.kept ∙ c.loop-at.invariant.kinds)
    (omega (arith, length-rows_from c.push_next.new.columns.items 0 c.loop-at.at, c.loop-at.invariant.falls))
