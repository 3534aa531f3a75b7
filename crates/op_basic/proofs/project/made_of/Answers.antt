use Rattle.std.proofs.Common.{◌≡◌, ◌++◌, ◌+◌, ◌∷◌, [], List, length, take, get_or, ap, sym, ◌∙◌, subst, arith}
use Rattle.std.proofs.lemmas.List.{take_more, take_all}
use Rattle.column_batch.specs.Batches.{kinds_of}
use Rattle.dfx_value.specs.declared.kind.Kind.{Kind}
use Rattle.dfx_value.specs.declared.kind.Kind.TheVariants as kind
use Rattle.scalar_exprs.specs.declared.expr.Expr.{Expr}
use Rattle.op_basic.specs.Projects.{HasKind, IsMade}
use Rattle.op_basic.proofs.Projects.{made_none, kind_at, kinds_length}
use Rattle.op_basic.proofs.project.made_of.Goals as goal

pub loop-at-init : goal.loop-at-init
loop-at-init c = record {
  made = made_none c.args.batch.rows c.in_ok-with_capacity.field-0.items c.in_ok-with_capacity.ensures.items;
  columns = ap kinds_of c.in_ok-with_capacity.ensures.items;
  kinds = sym c.requires.kinds;
}

pub with_column-requires-clause-kind : goal.with_column-requires-clause-kind
with_column-requires-clause-kind c =
    let P : Expr → Type 0 = λ e. HasKind c.args.kinds.now e (get_or c.args.made.now c.loop-at.at kind.Bool) in
    subst P (sym c.index-items-at.is) (kind_at c.args.kinds.now c.args.items.now c.args.made.now c.loop-at.at c.index-items-at.result kind.Bool c.requires.items c.loop-at-test.true)

pub loop-at-preserved : goal.loop-at-preserved
loop-at-preserved c =
    let n : length c.args.made.now ≡ length c.args.items.now = kinds_length c.args.kinds.now c.args.items.now c.args.made.now c.requires.items in
    let items : take (c.loop-at.at + 1) c.args.items.now ≡ take c.loop-at.at c.args.items.now ++ c.index-items-at.result ∷ [] =
    take_more c.args.items.now c.loop-at.at c.index-items-at.result c.loop-at-test.true
    ∙ ap (λ (e : Expr). take c.loop-at.at c.args.items.now ++ e ∷ []) (sym c.index-items-at.is) in
    let P : List Expr → Type 0 = λ es. IsMade es c.args.batch.rows c.in_ok-all.all.columns.items c.in_ok-all.all.front.rows c.in_ok-all.all.fault in
    record {
      made = subst P (sym items) (c.in_ok-all.ensures.made (take c.loop-at.at c.args.items.now) c.args.batch.rows c.loop-at.invariant.made);
      columns = c.in_ok-all.ensures.columns
          ∙ ap (λ (ks : List Kind). ks ++ get_or c.args.made.now c.loop-at.at kind.Bool ∷ []) c.loop-at.invariant.columns
          ∙ sym (take_more c.args.made.now c.loop-at.at kind.Bool (omega arith));
      kinds = c.in_ok-all.ensures.front ∙ c.loop-at.invariant.kinds;
    }

pub returns-clause-columns : goal.returns-clause-columns
returns-clause-columns c =
    let n : length c.args.made.now ≡ length c.args.items.now = kinds_length c.args.kinds.now c.args.items.now c.args.made.now c.requires.items in
    c.loop-at.invariant.columns ∙ take_all c.loop-at.at c.args.made.now (omega arith)
