-- Rows in other partitions.
use Rattle.std.proofs.Common.{ℕ, sym, ◌∙◌, List, []}
use Rattle.plan_props.specs.declared.properties.Partitioning.TheVariants as parting
use Rattle.plan_props.specs.Meets.{Row, Hashing, Meets, part}
use Rattle.plan_props.proofs.Sound.{each_all}
use Rattle.physical_plan.specs.declared.properties.Declared.{Declared}
use Rattle.physical_plan.specs.Properties.{merged, repartitioned}
use Rattle.node_laws.specs.NodeRows.{Dealt}
use Rattle.node_laws.proofs.Others.{dealt_order, single_parts, single_hashed, unordered}
use Rattle.node_laws.proofs.Weavings.{same_from, constant_from}

module _ (h : Hashing) (n : ℕ) (d : Declared) (ins outs : List (List Row)) (a : Dealt n ins outs) (m : Meets h d.props ins) where
  pub deal_meets : Meets h (repartitioned (parting.RoundRobin n) d).props outs
  deal_meets = record {
    count = a.count ∙ sym (single_parts (parting.RoundRobin n));
    hashed = λ j. each_all (part outs j) (λ r. single_hashed h (parting.RoundRobin n) j r tt);
    ordered = dealt_order h n d ins outs a m;
    same = same_from h d ins outs m a.from;
    constant = constant_from h d ins outs m a.from;
  }

pub coalesce_meets : (h : Hashing) (d : Declared) (ins outs : List (List Row)) → Dealt 1 ins outs → Meets h d.props ins → Meets h (merged [] d).props outs
coalesce_meets h d ins outs a m = record {
  count = a.count;
  hashed = λ j. each_all (part outs j) (λ r. tt);
  ordered = λ j. unordered (part outs j);
  same = same_from h d ins outs m a.from;
  constant = constant_from h d ins outs m a.from;
}
