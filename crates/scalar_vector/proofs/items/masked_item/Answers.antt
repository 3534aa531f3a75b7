use Rattle.std.proofs.Common.{sym}
use Rattle.value_columns.proofs.MaskedLemmas.{masked-null, masked-item}
use Rattle.scalar_vector.proofs.items.masked_item.Goals as goal

pub returns-then-is_null_at : goal.returns-then-is_null_at
returns-then-is_null_at g c = sym (masked-null c.args.items.now c.args.nulls.now c.args.at c.requires (cc))

pub returns-else-is_null_at : goal.returns-else-is_null_at
returns-else-is_null_at g c = sym (masked-item c.args.items.now c.args.nulls.now c.args.at c.index-items-at.result c.requires (cc) c.index-items-at.is)
