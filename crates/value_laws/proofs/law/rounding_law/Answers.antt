use Rattle.dfx_value.specs.Decimal.{nearest}
use Rattle.value_laws.proofs.Rounded.{is_nearest, none_nearer, half_nearest, half_signed}
use Rattle.value_laws.proofs.law.rounding_law.Goals as goal

pub returns : goal.returns
returns c = record {
  nearest = is_nearest;
  none_nearer = λ n d other h. none_nearer n d (nearest n d) other (is_nearest n d h);
  half_away = half_nearest;
  sign = half_signed;
}
