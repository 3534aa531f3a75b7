-- Meaning: lines of an answer.
use Rattle.dfx_value.specs.Items.{Cells}

pub data Line : Type 0 where
  Header : Line
  Row : (cells : Cells) → Line
