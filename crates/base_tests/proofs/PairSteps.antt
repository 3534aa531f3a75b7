-- A row of a number and a text is of these kinds.
use Rattle.dfx_value.proofs.KindSteps.{fits_64_of}
use Rattle.dfx_value.proofs.ParseLemmas.{utf8_tests}

pub ruleset pair_steps = (fits_64_of, utf8_tests)
