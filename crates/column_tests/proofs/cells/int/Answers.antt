use Rattle.std.proofs.Common.{◌≡◌}
use mir.Val.{SFits}
use mir.Syntax.{w64}
use Rattle.std.proofs.lemmas.Int.{to_z-of_z}
use Rattle.dfx_value.proofs.KindSteps.{fits_64_of}
use Rattle.column_tests.proofs.cells.int.Goals as goal

pub returns : goal.returns
returns c =
    let fits : SFits w64 c.args.number = c.ranges.number in
    rw (to_z-of_z w64 c.args.number fits) (fits_64_of c.args.number fits)
