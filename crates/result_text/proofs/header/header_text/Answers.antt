use Rattle.std.proofs.Common.{◌≡◌, refl, ◌∙◌, ap, [], arith, take}
use Rattle.std.proofs.lemmas.List.{take_all}
use Rattle.csv.specs.Writing.{default_writer, row_body}
use Rattle.result_text.proofs.header.header_text.Goals as goal

pub returns : goal.returns
returns c =
    let names : c.loop-place.text.items ≡ row_body default_writer c.args.names.now = c.loop-place.invariant ∙ ap (row_body default_writer) (take_all c.loop-place.place c.args.names.now (omega arith)) in
    c.from_vec.ensures ∙ c.in_ok-end_line.ensures [] c.args.names.now refl names
