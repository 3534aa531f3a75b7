use Rattle.std.proofs.Common.{◌∙◌}
use Rattle.dfx_prepare.proofs.Listed.{listed_files}
use Rattle.dfx_prepare.proofs.tables.folder_files.Goals as goal

pub returns-in-Ok-clause-found : goal.returns-in-Ok-clause-found
returns-in-Ok-clause-found g c all told = listed_files all c.args.folder.now c.in-Ok.paths.items c.from_vec.result (c.in-Ok.ensures.paths all told) (c.from_vec.ensures ∙ c.keep_csv.ensures)
