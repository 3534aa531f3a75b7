use Rattle.std.proofs.Common.{rules, ap, sym, ◌∙◌, List, length, subst, ◌<◌, Some}
use Rattle.dfx_prepare.specs.Preparing.{Path}
use Rattle.failure_text.specs.declared.failure.Failure.TheVariants as failure
use Rattle.dfx_top.proofs.QueryEnds.{not_run-unbuilt, not_run-many, told_refused, told_many}
use Rattle.dfx_top.proofs.Chains.{sound_chain}
use Rattle.dfx_top.proofs.query.run_query.Goals as goal

pub returns-then-not-is_built-clause-told : goal.returns-then-not-is_built-clause-told
returns-then-not-is_built-clause-told g c all before ft kt = told_refused all before c.args.prepared.now _ _ kt (not_run-unbuilt all c.args.prepared.now (search rules))

pub returns-then-paths-gt-MOST_SOURCES-clause-told : goal.returns-then-paths-gt-MOST_SOURCES-clause-told
returns-then-paths-gt-MOST_SOURCES-clause-told g c all before ft kt =
    told_many all before c.args.prepared.now _ _ (length c.scan_paths-paths.result.now) kt
    (not_run-many all c.args.prepared.now (search rules) (subst (λ (ps : List Path). 512 < length ps) c.scan_paths-paths.ensures c.if-paths-gt-MOST_SOURCES.true)
    ∙ ap (λ (ps : List Path). Some (failure.TooManySources (length ps))) (sym c.scan_paths-paths.ensures))

pub run_built-requires-clause-sound : goal.run_built-requires-clause-sound
run_built-requires-clause-sound g c κs within = sound_chain c.args.prepared.now.query.body c.requires
