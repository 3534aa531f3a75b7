use Rattle.std.proofs.Common.{◌≡◌, ◌++◌, drop, None}
use Rattle.physical_build.specs.Build.{plans, bodies, first_of}
use Rattle.physical_build.proofs.body.+build.Given as goal

abbrev pub invariant-build_all-loop-plan : goal.invariant-build_all-loop-plan
invariant-build_all-loop-plan l = record {
  all : l.all ++ plans l.files l.n (drop l.plan-index l.plans) ≡ plans l.files l.n l.plans;
  first : first_of l.first (bodies l.files l.n (drop l.plan-index l.plans)) ≡ first_of None (bodies l.files l.n l.plans);
}
