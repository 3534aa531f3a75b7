-- Counts of faults, handed from an object to its owner.
use Rattle.std.proofs.Common.{◌≡◌, ℕ, zero, suc, ◌≤◌, List, Option, Some, None, arith}
use Rattle.dfx_outside.specs.Causes.{Rose, HandsOn}
use Rattle.dfx_outside.specs.Contents.{Opens}

-- what was closed had failed, so the owner's count rose
pub handed_on : (before now count : ℕ) → HandsOn before now count → Rose 0 count → Rose before now
handed_on before now zero h r = absurd (omega arith)
handed_on before now (suc n) h r = h

-- a count that rose later than another moment rose since then
pub rose_since : (first before now : ℕ) → first ≤ before → Rose before now → Rose first now
rose_since first before now h r = omega arith

-- what was opened has the content of its path
pub opened : (content told : Option (List ℕ)) (bytes : List ℕ) → Opens content told → told ≡ Some bytes → content ≡ Some bytes
opened None told bytes h e = absurd h
opened (Some v) told bytes h e = cc

pub ruleset fault_steps = (handed_on, rose_since, opened)
