use Rattle.std.proofs.Common.{map, take}
use Rattle.lane.specs.Stretches.{Does}
use Rattle.lane.proofs.stretches.next_stretch.Given as goal

abbrev pub invariant-loop-claim : goal.invariant-loop-claim
invariant-loop-claim g l = Does (map g.C.Claim.claimed (take l.claim-index l.claims)) l.window.resource l.window.from l.all
