use Rattle.std.proofs.Common.{◌≡◌, ◌+◌, ◌-◌, ◌++◌, map}
use Rattle.lane.specs.Claims.{counted, untaken}
use Rattle.lane.proofs.stretches.free_cycles.Given as goal

abbrev pub invariant-loop-at : goal.invariant-loop-at
invariant-loop-at g l =
    let test = untaken (map g.C.Claim.claimed l.before ++ map g.C.Claim.claimed l.after) l.resource in
    l.count + counted test l.at (l.end - l.at) ≡ counted test l.start (l.end - l.start)

abbrev pub decreases-loop-at : goal.decreases-loop-at
decreases-loop-at g l = l.end - l.at
