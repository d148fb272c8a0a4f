use Rattle.std.proofs.Common.{◌-◌, ◌≤◌, max, map}
use Rattle.lane.specs.Claims.{Passed}
use Rattle.lane.proofs.gaps.gap.Given as goal

abbrev pub invariant-loop-at : goal.invariant-loop-at
invariant-loop-at g l =
    Passed (map g.C.Claim.claimed l.claims) l.resource l.from l.length l.at
    × (l.at ≤ max l.from 536870911)

abbrev pub decreases-loop-at : goal.decreases-loop-at
decreases-loop-at g l = 536870911 - l.at
