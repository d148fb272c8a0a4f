use Rattle.std.proofs.Common.{◌≡◌, ◌≤◌, max, map, take}
use Rattle.lane.specs.Claims.{Free, Passed}
use Rattle.lane.proofs.gaps.Row.pushed.Given as goal

abbrev pub invariant-loop-claim : goal.invariant-loop-claim
invariant-loop-claim g l =
    let claimed = g.C.Claim.claimed in
    Passed (map claimed l.claims) l.self.resource l.from l.self.length l.at
    × (l.at ≡ l.from → Free (map claimed (take l.claim-index l.claims)) l.self.resource l.from l.self.length)
    × (l.at ≤ max l.from 536870911)
