use Rattle.std.proofs.Common.{map, sym, ap, ◌∙◌, arith, take_all}
use Rattle.lane.specs.Claims.{taken}
use Rattle.lane.proofs.Takes.{taken_more, taken_has, pass}
use Rattle.lane.proofs.gaps.Row.pushed.Goals as goal

pub loop-claim-preserved : goal.loop-claim-preserved
loop-claim-preserved g c =
    let claimed = g.C.Claim.claimed in
    let within = c.loop-claim-test.true in
    let read = c.claim-item.is in
    let ends = g.met.C.Claim.ends c.claim-item.result in
    let member = taken_has claimed c.args.claims.now _ _ within read c.args.self.resource in
    let more = taken_more claimed c.args.claims.now _ _ within read c.args.self.resource in
    let new = pass _ _ _ _ _ _ _ _ _ member more c.loop-claim.invariant.0 c.loop-claim.invariant.1 c.past-at.ensures in
    (new.0, new.1, grind arith)

pub returns : goal.returns
returns g c =
    let all = take_all c.loop-claim.claim-index c.args.claims.now c.loop-claim-test.false in
    record {
      passed = c.loop-claim.invariant.0;
      free = λ e h l k. ap (λ xs. taken (map g.C.Claim.claimed xs) c.args.self.resource h) (sym all) ∙ c.loop-claim.invariant.1 e h l k;
      within = c.loop-claim.invariant.2;
    }
