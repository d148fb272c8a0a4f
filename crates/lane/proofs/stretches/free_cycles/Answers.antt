use Rattle.std.proofs.Common.{◌-◌, min, ◌++◌, map, ap, ◌∙◌, arith}
use Rattle.lane.specs.Claims.{untaken}
use Rattle.lane.proofs.Counts.{counted_le}
use Rattle.lane.proofs.Joins.{turn}
use Rattle.lane.proofs.stretches.free_cycles.Goals as goal

pub overflow_add-count : goal.overflow_add-count
overflow_add-count g c =
    let claims = map g.C.Claim.claimed in
    let most = counted_le (untaken (claims c.args.before.now ++ claims c.args.after.now) c.args.resource) c.args.start (c.args.end - c.args.start) in
    omega (arith, most, turn _ _ _ _ _ _ c.loop-at-test.true (c.min-stop.ensures ∙ ap (λ s. min s c.args.end) c.end.ensures) c.next_of_both-others.ensures, c.free-count.ensures)

pub loop-at-preserved : goal.loop-at-preserved
loop-at-preserved g c =
    omega (arith, turn _ _ _ _ _ _ c.loop-at-test.true (c.min-stop.ensures ∙ ap (λ s. min s c.args.end) c.end.ensures) c.next_of_both-others.ensures, c.free-count.ensures)

pub returns : goal.returns
returns g c =
    let claims = map g.C.Claim.claimed in
    omega (arith, counted_le (untaken (claims c.args.before.now ++ claims c.args.after.now) c.args.resource) c.loop-at.at (c.args.end - c.loop-at.at))
