use Rattle.std.proofs.Common.{◌≡◌, ◌*◌, ◌≤◌, take, sum_by}
use Rattle.board.specs.Plans.{bytes_for}
use Rattle.plan.proofs.facts.bytes_for.Given as goal

abbrev pub invariant-loop-channel : goal.invariant-loop-channel
invariant-loop-channel l =
    (l.total ≡ sum_by (bytes_for l.task) (take l.channel-index l.channels)) × (l.total ≤ 4096 * l.channel-index)
