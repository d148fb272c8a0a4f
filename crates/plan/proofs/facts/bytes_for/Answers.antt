use Rattle.std.proofs.Common.{sum_by, ap, ◌∙◌, arith, take_all}
use Rattle.std.proofs.lemmas.List.Sums.{sum_by_more}
use Rattle.board.specs.Plans.{bytes_for, no_channel}
use Rattle.plan.proofs.facts.bytes_for.Goals as goal

pub loop-channel-preserved : goal.loop-channel-preserved
loop-channel-preserved c =
    let e = sum_by_more (bytes_for c.args.task) c.args.channels.now c.loop-channel.channel-index no_channel c.loop-channel-test.true in
    (omega (arith, e, c.loop-channel.invariant.0, c.share-total.ensures.value), omega (arith, c.loop-channel.invariant.1, c.share-total.ensures.bound, c.requires.small c.loop-channel.channel-index no_channel c.loop-channel-test.true))

pub returns : goal.returns
returns c = record {
  value = c.loop-channel.invariant.0 ∙ ap (sum_by (bytes_for c.args.task)) (take_all _ _ c.loop-channel-test.false);
  bound = omega (arith, c.loop-channel.invariant.1);
}
