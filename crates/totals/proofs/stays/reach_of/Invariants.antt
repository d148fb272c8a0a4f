use Rattle.std.proofs.Common.{length}
use Rattle.table.specs.Tables.{plan_in, sheet}
use Rattle.totals.proofs.Reaches.{Reaching}
use Rattle.totals.proofs.stays.reach_of.Given as goal

abbrev pub invariant-loop-channel : goal.invariant-loop-channel
invariant-loop-channel l =
    record {
      can : (goal.iterator-loop-channel).can_next l.channel-iterator;
      finite : (goal.iterator-loop-channel).is_finite l.channel-iterator;
      reaching : Reaching (plan_in l.table) (sheet l.table) l.task (length l.yielded) l.reach.first l.reach.end;
    }
