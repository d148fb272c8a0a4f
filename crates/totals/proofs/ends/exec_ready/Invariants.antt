use Rattle.std.proofs.Common.{◌≡◌, ℕ, ◌-◌, ◌&&◌, length, Some}
use Rattle.std.specs.List.{range_with_len, list_all}
use Rattle.board.specs.Entries.{exec}
use Rattle.board.specs.Totals.{ended_by, ready}
use Rattle.table.specs.Tables.{plan_in, sheet}
use Rattle.totals.proofs.Waiting.{awaits}
use Rattle.totals.proofs.ends.exec_ready.Given as goal

abbrev pub invariant-loop-channel : goal.invariant-loop-channel
invariant-loop-channel l =
    record {
      can : (goal.iterator-loop-channel).can_next l.channel-iterator;
      finite : (goal.iterator-loop-channel).is_finite l.channel-iterator;
      waits : (k : ℕ) → (ended_by k (Some l.at) && list_all (awaits (plan_in l.table) (sheet l.table) l.task k) (range_with_len (length l.yielded) (length (plan_in l.table).channels - length l.yielded))) ≡ ready (plan_in l.table) (sheet l.table) (exec l.task) k;
    }
