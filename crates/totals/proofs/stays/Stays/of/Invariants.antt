use Rattle.std.proofs.Common.{◌≡◌, map}
use Rattle.std.specs.List.{range_with_len}
use Rattle.arrayvec.specs.ArrayVec.{array_vec_len}
use Rattle.totals.specs.Spans.{span_of}
use Rattle.totals.proofs.Staying.{the_stay}
use Rattle.totals.proofs.stays.Stays.of.Given as goal

abbrev pub invariant-loop-task : goal.invariant-loop-task
invariant-loop-task l =
    record { claims : map span_of l.spans.items ≡ map (the_stay l.table) (range_with_len 0 l.task); many : array_vec_len l.spans ≡ l.task }
