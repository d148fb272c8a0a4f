use Rattle.std.proofs.Common.{◌≡◌, map, take, replicate, None, vec_items}
use Rattle.slots.specs.Views.{places, lengths}
use Rattle.table.proofs.opening.exec_slots.Given as goal

abbrev pub invariant-loop-task : goal.invariant-loop-task
invariant-loop-task l =
    record { lengths : lengths (vec_items l.slots) ≡ map (λ t. t.limit) (take l.task-index l.task-items); places : places (vec_items l.slots) ≡ replicate l.task-index None }
