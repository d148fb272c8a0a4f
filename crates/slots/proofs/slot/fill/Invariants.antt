use Rattle.std.proofs.Common.{◌≡◌, vec_items}
use Rattle.slots.specs.Views.{places, lengths}
use Rattle.slots.proofs.Fields.{FilledTo}
use Rattle.slots.proofs.slot.fill.Given as goal

abbrev pub invariant-loop-index : goal.invariant-loop-index
invariant-loop-index g l =
    record { filled : FilledTo l.index (places (vec_items l.slots)) l.given (places (vec_items l.initial.slots)); kept : lengths (vec_items l.slots) ≡ lengths (vec_items l.initial.slots) }
