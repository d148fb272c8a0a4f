use Rattle.std.proofs.Common.{◌≡◌, ◌*◌, map, replicate, None, vec_items}
use Rattle.std.specs.List.{range_with_len}
use Rattle.board.specs.Entries.{transfer, length_of}
use Rattle.plan.specs.Views.{view}
use Rattle.slots.specs.Views.{places, lengths}
use Rattle.table.proofs.opening.transfer_slots.Given as goal

abbrev pub invariant-loop-channel : goal.invariant-loop-channel
invariant-loop-channel l =
    record { lengths : lengths (vec_items l.slots) ≡ map (λ v. length_of (view l.plan) (transfer v)) (range_with_len 0 (2 * l.channel-index)); places : places (vec_items l.slots) ≡ replicate (2 * l.channel-index) None }
