use Rattle.std.proofs.Common.{sym, ◌∙◌}
use Rattle.board.specs.Entries.{transfer}
use Rattle.totals.proofs.Slots.{transfer_ends, end_small}
use Rattle.totals.proofs.ends.transfer_end.Goals as goal

pub end_of-requires : goal.end_of-requires
end_of-requires c z h = let t = c.args.table.now in end_small t (transfer c.args.value) z (sym (transfer_ends t _ c.transfers.ensures c.args.value) ∙ h)

pub returns : goal.returns
returns c = c.end_of.ensures ∙ transfer_ends c.args.table.now _ c.transfers.ensures c.args.value
