use Rattle.std.proofs.Common.{sym, ◌∙◌}
use Rattle.board.specs.Entries.{exec}
use Rattle.totals.proofs.Slots.{exec_ends, end_small}
use Rattle.totals.proofs.ends.exec_end.Goals as goal

pub end_of-requires : goal.end_of-requires
end_of-requires c z h = let t = c.args.table.now in end_small t (exec c.args.task) z (sym (exec_ends t _ c.execs.ensures c.args.task) ∙ h)

pub returns : goal.returns
returns c = c.end_of.ensures ∙ exec_ends c.args.table.now _ c.execs.ensures c.args.task
