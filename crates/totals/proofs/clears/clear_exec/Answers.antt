use Rattle.std.proofs.Common.{map, ap, ◌∙◌}
use Rattle.board.specs.declared.Seat.{Seat}
use Rattle.board.specs.Entries.{exec}
use Rattle.board.specs.Totals.{ready, clear_in}
use Rattle.slots.specs.Views.{slot_claimed}
use Rattle.table.specs.Tables.{plan_in, sheet}
use Rattle.totals.proofs.Slots.{exec_claims_are}
use Rattle.totals.proofs.clears.clear_exec.Goals as goal

pub returns : goal.returns
returns c =
    let t = c.args.table.now in
    let test = ready (plan_in t) (sheet t) (exec c.args.task) in
    c.clear_from.ensures test c.exec_ready.ensures
    ∙ ap (λ cs. clear_in cs c.args.task test) (ap (map (slot_claimed (λ (x : Seat). x.core) (λ x. x.start))) c.execs.ensures ∙ exec_claims_are t)
