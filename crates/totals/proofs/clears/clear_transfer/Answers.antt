use Rattle.std.proofs.Common.{ℕ, map, length, sym, ap, ◌∙◌, arith}
use Rattle.board.specs.Entries.{transfer}
use Rattle.board.specs.Totals.{ready, clear_in}
use Rattle.slots.specs.Views.{slot_claimed}
use Rattle.table.specs.Tables.{plan_in, sheet}
use Rattle.totals.proofs.Slots.{values_long, bus_claims_are}
use Rattle.totals.proofs.Claiming.{clear_transfer_is, clear_transfer_past}
use Rattle.totals.proofs.clears.clear_transfer.Goals as goal

pub returns-then-value-transfers : goal.returns-then-value-transfers
returns-then-value-transfers c =
    let t = c.args.table.now in
    clear_transfer_past (plan_in t) (sheet t) c.args.value (omega (arith, values_long t, ap length c.transfers.ensures))

pub transfer_ready-requires : goal.transfer_ready-requires
transfer_ready-requires c = omega (arith, values_long c.args.table.now, ap length c.transfers.ensures)

pub returns : goal.returns
returns c =
    let t = c.args.table.now in
    let test = ready (plan_in t) (sheet t) (transfer c.args.value) in
    c.clear_from.ensures test c.transfer_ready.ensures
    ∙ ap (λ cs. clear_in cs c.args.value test) (ap (map (slot_claimed (λ (a : ℕ). 0) (λ a. a))) c.transfers-2.ensures ∙ bus_claims_are t)
    ∙ sym (clear_transfer_is (plan_in t) (sheet t) c.args.value)
