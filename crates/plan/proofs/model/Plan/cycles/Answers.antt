use Rattle.std.proofs.Common.{◌*◌, ap}
use Rattle.board.proofs.Rounding.{rounds_up, with_remainder}
use Rattle.plan.proofs.model.Plan.cycles.Goals as goal

pub returns : goal.returns
returns c =
    let p = c.args.self.now in
    record { value = rw (c.from.ensures, c.from-2.ensures, c.div_ceil.ensures) (ap (λ n. n * p.slot_time) (with_remainder c.args.bytes p.slot_load p.slot_load_fits.0)); law = rounds_up }
