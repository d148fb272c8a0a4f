use Rattle.std.proofs.Common.{sym, arith}
use Rattle.totals.proofs.stays.stay.Goals as goal

pub overflow_mul-result : goal.overflow_mul-result
overflow_mul-result c =
    let t = c.args.table.now in
    omega (arith, t.seats_fit c.args.task c.in-Some-Some.seat (sym c.in-Some-Some.ensures), t.plan.now.cores_fit.1)

pub overflow_add-result : goal.overflow_add-result
overflow_add-result c =
    let t = c.args.table.now in
    omega (arith, t.seats_fit c.args.task c.in-Some-Some.seat (sym c.in-Some-Some.ensures), t.plan.now.cores_fit.1, t.plan.now.region_count.1)
