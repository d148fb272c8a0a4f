use Rattle.std.proofs.Common.{◌≡◌, leb, length, get_or, unwrap_or, sym, ap, ◌∙◌, ap₂, arith}
use Rattle.std.proofs.lemmas.Bool.{cond-true, lt-ltb}
use Rattle.board.specs.Plans.{if_task, need as needs}
use Rattle.board.specs.Totals.{has_room}
use Rattle.plan.specs.Views.{view}
use Rattle.table.specs.Tables.{plan_in}
use Rattle.totals.proofs.Slots.{seated_below}
use Rattle.totals.proofs.clears.has_room.Goals as goal

pub bounds-regions-seat : goal.bounds-regions-seat
bounds-regions-seat c =
    let same = rw c.plan-plan.ensures at c.regions.ensures in
    omega (arith, ap length same, c.args.table.now.seats_fit c.args.task c.in-Some.seat (sym c.in-Some.ensures))

pub returns : goal.returns
returns c =
    let t = c.args.table.now in
    let p = plan_in t in
    let task = c.args.task in
    let same = rw c.plan-plan.ensures at c.regions.ensures in
    let h = seated_below t task c.in-Some.seat (sym c.in-Some.ensures) in
    let n : c.unwrap_or-need.result ≡ needs p task =
    c.unwrap_or-need.ensures
    ∙ ap (λ o. unwrap_or o 0) (c.need.ensures ∙ ap (λ r. if_task (view r.now) task (needs (view r.now) task)) c.plan-plan.ensures ∙ cond-true _ _ _ (lt-ltb task (length p.tasks) h)) in
    ap₂ (λ m rs. leb m (get_or rs c.in-Some.seat.region 0)) n same ∙ ap (has_room p task) c.in-Some.ensures
