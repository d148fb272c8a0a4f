use Rattle.std.proofs.Common.{map, ap, ◌∙◌}
use Rattle.lane.specs.Claims.{cut}
use Rattle.lane.specs.declared.claim.Span.{Span}
use Rattle.board.specs.Sheets.{seat_of}
use Rattle.board.specs.Totals.{ended_by, clear_in, has_room}
use Rattle.table.specs.Tables.{plan_in, sheet}
use Rattle.totals.proofs.Claiming.{at_once}
use Rattle.totals.proofs.Staying.{stays_uncut}
use Rattle.totals.proofs.stays.Stays.clear.Goals as goal

pub returns : goal.returns
returns c =
    let s = c.args.self.now in
    let t = s.table.now in
    let room = has_room (plan_in t) c.args.task (seat_of (sheet t) c.args.task) in
    c.clear_from.ensures (λ k. room) (λ k. ap (ended_by k) c.then_some-ready.ensures ∙ at_once c.has_room.result k ∙ c.has_room.ensures)
    ∙ ap (λ cs. clear_in cs c.args.task (λ k. room)) (ap (map (λ (z : Span). cut z.resource z.first z.length)) c.as_slice.ensures.value ∙ stays_uncut t s.spans.items s.claims)
