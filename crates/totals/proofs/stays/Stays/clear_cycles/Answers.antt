use Rattle.std.proofs.Common.{rules, ◌≡◌, length, sum_by, sym, ap, ◌∙◌}
use Rattle.std.specs.List.{range_with_len}
use Rattle.std.proofs.lemmas.List.{length-map}
use Rattle.board.specs.Totals.{clear_stay}
use Rattle.board.proofs.Claims.{stay_claims_length}
use Rattle.table.specs.Tables.{plan_in, sheet}
use Rattle.totals.specs.Spans.{span_of}
use Rattle.totals.proofs.stays.Stays.clear_cycles.Goals as goal

pub returns : goal.returns
returns c =
    let s = c.args.self.now in
    let t = s.table.now in
    let f = clear_stay (plan_in t) (sheet t) in
    let long : c.len.result ≡ length (plan_in t).tasks = c.len.ensures.value ∙ sym (length-map s.spans.items span_of) ∙ ap length s.claims ∙ stay_claims_length (plan_in t) (sheet t) in
    c.sum.ensures f (λ i n k. search rules) ∙ ap (λ m. sum_by f (range_with_len 0 m)) long
