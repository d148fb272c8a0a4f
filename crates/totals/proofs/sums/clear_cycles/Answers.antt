use Rattle.std.proofs.Common.{rules, ◌+◌, length, sum_by, sym, ap, ◌∙◌, ap₂, arith}
use Rattle.std.specs.List.{range_with_len}
use Rattle.board.specs.Entries.{exec, transfer}
use Rattle.board.specs.Totals.{clear_of}
use Rattle.plan.proofs.Standing.{valid}
use Rattle.table.specs.Tables.{plan_in, sheet}
use Rattle.totals.proofs.Slots.{tasks_long, values_long, transfers_few}
use Rattle.totals.proofs.Summing.{sum_entries, clear_small}
use Rattle.totals.proofs.sums.clear_cycles.Goals as goal

pub sum-requires-2-clause-few : goal.sum-requires-2-clause-few
sum-requires-2-clause-few c = transfers_few c.args.table.now _ c.transfers.ensures

pub returns : goal.returns
returns c =
    let t = c.args.table.now in
    let p = plan_in t in
    let f = clear_of p (sheet t) in
    ap₂ ◌+◌
    (c.sum.ensures (λ i. f (exec i)) (λ i n k. search rules) ∙ ap (λ m. sum_by (λ i. f (exec i)) (range_with_len 0 m)) (ap length c.execs.ensures ∙ tasks_long t))
    (c.sum-2.ensures (λ v. f (transfer v)) (λ v n k. search rules) ∙ ap (λ m. sum_by (λ v. f (transfer v)) (range_with_len 0 m)) (ap length c.transfers.ensures ∙ values_long t))
    ∙ sym (sum_entries p f)

pub overflow_add-result : goal.overflow_add-result
overflow_add-result c = let sum = returns c in omega (arith, sum, clear_small (plan_in c.args.table.now) (valid c.args.table.now.plan.now) (sheet c.args.table.now))
