use Rattle.std.proofs.Common.{[], ◌∷◌, ◌++◌, map, sym, ap, ◌∙◌, ap₂, arith}
use Rattle.std.proofs.lemmas.List.FromFn.{map-range_with_len_more}
use Rattle.std.proofs.lemmas.List.{map_push}
use Rattle.totals.specs.Spans.{span_of}
use Rattle.totals.proofs.Staying.{the_stay}
use Rattle.totals.proofs.stays.Stays.of.Goals as goal

pub loop-task-preserved : goal.loop-task-preserved
loop-task-preserved c =
    let i = c.loop-task.task in
    record {
      claims = ap (map span_of) c.push.ensures.items ∙ map_push span_of c.loop-task.spans.items c.stay.result
          ∙ ap₂ (λ xs x. xs ++ x ∷ []) c.loop-task.invariant.claims c.stay.ensures
          ∙ sym (map-range_with_len_more (the_stay c.args.table.now) 0 i i (omega arith));
      many = omega (arith, c.loop-task.invariant.many, c.push.ensures.len);
    }
