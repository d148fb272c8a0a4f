use Rattle.std.proofs.Common.{length, vec_items, sym, ap, ◌∙◌, arith}
use Rattle.std.proofs.lemmas.List.{length-map}
use Rattle.slots.specs.Views.{places}
use Rattle.slots.proofs.Fields.{filled_all}
use Rattle.slots.proofs.slot.fill.Goals as goal

pub returns-clause-places : goal.returns-clause-places
returns-clause-places g c =
    let xs = vec_items c.loop-index.slots in
    let ys = vec_items c.args.slots.now in
    let long = length-map xs (λ x. x.place) ∙ sym (length-map xs (λ x. x.length)) ∙ ap length c.loop-index.invariant.kept ∙ length-map ys (λ x. x.length) ∙ sym (length-map ys (λ x. x.place)) in
    filled_all c.args.given.now (places ys) c.loop-index.index (places xs) (omega (arith, c.loop-index.auto.index-end, c.loop-index-test.false)) long c.loop-index.invariant.filled
