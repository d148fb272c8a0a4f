use Rattle.std.proofs.Common.{[], ◌∷◌, ◌++◌, map, take, sym, ap, ◌∙◌, subst}
use Rattle.std.proofs.lemmas.List.{map_more}
use Rattle.lane.specs.Stretches.{Does}
use Rattle.lane.proofs.stretches.next_stretch.Goals as goal

pub loop-claim-preserved : goal.loop-claim-preserved
loop-claim-preserved g c =
    let claimed = g.C.Claim.claimed in
    let more = map_more claimed c.args.claims.now c.loop-claim.claim-index c.claim-item.result c.loop-claim-test.true ∙ ap (λ x. map claimed (take c.loop-claim.claim-index c.args.claims.now) ++ claimed x ∷ []) (sym c.claim-item.is) in
    subst (λ cs. Does cs c.args.window.resource c.args.window.from c.either-all.result) (sym more) (c.either-all.ensures _ _ _ _ c.loop-claim.invariant c.stretch_of.ensures)
