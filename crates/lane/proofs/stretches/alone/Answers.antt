use Rattle.std.proofs.Common.{map, sym, ◌∙◌, arith}
use Rattle.std.proofs.lemmas.List.{length-map}
use Rattle.lane.proofs.Shares.{alone_past, alone_between}
use Rattle.lane.proofs.stretches.alone.Goals as goal

pub returns-in_default : goal.returns-in_default
returns-in_default g c =
    let claimed = g.C.Claim.claimed in
    let xs = c.args.claims.now in
    sym (alone_past (map claimed xs) c.args.position c.args.from (simp length-map c.in_default.ensures.lookup.3))

pub returns : goal.returns
returns g c =
    let found = c.in-Some.ensures.lookup in
    c.free_cycles.ensures
    ∙ alone_between g.C.Claim.claimed c.args.claims.now c.args.position c.args.from c.in-Some.claim.now found.3.0 found.1
    _ _ _ c.resource.ensures (omega arith) c.end.ensures
