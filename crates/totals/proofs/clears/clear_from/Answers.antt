use Rattle.std.proofs.Common.{rules, ◌≡◌, ℕ, map, Some, None}
use Rattle.lane.specs.Claims.{alone_count}
use Rattle.totals.proofs.Claiming.{clear_by}
use Rattle.totals.proofs.clears.clear_from.Goals as goal

pub returns : goal.returns
returns g c test h =
    let cs = map g.C.Claim.claimed c.args.claims.now in
    let none : c.args.ready ≡ None → c.map_or.result ≡ 0 = λ e. rw e at c.map_or.ensures in
    let some : (x : ℕ) → c.args.ready ≡ Some x → c.map_or.result ≡ alone_count cs c.args.position x = λ x e. search rules in
    clear_by cs c.args.position c.map_or.result test c.args.ready h none some
