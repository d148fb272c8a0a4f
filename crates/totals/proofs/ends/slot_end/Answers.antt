use Rattle.std.proofs.Common.{◌+◌, ap, arith}
use Rattle.std.specs.Option.{option_map}
use Rattle.totals.proofs.ends.slot_end.Goals as goal

pub overflow_add-result : goal.overflow_add-result
overflow_add-result g c = omega (arith, c.start.ensures, c.requires _ (ap (λ o. option_map (λ a. a + c.args.slot.now.length) (option_map g.P.Place.from o)) c.in_ok-slot.was))
