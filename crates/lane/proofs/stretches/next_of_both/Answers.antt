use Rattle.lane.proofs.stretches.next_of_both.Goals as goal

pub returns : goal.returns
returns g c = c.either.ensures _ _ _ _ c.next_stretch.ensures c.next_stretch-2.ensures
