use Rattle.lane.proofs.Joins.{both_taken, both_free, first_taken, second_taken}
use Rattle.lane.proofs.stretches.either.Goals as goal

pub returns-in-Taken-Taken : goal.returns-in-Taken-Taken
returns-in-Taken-Taken c ss ts r at p q = rw c.max.ensures (both_taken ss ts r at c.args.a c.args.b _ _ c.in-Taken-Taken.is-0 c.in-Taken-Taken.is-1 p q)

pub returns-in-Free-Free : goal.returns-in-Free-Free
returns-in-Free-Free c ss ts r at p q = rw c.min.ensures (both_free ss ts r at c.args.a c.args.b _ _ c.in-Free-Free.is-0 c.in-Free-Free.is-1 p q)

pub returns-in-Taken-Free : goal.returns-in-Taken-Free
returns-in-Taken-Free c ss ts r at p q = first_taken ss ts r at c.args.a _ c.in-Taken-Free.is-0 p

pub returns-in-Free-Taken : goal.returns-in-Free-Taken
returns-in-Free-Taken c ss ts r at p q = second_taken ss ts r at c.args.b _ c.in-Free-Taken.is-1 q
