use Rattle.std.proofs.Common.{replicate, ap, ◌∙◌, arith}
use Rattle.std.proofs.lemmas.List.{take-replicate}
use Rattle.records.proofs.row.Row.filled.Goals as goal

pub returns : goal.returns
returns g c = take-replicate _ g.row.ROOM c.args.thing (omega (arith, c.min.ensures)) ∙ ap (λ n. replicate n c.args.thing) (omega (arith, c.min.ensures))
