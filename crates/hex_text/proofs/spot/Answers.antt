use Rattle.std.proofs.Common.{◌≡◌, eqb, not, reverse, length, take, rules, ◌∙◌, arith}
use Rattle.std.specs.List.{count_by, prefix_len}
use Rattle.std.proofs.lemmas.Bool.Decides.{nat_tests}
use Rattle.std.proofs.lemmas.Iterator.Consumers.{count_from_yields_List}
use Rattle.std.proofs.lemmas.Iterator.Search.{YieldsList-from_take_while}
use Rattle.std.proofs.lemmas.Iterator.Adapters.{YieldsList-from_rev_slice}
use Rattle.std.proofs.lemmas.List.Folds.{length-prefix_len}
use Rattle.hex_text.proofs.Scans.{spot_at}
use Rattle.hex_text.proofs.spot.Goals as goal

pub returns : goal.returns
returns c =
    let front = c.args.front.now in
    let l : c.count-line.result ≡ count_by (λ b. eqb b 10) front = search rules in
    let k : c.count-column.result ≡ length (take (prefix_len (λ b. not (eqb b 10)) (reverse front)) (reverse front)) =
    count_from_yields_List c.take_while.result c.count-column.result c.count-column.ensures.ran
    (YieldsList-from_take_while {s = c.take_while.result} _ (λ b. not (eqb b 10)) (YieldsList-from_rev_slice front (search rules)) (search rules) (search rules) (λ x b q h. (search rules, search rules)))
    in
    let s = spot_at front c.count-line.result c.count-column.result l (k ∙ length-prefix_len (λ b. not (eqb b 10)) (reverse front)) in
    grind (arith, nat_tests, s)
