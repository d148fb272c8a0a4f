use Rattle.std.proofs.Common.{◌^◌, ◌<◌, get_or, take, Ok, ap, ◌∙◌, arith}
use Rattle.std.proofs.ByRecursion.{All-from_get_or}
use Rattle.std.proofs.lemmas.List.{take_all, take_more}
use Rattle.words.specs.Bytes.{bytes_of, words_in}
use Rattle.words.proofs.Inverses.{bytes_more, whole, words_again}
use Rattle.words.proofs.bytes.to_bytes.Goals as goal

pub loop-w-preserved : goal.loop-w-preserved
loop-w-preserved c =
    let ws = c.args.words.now in
    let i = c.loop-w.w-index in
    let m = take_more ws i 0 c.loop-w-test.true in
    let b = bytes_more (take i ws) (get_or ws i 0) in
    let q = c.in_ok-extend_from_slice.ensures.items in
    cc

pub returns : goal.returns
returns c =
    let ws = c.args.words.now in
    let e = c.loop-w.invariant ∙ ap bytes_of (take_all c.loop-w.w-index ws c.loop-w-test.false) in
    let all = words_again ws (All-from_get_or (λ w. w < 2 ^ 32) ws 0 (λ i _. let f = c.type_inv.words i in omega arith)) in
    (e, ap words_in e ∙ whole ws ∙ ap Ok all)
