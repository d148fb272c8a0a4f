use Rattle.std.proofs.Common.{◌≡◌, ◌/◌, ◌%◌, ◌<◌, length, map, vec_items, ◌∙◌, ap, arith, rules}
use Rattle.std.specs.Simd.{first_chunks}
use Rattle.std.proofs.ByRecursion.{All-from_get_or}
use Rattle.words.proofs.Inverses.{four, read_words}
use Rattle.words.proofs.bytes.from_bytes.Goals as goal

pub returns : goal.returns
returns c =
    let bs = c.args.bytes.now in
    let ws = vec_items c.in_ok-collect.field-0 in
    let e : ws ≡ map four c.as_chunks.result.0.now = search rules in
    let f : c.as_chunks.result.0.now ≡ first_chunks 4 (length bs / 4) bs = c.as_chunks.ensures.front in
    let l : length bs % 4 < 1 = omega arith in
    read_words bs ws l (All-from_get_or (λ b. b < 256) bs 0 (λ i _. let f = c.type_inv.bytes i in omega arith)) (e ∙ ap (map four) f)
