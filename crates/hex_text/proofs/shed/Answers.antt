use Rattle.std.proofs.Common.{◌≡◌, ◌++◌, vec_items, sym, ap, ◌∙◌, arith}
use Rattle.std.proofs.lemmas.List.{at_drop_all, append-nil}
use Rattle.std.specs.Option.{option_to_list}
use Rattle.hex_text.specs.Scan.{shed, word}
use Rattle.hex_text.proofs.Scans.{shed_turn}
use Rattle.hex_text.proofs.shed.Goals as goal
use Rattle.hex_text.proofs.shed.Goals.{in-Some+in_ok-push, in_default}

pub loop-i-preserved : goal.loop-i-preserved
loop-i-preserved c =
    let p : vec_items c.match-word.words ≡ vec_items c.loop-i.words ++ option_to_list (word c.after-state.result) =
    elim c.match-word.branch [
      | in-Some+in_ok-push w ↦ (let q = w.in_ok-push.ensures.items in grind (arith, q))
      | in_default w ↦ (let n = append-nil (vec_items c.loop-i.words) in grind (arith, n))
    ]
    in
    shed_turn c.args.text.now (vec_items c.loop-i.words) (vec_items c.match-word.words) c.loop-i.i c.loop-i.state c.after-state.result c.loop-i-test.true c.after-state.ensures p c.loop-i.invariant

pub returns : goal.returns
returns c =
    let text = c.args.text.now in
    let i = c.loop-i.i in
    let ws = vec_items c.loop-i.words in
    sym (c.loop-i.invariant ∙ ap (λ r. ws ++ r) (at_drop_all (shed i c.loop-i.state) text i c.loop-i-test.false) ∙ append-nil ws)
