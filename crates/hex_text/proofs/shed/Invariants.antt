use Rattle.std.proofs.Common.{◌≡◌, ◌++◌, drop, vec_items}
use Rattle.hex_text.specs.declared.State.TheVariants.{Between}
use Rattle.hex_text.specs.Scan.{shed}
use Rattle.hex_text.proofs.shed.Given as goal

abbrev pub invariant-loop-i : goal.invariant-loop-i
invariant-loop-i l = shed 0 Between l.text ≡ vec_items l.words ++ shed l.i l.state (drop l.i l.text)
