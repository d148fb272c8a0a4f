use Rattle.std.proofs.Common.{◌≡◌, take, vec_items}
use Rattle.words.specs.Bytes.{bytes_of}
use Rattle.words.proofs.bytes.to_bytes.Given as goal

abbrev pub invariant-loop-w : goal.invariant-loop-w
invariant-loop-w l = vec_items l.bytes ≡ bytes_of (take l.w-index l.words)
