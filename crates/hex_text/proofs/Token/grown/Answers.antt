use Rattle.std.proofs.Common.{arith}
use Rattle.hex_text.proofs.Scans.{digit_at, room}
use Rattle.hex_text.proofs.Token.grown.Goals as goal

pub overflow_mul-result : goal.overflow_mul-result
overflow_mul-result c = let r = room c.self.inside.count c.self.inside.value c.if-count-lt-DIGITS.true c.self.invariant in omega arith

pub overflow_add-result-in-Some : goal.overflow_add-result-in-Some
overflow_add-result-in-Some c =
    let r = room c.self.inside.count c.self.inside.value c.if-count-lt-DIGITS.true c.self.invariant in
    let d = digit_at c.args.byte c.in-Some.d c.in-Some.ensures in
    omega arith
