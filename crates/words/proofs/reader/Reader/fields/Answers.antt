use Rattle.std.proofs.Common.{arith}
use Rattle.words.proofs.Taking.{following_to}
use Rattle.words.proofs.reader.Reader.fields.Goals as goal

pub returns-in-Some-first_not_plain : goal.returns-in-Some-first_not_plain
returns-in-Some-first_not_plain c =
    let s = c.in-Some.ensures.cases in
    following_to c.args.count c.args.self.now.place c.args.self.now.rest.now c.in-Some.fields.now c.in-Some.rest.now _ s.0 s.1 s.2 c.in-Some-first_not_plain.ensures

pub returns : goal.returns
returns c =
    let s = c.in-Some.ensures.cases in
    (following_to c.args.count c.args.self.now.place c.args.self.now.rest.now c.in-Some.fields.now c.in-Some.rest.now _ s.0 s.1 s.2 c.in_default-first_not_plain.ensures, omega arith)
