use Rattle.std.proofs.Common.{◌≡◌, length, ◌<◌, ◌∙◌, arith, rules}
use denote.Enum.Bare.{sameb}
use Rattle.std.specs.List.{list_any}
use Rattle.std.proofs.lemmas.List.{at_drop_more, take_rest}
use Rattle.std.proofs.lemmas.Bool.Decides.{nat_tests}
use Rattle.words.specs.contracts.kind.Kind.{the_type}
use Rattle.words.specs.Records.{opening}
use Rattle.words.proofs.Taking.{holds_one_of}
use Rattle.words.proofs.reader.Reader.opening.Goals as goal

pub returns-in-Some : goal.returns-in-Some
returns-in-Some c =
    let ws = c.args.self.now.rest.now in
    let kinds = c.args.kinds.now in
    let kind = c.in-Some.opening.kind in
    let h : c.contains.result ≡ list_any (λ x. sameb the_type x kind) kinds = c.contains.ensures.value in
    let q = h ∙ holds_one_of kind kinds in
    let lt : 0 < length ws = search rules in
    let e = at_drop_more (opening kinds c.args.self.now.place) ws 0 0 lt in
    let t = take_rest ws 1 in
    grind (arith, nat_tests, e, t, q, c.in-Some.ensures)

pub returns-in_default-of : goal.returns-in_default-of
returns-in_default-of c =
    let ws = c.args.self.now.rest.now in
    let kinds = c.args.kinds.now in
    let kind = c.in-Some.opening.kind in
    let h : c.contains.result ≡ list_any (λ x. sameb the_type x kind) kinds = c.contains.ensures.value in
    let q = h ∙ holds_one_of kind kinds in
    let lt : 0 < length ws = search rules in
    let e = at_drop_more (opening kinds c.args.self.now.place) ws 0 0 lt in
    grind (arith, nat_tests, e, q, c.in-Some.ensures)
