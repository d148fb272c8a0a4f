use Rattle.std.proofs.Common.{Err, sym, ap, ◌∙◌}
use Rattle.std.proofs.lemmas.Result.{err_from_is_err_and}
use Rattle.words.specs.Seen.{said}
use Rattle.words.proofs.Taking.{taken_less}
use Rattle.board.proofs.Going.{next_cut, next_more, going_more, going_fault}
use Rattle.records.proofs.Coming.{came}
use Rattle.records.proofs.rules.read.Goals as goal

pub returns-in_err-found : goal.returns-in_err-found
returns-in_err-found g c =
    let l = c.loop-so_far in
    let r = g.R.FileRules.rules c.args.rules.now in
    let s = g.R.FileRules.state l.so_far in
    let p = err_from_is_err_and c.from_residual.result c.from_residual.ensures.1 in
    let n = next_cut r s l.kinds.now l.reader.place l.reader.rest.now _ c.in_err-found.ensures in
    rw p.1 (going_fault r c.args.words.now l.reader.rest.now s l.kinds.now l.reader.place _ l.invariant n ∙ ap Err (sym (g.met.R.FileRules.tells _ p.0 p.2)))

pub returns-in_err-add : goal.returns-in_err-add
returns-in_err-add g c =
    let l = c.loop-so_far in
    let r = g.R.FileRules.rules c.args.rules.now in
    let s = g.R.FileRules.state l.so_far in
    let x = said c.in-Some.found.says in
    let h = came l.kinds.now l.reader c.next.new.reader _ c.in-Some.found c.in-Some.is c.in_ok-found.ensures in
    let n = next_more r s l.kinds.now l.reader.place c.in-Some.found.place l.reader.rest.now _ x _ h.0 h.1 h.2 c.in_err-add.ensures in
    let p = err_from_is_err_and c.from_residual-in_err-add.result c.from_residual-in_err-add.ensures.1 in
    rw (p.1, p.2) (going_fault r c.args.words.now l.reader.rest.now s l.kinds.now l.reader.place _ l.invariant n)

pub loop-so_far-smaller : goal.loop-so_far-smaller
loop-so_far-smaller g c =
    let l = c.loop-so_far in
    let h = came l.kinds.now l.reader c.next.new.reader _ c.in-Some.found c.in-Some.is c.in_ok-found.ensures in
    taken_less l.kinds.now l.reader.place l.reader.rest.now _ (said c.in-Some.found.says) h.2

pub loop-so_far-preserved : goal.loop-so_far-preserved
loop-so_far-preserved g c =
    let l = c.loop-so_far in
    let r = g.R.FileRules.rules c.args.rules.now in
    let s = g.R.FileRules.state l.so_far in
    let x = said c.in-Some.found.says in
    let h = came l.kinds.now l.reader c.next.new.reader _ c.in-Some.found c.in-Some.is c.in_ok-found.ensures in
    let a = c.in_ok-add.ensures in
    let n = next_more r s l.kinds.now l.reader.place c.in-Some.found.place l.reader.rest.now _ x _ h.0 h.1 h.2 a.0 in
    going_more r c.args.words.now l.reader.rest.now s l.kinds.now l.reader.place _ x (g.R.FileRules.state c.add.new.so_far) c.follows-kinds.result.now c.next.new.reader.place l.invariant n h.1 a.1 c.follows-kinds.ensures h.3
