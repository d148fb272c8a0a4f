use Rattle.std.proofs.Common.{sym, ap, ◌∙◌, arith}
use Rattle.std.proofs.lemmas.Result.{err_from_is_err_and}
use Rattle.hex_text.proofs.Pieces.{pieces_read, token_refused}
use Rattle.hex_text.proofs.Texts.{read_back}
use Rattle.hex_text.proofs.Scans.{front_length}
use Rattle.hex_text.specs.Scan.{bad}
use Rattle.hex_text.proofs.from_hex.Goals as goal

pub slice_bounds-spot-end : goal.slice_bounds-spot-end
slice_bounds-spot-end c = sym (front_length c.args.text.now c.in-Some.start (c.in-Some.ensures ∙ ap bad c.run.ensures))

pub returns-in-Some : goal.returns-in-Some
returns-in-Some c = record { value = (let h = c.in-Some.ensures in let v = c.run.ensures in grind arith); back = read_back; pieces = pieces_read; refuses = token_refused }

pub returns-in_err-shed : goal.returns-in_err-shed
returns-in_err-shed c =
    let p = err_from_is_err_and c.from_residual.result c.from_residual.ensures.1 in
    record { value = (let h = c.in_default.ensures in let v = c.run.ensures in rw (p.1, p.2) (grind arith)); back = read_back; pieces = pieces_read; refuses = token_refused }

pub returns : goal.returns
returns c = record { value = (let h = c.in_default.ensures in let v = c.run.ensures in let s = c.in_ok-shed.ensures in grind arith); back = read_back; pieces = pieces_read; refuses = token_refused }
