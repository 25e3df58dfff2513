use Rattle.std.proofs.Common.{◌+◌, [], sym, arith}
use Rattle.std.proofs.lemmas.List.{append-nil}
use Rattle.std.proofs.lemmas.Result.{err_from_is_err_and}
use Rattle.vale_driver.proofs.Puts.{written_next, written_front, taken_apart}
use Rattle.vale_driver.proofs.report.write_lines.Goals as goal

pub returns-in_err-put-clause-front : goal.returns-in_err-put-clause-front
returns-in_err-put-clause-front g c =
    let p = err_from_is_err_and c.from_residual.result c.from_residual.ensures.1 in
    let rest = c.loop-end.rest.now in
    let split = taken_apart (c.in-Some.end + 1) rest c.split_at.result.0.now c.split_at.result.1.now c.split_at.ensures.front c.split_at.ensures.back in
    rw p.1 (written_front _ _ _ c.args.text.now rest c.split_at.result.0.now c.split_at.result.1.now c.loop-end.invariant.written split c.in_err-put.ensures.front)

pub loop-end-preserved : goal.loop-end-preserved
loop-end-preserved g c =
    let rest = c.loop-end.rest.now in
    let split = taken_apart (c.in-Some.end + 1) rest c.split_at.result.0.now c.split_at.result.1.now c.split_at.ensures.front c.split_at.ensures.back in
    let scan_view = c.loop-end.invariant.count in
    let grown = c.in_ok-put.ensures.count in
    record {
      written = written_next _ _ _ c.args.text.now rest c.split_at.result.0.now c.split_at.result.1.now c.loop-end.invariant.written split c.in_ok-put.ensures.ok;
      count = omega (arith, scan_view, grown);
    }

pub returns-in_err-put-2-clause-front : goal.returns-in_err-put-2-clause-front
returns-in_err-put-2-clause-front g c =
    let p = err_from_is_err_and c.from_residual-in_err-put-2.result c.from_residual-in_err-put-2.ensures.1 in
    let rest = c.loop-end.rest.now in
    rw p.1 (written_front _ _ _ c.args.text.now rest rest [] c.loop-end.invariant.written (sym (append-nil rest)) c.in_err-put-2.ensures.front)
