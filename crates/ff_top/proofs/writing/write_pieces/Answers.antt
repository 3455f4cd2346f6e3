use Rattle.std.proofs.Common.{◌≡◌, ◌∙◌, ◌+◌, suc, arith, subst}
use Rattle.ff_report.specs.Heads.{lines_of}
use Rattle.ff_top.specs.Transfer.{Got, GotPart}
use Rattle.ff_top.specs.Writings.{piece_count, piece_of}
use Rattle.ff_top.proofs.Pieces.{part_front}
use Rattle.ff_top.proofs.Wrote.{on_err, all_written, got_then, so_far, part_of_all}
use Rattle.ff_top.proofs.writing.write_pieces.Goals as goal

pub returns-in_err-piece-clause-front : goal.returns-in_err-piece-clause-front
returns-in_err-piece-clause-front g c = on_err c.from_residual.result _ (so_far _ _ (piece_of c.args.writing.now) c.loop-n.n (piece_count c.args.writing.now) (omega (arith, c.loop-n-test.true, c.pieces-n-end.ensures)) c.loop-n.invariant.got)

pub returns-in_default-clause-part : goal.returns-in_default-clause-part
returns-in_default-clause-part g c = λ failed.
    let same : c.as_bytes.result.now ≡ piece_of c.args.writing.now c.loop-n.n = c.as_bytes.ensures.value ∙ c.as_str.ensures ∙ c.in_ok-piece.ensures in
    part_of_all _ _ _ (piece_of c.args.writing.now) c.loop-n.n (piece_count c.args.writing.now) (omega (arith, c.loop-n-test.true, c.pieces-n-end.ensures)) c.loop-n.invariant.got
    (subst (λ t. GotPart (g.K.Sink.held c.loop-n.sink) t (g.K.Sink.held c.write_all.new.sink)) same c.in_default.ensures.part)

pub returns-in_default-clause-front : goal.returns-in_default-clause-front
returns-in_default-clause-front g c =
    let same : c.as_bytes.result.now ≡ piece_of c.args.writing.now c.loop-n.n = c.as_bytes.ensures.value ∙ c.as_str.ensures ∙ c.in_ok-piece.ensures in
    part_front _ _ _ (part_of_all _ _ _ (piece_of c.args.writing.now) c.loop-n.n (piece_count c.args.writing.now) (omega (arith, c.loop-n-test.true, c.pieces-n-end.ensures)) c.loop-n.invariant.got
    (subst (λ t. GotPart (g.K.Sink.held c.loop-n.sink) t (g.K.Sink.held c.write_all.new.sink)) same c.in_default.ensures.part))

pub loop-n-preserved : goal.loop-n-preserved
loop-n-preserved g c =
    let same : c.as_bytes.result.now ≡ piece_of c.args.writing.now c.loop-n.n = c.as_bytes.ensures.value ∙ c.as_str.ensures ∙ c.in_ok-piece.ensures in
    let next : suc c.loop-n.n ≡ c.loop-n.n + 1 = omega arith in
    record {
      got = subst (λ m. Got (g.K.Sink.held c.args.sink.now) (lines_of (piece_of c.args.writing.now) m) (g.K.Sink.held c.write_all.new.sink)) next
          (got_then _ _ _ _ _ c.loop-n.invariant.got (subst (λ t. Got (g.K.Sink.held c.loop-n.sink) t (g.K.Sink.held c.write_all.new.sink)) same c.in-Ok.ensures.ok));
      later = omega (arith, c.loop-n.invariant.later, c.write_all.ensures.later);
    }

pub returns-clause-ok : goal.returns-clause-ok
returns-clause-ok g c = all_written _ _ (piece_of c.args.writing.now) c.loop-n.n (piece_count c.args.writing.now) (omega (arith, c.loop-n-test.false, c.loop-n.auto.n-end, c.pieces-n-end.ensures)) c.loop-n.invariant.got
