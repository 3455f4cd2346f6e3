use Rattle.std.proofs.Common.{refl, subst, arith, length, []}
use Rattle.std.specs.Prelude.{slice_index_or}
use Rattle.std.proofs.lemmas.Option.{slice_get-get_or}
use Rattle.ff_types.specs.declared.cites.Cite.TheVariants.{Transitivity}
use Rattle.ff_log.specs.declared.logs.LogLine.TheVariants.{Use}
use Rattle.ff_types.specs.Sheets.{sheet_of}
use Rattle.ff_log.specs.declared.logs.LogLine.{LogLine}
use Rattle.ff_log.specs.Grounds.{sheet_ground}
use Rattle.ff_log.specs.Logs.{Closes}
use Rattle.ff_checker.specs.Verdicts.{IsFirstBad, IsTaken}
use Rattle.ff_checker.specs.declared.verdicts.WhyNot.TheVariants.{OpenBranch}
use Rattle.ff_checker.specs.LogStates.{state_of}
use Rattle.ff_checker.proofs.Goings.{going_on, bad_line, all_taken, left_open}
use Rattle.ff_checker.proofs.SheetLaw.{refutes}
use Rattle.ff_checker.proofs.checking.check.Goals as goal

abbrev no_line : LogLine
no_line = Use (Transitivity 0 0 0 [])

pub returns-in-Some-clause-verdict : goal.returns-in-Some-clause-verdict
returns-in-Some-clause-verdict c =
    let g = sheet_of c.args.pattern.now c.args.faces.now c.args.folded.now in
    let pins = c.args.pins.now in
    let ls = c.as_slice-lines.result.now in
    let i = c.loop-i.i in
    let l = slice_index_or ls i no_line in
    let was = state_of c.loop-i.progress in
    let later = state_of c.take.new.progress in
    let t = subst (λ o. IsTaken (sheet_ground g pins) was l later o) c.in-Some.is
    (subst (λ ps. IsTaken (sheet_ground g ps) was l later c.in_ok-why.field-0) c.as_slice.ensures c.in_ok-why.ensures.taken) in
    subst (λ xs. IsFirstBad (sheet_ground g pins) xs i c.in-Some.why) c.as_slice-lines.ensures
    (bad_line g pins ls i c.loop-i.progress l c.in-Some.why c.loop-i.invariant c.loop-i-test.true
    (slice_get-get_or ls i no_line c.loop-i-test.true) c.if-progress.false t.0 t.1)

pub loop-i-preserved : goal.loop-i-preserved
loop-i-preserved c =
    let g = sheet_of c.args.pattern.now c.args.faces.now c.args.folded.now in
    let pins = c.args.pins.now in
    let ls = c.as_slice-lines.result.now in
    let i = c.loop-i.i in
    let l = slice_index_or ls i no_line in
    let was = state_of c.loop-i.progress in
    let later = state_of c.take.new.progress in
    let t = subst (λ o. IsTaken (sheet_ground g pins) was l later o) c.in_default.is
    (subst (λ ps. IsTaken (sheet_ground g ps) was l later c.in_ok-why.field-0) c.as_slice.ensures c.in_ok-why.ensures.taken) in
    going_on g pins ls i c.loop-i.progress c.take.new.progress l c.loop-i.invariant (slice_get-get_or ls i no_line c.loop-i-test.true) c.if-progress.false t
    c.in_ok-why.ensures.progress c.in_ok-why.ensures.side

pub returns-clause-sound : goal.returns-clause-sound
returns-clause-sound c = λ e.
    let g = sheet_of c.args.pattern.now c.args.faces.now c.args.folded.now in
    refutes c.requires.folded c.args.pins.now c.as_slice-lines.result.now
    (all_taken g c.args.pins.now c.as_slice-lines.result.now c.loop-i.i c.loop-i.progress c.loop-i.invariant
    (omega (arith, c.loop-i-test.false, c.loop-i.auto.i-end)) c.if-not-progress.false)

pub returns-clause-verdict : goal.returns-clause-verdict
returns-clause-verdict c =
    let g = sheet_of c.args.pattern.now c.args.faces.now c.args.folded.now in
    subst (λ xs. Closes (sheet_ground g c.args.pins.now) xs) c.as_slice-lines.ensures
    (all_taken g c.args.pins.now c.as_slice-lines.result.now c.loop-i.i c.loop-i.progress c.loop-i.invariant
    (omega (arith, c.loop-i-test.false, c.loop-i.auto.i-end)) c.if-not-progress.false)

pub returns-then-not-progress-clause-verdict : goal.returns-then-not-progress-clause-verdict
returns-then-not-progress-clause-verdict c =
    let g = sheet_of c.args.pattern.now c.args.faces.now c.args.folded.now in
    subst (λ xs. IsFirstBad (sheet_ground g c.args.pins.now) xs (length c.as_slice-lines.result.now) OpenBranch) c.as_slice-lines.ensures
    (left_open g c.args.pins.now c.as_slice-lines.result.now c.loop-i.i (length c.as_slice-lines.result.now) c.loop-i.progress c.loop-i.invariant
    (omega (arith, c.loop-i-test.false, c.loop-i.auto.i-end)) refl c.if-not-progress.true)
