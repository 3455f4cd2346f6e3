use Rattle.std.proofs.Common.{ap, length, subst, sym}
use Rattle.std.specs.Prelude.{IfOk}
use Rattle.ff_types.specs.Sheets.{sheet_of}
use Rattle.ff_log.specs.Grounds.{sheet_ground}
use Rattle.ff_checker.specs.LogStates.{state_of}
use Rattle.ff_checker.specs.Verdicts.{IsTaken}
use Rattle.ff_checker.proofs.taking.take.Goals as goal

pub returns-in-Force-clause-taken : goal.returns-in-Force-clause-taken
returns-in-Force-clause-taken c =
    let g = sheet_of c.args.pattern.now c.args.faces.now c.args.folded.now in
    subst (λ l. IfOk c.force.result (IsTaken (sheet_ground g c.args.pins.now) (state_of c.args.progress.now) l (state_of c.force.new.self))) (sym c.in-Force.is)
    (c.force.ensures.taken g c.args.pins.now)

pub returns-in-Dead-clause-taken : goal.returns-in-Dead-clause-taken
returns-in-Dead-clause-taken c =
    let g = sheet_of c.args.pattern.now c.args.faces.now c.args.folded.now in
    subst (λ l. IfOk c.dead.result (IsTaken (sheet_ground g c.args.pins.now) (state_of c.args.progress.now) l (state_of c.dead.new.self))) (sym c.in-Dead.is)
    (c.dead.ensures.taken g c.args.pins.now)

pub returns-in-Clash-clause-taken : goal.returns-in-Clash-clause-taken
returns-in-Clash-clause-taken c =
    let g = sheet_of c.args.pattern.now c.args.faces.now c.args.folded.now in
    subst (λ l. IfOk c.clash.result (IsTaken (sheet_ground g c.args.pins.now) (state_of c.args.progress.now) l (state_of c.clash.new.self))) (sym c.in-Clash.is)
    (c.clash.ensures.taken g c.args.pins.now)

pub returns-in-Use-clause-taken : goal.returns-in-Use-clause-taken
returns-in-Use-clause-taken c =
    let g = sheet_of c.args.pattern.now c.args.faces.now c.args.folded.now in
    subst (λ l. IfOk c.take_use.result (IsTaken (sheet_ground g c.args.pins.now) (state_of c.args.progress.now) l (state_of c.take_use.new.progress))) (sym c.in-Use.is)
    (c.take_use.ensures.taken c.args.pins.now)

pub returns-in-Crease-clause-taken : goal.returns-in-Crease-clause-taken
returns-in-Crease-clause-taken c =
    let g = sheet_of c.args.pattern.now c.args.faces.now c.args.folded.now in
    subst (λ l. IfOk c.take_crease.result (IsTaken (sheet_ground g c.args.pins.now) (state_of c.args.progress.now) l (state_of c.take_crease.new.progress))) (sym c.in-Crease.is)
    (c.take_crease.ensures.taken c.args.pins.now)

pub returns-in-Pin-clause-taken : goal.returns-in-Pin-clause-taken
returns-in-Pin-clause-taken c =
    let g = sheet_of c.args.pattern.now c.args.faces.now c.args.folded.now in
    subst (λ l. IfOk c.take_pin.result (IsTaken (sheet_ground g c.args.pins.now) (state_of c.args.progress.now) l (state_of c.take_pin.new.progress))) (sym c.in-Pin.is)
    (c.take_pin.ensures.taken g)

pub returns-in-Try-clause-taken : goal.returns-in-Try-clause-taken
returns-in-Try-clause-taken c =
    let g = sheet_of c.args.pattern.now c.args.faces.now c.args.folded.now in
    subst (λ l. IfOk c.take_try.result (IsTaken (sheet_ground g c.args.pins.now) (state_of c.args.progress.now) l (state_of c.take_try.new.progress))) (sym c.in-Try.is)
    (c.take_try.ensures.taken g c.args.pins.now (sym (ap length c.as_slice.ensures)))
