use Rattle.std.proofs.Common.{◌≡◌, ◌∙◌, OnOk, filter, sym, ap, subst, refl}
use mir.Syntax.{w64}
use mir.Val.{to_z, of_z}
use Rattle.std.proofs.lemmas.Int.{to_z-of_z}
use Rattle.std.proofs.lemmas.Result.{on_ok_weaker}
use Rattle.ff_cells.specs.declared.active.Active.{Active}
use Rattle.ff_cells.specs.Reached.{AreActive, IsReached, lasts}
use Rattle.ff_cells.proofs.Reached.{lasting_on, at_end, spanning}
use Rattle.ff_cells.proofs.reaching.enter.Goals as goal

pub reach-requires : goal.reach-requires
reach-requires c =
    let bars = c.args.bars.now in
    let old = c.args.active.now in
    let new : Active = record { bars = c.keep_lasting.new.v; reached = old.reached } in
    let a = to_z-of_z w64 c.args.a c.ranges.a in
    let z = to_z-of_z w64 c.args.c c.ranges.c in
    let is = subst (λ t. new.bars.items ≡ filter (lasts t) old.bars.items) z
    c.keep_lasting.ensures in
    subst (λ t. AreActive bars t (to_z w64 (of_z w64 c.args.c)) new) (sym a)
    (subst (λ t. AreActive bars c.args.a t new) (sym z)
    (lasting_on bars c.args.a c.args.c old new c.requires.rising c.requires.so_far refl is))

unwrapped : (c : goal.After-reach) → OnOk c.reach.result (AreActive c.args.bars.now c.args.a c.args.c
    c.reach.new.active × IsReached c.args.bars.now c.args.a c.reach.new.active.reached)
unwrapped c =
    let bars = c.args.bars.now in
    let new = c.reach.new.active in
    subst (λ a. OnOk c.reach.result (AreActive bars a c.args.c new × IsReached bars a new.reached))
    (to_z-of_z w64 c.args.a c.ranges.a) (subst (λ z. OnOk c.reach.result
    (AreActive bars (to_z w64 (of_z w64 c.args.a)) z new
    × IsReached bars (to_z w64 (of_z w64 c.args.a)) new.reached))
    (to_z-of_z w64 c.args.c c.ranges.c) c.reach.ensures)

pub returns-clause-kept : goal.returns-clause-kept
returns-clause-kept c =
    on_ok_weaker c.reach.result (λ h. at_end c.args.bars.now c.args.a c.args.c c.reach.new.active
    c.requires.rising h.0) (unwrapped c)

pub returns-clause-spanning : goal.returns-clause-spanning
returns-clause-spanning c =
    on_ok_weaker c.reach.result (λ h. spanning c.args.bars.now c.args.a c.args.c c.reach.new.active
    c.requires.from_left h.0 h.1) (unwrapped c)
