use Rattle.std.proofs.Common.{◌≡◌, sym, subst, refl, filter}
use mir.Syntax.{w64}
use mir.Val.{to_z, of_z}
use Rattle.std.proofs.lemmas.Int.{to_z-of_z}
use Rattle.std.proofs.lemmas.Result.{on_ok_weaker, IfErr-weaker}
use Rattle.std.specs.List.Sorted.{IsPermutation}
use Rattle.ff_cells.specs.Strip.{spans_strip, at_x}
use Rattle.ff_cells.specs.Reached.{AreActive}
use Rattle.ff_cells.proofs.Reached.{active_moved}
use Rattle.ff_cells.proofs.Sweeping.{between_same, stopped_between}
use Rattle.ff_cells.proofs.sweep.between.Goals as goal

pub returns-clause-done : goal.returns-clause-done
returns-clause-done c =
    let bars = c.args.bars.now in
    let a = to_z-of_z w64 c.args.a c.ranges.a in
    let z = to_z-of_z w64 c.args.c c.ranges.c in
    on_ok_weaker c.strip.result (λ s. between_same bars c.args.a c.args.c c.enter.new.active.bars.items
    c.args.found.now c.strip.new.found c.border_at.result.place c.border_at-2.result.place
    (subst (λ t. c.border_at.result.place ≡ at_x t) a c.border_at.ensures)
    (subst (λ t. c.border_at-2.result.place ≡ at_x t) z c.border_at-2.ensures)
    (subst (λ t. IsPermutation (filter (spans_strip t c.args.c) bars) c.enter.new.active.bars.items) a
    (subst (λ t. IsPermutation (filter (spans_strip (to_z w64 (of_z w64 c.args.a)) t) bars)
    c.enter.new.active.bars.items) z c.in_ok-enter.ensures.spanning)) s) c.strip.ensures.done

pub returns-clause-kept : goal.returns-clause-kept
returns-clause-kept c =
    let bars = c.args.bars.now in
    let z = to_z-of_z w64 c.args.c c.ranges.c in
    on_ok_weaker c.strip.result (λ s. active_moved bars c.args.c c.args.c c.enter.new.active _ refl
    c.strip.ensures.same (subst (λ t. AreActive bars t t c.enter.new.active) z c.in_ok-enter.ensures.kept))
    c.strip.ensures.done

pub returns-clause-stopped : goal.returns-clause-stopped
returns-clause-stopped c =
    let bars = c.args.bars.now in
    let a = to_z-of_z w64 c.args.a c.ranges.a in
    let z = to_z-of_z w64 c.args.c c.ranges.c in
    IfErr-weaker c.strip.result _ _ (λ why s. stopped_between bars c.args.a c.args.c
    c.enter.new.active.bars.items c.border_at.result.place c.border_at-2.result.place c.args.found.now why
    (subst (λ t. c.border_at.result.place ≡ at_x t) a c.border_at.ensures)
    (subst (λ t. c.border_at-2.result.place ≡ at_x t) z c.border_at-2.ensures)
    (subst (λ t. IsPermutation (filter (spans_strip t c.args.c) bars) c.enter.new.active.bars.items) a
    (subst (λ t. IsPermutation (filter (spans_strip (to_z w64 (of_z w64 c.args.a)) t) bars)
    c.enter.new.active.bars.items) z c.in_ok-enter.ensures.spanning)) s) c.strip.ensures.stopped
