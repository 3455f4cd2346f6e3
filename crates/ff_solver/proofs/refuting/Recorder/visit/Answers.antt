use Rattle.std.proofs.Common.{◌≡◌, ℕ, List, Option, Some, length, refl, sym, subst, ap, ◌∙◌, arith}
use Rattle.ff_tables.specs.declared.orders.Order.{Order}
use Rattle.ff_propagate.specs.Trails.{known, AreForced, IsDead}
use Rattle.ff_solver.specs.declared.path.Path.{Path}
use Rattle.ff_solver.specs.Most.{most_of}
use Rattle.ff_solver.specs.Paths.{AreSilent}
use Rattle.ff_solver.specs.Refuting.{IsNoted}
use Rattle.ff_solver.proofs.Fewer.{grown_less}
use Rattle.ff_solver.proofs.Going.{IsClosedOn, if_ok, dead_at, silent_at, mid_path, mid_down, clash_goes, fork_goes, full_never, place_within, place_named}
use Rattle.ff_solver.proofs.refuting.Recorder.visit.Goals as goal

pub note_all-requires-clause-from : goal.note_all-requires-clause-from
note_all-requires-clause-from c = omega (arith, c.len-from.ensures, c.close-dead.ensures.grows.count)

pub note_all-requires-clause-forced : goal.note_all-requires-clause-forced
note_all-requires-clause-forced c = subst (λ (n : ℕ). AreForced c.args.naming.now.own.now.constraints n c.close-dead.new.self) (sym c.len-from.ensures) c.close-dead.ensures.grows.forced

pub close_branch-requires-clause-path : goal.close_branch-requires-clause-path
close_branch-requires-clause-path c = mid_path c.args.naming.now.own.now.vars c.args.naming.now.own.now.constraints c.args.self.now.path c.note_all.new.self.path c.requires.path
    (subst (IsClosedOn c.args.naming.now.own.now.vars c.args.naming.now.own.now.constraints c.args.self.now.path) (sym c.note_all.ensures.path)
    (record { trail = c.close-dead.ensures.trail; grows = c.close-dead.ensures.grows; branches = refl; next = refl }))

pub close_branch-requires-clause-next : goal.close_branch-requires-clause-next
close_branch-requires-clause-next c = (c.args.head, ap (λ (p : Path). p.next) c.note_all.ensures.path ∙ c.requires.next)

pub close_branch-requires-clause-dead : goal.close_branch-requires-clause-dead
close_branch-requires-clause-dead c = subst (λ (p : Path). IsDead c.args.naming.now.own.now.constraints p.trail c.in-Some.number) (sym c.note_all.ensures.path)
    (dead_at c.args.naming.now.own.now.constraints (length c.close-dead.new.self.steps.items) c.close-dead.new.self c.close-dead.result c.in-Some.number c.in-Some.is c.close-dead.ensures.ends)

pub first_open-requires-clause-wide : goal.first_open-requires-clause-wide
first_open-requires-clause-wide c = (mid_path c.args.naming.now.own.now.vars c.args.naming.now.own.now.constraints c.args.self.now.path c.note_all.new.self.path c.requires.path
    (subst (IsClosedOn c.args.naming.now.own.now.vars c.args.naming.now.own.now.constraints c.args.self.now.path) (sym c.note_all.ensures.path)
    (record { trail = c.close-dead.ensures.trail; grows = c.close-dead.ensures.grows; branches = refl; next = refl }))).trail.wide

pub open_branch-requires-clause-path : goal.open_branch-requires-clause-path
open_branch-requires-clause-path c = mid_path c.args.naming.now.own.now.vars c.args.naming.now.own.now.constraints c.args.self.now.path c.note_all.new.self.path c.requires.path
    (subst (IsClosedOn c.args.naming.now.own.now.vars c.args.naming.now.own.now.constraints c.args.self.now.path) (sym c.note_all.ensures.path)
    (record { trail = c.close-dead.ensures.trail; grows = c.close-dead.ensures.grows; branches = refl; next = refl }))

pub open_branch-requires-clause-next : goal.open_branch-requires-clause-next
open_branch-requires-clause-next c = (c.args.head, ap (λ (p : Path). p.next) c.note_all.ensures.path ∙ c.requires.next)

pub open_branch-requires-clause-names : goal.open_branch-requires-clause-names
open_branch-requires-clause-names c = place_named c.args.naming.now c.requires.places c.note_all.new.self.path.trail c.in-Some-first_open.var c.in-Some-first_open.ensures

pub open_branch-requires-clause-var : goal.open_branch-requires-clause-var
open_branch-requires-clause-var c = place_within c.args.naming.now c.requires.places c.note_all.new.self.path.trail c.in-Some-first_open.var c.in-Some-first_open.ensures

pub open_branch-requires-clause-open : goal.open_branch-requires-clause-open
open_branch-requires-clause-open c = ap (known c.note_all.new.self.path.trail) (sym c.in-Some-first_open.ensures.is) ∙ ap (known c.note_all.new.self.path.trail) c.in-Some-first_open.ensures.is ∙ c.in-Some-first_open.ensures.open_yet

pub open_branch-requires-clause-silent : goal.open_branch-requires-clause-silent
open_branch-requires-clause-silent c = subst (λ (p : Path). AreSilent c.args.naming.now.own.now.constraints (known p.trail)) (sym c.note_all.ensures.path)
    (silent_at c.args.naming.now.own.now.constraints c.close-dead.new.self c.close-dead.result c.in-None.is c.close-dead.ensures.ends)

pub returns-in-Some-clause-none : goal.returns-in-Some-clause-none
returns-in-Some-clause-none c = if_ok c.close_branch.result c.close_branch.ensures.left (λ left.
    clash_goes c.args.naming.now.own.now.vars c.args.naming.now.own.now.constraints c.args.self.now.path c.note_all.new.self.path c.requires.path
    (subst (IsClosedOn c.args.naming.now.own.now.vars c.args.naming.now.own.now.constraints c.args.self.now.path) (sym c.note_all.ensures.path)
    (record { trail = c.close-dead.ensures.trail; grows = c.close-dead.ensures.grows; branches = refl; next = refl }))
    c.args.naming.now.places.now c.args.head c.requires.next c.requires.none c.args.naming.now.own.now.fit c.close_branch.new.self.path c.in-Some.number
    (subst (λ (p : Path). IsDead c.args.naming.now.own.now.constraints p.trail c.in-Some.number) (sym c.note_all.ensures.path)
    (dead_at c.args.naming.now.own.now.constraints (length c.close-dead.new.self.steps.items) c.close-dead.new.self c.close-dead.result c.in-Some.number c.in-Some.is c.close-dead.ensures.ends)) left)

pub returns-in-Some-clause-less : goal.returns-in-Some-clause-less
returns-in-Some-clause-less c =
    let l = grown_less c.args.naming.now.own.now.vars c.args.self.now.path
    (record { trail = c.close-dead.new.self; branches = c.args.self.now.path.branches; next = c.args.self.now.path.next }) c.args.head c.close-dead.ensures.grows.count refl refl c.requires.next in
    let e = ap (λ (p : Path). most_of c.args.naming.now.own.now.vars p) c.note_all.ensures.path in
    if_ok c.close_branch.result c.close_branch.ensures.less (λ less. omega (arith, l, e, less))

pub returns-in-Some-clause-noted : goal.returns-in-Some-clause-noted
returns-in-Some-clause-noted c = if_ok c.close_branch.result c.close_branch.ensures.noted (λ noted value down. noted value
    (mid_down c.args.naming.now.own.now.vars c.args.naming.now.own.now.constraints c.args.self.now.path c.note_all.new.self.path c.requires.path
    (subst (IsClosedOn c.args.naming.now.own.now.vars c.args.naming.now.own.now.constraints c.args.self.now.path) (sym c.note_all.ensures.path)
    (record { trail = c.close-dead.ensures.trail; grows = c.close-dead.ensures.grows; branches = refl; next = refl }))
    c.args.naming.now value c.args.self.now.steps.items c.note_all.new.self.steps.items c.len-from.result c.len-from.ensures
    (subst (λ (p : Path). (stack : List (List (ℕ × Order))) → IsNoted c.args.naming.now value p.trail stack c.args.self.now.steps.items c.len-from.result
    → IsNoted c.args.naming.now value p.trail stack c.note_all.new.self.steps.items (length p.trail.steps.items)) (sym c.note_all.ensures.path)
    (c.in_ok-note_all.ensures.noted value)) down))

pub returns-in-Some-first_open-clause-none : goal.returns-in-Some-first_open-clause-none
returns-in-Some-first_open-clause-none c = if_ok c.open_branch.result c.open_branch.ensures.left (λ left.
    fork_goes c.args.naming.now.own.now.vars c.args.naming.now.own.now.constraints c.args.self.now.path c.note_all.new.self.path c.requires.path
    (subst (IsClosedOn c.args.naming.now.own.now.vars c.args.naming.now.own.now.constraints c.args.self.now.path) (sym c.note_all.ensures.path)
    (record { trail = c.close-dead.ensures.trail; grows = c.close-dead.ensures.grows; branches = refl; next = refl }))
    c.args.naming.now.places.now c.args.head c.requires.next c.requires.none c.open_branch.new.self.path c.in-Some-first_open.var
    (subst (λ (p : Path). AreSilent c.args.naming.now.own.now.constraints (known p.trail)) (sym c.note_all.ensures.path)
    (silent_at c.args.naming.now.own.now.constraints c.close-dead.new.self c.close-dead.result c.in-None.is c.close-dead.ensures.ends)) c.in-Some-first_open.ensures left)

pub returns-in-Some-first_open-clause-less : goal.returns-in-Some-first_open-clause-less
returns-in-Some-first_open-clause-less c =
    let l = grown_less c.args.naming.now.own.now.vars c.args.self.now.path
    (record { trail = c.close-dead.new.self; branches = c.args.self.now.path.branches; next = c.args.self.now.path.next }) c.args.head c.close-dead.ensures.grows.count refl refl c.requires.next in
    let e = ap (λ (p : Path). most_of c.args.naming.now.own.now.vars p) c.note_all.ensures.path in
    if_ok c.open_branch.result c.open_branch.ensures.less (λ less. omega (arith, l, e, less))

pub returns-in-Some-first_open-clause-noted : goal.returns-in-Some-first_open-clause-noted
returns-in-Some-first_open-clause-noted c = if_ok c.open_branch.result c.open_branch.ensures.noted (λ noted value down. noted value
    (mid_down c.args.naming.now.own.now.vars c.args.naming.now.own.now.constraints c.args.self.now.path c.note_all.new.self.path c.requires.path
    (subst (IsClosedOn c.args.naming.now.own.now.vars c.args.naming.now.own.now.constraints c.args.self.now.path) (sym c.note_all.ensures.path)
    (record { trail = c.close-dead.ensures.trail; grows = c.close-dead.ensures.grows; branches = refl; next = refl }))
    c.args.naming.now value c.args.self.now.steps.items c.note_all.new.self.steps.items c.len-from.result c.len-from.ensures
    (subst (λ (p : Path). (stack : List (List (ℕ × Order))) → IsNoted c.args.naming.now value p.trail stack c.args.self.now.steps.items c.len-from.result
    → IsNoted c.args.naming.now value p.trail stack c.note_all.new.self.steps.items (length p.trail.steps.items)) (sym c.note_all.ensures.path)
    (c.in_ok-note_all.ensures.noted value)) down))

pub unreachable-requires : goal.unreachable-requires
unreachable-requires c = full_never c.args.naming.now.own.now.vars c.args.naming.now.own.now.constraints c.args.self.now.path c.note_all.new.self.path c.requires.path
    (subst (IsClosedOn c.args.naming.now.own.now.vars c.args.naming.now.own.now.constraints c.args.self.now.path) (sym c.note_all.ensures.path)
    (record { trail = c.close-dead.ensures.trail; grows = c.close-dead.ensures.grows; branches = refl; next = refl }))
    c.args.naming.now.places.now c.args.head c.requires.next c.requires.none
    (subst (λ (p : Path). AreSilent c.args.naming.now.own.now.constraints (known p.trail)) (sym c.note_all.ensures.path)
    (silent_at c.args.naming.now.own.now.constraints c.close-dead.new.self c.close-dead.result c.in-None.is c.close-dead.ensures.ends)) c.in-None-first_open.ensures
