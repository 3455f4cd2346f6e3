use Rattle.std.proofs.Common.{◌<◌, ◌∙◌, ◌∷◌, ◌++◌, [], length, refl, sym, ap, subst}
use Rattle.ff_refute.specs.Trimming.{IsKeptOf}
use Rattle.ff_refute.proofs.Stepping.{by_there}
use Rattle.ff_refute.proofs.Trimmed.{kept_dead, kept_set, kept_fork}
use Rattle.ff_refute.proofs.Rested.{lean_more, lean_set, lean_fork}
use Rattle.ff_refute.proofs.trimming.keep.Goals as goal

pub dead-requires : goal.dead-requires
dead-requires c = record { by = by_there (λ k. k < length c.args.system.now.constraints) c.args.step _ c.in-Dead.by c.in-Dead.is refl c.requires.there }

pub set-requires : goal.set-requires
set-requires c = record { by = by_there (λ k. k < length c.args.system.now.constraints) c.args.step _ c.in-Set.by c.in-Set.is refl c.requires.there }

pub returns-in_ok-push-in-Dead-clause-kept : goal.returns-in_ok-push-in-Dead-clause-kept
returns-in_ok-push-in-Dead-clause-kept c steps kept =
    subst (λ q. IsKeptOf c.args.system.now.vars c.args.system.now.constraints (q ∷ steps) c.push.new.self.items) (sym c.in-Dead.is)
    (kept_dead c.args.system.now.vars c.args.system.now.constraints steps c.args.kept.now.items c.push.new.self.items c.in_ok-dead-in-Dead.field-0
    c.in-Dead.by c.in_ok-push-in-Dead.ensures.items c.in_ok-dead-in-Dead.ensures.enough kept)

pub returns-in_ok-push-in-Set-clause-kept : goal.returns-in_ok-push-in-Set-clause-kept
returns-in_ok-push-in-Set-clause-kept c steps kept =
    subst (λ q. IsKeptOf c.args.system.now.vars c.args.system.now.constraints (q ∷ steps) c.push-in-Some.new.self.items) (sym c.in-Set.is)
    (kept_set c.args.system.now.vars c.args.system.now.constraints steps c.args.kept.now.items c.pop.new.self.items c.push-in-Some.new.self.items
    c.in-Some.last c.in_ok-set-in-Set.field-0 c.in-Set.var c.in-Set.value c.in-Set.by
    c.in-Some.ensures.items
    c.in_ok-push-in-Set.ensures.items c.in_ok-set-in-Set.ensures.enough kept)

pub returns-in_ok-push-in-Try-clause-kept : goal.returns-in_ok-push-in-Try-clause-kept
returns-in_ok-push-in-Try-clause-kept c steps kept =
    subst (λ q. IsKeptOf c.args.system.now.vars c.args.system.now.constraints (q ∷ steps) c.push-in-Some-pop-2.new.self.items) (sym c.in-Try.is)
    (kept_fork c.args.system.now.vars c.args.system.now.constraints steps c.args.kept.now.items c.pop-in-Some-pop.new.self.items
    c.push-in-Some-pop-2.new.self.items c.in-Some-pop.below c.in-Some-pop-2.above c.in_ok-fork-in-Try.field-0 c.in-Try.var
    (c.in-Some-pop.ensures.items ∙ ap (λ xs. xs ++ c.in-Some-pop.below ∷ []) c.in-Some-pop-2.ensures.items)
    c.in_ok-push-in-Try.ensures.items (c.in_ok-fork-in-Try.ensures.enough c.args.system.now.vars c.args.system.now.constraints) kept)

pub returns-in_ok-push-in-Dead-clause-lean : goal.returns-in_ok-push-in-Dead-clause-lean
returns-in_ok-push-in-Dead-clause-lean c lean = lean_more c.args.system.now.constraints c.args.kept.now.items c.push.new.self.items
    c.in_ok-dead-in-Dead.field-0 c.in_ok-push-in-Dead.ensures.items c.in_ok-dead-in-Dead.ensures.lean lean

pub returns-in_ok-push-in-Set-clause-lean : goal.returns-in_ok-push-in-Set-clause-lean
returns-in_ok-push-in-Set-clause-lean c lean = lean_set c.args.system.now.constraints c.args.kept.now.items c.pop.new.self.items c.push-in-Some.new.self.items
    c.in-Some.last c.in_ok-set-in-Set.field-0 c.in-Some.ensures.items c.in_ok-push-in-Set.ensures.items c.in_ok-set-in-Set.ensures.lean lean

pub returns-in_ok-push-in-Try-clause-lean : goal.returns-in_ok-push-in-Try-clause-lean
returns-in_ok-push-in-Try-clause-lean c lean = lean_fork c.args.system.now.constraints c.args.kept.now.items c.pop-in-Try.new.self.items
    c.pop-in-Some-pop.new.self.items c.push-in-Some-pop-2.new.self.items c.in-Some-pop.below c.in-Some-pop-2.above c.in_ok-fork-in-Try.field-0
    c.in-Some-pop.ensures.items c.in-Some-pop-2.ensures.items c.in_ok-push-in-Try.ensures.items
    (c.in_ok-fork-in-Try.ensures.lean c.args.system.now.constraints) lean
