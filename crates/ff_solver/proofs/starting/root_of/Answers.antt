use Rattle.std.proofs.Common.{◌≡◌, ℕ, ap, arith, length, refl, subst, sym, ◌∙◌, List}
use Rattle.ff_tables.specs.declared.terms.Constraint.{Constraint}
use Rattle.ff_propagate.specs.Trails.{IsTrail}
use Rattle.ff_propagate.specs.Uses.{AreUses}
use Rattle.ff_propagate.specs.Facts.{value_at}
use Rattle.ff_solver.specs.Copies.{AreCopied, AreOwnNumbers}
use Rattle.ff_solver.proofs.Copies.{part_few, touching_few, made_fit}
use Rattle.ff_solver.proofs.Started.{made_root}
use Rattle.ff_solver.proofs.starting.root_of.Goals as goal

pub names_of-requires-clause-few : goal.names_of-requires-clause-few
names_of-requires-clause-few c =
    let few = part_few c.args.case.now.system.vars c.args.case.now.system.constraints (value_at c.args.facts.now) c.args.part.now.vars c.requires.part in
    omega (arith, few, ap length c.as_slice-own_vars.ensures)

pub new-requires-clause-fit : goal.new-requires-clause-fit
new-requires-clause-fit c = made_fit c.args.case.now.system.vars c.len-vars.result c.args.case.now.system.constraints
    c.in_ok-constraints.constraints.items c.as_slice-2.result.now c.args.part.now.touching c.args.part.now.vars c.copy_all.new.self.list.items
    (length c.args.part.now.touching) c.args.case.now.system.fit
    (subst (λ (cons : List Constraint). AreCopied cons c.args.part.now.touching c.args.part.now.vars c.copy_all.new.self.list.items c.in_ok-constraints.constraints.items (length c.args.part.now.touching))
    c.as_slice.ensures c.in_ok-constraints.ensures.copied)
    c.as_slice-2.ensures.value (omega (arith, c.len-vars.ensures))

pub new-requires-clause-few : goal.new-requires-clause-few
new-requires-clause-few c =
    let few = touching_few c.args.case.now.system.constraints c.args.part.now.vars c.args.part.now.touching c.requires.touching in
    omega (arith, few, c.requires.few, ap length c.as_slice-2.ensures.value, c.in_ok-constraints.ensures.copied.as_many)

pub invariant_of-result : goal.invariant_of-result
invariant_of-result c = record {
  fit = made_fit c.args.case.now.system.vars c.len-vars.result c.args.case.now.system.constraints
      c.in_ok-constraints.constraints.items c.of-2.result c.args.part.now.touching c.args.part.now.vars c.copy_all.new.self.list.items
      (length c.args.part.now.touching) c.args.case.now.system.fit
      (subst (λ (cons : List Constraint). AreCopied cons c.args.part.now.touching c.args.part.now.vars c.copy_all.new.self.list.items c.in_ok-constraints.constraints.items (length c.args.part.now.touching))
      c.as_slice.ensures c.in_ok-constraints.ensures.copied)
      c.of-2.ensures (omega (arith, c.len-vars.ensures));
}

pub returns : goal.returns
returns c =
    let few = touching_few c.args.case.now.system.constraints c.args.part.now.vars c.args.part.now.touching c.requires.touching in
    let long : c.len-vars.result ≡ length c.copy_all.new.self.list.items = omega (arith, c.len-vars.ensures) in
    made_root c.args.case.now.system.constraints c.args.facts.now c.args.part.now.vars c.args.part.now.touching c.copy_all.new.self _ _ _ _ (record {
      few = omega (arith, few, c.requires.few, ap length c.of-2.ensures, c.in_ok-constraints.ensures.copied.as_many);
      vars_are = long;
      named = c.in_ok-constraints.ensures.named;
      copied = subst (λ (own : List Constraint). AreCopied c.args.case.now.system.constraints c.args.part.now.touching c.args.part.now.vars c.copy_all.new.self.list.items own (length c.args.part.now.touching)) (sym c.of-2.ensures)
          (subst (λ (cons : List Constraint). AreCopied cons c.args.part.now.touching c.args.part.now.vars c.copy_all.new.self.list.items c.in_ok-constraints.constraints.items (length c.args.part.now.touching))
          c.as_slice.ensures c.in_ok-constraints.ensures.copied);
      touching_are = c.requires.touching;
      places_are = subst (λ places. AreOwnNumbers places (length c.args.part.now.vars)) (sym c.of-3.ensures)
          (subst (λ n. AreOwnNumbers c.in_ok-places.places.items n) (ap length c.as_slice-own_vars.ensures) c.in_ok-places.ensures);
      uses_are = subst (λ (cons : List Constraint). AreUses c.len-vars.result cons c.in_ok-uses.uses) (c.as_slice-2.ensures.value ∙ sym c.of-2.ensures) c.in_ok-uses.ensures;
      next = refl;
      branches = c.in_ok-branches.ensures.items;
      branches_room = c.in_ok-branches.ensures.capacity;
      trail = subst (λ (n : ℕ). IsTrail n c.in_ok-trail.trail)
          (c.in_ok-constraints.ensures.named.as_many ∙ sym long) c.in_ok-trail.ensures.trail;
      none = c.in_ok-trail.ensures.none;
      values = c.in_ok-trail.ensures.values;
    })
