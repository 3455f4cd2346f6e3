use Rattle.std.proofs.Common.{◌≡◌, ◌+◌, ◌≤◌, ℕ, length, List, Some, sym, subst, slice_get, slice_index}
use Rattle.ff_tables.specs.declared.terms.Constraint.{Constraint}
use Rattle.ff_solver.specs.Copies.{AreNamed, IsCopied, AreCopied}
use Rattle.ff_solver.proofs.Copies.{con_read, number_below, copies_more}
use Rattle.ff_solver.proofs.copying.Names.copy_all.Goals as goal

pub bounds-constraints-numbers : goal.bounds-constraints-numbers
bounds-constraints-numbers c = number_below c.args.constraints.now c.args.part.now.vars c.args.part.now.touching
    c.as_slice-numbers.result.now c.requires.touching c.as_slice-numbers.ensures c.loop-k.k c.loop-k-test.true

pub copied-requires-clause-within : goal.copied-requires-clause-within
copied-requires-clause-within c = (c.requires.fit (slice_index c.as_slice-numbers.result.now c.loop-k.k) c.index-constraints-numbers.result
    (con_read c.args.constraints.now _ c.index-constraints-numbers.result
    (number_below c.args.constraints.now c.args.part.now.vars c.args.part.now.touching c.as_slice-numbers.result.now
    c.requires.touching c.as_slice-numbers.ensures c.loop-k.k c.loop-k-test.true) c.index-constraints-numbers.is)).within

pub loop-k-preserved : goal.loop-k-preserved
loop-k-preserved c = record {
  named = subst (λ (part : List ℕ). AreNamed c.args.facts.now part c.copied.new.self) c.as_slice-vars.ensures c.in_ok-copied.ensures.named;
  copied = subst (λ (own : List Constraint). AreCopied c.args.constraints.now c.args.part.now.touching c.args.part.now.vars c.copied.new.self.list.items own (c.loop-k.k + 1))
      (sym c.push_reserved.ensures.items)
      (copies_more c.args.constraints.now c.loop-k.own.items c.args.part.now.touching c.args.part.now.vars
      c.loop-k.self.list.items c.copied.new.self.list.items c.index-constraints-numbers.result c.in_ok-copied.field-0 c.loop-k.k
      c.loop-k.invariant.copied c.in_ok-copied.ensures.longer
      (subst (λ (ns : List ℕ). slice_get c.args.constraints.now (slice_index ns c.loop-k.k) ≡ Some c.index-constraints-numbers.result) c.as_slice-numbers.ensures
      (con_read c.args.constraints.now _ c.index-constraints-numbers.result
      (number_below c.args.constraints.now c.args.part.now.vars c.args.part.now.touching c.as_slice-numbers.result.now
      c.requires.touching c.as_slice-numbers.ensures c.loop-k.k c.loop-k-test.true) c.index-constraints-numbers.is))
      (subst (λ (part : List ℕ). IsCopied part c.copied.new.self.list.items c.index-constraints-numbers.result c.in_ok-copied.field-0) c.as_slice-vars.ensures c.in_ok-copied.ensures.copied));
  room = subst (λ (n : ℕ). length c.args.part.now.touching ≤ n) (sym c.push_reserved.ensures.capacity) c.loop-k.invariant.room;
}
