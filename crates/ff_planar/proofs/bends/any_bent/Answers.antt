use Rattle.std.proofs.Common.{ℕ, List, length, ◌<◌, arith, sym, subst}
use borrow.Author.Count.{below_more}
use Rattle.ff_types.specs.Rings.{corner}
use Rattle.ff_types.specs.Faces.{ring_at}
use Rattle.ff_planar.specs.Reflex.{IsUnbent}
use Rattle.ff_planar.proofs.RingReads.{read_ring}
use Rattle.ff_planar.proofs.bends.any_bent.Goals as goal

pub is_bent-requires-clause-there : goal.is_bent-requires-clause-there
is_bent-requires-clause-there c =
    let e = read_ring c.args.rings.now c.loop-f.f _ _ c.loop-f-test.true c.index-rings-f.is c.as_slice.ensures in
    subst (λ (r : List ℕ). (k : ℕ) → k < length r → corner r k < length c.args.points.now) (sym e) (λ k l. c.requires.there c.loop-f.f k c.loop-f-test.true l)

pub loop-f-preserved : goal.loop-f-preserved
loop-f-preserved c =
    let e = read_ring c.args.rings.now c.loop-f.f _ _ c.loop-f-test.true c.index-rings-f.is c.as_slice.ensures in (
      c.is_bent.ensures.marked,
      below_more (λ k. IsUnbent c.args.points.now (ring_at c.args.rings.now k) (length (ring_at c.args.rings.now k))) c.loop-f.f c.loop-f.invariant.1
          (subst (λ (r : List ℕ). IsUnbent c.args.points.now r (length r)) e (c.in_ok-is_bent.ensures.bent c.if-branch.false)),
    )

pub returns : goal.returns
returns c = λ _ f l. c.loop-f.invariant.1 f (omega (arith, l, c.loop-f-test.false))
