use Rattle.std.proofs.Common.{ℕ, List, length, ◌<◌, arith, refl, sym, ◌∙◌, subst}
use borrow.Author.Count.{below_more}
use Rattle.std.proofs.lemmas.Bool.{false≢true}
use Rattle.ff_types.specs.Rings.{corner}
use Rattle.ff_types.specs.Faces.{ring_at}
use Rattle.ff_planar.specs.Reflex.{HasReflex}
use Rattle.ff_planar.proofs.RingReads.{read_ring}
use Rattle.ff_planar.proofs.reflex.some_reflex.Goals as goal

pub has_reflex-requires-clause-there : goal.has_reflex-requires-clause-there
has_reflex-requires-clause-there c =
    let e = read_ring c.args.rings.now c.loop-f.f _ _ c.loop-f-test.true c.index-rings-f.is c.as_slice.ensures in
    subst (λ (r : List ℕ). (k : ℕ) → k < length r → corner r k < length c.args.points.now) (sym e) (λ k l. c.requires.there c.loop-f.f k c.loop-f-test.true l)

pub returns-then-has_reflex : goal.returns-then-has_reflex
returns-then-has_reflex c =
    let e = read_ring c.args.rings.now c.loop-f.f _ _ c.loop-f-test.true c.index-rings-f.is c.as_slice.ensures in
    (λ _. (c.loop-f.f, c.loop-f-test.true, subst (λ (r : List ℕ). HasReflex c.args.points.now r c.args.v) e (c.has_reflex.ensures.0 c.if-has_reflex.true)), λ _. refl)

pub loop-f-preserved : goal.loop-f-preserved
loop-f-preserved c =
    let e = read_ring c.args.rings.now c.loop-f.f _ _ c.loop-f-test.true c.index-rings-f.is c.as_slice.ensures in
    below_more (λ k. HasReflex c.args.points.now (ring_at c.args.rings.now k) c.args.v → ⊥) c.loop-f.f c.loop-f.invariant
    (λ h. false≢true (sym c.if-has_reflex.false ∙ c.has_reflex.ensures.1 (subst (λ (r : List ℕ). HasReflex c.args.points.now r c.args.v) (sym e) h)))

pub returns : goal.returns
returns c = (λ h. absurd (false≢true h), λ h. let l = h.1 in absurd (c.loop-f.invariant h.0 (omega (arith, l, c.loop-f-test.false)) h.2))
