use Rattle.std.proofs.Common.{◌≡◌, ℕ, Some, slice_get, subst, sym}
use Rattle.std.proofs.lemmas.Bool.Decides.{Decides-eqb}
use Rattle.std.proofs.lemmas.List.Elements.{contains_decides}
use Rattle.ff_orders.specs.Given.{AreFirstNumbers, WhyNoNumbers}
use Rattle.ff_orders.proofs.GivenFaces.{bad_again, bad_none, one_more, stands, stands_not}
use Rattle.ff_orders.proofs.rings.push_number.Goals as goal

pub returns-in_default : goal.returns-in_default
returns-in_default c = subst (WhyNoNumbers c.args.rings.now c.args.given.now) (sym c.bad_faces.ensures)
    (bad_none c.args.rings.now c.args.given.now c.args.i c.args.numbers.now c.requires.numbers c.requires.within c.in_default.ensures)

pub returns-then-contains : goal.returns-then-contains
returns-then-contains c = subst (WhyNoNumbers c.args.rings.now c.args.given.now) (sym c.bad_faces-then-contains.ensures)
    (bad_again c.args.rings.now c.args.given.now c.args.i c.args.numbers.now c.requires.numbers c.in-Some.f c.in-Some.ensures c.requires.within
    (subst (λ xs. (k : ℕ) × (slice_get xs k ≡ Some c.in-Some.f)) c.as_slice.ensures
    (stands c.as_slice.result.now c.in-Some.f c.contains.result (contains_decides _ Decides-eqb c.as_slice.result.now c.in-Some.f c.contains.result c.contains.ensures.cases) c.if-contains.true)))

pub returns : goal.returns
returns c = subst (AreFirstNumbers c.args.rings.now c.args.given.now _) (sym c.in_ok-push.ensures.pushed)
    (one_more c.args.rings.now c.args.given.now c.args.i c.args.numbers.now c.requires.numbers c.in-Some.f c.in-Some.ensures
    (subst (λ xs. (k : ℕ) → slice_get xs k ≡ Some c.in-Some.f → ⊥) c.as_slice.ensures
    (stands_not c.as_slice.result.now c.in-Some.f c.contains.result (contains_decides _ Decides-eqb c.as_slice.result.now c.in-Some.f c.contains.result c.contains.ensures.cases) c.if-contains.false)))
