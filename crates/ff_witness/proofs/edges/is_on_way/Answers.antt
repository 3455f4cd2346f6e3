use Rattle.std.proofs.Common.{◌∙◌, sym, subst, ap, pos, ◌<ℤ◌, Bool, true, false, not, IsTrue, refl}
use Rattle.std.proofs.lemmas.Bool.{false≢true}
use Rattle.ff_whole.specs.Places.{height}
use Rattle.ff_witness.proofs.OnEdges.{across_past, on_way_if, on_way_after, on_way_before}
use Rattle.ff_witness.proofs.edges.is_on_way.Goals as goal

pub returns-then-is_right-2 : goal.returns-then-is_right-2
returns-then-is_right-2 c = (
  (λ t. absurd (false≢true t)),
  (λ t. absurd (on_way_after c.args.p c.args.q c.args.place t
      (subst (λ z. z <ℤ pos 0) (ap (λ l. height l c.args.place) c.across.ensures.value ∙ across_past c.args.p c.args.q c.args.place)
      (c.is_right-2.ensures.0 c.if-is_right-2.true)))),
)

never : (b : Bool) → IsTrue (not b) → IsTrue b → ⊥
never true h k = false≢true h
never false h k = false≢true k

not_from : (b : Bool) → (IsTrue b → ⊥) → IsTrue (not b)
not_from true h = absurd (h refl)
not_from false _ = refl

pub returns : goal.returns
returns c =
    let p = c.args.p in
    let q = c.args.q in
    let s = c.args.place in
    let first = ap (λ l. height l s) c.across.ensures.value ∙ across_past p q s in
    let second = ap (λ l. height l s) c.across-2.ensures.value ∙ across_past q p s in
    let line = ap (λ l. height l s) c.through-line.ensures.value in (
      (λ t. on_way_if p q s
          (λ l. false≢true (sym c.if-is_left.false ∙ c.is_left.ensures.1 (subst (λ z. pos 0 <ℤ z) (sym line) l)))
          (λ l. false≢true (sym c.if-is_right.false ∙ c.is_right.ensures.1 (subst (λ z. z <ℤ pos 0) (sym line) l)))
          (λ l. false≢true (sym c.if-is_right-2.false ∙ c.is_right-2.ensures.1 (subst (λ z. z <ℤ pos 0) (sym first) l)))
          (λ l. never c.is_right-3.result t (c.is_right-3.ensures.1 (subst (λ z. z <ℤ pos 0) (sym second) l)))),
      (λ t. not_from c.is_right-3.result (λ r. on_way_before p q s t (subst (λ z. z <ℤ pos 0) second (c.is_right-3.ensures.0 r)))),
    )
