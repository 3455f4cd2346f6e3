-- A part has one decision tree.
use Rattle.std.proofs.Common.{◌≡◌, ℕ, ◌<◌, inl, inr, List, ◌∷◌, length, get_or, slice_index, refl, sym, ap, ◌∙◌, subst, arith}
use Rattle.std.proofs.lemmas.Bool.{cases_order}
use Rattle.std.proofs.lemmas.List.{ext_get_or}
use Rattle.ff_tables.specs.declared.orders.Order.{Order}
use Rattle.ff_tables.specs.declared.orders.Order.TheVariants.{Below, Above}
use Rattle.ff_tables.specs.declared.terms.Constraint.{Constraint}
use Rattle.ff_propagate.specs.Trees.{Tree, Clash, Full, Fork, AtNode, IsTreeAt, HasValues, IsBranching, IsClashNode}

one_value : (cons : List Constraint) (base : ℕ → Order → Type 0) (tried : List (ℕ × Order))
    → (IsClashNode cons base tried → ⊥) → (v : ℕ) (s t : Order) → AtNode cons base tried v s
    → AtNode cons base tried v t → s ≡ t
one_value cons base tried calm v Below Below a b = refl
one_value cons base tried calm v Below Above a
    b = absurd (calm (record { variable = v; below = a; above = b }))
one_value cons base tried calm v Above Below a
    b = absurd (calm (record { variable = v; below = b; above = a }))
one_value cons base tried calm v Above Above a b = refl

same_leaf : (cons : List Constraint) (base : ℕ → Order → Type 0) (part : List ℕ) (tried : List (ℕ × Order))
    → (IsClashNode cons base tried → ⊥) → (a b : List Order) → HasValues cons base tried part a
    → HasValues cons base tried part b → a ≡ b
same_leaf cons base part tried calm a b x y = ext_get_or Below a b (x.as_many ∙ sym y.as_many) (λ i l.
    let m : i < length part = omega (arith, l, x.as_many) in
    one_value cons base tried calm (slice_index part i) (get_or a i Below) (get_or b i Below) (x.has i m)
    (y.has i m))

no_branch : {A : Type 0} (cons : List Constraint) (base : ℕ → Order → Type 0) (part : List ℕ)
    (tried : List (ℕ × Order)) (values : List Order) (v : ℕ) → HasValues cons base tried part values
    → IsBranching cons base tried part v → A
no_branch cons base part tried values v have
    b = absurd (b.undecided (get_or values b.place Below, subst (λ u. AtNode cons base tried u (get_or values b.place Below)) b.is (have.has b.place b.inside)))

same_branch : (cons : List Constraint) (base : ℕ → Order → Type 0) (part : List ℕ) (tried : List (ℕ × Order))
    (v w : ℕ) → IsBranching cons base tried part v → IsBranching cons base tried part w → v ≡ w
same_branch cons base part tried v w a b = elim (cases_order a.place b.place) [
  | inl e ↦ sym a.is ∙ ap (slice_index part) e ∙ b.is
  | inr o ↦ elim o [
    | inl less ↦ (let d = b.earlier a.place less in absurd (a.undecided (d.0, subst (λ u. AtNode cons base tried u d.0) a.is d.1)))
    | inr more ↦ (let d = a.earlier b.place more in absurd (b.undecided (d.0, subst (λ u. AtNode cons base tried u d.0) b.is d.1)))
  ]
]

pub same_tree : (cons : List Constraint) (base : ℕ → Order → Type 0) (part : List ℕ)
    (tried : List (ℕ × Order)) (a b : Tree) → IsTreeAt cons base part tried a
    → IsTreeAt cons base part tried b → a ≡ b
same_tree cons base part tried Clash Clash x y = refl
same_tree cons base part tried Clash (Full values) x (calm, have) = absurd (calm x)
same_tree cons base part tried Clash (Fork below above) x (calm, more) = absurd (calm x)
same_tree cons base part tried (Full values) Clash (calm, have) y = absurd (calm y)
same_tree cons base part tried (Full values) (Full others) (calm, have) (calm', have') = ap Full
    (same_leaf cons base part tried calm values others have have')
same_tree cons base part tried (Full values) (Fork below above) (calm, have)
    (calm', (v, b, tb, ta)) = no_branch cons base part tried values v have b
same_tree cons base part tried (Fork below above) Clash (calm, more) y = absurd (calm y)
same_tree cons base part tried (Fork below above) (Full values) (calm, (v, b, tb, ta))
    (calm', have) = no_branch cons base part tried values v have b
same_tree cons base part tried (Fork below above) (Fork below' above') (calm, (v, b, tb, ta))
    (calm', (w, b', tb', ta')) =
    let e : w ≡ v = same_branch cons base part tried w v b' b in
    ap (λ t. Fork t above)
    (same_tree cons base part ((v, Below) ∷ tried) below below' tb
    (subst (λ u. IsTreeAt cons base part ((u, Below) ∷ tried) below') e tb'))
    ∙ ap (λ t. Fork below' t)
    (same_tree cons base part ((v, Above) ∷ tried) above above' ta
    (subst (λ u. IsTreeAt cons base part ((u, Above) ∷ tried) above') e ta'))
