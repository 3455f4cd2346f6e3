-- The sum of some places: right of no line that none of them is right of, and strictly left where one of them is.
use Rattle.std.proofs.Common.{◌≡◌, ◌⊎◌, inl, inr, ℕ, zero, suc, get_or, length, ◌<◌, sym, ap, ◌∙◌, subst, arith, pos, ◌+ℤ◌, ◌*ℤ◌, ◌<ℤ◌, ◌≤ℤ◌, List, [], ◌∷◌}
use Rattle.std.specs.List.{All, Contains}
use Rattle.std.proofs.lemmas.List.Elements.{All-head, All-tail}
use Rattle.ff_whole.proofs.Laws.{one-*ℤ}
use Rattle.ff_whole.proofs.Signs.{linear}
use Rattle.ff_whole.proofs.Combinations.{combine, height-combine}
use Rattle.ff_whole.specs.Places.{height}
use Rattle.ff_whole.specs.declared.lines.Line.{Line}
use Rattle.ff_whole.specs.declared.places.Place.{Place}

-- the sum of a place and a list of places
abbrev pub total_place : Place → List Place → Place
total_place p [] = p
total_place p (q ∷ qs) = combine (pos 1) p (pos 1) (total_place q qs)

height-total : (l : Line) (p q : Place) (qs : List Place)
    → height l (total_place p (q ∷ qs)) ≡ height l p +ℤ height l (total_place q qs)
height-total l p q qs =
    height-combine l (pos 1) p (pos 1) (total_place q qs)
    ∙ ap (λ z. z +ℤ pos 1 *ℤ height l (total_place q qs)) (one-*ℤ (height l p))
    ∙ ap (λ z. height l p +ℤ z) (one-*ℤ (height l (total_place q qs)))

-- right of no line that none of them is right of
pub not_right-total : (l : Line) (p : Place) (qs : List Place) → All (λ q. pos 0 ≤ℤ height l q) (p ∷ qs)
    → pos 0 ≤ℤ height l (total_place p qs)
not_right-total l p [] h = All-head (λ q. pos 0 ≤ℤ height l q) p [] h
not_right-total l p (q ∷ qs) h =
    let a = All-head (λ q. pos 0 ≤ℤ height l q) p (q ∷ qs) h in
    let b = not_right-total l q qs (All-tail (λ q. pos 0 ≤ℤ height l q) p (q ∷ qs) h) in
    let e = height-total l p q qs in
    omega (arith, linear)

first_or_later : {X : Type 0} (x : X) (xs : List X) (y : X) (k : ℕ) → k < length (x ∷ xs) → get_or (x ∷ xs) k y ≡ y
    → (x ≡ y) ⊎ Contains xs y
first_or_later x xs y zero lt e = inl e
first_or_later x xs y (suc k) lt e = inr (k, omega arith, e)

-- and strictly left, where one of them is
pub left-total : (l : Line) (p : Place) (qs : List Place) → All (λ q. pos 0 ≤ℤ height l q) (p ∷ qs) → (q : Place)
    → Contains (p ∷ qs) q → pos 0 <ℤ height l q → pos 0 <ℤ height l (total_place p qs)
left-total l p [] h q has g =
    elim (first_or_later p [] q has.0 has.1 has.2) [ inl e ↦ subst (λ z. pos 0 <ℤ height l z) (sym e) g | inr none ↦ let lt = none.1 in absurd (omega arith) ]
left-total l p (r ∷ rs) h q has g =
    let a = All-head (λ q. pos 0 ≤ℤ height l q) p (r ∷ rs) h in
    let rest = All-tail (λ q. pos 0 ≤ℤ height l q) p (r ∷ rs) h in
    let b = not_right-total l r rs rest in
    let e = height-total l p r rs in
    elim (first_or_later p (r ∷ rs) q has.0 has.1 has.2) [
      | inl s ↦ let f : pos 0 <ℤ height l p = subst (λ z. pos 0 <ℤ height l z) (sym s) g in omega (arith, linear)
      | inr has' ↦ let f = left-total l r rs rest q has' g in omega (arith, linear)
    ]
