-- The way from a place left of some lines to a place that isn't: one of the lines holds its last place right of none.
use Rattle.std.proofs.Common.{◌≡◌, refl, ap, ◌∙◌, arith, ℤ, pos, ◌+ℤ◌, ◌-ℤ◌, ◌*ℤ◌, ◌<ℤ◌, ◌≤ℤ◌, List, [], ◌∷◌}
use lib.IntN.{neg_ℤ, *ℤ_comm, *ℤ-zero}
use Rattle.std.specs.List.{All, Contains}
use Rattle.std.proofs.lemmas.List.Elements.{All-contains, All-weaker}
use Rattle.ff_whole.proofs.Laws.{neg-*ℤ}
use Rattle.ff_whole.proofs.Ring.{var, num, ◌⊖◌, ◌⊗◌, solve}
use Rattle.ff_whole.proofs.Signs.{linear, nonneg-mul_nonpos, le_from_mul}
use Rattle.ff_whole.proofs.Combinations.{combine, height-combine}
use Rattle.ff_whole.proofs.Ratios.{AtMost, least_ratio}
use Rattle.ff_whole.specs.Places.{height}
use Rattle.ff_whole.specs.declared.lines.Line.{Line}
use Rattle.ff_whole.specs.declared.places.Place.{Place}

-- the place of the way from p to q on the line l, where q is left of l
abbrev pub last : Line → Place → Place → Place
last l p q = combine (height l q) p (neg_ℤ (height l p)) q

height-last : (k l : Line) (p q : Place)
    → height k (last l p q) ≡ height l q *ℤ height k p -ℤ height l p *ℤ height k q
height-last k l p q =
    height-combine k (height l q) p (neg_ℤ (height l p)) q
    ∙ ap (λ z. height l q *ℤ height k p +ℤ z) (neg-*ℤ (height l p) (height k q))

-- some line holds the last place of the way that is right of no line
pub border_place : (l : Line) (ls : List Line) (p q : Place) → All (λ k. pos 0 <ℤ height k q) (l ∷ ls) → (k : Line)
    → Contains (l ∷ ls) k → height k p ≤ℤ pos 0
    → (k : Line) × Contains (l ∷ ls) k × (height k p ≤ℤ pos 0) × (height k (last k p q) ≡ pos 0) × All (λ j. pos 0 ≤ℤ height j (last k p q)) (l ∷ ls)
border_place l ls p q h k has low =
    let r = least_ratio (λ j. height j p) (λ j. height j q) l ls h in
    let m = r.0 in
    let positive : (j : Line) → Contains (l ∷ ls) j → pos 0 <ℤ height j q = λ j c. All-contains (λ j. pos 0 <ℤ height j q) (l ∷ ls) j h c in (
      m,
      r.1,
      below (height m p) (height m q) (height k p) (height k q) (positive k has) (positive m r.1) low (All-contains (AtMost (λ j. height j p) (λ j. height j q) m) (l ∷ ls) k r.2 has),
      height-last m m p q ∙ same (height m q) (height m p),
      All-weaker (AtMost (λ j. height j p) (λ j. height j q) m) (λ j. pos 0 ≤ℤ height j (last m p q)) (λ j a. above m j a) (l ∷ ls) r.2,
    )
  where
    below : (a v b w : ℤ) → pos 0 <ℤ w → pos 0 <ℤ v → b ≤ℤ pos 0 → (a *ℤ w) ≤ℤ (b *ℤ v) → a ≤ℤ pos 0
    below a v b w f g low h =
        let m = nonneg-mul_nonpos v b (omega (arith, linear)) low in
        let e = *ℤ_comm b v in
        let c = *ℤ_comm a w in
        let z : w *ℤ pos 0 ≡ pos 0 = *ℤ-zero w in
        le_from_mul w a (pos 0) f (omega (arith, linear))

    same : (u v : ℤ) → u *ℤ v -ℤ v *ℤ u ≡ pos 0
    same u v = solve (u ∷ v ∷ []) (var 0 ⊗ var 1 ⊖ var 1 ⊗ var 0) (num (pos 0)) refl

    above : (m j : Line) → AtMost (λ j. height j p) (λ j. height j q) m j → pos 0 ≤ℤ height j (last m p q)
    above m j a = let e = height-last j m p q in let c = *ℤ_comm (height j p) (height m q) in omega (arith, linear)
