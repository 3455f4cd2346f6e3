-- A list and its two parts.
use Rattle.std.proofs.Common.{◌≡◌, suc, List, [], ◌∷◌, ◌++◌, map, length, refl, ap, arith}
use Rattle.ff_tables.specs.declared.terms.Constraint.{Constraint}
use Rattle.ff_types.specs.declared.cites.Cite.{Cite}
use Rattle.ff_types.specs.declared.cites.Listed.{Listed}
use Rattle.ff_types.specs.Splitting.{listed_of, constraint_of, cite_of}

pub length-listed : (cons : List Constraint) (cites : List Cite) → length cons ≡ length cites → length cites ≡ length (listed_of cons cites)
length-listed [] [] e = refl
length-listed [] (y ∷ ys) e = absurd (omega (arith, e))
length-listed (x ∷ xs) [] e = absurd (omega (arith, e))
length-listed (x ∷ xs) (y ∷ ys) e = ap suc (length-listed xs ys (omega (arith, e)))

pub listed-push : (cons : List Constraint) (cites : List Cite) (x : Listed) → length cons ≡ length cites
    → listed_of (cons ++ x.constraint ∷ []) (cites ++ x.cite ∷ []) ≡ listed_of cons cites ++ x ∷ []
listed-push [] [] x e = refl
listed-push [] (y ∷ ys) x e = absurd (omega (arith, e))
listed-push (z ∷ zs) [] x e = absurd (omega (arith, e))
listed-push (z ∷ zs) (y ∷ ys) x e = ap (λ ls. record { constraint = z; cite = y } ∷ ls) (listed-push zs ys x (omega (arith, e)))

pub map-constraints : (cons : List Constraint) (cites : List Cite) → length cons ≡ length cites → cons ≡ map constraint_of (listed_of cons cites)
map-constraints [] [] e = refl
map-constraints [] (y ∷ ys) e = absurd (omega (arith, e))
map-constraints (x ∷ xs) [] e = absurd (omega (arith, e))
map-constraints (x ∷ xs) (y ∷ ys) e = ap (λ ls. x ∷ ls) (map-constraints xs ys (omega (arith, e)))

pub map-cites : (cons : List Constraint) (cites : List Cite) → length cons ≡ length cites → cites ≡ map cite_of (listed_of cons cites)
map-cites [] [] e = refl
map-cites [] (y ∷ ys) e = absurd (omega (arith, e))
map-cites (x ∷ xs) [] e = absurd (omega (arith, e))
map-cites (x ∷ xs) (y ∷ ys) e = ap (λ ls. y ∷ ls) (map-cites xs ys (omega (arith, e)))
