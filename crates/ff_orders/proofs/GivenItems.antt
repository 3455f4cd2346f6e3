-- Items in this project's numbers of faces.
use Rattle.std.proofs.Common.{◌≡◌, ℕ, zero, suc, ◌+◌, ◌<◌, List, [], ◌∷◌, ◌++◌, take, length, map, get_or, Option, Some, None, arith, sym, ap, ◌∙◌}
use Rattle.std.specs.List.{range_with_len}
use Rattle.ff_basics.proofs.Options.{none_some}

-- none of the values is None
pub none_missing : {A B : Type 0} (f : A → Option B) (xs : List A) (ys : List B) (i m : ℕ) (d : A) → map f (take i xs) ≡ map Some ys → m < i → m < length xs
    → f (get_or xs m d) ≡ None → ⊥
none_missing f [] ys i m d e l w n = omega (arith, w)
none_missing f (x ∷ xs) ys zero m d e l w n = omega (arith, l)
none_missing f (x ∷ xs) [] (suc i) m d e l w n = cons_nil e where
  cons_nil : f x ∷ map f (take i xs) ≡ [] → ⊥
  cons_nil q = cc
none_missing f (x ∷ xs) (y ∷ ys) (suc i) zero d e l w n = none_some y (sym n ∙ head e) where
  head : f x ∷ map f (take i xs) ≡ Some y ∷ map Some ys → f x ≡ Some y
  head q = cc
none_missing f (x ∷ xs) (y ∷ ys) (suc i) (suc m) d e l w n = none_missing f xs ys i m d (tail e) (omega (arith, l)) (omega (arith, w)) n where
  tail : f x ∷ map f (take i xs) ≡ Some y ∷ map Some ys → map f (take i xs) ≡ map Some ys
  tail q = cc

-- one number more
range_from : (a n : ℕ) → range_with_len a (suc n) ≡ range_with_len a n ++ (a + n) ∷ []
range_from a zero = ap (λ x. x ∷ []) (omega arith)
range_from a (suc n) = let e : (a + 1) + n ≡ a + suc n = omega arith in
    ap (λ xs. a ∷ xs) (range_from (a + 1) n ∙ ap (λ x. range_with_len (a + 1) n ++ x ∷ []) e)

pub range_more : (n : ℕ) → range_with_len 0 (n + 1) ≡ range_with_len 0 n ++ n ∷ []
range_more n =
    let next : n + 1 ≡ suc n = omega arith in
    let last : 0 + n ≡ n = omega arith in
    ap (range_with_len 0) next ∙ range_from 0 n ∙ ap (λ x. range_with_len 0 n ++ x ∷ []) last
