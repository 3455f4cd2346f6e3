-- The test of a constraint's rows decides whether one of them agrees with what is known.
use Rattle.std.proofs.Common.{◌≡◌, ℕ, zero, suc, ◌↔◌, ◌⊎◌, inl, inr, Bool, true, false, ◌||◌, List, [], ◌∷◌, refl, sym, subst, ap, ◌∙◌, Option, Some, slice_get, length}
use Rattle.std.specs.List.{list_any}
use Rattle.ff_tables.specs.declared.orders.Order.{Order}
use Rattle.ff_tables.specs.declared.terms.Constraint.{Constraint}
use Rattle.ff_tables.specs.Rows.{rows_of}
use Rattle.ff_tables.specs.Forces.{agrees_below, SomeAgrees, NoneAgrees, Knows}
use Rattle.ff_tables.proofs.Agreeing.{agrees_tested}
use Rattle.ff_propagate.specs.Solutions.{has_row}

abbrev SomeRow : (List Order → Bool) → List (List Order) → Type 0
SomeRow p xs = (k : ℕ) × (x : List Order) × (slice_get xs k ≡ Some x) × (p x ≡ true)

later : (p : List Order → Bool) (x : List Order) (xs : List (List Order)) → SomeRow p xs → SomeRow p (x ∷ xs)
later p x xs (k, y, e, h) = (suc k, y, e, h)

any_at : (p : List Order → Bool) (x : List Order) (xs : List (List Order)) (b : Bool) → p x ≡ b
    → (b || list_any p xs) ≡ true → (list_any p xs ≡ true → SomeRow p xs) → SomeRow p (x ∷ xs)
any_at p x xs true e h rest = (0, x, refl, e)
any_at p x xs false e h rest = later p x xs (rest h)

any_to : (p : List Order → Bool) (xs : List (List Order)) → list_any p xs ≡ true → SomeRow p xs
any_to p [] h = cc
any_to p (x ∷ xs) h = any_at p x xs (p x) refl h (any_to p xs)

or_right : (b : Bool) → (b || true) ≡ true
or_right true = refl
or_right false = refl

row_same : (x y : List Order) → Some x ≡ Some y → x ≡ y
row_same x y e = cc

any_from : (p : List Order → Bool) (xs : List (List Order)) (k : ℕ) (x : List Order) → slice_get xs k ≡ Some x
    → p x ≡ true → list_any p xs ≡ true
any_from p [] k x e h = cc
any_from p (y ∷ xs) zero x e h = ap (λ b. b || list_any p xs)
    (subst (λ z. p z ≡ true) (sym (row_same y x e)) h)
any_from p (y ∷ xs) (suc k) x e h = ap (λ b. p y || b) (any_from p xs k x e h) ∙ or_right (p y)

pub has_row-decides : (value : ℕ → Option Order) (con : Constraint)
    → (has_row value con ≡ true) ↔ SomeAgrees con.kind con.terms (Knows value)
has_row-decides value con = (to, from)
  where
    to : has_row value con ≡ true → SomeAgrees con.kind con.terms (Knows value)
    to h = let r = any_to (agrees_below con.terms value (length con.terms)) (rows_of con.kind)
        h in (r.0, r.1, r.2, (agrees_tested con.terms value r.1).0 r.3)

    from : SomeAgrees con.kind con.terms (Knows value) → has_row value con ≡ true
    from (k, row, e, agrees) = any_from (agrees_below con.terms value (length con.terms)) (rows_of con.kind) k
        row e ((agrees_tested con.terms value row).1 agrees)

clash : {b : Bool} → b ≡ false → b ≡ true → ⊥
clash p q = cc

-- some row agrees, or none does
pub row_or_none : (value : ℕ → Option Order) (con : Constraint)
    → (has_row value con ≡ true) ⊎ NoneAgrees con.kind con.terms (Knows value)
row_or_none value con = sort (has_row value con) refl
  where
    sort : (b : Bool) → has_row value con ≡ b
        → (has_row value con ≡ true) ⊎ NoneAgrees con.kind con.terms (Knows value)
    sort true e = inl e
    sort false e = inr (λ k row at a. clash e ((has_row-decides value con).1 (k, row, at, a)))
