-- Values of a part's variables, joined with those of a board.
use Rattle.std.proofs.Common.{◌≡◌, ℕ, zero, suc, ◌<◌, ◌==◌, ◌⊎◌, inl, inr, List, [], ◌∷◌, length, slice_index, refl, sym, ap, ◌∙◌, arith, Option, Some, None, if◌then◌else◌}
use Rattle.std.proofs.lemmas.Bool.{cases_eq, eq-eqb, ne_eqb}
use Rattle.ff_tables.specs.declared.orders.Order.{Order}
use Rattle.ff_tables.specs.Orders.{row_at}
use Rattle.ff_propagate.specs.Solutions.{joint}

-- the variable stands in the list
abbrev pub Stands : List ℕ → ℕ → Type 0
Stands vars v = (i : ℕ) × (i < length vars) × (slice_index vars i ≡ v)

abbrev pub AreDistinct : List ℕ → Type 0
AreDistinct vars = (i j : ℕ) → i < j → j < length vars → slice_index vars i ≡ slice_index vars j → ⊥

head_is : (u v : ℕ) (a b : Option Order) → u ≡ v → (if u == v then a else b) ≡ a
head_is u v a b e = ap (λ t. if t then a else b) (eq-eqb u v e)

head_isnt : (u v : ℕ) (a b : Option Order) → (u ≡ v → ⊥) → (if u == v then a else b) ≡ b
head_isnt u v a b n = ap (λ t. if t then a else b) (ne_eqb u v n)

pub joint_out : (value : ℕ → Option Order) (vars : List ℕ) (xs : List Order) (v : ℕ) → (Stands vars v → ⊥)
    → joint value vars xs v ≡ value v
joint_out value [] xs v out = refl
joint_out value (u ∷ vars) [] v out = refl
joint_out value (u ∷ vars) (x ∷ xs) v out =
    head_isnt u v (Some x) (joint value vars xs v) (λ e. out (0, omega arith, e))
    ∙ joint_out value vars xs v (λ (i, l, e). out (suc i, omega (arith, l), e))

pub joint_at : (value : ℕ → Option Order) (vars : List ℕ) (xs : List Order) (j : ℕ) → AreDistinct vars
    → j < length vars → length xs ≡ length vars
    → joint value vars xs (slice_index vars j) ≡ Some (row_at xs j)
joint_at value [] xs j d l m = absurd (omega (arith, l))
joint_at value (u ∷ vars) [] j d l m = absurd (omega (arith, m))
joint_at value (u ∷ vars) (x ∷ xs) zero d l m = head_is u u (Some x) (joint value vars xs u) refl
joint_at value (u ∷ vars) (x ∷ xs) (suc j) d l m =
    head_isnt u (slice_index vars j) (Some x) (joint value vars xs (slice_index vars j))
    (λ e. d 0 (suc j) (omega arith) l e)
    ∙ joint_at value vars xs j (λ i k a b e. d (suc i) (suc k) (omega (arith, a)) (omega (arith, b)) e)
    (omega (arith, l)) (omega (arith, m))

pub joint_either : (value : ℕ → Option Order) (vars : List ℕ) (xs : List Order) (v : ℕ)
    → Stands vars v ⊎ (joint value vars xs v ≡ value v)
joint_either value [] xs v = inr refl
joint_either value (u ∷ vars) [] v = inr refl
joint_either value (u ∷ vars) (x ∷ xs) v = elim (cases_eq u v) [
  | inl e ↦ inl (0, omega arith, e)
  | inr n ↦ elim (joint_either value vars xs v) [
    | inl s ↦ inl (suc s.0, omega (arith, s.1), s.2)
    | inr e ↦ inr (head_isnt u v (Some x) (joint value vars xs v) n ∙ e)
  ]
]

-- where nothing is known, the variable isn't of the part
later : (u : ℕ) (vars : List ℕ) (v : ℕ) → Stands (u ∷ vars) v → (u ≡ v → ⊥) → Stands vars v
later u vars v (zero, l, q) n = absurd (n q)
later u vars v (suc i, l, q) n = (i, omega (arith, l), q)

some_none : (y : Order) → Some y ≡ None → ⊥
some_none y p = cc

-- where nothing is known, the variable isn't of the part
pub joint_none : (value : ℕ → Option Order) (vars : List ℕ) (xs : List Order) (v : ℕ)
    → length xs ≡ length vars → joint value vars xs v ≡ None → Stands vars v → ⊥
joint_none value [] xs v m e (i, l, s) = omega (arith, l)
joint_none value (u ∷ vars) [] v m e s = omega (arith, m)
joint_none value (u ∷ vars) (x ∷ xs) v m e s = elim (cases_eq u v) [
  | inl q ↦ some_none x (sym (head_is u v (Some x) (joint value vars xs v) q) ∙ e)
  | inr n ↦ joint_none value vars xs v (omega (arith, m))
      (sym (head_isnt u v (Some x) (joint value vars xs v) n) ∙ e) (later u vars v s n)
]

pub joint_keeps : (value : ℕ → Option Order) (vars : List ℕ) (xs : List Order) (v : ℕ) (s : Order)
    → ((i : ℕ) → i < length vars → value (slice_index vars i) ≡ None) → value v ≡ Some s
    → joint value vars xs v ≡ Some s
joint_keeps value vars xs v s none known = joint_out value vars xs v
    (λ (i, l, e). clash (sym (none i l) ∙ ap value e ∙ known)) ∙ known
  where
    clash : None ≡ Some s → ⊥
    clash p = cc
