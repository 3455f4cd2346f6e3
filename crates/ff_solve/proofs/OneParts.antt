-- What a closure leaves undecided has one list of parts.
use Rattle.std.proofs.Common.{◌≡◌, ℕ, ◌<◌, ◌∙◌, List, slice_get, slice_index, Option, Some, Contains, ap, sym, subst, arith}
use Rattle.std.proofs.lemmas.Option.{slice_get_within, slice_get-get_or, get_or_from_slice_get}
use Rattle.ff_tables.specs.declared.orders.Order.{Order}
use Rattle.ff_tables.specs.declared.terms.Constraint.{Constraint}
use Rattle.ff_propagate.specs.Parts.{AreParts, IsPart, IsUndecided, AreConnected}
use Rattle.ff_crossings.proofs.SortedLists.{InOrder, Stands, same_lists}

stands_in : (xs : List ℕ) (x : ℕ) → Stands xs x → Contains xs x
stands_in xs x (n, e) = (n, slice_get_within xs n x e, get_or_from_slice_get xs n x x e)

in_stands : (xs : List ℕ) (x : ℕ) → Contains xs x → Stands xs x
in_stands xs x (n, l, e) = (n, slice_get-get_or xs n x l ∙ ap Some e)

at_index : (xs : List ℕ) (n x : ℕ) → slice_get xs n ≡ Some x → slice_index xs n ≡ x
at_index xs n x e = get_or_from_slice_get xs n x 0 e

module _ (vars : ℕ) (cons : List Constraint) (value : ℕ → Option Order) where
  part_order : (p : List ℕ) → IsPart vars cons value p → InOrder (λ x y. x < y) p
  unfolding InOrder
  part_order p is m n x y l a b = subst (λ z. z < y) (at_index p m x a) (subst (λ z. slice_index p m < z) (at_index p n y b) (is.rising m n l (slice_get_within p n y b)))

  -- a variable of two parts leads to the same others
  other_member : (p q : List ℕ) → IsPart vars cons value p → IsPart vars cons value q → (v : ℕ) → Stands p v → Stands q v → (w : ℕ) → Stands p w → Stands q w
  other_member p q a b v (i, e) (j, f) w (k, g) =
      let li = slice_get_within p i v e in
      let lj = slice_get_within q j v f in
      let undecided : IsUndecided vars value w = subst (λ z. IsUndecided vars value z) (at_index p k w g) (a.undecided k (slice_get_within p k w g)) in
      let path : AreConnected vars cons value v w = subst (λ z. AreConnected vars cons value z w) (at_index p i v e) ((a.class i w li undecided).1 (stands_in p w (k, g))) in
      in_stands q w ((b.class j w lj undecided).0 (subst (λ z. AreConnected vars cons value z w) (sym (at_index q j v f)) path))

  one_class : (p q : List ℕ) → IsPart vars cons value p → IsPart vars cons value q → (v : ℕ) → Stands p v → Stands q v → p ≡ q
  one_class p q a b v s t = same_lists (λ x y. x < y) (λ x y l m. omega (arith, l, m)) p q (part_order p a) (part_order q b) (λ w. (other_member p q a b v s t w, other_member q p b a v t s w))

  parts_order : (parts : List (List ℕ)) → AreParts vars cons value parts → InOrder (λ p q. slice_index p 0 < slice_index q 0) parts
  unfolding InOrder
  parts_order parts are m n p q l a b = are.sorted m n p q l a b

  other_part : (parts others : List (List ℕ)) → AreParts vars cons value parts → AreParts vars cons value others → (p : List ℕ) → Stands parts p → Stands others p
  other_part parts others a b p (n, e) = by (b.all (slice_index p 0) ((a.each n p e).undecided 0 (a.each n p e).some)) where
    by : (k : ℕ) × (q : List ℕ) × (slice_get others k ≡ Some q) × Contains q (slice_index p 0) → Stands others p
    by (k, q, there, c) =
        let same : q ≡ p = one_class q p (b.each k q there) (a.each n p e) (slice_index p 0) (in_stands q (slice_index p 0) c) (0, slice_get-get_or p 0 0 (a.each n p e).some) in
        (k, there ∙ ap Some same)

  pub one_parts : (parts others : List (List ℕ)) → AreParts vars cons value parts → AreParts vars cons value others → parts ≡ others
  one_parts parts others a b = same_lists (λ p q. slice_index p 0 < slice_index q 0) (λ p q l m. omega (arith, l, m)) parts others (parts_order parts a) (parts_order others b)
      (λ p. (other_part parts others a b p, other_part others parts b a p))
