-- Values that are written into one list.
use Rattle.std.proofs.Common.{◌≡◌, ℕ, ◌+◌, ◌-◌, ◌<◌, ◌≤◌, inl, inr, ◌∙◌, sym, ap, subst, arith, List, ◌∷◌, length, drop, slice_index, slice_index_or, slice_set, Option, Some, if◌then◌else◌}
use Rattle.std.proofs.lemmas.Bool.{cases_eq, eq-eqb, ne_eqb}
use Rattle.std.proofs.lemmas.List.{get_or-set_same, get_or-set_other, length-set, drop_more, drop_all}
use Rattle.ff_tables.specs.declared.orders.Order.{Order}
use Rattle.ff_tables.specs.declared.orders.Order.TheVariants.{Below}
use Rattle.ff_propagate.specs.Solutions.{joint}
use Rattle.ff_propagate.specs.declared.parts.Part.{Part}
use Rattle.ff_propagate.specs.Choices.{value_of}
use Rattle.ff_parts.specs.Lists.{vars_of}
use Rattle.ff_near.specs.Filled.{HasValues}

same_order : (a b : Order) → Some a ≡ Some b → a ≡ b
same_order a b e = cc

put_one : (known : ℕ → Option Order) (u : ℕ) (x : Order) (part : List ℕ) (solution values : List Order) → u < length values
    → HasValues (joint known part solution) values → HasValues (joint known (u ∷ part) (x ∷ solution)) (slice_set values u x)
put_one known u x part solution values within has v s l e = elim (cases_eq u v) [
  | inl same ↦ subst (λ w. slice_index_or (slice_set values u x) w Below ≡ s) same (get_or-set_same values u x Below within
      ∙ same_order x s (sym (ap (λ t. if t then Some x else joint known part solution v) (eq-eqb u v same)) ∙ e))
  | inr other ↦ get_or-set_other values u v x Below (λ q. other (sym q))
      ∙ has v s (subst (λ n. v < n) (length-set values u x) l) (sym (ap (λ t. if t then Some x else joint known part solution v) (ne_eqb u v other)) ∙ e)
]

-- nothing is written yet
pub none_put : (known : ℕ → Option Order) (part : List ℕ) (solution values : List Order) → HasValues known values
    → HasValues (joint known (drop (length part) part) (drop (length part) solution)) values
none_put known part solution values has = subst (λ (p : List ℕ). HasValues (joint known p (drop (length part) solution)) values)
    (sym (drop_all (length part) part (omega arith))) has

-- all is written
pub all_put : (known : ℕ → Option Order) (part : List ℕ) (solution values : List Order) (k : ℕ) → k ≤ 0
    → HasValues (joint known (drop k part) (drop k solution)) values → HasValues (joint known part solution) values
all_put known part solution values k none has = subst (λ m. HasValues (joint known (drop m part) (drop m solution)) values) (zero_is k none) has where
  zero_is : (k : ℕ) → k ≤ 0 → k ≡ 0
  zero_is k l = omega (arith, l)

-- one value more, from the last to the first
pub one_put : (known : ℕ → Option Order) (part : List ℕ) (solution values : List Order) (d : Order) → length solution ≡ length part → (k : ℕ) → 0 < k → k ≤ length part
    → slice_index part (k - 1) < length values → HasValues (joint known (drop k part) (drop k solution)) values
    → HasValues (joint known (drop (k - 1) part) (drop (k - 1) solution)) (slice_set values (slice_index part (k - 1)) (slice_index_or solution (k - 1) d))
one_put known part solution values d as_many k some within inside has =
    subst (λ (p : List ℕ). HasValues (joint known p (drop (k - 1) solution)) written) (sym (drop_more part (k - 1) 0 l))
    (subst (λ (x : List Order). HasValues (joint known (slice_index part (k - 1) ∷ drop (k - 1 + 1) part) x) written) (sym (drop_more solution (k - 1) d m))
    (put_one known (slice_index part (k - 1)) (slice_index_or solution (k - 1) d) (drop (k - 1 + 1) part) (drop (k - 1 + 1) solution) values inside
    (subst (λ n. HasValues (joint known (drop n part) (drop n solution)) values) (sym same) has)))
  where
    written : List Order
    written = slice_set values (slice_index part (k - 1)) (slice_index_or solution (k - 1) d)

    l : k - 1 < length part
    l = omega (arith, some, within)

    m : k - 1 < length solution
    m = omega (arith, l, as_many)

    same : k - 1 + 1 ≡ k
    same = omega (arith, some)

-- one part more, from the last to the first
module _ (known : ℕ → Option Order) (parts : List Part) (solutions : List (List Order)) (values : List Order) where
  pub no_parts_put : HasValues known values → HasValues (value_of known (vars_of (drop (length parts) parts)) (drop (length parts) solutions)) values
  no_parts_put has = subst (λ (p : List Part). HasValues (value_of known (vars_of p) (drop (length parts) solutions)) values) (sym (drop_all (length parts) parts (omega arith))) has

  pub all_parts_put : (k : ℕ) → k ≤ 0 → HasValues (value_of known (vars_of (drop k parts)) (drop k solutions)) values → HasValues (value_of known (vars_of parts) solutions) values
  all_parts_put k none has = subst (λ m. HasValues (value_of known (vars_of (drop m parts)) (drop m solutions)) values) (zero_is k none) has where
    zero_is : (k : ℕ) → k ≤ 0 → k ≡ 0
    zero_is k l = omega (arith, l)

  pub one_part_put : (d part : Part) (e solution : List Order) → length solutions ≡ length parts → (k : ℕ) → 0 < k → k ≤ length parts
      → part ≡ slice_index_or parts (k - 1) d → solution ≡ slice_index_or solutions (k - 1) e
      → HasValues (joint (value_of known (vars_of (drop k parts)) (drop k solutions)) part.vars solution) values
      → HasValues (value_of known (vars_of (drop (k - 1) parts)) (drop (k - 1) solutions)) values
  one_part_put d part e solution as_many k some within p q has =
      subst (λ (ps : List Part). HasValues (value_of known (vars_of ps) (drop (k - 1) solutions)) values) (sym (drop_more parts (k - 1) d l ∙ ap (λ (x : Part). x ∷ drop (k - 1 + 1) parts) (sym p)))
      (subst (λ (xs : List (List Order)). HasValues (value_of known (vars_of (part ∷ drop (k - 1 + 1) parts)) xs) values) (sym (drop_more solutions (k - 1) e m ∙ ap (λ (x : List Order). x ∷ drop (k - 1 + 1) solutions) (sym q)))
      (subst (λ n. HasValues (joint (value_of known (vars_of (drop n parts)) (drop n solutions)) part.vars solution) values) (sym same) has))
    where
      l : k - 1 < length parts
      l = omega (arith, some, within)

      m : k - 1 < length solutions
      m = omega (arith, l, as_many)

      same : k - 1 + 1 ≡ k
      same = omega (arith, some)
