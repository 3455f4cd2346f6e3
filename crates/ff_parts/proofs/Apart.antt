-- Parts share out what is undecided.
use Rattle.std.proofs.Common.{◌≡◌, ◌↔◌, inl, inr, ℕ, List, Option, Some, slice_get, sym, subst, Contains}
use Rattle.std.proofs.lemmas.Bool.{cases_eq, cases_order}
use Rattle.ff_tables.specs.declared.orders.Order.{Order}
use Rattle.ff_tables.specs.declared.terms.Constraint.{Constraint}
use Rattle.ff_tables.specs.Orders.{term_at}
use Rattle.ff_tables.specs.Systems.{AreFit}
use Rattle.ff_propagate.specs.Parts.{IsUndecided, IsPart, AreParts, Touches}
use Rattle.ff_propagate.proofs.Joining.{Stands}
use Rattle.ff_propagate.proofs.Quiet.{stands_contains, contains_stands, in_part}
use Rattle.ff_parts.specs.PartLaws.{IsInOnePart}
use Rattle.ff_parts.proofs.Factoring.{parts_apart}

module _ (vars : ℕ) (cons : List Constraint) (value : ℕ → Option Order) (parts : List (List ℕ))
    (are : AreParts vars cons value parts)
  where
    -- what stands in a part is undecided
    undecided_in : (part : List ℕ) → IsPart vars cons value part → (v : ℕ) → Stands part v
        → IsUndecided vars value v
    undecided_in part is v (i, l, e) = subst (IsUndecided vars value) e (is.undecided i l)

    -- two parts have no variable in common
    pub apart : (k l : ℕ) (p q : List ℕ) → (k ≡ l → ⊥) → slice_get parts k ≡ Some p → slice_get parts l ≡ Some q
        → (v : ℕ) → Contains p v → Contains q v → ⊥
    apart k l p q ne at_p at_q v in_p in_q = elim (cases_order k l) [
      | inl e ↦ absurd (ne e)
      | inr (inl m) ↦ parts_apart vars cons value p q (are.each k p at_p) (are.each l q at_q)
          (are.sorted k l p q m at_p at_q) v (contains_stands p v in_p) (contains_stands q v in_q)
      | inr (inr m) ↦ parts_apart vars cons value q p (are.each l q at_q) (are.each k p at_p)
          (are.sorted l k q p m at_q at_p) v (contains_stands q v in_q) (contains_stands p v in_p)
    ]

    one_part : (k l : ℕ) (p q : List ℕ) → slice_get parts k ≡ Some p → slice_get parts l ≡ Some q → (v : ℕ)
        → Contains p v → Contains q v → l ≡ k
    one_part k l p q at_p at_q v in_p in_q = elim (cases_eq l k) [
      | inl e ↦ e
      | inr ne ↦ absurd (apart k l p q (λ e. ne (sym e)) at_p at_q v in_p in_q)
    ]

    -- the undecided variables are those of the parts, each of exactly one
    pub share_out : (v : ℕ) → IsUndecided vars value v ↔ IsInOnePart parts v
    share_out v = (to, from)
      where
        to : IsUndecided vars value v → IsInOnePart parts v
        to o =
            let r = are.all v o in
            record {
              number = r.0;
              part = r.1;
              there = r.2;
              among = r.3;
              alone = λ l other at has. one_part r.0 l r.1 other r.2 at v r.3 has;
            }

        from : IsInOnePart parts v → IsUndecided vars value v
        from one = undecided_in one.part (are.each one.number one.part one.there) v (contains_stands one.part v one.among)

    -- no constraint touches two parts
    pub touched_once : AreFit vars cons → (c : ℕ) (con : Constraint) → slice_get cons c ≡ Some con → (k l : ℕ)
        (p q : List ℕ) → slice_get parts k ≡ Some p → slice_get parts l ≡ Some q → Touches p con → Touches q con
        → k ≡ l
    touched_once fit c con at k l p q at_p at_q t u =
        let v = (term_at con.terms u.place).var in
        let open_yet = (undecided_in q (are.each l q at_q) v (contains_stands q v u.among)).open_yet in
        let mine = in_part vars cons value p fit (are.each k p at_p) c con at t.place u.place t.inside u.inside
        (contains_stands p (term_at con.terms t.place).var t.among) open_yet in
        one_part l k q p at_q at_p v u.among (stands_contains p v mine)
