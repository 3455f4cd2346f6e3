-- What the closure at a node tells of the lists of values that agree with what was tried.
use Rattle.std.proofs.Common.{◌≡◌, ℕ, ◌<◌, ◌⊎◌, inl, inr, Bool, true, false, List, length, slice_index, slice_get, refl, sym, ap, ◌∙◌, subst, Option, Some, None, Contains}
use Rattle.ff_basics.proofs.Options.{some_or_none}
use Rattle.ff_tables.specs.declared.orders.Order.{Order}
use Rattle.ff_tables.specs.declared.orders.Order.TheVariants.{Below, Above}
use Rattle.ff_tables.specs.declared.terms.Constraint.{Constraint}
use Rattle.ff_tables.specs.Orders.{term_at, turn, is_order, row_at}
use Rattle.ff_tables.specs.Systems.{AreFit}
use Rattle.ff_tables.specs.Forces.{Forces, Knows}
use Rattle.ff_propagate.specs.Parts.{IsPart}
use Rattle.ff_tables.proofs.Agreeing.{turn_turn}
use Rattle.ff_propagate.specs.Solutions.{has_row, joint, is_solution}
use Rattle.ff_propagate.specs.Trees.{With, AtNode}
use Rattle.ff_propagate.proofs.Deciding.{has_row-decides}
use Rattle.ff_propagate.proofs.Joining.{Stands, joint_either, joint_none, joint_keeps}
use Rattle.ff_propagate.proofs.Quiet.{IsQuiet, in_part, all_at}

-- of all that was tried the list has the value
abbrev pub HasTried : (ℕ → Option Order) → List (ℕ × Order) → Type 0
HasTried f tried = (v : ℕ) (s : Order) → Contains tried (v, s) → f v ≡ Some s

turn_one : (b : Bool) (s t : Order) → turn b s ≡ turn b t → s ≡ t
turn_one b s t e = sym (turn_turn b s) ∙ ap (turn b) e ∙ turn_turn b t

abbrev pub test : Option Order → Order → Bool
test None s = false
test (Some t) s = is_order t s

pub test_some : (o : Option Order) (s : Order) → test o s ≡ true → o ≡ Some s
test_some None s h = cc
test_some (Some Below) Below h = refl
test_some (Some Below) Above h = cc
test_some (Some Above) Below h = cc
test_some (Some Above) Above h = refl

pub some_test : (o : Option Order) (s : Order) → o ≡ Some s → test o s ≡ true
some_test o s e = ap (λ p. test p s) e ∙ same s
  where
    same : (t : Order) → test (Some t) t ≡ true
    same Below = refl
    same Above = refl

clash : {A : Type 0} {o : Option Order} {s : Order} → o ≡ None → o ≡ Some s → A
clash p q = cc

module _ (vars : ℕ) (cons : List Constraint) (value : ℕ → Option Order) (part : List ℕ)
    (fit : AreFit vars cons) (quiet : IsQuiet cons value) (is_part : IsPart vars cons value part) where
  part_open : (i : ℕ) → i < length part → value (slice_index part i) ≡ None
  part_open i l = (is_part.undecided i l).open_yet

  -- a solution that has what was tried has the node's closure
  pub has_node : (xs : List Order) → length xs ≡ length part → is_solution cons value part xs ≡ true
      → (tried : List (ℕ × Order)) → HasTried (joint value part xs) tried
      → (v : ℕ) (s : Order) → AtNode cons (Knows value) tried v s → joint value part xs v ≡ Some s
  has_node xs long meets tried has v s inside = test_some (f v) s (inside (λ u t. test (f u) t) (record {
    base_held = λ u t b. some_test (f u) t (based u t b);
    forced_held = λ c con u t is force. some_test (f u) t (forced c con u t is force);
  }))
    where
      f : ℕ → Option Order
      f = joint value part xs

      based : (u : ℕ) (t : Order) → With (Knows value) tried u t → f u ≡ Some t
      based u t (inl known) = joint_keeps value part xs u t part_open known
      based u t (inr among) = has u t among

      forced : (c : ℕ) (con : Constraint) (u : ℕ) (t : Order) → slice_get cons c ≡ Some con
          → Forces con.kind con.terms (λ y b. test (f y) b ≡ true) u t → f u ≡ Some t
      forced c con u t is (p, l, e, only) = elim (some_or_none (f u)) [
        | inl k ↦ (
            let r = (has_row-decides f con).0 (all_at (has_row f) cons c con meets is) in
            let fl = (term_at con.terms p).flipped in
            let a : row_at r.1 p ≡ turn fl k.0 = r.3 p (turn fl k.0) l
            (ap f e ∙ k.1 ∙ ap (λ b. Some b) (sym (turn_turn fl k.0))) in
            let b : row_at r.1 p ≡ turn fl t = only r.0 r.1 r.2
            (λ j b m q. r.3 j b m
            (test_some (f (term_at con.terms j).var) (turn (term_at con.terms j).flipped b) q)) in
            k.1 ∙ ap (λ b. Some b) (turn_one fl k.0 t (sym a ∙ b)))
        | inr none ↦ (
            let away : Stands part u → ⊥ = joint_none value part xs u long none in
            -- no term of the constraint is of the part, so what is known of it the board knows
            let plain : (j : ℕ) (b : Order) → j < length con.terms → f (term_at con.terms j).var ≡ Some b
            → value (term_at con.terms j).var ≡ Some b =
            λ j b m q. elim (joint_either value part xs (term_at con.terms j).var) [
              | inl st ↦ absurd (away (subst (λ y. Stands part y) e (in_part vars cons value part fit is_part c con is j p m l st
                  (elim (some_or_none (value (term_at con.terms p).var)) [
                    | inl k ↦ clash none (joint_keeps value part xs u k.0 part_open (ap value (sym e) ∙ k.1))
                    | inr n ↦ n
                  ]))))
              | inr same ↦ sym same ∙ q
            ] in
            clash none (joint_keeps value part xs u t part_open (quiet c con u t is (
              p,
              l,
              e,
              λ k row at a. only k row at (λ j b m q. a j b m
                  (plain j (turn (term_at con.terms j).flipped b) m
                  (test_some (f (term_at con.terms j).var) (turn (term_at con.terms j).flipped b) q))),
            ))))
      ]
