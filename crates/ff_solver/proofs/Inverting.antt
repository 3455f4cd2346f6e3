-- What the tree below a node is, by the values at the node.
use Rattle.std.proofs.Common.{◌≡◌, ℕ, ◌<◌, ◌⊎◌, inl, inr, true, List, ◌∷◌, length, get_or, slice_index, slice_get, refl, sym, ap, ◌∙◌, subst, Option, Some, None}
use Rattle.std.proofs.lemmas.Bool.{cases_order}
use Rattle.ff_basics.proofs.Options.{some_none, some_or_none}
use Rattle.ff_tables.specs.declared.orders.Order.{Order}
use Rattle.ff_tables.specs.declared.orders.Order.TheVariants.{Below, Above}
use Rattle.ff_tables.specs.declared.terms.Constraint.{Constraint}
use Rattle.ff_tables.specs.Orders.{term_at}
use Rattle.ff_tables.specs.Systems.{AreFit}
use Rattle.ff_tables.specs.Forces.{Knows, NoneAgrees}
use Rattle.ff_tables.proofs.Agreeing.{forces_more}
use Rattle.ff_propagate.specs.Trees.{Tree, Clash, Full, Fork, With, AtNode, IsTreeAt, IsClashNode}
use Rattle.ff_propagate.proofs.Quiet.{dead_forces, closure_forced}
use Rattle.ff_solver.specs.Paths.{AreSilent, IsAtNode}
use Rattle.ff_solver.proofs.Nodes.{test, test_some, some_test}

differ : {A : Type 0} {o : Option Order} → o ≡ Some Below → o ≡ Some Above → A
differ p q = cc

module _ (cons : List Constraint) (value : ℕ → Option Order) (part : List ℕ) (tried : List (ℕ × Order))
    (f : ℕ → Option Order) (node : IsAtNode cons value tried f) where
  -- where a constraint is dead the node's closure clashes
  pub dead_clash : (vars : ℕ) → AreFit vars cons → (c : ℕ) (con : Constraint) → slice_get cons c ≡ Some con
      → NoneAgrees con.kind con.terms (Knows f) → IsClashNode cons (Knows value) tried
  dead_clash vars fit c con is
      none = record { variable = (term_at con.terms 0).var; below = at Below; above = at Above }
    where
      at : (s : Order) → AtNode cons (Knows value) tried (term_at con.terms 0).var s
      at s = closure_forced cons (With (Knows value) tried) c con (term_at con.terms 0).var s is
          (forces_more con.kind con.terms (Knows f) (AtNode cons (Knows value) tried)
          (term_at con.terms 0).var s (λ j t l q. node.inside (term_at con.terms j).var t q)
          (dead_forces vars cons fit c con is (Knows f) none s))

  module _ (silent : AreSilent cons f) where
    -- where no constraint forces more the values are the node's closure
    pub settled : (v : ℕ) (s : Order) → AtNode cons (Knows value) tried v s → f v ≡ Some s
    settled v s inside = test_some (f v) s (inside (λ u t. test (f u) t) (record {
      base_held = λ u t b. some_test (f u) t (node.holds u t b);
      forced_held = λ c con u t is force. some_test (f u) t
          (silent c con is u t
          (forces_more con.kind con.terms (λ y b. test (f y) b ≡ true) (Knows f) u t
          (λ j b l q. test_some (f (term_at con.terms j).var) b q) force));
    }))

    pub calm : IsClashNode cons (Knows value) tried → ⊥
    calm both = differ (settled both.variable Below both.below) (settled both.variable Above both.above)

    pub record HasLeaf (tree : Tree) : Type 0 where
      pub values : List Order
      pub as_many : length values ≡ length part
      pub each : (j : ℕ) → j < length part → f (slice_index part j) ≡ Some (get_or values j Below)
      pub is : tree ≡ Full values

    -- where all variables of the part have values
    pub full_tree : (tree : Tree) → IsTreeAt cons (Knows value) part tried tree
        → ((j : ℕ) → j < length part → f (slice_index part j) ≡ None → ⊥) → HasLeaf tree
    full_tree Clash both decided = absurd (calm both)
    full_tree (Full values) (_, have)
        decided = record { values = values; as_many = have.as_many; each = λ j l. settled (slice_index part j) (get_or values j Below) (have.has j l); is = refl }
    full_tree (Fork below above) (_, (v, b, tb, ta))
        decided = elim (some_or_none (f (slice_index part b.place))) [
          | inl k ↦ absurd (b.undecided (k.0, subst (λ u. AtNode cons (Knows value) tried u k.0) b.is (node.inside (slice_index part b.place) k.0 k.1)))
          | inr none ↦ absurd (decided b.place b.inside none)
        ]

    pub record HasFork (v : ℕ) (tree : Tree) : Type 0 where
      pub below : Tree
      pub above : Tree
      pub is : tree ≡ Fork below above
      pub tree_below : IsTreeAt cons (Knows value) part ((v, Below) ∷ tried) below
      pub tree_above : IsTreeAt cons (Knows value) part ((v, Above) ∷ tried) above

    -- where the variable at the place k is the first of the part without a value
    pub fork_tree : (tree : Tree) → IsTreeAt cons (Knows value) part tried tree → (k : ℕ) → k < length part
        → f (slice_index part k) ≡ None → ((j : ℕ) → j < k → f (slice_index part j) ≡ None → ⊥)
        → HasFork (slice_index part k) tree
    fork_tree Clash both k l none earlier = absurd (calm both)
    fork_tree (Full values) (_, have) k l none earlier = some_none
        (settled (slice_index part k) (get_or values k Below) (have.has k l)) none
    fork_tree (Fork below above) (_, (v, b, tb, ta)) k l none earlier = elim (cases_order b.place k) [
      | inl e ↦ (let same : v ≡ slice_index part k = sym b.is ∙ ap (slice_index part) e in
          record {
            below = below;
            above = above;
            is = refl;
            tree_below = subst (λ u. IsTreeAt cons (Knows value) part ((u, Below) ∷ tried) below) same tb;
            tree_above = subst (λ u. IsTreeAt cons (Knows value) part ((u, Above) ∷ tried) above) same ta;
          })
      | inr o ↦ elim o [
        | inl less ↦ elim (some_or_none (f (slice_index part b.place))) [
          | inl s ↦ absurd (b.undecided (s.0, subst (λ u. AtNode cons (Knows value) tried u s.0) b.is (node.inside (slice_index part b.place) s.0 s.1)))
          | inr n ↦ absurd (earlier b.place less n)
        ]
        | inr more ↦ (let d = b.earlier k more in some_none (settled (slice_index part k) d.0 d.1) none)
      ]
    ]

  pub clash_tree : (tree : Tree) → IsTreeAt cons (Knows value) part tried tree
      → IsClashNode cons (Knows value) tried → tree ≡ Clash
  clash_tree Clash is both = refl
  clash_tree (Full values) (never, have) both = absurd (never both)
  clash_tree (Fork below above) (never, more) both = absurd (never both)
