-- The decision tree of a part is the one of its own system.
use Rattle.std.proofs.Common.{◌≡◌, ℕ, ◌<◌, ◌⊎◌, inl, inr, List, [], ◌∷◌, length, slice_index, slice_index_or, refl, sym, ◌∙◌, subst, arith, Option, Some, None}
use Rattle.ff_basics.proofs.Options.{some_or_none}
use Rattle.ff_tables.specs.declared.orders.Order.{Order}
use Rattle.ff_tables.specs.declared.orders.Order.TheVariants.{Below, Above}
use Rattle.ff_tables.specs.declared.terms.Constraint.{Constraint}
use Rattle.ff_tables.specs.Systems.{AreFit}
use Rattle.ff_tables.specs.Forces.{Knows}
use Rattle.ff_propagate.specs.Parts.{IsPart}
use Rattle.ff_propagate.specs.Trees.{Tree, Clash, Full, Fork, AtNode, IsTreeAt, IsTree, IsClashNode, IsBranching}
use Rattle.ff_propagate.proofs.Quiet.{IsQuiet}
use Rattle.ff_solver.specs.Paths.{IsAtNode}
use Rattle.ff_solver.specs.Copies.{AreOwn, AreOwnNumbers}
use Rattle.ff_solver.proofs.Branching.{node_set}
use Rattle.ff_solver.proofs.Inverting.{calm}
use Rattle.ff_solver.proofs.Existing.{IsClosedNode, close_by, count_open, put, put_here, put_other}
use Rattle.ff_solver.proofs.Copied.{AreSame, same_more, no_clash, node_over, no_own_clash, node_from}

module _ (vars own_vars : ℕ) (cons own : List Constraint) (fit : AreFit vars cons) (own_fit : AreFit own_vars own)
    (value own_value : ℕ → Option Order) (part names numbers : List ℕ)
    (quiet : IsQuiet cons value) (is_part : IsPart vars cons value part) (are_own : AreOwn cons own value own_value part names)
    (are_numbers : AreOwnNumbers numbers (length part)) where
  abbrev Closes : List (ℕ × Order) → (ℕ → Option Order) → Type 0
  Closes tried a = IsClashNode cons (Knows value) tried ⊎ IsClosedNode vars cons value fit tried a

  abbrev OwnCloses : List (ℕ × Order) → (ℕ → Option Order) → Type 0
  OwnCloses tried b = IsClashNode own (Knows own_value) tried ⊎ IsClosedNode own_vars own own_value own_fit tried b

  over_clash : (tried own_tried : List (ℕ × Order)) → AreSame part tried own_tried → (b : ℕ → Option Order)
      → IsClashNode cons (Knows value) tried → OwnCloses own_tried b → IsClashNode own (Knows own_value) own_tried
  over_clash tried own_tried same b is (inl y) = y
  over_clash tried own_tried same b is (inr h) = absurd (no_clash vars cons own fit value own_value part names quiet is_part are_own tried own_tried same h.values h.node h.silent is)

  over_full : (tried own_tried : List (ℕ × Order)) → AreSame part tried own_tried → (a b : ℕ → Option Order) → (values : List Order)
      → IsTreeAt cons (Knows value) part tried (Full values) → Closes tried a → OwnCloses own_tried b
      → IsTreeAt own (Knows own_value) numbers own_tried (Full values)
  over_full tried own_tried same a b values is (inl x) y = absurd (is.0 x)
  over_full tried own_tried same a b values is (inr k) (inl y) =
      absurd (no_own_clash vars cons own fit value own_value part names quiet is_part are_own tried own_tried same k.values k.node k.silent y)
  over_full tried own_tried same a b values is (inr k) (inr h) = (
    calm own own_value numbers own_tried h.values h.node h.silent,
    record {
      as_many = is.1.as_many ∙ sym are_numbers.0;
      has = λ j l.
          let m : j < length part = omega (arith, l, are_numbers.0) in
          subst (λ u. AtNode own (Knows own_value) own_tried u (slice_index_or values j Below)) (sym (are_numbers.1 j m))
          (node_over vars cons own fit value own_value part names quiet is_part are_own tried own_tried same h.values h.node h.silent j (slice_index_or values j Below) m (is.1.has j m));
    },
  )

  -- what is known at a node with two children, and at the children
  record IsForked (tried own_tried : List (ℕ × Order)) (v p : ℕ) : Type 0 where
    inside : p < length part
    is : slice_index part p ≡ v
    calm_own : IsClashNode own (Knows own_value) own_tried → ⊥
    branching : IsBranching own (Knows own_value) own_tried numbers p
    values : ℕ → Option Order
    own_values : ℕ → Option Order
    node : IsAtNode cons value tried values
    own_node : IsAtNode own own_value own_tried own_values
    open_yet : values v ≡ None
    own_open : own_values p ≡ None

  forked : (tried own_tried : List (ℕ × Order)) → AreSame part tried own_tried → (a b : ℕ → Option Order) → (v : ℕ)
      → (IsClashNode cons (Knows value) tried → ⊥) → (br : IsBranching cons (Knows value) tried part v)
      → Closes tried a → OwnCloses own_tried b → IsForked tried own_tried v br.place
  forked tried own_tried same a b v free br (inl x) y = absurd (free x)
  forked tried own_tried same a b v free br (inr k) (inl y) =
      absurd (no_own_clash vars cons own fit value own_value part names quiet is_part are_own tried own_tried same k.values k.node k.silent y)
  forked tried own_tried same a b v free br (inr k) (inr h) =
      let never : (s : Order) → AtNode own (Knows own_value) own_tried br.place s → ⊥ = λ s d. br.undecided (
        s,
        subst (λ u. AtNode cons (Knows value) tried u s) br.is
            (node_from vars cons own fit value own_value part names quiet is_part are_own tried own_tried same k.values k.node k.silent br.place s br.inside d),
      ) in
      record {
        inside = br.inside;
        is = br.is;
        calm_own = calm own own_value numbers own_tried h.values h.node h.silent;
        branching = record {
          place = br.place;
          inside = omega (arith, br.inside, are_numbers.0);
          is = are_numbers.1 br.place br.inside;
          undecided = λ d. never d.0 d.1;
          earlier = λ j l.
              let m : j < length part = omega (arith, l, br.inside) in
              let d = br.earlier j l in (
                d.0,
                subst (λ u. AtNode own (Knows own_value) own_tried u d.0) (sym (are_numbers.1 j m))
                    (node_over vars cons own fit value own_value part names quiet is_part are_own tried own_tried same h.values h.node h.silent j d.0 m d.1),
              );
        };
        values = k.values;
        own_values = h.values;
        node = k.node;
        own_node = h.node;
        open_yet = elim (some_or_none (k.values v)) [
          | inl s ↦ absurd (br.undecided (s.0, k.node.inside v s.0 s.1))
          | inr none ↦ none
        ];
        own_open = elim (some_or_none (h.values br.place)) [
          | inl s ↦ absurd (never s.0 (h.node.inside br.place s.0 s.1))
          | inr none ↦ none
        ];
      }

  -- the tree below a node is the one below the own node
  trees_over : (tree : Tree) (tried own_tried : List (ℕ × Order)) → AreSame part tried own_tried
      → (a b : ℕ → Option Order) → IsAtNode cons value tried a → IsAtNode own own_value own_tried b
      → IsTreeAt cons (Knows value) part tried tree → IsTreeAt own (Knows own_value) numbers own_tried tree
  trees_over Clash tried own_tried same a b at own_at is = over_clash tried own_tried same b is
      (close_by own_vars own own_value own_fit (count_open b own_vars) own_tried b own_at (omega arith))
  trees_over (Full values) tried own_tried same a b at own_at is = over_full tried own_tried same a b values is
      (close_by vars cons value fit (count_open a vars) tried a at (omega arith))
      (close_by own_vars own own_value own_fit (count_open b own_vars) own_tried b own_at (omega arith))
  trees_over (Fork below above) tried own_tried same a b at own_at (free, (v, br, tb, ta)) =
      let k = forked tried own_tried same a b v free br
      (close_by vars cons value fit (count_open a vars) tried a at (omega arith))
      (close_by own_vars own own_value own_fit (count_open b own_vars) own_tried b own_at (omega arith)) in
      let p = br.place in (
        k.calm_own,
        (
          p,
          k.branching,
          trees_over below ((v, Below) ∷ tried) ((p, Below) ∷ own_tried) (same_more part tried own_tried same v p Below k.inside k.is) (put k.values v Below) (put k.own_values p Below)
              (node_set cons value tried k.values (put k.values v Below) v Below k.node k.open_yet (put_here k.values v Below) (put_other k.values v Below))
              (node_set own own_value own_tried k.own_values (put k.own_values p Below) p Below k.own_node k.own_open (put_here k.own_values p Below) (put_other k.own_values p Below)) tb,
          trees_over above ((v, Above) ∷ tried) ((p, Above) ∷ own_tried) (same_more part tried own_tried same v p Above k.inside k.is) (put k.values v Above) (put k.own_values p Above)
              (node_set cons value tried k.values (put k.values v Above) v Above k.node k.open_yet (put_here k.values v Above) (put_other k.values v Above))
              (node_set own own_value own_tried k.own_values (put k.own_values p Above) p Above k.own_node k.own_open (put_here k.own_values p Above) (put_other k.own_values p Above)) ta,
        ),
      )

  root : (some_cons : List Constraint) (f : ℕ → Option Order) → IsAtNode some_cons f [] f
  root some_cons f = record {
    inside = λ v s e set closed. closed.base_held v s (inl e);
    holds = λ v s with_it. elim with_it [ inl e ↦ e | inr among ↦ absurd (omega (arith, among.1)) ];
  }

  -- the tree of the part is that of the own system
  pub own_tree : (tree : Tree) → IsTree cons value part tree → IsTree own own_value numbers tree
  own_tree tree is = trees_over tree [] []
      (record { to = λ v s among. absurd (omega (arith, among.1)); back = λ p s among. absurd (omega (arith, among.1)) })
      value own_value (root cons value) (root own own_value) is
