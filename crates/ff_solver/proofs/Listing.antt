-- The solutions at the leaves of a decision tree are the list of solutions.
use Rattle.std.proofs.Common.{◌≡◌, ℕ, zero, suc, ◌<◌, ◌++◌, ◌⊎◌, inl, inr, Bool, true, false, ◌&&◌, List, [], ◌∷◌, length, filter, slice_index, refl, sym, ap, ◌∙◌, subst, arith, Option, Some, Contains}
use Rattle.std.proofs.lemmas.List.{ext_get_or}
use Rattle.std.proofs.lemmas.List.Elements.{filter_map-append}
use Rattle.ff_basics.proofs.Tests.{first_true, second_true, true_and}
use Rattle.ff_basics.proofs.Options.{some_same}
use Rattle.ff_tables.specs.declared.orders.Order.{Order}
use Rattle.ff_tables.specs.declared.orders.Order.TheVariants.{Below, Above}
use Rattle.ff_tables.specs.declared.terms.Constraint.{Constraint}
use Rattle.ff_tables.specs.Orders.{term_at, is_order, row_at}
use Rattle.ff_tables.specs.Rows.{all_lists}
use Rattle.ff_tables.specs.Systems.{AreFit}
use Rattle.ff_tables.specs.Forces.{Knows}
use Rattle.ff_propagate.specs.Parts.{IsPart}
use Rattle.ff_propagate.specs.Solutions.{has_row, joint, solutions_of, is_solution}
use Rattle.ff_propagate.specs.Trees.{Tree, Clash, Full, Fork, With, AtNode, IsTreeAt, IsTree, HasValues, IsClashNode, visits, found, same}
use Rattle.ff_propagate.proofs.Joining.{Stands, AreDistinct, joint_at, joint_either}
use Rattle.ff_propagate.proofs.Quiet.{IsQuiet, all_from, dead_forces, closure_forced}
use Rattle.ff_propagate.proofs.Deciding.{row_or_none}
use Rattle.ff_tables.proofs.Agreeing.{forces_more}
use Rattle.ff_solver.proofs.Lists.{Test, has, and, none_pass, one_passes, splits}
use Rattle.ff_solver.proofs.Nodes.{HasTried, has_node}

is_same : (a b : Order) → is_order a b ≡ true → a ≡ b
is_same Below Below h = refl
is_same Below Above h = cc
is_same Above Below h = cc
is_same Above Above h = refl

same_is : (a b : Order) → a ≡ b → is_order a b ≡ true
same_is Below Below h = refl
same_is Below Above h = cc
same_is Above Below h = cc
same_is Above Above h = refl

differ : Below ≡ Above → ⊥
differ e = cc

-- a variable that was tried before, or the one that is tried now
pub tried_or_now : (v : ℕ) (s : Order) (tried : List (ℕ × Order)) (u : ℕ) (t : Order)
    → Contains ((v, s) ∷ tried) (u, t) → ((u ≡ v) × (t ≡ s)) ⊎ Contains tried (u, t)
tried_or_now v s tried u t (zero, l, e) = inl (ap (λ q. q.0) (sym e), ap (λ q. q.1) (sym e))
tried_or_now v s tried u t (suc k, l, e) = inr (k, omega (arith, l), e)

pub tried_now : (v : ℕ) (s : Order) (tried : List (ℕ × Order)) → Contains ((v, s) ∷ tried) (v, s)
tried_now v s tried = (0, omega arith, refl)

pub tried_before : (v : ℕ) (s : Order) (tried : List (ℕ × Order)) (u : ℕ) (t : Order) → Contains tried (u, t)
    → Contains ((v, s) ∷ tried) (u, t)
tried_before v s tried u t (k, l, e) = (suc k, omega (arith, l), e)

module _ (vars : ℕ) (cons : List Constraint) (value : ℕ → Option Order) (part : List ℕ)
    (fit : AreFit vars cons) (quiet : IsQuiet cons value) (is_part : IsPart vars cons value part) where
  distinct : AreDistinct part
  distinct i j l m e = let r = is_part.rising i j l m in omega (arith, r, e)

  -- the test passes the lists that are solutions and have what was tried
  pub record Selects (tried : List (ℕ × Order)) (p : Test) : Type 0 where
    pub within : (v : ℕ) (s : Order) → Contains tried (v, s) → Stands part v
    pub only : (xs : List Order) → length xs ≡ length part → p xs ≡ true
        → (is_solution cons value part xs ≡ true) × HasTried (joint value part xs) tried
    pub all : (xs : List Order) → length xs ≡ length part → is_solution cons value part xs ≡ true
        → HasTried (joint value part xs) tried → p xs ≡ true

  node_has : (tried : List (ℕ × Order)) (p : Test) → Selects tried p → (xs : List Order)
      → length xs ≡ length part → p xs ≡ true → (v : ℕ) (s : Order) → AtNode cons (Knows value) tried v s
      → joint value part xs v ≡ Some s
  node_has tried p sel xs long e = let r = sel.only xs long e in has_node vars cons value part fit quiet
      is_part xs long r.0 tried r.1

  node_at : (tried : List (ℕ × Order)) (p : Test) → Selects tried p → (xs : List Order)
      → length xs ≡ length part → p xs ≡ true → (j : ℕ) → j < length part → (s : Order)
      → AtNode cons (Knows value) tried (slice_index part j) s → row_at xs j ≡ s
  node_at tried p sel xs long e j l s inside = some_same
      (sym (joint_at value part xs j distinct l long) ∙ node_has tried p sel xs long e (slice_index part j) s
      inside)

  clash_none : (tried : List (ℕ × Order)) (p : Test) → Selects tried p → IsClashNode cons (Knows value) tried
      → filter p (all_lists (length part)) ≡ []
  clash_none tried p sel both_values = none_pass (length part) p (λ xs long e.
      differ (some_same
      (sym (node_has tried p sel xs long e both_values.variable Below both_values.below) ∙ node_has tried
      p sel xs long e both_values.variable Above both_values.above)))

  -- the closure at a node without a clash has one value
  one_value : (tried : List (ℕ × Order)) → (IsClashNode cons (Knows value) tried → ⊥) → (v : ℕ) (s t : Order)
      → AtNode cons (Knows value) tried v s → AtNode cons (Knows value) tried v t → s ≡ t
  one_value tried calm v Below Below a b = refl
  one_value tried calm v Below Above a b = absurd (calm (record { variable = v; below = a; above = b }))
  one_value tried calm v Above Below a b = absurd (calm (record { variable = v; below = b; above = a }))
  one_value tried calm v Above Above a b = refl

  -- the values of a full leaf are a solution
  pub full_solves : (tried : List (ℕ × Order)) (values : List Order) → (IsClashNode cons (Knows value) tried → ⊥)
      → HasValues cons (Knows value) tried part values → is_solution cons value part values ≡ true
  full_solves tried values calm have = all_from (has_row (joint value part values)) cons
      (λ c con is. elim (row_or_none (joint value part values) con) [
        | inl e ↦ e
        | inr none ↦ absurd (calm (
            let known : (j : ℕ) (t : Order) → j < length con.terms
            → joint value part values (term_at con.terms j).var ≡ Some t
            → AtNode cons (Knows value) tried (term_at con.terms j).var t =
            λ j t l q. at_node (term_at con.terms j).var t q in
            let at : (s : Order) → AtNode cons (Knows value) tried (term_at con.terms 0).var s =
            λ s. closure_forced cons (With (Knows value) tried) c con (term_at con.terms 0).var s is
            (forces_more con.kind con.terms (Knows (joint value part values)) (AtNode cons (Knows value) tried)
            (term_at con.terms 0).var s known
            (dead_forces vars cons fit c con is (Knows (joint value part values)) none s)) in
            record { variable = (term_at con.terms 0).var; below = at Below; above = at Above }))
      ])
    where
      at_node : (v : ℕ) (t : Order) → joint value part values v ≡ Some t → AtNode cons (Knows value) tried v t
      at_node v t q = elim (joint_either value part values v) [
        | inl st ↦ (
            let here : row_at values st.0 ≡ t = some_same
            (sym (joint_at value part values st.0 distinct st.1 have.as_many)
            ∙ ap (joint value part values) st.2 ∙ q) in
            subst (λ u. AtNode cons (Knows value) tried u t) st.2
            (subst (λ s. AtNode cons (Knows value) tried (slice_index part st.0) s) here
            (have.has st.0 st.1)))
        | inr e ↦ (λ P closed. closed.base_held v t (inl (sym e ∙ q)))
      ]

  full_one : (tried : List (ℕ × Order)) (p : Test) → Selects tried p → (values : List Order)
      → (IsClashNode cons (Knows value) tried → ⊥) → HasValues cons (Knows value) tried part values
      → filter p (all_lists (length part)) ≡ values ∷ []
  full_one tried p sel values calm have = one_passes (length part) p values have.as_many
      (sel.all values have.as_many (full_solves tried values calm have) (λ v s among.
      let st = sel.within v s among in
      let mine : AtNode cons (Knows value) tried (slice_index part st.0)
      s = subst (λ u. AtNode cons (Knows value) tried u s) (sym st.2)
      (λ P closed. closed.base_held v s (inr among)) in
      ap (joint value part values) (sym st.2) ∙ joint_at value part values st.0 distinct st.1 have.as_many
      ∙ ap (λ t. Some t)
      (one_value tried calm (slice_index part st.0) (row_at values st.0) s (have.has st.0 st.1) mine)))
      (λ xs long e. ext_get_or Below xs values (long ∙ sym have.as_many)
      (λ j l. node_at tried p sel xs long e j (omega (arith, l, long)) (row_at values j)
      (have.has j (omega (arith, l, long)))))

  select_more : (tried : List (ℕ × Order)) (p : Test) → Selects tried p → (k : ℕ) → k < length part
      → (s : Order) → Selects ((slice_index part k, s) ∷ tried) (and p (has k s))
  select_more tried p sel k l s = record {
    within = λ v t among. elim (tried_or_now (slice_index part k) s tried v t among) [
      | inl now ↦ (k, l, sym now.0)
      | inr old ↦ sel.within v t old
    ];
    only = λ xs long e.
        let r = sel.only xs long (first_true (p xs) (has k s xs) e) in (
          r.0,
          λ v t among. elim (tried_or_now (slice_index part k) s tried v t among) [
            | inl now ↦ ap (joint value part xs) now.0 ∙ joint_at value part xs k distinct l long
                ∙ ap (λ b. Some b) (is_same (row_at xs k) s (second_true (p xs) (has k s xs) e) ∙ sym now.1)
            | inr old ↦ r.1 v t old
          ],
        );
    all = λ xs long e tries. true_and (p xs) (has k s xs)
        (sel.all xs long e (λ v t among. tries v t (tried_before (slice_index part k) s tried v t among)))
        (same_is (row_at xs k) s
        (some_same
        (sym (joint_at value part xs k distinct l long) ∙ tries (slice_index part k) s
        (tried_now (slice_index part k) s tried))));
  }

  pub listed : (tree : Tree) (tried : List (ℕ × Order)) (p : Test) → Selects tried p
      → IsTreeAt cons (Knows value) part tried tree → found (visits tree) ≡ filter p (all_lists (length part))
  listed Clash tried p sel is = sym (clash_none tried p sel is)
  listed (Full values) tried p sel (calm, have) = sym (full_one tried p sel values calm have)
  listed (Fork below above) tried p sel (calm, (v, b, tb, ta)) =
      let more : (s : Order)
      → Selects ((v, s) ∷ tried) (and p (has b.place s)) = λ s.
      subst (λ u. Selects ((u, s) ∷ tried) (and p (has b.place s))) b.is
      (select_more tried p sel b.place b.inside s) in
      filter_map-append same (visits below) (visits above)
      ∙ ap (λ ls. ls ++ found (visits above))
      (listed below ((v, Below) ∷ tried) (and p (has b.place Below)) (more Below) tb)
      ∙ ap (λ ls. filter (and p (has b.place Below)) (all_lists (length part)) ++ ls)
      (listed above ((v, Above) ∷ tried) (and p (has b.place Above)) (more Above) ta)
      ∙ sym (splits (length part) p b.place b.inside
      (λ j l. let d = b.earlier j
      l in (d.0, λ xs long e. node_at tried p sel xs long e j (omega (arith, l, b.inside)) d.0 d.1)))

  no_tried : {A : Type 0} (v : ℕ) (s : Order) → Contains {X = ℕ × Order} [] (v, s) → A
  no_tried v s (k, l, e) = absurd (omega (arith, l))

  -- the solutions at the leaves of the part's tree, in tree order, are the part's solutions in their order
  pub solutions_found : (tree : Tree) → IsTree cons value part tree
      → found (visits tree) ≡ solutions_of cons value part
  solutions_found tree is = listed tree [] (is_solution cons value part) (record {
    within = λ v s among. no_tried v s among;
    only = λ xs long e. (e, λ v s among. no_tried v s among);
    all = λ xs long e tries. e;
  }) is
