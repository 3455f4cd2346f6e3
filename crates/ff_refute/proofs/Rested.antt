-- Each value that is kept is rested on.
use Rattle.std.proofs.Common.{◌≡◌, ℕ, zero, suc, ◌+◌, ◌⊎◌, inl, inr, cond, ◌||◌, Bool, true, false, List, [], ◌∷◌, ◌++◌, refl, sym, ◌∙◌, subst, arith, Option, Some, None}
use Rattle.std.proofs.lemmas.List.Elements.{All-push, All-pop}
use Rattle.std.proofs.lemmas.Bool.{eqb-true}
use Rattle.std.specs.Prelude.{◌==◌, nat_lt}
use Rattle.std.specs.List.{All}
use Rattle.std.specs.Ordering.{nat_cmp}
use Rattle.std.specs.BTreeSet.{BTreeSet, contains}
use Rattle.std.specs.BTreeMap.{is_at}
use Rattle.ff_tables.specs.declared.orders.Order.{Order}
use Rattle.ff_tables.specs.declared.terms.Term.{Term}
use Rattle.ff_tables.specs.declared.terms.Constraint.{Constraint}
use Rattle.ff_tables.specs.Orders.{term_at}
use Rattle.ff_solver.specs.declared.steps.Step.{Step}
use Rattle.ff_solver.specs.declared.steps.Step.TheVariants as step
use Rattle.ff_refute.specs.declared.trimming.Kept.{Kept}
use Rattle.ff_refute.specs.Telling.{by_of}
use Rattle.ff_refute.proofs.Makes.{equal_keys}
use Rattle.ff_refute.specs.Trimming.{Has, IsTermOf, IsVariableOf, AreUsing, IsRestedOn, closes, sets, tries, IsLean}

none_there : {A : Type 0} (q : Step) → ◌≡◌ {A = Option Step} None (Some q) → A
none_there q e = cc

module _ (cons : List Constraint) where
  using_first : (q : Step) (steps : List Step) (c v : ℕ) → by_of q ≡ Some c → IsVariableOf cons c v → AreUsing cons (q ∷ steps) v
  using_first q steps c v by has = (zero, q, c, refl, by, has)

  using_later : (q : Step) (steps : List Step) (v : ℕ) → AreUsing cons steps v → AreUsing cons (q ∷ steps) v
  using_later q steps v u = (suc u.0, u.1, u.2, u.3, u.4, u.5)

  using_front : (xs ys : List Step) (v : ℕ) → AreUsing cons xs v → AreUsing cons (xs ++ ys) v
  using_front [] ys v u = none_there u.1 u.3
  using_front (x ∷ xs) ys v (zero, q, c, at, by, has) = (zero, q, c, at, by, has)
  using_front (x ∷ xs) ys v (suc i, q, c, at, by, has) = using_later x (xs ++ ys) v (using_front xs ys v (i, q, c, at, by, has))

  using_back : (xs ys : List Step) (v : ℕ) → AreUsing cons ys v → AreUsing cons (xs ++ ys) v
  using_back [] ys v u = u
  using_back (x ∷ xs) ys v u = using_later x (xs ++ ys) v (using_back xs ys v u)

  pub dead_lean : (new : Kept) (before : BTreeSet ℕ) (c : ℕ) → new.steps.items ≡ step.Dead c ∷ [] → before.keys ≡ []
      → ((v : ℕ) → Has new.uses v → Has before v ⊎ IsVariableOf cons c v) → IsLean cons new
  dead_lean new before c is empty only = record {
    rested = subst (IsRestedOn cons) (sym is) (closes c);
    only = λ v h. subst (λ xs. AreUsing cons xs v) (sym is) (elim (only v h) [
      | inl old ↦ none v old
      | inr has ↦ using_first (step.Dead c) [] c v refl has
    ]);
  }
    where
      none : {A : Type 0} (v : ℕ) → Has before v → A
      none v old = cc

  pub set_lean : (old new : Kept) (v : ℕ) (s : Order) (c : ℕ) → new.steps.items ≡ step.Set v s c ∷ old.steps.items → Has old.uses v
      → ((u : ℕ) → Has new.uses u → Has old.uses u ⊎ IsVariableOf cons c u) → IsLean cons old → IsLean cons new
  set_lean old new v s c is used only lean = record {
    rested = subst (IsRestedOn cons) (sym is) (sets v s c old.steps.items (lean.only v used) lean.rested);
    only = λ u h. subst (λ xs. AreUsing cons xs u) (sym is) (elim (only u h) [
      | inl before ↦ using_later (step.Set v s c) old.steps.items u (lean.only u before)
      | inr has ↦ using_first (step.Set v s c) old.steps.items c u refl has
    ]);
  }

  pub fork_lean : (below above new : Kept) (v : ℕ) → new.steps.items ≡ step.Try v ∷ (below.steps.items ++ above.steps.items)
      → Has below.uses v → Has above.uses v
      → ((u : ℕ) → contains nat_cmp new.uses u ≡ (contains nat_cmp below.uses u || contains nat_cmp above.uses u))
      → IsLean cons below → IsLean cons above → IsLean cons new
  fork_lean below above new v is has_below has_above both a b = record {
    rested = subst (IsRestedOn cons) (sym is) (tries v below.steps.items above.steps.items (a.only v has_below) (b.only v has_above) a.rested b.rested);
    only = λ u h. subst (λ xs. AreUsing cons xs u) (sym is) (using_later (step.Try v) (below.steps.items ++ above.steps.items) u
        (elim (or_either (contains nat_cmp below.uses u) (contains nat_cmp above.uses u) (sym (both u) ∙ h)) [
          | inl first ↦ using_front below.steps.items above.steps.items u (a.only u first)
          | inr second ↦ using_back below.steps.items above.steps.items u (b.only u second)
        ]));
  }
    where
      or_either : (x y : Bool) → (x || y) ≡ true → (x ≡ true) ⊎ (y ≡ true)
      or_either true y e = inl refl
      or_either false y e = inr e

  pub lean_more : (old all : List Kept) (new : Kept) → all ≡ old ++ new ∷ [] → IsLean cons new → All (IsLean cons) old → All (IsLean cons) all
  lean_more old all new is one lean = subst (All (IsLean cons)) (sym is) (All-push (IsLean cons) old new lean one)

  pub lean_set : (old rest all : List Kept) (last new : Kept) → old ≡ rest ++ last ∷ [] → all ≡ rest ++ new ∷ []
      → (IsLean cons last → IsLean cons new) → All (IsLean cons) old → All (IsLean cons) all
  lean_set old rest all last new was is step lean =
      let p = All-pop (IsLean cons) old rest (Some last) was lean in lean_more rest all new is (step p.1) p.0

  pub lean_fork : (old front rest all : List Kept) (below above new : Kept) → old ≡ front ++ below ∷ [] → front ≡ rest ++ above ∷ []
      → all ≡ rest ++ new ∷ [] → (IsLean cons below → IsLean cons above → IsLean cons new) → All (IsLean cons) old → All (IsLean cons) all
  lean_fork old front rest all below above new was before is fork lean =
      let p = All-pop (IsLean cons) old front (Some below) was lean in
      let q = All-pop (IsLean cons) front rest (Some above) before p.0 in
      lean_more rest all new is (fork p.1 q.1) q.0

  pub lean_all : (old rest : List Kept) (all : Kept) → old ≡ rest ++ all ∷ [] → All (IsLean cons) old → IsRestedOn cons all.steps.items
  lean_all old rest all was lean = (All-pop (IsLean cons) old rest (Some all) was lean).1.rested

-- one variable more
pub only_more : (ts : List Term) (j v : ℕ) (before old new : BTreeSet ℕ) → v ≡ (term_at ts j).var
    → ((q : ℕ) → contains nat_cmp new q ≡ cond (is_at (nat_cmp v) q) true (contains nat_cmp old q))
    → ((u : ℕ) → Has old u → Has before u ⊎ IsTermOf ts j u) → (u : ℕ) → Has new u → Has before u ⊎ IsTermOf ts (j + 1) u
only_more ts j v before old new is updates only u has = by (is_at (nat_cmp v) u) refl (sym (updates u) ∙ has)
  where
    by : (b : Bool) → is_at (nat_cmp v) u ≡ b → cond b true (contains nat_cmp old u) ≡ true → Has before u ⊎ IsTermOf ts (j + 1) u
    by true e h = inr (j, omega arith, sym is ∙ eqb-true v u (equal_keys (nat_lt v u) (v == u) e))
    by false e h = elim (only u h) [
      | inl was ↦ inl was
      | inr term ↦ inr (term.0, (let l = term.1 in omega (arith, l)), term.2)
    ]
