-- What is kept of a refutation refutes.
use Rattle.std.proofs.Common.{◌≡◌, ℕ, suc, ◌+◌, ◌<◌, inl, inr, cond, ◌||◌, Bool, true, false, List, [], ◌∷◌, ◌++◌, drop, reverse, refl, sym, ap, ◌∙◌, subst, arith, Option}
use Rattle.std.proofs.lemmas.Bool.{cases_lt}
use Rattle.std.proofs.lemmas.List.{reverse-append}
use Rattle.ff_tables.specs.declared.orders.Order.{Order}
use Rattle.ff_tables.specs.declared.orders.Order.TheVariants.{Below, Above}
use Rattle.ff_tables.specs.declared.terms.Constraint.{Constraint}
use Rattle.ff_tables.specs.Orders.{term_at}
use Rattle.ff_tables.proofs.Agreeing.{forces_more, dead_more}
use Rattle.std.specs.Ordering.{nat_cmp}
use Rattle.std.specs.BTreeSet.{BTreeSet, contains}
use Rattle.std.specs.BTreeMap.{is_at}
use Rattle.ff_tables.specs.declared.terms.Term.{Term}
use Rattle.ff_solver.specs.declared.steps.Step.{Step}
use Rattle.ff_solver.specs.declared.steps.Step.TheVariants as step
use Rattle.ff_solver.specs.Steps.{knows, IsForcedBy, IsDeadBy, Runs}
use Rattle.ff_refute.specs.declared.trimming.Kept.{Kept}
use Rattle.ff_refute.specs.Trimming.{Has, HasAllOf, HasTerms, Covers, IsKnownToo, IsEnough, AreEnough, IsKeptOf}
use Rattle.ff_refute.proofs.Stepping.{later_or_now, no_step}

true_if : (b c : Bool) → c ≡ true → cond b true c ≡ true
true_if true c e = refl
true_if false c e = e

pub or_swapped : (a b : Bool) → (a || b) ≡ (b || a)
or_swapped true true = refl
or_swapped true false = refl
or_swapped false true = refl
or_swapped false false = refl

or_first : (a b : Bool) → a ≡ true → (a || b) ≡ true
or_first true b h = refl
or_first false b h = cc

or_second : (a b : Bool) → b ≡ true → (a || b) ≡ true
or_second true b h = refl
or_second false b h = h

pub has_first : (a b both : BTreeSet ℕ) → ((v : ℕ) → contains nat_cmp both v ≡ (contains nat_cmp a v || contains nat_cmp b v)) → HasAllOf both a
has_first a b both is v h = is v ∙ or_first (contains nat_cmp a v) (contains nat_cmp b v) h

pub has_second : (a b both : BTreeSet ℕ) → ((v : ℕ) → contains nat_cmp both v ≡ (contains nat_cmp a v || contains nat_cmp b v)) → HasAllOf both b
has_second a b both is v h = is v ∙ or_second (contains nat_cmp a v) (contains nat_cmp b v) h

-- one variable more
pub used_more : (ts : List Term) (j v : ℕ) (before old new : BTreeSet ℕ) → v ≡ (term_at ts j).var
    → ((q : ℕ) → contains nat_cmp new q ≡ cond (is_at (nat_cmp v) q) true (contains nat_cmp old q)) → Has new v
    → HasAllOf old before × HasTerms ts j old → HasAllOf new before × HasTerms ts (j + 1) new
used_more ts j v before old new is updates has kept = (
  λ q h. later q (kept.0 q h),
  λ i l. elim (cases_lt i j) [
    | inl lt ↦ later (term_at ts i).var (kept.1 i lt)
    | inr le ↦ let same : j ≡ i = omega (arith, l, le) in subst (λ k. Has new (term_at ts k).var) same (subst (Has new) is has)
  ],
)
  where
    later : HasAllOf new old
    later q h = updates q ∙ true_if (is_at (nat_cmp v) q) (contains nat_cmp old q) h

lacks : {A : Type 0} (uses : BTreeSet ℕ) (v : ℕ) → contains nat_cmp uses v ≡ false → Has uses v → A
lacks uses v without has = cc

module _ (vars : ℕ) (cons : List Constraint) (value : ℕ → Option Order) where
  -- what is known stays known
  known_later : (held : List (ℕ × Order)) (v : ℕ) (s : Order) (u : ℕ) (t : Order) → knows value held u t → knows value ((v, s) ∷ held) u t
  known_later held v s u t (inl b) = inl b
  known_later held v s u t (inr c) = inr (suc c.0, omega (arith, c.1), c.2)

  known_more : (uses : BTreeSet ℕ) (held more : List (ℕ × Order)) (v : ℕ) (s : Order) → IsKnownToo value uses held more
      → IsKnownToo value uses ((v, s) ∷ held) ((v, s) ∷ more)
  known_more uses held more v s known u t has (inl b) = inl b
  known_more uses held more v s known u t has (inr c) = elim (later_or_now v s held u t c) [
    | inl now ↦ inr (0, omega arith, ap (λ x. (x, s)) (sym now.0) ∙ ap (λ x. (u, x)) (sym now.1))
    | inr before ↦ known_later more v s u t (known u t has (inr before))
  ]

  -- two refutations, one behind the other
  pub runs_joined : (xs ys : List Step) (held then : List (ℕ × Order)) (under stack : List (List (ℕ × Order)))
      → Runs vars cons value held under xs → Runs vars cons value then stack ys
      → Runs vars cons value held (under ++ then ∷ stack) (xs ++ ys)
  runs_joined [] ys held then under stack a b = absurd a
  runs_joined (step.Set v s c ∷ xs) ys held then under stack a b = (a.0, a.1, runs_joined xs ys ((v, s) ∷ held) then under stack a.2 b)
  runs_joined (step.Try v ∷ xs) ys held then under stack a b =
      (a.0, runs_joined xs ys ((v, Below) ∷ held) then (((v, Above) ∷ held) ∷ under) stack a.1 b)
  runs_joined (step.Dead c ∷ xs) ys held then [] stack a b =
      (a.0, subst (λ zs. Runs vars cons value then stack (zs ++ ys)) (sym a.1) b)
  runs_joined (step.Dead c ∷ xs) ys held then (h ∷ under) stack a b = (a.0, runs_joined xs ys h then under stack a.1 b)

  pub dead_enough : (held : List (ℕ × Order)) (new : Kept) (c : ℕ) → new.steps.items ≡ step.Dead c ∷ [] → Covers cons c new.uses
      → IsDeadBy cons (knows value held) c → IsEnough vars cons value held new
  dead_enough held new c is terms dead more known = subst (Runs vars cons value more []) (sym is) (still, refl)
    where
      still : IsDeadBy cons (knows value more) c
      still = record {
        constraint = dead.constraint;
        there = dead.there;
        none = dead_more dead.constraint.kind dead.constraint.terms (knows value held) (knows value more)
            (λ j t l k. known (term_at dead.constraint.terms j).var t (terms dead.constraint dead.there j l) k) dead.none;
      }

  pub set_enough : (held : List (ℕ × Order)) (old new : Kept) (v : ℕ) (s : Order) (c : ℕ) → new.steps.items ≡ step.Set v s c ∷ old.steps.items
      → HasAllOf new.uses old.uses → Covers cons c new.uses → v < vars → IsForcedBy cons (knows value held) c v s
      → IsEnough vars cons value ((v, s) ∷ held) old → IsEnough vars cons value held new
  set_enough held old new v s c is has terms l f enough more known = subst (Runs vars cons value more []) (sym is)
      (l, still, enough ((v, s) ∷ more) (known_more old.uses held more v s (λ u t h k. known u t (has u h) k)))
    where
      still : IsForcedBy cons (knows value more) c v s
      still = record {
        constraint = f.constraint;
        there = f.there;
        forces = forces_more f.constraint.kind f.constraint.terms (knows value held) (knows value more) v s
            (λ j t i k. known (term_at f.constraint.terms j).var t (terms f.constraint f.there j i) k) f.forces;
      }

  -- a value of a variable that no kept step uses can be left out
  pub less_enough : (held : List (ℕ × Order)) (kept : Kept) (v : ℕ) (s : Order) → contains nat_cmp kept.uses v ≡ false
      → IsEnough vars cons value ((v, s) ∷ held) kept → IsEnough vars cons value held kept
  less_enough held kept v s without enough more known = enough more less
    where
      less : IsKnownToo value kept.uses ((v, s) ∷ held) more
      less u t has (inl b) = inl b
      less u t has (inr c) = elim (later_or_now v s held u t c) [
        | inl now ↦ lacks kept.uses v without (subst (Has kept.uses) now.0 has)
        | inr before ↦ known u t has (inr before)
      ]

  pub fork_enough : (held : List (ℕ × Order)) (below above new : Kept) (v : ℕ)
      → new.steps.items ≡ step.Try v ∷ (below.steps.items ++ above.steps.items)
      → HasAllOf new.uses below.uses → HasAllOf new.uses above.uses → v < vars
      → IsEnough vars cons value ((v, Below) ∷ held) below → IsEnough vars cons value ((v, Above) ∷ held) above
      → IsEnough vars cons value held new
  fork_enough held below above new v is has_below has_above l a b more known = subst (Runs vars cons value more []) (sym is) (
    l,
    runs_joined below.steps.items above.steps.items ((v, Below) ∷ more) ((v, Above) ∷ more) [] []
        (a ((v, Below) ∷ more) (known_more below.uses held more v Below (λ u t h k. known u t (has_below u h) k)))
        (b ((v, Above) ∷ more) (known_more above.uses held more v Above (λ u t h k. known u t (has_above u h) k))),
  )

last_first : (xs : List Kept) (x : Kept) → reverse (xs ++ x ∷ []) ≡ x ∷ reverse xs
last_first xs x = reverse-append xs (x ∷ [])

module _ (vars : ℕ) (cons : List Constraint) where
  -- a constraint is dead: what is kept is one branch more
  pub kept_dead : (steps : List Step) (old all : List Kept) (new : Kept) (c : ℕ) → all ≡ old ++ new ∷ []
      → ((value : ℕ → Option Order) (held : List (ℕ × Order)) → IsDeadBy cons (knows value held) c → IsEnough vars cons value held new)
      → IsKeptOf vars cons steps old → IsKeptOf vars cons (step.Dead c ∷ steps) all
  kept_dead steps old all new c is each kept = record {
    enough = λ value held stack runs. subst (AreEnough vars cons value (held ∷ stack)) (sym (ap reverse is ∙ last_first old new)) (by value held stack runs);
    none = λ e. no_step e;
  }
    where
      by : (value : ℕ → Option Order) (held : List (ℕ × Order)) (stack : List (List (ℕ × Order))) → Runs vars cons value held stack (step.Dead c ∷ steps)
          → AreEnough vars cons value (held ∷ stack) (new ∷ reverse old)
      by value held [] runs = (each value held runs.0, subst (λ xs. AreEnough vars cons value [] (reverse xs)) (sym (kept.none runs.1)) tt)
      by value held (h ∷ stack) runs = (each value held runs.0, kept.enough value h stack runs.1)

  -- a value is set
  pub kept_set : (steps : List Step) (old rest all : List Kept) (last new : Kept) (v : ℕ) (s : Order) (c : ℕ)
      → old ≡ rest ++ last ∷ [] → all ≡ rest ++ new ∷ []
      → ((value : ℕ → Option Order) (held : List (ℕ × Order)) → v < vars → IsForcedBy cons (knows value held) c v s
      → IsEnough vars cons value ((v, s) ∷ held) last → IsEnough vars cons value held new)
      → IsKeptOf vars cons steps old → IsKeptOf vars cons (step.Set v s c ∷ steps) all
  kept_set steps old rest all last new v s c was is each kept = record {
    enough = λ value held stack runs.
        let e = subst (AreEnough vars cons value (((v, s) ∷ held) ∷ stack)) (ap reverse was ∙ last_first rest last) (kept.enough value ((v, s) ∷ held) stack runs.2) in
        subst (AreEnough vars cons value (held ∷ stack)) (sym (ap reverse is ∙ last_first rest new)) (each value held runs.0 runs.1 e.0, e.1);
    none = λ e. no_step e;
  }

  -- a value is tried
  pub kept_fork : (steps : List Step) (old rest all : List Kept) (below above new : Kept) (v : ℕ)
      → old ≡ (rest ++ above ∷ []) ++ below ∷ [] → all ≡ rest ++ new ∷ []
      → ((value : ℕ → Option Order) (held : List (ℕ × Order)) → v < vars → IsEnough vars cons value ((v, Below) ∷ held) below
      → IsEnough vars cons value ((v, Above) ∷ held) above → IsEnough vars cons value held new)
      → IsKeptOf vars cons steps old → IsKeptOf vars cons (step.Try v ∷ steps) all
  kept_fork steps old rest all below above new v was is each kept = record {
    enough = λ value held stack runs.
        let e = subst (AreEnough vars cons value (((v, Below) ∷ held) ∷ ((v, Above) ∷ held) ∷ stack))
        (ap reverse was ∙ last_first (rest ++ above ∷ []) below ∙ ap (λ xs. below ∷ xs) (last_first rest above))
        (kept.enough value ((v, Below) ∷ held) (((v, Above) ∷ held) ∷ stack) runs.1) in
        subst (AreEnough vars cons value (held ∷ stack)) (sym (ap reverse is ∙ last_first rest new)) (each value held runs.0 e.0 e.1.0, e.1.1);
    none = λ e. no_step e;
  }

  -- what is kept of all steps
  pub all_kept : (steps : List Step) (k : ℕ) (old rest : List Kept) (all : Kept) → k ≡ 0 → old ≡ rest ++ all ∷ []
      → IsKeptOf vars cons (drop k steps) old
      → (value : ℕ → Option Order) → Runs vars cons value [] [] steps → Runs vars cons value [] [] all.steps.items
  all_kept steps k old rest all none was kept value runs =
      let e = subst (AreEnough vars cons value ([] ∷ [])) (ap reverse was ∙ last_first rest all)
      (kept.enough value [] [] (subst (λ i. Runs vars cons value [] [] (drop i steps)) (sym none) runs)) in
      e.0 [] (λ v s h k. k)
