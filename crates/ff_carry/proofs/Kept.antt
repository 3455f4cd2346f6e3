-- One old fact more is tried.
use Rattle.std.proofs.Common.{◌≡◌, ◌≢◌, ◌⊎◌, ⊎_elim, inl, inr, ℕ, zero, suc, [], ◌∷◌, ◌+◌, ◌<◌, ◌≤◌, List, length, length-set, slice_get, set, get_or, get_or-set_same, get_or-set_other, sym, refl, ap, ◌∙◌, subst, arith, Option, Some, None}
use mathlib.Core.Logic.{dite}
use native.Mathlib.Decide.{ℕ_discrete}
use Rattle.ff_tables.specs.declared.terms.Constraint.{Constraint}
use Rattle.ff_tables.specs.Orders.{term_at}
use Rattle.ff_tables.specs.declared.givens.Given.{Given}
use Rattle.ff_tables.proofs.Agreeing.{forces_more}
use Rattle.ff_propagate.specs.declared.facts.Fact.{Fact}
use Rattle.ff_propagate.specs.declared.facts.Reason.{Reason}
use Rattle.ff_propagate.specs.declared.facts.Reason.TheVariants as by
use Rattle.ff_propagate.specs.Facts.{fact_at, IsKnownBelow}
use Rattle.ff_propagate.specs.FactRule.{IsForcedBelow, MeetsFactRule, StandsBy}
use Rattle.ff_carry.specs.declared.placing.Placed.{Placed}
use Rattle.ff_carry.specs.Carrying.{IsKept}
use Rattle.ff_carry.specs.Keeping.{Keeps, IsKeeping, AreKept}
use Rattle.ff_carry.specs.Placing.{IsOrder}

-- more that is known of lower levels
forced_more : (cons : List Constraint) (fs xs : List (Option Fact)) (c k v : ℕ) (s : _) → ((u : ℕ) (g : Fact) → g.level < k → fact_at fs u ≡ Some g → fact_at xs u ≡ Some g) → IsForcedBelow cons fs c k v s → IsForcedBelow cons xs c k v s
forced_more cons fs xs c k v s up f = record {
  constraint = f.constraint;
  there = f.there;
  forces = forces_more f.constraint.kind f.constraint.terms (IsKnownBelow fs k) (IsKnownBelow xs k) v s
      (λ j t l q. record { fact = q.fact; there = up _ q.fact q.lower q.there; lower = q.lower; value = q.value }) f.forces;
}

pub kept_more : (cons : List Constraint) (old fs xs : List (Option Fact)) (v : ℕ) (h : Fact) → ((u : ℕ) (g : Fact) → g.level < h.level → fact_at fs u ≡ Some g → fact_at xs u ≡ Some g) → IsKept cons old fs v h → IsKept cons old xs v h
kept_more cons old fs xs v h up k = record { was = k.was; number = k.number; by_constraint = k.by_constraint; still = forced_more cons fs xs k.number h.level v h.value up k.still }

pub same_fact : (x : Option Fact) (g h : Fact) → x ≡ Some g → x ≡ Some h → g ≡ h
same_fact x g h a b = cc

pub some_none : (x : Option Fact) (h : Fact) → x ≡ None → x ≡ Some h → ⊥
some_none x h a b = let e : None ≡ Some h = sym a ∙ b in cc

pub inside : (fs : List (Option Fact)) (v : ℕ) (h : Fact) → fact_at fs v ≡ Some h → v < length fs
inside [] v h e = absurd (let q : None ≡ Some h = e in cc)
inside (x ∷ fs) zero h e = omega arith
inside (x ∷ fs) (suc v) h e = omega (arith, inside fs v h e)

pair_level : (p q : Placed) → Some p ≡ Some q → (p.level ≡ q.level) × (p.var ≡ q.var)
pair_level p q e = let r = one p q e in (ap (λ (z : Placed). z.level) r, ap (λ (z : Placed). z.var) r)
  where
    one : (a b : Placed) → Some a ≡ Some b → a ≡ b
    one a b e = cc

pub at_place : (order : List Placed) (n : ℕ) → n < length order → slice_get order n ≡ Some (get_or order n (record { level = 0; var = 0 }))
at_place [] n l = absurd (omega arith)
at_place (p ∷ order) zero l = refl
at_place (p ∷ order) (suc n) l = at_place order n (omega arith)

pub keeps_on : (cons : List Constraint) (base old fs fs' : List (Option Fact)) (order : List Placed) (n k v : ℕ) → IsOrder old order → slice_get order n ≡ Some (record { level = k; var = v }) → length base ≡ length old
    → IsKeeping cons base old order n fs → Keeps cons old fs v fs' → IsKeeping cons base old order (n + 1) fs'
keeps_on cons base old fs fs' order n k v o at wide was (inl t) =
    subst (IsKeeping cons base old order (n + 1)) (sym t.0) (record {
      wide = was.wide;
      based = was.based;
      sound = was.sound;
      done = λ u h i b kept l e. dite (ℕ_discrete i n)
          (λ s. let p = pair_level (record { level = k; var = v }) (record { level = h.level; var = u }) (sym at ∙ (ap (slice_get order) (sym s) ∙ e)) in
          let kept' = subst (λ (w : ℕ). IsKept cons old fs w h) (sym p.1) kept in
          let x = t.1 h kept' in
          let y = was.sound v x.0 (ap (fact_at base) p.1 ∙ b) x.1 in
          ap (fact_at fs) (sym p.1) ∙ (x.1 ∙ ap Some (same_fact (fact_at old v) x.0 h y.was kept'.was)))
          (λ d. was.done u h i b kept (omega arith) e);
    })
keeps_on cons base old fs fs' order n k v o at wide was (inr t) =
    let h0 = t.1.0 in let mine = t.1.1 in
    let W = set fs v (Some h0) in
    let l : v < length fs = omega (arith, inside old v h0 mine.was, was.wide, wide) in
    let here : fact_at W v ≡ Some h0 = get_or-set_same fs v (Some h0) None l in
    let else_is : (u : ℕ) → u ≢ v → fact_at W u ≡ fact_at fs u = λ u d. get_or-set_other fs v u (Some h0) None d in
    let up : (u : ℕ) (g : Fact) → fact_at fs u ≡ Some g → fact_at W u ≡ Some g = λ u g e. dite (ℕ_discrete u v) (λ s. absurd (some_none (fact_at fs v) g t.0 (ap (fact_at fs) (sym s) ∙ e))) (λ d. else_is u d ∙ e) in
    let level : h0.level ≡ k = let q = o.each n (record { level = k; var = v }) at in ap (λ (x : Fact). x.level) (same_fact (fact_at old v) h0 q.0 mine.was q.1) ∙ q.2 in
    subst (IsKeeping cons base old order (n + 1)) (sym t.1.2) (record {
      wide = length-set fs v (Some h0) ∙ was.wide;
      based = λ u h e. up u h (was.based u h e);
      sound = λ u h b e. dite (ℕ_discrete u v)
          (λ s. let same : h0 ≡ h = same_fact (fact_at W v) h0 h here (ap (fact_at W) (sym s) ∙ e) in
          subst (λ (z : ℕ × Fact). IsKept cons old W z.0 z.1) (λ i. (sym s i, same i)) (kept_more cons old fs W v h0 (λ w g _ p. up w g p) mine))
          (λ d. kept_more cons old fs W u h (λ w g _ p. up w g p) (was.sound u h b (sym (else_is u d) ∙ e)));
      done = λ u h i b kept lt e. dite (ℕ_discrete u v)
          (λ s. ap (fact_at W) s ∙ (here ∙ ap Some (same_fact (fact_at old v) h0 h mine.was (ap (fact_at old) (sym s) ∙ kept.was))))
          (λ d. let before : i < n = dite (ℕ_discrete i n) (λ s. absurd (d (sym (pair_level (record { level = k; var = v }) (record { level = h.level; var = u }) (sym at ∙ (ap (slice_get order) (sym s) ∙ e))).1))) (λ q. omega arith) in
          let low : h.level ≤ k = o.sorted i n (record { level = h.level; var = u }) (record { level = k; var = v }) (omega arith) e at in
          let less = kept_more cons old W fs u h (λ w g m p. dite (ℕ_discrete w v)
          (λ s. absurd (let same : h0 ≡ g = same_fact (fact_at W v) h0 g here (ap (fact_at W) (sym s) ∙ p) in let q : h0.level ≡ g.level = ap (λ (x : Fact). x.level) same in omega (arith, q, level, low, m)))
          (λ r. sym (else_is w r) ∙ p)) kept in
          else_is u d ∙ was.done u h i b less before e);
    })

pub kept_all : (cons : List Constraint) (base old fs : List (Option Fact)) (order : List Placed) (n : ℕ) → IsOrder old order → ((i : ℕ) (p : Placed) → slice_get order i ≡ Some p → i < n) → IsKeeping cons base old order n fs → AreKept cons base old fs
kept_all cons base old fs order n o all was = record {
  wide = was.wide;
  based = was.based;
  sound = was.sound;
  all = λ v h b kept. let q = o.all v h kept.was in was.done v h q.0 b kept (all q.0 (record { level = h.level; var = v }) q.1) q.1;
}

pub starts : (cons : List Constraint) (base old : List (Option Fact)) (order : List Placed) → IsKeeping cons base old order 0 base
starts cons base old order = record {
  wide = refl;
  based = λ v h e. e;
  sound = λ v h b e. absurd (some_none (fact_at base v) h b e);
  done = λ v h i b kept l e. absurd (omega arith);
}

-- the old fact's reason is a constraint that has the variable and forces the value
pub reason_is : (vars : ℕ) (cons : List Constraint) (gs : List Given) (old : List (Option Fact)) (v c : ℕ) (h : Fact) → MeetsFactRule vars cons gs old → fact_at old v ≡ Some h → h.reason ≡ by.Forced c
    → (0 < h.level) × IsForcedBelow cons old c h.level v h.value
reason_is vars cons gs old v c h rule at is = subst (StandsBy cons gs old v h.value h.level) is (rule.stands v h at)

pub no_reason : (h : Fact) (i c : ℕ) → h.reason ≡ by.Given i → h.reason ≡ by.Forced c → ⊥
no_reason h i c a b = let e : by.Given i ≡ by.Forced c = sym a ∙ b in cc

pub one_number : (h : Fact) (c d : ℕ) → h.reason ≡ by.Forced c → h.reason ≡ by.Forced d → c ≡ d
one_number h c d a b = let e : by.Forced c ≡ by.Forced d = sym a ∙ b in cc
