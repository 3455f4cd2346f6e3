-- Constraints are followed from the variables that were reached.
use Rattle.std.proofs.Common.{List, get_or, ◌≡◌, ℕ, ◌+◌, ◌<◌, ◌≤◌, ◌⊎◌, length, slice_get, slice_index, Option, Some, refl, sym, ap, ◌∙◌, subst, inl, inr, arith}
use Rattle.std.proofs.lemmas.Option.{slice_get-get_or}
use Rattle.std.proofs.lemmas.Bool.{cases_eq}
use Rattle.ff_basics.proofs.Numbers.{scan}
use Rattle.ff_basics.proofs.Options.{same_value}
use Rattle.ff_tables.specs.declared.orders.Order.{Order}
use Rattle.ff_tables.specs.declared.terms.Constraint.{Constraint}
use Rattle.ff_tables.specs.Orders.{term_at}
use Rattle.ff_propagate.specs.Uses.{IsUse, IsFrom, IsIn}
use Rattle.ff_parts.specs.declared.labels.Labels.{Labels}
use Rattle.ff_parts.specs.Labels.{label, AreAlike, IsOwn, AreMixed, Rests, Ready, AreOf, Spreads, IsSpreading, AllLabelled, HasVar}
use Rattle.ff_parts.proofs.Reaching.{spreads_trans}

pub keeps : (value : ℕ → Option Order) (p : ℕ) (old new : Labels) (head : ℕ) (con : Constraint)
    → Spreads p old new → head ≤ length old.queue.items → Rests value old head con → Rests value new head con
keeps value p old new head con x h
    (inl (i, j, a, b, l, e)) = inl (i, j, a, omega (arith, b, x.count), l, x.front i b ∙ e)
keeps value p old new head con x h (inr alike) = elim (scan
    (λ j. label new (term_at con.terms j).var ≡ label old (term_at con.terms j).var)
    (λ j. (label old (term_at con.terms j).var ≡ 0) × (label new (term_at con.terms j).var ≡ p)
    × ((i : ℕ) × (length old.queue.items ≤ i) × (i < length new.queue.items)
    × (slice_index new.queue.items i ≡ (term_at con.terms j).var)))
    (length con.terms) (λ j. x.changed (term_at con.terms j).var)) [
      | inl r ↦ inl (r.2.2.0, r.0, omega (arith, h, r.2.2.1), r.2.2.2, r.1, r.2.2.3)
      | inr same ↦ inr (λ i j li lj oi oj. same i li ∙ alike i j li lj oi oj ∙ sym (same j lj))
    ]

-- where all are labelled and mixed they are alike
labelled_alike : (value : ℕ → Option Order) (p : ℕ) (l : Labels) (con : Constraint)
    → AllLabelled value l con (length con.terms) → AreMixed value p l con → AreAlike value l con
labelled_alike value p l con labelled mixed i j li lj oi oj = elim (mixed i j li lj oi oj) [
  | inl e ↦ e
  | inr (a, b) ↦ own a (labelled i li oi) ∙ sym (own b (labelled j lj oj))
]
  where
    own : {n : ℕ} → IsOwn p n → 0 < n → n ≡ p
    own (inl e) s = absurd (omega (arith, e, s))
    own (inr e) s = e

-- each constraint rests, or has the variable and is left to be visited
abbrev pub Almost : List Constraint → (ℕ → Option Order) → ℕ → Labels → ℕ → List ℕ → ℕ → Type 0
Almost cons value v l head list k = (c : ℕ) (con : Constraint) → slice_get cons c ≡ Some con
    → Rests value l head con ⊎ (HasVar con v × IsFrom list k c)

begins : (cons : List Constraint) (value : ℕ → Option Order) (l : Labels) (head v : ℕ) (list : List ℕ)
    → slice_index l.queue.items head ≡ v → Ready cons value l head → ((d : ℕ) → IsUse cons d v → IsIn list d)
    → Almost cons value v l (head + 1) list 0
begins cons value l head v list here ready each c con at = sort (ready c con at)
  where
    sort : Rests value l head con → Rests value l (head + 1) con ⊎ (HasVar con v × IsFrom list 0 c)
    sort (inr q) = inl (inr q)
    sort (inl (i, j, a, b, m, e)) = elim (cases_eq i head) [
      | inl s ↦ (let var : (term_at con.terms j).var ≡ v = sym e ∙ ap (slice_index l.queue.items) s ∙ here in
          inr ((j, m, var), each c (record { con = con; there = at; place = j; within = m; var = var })))
      | inr ne ↦ inl (inl (i, j, omega (arith, a, ne), b, m, e))
    ]

-- one constraint is visited
visits : (cons : List Constraint) (value : ℕ → Option Order) (p : ℕ) (old new : Labels) (head v k n : ℕ)
    (list : List ℕ) → Spreads p old new → head ≤ length old.queue.items → slice_index list k ≡ n
    → Almost cons value v old head list k
    → ((con : Constraint) → slice_get cons n ≡ Some con → HasVar con v → Rests value new head con)
    → Almost cons value v new head list (k + 1)
visits cons value p old new head v k n list x h is almost here c con at = sort (almost c con at)
  where
    sort : Rests value old head con ⊎ (HasVar con v × IsFrom list k c)
        → Rests value new head con ⊎ (HasVar con v × IsFrom list (k + 1) c)
    sort (inl q) = inl (keeps value p old new head con x h q)
    sort (inr (has, (j, l, m, e))) = elim (cases_eq j k) [
      | inl s ↦ inl (here con (ap (slice_get cons) (sym is ∙ ap (slice_index list) (sym s) ∙ e) ∙ at) has)
      | inr ne ↦ inr (has, (j, omega (arith, l, ne), m, e))
    ]

ends : (cons : List Constraint) (value : ℕ → Option Order) (l : Labels) (head v k : ℕ) (list : List ℕ)
    → length list ≤ k → Almost cons value v l head list k → Ready cons value l head
ends cons value l head v k list z almost c con at = sort (almost c con at)
  where
    sort : Rests value l head con ⊎ (HasVar con v × IsFrom list k c) → Rests value l head con
    sort (inl p) = p
    sort (inr (has, (j, a, b, e))) = absurd (omega (arith, a, b, z))

pub con_read : (cons cs : List Constraint) (k : ℕ) (con : Constraint) → cs ≡ cons → k < length cons
    → con ≡ get_or cs k con → slice_get cons k ≡ Some con
con_read cons cs k con same l is = slice_get-get_or cons k con l
    ∙ ap (λ d. Some d) (sym (is ∙ ap (λ ds. get_or ds k con) same))

-- what holds while the constraints of the variable reached as the head-th are gone through
pub record IsVisiting (vars : ℕ) (cons : List Constraint) (value : ℕ → Option Order) (p head v : ℕ) (list : List ℕ) (k : ℕ)
    (old now : Labels) : Type 0 where
  pub spreading : IsSpreading vars cons value p now
  pub spreads : Spreads p old now
  pub own : label now v ≡ p
  pub almost : Almost cons value v now (head + 1) list k

-- the k-th constraint of the list is examined
pub visit_on : (vars : ℕ) (cons : List Constraint) (value : ℕ → Option Order) (p head v : ℕ) (list : List ℕ) (k : ℕ)
    (old now new : Labels) (con : Constraint) → IsVisiting vars cons value p head v list k old now
    → head < length old.queue.items
    → slice_get cons (slice_index list k) ≡ Some con → IsSpreading vars cons value p new → Spreads p now new
    → (HasVar con v → AllLabelled value new con (length con.terms))
    → IsVisiting vars cons value p head v list (k + 1) old new
visit_on vars cons value p head v list k old now new con vis h at s x labelled = record {
  spreading = s;
  spreads = spreads_trans p old now new s.some vis.spreads x;
  own = x.kept v (omega (arith, vis.own, s.some)) ∙ vis.own;
  almost = visits cons value p now new (head + 1) v k (slice_index list k) list x
      (omega (arith, h, vis.spreads.count)) refl vis.almost
      (λ d there has. subst (λ q. Rests value new (head + 1) q) (same_value at there)
      (inr (labelled_alike value p new con
      (labelled (subst (λ q. HasVar q v) (same_value there at) has)) (s.mixed (slice_index list k) con at))));
}

-- what holds while the queue is gone through
pub record IsFollowing (vars : ℕ) (cons : List Constraint) (value : ℕ → Option Order) (p at : ℕ)
    (old now : Labels) : Type 0 where
  pub spreading : IsSpreading vars cons value p now
  pub spreads : Spreads p old now
  pub inside : at ≤ length now.queue.items
  pub own : AreOf p now at
  pub ready : Ready cons value now at
