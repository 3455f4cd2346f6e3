-- One part more.
use Rattle.std.proofs.Common.{◌≡◌, ℕ, ◌+◌, ◌<◌, ◌⊎◌, inl, inr, ◌∙◌, refl, sym, ap, subst, arith, List, [], ◌∷◌, ◌++◌, length, take, slice_get, slice_index_or, option_map, Option, Some}
use Rattle.std.proofs.lemmas.List.{length-append, take_more, length-take-le}
use Rattle.std.proofs.lemmas.Option.{slice_get_within, slice_get-map}
use Rattle.ff_basics.proofs.Lists.{get_either}
use Rattle.ff_tables.specs.declared.orders.Order.{Order}
use Rattle.ff_types.specs.declared.cases.Case.{Case}
use Rattle.ff_types.specs.declared.pins.Pin.{Pin}
use Rattle.ff_propagate.specs.declared.parts.Part.{Part}
use Rattle.ff_tables.specs.declared.terms.Constraint.{Constraint}
use Rattle.ff_propagate.specs.Parts.{IsPart, AreParts}
use Rattle.ff_parts.specs.Lists.{vars_of}
use Rattle.ff_near.specs.declared.parts.PartBest.{PartBest}
use Rattle.ff_near.specs.declared.parts.PartNear.{PartNear}
use Rattle.ff_near.specs.Best.{ComesTo}
use Rattle.ff_near.specs.Near.{AreOutcomes}
use Rattle.ff_near.specs.Gathered.{AreGathered, HasSearched}

same_some : {A : Type 0} (a b : A) → Some a ≡ Some b → a ≡ b
same_some a b e = cc

-- what each of some parts comes to, and one more
more_outcomes : (case : Case) (list : List Pin) (value : ℕ → Option Order) (budget : ℕ) (parts : List Part) (outcomes : List PartNear)
    → AreOutcomes case list value budget parts outcomes → (part : Part) (outcome : PartNear) → ComesTo case list value budget part.vars outcome
    → AreOutcomes case list value budget (parts ++ part ∷ []) (outcomes ++ outcome ∷ [])
more_outcomes case list value budget parts outcomes are part outcome comes = record {
  as_many = length-append outcomes (outcome ∷ []) ∙ ap (λ n. n + 1) are.as_many ∙ sym (length-append parts (part ∷ []));
  each = λ k p o there found. by k p o (get_either parts part p k there) (get_either outcomes outcome o k found);
} where
  nothing : (k n m : ℕ) → k < n → k ≡ m → m ≡ n → ⊥
  nothing k n m l e f = omega (arith, l, e, f)

  by : (k : ℕ) (p : Part) (o : PartNear) → (slice_get parts k ≡ Some p) ⊎ ((k ≡ length parts) × (p ≡ part))
      → (slice_get outcomes k ≡ Some o) ⊎ ((k ≡ length outcomes) × (o ≡ outcome)) → ComesTo case list value budget p.vars o
  by k p o (inl a) (inl b) = are.each k p o a b
  by k p o (inr a) (inr b) = subst (λ (q : Part). ComesTo case list value budget q.vars o) (sym a.1) (subst (λ (x : PartNear). ComesTo case list value budget part.vars x) (sym b.1) comes)
  by k p o (inl a) (inr b) = absurd (nothing k (length parts) (length outcomes) (slice_get_within parts k p a) b.0 are.as_many)
  by k p o (inr a) (inl b) = absurd (nothing k (length outcomes) (length parts) (slice_get_within outcomes k o b) a.0 (sym are.as_many))

module _ (case : Case) (list : List Pin) (value : ℕ → Option Order) (budget : ℕ) (parts : List Part) where
  pub none_searched : (bests : List PartBest) (firsts : List (List Order)) (none unfinished : Option ℕ) → AreGathered [] bests firsts none unfinished
      → HasSearched case list value budget (take 0 parts) bests firsts none unfinished
  none_searched bests firsts first_none first_unfinished are = record {
    outcomes = [];
    are = record { as_many = refl; each = λ k p o there found. cc };
    gathered = are;
  }

  pub one_searched : (k : ℕ) (d part : Part) → k < length parts → part ≡ slice_index_or parts k d → (b b' : List PartBest) (f f' : List (List Order)) (n n' u u' : Option ℕ)
      → HasSearched case list value budget (take k parts) b f n u → (outcome : PartNear) → ComesTo case list value budget part.vars outcome
      → ((outcomes : List PartNear) → k ≡ length outcomes → AreGathered outcomes b f n u → AreGathered (outcomes ++ outcome ∷ []) b' f' n' u')
      → HasSearched case list value budget (take (k + 1) parts) b' f' n' u'
  one_searched k d part l e b b' f f' n n' u u' h outcome comes gathers = record {
    outcomes = h.outcomes ++ outcome ∷ [];
    are = subst (λ (ps : List Part). AreOutcomes case list value budget ps (h.outcomes ++ outcome ∷ [])) (sym (take_more parts k d l ∙ ap (λ (p : Part). take k parts ++ p ∷ []) (sym e)))
        (more_outcomes case list value budget (take k parts) h.outcomes h.are part outcome comes);
    gathered = gathers h.outcomes (sym (h.are.as_many ∙ length-take-le k parts (omega (arith, l)))) h.gathered;
  }

-- each part of a board's parts is a part
pub each_part : (vars : ℕ) (cons : List Constraint) (value : ℕ → Option Order) (parts : List Part) → AreParts vars cons value (vars_of parts)
    → (k : ℕ) (part : Part) → slice_get parts k ≡ Some part → IsPart vars cons value part.vars
each_part vars cons value parts are k part e = are.each k part.vars (slice_get-map (λ (p : Part). p.vars) parts k ∙ ap (option_map (λ (p : Part). p.vars)) e)
