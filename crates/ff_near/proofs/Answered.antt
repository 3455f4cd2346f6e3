-- From what each part comes to, to all best solutions.
use Rattle.std.proofs.Common.{◌≡◌, ℕ, zero, suc, ◌<◌, ◌⊎◌, inl, inr, ◌∙◌, refl, sym, ap, subst, arith, true, false, List, [], ◌∷◌, length, slice_get, filter_map, sum_by, Option, Some, None, Contains, if◌then◌else◌}
use Rattle.std.proofs.lemmas.Bool.{cases_eq, eq-eqb, ne_eqb}
use Rattle.std.proofs.lemmas.Option.{slice_get_within, get_or_from_slice_get}
use Rattle.std.proofs.lemmas.List.Sums.{sum_by-cons}
use Rattle.ff_basics.proofs.Lists.{place_of_member}
use Rattle.ff_tables.specs.declared.orders.Order.{Order}
use Rattle.ff_tables.specs.declared.terms.Constraint.{Constraint}
use Rattle.ff_types.specs.declared.pins.Pin.{Pin}
use Rattle.ff_propagate.specs.declared.parts.Part.{Part}
use Rattle.ff_propagate.specs.Solutions.{joint, solutions_of}
use Rattle.ff_propagate.specs.Choices.{value_of}
use Rattle.ff_propagate.specs.Parts.{AreParts}
use Rattle.ff_propagate.proofs.Joining.{Stands}
use Rattle.ff_propagate.proofs.Quiet.{contains_stands}
use Rattle.ff_parts.proofs.Factoring.{InSome}
use Rattle.ff_parts.specs.Lists.{vars_of}
use Rattle.ff_near.specs.declared.parts.PartBest.{PartBest}
use Rattle.ff_near.specs.declared.parts.PartNear.{PartNear}
use Rattle.ff_near.specs.declared.parts.PartNear.TheVariants as outcome
use Rattle.ff_near.specs.Best.{AreLeast}
use Rattle.ff_near.specs.Distance.{cost, costs, IsBest, AreBest}
use Rattle.ff_near.specs.Near.{HoldsOfNone, has_none, is_unfinished}
use Rattle.ff_near.specs.Gathered.{best_in, first_in}

some_same : {A : Type 0} (a b : A) → Some a ≡ Some b → a ≡ b
some_same a b e = cc

-- each outcome has best solutions, where none has none and none is unfinished
pub record IsBestOutcome (outcomes : List PartNear) (k : ℕ) (best : PartBest) : Type 0 where
  pub first : List Order
  pub there : slice_get outcomes k ≡ Some (outcome.Best best first)
  pub found : slice_get (filter_map first_in outcomes) k ≡ Some first

pub record AreAllBestOutcomes (outcomes : List PartNear) : Type 0 where
  pub bests : length (filter_map best_in outcomes) ≡ length outcomes
  pub firsts : length (filter_map first_in outcomes) ≡ length outcomes
  pub at : (k : ℕ) (best : PartBest) → slice_get (filter_map best_in outcomes) k ≡ Some best → IsBestOutcome outcomes k best

one_best_more : (best : PartBest) (first : List Order) (outcomes : List PartNear) → AreAllBestOutcomes outcomes → AreAllBestOutcomes (outcome.Best best first ∷ outcomes)
one_best_more best first outcomes rest = record { bests = ap suc rest.bests; firsts = ap suc rest.firsts; at = at } where
  at : (k : ℕ) (other : PartBest) → slice_get (best ∷ filter_map best_in outcomes) k ≡ Some other → IsBestOutcome (outcome.Best best first ∷ outcomes) k other
  at zero other e = record { first = first; there = ap (λ (b : PartBest). Some (outcome.Best b first)) (some_same best other e); found = refl }
  at (suc k) other e = let r = rest.at k other e in record { first = r.first; there = r.there; found = r.found }

differ : true ≡ false → ⊥
differ e = cc

pub all_best : (outcomes : List PartNear) → HoldsOfNone has_none outcomes → HoldsOfNone is_unfinished outcomes → AreAllBestOutcomes outcomes
all_best [] none unfinished = record { bests = refl; firsts = refl; at = λ k best e. cc }
all_best (outcome.None ∷ outcomes) none unfinished = absurd (differ (none 0 outcome.None refl))
all_best (outcome.Unfinished ∷ outcomes) none unfinished = absurd (differ (unfinished 0 outcome.Unfinished refl))
all_best (outcome.Best best first ∷ outcomes) none unfinished = one_best_more best first outcomes
    (all_best outcomes (λ k o e. none (suc k) o e) (λ k o e. unfinished (suc k) o e))

-- the least of all solutions are the best
pub least_is_best : (cons : List Constraint) (value : ℕ → Option Order) (pairs : List (ℕ × ℕ)) (list : List Pin) (part : List ℕ) (least : ℕ) (best : List ℕ) (first : List Order)
    → 0 < length (solutions_of cons value part) → AreLeast (cost pairs list part) (solutions_of cons value part) least best first
    → AreBest cons value pairs list part least best
least_is_best cons value pairs list part least best first some are = record {
  some = are.some some;
  each = λ i n e. let r = are.each i n e in (r.0, r.1, is_best r.0 n r.1 r.2, r.2);
  all = λ n solution e same. (are.all n solution e).1 same;
  rising = are.rising;
} where
  contains : (solution : List Order) (n : ℕ) → slice_get (solutions_of cons value part) n ≡ Some solution → Contains (solutions_of cons value part) solution
  contains solution n e = (n, slice_get_within (solutions_of cons value part) n solution e, get_or_from_slice_get (solutions_of cons value part) n solution solution e)

  is_best : (solution : List Order) (n : ℕ) → slice_get (solutions_of cons value part) n ≡ Some solution → cost pairs list part solution ≡ least → IsBest cons value pairs list part solution
  is_best solution n e same = record {
    is = contains solution n e;
    least = λ other has. let m = place_of_member (solutions_of cons value part) other has in let l = (are.all m.0 other m.1).0 in omega (arith, l, same);
  }

-- what the first best solution costs
pub first_costs : (cost_of : List Order → ℕ) (solutions : List (List Order)) (least : ℕ) (best : List ℕ) (first : List Order) → 0 < length solutions
    → AreLeast cost_of solutions least best first → (n : ℕ) × (slice_get best 0 ≡ Some n) × (slice_get solutions n ≡ Some first) × (cost_of first ≡ least)
first_costs cost_of solutions least best first some are = by best refl (are.some some) where
  by : (b : List ℕ) → best ≡ b → 0 < length best → (n : ℕ) × (slice_get best 0 ≡ Some n) × (slice_get solutions n ≡ Some first) × (cost_of first ≡ least)
  by [] e l = absurd (nothing (length best) (ap length e) l) where
    nothing : (k : ℕ) → k ≡ 0 → 0 < k → ⊥
    nothing k e l = omega (arith, e, l)
  by (n ∷ b) e l =
      let here : slice_get best 0 ≡ Some n = ap (λ (x : List ℕ). slice_get x 0) e in
      let there = are.first_is n here in
      let r = are.each 0 n here in
      (n, here, there, ap cost_of (some_same first r.0 (sym there ∙ r.1)) ∙ r.2)

-- costs part by part
pub sum_costs : (pairs : List (ℕ × ℕ)) (list : List Pin) (parts : List Part) (bests : List PartBest) (firsts : List (List Order)) → length bests ≡ length parts → length firsts ≡ length parts
    → ((k : ℕ) (part : Part) (best : PartBest) (first : List Order) → slice_get parts k ≡ Some part → slice_get bests k ≡ Some best → slice_get firsts k ≡ Some first → best.cost ≡ cost pairs list part.vars first)
    → sum_by (λ (b : PartBest). b.cost) bests ≡ costs pairs list (vars_of parts) firsts
sum_costs pairs list [] [] [] e f each = refl
sum_costs pairs list [] [] (x ∷ firsts) e f each = refl
sum_costs pairs list [] (b ∷ bests) firsts e f each = absurd (nothing e) where
  nothing : suc (length bests) ≡ 0 → ⊥
  nothing e = omega (arith, e)
sum_costs pairs list (p ∷ parts) [] firsts e f each = absurd (nothing e) where
  nothing : 0 ≡ suc (length parts) → ⊥
  nothing e = omega (arith, e)
sum_costs pairs list (p ∷ parts) (b ∷ bests) [] e f each = absurd (nothing f) where
  nothing : 0 ≡ suc (length parts) → ⊥
  nothing e = omega (arith, e)
sum_costs pairs list (p ∷ parts) (b ∷ bests) (x ∷ firsts) e f each =
    let a = sum_by-cons (λ (c : PartBest). c.cost) b bests in
    let c = each 0 p b x refl refl refl in
    let d = sum_costs pairs list parts bests firsts (omega (arith, e)) (omega (arith, f)) (λ k q g y r s t. each (suc k) q g y r s t) in
    omega (arith, a, c, d)

-- a value is known
abbrev pub Known : Option Order → Type 0
Known o = (s : Order) × (o ≡ Some s)

joint_known : (f : ℕ → Option Order) (part : List ℕ) (xs : List Order) (v : ℕ) → length xs ≡ length part → Known (f v) ⊎ Stands part v → Known (joint f part xs v)
joint_known f [] xs v long (inl k) = k
joint_known f [] xs v long (inr (i, l, e)) = absurd (nothing i l) where
  nothing : (i : ℕ) → i < 0 → ⊥
  nothing i l = omega (arith, l)
joint_known f (u ∷ part) [] v long known = absurd (nothing long) where
  nothing : 0 ≡ suc (length part) → ⊥
  nothing e = omega (arith, e)
joint_known f (u ∷ part) (x ∷ xs) v long known = elim (cases_eq u v) [
  | inl same ↦ (x, ap (λ t. if t then Some x else joint f part xs v) (eq-eqb u v same))
  | inr other ↦ let r = joint_known f part xs v (omega (arith, long)) (rest other known) in (r.0, ap (λ t. if t then Some x else joint f part xs v) (ne_eqb u v other) ∙ r.1)
] where
  rest : (u ≡ v → ⊥) → Known (f v) ⊎ Stands (u ∷ part) v → Known (f v) ⊎ Stands part v
  rest other (inl k) = inl k
  rest other (inr (zero, l, e)) = absurd (other e)
  rest other (inr (suc i, l, e)) = inr (i, omega (arith, l), e)

pub value_known : (f : ℕ → Option Order) (parts : List (List ℕ)) (choice : List (List Order)) → length choice ≡ length parts
    → ((k : ℕ) (part : List ℕ) (xs : List Order) → slice_get parts k ≡ Some part → slice_get choice k ≡ Some xs → length xs ≡ length part)
    → (v : ℕ) → Known (f v) ⊎ InSome parts v → Known (value_of f parts choice v)
value_known f [] choice e long v (inl k) = k
value_known f [] choice e long v (inr st) = absurd st
value_known f (part ∷ parts) [] e long v known = absurd (nothing e) where
  nothing : 0 ≡ suc (length parts) → ⊥
  nothing e = omega (arith, e)
value_known f (part ∷ parts) (xs ∷ choice) e long v known = joint_known (value_of f parts choice) part xs v (long 0 part xs refl refl)
    (by (λ k. value_known f parts choice (omega (arith, e)) (λ k p x a b. long (suc k) p x a b) v k) known)
  where
    by : (Known (f v) ⊎ InSome parts v → Known (value_of f parts choice v)) → Known (f v) ⊎ InSome (part ∷ parts) v → Known (value_of f parts choice v) ⊎ Stands part v
    by rest (inl k) = inl (rest (inl k))
    by rest (inr (inl st)) = inr st
    by rest (inr (inr st)) = inl (rest (inr st))

in_some : (parts : List (List ℕ)) (v k : ℕ) (part : List ℕ) → slice_get parts k ≡ Some part → Stands part v → InSome parts v
in_some [] v k part e st = cc
in_some (p ∷ parts) v zero part e st = inl (subst (λ (q : List ℕ). Stands q v) (sym (some_same p part e)) st)
in_some (p ∷ parts) v (suc k) part e st = inr (in_some parts v k part e st)

-- each variable is decided, or one of a part
pub decided_or_in : (vars : ℕ) (cons : List Constraint) (value : ℕ → Option Order) (parts : List (List ℕ)) → AreParts vars cons value parts → (v : ℕ) → v < vars
    → Known (value v) ⊎ InSome parts v
decided_or_in vars cons value parts are v l = by (value v) refl where
  by : (o : Option Order) → value v ≡ o → Known (value v) ⊎ InSome parts v
  by (Some s) e = inl (s, e)
  by None e = let r = are.all v (record { variable = l; open_yet = e }) in inr (in_some parts v r.0 r.1 r.2 (contains_stands r.1 v r.3))
