-- All best solutions, and the stacking of the first ones.
use Rattle.std.proofs.Common.{◌≡◌, ℕ, ◌+◌, ◌<◌, ◌≤◌, ◌∙◌, refl, sym, ap, subst, arith, List, [], length, option_map, slice_get, slice_index, slice_index_or, sum_by, Option, Some, None}
use Rattle.std.proofs.lemmas.List.{length-map}
use Rattle.std.proofs.lemmas.Option.{slice_get-map, slice_get_within, slice_get-get_or, get_or_from_slice_get}
use Rattle.ff_tables.specs.declared.orders.Order.{Order}
use Rattle.ff_types.specs.declared.cases.Case.{Case}
use Rattle.ff_types.specs.declared.pins.Pin.{Pin}
use Rattle.ff_propagate.specs.declared.parts.Part.{Part}
use Rattle.ff_propagate.specs.Solutions.{solutions_of}
use Rattle.ff_propagate.specs.Choices.{value_of}
use Rattle.ff_propagate.specs.Parts.{AreParts}
use Rattle.ff_parts.proofs.Factoring.{solution_is}
use Rattle.ff_parts.specs.Lists.{vars_of}
use Rattle.ff_near.specs.declared.parts.PartBest.{PartBest}
use Rattle.ff_near.specs.declared.parts.PartNear.TheVariants as outcome
use Rattle.ff_near.specs.Best.{AreLeast}
use Rattle.ff_near.specs.Distance.{share, cost, costs}
use Rattle.ff_near.specs.Near.{AreAllBest}
use Rattle.ff_near.specs.Gathered.{HasSearched}
use Rattle.ff_near.specs.Weights.{AreWithin}
use Rattle.ff_near.specs.Filled.{HasValues}
use Rattle.ff_near.proofs.Apart.{parts_all}
use Rattle.ff_near.proofs.Sums.{choice_sum}
use Rattle.ff_near.proofs.Costs.{count_within}
use Rattle.ff_near.proofs.Answered.{AreAllBestOutcomes, all_best, least_is_best, first_costs, sum_costs, value_known, decided_or_in, Known}

module _ (case : Case) (list : List Pin) (value : ℕ → Option Order) (budget : ℕ) (parts : List Part) (bests : List PartBest) (firsts : List (List Order))
    (searched : HasSearched case list value budget parts bests firsts None None) (are : AreParts case.system.vars case.system.constraints value (vars_of parts)) where
  outcomes_best : AreAllBestOutcomes searched.outcomes
  outcomes_best = all_best searched.outcomes searched.gathered.none_is searched.gathered.unfinished_is

  pub as_many_bests : length bests ≡ length parts
  as_many_bests = ap length searched.gathered.bests_are ∙ outcomes_best.bests ∙ searched.are.as_many

  pub as_many_firsts : length firsts ≡ length parts
  as_many_firsts = ap length searched.gathered.firsts_are ∙ outcomes_best.firsts ∙ searched.are.as_many

  record Told (part : Part) (best : PartBest) (first : List Order) : Type 0 where
    pub some : 0 < length (solutions_of case.system.constraints value part.vars)
    pub least : AreLeast (cost case.pairs list part.vars) (solutions_of case.system.constraints value part.vars) best.cost best.best first

  told : (k : ℕ) (part : Part) (best : PartBest) (first : List Order) → slice_get parts k ≡ Some part → slice_get bests k ≡ Some best → slice_get firsts k ≡ Some first → Told part best first
  told k part best first p b f =
      let o = outcomes_best.at k best (sym (ap (λ (l : List PartBest). slice_get l k) searched.gathered.bests_are) ∙ b) in
      let c = searched.are.each k part (outcome.Best best o.first) p o.there in
      let same = one_list o.first first (sym o.found ∙ sym (ap (λ (l : List (List Order)). slice_get l k) searched.gathered.firsts_are) ∙ f) in
      subst (λ (x : List Order). Told part best x) same (record { some = c.1; least = c.2 })
    where
      one_list : (x y : List Order) → Some x ≡ Some y → x ≡ y
      one_list x y e = cc

  first_at : (k : ℕ) (best : PartBest) → slice_get bests k ≡ Some best → (first : List Order) × (slice_get firsts k ≡ Some first)
  first_at k best b =
      let o = outcomes_best.at k best (sym (ap (λ (l : List PartBest). slice_get l k) searched.gathered.bests_are) ∙ b) in
      (o.first, ap (λ (l : List (List Order)). slice_get l k) searched.gathered.firsts_are ∙ o.found)

  costs_are : sum_by (λ (b : PartBest). b.cost) bests ≡ costs case.pairs list (vars_of parts) firsts
  costs_are = sum_costs case.pairs list parts bests firsts as_many_bests as_many_firsts
      (λ k part best first p b f. let t = told k part best first p b f in sym (first_costs _ _ _ _ _ t.some t.least).3)

  -- the distance is that of the stacking of the first ones, so that it is no more than there are given orders
  pub total_within : share case.pairs list value + sum_by (λ (b : PartBest). b.cost) bests ≤ length list
  total_within =
      let s = choice_sum case.system.vars case.system.constraints value case.pairs list (vars_of parts) firsts (parts_all case.system.vars case.system.constraints value (vars_of parts) are) in
      let l : share case.pairs list (value_of value (vars_of parts) firsts) ≤ length list = count_within _ list in
      omega (arith, s, l, costs_are)

  part_at : (k : ℕ) (vars : List ℕ) → slice_get (vars_of parts) k ≡ Some vars → (part : Part) × (slice_get parts k ≡ Some part) × (part.vars ≡ vars)
  part_at k vars e = by (slice_get parts k) refl where
    named : (o : Option Part) → slice_get parts k ≡ o → option_map (λ (p : Part). p.vars) o ≡ Some vars
    named o f = ap (option_map (λ (p : Part). p.vars)) (sym f) ∙ sym (slice_get-map (λ (p : Part). p.vars) parts k) ∙ e

    one_list : (x y : List ℕ) → Some x ≡ Some y → x ≡ y
    one_list x y e = cc

    some_vars : None ≡ Some vars → ⊥
    some_vars e = cc

    by : (o : Option Part) → slice_get parts k ≡ o → (part : Part) × (slice_get parts k ≡ Some part) × (part.vars ≡ vars)
    by (Some p) f = (p, f, one_list p.vars vars (named (Some p) f))
    by None f = absurd (some_vars (named None f))

  vars_at : (k : ℕ) (part : Part) → slice_get parts k ≡ Some part → slice_get (vars_of parts) k ≡ Some part.vars
  vars_at k part e = slice_get-map (λ (p : Part). p.vars) parts k ∙ ap (option_map (λ (p : Part). p.vars)) e

  -- the variables of the parts are those of the case
  pub parts_within : (bound : ℕ) → bound ≡ case.system.vars → (k : ℕ) (part : Part) → slice_get parts k ≡ Some part → AreWithin bound part.vars
  parts_within bound e k part p = λ i l. subst (λ n. slice_index part.vars i < n) (sym e) ((are.each k part.vars (vars_at k part p)).undecided i l).variable

  pub long_at : (k : ℕ) (part : List ℕ) (xs : List Order) → slice_get (vars_of parts) k ≡ Some part → slice_get firsts k ≡ Some xs → length xs ≡ length part
  long_at k part xs p f =
      let q = part_at k part p in
      let l = slice_get_within parts k q.0 q.1 in
      let b = slice_get-get_or bests k nothing (subst (λ n. k < n) (sym as_many_bests) l) in
      let t = told k q.0 (slice_index_or bests k nothing) xs q.1 b f in
      let r = first_costs _ _ _ _ _ t.some t.least in
      subst (λ (v : List ℕ). length xs ≡ length v) q.2
      (solution_is case.system.constraints value q.0.vars xs (r.0, slice_get_within (solutions_of case.system.constraints value q.0.vars) r.0 xs r.2, get_or_from_slice_get (solutions_of case.system.constraints value q.0.vars) r.0 xs xs r.2)).long
    where
      nothing : PartBest
      nothing = record { cost = 0; best = [] }

  pub solutions_long : (k : ℕ) (part : Part) (solution : List Order) → slice_get parts k ≡ Some part → slice_get firsts k ≡ Some solution → length solution ≡ length part.vars
  solutions_long k part solution p f = long_at k part.vars solution (vars_at k part p) f

  -- the stacking of the first ones
  pub all_best_are : (decided distance : ℕ) → decided ≡ share case.pairs list value → distance ≡ decided + sum_by (λ (b : PartBest). b.cost) bests
      → (values : List Order) → length values ≡ case.system.vars → HasValues (value_of value (vars_of parts) firsts) values
      → AreAllBest case list value parts distance decided bests values
  all_best_are decided distance d e values long has = record {
    as_many = as_many_bests;
    best = λ k part best p b. let f = first_at k best b in let t = told k part best f.0 p b f.1 in
        least_is_best case.system.constraints value case.pairs list part.vars best.cost best.best f.0 t.some t.least;
    decided_is = d;
    distance_is = e;
    firsts = firsts;
    as_many_firsts = as_many_firsts;
    firsts_are = λ k part best first p b f. let t = told k part best first p b f in let r = first_costs _ _ _ _ _ t.some t.least in record { number = r.0; first = r.1; there = r.2 };
    all_values = long;
    values_are = λ v l. let r = known v l in r.1 ∙ ap Some (sym (has v r.0 (subst (λ n. v < n) (sym long) l) r.1));
  } where
    known : (v : ℕ) → v < case.system.vars → Known (value_of value (vars_of parts) firsts v)
    known v l = value_known value (vars_of parts) firsts (as_many_firsts ∙ sym (length-map parts (λ (p : Part). p.vars))) long_at v
        (decided_or_in case.system.vars case.system.constraints value (vars_of parts) are v l)
