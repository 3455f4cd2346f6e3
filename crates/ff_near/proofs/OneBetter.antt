-- One solution more.
use Rattle.std.proofs.Common.{◌≡◌, ℕ, zero, suc, ◌<◌, ◌≤◌, inl, inr, ◌∙◌, refl, sym, ap, subst, arith, List, [], ◌∷◌, ◌++◌, length, slice_get, Some}
use Rattle.std.proofs.lemmas.Option.{slice_get_within}
use Rattle.std.proofs.lemmas.List.Elements.{Contains-append_left, Contains-append_right}
use Rattle.ff_basics.proofs.Lists.{get_before, get_last, get_either}
use Rattle.ff_tables.specs.declared.orders.Order.{Order}
use Rattle.ff_near.specs.Best.{AreLeast}

module _ (cost_of : List Order → ℕ) (solutions : List (List Order)) (least : ℕ) (best : List ℕ) (first : List Order)
    (are : AreLeast cost_of solutions least best first) (values : List Order) where
  one_value : (a b : List Order) → Some a ≡ Some b → a ≡ b
  one_value a b e = cc

  one_number : (a b : ℕ) → Some a ≡ Some b → a ≡ b
  one_number a b e = cc

  only : (x : ℕ) (i n : ℕ) → slice_get (x ∷ []) i ≡ Some n → (i ≡ 0) × (n ≡ x)
  only x zero n e = (refl, sym (one_number x n e))
  only x (suc i) n e = cc

  -- it costs as much as the best
  pub as_much : 0 < length best → cost_of values ≡ least → AreLeast cost_of (solutions ++ values ∷ []) least (best ++ length solutions ∷ []) first
  as_much some same = record {
    some = λ l. longer;
    each = λ i n e. elim (get_either best (length solutions) n i e) [
      | inl there ↦ let r = are.each i n there in (r.0, get_before solutions values r.0 n r.1, r.2)
      | inr last ↦ (values, subst (λ k. slice_get (solutions ++ values ∷ []) k ≡ Some values) (number_is i n last.0 e) (get_last solutions values), same)
    ];
    all = λ n s e. elim (get_either solutions values s n e) [
      | inl there ↦ let r = are.all n s there in (r.0, λ f. Contains-append_left best (length solutions ∷ []) n (r.1 f))
      | inr last ↦ let own : cost_of values ≡ cost_of s = ap cost_of (one_value values s (sym (get_last solutions values) ∙ subst (λ k. slice_get (solutions ++ values ∷ []) k ≡ Some s) last.0 e)) in
          (omega (arith, own, same), λ f. Contains-append_right best (length solutions ∷ []) n (0, omega arith, sym last.0))
    ];
    rising = λ i j m n l e f. elim (get_either best (length solutions) n j f) [
      | inl there ↦ are.rising i j m n l (before i m e (let b = slice_get_within best j n there in omega (arith, l, b))) there
      | inr last ↦ let r = are.each i m (before i m e (omega (arith, l, last.0))) in
          let b = slice_get_within solutions m r.0 r.1 in let g = number_is j n last.0 f in omega (arith, b, g)
    ];
    first_is = λ n e. let b = before 0 n e some in let r = are.each 0 n b in get_before solutions values first n (are.first_is n b);
  } where
    longer : 0 < length (best ++ length solutions ∷ [])
    longer = let l = slice_get_within (best ++ length solutions ∷ []) (length best) (length solutions) (get_last best (length solutions)) in omega (arith, l)

    number_is : (i n : ℕ) → i ≡ length best → slice_get (best ++ length solutions ∷ []) i ≡ Some n → length solutions ≡ n
    number_is i n last e = one_number (length solutions) n (sym (get_last best (length solutions)) ∙ subst (λ k. slice_get (best ++ length solutions ∷ []) k ≡ Some n) last e)

    before : (i n : ℕ) → slice_get (best ++ length solutions ∷ []) i ≡ Some n → i < length best → slice_get best i ≡ Some n
    before i n e l = elim (get_either best (length solutions) n i e) [
      | inl there ↦ there
      | inr last ↦ absurd (nothing i last.0 l)
    ] where
      nothing : (i : ℕ) → i ≡ length best → i < length best → ⊥
      nothing i e l = omega (arith, e, l)

  -- it costs more
  pub more_than_best : 0 < length best → least < cost_of values → AreLeast cost_of (solutions ++ values ∷ []) least best first
  more_than_best some more = record {
    some = λ l. some;
    each = λ i n e. let r = are.each i n e in (r.0, get_before solutions values r.0 n r.1, r.2);
    all = λ n s e. elim (get_either solutions values s n e) [
      | inl there ↦ are.all n s there
      | inr last ↦ let own : cost_of values ≡ cost_of s = ap cost_of (one_value values s (sym (get_last solutions values) ∙ subst (λ k. slice_get (solutions ++ values ∷ []) k ≡ Some s) last.0 e)) in
          (omega (arith, own, more), λ f. absurd (nothing s own f))
    ];
    rising = are.rising;
    first_is = λ n e. get_before solutions values first n (are.first_is n e);
  } where
    nothing : (s : List Order) → cost_of values ≡ cost_of s → cost_of s ≡ least → ⊥
    nothing s e f = omega (arith, e, f, more)

  -- the same by the numbers that are compared
  pub joins : (count cost : ℕ) → count ≡ length solutions → cost ≡ cost_of values → 0 < length best → cost ≡ least
      → (longer : List ℕ) → longer ≡ best ++ count ∷ [] → AreLeast cost_of (solutions ++ values ∷ []) least longer first
  joins count cost counted e some same longer f = subst (λ (b : List ℕ). AreLeast cost_of (solutions ++ values ∷ []) least b first)
      (sym (f ∙ ap (λ n. best ++ n ∷ []) counted)) (as_much some (sym e ∙ same))

  pub stays : (cost : ℕ) → cost ≡ cost_of values → 0 < length best → least ≤ cost → (cost ≡ least → ⊥) → AreLeast cost_of (solutions ++ values ∷ []) least best first
  stays cost e some no_less other = more_than_best some (more cost e no_less other) where
    more : (cost : ℕ) → cost ≡ cost_of values → least ≤ cost → (cost ≡ least → ⊥) → least < cost_of values
    more cost e l d = omega (arith, e, l, d)
