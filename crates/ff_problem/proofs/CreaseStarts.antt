-- The starts of a case: in edge order, each of a variable and by a crease.
use Rattle.std.proofs.Common.{◌≡◌, ℕ, zero, suc, ◌+◌, ◌<◌, ◌≤◌, ◌∙◌, true, List, [], ◌∷◌, ◌++◌, length, slice_get, Option, Some, None, refl, ap, sym, subst, arith}
use Rattle.std.specs.List.{filter_map, cons_option, range_with_len}
use Rattle.std.proofs.lemmas.List.Elements.{filter_map-append}
use Rattle.std.proofs.lemmas.Option.{slice_get_within}
use Rattle.ff_tables.specs.declared.orders.Order.{Order}
use Rattle.ff_tables.specs.declared.givens.Given.{Given}
use Rattle.ff_tables.specs.declared.givens.GivenBy.{GivenBy}
use Rattle.ff_tables.specs.declared.givens.GivenBy.TheVariants.{Crease}
use Rattle.ff_types.specs.Sheets.{Sheet, edges_of, lies_up, mark_of}
use Rattle.ff_types.specs.CaseFields.{is_crease}
use Rattle.ff_types.specs.Cites.{lesser, greater}
use Rattle.ff_types.specs.Pairs.{StandsIn, in_order, place_in, number_of}
use Rattle.ff_types.specs.Cases.{crease_order, given_by, start_of}
use Rattle.ff_types.proofs.SortedPairs.{place_stands}

-- ---- one edge more

range_from : (a n : ℕ) → range_with_len a (suc n) ≡ range_with_len a n ++ (a + n) ∷ []
range_from a zero = let e : a ≡ a + 0 = omega arith in ap (λ x. x ∷ []) e
range_from a (suc n) =
    let e : a + 1 + n ≡ a + suc n = omega arith in
    ap (λ xs. a ∷ xs) (range_from (a + 1) n ∙ ap (λ x. range_with_len (a + 1) n ++ x ∷ []) e)

range_more : (n : ℕ) → range_with_len 0 (n + 1) ≡ range_with_len 0 n ++ n ∷ []
range_more n =
    let next : n + 1 ≡ suc n = omega arith in
    let last : 0 + n ≡ n = omega arith in
    ap (range_with_len 0) next ∙ range_from 0 n ∙ ap (λ x. range_with_len 0 n ++ x ∷ []) last

one_more : {A : Type 0} (f : ℕ → Option A) (n : ℕ) → filter_map f (range_with_len 0 (n + 1)) ≡ filter_map f (range_with_len 0 n) ++ cons_option (f n) []
one_more f n = ap (filter_map f) (range_more n) ∙ filter_map-append f (range_with_len 0 n) (n ∷ [])

pub one_more_start : {A : Type 0} (f : ℕ → Option A) (n : ℕ) (old new : List A) (o : Option A) → new ≡ old ++ cons_option o [] → old ≡ filter_map f (range_with_len 0 n) → o ≡ f n
    → new ≡ filter_map f (range_with_len 0 (n + 1))
one_more_start f n old new o e d p = e ∙ ap (λ xs. xs ++ cons_option o []) d ∙ ap (λ q. filter_map f (range_with_len 0 n) ++ cons_option q []) p ∙ sym (one_more f n)

-- ---- what stands in the list

-- at each place the start of an edge, of a greater one at a later place
edge_at_place : (f : ℕ → Option Given) (a n i : ℕ) (s : Given) → slice_get (filter_map f (range_with_len a n)) i ≡ Some s → (e : ℕ) × (a ≤ e) × (f e ≡ Some s)
edge_at_place f a zero i s t = absurd (omega (arith, slice_get_within [] i s t))
edge_at_place f a (suc n) i s t = by (f a) refl i t (edge_at_place f (a + 1) n) where
  by : (o : Option Given) → f a ≡ o → (i : ℕ) → slice_get (cons_option o (filter_map f (range_with_len (a + 1) n))) i ≡ Some s
      → ((i : ℕ) (s : Given) → slice_get (filter_map f (range_with_len (a + 1) n)) i ≡ Some s → (e : ℕ) × (a + 1 ≤ e) × (f e ≡ Some s)) → (e : ℕ) × (a ≤ e) × (f e ≡ Some s)
  by None p i t rest = let r = rest i s t in (r.0, omega (arith, r.1), r.2)
  by (Some x) p zero t rest = (a, omega arith, p ∙ t)
  by (Some x) p (suc i) t rest = let r = rest i s t in (r.0, omega (arith, r.1), r.2)

rising_places : (f : ℕ → Option Given) (a n i j : ℕ) (s t : Given) → i < j → slice_get (filter_map f (range_with_len a n)) i ≡ Some s → slice_get (filter_map f (range_with_len a n)) j ≡ Some t
    → (d : ℕ) × (e : ℕ) × (d < e) × (f d ≡ Some s) × (f e ≡ Some t)
rising_places f a zero i j s t l p q = absurd (omega (arith, slice_get_within [] i s p))
rising_places f a (suc n) i j s t l p q = by (f a) refl i j l p q (rising_places f (a + 1) n) where
  by : (o : Option Given) → f a ≡ o → (i j : ℕ) → i < j → slice_get (cons_option o (filter_map f (range_with_len (a + 1) n))) i ≡ Some s → slice_get (cons_option o (filter_map f (range_with_len (a + 1) n))) j ≡ Some t
      → ((i j : ℕ) (s t : Given) → i < j → slice_get (filter_map f (range_with_len (a + 1) n)) i ≡ Some s → slice_get (filter_map f (range_with_len (a + 1) n)) j ≡ Some t
      → (d : ℕ) × (e : ℕ) × (d < e) × (f d ≡ Some s) × (f e ≡ Some t)) → (d : ℕ) × (e : ℕ) × (d < e) × (f d ≡ Some s) × (f e ≡ Some t)
  by None x i j l p q rest = rest i j s t l p q
  by (Some y) x zero zero l p q rest = absurd (omega (arith, l))
  by (Some y) x zero (suc j) l p q rest = let r = edge_at_place f (a + 1) n j t q in (a, r.0, omega (arith, r.1), x ∙ p, r.2)
  by (Some y) x (suc i) zero l p q rest = absurd (omega (arith, l))
  by (Some y) x (suc i) (suc j) l p q rest = rest i j s t (omega (arith, l)) p q

-- the start of an edge
module _ (g : Sheet) (pairs : List (ℕ × ℕ)) where
  parts : (e : ℕ) (o : Option ℕ) (v : Option Order) (s : Given) → given_by e o v ≡ Some s → (o ≡ Some s.var) × (s.by ≡ Crease e)
  parts e (Some n) (Some v) s q = (ap Some (ap var_of same), ap by_of (sym same)) where
    same : record { var = n; value = v; by = Crease e } ≡ s
    same = cc

    var_of : Given → ℕ
    var_of x = x.var

    by_of : Given → GivenBy
    by_of x = x.by
  parts e None v s q = absurd (none_some q) where
    none_some : None ≡ Some s → ⊥
    none_some x = cc
  parts e (Some n) None s q = absurd (none_some q) where
    none_some : None ≡ Some s → ⊥
    none_some x = cc

  of_start : (e : ℕ) (s : Given) → start_of g pairs e ≡ Some s → (number_of pairs (lesser g e) (greater g e) ≡ Some s.var) × (s.by ≡ Crease e)
  of_start e s q = parts e (number_of pairs (lesser g e) (greater g e)) (crease_order (mark_of g e) (lies_up g (lesser g e))) s q

  numbered : (f h n : ℕ) → number_of pairs f h ≡ Some n → n < length pairs
  numbered f h n e = by (place_in pairs (in_order f h)) e (place_stands pairs (in_order f h)) where
    by : (r : Option ℕ) → r ≡ Some n → StandsIn pairs (in_order f h) r → n < length pairs
    by None q s = absurd (none_some q) where
      none_some : None ≡ Some n → ⊥
      none_some x = cc
    by (Some m) q s = subst (λ k. k < length pairs) (one q) (slice_get_within pairs m (in_order f h) s) where
      one : Some m ≡ Some n → m ≡ n
      one x = cc

  module _ (starts : List Given) (are : starts ≡ filter_map (start_of g pairs) (edges_of g)) where
    there : (i : ℕ) (s : Given) → slice_get starts i ≡ Some s → slice_get (filter_map (start_of g pairs) (edges_of g)) i ≡ Some s
    there i s t = ap (λ xs. slice_get xs i) (sym are) ∙ t

    pub starts_fit : (i : ℕ) (s : Given) → slice_get starts i ≡ Some s → s.var < length pairs
    starts_fit i s t = let e = edge_at_place (start_of g pairs) 0 (length g.edges) i s (there i s t) in numbered (lesser g e.0) (greater g e.0) s.var (of_start e.0 s e.2).0

    pub by_creases : (i : ℕ) (s : Given) → slice_get starts i ≡ Some s → is_crease s.by ≡ true
    by_creases i s t = let e = edge_at_place (start_of g pairs) 0 (length g.edges) i s (there i s t) in ap is_crease (of_start e.0 s e.2).1

    pub starts_rise : (i j : ℕ) (s t : Given) (d e : ℕ) → i < j → slice_get starts i ≡ Some s → slice_get starts j ≡ Some t → s.by ≡ Crease d → t.by ≡ Crease e → d < e
    starts_rise i j s t d e l p q x y =
        let r = rising_places (start_of g pairs) 0 (length g.edges) i j s t l (there i s p) (there j t q) in
        let a : r.0 ≡ d = one r.0 d (sym (of_start r.0 s r.3).1 ∙ x) in
        let b : r.1 ≡ e = one r.1 e (sym (of_start r.1 t r.4).1 ∙ y) in
        omega (arith, r.2, a, b) where
          one : (m n : ℕ) → Crease m ≡ Crease n → m ≡ n
          one m n x = cc
