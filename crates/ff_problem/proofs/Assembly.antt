-- The case of a folded sheet from its lists.
use Rattle.std.proofs.Common.{◌≡◌, inl, inr, ℕ, ◌+◌, ◌<◌, ◌∙◌, List, [], ◌∷◌, ◌++◌, length, map, slice_get, Option, Some, None, IsTrue, refl, ap, sym, subst, arith}
use Rattle.std.proofs.lemmas.Bool.{false≢true}
use Rattle.std.proofs.lemmas.Option.{slice_get_within}
use Rattle.ff_tables.specs.declared.terms.Constraint.{Constraint}
use Rattle.ff_tables.specs.Orders.{term_at}
use Rattle.ff_tables.specs.Rows.{arity}
use Rattle.ff_tables.specs.Systems.{IsFit}
use Rattle.ff_types.specs.declared.patterns.Pattern.{Pattern}
use Rattle.ff_types.specs.declared.faces.Faces.{Faces}
use Rattle.ff_types.specs.declared.faces.Folded.{Folded}
use Rattle.ff_types.specs.declared.cites.Cite.{Cite}
use Rattle.ff_types.specs.declared.cites.Cite.TheVariants.{Transitivity, TacoTaco, TacoFace, TacoEdge, FlatFace, FlatEdge}
use Rattle.ff_types.specs.declared.cites.Listed.{Listed}
use Rattle.ff_types.specs.Faces.{list_before}
use Rattle.ff_types.specs.Pairs.{StandsIn, in_order, number_of, place_in, pair_at}
use Rattle.ff_types.specs.Sheets.{Sheet, sheet_of}
use Rattle.ff_types.specs.Cites.{Holds, Witnessed, HasSmallPlaces, AreSmall}
use Rattle.ff_types.specs.Terms.{terms_of}
use Rattle.ff_types.specs.Cases.{key, IsConstraintOf}
use Rattle.ff_types.specs.FoldedPatterns.{IsFoldedPattern}
use Rattle.ff_types.proofs.SortedPairs.{place_stands}
use Rattle.ff_borders.proofs.Terms.{terms_differ}
use Rattle.ff_crossings.proofs.CaseRows.{terms_counted}
use Rattle.ff_crossings.proofs.Alike.{mapped, unmapped}
use Rattle.ff_crossings.proofs.Behind.{in_first, in_second, Where, in_either}
use Rattle.ff_cells.specs.declared.cell.Cell.{Cell}
use Rattle.ff_cells.specs.FaceSets.{HaveFaceSets}
use Rattle.ff_trans.specs.Triples.{AreTriples}
use Rattle.ff_tacos.specs.Tacos.{AreTacos, is_of_edges}
use Rattle.ff_types.specs.Splitting.{constraint_of, cite_of}

-- ---- keys

-- every family but transitivity comes after it
after_triples : (c d : Cite) (f h k : ℕ) → key c ≡ 0 ∷ f ∷ h ∷ k ∷ [] → IsTrue (is_of_edges d) → IsTrue (list_before (key c) (key d))
after_triples c (Transitivity f h k at) x y z e t = absurd (false≢true t)
after_triples c (TacoTaco d k) x y z e t = subst (λ l. IsTrue (list_before l (1 ∷ d ∷ k ∷ []))) (sym e) refl
after_triples c (TacoFace d f at) x y z e t = subst (λ l. IsTrue (list_before l (2 ∷ d ∷ f ∷ []))) (sym e) refl
after_triples c (TacoEdge d k) x y z e t = subst (λ l. IsTrue (list_before l (3 ∷ d ∷ k ∷ []))) (sym e) refl
after_triples c (FlatFace d f at) x y z e t = subst (λ l. IsTrue (list_before l (4 ∷ d ∷ f ∷ []))) (sym e) refl
after_triples c (FlatEdge d k) x y z e t = subst (λ l. IsTrue (list_before l (5 ∷ d ∷ k ∷ []))) (sym e) refl

module _ (g : Sheet) (cells : List Cell) (pairs : List (ℕ × ℕ)) (first second list : List Listed) (sets : HaveFaceSets g cells)
    (triples : AreTriples cells pairs first) (tacos : AreTacos g pairs second) (both : list ≡ first ++ second) where
  which : (n : ℕ) (l : Listed) → slice_get list n ≡ Some l → Where first second n l
  which n l e = in_either first second n l (ap (λ xs. slice_get xs n) (sym both) ∙ e)

  cite_there : (n : ℕ) (c : Cite) → slice_get (map cite_of list) n ≡ Some c → (l : Listed) × (slice_get list n ≡ Some l) × (l.cite ≡ c)
  cite_there n c e = unmapped cite_of list n c e

  witnessed_at : (n : ℕ) (l : Listed) → slice_get list n ≡ Some l → Witnessed g l.cite × Holds g l.cite
  unfolding Where
  witnessed_at n l e = elim (which n l e) [
    | inl a ↦ ((triples.witnessed g sets).witnessed n l a, (triples.witnessed g sets).holds n l a)
    | inr r ↦ ((tacos.each r.0 l r.2).witnessed, (tacos.each r.0 l r.2).holds)
  ]

  pub all_witnessed : (n : ℕ) (c : Cite) → slice_get (map cite_of list) n ≡ Some c → Witnessed g c
  all_witnessed n c e = let l = cite_there n c e in subst (λ d. Witnessed g d) l.2 (witnessed_at n l.0 l.1).0

  pub all_hold : (n : ℕ) (c : Cite) → slice_get (map cite_of list) n ≡ Some c → Holds g c
  all_hold n c e = let l = cite_there n c e in subst (λ d. Holds g d) l.2 (witnessed_at n l.0 l.1).1

  small_at : (n : ℕ) (l : Listed) → slice_get list n ≡ Some l → HasSmallPlaces l.cite
  unfolding Where
  small_at n l e = elim (which n l e) [
    | inl a ↦ (triples.witnessed g sets).small n l a
    | inr r ↦ (tacos.each r.0 l r.2).small
  ]

  pub all_small : AreSmall (map cite_of list)
  all_small n c e = let l = cite_there n c e in subst HasSmallPlaces l.2 (small_at n l.0 l.1)

  constraint_at : (n : ℕ) (l : Listed) → slice_get list n ≡ Some l → IsConstraintOf g pairs l.cite l.constraint
  unfolding Where
  constraint_at n l e = elim (which n l e) [
    | inl a ↦ triples.some.constraints_are n l a g
    | inr r ↦ (tacos.each r.0 l r.2).constraint
  ]

  one_there : {A : Type 0} (x y : A) → Some x ≡ Some y → x ≡ y
  one_there x y e = cc

  pub constraints_are : (n : ℕ) (c : Cite) (con : Constraint) → slice_get (map cite_of list) n ≡ Some c → slice_get (map constraint_of list) n ≡ Some con → IsConstraintOf g pairs c con
  constraints_are n c con e f =
      let l = cite_there n c e in
      let same : l.0.constraint ≡ con = one_there l.0.constraint con (sym (mapped constraint_of list n l.0 l.1) ∙ f) in
      subst (λ x. IsConstraintOf g pairs c x) same (subst (λ d. IsConstraintOf g pairs d l.0.constraint) l.2 (constraint_at n l.0 l.1))

  -- all are there
  here : (n : ℕ) (l : Listed) (k : List ℕ) → slice_get list n ≡ Some l → key l.cite ≡ k → (n : ℕ) × (d : Cite) × (slice_get (map cite_of list) n ≡ Some d) × (key d ≡ k)
  here n l k e f = (n, l.cite, mapped cite_of list n l e, f)

  of_first : (k : List ℕ) → (n : ℕ) × (l : Listed) × (slice_get first n ≡ Some l) × (key l.cite ≡ k) → (n : ℕ) × (d : Cite) × (slice_get (map cite_of list) n ≡ Some d) × (key d ≡ k)
  of_first k (n, l, e, f) = here n l k (ap (λ xs. slice_get xs n) both ∙ in_first first second n l e) f

  of_second : (k : List ℕ) → (n : ℕ) × (l : Listed) × (slice_get second n ≡ Some l) × (key l.cite ≡ k) → (n : ℕ) × (d : Cite) × (slice_get (map cite_of list) n ≡ Some d) × (key d ≡ k)
  of_second k (n, l, e, f) = here (length first + n) l k (ap (λ xs. slice_get xs (length first + n)) both ∙ in_second first second n l e) f

  pub all_there : (c : Cite) → Holds g c → (n : ℕ) × (d : Cite) × (slice_get (map cite_of list) n ≡ Some d) × (key d ≡ key c)
  all_there (Transitivity f h k at) holds = of_first (0 ∷ f ∷ h ∷ k ∷ []) (triples.complete g sets f h k at holds)
  all_there (TacoTaco d k) holds = of_second (1 ∷ d ∷ k ∷ []) (tacos.complete (TacoTaco d k) refl holds)
  all_there (TacoFace d f at) holds = of_second (2 ∷ d ∷ f ∷ []) (tacos.complete (TacoFace d f at) refl holds)
  all_there (TacoEdge d k) holds = of_second (3 ∷ d ∷ k ∷ []) (tacos.complete (TacoEdge d k) refl holds)
  all_there (FlatFace d f at) holds = of_second (4 ∷ d ∷ f ∷ []) (tacos.complete (FlatFace d f at) refl holds)
  all_there (FlatEdge d k) holds = of_second (5 ∷ d ∷ k ∷ []) (tacos.complete (FlatEdge d k) refl holds)

  -- in order
  triple_key : (n : ℕ) (l : Listed) → slice_get first n ≡ Some l → (f : ℕ) × (h : ℕ) × (k : ℕ) × (key l.cite ≡ 0 ∷ f ∷ h ∷ k ∷ [])
  triple_key n l e = let t = triples.some.each n l e in (t.f, t.h, t.k, ap key t.cite)

  listed_order : (m n : ℕ) (l o : Listed) → m < n → Where first second m l → Where first second n o → IsTrue (list_before (key l.cite) (key o.cite))
  unfolding Where
  listed_order m n l o k (inl a) (inl b) = triples.some.sorted m n l o k a b
  listed_order m n l o k (inl a) (inr b) = let t = triple_key m l a in after_triples l.cite o.cite t.0 t.1 t.2 t.3 (tacos.each b.0 o b.2).of_edges
  listed_order m n l o k (inr a) (inl b) = let i = slice_get_within first n o b in absurd (omega (arith, i, k, a.1))
  listed_order m n l o k (inr a) (inr b) = tacos.sorted a.0 b.0 l o (omega (arith, k, a.1, b.1)) a.2 b.2

  pub all_sorted : (m n : ℕ) (c d : Cite) → m < n → slice_get (map cite_of list) m ≡ Some c → slice_get (map cite_of list) n ≡ Some d → IsTrue (list_before (key c) (key d))
  all_sorted m n c d k e f =
      let l = cite_there m c e in
      let o = cite_there n d f in
      subst (λ x. IsTrue (list_before (key x) (key d))) l.2 (subst (λ y. IsTrue (list_before (key l.0.cite) (key y))) o.2 (listed_order m n l.0 o.0 k (which m l.0 l.1) (which n o.0 o.1)))

-- ---- the variables of a constraint

module _ {pattern : Pattern} {faces : Faces} {folded : Folded} (h : IsFoldedPattern pattern faces folded) (pairs : List (ℕ × ℕ)) where
  abbrev g : Sheet
  g = sheet_of pattern faces folded

  stands_there : (p : ℕ × ℕ) (n : ℕ) → number_of pairs p.0 p.1 ≡ Some n → slice_get pairs n ≡ Some (in_order p.0 p.1)
  stands_there p n e = by (place_in pairs (in_order p.0 p.1)) e (place_stands pairs (in_order p.0 p.1)) where
    by : (r : Option ℕ) → r ≡ Some n → StandsIn pairs (in_order p.0 p.1) r → slice_get pairs n ≡ Some (in_order p.0 p.1)
    by None q s = absurd (none_some q) where
      none_some : None ≡ Some n → ⊥
      none_some x = cc
    by (Some m) q s = ap (slice_get pairs) (sym (one q)) ∙ s where
      one : Some m ≡ Some n → m ≡ n
      one x = cc

  pub is_fit : (c : Cite) (con : Constraint) → Holds g c → IsConstraintOf g pairs c con → IsFit (length pairs) con
  is_fit c con holds is = record {
    terms = is.counted ∙ terms_counted g c ∙ ap arity (sym is.kind);
    within = λ j l. slice_get_within pairs (term_at con.terms j).var _ (there j l);
    differ = λ i j l k e. terms_differ h c holds i j (omega (arith, l, is.counted)) (omega (arith, k, is.counted)) (same_pair (sym (there i l) ∙ ap (slice_get pairs) e ∙ there j k));
  } where
    there : (j : ℕ) → j < length con.terms → slice_get pairs (term_at con.terms j).var ≡ Some (in_order (pair_at (terms_of g c) j).0 (pair_at (terms_of g c) j).1)
    there j l = stands_there (pair_at (terms_of g c) j) (term_at con.terms j).var (is.terms j l).variable

    same_pair : {p q : ℕ × ℕ} → Some p ≡ Some q → p ≡ q
    same_pair x = cc
