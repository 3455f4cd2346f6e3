-- Two cases of a folded sheet differ at most in the places of their cites.
use Rattle.std.proofs.Common.{◌≡◌, ◌⊎◌, inl, inr, ℕ, zero, suc, ◌==◌, ◌∙◌, ◌&&◌, ◌||◌, Bool, true, false, List, [], ◌∷◌, length, map, nat_lt, slice_get, slice_index_or, Some, IsTrue, refl, ap, sym, subst, arith}
use Rattle.std.proofs.lemmas.Bool.{false≢true, ltb-true, eqb-true}
use Rattle.std.proofs.lemmas.List.{length-map, get_or-map}
use Rattle.std.proofs.lemmas.Option.{slice_get_within, slice_get-get_or, get_or_from_slice_get, same_Some}
use Rattle.ff_tables.specs.declared.terms.Kind.{Kind}
use Rattle.ff_tables.specs.declared.terms.Term.{Term}
use Rattle.ff_tables.specs.declared.terms.Constraint.{Constraint}
use Rattle.ff_types.specs.declared.patterns.Pattern.{Pattern}
use Rattle.ff_types.specs.declared.faces.Faces.{Faces}
use Rattle.ff_types.specs.declared.faces.Folded.{Folded}
use Rattle.ff_types.specs.declared.cases.Case.{Case}
use Rattle.ff_types.specs.declared.cites.Cite.{Cite}
use Rattle.ff_types.specs.Faces.{list_before}
use Rattle.ff_types.specs.Pairs.{is_before}
use Rattle.ff_types.specs.Sheets.{Sheet, sheet_of, edges_of}
use Rattle.ff_types.specs.Terms.{kind_of, terms_of}
use Rattle.ff_types.specs.Cases.{key, start_of, IsCaseOf, IsTermOf, IsConstraintOf}
use Rattle.ff_types.specs.FoldedPatterns.{IsFoldedPattern}
use Rattle.ff_types.proofs.SortedPairs.{before_is}
use Rattle.ff_borders.proofs.Witnesses.{witnessed_hold}
use Rattle.ff_crossings.specs.CaseLaws.{CasesAreAlike}
use Rattle.std.specs.List.{filter_map}
use Rattle.ff_basics.proofs.Tests.{both_of, either_of}
use Rattle.ff_crossings.proofs.Truth.{at_place}
use Rattle.ff_crossings.proofs.CaseRows.{same_terms}
use Rattle.ff_crossings.proofs.SortedLists.{InOrder, Stands, same_lists}

-- ---- lists

pub by_places : {A : Type 0} (xs ys : List A) → length xs ≡ length ys → ((n : ℕ) (x y : A) → slice_get xs n ≡ Some x → slice_get ys n ≡ Some y → x ≡ y) → xs ≡ ys
by_places [] [] e f = refl
by_places [] (y ∷ ys) e f = absurd (omega (arith, e))
by_places (x ∷ xs) [] e f = absurd (omega (arith, e))
by_places (x ∷ xs) (y ∷ ys) e f = ap (λ z. z ∷ xs) (f 0 x y refl refl) ∙ ap (λ zs. y ∷ zs) (by_places xs ys (omega (arith, e)) (λ n. f (suc n)))

pub mapped : {A B : Type 0} (f : A → B) (xs : List A) (n : ℕ) (x : A) → slice_get xs n ≡ Some x → slice_get (map f xs) n ≡ Some (f x)
mapped f xs n x e =
    let l = slice_get_within xs n x e in
    slice_get-get_or (map f xs) n (f x) (omega (arith, l, length-map xs f)) ∙ ap Some (get_or-map f xs n x (f x) l ∙ ap f (get_or_from_slice_get xs n x x e))

pub unmapped : {A B : Type 0} (f : A → B) (xs : List A) (n : ℕ) (y : B) → slice_get (map f xs) n ≡ Some y → (x : A) × (slice_get xs n ≡ Some x) × (f x ≡ y)
unmapped f [] n y e = absurd (omega (arith, slice_get_within [] n y e))
unmapped f (x ∷ xs) zero y e = (x, refl, the e) where
  the : Some (f x) ≡ Some y → f x ≡ y
  the q = cc
unmapped f (x ∷ xs) (suc n) y e = unmapped f xs n y e

-- ---- orders

pub lists_apart : (p q : List ℕ) → IsTrue (list_before p q) → IsTrue (list_before q p) → ⊥
lists_apart [] [] h k = false≢true h
lists_apart [] (y ∷ q) h k = false≢true k
lists_apart (x ∷ p) [] h k = false≢true h
lists_apart (x ∷ p) (y ∷ q) h k = elim (either_of (nat_lt x y) ((x == y) && list_before p q) h) [
  | inl a ↦ elim (either_of (nat_lt y x) ((y == x) && list_before q p) k) [
    | inl b ↦ omega (arith, ltb-true x y a, ltb-true y x b)
    | inr b ↦ omega (arith, ltb-true x y a, eqb-true y x (both_of (y == x) (list_before q p) b).0)
  ]
  | inr a ↦ elim (either_of (nat_lt y x) ((y == x) && list_before q p) k) [
    | inl b ↦ omega (arith, ltb-true y x b, eqb-true x y (both_of (x == y) (list_before p q) a).0)
    | inr b ↦ lists_apart p q (both_of (x == y) (list_before p q) a).1 (both_of (y == x) (list_before q p) b).1
  ]
]

pub pairs_apart : (p q : ℕ × ℕ) → IsTrue (is_before p q) → IsTrue (is_before q p) → ⊥
pairs_apart p q h k = elim (before_is p q h) [
  | inl a ↦ elim (before_is q p k) [ inl b ↦ omega (arith, a, b) | inr b ↦ omega (arith, a, b.0) ]
  | inr a ↦ elim (before_is q p k) [ inl b ↦ omega (arith, a.0, b) | inr b ↦ omega (arith, a.1, b.1) ]
]

-- ---- constraints

same_term : (pairs : List (ℕ × ℕ)) (p : ℕ × ℕ) (s t : Term) → IsTermOf pairs p s → IsTermOf pairs p t → s ≡ t
same_term pairs p s t a b = of_fields (same_Some s.var t.var (sym a.variable ∙ b.variable)) (a.turned ∙ sym b.turned) where
  of_fields : s.var ≡ t.var → s.flipped ≡ t.flipped → s ≡ t
  of_fields d e = ap (λ (v : ℕ). record { var = v; flipped = s.flipped }) d ∙ ap (λ (f : Bool). record { var = t.var; flipped = f }) e

same_constraint : (g : Sheet) (pairs : List (ℕ × ℕ)) (c d : Cite) (x y : Constraint) → key c ≡ key d → IsConstraintOf g pairs c x → IsConstraintOf g pairs d y → x ≡ y
same_constraint g pairs c d x y e a b = of_fields (a.kind ∙ t.0 ∙ sym b.kind) terms where
  t : (kind_of c ≡ kind_of d) × (terms_of g c ≡ terms_of g d)
  t = same_terms g c d e

  long : length x.terms ≡ length y.terms
  long = a.counted ∙ ap length t.1 ∙ sym b.counted

  terms : x.terms ≡ y.terms
  terms = by_places x.terms y.terms long (λ n s u p q.
      let l = slice_get_within x.terms n s p in
      let m = slice_get_within y.terms n u q in
      let first = subst (λ (z : Term). IsTermOf pairs (slice_index_or (terms_of g c) n (0, 0)) z) (get_or_from_slice_get x.terms n s (record { var = 0; flipped = false }) p) (a.terms n l) in
      let second = subst (λ (z : Term). IsTermOf pairs (slice_index_or (terms_of g d) n (0, 0)) z) (get_or_from_slice_get y.terms n u (record { var = 0; flipped = false }) q) (b.terms n m) in
      same_term pairs (slice_index_or (terms_of g d) n (0, 0)) s u (subst (λ ts. IsTermOf pairs (slice_index_or ts n (0, 0)) s) t.1 first) second)

  of_fields : x.kind ≡ y.kind → x.terms ≡ y.terms → x ≡ y
  of_fields p q = ap (λ (k : Kind). record { kind = k; terms = x.terms }) p ∙ ap (λ (ts : List Term). record { kind = y.kind; terms = ts }) q

-- ---- cases

module _ {pattern : Pattern} {faces : Faces} {folded : Folded} (h : IsFoldedPattern pattern faces folded) where
  abbrev g : Sheet
  g = sheet_of pattern faces folded

  pairs_in_order : (case : Case) → IsCaseOf g case → InOrder (λ p q. IsTrue (is_before p q)) case.pairs
  unfolding InOrder
  pairs_in_order case is = is.sorted_pairs.sorted

  other_pair : (case other : Case) → IsCaseOf g case → IsCaseOf g other → (p : ℕ × ℕ) → Stands case.pairs p → Stands other.pairs p
  other_pair case other is os p (n, e) = let l = is.sorted_pairs.rising n p e in (os.pairs_are p.0 p.1 l).0 ((is.pairs_are p.0 p.1 l).1 (n, e))

  same_pairs : (case other : Case) → IsCaseOf g case → IsCaseOf g other → case.pairs ≡ other.pairs
  same_pairs case other is os = same_lists (λ p q. IsTrue (is_before p q)) pairs_apart case.pairs other.pairs (pairs_in_order case is) (pairs_in_order other os)
      (λ p. (other_pair case other is os p, other_pair other case os is p))

  keys_in_order : (case : Case) → IsCaseOf g case → InOrder (λ p q. IsTrue (list_before p q)) (map key case.cites)
  unfolding InOrder
  keys_in_order case is m n p q l a b =
      let c = unmapped key case.cites m p a in
      let d = unmapped key case.cites n q b in
      subst (λ x. IsTrue (list_before x q)) c.2 (subst (λ x. IsTrue (list_before (key c.0) x)) d.2 (is.sorted_cites m n c.0 d.0 l c.1 d.1))

  other_key : (case other : Case) → IsCaseOf g case → IsCaseOf g other → (p : List ℕ) → Stands (map key case.cites) p → Stands (map key other.cites) p
  other_key case other is os p (n, e) =
      let c = unmapped key case.cites n p e in
      let d = os.complete c.0 (witnessed_hold h c.0 (is.witnessed n c.0 c.1)) in
      (d.0, mapped key other.cites d.0 d.1 d.2 ∙ ap Some (d.3 ∙ c.2))

  same_keys : (case other : Case) → IsCaseOf g case → IsCaseOf g other → map key case.cites ≡ map key other.cites
  same_keys case other is os = same_lists (λ p q. IsTrue (list_before p q)) lists_apart (map key case.cites) (map key other.cites) (keys_in_order case is) (keys_in_order other os)
      (λ p. (other_key case other is os p, other_key other case os is p))

  -- the constraints at one place rest on cites with one key
  same_at : (case other : Case) → IsCaseOf g case → IsCaseOf g other → (n : ℕ) (x y : Constraint) → slice_get case.system.constraints n ≡ Some x
      → slice_get other.system.constraints n ≡ Some y → x ≡ y
  same_at case other is os n x y a b = same_constraint g case.pairs c.0 d.0 x y keys (is.constraints_are n c.0 x c.1 a)
      (subst (λ ps. IsConstraintOf g ps d.0 y) (sym (same_pairs case other is os)) (os.constraints_are n d.0 y d.1 b)) where
        c : (c : Cite) × (slice_get case.cites n ≡ Some c)
        c = at_place case.cites n (let l = slice_get_within case.system.constraints n x a in omega (arith, l, case.valid.cited))

        d : (d : Cite) × (slice_get other.cites n ≡ Some d)
        d = at_place other.cites n (let l = slice_get_within other.system.constraints n y b in omega (arith, l, other.valid.cited))

        keys : key c.0 ≡ key d.0
        keys = the (sym (mapped key case.cites n c.0 c.1) ∙ ap (λ l. slice_get l n) (same_keys case other is os) ∙ mapped key other.cites n d.0 d.1) where
          the : Some (key c.0) ≡ Some (key d.0) → key c.0 ≡ key d.0
          the q = cc

  pub cases_are_alike : CasesAreAlike g
  cases_are_alike case other is os = record {
    pairs = same_pairs case other is os;
    vars = sym case.valid.paired ∙ ap length (same_pairs case other is os) ∙ other.valid.paired;
    constraints = by_places case.system.constraints other.system.constraints
        (sym case.valid.cited ∙ sym (length-map case.cites key) ∙ ap length (same_keys case other is os) ∙ length-map other.cites key ∙ other.valid.cited)
        (same_at case other is os);
    starts = is.starts_are ∙ ap (λ ps. filter_map (start_of g ps) (edges_of g)) (same_pairs case other is os) ∙ sym os.starts_are;
  }
