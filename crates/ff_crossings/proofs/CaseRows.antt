-- The rows of a case's constraints are those of its cites.
use Rattle.std.proofs.Common.{◌≡◌, ◌⊎◌, inl, inr, ℕ, zero, suc, ◌<◌, ◌∙◌, Bool, true, false, List, [], ◌∷◌, length, map, nat_lt, slice_index_or, Option, Some, None, if◌then◌else◌, refl, ap, sym, subst, arith}
use Rattle.std.proofs.lemmas.Bool.{false≢true, lt-ltb, le-ltb}
use Rattle.std.proofs.lemmas.List.{length-map, get_or-map, ext_get_or}
use Rattle.ff_tables.specs.declared.orders.Order.{Order}
use Rattle.ff_tables.specs.declared.orders.Order.TheVariants.{Below, Above}
use Rattle.ff_tables.specs.declared.terms.Kind.{Kind}
use Rattle.ff_tables.specs.declared.terms.Kind.TheVariants as kind
use Rattle.ff_tables.specs.declared.terms.Term.{Term}
use Rattle.ff_tables.specs.declared.terms.Constraint.{Constraint}
use Rattle.ff_tables.specs.Orders.{turn, term_at, row_at}
use Rattle.ff_tables.specs.Rows.{arity, HasRow}
use Rattle.ff_tables.specs.Forces.{SomeAgrees}
use Rattle.ff_types.specs.declared.cites.Cite.{Cite}
use Rattle.ff_types.specs.declared.cites.Cite.TheVariants.{Transitivity, TacoTaco, TacoFace, TacoEdge, FlatFace, FlatEdge}
use Rattle.ff_types.specs.Pairs.{AreSorted, in_order}
use Rattle.ff_types.specs.Sheets.{Sheet}
use Rattle.ff_types.specs.Cases.{key, IsTermOf, IsConstraintOf}
use Rattle.ff_types.specs.Cites.{lesser, greater}
use Rattle.ff_types.specs.Terms.{kind_of, terms_of, value_in, HasItsRow}
use Rattle.ff_types.specs.Assignments.{says_above, says_below, set_by}
use Rattle.ff_crossings.proofs.RowTests.{row_length, row_passes}
use Rattle.ff_crossings.proofs.PairSets.{Numbered, numbered, lower_value, upper_value}

turn_back : (b : Bool) (s : Order) → turn b (turn b s) ≡ s
turn_back false s = refl
turn_back true Below = refl
turn_back true Above = refl

pub terms_counted : (g : Sheet) (c : Cite) → length (terms_of g c) ≡ arity (kind_of c)
terms_counted g (Transitivity f h k at) = refl
terms_counted g (TacoTaco e k) = refl
terms_counted g (TacoFace e face at) = refl
terms_counted g (TacoEdge e flat) = refl
terms_counted g (FlatFace flat face at) = refl
terms_counted g (FlatEdge flat flat2) = refl

-- the value of a term in the set of an assignment is that of its variable, turned where it is flipped
of_term : (pairs : List (ℕ × ℕ)) → AreSorted pairs → (a : ℕ → Order) (p : ℕ × ℕ) (t : Term) → IsTermOf pairs p t → value_in (set_by pairs a) p ≡ turn t.flipped (a t.var)
unfolding Numbered
of_term pairs sorted a p t is = elim (compare p.0 p.1) [
  | inl e ↦ absurd (never e)
  | inr d ↦ elim d [
    | inl l ↦ ap (λ b. if b then Above else Below) (lower_value pairs (λ n. Some (a n)) p.0 p.1 t.var is.variable l) ∙ by_above (a t.var) ∙ ap (λ b. turn b (a t.var)) (sym (is.turned ∙ le-ltb p.1 p.0 (omega (arith, l))))
    | inr l ↦ ap (λ b. if b then Above else Below) (upper_value pairs (λ n. Some (a n)) p.0 p.1 t.var is.variable l) ∙ by_below (a t.var) ∙ ap (λ b. turn b (a t.var)) (sym (is.turned ∙ lt-ltb p.1 p.0 l))
  ]
] where
  compare : (m n : ℕ) → (m ≡ n) ⊎ ((m < n) ⊎ (n < m))
  compare m n = grind arith

  by_above : (s : Order) → (if says_above (Some s) then Above else Below) ≡ turn false s
  by_above Above = refl
  by_above Below = refl

  by_below : (s : Order) → (if says_below (Some s) then Above else Below) ≡ turn true s
  by_below Above = refl
  by_below Below = refl

  never : p.0 ≡ p.1 → ⊥
  never e = elim (numbered pairs p.0 p.1) [
    | inl s ↦ let l = sorted.rising s.0 (in_order p.0 p.1) s.2 in omega (arith, l, ordered)
    | inr s ↦ no_number (sym s.0 ∙ is.variable)
  ] where
    ordered : (in_order p.0 p.1).0 ≡ (in_order p.0 p.1).1
    ordered = by (nat_lt p.0 p.1) where
      by : (b : Bool) → (if b then p else (p.1, p.0)).0 ≡ (if b then p else (p.1, p.0)).1
      by true = e
      by false = sym e

    no_number : None ≡ Some t.var → ⊥
    no_number x = none_some x where
      none_some : None ≡ Some t.var → ⊥
      none_some q = false≢true (ap is_some q) where
        is_some : Option ℕ → Bool
        is_some None = false
        is_some (Some n) = true

module _ (g : Sheet) (pairs : List (ℕ × ℕ)) (sorted : AreSorted pairs) (a : ℕ → Order) (c : Cite) (con : Constraint) (is : IsConstraintOf g pairs c con) where
  row : List Order
  row = map (value_in (set_by pairs a)) (terms_of g c)

  value_at_term : (j : ℕ) → j < length con.terms → row_at row j ≡ turn (term_at con.terms j).flipped (a (term_at con.terms j).var)
  unfolding row
  value_at_term j l =
      get_or-map (value_in (set_by pairs a)) (terms_of g c) j (0, 0) Below (omega (arith, l, is.counted))
      ∙ of_term pairs sorted a (slice_index_or (terms_of g c) j (0, 0)) (term_at con.terms j) (is.terms j l)

  -- the assignment gives the constraint a row exactly where its set gives the cite one
  pub row_from_set : HasItsRow g (set_by pairs a) c → SomeAgrees con.kind con.terms (λ v s. a v ≡ s)
  unfolding row
  row_from_set (k, has) = (
    k,
    row,
    subst (λ (kind : Kind). HasRow kind k row) (sym is.kind) has,
    λ j b l known.
        value_at_term j l ∙ ap (turn (term_at con.terms j).flipped) known ∙ turn_back (term_at con.terms j).flipped b,
  )

  pub set_from_row : SomeAgrees con.kind con.terms (λ v s. a v ≡ s) → HasItsRow g (set_by pairs a) c
  unfolding row
  set_from_row (k, r, has, agrees) = (k, subst (λ (x : List Order). HasRow (kind_of c) k x) same there) where
    there : HasRow (kind_of c) k r
    there = subst (λ (kind : Kind). HasRow kind k r) is.kind has

    long : length r ≡ length con.terms
    long = row_length (kind_of c) r (row_passes (kind_of c) r (k, there)) ∙ sym (terms_counted g c) ∙ sym is.counted

    same : r ≡ row
    same = ext_get_or Below r row (long ∙ is.counted ∙ sym (length-map (terms_of g c) (value_in (set_by pairs a)))) (λ j l.
        let m : j < length con.terms = omega (arith, l, long) in
        agrees j (turn (term_at con.terms j).flipped (a (term_at con.terms j).var)) m (sym (turn_back (term_at con.terms j).flipped (a (term_at con.terms j).var))) ∙ sym (value_at_term j m))

-- the terms by the key: a cite's places don't count
kind_by : List ℕ → Kind
kind_by (zero ∷ rest) = kind.Transitivity
kind_by (suc zero ∷ rest) = kind.TacoTaco
kind_by (suc (suc zero) ∷ rest) = kind.TacoTortilla
kind_by (suc (suc (suc zero)) ∷ rest) = kind.TacoTortilla
kind_by _ = kind.TortillaTortilla

terms_by : Sheet → List ℕ → List (ℕ × ℕ)
terms_by g (zero ∷ f ∷ h ∷ k ∷ []) = (f, h) ∷ (f, k) ∷ (h, k) ∷ []
terms_by g (suc zero ∷ e ∷ k ∷ []) = terms_of g (TacoTaco e k)
terms_by g (suc (suc zero) ∷ e ∷ face ∷ []) = (lesser g e, face) ∷ (greater g e, face) ∷ []
terms_by g (suc (suc (suc zero)) ∷ e ∷ flat ∷ []) = terms_of g (TacoEdge e flat)
terms_by g (suc (suc (suc (suc zero))) ∷ e ∷ face ∷ []) = (lesser g e, face) ∷ (greater g e, face) ∷ []
terms_by g (suc (suc (suc (suc (suc zero)))) ∷ e ∷ flat ∷ []) = terms_of g (FlatEdge e flat)
terms_by g _ = []

kind_is : (c : Cite) → kind_of c ≡ kind_by (key c)
unfolding kind_by
kind_is (Transitivity f h k at) = refl
kind_is (TacoTaco e k) = refl
kind_is (TacoFace e face at) = refl
kind_is (TacoEdge e flat) = refl
kind_is (FlatFace flat face at) = refl
kind_is (FlatEdge flat flat2) = refl

terms_are : (g : Sheet) (c : Cite) → terms_of g c ≡ terms_by g (key c)
unfolding terms_by
terms_are g (Transitivity f h k at) = refl
terms_are g (TacoTaco e k) = refl
terms_are g (TacoFace e face at) = refl
terms_are g (TacoEdge e flat) = refl
terms_are g (FlatFace flat face at) = refl
terms_are g (FlatEdge flat flat2) = refl

-- cites with one key have the same terms
pub same_terms : (g : Sheet) (c d : Cite) → key c ≡ key d → (kind_of c ≡ kind_of d) × (terms_of g c ≡ terms_of g d)
same_terms g c d e = (kind_is c ∙ ap kind_by e ∙ sym (kind_is d), terms_are g c ∙ ap (terms_by g) e ∙ sym (terms_are g d))
