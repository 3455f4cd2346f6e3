-- What the cite of a crossing names is crossed.
use Rattle.std.proofs.Common.{◌≡◌, ◌⊎◌, inl, inr, ℕ, zero, ◌<◌, Bool, true, false, ◌&&◌, List, [], ◌∷◌, length, slice_get, IsTrue, Some, refl, sym, ap, subst, ◌∙◌, arith, Contains}
use Rattle.std.proofs.lemmas.Bool.{false≢true}
use Rattle.ff_basics.proofs.Memberships.{filter_in, in_filter, range_in}
use Rattle.ff_basics.proofs.Numbers.{less_or}
use Rattle.ff_basics.proofs.Options.{some_same}
use Rattle.ff_basics.proofs.Tests.{of_both}
use Rattle.ff_tables.specs.declared.terms.Kind.TheVariants as kind
use Rattle.ff_whole.specs.declared.places.Place.{Place}
use Rattle.ff_whole.specs.Places.{IsPlace}
use Rattle.ff_types.specs.declared.cites.Cite.{Cite}
use Rattle.ff_types.specs.declared.cites.Cite.TheVariants.{Transitivity, TacoTaco, TacoFace, TacoEdge, FlatFace, FlatEdge}
use Rattle.ff_types.specs.declared.cases.Case.{Case}
use Rattle.ff_types.specs.Faces.{list_before}
use Rattle.ff_types.specs.Sheets.{Sheet, faces_of}
use Rattle.ff_types.specs.Inside.{is_inside, over, HaveCommon}
use Rattle.ff_types.specs.Covering.{covers_left, covers_right, left_faces, right_faces}
use Rattle.ff_types.specs.Cases.{key, IsCaseOf}
use Rattle.ff_types.specs.Cites.{Holds}
use Rattle.ff_types.specs.Terms.{HasItsRow}
use Rattle.ff_types.specs.Stackings.{CanBeListed, IsStacking, OrdersOverlaps}
use Rattle.ff_types.proofs.FewFaces.{inside_face}
use Rattle.ff_crossings.specs.Crossed.{IsCrossed}
use Rattle.ff_crossings.specs.Listings.{AreCompared, ListedExactly, PartsAreListed, TriplesSuffice}
use Rattle.ff_crossings.specs.RowMeanings.{RowsByTest, values}
use Rattle.ff_crossings.proofs.BorderLaws.{HasBorderLaws}
use Rattle.ff_crossings.proofs.CiteRows.{row_or_crossed}
use Rattle.ff_orders.specs.declared.items.OrderItem.{OrderItem}
use Rattle.ff_orders.specs.declared.items.OrderVerdict.TheVariants.{Crossing}
use Rattle.ff_orders.specs.Said.{IsSaid}
use Rattle.ff_orders.specs.Verdicts.{IsFirstNoRow, IsNoTriple, IsVerdict}
use Rattle.ff_orders.proofs.SaidOrders.{known, overlaps, row_by_key, row_known}
use Rattle.ff_orders.proofs.Rounds.{no_row_of}

-- three faces come before any constraint that isn't of three faces
triples_first : (c d : Cite) (f h k : ℕ) → IsNoTriple c → key d ≡ 0 ∷ f ∷ h ∷ k ∷ [] → IsTrue (list_before (key c) (key d)) → ⊥
triples_first c d f h k other e t = by c other (subst (λ xs. IsTrue (list_before (key c) xs)) e t) where
  by : (c : Cite) → IsNoTriple c → IsTrue (list_before (key c) (0 ∷ f ∷ h ∷ k ∷ [])) → ⊥
  by (Transitivity x y z at) n t = absurd n
  by (TacoTaco x y) n t = false≢true t
  by (TacoFace x y at) n t = false≢true t
  by (TacoEdge x y) n t = false≢true t
  by (FlatFace x y at) n t = false≢true t
  by (FlatEdge x y) n t = false≢true t

not_same : (c d : Cite) (f h k : ℕ) → IsNoTriple c → key d ≡ 0 ∷ f ∷ h ∷ k ∷ [] → c ≡ d → ⊥
not_same c d f h k other e same = by c other (ap key same ∙ e) where
  is_zero : List ℕ → Bool
  is_zero (zero ∷ rest) = true
  is_zero _ = false

  by : (c : Cite) → IsNoTriple c → key c ≡ 0 ∷ f ∷ h ∷ k ∷ [] → ⊥
  by (Transitivity x y z at) n q = absurd n
  by (TacoTaco x y) n q = false≢true (ap is_zero q)
  by (TacoFace x y at) n q = false≢true (ap is_zero q)
  by (TacoEdge x y) n q = false≢true (ap is_zero q)
  by (FlatFace x y at) n q = false≢true (ap is_zero q)
  by (FlatEdge x y) n q = false≢true (ap is_zero q)

module _ (g : Sheet) (laws : HasBorderLaws g) (by_test : RowsByTest) (exactly : ListedExactly) (suffice : TriplesSuffice) (parts : PartsAreListed) where
  -- ---- where all triples have rows, faces can be listed

  module _ (above : ℕ → ℕ → Bool) (orders : OrdersOverlaps g above)
      (rows : (f h k : ℕ) → f < h → h < k → HaveCommon g (f ∷ h ∷ k ∷ []) → HasItsRow g above (Transitivity f h k [])) where
    in_over : (s : Place) (f : ℕ) → Contains (over g s) f → IsTrue (is_inside g f s)
    in_over s f m = (in_filter (λ x. is_inside g x s) (faces_of g) f m).1

    over_in : (s : Place) (f : ℕ) → IsTrue (is_inside g f s) → Contains (over g s) f
    over_in s f t = filter_in (λ x. is_inside g x s) (faces_of g) f
        (range_in 0 (length g.rings) f (omega arith) (let l = inside_face g f s t in omega (arith, l))) t

    compared : (s : Place) → IsPlace s → AreCompared above (over g s)
    compared s place f h mf mh d = orders.one f h (record {
      differ = d;
      common = record {
        at = s;
        place = place;
        inside = of_both (is_inside g f s) (is_inside g h s && true) (in_over s f mf) (of_both (is_inside g h s) true (in_over s h mh) refl);
      };
    })

    places : (s : Place) → IsPlace s → CanBeListed above (over g s)
    places s place = (exactly above (over g s) (compared s place)).1 ((suffice above (over g s) (compared s place)).1
        (λ f h k mf mh mk l m. (by_test kind.Transitivity (values above ((f, h) ∷ (f, k) ∷ (h, k) ∷ []))).0
        (rows f h k l m (record {
          at = s;
          place = place;
          inside = of_both (is_inside g f s) (is_inside g h s && (is_inside g k s && true)) (in_over s f mf)
              (of_both (is_inside g h s) (is_inside g k s && true) (in_over s h mh) (of_both (is_inside g k s) true (in_over s k mk) refl));
        }))))

    beside : (covers : ℕ → Bool) → (t : Place) × IsPlace t × ((f : ℕ) → IsTrue (covers f) → IsTrue (is_inside g f t))
        → (faces : List ℕ) → ((f : ℕ) → Contains faces f → IsTrue (covers f)) → CanBeListed above faces
    beside covers (t, place, inside) faces member = parts above (over g t) faces (λ f m. over_in t f (inside f (member f m))) (places t place)

    stacking : IsStacking g above
    stacking = record {
      orders = orders;
      places = places;
      left = λ e s plain. beside (covers_left g e s) (laws.beside e s plain).0 (left_faces g e s) (λ f m. (in_filter (covers_left g e s) (faces_of g) f m).1);
      right = λ e s plain. beside (covers_right g e s) (laws.beside e s plain).1 (right_faces g e s) (λ f m. (in_filter (covers_right g e s) (faces_of g) f m).1);
    }

  module _ (case : Case) (is : IsCaseOf g case) (items : List OrderItem) (above : ℕ → ℕ → Bool) (said : IsSaid g items above) where
    -- all triples stand before the first constraint without a row, where it isn't one of them
    triple_rows : (c : Cite) → IsNoTriple c → IsFirstNoRow g case above c
        → (f h k : ℕ) → f < h → h < k → HaveCommon g (f ∷ h ∷ k ∷ []) → HasItsRow g above (Transitivity f h k [])
    triple_rows c other first f h k l m common = by (is.complete (Transitivity f h k []) (l, m, common)) where
      by : (n : ℕ) × (d : Cite) × (slice_get case.cites n ≡ Some d) × (key d ≡ key (Transitivity f h k [])) → HasItsRow g above (Transitivity f h k [])
      by (n, d, there, same) = row_by_key g above (Transitivity f h k []) d same (known (row_known by_test g above d)
          (λ none. first.first.before n earlier (record { cite = d; there = there; none = none }))) where
            earlier : n < first.number
            earlier = elim (less_or n first.number) [
              | inl less ↦ less
              | inr k2 ↦ elim k2 [
                | inl e ↦ absurd (not_same c d f h k other same (some_same (sym first.there ∙ ap (slice_get case.cites) (sym e) ∙ there)))
                | inr more ↦ absurd (triples_first c d f h k other same (is.sorted_cites first.number n c d more first.there there))
              ]
            ]

    pub crossing_is : (c : Cite) → IsVerdict g case items above (Crossing c) → Holds g c × IsCrossed g above c
    crossing_is c (creased, other, first) = (
      holds,
      by (row_or_crossed g laws above
          (stacking above (overlaps g case is items above said creased.orders) (triple_rows c other first)) c holds),
    ) where
      holds : Holds g c
      holds = laws.witnessed c (is.witnessed first.number c first.there)

      by : HasItsRow g above c ⊎ IsCrossed g above c → IsCrossed g above c
      by (inl row) = absurd (no_row_of g case above c first row)
      by (inr crossed) = crossed
