-- Every constraint that holds has its row, or what its cite names is crossed.
use Rattle.std.proofs.Common.{◌≡◌, ◌≢◌, ℕ, ◌<◌, ◌⊎◌, inl, inr, Bool, true, false, ◌&&◌, List, [], ◌∷◌, length, arith, sym, subst, ap, ◌∙◌, IsTrue, Contains}
use Rattle.std.proofs.lemmas.Bool.{and_parts}
use Rattle.ff_basics.proofs.Memberships.{by_member, no_member}
use Rattle.ff_tables.specs.declared.terms.Kind.TheVariants as kind
use Rattle.ff_whole.specs.declared.places.Place.{Place}
use Rattle.ff_types.specs.declared.cites.Cite.{Cite}
use Rattle.ff_types.specs.declared.cites.Cite.TheVariants.{Transitivity, TacoTaco, TacoFace, TacoEdge, FlatFace, FlatEdge}
use Rattle.ff_types.specs.Sheets.{Sheet, bounds}
use Rattle.ff_types.specs.Inside.{is_inside, over, HaveCommon}
use Rattle.ff_types.specs.Covering.{left_faces, right_faces}
use Rattle.ff_types.specs.Segments.{ShareSegment, HasEdgeInside}
use Rattle.ff_types.specs.Cites.{Holds, is_folded_edge, is_flat_edge, lesser, greater, on_one_side}
use Rattle.ff_types.specs.Terms.{HasItsRow, matching, opposed}
use Rattle.ff_types.specs.Stackings.{CanBeListed, IsStacking}
use Rattle.ff_types.specs.Crossings.{Side, chords, IsGeometricStacking}
use Rattle.ff_borders.specs.Folded.{AreBeside}
use Rattle.ff_borders.specs.PlainPlaces.{IsPlainBetween}
use Rattle.ff_crossings.specs.Listings.{AreCompared, HasTripleRows}
use Rattle.ff_crossings.specs.Alternating.{Interleave}
use Rattle.ff_crossings.specs.Crossed.{Bearer, IsChordOf, AreCrossed, IsCrossed}
use Rattle.ff_crossings.specs.Crossed.Bearer.{OfFace, OfEdge}
use Rattle.ff_crossings.specs.RowMeanings.{IsSomeRow, values, AreFour, four_terms}
use Rattle.ff_crossings.proofs.BorderLaws.{HasBorderLaws}
use Rattle.ff_crossings.specs.CrossingLaws.{HasAllRows}
use Rattle.ff_crossings.proofs.ListedFaces.{listed_exactly_holds, part_listed}
use Rattle.ff_crossings.proofs.Triples.{triples_suffice_holds}
use Rattle.ff_crossings.proofs.RowTests.{passes_row}
use Rattle.ff_crossings.proofs.RowOrders.{taco_face_rows, flat_face_rows, apart_row}
use Rattle.ff_crossings.proofs.ChordLists.{over_in, chords_are}
use Rattle.ff_crossings.proofs.EdgeFaces.{bounds_first, bounds_second, folded_number, flat_number, left_member, right_member}
use Rattle.ff_crossings.proofs.ChordForms.{IsFlatThere, IsLeftThere, IsRightThere, folded_there, beside_of, flat_form, folded_form}
use Rattle.ff_crossings.proofs.FormChords.{left_covers, right_covers}
use Rattle.ff_crossings.proofs.Matchings.{matching_left, opposed_left, matching_right, opposed_right, left_right_apart, right_left_apart}
use Rattle.ff_crossings.proofs.Comparing.{interleave_told, compared_over, compared_left, compared_right, edges_differ}
use Rattle.ff_crossings.proofs.PlainOrders.{flat_face, flat_flat, left_cap_face, left_cap_flat, left_caps_crossed, right_cap_face, right_cap_flat, right_caps_crossed}

on_left : {A B C : Type 0} → (A → B) → A ⊎ C → B ⊎ C
on_left f (inl a) = inl (f a)
on_left f (inr c) = inr c

module _ (g : Sheet) (laws : HasBorderLaws g) (above : ℕ → ℕ → Bool) (stacking : IsStacking g above) where
  -- ---- three faces over a place

  transitivity_row : (f h k : ℕ) → f < h → h < k → HaveCommon g (f ∷ h ∷ k ∷ []) → IsSomeRow kind.Transitivity
      (values above ((f, h) ∷ (f, k) ∷ (h, k) ∷ []))
  transitivity_row f h k l m common =
      passes_row kind.Transitivity (values above ((f, h) ∷ (f, k) ∷ (h, k) ∷ []))
      (rows f h k (over_in g common.at f first.0) (over_in g common.at h second.0)
      (over_in g common.at k third) l m) where
        one : AreCompared above (over g common.at)
        one = compared_over g above stacking.orders common.at common.place

        first : IsTrue (is_inside g f common.at) × IsTrue
            (is_inside g h common.at && (is_inside g k common.at && true))
        first = and_parts (is_inside g f common.at)
            (is_inside g h common.at && (is_inside g k common.at && true)) common.inside

        second : IsTrue (is_inside g h common.at) × IsTrue (is_inside g k common.at && true)
        second = and_parts (is_inside g h common.at) (is_inside g k common.at && true) first.1

        third : IsTrue (is_inside g k common.at)
        third = (and_parts (is_inside g k common.at) true second.1).0

        rows : HasTripleRows above (over g common.at)
        rows = (triples_suffice_holds above (over g common.at) one).0
            ((listed_exactly_holds above (over g common.at) one).0
            (stacking.places common.at common.place))

  -- ---- a folded edge and a face, or a flat edge

  taco_face_row : (k t : ℕ) → IsTrue (is_folded_edge g k) → HasEdgeInside g t k → IsSomeRow kind.TacoTortilla
      (values above ((lesser g k, t) ∷ (greater g k, t) ∷ [])) ⊎ AreCrossed g above (OfEdge k) (OfFace t)
  taco_face_row k t folded has = at (laws.inside_plain t k (folded_number g k folded) has) where
    at : (s : Place) × IsPlainBetween g k s × IsTrue (is_inside g t s) → IsSomeRow kind.TacoTortilla
        (values above ((lesser g k, t) ∷ (greater g k, t) ∷ [])) ⊎ AreCrossed g above (OfEdge k) (OfFace t)
    at (s, (plain, between), inside) =
        on_left (taco_face_rows above (lesser g k, t) (greater g k, t)).1
        (elim (folded_form g laws k s plain k folded plain.on) [
          | inl p ↦ left_cap_face g laws above stacking k s plain k p t inside
          | inr p ↦ right_cap_face g laws above stacking k s plain k p t inside
        ])

  taco_edge_row : (k l : ℕ) → IsTrue (is_folded_edge g k) → IsTrue (is_flat_edge g l) → ShareSegment g k l
      → IsSomeRow kind.TacoTortilla
      (values above ((lesser g k, matching g k (lesser g k) l) ∷
      (greater g k, matching g k (lesser g k) l) ∷ [])) ⊎ AreCrossed g above (OfEdge k) (OfEdge l)
  taco_edge_row k l folded flat share =
      at (laws.shared_plain k l (folded_number g k folded) (flat_number g l flat) share) where
        at : (s : Place) × IsPlainBetween g k s × IsPlainBetween g l s → IsSomeRow kind.TacoTortilla
            (values above ((lesser g k, matching g k (lesser g k) l) ∷
            (greater g k, matching g k (lesser g k) l) ∷ [])) ⊎ AreCrossed g above (OfEdge k) (OfEdge l)
        at (s, (plain, between), (other, between2)) =
            on_left (taco_face_rows above (lesser g k, matching g k (lesser g k) l)
            (greater g k, matching g k (lesser g k) l)).1
            (by (flat_form g laws k s plain l flat other.on) (folded_form g laws k s plain k folded plain.on))
          where
            by : (b : Bool) × IsFlatThere g k s b l → IsLeftThere g k s k ⊎ IsRightThere g k s k
                → (above (lesser g k) (matching g k (lesser g k) l) ≡ above (greater g k) (matching g k (lesser g k) l))
                ⊎ AreCrossed g above (OfEdge k) (OfEdge l)
            by (b, q) (inl p) = on_left (subst (λ m. above (lesser g k) m ≡ above (greater g k) m)
                (sym (matching_left g laws k s plain k (folded_number g k folded) plain.on
                (lesser g k) b l q p.first))) (left_cap_flat g laws above stacking k s plain k p b l q)
            by (b, q) (inr p) = on_left (subst (λ m. above (lesser g k) m ≡ above (greater g k) m)
                (sym (matching_right g laws k s plain k (folded_number g k folded) plain.on
                (lesser g k) b l q p.first))) (right_cap_flat g laws above stacking k s plain k p b l q)

  -- ---- a flat edge and a face, or another flat edge

  flat_face_row : (k t : ℕ) → IsTrue (is_flat_edge g k) → HasEdgeInside g t k
      → IsSomeRow kind.TortillaTortilla (values above ((lesser g k, t) ∷ (greater g k, t) ∷ []))
      ⊎ AreCrossed g above (OfEdge k) (OfFace t)
  flat_face_row k t flat has = at (laws.inside_plain t k (flat_number g k flat) has) where
    at : (s : Place) × IsPlainBetween g k s × IsTrue (is_inside g t s) → IsSomeRow kind.TortillaTortilla
        (values above ((lesser g k, t) ∷ (greater g k, t) ∷ [])) ⊎ AreCrossed g above (OfEdge k) (OfFace t)
    at (s, (plain, between), inside) =
        on_left (flat_face_rows above (lesser g k, t) (greater g k, t)).1
        (by (flat_form g laws k s plain k flat plain.on)) where
          by : (b : Bool) × IsFlatThere g k s b k → (above (lesser g k) t ≡ above (greater g k) t)
              ⊎ AreCrossed g above (OfEdge k) (OfFace t)
          by (true, p) = flat_face g laws above stacking k s plain true k t p inside
          by (false, p) = on_left sym (flat_face g laws above stacking k s plain false k t p inside)

  flat_edge_row : (k l : ℕ) → k < l → IsTrue (is_flat_edge g k) → IsTrue (is_flat_edge g l)
      → ShareSegment g k l
      → IsSomeRow kind.TortillaTortilla
      (values above ((lesser g k, matching g k (lesser g k) l) ∷
      (greater g k, opposed g k (lesser g k) l) ∷ [])) ⊎ AreCrossed g above (OfEdge k) (OfEdge l)
  flat_edge_row k l less flat flat2 share =
      at (laws.shared_plain k l (flat_number g k flat) (flat_number g l flat2) share) where
        at : (s : Place) × IsPlainBetween g k s × IsPlainBetween g l s → IsSomeRow kind.TortillaTortilla
            (values above ((lesser g k, matching g k (lesser g k) l) ∷
            (greater g k, opposed g k (lesser g k) l) ∷ [])) ⊎ AreCrossed g above (OfEdge k) (OfEdge l)
        at (s, (plain, between), (other, between2)) =
            on_left (flat_face_rows above (lesser g k, matching g k (lesser g k) l)
            (greater g k, opposed g k (lesser g k) l)).1
            (by (flat_form g laws k s plain k flat plain.on) (flat_form g laws k s plain l flat2 other.on))
          where
            number : k < length g.edges
            number = flat_number g k flat

            by : (b : Bool) × IsFlatThere g k s b k → (c : Bool) × IsFlatThere g k s c l
                → (above (lesser g k) (matching g k (lesser g k) l) ≡ above (greater g k) (opposed g k (lesser g k) l))
                ⊎ AreCrossed g above (OfEdge k) (OfEdge l)
            by (true, p) (c, q) = on_left (λ same.
                ap (above (lesser g k))
                (matching_left g laws k s plain k number plain.on (lesser g k) c l q p.left)
                ∙ (same ∙ sym (ap (above (greater g k))
                (opposed_left g laws k s plain k number plain.on (lesser g k) c l q p.left))))
                (flat_flat g laws above stacking k s plain true c k l (λ d. omega (arith, less, d)) p q)
            by (false, p) (c, q) = on_left (λ same.
                ap (above (lesser g k))
                (matching_right g laws k s plain k number plain.on (lesser g k) c l q p.right)
                ∙ (sym same ∙ sym (ap (above (greater g k))
                (opposed_right g laws k s plain k number plain.on (lesser g k) c l q p.right))))
                (flat_flat g laws above stacking k s plain false c k l (λ d. omega (arith, less, d)) p q)

  -- ---- two folded edges

  -- any of four
  four_of : (P : ℕ → Type 0) (a b c d : ℕ) → P a → P b → P c → P d → (f : ℕ) → Contains (a ∷ b ∷ c ∷ d ∷ []) f
      → P f
  four_of P a b c d pa pb pc pd f m = by_member a (b ∷ c ∷ d ∷ []) f (λ e. subst P e pa)
      (λ n. by_member b (c ∷ d ∷ []) f (λ e. subst P e pb)
      (λ o. by_member c (d ∷ []) f (λ e. subst P e pc)
      (λ r. by_member d [] f (λ e. subst P e pd) (λ t. absurd (no_member f t)) r) o) n) m

  taco_taco_row : (k l : ℕ) → k < l → IsTrue (is_folded_edge g k) → IsTrue (is_folded_edge g l)
      → ShareSegment g k l
      → IsTrue (on_one_side g k (lesser g k ∷ greater g k ∷ lesser g l ∷ greater g l ∷ []))
      → IsSomeRow kind.TacoTaco
      (values above (four_terms (lesser g k) (greater g k) (lesser g l) (greater g l)))
      ⊎ AreCrossed g above (OfEdge k) (OfEdge l)
  taco_taco_row k l less folded folded2 share side =
      at (laws.shared_plain k l (folded_number g k folded) (folded_number g l folded2) share) where
        at : (s : Place) × IsPlainBetween g k s × IsPlainBetween g l s → IsSomeRow kind.TacoTaco
            (values above (four_terms (lesser g k) (greater g k) (lesser g l) (greater g l)))
            ⊎ AreCrossed g above (OfEdge k) (OfEdge l)
        at (s, (plain, between), (other, between2)) =
            by (folded_form g laws k s plain k folded plain.on)
            (folded_form g laws k s plain l folded2 other.on) where
              first : AreBeside g k (lesser g k) (greater g k)
              first = beside_of g laws k s plain k (folded_there g laws k s plain k folded plain.on)

              second : AreBeside g l (lesser g l) (greater g l)
              second = beside_of g laws k s plain l (folded_there g laws k s plain l folded2 other.on)

              differ : (f h : ℕ) → IsTrue (bounds g k f) → IsTrue (bounds g l h) → f ≢ h
              differ = edges_differ g laws k k l s plain (folded_number g k folded)
                  (folded_number g l folded2) plain.on other.on (λ d. omega (arith, less, d))

              four : AreFour (lesser g k) (greater g k) (lesser g l) (greater g l)
              four = record {
                ab = first.differ;
                ac = differ (lesser g k) (lesser g l) (bounds_first g k _ _ first)
                    (bounds_first g l _ _ second);
                ad = differ (lesser g k) (greater g l) (bounds_first g k _ _ first)
                    (bounds_second g l _ _ second);
                bc = differ (greater g k) (lesser g l) (bounds_second g k _ _ first)
                    (bounds_first g l _ _ second);
                bd = differ (greater g k) (greater g l) (bounds_second g k _ _ first)
                    (bounds_second g l _ _ second);
                cd = second.differ;
              }

              row_in : (faces : List ℕ) → AreCompared above faces → CanBeListed above faces → Contains faces
                  (lesser g k) → Contains faces (greater g k) → Contains faces (lesser g l) → Contains faces
                  (greater g l)
                  → (Interleave above (lesser g k) (greater g k) (lesser g l) (greater g l)
                  → AreCrossed g above (OfEdge k) (OfEdge l))
                  → IsSomeRow kind.TacoTaco
                  (values above (four_terms (lesser g k) (greater g k) (lesser g l) (greater g l)))
                  ⊎ AreCrossed g above (OfEdge k) (OfEdge l)
              row_in faces one listed ma mb mc md crossed =
                  elim (interleave_told above (lesser g k) (greater g k) (lesser g l) (greater g l)) [
                    | inl x ↦ inr (crossed x)
                    | inr n ↦ inl (apart_row above (lesser g k) (greater g k) (lesser g l) (greater g l) four
                        (λ f h mf mh. one f h (inside f mf) (inside h mh))
                        (part_listed above faces _ inside listed) n)
                  ] where
                    inside : (f : ℕ) → Contains (lesser g k ∷ greater g k ∷ lesser g l ∷ greater g l ∷ []) f
                        → Contains faces f
                    inside = four_of (Contains faces) (lesser g k) (greater g k) (lesser g l)
                        (greater g l) ma mb mc md

              by : IsLeftThere g k s k ⊎ IsRightThere g k s k → IsLeftThere g k s l ⊎ IsRightThere g k s l
                  → IsSomeRow kind.TacoTaco
                  (values above (four_terms (lesser g k) (greater g k) (lesser g l) (greater g l)))
                  ⊎ AreCrossed g above (OfEdge k) (OfEdge l)
              by (inl p) (inl q) =
                  let c = left_covers g laws k s plain k p in let d = left_covers g laws k s plain l q in
                  row_in (left_faces g k s) (compared_left g above stacking.orders laws k s plain)
                  (stacking.left k s plain)
                  (left_member g k (lesser g k) s first.first c.0)
                  (left_member g k (greater g k) s first.second c.1)
                  (left_member g k (lesser g l) s second.first d.0)
                  (left_member g k (greater g l) s second.second d.1)
                  (left_caps_crossed g laws above stacking k s plain k l p q)
              by (inr p) (inr q) =
                  let c = right_covers g laws k s plain k p in let d = right_covers g laws k s plain l q in
                  row_in (right_faces g k s) (compared_right g above stacking.orders laws k s plain)
                  (stacking.right k s plain)
                  (right_member g k (lesser g k) s first.first c.0)
                  (right_member g k (greater g k) s first.second c.1)
                  (right_member g k (lesser g l) s second.first d.0)
                  (right_member g k (greater g l) s second.second d.1)
                  (right_caps_crossed g laws above stacking k s plain k l p q)
              by (inl p) (inr q) =
                  absurd (left_right_apart g laws k s plain k (folded_number g k folded) plain.on l p q side)
              by (inr p) (inl q) =
                  absurd (right_left_apart g laws k s plain k (folded_number g k folded) plain.on l p q side)

  -- ---- all six forms of cite

  pub row_or_crossed : (c : Cite) → Holds g c → HasItsRow g above c ⊎ IsCrossed g above c
  row_or_crossed (Transitivity f h k at) holds = inl (transitivity_row f h k holds.0 holds.1 holds.2)
  row_or_crossed (TacoTaco k l) holds =
      let t = and_parts (is_folded_edge g k) (is_folded_edge g l) holds.1 in
      taco_taco_row k l holds.0 t.0 t.1 holds.2 holds.3
  row_or_crossed (TacoFace k t at) holds = taco_face_row k t holds.0 holds.1
  row_or_crossed (TacoEdge k l) holds = taco_edge_row k l holds.0 holds.1 holds.2
  row_or_crossed (FlatFace k t at) holds = flat_face_row k t holds.0 holds.1
  row_or_crossed (FlatEdge k l) holds =
      let t = and_parts (is_flat_edge g k) (is_flat_edge g l) holds.1 in
      flat_edge_row k l holds.0 t.0 t.1 holds.2

-- ---- where no paper crosses

module _ (g : Sheet) (laws : HasBorderLaws g) (above : ℕ → ℕ → Bool) (geo : IsGeometricStacking g above) where
  chord_in : (e : ℕ) (s : Place) (b : Bearer) (c : Side × Side) → IsChordOf g e s b c → Contains (chords g e s) c
  chord_in e s (OfFace f) c h = (chords_are g e s c).1 (inl h.0)
  chord_in e s (OfEdge k) c h = (chords_are g e s c).1 (inr h.0)

  not_crossed : (a b : Bearer) → AreCrossed g above a b → ⊥
  not_crossed a b x = geo.uncrossed x.edge x.at x.plain x.left x.right x.left_is x.right_is x.chord x.other
      (chord_in x.edge x.at a x.chord x.chord_is) (chord_in x.edge x.at b x.other x.other_is) x.alternate

  no_cite_crossed : (c : Cite) → IsCrossed g above c → ⊥
  no_cite_crossed (Transitivity f h k at) x = x
  no_cite_crossed (TacoTaco k l) x = not_crossed (OfEdge k) (OfEdge l) x
  no_cite_crossed (TacoFace k t at) x = not_crossed (OfEdge k) (OfFace t) x
  no_cite_crossed (TacoEdge k l) x = not_crossed (OfEdge k) (OfEdge l) x
  no_cite_crossed (FlatFace k t at) x = not_crossed (OfEdge k) (OfFace t) x
  no_cite_crossed (FlatEdge k l) x = not_crossed (OfEdge k) (OfEdge l) x

  pub cites_have_rows : HasAllRows g above
  cites_have_rows c holds = elim (row_or_crossed g laws above geo.stacking c holds) [
    | inl row ↦ row
    | inr x ↦ absurd (no_cite_crossed c x)
  ]
