-- Which constraints hold on the named patterns, and their terms, computed.
use Rattle.std.proofs.Common.{◌≡◌, ℤ, pos, true, [], ◌∷◌, refl, arith, lit<}
use Rattle.std.proofs.lemmas.Bool.{false≢true}
use Rattle.std.proofs.lemmas.Int.{ints}
use Rattle.std.proofs.lemmas.List.Elements.{All-cons, All-nil}
use Rattle.ff_whole.specs.declared.places.Place.{Place}
use Rattle.ff_whole.specs.Places.{IsPlace}
use Rattle.ff_types.specs.declared.cites.Cite.TheVariants.{TacoTaco, TacoFace, FlatEdge}
use Rattle.ff_types.specs.Cites.{Holds, Witnessed, on_one_side}
use Rattle.ff_types.specs.Terms.{terms_of}
use Rattle.ff_types.proofs.Named.{strip_212, strip_fvf, strip_uuu}

abbrev at : ℤ → ℤ → ℤ → Place
at x y w = record { x = x; y = y; w = w }

terms_taco_taco : terms_of strip_uuu (TacoTaco 10 12) ≡ (0, 1) ∷ (0, 2) ∷ (0, 3) ∷ (1, 2) ∷ (1, 3) ∷ (2, 3) ∷ []
terms_taco_taco = refl

terms_taco_face : terms_of strip_212 (TacoFace 8 2 []) ≡ (0, 2) ∷ (1, 2) ∷ []
terms_taco_face = refl

-- face 3 lies on the side of face 0, face 2 on the other
terms_flat_edge : terms_of strip_fvf (FlatEdge 10 12) ≡ (0, 3) ∷ (1, 2) ∷ []
terms_flat_edge = refl

holds_flat_edge : Holds strip_fvf (FlatEdge 10 12)
holds_flat_edge = (lit< tt, refl, record { s = at (pos 1) (pos 0) (pos 1); t = at (pos 1) (pos 1) (pos 1); s_place = omega (arith, ints); t_place = omega (arith, ints); differ = refl; first = refl; second = refl })

holds_taco_taco : Holds strip_uuu (TacoTaco 10 12)
holds_taco_taco = (lit< tt, refl, record { s = at (pos 1) (pos 0) (pos 1); t = at (pos 1) (pos 1) (pos 1); s_place = omega (arith, ints); t_place = omega (arith, ints); differ = refl; first = refl; second = refl }, refl)

-- creases 10 and 11 share no side of one segment: 11 lies elsewhere
apart : on_one_side strip_uuu 10 (0 ∷ 1 ∷ 1 ∷ 2 ∷ []) ≡ true
apart = refl

witnessed_taco_face : Witnessed strip_212 (TacoFace 8 2 (at (pos 2) (pos 0) (pos 1) ∷ at (pos 2) (pos 1) (pos 1) ∷ []))
witnessed_taco_face = (refl, refl, record { are_places = All-cons (λ s. IsPlace s) (at (pos 2) (pos 0) (pos 1)) (at (pos 2) (pos 1) (pos 1) ∷ []) (omega (arith, ints)) (All-cons (λ s. IsPlace s) (at (pos 2) (pos 1) (pos 1)) [] (omega (arith, ints)) (All-nil (λ s. IsPlace s))); witness = refl })

-- a place beside the face witnesses nothing
not_witnessed : Witnessed strip_212 (TacoFace 8 2 (at (pos 4) (pos 0) (pos 1) ∷ at (pos 4) (pos 1) (pos 1) ∷ [])) → ⊥
not_witnessed w = false≢true w.1
