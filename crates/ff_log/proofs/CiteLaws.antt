-- What cites are read from is spelled so, and what is spelled is read.
use Rattle.std.proofs.Common.{◌≡◌, ◌∙◌, ◌<◌, ◌≤◌, ◌^◌, ◌&&◌, ◌⊎◌, inl, inr, ℕ, zero, suc, Bool, cond, codes, true, false, refl, sym, ap, ap₂, subst, arith, List, [], ◌∷◌, length, map, Some, lit≤, lit<}
use Rattle.std.proofs.lemmas.Slice.Eq.{bytes_eq-Decides}
use Rattle.std.specs.Prelude.{option_map, option_and_then, slice_index_or}
use Rattle.std.specs.List.{All}
use Rattle.std.specs.Str.{bytes_eq}
use Rattle.std.specs.Fmt.{decimal}
use Rattle.ff_whole.specs.declared.places.Place.{Place}
use Rattle.ff_whole.specs.Sizes.{IsSmallPlace}
use Rattle.ff_types.specs.declared.cites.Cite.{Cite}
use Rattle.ff_types.specs.declared.cites.Cite.TheVariants.{Transitivity, TacoTaco, TacoFace, TacoEdge, FlatFace, FlatEdge}
use Rattle.ff_types.specs.Cites.{HasSmallPlaces}
use Rattle.ff_log.specs.declared.cites.Beside.{Beside}
use Rattle.ff_log.specs.declared.cites.Beside.TheVariants as beside
use Rattle.ff_log.specs.Spelling.{place_word, with_face, with_edge, cite_words, ArePlaces, IsCite}
use Rattle.ff_log.specs.Reading.{number, place_of, two_numbers, three_words, transitivity_by, face_words, edge_words, beside_by, taco_cite, flat_cite, cite_by}
use Rattle.ff_log.proofs.NumberLemmas.{both, number_again, number_sound, some_of_map, some_of_then}
use Rattle.ff_log.proofs.PlaceLaws.{AllFree, IsPlace, free, free_decimal, free_place_word, of_small, place_again, place_sound, small_of}

-- ---- numbers and choices

wide : 2 ^ 32 ≤ 10 ^ 64
wide = lit≤ tt

pub again : (n : ℕ) → n < 2 ^ 32 → number (decimal n) ≡ Some n
again n h = number_again (2 ^ 32) n h wide

pub sound : (n : ℕ) (t : List ℕ) → number t ≡ Some n → (n < 2 ^ 32) × (t ≡ decimal n)
sound n t h = number_sound (2 ^ 32) n t wide h

pub free_number : (n : ℕ) → n < 2 ^ 32 → free 32 (decimal n) ≡ true
free_number n h = free_decimal 32 n (lit< tt) (omega (arith, wide))

pub chosen : {A : Type 0} (b : Bool) (x y z : A) → cond b x y ≡ z → ((b ≡ true) × (x ≡ z)) ⊎ ((b ≡ false) × (y ≡ z))
chosen true x y z h = inl (refl, h)
chosen false x y z h = inr (refl, h)

pub two_sound : {A : Type 0} (make : ℕ → ℕ → A) (ts : List (List ℕ)) (l : A) → two_numbers make ts ≡ Some l
    → (a : ℕ) × (b : ℕ) × (a < 2 ^ 32) × (b < 2 ^ 32) × (ts ≡ decimal a ∷ decimal b ∷ []) × (make a b ≡ l)
two_sound make [] l h = cc
two_sound make (f ∷ []) l h = cc
two_sound make (f ∷ g ∷ []) l h =
    let a = some_of_then _ (number f) l h in
    let b = some_of_map _ (number g) l a.2 in
    let s = sound a.0 f a.1 in
    let r = sound b.0 g b.1 in
    (a.0, b.0, s.0, r.0, ap₂ (λ (x y : List ℕ). x ∷ y ∷ []) s.1 r.1, b.2)
two_sound make (f ∷ g ∷ x ∷ ts) l h = cc

pub two_again : {A : Type 0} (make : ℕ → ℕ → A) (a b : ℕ) → a < 2 ^ 32 → b < 2 ^ 32 → two_numbers make (decimal a ∷ decimal b ∷ []) ≡ Some (make a b)
two_again make a b h k = ap (option_and_then (λ x. option_map (λ y. make x y) (number (decimal b)))) (again a h) ∙ ap (option_map (λ y. make a y)) (again b k)

-- ---- two or three places

all_two : (u v : Place) → IsPlace u → IsPlace v → (k : ℕ) (d : Place) → k < length (u ∷ v ∷ []) → IsSmallPlace (slice_index_or (u ∷ v ∷ []) k d)
all_two u v a b zero d lt = small_of u a
all_two u v a b (suc zero) d lt = small_of v b
all_two u v a b (suc (suc k)) d lt = absurd (omega (arith, lt))

all_three : (u v w : Place) → IsPlace u → IsPlace v → IsPlace w → (k : ℕ) (d : Place) → k < length (u ∷ v ∷ w ∷ []) → IsSmallPlace (slice_index_or (u ∷ v ∷ w ∷ []) k d)
all_three u v w a b c zero d lt = small_of u a
all_three u v w a b c (suc zero) d lt = small_of v b
all_three u v w a b c (suc (suc zero)) d lt = small_of w c
all_three u v w a b c (suc (suc (suc k))) d lt = absurd (omega (arith, lt))

two_places : (u v : Place) → IsPlace u → IsPlace v → ArePlaces 2 (u ∷ v ∷ [])
two_places u v a b = record { count = refl; small = all_two u v a b }

three_places : (u v w : Place) → IsPlace u → IsPlace v → IsPlace w → ArePlaces 3 (u ∷ v ∷ w ∷ [])
three_places u v w a b c = record { count = refl; small = all_three u v w a b c }

two_of : (at : List Place) → ArePlaces 2 at → (u : Place) × (v : Place) × (at ≡ u ∷ v ∷ []) × IsPlace u × IsPlace v
two_of [] h = absurd (omega (arith, h.count))
two_of (u ∷ []) h = absurd (omega (arith, h.count))
two_of (u ∷ v ∷ []) h = (u, v, refl, of_small u (h.small 0 u (omega arith)), of_small v (h.small 1 u (omega arith)))
two_of (u ∷ v ∷ w ∷ at) h = absurd (omega (arith, h.count))

three_of : (at : List Place) → ArePlaces 3 at → (u : Place) × (v : Place) × (w : Place) × (at ≡ u ∷ v ∷ w ∷ []) × IsPlace u × IsPlace v × IsPlace w
three_of [] h = absurd (omega (arith, h.count))
three_of (u ∷ []) h = absurd (omega (arith, h.count))
three_of (u ∷ v ∷ []) h = absurd (omega (arith, h.count))
three_of (u ∷ v ∷ w ∷ []) h = (u, v, w, refl, of_small u (h.small 0 u (omega arith)), of_small v (h.small 1 u (omega arith)), of_small w (h.small 2 u (omega arith)))
three_of (u ∷ v ∷ w ∷ x ∷ at) h = absurd (omega (arith, h.count))

-- ---- reading

abbrev pub ReadsCite : List (List ℕ) → Cite → Type 0
ReadsCite ws c = IsCite c × (ws ≡ cite_words c)

abbrev ReadsBeside : List (List ℕ) → Beside → Type 0
ReadsBeside ws (beside.Face e f at) = (e < 2 ^ 32) × (f < 2 ^ 32) × ArePlaces 2 at × (ws ≡ with_face e f at)
ReadsBeside ws (beside.Edge e k) = (e < 2 ^ 32) × (k < 2 ^ 32) × (ws ≡ with_edge e k)

edge_sound : (e k f : List ℕ) (b : Beside) → edge_words e k f ≡ Some b → ReadsBeside (e ∷ k ∷ f ∷ []) b
edge_sound e k f b h = elim (chosen (bytes_eq k (codes "edge")) _ _ _ h) [
  | inl c ↦
      let edge = (bytes_eq-Decides k (codes "edge")).0 c.0 in
      let m = some_of_then _ (number e) b c.1 in
      let n = some_of_map _ (number f) b m.2 in
      let s = sound m.0 e m.1 in
      let r = sound n.0 f n.1 in
      subst (ReadsBeside (e ∷ k ∷ f ∷ [])) n.2 (s.0, r.0, λ i. s.1 i ∷ edge i ∷ r.1 i ∷ [])
  | inr c ↦ let g = c.1 in cc
]

face_sound : (e k f a p q : List ℕ) (b : Beside) → face_words e k f a p q ≡ Some b → ReadsBeside (e ∷ k ∷ f ∷ a ∷ p ∷ q ∷ []) b
face_sound e k f a p q b h = elim (chosen (bytes_eq k (codes "face") && bytes_eq a (codes "at")) _ _ _ h) [
  | inl c ↦
      let ks = both (bytes_eq k (codes "face")) (bytes_eq a (codes "at")) c.0 in
      let face = (bytes_eq-Decides k (codes "face")).0 ks.0 in
      let at = (bytes_eq-Decides a (codes "at")).0 ks.1 in
      let m = some_of_then _ (number e) b c.1 in
      let n = some_of_then _ (number f) b m.2 in
      let u = some_of_then _ (place_of p) b n.2 in
      let v = some_of_map _ (place_of q) b u.2 in
      let s = sound m.0 e m.1 in
      let r = sound n.0 f n.1 in
      let x = place_sound p u.0 u.1 in
      let y = place_sound q v.0 v.1 in
      subst (ReadsBeside (e ∷ k ∷ f ∷ a ∷ p ∷ q ∷ [])) v.2
      (s.0, r.0, two_places u.0 v.0 x.0 y.0, λ i. s.1 i ∷ face i ∷ r.1 i ∷ at i ∷ x.1 i ∷ y.1 i ∷ [])
  | inr c ↦ let g = c.1 in cc
]

beside_sound : (ts : List (List ℕ)) (b : Beside) → beside_by ts ≡ Some b → ReadsBeside ts b
beside_sound [] b h = cc
beside_sound (e ∷ []) b h = cc
beside_sound (e ∷ k ∷ []) b h = cc
beside_sound (e ∷ k ∷ f ∷ []) b h = edge_sound e k f b h
beside_sound (e ∷ k ∷ f ∷ a ∷ []) b h = cc
beside_sound (e ∷ k ∷ f ∷ a ∷ p ∷ []) b h = cc
beside_sound (e ∷ k ∷ f ∷ a ∷ p ∷ q ∷ []) b h = face_sound e k f a p q b h
beside_sound (e ∷ k ∷ f ∷ a ∷ p ∷ q ∷ x ∷ ts) b h = cc

three_sound : (f g h a p q r : List ℕ) (c : Cite) → three_words f g h a p q r ≡ Some c → ReadsCite (codes "transitivity" ∷ f ∷ g ∷ h ∷ a ∷ p ∷ q ∷ r ∷ []) c
three_sound f g h a p q r c is = elim (chosen (bytes_eq a (codes "at")) _ _ _ is) [
  | inl o ↦
      let at = (bytes_eq-Decides a (codes "at")).0 o.0 in
      let l = some_of_then _ (number f) c o.1 in
      let m = some_of_then _ (number g) c l.2 in
      let n = some_of_then _ (number h) c m.2 in
      let u = some_of_then _ (place_of p) c n.2 in
      let v = some_of_then _ (place_of q) c u.2 in
      let w = some_of_map _ (place_of r) c v.2 in
      let sl = sound l.0 f l.1 in
      let sm = sound m.0 g m.1 in
      let sn = sound n.0 h n.1 in
      let x = place_sound p u.0 u.1 in
      let y = place_sound q v.0 v.1 in
      let z = place_sound r w.0 w.1 in
      subst (ReadsCite (codes "transitivity" ∷ f ∷ g ∷ h ∷ a ∷ p ∷ q ∷ r ∷ [])) w.2 (
        (sl.0, sm.0, sn.0, three_places u.0 v.0 w.0 x.0 y.0 z.0),
        λ i. codes "transitivity" ∷ sl.1 i ∷ sm.1 i ∷ sn.1 i ∷ at i ∷ x.1 i ∷ y.1 i ∷ z.1 i ∷ [],
      )
  | inr o ↦ let k = o.1 in cc
]

transitivity_sound : (ts : List (List ℕ)) (c : Cite) → transitivity_by ts ≡ Some c → ReadsCite (codes "transitivity" ∷ ts) c
transitivity_sound [] c h = cc
transitivity_sound (f ∷ []) c h = cc
transitivity_sound (f ∷ g ∷ []) c h = cc
transitivity_sound (f ∷ g ∷ k ∷ []) c h = cc
transitivity_sound (f ∷ g ∷ k ∷ a ∷ []) c h = cc
transitivity_sound (f ∷ g ∷ k ∷ a ∷ p ∷ []) c h = cc
transitivity_sound (f ∷ g ∷ k ∷ a ∷ p ∷ q ∷ []) c h = cc
transitivity_sound (f ∷ g ∷ k ∷ a ∷ p ∷ q ∷ r ∷ []) c h = three_sound f g k a p q r c h
transitivity_sound (f ∷ g ∷ k ∷ a ∷ p ∷ q ∷ r ∷ x ∷ ts) c h = cc

taco_is : (ws : List (List ℕ)) (b : Beside) → ReadsBeside ws b → ReadsCite (codes "taco-tortilla" ∷ ws) (taco_cite b)
taco_is ws (beside.Face e f at) r = ((r.0, r.1, r.2), ap (λ (xs : List (List ℕ)). codes "taco-tortilla" ∷ xs) r.3)
taco_is ws (beside.Edge e k) r = ((r.0, r.1), ap (λ (xs : List (List ℕ)). codes "taco-tortilla" ∷ xs) r.2)

flat_is : (ws : List (List ℕ)) (b : Beside) → ReadsBeside ws b → ReadsCite (codes "tortilla-tortilla" ∷ ws) (flat_cite b)
flat_is ws (beside.Face e f at) r = ((r.0, r.1, r.2), ap (λ (xs : List (List ℕ)). codes "tortilla-tortilla" ∷ xs) r.3)
flat_is ws (beside.Edge e k) r = ((r.0, r.1), ap (λ (xs : List (List ℕ)). codes "tortilla-tortilla" ∷ xs) r.2)

-- the first word is this one
renamed : (w name : List ℕ) (ws : List (List ℕ)) (c : Cite) → bytes_eq w name ≡ true → ReadsCite (name ∷ ws) c → ReadsCite (w ∷ ws) c
renamed w name ws c e r = (r.0, ap (λ (x : List ℕ). x ∷ ws) ((bytes_eq-Decides w name).0 e) ∙ r.1)

pub cite_sound : (ts : List (List ℕ)) (c : Cite) → cite_by ts ≡ Some c → ReadsCite ts c
cite_sound [] c h = cc
cite_sound (w ∷ ws) c h = elim (chosen (bytes_eq w (codes "transitivity")) _ _ _ h) [
  | inl e ↦ renamed w (codes "transitivity") ws c e.0 (transitivity_sound ws c e.1)
  | inr e ↦ elim (chosen (bytes_eq w (codes "taco-taco")) _ _ _ e.1) [
    | inl f ↦
        let t = two_sound (λ a b. TacoTaco a b) ws c f.1 in
        renamed w (codes "taco-taco") ws c f.0 (subst (ReadsCite (codes "taco-taco" ∷ ws)) t.5 ((t.2, t.3), ap (λ (xs : List (List ℕ)). codes "taco-taco" ∷ xs) t.4))
    | inr f ↦ elim (chosen (bytes_eq w (codes "taco-tortilla")) _ _ _ f.1) [
      | inl k ↦
          let b = some_of_map taco_cite (beside_by ws) c k.1 in
          renamed w (codes "taco-tortilla") ws c k.0 (subst (ReadsCite (codes "taco-tortilla" ∷ ws)) b.2 (taco_is ws b.0 (beside_sound ws b.0 b.1)))
      | inr k ↦ elim (chosen (bytes_eq w (codes "tortilla-tortilla")) _ _ _ k.1) [
        | inl m ↦
            let b = some_of_map flat_cite (beside_by ws) c m.1 in
            renamed w (codes "tortilla-tortilla") ws c m.0 (subst (ReadsCite (codes "tortilla-tortilla" ∷ ws)) b.2 (flat_is ws b.0 (beside_sound ws b.0 b.1)))
        | inr m ↦ let o = m.1 in cc
      ]
    ]
  ]
]

-- ---- the other way

face_again : (e f : ℕ) (u v : Place) → e < 2 ^ 32 → f < 2 ^ 32 → IsPlace u → IsPlace v → beside_by (with_face e f (u ∷ v ∷ [])) ≡ Some (beside.Face e f (u ∷ v ∷ []))
face_again e f u v h k x y =
    ap (option_and_then (λ m. option_and_then (λ n. option_and_then (λ a. option_map (λ b. beside.Face m n (a ∷ b ∷ [])) (place_of (place_word v))) (place_of (place_word u))) (number (decimal f)))) (again e h)
    ∙ ap (option_and_then (λ n. option_and_then (λ a. option_map (λ b. beside.Face e n (a ∷ b ∷ [])) (place_of (place_word v))) (place_of (place_word u)))) (again f k)
    ∙ ap (option_and_then (λ a. option_map (λ b. beside.Face e f (a ∷ b ∷ [])) (place_of (place_word v)))) (place_again u x)
    ∙ ap (option_map (λ b. beside.Face e f (u ∷ b ∷ []))) (place_again v y)

edge_again : (e k : ℕ) → e < 2 ^ 32 → k < 2 ^ 32 → beside_by (with_edge e k) ≡ Some (beside.Edge e k)
edge_again e k h i =
    ap (option_and_then (λ m. option_map (λ n. beside.Edge m n) (number (decimal k)))) (again e h)
    ∙ ap (option_map (λ n. beside.Edge e n)) (again k i)

three_again : (f g h : ℕ) (u v w : Place) → f < 2 ^ 32 → g < 2 ^ 32 → h < 2 ^ 32 → IsPlace u → IsPlace v → IsPlace w
    → cite_by (cite_words (Transitivity f g h (u ∷ v ∷ w ∷ []))) ≡ Some (Transitivity f g h (u ∷ v ∷ w ∷ []))
three_again f g h u v w i j k x y z =
    ap (option_and_then (λ a. option_and_then (λ b. option_and_then (λ c. option_and_then (λ l. option_and_then (λ m. option_map (λ n. Transitivity a b c (l ∷ m ∷ n ∷ [])) (place_of (place_word w))) (place_of (place_word v))) (place_of (place_word u))) (number (decimal h))) (number (decimal g)))) (again f i)
    ∙ ap (option_and_then (λ b. option_and_then (λ c. option_and_then (λ l. option_and_then (λ m. option_map (λ n. Transitivity f b c (l ∷ m ∷ n ∷ [])) (place_of (place_word w))) (place_of (place_word v))) (place_of (place_word u))) (number (decimal h)))) (again g j)
    ∙ ap (option_and_then (λ c. option_and_then (λ l. option_and_then (λ m. option_map (λ n. Transitivity f g c (l ∷ m ∷ n ∷ [])) (place_of (place_word w))) (place_of (place_word v))) (place_of (place_word u)))) (again h k)
    ∙ ap (option_and_then (λ l. option_and_then (λ m. option_map (λ n. Transitivity f g h (l ∷ m ∷ n ∷ [])) (place_of (place_word w))) (place_of (place_word v)))) (place_again u x)
    ∙ ap (option_and_then (λ m. option_map (λ n. Transitivity f g h (u ∷ m ∷ n ∷ [])) (place_of (place_word w)))) (place_again v y)
    ∙ ap (option_map (λ n. Transitivity f g h (u ∷ v ∷ n ∷ []))) (place_again w z)

abbrev Again : Cite → Type 0
Again c = cite_by (cite_words c) ≡ Some c

pub cite_again : (c : Cite) → IsCite c → Again c
cite_again (Transitivity f g h at) is =
    let t = three_of at is.3 in
    subst (λ (xs : List Place). Again (Transitivity f g h xs)) (sym t.3) (three_again f g h t.0 t.1 t.2 is.0 is.1 is.2 t.4 t.5 t.6)
cite_again (TacoTaco e k) is = two_again (λ a b. TacoTaco a b) e k is.0 is.1
cite_again (TacoFace e face at) is =
    let t = two_of at is.2 in
    subst (λ (xs : List Place). Again (TacoFace e face xs)) (sym t.2) (ap (option_map taco_cite) (face_again e face t.0 t.1 is.0 is.1 t.3 t.4))
cite_again (TacoEdge e flat) is = ap (option_map taco_cite) (edge_again e flat is.0 is.1)
cite_again (FlatFace flat face at) is =
    let t = two_of at is.2 in
    subst (λ (xs : List Place). Again (FlatFace flat face xs)) (sym t.2) (ap (option_map flat_cite) (face_again flat face t.0 t.1 is.0 is.1 t.3 t.4))
cite_again (FlatEdge flat flat2) is = ap (option_map flat_cite) (edge_again flat flat2 is.0 is.1)

-- ---- words without spaces

free_places : (at : List Place) → All IsSmallPlace at → AllFree 32 (map place_word at)
free_places [] s = tt
free_places (p ∷ at) s = (free_place_word p (of_small p (s 0 p (omega arith))), free_places at (λ k d lt. s (suc k) d (omega (arith, lt))))

free_face : (e face : ℕ) (at : List Place) → e < 2 ^ 32 → face < 2 ^ 32 → ArePlaces 2 at → AllFree 32 (with_face e face at)
free_face e face at h k a = (free_number e h, (refl, (free_number face k, (refl, free_places at a.small))))

free_edge : (e k : ℕ) → e < 2 ^ 32 → k < 2 ^ 32 → AllFree 32 (with_edge e k)
free_edge e k h i = (free_number e h, (refl, (free_number k i, tt)))

pub free_cite : (c : Cite) → IsCite c → AllFree 32 (cite_words c)
free_cite (Transitivity f g h at) is = (refl, (free_number f is.0, (free_number g is.1, (free_number h is.2, (refl, free_places at is.3.small)))))
free_cite (TacoTaco e k) is = (refl, (free_number e is.0, (free_number k is.1, tt)))
free_cite (TacoFace e face at) is = (refl, free_face e face at is.0 is.1 is.2)
free_cite (TacoEdge e flat) is = (refl, free_edge e flat is.0 is.1)
free_cite (FlatFace flat face at) is = (refl, free_face flat face at is.0 is.1 is.2)
free_cite (FlatEdge flat flat2) is = (refl, free_edge flat flat2 is.0 is.1)

-- ---- sizes

pub cite_small : (c : Cite) → IsCite c → HasSmallPlaces c
cite_small (Transitivity f g h at) is = is.3.small
cite_small (TacoTaco e k) is = tt
cite_small (TacoFace e face at) is = is.2.small
cite_small (TacoEdge e flat) is = tt
cite_small (FlatFace flat face at) is = is.2.small
cite_small (FlatEdge flat flat2) is = tt
