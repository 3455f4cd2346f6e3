-- Which faces given lists of vertices are.
use Rattle.std.proofs.Common.{◌≡◌, ◌≢◌, ◌⊎◌, inl, inr, ℕ, ◌+◌, ◌-◌, ◌<◌, ◌↔◌, Bool, false, List, [], ◌∷◌, ◌++◌, drop, take, length, slice_get, IsTrue, Option, Some, None, MatchOption, arith, sym, ap, subst, ◌∙◌}
use Rattle.std.specs.Bool.{Decides}
use Rattle.std.specs.List.{HoldsAt}
use Rattle.std.proofs.lemmas.Bool.{false≢true}
use Rattle.std.proofs.lemmas.List.{append_cancel_left, length-append, length-drop, take_all}
use Rattle.std.proofs.lemmas.Option.{get_or_from_slice_get, slice_get-get_or, slice_get_within}
use Rattle.ff_basics.proofs.Lists.{get_either}
use Rattle.ff_basics.proofs.Numbers.{less_or}
use Rattle.ff_basics.proofs.Options.{none_some, some_same}
use Rattle.ff_crossings.proofs.Truth.{at_place}
use Rattle.ff_orders.specs.Given.{AreFirstNumbers, IsBadFace, IsBadFaces, IsFaceOf, IsItemOf}

-- ---- a ring begun elsewhere

pub slice_rest : (k : ℕ) (ring : List ℕ) → take (length ring - k) (drop k ring) ≡ drop k ring
slice_rest k ring = take_all (length ring - k) (drop k ring) (let e = length-drop k ring in omega (arith, e))

pub turn_there : (ring list p rest : List ℕ) (k : ℕ) (b : Bool) → p ≡ drop k ring → list ≡ p ++ rest → Decides b (rest ≡ take k ring)
    → IsTrue b ↔ (list ≡ drop k ring ++ take k ring)
turn_there ring list p rest k b e q d = (
  (λ t. same ∙ ap (λ x. drop k ring ++ x) (d.0 t)),
  (λ turn. d.1 (append_cancel_left (drop k ring) rest (take k ring) (sym same ∙ turn))),
) where
  same : list ≡ drop k ring ++ rest
  same = q ∙ ap (λ x. x ++ rest) e

pub turn_nowhere : (ring list p : List ℕ) (k : ℕ) → p ≡ drop k ring → ((rest : List ℕ) → list ≢ p ++ rest) → list ≡ drop k ring ++ take k ring → ⊥
turn_nowhere ring list p k e none turn = none (take k ring) (turn ∙ ap (λ x. x ++ take k ring) (sym e))

-- ---- a number that stands in a list

pub stands : (xs : List ℕ) (f : ℕ) (r : Bool) → Decides r ((k : ℕ) × (k < length xs) × HoldsAt (λ y. y ≡ f) xs k) → IsTrue r
    → (k : ℕ) × (slice_get xs k ≡ Some f)
stands xs f r d t = let k = d.0 t in (k.0, slice_get-get_or xs k.0 f k.1 ∙ ap Some (k.2 f))

pub stands_not : (xs : List ℕ) (f : ℕ) (r : Bool) → Decides r ((k : ℕ) × (k < length xs) × HoldsAt (λ y. y ≡ f) xs k) → r ≡ false
    → (k : ℕ) → slice_get xs k ≡ Some f → ⊥
stands_not xs f r d e k there = false≢true (sym e ∙ d.1 (k, slice_get_within xs k f there, λ z. get_or_from_slice_get xs k f z there))

-- ---- the face of a list

module _ (rings : List (List ℕ)) (given : List (Option (List ℕ))) where
  pub item_of : (i : ℕ) (r : Option ℕ) (list : List ℕ) → slice_get given i ≡ Some (Some list)
      → MatchOption r ((f : ℕ) → IsFaceOf rings list f → ⊥) (IsFaceOf rings list)
      → MatchOption r ((f : ℕ) → IsItemOf rings given i f → ⊥) (IsItemOf rings given i)
  item_of i (Some f) list there face = record { list = list; there = there; face = face }
  item_of i None list there none = λ f item. none f (subst (λ l. IsFaceOf rings l f) (some_same (some_same (sym item.there ∙ there))) item.face)

  pub no_item : (i : ℕ) → slice_get given i ≡ Some None → (f : ℕ) → IsItemOf rings given i f → ⊥
  no_item i there f item = none_some item.list (some_same (sym there ∙ item.there))

  pub one_face : (i f k : ℕ) → IsItemOf rings given i f → IsItemOf rings given i k → f ≡ k
  one_face i f k a b = elim (less_or f k) [
    | inl l ↦ absurd (other.least f l a.face.turn)
    | inr r ↦ elim r [ inl e ↦ e | inr l ↦ absurd (a.face.least k l other.turn) ]
  ] where
    other : IsFaceOf rings a.list k
    other = subst (λ l. IsFaceOf rings l k) (some_same (some_same (sym b.there ∙ a.there))) b.face

  module _ (i : ℕ) (numbers : List ℕ) (h : AreFirstNumbers rings given i numbers) where
    -- none of the lists before is bad
    pub not_bad : (m : ℕ) → m < i → IsBadFace rings given m → ⊥
    not_bad m l bad = by (at_place numbers m (let c = h.counted in omega (arith, c, l))) where
      by : (f : ℕ) × (slice_get numbers m ≡ Some f) → ⊥
      by (f, e) = earlier (bad.bad f (h.each m f e)) where
        earlier : (j : ℕ) × (j < m) × IsItemOf rings given j f → ⊥
        earlier (j, less, item) = at (at_place numbers j (let c = h.counted in omega (arith, c, l, less))) where
          at : (k : ℕ) × (slice_get numbers j ≡ Some k) → ⊥
          at (k, d) = let same = one_face j k f (h.each j k d) item in
              let z = h.differ m j f e (d ∙ ap Some same) in omega (arith, less, z)

    pub bad_at : IsBadFace rings given i → IsBadFaces rings given i
    bad_at bad = inl (record { is = bad; before = not_bad })

    pub bad_none : i < length given → ((f : ℕ) → IsItemOf rings given i f → ⊥) → IsBadFaces rings given i
    bad_none within none = bad_at (record { within = within; bad = λ f item. absurd (none f item) })

    module _ (f : ℕ) (item : IsItemOf rings given i f) where
      pub bad_again : i < length given → (k : ℕ) × (slice_get numbers k ≡ Some f) → IsBadFaces rings given i
      bad_again within (k, e) = bad_at (record {
        within = within;
        bad = λ x other. (
          k,
          (let c = h.counted in let w = slice_get_within numbers k f e in omega (arith, c, w)),
          subst (IsItemOf rings given k) (one_face i f x item other) (h.each k f e),
        );
      })

      pub one_more : ((k : ℕ) → slice_get numbers k ≡ Some f → ⊥) → AreFirstNumbers rings given (i + 1) (numbers ++ f ∷ [])
      one_more fresh = record {
        counted = length-append numbers (f ∷ []) ∙ ap (λ n. n + 1) h.counted;
        each = λ m x e. elim (get_either numbers f x m e) [
          | inl d ↦ h.each m x d
          | inr d ↦ subst (λ n. IsItemOf rings given n x) (sym (d.0 ∙ h.counted)) (subst (IsItemOf rings given i) (sym d.1) item)
        ];
        differ = λ m n x d e. both m n x (get_either numbers f x m d) (get_either numbers f x n e);
      } where
        both : (m n x : ℕ) → (slice_get numbers m ≡ Some x) ⊎ ((m ≡ length numbers) × (x ≡ f)) → (slice_get numbers n ≡ Some x) ⊎ ((n ≡ length numbers) × (x ≡ f)) → m ≡ n
        both m n x (inl d) (inl e) = h.differ m n x d e
        both m n x (inl d) (inr e) = absurd (fresh m (d ∙ ap Some e.1))
        both m n x (inr d) (inl e) = absurd (fresh n (e ∙ ap Some d.1))
        both m n x (inr d) (inr e) = d.0 ∙ sym e.0
