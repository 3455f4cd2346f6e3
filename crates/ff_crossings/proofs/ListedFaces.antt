-- Faces can be listed bottom to top exactly where no three of them go round. A part of a listing is one.
use Rattle.std.proofs.Common.{◌≡◌, ◌≢◌, ℕ, zero, suc, ◌<◌, ◌==◌, ◌⊎◌, inl, inr, ◌↔◌, Bool, true, false, not, List, [], ◌∷◌, get_or, refl, sym, subst, ap, ◌∙◌, arith, IsTrue, Contains, filter}
use Rattle.std.specs.List.{list_any}
use Rattle.std.proofs.lemmas.List.{get_or_default}
use Rattle.std.proofs.lemmas.List.Kept.{AllPairs-filter}
use Rattle.std.proofs.lemmas.List.Elements.{Contains-get_or}
use Rattle.std.proofs.lemmas.Bool.{cases_Bool, cases_eq, cases_order, both_ways, eqb-true, or_cases, or_left, or_right}
use Rattle.ff_basics.proofs.Memberships.{by_member, filter_in, first_member, in_filter, later_member, no_member}
use Rattle.ff_basics.proofs.Numbers.{same_number}
use Rattle.ff_types.specs.Stackings.{CanBeListed}
use Rattle.ff_crossings.specs.Listings.{AreCompared, HasNoCycle}
use Rattle.ff_crossings.specs.Alternating.{Rises}

-- each face is below those that come after it, face by face
abbrev Ascends : (ℕ → ℕ → Bool) → List ℕ → Type 0
Ascends above [] = Unit {0}
Ascends above (f ∷ list) = ((h : ℕ) → Contains list h → IsTrue (above h f)) × Ascends above list

to_ascends : (above : ℕ → ℕ → Bool) (list : List ℕ) → Rises above list → Ascends above list
to_ascends above [] r = tt
to_ascends above (f ∷ list) r = (
  (λ h m. subst (λ z. IsTrue (above z f)) m.2 (r 0 (suc m.0) h (omega arith) (omega (arith, m.1)))),
  to_ascends above list (λ i j d a b. r (suc i) (suc j) d (omega (arith, a)) (omega (arith, b))),
)

to_rises : (above : ℕ → ℕ → Bool) (list : List ℕ) → Ascends above list → Rises above list
to_rises above [] a i j d h k = absurd (omega (arith, k))
to_rises above (f ∷ list) a i zero d h k = absurd (omega (arith, h))
to_rises above (f ∷ list) a zero (suc j) d h k =
    a.0 (get_or list j d) (Contains-get_or list j d (omega (arith, k)))
to_rises above (f ∷ list) a (suc i) (suc j) d h k =
    to_rises above list a.1 i j d (omega (arith, h)) (omega (arith, k))

-- ---- in a listing the later of two faces is above

pub later : (above : ℕ → ℕ → Bool) (list : List ℕ) (f h : ℕ) → Rises above list → (a : Contains list f)
    (b : Contains list h) → a.0 < b.0 → IsTrue (above h f)
later above list f h r a b l =
    subst (λ z. IsTrue (above z f)) (get_or_default list b.0 f h b.1 ∙ b.2)
    (subst (λ z. IsTrue (above (get_or list b.0 f) z)) a.2 (r a.0 b.0 f l b.1))

one_place : (list : List ℕ) (f h : ℕ) (a : Contains list f) (b : Contains list h) → a.0 ≡ b.0 → f ≡ h
one_place list f h a b e = sym a.2 ∙ (ap (λ k. get_or list k f) e ∙ (get_or_default list b.0 f h b.1 ∙ b.2))

-- a face that the other one isn't above comes later
pub comes_later : (above : ℕ → ℕ → Bool) (list : List ℕ) (f h : ℕ) → Rises above list → f ≢ h
    → (IsTrue (above f h) → ⊥) → (a : Contains list f) (b : Contains list h) → a.0 < b.0
comes_later above list f h r d under a b = by (cases_order a.0 b.0) where
  by : (a.0 ≡ b.0) ⊎ ((a.0 < b.0) ⊎ (b.0 < a.0)) → a.0 < b.0
  by (inl e) = absurd (d (one_place list f h a b e))
  by (inr (inl l)) = l
  by (inr (inr l)) = absurd (under (later above list h f r b a l))

-- what can be listed has no cycle
listed_no_cycle : (above : ℕ → ℕ → Bool) (faces : List ℕ) → AreCompared above faces → CanBeListed above faces
    → HasNoCycle above faces
listed_no_cycle above faces one (list, is) f h k mf mh mk dfh dhk dkf x y z =
    omega (arith, first, second, third) where
      a : Contains list f
      a = (is.same f).1 mf

      b : Contains list h
      b = (is.same h).1 mh

      c : Contains list k
      c = (is.same k).1 mk

      first : b.0 < a.0
      first = comes_later above list h f is.rises (λ e. dfh (sym e))
          (λ t. both_ways (above f h) (one f h mf mh dfh ∙ ap not t) x) b a

      second : c.0 < b.0
      second = comes_later above list k h is.rises (λ e. dhk (sym e))
          (λ t. both_ways (above h k) (one h k mh mk dhk ∙ ap not t) y) c b

      third : a.0 < c.0
      third = comes_later above list f k is.rises (λ e. dkf (sym e))
          (λ t. both_ways (above k f) (one k f mk mf dkf ∙ ap not t) z) a c

-- ---- a face is put below the first one that is above it

abbrev put_at : Bool → ℕ → ℕ → List ℕ → List ℕ → List ℕ
put_at true f h list rest = f ∷ h ∷ list
put_at false f h list rest = h ∷ rest

abbrev put : (ℕ → ℕ → Bool) → ℕ → List ℕ → List ℕ
put above f [] = f ∷ []
put above f (h ∷ list) = put_at (above h f) f h list (put above f list)

in_put : (above : ℕ → ℕ → Bool) (f : ℕ) (list : List ℕ) (h : ℕ) → Contains (put above f list) h → (h ≡ f)
    ⊎ Contains list h
in_put above f [] h m = by_member f [] h (λ e. inl (sym e)) (λ n. inr n) m
in_put above f (g ∷ list) h m = by (above g f) m (in_put above f list h) where
  by : (b : Bool) → Contains (put_at b f g list (put above f list)) h
      → (Contains (put above f list) h → (h ≡ f) ⊎ Contains list h) → (h ≡ f) ⊎ Contains (g ∷ list) h
  by true n rest = by_member f (g ∷ list) h (λ e. inl (sym e)) (λ o. inr o) n
  by false n rest = by_member g (put above f list) h (λ e. inr (first_member g list h e))
      (λ o. elim (rest o) [ inl e ↦ inl e | inr p ↦ inr (later_member g list h p) ]) n

put_in : (above : ℕ → ℕ → Bool) (f : ℕ) (list : List ℕ) (h : ℕ) → (h ≡ f) ⊎ Contains list h → Contains
    (put above f list) h
put_in above f [] h (inl e) = first_member f [] h (sym e)
put_in above f [] h (inr m) = absurd (no_member h m)
put_in above f (g ∷ list) h m = by (above g f) m (put_in above f list h) where
  by : (b : Bool) → (h ≡ f) ⊎ Contains (g ∷ list) h
      → ((h ≡ f) ⊎ Contains list h → Contains (put above f list) h) → Contains
      (put_at b f g list (put above f list)) h
  by true (inl e) rest = first_member f (g ∷ list) h (sym e)
  by true (inr n) rest = later_member f (g ∷ list) h n
  by false (inl e) rest = later_member g (put above f list) h (rest (inl e))
  by false (inr n) rest =
      by_member g list h (λ e. first_member g (put above f list) h e)
      (λ o. later_member g (put above f list) h (rest (inr o))) n

-- a face that compares with all of a listing and makes no cycle with it
put_ascends : (above : ℕ → ℕ → Bool) (f : ℕ) (list : List ℕ) → Ascends above list
    → ((h : ℕ) → Contains list h → above f h ≡ not (above h f))
    → ((g h : ℕ) → Contains list g → Contains list h → g ≢ h → IsTrue (above g f) → IsTrue (above h g)
    → IsTrue (above f h) → ⊥)
    → Ascends above (put above f list)
put_ascends above f [] a one acyclic = ((λ h m. absurd (no_member h m)), tt)
put_ascends above f (g ∷ list) a one acyclic =
    by (cases_Bool (above g f))
    (put_ascends above f list a.1 (λ h m. one h (later_member g list h m))
    (λ x y mx my. acyclic x y (later_member g list x mx) (later_member g list y my))) where
      beyond : IsTrue (above g f) → (h : ℕ) → Contains list h → (g ≡ h) ⊎ (g ≢ h) → (above h f ≡ true)
          ⊎ (above h f ≡ false) → IsTrue (above h f)
      beyond b h m (inl e) c = subst (λ z. IsTrue (above z f)) e b
      beyond b h m (inr d) (inl t) = t
      beyond b h m (inr d) (inr t) =
          absurd (acyclic g h (first_member g list g refl) (later_member g list h m) d b (a.0 h m)
          (one h (later_member g list h m) ∙ ap not t))

      high : IsTrue (above g f) → (h : ℕ) → Contains (g ∷ list) h → IsTrue (above h f)
      high b h m = by_member g list h (λ e. subst (λ z. IsTrue (above z f)) e b)
          (λ n. beyond b h n (cases_eq g h) (cases_Bool (above h f))) m

      low : above g f ≡ false → (h : ℕ) → (h ≡ f) ⊎ Contains list h → IsTrue (above h g)
      low e h (inl k) = subst (λ z. IsTrue (above z g)) (sym k)
          (one g (first_member g list g refl) ∙ ap not e)
      low e h (inr m) = a.0 h m

      by : (above g f ≡ true) ⊎ (above g f ≡ false) → Ascends above (put above f list) → Ascends above
          (put above f (g ∷ list))
      by (inl e) rest = subst (λ b. Ascends above (put_at b f g list (put above f list))) (sym e) (high e, a)
      by (inr e) rest = subst (λ b. Ascends above (put_at b f g list (put above f list))) (sym e)
          ((λ h m. low e h (in_put above f list h m)), rest)

-- ---- whether a face is in a list

abbrev is_in : List ℕ → ℕ → Bool
is_in list f = list_any (λ h. f == h) list

is_in_true : (list : List ℕ) (f : ℕ) → IsTrue (is_in list f) → Contains list f
is_in_true [] f t = absurd (both_ways false refl t)
is_in_true (h ∷ list) f t =
    elim (or_cases (f == h) (is_in list f) t) [
      | inl e ↦ first_member h list f (sym (eqb-true f h e))
      | inr n ↦ later_member h list f
          (is_in_true list f n)
    ]

in_is_true : (list : List ℕ) (f : ℕ) → Contains list f → IsTrue (is_in list f)
in_is_true [] f m = absurd (no_member f m)
in_is_true (h ∷ list) f m =
    by_member h list f (λ e. or_left (f == h) (is_in list f)
    (subst (λ z. IsTrue (f == z)) (sym e) (same_number f)))
    (λ n. or_right (f == h) (is_in list f) (in_is_true list f n)) m

-- ---- the two laws

no_cycle_listed : (above : ℕ → ℕ → Bool) (faces : List ℕ) → AreCompared above faces → HasNoCycle above faces
    → CanBeListed above faces
no_cycle_listed above [] one acyclic =
    ([], record { same = λ f. ((λ m. m), (λ m. m)); rises = to_rises above [] tt })
no_cycle_listed above (f ∷ faces) one acyclic =
    by (cases_Bool (is_in faces f))
    (no_cycle_listed above faces
    (λ x y mx my. one x y (later_member f faces x mx) (later_member f faces y my))
    (λ x y z mx my mz. acyclic x y z (later_member f faces x mx) (later_member f faces y my)
    (later_member f faces z mz))) where
      with_it : (h : ℕ) → Contains faces f → Contains faces h ↔ Contains (f ∷ faces) h
      with_it h m = (
        (λ n. later_member f faces h n),
        (λ n. by_member f faces h (λ e. subst (λ z. Contains faces z) e m) (λ o. o) n),
      )

      put_same : (list : List ℕ) → ((h : ℕ) → Contains list h ↔ Contains faces h) → (h : ℕ) → Contains
          (put above f list) h ↔ Contains (f ∷ faces) h
      put_same list same h = (
        (λ m. elim (in_put above f list h m)
            [ inl e ↦ first_member f faces h (sym e) | inr n ↦ later_member f faces h ((same h).0 n) ]),
        (λ m. put_in above f list h (by_member f faces h (λ e. inl (sym e)) (λ n. inr ((same h).1 n)) m)),
      )

      by : (is_in faces f ≡ true) ⊎ (is_in faces f ≡ false) → CanBeListed above faces → CanBeListed above
          (f ∷ faces)
      by (inl t) (list, is) = (
        list,
        record {
          same =
              λ h. (
                (λ m. (with_it h (is_in_true faces f t)).0 ((is.same h).0 m)),
                (λ m. (is.same h).1 ((with_it h (is_in_true faces f t)).1 m)),
              );
          rises = is.rises;
        },
      )
      by (inr t) (list, is) = (
        put above f list,
        record {
          same = put_same list is.same;
          rises = to_rises above (put above f list) (put_ascends above f list (to_ascends above list is.rises)
              (λ h m. one f h (first_member f faces f refl) (later_member f faces h ((is.same h).0 m))
              (differs h ((is.same h).0 m)))
              (λ g h mg mh d x y z. acyclic g f h (later_member f faces g ((is.same g).0 mg))
              (first_member f faces f refl) (later_member f faces h ((is.same h).0 mh))
              (λ e. differs g ((is.same g).0 mg) (sym e)) (differs h ((is.same h).0 mh))
              (λ e. d (sym e)) x z y));
        },
      ) where
        differs : (h : ℕ) → Contains faces h → f ≢ h
        differs h m e = both_ways (is_in faces f) t
            (in_is_true faces f (subst (λ z. Contains faces z) (sym e) m))

pub listed_exactly_holds : (above : ℕ → ℕ → Bool) (faces : List ℕ) → AreCompared above faces
    → CanBeListed above faces ↔ HasNoCycle above faces
listed_exactly_holds above faces one = (listed_no_cycle above faces one, no_cycle_listed above faces one)

pub part_listed : (above : ℕ → ℕ → Bool) (faces part : List ℕ)
    → ((f : ℕ) → Contains part f → Contains faces f) → CanBeListed above faces → CanBeListed above part
part_listed above faces part sub (list, is) = (
  filter (is_in part) list,
  record {
    same = λ f. (
      (λ m. is_in_true part f (in_filter (is_in part) list f m).1),
      (λ m. filter_in (is_in part) list f ((is.same f).1 (sub f m)) (in_is_true part f m)),
    );
    rises = AllPairs-filter (λ lower upper. IsTrue (above upper lower)) (is_in part) list is.rises;
  },
)
