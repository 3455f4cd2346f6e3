-- Lines looked at from west to east, and the same lines in another order.
use Rattle.std.proofs.Common.{◌≡◌, ◌⊎◌, inl, inr, ℕ, ◌+◌, ◌<◌, ◌≤◌, arith, refl, sym, ap, ◌∙◌, subst, Bool, true, false, cond, List, length, slice_get, get_or, Some, Ordering, Less, Equal, Greater, ℤ, ◌<ℤ◌, ◌≤ℤ◌, w64}
use lib.Signed.{lt_z}
use Rattle.std.specs.List.{All}
use Rattle.std.specs.List.Sorted.{IsPermutation, IsSortedBy}
use Rattle.std.specs.Ordering.{int_cmp, is_lt, MatchOrdering}
use Rattle.std.specs.Cmp.{int_ranks}
use Rattle.std.proofs.lemmas.Bool.{false≢true}
use Rattle.std.proofs.lemmas.Cmp.{int_cmp_total}
use Rattle.std.proofs.lemmas.Int.{ints}
use Rattle.std.proofs.lemmas.Option.{slice_get_within, slice_get-get_or, get_or_from_slice_get}
use Rattle.std.proofs.lemmas.List.Sorted.{All-permutation, Contains-permutation, IsPermutation-sym, ranks_by, sorted_far}
use Rattle.ff_basics.proofs.Numbers.{last_or, which}
use Rattle.ff_basics.proofs.Options.{same_value}
use Rattle.ff_whole.proofs.Bounds as bounds
use Rattle.ff_whole.proofs.Signs.{linear}
use Rattle.ff_whole.specs.declared.points.Pt.{Pt}
use Rattle.ff_whole.specs.declared.places.Place.{Place}
use Rattle.ff_whole.specs.Places.{place_of}
use Rattle.ff_lines.specs.declared.items.LineItem.{LineItem}
use Rattle.ff_lines.specs.Lines.{AreLines, ComesBefore, IsCommon, IsOnlyCommon, IsProper}
use Rattle.ff_lines.specs.Drawings.{HasManyVertices, IsCrossingOf, IsVertexOf}
use Rattle.ff_lines.specs.Gathered.{AreEndsOf, AreGathered, IsPairDone}
use Rattle.ff_lines.specs.Sweeps.{AreFromWest, read, west, east}
use Rattle.ff_lines.proofs.Apart.{apart_in_x, swap_only, swap_overlap}
use Rattle.ff_lines.proofs.Letters.{first_on, last_on}
use Rattle.ff_lines.proofs.Patterns.{proper_at}
use Rattle.ff_lines.proofs.Sharing.{same_from, through_same, to_same, whole_place}
use Rattle.ff_lines.proofs.TwoLines.{one_whole}

-- ---- the west and east ends

lesser : (a b x y : ℤ) (t : Bool) → lt_z a b ≡ t → a ≡ x → b ≡ y → (cond t a b ≤ℤ x) × (cond t a b ≤ℤ y)
lesser a b x y true h e f = (omega (arith, ints), omega (arith, ints))
lesser a b x y false h e f = (omega (arith, ints), omega (arith, ints))

greater : (a b x y : ℤ) (t : Bool) → lt_z a b ≡ t → a ≡ x → b ≡ y → (x ≤ℤ cond t b a) × (y ≤ℤ cond t b a)
greater a b x y true h e f = (omega (arith, ints), omega (arith, ints))
greater a b x y false h e f = (omega (arith, ints), omega (arith, ints))

pub west_of_both : (l : LineItem) → IsProper l → (west l ≤ℤ l.p.x) × (west l ≤ℤ l.q.x)
west_of_both l h = lesser (read l.p.x) (read l.q.x) l.p.x l.q.x (lt_z (read l.p.x) (read l.q.x)) refl (bounds.read w64 h.p_near.x_below tt).is (bounds.read w64 h.q_near.x_below tt).is

pub east_of_both : (l : LineItem) → IsProper l → (l.p.x ≤ℤ east l) × (l.q.x ≤ℤ east l)
east_of_both l h = greater (read l.p.x) (read l.q.x) l.p.x l.q.x (lt_z (read l.p.x) (read l.q.x)) refl (bounds.read w64 h.p_near.x_below tt).is (bounds.read w64 h.q_near.x_below tt).is

-- ---- a row whose rest lies east of its line

pub apart_done : (k l : LineItem) (points : List Pt) (full : Bool) → ((s : Place) → IsCommon k l s → ⊥) → IsPairDone k l points full
apart_done k l points full none = record { wholes = λ s o. absurd (none s o.is); letters = λ h. none h.0.s h.0.first }

pub east_done : (k l : LineItem) (points : List Pt) (full : Bool) → IsProper k → IsProper l → east k <ℤ west l → IsPairDone k l points full
east_done k l points full f g less =
    let a = east_of_both k f in let b = west_of_both l g in
    apart_done k l points full (apart_in_x k l f g (east k) (west l) less a.0 a.1 b.0 b.1)

module _ (lines : List LineItem) (all : All IsProper lines) (from : AreFromWest lines) (i j : ℕ) (k l : LineItem)
    (first : slice_get lines i ≡ Some k) (second : slice_get lines j ≡ Some l) (less : east k <ℤ west l) (points : List Pt) (full : Bool) where
  beyond : (b : ℕ) (n : LineItem) → slice_get lines b ≡ Some n → j ≤ b → IsPairDone k n points full
  beyond b n there after = east_done k n points full (proper_at lines all i k first) (proper_at lines all b n there) (elim (which j b) [
    | inl m ↦ (let w = from j b l n m second there in omega (arith, linear))
    | inr (inl m) ↦ absurd (omega (arith, m, after))
    | inr (inr e) ↦ subst (λ x. east k <ℤ west x) (same_value second (subst (λ c. slice_get lines c ≡ Some n) (sym e) there)) less
  ])

  pub row_east : AreGathered lines i j points full → AreGathered lines (i + 1) (i + 1 + 1) points full
  row_east h = record { only = h.only; ends = h.ends; many = h.many; done = done } where
    at_i : (b : ℕ) (m n : LineItem) → AreLines lines i b m n → IsPairDone m n points full
    at_i b m n are = elim (last_or b b (omega arith)) [ inl x ↦ by (which b j) | inr x ↦ by (which b j) ] where
      here : j ≤ b → IsPairDone m n points full
      here after = subst (λ x. IsPairDone x n points full) (same_value first are.first) (beyond b n are.second after)

      by : (b < j) ⊎ ((j < b) ⊎ (b ≡ j)) → IsPairDone m n points full
      by (inl x) = h.done i b m n (inr (refl, x)) are
      by (inr (inl x)) = here (omega (arith, x))
      by (inr (inr x)) = here (omega (arith, x))

    done : (a b : ℕ) (m n : LineItem) → ComesBefore a b (i + 1) (i + 1 + 1) → AreLines lines a b m n → IsPairDone m n points full
    done a b m n (inl before) are = elim (last_or a i before) [
      | inl x ↦ h.done a b m n (inl x) are
      | inr e ↦ at_i b m n (record { order = subst (λ c. c < b) e are.order; first = subst (λ c. slice_get lines c ≡ Some m) e are.first; second = are.second })
    ]
    done a b m n (inr (e, before)) are = absurd (let o = are.order in omega (arith, e, before, o))

-- ---- lines in another order

swap_done : (k l : LineItem) (points : List Pt) (full : Bool) → IsPairDone l k points full → IsPairDone k l points full
swap_done k l points full d = record { wholes = λ s o. d.wholes s (swap_only k l s o); letters = λ o. d.letters (swap_overlap k l o) }

-- a line has more than one place
not_itself : (k : LineItem) → IsProper k → (s : Place) → IsOnlyCommon k k s → ⊥
not_itself k h s o = h.apart (one_whole k.p k.q (same_from (place_of k.p) (place_of k.q) (through_same (place_of k.p) s (place_of k.q) o.is.place
    (to_same (place_of k.p) s (o.only (place_of k.p) (record { place = whole_place k.p; first = first_on k.p k.q; second = first_on k.p k.q })))
    (to_same (place_of k.q) s (o.only (place_of k.q) (record { place = whole_place k.q; first = last_on k.p k.q; second = last_on k.p k.q }))))))

self_done : (k l : LineItem) (points : List Pt) (full : Bool) → IsProper k → k ≡ l → IsPairDone k l points full
self_done k l points full h e = subst (λ m. IsPairDone k m points full) e (record { wholes = λ s o. absurd (not_itself k h s o); letters = λ o. o.1 refl })

-- the number that a line has in the other order
find : (lines other : List LineItem) → IsPermutation lines other → (i : ℕ) (l : LineItem) → slice_get lines i ≡ Some l → (j : ℕ) × (slice_get other j ≡ Some l)
find lines other perm i l there =
    let c = Contains-permutation lines other l perm (i, slice_get_within lines i l there, get_or_from_slice_get lines i l l there) in
    (c.0, slice_get-get_or other c.0 l c.1 ∙ ap Some c.2)

module _ (lines other : List LineItem) (perm : IsPermutation lines other) (all : All IsProper lines) where
  crossing : (v : Pt) → IsCrossingOf lines v → IsCrossingOf other v
  crossing v (i, j, k, l, are, only) = by (find lines other perm i k are.first) (find lines other perm j l are.second) where
    by : (a : ℕ) × (slice_get other a ≡ Some k) → (b : ℕ) × (slice_get other b ≡ Some l) → IsCrossingOf other v
    by a b = elim (which a.0 b.0) [
      | inl x ↦ (a.0, b.0, k, l, record { order = x; first = a.1; second = b.1 }, only)
      | inr (inl x) ↦ (b.0, a.0, l, k, record { order = x; first = b.1; second = a.1 }, swap_only k l (place_of v) only)
      | inr (inr e) ↦ absurd (not_itself k (proper_at lines all i k are.first) (place_of v) (subst (λ m. IsOnlyCommon k m (place_of v)) (sym (same_value a.1 (subst (λ c. slice_get other c ≡ Some l) (sym e) b.1))) only))
    ]

  pub same_vertex : (v : Pt) → IsVertexOf lines v → IsVertexOf other v
  same_vertex v (inl (i, l, there, is)) = inl (let a = find lines other perm i l there in (a.0, l, a.1, is))
  same_vertex v (inr c) = inr (crossing v c)

  pub same_many : HasManyVertices lines → HasManyVertices other
  same_many h = record { points = h.points; vertices = λ v c. same_vertex v (h.vertices v c); rise = h.rise; many = h.many }

module _ (lines other : List LineItem) (perm : IsPermutation lines other) (all : All IsProper lines) where
  pub all_other : All IsProper other
  all_other = All-permutation IsProper lines other perm all

  pub same_ends : (points : List Pt) → AreEndsOf lines (length lines) points → AreEndsOf other (length other) points
  same_ends points h = record {
    only = λ v c. same_vertex lines other perm all v (h.only v c);
    ends = λ i l less there. (let a = find other lines (IsPermutation-sym lines other perm) i l there in h.ends a.0 l (slice_get_within lines a.0 l a.1) a.1);
  }

  pub same_gathered : (points : List Pt) (full : Bool) → AreGathered other (length other) (length other + 1) points full → AreGathered lines (length lines) (length lines + 1) points full
  same_gathered points full h = record {
    only = λ v c. same_vertex other lines (IsPermutation-sym lines other perm) all_other v (h.only v c);
    ends = λ f i l less there. (let a = find lines other perm i l there in h.ends f a.0 l (slice_get_within other a.0 l a.1) a.1);
    many = λ f. same_many other lines (IsPermutation-sym lines other perm) all_other (h.many f);
    done = λ i j k l before are. done i j k l are (find lines other perm i k are.first) (find lines other perm j l are.second);
  } where
    done : (i j : ℕ) (k l : LineItem) → AreLines lines i j k l → (a : ℕ) × (slice_get other a ≡ Some k) → (b : ℕ) × (slice_get other b ≡ Some l) → IsPairDone k l points full
    done i j k l are a b = elim (which a.0 b.0) [
      | inl x ↦ h.done a.0 b.0 k l (inl (slice_get_within other a.0 k a.1)) (record { order = x; first = a.1; second = b.1 })
      | inr (inl x) ↦ swap_done k l points full (h.done b.0 a.0 l k (inl (slice_get_within other b.0 l b.1)) (record { order = x; first = b.1; second = a.1 }))
      | inr (inr e) ↦ self_done k l points full (proper_at lines all i k are.first) (same_value a.1 (subst (λ c. slice_get other c ≡ Some l) (sym e) b.1))
    ]

-- ---- sorted

not_less : (a b : ℤ) → is_lt (int_cmp b a) ≡ false → a ≤ℤ b
not_less a b h = by (int_cmp b a) (int_ranks b a) h where
  by : (o : Ordering) → MatchOrdering o (b <ℤ a) (b ≡ a) (a <ℤ b) → is_lt o ≡ false → a ≤ℤ b
  by Less l e = absurd (false≢true (sym e))
  by Equal l e = omega (arith, linear)
  by Greater l e = omega (arith, linear)

pub from_west : (lines : List LineItem) → IsSortedBy (λ k l. is_lt (int_cmp (west k) (west l))) lines → AreFromWest lines
from_west lines sorted i j k l less first second =
    let inside = slice_get_within lines j l second in
    let f = sorted_far (λ m n. is_lt (int_cmp (west m) (west n))) (ranks_by int_cmp_total west) lines sorted i j k (omega (arith, less)) inside in
    let a = get_or_from_slice_get lines i k k first in
    let b = get_or_from_slice_get lines j l k second in
    not_less (west k) (west l) (subst (λ m. is_lt (int_cmp (west l) (west m)) ≡ false) a (subst (λ n. is_lt (int_cmp (west n) (west (get_or lines i k))) ≡ false) b f))
