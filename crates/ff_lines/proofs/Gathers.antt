-- The points of a drawing, gathered pair by pair.
use Rattle.std.proofs.Common.{◌≡◌, ◌⊎◌, inl, inr, ℕ, ◌+◌, ◌<◌, ◌≤◌, arith, sym, ◌∙◌, subst, Bool, true, false, List, [], ◌∷◌, ◌++◌, length, slice_get, Some, IsTrue, Contains}
use Rattle.std.proofs.lemmas.Bool.{false≢true}
use Rattle.std.proofs.lemmas.Option.{slice_get_within}
use Rattle.std.proofs.lemmas.List.Elements.{Contains-push, Contains-append_left, Contains-push_cases}
use Rattle.ff_basics.proofs.Memberships.{no_member}
use Rattle.ff_basics.proofs.Numbers.{last_or}
use Rattle.ff_basics.proofs.Options.{same_value}
use Rattle.ff_whole.specs.declared.points.Pt.{Pt}
use Rattle.ff_whole.specs.declared.places.Place.{Place}
use Rattle.ff_whole.specs.Places.{place_of, same_place}
use Rattle.ff_types.specs.declared.limits.TheConstants.{MOST_VERTICES}
use Rattle.ff_lines.specs.declared.items.LineItem.{LineItem}
use Rattle.ff_lines.specs.Lines.{AreLines, AreOverlapping, ComesBefore, IsEndAt, NoneBefore, NoneStops, OffGridAt, OverlapAt, AreOffGrid}
use Rattle.ff_lines.specs.Drawings.{AreVertices, HasManyVertices, IsVertexOf, Rise}
use Rattle.ff_lines.specs.Gathered.{AreEndsOf, AreGathered, HoldSame, IsCounted, IsKept, IsPairDone, IsSqueezed}
use Rattle.ff_lines.specs.Meetings.{ArePlain, MeetAt, MeetInWhole}
use Rattle.ff_lines.proofs.Sharing.{back_same, same_from, through_same, to_same, whole_place}
use Rattle.ff_lines.proofs.TwoLines.{one_whole}

-- ---- the ends

pub no_ends : (lines : List LineItem) → AreEndsOf lines 0 []
no_ends lines = record { only = λ v h. absurd (no_member v h); ends = λ i l less there. absurd (omega (arith, less)) }

pub more_ends : (lines : List LineItem) (i : ℕ) (l : LineItem) (points : List Pt) → slice_get lines i ≡ Some l → AreEndsOf lines i points
    → AreEndsOf lines (i + 1) ((points ++ l.p ∷ []) ++ l.q ∷ [])
more_ends lines i l points there h = record {
  only = λ v c. elim (Contains-push_cases (points ++ l.p ∷ []) l.q v c) [
    | inl d ↦ elim (Contains-push_cases points l.p v d) [ inl e ↦ h.only v e | inr e ↦ inl (i, l, there, inl (sym e)) ]
    | inr e ↦ inl (i, l, there, inr (sym e))
  ];
  ends = λ j m less is. elim (last_or j i less) [
    | inl n ↦ (let r = h.ends j m n is in (keep _ (keep0 _ r.0), keep _ (keep0 _ r.1)))
    | inr e ↦ (let same : l ≡ m = same_value there (subst (λ k. slice_get lines k ≡ Some m) e is) in
        subst (λ (n : LineItem). Contains ((points ++ l.p ∷ []) ++ l.q ∷ []) n.p × Contains ((points ++ l.p ∷ []) ++ l.q ∷ []) n.q) same
        (keep _ (Contains-push points l.p), Contains-push (points ++ l.p ∷ []) l.q))
  ];
} where
  keep0 : (v : Pt) → Contains points v → Contains (points ++ l.p ∷ []) v
  keep0 v c = Contains-append_left points (l.p ∷ []) v c

  keep : (v : Pt) → Contains (points ++ l.p ∷ []) v → Contains ((points ++ l.p ∷ []) ++ l.q ∷ []) v
  keep v c = Contains-append_left (points ++ l.p ∷ []) (l.q ∷ []) v c

-- before any pair
pub begun : (lines : List LineItem) (points : List Pt) → AreEndsOf lines (length lines) points → AreGathered lines 0 1 points false
begun lines points h = record {
  only = h.only;
  ends = λ e. h.ends;
  done = λ a b k l before are. elim before [
    | inl less ↦ absurd (omega (arith, less))
    | inr same ↦ absurd (let e = same.0 in let m = same.1 in let o = are.order in omega (arith, e, m, o))
  ];
  many = λ e. absurd (false≢true e);
}

-- ---- one point

pub kept_not : (points : List Pt) (full : Bool) (v : Pt) → full ≡ true → IsKept points full v points
kept_not points full v e = record { from = λ x h. inl h; keeps = λ x h. h; has = λ f. absurd (false≢true (sym f ∙ e)) }

pub kept_push : (points : List Pt) (full : Bool) (v : Pt) → IsKept points full v (points ++ v ∷ [])
kept_push points full v = record {
  from = λ x h. elim (Contains-push_cases points v x h) [ inl c ↦ inl c | inr e ↦ inr (sym e) ];
  keeps = λ x h. Contains-append_left points (v ∷ []) x h;
  has = λ f. Contains-push points v;
}

-- ---- one pair

module _ (lines : List LineItem) (i j : ℕ) (k l : LineItem) (are : AreLines lines i j k l) (points : List Pt) (full : Bool) (h : AreGathered lines i j points full) where
  -- the pair before (i, j + 1) is one before (i, j), or this one
  split : (a b : ℕ) → ComesBefore a b i (j + 1) → ComesBefore a b i j ⊎ ((a ≡ i) × (b ≡ j))
  split a b (inl less) = inl (inl less)
  split a b (inr (e, less)) = elim (last_or b j less) [ inl n ↦ inl (inr (e, n)) | inr f ↦ inr (e, f) ]

  more : (m n : LineItem) (new : List Pt) → ((x : Pt) → Contains points x → Contains new x) → IsPairDone m n points full → IsPairDone m n new full
  more m n new keeps d = record { wholes = λ s o. (let r = d.wholes s o in (r.0, r.1, λ f. keeps r.0 (r.2 f))); letters = d.letters }

  step : (new : List Pt) → ((v : Pt) → Contains new v → IsVertexOf lines v) → ((x : Pt) → Contains points x → Contains new x) → IsPairDone k l new full
      → AreGathered lines i (j + 1) new full
  step new only keeps done = record {
    only = only;
    ends = λ f a m less there. (let r = h.ends f a m less there in (keeps m.p r.0, keeps m.q r.1));
    done = λ a b m n before pair. elim (split a b before) [
      | inl earlier ↦ more m n new keeps (h.done a b m n earlier pair)
      | inr this ↦ (let e = same_value are.first (subst (λ c. slice_get lines c ≡ Some m) this.0 pair.first) in
          let f = same_value are.second (subst (λ c. slice_get lines c ≡ Some n) this.1 pair.second) in
          subst (λ x. IsPairDone x n new full) e (subst (λ y. IsPairDone k y new full) f done))
    ];
    many = h.many;
  }

  end_of : (m : LineItem) (c : ℕ) → slice_get lines c ≡ Some m → (s : Place) → IsEndAt m.p m.q s → (v : Pt) × IsTrue (same_place (place_of v) s) × (full ≡ false → Contains points v)
  end_of m c there s (inl e) = (m.p, same_from (place_of m.p) s (back_same s (place_of m.p) (to_same s (place_of m.p) e)), λ f. (h.ends f c m (slice_get_within lines c m there) there).0)
  end_of m c there s (inr e) = (m.q, same_from (place_of m.q) s (back_same s (place_of m.q) (to_same s (place_of m.q) e)), λ f. (h.ends f c m (slice_get_within lines c m there) there).1)

  pub after_plain : ArePlain k l → AreGathered lines i (j + 1) points full
  after_plain plain = step points h.only (λ x c. c) (record {
    wholes = λ s only. elim (plain.ends s only) [ inl e ↦ end_of k i are.first s e | inr e ↦ end_of l j are.second s e ];
    letters = plain.letters;
  })

  -- where no more points are kept
  pub after_whole : full ≡ true → MeetInWhole k l → AreGathered lines i (j + 1) points full
  after_whole f w = step points h.only (λ x c. c) (record {
    wholes = λ s only. (let r = w.whole s only in (r.0, r.1, λ g. absurd (false≢true (sym g ∙ f))));
    letters = w.letters;
  })

  pub after_meeting : (v : Pt) → MeetAt k l v → (new : List Pt) → IsKept points full v new → AreGathered lines i (j + 1) new full
  after_meeting v at new kept = step new
      (λ x c. elim (kept.from x c) [ inl d ↦ h.only x d | inr e ↦ subst (IsVertexOf lines) (sym e) (inr (i, j, k, l, are, at.only)) ])
      kept.keeps
      (record {
        wholes = λ s only. (v, only.only (place_of v) at.only.is, kept.has);
        letters = λ o. not_true_false (same_place o.0.s o.0.t) o.0.differ
            (same_from o.0.s o.0.t (through_same o.0.s (place_of v) o.0.t (whole_place v) (to_same o.0.s (place_of v) (at.only.only o.0.s o.0.first)) (to_same o.0.t (place_of v) (at.only.only o.0.t o.0.second))));
      }) where
        not_true_false : (b : Bool) → b ≡ false → IsTrue b → ⊥
        not_true_false b e t = false≢true (sym e ∙ t)

  -- where this pair stops it is the first
  pub none_before : NoneBefore lines i j
  none_before a b before (inl off) =
      let d = h.done a b off.0 off.1 before off.2 in
      let w = d.wholes off.3.0 off.3.1 in off.3.2 w.0 w.1
  none_before a b before (inr over) = (h.done a b over.0 over.1 before over.2).letters over.3

  pub stops_off : AreOffGrid k l → OffGridAt lines i j × NoneBefore lines i j
  stops_off off = ((k, l, are, off), none_before)

  pub stops_over : AreOverlapping k l → OverlapAt lines i j × NoneBefore lines i j
  stops_over over = ((k, l, are, over), none_before)

-- ---- a whole row

pub row_done : (lines : List LineItem) (i n : ℕ) (points : List Pt) (full : Bool) → length lines ≤ n → AreGathered lines i n points full → AreGathered lines (i + 1) (i + 1 + 1) points full
row_done lines i n points full end h = record {
  only = h.only;
  ends = h.ends;
  many = h.many;
  done = λ a b k l before are. h.done a b k l (back a b (slice_get_within lines b l are.second) are.order before) are;
} where
  back : (a b : ℕ) → b < length lines → a < b → ComesBefore a b (i + 1) (i + 1 + 1) → ComesBefore a b i n
  back a b inside order (inl less) = elim (last_or a i less) [ inl m ↦ inl m | inr e ↦ inr (e, omega (arith, inside, end)) ]
  back a b inside order (inr (e, less)) = absurd (omega (arith, e, less, order))

-- ---- counted

module _ (lines : List LineItem) (i j : ℕ) (old new : List Pt) (full : Bool) (h : AreGathered lines i j old full) where
  pub after_same : HoldSame old new → AreGathered lines i j new full
  after_same same = record {
    only = λ v c. h.only v ((same v).0 c);
    ends = λ f a m less there. (let r = h.ends f a m less there in ((same m.p).1 r.0, (same m.q).1 r.1));
    done = λ a b k l before are. (let d = h.done a b k l before are in record { wholes = λ s o. (let r = d.wholes s o in (r.0, r.1, λ f. (same r.0).1 (r.2 f))); letters = d.letters });
    many = h.many;
  }

  pub many_of : HoldSame old new → Rise new → MOST_VERTICES < length new → HasManyVertices lines
  many_of same rise more = record { points = new; vertices = λ v c. h.only v ((same v).0 c); rise = rise; many = more }

  pub no_more : HasManyVertices lines → AreGathered lines i j [] true
  no_more many = record {
    only = λ v c. absurd (no_member v c);
    ends = λ f. absurd (false≢true (sym f));
    done = λ a b k l before are. (let d = h.done a b k l before are in record { wholes = λ s o. (let r = d.wholes s o in (r.0, r.1, λ f. absurd (false≢true (sym f)))); letters = d.letters });
    many = λ e. many;
  }

-- ---- all pairs

module _ (lines : List LineItem) (points : List Pt) (full : Bool) (h : AreGathered lines (length lines) (length lines + 1) points full) where
  done : (a b : ℕ) (k l : LineItem) → AreLines lines a b k l → IsPairDone k l points full
  done a b k l are = h.done a b k l (inl (slice_get_within lines a k are.first)) are

  pub none_stops : NoneStops lines
  none_stops = record {
    wholes = λ i j k l are s only. (let r = (done i j k l are).wholes s only in (r.0, r.1));
    letters = λ i j over. (done i j over.0 over.1 over.2).letters over.3;
  }

  pub are_vertices : full ≡ false → (new : List Pt) → IsSqueezed points new → AreVertices lines new
  are_vertices f new squeezed = record {
    vertices = λ v. ((λ c. h.only v ((squeezed.same v).0 c)), (λ is. (squeezed.same v).1 (there v is)));
    rise = squeezed.rise;
  } where
    there : (v : Pt) → IsVertexOf lines v → Contains points v
    there v (inl (i, l, is, inl e)) = subst (Contains points) (sym e) (h.ends f i l (slice_get_within lines i l is) is).0
    there v (inl (i, l, is, inr e)) = subst (Contains points) (sym e) (h.ends f i l (slice_get_within lines i l is) is).1
    there v (inr (i, j, k, l, are, only)) = let r = (done i j k l are).wholes (place_of v) only in subst (Contains points) (one_whole r.0 v r.1) (r.2 f)

pub counted_not : (points : List Pt) (many : Bool) → many ≡ false → IsCounted points points many
counted_not points many e = record { same = λ x. ((λ c. c), (λ c. c)); rise = λ t. absurd (false≢true (sym e ∙ t)); more = λ t. absurd (false≢true (sym e ∙ t)) }
