-- A set of the points so far, by which each further one is seen to be new or not.
use Rattle.std.proofs.Common.{◌≡◌, ◌∙◌, ℕ, ◌+◌, ◌<◌, ◌≤◌, List, length, Bool, true, false, cond, [], arith, refl, sym, ap, ◌⊎◌, inl, inr}
use Rattle.std.proofs.lemmas.Bool.{false≢true}
use Rattle.std.specs.BTreeSet.{contains, BTreeSet}
use Rattle.std.specs.BTreeMap.{is_at}
use Rattle.std.specs.List.{list_any}
use Rattle.std.specs.Ordering.{is_eq}
use Rattle.std.specs.declared.cmp.Ordering.{Ordering}
use Rattle.std.specs.declared.cmp.Ordering.TheVariants.{Less, Equal, Greater}
use Rattle.ff_basics.proofs.Tests.{equal_of}
use Rattle.ff_basics.proofs.Numbers.{last_or}
use Rattle.ff_whole.specs.declared.points.Pt.{Pt}
use Rattle.ff_whole.specs.Convex.{point_at}
use Rattle.ff_types.specs.FaceRefusals.{SamePointAt, IsLeast, Never}
use Rattle.ff_whole.proofs.PointOrder.{point_cmp, point_cmp-equal, point_cmp-same}

-- the first i points are those of the set, and no two of them are one
pub record HasSeen (ps : List Pt) (i : ℕ) (seen : BTreeSet Pt) : Type 0 where
  pub has : (k : ℕ) → k < i → contains point_cmp seen (point_at ps k) ≡ true
  pub only : (q : Pt) → contains point_cmp seen q ≡ true → (k : ℕ) × (k < i) × (point_at ps k ≡ q)
  pub differ : (j k : ℕ) → j < i → k < i → point_at ps j ≡ point_at ps k → j ≡ k

-- none yet
pub has_seen_nothing : (ps : List Pt) (seen : BTreeSet Pt) → seen.keys ≡ [] → HasSeen ps 0 seen
has_seen_nothing ps seen e = record {
  has = λ k l. absurd (omega (arith, l));
  only = λ q t. absurd (false≢true (ap (list_any (is_at (point_cmp q))) (sym e) ∙ t));
  differ = λ j k l m. absurd (omega (arith, l));
}

is_itself : (p : Pt) → is_at (point_cmp p) p ≡ true
is_itself p = ap is_eq (point_cmp-same p)

or_true : (a : Bool) → cond a true true ≡ true
or_true true = refl
or_true false = refl

has_more : (ps : List Pt) (i : ℕ) (old new : BTreeSet Pt) → HasSeen ps i old
    → ((q : Pt) → contains point_cmp new q ≡ cond (is_at (point_cmp (point_at ps i)) q) true (contains point_cmp old q))
    → (k : ℕ) → (k < i) ⊎ (k ≡ i) → contains point_cmp new (point_at ps k) ≡ true
has_more ps i old new h u k (inl l) = u (point_at ps k) ∙ ap (λ (b : Bool). cond (is_at (point_cmp (point_at ps i)) (point_at ps k)) true b) (h.has k l) ∙ or_true (is_at (point_cmp (point_at ps i)) (point_at ps k))
has_more ps i old new h u k (inr e) =
    u (point_at ps k) ∙ rw e (ap (λ (b : Bool). cond b true (contains point_cmp old (point_at ps i))) (is_itself (point_at ps i)))

only_more : (ps : List Pt) (i : ℕ) (old : BTreeSet Pt) (q : Pt) (b : Bool) → HasSeen ps i old → is_at (point_cmp (point_at ps i)) q ≡ b
    → cond b true (contains point_cmp old q) ≡ true → (k : ℕ) × (k < i + 1) × (point_at ps k ≡ q)
only_more ps i old q true h e t = (i, omega arith, point_cmp-equal (point_at ps i) q (equal_of (point_cmp (point_at ps i) q) e))
only_more ps i old q false h e t = let o = h.only q t in (o.0, omega (arith, o.1), o.2)

-- a point that the set lacks is none of those before it
not_twice : (ps : List Pt) (i : ℕ) (old : BTreeSet Pt) → HasSeen ps i old → contains point_cmp old (point_at ps i) ≡ false → (j : ℕ) → j < i → point_at ps j ≡ point_at ps i → ⊥
not_twice ps i old h new j l e = false≢true (sym new ∙ ap (contains point_cmp old) (sym e) ∙ h.has j l)

differ_more : (ps : List Pt) (i : ℕ) (old : BTreeSet Pt) → HasSeen ps i old → contains point_cmp old (point_at ps i) ≡ false
    → (j k : ℕ) → (j < i) ⊎ (j ≡ i) → (k < i) ⊎ (k ≡ i) → point_at ps j ≡ point_at ps k → j ≡ k
differ_more ps i old h new j k (inl l) (inl m) e = h.differ j k l m e
differ_more ps i old h new j k (inr l) (inr m) e = l ∙ sym m
differ_more ps i old h new j k (inl l) (inr m) e = absurd (not_twice ps i old h new j l (e ∙ ap (point_at ps) m))
differ_more ps i old h new j k (inr l) (inl m) e = absurd (not_twice ps i old h new k m (sym e ∙ ap (point_at ps) l))

-- one more point that the set lacks
pub has_seen_more : (ps : List Pt) (i : ℕ) (old new : BTreeSet Pt) → HasSeen ps i old → contains point_cmp old (point_at ps i) ≡ false
    → ((q : Pt) → contains point_cmp new q ≡ cond (is_at (point_cmp (point_at ps i)) q) true (contains point_cmp old q)) → HasSeen ps (i + 1) new
has_seen_more ps i old new h fresh u = record {
  has = λ k l. has_more ps i old new h u k (last_or k i l);
  only = λ q t. only_more ps i old q (is_at (point_cmp (point_at ps i)) q) h refl (sym (u q) ∙ t);
  differ = λ j k l m. differ_more ps i old h fresh j k (last_or j i l) (last_or k i m);
}

-- a point that the set has is an earlier one, and the first such
pub first_again : (ps : List Pt) (i : ℕ) (seen : BTreeSet Pt) → HasSeen ps i seen → i < length ps → contains point_cmp seen (point_at ps i) ≡ true → IsLeast (SamePointAt ps) i
first_again ps i seen h l t = let o = h.only (point_at ps i) t in ((l, o), λ k m s. new ps i seen h k m s)
  where
    new : (ps : List Pt) (i : ℕ) (seen : BTreeSet Pt) → HasSeen ps i seen → (k : ℕ) → k < i → SamePointAt ps k → ⊥
    new ps i seen h k m s = let w = s.1 in let e = h.differ w.0 k (let l = w.1 in omega (arith, m)) m w.2 in let l = w.1 in omega (arith, e)

-- and where all are new, there is none
pub none_again : (ps : List Pt) (i : ℕ) (seen : BTreeSet Pt) → HasSeen ps i seen → length ps ≤ i → Never (SamePointAt ps)
none_again ps i seen h l k s = let w = s.1 in let e = h.differ w.0 k (let a = w.1 in let b = s.0 in omega (arith, l)) (let b = s.0 in omega (arith, l)) w.2 in let l = w.1 in omega (arith, e)
