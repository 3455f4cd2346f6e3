-- The flags, given along the first meetings one after the other.
use Rattle.std.proofs.Common.{◌≡◌, ◌≢◌, ◌∙◌, ℕ, zero, suc, ◌+◌, ◌<◌, ◌≤◌, List, [], ◌∷◌, length, Bool, true, false, not, cond, arith, refl, sym, ap, subst, slice_get, slice_index_or, slice_set, Some, None}
use Rattle.std.proofs.lemmas.Bool.{false≢true}
use Rattle.std.proofs.lemmas.List.{length-set, get_or-set_same, get_or-set_other, get_or_default}
use Rattle.std.specs.List.{Contains}
use Rattle.ff_basics.proofs.Memberships.{by_member, first_member, later_member, no_member}
use Rattle.ff_types.specs.declared.patterns.Mark.{Mark}
use Rattle.ff_types.specs.declared.patterns.Mark.TheVariants.{B, M, V, F, U}
use Rattle.ff_types.specs.Faces.{mark_at}
use Rattle.ff_types.specs.Foldings.{is_folded, is_up, FitFlags}
use Rattle.ff_types.specs.Placing.{Meeting, has_number, Breaks, AreFlags, IsFirstBroken}
use Rattle.ff_reflect.specs.declared.walk.Meeting.{Meeting as CodeMeeting}
use Rattle.ff_reflect.specs.Trees.{first_meetings, Grows}
use Rattle.ff_reflect.specs.Walked.{meeting_of, met_of}
use Rattle.ff_reflect.specs.Flags.{flag_across, AreTreeFlags}
use Rattle.ff_reflect.proofs.Cases.{by_below}
use Rattle.ff_reflect.proofs.Firsts.{has_from_contains}
use Rattle.ff_reflect.proofs.Carried.{parent_among, other_number}

-- ---- the code's meetings

pub code_at : (ms : List CodeMeeting) (i : ℕ) (m : CodeMeeting) → i < length ms → m ≡ slice_index_or ms i m → slice_get (met_of ms) i ≡ Some (meeting_of m)
code_at [] i m h e = absurd (omega (arith, h))
code_at (x ∷ ms) zero m h e = ap (λ (z : CodeMeeting). Some (meeting_of z)) (sym e)
code_at (x ∷ ms) (suc i) m h e = code_at ms i m (omega (arith, h)) e

pub met_get : (ms : List CodeMeeting) (i : ℕ) (d : CodeMeeting) → i < length ms → slice_get (met_of ms) i ≡ Some (meeting_of (slice_index_or ms i d))
met_get ms i d h = code_at ms i (slice_index_or ms i d) h (get_or_default ms i d (slice_index_or ms i d) h)

-- ---- a tree's meetings are to new faces

-- not to one that stands among the numbers
pub grows_fresh : (seen : List ℕ) (tree : List Meeting) → Grows seen tree → (g : ℕ) → Contains seen g → (i : ℕ) (m : Meeting) → slice_get tree i ≡ Some m → g ≢ m.across
grows_fresh seen [] w g c i m e = absurd (let n : None ≡ Some m = e in cc)
grows_fresh seen (x ∷ tree) w g c zero m e = λ q. let d : x ≡ m = (let n : Some x ≡ Some m = e in cc) in
    false≢true (sym w.1 ∙ ap (λ (z : Meeting). has_number z.across seen) d ∙ ap (λ n. has_number n seen) (sym q) ∙ has_from_contains g seen c)
grows_fresh seen (x ∷ tree) w g c (suc i) m e = grows_fresh (x.across ∷ seen) tree w.2 g (later_member x.across seen g c) i m e

-- and not to one of an earlier meeting
pub grows_apart : (seen : List ℕ) (tree : List Meeting) → Grows seen tree → (j i : ℕ) (k m : Meeting) → j < i → slice_get tree j ≡ Some k → slice_get tree i ≡ Some m
    → (k.face ≢ m.across) × (k.across ≢ m.across)
grows_apart seen [] w j i k m l e f = absurd (let n : None ≡ Some k = e in cc)
grows_apart seen (x ∷ tree) w j zero k m l e f = absurd (omega (arith, l))
grows_apart seen (x ∷ tree) w zero (suc i) k m l e f =
    let d : x ≡ k = (let n : Some x ≡ Some k = e in cc) in (
      grows_fresh (x.across ∷ seen) tree w.2 k.face (later_member x.across seen k.face (subst (λ (z : Meeting). Contains seen z.face) d w.0)) i m f,
      grows_fresh (x.across ∷ seen) tree w.2 k.across (first_member x.across seen k.across (ap (λ (z : Meeting). z.across) d)) i m f,
    )
grows_apart seen (x ∷ tree) w (suc j) (suc i) k m l e f = grows_apart (x.across ∷ seen) tree w.2 j i k m (omega (arith, l)) e f

-- nor to its own face
pub grows_itself : (seen : List ℕ) (tree : List Meeting) → Grows seen tree → (i : ℕ) (m : Meeting) → slice_get tree i ≡ Some m → m.face ≢ m.across
grows_itself seen [] w i m e = absurd (let n : None ≡ Some m = e in cc)
grows_itself seen (x ∷ tree) w zero m e = λ q. let d : x ≡ m = (let n : Some x ≡ Some m = e in cc) in
    false≢true (sym w.1 ∙ ap (λ (z : Meeting). has_number z.across seen) d ∙ ap (λ n. has_number n seen) (sym q) ∙ has_from_contains m.face seen (subst (λ (z : Meeting). Contains seen z.face) d w.0))
grows_itself seen (x ∷ tree) w (suc i) m e = grows_itself (x.across ∷ seen) tree w.2 i m e

-- ---- the flags so far

pub record AreTurned (faces : ℕ) (marks : List Mark) (tree : List Meeting) (up : List Bool) (n : ℕ) : Type 0 where
  pub as_many : length up ≡ faces
  pub first : is_up up 0 ≡ true
  pub so_far : (j : ℕ) (m : Meeting) → j < n → slice_get tree j ≡ Some m → is_up up m.across ≡ flag_across marks up m

pub turned_more : (faces : ℕ) (marks : List Mark) (tree : List Meeting) (up new : List Bool) (n : ℕ) (m : Meeting) → Grows (0 ∷ []) tree → AreTurned faces marks tree up n
    → slice_get tree n ≡ Some m → m.across < faces → new ≡ slice_set up m.across (flag_across marks up m) → AreTurned faces marks tree new (n + 1)
turned_more faces marks tree up new n m w t e l is = record {
  as_many = ap length is ∙ length-set up m.across (flag_across marks up m) ∙ t.as_many;
  first = other 0 (grows_fresh (0 ∷ []) tree w 0 (first_member 0 [] 0 refl) n m e) ∙ t.first;
  so_far = so_far;
}
  where
    other : (g : ℕ) → g ≢ m.across → is_up new g ≡ is_up up g
    other g d = ap (λ xs. is_up xs g) is ∙ get_or-set_other up m.across g (flag_across marks up m) true d

    flag_same : (k : Meeting) → k.face ≢ m.across → flag_across marks up k ≡ flag_across marks new k
    flag_same k d = ap (λ b. cond (is_folded (mark_at marks k.edge)) (not b) b) (sym (other k.face d))

    so_far : (j : ℕ) (k : Meeting) → j < n + 1 → slice_get tree j ≡ Some k → is_up new k.across ≡ flag_across marks new k
    so_far j k h d = by_below j n
        (λ f. let a = grows_apart (0 ∷ []) tree w j n k m f d e in other k.across a.1 ∙ t.so_far j k f d ∙ flag_same k a.0)
        (λ f. let same : k ≡ m = (let q : Some k ≡ Some m = sym d ∙ ap (slice_get tree) (let i : j ≡ n = omega (arith, h, f) in i) ∙ e in cc) in
        subst (λ z. is_up new z.across ≡ flag_across marks new z) (sym same)
        (ap (λ xs. is_up xs m.across) is ∙ get_or-set_same up m.across (flag_across marks up m) true (let q = t.as_many in omega (arith, q, l)) ∙ flag_same m (grows_itself (0 ∷ []) tree w n m e)))

pub turned_all : (faces : ℕ) (marks : List Mark) (tree : List Meeting) (up : List Bool) (n : ℕ) → AreTurned faces marks tree up n → length tree ≤ n → AreTreeFlags faces marks tree up
turned_all faces marks tree up n t l = record { as_many = t.as_many; first = t.first; by_tree = λ m c. by_tree m c } where
  at : (xs : List Meeting) (m : Meeting) → Contains xs m → (i : ℕ) × (i < length xs) × (slice_get xs i ≡ Some m)
  at [] m c = absurd (no_member m c)
  at (x ∷ xs) m c = by_member x xs m (λ e. (0, omega arith, ap Some e)) (λ k. let r = at xs m k in let h = r.1 in (suc r.0, omega (arith, h), r.2)) c

  by_tree : (m : Meeting) → Contains tree m → is_up up m.across ≡ flag_across marks up m
  by_tree m c = let r = at tree m c in let h = r.1 in t.so_far r.0 m (omega (arith, h, l)) r.2

-- ---- what the flags of the tree say

fits_flag : (mark : Mark) (a b : Bool) → b ≡ cond (is_folded mark) (not a) a → FitFlags mark a b
fits_flag B a b e = tt
fits_flag F a b e = sym e
fits_flag M a b e = sym (ap not e ∙ twice a) where
  twice : (a : Bool) → not (not a) ≡ a
  twice true = refl
  twice false = refl
fits_flag V a b e = sym (ap not e ∙ twice a) where
  twice : (a : Bool) → not (not a) ≡ a
  twice true = refl
  twice false = refl
fits_flag U a b e = sym (ap not e ∙ twice a) where
  twice : (a : Bool) → not (not a) ≡ a
  twice true = refl
  twice false = refl

pub tree_flags : (faces : ℕ) (marks : List Mark) (all tree : List Meeting) (up : List Bool) → tree ≡ first_meetings (0 ∷ []) all → AreTreeFlags faces marks tree up → AreFlags all marks up
tree_flags faces marks all tree up e t = record {
  first = t.first;
  by_parents = λ i m p b. b (fits_flag (mark_at marks m.edge) (is_up up m.face) (is_up up m.across)
      (t.by_tree m (subst (λ ms. Contains ms m) (sym e) (parent_among (0 ∷ []) all i m p.0 (ap (λ b. cond b true false) (other_number m.across 0 p.1)) p.2))));
}

pub broken_at : (all : List Meeting) (marks : List Mark) (up : List Bool) (i : ℕ) (m : Meeting) → slice_get all i ≡ Some m → Breaks marks up m
    → ((j : ℕ) (k : Meeting) → j < i → slice_get all j ≡ Some k → Breaks marks up k → ⊥) → IsFirstBroken all marks up m.edge
broken_at all marks up i m e b first = record { place = i; meeting = m; there = e; over_edge = refl; broken = b; first = first }
