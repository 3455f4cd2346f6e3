-- The pairs listed from the table are those that stand together in a cell, and overlap.
use Rattle.std.proofs.Common.{◌≡◌, ℕ, ◌+◌, ◌*◌, ◌<◌, ◌≤◌, ◌↔◌, Bool, true, false, ◌&&◌, List, ◌++◌, length, get_or, refl, sym, ◌∙◌, ap, subst, inl, inr, arith, IsTrue, Some, slice_get, nat_lt}
use Rattle.std.specs.List.{All, Contains}
use Rattle.std.specs.List.Sorted.{IsStrictlyIncreasing}
use Rattle.std.proofs.Math.ListN.{take, replicate, get_or-eq_default, length-replicate}
use Rattle.std.proofs.Math.Seq.{take-append_seam}
use Rattle.std.proofs.lemmas.Bool.{ltb-true, ltb-false, false≢true}
use Rattle.std.proofs.lemmas.List.{get_or-replicate}
use Rattle.std.proofs.lemmas.Option.{slice_get-get_or, slice_get_within, get_or_from_slice_get}
use Rattle.ff_basics.proofs.Memberships.{filter_in, in_filter, range_in}
use Rattle.ff_basics.proofs.Tests.{both_of, of_both}
use Rattle.ff_basics.proofs.Lists.{member_some}
use Rattle.ff_whole.specs.declared.places.Place.{Place}
use Rattle.ff_types.specs.Sheets.{Sheet, faces_of, is_face}
use Rattle.ff_types.specs.Inside.{is_inside, over, Overlap}
use Rattle.ff_cells.specs.declared.cell.Cell.{Cell}
use Rattle.ff_cells.specs.FaceSets.{IsFaceList, IsFaceSet, HaveFaceSets}
use Rattle.ff_pairs.specs.Together.{AreTogether, ArePairsOf, IsListed}
use Rattle.ff_pairs.specs.Tables.{Adds, IsInCells, IsListedTo}
use Rattle.ff_pairs.proofs.Follows.{ordered}

-- ---- together in a cell, and in the order of its list

pub in_cells : (cells : List Cell) (f h : ℕ) → All IsFaceList cells → f < h → AreTogether cells f h → IsInCells cells (length cells) f h
in_cells cells f h lists lt t = (k, t.cell, within, at, ordered t.cell.faces f h up lt t.first t.second) where
  k : ℕ
  k = t.there.0

  within : k < length cells
  within = t.there.1

  at : slice_get cells k ≡ Some t.cell
  at = slice_get-get_or cells k t.cell within ∙ ap Some t.there.2

  up : IsStrictlyIncreasing t.cell.faces
  up = subst (λ (c : Cell). IsStrictlyIncreasing c.faces) t.there.2 (lists k t.cell within).rising

pub together_in : (cells : List Cell) (n f h : ℕ) → IsInCells cells n f h → AreTogether cells f h
together_in cells n f h (k, c, l, e, (i, m, (s, (j, o, p, t)))) = record {
  cell = c;
  there = (k, slice_get_within cells k c e, get_or_from_slice_get cells k c c e);
  first = (i, s.0, s.1);
  second = (j, t.0, t.1);
}

-- ---- together in a cell, and over a common place

pub over_has : (g : Sheet) (s : Place) (f : ℕ) → IsTrue (is_inside g f s) → Contains (over g s) f
over_has g s f t = filter_in (λ f. is_inside g f s) (faces_of g) f (range_in 0 (length g.rings) f (omega arith) (let l = ltb-true f (length g.rings) (both_of (is_face g f) _ t).0 in omega (arith, l))) t

pub together_from_overlap : (g : Sheet) (cells : List Cell) → HaveFaceSets g cells → (f h : ℕ) → Overlap g f h → AreTogether cells f h
together_from_overlap g cells have f h o = record { cell = r.0; there = r.1; first = r.2 f in_f; second = r.2 h in_h } where
  s : Place
  s = o.common.at

  in_f : Contains (over g s) f
  in_f = over_has g s f (both_of (is_inside g f s) _ o.common.inside).0

  in_h : Contains (over g s) h
  in_h = over_has g s h (both_of (is_inside g h s) true (both_of (is_inside g f s) _ o.common.inside).1).0

  r : (c : Cell) × Contains cells c × ((f : ℕ) → Contains (over g s) f → Contains c.faces f)
  r = have.together s o.common.place (member_some (over g s) f in_f)

pub overlap_from_together : (g : Sheet) (cells : List Cell) → HaveFaceSets g cells → (f h : ℕ) → f < h → AreTogether cells f h → Overlap g f h
overlap_from_together g cells have f h lt t = record {
  differ = λ e. omega (arith, lt, e);
  common = record { at = s; place = set.place; inside = of_both (is_inside g f s) _ (inside f t.first) (of_both (is_inside g h s) true (inside h t.second) refl) };
} where
  set : IsFaceSet g t.cell.faces
  set = (have.each t.cell t.there).faces

  s : Place
  s = set.at

  inside : (f : ℕ) → Contains t.cell.faces f → IsTrue (is_inside g f s)
  inside f m = (in_filter (λ f. is_inside g f s) (faces_of g) f (subst (λ xs. Contains xs f) set.same m)).1

-- ---- all together

-- a table that was made has no pair yet
pub clear : (table : List Bool) (n : ℕ) → table ≡ replicate n false → (k : ℕ) → IsTrue (get_or table k false) → ⊥
clear table n e k t = by (nat_lt k n) refl where
  read : get_or table k false ≡ get_or (replicate n false) k false
  read = ap (λ xs. get_or xs k false) e

  by : (b : Bool) → nat_lt k n ≡ b → ⊥
  by true l = false≢true (sym (read ∙ get_or-replicate n k false false (ltb-true k n l)) ∙ t)
  by false l = false≢true (sym (read ∙ get_or-eq_default (replicate n false) false {n = k} (far (ltb-false k n l))) ∙ t) where
    far : n ≤ k → length (replicate n false) ≤ k
    far h = let m = length-replicate n false in omega (arith, h, m)

-- what is read of a table that is written whole
pub whole : {A : Type 0} (n : ℕ) (xs ys : List A) → n ≡ length xs → take n (xs ++ ys) ≡ xs
whole n xs ys e = ap (λ k. take k (xs ++ ys)) e ∙ take-append_seam xs ys

pub pairs_from : (cells : List Cell) (w : ℕ) (old new : List Bool) (list : List (ℕ × ℕ)) → All IsFaceList cells
    → All (λ c. All (λ f. f < w) c.faces) cells → ((k : ℕ) → IsTrue (get_or old k false) → ⊥)
    → Adds w old new (IsInCells cells (length cells)) → IsListedTo w new w 0 list → ArePairsOf cells list
pairs_from cells w old new list lists below clear adds s = record {
  sorted = s.sorted;
  pairs_are = are;
  overlap = λ g have f h lt. (
    (λ o. (are f h lt).0 (together_from_overlap g cells have f h o)),
    (λ n. overlap_from_together g cells have f h lt ((are f h lt).1 n)),
  );
} where
  face_below : (c : Cell) (f : ℕ) → Contains cells c → Contains c.faces f → f < w
  face_below c f (k, l, e) (i, m, d) = subst (λ x. x < w) d (subst (λ (z : Cell). All (λ f. f < w) z.faces) e (below k c l) i f m)

  are : (f h : ℕ) → f < h → AreTogether cells f h ↔ IsListed list f h
  are f h lt = (there, back) where
    there : AreTogether cells f h → IsListed list f h
    there t =
        let p = face_below t.cell f t.there t.first in
        let q = face_below t.cell h t.there t.second in
        s.all f h lt (p, q, (adds.adds f h p q).1 (inr (in_cells cells f h lists lt t))) (inl p)

    back : IsListed list f h → AreTogether cells f h
    back n = let m = (s.only n.0 (f, h) n.1).0 in elim ((adds.adds f h m.0 m.1).0 m.2) [
      | inl c ↦ absurd (clear (f * w + h) c)
      | inr c ↦ together_in cells (length cells) f h c
    ]
