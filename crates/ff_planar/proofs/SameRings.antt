-- Walks that share a directed edge, come to no vertex twice and begin with their least vertex are one list.
use Rattle.std.proofs.Common.{◌≡◌, inl, inr, ℕ, suc, ◌<◌, ◌≤◌, IsTrue, List, [], ◌∷◌, length, slice_index, arith, refl, sym, ap, ◌∙◌}
use Rattle.std.proofs.lemmas.Bool.{false≢true, ltb-true}
use Rattle.ff_basics.proofs.Tests.{both_of, either_of}
use Rattle.ff_types.specs.Rings.{corner, after, Goes}
use Rattle.ff_types.specs.Faces.{list_before}
use Rattle.ff_planar.proofs.CyclicSums.{walk_start}
use Rattle.ff_planar.proofs.SameWalks.{GoAlike, IsOnce, AreAlong, along_walk, same_edges, same_length}

-- lists that have the same items are one
pub same_list : (V W : List ℕ) → length V ≡ length W → ((i : ℕ) → i < length V → slice_index V i ≡ slice_index W i) → V ≡ W
same_list [] [] n h = refl
same_list [] (w ∷ W) n h = absurd (omega (arith, n))
same_list (v ∷ V) [] n h = absurd (omega (arith, n))
same_list (v ∷ V) (w ∷ W) n h = ap (λ x. x ∷ V) (h 0 (omega arith)) ∙ ap (λ xs. w ∷ xs) (same_list V W (omega (arith, n)) (λ i l. h (suc i) (omega (arith, l))))

-- no list comes before itself
pub not_before_itself : (V : List ℕ) → IsTrue (list_before V V) → ⊥
not_before_itself [] h = false≢true h
not_before_itself (v ∷ V) h = elim (either_of _ _ h) [
  | inl e ↦ let l : v < v = ltb-true v v e in omega (arith, l)
  | inr e ↦ not_before_itself V (both_of _ _ e).1
]

pub record BeginsLeast (V : List ℕ) : Type 0 where
  pub least : (i : ℕ) → i < length V → corner V 0 ≤ corner V i
  pub differ : (i j : ℕ) → i < length V → j < length V → corner V i ≡ corner V j → i ≡ j

module _ (V W : List ℕ) (g : GoAlike V W) (h : GoAlike W V) (ov : IsOnce V) (ow : IsOnce W) (lv : BeginsLeast V) (lw : BeginsLeast W) (u v : ℕ) (a : Goes V u v) (b : Goes W u v) where
  both_go : AreAlong V W a.place b.place
  both_go = record { here = a.from ∙ sym b.from; there = a.to ∙ sym b.to }

  some_v : 0 < length V
  some_v = let l = a.inside in omega arith

  some_w : 0 < length W
  some_w = let l = b.inside in omega arith

  to_w : Goes W (corner V 0) (after V 0)
  to_w = same_edges V W g a.place b.place a.inside b.inside both_go (corner V 0) (after V 0) (record { place = 0; inside = some_v; from = refl; to = refl })

  to_v : Goes V (corner W 0) (after W 0)
  to_v = same_edges W V h b.place a.place b.inside a.inside (record { here = sym (both_go.here); there = sym (both_go.there) }) (corner W 0) (after W 0) (record { place = 0; inside = some_w; from = refl; to = refl })

  first_same : corner V 0 ≡ corner W 0
  first_same =
      let x = lv.least to_v.place to_v.inside in
      let y = lw.least to_w.place to_w.inside in
      let e = to_v.from in
      let f = to_w.from in
      omega (arith, x, y, e, f)

  at_first : to_w.place ≡ 0
  at_first = lw.differ to_w.place 0 to_w.inside some_w (to_w.from ∙ first_same)

  along : AreAlong V W 0 0
  along = record { here = first_same; there = sym (sym (ap (after W) at_first) ∙ to_w.to) }

  pub one_list : V ≡ W
  one_list =
      let n = same_length V W g ov ow 0 0 some_v some_w along in
      same_list V W n (λ i l.
      let e = along_walk V W g 0 0 some_v some_w along i in
      sym (ap (corner V) (walk_start (length V) i l)) ∙ e.here ∙ ap (corner W) (walk_start (length W) i (omega (arith, l, n))))
