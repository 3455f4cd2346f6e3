-- Halving finds a dart that is there.
use Rattle.std.proofs.Common.{◌≡◌, ◌⊎◌, inl, inr, ℕ, ◌+◌, ◌<◌, IsTrue, List, [], ◌∷◌, ◌++◌, length, arith, sym, ◌∙◌, subst}
use Rattle.std.proofs.lemmas.List.{get_or_append_left, get_or_push}
use Rattle.ff_basics.proofs.Numbers.{last_or}
use Rattle.ff_whole.specs.declared.points.Pt.{Pt}
use Rattle.ff_types.specs.declared.patterns.EdgeEnds.{EdgeEnds}
use Rattle.ff_types.specs.declared.faces.EdgeSides.{EdgeSides}
use Rattle.ff_types.specs.Patterns.{edge_at}
use Rattle.ff_types.specs.Drawings.{joined}
use Rattle.ff_types.specs.Sides.{sides_at}
use Rattle.ff_types.proofs.PlainSheets.{joined_at, joins_itself}
use Rattle.ff_drawn.specs.declared.darts.Dart.{Dart}
use Rattle.ff_planar.specs.declared.traces.Side.{Side}
use Rattle.ff_drawn.specs.Drawn.{IsDrawnBy}
use Rattle.ff_drawn.specs.Darts.{dart_at, ComesBefore, AreDarts, IsStart}
use Rattle.ff_planar.specs.Traces.{side_at, IsSideOf, AreTraced}
use Rattle.ff_planar.specs.Seen.{AreSeen}
use Rattle.ff_drawn.proofs.Starts.{not_before_itself}

-- it stands where the search ends
pub found : (edges : List EdgeEnds) (darts : List Dart) (u v s : ℕ) → AreDarts edges darts → IsTrue (joined edges u v) → IsStart darts (record { tail = u; head = v }) s
    → (s < length darts) × (dart_at darts s ≡ record { tail = u; head = v })
found edges darts u v s a j i =
    let r = a.all u v j in
    by r.0 r.1 r.2 (which r.0 s)
  where
    which : (i j : ℕ) → (i < j) ⊎ ((j < i) ⊎ (i ≡ j))
    which i j = grind arith

    by : (k : ℕ) → k < length darts → dart_at darts k ≡ record { tail = u; head = v } → (k < s) ⊎ ((s < k) ⊎ (k ≡ s)) → (s < length darts) × (dart_at darts s ≡ record { tail = u; head = v })
    by k l e (inl m) = absurd (not_before_itself (record { tail = u; head = v }) (subst (λ (d : Dart). ComesBefore d (record { tail = u; head = v })) e (i.before k m)))
    by k l e (inr (inl m)) = absurd (i.after s (omega arith) (omega (arith, l, m)) (subst (ComesBefore (dart_at darts s)) e (a.sorted.rises s k m l)))
    by k l e (inr (inr m)) = (subst (λ j. j < length darts) m l, subst (λ j. dart_at darts j ≡ record { tail = u; head = v }) m e)

-- so its side is known
pub known_side : (points : List Pt) (edges : List EdgeEnds) (darts : List Dart) (rings : List (List ℕ)) (sides : List Side) (u v s : ℕ) → IsDrawnBy points edges darts → AreTraced points edges darts rings sides
    → IsTrue (joined edges u v) → IsStart darts (record { tail = u; head = v }) s → IsSideOf points edges rings u v (side_at sides s)
known_side points edges darts rings sides u v s dr t j i = let f = found edges darts u v s dr.darts_are j i in
    subst (λ (d : Dart). IsSideOf points edges rings d.tail d.head (side_at sides s)) f.1 (t.sides_are s f.0)

pub along_edge : (edges : List EdgeEnds) (e : ℕ) → e < length edges → IsTrue (joined edges (edge_at edges e).a (edge_at edges e).b)
along_edge edges e l = joined_at edges e _ _ l (joins_itself (edge_at edges e).a (edge_at edges e).b)

pub seen_more : (points : List Pt) (edges : List EdgeEnds) (rings : List (List ℕ)) (seen : List EdgeSides) (e : ℕ) (new : EdgeSides) → length seen ≡ e
    → ((k : ℕ) → k < e → AreSeen points edges rings (edge_at edges k) (sides_at seen k)) → AreSeen points edges rings (edge_at edges e) new
    → (k : ℕ) → k < e + 1 → AreSeen points edges rings (edge_at edges k) (sides_at (seen ++ new ∷ []) k)
seen_more points edges rings seen e new n h s k l = elim (last_or k e l) [
  | inl m ↦ subst (AreSeen points edges rings (edge_at edges k)) (sym (get_or_append_left seen (new ∷ []) _ k (omega (arith, m, n)))) (h k m)
  | inr m ↦ subst (AreSeen points edges rings (edge_at edges k)) (sym (get_or_push seen new _ k (n ∙ sym m))) (subst (λ j. AreSeen points edges rings (edge_at edges j) new) (sym m) s)
]
