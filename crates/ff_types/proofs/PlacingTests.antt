-- The placing order of three faces round a vertex, whose flags can't be: the third crease is the first that breaks their rule.
use Rattle.std.proofs.Common.{◌≡◌, ℕ, zero, suc, ◌<◌, Bool, true, false, List, [], ◌∷◌, refl, sym, ap, subst, Some, None, arith, lit<, slice_get, pos, negsuc}
use Rattle.std.proofs.lemmas.Bool.{false≢true}
use Rattle.ff_types.specs.declared.patterns.EdgeEnds.{EdgeEnds}
use Rattle.ff_types.specs.declared.faces.EdgeSides.{EdgeSides}
use Rattle.ff_types.specs.declared.patterns.Mark.{Mark}
use Rattle.ff_types.specs.declared.patterns.Mark.TheVariants.{B, U}
use Rattle.ff_types.specs.declared.refusals.Refusal.TheVariants.{Parity}
use Rattle.ff_types.specs.Placing.{Meeting, meetings, IsPlacingOrder, Breaks, IsFirstBroken, IsParent}
use Rattle.ff_types.specs.FoldRefusals.{RefusesFolding}
use Rattle.ff_types.specs.Walks.{in_turn}
use Rattle.ff_types.proofs.Named.{point, ends, sides}

abbrev rings : List (List ℕ)
rings = (0 ∷ 1 ∷ 5 ∷ []) ∷ (0 ∷ 5 ∷ 3 ∷ 4 ∷ []) ∷ (1 ∷ 2 ∷ 3 ∷ 5 ∷ []) ∷ []

abbrev edges : List EdgeEnds
edges = ends 0 1 ∷ ends 1 2 ∷ ends 2 3 ∷ ends 3 4 ∷ ends 4 0 ∷ ends 0 5 ∷ ends 1 5 ∷ ends 3 5 ∷ []

abbrev beside : List EdgeSides
beside = sides (Some 0) None ∷ sides (Some 2) None ∷ sides (Some 2) None ∷ sides (Some 1) None ∷ sides (Some 1) None ∷ sides (Some 1) (Some 0) ∷ sides (Some 0) (Some 2) ∷ sides (Some 2) (Some 1) ∷ []

abbrev marks : List Mark
marks = B ∷ B ∷ B ∷ B ∷ B ∷ U ∷ U ∷ U ∷ []

-- over its edges in ring order, face 0 meets face 2 before face 1
placing : IsPlacingOrder rings edges beside (0 ∷ 2 ∷ 1 ∷ [])
placing = refl

not_by_number : IsPlacingOrder rings edges beside (0 ∷ 1 ∷ 2 ∷ []) → ⊥
not_by_number e = absurd (omega (arith, ap second e)) where
  second : List ℕ → ℕ
  second (x ∷ y ∷ rest) = y
  second _ = 0

abbrev meeting : ℕ → ℕ → ℕ → Meeting
meeting f e h = record { face = f; edge = e; across = h }

all : meetings rings edges beside (0 ∷ 2 ∷ 1 ∷ []) ≡ meeting 0 6 2 ∷ meeting 0 5 1 ∷ meeting 2 7 1 ∷ meeting 2 6 0 ∷ meeting 1 5 0 ∷ meeting 1 7 2 ∷ []
all = refl

-- faces 1 and 2 are both down, and the crease between them is folded
abbrev up : List Bool
up = true ∷ false ∷ false ∷ []

same_meeting : (m n : Meeting) → Some m ≡ Some n → m ≡ n
same_meeting m n e = cc

no_meeting : (m : Meeting) → None ≡ Some m → ⊥
no_meeting m e = cc

parity : IsFirstBroken (meetings rings edges beside (0 ∷ 2 ∷ 1 ∷ [])) marks up 7
parity = record { place = 2; meeting = meeting 2 7 1; there = refl; over_edge = refl; broken = λ e. false≢true e; first = first } where
  first : (i : ℕ) (m : Meeting) → i < 2 → slice_get (meetings rings edges beside (0 ∷ 2 ∷ 1 ∷ [])) i ≡ Some m → Breaks marks up m → ⊥
  first zero m h e b = subst (λ k. Breaks marks up k) (sym (same_meeting (meeting 0 6 2) m e)) b refl
  first (suc zero) m h e b = subst (λ k. Breaks marks up k) (sym (same_meeting (meeting 0 5 1) m e)) b refl
  first (suc (suc i)) m h e b = omega (arith, h)

-- counterclockwise from east: north before west, and not west before north
turns : (in_turn (point (pos 1) (pos 0)) (point (pos 0) (pos 1)) (point (negsuc 0) (pos 0)) ≡ true) × (in_turn (point (pos 1) (pos 0)) (point (negsuc 0) (pos 0)) (point (pos 0) (pos 1)) ≡ false)
turns = (refl, refl)

-- so the refusal is parity, at the crease 7
refused : RefusesFolding (point (pos 0) (pos 0) ∷ point (pos 4) (pos 0) ∷ point (pos 4) (pos 4) ∷ point (pos 2) (pos 4) ∷ point (pos 0) (pos 4) ∷ point (pos 2) (pos 2) ∷ []) rings edges beside marks (Parity 7)
refused = (0 ∷ 2 ∷ 1 ∷ [], up, placing, record { first = refl; by_parents = by_parents }, parity) where
  by_parents : (i : ℕ) (m : Meeting) → IsParent (meetings rings edges beside (0 ∷ 2 ∷ 1 ∷ [])) i m → Breaks marks up m → ⊥
  by_parents zero m p b = subst (λ k. Breaks marks up k) (sym (same_meeting (meeting 0 6 2) m p.0)) b refl
  by_parents (suc zero) m p b = subst (λ k. Breaks marks up k) (sym (same_meeting (meeting 0 5 1) m p.0)) b refl
  by_parents (suc (suc zero)) m p b = p.2 1 (meeting 0 5 1) (lit< tt) refl (ap (λ k. k.across) (same_meeting (meeting 2 7 1) m p.0))
  by_parents (suc (suc (suc zero))) m p b = p.1 (sym (ap (λ k. k.across) (same_meeting (meeting 2 6 0) m p.0)))
  by_parents (suc (suc (suc (suc zero)))) m p b = p.1 (sym (ap (λ k. k.across) (same_meeting (meeting 1 5 0) m p.0)))
  by_parents (suc (suc (suc (suc (suc zero))))) m p b = p.2 0 (meeting 0 6 2) (lit< tt) refl (ap (λ k. k.across) (same_meeting (meeting 1 7 2) m p.0))
  by_parents (suc (suc (suc (suc (suc (suc i)))))) m p b = no_meeting m p.0
