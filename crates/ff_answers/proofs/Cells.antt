-- It can't be that no list has one place in each slab cell.
use Rattle.std.proofs.Common.{◌≡◌, ◌⊎◌, inl, inr, List, [], ◌∷◌, length, refl, sym}
use Rattle.ff_whole.specs.declared.places.Place.{Place}
use Rattle.ff_types.specs.declared.patterns.Pattern.{Pattern}
use Rattle.ff_types.specs.declared.faces.Faces.{Faces}
use Rattle.ff_types.specs.declared.faces.Folded.{Folded}
use Rattle.ff_types.specs.FoldedPatterns.{IsFoldedPattern}
use Rattle.ff_types.specs.Sheets.{Sheet, sheet_of}
use Rattle.ff_cells.specs.declared.bars.Bar.{Bar}
use Rattle.ff_cells.specs.SlabCells.{IsInCell, IsBefore, AreInOrder, AreOneEach}
use Rattle.ff_cells.proofs.Drawn.{IsDrawn, drawn}
use Rattle.ff_cells.proofs.BarsThere.{bars_there}
use Rattle.ff_cells.proofs.OneCount.{AreTogether, clash}
use Rattle.ff_answers.proofs.Finite.{AreInRow, IsOrder, in_order}
use Rattle.ff_answers.proofs.Signs.{sides, are_word, all_lines, not_before}
use Rattle.ff_answers.proofs.Ranks.{later}

-- neither comes before the other
abbrev AreOne : Sheet → Place → Place → Type 0
AreOne g s t = (IsBefore g s t → ⊥) × (IsBefore g t s → ⊥)

as_places : (g : Sheet) (places : List Place) → AreInRow (IsBefore g) places → AreInOrder g places
as_places g [] r = tt
as_places g (s ∷ places) r = (r.0, as_places g places r.1)

module _ {g : Sheet} {bars : List Bar} (d : IsDrawn g bars) where
  together : (s t : Place) → IsInCell g s → IsInCell g t → AreOne g s t → AreTogether d s t
  together s t i j o = record {
    beside = record { first = i; second = j; not_left = λ l. o.0 (inl l); not_right = λ l. o.1 (inl l) };
    not_below = λ b. o.0 (inr ((λ l. o.1 (inl l)), b));
    not_above = λ b. o.1 (inr ((λ l. o.0 (inl l)), b));
  }

  compared : (s t : Place) → ((IsBefore g s t ⊎ (IsBefore g t s ⊎ AreOne g s t)) → ⊥) → ⊥
  compared s t k = k (inr (inr ((λ a. k (inl a)), (λ b. k (inr (inl b))))))

  alike : (s t : Place) → IsInCell g s → IsInCell g t → sides (all_lines d) s ≡ sides (all_lines d) t → AreOne g s t
  alike s t i j e = ((λ a. not_before d s t i j e a), (λ b. not_before d t s j i (sym e) b))

  joined : (s t u : Place) → IsInCell g s → IsInCell g t → IsInCell g u → AreOne g s t → AreOne g t u → AreOne g s u
  joined s t u i j k a b = (
    λ x. clash d s u t x (together s t i j a) (together u t k j (b.1, b.0)),
    λ x. clash d u s t x (together u t k j (b.1, b.0)) (together s t i j a),
  )

  order : IsOrder (IsInCell g) (IsBefore g) (AreOne g)
  order = record {
    compare = λ s t i j k. compared s t k;
    later = λ s t u i j k a b n. later d s t u i j k a b n;
    self = λ s i. alike s s i i refl;
    join = joined;
  }

  pub one_each : ((places : List Place) → AreOneEach g places → ⊥) → ⊥
  one_each k = in_order (IsInCell g) (IsBefore g) (AreOne g) order 2 (length (all_lines d)) (sides (all_lines d))
      (λ s i. are_word (all_lines d) s) alike (λ places all row has. k places (record {
        stand = record { each = all; in_order = as_places g places row };
        all = λ s i. let t = has s i in (t.0, t.1, t.2.0, t.2.1);
      }))

pub some_cells : {pattern : Pattern} {faces : Faces} {folded : Folded} → IsFoldedPattern pattern faces folded
    → ((places : List Place) → AreOneEach (sheet_of pattern faces folded) places → ⊥) → ⊥
some_cells h k = let b = bars_there h in one_each (drawn h b.0 b.1) k
