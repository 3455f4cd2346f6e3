-- Given orders of listed pairs are of overlapping faces.
use Rattle.std.proofs.Common.{◌≡◌, ◌⊎◌, inl, inr, ℕ, ◌<◌, sym, arith, List, slice_get, Some}
use Rattle.ff_types.specs.declared.cases.Case.{Case}
use Rattle.ff_types.specs.declared.pins.Pin.{Pin}
use Rattle.ff_types.specs.Cases.{IsCaseOf}
use Rattle.ff_types.specs.Inside.{Overlap}
use Rattle.ff_types.specs.Sheets.{Sheet}
use Rattle.ff_crossings.proofs.PairSets.{Numbered, numbered, there_overlap}
use Rattle.ff_near.specs.Laws.{WishesAreWanted}
use Rattle.ff_near.specs.Wishes.{AreWishes}

same_or : (i j : ℕ) → (i ≡ j) ⊎ ((i < j) ⊎ (j < i))
same_or i j = grind arith

overlaps : (g : Sheet) (case : Case) → IsCaseOf g case → (list : List Pin) → AreWishes case.pairs list → (i : ℕ) (p : Pin) → slice_get list i ≡ Some p → Overlap g p.f p.g
unfolding Numbered
overlaps g case h list are i p e = elim (numbered case.pairs p.f p.g) [
  | inl s ↦ there_overlap g case h p.f p.g s.0 s.2
  | inr s ↦ absurd (are.listed i p e s.0)
]

pub wishes : WishesAreWanted
wishes g case h list are = record {
  overlap = overlaps g case h list are;
  once = λ i j p q e f same. elim (same_or i j) [
    | inl s ↦ s
    | inr d ↦ elim d [
      | inl l ↦ absurd (are.once i j p q l e f same)
      | inr l ↦ absurd (are.once j i q p l f e (sym same))
    ]
  ];
}
