-- The refusals of faces by stages: each stage has a reason with two numbers, and the first that holds is the refusal.
use Rattle.std.proofs.Common.{◌≡◌, ◌⊎◌, inl, inr, ℕ, zero, suc, ◌<◌, List, Option, arith, refl, sym, ap, ◌∙◌, subst}
use Rattle.ff_basics.proofs.Numbers.{below_or_last, which}
use Rattle.ff_whole.specs.declared.points.Pt.{Pt}
use Rattle.ff_types.specs.declared.patterns.EdgeEnds.{EdgeEnds}
use Rattle.ff_types.specs.declared.patterns.Mark.{Mark}
use Rattle.ff_types.specs.declared.refusals.Refusal.{Refusal}
use Rattle.ff_types.specs.declared.refusals.Refusal.TheVariants.{SamePoint, Crossing, Loose, Rim, Pinch, Reflex, Enclosed, Apart, TooMany}
use Rattle.ff_types.specs.declared.refusals.What.TheVariants as what
use Rattle.ff_types.specs.Patterns.{IsPattern}
use Rattle.ff_types.specs.FaceRefusals.{SamePointAt, CrossingAt, LooseAt, RimAt, PinchAt, ReflexAt, EnclosedAt, ApartAt, TooManyFaces, IsLeast, Never, NoCrossing, IsDrawn, IsClear, RefusesFaces}
use Rattle.ff_drawn.specs.Graphs.{IsGraph}

-- a pattern's vertices and edges, without its marks
pub graph_of : (points : List Pt) (edges : List EdgeEnds) (marks : Option (List Mark)) → IsPattern points edges marks → IsGraph points edges
graph_of points edges marks p = record {
  few_points = p.few_points;
  few_edges = p.few_edges;
  near = p.near;
  joins = p.joins;
  once = p.once;
  once_back = p.once_back;
  marked = λ ms e. absurd cc;
}

-- the refusal of a stage, with its numbers
abbrev pub refusal : ℕ → ℕ → ℕ → Refusal
refusal zero v k = SamePoint v
refusal (suc zero) e k = Crossing e k
refusal (suc (suc zero)) v k = Loose v
refusal (suc (suc (suc zero))) e k = Rim e
refusal (suc (suc (suc (suc zero)))) v k = Pinch v
refusal (suc (suc (suc (suc (suc zero))))) v k = Reflex v
refusal (suc (suc (suc (suc (suc (suc zero)))))) v k = Enclosed v
refusal (suc (suc (suc (suc (suc (suc (suc zero))))))) f k = Apart f
refusal n limit k = TooMany what.Faces limit

module _ (points : List Pt) (edges : List EdgeEnds) (marks : Option (List Mark)) where
  -- all but crossings have one number, and 0 stands for the other
  abbrev pub Reason : ℕ → ℕ → ℕ → Type 0
  Reason zero v k = SamePointAt points v × (k ≡ 0)
  Reason (suc zero) e k = CrossingAt points edges e k
  Reason (suc (suc zero)) v k = LooseAt points edges v × (k ≡ 0)
  Reason (suc (suc (suc zero))) e k = RimAt points edges marks e × (k ≡ 0)
  Reason (suc (suc (suc (suc zero)))) v k = PinchAt points edges v × (k ≡ 0)
  Reason (suc (suc (suc (suc (suc zero))))) v k = ReflexAt points edges v × (k ≡ 0)
  Reason (suc (suc (suc (suc (suc (suc zero)))))) v k = EnclosedAt points edges v × (k ≡ 0)
  Reason (suc (suc (suc (suc (suc (suc (suc zero))))))) f k = ApartAt points edges f × (k ≡ 0)
  Reason (suc (suc (suc (suc (suc (suc (suc (suc zero)))))))) limit k = TooManyFaces points edges marks what.Faces limit × (k ≡ 0)
  Reason n a b = ⊥

  -- no stage before has a reason
  pub record IsPast (n : ℕ) : Type 0 where
    pub none : (m a b : ℕ) → m < n → Reason m a b → ⊥

  pub past_none : IsPast 0
  past_none = record { none = λ m a b l. absurd (omega (arith, l)) }

  pub past_more : (n : ℕ) → IsPast n → ((a b : ℕ) → Reason n a b → ⊥) → IsPast (suc n)
  past_more n p h = record { none = λ m a b l. elim (below_or_last n m l) [ inl k ↦ p.none m a b k | inr e ↦ subst (λ i. Reason i a b → ⊥) (sym e) (h a b) ] }

  -- the first reason: at the first stage that has one, with the least numbers
  pub record IsFirstReason (n a b : ℕ) : Type 0 where
    pub there : Reason n a b
    pub past : IsPast n
    pub least : (c d : ℕ) → c < a → Reason n c d → ⊥
    pub least_second : (d : ℕ) → d < b → Reason n a d → ⊥

  -- ---- a refusal has the first reason

  module _ (points_same : Never (SamePointAt points)) where
    past_same : IsPast 1
    past_same = past_more 0 past_none (λ v k h. points_same v h.0)

    past_cross : NoCrossing points edges → IsPast 2
    past_cross n = past_more 1 past_same n

  past_drawn : IsDrawn points edges → IsPast 3
  past_drawn d = past_more 2 (past_cross d.none_same d.none_cross) (λ v k h. d.none_loose v h.0)

  past_rim : IsDrawn points edges → Never (RimAt points edges marks) → IsPast 4
  past_rim d n = past_more 3 (past_drawn d) (λ e k h. n e h.0)

  past_pinch : IsDrawn points edges → Never (RimAt points edges marks) → Never (PinchAt points edges) → IsPast 5
  past_pinch d n p = past_more 4 (past_rim d n) (λ v k h. p v h.0)

  past_reflex : IsDrawn points edges → Never (RimAt points edges marks) → Never (PinchAt points edges) → Never (ReflexAt points edges) → IsPast 6
  past_reflex d n p r = past_more 5 (past_pinch d n p) (λ v k h. r v h.0)

  past_enclosed : IsDrawn points edges → Never (RimAt points edges marks) → Never (PinchAt points edges) → Never (ReflexAt points edges) → Never (EnclosedAt points edges) → IsPast 7
  past_enclosed d n p r e = past_more 6 (past_reflex d n p r) (λ v k h. e v h.0)

  past_clear : IsClear points edges marks → IsPast 8
  past_clear c = past_more 7 (past_enclosed c.drawn c.none_rim c.none_pinch c.none_reflex c.none_enclosed) (λ f k h. c.none_apart f h.0)

  abbrev Comes : Refusal → Type 0
  Comes r = (n a b : ℕ) × IsFirstReason n a b × (r ≡ refusal n a b)

  one_number : (n v : ℕ) (P : ℕ → Type 0) → ((a b : ℕ) → Reason n a b → P a × (b ≡ 0)) → (P v → Reason n v 0) → IsPast n → IsLeast P v → IsFirstReason n v 0
  one_number n v P from to past h = record { there = to h.0; past = past; least = λ c d l x. h.1 c l (from c d x).0; least_second = λ d l. absurd (omega (arith, l)) }

  pub comes : (r : Refusal) → RefusesFaces points edges marks r → Comes r
  comes (SamePoint v) h = (0, v, 0, one_number 0 v (SamePointAt points) (λ a b x. x) (λ x. (x, refl)) past_none h, refl)
  comes (Crossing e k) h = let c = h.1 in (1, e, k, record { there = c.crosses; past = past_same h.0; least = λ d l m. c.least_first d l m; least_second = c.least_second }, refl)
  comes (Loose v) h = (2, v, 0, one_number 2 v (LooseAt points edges) (λ a b x. x) (λ x. (x, refl)) (past_cross h.0 h.1) h.2, refl)
  comes (Rim e) h = (3, e, 0, one_number 3 e (RimAt points edges marks) (λ a b x. x) (λ x. (x, refl)) (past_drawn h.0) h.1, refl)
  comes (Pinch v) h = (4, v, 0, one_number 4 v (PinchAt points edges) (λ a b x. x) (λ x. (x, refl)) (past_rim h.0 h.1) h.2, refl)
  comes (Reflex v) h = (5, v, 0, one_number 5 v (ReflexAt points edges) (λ a b x. x) (λ x. (x, refl)) (past_pinch h.0 h.1 h.2) h.3, refl)
  comes (Enclosed v) h = (6, v, 0, one_number 6 v (EnclosedAt points edges) (λ a b x. x) (λ x. (x, refl)) (past_reflex h.0 h.1 h.2 h.3) h.4, refl)
  comes (Apart f) h = (7, f, 0, one_number 7 f (ApartAt points edges) (λ a b x. x) (λ x. (x, refl)) (past_enclosed h.0 h.1 h.2 h.3 h.4) h.5, refl)
  comes (TooMany what.Faces limit) h = (
    8,
    limit,
    0,
    record { there = (h.1, refl); past = past_clear h.0; least = λ c d l x. let same = h.1.0 in let other = x.0.0 in absurd (omega (arith, l, same, other)); least_second = λ d l. absurd (omega (arith, l)) },
    refl,
  )
  comes (TooMany w limit) (c, nothing) = absurd nothing
  comes r nothing = absurd nothing

  -- ---- the first reason is one

  one_first : (n a b m c d : ℕ) → IsFirstReason n a b → IsFirstReason m c d → refusal n a b ≡ refusal m c d
  one_first n a b m c d x y = elim (which n m) [
    | inl l ↦ absurd (y.past.none n a b l x.there)
    | inr (inl l) ↦ absurd (x.past.none m c d l y.there)
    | inr (inr e) ↦ subst (λ i. refusal n a b ≡ refusal i c d) e (at_stage (subst (λ i. IsFirstReason i c d) (sym e) y))
  ]
    where
      with_first : IsFirstReason n a d → refusal n a b ≡ refusal n a d
      with_first z = elim (which b d) [
        | inl l ↦ absurd (z.least_second b l x.there)
        | inr (inl l) ↦ absurd (x.least_second d l z.there)
        | inr (inr e) ↦ ap (refusal n a) e
      ]

      at_stage : IsFirstReason n c d → refusal n a b ≡ refusal n c d
      at_stage z = elim (which a c) [
        | inl l ↦ absurd (z.least a b l x.there)
        | inr (inl l) ↦ absurd (x.least c d l z.there)
        | inr (inr e) ↦ subst (λ i. refusal n a b ≡ refusal n i d) e (with_first (subst (λ i. IsFirstReason n i d) (sym e) z))
      ]

  pub one_refusal : (r s : Refusal) → RefusesFaces points edges marks r → RefusesFaces points edges marks s → r ≡ s
  one_refusal r s h k =
      let x = comes r h in
      let y = comes s k in
      x.4 ∙ one_first x.0 x.1 x.2 y.0 y.1 y.2 x.3 y.3 ∙ sym y.4
