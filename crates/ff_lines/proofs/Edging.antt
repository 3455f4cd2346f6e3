-- The edges of a drawing in a list, one after the other.
use Rattle.std.proofs.Common.{◌≡◌, ◌⊎◌, inl, inr, ℕ, ◌+◌, ◌<◌, ◌≤◌, arith, refl, sym, ap, ◌∙◌, subst, List, [], ◌∷◌, ◌++◌, length, slice_get, get_or, Some}
use Rattle.std.proofs.lemmas.List.{length_push}
use Rattle.std.proofs.lemmas.Option.{slice_get_within, slice_get-get_or, get_or_from_slice_get}
use Rattle.ff_basics.proofs.Lists.{get_before, get_either, get_last}
use Rattle.ff_basics.proofs.Numbers.{last_or}
use Rattle.ff_whole.specs.declared.points.Pt.{Pt}
use Rattle.ff_types.specs.declared.patterns.EdgeEnds.{EdgeEnds}
use Rattle.ff_types.specs.declared.patterns.Mark.{Mark}
use Rattle.ff_types.specs.Patterns.{edge_at}
use Rattle.ff_lines.specs.declared.items.LineItem.{LineItem}
use Rattle.ff_lines.specs.Lines.{ComesBefore}
use Rattle.ff_lines.specs.Drawings.{AreEdges, EdgesRise, HasEdge, IsPieceAt}
use Rattle.ff_lines.specs.Heads.{AreEdgesTo}

none_there : {A : Type 0} (e : ℕ) (a : A) → slice_get [] e ≡ Some a → ⊥
none_there e a h = omega (arith, slice_get_within [] e a h)

pub no_edges : (lines : List LineItem) (points : List Pt) → AreEdgesTo lines points 0 1 [] []
no_edges lines points = record {
  as_many = refl;
  only = λ x y m h. absurd (none_there h.0 _ h.1);
  all = λ x y m before piece. absurd (not_before x y before piece.0);
  rise = λ e k l m. absurd (omega (arith, m));
} where
  not_before : (x y : ℕ) → ComesBefore x y 0 1 → x < y → ⊥
  not_before x y (inl l) o = omega (arith, l)
  not_before x y (inr e) o = let a = e.0 in let b = e.1 in omega (arith, a, b, o)

-- the pair before (a, b + 1) is one before (a, b), or (a, b)
split : (x y a b : ℕ) → ComesBefore x y a (b + 1) → ComesBefore x y a b ⊎ ((x ≡ a) × (y ≡ b))
split x y a b (inl l) = inl (inl l)
split x y a b (inr (e, l)) = elim (last_or y b l) [ inl m ↦ inl (inr (e, m)) | inr f ↦ inr (e, f) ]

wider : (x y a b : ℕ) → ComesBefore x y a b → ComesBefore x y a (b + 1)
wider x y a b (inl l) = inl l
wider x y a b (inr (e, l)) = inr (e, omega (arith, l))

module _ (lines : List LineItem) (points : List Pt) (a b : ℕ) (edges : List EdgeEnds) (marks : List Mark) (h : AreEdgesTo lines points a b edges marks) where
  pub skip_edge : ((m : Mark) → IsPieceAt lines points m a b → ⊥) → AreEdgesTo lines points a (b + 1) edges marks
  skip_edge none = record {
    as_many = h.as_many;
    only = λ x y m e. (let r = h.only x y m e in (wider x y a b r.0, r.1));
    all = λ x y m before piece. elim (split x y a b before) [
      | inl earlier ↦ h.all x y m earlier piece
      | inr this ↦ absurd (none m (subst (λ k. IsPieceAt lines points m k b) this.0 (subst (λ k. IsPieceAt lines points m x k) this.1 piece)))
    ];
    rise = h.rise;
  }

  module _ (mark : Mark) (here : IsPieceAt lines points mark a b) (one : (m : Mark) → IsPieceAt lines points m a b → m ≡ mark) where
    kept : (x y : ℕ) (m : Mark) → HasEdge edges marks m x y → HasEdge (edges ++ record { a = a; b = b } ∷ []) (marks ++ mark ∷ []) m x y
    kept x y m e = (e.0, get_before edges (record { a = a; b = b }) (record { a = x; b = y }) e.0 e.1, get_before marks mark m e.0 e.2)

    last_one : HasEdge (edges ++ record { a = a; b = b } ∷ []) (marks ++ mark ∷ []) mark a b
    last_one = (length edges, get_last edges (record { a = a; b = b }), subst (λ n. slice_get (marks ++ mark ∷ []) n ≡ Some mark) h.as_many (get_last marks mark))

    -- an edge of the longer list
    of_either : (x y : ℕ) (m : Mark) → HasEdge (edges ++ record { a = a; b = b } ∷ []) (marks ++ mark ∷ []) m x y → HasEdge edges marks m x y ⊎ ((x ≡ a) × (y ≡ b) × (m ≡ mark))
    of_either x y m e = elim (get_either edges (record { a = a; b = b }) (record { a = x; b = y }) e.0 e.1) [
      | inl there ↦ elim (get_either marks mark m e.0 e.2) [
        | inl g ↦ inl (e.0, there, g)
        | inr g ↦ absurd (let w = slice_get_within edges e.0 _ there in let n = g.0 in let c = h.as_many in omega (arith, w, n, c))
      ]
      | inr last ↦ elim (get_either marks mark m e.0 e.2) [
        | inl g ↦ absurd (let w = slice_get_within marks e.0 _ g in let n = last.0 in let c = h.as_many in omega (arith, w, n, c))
        | inr g ↦ inr (ap (λ (z : EdgeEnds). z.a) last.1, ap (λ (z : EdgeEnds). z.b) last.1, g.1)
      ]
    ]

    -- each edge so far comes before the new one
    edge_before : (e : ℕ) → e < length edges → ComesBefore (edge_at edges e).a (edge_at edges e).b a b
    edge_before e l =
        let c : e < length marks = (let n = h.as_many in omega (arith, l, n)) in
        (h.only (edge_at edges e).a (edge_at edges e).b (get_or marks e mark) (e, slice_get-get_or edges e (record { a = 0; b = 0 }) l, slice_get-get_or marks e mark c)).0

    at_before : (e : ℕ) → e < length edges → edge_at (edges ++ record { a = a; b = b } ∷ []) e ≡ edge_at edges e
    at_before e l = get_or_from_slice_get (edges ++ record { a = a; b = b } ∷ []) e (edge_at edges e) (record { a = 0; b = 0 }) (get_before edges (record { a = a; b = b }) (edge_at edges e) e (slice_get-get_or edges e (record { a = 0; b = 0 }) l))

    at_last : edge_at (edges ++ record { a = a; b = b } ∷ []) (length edges) ≡ record { a = a; b = b }
    at_last = get_or_from_slice_get (edges ++ record { a = a; b = b } ∷ []) (length edges) (record { a = a; b = b }) (record { a = 0; b = 0 }) (get_last edges (record { a = a; b = b }))

    Less : EdgeEnds → EdgeEnds → Type 0
    Less e k = (e.a < k.a) ⊎ ((e.a ≡ k.a) × (e.b < k.b))

    rises : EdgesRise (edges ++ record { a = a; b = b } ∷ [])
    unfolding Less
    rises e k l m = elim (last_or k (length edges) (let n = length_push edges (record { a = a; b = b }) in omega (arith, m, n))) [
      | inl inside ↦ subst (λ x. Less x (edge_at (edges ++ record { a = a; b = b } ∷ []) k)) (sym (at_before e (omega (arith, l, inside))))
          (subst (Less (edge_at edges e)) (sym (at_before k inside)) (h.rise e k l inside))
      | inr end ↦ (let less : e < length edges = omega (arith, l, end) in
          subst (λ x. Less x (edge_at (edges ++ record { a = a; b = b } ∷ []) k)) (sym (at_before e less))
          (subst (Less (edge_at edges e)) (sym (ap (edge_at (edges ++ record { a = a; b = b } ∷ [])) end ∙ at_last)) (edge_before e less)))
    ]

    pub push_edge : AreEdgesTo lines points a (b + 1) (edges ++ record { a = a; b = b } ∷ []) (marks ++ mark ∷ [])
    push_edge = record {
      as_many = length_push marks mark ∙ ap (λ n. n + 1) h.as_many ∙ sym (length_push edges (record { a = a; b = b }));
      only = λ x y m e. elim (of_either x y m e) [
        | inl old ↦ (let r = h.only x y m old in (wider x y a b r.0, r.1))
        | inr this ↦ (
          inr (this.0, (let t = this.1 in omega (arith, t))),
          subst (λ k. IsPieceAt lines points m k y) (sym this.0) (subst (λ k. IsPieceAt lines points m a k) (sym this.1) (subst (λ n. IsPieceAt lines points n a b) (sym this.2) here)),
        )
      ];
      all = λ x y m before piece. elim (split x y a b before) [
        | inl earlier ↦ kept x y m (h.all x y m earlier piece)
        | inr this ↦ (let e = one m (subst (λ k. IsPieceAt lines points m k b) this.0 (subst (λ k. IsPieceAt lines points m x k) this.1 piece)) in
            subst (λ k. HasEdge (edges ++ record { a = a; b = b } ∷ []) (marks ++ mark ∷ []) m k y) (sym this.0)
            (subst (λ k. HasEdge (edges ++ record { a = a; b = b } ∷ []) (marks ++ mark ∷ []) m a k) (sym this.1)
            (subst (λ n. HasEdge (edges ++ record { a = a; b = b } ∷ []) (marks ++ mark ∷ []) n a b) (sym e) last_one)))
      ];
      rise = rises;
    }

  -- a row is done
  pub row_of_edges : length points ≤ b → AreEdgesTo lines points (a + 1) (a + 1 + 1) edges marks
  row_of_edges end = record {
    as_many = h.as_many;
    only = λ x y m e. (let r = h.only x y m e in (out x y r.0, r.1));
    all = λ x y m before piece. h.all x y m (back x y piece.0 piece.1 before) piece;
    rise = h.rise;
  } where
    out : (x y : ℕ) → ComesBefore x y a b → ComesBefore x y (a + 1) (a + 1 + 1)
    out x y (inl l) = inl (omega (arith, l))
    out x y (inr (e, l)) = inl (omega (arith, e))

    back : (x y : ℕ) → x < y → y < length points → ComesBefore x y (a + 1) (a + 1 + 1) → ComesBefore x y a b
    back x y order inside (inl l) = elim (last_or x a l) [ inl m ↦ inl m | inr e ↦ inr (e, omega (arith, inside, end)) ]
    back x y order inside (inr (e, l)) = absurd (omega (arith, e, l, order))

  -- all are there
  pub all_edges : length points ≤ a → AreEdges lines points edges marks
  all_edges end = record {
    as_many = h.as_many;
    pieces = λ x y m. ((λ piece. h.all x y m (inl (let o = piece.0 in let w = piece.1 in omega (arith, o, w, end))) piece), (λ e. (h.only x y m e).1));
    rise = h.rise;
  }
