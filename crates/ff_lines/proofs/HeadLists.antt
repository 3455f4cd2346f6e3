-- The letters noted for the points after one, line by line.
use Rattle.std.proofs.Common.{◌≡◌, ◌≢◌, ◌⊎◌, inl, inr, ℕ, ◌+◌, ◌<◌, arith, refl, sym, ap, ◌∙◌, subst, List, length, length-set, slice_get, set, replicate, get_or-set_same, get_or-set_other, Option, Some, None}
use Rattle.std.proofs.Math.ListN.{length-replicate}
use Rattle.std.proofs.lemmas.List.{get_or-replicate}
use Rattle.ff_basics.proofs.Numbers.{last_or, less_or}
use Rattle.ff_basics.proofs.Options.{none_some, same_value, some_same}
use Rattle.ff_whole.specs.declared.points.Pt.{Pt}
use Rattle.ff_types.specs.declared.patterns.Mark.{Mark}
use Rattle.ff_lines.specs.declared.items.LineItem.{LineItem}
use Rattle.ff_lines.specs.Lines.{IsProper, NoneStops}
use Rattle.ff_lines.specs.Drawings.{AreVertices}
use Rattle.ff_lines.specs.Heads.{AreHeads, IsHead, IsHeadAt, IsLast, IsNext, IsOnAt, AreMoreHeads, head_at}
use Rattle.ff_lines.proofs.Ordered.{head_of_piece, one_letter, piece_of_head}

pub no_heads : (lines : List LineItem) (points : List Pt) (a : ℕ) → AreHeads lines 0 points a (replicate (length points) None)
no_heads lines points a = record {
  as_many = length-replicate (length points) None;
  only = λ b mark l e. absurd (none_some mark (sym (get_or-replicate (length points) b None None (let n = length-replicate {A = Option Mark} (length points) None in omega (arith, l, n))) ∙ e));
  all = λ b mark h. absurd (let w = h.within in omega (arith, w));
}

wider : (lines : List LineItem) (points : List Pt) (i a b : ℕ) (mark : Mark) → IsHead lines i points a b mark → IsHead lines (i + 1) points a b mark
wider lines points i a b mark h = record {
  number = h.number;
  line = h.line;
  within = (let w = h.within in omega (arith, w));
  there = h.there;
  letter = h.letter;
  next = h.next;
}

-- a line has one next point at most
one_next : (l : LineItem) (points : List Pt) (a b c : ℕ) → IsNext l points a b → IsNext l points a c → b ≡ c
one_next l points a b c g h = elim (less_or b c) [
  | inl less ↦ absurd (h.none b g.order less g.b_on)
  | inr k ↦ elim k [ inl e ↦ e | inr more ↦ absurd (g.none c h.order more h.b_on) ]
]

module _ (lines : List LineItem) (points : List Pt) (i a : ℕ) (l : LineItem) (there : slice_get lines i ≡ Some l) (heads : List (Option Mark)) (h : AreHeads lines i points a heads) where
  -- a head of one line more
  parted : (b : ℕ) (mark : Mark) → IsHead lines (i + 1) points a b mark → IsHead lines i points a b mark ⊎ IsNext l points a b
  parted b mark k = elim (last_or k.number i k.within) [
    | inl less ↦ inl (record { number = k.number; line = k.line; within = less; there = k.there; letter = k.letter; next = k.next })
    | inr e ↦ inr (subst (λ m. IsNext m points a b) (same_value k.there (subst (λ n. slice_get lines n ≡ Some l) (sym e) there)) k.next)
  ]

  pub skip_head : ((b : ℕ) → IsNext l points a b → ⊥) → AreHeads lines (i + 1) points a heads
  skip_head none = record {
    as_many = h.as_many;
    only = λ b mark inside e. wider lines points i a b mark (h.only b mark inside e);
    all = λ b mark k. elim (parted b mark k) [ inl old ↦ h.all b mark old | inr next ↦ absurd (none b next) ];
  }

  pub off_head : (IsOnAt l points a → ⊥) → AreHeads lines (i + 1) points a heads
  off_head off = skip_head (λ b next. off next.a_on)

  pub last_head : IsLast l points a → AreHeads lines (i + 1) points a heads
  last_head last = skip_head (λ b next. last b next.order next.within next.b_on)

  module _ (b : ℕ) (next : IsNext l points a b) where
    inside : b < length heads
    inside = let w = next.within in let n = h.as_many in omega (arith, w, n)

    here : head_at (set heads b (Some l.mark)) b ≡ Some l.mark
    here = get_or-set_same heads b (Some l.mark) None inside

    mine : IsHead lines (i + 1) points a b l.mark
    mine = record { number = i; line = l; within = omega arith; there = there; letter = refl; next = next }

    only_at : (c : ℕ) (mark : Mark) → c < length (set heads b (Some l.mark)) → head_at (set heads b (Some l.mark)) c ≡ Some mark → IsHead lines (i + 1) points a c mark
    only_at c mark w e = elim (less_or c b) [
      | inl less ↦ other c mark w e (λ s. omega (arith, less, s))
      | inr k ↦ elim k [
        | inl s ↦ subst (λ d. IsHead lines (i + 1) points a d mark) (sym s) (subst (IsHead lines (i + 1) points a b) (some_same (sym here ∙ ap (head_at (set heads b (Some l.mark))) (sym s) ∙ e)) mine)
        | inr more ↦ other c mark w e (λ s. omega (arith, more, s))
      ]
    ] where
      other : (c : ℕ) (mark : Mark) → c < length (set heads b (Some l.mark)) → head_at (set heads b (Some l.mark)) c ≡ Some mark → c ≢ b → IsHead lines (i + 1) points a c mark
      other c mark w e d = wider lines points i a c mark (h.only c mark (let n = length-set heads b (Some l.mark) in omega (arith, w, n)) (sym (get_or-set_other heads b c (Some l.mark) None d) ∙ e))

    all_at : (c : ℕ) (mark : Mark) → IsHead lines (i + 1) points a c mark → (m : Mark) × (head_at (set heads b (Some l.mark)) c ≡ Some m)
    all_at c mark k = elim (less_or c b) [
      | inl less ↦ other (λ s. omega (arith, less, s)) (parted c mark k)
      | inr j ↦ elim j [
        | inl s ↦ (l.mark, ap (head_at (set heads b (Some l.mark))) s ∙ here)
        | inr more ↦ other (λ s. omega (arith, more, s)) (parted c mark k)
      ]
    ] where
      other : c ≢ b → IsHead lines i points a c mark ⊎ IsNext l points a c → (m : Mark) × (head_at (set heads b (Some l.mark)) c ≡ Some m)
      other d (inl old) = let r = h.all c mark old in (r.0, get_or-set_other heads b c (Some l.mark) None d ∙ r.1)
      other d (inr n) = absurd (d (one_next l points a c b n next))

    pub put_head : AreHeads lines (i + 1) points a (set heads b (Some l.mark))
    put_head = record { as_many = length-set heads b (Some l.mark) ∙ h.as_many; only = only_at; all = all_at }

-- with its line's letter noted, where it goes on
pub more_heads : (lines : List LineItem) (points : List Pt) (i a : ℕ) (l : LineItem) → slice_get lines i ≡ Some l → (heads new : List (Option Mark)) → AreHeads lines i points a heads
    → AreMoreHeads l points a heads new → AreHeads lines (i + 1) points a new
more_heads lines points i a l there heads new h (inl (last, e)) = subst (AreHeads lines (i + 1) points a) (sym e) (last_head lines points i a l there heads h last)
more_heads lines points i a l there heads new h (inr (b, next, e)) = subst (AreHeads lines (i + 1) points a) (sym e) (put_head lines points i a l there heads h b next)

-- what is noted in the end is whether there is an edge
pub head_is : (lines : List LineItem) → ((i : ℕ) (l : LineItem) → slice_get lines i ≡ Some l → IsProper l) → NoneStops lines → (points : List Pt) → AreVertices lines points
    → (a b : ℕ) (heads : List (Option Mark)) → AreHeads lines (length lines) points a heads → b < length points → (o : Option Mark) → head_at heads b ≡ o → IsHeadAt lines points a b o
head_is lines proper stops points vertices a b heads h inside None e = λ mark piece.
    let r = h.all b mark (head_of_piece lines proper points vertices a b mark piece) in none_some r.0 (sym e ∙ r.1)
head_is lines proper stops points vertices a b heads h inside (Some mark) e =
    let piece = piece_of_head lines proper points vertices (length lines) a b mark (h.only b mark (let n = h.as_many in omega (arith, n, inside)) e) in
    (piece, λ m other. one_letter lines proper points vertices stops a b m mark other piece)
