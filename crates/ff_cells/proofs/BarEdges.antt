-- A bar and an edge with the same ends: the same places are on them, below them and above them.
use Rattle.std.proofs.Common.{ℕ, ◌≡◌, ◌≢◌, ◌⊎◌, inl, inr, [], ◌∷◌, arith, refl, sym, ap, subst, ◌∙◌, ℤ, pos, ◌-ℤ◌, ◌*ℤ◌, ◌+ℤ◌, ◌<ℤ◌, ◌≤ℤ◌, Bool, ◌&&◌, IsTrue}
use Rattle.std.specs.Prelude.{int_le}
use lib.IntN.{neg_ℤ, *ℤ-zero}
use Rattle.std.specs.Ordering.{int_eq}
use Rattle.std.proofs.lemmas.Int.{ints}
use Rattle.std.proofs.lemmas.Bool.Decides.{Decides-int_eq}
use Rattle.ff_basics.proofs.Tests.{both_of}
use Rattle.ff_whole.proofs.Formulas.{point_e, point_env, place_e, place_env, line_e, line_env, through_e, height_e, past_e, slant_e, dot_e, minus_e}
use Rattle.ff_whole.proofs.Ring.{var, num, ◌⊕◌, ◌⊖◌, ◌⊗◌, opp, solve}
use Rattle.ff_whole.proofs.Signs.{linear, pos-mul, nonneg-mul, nonneg_from_mul, pos_from_mul, neg_from_mul, zero-mul, square_pos, square_nonneg, zero_product}
use Rattle.ff_whole.proofs.Turns.{height-back}
use Rattle.ff_whole.proofs.OnEdges.{IsOn}
use Rattle.ff_whole.specs.Points.{dot, minus}
use Rattle.ff_whole.specs.Places.{through, height, past, slant}
use Rattle.ff_whole.specs.declared.points.Pt.{Pt}
use Rattle.ff_whole.specs.declared.lines.Line.{Line}
use Rattle.ff_whole.specs.declared.places.Place.{Place}
use Rattle.ff_whole.specs.Meeting.{rise}
use Rattle.ff_types.specs.Sheets.{Sheet, tail, head, line_of}
use Rattle.ff_types.specs.Borders.{is_on}
use Rattle.ff_cells.specs.declared.bars.Bar.{Bar}
use Rattle.ff_cells.specs.Gap.{run, spot}
use Rattle.ff_cells.specs.SlabCells.{PassesBelow, PassesAbove}

-- ---- a place on a way that goes to the right

-- the place is on the line, and between the ends in x or at one
pub record IsAlong (p q : Pt) (s : Place) : Type 0 where
  pub on : height (through p q) s ≡ pos 0
  pub after : pos 0 ≤ℤ run (spot p) s
  pub before : pos 0 ≤ℤ run s (spot q)

past-run : (p q : Pt) (s : Place) → (q.x -ℤ p.x) *ℤ past p q s ≡ dot (minus q p) (minus q p) *ℤ run
    (spot p) s +ℤ height (through p q) s *ℤ (q.y -ℤ p.y)
past-run p q s =
    let p' = point_e 0 in let q' = point_e 2 in let s' = place_e 4 in
    solve (point_env p (point_env q (place_env s []))) ((q'.x ⊖ p'.x) ⊗ past_e p' q' s')
    (dot_e (minus_e q' p') (minus_e q' p') ⊗ (s'.x ⊗ num (pos 1) ⊖ p'.x ⊗ s'.w) ⊕ height_e
    (through_e p' q') s' ⊗ (q'.y ⊖ p'.y)) refl

past-run_back : (p q : Pt) (s : Place) → (q.x -ℤ p.x) *ℤ past q p s ≡ dot (minus q p) (minus q p) *ℤ run s
    (spot q) -ℤ height (through p q) s *ℤ (q.y -ℤ p.y)
past-run_back p q s =
    let p' = point_e 0 in let q' = point_e 2 in let s' = place_e 4 in
    solve (point_env p (point_env q (place_env s []))) ((q'.x ⊖ p'.x) ⊗ past_e q' p' s')
    (dot_e (minus_e q' p') (minus_e q' p') ⊗ (q'.x ⊗ s'.w ⊖ s'.x ⊗ num (pos 1)) ⊖ height_e
    (through_e p' q') s' ⊗ (q'.y ⊖ p'.y)) refl

long : (p q : Pt) → p.x <ℤ q.x → pos 0 <ℤ dot (minus q p) (minus q p)
long p q h = let a = square_pos (q.x -ℤ p.x) (λ z. omega (arith, linear)) in
    let b = square_nonneg (q.y -ℤ p.y) in omega (arith, linear)

along_of_on : (p q : Pt) (s : Place) → p.x <ℤ q.x → IsOn p q s → IsAlong p q s
along_of_on p q s h o =
    let w : pos 0 <ℤ (q.x -ℤ p.x) = omega (arith, linear) in
    let z = zero-mul (height (through p q) s) (q.y -ℤ p.y) o.on in
    let a = past-run p q s in
    let b = past-run_back p q s in
    let c = nonneg-mul (q.x -ℤ p.x) (past p q s) (omega (arith, linear)) o.after in
    let d = nonneg-mul (q.x -ℤ p.x) (past q p s) (omega (arith, linear)) o.before in
    record {
      on = o.on;
      after = nonneg_from_mul (dot (minus q p) (minus q p)) (run (spot p) s) (long p q h)
          (omega (arith, linear));
      before = nonneg_from_mul (dot (minus q p) (minus q p)) (run s (spot q)) (long p q h)
          (omega (arith, linear));
    }

on_of_along : (p q : Pt) (s : Place) → p.x <ℤ q.x → IsAlong p q s → IsOn p q s
on_of_along p q s h o =
    let w : pos 0 <ℤ (q.x -ℤ p.x) = omega (arith, linear) in
    let z = zero-mul (height (through p q) s) (q.y -ℤ p.y) o.on in
    let a = past-run p q s in
    let b = past-run_back p q s in
    let l = long p q h in
    let c = nonneg-mul (dot (minus q p) (minus q p)) (run (spot p) s) (omega (arith, linear)) o.after in
    let d = nonneg-mul (dot (minus q p) (minus q p)) (run s (spot q)) (omega (arith, linear)) o.before in
    record {
      on = o.on;
      after = nonneg_from_mul (q.x -ℤ p.x) (past p q s) w (omega (arith, linear));
      before = nonneg_from_mul (q.x -ℤ p.x) (past q p s) w (omega (arith, linear));
    }

on_back : (p q : Pt) (s : Place) → IsOn p q s → IsOn q p s
on_back p q s o = let e = height-back p q s in let a = o.on in
    record { on = omega (arith, linear); after = o.before; before = o.after }

-- ---- the tests

from_le : (a b : ℤ) → IsTrue (int_le a b) → a ≤ℤ b
from_le a b t = omega (arith, ints, t)

to_le : (a b : ℤ) → a ≤ℤ b → IsTrue (int_le a b)
to_le a b h = grind (arith, ints, h)

pub from_on : (g : Sheet) (e : ℕ) (s : Place) → IsTrue (is_on g e s) → IsOn (tail g e) (head g e) s
from_on g e s t =
    let a = both_of _ (int_le (pos 0) (past (head g e) (tail g e) s)) t in
    let b = both_of (int_eq (height (line_of g e) s) (pos 0)) (int_le (pos 0) (past (tail g e) (head g e) s)) a.0
    in
    record {
      on = (Decides-int_eq (height (line_of g e) s) (pos 0)).0 b.0;
      after = from_le (pos 0) _ b.1;
      before = from_le (pos 0) _ a.1;
    }

pub to_on : (g : Sheet) (e : ℕ) (s : Place) → IsOn (tail g e) (head g e) s → IsTrue (is_on g e s)
to_on g e s o = all_three _ _ _ ((Decides-int_eq (height (line_of g e) s) (pos 0)).1 o.on)
    (to_le (pos 0) _ o.after) (to_le (pos 0) _ o.before)
  where
    all_three : (a b c : Bool) → IsTrue a → IsTrue b → IsTrue c → IsTrue (a && b && c)
    all_three a b c x y z = rw (x, y, z) refl

-- ---- the bar has the ends of the edge

abbrev pub AreEnds : Sheet → ℕ → Bar → Type 0
AreEnds g e b = ((b.lo ≡ tail g e) × (b.hi ≡ head g e)) ⊎ ((b.lo ≡ head g e) × (b.hi ≡ tail g e))

-- the place is on the bar, its ends counted
abbrev pub IsOnBar : Bar → Place → Type 0
IsOnBar b s = IsAlong b.lo b.hi s

-- the bar goes over or under the place, or ends there
pub record Reaches (b : Bar) (s : Place) : Type 0 where
  pub after : pos 0 ≤ℤ run (spot b.lo) s
  pub before : pos 0 ≤ℤ run s (spot b.hi)

module _ (g : Sheet) (e : ℕ) (b : Bar) (ends : AreEnds g e b) where
  pub on_bar : (s : Place) → IsTrue (is_on g e s) → IsOnBar b s
  on_bar s t = by ends (from_on g e s t)
    where
      by : AreEnds g e b → IsOn (tail g e) (head g e) s → IsOnBar b s
      by (inl (l, h)) o = along_of_on b.lo b.hi s b.ok.goes (subst (λ p. IsOn p b.hi s) (sym l)
          (subst (λ q. IsOn (tail g e) q s) (sym h) o))
      by (inr (l, h)) o = along_of_on b.lo b.hi s b.ok.goes (subst (λ p. IsOn p b.hi s) (sym l)
          (subst (λ q. IsOn (head g e) q s) (sym h) (on_back (tail g e) (head g e) s o)))

  pub on_edge : (s : Place) → IsOnBar b s → IsTrue (is_on g e s)
  on_edge s a = by ends (on_of_along b.lo b.hi s b.ok.goes a)
    where
      by : AreEnds g e b → IsOn b.lo b.hi s → IsTrue (is_on g e s)
      by (inl (l, h)) o = to_on g e s (subst (λ p. IsOn p (head g e) s) l (subst (λ q. IsOn b.lo q s) h o))
      by (inr (l, h)) o = to_on g e s (on_back (head g e) (tail g e) s
          (subst (λ p. IsOn p (tail g e) s) l (subst (λ q. IsOn b.lo q s) h o)))

-- ---- below and above

-- the place of the line at the x of another
abbrev pub level : Line → Place → Place
level l s = record { x = s.x *ℤ l.b; y = rise l s; w = s.w *ℤ l.b }

on_level : (l : Line) (s : Place) → height l (level l s) ≡ pos 0
on_level l s = solve (l.a ∷ l.b ∷ l.c ∷ s.x ∷ s.w ∷ []) (var 0 ⊗ (var 3 ⊗ var 1) ⊕ var 1 ⊗
    (var 2 ⊗ var 4 ⊖ var 0 ⊗ var 3) ⊖ var 2 ⊗ (var 4 ⊗ var 1)) (num (pos 0)) refl

at_level : (l : Line) (s : Place) → run s (level l s) ≡ pos 0
at_level l s = solve (l.b ∷ s.x ∷ s.w ∷ []) ((var 1 ⊗ var 0) ⊗ var 2 ⊖ var 1 ⊗ (var 2 ⊗ var 0))
    (num (pos 0)) refl

level_lower : (l : Line) (s : Place) → s.y *ℤ (s.w *ℤ l.b) -ℤ rise l s *ℤ s.w ≡ s.w *ℤ height l s
level_lower l s = solve (l.a ∷ l.b ∷ l.c ∷ s.x ∷ s.y ∷ s.w ∷ [])
    (var 4 ⊗ (var 5 ⊗ var 1) ⊖ (var 2 ⊗ var 5 ⊖ var 0 ⊗ var 3) ⊗ var 5)
    (var 5 ⊗ ((var 0 ⊗ var 3 ⊕ var 1 ⊗ var 4) ⊖ var 2 ⊗ var 5)) refl

level-after : (l : Line) (p s : Place) → run p (level l s) ≡ l.b *ℤ run p s
level-after l p s = solve (l.b ∷ p.x ∷ p.w ∷ s.x ∷ s.w ∷ [])
    ((var 3 ⊗ var 0) ⊗ var 2 ⊖ var 1 ⊗ (var 4 ⊗ var 0)) (var 0 ⊗ (var 3 ⊗ var 2 ⊖ var 1 ⊗ var 4)) refl

level-before : (l : Line) (p s : Place) → run (level l s) p ≡ l.b *ℤ run s p
level-before l p s = solve (l.b ∷ p.x ∷ p.w ∷ s.x ∷ s.w ∷ [])
    (var 1 ⊗ (var 4 ⊗ var 0) ⊖ (var 3 ⊗ var 0) ⊗ var 2) (var 0 ⊗ (var 1 ⊗ var 4 ⊖ var 3 ⊗ var 2)) refl

-- heights of two places with one x
heights-apart : (l : Line) (s t : Place) → t.w *ℤ height l s -ℤ s.w *ℤ height l t ≡ l.b *ℤ
    (s.y *ℤ t.w -ℤ t.y *ℤ s.w) -ℤ l.a *ℤ run s t
heights-apart l s t =
    let l' = line_e 0 in let s' = place_e 3 in let t' = place_e 6 in
    solve (line_env l (place_env s (place_env t []))) (t'.w ⊗ height_e l' s' ⊖ s'.w ⊗ height_e l' t')
    (l'.b ⊗ (s'.y ⊗ t'.w ⊖ t'.y ⊗ s'.w) ⊖ l'.a ⊗ (t'.x ⊗ s'.w ⊖ s'.x ⊗ t'.w)) refl

module _ (b : Bar) (s : Place) (positive : pos 0 <ℤ s.w) (near : Reaches b s) where
  level_place : pos 0 <ℤ (level b.line s).w
  level_place = pos-mul s.w b.line.b positive b.ok.rising.rises

  level_on : IsOnBar b (level b.line s)
  level_on =
      let r = b.ok.rising.rises in
      let a = level-after b.line (spot b.lo) s in
      let c = level-before b.line (spot b.hi) s in
      let m = nonneg-mul b.line.b (run (spot b.lo) s) (omega (arith, linear)) near.after in
      let k = nonneg-mul b.line.b (run s (spot b.hi)) (omega (arith, linear)) near.before in
      record {
        on = subst (λ (k' : Line). height k' (level b.line s) ≡ pos 0) b.ok.through
            (on_level b.line s);
        after = omega (arith, linear);
        before = omega (arith, linear);
      }

  pub passes_below : (g : Sheet) (e : ℕ) → AreEnds g e b → pos 0 <ℤ height b.line s → PassesBelow g e s
  passes_below g e ends h =
      let d = level_lower b.line s in
      let m = pos-mul s.w (height b.line s) positive h in (
        level b.line s,
        level_place,
        on_edge g e b ends (level b.line s) level_on,
        at_level b.line s,
        omega (arith, linear),
      )

  pub passes_above : (g : Sheet) (e : ℕ) → AreEnds g e b → height b.line s <ℤ pos 0 → PassesAbove g e s
  passes_above g e ends h =
      let d = level_lower b.line s in
      let m = pos-mul s.w (neg_ℤ (height b.line s)) positive (omega (arith, linear)) in
      let o : s.w *ℤ neg_ℤ (height b.line s) ≡ neg_ℤ (s.w *ℤ height b.line s) = turned s.w
      (height b.line s) in (
        level b.line s,
        level_place,
        on_edge g e b ends (level b.line s) level_on,
        at_level b.line s,
        omega (arith, linear),
      )
    where
      turned : (x y : ℤ) → x *ℤ neg_ℤ y ≡ neg_ℤ (x *ℤ y)
      turned x y = solve (x ∷ y ∷ []) (var 0 ⊗ opp (var 1)) (opp (var 0 ⊗ var 1)) refl

-- two places of one x are reached by the same bars
reached : (b : Bar) (s t : Place) → pos 0 <ℤ s.w → pos 0 <ℤ t.w → run s t ≡ pos 0 → IsOnBar b t → Reaches b s
reached b s t hs ht same o =
    let e = first (spot b.lo) s t in
    let f = second (spot b.hi) s t in
    let y : (spot b.lo).w *ℤ run s t ≡ pos 0 = ap (λ x. (spot b.lo).w *ℤ x) same ∙ *ℤ-zero (spot b.lo).w in
    let z : (spot b.hi).w *ℤ run s t ≡ pos 0 = ap (λ x. (spot b.hi).w *ℤ x) same ∙ *ℤ-zero (spot b.hi).w in
    let a = nonneg-mul s.w (run (spot b.lo) t) (omega (arith, linear)) o.after in
    let c = nonneg-mul s.w (run t (spot b.hi)) (omega (arith, linear)) o.before in
    record {
      after = nonneg_from_mul t.w (run (spot b.lo) s) ht (omega (arith, linear));
      before = nonneg_from_mul t.w (run s (spot b.hi)) ht (omega (arith, linear));
    }
  where
    first : (p s t : Place) → t.w *ℤ run p s ≡ s.w *ℤ run p t -ℤ p.w *ℤ run s t
    first p s t = solve (place_env p (place_env s (place_env t []))) (var 8 ⊗ (var 3 ⊗ var 2 ⊖ var 0 ⊗ var 5))
        (var 5 ⊗ (var 6 ⊗ var 2 ⊖ var 0 ⊗ var 8) ⊖ var 2 ⊗ (var 6 ⊗ var 5 ⊖ var 3 ⊗ var 8)) refl

    second : (p s t : Place) → t.w *ℤ run s p ≡ s.w *ℤ run t p +ℤ p.w *ℤ run s t
    second p s t = solve (place_env p (place_env s (place_env t [])))
        (var 8 ⊗ (var 0 ⊗ var 5 ⊖ var 3 ⊗ var 2)) (var 5 ⊗ (var 0 ⊗ var 8 ⊖ var 6 ⊗ var 2) ⊕ var 2 ⊗
        (var 6 ⊗ var 5 ⊖ var 3 ⊗ var 8)) refl

module _ (g : Sheet) (e : ℕ) (b : Bar) (ends : AreEnds g e b) (s : Place) (positive : pos 0 <ℤ s.w) where
  pub from_below : PassesBelow g e s → Reaches b s × (pos 0 <ℤ height b.line s)
  from_below (t, place, on, same, under) =
      let o = on_bar g e b ends t on in
      let h : height b.line t ≡ pos 0 = subst (λ (k : Line). height k t ≡ pos 0) (sym b.ok.through) o.on in
      let d = heights-apart b.line s t in
      let z : s.w *ℤ height b.line t ≡ pos 0 = ap (λ x. s.w *ℤ x) h ∙ *ℤ-zero s.w in
      let y : b.line.a *ℤ run s t ≡ pos 0 = ap (λ x. b.line.a *ℤ x) same ∙ *ℤ-zero b.line.a in
      let m = pos-mul b.line.b (s.y *ℤ t.w -ℤ t.y *ℤ s.w) b.ok.rising.rises (omega (arith, linear)) in
      (reached b s t positive place same o, pos_from_mul t.w (height b.line s) place (omega (arith, linear)))

  pub from_above : PassesAbove g e s → Reaches b s × (height b.line s <ℤ pos 0)
  from_above (t, place, on, same, over) =
      let o = on_bar g e b ends t on in
      let h : height b.line t ≡ pos 0 = subst (λ (k : Line). height k t ≡ pos 0) (sym b.ok.through) o.on in
      let d = heights-apart b.line s t in
      let z : s.w *ℤ height b.line t ≡ pos 0 = ap (λ x. s.w *ℤ x) h ∙ *ℤ-zero s.w in
      let y : b.line.a *ℤ run s t ≡ pos 0 = ap (λ x. b.line.a *ℤ x) same ∙ *ℤ-zero b.line.a in
      let m = pos-mul b.line.b (t.y *ℤ s.w -ℤ s.y *ℤ t.w) b.ok.rising.rises (omega (arith, linear)) in
      let n = turned b.line.b (s.y *ℤ t.w) (t.y *ℤ s.w) in
      (reached b s t positive place same o, neg_from_mul t.w (height b.line s) place (omega (arith, linear)))
    where
      turned : (x y z : ℤ) → x *ℤ (y -ℤ z) ≡ neg_ℤ (x *ℤ (z -ℤ y))
      turned x y z = solve (x ∷ y ∷ z ∷ []) (var 0 ⊗ (var 1 ⊖ var 2)) (opp (var 0 ⊗ (var 2 ⊖ var 1))) refl

-- ---- edges that aren't parallel, and vertical ones

slant-back : (p q : Pt) (l : Line) → slant (through q p) l ≡ neg_ℤ (slant (through p q) l)
slant-back p q l =
    let p' = point_e 0 in let q' = point_e 2 in let l' = line_e 4 in
    solve (point_env p (point_env q (line_env l []))) (slant_e (through_e q' p') l')
    (opp (slant_e (through_e p' q') l')) refl

slant-flip : (k l : Line) → slant l k ≡ neg_ℤ (slant k l)
slant-flip k l = let k' = line_e 0 in let l' = line_e 3 in solve (line_env k (line_env l [])) (slant_e l' k')
    (opp (slant_e k' l')) refl

-- bars whose edges aren't parallel aren't, and the other way round
module _ (g : Sheet) (e : ℕ) (b : Bar) (ends : AreEnds g e b) where
  slant_either : (l : Line) → (slant (line_of g e) l ≡ slant b.line l)
      ⊎ (slant (line_of g e) l ≡ neg_ℤ (slant b.line l))
  slant_either l = by ends
    where
      by : AreEnds g e b → (slant (line_of g e) l ≡ slant b.line l)
          ⊎ (slant (line_of g e) l ≡ neg_ℤ (slant b.line l))
      by (inl (lo, hi)) = inl (sym (ap (λ (k : Line). slant k l)
          (b.ok.through ∙ (ap (λ p. through p b.hi) lo ∙ ap (λ q. through (tail g e) q) hi))))
      by (inr (lo, hi)) = inr (slant-back (head g e) (tail g e) l
          ∙ sym (ap (λ (k : Line). neg_ℤ (slant k l)) (b.ok.through
          ∙ (ap (λ p. through p b.hi) lo ∙ ap (λ q. through (head g e) q) hi))))

  pub slant_zero : (l : Line) → slant b.line l ≡ pos 0 → slant (line_of g e) l ≡ pos 0
  slant_zero l z = elim (slant_either l) [ inl s ↦ s ∙ z | inr s ↦ omega (arith, linear) ]

  pub slant_zero_back : (l : Line) → slant (line_of g e) l ≡ pos 0 → slant b.line l ≡ pos 0
  slant_zero_back l z = elim (slant_either l) [ inl s ↦ sym s ∙ z | inr s ↦ omega (arith, linear) ]

pub parallel_edges : (g : Sheet) (e k : ℕ) (b c : Bar) → AreEnds g e b → AreEnds g k c
    → slant b.line c.line ≡ pos 0 → slant (line_of g e) (line_of g k) ≡ pos 0
parallel_edges g e k b c he hk z =
    let a = slant_zero g e b he c.line z in
    let f = slant-flip (line_of g e) c.line in
    let d = slant_zero g k c hk (line_of g e) (omega (arith, linear)) in
    let q = slant-flip (line_of g k) (line_of g e) in
    omega (arith, linear)

pub parallel_bars : (g : Sheet) (e k : ℕ) (b c : Bar) → AreEnds g e b → AreEnds g k c
    → slant (line_of g e) (line_of g k) ≡ pos 0 → slant b.line c.line ≡ pos 0
parallel_bars g e k b c he hk z =
    let a = slant_zero_back g e b he (line_of g k) z in
    let f = slant-flip b.line (line_of g k) in
    let d = slant_zero_back g k c hk b.line (omega (arith, linear)) in
    let q = slant-flip c.line b.line in
    omega (arith, linear)

-- a place on a vertical edge has the x of its ends
pub on_vertical : (g : Sheet) (e : ℕ) (s : Place) → tail g e ≢ head g e → (tail g e).x ≡ (head g e).x
    → IsTrue (is_on g e s) → run (spot (tail g e)) s ≡ pos 0
on_vertical g e s apart same t =
    let p = tail g e in
    let q = head g e in
    let o = from_on g e s t in
    let on = o.on in
    let d = parts p q s in
    let z = zero-mul (q.x -ℤ p.x) (s.y -ℤ p.y *ℤ s.w) (omega (arith, linear)) in
    at (q.y -ℤ p.y) (run (spot p) s) (λ y. apart (λ i. record { x = same i; y = level_y y i }))
    (omega (arith, linear))
  where
    parts : (p q : Pt) (m : Place) → height (through p q) m ≡ (q.x -ℤ p.x) *ℤ (m.y -ℤ p.y *ℤ m.w) -ℤ
        (q.y -ℤ p.y) *ℤ run (spot p) m
    parts p q m =
        let p' = point_e 0 in let q' = point_e 2 in let m' = place_e 4 in
        solve (point_env p (point_env q (place_env m []))) (height_e (through_e p' q') m')
        ((q'.x ⊖ p'.x) ⊗ (m'.y ⊖ p'.y ⊗ m'.w) ⊖ (q'.y ⊖ p'.y) ⊗ (m'.x ⊗ num (pos 1) ⊖ p'.x ⊗ m'.w)) refl

    level_y : (head g e).y -ℤ (tail g e).y ≡ pos 0 → (tail g e).y ≡ (head g e).y
    level_y y = omega (arith, linear)

    at : (x y : ℤ) → (x ≡ pos 0 → ⊥) → x *ℤ y ≡ pos 0 → y ≡ pos 0
    at x y n z = elim (zero_product x y z) [ inl a ↦ absurd (n a) | inr b ↦ b ]
