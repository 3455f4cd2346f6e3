-- Places in slab cells on the same sides of finitely many lines are in one slab cell.
use Rattle.std.proofs.Common.{ℕ, zero, suc, ◌≡◌, ◌⊎◌, inl, inr, ◌<◌, List, [], ◌∷◌, length, map, arith, refl, sym, ap, subst, ◌∙◌, ℤ, pos, ◌-ℤ◌, ◌*ℤ◌, ◌+ℤ◌, ◌<ℤ◌, Bool, true, false, IsTrue, true≢false}
use Rattle.std.specs.Prelude.{int_lt}
use lib.IntN.{*ℤ-zero}
use Rattle.std.specs.List.{Contains}
use Rattle.std.proofs.lemmas.Int.{ints}
use Rattle.std.proofs.lemmas.Bool.{false≢true}
use Rattle.std.proofs.lemmas.Bool.Decides.{Decides-int_eq}
use Rattle.ff_basics.proofs.Memberships.{by_member, first_member, later_member, no_member}
use Rattle.ff_basics.proofs.Numbers.{below_or_last}
use Rattle.ff_whole.proofs.Formulas.{line_e, line_env, place_e, place_env, height_e, slant_e}
use Rattle.ff_whole.proofs.Ring.{var, num, ◌⊕◌, ◌⊖◌, ◌⊗◌, solve}
use Rattle.ff_whole.proofs.Signs.{linear, by_sign, pos-mul, pos-mul_neg, neg-mul_pos, neg-mul_neg, pos_from_mul}
use Rattle.ff_whole.specs.Places.{height, slant, IsPlace}
use Rattle.ff_whole.specs.Convex.{point_at}
use Rattle.ff_whole.specs.declared.points.Pt.{Pt}
use Rattle.ff_whole.specs.declared.lines.Line.{Line}
use Rattle.ff_whole.specs.declared.places.Place.{Place}
use Rattle.ff_types.specs.Patterns.{edge_at}
use Rattle.ff_types.specs.Sheets.{Sheet, tail, line_of}
use Rattle.ff_types.specs.Borders.{is_on}
use Rattle.ff_cells.specs.declared.bars.Bar.{Bar}
use Rattle.ff_cells.specs.Gap.{run, spot}
use Rattle.ff_cells.specs.SlabCells.{IsOnBorder, IsLeftOf, IsBelow, IsInCell, IsBefore}
use Rattle.ff_cells.proofs.Cuts.{run-opposite}
use Rattle.ff_cells.proofs.Slices.{run_same, run_same_back, one_place}
use Rattle.ff_cells.proofs.BarEdges.{AreEnds, from_on, on_vertical, from_below, from_above}
use Rattle.ff_cells.proofs.Drawn.{IsDrawn}
use Rattle.ff_answers.proofs.Finite.{IsWord}

-- ---- which side

abbrev bit : Bool → ℕ
bit true = 1
bit false = 0

-- 1 on the left of the line
abbrev side : Place → Line → ℕ
side s l = bit (int_lt (pos 0) (height l s))

abbrev pub sides : List Line → Place → List ℕ
sides lines s = map (side s) lines

bit_below : (b : Bool) → bit b < 2
bit_below true = omega arith
bit_below false = omega arith

pub are_word : (lines : List Line) (s : Place) → IsWord 2 (length lines) (sides lines s)
are_word [] s = tt
are_word (l ∷ lines) s = (bit_below (int_lt (pos 0) (height l s)), are_word lines s)

same_bit : (a b : ℤ) → bit (int_lt (pos 0) a) ≡ bit (int_lt (pos 0) b) → pos 0 <ℤ a → pos 0 <ℤ b
same_bit a b e h = by (int_lt (pos 0) a) (int_lt (pos 0) b) refl refl e where
  to : pos 0 <ℤ a → IsTrue (int_lt (pos 0) a)
  to x = grind (arith, ints, x)

  by : (x y : Bool) → int_lt (pos 0) a ≡ x → int_lt (pos 0) b ≡ y → bit x ≡ bit y → pos 0 <ℤ b
  by true true p q f = omega (arith, ints, q)
  by true false p q f = absurd (omega (arith, f))
  by false y p q f = absurd (false≢true (sym p ∙ to h))

heads_same : (x y : ℕ) (xs ys : List ℕ) → x ∷ xs ≡ y ∷ ys → x ≡ y
heads_same x y xs ys e = cc

tails_same : (x y : ℕ) (xs ys : List ℕ) → x ∷ xs ≡ y ∷ ys → xs ≡ ys
tails_same x y xs ys e = cc

pub same_side : (lines : List Line) (s t : Place) → sides lines s ≡ sides lines t → (l : Line) → Contains lines l
    → pos 0 <ℤ height l s → pos 0 <ℤ height l t
same_side [] s t e l m h = absurd (no_member l m)
same_side (k ∷ lines) s t e l m h = by_member k lines l
    (λ d. subst (λ z. pos 0 <ℤ height z t) d (same_bit (height k s) (height k t)
    (heads_same (side s k) (side t k) (sides lines s) (sides lines t) e)
    (subst (λ z. pos 0 <ℤ height z s) (sym d) h)))
    (λ c. same_side lines s t (tails_same (side s k) (side t k) (sides lines s) (sides lines t) e) l c h) m

-- ---- lists of lines

abbrev row : ℕ → (ℕ → Line) → List Line → List Line
row zero f rest = rest
row (suc n) f rest = f n ∷ row n f rest

abbrev grid : ℕ → ℕ → (ℕ → ℕ → Line) → List Line → List Line
grid zero n f rest = rest
grid (suc m) n f rest = row n (f m) (grid m n f rest)

in_row : (n : ℕ) (f : ℕ → Line) (rest : List Line) (i : ℕ) → i < n → Contains (row n f rest) (f i)
in_row zero f rest i l = absurd (omega (arith, l))
in_row (suc n) f rest i l = elim (below_or_last n i l) [
  | inl b ↦ later_member (f n) (row n f rest) (f i) (in_row n f rest i b)
  | inr e ↦ first_member (f n) (row n f rest) (f i) (ap f (sym e))
]

behind_row : (n : ℕ) (f : ℕ → Line) (rest : List Line) (l : Line) → Contains rest l → Contains (row n f rest) l
behind_row zero f rest l m = m
behind_row (suc n) f rest l m = later_member (f n) (row n f rest) l (behind_row n f rest l m)

in_grid : (m n : ℕ) (f : ℕ → ℕ → Line) (rest : List Line) (i j : ℕ) → i < m → j < n → Contains (grid m n f rest) (f i j)
in_grid zero n f rest i j l k = absurd (omega (arith, l))
in_grid (suc m) n f rest i j l k = elim (below_or_last m i l) [
  | inl b ↦ behind_row n (f m) (grid m n f rest) (f i j) (in_grid m n f rest i j b k)
  | inr e ↦ subst (λ z. Contains (grid (suc m) n f rest) (f z j)) (sym e) (in_row n (f m) (grid m n f rest) j k)
]

behind_grid : (m n : ℕ) (f : ℕ → ℕ → Line) (rest : List Line) (l : Line) → Contains rest l → Contains (grid m n f rest) l
behind_grid zero n f rest l c = c
behind_grid (suc m) n f rest l c = behind_row n (f m) (grid m n f rest) l (behind_grid m n f rest l c)

abbrev bar_lines : List Bar → List Line
bar_lines [] = []
bar_lines (b ∷ bars) = b.line ∷ bar_lines bars

in_bars : (bars : List Bar) (b : Bar) → Contains bars b → Contains (bar_lines bars) b.line
in_bars [] b m = absurd (no_member b m)
in_bars (c ∷ bars) b m = by_member c bars b
    (λ e. first_member c.line (bar_lines bars) b.line (ap (λ (x : Bar). x.line) e))
    (λ d. later_member c.line (bar_lines bars) b.line (in_bars bars b d)) m

-- ---- the vertical lines through borders

abbrev upright : Pt → Line
upright p = record { a = pos 1; b = pos 0; c = p.x }

height-upright : (p : Pt) (s : Place) → height (upright p) s ≡ run (spot p) s
height-upright p s = solve (p.x ∷ s.x ∷ s.y ∷ s.w ∷ []) ((num (pos 1) ⊗ var 1 ⊕ num (pos 0) ⊗ var 2) ⊖ var 0 ⊗ var 3)
    (var 1 ⊗ num (pos 1) ⊖ var 0 ⊗ var 3) refl

-- the vertical line through the place where two lines meet
abbrev crossing : Line → Line → Line
crossing k l = record { a = slant k l; b = pos 0; c = k.c *ℤ l.b -ℤ l.c *ℤ k.b }

-- a place on both has the x of that line
height-crossing : (k l : Line) (b s : Place) → height k b ≡ pos 0 → height l b ≡ pos 0
    → b.w *ℤ height (crossing k l) s ≡ slant k l *ℤ run b s
height-crossing k l b s hk hl =
    let e = both k l b s in
    let x : (l.b *ℤ s.w) *ℤ height k b ≡ pos 0 = ap (λ z. (l.b *ℤ s.w) *ℤ z) hk ∙ *ℤ-zero (l.b *ℤ s.w) in
    let y : (k.b *ℤ s.w) *ℤ height l b ≡ pos 0 = ap (λ z. (k.b *ℤ s.w) *ℤ z) hl ∙ *ℤ-zero (k.b *ℤ s.w) in
    omega (arith, linear)
  where
    both : (k l : Line) (b s : Place) → b.w *ℤ height (crossing k l) s ≡ slant k l *ℤ run b s +ℤ
        ((l.b *ℤ s.w) *ℤ height k b -ℤ (k.b *ℤ s.w) *ℤ height l b)
    both k l b s =
        let k' = line_e 0 in let l' = line_e 3 in let b' = place_e 6 in let s' = place_e 9 in
        solve (line_env k (line_env l (place_env b (place_env s []))))
        (b'.w ⊗ ((slant_e k' l' ⊗ s'.x ⊕ num (pos 0) ⊗ s'.y) ⊖ (k'.c ⊗ l'.b ⊖ l'.c ⊗ k'.b) ⊗ s'.w))
        (slant_e k' l' ⊗ (s'.x ⊗ b'.w ⊖ b'.x ⊗ s'.w) ⊕ ((l'.b ⊗ s'.w) ⊗ height_e k' b' ⊖ (k'.b ⊗ s'.w) ⊗ height_e l' b')) refl

module _ {g : Sheet} {bars : List Bar} (d : IsDrawn g bars) where
  abbrev vertical : ℕ → Line
  vertical v = upright (point_at g.images v)

  abbrev meeting : ℕ → ℕ → Line
  meeting e k = crossing (line_of g e) (line_of g k)

  abbrev meetings : List Line
  meetings = grid (length g.edges) (length g.edges) meeting (bar_lines bars)

  -- of the vertices, of the edges' meets and of the bars
  abbrev pub all_lines : List Line
  all_lines = row (length g.images) vertical meetings

  vertical_there : (v : ℕ) → v < length g.images → Contains all_lines (vertical v)
  vertical_there v l = in_row (length g.images) vertical meetings v l

  meeting_there : (e k : ℕ) → e < length g.edges → k < length g.edges → Contains all_lines (meeting e k)
  meeting_there e k l m = behind_row (length g.images) vertical meetings (meeting e k)
      (in_grid (length g.edges) (length g.edges) meeting (bar_lines bars) e k l m)

  bar_there : (b : Bar) → Contains bars b → Contains all_lines b.line
  bar_there b m = behind_row (length g.images) vertical meetings b.line
      (behind_grid (length g.edges) (length g.edges) meeting (bar_lines bars) b.line (in_bars bars b m))

  -- an edge over or under a place in a slab cell has a bar
  pub bar_past : (e : ℕ) → e < length g.edges → (s t : Place) → IsInCell g s → IsPlace t → run s t ≡ pos 0
      → IsTrue (is_on g e t) → (b : Bar) × Contains bars b × AreEnds g e b
  bar_past e l s t i place level on = elim (d.edge_bar e l) [
    | inl same ↦ (let p = spot (tail g e) in let z = on_vertical g e t (d.apart e l) same on in
        absurd (i.between p one_place (inl ((edge_at g.edges e).a, d.tails e l, refl))
        (same_x p s t one_place i.place place z level)))
    | inr b ↦ b
  ]
    where
      same_x : (p s t : Place) → pos 0 <ℤ p.w → pos 0 <ℤ s.w → pos 0 <ℤ t.w → run p t ≡ pos 0 → run s t ≡ pos 0 → run p s ≡ pos 0
      same_x p s t hp hs ht a b =
          let o = run-opposite s t in
          by_sign (run p s)
          (λ n. (let q = run-opposite p s in let k = run_same_back p s t hp hs ht b (omega (arith, linear)) in
          let r = run-opposite p t in absurd (omega (arith, linear))))
          (λ z. z)
          (λ k. (let q = run_same p s t hp hs ht b k in absurd (omega (arith, linear))))

  module _ (s t : Place) (i : IsInCell g s) (j : IsInCell g t) (same : sides all_lines s ≡ sides all_lines t) where
    ahead : (l : Line) → Contains all_lines l → pos 0 <ℤ height l s → pos 0 <ℤ height l t
    ahead l m = same_side all_lines s t same l m

    back : (l : Line) → Contains all_lines l → pos 0 <ℤ height l t → pos 0 <ℤ height l s
    back l m = same_side all_lines t s (sym same) l m

    -- no border is between them
    no_border : (b : Place) → IsPlace b → IsOnBorder g b → pos 0 <ℤ run s b → pos 0 <ℤ run b t → ⊥
    no_border b place (inl (v, l, e)) x y =
        let p = spot (point_at g.images v) in
        let y' = subst (λ (q : Place). pos 0 <ℤ run q t) e y in
        let x' = subst (λ (q : Place). pos 0 <ℤ run s q) e x in
        let k = back (vertical v) (vertical_there v l)
        (subst (λ z. pos 0 <ℤ z) (sym (height-upright (point_at g.images v) t)) y') in
        let h = height-upright (point_at g.images v) s in
        let o = run-opposite p s in
        omega (arith, linear)
    no_border b place (inr (e, k, c)) x y =
        let le = line_of g e in
        let lk = line_of g k in
        let on_e = (from_on g e b c.on_first).on in
        let on_k = (from_on g k b c.on_second).on in
        let hs = height-crossing le lk b s on_e on_k in
        let ht = height-crossing le lk b t on_e on_k in
        let o = run-opposite b s in
        let n : run b s <ℤ pos 0 = omega (arith, linear) in
        let there = meeting_there e k c.first c.second in
        by_sign (slant le lk)
        (λ m. (let u = neg-mul_neg (slant le lk) (run b s) m n in
        let v = ahead (meeting e k) there (pos_from_mul b.w (height (meeting e k) s) place (omega (arith, linear))) in
        let w = pos-mul b.w (height (meeting e k) t) place v in
        let z = neg-mul_pos (slant le lk) (run b t) m y in
        omega (arith, linear)))
        (λ z. true≢false (sym ((Decides-int_eq (slant le lk) (pos 0)).1 z) ∙ c.across))
        (λ m. (let u = pos-mul (slant le lk) (run b t) m y in
        let v = back (meeting e k) there (pos_from_mul b.w (height (meeting e k) t) place (omega (arith, linear))) in
        let w = pos-mul b.w (height (meeting e k) s) place v in
        let z = pos-mul_neg (slant le lk) (run b s) m n in
        omega (arith, linear)))

    pub not_left : IsLeftOf g s t → ⊥
    not_left (b, place, on, x, y) = no_border b place on x y

    -- and no edge passes between
    pub not_below : IsBelow g s t → ⊥
    not_below (e, l, up, low) =
        let b = bar_past e l s up.0 i up.1 up.3 up.2 in
        let x = from_above g e b.0 b.2 s i.place up in
        let y = from_below g e b.0 b.2 t j.place low in
        let k = back b.0.line (bar_there b.0 b.1) y.1 in
        let z = x.1 in
        omega (arith, linear)

  pub not_before : (s t : Place) → IsInCell g s → IsInCell g t → sides all_lines s ≡ sides all_lines t → IsBefore g s t → ⊥
  not_before s t i j same (inl l) = not_left s t i j same l
  not_before s t i j same (inr (n, b)) = not_below s t i j same b
