-- From a place of an edge a plain border place is found close by, strictly between the ends, across no lines
-- and off others.
use Rattle.std.proofs.Common.{◌≡◌, ◌≢◌, ℕ, ◌<◌, refl, sym, ◌∙◌, ap, subst, arith, ℤ, pos, ◌+ℤ◌, ◌-ℤ◌, ◌*ℤ◌, ◌<ℤ◌, ◌≤ℤ◌, Bool, true, false, IsTrue, List, [], ◌∷◌, length}
use lib.IntN.{*ℤ-zero}
use Rattle.std.specs.List.{All, Contains}
use Rattle.std.proofs.lemmas.List.Elements.{All-cons, All-head, All-tail}
use Rattle.ff_basics.proofs.Lists.{all_from}
use Rattle.ff_basics.proofs.Tests.{not_false}
use Rattle.ff_basics.proofs.Memberships.{by_member, first_member, later_member, no_member}
use Rattle.ff_whole.specs.declared.points.Pt.{Pt}
use Rattle.ff_whole.specs.declared.lines.Line.{Line}
use Rattle.ff_whole.specs.declared.places.Place.{Place}
use Rattle.ff_whole.specs.Points.{minus, dot, cross}
use Rattle.ff_whole.specs.Places.{IsPlace, height, past}
use Rattle.ff_whole.proofs.Formulas.{LineE, point_e, point_env, place_e, place_env, minus_e, dot_e, height_e}
use Rattle.ff_whole.proofs.Ring.{◌⊕◌, ◌⊖◌, ◌⊗◌, solve}
use Rattle.ff_whole.proofs.Signs.{linear, by_sign, zero_from_mul}
use Rattle.ff_whole.proofs.ThreeTerms.{parallel-dot}
use Rattle.ff_whole.proofs.Offsets.{off, off_e}
use Rattle.ff_whole.proofs.OnEdges.{IsOn}
use Rattle.ff_whole.proofs.Moves.{KeepsSide}
use Rattle.ff_whole.proofs.Alongs.{IsBetween, NotParallel, moved_along}
use Rattle.ff_types.specs.declared.patterns.Pattern.{Pattern}
use Rattle.ff_types.specs.declared.faces.Faces.{Faces}
use Rattle.ff_types.specs.declared.faces.Folded.{Folded}
use Rattle.ff_types.specs.Sheets.{Sheet, sheet_of, tail, head, line_of, edges_of}
use Rattle.ff_types.specs.Borders.{is_on, is_between, are_parallel, is_plain_at}
use Rattle.ff_types.specs.FoldedPatterns.{IsFoldedPattern}
use Rattle.ff_borders.specs.PlainPlaces.{IsPlainBetween}
use Rattle.ff_borders.proofs.Tests.{on_from, to_on, to_between, parallel_from, to_parallel, to_plain_at, edge_below}
use Rattle.ff_borders.proofs.Steps.{long}
use Rattle.ff_borders.proofs.Parallels.{slant-cross, leads-side, dot-back}

-- ---- the line through z across the way from p to q

abbrev pub across_at : Pt → Pt → Pt → Line
across_at p q z = record { a = q.x -ℤ p.x; b = q.y -ℤ p.y; c = (q.x -ℤ p.x) *ℤ z.x +ℤ (q.y -ℤ p.y) *ℤ z.y }

height-across_at : (p q z : Pt) (s : Place) → height (across_at p q z) s ≡ dot (minus q p) (off s z)
height-across_at p q z s =
    let p' = point_e 0 in let q' = point_e 2 in let z' = point_e 4 in let s' = place_e 6 in
    let l' : LineE = record {
      a = q'.x ⊖ p'.x;
      b = q'.y ⊖ p'.y;
      c = (q'.x ⊖ p'.x) ⊗ z'.x ⊕ (q'.y ⊖ p'.y)
          ⊗ z'.y;
    } in
    solve (point_env p (point_env q (point_env z (place_env s [])))) (height_e l' s')
    (dot_e (minus_e q' p') (off_e s' z')) refl

-- it isn't along the way: how far it leads there is the square of the way, as it stands
across_apart : (p q z : Pt) → pos 0 <ℤ dot (minus q p) (minus q p) → NotParallel p q (across_at p q z)
across_apart p q z long e = let f : dot (minus q p) (minus q p) ≡ pos 0 = e in omega (arith, linear)

-- ---- the lines that are avoided

abbrev off_way : Sheet → ℕ → ℕ → Bool → Line
off_way g e k true = across_at (tail g e) (head g e) (tail g k)
off_way g e k false = line_of g k

-- the lines of edges that aren't parallel to e, those across e at the ends of each edge, and others
abbrev avoided : Sheet → ℕ → List Line → List ℕ → List Line
avoided g e ms [] = ms
avoided g e ms (k ∷ ks) =
    off_way g e k (are_parallel g k e) ∷ across_at (tail g e) (head g e) (tail g k) ∷ across_at (tail g e)
    (head g e) (head g k) ∷ avoided g e ms ks

module _ (g : Sheet) (e : ℕ)
    (long_e : pos 0 <ℤ dot (minus (head g e) (tail g e)) (minus (head g e) (tail g e))) where
  way_apart : (k : ℕ) (b : Bool) → are_parallel g k e ≡ b
      → NotParallel (tail g e) (head g e) (off_way g e k b)
  way_apart k true p = across_apart (tail g e) (head g e) (tail g k) long_e
  way_apart k false p = λ z. not_false (are_parallel g k e) p
      (to_parallel g k e (slant-cross (tail g k) (head g k) (tail g e) (head g e)
      ∙ (sym (leads-side true (tail g k) (head g k) (minus (head g e) (tail g e))) ∙ z)))

  all_apart : (ms : List Line) → All (NotParallel (tail g e) (head g e)) ms → (ks : List ℕ)
      → All (NotParallel (tail g e) (head g e)) (avoided g e ms ks)
  all_apart ms h [] = h
  all_apart ms h (k ∷ ks) =
      let P : Line → Type 0 = NotParallel (tail g e) (head g e) in
      let t = across_at (tail g e) (head g e) (tail g k) in
      let u = across_at (tail g e) (head g e) (head g k) in
      let rest = avoided g e ms ks in
      All-cons P (off_way g e k (are_parallel g k e)) (t ∷ u ∷ rest) (way_apart k (are_parallel g k e) refl)
      (All-cons P t (u ∷ rest) (across_apart (tail g e) (head g e) (tail g k) long_e)
      (All-cons P u rest (across_apart (tail g e) (head g e) (head g k) long_e) (all_apart ms h ks)))

  others : (s : Place) (ms : List Line) (ks : List ℕ) → All (λ l. height l s ≢ pos 0) (avoided g e ms ks)
      → All (λ l. height l s ≢ pos 0) ms
  others s ms [] h = h
  others s ms (k ∷ ks) h =
      let P : Line → Type 0 = λ l. height l s ≢ pos 0 in
      let t = across_at (tail g e) (head g e) (tail g k) in
      let u = across_at (tail g e) (head g e) (head g k) in
      let rest = avoided g e ms ks in
      others s ms ks (All-tail P u rest
      (All-tail P t (u ∷ rest) (All-tail P (off_way g e k (are_parallel g k e)) (t ∷ u ∷ rest) h)))

  -- what is across k is across e, where the two are parallel
  across_too : (u o : Pt) → pos 0 <ℤ dot u u → cross u (minus (head g e) (tail g e)) ≡ pos 0 → dot u o ≡ pos 0
      → dot (minus (head g e) (tail g e)) o ≡ pos 0
  across_too u o long par z =
      let d = minus (head g e) (tail g e) in
      let f = parallel-dot u d o par in
      let n : dot u d *ℤ dot u o ≡ pos 0 = ap (λ i. dot u d *ℤ i) z ∙ *ℤ-zero (dot u d) in
      zero_from_mul (dot u u) (dot d o) long (omega (arith, linear))

  strictly : (z : ℤ) → pos 0 ≤ℤ z → (z ≡ pos 0 → ⊥) → pos 0 <ℤ z
  strictly z h n = by_sign z (λ l. absurd (omega (arith, linear))) (λ e. absurd (n e)) (λ l. l)

  -- off the avoided lines a place is no end of the edge k, and off its line where it isn't parallel
  module _ (s : Place) (k : ℕ)
      (long_k : pos 0 <ℤ dot (minus (head g k) (tail g k)) (minus (head g k) (tail g k)))
      (off_tail : height (across_at (tail g e) (head g e) (tail g k)) s ≢ pos 0)
      (off_head : height (across_at (tail g e) (head g e) (head g k)) s ≢ pos 0) where
    strict : IsTrue (are_parallel g k e) → IsOn (tail g k) (head g k) s → IsBetween (tail g k) (head g k) s
    strict par on =
        let flat = sym (slant-cross (tail g k) (head g k) (tail g e) (head g e)) ∙ parallel_from g k e par in
        record {
          on = on.on;
          after = strictly (past (tail g k) (head g k) s) on.after
              (λ z. off_tail (height-across_at (tail g e) (head g e) (tail g k) s
              ∙ across_too (minus (head g k) (tail g k)) (off s (tail g k)) long_k flat z));
          before = strictly (past (head g k) (tail g k) s) on.before
              (λ z. off_head (height-across_at (tail g e) (head g e) (head g k) s
              ∙ across_too (minus (head g k) (tail g k)) (off s (head g k)) long_k flat
              (let b = dot-back (tail g k) (head g k) (off s (head g k)) in
              let y : dot (minus (tail g k) (head g k)) (off s (head g k)) ≡ pos 0 = z in
              omega (arith, linear))));
        }

    by_way : (b : Bool) → are_parallel g k e ≡ b → height (off_way g e k b) s ≢ pos 0 → IsTrue (is_on g k s)
        → IsTrue (is_between g k s) × IsTrue (are_parallel g k e)
    by_way true p n t = (to_between g k s (strict p (on_from g k s t)), p)
    by_way false p n t = absurd (n (on_from g k s t).on)

  plain_off : (s : Place) (ms : List Line) (ks : List ℕ)
      → ((k : ℕ) → Contains ks k → pos 0 <ℤ dot (minus (head g k) (tail g k)) (minus (head g k) (tail g k)))
      → All (λ l. height l s ≢ pos 0) (avoided g e ms ks) → (k : ℕ) → Contains ks k
      → IsTrue (is_plain_at g e s k)
  plain_off s ms [] longs h k m = absurd (no_member k m)
  plain_off s ms (j ∷ ks) longs h k m =
      let P : Line → Type 0 = λ l. height l s ≢ pos 0 in
      let way = off_way g e j (are_parallel g j e) in
      let t = across_at (tail g e) (head g e) (tail g j) in
      let u = across_at (tail g e) (head g e) (head g j) in
      let rest = avoided g e ms ks in
      let h1 = All-tail P way (t ∷ u ∷ rest) h in
      let h2 = All-tail P t (u ∷ rest) h1 in
      by_member j ks k
      (λ d. subst (λ i. IsTrue (is_plain_at g e s i)) d
      (to_plain_at g e j s (by_way s j (longs j (first_member j ks j refl)) (All-head P t (u ∷ rest) h1)
      (All-head P u rest h2) (are_parallel g j e) refl (All-head P way (t ∷ u ∷ rest) h))))
      (λ n. plain_off s ms ks (λ i c. longs i (later_member j ks i c)) (All-tail P u rest h2) k n) m

-- ---- the law

module _ {pattern : Pattern} {faces : Faces} {folded : Folded}
    (h : IsFoldedPattern pattern faces folded) where
  abbrev g : Sheet
  g = sheet_of pattern faces folded

  pub record IsNear (e : ℕ) (m : Place) (ls ms : List Line) (s : Place) : Type 0 where
    pub plain : IsPlainBetween g e s
    pub keeps : All (KeepsSide m s) ls
    pub off : All (λ l. height l s ≢ pos 0) ms

  pub plain_near : (e : ℕ) (m : Place) (ls ms : List Line) → e < length pattern.edges → IsPlace m
      → IsTrue (is_on g e m) → All (NotParallel (tail g e) (head g e)) ms
      → (s : Place) × IsNear e m ls ms s
  plain_near e m ls ms l positive t apart =
      let r = moved_along (tail g e) (head g e) m positive (long h e l) (on_from g e m t) ls
      (avoided g e ms (edges_of g)) (all_apart g e (long h e l) ms apart (edges_of g)) in
      let b = to_between g e r.0 r.1.between in (
        r.0,
        record {
          plain = (
            record {
              place = r.1.positive;
              edge = l;
              on = to_on g e r.0 (weaker r.1.between);
              plain = all_from (is_plain_at g e r.0) (edges_of g)
                  (plain_off g e (long h e l) r.0 ms (edges_of g) (λ k c. long h k (edge_below g k c))
                  r.1.off);
            },
            b,
          );
          keeps = r.1.keeps;
          off = others g e (long h e l) r.0 ms (edges_of g) r.1.off;
        },
      )
    where
      weaker : {p q : Pt} {s : Place} → IsBetween p q s → IsOn p q s
      weaker b = let after = b.after in let before =
          b.before in record { on = b.on; after = omega (arith, linear); before = omega (arith, linear) }
