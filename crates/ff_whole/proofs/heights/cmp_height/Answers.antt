use Rattle.std.proofs.Common.{◌≡◌, ◌≢◌, sym, ◌∙◌, ℤ, pos, ◌<ℤ◌, ◌*ℤ◌, arith, true, false, Ordering}
use lib.IntN.{neg_ℤ}
use lib.Signed.{lt_z}
use mathlib.Core.Bool.{beq}
use Rattle.ff_whole.proofs.Laws.{one-*ℤ, minus_one-*ℤ}
use Rattle.ff_whole.proofs.Signs.{by_sign, pos-mul, pos-mul_neg, neg-mul_pos, neg-mul_neg, sign-pos, sign-neg}
use Rattle.std.proofs.lemmas.Int.{ints}
use Rattle.std.specs.Int.{int_signum}
use Rattle.std.specs.Ordering.{int_cmp}
use Rattle.ff_whole.proofs.Bounds.{given, read, trip, difference, multiple, known, fits_exactly}
use mir.Syntax.{w64, w128}
use Rattle.ff_whole.proofs.heights.cmp_height.Goals as goal

pub overflow_mul-of_k : goal.overflow_mul-of_k
overflow_mul-of_k c =
    let k = c.requires.k_size in
    let l = c.requires.l_size in
    let p = c.requires.at_size in
    let r = known c.rise_at.ensures (difference (multiple (given k.c_below) (given p.w_below)) (multiple (given k.a_below) (given p.x_below))) in
    fits_exactly w128 (multiple (trip w128 r tt) (trip w128 (read w64 l.b_below tt) tt)) tt

pub overflow_mul-of_l : goal.overflow_mul-of_l
overflow_mul-of_l c =
    let k = c.requires.k_size in
    let l = c.requires.l_size in
    let p = c.requires.at_size in
    let r = known c.rise_at-2.ensures (difference (multiple (given l.c_below) (given p.w_below)) (multiple (given l.a_below) (given p.x_below))) in
    fits_exactly w128 (multiple (trip w128 r tt) (trip w128 (read w64 k.b_below tt) tt)) tt

flipped : (u v : ℤ) → int_cmp v u ≡ int_cmp (neg_ℤ u) (neg_ℤ v)
flipped u v = grind (arith, ints)

both : {X : Type 0} (a b : ℤ) → a ≢ pos 0 → b ≢ pos 0 → beq (lt_z (pos 0) a) (lt_z (pos 0) b) ≡ true → (pos 0 <ℤ (a *ℤ b) → X) → X
both a b f g t h = by_sign a
    (λ l. by_sign b (λ m. h (neg-mul_neg a b l m)) (λ z. absurd (g z)) (λ m. absurd (grind (arith, ints))))
    (λ z. absurd (f z))
    (λ l. by_sign b (λ m. absurd (grind (arith, ints))) (λ z. absurd (g z)) (λ m. h (pos-mul a b l m)))

one_each : {X : Type 0} (a b : ℤ) → a ≢ pos 0 → b ≢ pos 0 → beq (lt_z (pos 0) a) (lt_z (pos 0) b) ≡ false → ((a *ℤ b) <ℤ pos 0 → X) → X
one_each a b f g t h = by_sign a
    (λ l. by_sign b (λ m. absurd (grind (arith, ints))) (λ z. absurd (g z)) (λ m. h (neg-mul_pos a b l m)))
    (λ z. absurd (f z))
    (λ l. by_sign b (λ m. h (pos-mul_neg a b l m)) (λ z. absurd (g z)) (λ m. absurd (grind (arith, ints))))

cmp_then : (a b u v x y x' y' : ℤ) (r : Ordering) → x ≡ a → y ≡ b → x' ≡ u → y' ≡ v → a ≢ pos 0 → b ≢ pos 0 → beq (lt_z (pos 0) x) (lt_z (pos 0) y) ≡ true → r ≡ int_cmp x' y'
    → r ≡ int_cmp (int_signum (a *ℤ b) *ℤ u) (int_signum (a *ℤ b) *ℤ v)
cmp_then a b u v x y x' y' r ea eb eu ev f g t h =
    h ∙ (λ i. int_cmp (eu i) (ev i))
    ∙ both a b f g ((λ i. beq (lt_z (pos 0) (sym ea i)) (lt_z (pos 0) (sym eb i))) ∙ t)
    (λ k. let e = sign-pos (a *ℤ b) k in sym ((λ i. int_cmp (e i *ℤ u) (e i *ℤ v)) ∙ (λ i. int_cmp (one-*ℤ u i) (one-*ℤ v i))))

cmp_else : (a b u v x y x' y' : ℤ) (r : Ordering) → x ≡ a → y ≡ b → x' ≡ u → y' ≡ v → a ≢ pos 0 → b ≢ pos 0 → beq (lt_z (pos 0) x) (lt_z (pos 0) y) ≡ false → r ≡ int_cmp y' x'
    → r ≡ int_cmp (int_signum (a *ℤ b) *ℤ u) (int_signum (a *ℤ b) *ℤ v)
cmp_else a b u v x y x' y' r ea eb eu ev f g t h =
    h ∙ (λ i. int_cmp (ev i) (eu i)) ∙ flipped u v
    ∙ one_each a b f g ((λ i. beq (lt_z (pos 0) (sym ea i)) (lt_z (pos 0) (sym eb i))) ∙ t)
    (λ k. let e = sign-neg (a *ℤ b) k in sym ((λ i. int_cmp (e i *ℤ u) (e i *ℤ v)) ∙ (λ i. int_cmp (minus_one-*ℤ u i) (minus_one-*ℤ v i))))

pub returns-then-k-l : goal.returns-then-k-l
returns-then-k-l c =
    let k = c.requires.k_size in
    let l = c.requires.l_size in
    let p = c.requires.at_size in
    let r = known c.rise_at.ensures (difference (multiple (given k.c_below) (given p.w_below)) (multiple (given k.a_below) (given p.x_below))) in
    let t = known c.rise_at-2.ensures (difference (multiple (given l.c_below) (given p.w_below)) (multiple (given l.a_below) (given p.x_below))) in
    let u = trip w128 (multiple (trip w128 r tt) (trip w128 (read w64 l.b_below tt) tt)) tt in
    let v = trip w128 (multiple (trip w128 t tt) (trip w128 (read w64 k.b_below tt) tt)) tt in
    cmp_then c.args.k.b c.args.l.b _ _ _ _ _ _ c.cmp.result (read w64 k.b_below tt).is (read w64 l.b_below tt).is u.is v.is c.requires.k_not_vertical c.requires.l_not_vertical c.if-k-l.true c.cmp.ensures

pub returns-else-k-l : goal.returns-else-k-l
returns-else-k-l c =
    let k = c.requires.k_size in
    let l = c.requires.l_size in
    let p = c.requires.at_size in
    let r = known c.rise_at.ensures (difference (multiple (given k.c_below) (given p.w_below)) (multiple (given k.a_below) (given p.x_below))) in
    let t = known c.rise_at-2.ensures (difference (multiple (given l.c_below) (given p.w_below)) (multiple (given l.a_below) (given p.x_below))) in
    let u = trip w128 (multiple (trip w128 r tt) (trip w128 (read w64 l.b_below tt) tt)) tt in
    let v = trip w128 (multiple (trip w128 t tt) (trip w128 (read w64 k.b_below tt) tt)) tt in
    cmp_else c.args.k.b c.args.l.b _ _ _ _ _ _ c.cmp-else-k-l.result (read w64 k.b_below tt).is (read w64 l.b_below tt).is u.is v.is c.requires.k_not_vertical c.requires.l_not_vertical c.if-k-l.false c.cmp-else-k-l.ensures
