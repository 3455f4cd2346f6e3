-- Fractions with denominators above 0 are in a total order.
use Rattle.std.proofs.Common.{◌≡◌, arith, refl, sym, ap, ◌∙◌, ℤ, pos, ◌*ℤ◌, ◌<ℤ◌, [], ◌∷◌, Ordering}
use Rattle.std.proofs.Common.Ordering.{Less, Equal, Greater}
use Rattle.std.specs.Ordering.{int_cmp, is_lt, MatchOrdering}
use Rattle.std.specs.Int.{int_signum}
use Rattle.std.specs.Result.{OnOk}
use Rattle.std.proofs.Common.{Result, List, Bor}
use denote.Param.Members.{Mut}
use Rattle.std.specs.Fn.{Called}
use Rattle.std.specs.List.Sorted.{IsSortedBy, IsSortedByClosure}
use Rattle.std.proofs.lemmas.Result.{on_ok_weaker}
use Rattle.std.proofs.lemmas.List.Sorted.{ranks_by}
use Rattle.std.proofs.lemmas.Fn.{always_returns_same}
use Rattle.std.specs.Cmp.{IsTotalOrder, int_ranks, int_cmp_is}
use Rattle.std.proofs.lemmas.Cmp.{int_cmp_total, int_ranked}
use Rattle.ff_whole.proofs.Ring.{var, ◌⊗◌, solve}
use Rattle.ff_whole.proofs.Laws.{one-*ℤ}
use Rattle.ff_whole.proofs.Signs.{linear, lt-mul_left, lt_from_mul, pos-mul, sign-pos}
use Rattle.ff_whole.specs.Meeting.{rise, height_cmp}
use Rattle.ff_whole.specs.declared.lines.Line.{Line}
use Rattle.ff_whole.specs.declared.places.Place.{Place}
use Rattle.ff_cells.specs.Before.{rise_cmp}

each : {A B C A' B' C' : Type 0} (r : Ordering) → MatchOrdering r A B C → (A → A') → (B → B') → (C → C')
    → MatchOrdering r A' B' C'
each Less h f g k = f h
each Equal h f g k = g h
each Greater h f g k = k h

pub cmp-scale : (k a b : ℤ) → pos 0 <ℤ k → int_cmp (k *ℤ a) (k *ℤ b) ≡ int_cmp a b
cmp-scale k a b h = sym (int_cmp_is (k *ℤ a) (k *ℤ b) (int_cmp a b)
    (each (int_cmp a b) (int_ranks a b) (lt-mul_left k a b h) (λ e. ap (λ z. k *ℤ z) e)
    (lt-mul_left k b a h)))

pub less_cmp : (a b : ℤ) → a <ℤ b → int_cmp a b ≡ Less
less_cmp a b h = sym (int_cmp_is a b Less h)

pub cmp_less : (a b : ℤ) → int_cmp a b ≡ Less → a <ℤ b
cmp_less a b h = int_ranked a b Less (sym h)

pub cmp_equal : (a b : ℤ) → int_cmp a b ≡ Equal → a ≡ b
cmp_equal a b h = int_ranked a b Equal (sym h)

swap_first : (a b c : ℤ) → a *ℤ (b *ℤ c) ≡ c *ℤ (b *ℤ a)
swap_first a b c = solve (a ∷ b ∷ c ∷ []) (var 0 ⊗ (var 1 ⊗ var 2)) (var 2 ⊗ (var 1 ⊗ var 0)) refl

module _ {K : Type 0} (n d : K → ℤ) (above : (k : K) → pos 0 <ℤ d k) where
  abbrev pub frac_cmp : K → K → Ordering
  frac_cmp x y = int_cmp (n x *ℤ d y) (n y *ℤ d x)

  chain : (x y z : K) → frac_cmp x y ≡ Less → frac_cmp y z ≡ Less → frac_cmp x z ≡ Less
  chain x y z h k =
      let f = lt-mul_left (d z) (n x *ℤ d y) (n y *ℤ d x) (above z) (cmp_less _ _ h) in
      let g = lt-mul_left (d x) (n y *ℤ d z) (n z *ℤ d y) (above x) (cmp_less _ _ k) in
      let e1 = swap_first (d z) (n x) (d y) in
      let e2 = swap_first (d z) (n y) (d x) in
      let e3 = swap_first (d x) (n z) (d y) in
      less_cmp _ _ (lt_from_mul (d y) (n x *ℤ d z) (n z *ℤ d x) (above y) (omega (arith, linear)))

  same : (x y z : K) → frac_cmp x y ≡ Equal → frac_cmp x z ≡ frac_cmp y z
  same x y z h =
      let e = cmp_equal _ _ h in
      let e1 : d y *ℤ (n x *ℤ d z) ≡ d x *ℤ (n y *ℤ d z) = swap_first (d y) (n x) (d z) ∙ ap (λ t. d z *ℤ t) e
      ∙ swap_first (d z) (n y) (d x) in
      let e2 : d y *ℤ (n z *ℤ d x) ≡ d x *ℤ (n z *ℤ d y) = swap_first (d y) (n z) (d x) in
      sym (cmp-scale (d y) (n x *ℤ d z) (n z *ℤ d x) (above y)) ∙ (λ i. int_cmp (e1 i) (e2 i))
      ∙ cmp-scale (d x) (n y *ℤ d z) (n z *ℤ d y) (above x)

  pub frac_total : IsTotalOrder frac_cmp
  frac_total = record {
    antisymm = λ x y. int_cmp_total.antisymm (n x *ℤ d y) (n y *ℤ d x);
    trans = chain;
    congr = same;
  }

-- a line is as high as itself
pub height_same : (k l : Line) (at : Place) → k ≡ l → Equal ≡ height_cmp k l at
height_same k l at e =
    int_cmp_is (int_signum (k.b *ℤ k.b) *ℤ (rise k at *ℤ k.b)) (int_signum (k.b *ℤ k.b) *ℤ (rise k at *ℤ k.b)) Equal refl
    ∙ (λ i. height_cmp k (e i) at)

-- with both b above 0, `cmp_height` compares the rises
pub height_as_rise : (k l : Line) (at : Place) → pos 0 <ℤ k.b → pos 0 <ℤ l.b
    → height_cmp k l at ≡ rise_cmp at k l
height_as_rise k l at h g =
    let e = sign-pos (k.b *ℤ l.b) (pos-mul k.b l.b h g) in
    (λ i. int_cmp (e i *ℤ (rise k at *ℤ l.b)) (e i *ℤ (rise l at *ℤ k.b)))
    ∙ (λ i. int_cmp (one-*ℤ (rise k at *ℤ l.b) i) (one-*ℤ (rise l at *ℤ k.b) i))

-- what `sort_by` ensures, where each call of the closure compares two elements by cmp and leaves the closure
-- as it is
pub sorted_from_sort_by : {X T E F : Type 0} (g : Mut F (Bor X × (Bor X × Unit {0})) Ordering) (f : F)
    (cmp : X → X → Ordering) → IsTotalOrder cmp → (xs : List X) (r : Result T E)
    → OnOk r (IsSortedByClosure g f xs)
    → ((a : Bor X × (Bor X × Unit {0})) (r : Ordering) (f' : F) → Called g f a r f'
    → (r ≡ cmp a.0.now a.1.0.now) × (f' ≡ f))
    → OnOk r (IsSortedBy (λ x y. is_lt (cmp x y)) xs)
sorted_from_sort_by g f cmp o xs r h by = on_ok_weaker r
    (λ k. k (λ x y. is_lt (cmp x y)) (ranks_by o (λ x. x)) (always_returns_same g
    (λ a r. is_lt r ≡ is_lt (cmp a.0.now a.1.0.now)) f (λ a r f' c. (
      ap is_lt (by a r f' c).0,
      (by a r f' c).1,
    )))) h
