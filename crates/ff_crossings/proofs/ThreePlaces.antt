-- The order of three faces of a listing is that of their places in it, which may be counted from either end.
-- two lists.
use Rattle.std.proofs.Common.{◌≡◌, ℕ, ◌+◌, ◌<◌, inl, inr, Bool, List, arith, sym, subst, IsTrue, Contains}
use Rattle.ff_types.specs.Crossings.{Between, Outside}
use Rattle.ff_crossings.specs.Alternating.{IsOneWay, Rises, IsAmong, IsBeyond}
use Rattle.ff_crossings.proofs.ListedFaces.{later, comes_later}

-- ---- the places of three faces in one list, and their order

-- what is above another face is another one, and comes later
pub after : (above : ℕ → ℕ → Bool) (list : List ℕ) (f h : ℕ) → IsOneWay above → Rises above list
    → (a : Contains list f) (b : Contains list h) → IsTrue (above h f) → a.0 < b.0
after above list f h way r a b t =
    comes_later above list f h r
    (λ e. way h f t (subst (λ z. IsTrue (above f z)) e (subst (λ z. IsTrue (above z f)) (sym e) t)))
    (λ u. way h f t u) a b

module _ (above : ℕ → ℕ → Bool) (list : List ℕ) (way : IsOneWay above) (rises : Rises above list) (x y z : ℕ)
    (a : Contains list x) (b : Contains list y) (c : Contains list z) where
  pub among_from : Between a.0 b.0 c.0 → IsAmong above x y z
  among_from (inl h) = inl (later above list x z rises a c h.0, later above list z y rises c b h.1)
  among_from (inr h) = inr (later above list y z rises b c h.0, later above list z x rises c a h.1)

  pub beyond_from : Outside a.0 b.0 c.0 → IsBeyond above x y z
  beyond_from (inl h) = inl (later above list z x rises c a h.0, later above list z y rises c b h.1)
  beyond_from (inr h) = inr (later above list x z rises a c h.0, later above list y z rises b c h.1)

  pub between_from : IsAmong above x y z → Between a.0 b.0 c.0
  between_from (inl h) = inl (after above list x z way rises a c h.0, after above list z y way rises c b h.1)
  between_from (inr h) = inr (after above list y z way rises b c h.0, after above list z x way rises c a h.1)

  pub outside_from : IsBeyond above x y z → Outside a.0 b.0 c.0
  outside_from (inl h) = inl (after above list z x way rises c a h.0, after above list z y way rises c b h.1)
  outside_from (inr h) = inr (after above list x z way rises a c h.0, after above list y z way rises b c h.1)

-- ---- places are the same numbers, or the same numbers counted from the other end

pub between_same : (p q r a b c : ℕ) → a ≡ p → b ≡ q → c ≡ r → Between p q r → Between a b c
between_same p q r a b c d e f (inl h) =
    let x = h.0 in let y = h.1 in inl (omega (arith, d, f, x), omega (arith, e, f, y))
between_same p q r a b c d e f (inr h) =
    let x = h.0 in let y = h.1 in inr (omega (arith, e, f, x), omega (arith, d, f, y))

pub outside_same : (p q r a b c : ℕ) → a ≡ p → b ≡ q → c ≡ r → Outside p q r → Outside a b c
outside_same p q r a b c d e f (inl h) =
    let x = h.0 in let y = h.1 in inl (omega (arith, d, f, x), omega (arith, e, f, y))
outside_same p q r a b c d e f (inr h) =
    let x = h.0 in let y = h.1 in inr (omega (arith, d, f, x), omega (arith, e, f, y))

pub between_turned : (n p q r a b c : ℕ) → p + a + 1 ≡ n → q + b + 1 ≡ n → r + c + 1 ≡ n → Between p q r
    → Between a b c
between_turned n p q r a b c d e f (inl h) =
    let x = h.0 in let y = h.1 in inr (omega (arith, e, f, y), omega (arith, d, f, x))
between_turned n p q r a b c d e f (inr h) =
    let x = h.0 in let y = h.1 in inl (omega (arith, d, f, y), omega (arith, e, f, x))

pub outside_turned : (n p q r a b c : ℕ) → p + a + 1 ≡ n → q + b + 1 ≡ n → r + c + 1 ≡ n → Outside p q r
    → Outside a b c
outside_turned n p q r a b c d e f (inl h) =
    let x = h.0 in let y = h.1 in inr (omega (arith, d, f, x), omega (arith, e, f, y))
outside_turned n p q r a b c d e f (inr h) =
    let x = h.0 in let y = h.1 in inl (omega (arith, d, f, x), omega (arith, e, f, y))

pub turned_sum : (n p a : ℕ) → p + a + 1 ≡ n → a + p + 1 ≡ n
turned_sum n p a e = omega (arith, e)
