-- Chords alternate whichever end of each, and whichever of the two, comes first.
use Rattle.std.proofs.Common.{ℕ, ◌⊎◌, inl, inr, List}
use Rattle.ff_types.specs.Crossings.{Side, Between, Outside, Alternate}

between_swap : (p q r : ℕ) → Between p q r → Between q p r
between_swap p q r (inl h) = inr h
between_swap p q r (inr h) = inl h

outside_swap : (p q r : ℕ) → Outside p q r → Outside q p r
outside_swap p q r (inl h) = inl (h.1, h.0)
outside_swap p q r (inr h) = inr (h.1, h.0)

first_across : (p q r t : ℕ) → (Between p q r × Outside p q t) ⊎ (Outside p q r × Between p q t)
    → (Between q p r × Outside q p t) ⊎ (Outside q p r × Between q p t)
first_across p q r t (inl h) = inl (between_swap p q r h.0, outside_swap p q t h.1)
first_across p q r t (inr h) = inr (outside_swap p q r h.0, between_swap p q t h.1)

second_across : (p q r t : ℕ) → (Between p q r × Outside p q t) ⊎ (Outside p q r × Between p q t)
    → (Between p q t × Outside p q r) ⊎ (Outside p q t × Between p q r)
second_across p q r t (inl h) = inr (h.1, h.0)
second_across p q r t (inr h) = inl (h.1, h.0)

both_across : (p q r t : ℕ) → (Between p q r × Outside p q t) ⊎ (Outside p q r × Between p q t)
    → (Between r t p × Outside r t q) ⊎ (Outside r t p × Between r t q)
both_across p q r t (inl (inl (a, b), inl (c, d))) = inl (inr (c, a), inr (b, d))
both_across p q r t (inl (inl (a, b), inr (c, d))) = inr (inl (a, c), inl (b, d))
both_across p q r t (inl (inr (a, b), inl (c, d))) = inr (inr (b, c), inr (d, a))
both_across p q r t (inl (inr (a, b), inr (c, d))) = inl (inl (b, c), inl (a, d))
both_across p q r t (inr (inl (a, b), inl (c, d))) = inl (inl (a, c), inr (b, d))
both_across p q r t (inr (inl (a, b), inr (c, d))) = inr (inr (a, d), inl (b, c))
both_across p q r t (inr (inr (a, b), inl (c, d))) = inr (inl (a, c), inr (d, b))
both_across p q r t (inr (inr (a, b), inr (c, d))) = inl (inr (d, a), inl (b, c))

pub swap_first : (circ : List Side) (a b : Side) (d : Side × Side) → Alternate circ (a, b) d → Alternate circ
    (b, a) d
swap_first circ a b d h =
    record {
      p = h.q;
      q = h.p;
      r = h.r;
      t = h.t;
      c_first = h.c_second;
      c_second = h.c_first;
      d_first =
          h.d_first;
      d_second = h.d_second;
      across = first_across h.p h.q h.r h.t h.across;
    }

pub swap_second : (circ : List Side) (c : Side × Side) (a b : Side) → Alternate circ c (a, b)
    → Alternate circ c (b, a)
swap_second circ c a b h =
    record {
      p = h.p;
      q = h.q;
      r = h.t;
      t = h.r;
      c_first = h.c_first;
      c_second = h.c_second;
      d_first =
          h.d_second;
      d_second = h.d_first;
      across = second_across h.p h.q h.r h.t h.across;
    }

pub swap_chords : (circ : List Side) (c d : Side × Side) → Alternate circ c d → Alternate circ d c
swap_chords circ c d h =
    record {
      p = h.r;
      q = h.t;
      r = h.p;
      t = h.q;
      c_first = h.d_first;
      c_second = h.d_second;
      d_first =
          h.c_first;
      d_second = h.c_second;
      across = both_across h.p h.q h.r h.t h.across;
    }
