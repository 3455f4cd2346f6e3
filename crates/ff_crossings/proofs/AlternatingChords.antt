-- When two chords alternate round the circle, by the order of the faces: positions in it are places in the
-- two lists.
use Rattle.std.proofs.Common.{◌≡◌, ℕ, ◌+◌, ◌<◌, ◌⊎◌, inl, inr, Bool, List, length, arith, Contains}
use Rattle.std.proofs.lemmas.Bool.{cases_order}
use Rattle.ff_types.specs.Crossings.{Side, circle, Between, Outside, Alternate}
use Rattle.ff_types.specs.Crossings.Side.{Left, Right}
use Rattle.ff_crossings.specs.Alternating.{IsAmong, Interleave, Cross, AreListed}
use Rattle.ff_crossings.proofs.ListedFaces.{later}
use Rattle.ff_crossings.proofs.Seats.{AtLeft, AtRight, where_left, where_right, stands_left, right_place, right_place_is, stands_right}
use Rattle.ff_crossings.proofs.ThreePlaces.{after, among_from, beyond_from, between_from, outside_from, between_same, outside_same, between_turned, outside_turned, turned_sum}

module _ (above : ℕ → ℕ → Bool) (left right : List ℕ) (is : AreListed above left right) where
  abbrev circ : List Side
  circ = circle left right

  abbrev all : ℕ
  all = length left + length right

  -- ---- from chords that alternate to the order

  pub throughs_cross : (f f2 h h2 : ℕ) → Alternate circ (Left f, Right f2) (Left h, Right h2)
      → Cross above f f2 h h2
  throughs_cross f f2 h h2 a =
      by a.across (where_left left right a.p f a.c_first) (where_right left right a.q f2 a.c_second)
      (where_left left right a.r h a.d_first) (where_right left right a.t h2 a.d_second) where
        by : (Between a.p a.q a.r × Outside a.p a.q a.t) ⊎ (Outside a.p a.q a.r × Between a.p a.q a.t)
            → AtLeft left a.p f → AtRight left right a.q f2 → AtLeft left a.r h → AtRight left right a.t h2
            → Cross above f f2 h h2
        by across m m2 n n2 = order (cases_order m.place.0 n.place.0) where
          order : (m.place.0 ≡ n.place.0) ⊎ ((m.place.0 < n.place.0) ⊎ (n.place.0 < m.place.0))
              → Cross above f f2 h h2
          order (inl e) = absurd (omega (arith, across, e, m.same, n.same))
          order (inr (inl l)) =
              inl (
                later above left f h is.left_rises m.place n.place l,
                later above right h2 f2 is.right_rises n2.place m2.place
                    (omega (
                      arith,
                      across,
                      l,
                      m.place.1,
                      n.place.1,
                      m.same,
                      n.same,
                      m2.same,
                      n2.same,
                      m2.place.1,
                      n2.place.1,
                    )),
              )
          order (inr (inr l)) =
              inr (
                later above left h f is.left_rises n.place m.place l,
                later above right f2 h2 is.right_rises m2.place n2.place
                    (omega (
                      arith,
                      across,
                      l,
                      m.place.1,
                      n.place.1,
                      m.same,
                      n.same,
                      m2.same,
                      n2.same,
                      m2.place.1,
                      n2.place.1,
                    )),
              )

  pub left_cap_among : (x y h h2 : ℕ) → Alternate circ (Left x, Left y) (Left h, Right h2)
      → IsAmong above x y h
  left_cap_among x y h h2 a =
      by a.across (where_left left right a.p x a.c_first) (where_left left right a.q y a.c_second)
      (where_left left right a.r h a.d_first) (where_right left right a.t h2 a.d_second) where
        by : (Between a.p a.q a.r × Outside a.p a.q a.t) ⊎ (Outside a.p a.q a.r × Between a.p a.q a.t)
            → AtLeft left a.p x → AtLeft left a.q y → AtLeft left a.r h → AtRight left right a.t h2
            → IsAmong above x y h
        by (inl b) m n o o2 =
            among_from above left is.one_way is.left_rises x y h m.place n.place o.place
            (between_same a.p a.q a.r _ _ _ m.same n.same o.same b.0)
        by (inr b) m n o o2 =
            absurd (omega (arith, b.1, m.place.1, n.place.1, m.same, n.same, o2.same, o2.place.1))

  pub right_cap_among : (x y h h2 : ℕ) → Alternate circ (Right x, Right y) (Left h, Right h2)
      → IsAmong above x y h2
  right_cap_among x y h h2 a =
      by a.across (where_right left right a.p x a.c_first) (where_right left right a.q y a.c_second)
      (where_left left right a.r h a.d_first) (where_right left right a.t h2 a.d_second) where
        by : (Between a.p a.q a.r × Outside a.p a.q a.t) ⊎ (Outside a.p a.q a.r × Between a.p a.q a.t)
            → AtRight left right a.p x → AtRight left right a.q y → AtLeft left a.r h
            → AtRight left right a.t h2
            → IsAmong above x y h2
        by (inl b) m n o o2 =
            absurd (omega (arith, b.0, m.place.1, n.place.1, m.same, n.same, o.same, o.place.1))
        by (inr b) m n o o2 =
            among_from above right is.one_way is.right_rises x y h2 m.place n.place o2.place
            (between_turned all a.p a.q a.t _ _ _ m.same n.same o2.same b.1)

  pub left_caps_interleave : (x y z u : ℕ) → Alternate circ (Left x, Left y) (Left z, Left u)
      → Interleave above x y z u
  left_caps_interleave x y z u a =
      by a.across (where_left left right a.p x a.c_first) (where_left left right a.q y a.c_second)
      (where_left left right a.r z a.d_first) (where_left left right a.t u a.d_second) where
        by : (Between a.p a.q a.r × Outside a.p a.q a.t) ⊎ (Outside a.p a.q a.r × Between a.p a.q a.t)
            → AtLeft left a.p x → AtLeft left a.q y → AtLeft left a.r z → AtLeft left a.t u
            → Interleave above x y z u
        by (inl b) m n o v = inl (
          among_from above left is.one_way is.left_rises x y z m.place n.place o.place
              (between_same a.p a.q a.r _ _ _ m.same n.same o.same b.0),
          beyond_from above left is.one_way is.left_rises x y u m.place n.place v.place
              (outside_same a.p a.q a.t _ _ _ m.same n.same v.same b.1),
        )
        by (inr b) m n o v = inr (
          beyond_from above left is.one_way is.left_rises x y z m.place n.place o.place
              (outside_same a.p a.q a.r _ _ _ m.same n.same o.same b.0),
          among_from above left is.one_way is.left_rises x y u m.place n.place v.place
              (between_same a.p a.q a.t _ _ _ m.same n.same v.same b.1),
        )

  pub right_caps_interleave : (x y z u : ℕ) → Alternate circ (Right x, Right y) (Right z, Right u)
      → Interleave above x y z u
  right_caps_interleave x y z u a =
      by a.across (where_right left right a.p x a.c_first) (where_right left right a.q y a.c_second)
      (where_right left right a.r z a.d_first) (where_right left right a.t u a.d_second) where
        by : (Between a.p a.q a.r × Outside a.p a.q a.t) ⊎ (Outside a.p a.q a.r × Between a.p a.q a.t)
            → AtRight left right a.p x → AtRight left right a.q y → AtRight left right a.r z
            → AtRight left right a.t u → Interleave above x y z u
        by (inl b) m n o v = inl (
          among_from above right is.one_way is.right_rises x y z m.place n.place o.place
              (between_turned all a.p a.q a.r _ _ _ m.same n.same o.same b.0),
          beyond_from above right is.one_way is.right_rises x y u m.place n.place v.place
              (outside_turned all a.p a.q a.t _ _ _ m.same n.same v.same b.1),
        )
        by (inr b) m n o v = inr (
          beyond_from above right is.one_way is.right_rises x y z m.place n.place o.place
              (outside_turned all a.p a.q a.r _ _ _ m.same n.same o.same b.0),
          among_from above right is.one_way is.right_rises x y u m.place n.place v.place
              (between_turned all a.p a.q a.t _ _ _ m.same n.same v.same b.1),
        )

  -- ---- from the order to chords that alternate

  pub cross_throughs : (f f2 h h2 : ℕ) → Contains left f → Contains right f2 → Contains left h
      → Contains right h2 → Cross above f f2 h h2 → Alternate circ (Left f, Right f2) (Left h, Right h2)
  cross_throughs f f2 h h2 m m2 n n2 cross = record {
    p = m.0;
    q = right_place left right m2.0;
    r = n.0;
    t = right_place left right n2.0;
    c_first = stands_left left right f m;
    c_second = stands_right left right f2 m2;
    d_first = stands_left left right h n;
    d_second = stands_right left right h2 n2;
    across = by cross (right_place_is left right m2.0 m2.1) (right_place_is left right n2.0 n2.1);
  } where
    by : Cross above f f2 h h2 → right_place left right m2.0 + m2.0 + 1 ≡ all
        → right_place left right n2.0 + n2.0 + 1 ≡ all
        → (Between m.0 (right_place left right m2.0) n.0 × Outside m.0 (right_place left right m2.0)
        (right_place left right n2.0))
        ⊎ (Outside m.0 (right_place left right m2.0) n.0 × Between m.0 (right_place left right m2.0)
        (right_place left right n2.0))
    by (inl c) d e =
        let i = after above left f h is.one_way is.left_rises m n c.0 in
        let j = after above right h2 f2 is.one_way is.right_rises n2 m2 c.1 in
        let s = m.1 in let t = n.1 in let u = m2.1 in let v = n2.1 in
        inl (inl (i, omega (arith, t, u, d)), inr (omega (arith, s, v, e), omega (arith, d, e, j)))
    by (inr c) d e =
        let i = after above left h f is.one_way is.left_rises n m c.0 in
        let j = after above right f2 h2 is.one_way is.right_rises m2 n2 c.1 in
        let s = m.1 in let t = n.1 in let u = m2.1 in let v = n2.1 in
        inr (inl (i, omega (arith, t, u, d)), inl (omega (arith, s, v, e), omega (arith, d, e, j)))

  pub among_left_cap : (x y h h2 : ℕ) → Contains left x → Contains left y → Contains left h
      → Contains right h2 → IsAmong above x y h → Alternate circ (Left x, Left y) (Left h, Right h2)
  among_left_cap x y h h2 m n o o2 among = record {
    p = m.0;
    q = n.0;
    r = o.0;
    t = right_place left right o2.0;
    c_first = stands_left left right x m;
    c_second = stands_left left right y n;
    d_first = stands_left left right h o;
    d_second = stands_right left right h2 o2;
    across =
        let e = right_place_is left right o2.0 o2.1 in let s = m.1 in let t = n.1 in let u = o2.1 in
        inl (
          between_from above left is.one_way is.left_rises x y h m n o among,
          inr (omega (arith, s, u, e), omega (arith, t, u, e)),
        );
  }

  pub among_right_cap : (x y h h2 : ℕ) → Contains right x → Contains right y → Contains left h
      → Contains right h2 → IsAmong above x y h2 → Alternate circ (Right x, Right y) (Left h, Right h2)
  among_right_cap x y h h2 m n o o2 among = record {
    p = right_place left right m.0;
    q = right_place left right n.0;
    r = o.0;
    t = right_place left right o2.0;
    c_first = stands_right left right x m;
    c_second = stands_right left right y n;
    d_first = stands_left left right h o;
    d_second = stands_right left right h2 o2;
    across =
        let d = right_place_is left right m.0 m.1 in let e = right_place_is left right n.0 n.1 in
        let f = right_place_is left right o2.0 o2.1 in
        let s = m.1 in let t = n.1 in let u = o.1 in
        inr (
          inl (omega (arith, s, u, d), omega (arith, t, u, e)),
          between_turned all m.0 n.0 o2.0 _ _ _ (turned_sum all _ _ d) (turned_sum all _ _ e)
              (turned_sum all _ _ f) (between_from above right is.one_way is.right_rises x y h2 m n o2 among),
        );
  }

  pub interleave_left_caps : (x y z u : ℕ) → Contains left x → Contains left y → Contains left z
      → Contains left u → Interleave above x y z u → Alternate circ (Left x, Left y) (Left z, Left u)
  interleave_left_caps x y z u m n o v i = record {
    p = m.0;
    q = n.0;
    r = o.0;
    t = v.0;
    c_first = stands_left left right x m;
    c_second = stands_left left right y n;
    d_first = stands_left left right z o;
    d_second = stands_left left right u v;
    across = elim i [
      | inl b ↦ inl (
        between_from above left is.one_way is.left_rises x y z m n o b.0,
        outside_from above left is.one_way is.left_rises x y u m n v b.1,
      )
      | inr b ↦ inr (
        outside_from above left is.one_way is.left_rises x y z m n o b.0,
        between_from above left is.one_way is.left_rises x y u m n v b.1,
      )
    ];
  }

  pub interleave_right_caps : (x y z u : ℕ) → Contains right x → Contains right y → Contains right z
      → Contains right u → Interleave above x y z u → Alternate circ (Right x, Right y) (Right z, Right u)
  interleave_right_caps x y z u m n o v i = record {
    p = right_place left right m.0;
    q = right_place left right n.0;
    r = right_place left right o.0;
    t = right_place left right v.0;
    c_first = stands_right left right x m;
    c_second = stands_right left right y n;
    d_first = stands_right left right z o;
    d_second = stands_right left right u v;
    across =
        let d = turned_sum all _ _ (right_place_is left right m.0 m.1) in
        let e = turned_sum all _ _ (right_place_is left right n.0 n.1) in
        let f = turned_sum all _ _ (right_place_is left right o.0 o.1) in
        let g = turned_sum all _ _ (right_place_is left right v.0 v.1) in
        elim i [
          | inl b ↦ inl (
            between_turned all m.0 n.0 o.0 _ _ _ d e f
                (between_from above right is.one_way is.right_rises x y z m n o b.0),
            outside_turned all m.0 n.0 v.0 _ _ _ d e g
                (outside_from above right is.one_way is.right_rises x y u m n v b.1),
          )
          | inr b ↦ inr (
            outside_turned all m.0 n.0 o.0 _ _ _ d e f
                (outside_from above right is.one_way is.right_rises x y z m n o b.0),
            between_turned all m.0 n.0 v.0 _ _ _ d e g
                (between_from above right is.one_way is.right_rises x y u m n v b.1),
          )
        ];
  }

-- caps on different sides
pub opposed_caps : (left right : List ℕ) (x y z u : ℕ) → Alternate (circle left right) (Left x, Left y)
    (Right z, Right u) → ⊥
opposed_caps left right x y z u a =
    by a.across (where_left left right a.p x a.c_first) (where_left left right a.q y a.c_second)
    (where_right left right a.r z a.d_first) (where_right left right a.t u a.d_second) where
      by : (Between a.p a.q a.r × Outside a.p a.q a.t) ⊎ (Outside a.p a.q a.r × Between a.p a.q a.t)
          → AtLeft left a.p x → AtLeft left a.q y → AtRight left right a.r z → AtRight left right a.t u → ⊥
      by (inl b) m n o v = omega (arith, b.0, m.place.1, n.place.1, m.same, n.same, o.same, o.place.1)
      by (inr b) m n o v = omega (arith, b.1, m.place.1, n.place.1, m.same, n.same, v.same, v.place.1)
