-- It can't be that faces have no folding with near points and yet nothing is refused.
use Rattle.std.proofs.Common.{◌≡◌, ◌∙◌, ℕ, zero, suc, ◌*◌, ◌/◌, ◌<◌, ◌≤◌, ◌⊎◌, inl, inr, List, [], ◌∷◌, ◌++◌, length, Bool, true, arith, refl, sym, ap, subst, slice_get, Option, Some, ℤ, pos, ◌*ℤ◌, ◌<ℤ◌, mul-le-mul, le_refl}
use lib.IntN.{*ℤ-zero}
use Rattle.std.proofs.lemmas.Int.{ints}
use Rattle.std.proofs.lemmas.List.{get_or_append_left, get_or_push, length_push}
use Rattle.std.proofs.lemmas.List.Elements.{Contains-get_or}
use Rattle.std.proofs.Math.Nat.{le_of_dvd, mul-div_cancel'}
use Rattle.std.specs.List.{Contains}
use Rattle.ff_basics.proofs.Lists.{place_of_member}
use Rattle.ff_basics.proofs.Numbers.{below_or_last}
use Prim.Native.Nat.{◌∣◌}
use Rattle.ff_whole.specs.declared.points.Pt.{Pt}
use Rattle.ff_whole.specs.declared.places.Place.{Place}
use Rattle.ff_whole.specs.declared.sizes.TheConstants.{POINT_SIZE}
use Rattle.ff_whole.specs.Sizes.{IsBelow}
use Rattle.ff_whole.specs.Points.{origin, IsNear}
use Rattle.ff_whole.specs.Places.{same_place}
use Rattle.ff_whole.specs.Convex.{point_at}
use Rattle.ff_whole.proofs.Signs.{cancel_left}
use Rattle.ff_whole.proofs.Bounds.{below_factor}
use Rattle.ff_whole.proofs.Ring.{var, ◌⊗◌, solve}
use Rattle.ff_types.specs.declared.refusals.Refusal.{Refusal}
use Rattle.ff_types.specs.declared.refusals.Refusal.TheVariants.{Parity, Inconsistent, Oversized}
use Rattle.ff_types.specs.Faces.{ring_at}
use Rattle.ff_types.specs.Foldings.{AreNear, DividesAll}
use Rattle.ff_types.specs.Sides.{sides_at, IsFaceOf}
use Rattle.ff_types.specs.Placing.{Meeting, Breaks, AreFlags, IsFirstBroken}
use Rattle.ff_types.specs.Carrying.{IsCarried}
use Rattle.ff_types.specs.FoldRefusals.{placings, IsHome, IsTornAt, IsNearAt, IsTooFarAt, GoesUpTo, ArePlaced, RefusesFolding}
use Rattle.ff_reflect.specs.Images.{IsAt}
use Rattle.ff_reflect.specs.Sheets.{Paper, HasFaces}
use Rattle.ff_reflect.specs.Trees.{order_along}
use Rattle.ff_reflect.specs.Walked.{IsTree}
use Rattle.ff_reflect.specs.Flags.{AreTreeFlags, NoneBroken}
use Rattle.ff_reflect.specs.Standing.{IsReady}
use Rattle.ff_reflect.proofs.Cases.{by_below, by_test}
use Rattle.ff_reflect.proofs.Growth.{size_divides}
use Rattle.ff_reflect.proofs.Across.{vertex_in_ring, face_goes}
use Rattle.ff_reflect.proofs.Orders.{all_of, order_has}
use Rattle.ff_reflect.proofs.Foldings.{Folds, at_same}
use Rattle.ff_reflect.proofs.Refused.{get_member, in_placings, face_there, corner_there}
use Rattle.ff_reflect.proofs.Carried.{carried_by, carried_so}
use Rattle.ff_reflect.proofs.Taken.{tree_orders}
use Rattle.ff_reflect.proofs.Turned.{tree_flags, broken_at}
use Rattle.ff_reflect.proofs.Stops.{IsFirstOf, first_of, turned_same}
use Rattle.ff_reflect.proofs.Carry.{ordered, placed_so, placings_in}
use Rattle.ff_reflect.proofs.Whole.{ArePut, put_folds}
use Rattle.ff_reflect.proofs.Assembly.{tree_below, ready_of}
use Rattle.ff_reflect.proofs.SomeTrees.{some_tree, some_flags}

-- where there is a point for each number below n, there is a list of them
record AreChosen (P : ℕ → Pt → Type 0) (n : ℕ) (list : List Pt) : Type 0 where
  as_many : length list ≡ n
  each : (k : ℕ) → k < n → P k (point_at list k)

choose : (P : ℕ → Pt → Type 0) (n : ℕ) → ((k : ℕ) → k < n → (a : Pt) × P k a) → (list : List Pt) × AreChosen P n list
choose P zero h = ([], record { as_many = refl; each = λ k l. absurd (omega (arith, l)) })
choose P (suc n) h = more (choose P n (λ k l. h k (omega (arith, l)))) (h n (omega arith)) where
  more : (list : List Pt) × AreChosen P n list → (a : Pt) × P n a → (list : List Pt) × AreChosen P (suc n) list
  more (list, c) (a, p) = (
    list ++ a ∷ [],
    record {
      as_many = (let m = length_push list a in let o = c.as_many in omega arith);
      each = λ k l. let m = c.as_many in elim (below_or_last n k l) [
        | inl o ↦ subst (P k) (sym (get_or_append_left list (a ∷ []) origin k (omega (arith, o, m)))) (c.each k o)
        | inr e ↦ subst (P k) (sym (get_or_push list a origin k (m ∙ sym e))) (subst (λ j. P j a) (sym e) p)
      ];
    },
  )

-- ---- nothing stops the walk over the placings

module _ (paper : Paper) (none : (r : Refusal) → RefusesFolding paper.points paper.rings paper.edges paper.sides paper.marks r → ⊥) where
  module _ (tree : List Meeting) (up : List Bool) (ready : IsReady paper tree up) where
    abbrev order : List ℕ
    order = order_along tree

    abbrev all : List (ℕ × ℕ)
    all = placings paper.rings order

    abbrev carried : ℕ → ℕ → Place
    carried = carried_by paper tree

    so : IsCarried paper.points paper.rings paper.edges (all_of paper order) up order carried
    so = let t = ready.tree_is in carried_so paper order tree up (ordered paper tree up ready) t.grows t.first ready.flags

    placed : ArePlaced paper.points paper.rings paper.edges paper.sides paper.marks order up carried
    placed = placed_so paper tree up carried ready so

    goes : (n : ℕ) → GoesUpTo all carried n
    goes zero = record { none_torn = λ j q l. absurd (omega (arith, l)); none_far = λ j q l. absurd (omega (arith, l)) }
    goes (suc n) =
        let before = goes n in
        record {
          none_torn = λ j q l t. elim (below_or_last n j l) [
            | inl m ↦ before.none_torn j q m t
            | inr e ↦ none (Inconsistent q.1) (order, up, carried, placed, (n, q, before, subst (λ i. IsTornAt all carried i q) e t, refl))
          ];
          none_far = λ j q l t. elim (below_or_last n j l) [
            | inl m ↦ before.none_far j q m t
            | inr e ↦ none (Oversized q.1) (order, up, carried, placed, (n, q, before, subst (λ i. IsTooFarAt all carried i q) e t, refl))
          ];
        }

    -- ---- a scale fits

    abbrev Fits : ℕ → ℕ → Type 0
    Fits n scale = (0 < scale) × ((j : ℕ) (p : ℕ × ℕ) → j < n → IsHome all j p → IsNearAt scale (carried p.0 p.1))

    some_scale : (n : ℕ) → ((scale : ℕ) → Fits n scale → ⊥) → ⊥
    some_scale zero k = k 1 (omega arith, λ j p l. absurd (omega (arith, l)))
    some_scale (suc n) k = some_scale n (λ scale f. k scale (
      f.0,
      λ j p l home. elim (below_or_last n j l) [
        | inl m ↦ f.1 j p m home
        | inr e ↦ absurd (not_home p (subst (λ i. IsHome all i p) e home))
      ],
    ))
      where
        not_home : (p : ℕ × ℕ) → IsHome all n p → ⊥
        not_home p home = (goes (suc n)).none_far n p (omega arith) (record { is_home = home; far_away = λ scale f. k scale (f.0, λ j q l. f.1 j q (omega (arith, l))) })

    -- and a least one
    least_scale : ((scale : ℕ) → Fits (length all) scale → ((s : ℕ) → s < scale → Fits (length all) s → ⊥) → ⊥) → ⊥
    least_scale k = some_scale (length all) (λ scale. below (suc scale) scale (omega arith)) where
      below : (n s : ℕ) → s < n → Fits (length all) s → ⊥
      below zero s l = absurd (omega (arith, l))
      below (suc n) s l = elim (below_or_last n s l) [ inl m ↦ below n s m | inr e ↦ λ f. k s f (λ t m. below n t (omega (arith, m, e))) ]

    -- ---- the points at the least scale

    module _ (scale : ℕ) (fits : Fits (length all) scale) (least : (s : ℕ) → s < scale → Fits (length all) s → ⊥) where
      -- where a vertex lies, in each face
      abbrev Lies : ℕ → Pt → Type 0
      Lies v p = IsNear p × ((g : ℕ) → Contains all (g, v) → IsAt (pos scale) (carried g v) p)

      home_of : (v : ℕ) → IsFirstOf all v → (p : Pt) × Lies v p
      home_of v f = (near.0, (near.1, λ g c. let i = place_of_member all (g, v) c in at g i.0 i.1)) where
        home : IsHome all f.place f.pair
        home = (f.there, λ k q l e z. f.first k q l e (z ∙ f.is))

        near : IsNearAt scale (carried f.pair.0 f.pair.1)
        near = fits.1 f.place f.pair f.inside home

        here : IsAt (pos scale) (carried f.pair.0 f.pair.1) near.0
        here = record { x = near.2; y = near.3 }

        -- not torn
        same : (g i : ℕ) → slice_get all i ≡ Some (g, v) → f.place < i → same_place (carried f.pair.0 f.pair.1) (carried g v) ≡ true
        same g i e l = by_test (same_place (carried f.pair.0 f.pair.1) (carried g v)) (λ t. t)
            (λ t. absurd ((goes (suc i)).none_torn i (g, v) (omega arith) (record { there = e; home = f.place; at_home = f.pair; earlier = l; is_home = home; same_vertex = f.is; torn = t })))

        at : (g i : ℕ) → slice_get all i ≡ Some (g, v) → IsAt (pos scale) (carried g v) near.0
        at g i e = by_below i f.place
            (λ l. absurd (f.first i (g, v) l e refl))
            (λ l. by_below f.place i
            (λ m. at_same (pos scale) (carried g v) (carried f.pair.0 f.pair.1) near.0 (so.places f.pair.0 f.pair.1) (turned_same (carried f.pair.0 f.pair.1) (carried g v) (same g i e m)) here)
            (λ m. let q : f.pair ≡ (g, v) = one f.pair (g, v) (sym f.there ∙ ap (slice_get all) (omega (arith, l, m)) ∙ e) in subst (λ (p : ℕ × ℕ). IsAt (pos scale) (carried p.0 p.1) near.0) q here))
          where
            one : (p q : ℕ × ℕ) → Some p ≡ Some q → p ≡ q
            one p q e = cc

      lies : (v : ℕ) → v < length paper.points → (p : Pt) × Lies v p
      lies v l =
          let r = vertex_in_ring paper ready.has_faces v l in
          let c = placings_in paper.rings order r.0 v (order_has paper order (ordered paper tree up ready) r.0 r.1) r.2 in
          home_of v (first_of all r.0 v c)

      there : (p : ℕ × ℕ) → Contains all p → p.1 < length paper.points
      there p c = corner_there paper ready.has_faces p.0 p.1 (in_placings paper.rings order p c).1

      module _ (images : List Pt) (c : AreChosen Lies (length paper.points) images) where
        at : (p : ℕ × ℕ) → Contains all p → IsAt (pos scale) (carried p.0 p.1) (point_at images p.1)
        at p k = (c.each p.1 (there p k)).1 p.0 k

        near : AreNear images
        near v l = (c.each v (let n = c.as_many in omega (arith, l, n))).0

        -- a lesser scale would fit
        is_least : (d : ℕ) → 1 < d → DividesAll d (pos scale) images → ⊥
        is_least d more divides = smaller (scale / d) (same scale (scale / d) (mul-div_cancel' d (size_divides d (pos scale) divides.scale_too))) where
          same : (a s : ℕ) → d * s ≡ a → pos a ≡ pos d *ℤ pos s
          same a s e = omega (arith, ints, e)

          d_pos : pos 0 <ℤ pos d
          d_pos = omega (arith, ints, more)

          smaller : (s : ℕ) → pos scale ≡ pos d *ℤ pos s → ⊥
          smaller zero e = let l = fits.0 in let z = *ℤ-zero (pos d) in omega (arith, ints, e, z, l)
          smaller (suc s) e = least (suc s) (less d s more (to_nat scale (d * suc s) e)) (omega arith, λ j p l home. fit p (get_member all j p home.0)) where
            to_nat : (a b : ℕ) → pos a ≡ pos b → a ≡ b
            to_nat a b e = omega (arith, ints, e)

            less : (d s : ℕ) → 1 < d → scale ≡ d * suc s → suc s < scale
            less d s l e = let m : 2 * suc s ≤ d * suc s = mul-le-mul l (le_refl (suc s)) in omega (arith, m, e)

            fit : (p : ℕ × ℕ) → Contains all p → IsNearAt (suc s) (carried p.0 p.1)
            fit p k = (record { x = kx.0; y = ky.0 }, record { x_below = size kx.0 kx.1 n.x_below; y_below = size ky.0 ky.1 n.y_below }, go w.x kx.0 _ kx.1 a.x, go w.y ky.0 _ ky.1 a.y) where
              v : ℕ
              v = p.1

              w : Place
              w = carried p.0 p.1

              inside : p.1 < length images
              inside = let m = there p k in let o = c.as_many in omega (arith, m, o)

              kx : (z : ℤ) × ((point_at images p.1).x ≡ pos d *ℤ z)
              kx = divides.xs p.1 inside

              ky : (z : ℤ) × ((point_at images p.1).y ≡ pos d *ℤ z)
              ky = divides.ys p.1 inside

              n : IsNear (point_at images p.1)
              n = near p.1 inside

              a : IsAt (pos scale) (carried p.0 p.1) (point_at images p.1)
              a = at p k

              size : (z : ℤ) {m : ℤ} → m ≡ pos d *ℤ z → IsBelow POINT_SIZE m → IsBelow POINT_SIZE z
              size z e b = below_factor POINT_SIZE (pos d) z d_pos (subst (IsBelow POINT_SIZE) e b)

              go : (x z y : ℤ) → y ≡ pos d *ℤ z → pos scale *ℤ x ≡ (carried p.0 p.1).w *ℤ y → pos (suc s) *ℤ x ≡ (carried p.0 p.1).w *ℤ z
              go x z y f g = cancel_left (pos d) (pos (suc s) *ℤ x) ((carried p.0 p.1).w *ℤ z) d_pos
                  (solve (pos d ∷ pos (suc s) ∷ x ∷ []) (var 0 ⊗ (var 1 ⊗ var 2)) ((var 0 ⊗ var 1) ⊗ var 2) refl ∙ ap (λ t. t *ℤ x) (sym e) ∙ g ∙ ap (λ t. (carried p.0 p.1).w *ℤ t) f
                  ∙ solve ((carried p.0 p.1).w ∷ pos d ∷ z ∷ []) (var 0 ⊗ (var 1 ⊗ var 2)) (var 1 ⊗ (var 0 ⊗ var 2)) refl)

        put : ArePut paper tree up (pos scale) images
        put = record {
          carried = carried;
          so = so;
          positive = (let l = fits.0 in omega (arith, ints));
          as_many = c.as_many;
          at = at;
          near = near;
          least = is_least;
        }

  -- ---- a folding or a refusal

  module _ (h : HasFaces paper) (unfolded : (scale : ℤ) (images : List Pt) (up : List Bool) → Folds paper scale images up → AreNear images → ⊥) where
    not_ready : (tree : List Meeting) (up : List Bool) → IsReady paper tree up → ⊥
    not_ready tree up ready = least_scale tree up ready (λ scale fits least.
        let c = choose (Lies tree up ready scale fits least) (length paper.points) (lies tree up ready scale fits least) in
        let put = put tree up ready scale fits least c.0 c.1 in
        unfolded (pos scale) c.0 up (put_folds paper tree up (pos scale) c.0 ready put) put.near)

    -- no meeting breaks the rule of flags
    none_broken : (tree met : List Meeting) (up : List Bool) → IsTree paper met tree → AreTreeFlags (length paper.rings) paper.marks tree up → NoneBroken met paper.marks up
    none_broken tree met up t f i m = below (suc i) i m (omega arith) where
      below : (n i : ℕ) (m : Meeting) → i < n → slice_get met i ≡ Some m → Breaks paper.marks up m → ⊥
      below zero i m l = absurd (omega (arith, l))
      below (suc n) i m l = elim (below_or_last n i l) [
        | inl k ↦ below n i m k
        | inr e ↦ λ there b. none (Parity m.edge) (
          order_along tree,
          up,
          tree_orders paper met tree t,
          subst (λ ms. AreFlags ms paper.marks up) t.all (tree_flags (length paper.rings) paper.marks met tree up t.first f),
          subst (λ ms. IsFirstBroken ms paper.marks up m.edge) t.all (broken_at met paper.marks up i m there b (λ j k o. below n j k (omega (arith, o, e)))),
        )
      ]

    some_faces : 0 < length paper.rings → ⊥
    some_faces some =
        let t = some_tree paper h some in
        let f = some_flags (length paper.rings) (length paper.marks) paper.marks t.0 t.2.grows (tree_below paper t.1 t.0 h t.2) in
        not_ready t.0 f.0 (ready_of paper t.1 t.0 f.0 h t.2 f.1 (none_broken t.0 t.1 f.0 t.2 f.1))

    -- no faces have no vertices
    no_faces : length paper.rings ≡ 0 → ⊥
    no_faces e = unfolded (pos 1) paper.points [] (record {
      positive = omega (arith, ints);
      as_many_points = refl;
      as_many_flags = sym e;
      first_up = refl;
      first_stays = λ i l. absurd (nothing (face_there paper.rings 0 _ (Contains-get_or (ring_at paper.rings 0) i 0 l)));
      shapes = λ f l. absurd (nothing l);
      flags = λ e f g l p q. let a = h.faces in absurd (nothing (beside _ _ (sides_at paper.sides e).left f (a.sides_are e (let n = a.as_many_sides in omega (arith, l, n))).left p));
      least = λ d l k. one d l k.scale_too.0 k.scale_too.1;
    }) (λ v l. let d = h.drawing in d.near v l)
      where
        nothing : {f : ℕ} → f < length paper.rings → ⊥
        nothing l = omega (arith, l, e)

        beside : (u v : ℕ) (o : Option ℕ) (f : ℕ) → IsFaceOf paper.rings u v o → o ≡ Some f → f < length paper.rings
        beside u v o f k q = (face_goes paper.rings u v o f k q).0

        one : (d : ℕ) → 1 < d → (k : ℤ) → pos 1 ≡ pos d *ℤ k → ⊥
        one d l k q = above d l (size_divides d (pos 1) (k, q)) where
          above : (d : ℕ) → 1 < d → d ∣ 1 → ⊥
          above d l q = let m = le_of_dvd (omega arith) q in omega (arith, l, m)

    -- one of the two comes
    pub not_neither : ⊥
    not_neither = by (length paper.rings) refl where
      by : (n : ℕ) → length paper.rings ≡ n → ⊥
      by zero e = no_faces e
      by (suc n) e = some_faces (omega (arith, e))
