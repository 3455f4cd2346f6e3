-- What is noted of each pair, item by item.
use Rattle.std.proofs.Common.{◌≡◌, ◌≢◌, ◌⊎◌, inl, inr, ℕ, ◌+◌, ◌<◌, ◌==◌, Bool, true, false, ◌||◌, List, length, length-set, set, replicate, take, slice_get, get_or-set_same, get_or-set_other, nat_lt, ◌≤◌, if◌then◌else◌, IsTrue, Option, Some, None, arith, refl, sym, ap, subst, ◌∙◌}
use Rattle.std.proofs.Math.ListN.{length-replicate}
use Rattle.std.proofs.lemmas.Bool.{eqb-true, lt-ltb, le-ltb}
use Rattle.std.proofs.lemmas.List.{get_or-replicate}
use Rattle.std.proofs.lemmas.List.Folds.{list_any_more}
use Rattle.std.proofs.lemmas.Option.{get_or_from_slice_get, slice_get_within}
use Rattle.ff_basics.proofs.Numbers.{same_number, same_or}
use Rattle.ff_basics.proofs.Options.{none_some, some_same}
use Rattle.ff_basics.proofs.Tests.{and_true, not_true}
use Rattle.ff_types.specs.Pairs.{AreSorted, StandsIn, in_order}
use Rattle.ff_types.proofs.SortedPairs.{stands_once}
use Rattle.ff_orders.specs.declared.items.OrderItem.{OrderItem}
use Rattle.ff_orders.specs.declared.said.Said.{Said}
use Rattle.ff_orders.specs.Said.{is_pair, is_said, said_by}
use Rattle.ff_orders.specs.Noted.{AreNoted, no_order, said_at}

-- nothing is said by no items
pub none_noted : (up : List Bool) (pairs : List (ℕ × ℕ)) (items : List OrderItem) → AreNoted up pairs items 0 (replicate (length pairs) no_order)
none_noted up pairs items = record {
  counted = length-replicate (length pairs) no_order;
  lesser = λ n f h e. ap (λ (s : Said). s.lesser) (nothing n f h e);
  greater = λ n f h e. ap (λ (s : Said). s.greater) (nothing n f h e);
} where
  nothing : (n f h : ℕ) → slice_get pairs n ≡ Some (f, h) → said_at (replicate (length pairs) no_order) n ≡ no_order
  nothing n f h e = get_or-replicate (length pairs) n no_order no_order (slice_get_within pairs n (f, h) e)

-- ---- one item more

or_false : (b : Bool) → b ≡ (b || false)
or_false true = refl
or_false false = refl

or_true : (b : Bool) → true ≡ (b || true)
or_true true = refl
or_true false = refl

is_itself : (f h : ℕ) → is_pair f h (Some (f, h)) ≡ true
is_itself f h = rw (same_number f, same_number h) refl

same_parts : (f h u l : ℕ) → IsTrue (is_pair f h (Some (u, l))) → (u ≡ f) × (l ≡ h)
same_parts f h u l t = let b = and_true (u == f) (l == h) t in (eqb-true u f b.0, eqb-true l h b.1)

-- the two faces, in this order or turned
abbrev chosen : Bool → ℕ → ℕ → ℕ × ℕ
chosen b u l = if b then (u, l) else (l, u)

abbrev IsPairOf : ℕ → ℕ → ℕ → ℕ → Type 0
IsPairOf a b x y = ◌≡◌ {A = ℕ × ℕ} (a, b) (x, y)

parts : (a b x y : ℕ) → IsPairOf a b x y → (a ≡ x) × (b ≡ y)
parts a b x y e = (ap (λ (k : ℕ × ℕ). k.0) e, ap (λ (k : ℕ × ℕ). k.1) e)

pairs_are : (a b x y : ℕ) → a ≡ x → b ≡ y → IsPairOf a b x y
pairs_are a b x y e f = ap (λ z. (z, b)) e ∙ ap (λ z. (x, z)) f

lesser_order : (f h : ℕ) → f < h → in_order f h ≡ (f, h)
lesser_order f h l = rw (lt-ltb f h l) refl

greater_order : (f h : ℕ) → f < h → in_order h f ≡ (f, h)
greater_order f h l = rw (le-ltb h f (omega (arith, l))) refl

module _ (up : List Bool) (pairs : List (ℕ × ℕ)) (sorted : AreSorted pairs) (items : List OrderItem) (i : ℕ) (item : OrderItem)
    (there : slice_get items i ≡ Some item) (said : List Said) (h : AreNoted up pairs items i said) where
  -- what is said by one item more
  more : (x y : ℕ) → is_said up (take (i + 1) items) x y ≡ (is_said up (take i items) x y || is_pair x y (said_by up item))
  more x y = list_any_more (λ (o : OrderItem). is_pair x y (said_by up o)) items i item (slice_get_within items i item there)
      ∙ ap (λ (o : OrderItem). is_said up (take i items) x y || is_pair x y (said_by up o)) (get_or_from_slice_get items i item item there)

  -- what the item adds is noted
  adds : (next : List Said) → length next ≡ length said
      → ((n x y : ℕ) → slice_get pairs n ≡ Some (x, y) → (said_at next n).lesser ≡ ((said_at said n).lesser || is_pair x y (said_by up item)))
      → ((n x y : ℕ) → slice_get pairs n ≡ Some (x, y) → (said_at next n).greater ≡ ((said_at said n).greater || is_pair y x (said_by up item)))
      → AreNoted up pairs items (i + 1) next
  adds next long lesser greater = record {
    counted = long ∙ h.counted;
    lesser = λ n x y e. lesser n x y e ∙ ap (λ b. b || is_pair x y (said_by up item)) (h.lesser n x y e) ∙ sym (more x y);
    greater = λ n x y e. greater n x y e ∙ ap (λ b. b || is_pair y x (said_by up item)) (h.greater n x y e) ∙ sym (more y x);
  }

  -- it adds nothing
  adds_nothing : ((n x y : ℕ) → slice_get pairs n ≡ Some (x, y) → (is_pair x y (said_by up item) ≡ false) × (is_pair y x (said_by up item) ≡ false))
      → AreNoted up pairs items (i + 1) said
  adds_nothing not = adds said refl
      (λ n x y e. or_false (said_at said n).lesser ∙ ap (λ b. (said_at said n).lesser || b) (sym (not n x y e).0))
      (λ n x y e. or_false (said_at said n).greater ∙ ap (λ b. (said_at said n).greater || b) (sym (not n x y e).1))

  pub nothing_said : said_by up item ≡ None → AreNoted up pairs items (i + 1) said
  nothing_said none = adds_nothing (λ n x y e. (ap (is_pair x y) none, ap (is_pair y x) none))

  module _ (u l : ℕ) (is : said_by up item ≡ Some (u, l)) (r : Option ℕ) (stands : StandsIn pairs (in_order u l) r) where
    -- a pair that the item says, in either order, has this number
    as_lesser : (n x y : ℕ) → slice_get pairs n ≡ Some (x, y) → IsTrue (is_pair x y (said_by up item)) → (r ≡ Some n) × (u < l)
    as_lesser n x y e t =
        let p = same_parts x y u l (subst (λ o. IsTrue (is_pair x y o)) is t) in let less : x < y = sorted.rising n (x, y) e in
        let v : u < l = omega (arith, p.0, p.1, less) in
        let q : in_order u l ≡ (x, y) = lesser_order u l v ∙ ap (λ a. (a, l)) p.0 ∙ ap (λ b. (x, b)) p.1 in
        (stands_once pairs (x, y) r (Some n) sorted (subst (λ z. StandsIn pairs z r) q stands) e, v)

    as_greater : (n x y : ℕ) → slice_get pairs n ≡ Some (x, y) → IsTrue (is_pair y x (said_by up item)) → (r ≡ Some n) × (l < u)
    as_greater n x y e t =
        let p = same_parts y x u l (subst (λ o. IsTrue (is_pair y x o)) is t) in let less : x < y = sorted.rising n (x, y) e in
        let v : l < u = omega (arith, p.0, p.1, less) in
        let q : in_order u l ≡ (x, y) = greater_order l u v ∙ ap (λ a. (a, u)) p.1 ∙ ap (λ b. (x, b)) p.0 in
        (stands_once pairs (x, y) r (Some n) sorted (subst (λ z. StandsIn pairs z r) q stands) e, v)

    pub no_pair : r ≡ None → AreNoted up pairs items (i + 1) said
    no_pair none = adds_nothing (λ n x y e. (
      not_true (is_pair x y (said_by up item)) (λ t. none_some n (sym none ∙ (as_lesser n x y e t).0)),
      not_true (is_pair y x (said_by up item)) (λ t. none_some n (sym none ∙ (as_greater n x y e t).0)),
    ))

    module _ (n : ℕ) (number : r ≡ Some n) where
      at_number : StandsIn pairs (in_order u l) (Some n)
      at_number = subst (StandsIn pairs (in_order u l)) number stands

      pub in_bounds : n < length said
      in_bounds = let w = slice_get_within pairs n (in_order u l) at_number in let c = h.counted in omega (arith, w, c)

      -- another pair isn't said
      others : (m x y : ℕ) → slice_get pairs m ≡ Some (x, y) → m ≢ n → (is_pair x y (said_by up item) ≡ false) × (is_pair y x (said_by up item) ≡ false)
      others m x y e d = (
        not_true (is_pair x y (said_by up item)) (λ t. d (some_same (sym (as_lesser m x y e t).0 ∙ number))),
        not_true (is_pair y x (said_by up item)) (λ t. d (some_same (sym (as_greater m x y e t).0 ∙ number))),
      )

      module _ (s : Said) where
        next : List Said
        next = set said n s

        unchanged : (m x y : ℕ) → slice_get pairs m ≡ Some (x, y) → m ≢ n
            → ((said_at next m).lesser ≡ ((said_at said m).lesser || is_pair x y (said_by up item)))
            × ((said_at next m).greater ≡ ((said_at said m).greater || is_pair y x (said_by up item)))
        unfolding next
        unchanged m x y e d =
            let same : said_at (set said n s) m ≡ said_at said m = get_or-set_other said n m s no_order d in
            let none = others m x y e d in (
              ap (λ (z : Said). z.lesser) same ∙ or_false (said_at said m).lesser ∙ ap (λ b. (said_at said m).lesser || b) (sym none.0),
              ap (λ (z : Said). z.greater) same ∙ or_false (said_at said m).greater ∙ ap (λ b. (said_at said m).greater || b) (sym none.1),
            )

        changed : s.lesser ≡ ((said_at said n).lesser || nat_lt u l) → s.greater ≡ ((said_at said n).greater || nat_lt l u)
            → AreNoted up pairs items (i + 1) (set said n s)
        unfolding next
        changed a b = adds (set said n s) (length-set said n s)
            (λ m x y e. elim (same_or m n) [
              | inl d ↦ (unchanged m x y e d).0
              | inr q ↦ subst (λ k. slice_get pairs k ≡ Some (x, y) → (said_at (set said n s) k).lesser ≡ ((said_at said k).lesser || is_pair x y (said_by up item))) (sym q) (λ e2. (here x y e2).0) e
            ])
            (λ m x y e. elim (same_or m n) [
              | inl d ↦ (unchanged m x y e d).1
              | inr q ↦ subst (λ k. slice_get pairs k ≡ Some (x, y) → (said_at (set said n s) k).greater ≡ ((said_at said k).greater || is_pair y x (said_by up item))) (sym q) (λ e2. (here x y e2).1) e
            ]) where
              mine : said_at (set said n s) n ≡ s
              mine = get_or-set_same said n s no_order in_bounds

              by_order : (x y : ℕ) → slice_get pairs n ≡ Some (x, y) → (is_pair x y (said_by up item) ≡ nat_lt u l) × (is_pair y x (said_by up item) ≡ nat_lt l u)
              by_order x y e =
                  let less : x < y = sorted.rising n (x, y) e in
                  let p : in_order u l ≡ (x, y) = some_same (sym at_number ∙ e) in
                  elim (which_first u l) [
                    | inl v ↦
                        let q : (u ≡ x) × (l ≡ y) = parts u l x y (sym (lesser_order u l v) ∙ p) in (
                          ap (is_pair x y) (is ∙ ap Some (pairs_are u l x y q.0 q.1)) ∙ is_itself x y ∙ sym (lt-ltb u l v),
                          not_true (is_pair y x (said_by up item)) (λ t. let w = (as_greater n x y e t).1 in omega (arith, w, v)) ∙ sym (le-ltb l u (omega (arith, v))),
                        )
                    | inr v ↦ elim (same_or u l) [
                      | inl d ↦
                          let w : l < u = grind (arith, v, d) in
                          let q : (l ≡ x) × (u ≡ y) = parts l u x y (sym (greater_order l u w) ∙ p) in (
                            not_true (is_pair x y (said_by up item)) (λ t. let z = (as_lesser n x y e t).1 in omega (arith, w, z)) ∙ sym (le-ltb u l (omega (arith, w))),
                            ap (is_pair y x) (is ∙ ap Some (pairs_are u l y x q.1 q.0)) ∙ is_itself y x ∙ sym (lt-ltb l u w),
                          )
                      | inr d ↦ absurd (let z : x ≡ y = one_face x y p d in omega (arith, z, less))
                    ]
                  ] where
                    which_first : (a b : ℕ) → (a < b) ⊎ ((a < b) → ⊥)
                    which_first a b = grind arith

                    one_face : (x y : ℕ) → in_order u l ≡ (x, y) → u ≡ l → x ≡ y
                    one_face x y p d = by_either (nat_lt u l) p where
                      by_either : (b : Bool) → chosen b u l ≡ (x, y) → x ≡ y
                      by_either true q = let k = parts u l x y q in sym k.0 ∙ d ∙ k.1
                      by_either false q = let k = parts l u x y q in sym k.0 ∙ sym d ∙ k.1

              here : (x y : ℕ) → slice_get pairs n ≡ Some (x, y)
                  → ((said_at (set said n s) n).lesser ≡ ((said_at said n).lesser || is_pair x y (said_by up item)))
                  × ((said_at (set said n s) n).greater ≡ ((said_at said n).greater || is_pair y x (said_by up item)))
              here x y e = let o = by_order x y e in (
                ap (λ (z : Said). z.lesser) mine ∙ a ∙ ap (λ t. (said_at said n).lesser || t) (sym o.0),
                ap (λ (z : Said). z.greater) mine ∙ b ∙ ap (λ t. (said_at said n).greater || t) (sym o.1),
              )

      pub lesser_noted : u < l → AreNoted up pairs items (i + 1) (set said n (record { lesser = true; greater = (said_at said n).greater }))
      lesser_noted v = changed (record { lesser = true; greater = (said_at said n).greater })
          (or_true (said_at said n).lesser ∙ ap (λ b. (said_at said n).lesser || b) (sym (lt-ltb u l v)))
          (or_false (said_at said n).greater ∙ ap (λ b. (said_at said n).greater || b) (sym (le-ltb l u (omega (arith, v)))))

      pub greater_noted : l ≤ u → AreNoted up pairs items (i + 1) (set said n (record { lesser = (said_at said n).lesser; greater = true }))
      greater_noted v = changed (record { lesser = (said_at said n).lesser; greater = true })
          (or_false (said_at said n).lesser ∙ ap (λ b. (said_at said n).lesser || b) (sym (le-ltb u l v)))
          (or_true (said_at said n).greater ∙ ap (λ b. (said_at said n).greater || b) (sym (lt-ltb l u after))) where
            rises : (in_order u l).0 < (in_order u l).1
            rises = sorted.rising n (in_order u l) at_number

            after : l < u
            after = elim (same_or u l) [
              | inl d ↦ grind (arith, v, d)
              | inr e ↦ absurd (elim (both (nat_lt u l) rises) [ inl w ↦ omega (arith, w, e) | inr w ↦ omega (arith, w, e) ])
            ] where
              both : (b : Bool) → (chosen b u l).0 < (chosen b u l).1 → (u < l) ⊎ (l < u)
              both true r = inl r
              both false r = inr r
