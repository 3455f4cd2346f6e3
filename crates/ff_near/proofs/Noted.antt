-- Items are noted by the numbers of their pairs.
use Rattle.std.proofs.Common.{◌≡◌, ℕ, ◌+◌, ◌<◌, ◌⊎◌, inl, inr, ◌∙◌, sym, ap, subst, arith, Bool, true, false, List, length, slice_get, slice_index_or, slice_set, replicate, Some, None}
use Rattle.std.proofs.lemmas.Bool.{cases_eq}
use Rattle.std.proofs.lemmas.List.{get_or-set_same, get_or-set_other, get_or-replicate, length-replicate, length-set}
use Rattle.std.proofs.lemmas.Option.{slice_get_within}
use Rattle.ff_types.specs.declared.pins.Pin.{Pin}
use Rattle.ff_types.specs.Pairs.{number_of}
use Rattle.ff_near.specs.Wishes.{IsBad, IsRepeated, AreWishes}
use Rattle.ff_near.specs.Noting.{IsNoted, IsPassedOver, Notes, HasItem, AreNoted}

some_one : (a b : ℕ) → Some a ≡ Some b → a ≡ b
some_one a b e = cc

same_pin : (a b : Pin) → Some a ≡ Some b → a ≡ b
same_pin a b e = cc

-- nothing is noted yet
pub none_noted : (pairs : List (ℕ × ℕ)) (list : List Pin) (seen : List Bool) → seen ≡ replicate (length pairs) false
    → AreNoted pairs list 0 seen
none_noted pairs list seen e = record {
  wide = ap length e ∙ length-replicate (length pairs) false;
  good = λ j l bad. omega (arith, l);
  marked = λ n l t. absurd (differ (sym t ∙ ap (λ s. slice_index_or s n false) e ∙ get_or-replicate (length pairs) n false false l));
  all = λ n h. absurd (nothing h.at h.before);
} where
  differ : true ≡ false → ⊥
  differ q = cc

  nothing : (k : ℕ) → k < 0 → ⊥
  nothing k l = omega (arith, l)

module _ (pairs : List (ℕ × ℕ)) (list : List Pin) (i : ℕ) (p : Pin) (there : slice_get list i ≡ Some p) (seen : List Bool)
    (noted : AreNoted pairs list i seen) where
  -- an item that is passed over is bad
  passed_over : IsPassedOver pairs p seen → IsBad pairs list i
  passed_over passed = record {
    pin = p;
    there = there;
    why = elim passed.why [
      | inl none ↦ inl none
      | inr (n, is, within, is_seen) ↦ let h = noted.marked n within is_seen in inr (record {
        earlier = h.at;
        before = h.before;
        other = h.pin;
        there = h.there;
        same = h.number ∙ sym is;
      })
    ];
  }

  module _ (after : List Bool) (is : IsNoted pairs p seen after) where
    -- one that is noted isn't
    good_one : IsBad pairs list i → ⊥
    good_one bad = let e = same_pin bad.pin p (sym bad.there ∙ there) in
        elim (subst (λ (q : Pin). (number_of pairs q.f q.g ≡ None) ⊎ IsRepeated pairs list i q) e bad.why) [
          | inl none ↦ some_none (sym is.is ∙ none)
          | inr r ↦ differ (sym (noted.all is.number (record {
            at = r.earlier;
            before = r.before;
            pin = r.other;
            there = r.there;
            number = r.same ∙ is.is;
          })) ∙ is.unseen)
        ]
      where
        differ : true ≡ false → ⊥
        differ q = cc

        some_none : {n : ℕ} → Some n ≡ None → ⊥
        some_none q = cc

    in_pairs : is.number < length seen
    in_pairs = subst (λ m. is.number < m) (sym noted.wide) is.within

    own : HasItem pairs list (i + 1) is.number
    own = record { at = i; before = omega arith; pin = p; there = there; number = is.is }

    wider : (n : ℕ) → HasItem pairs list i n → HasItem pairs list (i + 1) n
    wider n h = record { at = h.at; before = let l = h.before in omega (arith, l); pin = h.pin; there = h.there; number = h.number }

    marked_now : (n : ℕ) → n < length pairs → slice_index_or (slice_set seen is.number true) n false ≡ true → HasItem pairs list (i + 1) n
    marked_now n l t = elim (cases_eq n is.number) [
      | inl e ↦ subst (λ m. HasItem pairs list (i + 1) m) (sym e) own
      | inr d ↦ wider n (noted.marked n l (sym (get_or-set_other seen is.number n true false d) ∙ t))
    ]

    all_now : (n : ℕ) → HasItem pairs list (i + 1) n → slice_index_or (slice_set seen is.number true) n false ≡ true
    all_now n h = elim (cases_eq n is.number) [
      | inl e ↦ subst (λ m. slice_index_or (slice_set seen is.number true) m false ≡ true) (sym e) (get_or-set_same seen is.number true false in_pairs)
      | inr d ↦ get_or-set_other seen is.number n true false d ∙ noted.all n (earlier n d h (cases_eq h.at i))
    ] where
      earlier : (n : ℕ) → (n ≡ is.number → ⊥) → (h : HasItem pairs list (i + 1) n) → (h.at ≡ i) ⊎ (h.at ≡ i → ⊥) → HasItem pairs list i n
      earlier n d h (inl e) = absurd (d (some_one n is.number (sym h.number ∙ ap (λ (q : Pin). number_of pairs q.f q.g)
          (same_pin h.pin p (sym (subst (λ k. slice_get list k ≡ Some h.pin) e h.there) ∙ there)) ∙ is.is)))
      earlier n d h (inr f) = record { at = h.at; before = let l = h.before in omega (arith, l, f); pin = h.pin; there = h.there; number = h.number }

    -- what is noted so far, and one more
    one_more : AreNoted pairs list (i + 1) after
    one_more = record {
      wide = ap length is.now ∙ length-set seen is.number true ∙ noted.wide;
      good = λ j l bad. elim (cases_eq j i) [
        | inl e ↦ good_one (subst (λ k. IsBad pairs list k) e bad)
        | inr d ↦ noted.good j (omega (arith, l, d)) bad
      ];
      marked = λ n l t. marked_now n l (subst (λ s. slice_index_or s n false ≡ true) is.now t);
      all = λ n h. ap (λ s. slice_index_or s n false) is.now ∙ all_now n h;
    }

-- the same by what noting answers
pub is_bad : (pairs : List (ℕ × ℕ)) (list : List Pin) (i : ℕ) (p : Pin) (seen after : List Bool) (b : Bool) → AreNoted pairs list i seen
    → Notes pairs p seen b after → b ≡ false → slice_get list i ≡ Some p → IsBad pairs list i
is_bad pairs list i p seen after true noted notes e there = cc
is_bad pairs list i p seen after false noted notes e there = passed_over pairs list i p there seen noted notes

pub is_noted : (pairs : List (ℕ × ℕ)) (list : List Pin) (i : ℕ) (p : Pin) (seen after : List Bool) (b : Bool) → AreNoted pairs list i seen
    → Notes pairs p seen b after → b ≡ true → slice_get list i ≡ Some p → AreNoted pairs list (i + 1) after
is_noted pairs list i p seen after true noted notes e there = one_more pairs list i p there seen noted after notes
is_noted pairs list i p seen after false noted notes e there = cc

-- where all items are noted they are wishes
pub are_wishes : (pairs : List (ℕ × ℕ)) (list : List Pin) (seen : List Bool) → AreNoted pairs list (length list) seen → AreWishes pairs list
are_wishes pairs list seen noted = record {
  listed = λ i p e none. noted.good i (within i p e) (record { pin = p; there = e; why = inl none });
  once = λ i j p q l e f same. noted.good j (within j q f) (record {
    pin = q;
    there = f;
    why = inr (record { earlier = i; before = l; other = p; there = e; same = same });
  });
} where
  within : (i : ℕ) (p : Pin) → slice_get list i ≡ Some p → i < length list
  within i p e = slice_get_within list i p e
