-- Where the entries of faces stand round the circle: the left list upwards, then the right list downwards.
use Rattle.std.proofs.Common.{◌≡◌, ℕ, ◌+◌, ◌-◌, ◌<◌, ◌≤◌, ◌⊎◌, inl, inr, Bool, true, false, List, map, reverse, get_or, length, arith, refl, sym, subst, ap, ◌∙◌, Contains}
use Rattle.std.proofs.lemmas.List.{get_or-append-add, get_or_append_left, get_or-reverse, get_or-map, length-map, length-reverse, length-append}
use Rattle.std.proofs.lemmas.Bool.{cases_lt, true≢false}
use Rattle.ff_types.specs.Crossings.{Side, circle, StandsAt}
use Rattle.ff_types.specs.Crossings.Side.{Left, Right}

abbrev face_of : Side → ℕ
face_of (Left f) = f
face_of (Right f) = f

abbrev is_left : Side → Bool
is_left (Left f) = true
is_left (Right f) = false

-- a place of the left list that a place of the circle is, and one of the right list
pub record AtLeft (left : List ℕ) (p f : ℕ) : Type 0 where
  pub place : Contains left f
  pub same : place.0 ≡ p

pub record AtRight (left right : List ℕ) (p f : ℕ) : Type 0 where
  pub place : Contains right f
  pub same : p + place.0 + 1 ≡ length left + length right

module _ (left right : List ℕ) where
  left_seat : (p : ℕ) (d : Side) (f : ℕ) → p < length left → get_or (circle left right) p d ≡ Left
      (get_or left p f)
  left_seat p d f h = get_or_append_left (map Left left) (map Right (reverse right)) d p
      (subst (λ n. p < n) (sym (length-map left Left)) h) ∙ get_or-map Left left p f d h

  right_seat : (n : ℕ) (d : Side) (f : ℕ) → n < length right → get_or (circle left right)
      (length left + n) d ≡ Right (get_or right (length right - 1 - n) f)
  right_seat n d f h =
      ap (λ k. get_or (circle left right) (k + n) d) (sym (length-map left Left))
      ∙ (get_or-append-add (map Left left) (map Right (reverse right)) n d
      ∙ (get_or-map Right (reverse right) n f d (subst (λ k. n < k) (sym (length-reverse right)) h) ∙ ap Right
      (get_or-reverse right n f h)))

  circle_length : length (circle left right) ≡ length left + length right
  circle_length = length-append (map Left left) (map Right (reverse right))
      ∙ (ap (λ n. n + length (map Right (reverse right))) (length-map left Left) ∙ ap (λ n. length left + n)
      (length-map (reverse right) Right ∙ length-reverse right))

  -- past the left list
  beyond_left : (p : ℕ) (d : Side) (f : ℕ) → length left ≤ p → p < length (circle left right) → get_or
      (circle left right) p d ≡ Right (get_or right (length right - 1 - (p - length left)) f)
  beyond_left p d f h l =
      ap (λ n. get_or (circle left right) n d) (sum p h) ∙ right_seat (p - length left) d f
      (omega (arith, circle_length, h, l)) where
        sum : (p : ℕ) → length left ≤ p → p ≡ length left + (p - length left)
        sum p h = omega (arith, h)

  pub where_left : (p f : ℕ) → StandsAt (circle left right) p (Left f) → AtLeft left p f
  where_left p f s = by (cases_lt p (length left)) where
    by : (p < length left) ⊎ (length left ≤ p) → AtLeft left p f
    by (inl k) = record { place = (p, k, ap face_of (sym (left_seat p (Left f) f k) ∙ s.there)); same = refl }
    by (inr k) = absurd (true≢false (sym (ap is_left (sym (beyond_left p (Left f) f k s.inside) ∙ s.there))))

  pub where_right : (p f : ℕ) → StandsAt (circle left right) p (Right f) → AtRight left right p f
  where_right p f s = by (cases_lt p (length left)) where
    by : (p < length left) ⊎ (length left ≤ p) → AtRight left right p f
    by (inl k) = absurd (true≢false (ap is_left (sym (left_seat p (Right f) f k) ∙ s.there)))
    by (inr k) = record {
      place = (
        length right - 1 - (p - length left),
        omega (arith, circle_length, s.inside, k),
        ap face_of (sym (beyond_left p (Right f) f k s.inside) ∙ s.there),
      );
      same = omega (arith, circle_length, s.inside, k);
    }

  -- the other way: members of the lists have places
  pub stands_left : (f : ℕ) (m : Contains left f) → StandsAt (circle left right) m.0 (Left f)
  stands_left f m = record
      { inside = omega (arith, circle_length, m.1); there = left_seat m.0 (Left f) f m.1 ∙ ap Left m.2 }

  abbrev pub right_place : ℕ → ℕ
  right_place k = length left + (length right - 1 - k)

  pub right_place_is : (k : ℕ) → k < length right → right_place k + k + 1 ≡ length left + length right
  right_place_is k h = omega (arith, h)

  pub stands_right : (f : ℕ) (m : Contains right f) → StandsAt (circle left right) (right_place m.0) (Right f)
  stands_right f m = record {
    inside = omega (arith, circle_length, m.1);
    there = right_seat (length right - 1 - m.0) (Right f) f (omega (arith, m.1)) ∙ ap Right
        (ap (λ n. get_or right n f) (back m.0 m.1) ∙ m.2);
  } where
    back : (k : ℕ) → k < length right → length right - 1 - (length right - 1 - k) ≡ k
    back k h = omega (arith, h)
