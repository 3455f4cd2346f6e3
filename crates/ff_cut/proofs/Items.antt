-- What a list spells, or its first item that spells nothing: one of the two, and never both.
use Rattle.std.proofs.Common.{◌≡◌, ◌∙◌, ◌⊎◌, inl, inr, ℕ, zero, suc, ◌<◌, List, [], ◌∷◌, take, slice_get, Option, None, Some, option_map, refl, sym, ap, arith}
use Rattle.std.proofs.lemmas.Option.{option_and_then_some}
use Rattle.ff_basics.proofs.Options.{none_some, some_same}
use Rattle.ff_read.specs.Refused.{IsFirstBad}
use Rattle.ff_read.specs.Spelling.{all_of}

module _ {B A : Type 0} (f : B → Option A) where
  mapped : (a : A) (o : Option (List A)) (xs : List A) → option_map (λ rest. a ∷ rest) o ≡ Some xs → (rest : List A) × (o ≡ Some rest)
  mapped a None xs e = absurd (none_some xs e)
  mapped a (Some rest) xs e = (rest, refl)

  -- the first item spells, and so do the others
  parts : (d : B) (ds : List B) (xs : List A) → all_of f (d ∷ ds) ≡ Some xs → (a : A) × (rest : List A) × (f d ≡ Some a) × (all_of f ds ≡ Some rest)
  parts d ds xs e = option_and_then_some (λ a. option_map (λ rest. a ∷ rest) (all_of f ds)) (f d) xs e
      (λ a first others. let r = mapped a (all_of f ds) xs others in (a, r.0, first, r.1))

  not_bad : (ds : List B) (xs : List A) (i : ℕ) (d : B) → all_of f ds ≡ Some xs → slice_get ds i ≡ Some d → f d ≡ None → ⊥
  not_bad [] xs i d e g h = none_some d g
  not_bad (u ∷ us) xs zero d e g h = let p = parts u us xs e in none_some p.0 (sym h ∙ ap f (sym (some_same g)) ∙ p.2)
  not_bad (u ∷ us) xs (suc i) d e g h = let p = parts u us xs e in not_bad us p.1 i d p.3 g h

  pub bad_or_all : (ds : List B) (i : ℕ) (xs : List A) → IsFirstBad f ds i → all_of f ds ≡ Some xs → ⊥
  bad_or_all ds i xs b e = not_bad ds xs i b.item e b.is b.bad

  get_take : (ds : List B) (i j : ℕ) → i < j → slice_get (take j ds) i ≡ slice_get ds i
  get_take [] i zero l = refl
  get_take [] i (suc j) l = refl
  get_take (d ∷ ds) i zero l = absurd (omega (arith, l))
  get_take (d ∷ ds) zero (suc j) l = refl
  get_take (d ∷ ds) (suc i) (suc j) l = get_take ds i j (omega (arith, l))

  bad_before : (ds : List B) (i j : ℕ) → IsFirstBad f ds i → IsFirstBad f ds j → i < j → ⊥
  bad_before ds i j b c l = not_bad (take j ds) c.front i b.item c.before (get_take ds i j l ∙ b.is) b.bad

  pub one_bad : (ds : List B) (i j : ℕ) → IsFirstBad f ds i → IsFirstBad f ds j → (i < j) ⊎ ((i ≡ j) ⊎ (j < i)) → i ≡ j
  one_bad ds i j b c (inl l) = absurd (bad_before ds i j b c l)
  one_bad ds i j b c (inr (inl e)) = e
  one_bad ds i j b c (inr (inr l)) = absurd (bad_before ds j i c b l)

  pub all_or_first : (ds : List B) → ((xs : List A) × (all_of f ds ≡ Some xs)) ⊎ ((i : ℕ) × IsFirstBad f ds i)
  all_or_first [] = inl ([], refl)
  all_or_first (d ∷ ds) = first (f d) refl (all_or_first ds) where
    first : (o : Option A) → f d ≡ o → ((xs : List A) × (all_of f ds ≡ Some xs)) ⊎ ((i : ℕ) × IsFirstBad f ds i)
        → ((xs : List A) × (all_of f (d ∷ ds) ≡ Some xs)) ⊎ ((i : ℕ) × IsFirstBad f (d ∷ ds) i)
    first None e rest = inr (0, record { item = d; is = refl; bad = e; front = []; before = refl })
    first (Some a) e (inl o) = inl (a ∷ o.0, rw (e, o.1) refl)
    first (Some a) e (inr o) = inr (suc o.0, record { item = o.1.item; is = o.1.is; bad = o.1.bad; front = a ∷ o.1.front; before = rw (e, o.1.before) refl })
