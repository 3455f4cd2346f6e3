-- What a pass over a list appends, item by item.
use Rattle.std.proofs.Common.{◌≡◌, ℕ, ◌+◌, ◌<◌, List, [], ◌∷◌, ◌++◌, length, get_or, take, drop, Option, refl, sym, ◌∙◌, ap, arith}
use Rattle.std.specs.List.{filter_map, cons_option}
use Rattle.std.proofs.lemmas.List.{append_assoc, length-append, take_more, take-append-drop}
use Rattle.std.proofs.lemmas.List.Elements.{filter_map-append}
use Rattle.ff_types.specs.declared.refusals.No.{No}
use Rattle.ff_types.specs.declared.refusals.No.TheVariants.{Refused, NoMemory}
use Rattle.ff_tacos.specs.Making.{WhyNoConstraints}

module _ {X Y : Type 0} (h : X → Option Y) (xs : List X) (i : ℕ) (d : X) (o : Option Y) (l : i < length xs)
    (e : o ≡ h (get_or xs i d)) where
  one_more : filter_map h (take i xs) ++ cons_option o [] ≡ filter_map h (take (i + 1) xs)
  one_more = ap (λ p. filter_map h (take i xs) ++ cons_option p []) e
      ∙ sym (filter_map-append h (take i xs) (get_or xs i d ∷ []))
      ∙ ap (filter_map h) (sym (take_more xs i d l))

  module _ (old list : List Y) (a : list ≡ old ++ filter_map h (take i xs)) where
    pub grown : (new : List Y) → new ≡ list ++ cons_option o [] → new ≡ old ++ filter_map h (take (i + 1) xs)
    grown new b = b ∙ ap (λ ys. ys ++ cons_option o []) a
        ∙ append_assoc old (filter_map h (take i xs)) (cons_option o []) ∙ ap (λ ys. old ++ ys) one_more

    -- the whole pass gives no fewer
    pub over : (no : No) → WhyNoConstraints (length list + length (cons_option o [])) no
        → WhyNoConstraints (length old + length (filter_map h xs)) no
    over NoMemory full = tt
    over (Refused r) full = (full.0, omega (arith, full.1, front, back, whole)) where
      front : length list + length (cons_option o []) ≡ length (list ++ cons_option o [])
      front = sym (length-append list (cons_option o []))

      back : length (list ++ cons_option o []) ≡ length old + length (filter_map h (take (i + 1) xs))
      back = ap length (grown (list ++ cons_option o []) refl)
          ∙ length-append old (filter_map h (take (i + 1) xs))

      whole : length (filter_map h xs) ≡ length (filter_map h (take (i + 1) xs)) + length
          (filter_map h (drop (i + 1) xs))
      whole = ap (λ ys. length (filter_map h ys)) (sym (take-append-drop (i + 1) xs))
          ∙ ap length (filter_map-append h (take (i + 1) xs) (drop (i + 1) xs))
          ∙ length-append (filter_map h (take (i + 1) xs)) (filter_map h (drop (i + 1) xs))
