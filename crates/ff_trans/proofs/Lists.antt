-- The list of triples, as far as it is made.
use Rattle.std.proofs.Common.{◌≡◌, ℕ, ◌+◌, ◌<◌, ◌⊎◌, inl, inr, refl, sym, ap, ◌∙◌, subst, arith, IsTrue, List, [], ◌∷◌, ◌++◌, length, slice_get, Some, None}
use Rattle.std.proofs.lemmas.Option.{slice_get_within, slice_get-get_or, get_or_from_slice_get}
use Rattle.ff_basics.proofs.Numbers.{last_or}
use Rattle.ff_basics.proofs.Lists.{get_before, get_either, get_last}
use Rattle.ff_types.specs.declared.cites.Cite.TheVariants.{Transitivity}
use Rattle.ff_types.specs.declared.cites.Listed.{Listed}
use Rattle.ff_types.specs.Pairs.{pair_at, AreSorted}
use Rattle.ff_types.specs.Faces.{list_before}
use Rattle.ff_types.specs.Sheets.{Sheet}
use Rattle.ff_types.specs.Cases.{key, IsConstraintOf}
use Rattle.ff_cells.specs.declared.cell.Cell.{Cell}
use Rattle.ff_trans.specs.Triples.{HasThree, HasCite, AreInOrder}
use Rattle.ff_trans.specs.Rows.{IsFirst, IsPrior, IsListedBefore, IsListedTo}
use Rattle.ff_trans.proofs.Keys.{by_pair, at_first, at_next}

-- ---- a list with one more

pub pair_there : (pairs : List (ℕ × ℕ)) (n : ℕ) → n < length pairs → slice_get pairs n ≡ Some (pair_at pairs n)
pair_there pairs n l = slice_get-get_or pairs n (0, 0) l

first_of : {a b c d : ℕ} → ◌≡◌ {A = ℕ × ℕ} (a, b) (c, d) → a ≡ c
first_of e = ap (λ p. p.0) e

module _ (cells : List Cell) (pairs : List (ℕ × ℕ)) where
  abbrev Listed_to : ℕ → ℕ → List Listed → Type 0
  Listed_to n k list = IsListedTo cells pairs n k list

  weaker : (n k n' k' : ℕ) (l : Listed) → ((m d : ℕ) → IsPrior m d n k → IsPrior m d n' k') → IsListedBefore cells pairs n k l → IsListedBefore cells pairs n' k' l
  weaker n k n' k' l on b = record { f = b.f; h = b.h; third = b.third; number = b.number; pair = b.pair; above = b.above; prior = on b.number b.third b.prior; place = b.place; has = b.has; first = b.first; cite = b.cite; constraint = b.constraint }

  pub list_none : Listed_to 0 0 []
  list_none = record {
    only = λ m l e. absurd (omega (arith, slice_get_within [] m l e));
    sorted = λ m n l o b e. absurd (omega (arith, slice_get_within [] m l e));
    all = λ m f h third i p a three prior. absurd (none m third prior);
  } where
    none : (m d : ℕ) → IsPrior m d 0 0 → ⊥
    none m d (inl l) = omega (arith, l)
    none m d (inr l) = let b = l.1 in omega (arith, b)

  same_pair : (n f h : ℕ) → slice_get pairs n ≡ Some (f, h) → pair_at pairs n ≡ (f, h)
  same_pair n f h e = get_or_from_slice_get pairs n (f, h) (0, 0) e

  -- faces that aren't above the pair's greater one make no triple with it
  pub row_begins : (n : ℕ) (list : List Listed) → Listed_to n 0 list → Listed_to n ((pair_at pairs n).1 + 1) list
  row_begins n list s = record {
    only = λ m l e. weaker n 0 n ((pair_at pairs n).1 + 1) l on (s.only m l e);
    sorted = s.sorted;
    all = λ m f h third i p a three prior. s.all m f h third i p a three (back m f h third p a prior);
  } where
    on : (m d : ℕ) → IsPrior m d n 0 → IsPrior m d n ((pair_at pairs n).1 + 1)
    on m d (inl l) = inl l
    on m d (inr l) = let b = l.1 in absurd (omega (arith, b))

    back : (m f h third : ℕ) → slice_get pairs m ≡ Some (f, h) → h < third → IsPrior m third n ((pair_at pairs n).1 + 1) → IsPrior m third n 0
    back m f h third p a (inl l) = inl l
    back m f h third p a (inr l) = let q = ap (λ z. z.1) (same_pair n f h (subst (λ j. slice_get pairs j ≡ Some (f, h)) l.0 p)) in let b = l.1 in absurd (omega (arith, q, a, b))

  next_prior : (n k m d : ℕ) → IsPrior m d n k → IsPrior m d n (k + 1)
  next_prior n k m d (inl l) = inl l
  next_prior n k m d (inr l) = inr (l.0, (let b = l.1 in omega (arith, b)))

  either_prior : (n k m d : ℕ) → IsPrior m d n (k + 1) → IsPrior m d n k ⊎ ((m ≡ n) × (d ≡ k))
  either_prior n k m d (inl l) = inl (inl l)
  either_prior n k m d (inr l) = elim (last_or d k l.1) [ inl b ↦ inl (inr (l.0, b)) | inr e ↦ inr (l.0, e) ]

  pub row_skips : (n k : ℕ) (list : List Listed) → IsFirst cells (pair_at pairs n).0 (pair_at pairs n).1 k None → Listed_to n k list → Listed_to n (k + 1) list
  row_skips n k list none s = record {
    only = λ m l e. weaker n k n (k + 1) l (next_prior n k) (s.only m l e);
    sorted = s.sorted;
    all = λ m f h third i p a three prior. elim (either_prior n k m third prior) [
      | inl q ↦ s.all m f h third i p a three q
      | inr q ↦ absurd (none i (moved m f h third i p q three))
    ];
  } where
    moved : (m f h third i : ℕ) → slice_get pairs m ≡ Some (f, h) → (m ≡ n) × (third ≡ k) → HasThree cells i f h third → HasThree cells i (pair_at pairs n).0 (pair_at pairs n).1 k
    moved m f h third i p q three =
        let e = same_pair n f h (subst (λ j. slice_get pairs j ≡ Some (f, h)) q.0 p) in
        subst (λ x. HasThree cells i x (pair_at pairs n).1 k) (sym (ap (λ z. z.0) e)) (subst (λ x. HasThree cells i f x k) (sym (ap (λ z. z.1) e)) (subst (λ x. HasThree cells i f h x) q.1 three))

  pub row_ends : (n k : ℕ) (list : List Listed) → ((i third : ℕ) → HasThree cells i (pair_at pairs n).0 (pair_at pairs n).1 third → third < k) → Listed_to n k list → Listed_to (n + 1) 0 list
  row_ends n k list last s = record {
    only = λ m l e. weaker n k (n + 1) 0 l on (s.only m l e);
    sorted = s.sorted;
    all = λ m f h third i p a three prior. s.all m f h third i p a three (back m f h third i p three prior);
  } where
    on : (m d : ℕ) → IsPrior m d n k → IsPrior m d (n + 1) 0
    on m d (inl l) = inl (omega (arith, l))
    on m d (inr l) = inl (let e = l.0 in omega (arith, e))

    back : (m f h third i : ℕ) → slice_get pairs m ≡ Some (f, h) → HasThree cells i f h third → IsPrior m third (n + 1) 0 → IsPrior m third n k
    back m f h third i at three (inr p) = absurd (let b = p.1 in omega (arith, b))
    back m f h third i at three (inl p) = elim (last_or m n p) [
      | inl b ↦ inl b
      | inr e ↦ (let q = same_pair n f h (subst (λ j. slice_get pairs j ≡ Some (f, h)) e at) in inr (
        e,
        last i third
            (subst (λ x. HasThree cells i x (pair_at pairs n).1 third) (sym (ap (λ z. z.0) q)) (subst (λ x. HasThree cells i f x third) (sym (ap (λ z. z.1) q)) three)),
      ))
    ]

  -- ---- one more

  module _ (sorted : AreSorted pairs) (n k : ℕ) (list : List Listed) (x : Listed) (within : n < length pairs) (above : (pair_at pairs n).1 < k) (place : ℕ)
      (has : HasThree cells place (pair_at pairs n).0 (pair_at pairs n).1 k) (first : (i : ℕ) → i < place → HasThree cells i (pair_at pairs n).0 (pair_at pairs n).1 k → ⊥)
      (cite : x.cite ≡ Transitivity (pair_at pairs n).0 (pair_at pairs n).1 k has.cell.at) (constraint : (g : Sheet) → IsConstraintOf g pairs x.cite x.constraint) where
    abbrev f : ℕ
    f = (pair_at pairs n).0

    abbrev h : ℕ
    h = (pair_at pairs n).1

    this : IsListedBefore cells pairs n (k + 1) x
    this = record { f = f; h = h; third = k; number = n; pair = pair_there pairs n within; above = above; prior = inr (refl, omega arith); place = place; has = has; first = first; cite = cite; constraint = constraint }

    key_is : key x.cite ≡ 0 ∷ f ∷ h ∷ k ∷ []
    key_is = ap key cite

    earlier : (l : Listed) → IsListedBefore cells pairs n k l → IsTrue (list_before (key l.cite) (key x.cite))
    earlier l b = subst (λ ks. IsTrue (list_before ks (key x.cite))) (sym (ap key b.cite)) (subst (λ ks. IsTrue (list_before (0 ∷ b.f ∷ b.h ∷ b.third ∷ []) ks)) (sym key_is)
        (at_next 0 0 (b.f ∷ b.h ∷ b.third ∷ []) (f ∷ h ∷ k ∷ []) refl (by b.prior))) where
          by_two : (b.f < f) ⊎ ((b.f ≡ f) × (b.h < h)) → IsTrue (list_before (b.f ∷ b.h ∷ b.third ∷ []) (f ∷ h ∷ k ∷ []))
          by_two (inl l) = at_first b.f f (b.h ∷ b.third ∷ []) (h ∷ k ∷ []) l
          by_two (inr l) = at_next b.f f (b.h ∷ b.third ∷ []) (h ∷ k ∷ []) l.0 (at_first b.h h (b.third ∷ []) (k ∷ []) l.1)

          by : IsPrior b.number b.third n k → IsTrue (list_before (b.f ∷ b.h ∷ b.third ∷ []) (f ∷ h ∷ k ∷ []))
          by (inl l) = by_two (by_pair (b.f, b.h) (pair_at pairs n) (sorted.sorted b.number n (b.f, b.h) (pair_at pairs n) l b.pair (pair_there pairs n within)))
          by (inr l) =
              let e = same_pair n b.f b.h (subst (λ j. slice_get pairs j ≡ Some (b.f, b.h)) l.0 b.pair) in
              at_next b.f f (b.h ∷ b.third ∷ []) (h ∷ k ∷ []) (sym (ap (λ z. z.0) e)) (at_next b.h h (b.third ∷ []) (k ∷ []) (sym (ap (λ z. z.1) e)) (at_first b.third k [] [] l.1))

    pub row_takes : Listed_to n k list → Listed_to n (k + 1) (list ++ x ∷ [])
    row_takes s = record { only = only; sorted = order; all = all } where
      only : (m : ℕ) (l : Listed) → slice_get (list ++ x ∷ []) m ≡ Some l → IsListedBefore cells pairs n (k + 1) l
      only m l e = elim (get_either list x l m e) [
        | inl d ↦ weaker n k n (k + 1) l (next_prior n k) (s.only m l d)
        | inr d ↦ subst (IsListedBefore cells pairs n (k + 1)) (sym d.1) this
      ]

      order : AreInOrder (list ++ x ∷ [])
      order m j l o less a b = by (get_either list x l m a) (get_either list x o j b) where
        by : (slice_get list m ≡ Some l) ⊎ ((m ≡ length list) × (l ≡ x)) → (slice_get list j ≡ Some o) ⊎ ((j ≡ length list) × (o ≡ x)) → IsTrue (list_before (key l.cite) (key o.cite))
        by (inl c) (inl d) = s.sorted m j l o less c d
        by (inl c) (inr d) = subst (λ (z : Listed). IsTrue (list_before (key l.cite) (key z.cite))) (sym d.1) (earlier l (s.only m l c))
        by (inr c) (inl d) = absurd (let e = c.0 in let w = slice_get_within list j o d in omega (arith, less, e, w))
        by (inr c) (inr d) = absurd (let e = c.0 in let w = d.0 in omega (arith, less, e, w))

      all : (m f' h' third i : ℕ) → slice_get pairs m ≡ Some (f', h') → h' < third → HasThree cells i f' h' third → IsPrior m third n (k + 1) → HasCite (list ++ x ∷ []) (0 ∷ f' ∷ h' ∷ third ∷ [])
      all m f' h' third i p a three prior = elim (either_prior n k m third prior) [
        | inl q ↦ (let r = s.all m f' h' third i p a three q in (r.0, r.1, get_before list x r.1 r.0 r.2, r.3))
        | inr q ↦ (length list, x, get_last list x, key_is ∙ same m f' h' third p q)
      ] where
        same : (m f' h' third : ℕ) → slice_get pairs m ≡ Some (f', h') → (m ≡ n) × (third ≡ k) → ◌≡◌ {A = List ℕ} (0 ∷ f ∷ h ∷ k ∷ []) (0 ∷ f' ∷ h' ∷ third ∷ [])
        same m f' h' third p q =
            let e = same_pair n f' h' (subst (λ j. slice_get pairs j ≡ Some (f', h')) q.0 p) in
            let r = sym q.1 in
            λ i. 0 ∷ (e i).0 ∷ (e i).1 ∷ r i ∷ []
