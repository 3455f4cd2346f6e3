-- The way gone so far along a table, until it comes back to where it began.
use Rattle.std.proofs.Common.{◌≡◌, ℕ, ◌+◌, ◌-◌, ◌<◌, ◌≤◌, List, [], ◌∷◌, ◌++◌, length, slice_index, arith, sym, ◌∙◌, ap, inl, inr, zero, suc, ◌⊎◌, true, false}
use Rattle.std.proofs.lemmas.List.{get_or_append_left, get_or_push, length_push}
use Rattle.std.proofs.lemmas.Map.Steps.{length-le_from_distinct_below}
use Rattle.std.proofs.lemmas.Map.Keys.{IsDistinct-from_apart}
use Rattle.std.proofs.lemmas.Bool.{ne_eqb, cases_lt}
use Rattle.std.proofs.Math.Dec.{eqb}
use Rattle.std.proofs.Math.ListN.{get_or}
use Rattle.std.specs.List.{list_any}
use Rattle.std.proofs.lemmas.Bool.Decides.{eqb_tells}
use Rattle.std.proofs.lemmas.Grind.{get_or_default_zero}
use Rattle.std.proofs.Common.{subst, ◌||◌}

-- the way gone so far, and the next number d
pub record OnWay (f : List ℕ) (s : ℕ) (w : List ℕ) (d : ℕ) : Type 0 where
  pub some : 0 < length w
  pub first : slice_index w 0 ≡ s
  pub below : (i : ℕ) → i < length w → slice_index w i < length f
  pub goes : (i : ℕ) → i + 1 < length w → slice_index w (i + 1) ≡ slice_index f (slice_index w i)
  pub next : d ≡ slice_index f (slice_index w (length w - 1))
  pub once : (i j : ℕ) → i < length w → j < length w → slice_index w i ≡ slice_index w j → i ≡ j

-- d isn't in the way, where the way hasn't come back
pub not_in : (f : List ℕ) (s : ℕ) (w : List ℕ) (d : ℕ) → ((a b : ℕ) → a < length f → b < length f → slice_index f a ≡ slice_index f b → a ≡ b) → OnWay f s w d → ¬ (d ≡ s) → (i : ℕ) → i < length w → slice_index w i ≡ d → ⊥
not_in f s w d apart o n zero l e = n (sym e ∙ o.first)
not_in f s w d apart o n (suc j) l e =
    let g : slice_index w (j + 1) ≡ slice_index f (slice_index w j) = o.goes j (omega (arith, l)) in
    let h : slice_index f (slice_index w j) ≡ slice_index f (slice_index w (length w - 1)) = sym g ∙ ap (λ t. slice_index w t) (omega arith) ∙ e ∙ o.next in
    let k : slice_index w j ≡ slice_index w (length w - 1) = apart (slice_index w j) (slice_index w (length w - 1)) (o.below j (omega (arith, l))) (o.below (length w - 1) (omega (arith, o.some))) h in
    omega (arith, l, o.once j (length w - 1) (omega (arith, l)) (omega (arith, o.some)) k)

pub left_read : (w : List ℕ) (d i : ℕ) → i < length w → slice_index (w ++ d ∷ []) i ≡ slice_index w i
left_read w d i l = get_or_append_left w (d ∷ []) 0 i l

pub last_read : (w : List ℕ) (d i : ℕ) → length w ≡ i → slice_index (w ++ d ∷ []) i ≡ d
last_read w d i e = get_or_push w d 0 i e

pub split : (n i : ℕ) → i < n + 1 → (i < n) ⊎ (n ≡ i)
split n i l = elim (cases_lt i n) [ inl y ↦ inl y | inr z ↦ inr (omega (arith, l, z)) ]

pub step : (f : List ℕ) (s : ℕ) (w : List ℕ) (d : ℕ) → ((a : ℕ) → a < length f → slice_index f a < length f) → ((a b : ℕ) → a < length f → b < length f → slice_index f a ≡ slice_index f b → a ≡ b) → OnWay f s w d → ¬ (d ≡ s) → OnWay f s (w ++ d ∷ []) (slice_index f d)
step f s w d closed apart o n =
    let len : length (w ++ d ∷ []) ≡ length w + 1 = length_push w d in
    let dn : d < length f = rw o.next (closed (slice_index w (length w - 1)) (o.below (length w - 1) (omega (arith, o.some)))) in
    let no : (i : ℕ) → i < length w → slice_index w i ≡ d → ⊥ = not_in f s w d apart o n in
    record {
      some = omega (arith, len);
      first = left_read w d 0 o.some ∙ o.first;
      below = λ i l. elim (split (length w) i (omega (arith, l, len))) [ inl y ↦ rw (left_read w d i y) (o.below i y) | inr e ↦ rw (last_read w d i e) dn ];
      goes = λ i l. elim (split (length w) (i + 1) (omega (arith, l, len))) [
        | inl y ↦ left_read w d (i + 1) y ∙ o.goes i y ∙ ap (λ t. slice_index f t) (sym (left_read w d i (omega (arith, y))))
        | inr e ↦ last_read w d (i + 1) e ∙ o.next ∙ ap (λ t. slice_index f t) (ap (λ t. slice_index w t) (omega (arith, e)) ∙ sym (left_read w d i (omega (arith, e))))
      ];
      next = ap (λ t. slice_index f t) (sym (last_read w d (length (w ++ d ∷ []) - 1) (omega (arith, len))));
      once = λ i j li lj e. elim (split (length w) i (omega (arith, li, len))) [
        | inl y ↦ elim (split (length w) j (omega (arith, lj, len))) [
          | inl z ↦ o.once i j y z (sym (left_read w d i y) ∙ e ∙ left_read w d j z)
          | inr z ↦ absurd (no i y (sym (left_read w d i y) ∙ e ∙ last_read w d j z))
        ]
        | inr y ↦ elim (split (length w) j (omega (arith, lj, len))) [
          | inl z ↦ absurd (no j z (sym (left_read w d j z) ∙ sym e ∙ last_read w d i y))
          | inr z ↦ sym y ∙ z
        ]
      ];
    }

pub to_zero : (w : List ℕ) (i e : ℕ) → i < length w → slice_index w i ≡ get_or w i e
to_zero w i e l = sym (get_or_default_zero w i e l)

pub true_no : false ≡ true → ⊥
true_no h = cc

pub found : (w : List ℕ) (q n : ℕ) → ((i : ℕ) → i < length w → slice_index w i < n) → list_any (eqb q) w ≡ true → q < n
found [] q n below h = absurd (true_no h)
found (x ∷ xs) q n below h = elim (eqb_tells q x) [
  | inl y ↦ rw y.1 (below 0 (omega arith))
  | inr z ↦ found xs q n (λ i l. below (suc i) (omega (arith, l))) (subst (λ t. (t || list_any (eqb q) xs) ≡ true) z.0 h)
]

-- different numbers below n are at most n
pub few : (f : List ℕ) (s : ℕ) (w : List ℕ) (d : ℕ) → OnWay f s w d → length w ≤ length f
few f s w d o = length-le_from_distinct_below w (length f)
    (IsDistinct-from_apart eqb w (λ i j e l m. ne_eqb (get_or w i e) (get_or w j e) (λ h. omega (arith, l, o.once i j (omega (arith, l, m)) m (to_zero w i e (omega (arith, l, m)) ∙ h ∙ sym (to_zero w j e m))))))
    (λ q h. found w q (length f) o.below h)

pub smaller : (f : List ℕ) (s : ℕ) (w v : List ℕ) (d e : ℕ) → v ≡ w ++ d ∷ [] → OnWay f s v e → length f - length v < length f - length w
smaller f s w v d e h o = omega (arith, ap length h, length_push w d, few f s v e o)
