-- Flags of claims: one more is set, and the last one is taken back.
use Rattle.std.proofs.Common.{◌≡◌, ◌≢◌, ℕ, ◌+◌, ◌*◌, ◌<◌, inl, inr, Bool, true, false, ◌||◌, List, [], ◌∷◌, ◌++◌, length, refl, sym, ap, ap₂, subst, ◌∙◌, IsTrue, arith, append_assoc}
use Rattle.std.specs.Prelude.{slice_index_or, slice_set}
use Rattle.std.proofs.lemmas.Bool.{false≢true, cases_Bool, cases_order, eq-eqb, and_from}
use Rattle.std.proofs.lemmas.List.{append-nil, get_or-set_same, get_or-set_other, length-set}
use Rattle.std.proofs.Math.Bool.{or-false}
use Rattle.std.proofs.lemmas.Nat.{mul-add-lt}
use Rattle.std.proofs.Common.{mul_comm}
use Rattle.ff_basics.proofs.Tests.{of_second}
use Rattle.ff_log.specs.declared.claims.Claim.{Claim}
use Rattle.ff_log.specs.Logs.{is_claim, holds}
use Rattle.ff_checker.specs.LogStates.{place_of, IsWithin, AreFlags, AllWithin, OnceAfter}
use Rattle.ff_checker.proofs.Claims.{claim_is, holds_both}

pub place_within : (side : ℕ) (c : Claim) → IsWithin side c → place_of side c < side * side
place_within side c w = mul-add-lt c.upper side c.lower side w.upper w.lower

-- a place of a lesser row is less
lesser_row : (a b x y side : ℕ) → a < b → x < side → a * side + x < b * side + y
lesser_row a b x y side l m = let k = mul-add-lt a side x b l m in omega (arith, k, mul_comm side b)

pub places_differ : (side : ℕ) (c d : Claim) → IsWithin side c → IsWithin side d → place_of side c ≡ place_of side d → c ≡ d
places_differ side c d wc wd e = elim (cases_order c.upper d.upper) [
  | inl u ↦ ap₂ (λ x y. record { upper = x; lower = y }) u (omega (arith, e, ap (λ x. x * side) u))
  | inr k ↦ elim k [
    | inl l ↦ let m = lesser_row c.upper d.upper c.lower d.lower side l wc.lower in absurd (omega (arith, e, m))
    | inr l ↦ let m = lesser_row d.upper c.upper d.lower c.lower side l wd.lower in absurd (omega (arith, e, m))
  ]
]

same_is_claim : (c : Claim) → IsTrue (is_claim c c)
same_is_claim c = and_from (Rattle.std.specs.Prelude.◌==◌ c.upper c.upper) (Rattle.std.specs.Prelude.◌==◌ c.lower c.lower) (eq-eqb c.upper c.upper refl) (eq-eqb c.lower c.lower refl)

-- the last claim of a list holds
pub holds_last : (list : List Claim) (d : Claim) → IsTrue (holds (list ++ d ∷ []) d)
holds_last list d = holds_both list (d ∷ []) d ∙ ap (λ b. holds list d || (b || false)) (same_is_claim d) ∙ of_second (holds list d) true refl

-- and no other claim because of it
pub holds_others : (list : List Claim) (d c : Claim) → is_claim d c ≡ false → holds (list ++ d ∷ []) c ≡ holds list c
holds_others list d c e = holds_both list (d ∷ []) c ∙ ap (λ b. holds list c || (b || false)) e ∙ or-false (holds list c)

-- a claim that isn't this one stands elsewhere
elsewhere : (side : ℕ) (d c : Claim) → IsWithin side d → IsWithin side c → is_claim d c ≡ false → place_of side c ≢ place_of side d
elsewhere side d c wd wc no_claim e = false≢true (sym no_claim ∙ subst (λ x. IsTrue (is_claim d x)) (places_differ side d c wd wc (sym e)) (same_is_claim d))

module _ (side : ℕ) (flags : List Bool) (list : List Claim) (d : Claim) (size : length flags ≡ side * side) (wd : IsWithin side d) where
  pub flag_added : AreFlags side flags list → AreFlags side (slice_set flags (place_of side d) true) (list ++ d ∷ [])
  flag_added are c wc = elim (cases_Bool (is_claim d c)) [
    | inl t ↦ let q = claim_is d c t in
        subst (λ x. slice_index_or (slice_set flags (place_of side d) true) (place_of side x) false ≡ holds (list ++ d ∷ []) x) q
        (get_or-set_same flags (place_of side d) true false (subst (λ n. place_of side d < n) (sym size) (place_within side d wd)) ∙ sym (holds_last list d))
    | inr f ↦ get_or-set_other flags (place_of side d) (place_of side c) true false (elsewhere side d c wd wc f) ∙ are c wc ∙ sym (holds_others list d c f)
  ]

  pub flag_cleared : AreFlags side flags (list ++ d ∷ []) → holds list d ≡ false → AreFlags side (slice_set flags (place_of side d) false) list
  flag_cleared are none c wc = elim (cases_Bool (is_claim d c)) [
    | inl t ↦ let q = claim_is d c t in
        subst (λ x. slice_index_or (slice_set flags (place_of side d) false) (place_of side x) false ≡ holds list x) q
        (get_or-set_same flags (place_of side d) false false (subst (λ n. place_of side d < n) (sym size) (place_within side d wd)) ∙ sym none)
    | inr f ↦ get_or-set_other flags (place_of side d) (place_of side c) false false (elsewhere side d c wd wc f) ∙ are c wc ∙ holds_others list d c f
  ]

pub within_added : (side : ℕ) (list : List Claim) (d : Claim) → AllWithin side list → IsWithin side d → AllWithin side (list ++ d ∷ [])
within_added side list d all wd c h = elim (cases_Bool (is_claim d c)) [
  | inl t ↦ subst (IsWithin side) (claim_is d c t) wd
  | inr f ↦ all c (sym (holds_others list d c f) ∙ h)
]

pub within_fewer : (side : ℕ) (list : List Claim) (d : Claim) → AllWithin side (list ++ d ∷ []) → AllWithin side list
within_fewer side list d all c h = all c (holds_both list (d ∷ []) c ∙ ap (λ b. b || holds (d ∷ []) c) h)

pub once_added : (before list : List Claim) (d : Claim) → OnceAfter before list → holds (before ++ list) d ≡ false → OnceAfter before (list ++ d ∷ [])
once_added before [] d once none = (subst (λ xs. holds xs d ≡ false) (append-nil before) none, tt)
once_added before (c ∷ list) d once none = (once.0, once_added (before ++ c ∷ []) list d once.1 (subst (λ xs. holds xs d ≡ false) (sym (append_assoc before (c ∷ []) list)) none))

-- of a list without its last claim
pub once_fewer : (before list : List Claim) (d : Claim) → OnceAfter before (list ++ d ∷ []) → OnceAfter before list × (holds (before ++ list) d ≡ false)
once_fewer before [] d once = (tt, holds_first before d once.0) where
  holds_first : (xs : List Claim) (x : Claim) → holds xs x ≡ false → holds (xs ++ []) x ≡ false
  holds_first xs x h = holds_both xs [] x ∙ ap (λ b. b || false) h
once_fewer before (c ∷ list) d once =
    let rest = once_fewer (before ++ c ∷ []) list d once.1 in
    ((once.0, rest.0), subst (λ xs. holds xs d ≡ false) (append_assoc before (c ∷ []) list) rest.1)

-- What is so of the flags and the list together.
pub record AreListed (side : ℕ) (flags : List Bool) (list : List Claim) : Type 0 where
  pub size : length flags ≡ side * side
  pub flags_are : AreFlags side flags list
  pub within : AllWithin side list
  pub once : OnceAfter [] list

pub added : (side : ℕ) (flags : List Bool) (list more : List Claim) (n : ℕ) (d : Claim) → AreListed side flags list → holds list d ≡ false → IsWithin side d
    → n ≡ place_of side d → more ≡ list ++ d ∷ [] → AreListed side (slice_set flags n true) more
added side flags list more n d are none wd at is = subst (λ k. AreListed side (slice_set flags k true) more) (sym at) (subst (AreListed side (slice_set flags (place_of side d) true)) (sym is) (record {
  size = length-set flags (place_of side d) true ∙ are.size;
  flags_are = flag_added side flags list d are.size wd are.flags_are;
  within = within_added side list d are.within wd;
  once = once_added [] list d are.once none;
}))

pub fewer : (side : ℕ) (flags : List Bool) (list more : List Claim) (n : ℕ) (d : Claim) → AreListed side flags more → n ≡ place_of side d → more ≡ list ++ d ∷ []
    → AreListed side (slice_set flags n false) list
fewer side flags list more n d all at is = subst (λ k. AreListed side (slice_set flags k false) list) (sym at) (record {
  size = length-set flags (place_of side d) false ∙ are.size;
  flags_are = flag_cleared side flags list d are.size (are.within d (holds_last list d)) are.flags_are (once_fewer [] list d are.once).1;
  within = within_fewer side list d are.within;
  once = (once_fewer [] list d are.once).0;
}) where
  are : AreListed side flags (list ++ d ∷ [])
  are = subst (AreListed side flags) is all
