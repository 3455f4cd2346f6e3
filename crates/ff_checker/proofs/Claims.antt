-- Claims that hold, and one more.
use Rattle.std.proofs.Common.{◌≡◌, ◌==◌, ◌||◌, ◌⊎◌, inl, inr, Bool, true, false, List, [], ◌∷◌, ◌++◌, cond, sym, ◌∙◌, ap₂, IsTrue}
use Rattle.std.proofs.lemmas.Bool.{and_parts, eqb-true, false≢true}
use Rattle.std.proofs.lemmas.List.Folds.{list_any-append}
use Rattle.ff_basics.proofs.Tests.{either_of}
use Rattle.ff_log.specs.declared.claims.Claim.{Claim}
use Rattle.ff_log.specs.Logs.{is_claim, holds, with_claim}

same_claim : (c d : Claim) → c.upper ≡ d.upper → c.lower ≡ d.lower → c ≡ d
same_claim c d u l = ap₂ (λ x y. record { upper = x; lower = y }) u l

-- what the test tells
pub claim_is : (c d : Claim) → IsTrue (is_claim c d) → c ≡ d
claim_is c d h = let both = and_parts (c.upper == d.upper) (c.lower == d.lower) h in
    same_claim c d (eqb-true c.upper d.upper both.0) (eqb-true c.lower d.lower both.1)

-- a claim that holds in two lists holds in one
pub holds_both : (xs ys : List Claim) (c : Claim) → holds (xs ++ ys) c ≡ (holds xs c || holds ys c)
holds_both xs ys c = list_any-append (λ d. is_claim d c) xs ys

holds_one : (d c : Claim) → IsTrue (holds (d ∷ []) c) → d ≡ c
holds_one d c h = elim (either_of (is_claim d c) false h) [ inl e ↦ claim_is d c e | inr e ↦ absurd (false≢true e) ]

by_test : (b : Bool) (held : List Claim) (d c : Claim) → IsTrue (holds (cond b held (held ++ d ∷ [])) c) → IsTrue (holds held c) ⊎ (d ≡ c)
by_test true held d c h = inl h
by_test false held d c h = elim (either_of (holds held c) (holds (d ∷ []) c) (sym (holds_both held (d ∷ []) c) ∙ h)) [ inl e ↦ inl e | inr e ↦ inr (holds_one d c e) ]

-- what holds then has held, or is the claim
pub held_before : (held : List Claim) (d c : Claim) → IsTrue (holds (with_claim held d) c) → IsTrue (holds held c) ⊎ (d ≡ c)
held_before held d c h = by_test (holds held d) held d c h
