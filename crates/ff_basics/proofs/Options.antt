-- Values that are there, and that aren't.
use Rattle.std.proofs.Common.{◌≡◌, ◌⊎◌, inl, inr, Option, Some, None, refl}

pub none_some : {A : Type 0} (a : A) → None ≡ Some a → ⊥
none_some a e = cc

-- one value is there
pub some_same : {A : Type 0} {s t : A} → Some s ≡ Some t → s ≡ t
some_same e = cc

pub same_value : {A : Type 0} {o : Option A} {a b : A} → o ≡ Some a → o ≡ Some b → a ≡ b
same_value p q = cc

pub some_none : {A B : Type 0} {o : Option B} {s : B} → o ≡ Some s → o ≡ None → A
some_none p q = cc

pub some_or_none : {A : Type 0} (o : Option A) → ((s : A) × (o ≡ Some s)) ⊎ (o ≡ None)
some_or_none (Some s) = inl (s, refl)
some_or_none None = inr refl
