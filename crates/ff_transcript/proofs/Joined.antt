-- Texts that are joined one after the other.
use Rattle.std.proofs.Common.{◌≡◌, ◌∙◌, ◌++◌, ℕ, List, ap}
use Rattle.std.proofs.lemmas.List.{append_assoc}

pub three_joined : (o a b c : List ℕ) → o ++ a ++ b ++ c ≡ o ++ (a ++ b ++ c)
three_joined o a b c = ap (λ x. x ++ c) (append_assoc o a b) ∙ append_assoc o (a ++ b) c

pub four_joined : (o a b c d : List ℕ) → o ++ a ++ b ++ c ++ d ≡ o ++ (a ++ b ++ c ++ d)
four_joined o a b c d = ap (λ x. x ++ d) (three_joined o a b c) ∙ append_assoc o (a ++ b ++ c) d
