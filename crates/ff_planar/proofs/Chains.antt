-- Chains of faces, joined and turned round.
use Rattle.std.proofs.Common.{ℕ, ◌<◌, List, [], ◌∷◌, ◌++◌, length, refl, sym, subst}
use Rattle.ff_types.specs.Faces.{Share, IsChain, AreChained}

share_back : (rings : List (List ℕ)) (f g : ℕ) → Share rings f g → Share rings g f
share_back rings f g s = (s.1, s.0, s.3, s.2)

join : (rings : List (List ℕ)) (f g h : ℕ) (p q : List ℕ) → IsChain rings f p g → IsChain rings g q h → IsChain rings f (p ++ q) h
join rings f g h [] q a b = subst (λ x. IsChain rings x q h) (sym a) b
join rings f g h (x ∷ p) q a b = (a.0, a.1, join rings x g h p q a.2 b)

pub chained_on : (rings : List (List ℕ)) (f g h : ℕ) → AreChained rings f g → AreChained rings g h → AreChained rings f h
chained_on rings f g h a b = (a.0 ++ b.0, join rings f g h a.0 b.0 a.1 b.1)

back : (rings : List (List ℕ)) (f g : ℕ) (p : List ℕ) → f < length rings → IsChain rings f p g → AreChained rings g f
back rings f g [] l a = ([], sym a)
back rings f g (x ∷ p) l a = chained_on rings g x f (back rings x g p a.0 a.2) (f ∷ [], (l, share_back rings f x a.1, refl))

pub chained_back : (rings : List (List ℕ)) (f g : ℕ) → f < length rings → AreChained rings f g → AreChained rings g f
chained_back rings f g l a = back rings f g a.0 l a.1
