-- Solutions, turns and pages of small systems, computed from their definitions.
use Rattle.std.proofs.Common.{◌≡◌, ℕ, true, false, List, [], ◌∷◌, refl, Option, None, length}
use Rattle.ff_tables.specs.declared.orders.Order.{Order}
use Rattle.ff_tables.specs.declared.orders.Order.TheVariants.{Below, Above}
use Rattle.ff_tables.specs.declared.terms.Kind.TheVariants.{TacoTaco, TacoTortilla, Transitivity}
use Rattle.ff_tables.specs.declared.terms.Term.{Term}
use Rattle.ff_tables.specs.declared.terms.Constraint.{Constraint}
use Rattle.ff_tables.specs.Rows.{rows_of}
use Rattle.ff_propagate.specs.Solutions.{solutions_of}
use Rattle.ff_propagate.specs.Trees.{Tree, visits, turns_of, turns_to_page, found}
use Rattle.ff_propagate.specs.Trees.Tree.{Clash, Full, Fork}

abbrev plain : ℕ → Term
plain v = record { var = v; flipped = false }

abbrev turned : ℕ → Term
turned v = record { var = v; flipped = true }

abbrev triple : ℕ → ℕ → ℕ → Constraint
triple a b c = record { kind = Transitivity; terms = plain a ∷ plain b ∷ plain c ∷ [] }

abbrev unknown : ℕ → Option Order
unknown v = None

-- three faces in a strip, both creases unassigned: six orders
strip_uu : solutions_of (triple 0 1 2 ∷ []) unknown (0 ∷ 1 ∷ 2 ∷ []) ≡ (Below ∷ Below ∷ Below ∷ [])
    ∷ (Below ∷ Below ∷ Above ∷ []) ∷ (Below ∷ Above ∷ Above ∷ []) ∷ (Above ∷ Below ∷ Below ∷ [])
    ∷ (Above ∷ Above ∷ Below ∷ []) ∷ (Above ∷ Above ∷ Above ∷ []) ∷ []
unfolding rows_of
strip_uu = refl

abbrev triples_of_four : List Constraint
triples_of_four = triple 0 1 3 ∷ triple 0 2 4 ∷ triple 1 2 5 ∷ triple 3 4 5 ∷ []

abbrev taco_taco : List Term → Constraint
taco_taco terms = record { kind = TacoTaco; terms = terms }

-- four faces in a strip, all creases unassigned: the first and the third crease are folded on one side
strip_uuu : length (solutions_of (taco_taco (plain 0 ∷ plain 1 ∷ plain 2 ∷ plain 3 ∷ plain 4 ∷ plain 5 ∷ [])
    ∷ triples_of_four) unknown (0 ∷ 1 ∷ 2 ∷ 3 ∷ 4 ∷ 5 ∷ [])) ≡ 16
unfolding rows_of
strip_uuu = refl

-- without the taco-taco there would be all 24 orders
strip_without : length (solutions_of triples_of_four unknown (0 ∷ 1 ∷ 2 ∷ 3 ∷ 4 ∷ 5 ∷ [])) ≡ 24
unfolding rows_of
strip_without = refl

-- a square folded twice: eight orders, as the worked row has them
midlines : solutions_of (taco_taco (plain 0 ∷ plain 1 ∷ plain 2 ∷ plain 3 ∷ plain 4 ∷ plain 5 ∷ [])
    ∷ taco_taco (plain 1 ∷ plain 0 ∷ plain 2 ∷ turned 3 ∷ plain 5 ∷ plain 4 ∷ []) ∷ triples_of_four) unknown (0
    ∷ 1 ∷ 2 ∷ 3 ∷ 4 ∷ 5 ∷ [])
    ≡ (Below ∷ Below ∷ Below ∷ Below ∷ Below ∷ Above ∷ []) ∷ (Below ∷ Below ∷ Below ∷ Above ∷ Above ∷ Below ∷ [])
    ∷ (Below ∷ Above ∷ Below ∷ Above ∷ Below ∷ Below ∷ [])
    ∷ (Below ∷ Above ∷ Above ∷ Above ∷ Above ∷ Above ∷ [])
    ∷ (Above ∷ Below ∷ Below ∷ Below ∷ Below ∷ Below ∷ [])
    ∷ (Above ∷ Below ∷ Above ∷ Below ∷ Above ∷ Above ∷ [])
    ∷ (Above ∷ Above ∷ Above ∷ Below ∷ Below ∷ Above ∷ [])
    ∷ (Above ∷ Above ∷ Above ∷ Above ∷ Above ∷ Below ∷ []) ∷ []
unfolding rows_of
midlines = refl

abbrev equal : Term → Term → Constraint
equal s t = record { kind = TacoTortilla; terms = s ∷ t ∷ [] }

-- two constraints that contradict each other: no solution, a tree of 3 nodes, 6 turns
contradiction : solutions_of (equal (plain 0) (plain 1) ∷ equal (plain 0) (turned 1) ∷ []) unknown (0 ∷ 1 ∷ []) ≡ []
unfolding rows_of
contradiction = refl

contradiction_turns : turns_of (0 ∷ 1 ∷ []) (Fork Clash Clash) ≡ 6
contradiction_turns = refl

-- The tree of three faces in a strip has 11 nodes, 33 turns, and six solutions.
abbrev strip_tree : Tree
strip_tree = Fork (Fork (Fork (Full (Below ∷ Below ∷ Below ∷ [])) (Full (Below ∷ Below ∷ Above
    ∷ []))) (Full (Below ∷ Above ∷ Above ∷ [])))
    (Fork (Full (Above ∷ Below ∷ Below ∷ [])) (Fork (Full (Above ∷ Above ∷ Below ∷ [])) (Full (Above ∷ Above
    ∷ Above ∷ []))))

strip_turns : (length (visits strip_tree) ≡ 11) × (turns_of (0 ∷ 1 ∷ 2 ∷ []) strip_tree ≡ 33)
    × (turns_to_page (0 ∷ 1 ∷ 2 ∷ []) strip_tree 0 ≡ 33)
strip_turns = (refl, refl, refl)

strip_found : found (visits strip_tree) ≡ solutions_of (triple 0 1 2 ∷ []) unknown (0 ∷ 1 ∷ 2 ∷ [])
unfolding rows_of
strip_found = refl
