-- The case of a folded sheet: its overlapping pairs as variables, all its constraints in order, and its creases as
-- starts. This project's own.
use Rattle.std.specs.Prelude.{◌≡◌, ℕ, ◌<◌, ◌↔◌, Bool, true, false, List, [], ◌∷◌, length, nat_lt, slice_get, slice_index_or, IsTrue, Option, Some, None}
use Rattle.std.specs.List.{filter_map}
use Rattle.ff_tables.specs.declared.orders.Order.{Order}
use Rattle.ff_tables.specs.declared.orders.Order.TheVariants.{Below, Above}
use Rattle.ff_tables.specs.declared.terms.Term.{Term}
use Rattle.ff_tables.specs.declared.terms.Constraint.{Constraint}
use Rattle.ff_tables.specs.declared.givens.Given.{Given}
use Rattle.ff_tables.specs.declared.givens.GivenBy.TheVariants.{Crease}
use Rattle.ff_tables.specs.Orders.{term_at}
use Rattle.ff_types.specs.declared.patterns.Mark.{Mark}
use Rattle.ff_types.specs.declared.patterns.Mark.TheVariants.{M, V}
use Rattle.ff_types.specs.declared.cites.Cite.{Cite}
use Rattle.ff_types.specs.declared.cites.Cite.TheVariants.{Transitivity, TacoTaco, TacoFace, TacoEdge, FlatFace, FlatEdge}
use Rattle.ff_types.specs.declared.cases.Case.{Case}
use Rattle.ff_types.specs.Pairs.{AreSorted, number_of}
use Rattle.ff_types.specs.Faces.{list_before}
use Rattle.ff_types.specs.Sheets.{Sheet, lies_up, mark_of, edges_of}
use Rattle.ff_types.specs.Inside.{Overlap}
use Rattle.ff_types.specs.Cites.{Holds, Witnessed, lesser, greater}
use Rattle.ff_types.specs.Terms.{kind_of, terms_of}

-- where a cite stands among all: its family first, then its numbers; its places don't count
abbrev pub key : Cite → List ℕ
key (Transitivity f g h at) = 0 ∷ f ∷ g ∷ h ∷ []
key (TacoTaco e k) = 1 ∷ e ∷ k ∷ []
key (TacoFace e face at) = 2 ∷ e ∷ face ∷ []
key (TacoEdge e flat) = 3 ∷ e ∷ flat ∷ []
key (FlatFace flat face at) = 4 ∷ flat ∷ face ∷ []
key (FlatEdge flat flat2) = 5 ∷ flat ∷ flat2 ∷ []

-- the term of the pair (p, q): its variable, flipped where p > q
pub record IsTermOf (pairs : List (ℕ × ℕ)) (pair : ℕ × ℕ) (term : Term) : Type 0 where
  pub variable : number_of pairs pair.0 pair.1 ≡ Some term.var
  pub turned : term.flipped ≡ nat_lt pair.1 pair.0

-- the constraint has the kind of the cite and the terms of the cite, as variables
pub record IsConstraintOf (g : Sheet) (pairs : List (ℕ × ℕ)) (c : Cite) (con : Constraint) : Type 0 where
  pub kind : con.kind ≡ kind_of c
  pub counted : length con.terms ≡ length (terms_of g c)
  pub terms : (j : ℕ) → j < length con.terms
      → IsTermOf pairs (slice_index_or (terms_of g c) j (0, 0)) (term_at con.terms j)

-- the order of the lesser face to the greater one that keeps a crease with this mark, where the lesser face is up or not
abbrev pub crease_order : Mark → Bool → Option Order
crease_order V true = Some Below
crease_order V false = Some Above
crease_order M true = Some Above
crease_order M false = Some Below
crease_order _ _ = None

-- the start by the crease, where the pair has a variable and the crease says an order
abbrev pub given_by : ℕ → Option ℕ → Option Order → Option Given
given_by e (Some var) (Some value) = Some (record { var = var; value = value; by = Crease e })
given_by e _ _ = None

-- the fact of an edge marked M or V
abbrev pub start_of : Sheet → List (ℕ × ℕ) → ℕ → Option Given
start_of g pairs e = given_by e (number_of pairs (lesser g e) (greater g e)) (crease_order (mark_of g e) (lies_up g (lesser g e)))

-- the case is the sheet's: its pairs, cites, constraints and starts are those of the sheet, all of them, in order
pub record IsCaseOf (g : Sheet) (case : Case) : Type 0 where
  -- the overlapping pairs, all of them
  pub sorted_pairs : AreSorted case.pairs
  pub pairs_are : (f h : ℕ) → f < h → Overlap g f h ↔ ((n : ℕ) × (slice_get case.pairs n ≡ Some (f, h)))
  -- the constraints that hold, all of them, each once, in order
  pub witnessed : (n : ℕ) (c : Cite) → slice_get case.cites n ≡ Some c → Witnessed g c
  pub complete : (c : Cite) → Holds g c → (n : ℕ) × (d : Cite) × (slice_get case.cites n ≡ Some d)
      × (key d ≡ key c)
  pub sorted_cites : (m n : ℕ) (c d : Cite) → m < n → slice_get case.cites m ≡ Some c
      → slice_get case.cites n ≡ Some d → IsTrue (list_before (key c) (key d))
  pub constraints_are : (n : ℕ) (c : Cite) (con : Constraint) → slice_get case.cites n ≡ Some c
      → slice_get case.system.constraints n ≡ Some con → IsConstraintOf g case.pairs c con
  -- the facts of the M and V edges, in edge order
  pub starts_are : case.starts ≡ filter_map (start_of g case.pairs) (edges_of g)
