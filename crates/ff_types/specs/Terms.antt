-- The kind and the terms of each constraint of a folded sheet. Flat-Folder's families; the order of the terms is this
-- project's own.
use Rattle.std.specs.Prelude.{ℕ, Bool, List, [], ◌∷◌, if◌then◌else◌, map}
use Rattle.ff_tables.specs.declared.orders.Order.{Order}
use Rattle.ff_tables.specs.declared.orders.Order.TheVariants.{Below, Above}
use Rattle.ff_tables.specs.declared.terms.Kind.{Kind}
use Rattle.ff_tables.specs.declared.terms.Kind.TheVariants as kind
use Rattle.ff_tables.specs.Rows.{HasRow}
use Rattle.ff_types.specs.declared.cites.Cite.{Cite}
use Rattle.ff_types.specs.declared.cites.Cite.TheVariants.{Transitivity, TacoTaco, TacoFace, TacoEdge, FlatFace, FlatEdge}
use Rattle.ff_types.specs.Sheets.{Sheet}
use Rattle.ff_types.specs.Cites.{lesser, greater, on_one_side}

-- that face of the edge k which lies on the side of the edge e on which the face f lies, and the other one
abbrev pub matching : Sheet → ℕ → ℕ → ℕ → ℕ
matching g e f k = if on_one_side g e (f ∷ lesser g k ∷ []) then lesser g k else greater g k

-- the face of the edge k on the other side of e than the face f
abbrev pub opposed : Sheet → ℕ → ℕ → ℕ → ℕ
opposed g e f k = if on_one_side g e (f ∷ lesser g k ∷ []) then greater g k else lesser g k

-- the family of constraints that a cite is of
abbrev pub kind_of : Cite → Kind
kind_of (Transitivity f g h at) = kind.Transitivity
kind_of (TacoTaco e k) = kind.TacoTaco
kind_of (TacoFace e face at) = kind.TacoTortilla
kind_of (TacoEdge e flat) = kind.TacoTortilla
kind_of (FlatFace flat face at) = kind.TortillaTortilla
kind_of (FlatEdge flat flat2) = kind.TortillaTortilla

-- a term (p, q) has the value Above where p is above q
abbrev pub terms_of : Sheet → Cite → List (ℕ × ℕ)
terms_of g (Transitivity f h k at) = (f, h) ∷ (f, k) ∷ (h, k) ∷ []
terms_of g (TacoTaco e k) =
    (lesser g e, greater g e)
    ∷ (lesser g e, lesser g k)
    ∷ (lesser g e, greater g k)
    ∷ (greater g e, lesser g k)
    ∷ (greater g e, greater g k)
    ∷ (lesser g k, greater g k)
    ∷ []
terms_of g (TacoFace e face at) = (lesser g e, face) ∷ (greater g e, face) ∷ []
terms_of g (TacoEdge e flat) = (lesser g e, matching g e (lesser g e) flat)
    ∷ (greater g e, matching g e (lesser g e) flat) ∷ []
terms_of g (FlatFace flat face at) = (lesser g flat, face) ∷ (greater g flat, face) ∷ []
terms_of g (FlatEdge flat flat2) = (lesser g flat, matching g flat (lesser g flat) flat2)
    ∷ (greater g flat, opposed g flat (lesser g flat) flat2) ∷ []

-- the value of a term in a set of pairs
abbrev pub value_in : (ℕ → ℕ → Bool) → ℕ × ℕ → Order
value_in above term = if above term.0 term.1 then Above else Below

-- the values of the terms together are a row of the constraint's kind
abbrev pub HasItsRow : Sheet → (ℕ → ℕ → Bool) → Cite → Type 0
HasItsRow g above c = (k : ℕ) × HasRow (kind_of c) k (map (value_in above) (terms_of g c))
