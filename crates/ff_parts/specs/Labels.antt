-- Variables that are labelled by their parts, while constraints are followed from one to the next.
-- For the proofs of this crate alone.
use Rattle.std.specs.Prelude.{◌≡◌, ℕ, zero, suc, ◌<◌, ◌≤◌, ◌^◌, ◌⊎◌, List, [], ◌∷◌, ◌++◌, length, slice_get, slice_index, slice_set, Option, Some, None, vec_capacity}
use Rattle.ff_tables.specs.declared.orders.Order.{Order}
use Rattle.ff_tables.specs.declared.terms.Term.{Term}
use Rattle.ff_tables.specs.declared.terms.Constraint.{Constraint}
use Rattle.ff_tables.specs.Orders.{term_at}
use Rattle.ff_propagate.specs.Parts.{IsUndecided, AreConnected}
use Rattle.ff_parts.specs.declared.labels.Labels.{Labels}

-- one more than the number of the variable's part, 0 where it has none
abbrev pub label : Labels → ℕ → ℕ
label l v = slice_index l.part_of.items v

-- how many numbers aren't 0
abbrev pub count_set : List ℕ → ℕ
count_set [] = 0
count_set (zero ∷ xs) = count_set xs
count_set (suc n ∷ xs) = suc (count_set xs)

-- Labelled variables are undecided, and connected to the first variable of their part.
pub record IsLabelling (vars : ℕ) (cons : List Constraint) (value : ℕ → Option Order) (l : Labels) : Type 0
  where
    pub few : vars < 2 ^ 32
    pub wide : length l.part_of.items ≡ vars
    pub room : vars ≤ vec_capacity l.queue
    pub count : length l.queue.items ≤ count_set l.part_of.items
    pub queued : (i : ℕ) → i < length l.queue.items → 0 < label l (slice_index l.queue.items i)
    pub undecided : (v : ℕ) → 0 < label l v → IsUndecided vars value v
    pub reached : (v p : ℕ) → label l v ≡ suc p
        → (p < length l.firsts.items) × AreConnected vars cons value (slice_index l.firsts.items p) v

-- undecided variables of the constraint have one label
abbrev pub AreAlike : (ℕ → Option Order) → Labels → Constraint → Type 0
AreAlike value l con = (i j : ℕ) → i < length con.terms → j < length con.terms
    → value (term_at con.terms i).var ≡ None → value (term_at con.terms j).var ≡ None
    → label l (term_at con.terms i).var ≡ label l (term_at con.terms j).var

-- no label, or that of the part p
abbrev pub IsOwn : ℕ → ℕ → Type 0
IsOwn p n = (n ≡ 0) ⊎ (n ≡ p)

-- undecided variables of the constraint have one label, or each has none or that of the part p
abbrev pub AreMixed : (ℕ → Option Order) → ℕ → Labels → Constraint → Type 0
AreMixed value p l con = (i j : ℕ) → i < length con.terms → j < length con.terms
    → value (term_at con.terms i).var ≡ None → value (term_at con.terms j).var ≡ None
    → (label l (term_at con.terms i).var ≡ label l (term_at con.terms j).var)
    ⊎ (IsOwn p (label l (term_at con.terms i).var) × IsOwn p (label l (term_at con.terms j).var))

-- so it is of each constraint
abbrev pub AllMixed : List Constraint → (ℕ → Option Order) → ℕ → Labels → Type 0
AllMixed cons value p l = (c : ℕ) (con : Constraint) → slice_get cons c ≡ Some con → AreMixed value p l con

-- a variable of the terms was reached as the head-th or later
abbrev pub Waits : Labels → ℕ → List Term → Type 0
Waits l head ts = (i : ℕ) × (j : ℕ) × (head ≤ i) × (i < length l.queue.items) × (j < length ts)
    × (slice_index l.queue.items i ≡ (term_at ts j).var)

-- the constraint waits, or its undecided variables are alike
abbrev pub Rests : (ℕ → Option Order) → Labels → ℕ → Constraint → Type 0
Rests value l head con = Waits l head con.terms ⊎ AreAlike value l con

-- so it is of each constraint
abbrev pub Ready : List Constraint → (ℕ → Option Order) → Labels → ℕ → Type 0
Ready cons value l head = (c : ℕ) (con : Constraint) → slice_get cons c ≡ Some con → Rests value l head con

-- the variables reached from the head-th on are of the part p
abbrev pub AreOf : ℕ → Labels → ℕ → Type 0
AreOf p l head = (i : ℕ) → head ≤ i → i < length l.queue.items → label l (slice_index l.queue.items i) ≡ p

-- variables without a label got the label p, and were put at the end of the queue
pub record Spreads (p : ℕ) (old new : Labels) : Type 0 where
  pub count : length old.queue.items ≤ length new.queue.items
  pub front : (i : ℕ) → i < length old.queue.items
      → slice_index new.queue.items i ≡ slice_index old.queue.items i
  pub kept : (v : ℕ) → 0 < label old v → label new v ≡ label old v
  pub changed : (v : ℕ) → (label new v ≡ label old v)
      ⊎ ((label old v ≡ 0) × (label new v ≡ p)
      × ((i : ℕ) × (length old.queue.items ≤ i) × (i < length new.queue.items)
      × (slice_index new.queue.items i ≡ v)))
  pub added : (i : ℕ) → length old.queue.items ≤ i → i < length new.queue.items
      → label new (slice_index new.queue.items i) ≡ p
  pub firsts : new.firsts ≡ old.firsts

-- what holds while the part p, the last one begun, is followed
pub record IsSpreading (vars : ℕ) (cons : List Constraint) (value : ℕ → Option Order) (p : ℕ)
    (l : Labels) : Type 0 where
  pub labelling : IsLabelling vars cons value l
  pub mixed : AllMixed cons value p l
  pub last : p ≡ length l.firsts.items
  pub some : 0 < p

-- all undecided variables of the constraint have labels
abbrev pub AllLabelled : (ℕ → Option Order) → Labels → Constraint → ℕ → Type 0
AllLabelled value l con n = (j : ℕ) → j < n → value (term_at con.terms j).var ≡ None
    → 0 < label l (term_at con.terms j).var

-- some variable of the constraint is of the part p
abbrev pub HasOwn : ℕ → Labels → Constraint → Type 0
HasOwn p l con = (i : ℕ) × (i < length con.terms) × (label l (term_at con.terms i).var ≡ p)

-- the variable v gets the label p
pub record IsLabelled (p v : ℕ) (old new : Labels) : Type 0 where
  pub none : label old v ≡ 0
  pub part_of : new.part_of.items ≡ slice_set old.part_of.items v p
  pub queue : new.queue.items ≡ old.queue.items ++ v ∷ []
  pub room : vec_capacity new.queue ≡ vec_capacity old.queue
  pub firsts : new.firsts ≡ old.firsts

-- an undecided variable without a label gets the label p
abbrev pub Reaches : (ℕ → Option Order) → ℕ → ℕ → Labels → Labels → Type 0
Reaches value p v old new = ((value v ≡ None) × IsLabelled p v old new)
    ⊎ ((new ≡ old) × (value v ≡ None → 0 < label old v))

-- the variable is one of the constraint's
abbrev pub HasVar : Constraint → ℕ → Type 0
HasVar con v = (i : ℕ) × (i < length con.terms) × ((term_at con.terms i).var ≡ v)

-- What holds where each variable below v that is undecided has been labelled: the constraints' undecided variables are alike,
-- and each part's first variable is its least.
pub record IsBelow (vars : ℕ) (cons : List Constraint) (value : ℕ → Option Order) (v : ℕ) (l : Labels) : Type
    0 where
  pub labelling : IsLabelling vars cons value l
  pub room : vars ≤ vec_capacity l.firsts
  pub alike : (c : ℕ) (con : Constraint) → slice_get cons c ≡ Some con → AreAlike value l con
  pub first : (p : ℕ) → p < length l.firsts.items → label l (slice_index l.firsts.items p) ≡ suc p
  pub least : (u p : ℕ) → label l u ≡ suc p → slice_index l.firsts.items p ≤ u
  pub rising : (p q : ℕ) → p < q → q < length l.firsts.items
      → slice_index l.firsts.items p < slice_index l.firsts.items q
  pub below : (p : ℕ) → p < length l.firsts.items → slice_index l.firsts.items p < v
  pub done : (u : ℕ) → u < v → IsUndecided vars value u → 0 < label l u
