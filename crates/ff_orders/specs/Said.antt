-- What given orders of faces say. FOLD 1.1: the first face of an item lies on the side to which the second one's normal points
-- where the sign is 1.
use Rattle.std.specs.Prelude.{ℕ, ◌==◌, pos, negsuc, Bool, true, false, not, ◌&&◌, List, IsTrue, ◌↔◌, if◌then◌else◌, Option, Some, None}
use Rattle.std.specs.List.{list_any}
use Rattle.std.specs.Ordering.{int_eq}
use Rattle.ff_types.specs.Foldings.{is_up}
use Rattle.ff_types.specs.Sheets.{Sheet}
use Rattle.ff_types.specs.Inside.{Overlap}
use Rattle.ff_orders.specs.declared.items.OrderItem.{OrderItem}

-- the upper face and the lower one, where the item's first face is the upper one or isn't
abbrev pub as_upper : Bool → OrderItem → ℕ × ℕ
as_upper true item = (item.f, item.g)
as_upper false item = (item.g, item.f)

-- What an item says: the upper face and the lower one. It says "f above g" where s is 1 and g is up, or s is -1 and g is down, and
-- "g above f" where s is the other one of these two. Whether f is up doesn't count. With any other s it says nothing.
abbrev pub said_by : List Bool → OrderItem → Option (ℕ × ℕ)
said_by up item =
    if int_eq item.s (pos 1) then Some (as_upper (is_up up item.g) item)
    else (if int_eq item.s (negsuc 0) then Some (as_upper (not (is_up up item.g)) item) else None)

-- it is this pair
abbrev pub is_pair : ℕ → ℕ → Option (ℕ × ℕ) → Bool
is_pair f h (Some p) = p.0 == f && p.1 == h
is_pair f h None = false

-- some item says "f above h"
abbrev pub is_said : List Bool → List OrderItem → ℕ → ℕ → Bool
is_said up items f h = list_any (λ item. is_pair f h (said_by up item)) items

-- The set of the said pairs: those of overlapping faces. What is said of others says nothing.
abbrev pub IsSaid : Sheet → List OrderItem → (ℕ → ℕ → Bool) → Type 0
IsSaid g items above = (f h : ℕ) → IsTrue (above f h) ↔ (Overlap g f h × IsTrue (is_said g.up items f h))
