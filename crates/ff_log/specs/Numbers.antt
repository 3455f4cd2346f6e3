-- Which numbers texts write: decimal digits without a leading zero, and a hyphen before what is below 0.
-- For the proofs of this crate alone.
use Rattle.std.specs.Prelude.{◌==◌, ◌&&◌, not, ℕ, ℤ, pos, Bool, true, false, List, [], ◌∷◌, Option, Some, None}
use Rattle.std.specs.Prelude.{if◌then◌else◌, nat_lt, option_map, option_and_then, neg_ℤ}
use Rattle.std.specs.List.{list_all}
use Rattle.std.specs.Char.{is_ascii_digit}
use Rattle.std.specs.Str.Parse.{digits_value}

-- digits, and no zero before others
abbrev pub has_no_zero : List ℕ → Bool
has_no_zero [] = false
has_no_zero (x ∷ []) = true
has_no_zero (x ∷ y ∷ ys) = not (x == 48)

-- digits without a zero in front
abbrev pub is_decimal : List ℕ → Bool
is_decimal t = list_all is_ascii_digit t && has_no_zero t

-- the number below `bound` that is written so
abbrev pub number_of : ℕ → List ℕ → Option ℕ
number_of bound t = if is_decimal t && nat_lt (digits_value 10 t) bound then Some (digits_value 10 t) else None

-- minus the number, where it is not zero
abbrev pub below_zero : ℕ → Option ℤ
below_zero n = if n == 0 then None else Some (neg_ℤ (pos n))

-- the number of this size that is written so
abbrev pub signed_of : ℕ → List ℕ → Option ℤ
signed_of bound [] = None
signed_of bound (x ∷ xs) =
    if x == 45 then option_and_then below_zero (number_of bound xs) else option_map pos (number_of bound (x ∷ xs))
