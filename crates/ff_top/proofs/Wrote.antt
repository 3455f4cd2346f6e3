-- Pieces written one after the other.
use Rattle.std.proofs.Common.{◌≡◌, ◌∙◌, inl, inr, ℕ, zero, suc, ◌+◌, ◌<◌, List, [], ◌++◌, length, length-append, take, Option, None, Some, Result, Ok, Err, OnErr, ap, sym, subst, append_assoc, arith}
use Rattle.std.proofs.lemmas.List.{append-nil, take-append-le}
use Rattle.std.proofs.Math.Seq.{take-append_seam, take-append-add}
use Rattle.ff_basics.proofs.Numbers.{below_or_last}
use Rattle.ff_report.specs.Heads.{lines_of}
use Rattle.ff_top.specs.Transfer.{Got, GotFront, GotPart}

-- what comes before a piece, the piece, and what comes after it
pub split : (line : ℕ → List ℕ) (k n : ℕ) → k < n → (rest : List ℕ) × (lines_of line n ≡ lines_of line k ++ (line k ++ rest))
split line k zero l = absurd (omega (arith, l))
split line k (suc m) l = elim (below_or_last m k l) [
  | inl less ↦ let more = split line k m less in
      (more.0 ++ line m, ap (λ t. t ++ line m) more.1 ∙ append_assoc (lines_of line k) (line k ++ more.0) (line m) ∙ ap (λ t. lines_of line k ++ t) (append_assoc (line k) more.0 (line m)))
  | inr same ↦ ([], subst (λ j. lines_of line m ++ line m ≡ lines_of line j ++ (line j ++ [])) (sym same) (ap (λ t. lines_of line m ++ t) (sym (append-nil (line m)))))
]

-- two pieces, one after the other
pub got_then : (before mid after : Option (List ℕ)) (x y : List ℕ) → Got before x mid → Got mid y after → Got before (x ++ y) after
got_then None mid after x y a b = tt
got_then (Some held) mid after x y a b =
    let more : after ≡ Some ((held ++ x) ++ y) = subst (λ o. Got o y after) a b in
    more ∙ ap Some (append_assoc held x y)

-- the pieces so far are a front of the text
pub front_so_far : (before after : Option (List ℕ)) (x z text : List ℕ) → Got before x after → text ≡ x ++ z → GotFront before text after
front_so_far before after x z text a e = (length x, subst (λ t. Got before t after) (sym (ap (take (length x)) e ∙ take-append_seam x z)) a)

-- with a part of the next piece they are a part of the text
pub part_so_far : (before mid after : Option (List ℕ)) (x y z text : List ℕ) → Got before x mid → GotPart mid y after → text ≡ x ++ (y ++ z) → GotPart before text after
part_so_far before mid after x y z text a (n, less, b) e = (
  length x + n,
  omega (arith, less, ap length e, length-append x (y ++ z), length-append y z),
  subst (λ t. Got before t after) (sym (ap (take (length x + n)) e ∙ take-append-add x (y ++ z) n ∙ ap (λ t. x ++ t) (take-append-le n y z (omega (arith, less))))) (got_then before mid after x (take n y) a b),
)

-- ---- the pieces so far, and all of them

pub on_err : {T E : Type 0} (r : Result T E) (P : Type 0) → P → OnErr r P
on_err (Ok x) P p = tt
on_err (Err e) P p = p

pub all_written : (before after : Option (List ℕ)) (line : ℕ → List ℕ) (k n : ℕ) → k ≡ n → Got before (lines_of line k) after → Got before (lines_of line n) after
all_written before after line k n e got = subst (λ m. Got before (lines_of line m) after) e got

pub so_far : (before after : Option (List ℕ)) (line : ℕ → List ℕ) (k n : ℕ) → k < n → Got before (lines_of line k) after → GotFront before (lines_of line n) after
so_far before after line k n l got =
    let s = split line k n l in
    front_so_far before after (lines_of line k) (line k ++ s.0) (lines_of line n) got s.1

pub part_of_all : (before mid after : Option (List ℕ)) (line : ℕ → List ℕ) (k n : ℕ) → k < n → Got before (lines_of line k) mid → GotPart mid (line k) after → GotPart before (lines_of line n) after
part_of_all before mid after line k n l got part =
    let s = split line k n l in
    part_so_far before mid after (lines_of line k) (line k) s.0 (lines_of line n) got part s.1
