-- One more piece read, and one more written.
use Rattle.std.proofs.Common.{◌≡◌, ◌∙◌, ◌+◌, ◌≤◌, ℕ, length, arith, List, [], ◌++◌, take, drop, Option, None, Some, IfSome, refl, ap, sym, append_assoc, subst}
use Rattle.std.proofs.lemmas.List.{append-nil, drop_at, drop_all, take_all}
use Rattle.std.proofs.Math.Seq.{take-add, drop-nil}
use Rattle.ff_outside.specs.Streams.{Gives}
use Rattle.ff_top.specs.Transfer.{Tells, IsReadOff, Got, GotFront, GotPart}

-- The bytes read so far are a front of the input, and the source has the rest.
pub record HasRead (before now : Option (List ℕ)) (bytes : List ℕ) : Type 0 where
  pub so_far : IfSome before (λ input. (rest : List ℕ) × (now ≡ Some rest) × (input ≡ bytes ++ rest))

-- some input begins with what has been read
pub has_read_front : (before now : Option (List ℕ)) (bytes : List ℕ) → HasRead before now bytes → (input : List ℕ) × (rest : List ℕ) × Tells before input × (input ≡ bytes ++ rest)
has_read_front None now bytes h = (bytes, [], tt, sym (append-nil bytes))
has_read_front (Some input) now bytes h = (input, h.so_far.0, refl, h.so_far.2)

-- one byte past the limit
pub read_off_beyond : (limit : ℕ) (before now : Option (List ℕ)) (bytes : List ℕ) → HasRead before now bytes → length bytes ≡ limit + 1 → IsReadOff limit before now
read_off_beyond limit None now bytes h e = tt
read_off_beyond limit (Some input) now bytes h e = h.so_far.1 ∙ ap Some (sym (ap (drop (limit + 1)) h.so_far.2 ∙ drop_at bytes h.so_far.0 (limit + 1) e))

-- at the end
pub read_off_end : (limit : ℕ) (before now new : Option (List ℕ)) (bytes buf : List ℕ) (n : ℕ) → HasRead before now bytes
    → IfSome now (λ old. Gives old new buf n) → n ≡ 0 → length bytes ≤ limit → IsReadOff limit before new
read_off_end limit None now new bytes buf n h g e l = tt
read_off_end limit (Some input) now new bytes buf n h g e l =
    let given : Gives h.so_far.0 new buf n = subst (λ (o : Option (List ℕ)). IfSome o (λ old. Gives old new buf n)) h.so_far.1 g in
    let all : input ≡ bytes = h.so_far.2 ∙ ap (λ xs. bytes ++ xs) (given.end e) ∙ append-nil bytes in
    let left : drop n h.so_far.0 ≡ [] = ap (drop n) (given.end e) ∙ drop-nil n in
    given.rest ∙ ap Some (left ∙ sym (ap (drop (limit + 1)) all ∙ drop_all (limit + 1) bytes (omega (arith, l))))

pub got_nothing : (before : Option (List ℕ)) (bytes : List ℕ) → Got before (take 0 bytes) before
got_nothing None bytes = tt
got_nothing (Some held) bytes = ap Some (sym (append-nil held))

pub got_more : (before now new : Option (List ℕ)) (bytes : List ℕ) (i n : ℕ) → Got before (take i bytes) now
    → IfSome now (λ held. new ≡ Some (held ++ take n (drop i bytes))) → Got before (take (i + n) bytes) new
got_more None now new bytes i n h g = tt
got_more (Some held) now new bytes i n h g =
    let more : new ≡ Some ((held ++ take i bytes) ++ take n (drop i bytes)) = subst (λ (o : Option (List ℕ)). IfSome o (λ held. new ≡ Some (held ++ take n (drop i bytes)))) h g in
    more ∙ ap Some (append_assoc held (take i bytes) (take n (drop i bytes)) ∙ ap (λ xs. held ++ xs) (sym (take-add i n bytes)))

-- all of it, or a part of it, is a front of it
pub got_front : (before after : Option (List ℕ)) (bytes : List ℕ) → Got before bytes after → GotFront before bytes after
got_front before after bytes g = (length bytes, subst (λ (xs : List ℕ). Got before xs after) (sym (take_all (length bytes) bytes (omega arith))) g)

pub part_front : (before after : Option (List ℕ)) (bytes : List ℕ) → GotPart before bytes after → GotFront before bytes after
part_front before after bytes g = (g.0, g.2)
