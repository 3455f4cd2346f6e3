-- Claims are taken back, the last one first.
use Rattle.std.proofs.Common.{◌≡◌, ◌∙◌, ℕ, ◌≤◌, List, [], ◌∷◌, ◌++◌, length, take, sym, ap, arith}
use Rattle.std.proofs.lemmas.List.{length-append, take-append-le, take-take, take_all}
use Rattle.ff_log.specs.declared.claims.Claim.{Claim}
use Rattle.ff_checker.specs.declared.held.Held.{Held}
use Rattle.ff_checker.specs.LogStates.{IsHeld}

-- what is left are the first claims, and the first `mark` are among them
pub record IsUndoing (old : Held) (mark : ℕ) (h : Held) : Type 0 where
  pub held : IsHeld h
  pub side : h.side ≡ old.side
  pub front : h.list.items ≡ take (length h.list.items) old.list.items
  pub enough : mark ≤ length h.list.items

-- a front without its last claim
pub shorter_front : (old list more : List Claim) (d : Claim) → more ≡ take (length more) old → more ≡ list ++ d ∷ [] → list ≡ take (length list) old
shorter_front old list more d front is =
    sym (take_all (length list) list (omega arith)) ∙ sym (take-append-le (length list) list (d ∷ []) (omega arith)) ∙ ap (take (length list)) (sym is ∙ front)
    ∙ fewer_taken
  where
    fewer_taken : take (length list) (take (length more) old) ≡ take (length list) old
    fewer_taken = take-take (length list) (length more) old (omega (arith, ap length is, length-append list (d ∷ [])))
