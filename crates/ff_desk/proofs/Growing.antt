-- A journal with more entries.
use Rattle.std.proofs.Common.{◌≡◌, ℕ, ◌+◌, ◌≤◌, List, [], ◌∷◌, ◌++◌, length, take, sym, refl, ap, ◌∙◌, subst, arith}
use Rattle.std.specs.List.{filter_map}
use Rattle.std.proofs.lemmas.List.{take-append-le, length-append}
use Rattle.std.proofs.lemmas.List.Elements.{filter-append}
use Rattle.ff_types.specs.declared.cases.Case.{Case}
use Rattle.ff_board.specs.declared.opening.Opening.{Opening}
use Rattle.ff_journal.specs.declared.entries.Entry.{Entry}
use Rattle.ff_journal.specs.Epochs.{is_change, changes, last_begun, pins_after, given_of_pin, givens_of}
use Rattle.ff_desk.specs.Desks.{IsOpeningOf}

pub begun_more : (xs ys : List Entry) → last_begun xs ≤ last_begun (xs ++ ys)
begun_more xs ys =
    let h : last_begun (xs ++ ys) ≡ length (changes xs ++ changes ys) = ap (λ t. length t) (filter-append is_change xs ys) in
    let g = length-append (changes xs) (changes ys) in omega (arith, h, g)

-- an epoch's givens are settled once it has begun
pub givens_stay : (case : Case) (xs ys : List Entry) (e : ℕ) → e ≤ last_begun xs → givens_of case (xs ++ ys) e ≡ givens_of case xs e
givens_stay case xs ys e l =
    let t : take e (changes (xs ++ ys)) ≡ take e (changes xs) = ap (take e) (filter-append is_change xs ys) ∙ take-append-le e (changes xs) (changes ys) l in
    ap (λ made. case.starts ++ filter_map (given_of_pin case.pairs) (pins_after case.pairs made)) t

pub opening_stays : (case : Case) (journal more : List Entry) (e : ℕ) (o : Opening) → IsOpeningOf case journal e o
    → IsOpeningOf case (journal ++ more) e o
opening_stays case journal more e o is = record {
  begun = let a = is.begun in let b = begun_more journal more in omega (arith, a, b);
  case_is = is.case_is;
  its = is.its ∙ sym (givens_stay case journal more e is.begun);
  low = is.low;
}
