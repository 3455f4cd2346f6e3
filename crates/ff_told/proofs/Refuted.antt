-- Givens that clash, and what an epoch's givens come to.
use Rattle.std.proofs.Common.{◌≡◌, ℕ, zero, suc, ◌+◌, ◌<◌, ◌≤◌, List, [], ◌∷◌, ◌++◌, length, map, take, drop, get_or, sym, refl, ap, ◌∙◌, subst, arith, Option}
use Rattle.std.proofs.lemmas.List.{take_more, take_all, drop-append-le, map-append}
use Rattle.std.proofs.Math.Seq.{drop-append_seam}
use Rattle.ff_tables.specs.declared.givens.Given.{Given}
use Rattle.ff_types.specs.declared.pins.Pin.{Pin}
use Rattle.ff_types.specs.declared.cases.Case.{Case}
use Rattle.ff_types.specs.Pairs.{AreSorted}
use Rattle.ff_propagate.specs.declared.facts.Fact.{Fact}
use Rattle.ff_propagate.specs.declared.facts.ClashAt.{ClashAt}
use Rattle.ff_propagate.specs.declared.facts.ClashAt.TheVariants as at
use Rattle.ff_propagate.specs.Facts.{seen}
use Rattle.ff_propagate.specs.FactRule.{MeetsFactRule}
use Rattle.ff_propagate.specs.Closing.{GivensFit}
use Rattle.ff_propagate.specs.Closure.{Clashes, IsClosure, Gives}
use Rattle.ff_propagate.specs.ClosureLaws.{DeadFactsClash, ContradictionsClash}
use Rattle.ff_log.specs.declared.logs.Log.{Log}
use Rattle.ff_log.specs.Grounds.{claim_of_pin, claim_of_given, IsAcceptedIn}
use Rattle.ff_refute.specs.Givens.{AreGivens, SayPins, IsClash}
use Rattle.ff_journal.specs.declared.entries.Entry.{Entry}
use Rattle.ff_journal.specs.declared.entries.Outcome.{Outcome}
use Rattle.ff_journal.specs.declared.entries.Outcome.TheVariants as outcome
use Rattle.ff_journal.specs.Epochs.{givens_of, pins_of, pin_of_given}
use Rattle.ff_journal.specs.Publications.{on_board, IsOutcome}
use Rattle.ff_journal.proofs.PinGivens.{pins_given, pin_given, pins_again}
use Rattle.ff_told.specs.Ends.{pins_in, IsEndOf, IsRefutedBy}

-- ---- the pins and the log

pub are_givens : (case : Case) (j : List Entry) (e : ℕ) (gs : List Given) → gs ≡ givens_of case j e → AreGivens case gs
are_givens case j e gs is = record {
  pins = pins_given case j e;
  are = is;
  by_pins = λ i g h. (pin_given case.pairs (pins_of case j e) i g h).by_pin;
  fit = λ i g h. subst (λ n. g.var < n) case.valid.paired (pin_given case.pairs (pins_of case j e) i g h).within;
}

claims_map : (pairs : List (ℕ × ℕ)) (gs : List Given) → map claim_of_pin (map (pin_of_given pairs) gs) ≡ map (claim_of_given pairs) gs
claims_map pairs [] = refl
claims_map pairs (g ∷ gs) = ap (λ cs. claim_of_given pairs g ∷ cs) (claims_map pairs gs)

-- the pins of an epoch say what its givens after the starts say
pub say_pins : (case : Case) (j : List Entry) (e : ℕ) (gs : List Given) → AreSorted case.pairs → gs ≡ givens_of case j e
    → SayPins case gs (pins_of case j e)
say_pins case j e gs sorted is =
    ap (λ ps. map claim_of_pin ps) (sym (pins_again case j e sorted)) ∙ claims_map case.pairs (pins_given case j e)
    ∙ ap (λ xs. map (claim_of_given case.pairs) xs) (sym (drop-append_seam case.starts (pins_given case j e)))
    ∙ ap (λ xs. map (claim_of_given case.pairs) (drop (length case.starts) xs)) (sym is)

none_yet : (pairs : List (ℕ × ℕ)) (n : ℕ) (gs : List Given) → map (pin_of_given pairs) (drop n (take n gs)) ≡ []
none_yet pairs zero gs = refl
none_yet pairs (suc n) [] = refl
none_yet pairs (suc n) (g ∷ gs) = none_yet pairs n gs

pub pins_begin : (pairs : List (ℕ × ℕ)) (starts xs gs : List Given) → xs ≡ starts → [] ≡ map (pin_of_given pairs) (drop (length starts) (take (length xs) gs))
pins_begin pairs starts xs gs e = sym (none_yet pairs (length starts) gs)
    ∙ ap (λ n. map (pin_of_given pairs) (drop (length starts) (take n gs))) (ap (λ ys. length ys) (sym e))

pub pins_next : (pairs : List (ℕ × ℕ)) (n i : ℕ) (gs : List Given) (g : Given) (pins more : List Pin) (p : Pin) → n ≤ i → i < length gs
    → pins ≡ map (pin_of_given pairs) (drop n (take i gs)) → p ≡ pin_of_given pairs (get_or gs i g) → more ≡ pins ++ p ∷ []
    → more ≡ map (pin_of_given pairs) (drop n (take (i + 1) gs))
pins_next pairs n i gs g pins more p l m are is add =
    let k : length (take i gs) ≡ i = taken i gs m in
    add ∙ ap (λ xs. xs ++ p ∷ []) are ∙ ap (λ x. map (pin_of_given pairs) (drop n (take i gs)) ++ x ∷ []) is
    ∙ sym (map-append (pin_of_given pairs) (drop n (take i gs)) (get_or gs i g ∷ []))
    ∙ ap (λ xs. map (pin_of_given pairs) xs) (sym (drop-append-le n (take i gs) (get_or gs i g ∷ []) (omega (arith, k, l))) ∙ ap (drop n) (sym (take_more gs i g m)))
  where
    taken : (i : ℕ) (gs : List Given) → i < length gs → length (take i gs) ≡ i
    taken zero gs l = refl
    taken (suc i) [] l = absurd (omega (arith, l))
    taken (suc i) (x ∷ gs) l = ap suc (taken i gs (omega (arith, l)))

pub pins_end : (case : Case) (i : ℕ) (gs : List Given) (pins : List Pin) → length gs ≤ i
    → pins ≡ map (pin_of_given case.pairs) (drop (length case.starts) (take i gs)) → pins ≡ pins_in case gs
pins_end case i gs pins end are = are ∙ ap (λ xs. map (pin_of_given case.pairs) (drop (length case.starts) xs)) (take_all i gs end)

fit_both : (vars : ℕ) (starts gs : List Given) → GivensFit vars starts → GivensFit vars gs → GivensFit vars (starts ++ gs)
fit_both vars [] gs f h i g is = h i g is
fit_both vars (x ∷ starts) gs f h zero g is = f 0 g is
fit_both vars (x ∷ starts) gs f h (suc i) g is = fit_both vars starts gs (λ k y at. f (suc k) y at) h i g is

-- givens that are the starts followed by pins are of the case's variables
pub givens_in : (case : Case) (gs : List Given) → AreGivens case gs → GivensFit case.system.vars gs
givens_in case gs a = subst (λ xs. GivensFit case.system.vars xs) (sym a.are) (fit_both case.system.vars case.starts a.pins case.valid.fit a.fit)

-- the pins of an epoch's givens are its pins
pub pins_are : (case : Case) (j : List Entry) (e : ℕ) (gs : List Given) → AreSorted case.pairs → gs ≡ givens_of case j e → pins_in case gs ≡ pins_of case j e
pins_are case j e gs sorted is =
    ap (λ xs. map (pin_of_given case.pairs) (drop (length case.starts) xs)) is
    ∙ ap (λ xs. map (pin_of_given case.pairs) xs) (drop-append_seam case.starts (pins_given case j e)) ∙ pins_again case j e sorted

-- the closure of givens that are refuted clashes
pub clash_clashes : DeadFactsClash → ContradictionsClash → (case : Case) (gs : List Given) (fs : List (Option Fact)) (k : ClashAt)
    → MeetsFactRule case.system.vars case.system.constraints gs fs → IsClash case.system.constraints gs fs k
    → Clashes case.system.constraints (Gives gs)
clash_clashes dead both case gs fs (at.Givens first second) rule (g, h, gi, hj, d) = both case.system.constraints gs first second g h gi hj d
clash_clashes dead both case gs fs (at.Dead c) rule d = dead case.system.vars case.system.constraints gs fs case.system.fit rule c d

pub refuted_is : DeadFactsClash → ContradictionsClash → (case : Case) (gs : List Given) (fs : List (Option Fact)) (k : ClashAt)
    (pins : List Pin) (log : Log) → MeetsFactRule case.system.vars case.system.constraints gs fs → IsClash case.system.constraints gs fs k
    → ((ps : List Pin) → SayPins case gs ps → IsAcceptedIn case ps log.lines) → pins ≡ pins_in case gs
    → IsRefutedBy case gs (outcome.Impossible pins log)
refuted_is dead both case gs fs k pins log rule clash accepted are = (clash_clashes dead both case gs fs k rule clash, are, accepted)

-- what the givens of an epoch come to is its outcome
pub end_is_outcome : (case : Case) (j : List Entry) (e : ℕ) (gs : List Given) (o : Outcome) → AreSorted case.pairs → gs ≡ givens_of case j e
    → IsEndOf case gs o → IsOutcome case j e o
end_is_outcome case j e gs (outcome.Board board) sorted is (wide, closure) =
    (wide, subst (λ xs. IsClosure case.system.constraints (Gives xs) (on_board board)) is closure)
end_is_outcome case j e gs (outcome.Impossible pins log) sorted is (clash, are, accepted) = (
  subst (λ xs. Clashes case.system.constraints (Gives xs)) is clash,
  are ∙ pins_are case j e gs sorted is,
  accepted (pins_of case j e) (say_pins case j e gs sorted is),
)

pub board_long : (fs : List (Option Fact)) → length (map seen fs) ≡ length fs
board_long [] = refl
board_long (f ∷ fs) = ap suc (board_long fs)
