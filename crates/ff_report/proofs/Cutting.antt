-- The lines of texts that are put together, and where a text is told by its lines.
use Rattle.std.proofs.Common.{◌≡◌, ◌⊎◌, inl, inr, ℕ, ◌==◌, ◌||◌, Bool, true, false, if◌then◌else◌, List, [], ◌∷◌, ◌++◌, map, ◌∙◌, refl, ap, sym, subst, append_assoc, arith}
use Rattle.std.specs.List.{list_any, flat_map}
use Rattle.std.proofs.lemmas.Bool.{false≢true}
use Rattle.std.proofs.lemmas.List.{append-nil}
use Rattle.ff_report.specs.Alike.{lengthen, lines_in, is_log, Piece, Line, Log, after_log, pieces_of, AreAlike, HasNoLog}

-- ---- texts whose last line is ended

abbrev pub EndsLine : List ℕ → Type 0
EndsLine t = (y : List ℕ) × (t ≡ y ++ 10 ∷ [])

-- nothing, or a text whose last line is ended
abbrev pub IsEnded : List ℕ → Type 0
IsEnded t = (t ≡ []) ⊎ EndsLine t

pub ends_after : (a b : List ℕ) → EndsLine b → EndsLine (a ++ b)
ends_after a b (y, e) = (a ++ y, ap (λ (t : List ℕ). a ++ t) e ∙ sym (append_assoc a y (10 ∷ [])))

pub ended_then : (a b : List ℕ) → IsEnded a → IsEnded b → IsEnded (a ++ b)
ended_then a b p (inl e) = subst (λ (t : List ℕ). IsEnded (a ++ t)) (sym e) (subst (λ (t : List ℕ). IsEnded t) (sym (append-nil a)) p)
ended_then a b p (inr e) = inr (ends_after a b e)

-- ---- the lines of a text

pub line_feed : (c : ℕ) (t : List ℕ) → (c == 10) ≡ true → lines_in (c ∷ t) ≡ [] ∷ lines_in t
line_feed c t e = ap (λ b. if b then [] ∷ lines_in t else lengthen c (lines_in t)) e

pub letter : (c : ℕ) (t : List ℕ) → (c == 10) ≡ false → lines_in (c ∷ t) ≡ lengthen c (lines_in t)
letter c t e = ap (λ b. if b then [] ∷ lines_in t else lengthen c (lines_in t)) e

-- the lines of the text with its last line ended, and what comes after it
record Cut (x : List ℕ) : Type 0 where
  first : List ℕ
  rest : List (List ℕ)
  is : (y : List ℕ) → lines_in (x ++ 10 ∷ y) ≡ first ∷ (rest ++ lines_in y)

cut : (x : List ℕ) → Cut x
cut [] = record { first = []; rest = []; is = λ y. refl }
cut (c ∷ x) = by (c == 10) refl (cut x) where
  by : (b : Bool) → (c == 10) ≡ b → Cut x → Cut (c ∷ x)
  by true e h = record { first = []; rest = h.first ∷ h.rest; is = λ y. line_feed c (x ++ 10 ∷ y) e ∙ ap (λ (ls : List (List ℕ)). [] ∷ ls) (h.is y) }
  by false e h = record { first = c ∷ h.first; rest = h.rest; is = λ y. letter c (x ++ 10 ∷ y) e ∙ ap (lengthen c) (h.is y) }

cut_then : (y x : List ℕ) → Cut y → lines_in ((y ++ 10 ∷ []) ++ x) ≡ lines_in (y ++ 10 ∷ []) ++ lines_in x
cut_then y x h = ap lines_in (append_assoc y (10 ∷ []) x) ∙ h.is x
    ∙ sym (ap (λ (ls : List (List ℕ)). ls ++ lines_in x) (h.is []) ∙ ap (λ (ls : List (List ℕ)). h.first ∷ (ls ++ lines_in x)) (append-nil h.rest))

pub lines_then : (a x : List ℕ) → IsEnded a → lines_in (a ++ x) ≡ lines_in a ++ lines_in x
lines_then a x (inl e) = subst (λ (t : List ℕ). lines_in (t ++ x) ≡ lines_in t ++ lines_in x) (sym e) refl
lines_then a x (inr (y, e)) = subst (λ (t : List ℕ). lines_in (t ++ x) ≡ lines_in t ++ lines_in x) (sym e) (cut_then y x (cut y))

-- ---- a text from its lines

abbrev text_of : List (List ℕ) → List ℕ
text_of ls = flat_map (λ (l : List ℕ). l ++ 10 ∷ []) ls

text_again : (y : List ℕ) → text_of (lines_in (y ++ 10 ∷ [])) ≡ y ++ 10 ∷ []
text_again [] = refl
text_again (c ∷ y) = by (c == 10) refl (cut y) (text_again y) where
  by : (b : Bool) → (c == 10) ≡ b → Cut y → text_of (lines_in (y ++ 10 ∷ [])) ≡ y ++ 10 ∷ [] → text_of (lines_in (c ∷ (y ++ 10 ∷ []))) ≡ c ∷ (y ++ 10 ∷ [])
  by true e h again =
      let same : 10 ≡ c = grind (arith, e) in
      ap text_of (line_feed c (y ++ 10 ∷ []) e) ∙ ap (λ (t : List ℕ). 10 ∷ t) again ∙ ap (λ (d : ℕ). d ∷ (y ++ 10 ∷ [])) same
  by false e h again = ap text_of (letter c (y ++ 10 ∷ []) e) ∙ ap (λ (ls : List (List ℕ)). text_of (lengthen c ls)) (h.is [])
      ∙ ap (λ (t : List ℕ). c ∷ t) (sym (ap text_of (h.is [])) ∙ again)

text_back : (x : List ℕ) → IsEnded x → text_of (lines_in x) ≡ x
text_back x (inl e) = subst (λ (t : List ℕ). text_of (lines_in t) ≡ t) (sym e) refl
text_back x (inr (y, e)) = subst (λ (t : List ℕ). text_of (lines_in t) ≡ t) (sym e) (text_again y)

-- ---- pieces of lines that are put together

abbrev pub join : List Piece → List Piece → List Piece
join [] q = q
join (Line l ∷ p) q = Line l ∷ join p q
join (Log ∷ p) q = after_log (join p q)

after_twice : (p : List Piece) → after_log (after_log p) ≡ after_log p
after_twice [] = refl
after_twice (Log ∷ p) = refl
after_twice (Line l ∷ p) = refl

join_after : (p q : List Piece) → join (after_log p) q ≡ after_log (join p q)
join_after [] q = refl
join_after (Log ∷ p) q = sym (after_twice (join p q))
join_after (Line l ∷ p) q = refl

pub pieces_join : (xs ys : List (List ℕ)) → pieces_of (xs ++ ys) ≡ join (pieces_of xs) (pieces_of ys)
pieces_join [] ys = refl
pieces_join (x ∷ xs) ys = by (is_log x) refl (pieces_join xs ys) where
  by : (b : Bool) → is_log x ≡ b → pieces_of (xs ++ ys) ≡ join (pieces_of xs) (pieces_of ys) → pieces_of (x ∷ (xs ++ ys)) ≡ join (pieces_of (x ∷ xs)) (pieces_of ys)
  by true e more = ap (λ b. if b then after_log (pieces_of (xs ++ ys)) else Line x ∷ pieces_of (xs ++ ys)) e
      ∙ ap after_log more ∙ sym (join_after (pieces_of xs) (pieces_of ys))
      ∙ sym (ap (λ b. join (if b then after_log (pieces_of xs) else Line x ∷ pieces_of xs) (pieces_of ys)) e)
  by false e more = ap (λ b. if b then after_log (pieces_of (xs ++ ys)) else Line x ∷ pieces_of (xs ++ ys)) e
      ∙ ap (λ (p : List Piece). Line x ∷ p) more
      ∙ sym (ap (λ b. join (if b then after_log (pieces_of xs) else Line x ∷ pieces_of xs) (pieces_of ys)) e)

-- ---- lines from pieces without a log

neither : (a b : Bool) → (a || b) ≡ false → (a ≡ false) × (b ≡ false)
neither true b e = absurd (false≢true (sym e))
neither false b e = (refl, e)

abbrev plain : List (List ℕ) → List Piece
plain ls = map (λ (l : List ℕ). Line l) ls

pieces_plain : (ls : List (List ℕ)) → list_any is_log ls ≡ false → pieces_of ls ≡ plain ls
pieces_plain [] e = refl
pieces_plain (l ∷ ls) e =
    let n = neither (is_log l) (list_any is_log ls) e in
    ap (λ b. if b then after_log (pieces_of ls) else Line l ∷ pieces_of ls) n.0 ∙ ap (λ (p : List Piece). Line l ∷ p) (pieces_plain ls n.1)

abbrev begins_log : List Piece → Bool
begins_log (Log ∷ p) = true
begins_log _ = false

log_begins : (p : List Piece) → begins_log (after_log p) ≡ true
log_begins [] = refl
log_begins (Log ∷ p) = refl
log_begins (Line l ∷ p) = refl

plain_begins : (ls : List (List ℕ)) → begins_log (plain ls) ≡ false
plain_begins [] = refl
plain_begins (l ∷ ls) = refl

abbrev first_line : List Piece → List ℕ
first_line (Line l ∷ p) = l
first_line _ = []

abbrev rest_of : List Piece → List Piece
rest_of [] = []
rest_of (x ∷ p) = p

abbrev is_some : List Piece → Bool
is_some [] = false
is_some (x ∷ p) = true

lines_plain : (ys ls : List (List ℕ)) → pieces_of ys ≡ plain ls → ys ≡ ls
lines_plain [] [] e = refl
lines_plain [] (l ∷ ls) e = absurd (false≢true (ap is_some e))
lines_plain (y ∷ ys) ls e = by (is_log y) refl ls e (λ ks q. lines_plain ys ks q) where
  by : (b : Bool) → is_log y ≡ b → (ls : List (List ℕ)) → pieces_of (y ∷ ys) ≡ plain ls → ((ks : List (List ℕ)) → pieces_of ys ≡ plain ks → ys ≡ ks) → y ∷ ys ≡ ls
  by true q ls e more =
      let s : after_log (pieces_of ys) ≡ plain ls = sym (ap (λ b. if b then after_log (pieces_of ys) else Line y ∷ pieces_of ys) q) ∙ e in
      absurd (false≢true (sym (plain_begins ls) ∙ sym (ap begins_log s) ∙ log_begins (pieces_of ys)))
  by false q [] e more =
      let s : Line y ∷ pieces_of ys ≡ [] = sym (ap (λ b. if b then after_log (pieces_of ys) else Line y ∷ pieces_of ys) q) ∙ e in
      absurd (false≢true (sym (ap is_some s)))
  by false q (l ∷ ls) e more =
      let s : Line y ∷ pieces_of ys ≡ Line l ∷ plain ls = sym (ap (λ b. if b then after_log (pieces_of ys) else Line y ∷ pieces_of ys) q) ∙ e in
      ap (λ (z : List ℕ). z ∷ ys) (ap first_line s) ∙ ap (λ (zs : List (List ℕ)). l ∷ zs) (more ls (ap rest_of s))

-- ---- alike

-- texts that are put together of texts that are alike
pub alike_then : (a b x y : List ℕ) → IsEnded a → IsEnded b → AreAlike a b → AreAlike x y → AreAlike (a ++ x) (b ++ y)
alike_then a b x y ea eb ab xy = ap pieces_of (lines_then a x ea) ∙ pieces_join (lines_in a) (lines_in x)
    ∙ ap (λ (p : List Piece). join p (pieces_of (lines_in x))) ab ∙ ap (λ (q : List Piece). join (pieces_of (lines_in b)) q) xy
    ∙ sym (ap pieces_of (lines_then b y eb) ∙ pieces_join (lines_in b) (lines_in y))

-- where one has no log they are the same
pub same_text : (x y : List ℕ) → IsEnded x → IsEnded y → AreAlike x y → HasNoLog x → x ≡ y
same_text x y ex ey alike none =
    let lines = lines_plain (lines_in y) (lines_in x) (sym alike ∙ pieces_plain (lines_in x) none) in
    sym (text_back x ex) ∙ ap text_of (sym lines) ∙ text_back y ey
