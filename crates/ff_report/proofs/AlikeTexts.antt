-- Reports with other logs are alike.
use Rattle.std.proofs.Common.{◌≡◌, inl, inr, ℕ, zero, suc, Bool, List, [], ◌∷◌, ◌++◌, map, codes, slice_get, slice_index_or, Option, Some, ◌∙◌, ◌||◌, refl, ap, ap₂, sym, subst, length, append_assoc, if◌then◌else◌}
use Rattle.std.specs.List.{list_any, flat_map}
use Rattle.std.specs.Fmt.{decimal}
use Rattle.ff_tables.specs.declared.orders.Order.{Order}
use Rattle.ff_log.specs.declared.logs.Log.{Log}
use Rattle.ff_log.specs.declared.logs.LogLine.{LogLine}
use Rattle.ff_report.specs.declared.parts.PartOutcome.{PartOutcome}
use Rattle.ff_report.specs.declared.parts.PartOutcome.TheVariants as outcome
use Rattle.ff_report.specs.declared.lines.Last.{Last}
use Rattle.ff_report.specs.declared.lines.Last.TheVariants as last
use Rattle.ff_report.specs.Alike.{lines_in, pieces_of, AreAlike, AreOneText}
use Rattle.ff_report.specs.Heads.{lines_of}
use Rattle.ff_report.specs.Lines.{parts_line, last_line, is_none, is_unfinished, last_of, part_at, clash_lines}
use Rattle.ff_report.specs.Logs.{log_lines}
use Rattle.ff_report.specs.Refusals.{spaced}
use Rattle.ff_report.specs.Parts.{part_line, sign, solution_line, solution_of, outcome_lines, part_lines}
use Rattle.ff_report.proofs.Cutting.{EndsLine, IsEnded, ends_after, ended_then, alike_then, same_text}
use Rattle.ff_report.proofs.Spelled.{log_ended, log_pieces}

-- some line
abbrev pub HasLines : List LogLine → Type 0
HasLines lines = (l : LogLine) × (rest : List LogLine) × (lines ≡ l ∷ rest)

logs_alike : (x y : List LogLine) → HasLines x → HasLines y → AreAlike (log_lines x) (log_lines y)
logs_alike x y (l, ls, e) (k, ks, f) = ap (λ (z : List LogLine). pieces_of (lines_in (log_lines z))) e ∙ log_pieces l ls
    ∙ sym (ap (λ (z : List LogLine). pieces_of (lines_in (log_lines z))) f ∙ log_pieces k ks)

last_ends : (l : Last) → EndsLine (last_line l)
last_ends last.Done = (codes "done", refl)
last_ends last.Impossible = (codes "impossible", refl)
last_ends last.Unfinished = (codes "unfinished", refl)

parts_end : (n : ℕ) → EndsLine (parts_line n)
parts_end n = (codes "parts " ++ decimal n, refl)

-- ---- parts

-- an outcome without its log
abbrev pub shape : PartOutcome → PartOutcome
shape (outcome.None log) = outcome.None (record { lines = [] })
shape (outcome.Solutions list) = outcome.Solutions list
shape outcome.Unfinished = outcome.Unfinished

-- where it has a log, the log has a line
abbrev pub IsShown : PartOutcome → Type 0
IsShown (outcome.None log) = HasLines log.lines
IsShown _ = Unit {0}

lines_ended : (f : ℕ → List ℕ) → ((n : ℕ) → IsEnded (f n)) → (n : ℕ) → IsEnded (lines_of f n)
lines_ended f each zero = inl refl
lines_ended f each (suc n) = ended_then (lines_of f n) (f n) (lines_ended f each n) (each n)

solution_ends : (i : ℕ) (values : List Order) → EndsLine (solution_line i values)
solution_ends i values = (codes "solution " ++ decimal i ++ codes " " ++ flat_map sign values, refl)

outcome_ended : (o : PartOutcome) → IsEnded (outcome_lines o)
outcome_ended (outcome.Solutions list) = ended_then (codes "solutions " ++ decimal (length list) ++ codes "\n") (lines_of (solution_of list) (length list))
    (inr (codes "solutions " ++ decimal (length list), refl)) (lines_ended (solution_of list) (λ i. inr (solution_ends i (slice_index_or list i []))) (length list))
outcome_ended (outcome.None log) = ended_then (codes "none\n") (log_lines log.lines) (inr (codes "none", refl)) (log_ended log.lines)
outcome_ended outcome.Unfinished = inr (codes "unfinished", refl)

part_ends : (n : ℕ) (vars : List ℕ) → EndsLine (part_line n vars)
part_ends n vars = (codes "part " ++ decimal n ++ codes " variables" ++ flat_map (λ v. spaced (decimal v)) vars, refl)

part_ended : (n : ℕ) (vars : List ℕ) (o : PartOutcome) → IsEnded (part_lines n vars o)
part_ended n vars o = ended_then (part_line n vars) (outcome_lines o) (inr (part_ends n vars)) (outcome_ended o)

outcomes_alike : (o p : PartOutcome) → shape o ≡ shape p → IsShown o → IsShown p → AreAlike (outcome_lines o) (outcome_lines p)
outcomes_alike (outcome.None x) (outcome.None y) e h k = alike_then (codes "none\n") (codes "none\n") (log_lines x.lines) (log_lines y.lines)
    (inr (codes "none", refl)) (inr (codes "none", refl)) refl (logs_alike x.lines y.lines h k)
outcomes_alike (outcome.Solutions x) (outcome.Solutions y) e h k = ap (λ (o : PartOutcome). pieces_of (lines_in (outcome_lines o))) e
outcomes_alike outcome.Unfinished outcome.Unfinished e h k = refl
outcomes_alike (outcome.None x) (outcome.Solutions y) e h k = cc
outcomes_alike (outcome.None x) outcome.Unfinished e h k = cc
outcomes_alike (outcome.Solutions x) (outcome.None y) e h k = cc
outcomes_alike (outcome.Solutions x) outcome.Unfinished e h k = cc
outcomes_alike outcome.Unfinished (outcome.None y) e h k = cc
outcomes_alike outcome.Unfinished (outcome.Solutions y) e h k = cc

abbrev pub AllShown : List PartOutcome → Type 0
AllShown [] = Unit {0}
AllShown (o ∷ os) = IsShown o × AllShown os

shown_at : (os : List PartOutcome) (k : ℕ) → AllShown os → IsShown (slice_index_or os k outcome.Unfinished)
shown_at [] k h = tt
shown_at (o ∷ os) zero h = h.0
shown_at (o ∷ os) (suc k) h = shown_at os k h.1

shape_at : (os : List PartOutcome) (k : ℕ) → slice_index_or (map shape os) k outcome.Unfinished ≡ shape (slice_index_or os k outcome.Unfinished)
shape_at [] k = refl
shape_at (o ∷ os) zero = refl
shape_at (o ∷ os) (suc k) = shape_at os k

parts_alike : (parts : List (List ℕ)) (os rs : List PartOutcome) → map shape os ≡ map shape rs → AllShown os → AllShown rs → (n : ℕ)
    → AreAlike (lines_of (part_at parts os) n) (lines_of (part_at parts rs) n)
parts_alike parts os rs e h k zero = refl
parts_alike parts os rs e h k (suc n) = alike_then (lines_of (part_at parts os) n) (lines_of (part_at parts rs) n) (part_at parts os n) (part_at parts rs n)
    (lines_ended (part_at parts os) (λ i. part_ended i (slice_index_or parts i []) (slice_index_or os i outcome.Unfinished)) n) (lines_ended (part_at parts rs) (λ i. part_ended i (slice_index_or parts i []) (slice_index_or rs i outcome.Unfinished)) n) (parts_alike parts os rs e h k n)
    (alike_then (part_line n (slice_index_or parts n [])) (part_line n (slice_index_or parts n [])) (outcome_lines (slice_index_or os n outcome.Unfinished)) (outcome_lines (slice_index_or rs n outcome.Unfinished))
    (inr (part_ends n (slice_index_or parts n []))) (inr (part_ends n (slice_index_or parts n []))) refl
    (outcomes_alike (slice_index_or os n outcome.Unfinished) (slice_index_or rs n outcome.Unfinished)
    (sym (shape_at os n) ∙ ap (λ (xs : List PartOutcome). slice_index_or xs n outcome.Unfinished) e ∙ shape_at rs n) (shown_at os n h) (shown_at rs n k)))

-- ---- how reports end

none_shape : (o : PartOutcome) → is_none (shape o) ≡ is_none o
none_shape (outcome.None log) = refl
none_shape (outcome.Solutions list) = refl
none_shape outcome.Unfinished = refl

unfinished_shape : (o : PartOutcome) → is_unfinished (shape o) ≡ is_unfinished o
unfinished_shape (outcome.None log) = refl
unfinished_shape (outcome.Solutions list) = refl
unfinished_shape outcome.Unfinished = refl

any_shape : (p : PartOutcome → Bool) → ((o : PartOutcome) → p (shape o) ≡ p o) → (os : List PartOutcome) → list_any p (map shape os) ≡ list_any p os
any_shape p same [] = refl
any_shape p same (o ∷ os) = ap₂ (λ a b. a || b) (same o) (any_shape p same os)

last_shape : (os : List PartOutcome) → last_of (map shape os) ≡ last_of os
last_shape os = ap (λ (b : Bool). if b then last.Impossible else if list_any is_unfinished (map shape os) then last.Unfinished else last.Done) (any_shape is_none none_shape os)
    ∙ ap (λ (b : Bool). if list_any is_none os then last.Impossible else if b then last.Unfinished else last.Done) (any_shape is_unfinished unfinished_shape os)

pub same_last : (os rs : List PartOutcome) → map shape os ≡ map shape rs → last_of os ≡ last_of rs
same_last os rs e = sym (last_shape os) ∙ ap last_of e ∙ last_shape rs

-- ---- whole reports

-- the front, the count of the parts, the parts, the last line
abbrev pub with_parts : List ℕ → List (List ℕ) → List PartOutcome → List ℕ
with_parts front parts outcomes = front ++ parts_line (length parts) ++ lines_of (part_at parts outcomes) (length parts) ++ last_line (last_of outcomes)

-- the front, and the lines where the closure clashes
abbrev pub with_clash : List ℕ → List LogLine → List ℕ
with_clash front log = front ++ clash_lines log

-- texts that are the same
pub same_one : (x y : List ℕ) → x ≡ y → AreOneText x y
same_one x y e = (ap (λ (t : List ℕ). pieces_of (lines_in t)) e, λ _. e)

-- texts that are the same as others
pub one_as : (x y t u : List ℕ) → t ≡ x → u ≡ y → AreOneText x y → AreOneText t u
one_as x y t u e f one = subst (λ (v : List ℕ). AreOneText v u) (sym e) (subst (λ (v : List ℕ). AreOneText x v) (sym f) one)

one_text : (x y : List ℕ) → EndsLine x → EndsLine y → AreAlike x y → AreOneText x y
one_text x y ex ey alike = (alike, same_text x y (inr ex) (inr ey) alike)

abbrev lines_to : List (List ℕ) → List PartOutcome → List ℕ
lines_to parts outcomes = lines_of (part_at parts outcomes) (length parts)

board_ends : (front : List ℕ) (parts : List (List ℕ)) (os : List PartOutcome) → EndsLine (with_parts front parts os)
board_ends front parts os = ends_after (front ++ parts_line (length parts) ++ lines_to parts os) (last_line (last_of os)) (last_ends (last_of os))

clash_ends : (front : List ℕ) (log : List LogLine) → EndsLine (with_clash front log)
clash_ends front log = ends_after front (clash_lines log) (ends_after (codes "clash\n" ++ log_lines log) (codes "impossible\n") (codes "impossible", refl))

abbrev counted : List ℕ → List (List ℕ) → List ℕ
counted front parts = front ++ parts_line (length parts)

abbrev clashed : List ℕ → List ℕ
clashed front = front ++ codes "clash\n"

pub boards_one : (front : List ℕ) (parts : List (List ℕ)) (os rs : List PartOutcome) → map shape os ≡ map shape rs → AllShown os → AllShown rs
    → AreOneText (with_parts front parts os) (with_parts front parts rs)
boards_one front parts os rs e h k = one_text (with_parts front parts os) (with_parts front parts rs) (board_ends front parts os) (board_ends front parts rs)
    (alike_then (counted front parts ++ lines_to parts os) (counted front parts ++ lines_to parts rs) (last_line (last_of os)) (last_line (last_of rs)) (ended os) (ended rs) middle
    (ap (λ (l : Last). pieces_of (lines_in (last_line l))) (same_last os rs e))) where
      top_ended : IsEnded (counted front parts)
      top_ended = inr (ends_after front (parts_line (length parts)) (parts_end (length parts)))

      below : (xs : List PartOutcome) → IsEnded (lines_to parts xs)
      below xs = lines_ended (part_at parts xs) (λ i. part_ended i (slice_index_or parts i []) (slice_index_or xs i outcome.Unfinished)) (length parts)

      ended : (xs : List PartOutcome) → IsEnded (counted front parts ++ lines_to parts xs)
      ended xs = ended_then (counted front parts) (lines_to parts xs) top_ended (below xs)

      middle : AreAlike (counted front parts ++ lines_to parts os) (counted front parts ++ lines_to parts rs)
      middle = alike_then (counted front parts) (counted front parts) (lines_to parts os) (lines_to parts rs) top_ended top_ended refl (parts_alike parts os rs e h k (length parts))

pub clashes_one : (front : List ℕ) (x y : List LogLine) → HasLines x → HasLines y → AreOneText (with_clash front x) (with_clash front y)
clashes_one front x y h k = one_text (with_clash front x) (with_clash front y) (clash_ends front x) (clash_ends front y)
    (ap (λ (t : List ℕ). pieces_of (lines_in t)) (cut x) ∙ whole ∙ sym (ap (λ (t : List ℕ). pieces_of (lines_in t)) (cut y))) where
      cut : (z : List LogLine) → with_clash front z ≡ (clashed front ++ log_lines z) ++ codes "impossible\n"
      cut z = sym (append_assoc front (codes "clash\n" ++ log_lines z) (codes "impossible\n"))
          ∙ ap (λ (t : List ℕ). t ++ codes "impossible\n") (sym (append_assoc front (codes "clash\n") (log_lines z)))

      top_ended : IsEnded (clashed front)
      top_ended = inr (ends_after front (codes "clash\n") (codes "clash", refl))

      ended : (z : List LogLine) → IsEnded (clashed front ++ log_lines z)
      ended z = ended_then (clashed front) (log_lines z) top_ended (log_ended z)

      middle : AreAlike (clashed front ++ log_lines x) (clashed front ++ log_lines y)
      middle = alike_then (clashed front) (clashed front) (log_lines x) (log_lines y) top_ended top_ended refl (logs_alike x y h k)

      whole : AreAlike ((clashed front ++ log_lines x) ++ codes "impossible\n") ((clashed front ++ log_lines y) ++ codes "impossible\n")
      whole = alike_then (clashed front ++ log_lines x) (clashed front ++ log_lines y) (codes "impossible\n") (codes "impossible\n") (ended x) (ended y) middle refl
