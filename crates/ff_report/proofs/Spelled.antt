-- A line of a log is one line of a text.
use Rattle.std.proofs.Common.{◌≡◌, inl, inr, ℕ, zero, suc, ℤ, pos, negsuc, ◌==◌, ◌/◌, ◌%◌, ◌+◌, not, Bool, true, false, nat_lt, if◌then◌else◌, List, [], ◌∷◌, ◌++◌, map, codes, ◌∙◌, refl, ap, sym, ne_eqb, arith}
use Rattle.std.specs.List.{list_all, join_with_byte}
use Rattle.std.specs.Fmt.{decimal, digits, digits_onto, digit_glyph, signed_decimal}
use Rattle.ff_basics.proofs.Tests.{and_true, true_and}
use Rattle.ff_tables.specs.declared.orders.Order.{Order}
use Rattle.ff_tables.specs.declared.orders.Order.TheVariants.{Below, Above}
use Rattle.ff_whole.specs.declared.places.Place.{Place}
use Rattle.ff_types.specs.declared.cites.Cite.{Cite}
use Rattle.ff_types.specs.declared.cites.Cite.TheVariants.{Transitivity, TacoTaco, TacoFace, TacoEdge, FlatFace, FlatEdge}
use Rattle.ff_log.specs.declared.logs.LogLine.{LogLine}
use Rattle.ff_log.specs.declared.logs.LogLine.TheVariants as line
use Rattle.ff_log.specs.Spelling.{order_word, place_parts, place_word, with_face, with_edge, cite_words, words_of, spelling}
use Rattle.ff_report.specs.Alike.{lengthen, lines_in, Piece, Log, pieces_of}
use Rattle.ff_report.specs.Logs.{log_line, log_lines}
use Rattle.ff_report.proofs.Cutting.{EndsLine, IsEnded, ended_then, letter, lines_then, join, pieces_join}

-- no line feed is in the text
abbrev Unbroken : List ℕ → Type 0
Unbroken t = list_all (λ (c : ℕ). not (c == 10)) t ≡ true

is_false : (b : Bool) → not b ≡ true → b ≡ false
is_false true e = sym e
is_false false e = refl

one_line : (t : List ℕ) → Unbroken t → lines_in (t ++ 10 ∷ []) ≡ t ∷ []
one_line [] h = refl
one_line (c ∷ t) h =
    let b = and_true (not (c == 10)) (list_all (λ (c : ℕ). not (c == 10)) t) h in
    letter c (t ++ 10 ∷ []) (is_false (c == 10) b.0) ∙ ap (lengthen c) (one_line t b.1)

unbroken_then : (a b : List ℕ) → Unbroken a → Unbroken b → Unbroken (a ++ b)
unbroken_then [] b h k = k
unbroken_then (c ∷ a) b h k =
    let p = and_true (not (c == 10)) (list_all (λ (c : ℕ). not (c == 10)) a) h in
    true_and (not (c == 10)) (list_all (λ (c : ℕ). not (c == 10)) (a ++ b)) p.0 (unbroken_then a b p.1 k)

-- ---- numbers

glyph : (d : ℕ) → not (digit_glyph false d == 10) ≡ true
glyph d = by (nat_lt d 10) where
  by : (b : Bool) → not ((if b then 48 + d else 87 + d) == 10) ≡ true
  by true = ap not (ne_eqb (48 + d) 10 (omega arith))
  by false = ap not (ne_eqb (87 + d) 10 (omega arith))

digits_unbroken : (k n : ℕ) (acc : List ℕ) → Unbroken acc → Unbroken (digits_onto k 10 false n acc)
digits_unbroken zero n acc h = h
digits_unbroken (suc k) n acc h = by (n / 10 == 0) (digits_unbroken k (n / 10) (digit_glyph false (n % 10) ∷ acc) more) where
  more : Unbroken (digit_glyph false (n % 10) ∷ acc)
  more = true_and (not (digit_glyph false (n % 10) == 10)) (list_all (λ (c : ℕ). not (c == 10)) acc) (glyph (n % 10)) h

  by : (b : Bool) → Unbroken (digits_onto k 10 false (n / 10) (digit_glyph false (n % 10) ∷ acc))
      → Unbroken (if b then digit_glyph false (n % 10) ∷ acc else digits_onto k 10 false (n / 10) (digit_glyph false (n % 10) ∷ acc))
  by true next = more
  by false next = next

decimal_unbroken : (n : ℕ) → Unbroken (decimal n)
unfolding digits
decimal_unbroken n = digits_unbroken 64 n [] refl

signed_unbroken : (z : ℤ) → Unbroken (signed_decimal z)
signed_unbroken (pos n) = decimal_unbroken n
signed_unbroken (negsuc n) = true_and true (list_all (λ (c : ℕ). not (c == 10)) (decimal (suc n))) refl (decimal_unbroken (suc n))

-- ---- words

abbrev AllUnbroken : List (List ℕ) → Type 0
AllUnbroken [] = Unit {0}
AllUnbroken (w ∷ ws) = Unbroken w × AllUnbroken ws

joined : (c : ℕ) (ws : List (List ℕ)) → not (c == 10) ≡ true → AllUnbroken ws → Unbroken (join_with_byte c ws)
joined c [] e h = refl
joined c (w ∷ []) e h = h.0
joined c (w ∷ v ∷ ws) e h = unbroken_then w (c ∷ join_with_byte c (v ∷ ws)) h.0
    (true_and (not (c == 10)) (list_all (λ (c : ℕ). not (c == 10)) (join_with_byte c (v ∷ ws))) e (joined c (v ∷ ws) e h.1))

place_unbroken : (p : Place) → Unbroken (place_word p)
place_unbroken p = joined 44 (place_parts p) refl (signed_unbroken p.x, (signed_unbroken p.y, (signed_unbroken p.w, tt)))

places_unbroken : (at : List Place) → AllUnbroken (map place_word at)
places_unbroken [] = tt
places_unbroken (p ∷ at) = (place_unbroken p, places_unbroken at)

face_unbroken : (e face : ℕ) (at : List Place) → AllUnbroken (with_face e face at)
face_unbroken e face at = (decimal_unbroken e, (refl, (decimal_unbroken face, (refl, places_unbroken at))))

edge_unbroken : (e k : ℕ) → AllUnbroken (with_edge e k)
edge_unbroken e k = (decimal_unbroken e, (refl, (decimal_unbroken k, tt)))

cite_unbroken : (c : Cite) → AllUnbroken (cite_words c)
cite_unbroken (Transitivity f g h at) = (refl, (decimal_unbroken f, (decimal_unbroken g, (decimal_unbroken h, (refl, places_unbroken at)))))
cite_unbroken (TacoTaco e k) = (refl, (decimal_unbroken e, (decimal_unbroken k, tt)))
cite_unbroken (TacoFace e face at) = (refl, face_unbroken e face at)
cite_unbroken (TacoEdge e flat) = (refl, edge_unbroken e flat)
cite_unbroken (FlatFace flat face at) = (refl, face_unbroken flat face at)
cite_unbroken (FlatEdge flat flat2) = (refl, edge_unbroken flat flat2)

order_unbroken : (v : Order) → Unbroken (order_word v)
order_unbroken Above = refl
order_unbroken Below = refl

words_unbroken : (l : LogLine) → AllUnbroken (words_of l)
words_unbroken (line.Use c) = (refl, cite_unbroken c)
words_unbroken (line.Crease e) = (refl, (decimal_unbroken e, tt))
words_unbroken (line.Pin i) = (refl, (decimal_unbroken i, tt))
words_unbroken (line.Force f g v by) = (refl, (decimal_unbroken f, (decimal_unbroken g, (order_unbroken v, (decimal_unbroken by, tt)))))
words_unbroken (line.Try f g v) = (refl, (decimal_unbroken f, (decimal_unbroken g, (order_unbroken v, tt))))
words_unbroken (line.Dead k) = (refl, (decimal_unbroken k, tt))
words_unbroken (line.Clash f g) = (refl, (decimal_unbroken f, (decimal_unbroken g, tt)))

-- ---- lines of a log

line_ends : (l : LogLine) → EndsLine (log_line l)
line_ends l = (codes "log " ++ spelling l, refl)

line_alone : (l : LogLine) → lines_in (log_line l) ≡ (codes "log " ++ spelling l) ∷ []
line_alone l = one_line (codes "log " ++ spelling l) (unbroken_then (codes "log ") (spelling l) refl (joined 32 (words_of l) refl (words_unbroken l)))

pub log_ended : (lines : List LogLine) → IsEnded (log_lines lines)
log_ended [] = inl refl
log_ended (l ∷ lines) = ended_then (log_line l) (log_lines lines) (inr (line_ends l)) (log_ended lines)

log_first : (l : LogLine) (lines : List LogLine) → pieces_of (lines_in (log_lines (l ∷ lines))) ≡ join (Log ∷ []) (pieces_of (lines_in (log_lines lines)))
log_first l lines = ap pieces_of (lines_then (log_line l) (log_lines lines) (inr (line_ends l)))
    ∙ pieces_join (lines_in (log_line l)) (lines_in (log_lines lines))
    ∙ ap (λ (ls : List (List ℕ)). join (pieces_of ls) (pieces_of (lines_in (log_lines lines)))) (line_alone l)

-- a log with a line is one piece
pub log_pieces : (l : LogLine) (lines : List LogLine) → pieces_of (lines_in (log_lines (l ∷ lines))) ≡ Log ∷ []
log_pieces l [] = log_first l []
log_pieces l (k ∷ lines) = log_first l (k ∷ lines) ∙ ap (λ (p : List Piece). join (Log ∷ []) p) (log_pieces k lines)
