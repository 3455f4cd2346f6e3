-- Bytes come to one list of lines or to one refusal.
use Rattle.std.proofs.Common.{◌≡◌, ◌∙◌, ◌⊎◌, inl, inr, ℕ, ◌<◌, ◌≤◌, List, length, Option, None, Some, refl, sym, ap, subst, arith}
use Rattle.std.specs.List.{All}
use Rattle.std.proofs.lemmas.Bool.{cases_lt}
use Rattle.ff_basics.proofs.Numbers.{less_or}
use Rattle.ff_basics.proofs.Options.{same_value}
use Rattle.serde_json.specs.Data.{Data}
use Rattle.ff_types.specs.declared.refusals.Key.TheVariants as key
use Rattle.ff_types.specs.declared.refusals.Refusal.{Refusal}
use Rattle.ff_types.specs.declared.refusals.Refusal.TheVariants.{BadKey, BadLine, NotJson, TooMany}
use Rattle.ff_types.specs.declared.refusals.What.TheVariants as what
use Rattle.ff_read.specs.Refused.{IsFirstBad}
use Rattle.ff_read.specs.Spelling.{all_of, object_of}
use Rattle.ff_read.proofs.OneReading.{no_value}
use Rattle.ff_lines.specs.declared.items.LineItem.{LineItem}
use Rattle.ff_lines.specs.declared.items.TheConstants.{MOST_LINES}
use Rattle.ff_lines.specs.Lines.{IsProper}
use Rattle.ff_lined.specs.Reading.{AreLinesIn, AreLinesOf, RefusesLines, RefusesLinesOf, line_of, lines_in}
use Rattle.ff_lined.proofs.Readings.{all_proper}
use Rattle.ff_cut.specs.Laws.{LinesAreOne}
use Rattle.ff_cut.proofs.Items.{all_or_first, bad_or_all, one_bad}

-- ---- the items

-- what is wrong with the items
abbrev ItemsOut : List Data → Refusal → Type 0
ItemsOut ds r = ((i : ℕ) × IsFirstBad line_of ds i × (r ≡ BadLine i))
    ⊎ ((lines : List LineItem) × (all_of line_of ds ≡ Some lines) × (MOST_LINES < length lines) × (r ≡ TooMany what.Lines MOST_LINES))

one_items : (ds : List Data) (r s : Refusal) → ItemsOut ds r → ItemsOut ds s → r ≡ s
one_items ds r s (inl a) (inl b) = a.2 ∙ ap BadLine (one_bad line_of ds a.0 b.0 a.1 b.1 (less_or a.0 b.0)) ∙ sym b.2
one_items ds r s (inl a) (inr b) = absurd (bad_or_all line_of ds a.0 b.0 a.1 b.1)
one_items ds r s (inr a) (inl b) = absurd (bad_or_all line_of ds b.0 a.0 b.1 a.1)
one_items ds r s (inr a) (inr b) = a.3 ∙ sym b.3

items_or : (ds : List Data) (lines : List LineItem) (r : Refusal) → all_of line_of ds ≡ Some lines → length lines ≤ MOST_LINES → ItemsOut ds r → ⊥
items_or ds lines r e few (inl b) = bad_or_all line_of ds b.0 lines b.1 e
items_or ds lines r e few (inr b) =
    let same = ap (λ (ls : List LineItem). length ls) (same_value e b.1) in
    let many = b.2 in omega (arith, few, many, same)

-- ---- the object

abbrev ObjectOut : Data → Refusal → Type 0
ObjectOut d r = ((lines_in d ≡ None) × (r ≡ BadKey key.Lines)) ⊎ ((ds : List Data) × (lines_in d ≡ Some ds) × ItemsOut ds r)

object_out : (d : Data) (r : Refusal) → RefusesLinesOf d r → ObjectOut d r
object_out d (BadKey key.Lines) h = inl (h, refl)
object_out d (BadLine i) h = inr (h.0, h.1, inl (i, h.2, refl))
object_out d (TooMany what.Lines limit) h = inr (h.0, h.2, inr (h.1, h.3, h.4, ap (λ n. TooMany what.Lines n) h.5))
object_out d r h = absurd h

one_object : (d : Data) (r s : Refusal) → ObjectOut d r → ObjectOut d s → r ≡ s
one_object d r s (inl a) (inl b) = a.1 ∙ sym b.1
one_object d r s (inl a) (inr b) = absurd (no_value (lines_in d) b.0 a.0 b.1)
one_object d r s (inr a) (inl b) = absurd (no_value (lines_in d) a.0 b.0 a.1)
one_object d r s (inr a) (inr b) = one_items b.0 r s (subst (λ (ds : List Data). ItemsOut ds r) (same_value a.1 b.1) a.2) b.2

object_or : (d : Data) (lines : List LineItem) (r : Refusal) → AreLinesOf d lines → ObjectOut d r → ⊥
object_or d lines r a (inl b) = no_value (lines_in d) a.items b.0 a.there
object_or d lines r a (inr b) = items_or a.items lines r a.spelled a.few (subst (λ (ds : List Data). ItemsOut ds r) (same_value b.1 a.there) b.2)

-- ---- the bytes

abbrev BytesOut : List ℕ → Refusal → Type 0
BytesOut bytes r = ((object_of bytes ≡ None) × (r ≡ NotJson)) ⊎ ((d : Data) × (object_of bytes ≡ Some d) × ObjectOut d r)

bytes_out : (bytes : List ℕ) (r : Refusal) → RefusesLines bytes r → BytesOut bytes r
bytes_out bytes NotJson h = inl (h, refl)
bytes_out bytes (BadKey k) h = inr (h.0, h.1, object_out h.0 (BadKey k) h.2)
bytes_out bytes (BadLine i) h = inr (h.0, h.1, object_out h.0 (BadLine i) h.2)
bytes_out bytes (TooMany w n) h = inr (h.0, h.1, object_out h.0 (TooMany w n) h.2)
bytes_out bytes r h = absurd h.2

one_bytes : (bytes : List ℕ) (r s : Refusal) → BytesOut bytes r → BytesOut bytes s → r ≡ s
one_bytes bytes r s (inl a) (inl b) = a.1 ∙ sym b.1
one_bytes bytes r s (inl a) (inr b) = absurd (no_value (object_of bytes) b.0 a.0 b.1)
one_bytes bytes r s (inr a) (inl b) = absurd (no_value (object_of bytes) a.0 b.0 a.1)
one_bytes bytes r s (inr a) (inr b) = one_object b.0 r s (subst (λ (d : Data). ObjectOut d r) (same_value a.1 b.1) a.2) b.2

bytes_or : (bytes : List ℕ) (lines : List LineItem) (r : Refusal) → AreLinesIn bytes lines → BytesOut bytes r → ⊥
bytes_or bytes lines r a (inl b) = no_value (object_of bytes) a.object b.0 a.read
bytes_or bytes lines r a (inr b) = object_or a.object lines r a.is (subst (λ (d : Data). ObjectOut d r) (same_value b.1 a.read) b.2)

one_list : (bytes : List ℕ) (a b : List LineItem) → AreLinesIn bytes a → AreLinesIn bytes b → a ≡ b
one_list bytes a b g h =
    let there = subst (λ (d : Data). AreLinesOf d a) (same_value g.read h.read) g.is in
    let spelled = subst (λ (ds : List Data). all_of line_of ds ≡ Some a) (same_value there.there h.is.there) there.spelled in
    same_value spelled h.is.spelled

-- ---- one outcome at least, by what can't be

module _ (bytes : List ℕ) (lines : (ls : List LineItem) → AreLinesIn bytes ls → All IsProper ls → ⊥) (refused : (r : Refusal) → RefusesLines bytes r → ⊥) where
  of_count : (d : Data) → object_of bytes ≡ Some d → (ds : List Data) → lines_in d ≡ Some ds → (ls : List LineItem) → all_of line_of ds ≡ Some ls
      → (MOST_LINES < length ls) ⊎ (length ls ≤ MOST_LINES) → ⊥
  of_count d e ds there ls spelled (inl many) = refused (TooMany what.Lines MOST_LINES) (d, e, (ds, ls, there, spelled, many, refl))
  of_count d e ds there ls spelled (inr few) =
      lines ls (record { object = d; read = e; is = record { items = ds; there = there; spelled = spelled; few = few } }) (all_proper ds ls spelled)

  of_items : (d : Data) → object_of bytes ≡ Some d → (ds : List Data) → lines_in d ≡ Some ds
      → ((ls : List LineItem) × (all_of line_of ds ≡ Some ls)) ⊎ ((i : ℕ) × IsFirstBad line_of ds i) → ⊥
  of_items d e ds there (inl s) = of_count d e ds there s.0 s.1 (cases_lt MOST_LINES (length s.0))
  of_items d e ds there (inr b) = refused (BadLine b.0) (d, e, (ds, there, b.1))

  of_object : (d : Data) → object_of bytes ≡ Some d → (o : Option (List Data)) → lines_in d ≡ o → ⊥
  of_object d e None there = refused (BadKey key.Lines) (d, e, there)
  of_object d e (Some ds) there = of_items d e ds there (all_or_first line_of ds)

  of_bytes : (o : Option Data) → object_of bytes ≡ o → ⊥
  of_bytes None e = refused NotJson e
  of_bytes (Some d) e = of_object d e (lines_in d) refl

pub lines_are_one : LinesAreOne
lines_are_one = record {
  lines = one_list;
  refusal = λ bytes r s g h. one_bytes bytes r s (bytes_out bytes r g) (bytes_out bytes s h);
  not_both = λ bytes lines r g h. bytes_or bytes lines r g (bytes_out bytes r h);
  some = λ bytes lines refused. of_bytes bytes lines refused (object_of bytes) refl;
}
