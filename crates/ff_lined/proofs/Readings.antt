-- What is spelled as a line has two different ends within the limit.
use Rattle.std.proofs.Common.{◌≡◌, ◌≢◌, ◌<◌, ◌≤◌, ℤ, get_or, unsigned_abs, Bool, true, false, ◌&&◌, List, [], ◌∷◌, length, map, nat_lt, if◌then◌else◌, Option, None, Some, option_map, option_and_then, refl, sym, ap, ◌∙◌, subst, arith}
use Rattle.std.specs.List.{All}
use Rattle.std.specs.Ordering.{int_eq}
use Rattle.std.proofs.lemmas.Bool.{false≢true, ltb-true}
use Rattle.std.proofs.lemmas.Bool.Decides.{Decides-int_eq}
use Rattle.std.proofs.lemmas.List.Elements.{All-cons, All-nil}
use Rattle.ff_basics.proofs.Options.{none_some, some_same}
use Rattle.ff_basics.proofs.Tests.{of_both}
use Rattle.serde_json.specs.Data.{Data}
use Rattle.serde_json.specs.View.{view}
use Rattle.serde_json.specs.declared.value.Value.{Value}
use Rattle.ff_whole.specs.Sizes.{IsBelow}
use Rattle.ff_whole.specs.declared.points.Pt.{Pt}
use Rattle.ff_whole.specs.declared.sizes.TheConstants.{POINT_SIZE}
use Rattle.ff_types.specs.declared.patterns.Mark.{Mark}
use Rattle.ff_read.specs.Spelling.{all_of, list_of, mark_of, whole}
use Rattle.ff_lines.specs.declared.items.LineItem.{LineItem}
use Rattle.ff_lines.specs.Lines.{IsProper}
use Rattle.std.specs.Prelude.{Err, IfOk, MatchResult, Ok, Result}
use Rattle.ff_types.specs.declared.refusals.No.{No}
use Rattle.ff_lined.specs.Reading.{AreLinesOf, WhyNoLinesOf, coordinate, line_between, line_in, line_of}

-- ---- a coordinate

small_if : (b : Bool) (z a : ℤ) → nat_lt (unsigned_abs z) POINT_SIZE ≡ b → (if b then Some z else None) ≡ Some a → IsBelow POINT_SIZE a
small_if true z a t e = record { below = subst (λ (k : ℤ). unsigned_abs k < POINT_SIZE) (some_same e) (ltb-true (unsigned_abs z) POINT_SIZE t) }
small_if false z a t e = absurd (none_some a e)

small_in : (o : Option ℤ) (a : ℤ) → option_and_then (λ z. if nat_lt (unsigned_abs z) POINT_SIZE then Some z else None) o ≡ Some a → IsBelow POINT_SIZE a
small_in None a e = absurd (none_some a e)
small_in (Some z) a e = small_if (nat_lt (unsigned_abs z) POINT_SIZE) z a refl e

pub small : (d : Data) (a : ℤ) → coordinate d ≡ Some a → IsBelow POINT_SIZE a
small d a e = small_in (whole d) a e

-- ---- a line of five

apart_if : (t : Bool) (a b c d : ℤ) (mark : Mark) (l : LineItem) → (int_eq a c && int_eq b d) ≡ t
    → (if t then None else Some (record { p = record { x = a; y = b }; q = record { x = c; y = d }; mark = mark })) ≡ Some l
    → IsBelow POINT_SIZE a → IsBelow POINT_SIZE b → IsBelow POINT_SIZE c → IsBelow POINT_SIZE d → IsProper l
apart_if true a b c d mark l t e ha hb hc hd = absurd (none_some l e)
apart_if false a b c d mark l t e ha hb hc hd = subst IsProper (some_same e) (record {
  p_near = record { x_below = ha; y_below = hb };
  q_near = record { x_below = hc; y_below = hd };
  apart = λ s. false≢true (sym t ∙ of_both (int_eq a c) (int_eq b d) ((Decides-int_eq a c).1 (ap (λ (p : Pt). p.x) s)) ((Decides-int_eq b d).1 (ap (λ (p : Pt). p.y) s)));
})

marked : (a b c d : ℤ) (o : Option Mark) (l : LineItem) → option_and_then (λ mark. line_between a b c d mark) o ≡ Some l
    → IsBelow POINT_SIZE a → IsBelow POINT_SIZE b → IsBelow POINT_SIZE c → IsBelow POINT_SIZE d → IsProper l
marked a b c d None l e ha hb hc hd = absurd (none_some l e)
marked a b c d (Some m) l e ha hb hc hd = apart_if (int_eq a c && int_eq b d) a b c d m l refl e ha hb hc hd

-- one coordinate after the other
next : {P : Type 0} (d : Data) (o : Option ℤ) (f : ℤ → Option LineItem) (l : LineItem) → coordinate d ≡ o → option_and_then f o ≡ Some l
    → ((a : ℤ) → IsBelow POINT_SIZE a → f a ≡ Some l → P) → P
next d None f l c e k = absurd (none_some l e)
next d (Some a) f l c e k = k a (small d a c) e

proper_in : (ds : List Data) (l : LineItem) → line_in ds ≡ Some l → IsProper l
proper_in [] l e = absurd (none_some l e)
proper_in (x ∷ []) l e = absurd (none_some l e)
proper_in (x ∷ y ∷ []) l e = absurd (none_some l e)
proper_in (x ∷ y ∷ z ∷ []) l e = absurd (none_some l e)
proper_in (x ∷ y ∷ z ∷ w ∷ []) l e = absurd (none_some l e)
proper_in (x ∷ y ∷ z ∷ w ∷ m ∷ []) l e =
    next x (coordinate x) _ l refl e (λ a ha ea. next y (coordinate y) _ l refl ea (λ b hb eb. next z (coordinate z) _ l refl eb (λ c hc ec. next w (coordinate w) _ l refl ec (λ d hd ed.
    marked a b c d (mark_of m) l ed ha hb hc hd))))
proper_in (x ∷ y ∷ z ∷ w ∷ m ∷ n ∷ ds) l e = absurd (none_some l e)

proper_at : (o : Option (List Data)) (l : LineItem) → option_and_then line_in o ≡ Some l → IsProper l
proper_at None l e = absurd (none_some l e)
proper_at (Some ds) l e = proper_in ds l e

-- ---- all

proper_rest : (a : LineItem) (o : Option (List LineItem)) (ls : List LineItem) → IsProper a → ((rest : List LineItem) → o ≡ Some rest → All IsProper rest)
    → option_map (λ rest. a ∷ rest) o ≡ Some ls → All IsProper ls
proper_rest a None ls h k e = absurd (none_some ls e)
proper_rest a (Some rest) ls h k e = subst (All IsProper) (some_same e) (All-cons IsProper a rest h (k rest refl))

proper_first : (d : Data) (o : Option LineItem) (rest : Option (List LineItem)) (ls : List LineItem) → line_of d ≡ o → ((xs : List LineItem) → rest ≡ Some xs → All IsProper xs)
    → option_and_then (λ a. option_map (λ r. a ∷ r) rest) o ≡ Some ls → All IsProper ls
proper_first d None rest ls l k e = absurd (none_some ls e)
proper_first d (Some a) rest ls l k e = proper_rest a rest ls (proper_at (list_of d) a l) k e

pub all_proper : (ds : List Data) (ls : List LineItem) → all_of line_of ds ≡ Some ls → All IsProper ls
all_proper [] ls e = subst (All IsProper) (some_same e) (All-nil IsProper)
all_proper (d ∷ ds) ls e = proper_first d (line_of d) (all_of line_of ds) ls refl (λ xs f. all_proper ds xs f) e

-- another number of values spells none
pub not_five : (vs : List Value) → length vs ≢ 5 → None ≡ line_in (map view vs)
not_five [] h = refl
not_five (a ∷ []) h = refl
not_five (a ∷ b ∷ []) h = refl
not_five (a ∷ b ∷ c ∷ []) h = refl
not_five (a ∷ b ∷ c ∷ d ∷ []) h = refl
not_five (a ∷ b ∷ c ∷ d ∷ e ∷ []) h = absurd (h refl)
not_five (a ∷ b ∷ c ∷ d ∷ e ∷ f ∷ vs) h = refl

-- so is what a call gave
pub ok_proper : (d : Data) (r : Result (List LineItem) No) → MatchResult r (AreLinesOf d) (WhyNoLinesOf d) → IfOk r (All IsProper)
ok_proper d (Ok ls) h = all_proper h.items ls h.spelled
ok_proper d (Err n) h = tt

-- ---- five values

known : {A B : Type 0} (o : Option A) (a : A) (f : A → Option B) → Some a ≡ o → option_and_then f o ≡ f a
known o a f e = ap (option_and_then f) (sym e)

spelled_by : (p q r s t : Value) (a b c d : ℤ) (mark : Mark) → Some a ≡ coordinate (view p) → Some b ≡ coordinate (view q) → Some c ≡ coordinate (view r) → Some d ≡ coordinate (view s)
    → Some mark ≡ mark_of (view t) → line_in (map view (p ∷ q ∷ r ∷ s ∷ t ∷ [])) ≡ line_between a b c d mark
spelled_by p q r s t a b c d mark ea eb ec ed em =
    known (coordinate (view p)) a _ ea ∙ known (coordinate (view q)) b _ eb ∙ known (coordinate (view r)) c _ ec ∙ known (coordinate (view s)) d _ ed ∙ known (mark_of (view t)) mark _ em

-- what five values spell
pub five : (vs : List Value) (x y z w l : Value) (a b c d : ℤ) (mark : Mark) → 5 ≤ length vs → length vs < 6 → x ≡ get_or vs 0 x → y ≡ get_or vs 1 y → z ≡ get_or vs 2 z → w ≡ get_or vs 3 w → l ≡ get_or vs 4 l
    → Some a ≡ coordinate (view x) → Some b ≡ coordinate (view y) → Some c ≡ coordinate (view z) → Some d ≡ coordinate (view w) → Some mark ≡ mark_of (view l)
    → line_between a b c d mark ≡ line_in (map view vs)
five [] x y z w l a b c d mark lo hi ex ey ez ew el ea eb ec ed em = absurd (omega (arith, lo))
five (p ∷ []) x y z w l a b c d mark lo hi ex ey ez ew el ea eb ec ed em = absurd (omega (arith, lo))
five (p ∷ q ∷ []) x y z w l a b c d mark lo hi ex ey ez ew el ea eb ec ed em = absurd (omega (arith, lo))
five (p ∷ q ∷ r ∷ []) x y z w l a b c d mark lo hi ex ey ez ew el ea eb ec ed em = absurd (omega (arith, lo))
five (p ∷ q ∷ r ∷ s ∷ []) x y z w l a b c d mark lo hi ex ey ez ew el ea eb ec ed em = absurd (omega (arith, lo))
five (p ∷ q ∷ r ∷ s ∷ t ∷ []) x y z w l a b c d mark lo hi ex ey ez ew el ea eb ec ed em =
    sym (spelled_by p q r s t a b c d mark (ea ∙ ap (λ v. coordinate (view v)) ex) (eb ∙ ap (λ v. coordinate (view v)) ey) (ec ∙ ap (λ v. coordinate (view v)) ez) (ed ∙ ap (λ v. coordinate (view v)) ew) (em ∙ ap (λ v. mark_of (view v)) el))
five (p ∷ q ∷ r ∷ s ∷ t ∷ u ∷ vs) x y z w l a b c d mark lo hi ex ey ez ew el ea eb ec ed em = absurd (omega (arith, hi))
