-- A log over a folded sheet has one verdict.
use Rattle.std.proofs.Common.{◌≡◌, ◌∙◌, ℕ, zero, suc, ◌<◌, inl, inr, List, [], ◌∷◌, length, take, Option, Some, None, refl, sym, ap, ap₂, subst, arith}
use Rattle.std.specs.Prelude.{slice_get}
use Rattle.std.proofs.lemmas.Bool.{false≢true, cases_order}
use Rattle.std.proofs.lemmas.List.{take-take}
use Rattle.ff_basics.proofs.Options.{some_same}
use Rattle.ff_types.specs.declared.pins.Pin.{Pin}
use Rattle.ff_types.specs.Sheets.{Sheet}
use Rattle.ff_log.specs.declared.logs.LogLine.{LogLine}
use Rattle.ff_log.specs.declared.logs.LogLine.TheVariants as line
use Rattle.ff_log.specs.Logs.{State, start, Ground, declare, hold, Does, Takes, Reaches, Closes}
use Rattle.ff_log.specs.Grounds.{sheet_ground}
use Rattle.ff_checker.specs.declared.verdicts.WhyNot.{WhyNot}
use Rattle.ff_checker.specs.declared.verdicts.Verdict.{Verdict}
use Rattle.ff_checker.specs.declared.verdicts.Verdict.TheVariants.{Accepted, Refused}
use Rattle.ff_checker.specs.Verdicts.{Stops, IsFirstBad, IsVerdict}

module _ (g : Sheet) (pins : List Pin) where
  abbrev ground : Ground
  ground = sheet_ground g pins

  does_one : (s : State) (l : LogLine) (t u : State) → Does ground s l t → Does ground s l u → t ≡ u
  does_one s (line.Use c) t u (d, uses, is) (e, uses2, is2) = is ∙ ap (declare s) (uses.is ∙ sym uses2.is) ∙ sym is2
  does_one s (line.Crease e) t u (c, given, is) (d, given2, is2) = is ∙ ap (hold s) (some_same (sym given ∙ given2)) ∙ sym is2
  does_one s (line.Pin i) t u (c, given, is) (d, given2, is2) = is ∙ ap (hold s) (some_same (sym given ∙ given2)) ∙ sym is2
  does_one s (line.Force f h v k) t u (d, there, forces, is) (e, there2, forces2, is2) = is ∙ sym is2
  does_one s (line.Try f h v) t u (may, is) (may2, is2) = is ∙ sym is2
  does_one s (line.Dead k) t u (d, there, dead, is) (e, there2, dead2, is2) = is ∙ sym is2
  does_one s (line.Clash f h) t u (a, b, is) (a2, b2, is2) = is ∙ sym is2

  reaches_one : (s : State) (lines : List LogLine) (t u : State) → Reaches ground s lines t → Reaches ground s lines u → t ≡ u
  reaches_one s [] t u is is2 = is ∙ sym is2
  reaches_one s (l ∷ lines) t u (m, takes, rest) (n, takes2, rest2) = reaches_one n lines t u
      (subst (λ x. Reaches ground x lines t) (does_one s l m n takes.does takes2.does) rest) rest2

  -- the state before the n-th line, which was taken
  taken : (s : State) (lines : List LogLine) (t : State) (n : ℕ) (l : LogLine) → Reaches ground s lines t → slice_get lines n ≡ Some l
      → (m : State) × Reaches ground s (take n lines) m × ((after : State) × Takes ground m l after)
  taken s [] t zero l r e = cc
  taken s [] t (suc n) l r e = cc
  taken s (k ∷ lines) t zero l (m, takes, rest) e = let q : k ≡ l = cc in (s, refl, (m, subst (λ x. Takes ground s x m) q takes))
  taken s (k ∷ lines) t (suc n) l (m, takes, rest) e = let r = taken m lines t n l rest e in (r.0, (m, takes, r.1), r.2)

  taken_not_stopped : (lines : List LogLine) (t : State) (n : ℕ) (l : LogLine) (why : WhyNot) (s : State) → Reaches ground start lines t → slice_get lines n ≡ Some l
      → Reaches ground start (take n lines) s → Stops ground s (Some l) why → ⊥
  taken_not_stopped lines t n l why s r e r2 stops =
      let f = taken start lines t n l r e in
      let same = reaches_one start (take n lines) f.0 s f.1 r2 in
      let takes = subst (λ x. Takes ground x l f.2.0) same f.2.1 in
      elim stops [ inl a ↦ false≢true (sym takes.going ∙ a.0) | inr b ↦ b.1 f.2.0 takes.does ]

  whole : (lines : List LogLine) (n : ℕ) → slice_get lines n ≡ None → take n lines ≡ lines
  whole [] zero e = refl
  whole [] (suc n) e = refl
  whole (k ∷ lines) zero e = cc
  whole (k ∷ lines) (suc n) e = ap (λ xs. k ∷ xs) (whole lines n e)

  closes_not_bad : (lines : List LogLine) (n : ℕ) (why : WhyNot) → Closes ground lines → IsFirstBad ground lines n why → ⊥
  closes_not_bad lines n why c b = by (slice_get lines n) refl b.stops where
    by : (o : Option LogLine) → slice_get lines n ≡ o → Stops ground b.state o why → ⊥
    by None e stops = false≢true (sym stops.0 ∙ ap (λ s. s.ended) (reaches_one start lines b.state c.state (subst (λ xs. Reaches ground start xs b.state) (whole lines n e) b.reached) c.reached) ∙ c.ended)
    by (Some l) e stops = taken_not_stopped lines c.state n l why b.state c.reached e b.reached stops

  front_get : (lines : List LogLine) (n k : ℕ) → n < k → slice_get (take k lines) n ≡ slice_get lines n
  front_get [] n zero l = absurd (omega (arith, l))
  front_get [] n (suc k) l = refl
  front_get (x ∷ lines) n zero l = absurd (omega (arith, l))
  front_get (x ∷ lines) zero (suc k) l = refl
  front_get (x ∷ lines) (suc n) (suc k) l = front_get lines n k (omega (arith, l))

  none_within : (lines : List LogLine) (n : ℕ) → slice_get lines n ≡ None → n < length lines → ⊥
  none_within [] n e l = absurd (omega (arith, l))
  none_within (x ∷ lines) zero e l = cc
  none_within (x ∷ lines) (suc n) e l = none_within lines n e (omega (arith, l))

  first_not_later : (lines : List LogLine) (n k : ℕ) (why why2 : WhyNot) → n < k → IsFirstBad ground lines n why → IsFirstBad ground lines k why2 → ⊥
  first_not_later lines n k why why2 l a b = by (slice_get lines n) refl a.stops where
    by : (o : Option LogLine) → slice_get lines n ≡ o → Stops ground a.state o why → ⊥
    by None e stops = none_within lines n e (let w = b.within in omega (arith, l, w))
    by (Some x) e stops = taken_not_stopped (take k lines) b.state n x why a.state b.reached (front_get lines n k l ∙ e)
        (subst (λ xs. Reaches ground start xs a.state) (sym (take-take n k lines (omega (arith, l)))) a.reached) stops

  one_why : (s : State) (o : Option LogLine) (why why2 : WhyNot) → Stops ground s o why → Stops ground s o why2 → why ≡ why2
  one_why s None why why2 a b = a.1 ∙ sym b.1
  one_why s (Some l) why why2 (inl a) (inl b) = a.1 ∙ sym b.1
  one_why s (Some l) why why2 (inl a) (inr b) = absurd (false≢true (sym b.0 ∙ a.0))
  one_why s (Some l) why why2 (inr a) (inl b) = absurd (false≢true (sym a.0 ∙ b.0))
  one_why s (Some l) why why2 (inr a) (inr b) = a.2 ∙ sym b.2

  pub one_verdict : (lines : List LogLine) (v w : Verdict) → IsVerdict ground lines v → IsVerdict ground lines w → v ≡ w
  one_verdict lines Accepted Accepted a b = refl
  one_verdict lines Accepted (Refused n why) a b = absurd (closes_not_bad lines n why a b)
  one_verdict lines (Refused n why) Accepted a b = absurd (closes_not_bad lines n why b a)
  one_verdict lines (Refused n why) (Refused k why2) a b = elim (cases_order n k) [
    | inl e ↦ let same = reaches_one start (take k lines) a.state b.state (subst (λ m. Reaches ground start (take m lines) a.state) e a.reached) b.reached in
        ap₂ (λ x y. Refused x y) e (one_why b.state (slice_get lines k) why why2
        (subst (λ m. Stops ground b.state (slice_get lines m) why) e (subst (λ s. Stops ground s (slice_get lines n) why) same a.stops)) b.stops)
    | inr o ↦ elim o [
      | inl l ↦ absurd (first_not_later lines n k why why2 l a b)
      | inr l ↦ absurd (first_not_later lines k n why2 why l b a)
    ]
  ]
