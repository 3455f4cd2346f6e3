-- An assignment holds the starts of a case exactly where its set of pairs keeps the creases.
use Rattle.std.proofs.Common.{◌≡◌, ◌≢◌, ◌⊎◌, inl, inr, ℕ, ◌<◌, ◌↔◌, ◌∙◌, Bool, true, false, not, List, [], ◌∷◌, length, Option, Some, None, IsTrue, if◌then◌else◌, refl, ap, sym, subst, arith, Contains}
use Rattle.std.proofs.lemmas.Bool.{false≢true, lt-ltb}
use Rattle.std.proofs.lemmas.Option.{slice_get_within, slice_get-get_or, get_or_from_slice_get}
use Rattle.std.specs.List.{filter_map, cons_option}
use Rattle.ff_basics.proofs.Memberships.{by_member, first_member, in_range, later_member, no_member, range_in}
use Rattle.ff_basics.proofs.Lists.{filter_map_in, in_filter_map}
use Rattle.ff_tables.specs.declared.orders.Order.{Order}
use Rattle.ff_tables.specs.declared.orders.Order.TheVariants.{Below, Above}
use Rattle.ff_tables.specs.declared.givens.Given.{Given}
use Rattle.ff_tables.specs.declared.givens.GivenBy.TheVariants.{Crease}
use Rattle.ff_types.specs.declared.patterns.Pattern.{Pattern}
use Rattle.ff_types.specs.declared.patterns.Mark.{Mark}
use Rattle.ff_types.specs.declared.patterns.Mark.TheVariants.{B, M, V, F, U}
use Rattle.ff_types.specs.declared.faces.Faces.{Faces}
use Rattle.ff_types.specs.declared.faces.Folded.{Folded}
use Rattle.ff_types.specs.declared.cases.Case.{Case}
use Rattle.ff_types.specs.Foldings.{is_folded, FitFlags}
use Rattle.ff_types.specs.Pairs.{number_of}
use Rattle.ff_types.specs.Sheets.{Sheet, sheet_of, lies_up, mark_of, left_face, right_face, edges_of}
use Rattle.ff_types.specs.Keeping.{KeepsMark, KeepsEdge, KeepsCreases}
use Rattle.ff_types.specs.Cites.{lesser, greater, is_folded_edge}
use Rattle.ff_types.specs.Cases.{IsCaseOf, crease_order, given_by, start_of}
use Rattle.ff_types.specs.Assignments.{says_above, says_below, set_by, HoldsStarts}
use Rattle.ff_types.specs.FoldedPatterns.{IsFoldedPattern}
use Rattle.ff_borders.proofs.TwoSides.{HasSides, both_sides, by_order}
use Rattle.ff_borders.proofs.Terms.{crease_faces_overlap}
use Rattle.ff_crossings.proofs.PairSets.{overlap_number, turned_number, lower_value, upper_value}

-- ---- lists

-- ---- one crease

-- it holds exactly where the value is this one
abbrev Tells : Type 0 → Option Order → Order → Type 0
Tells P o s = (P → o ≡ Some s) × (o ≡ Some s → P)

differ : {A : Type 0} → Some Below ≡ Some Above → A
differ q = absurd (false≢true (ap is_above q)) where
  is_above : Option Order → Bool
  is_above (Some Above) = true
  is_above _ = false

differ2 : {A : Type 0} → Some Above ≡ Some Below → A
differ2 q = differ (sym q)

valley_direct : (up : Bool) (s : Order) → Tells (IsTrue (if up then says_below (Some s) else says_above (Some s))) (crease_order V up) s
valley_direct true Below = ((λ t. refl), (λ e. refl))
valley_direct true Above = ((λ t. absurd (false≢true t)), (λ e. differ e))
valley_direct false Below = ((λ t. absurd (false≢true t)), (λ e. differ2 e))
valley_direct false Above = ((λ t. refl), (λ e. refl))

valley_turned : (up : Bool) (s : Order) → Tells (IsTrue (if up then says_above (Some s) else says_below (Some s))) (crease_order V (not up)) s
valley_turned true Below = ((λ t. absurd (false≢true t)), (λ e. differ2 e))
valley_turned true Above = ((λ t. refl), (λ e. refl))
valley_turned false Below = ((λ t. refl), (λ e. refl))
valley_turned false Above = ((λ t. absurd (false≢true t)), (λ e. differ e))

mountain_direct : (up : Bool) (s : Order) → Tells (IsTrue (if up then says_above (Some s) else says_below (Some s))) (crease_order M up) s
mountain_direct true Below = ((λ t. absurd (false≢true t)), (λ e. differ2 e))
mountain_direct true Above = ((λ t. refl), (λ e. refl))
mountain_direct false Below = ((λ t. refl), (λ e. refl))
mountain_direct false Above = ((λ t. absurd (false≢true t)), (λ e. differ e))

mountain_turned : (up : Bool) (s : Order) → Tells (IsTrue (if up then says_below (Some s) else says_above (Some s))) (crease_order M (not up)) s
mountain_turned true Below = ((λ t. refl), (λ e. refl))
mountain_turned true Above = ((λ t. absurd (false≢true t)), (λ e. differ e))
mountain_turned false Below = ((λ t. absurd (false≢true t)), (λ e. differ2 e))
mountain_turned false Above = ((λ t. refl), (λ e. refl))

module _ {pattern : Pattern} {faces : Faces} {folded : Folded} (h : IsFoldedPattern pattern faces folded)
    (case : Case) (is : IsCaseOf (sheet_of pattern faces folded) case) (a : ℕ → Order) where
  abbrev g : Sheet
  g = sheet_of pattern faces folded

  abbrev above : ℕ → ℕ → Bool
  above = set_by case.pairs a

  -- the crease between the faces f and k, left and right of it, with its number
  record IsNumbered (e f k n : ℕ) : Type 0 where
    sides : HasSides g e f k
    number : number_of case.pairs (lesser g e) (greater g e) ≡ Some n
    rises : lesser g e < greater g e
    turned : lies_up g k ≡ not (lies_up g f)

  folded_mark : (m : Mark) → (m ≡ M) ⊎ (m ≡ V) → IsTrue (is_folded m)
  folded_mark m (inl e) = subst (λ x. IsTrue (is_folded x)) (sym e) refl
  folded_mark m (inr e) = subst (λ x. IsTrue (is_folded x)) (sym e) refl

  no_border : (m : Mark) → (m ≡ M) ⊎ (m ≡ V) → m ≢ B
  no_border m c b = false≢true (subst (λ x. IsTrue (is_folded x)) b (folded_mark m c))

  each_numbered : (e : ℕ) → e < length pattern.edges → (mark_of g e ≡ M) ⊎ (mark_of g e ≡ V) → (f : ℕ) × (k : ℕ) × (n : ℕ) × IsNumbered e f k n
  each_numbered e l m =
      let s = both_sides h e l (no_border (mark_of g e) m) in
      let t : IsTrue (is_folded_edge g e) = rw (ap (λ b. b) (lt-ltb e (length pattern.edges) l)) (folded_mark (mark_of g e) m) in
      let o = crease_faces_overlap h e t in
      let n = overlap_number g case is (lesser g e) (greater g e) o.1 in (
        s.0,
        s.1,
        n.0,
        record {
          sides = s.2;
          number = n.1;
          rises = o.0;
          turned = not_turn (lies_up g s.0) (lies_up g s.1) (fits (mark_of g e) (lies_up g s.0) (lies_up g s.1) m (h.folding.flags e s.0 s.1 (omega (arith, l, h.faces_are.as_many_sides)) s.2.left s.2.right));
        },
      ) where
        fits : (m : Mark) (b c : Bool) → (m ≡ M) ⊎ (m ≡ V) → FitFlags m b c → b ≡ not c
        fits m b c (inl q) x = subst (λ y. FitFlags y b c) q x
        fits m b c (inr q) x = subst (λ y. FitFlags y b c) q x

        not_turn : (b c : Bool) → b ≡ not c → c ≡ not b
        not_turn b true q = ap not (sym q)
        not_turn b false q = ap not (sym q)

  -- the values of the two orders of its faces
  lower_is : (l g2 n : ℕ) → number_of case.pairs l g2 ≡ Some n → l < g2 → above l g2 ≡ says_above (Some (a n))
  lower_is l g2 n e r = lower_value case.pairs (λ v. Some (a v)) l g2 n e r

  upper_is : (l g2 n : ℕ) → number_of case.pairs l g2 ≡ Some n → l < g2 → above g2 l ≡ says_below (Some (a n))
  upper_is l g2 n e r = upper_value case.pairs (λ v. Some (a v)) g2 l n (sym (turned_number case.pairs l g2 (λ q. omega (arith, q, r))) ∙ e) r

  -- a test of the two orders
  by_orders : (up : Bool) (x y v w : Bool) (o : Option Order) (s : Order) → x ≡ v → y ≡ w → Tells (IsTrue (if up then v else w)) o s → Tells (IsTrue (if up then x else y)) o s
  by_orders up x y v w o s d e t = subst (λ z. Tells (IsTrue (if up then z else y)) o s) (sym d) (subst (λ z. Tells (IsTrue (if up then v else z)) o s) (sym e) t)

  -- what is so of its two faces is so of the edge
  of_faces : (m : Mark) (e f k n : ℕ) → mark_of g e ≡ m → HasSides g e f k → Tells (KeepsMark g above m (Some f) (Some k)) (crease_order m (lies_up g (lesser g e))) (a n)
      → Tells (KeepsEdge g above e) (crease_order (mark_of g e) (lies_up g (lesser g e))) (a n)
  of_faces m e f k n q c t = subst (λ x. Tells (KeepsMark g above x (left_face g e) (right_face g e)) (crease_order x (lies_up g (lesser g e))) (a n)) (sym q)
      (subst (λ x. Tells (KeepsMark g above m x (right_face g e)) (crease_order m (lies_up g (lesser g e))) (a n)) (sym c.left)
      (subst (λ x. Tells (KeepsMark g above m (Some f) x) (crease_order m (lies_up g (lesser g e))) (a n)) (sym c.right) t))

  -- it is kept exactly where its variable has the value that its mark asks
  kept_valley : (e f k n : ℕ) → e < length pattern.edges → IsNumbered e f k n → Tells (KeepsMark g above V (Some f) (Some k)) (crease_order V (lies_up g (lesser g e))) (a n)
  kept_valley e f k n l c = by_order h e f k l c.sides direct other where
    direct : lesser g e ≡ f → greater g e ≡ k → Tells (KeepsMark g above V (Some f) (Some k)) (crease_order V (lies_up g (lesser g e))) (a n)
    direct p q = by_orders (lies_up g f) (above k f) (above f k) (says_below (Some (a n))) (says_above (Some (a n))) (crease_order V (lies_up g (lesser g e))) (a n)
        (upper_is f k n number rises) (lower_is f k n number rises) (subst (λ x. Tells (IsTrue (if lies_up g f then says_below (Some (a n)) else says_above (Some (a n)))) (crease_order V (lies_up g x)) (a n)) (sym p) (valley_direct (lies_up g f) (a n))) where
          number : number_of case.pairs f k ≡ Some n
          number = subst (λ x. number_of case.pairs x k ≡ Some n) p (subst (λ x. number_of case.pairs (lesser g e) x ≡ Some n) q c.number)

          rises : f < k
          rises = subst (λ x. x < k) p (subst (λ x. lesser g e < x) q c.rises)

    other : lesser g e ≡ k → greater g e ≡ f → Tells (KeepsMark g above V (Some f) (Some k)) (crease_order V (lies_up g (lesser g e))) (a n)
    other p q = by_orders (lies_up g f) (above k f) (above f k) (says_above (Some (a n))) (says_below (Some (a n))) (crease_order V (lies_up g (lesser g e))) (a n)
        (lower_is k f n number rises) (upper_is k f n number rises) (subst (λ x. Tells (IsTrue (if lies_up g f then says_above (Some (a n)) else says_below (Some (a n)))) (crease_order V x) (a n)) (sym (ap (lies_up g) p ∙ c.turned)) (valley_turned (lies_up g f) (a n))) where
          number : number_of case.pairs k f ≡ Some n
          number = subst (λ x. number_of case.pairs x f ≡ Some n) p (subst (λ x. number_of case.pairs (lesser g e) x ≡ Some n) q c.number)

          rises : k < f
          rises = subst (λ x. x < f) p (subst (λ x. lesser g e < x) q c.rises)

  kept_mountain : (e f k n : ℕ) → e < length pattern.edges → IsNumbered e f k n → Tells (KeepsMark g above M (Some f) (Some k)) (crease_order M (lies_up g (lesser g e))) (a n)
  kept_mountain e f k n l c = by_order h e f k l c.sides direct other where
    direct : lesser g e ≡ f → greater g e ≡ k → Tells (KeepsMark g above M (Some f) (Some k)) (crease_order M (lies_up g (lesser g e))) (a n)
    direct p q = by_orders (lies_up g f) (above f k) (above k f) (says_above (Some (a n))) (says_below (Some (a n))) (crease_order M (lies_up g (lesser g e))) (a n)
        (lower_is f k n number rises) (upper_is f k n number rises) (subst (λ x. Tells (IsTrue (if lies_up g f then says_above (Some (a n)) else says_below (Some (a n)))) (crease_order M (lies_up g x)) (a n)) (sym p) (mountain_direct (lies_up g f) (a n))) where
          number : number_of case.pairs f k ≡ Some n
          number = subst (λ x. number_of case.pairs x k ≡ Some n) p (subst (λ x. number_of case.pairs (lesser g e) x ≡ Some n) q c.number)

          rises : f < k
          rises = subst (λ x. x < k) p (subst (λ x. lesser g e < x) q c.rises)

    other : lesser g e ≡ k → greater g e ≡ f → Tells (KeepsMark g above M (Some f) (Some k)) (crease_order M (lies_up g (lesser g e))) (a n)
    other p q = by_orders (lies_up g f) (above f k) (above k f) (says_below (Some (a n))) (says_above (Some (a n))) (crease_order M (lies_up g (lesser g e))) (a n)
        (upper_is k f n number rises) (lower_is k f n number rises) (subst (λ x. Tells (IsTrue (if lies_up g f then says_below (Some (a n)) else says_above (Some (a n)))) (crease_order M x) (a n)) (sym (ap (lies_up g) p ∙ c.turned)) (mountain_turned (lies_up g f) (a n))) where
          number : number_of case.pairs k f ≡ Some n
          number = subst (λ x. number_of case.pairs x f ≡ Some n) p (subst (λ x. number_of case.pairs (lesser g e) x ≡ Some n) q c.number)

          rises : k < f
          rises = subst (λ x. x < f) p (subst (λ x. lesser g e < x) q c.rises)

  -- a crease has its number, and is kept exactly where that has the value asked
  pub kept_by : (e : ℕ) → e < length pattern.edges → (mark_of g e ≡ M) ⊎ (mark_of g e ≡ V)
      → (n : ℕ) × (number_of case.pairs (lesser g e) (greater g e) ≡ Some n) × Tells (KeepsEdge g above e) (crease_order (mark_of g e) (lies_up g (lesser g e))) (a n)
  kept_by e l m = by (each_numbered e l m) where
    by : (f : ℕ) × (k : ℕ) × (n : ℕ) × IsNumbered e f k n
        → (n : ℕ) × (number_of case.pairs (lesser g e) (greater g e) ≡ Some n) × Tells (KeepsEdge g above e) (crease_order (mark_of g e) (lies_up g (lesser g e))) (a n)
    by (f, k, n, r) = (
      n,
      r.number,
      elim m [
        | inl q ↦ of_faces M e f k n q r.sides (kept_mountain e f k n l r)
        | inr q ↦ of_faces V e f k n q r.sides (kept_valley e f k n l r)
      ],
    )

  -- its start
  is_start : (e n : ℕ) (s : Order) → number_of case.pairs (lesser g e) (greater g e) ≡ Some n → crease_order (mark_of g e) (lies_up g (lesser g e)) ≡ Some s
      → start_of g case.pairs e ≡ Some (record { var = n; value = s; by = Crease e })
  is_start e n s p q = ap (λ o. given_by e o (crease_order (mark_of g e) (lies_up g (lesser g e)))) p ∙ ap (λ o. given_by e (Some n) o) q

  -- where the assignment holds the starts
  holds_start : HoldsStarts case.starts a → (e : ℕ) → e < length pattern.edges → (s : Given) → start_of g case.pairs e ≡ Some s → a s.var ≡ s.value
  holds_start hold e l s q = by (subst (λ xs. Contains xs s) (sym is.starts_are) (filter_map_in (start_of g case.pairs) (edges_of g) e s (range_in 0 (length pattern.edges) e (omega arith) (omega (arith, l))) q)) where
    by : Contains case.starts s → a s.var ≡ s.value
    by (i, j, r) = the (hold i s (slice_get-get_or case.starts i s j ∙ ap Some r)) where
      the : Some (a s.var) ≡ Some s.value → a s.var ≡ s.value
      the x = cc

  an_order : (m : Mark) (up : Bool) → (m ≡ M) ⊎ (m ≡ V) → (s : Order) × (crease_order m up ≡ Some s)
  an_order m true (inl q) = (Above, ap (λ x. crease_order x true) q)
  an_order m false (inl q) = (Below, ap (λ x. crease_order x false) q)
  an_order m true (inr q) = (Below, ap (λ x. crease_order x true) q)
  an_order m false (inr q) = (Above, ap (λ x. crease_order x false) q)

  keeps_crease : HoldsStarts case.starts a → (e : ℕ) → e < length pattern.edges → (mark_of g e ≡ M) ⊎ (mark_of g e ≡ V) → KeepsEdge g above e
  keeps_crease hold e l m = by (kept_by e l m) (an_order (mark_of g e) (lies_up g (lesser g e)) m) where
    by : (n : ℕ) × (number_of case.pairs (lesser g e) (greater g e) ≡ Some n) × Tells (KeepsEdge g above e) (crease_order (mark_of g e) (lies_up g (lesser g e))) (a n)
        → (s : Order) × (crease_order (mark_of g e) (lies_up g (lesser g e)) ≡ Some s) → KeepsEdge g above e
    by (n, p, t) (s, q) = t.1 (q ∙ ap Some (sym (holds_start hold e l (record { var = n; value = s; by = Crease e }) (is_start e n s p q))))

  to_keeps : HoldsStarts case.starts a → KeepsCreases g above
  to_keeps hold e l = by (mark_of g e) refl where
    crease : (m : Mark) → (m ≡ M) ⊎ (m ≡ V) → mark_of g e ≡ m → KeepsMark g above m (left_face g e) (right_face g e)
    crease m c q = subst (λ x. KeepsMark g above x (left_face g e) (right_face g e)) q (keeps_crease hold e l (subst (λ x. (x ≡ M) ⊎ (x ≡ V)) (sym q) c))

    other : (m : Mark) → (KeepsMark g above m None None) → mark_of g e ≡ m → ((x y : Option ℕ) → KeepsMark g above m x y) → KeepsEdge g above e
    other m u q f = subst (λ x. KeepsMark g above x (left_face g e) (right_face g e)) (sym q) (f (left_face g e) (right_face g e))

    by : (m : Mark) → mark_of g e ≡ m → KeepsEdge g above e
    by M q = subst (λ x. KeepsMark g above x (left_face g e) (right_face g e)) (sym q) (crease M (inl refl) q)
    by V q = subst (λ x. KeepsMark g above x (left_face g e) (right_face g e)) (sym q) (crease V (inr refl) q)
    by B q = other B tt q (λ x y. free B x y tt) where
      free : (m : Mark) (x y : Option ℕ) → Unit {0} → KeepsMark g above B x y
      free m x y t = tt
    by F q = other F tt q (λ x y. free x y) where
      free : (x y : Option ℕ) → KeepsMark g above F x y
      free x y = tt
    by U q = other U tt q (λ x y. free x y) where
      free : (x y : Option ℕ) → KeepsMark g above U x y
      free x y = tt

  -- where its set keeps the creases
  given_of : (e : ℕ) (o : Option ℕ) (p : Option Order) (s : Given) → given_by e o p ≡ Some s → (o ≡ Some s.var) × (p ≡ Some s.value)
  given_of e (Some n) (Some v) s q = (ap Some (ap var_of q2), ap Some (ap value_of q2)) where
    var_of : Given → ℕ
    var_of x = x.var

    value_of : Given → Order
    value_of x = x.value

    q2 : record { var = n; value = v; by = Crease e } ≡ s
    q2 = cc
  given_of e None p s q = absurd (none_some q) where
    none_some : None ≡ Some s → ⊥
    none_some x = cc
  given_of e (Some n) None s q = absurd (none_some q) where
    none_some : None ≡ Some s → ⊥
    none_some x = cc

  is_crease : (m : Mark) (up : Bool) (s : Order) → crease_order m up ≡ Some s → (m ≡ M) ⊎ (m ≡ V)
  is_crease M up s q = inl refl
  is_crease V up s q = inr refl
  is_crease B up s q = absurd (none_some s q) where
    none_some : (s : Order) → None ≡ Some s → ⊥
    none_some s x = cc
  is_crease F up s q = absurd (none_some s q) where
    none_some : (s : Order) → None ≡ Some s → ⊥
    none_some s x = cc
  is_crease U up s q = absurd (none_some s q) where
    none_some : (s : Order) → None ≡ Some s → ⊥
    none_some s x = cc

  from_keeps : KeepsCreases g above → HoldsStarts case.starts a
  from_keeps keeps i s there = by (in_filter_map (start_of g case.pairs) (edges_of g) s (subst (λ xs. Contains xs s) is.starts_are (i, slice_get_within case.starts i s there, get_or_from_slice_get case.starts i s s there))) where
    by : (e : ℕ) × Contains (edges_of g) e × (start_of g case.pairs e ≡ Some s) → Some (a s.var) ≡ Some s.value
    by (e, m, q) = from (kept_by e l (is_crease (mark_of g e) (lies_up g (lesser g e)) s.value r.1)) where
      l : e < length pattern.edges
      l = let k = in_range 0 (length pattern.edges) e m in omega (arith, k.1)

      r : (number_of case.pairs (lesser g e) (greater g e) ≡ Some s.var) × (crease_order (mark_of g e) (lies_up g (lesser g e)) ≡ Some s.value)
      r = given_of e (number_of case.pairs (lesser g e) (greater g e)) (crease_order (mark_of g e) (lies_up g (lesser g e))) s q

      from : (n : ℕ) × (number_of case.pairs (lesser g e) (greater g e) ≡ Some n) × Tells (KeepsEdge g above e) (crease_order (mark_of g e) (lies_up g (lesser g e))) (a n) → Some (a s.var) ≡ Some s.value
      from (n, p, t) = ap (λ v. Some (a v)) (one (sym r.0 ∙ p)) ∙ sym (t.0 (keeps e l)) ∙ r.1 where
        one : Some s.var ≡ Some n → s.var ≡ n
        one x = cc

  pub creases_kept : HoldsStarts case.starts a ↔ KeepsCreases g above
  creases_kept = (to_keeps, from_keeps)
