-- The ground of a case is that of its sheet, or less.
use Rattle.std.proofs.Common.{◌≡◌, ◌≢◌, ◌∙◌, ◌⊎◌, inl, inr, ℕ, suc, ◌<◌, ◌&&◌, Bool, true, false, not, cond, List, [], ◌∷◌, length, map, Option, Some, None, refl, sym, ap, ap₂, subst, IsTrue, arith, Contains}
use Rattle.std.specs.Prelude.{slice_get, nat_lt}
use Rattle.std.proofs.lemmas.Bool.{lt-ltb, le-ltb, eqb-true, and_parts, cases_order}
use Rattle.std.proofs.lemmas.Option.{get_or_from_slice_get}
use Rattle.ff_basics.proofs.Lists.{in_filter_map}
use Rattle.ff_basics.proofs.Memberships.{first_member, later_member, in_range}
use Rattle.ff_tables.specs.declared.orders.Order.{Order}
use Rattle.ff_tables.specs.declared.orders.Order.TheVariants.{Below, Above}
use Rattle.ff_tables.specs.declared.terms.Term.{Term}
use Rattle.ff_tables.specs.declared.givens.Given.{Given}
use Rattle.ff_tables.specs.declared.givens.GivenBy.TheVariants.{Crease}
use Rattle.ff_tables.specs.Orders.{term_at}
use Rattle.ff_types.specs.declared.patterns.Pattern.{Pattern}
use Rattle.ff_types.specs.declared.patterns.Mark.{Mark}
use Rattle.ff_types.specs.declared.patterns.Mark.TheVariants.{B, M, V, F, U}
use Rattle.ff_types.specs.declared.faces.Faces.{Faces}
use Rattle.ff_types.specs.declared.faces.Folded.{Folded}
use Rattle.ff_types.specs.declared.pins.Pin.{Pin}
use Rattle.ff_types.specs.declared.cites.Cite.{Cite}
use Rattle.ff_types.specs.declared.cases.Case.{Case}
use Rattle.ff_types.specs.Foldings.{FitFlags}
use Rattle.ff_types.specs.Pairs.{pair_at, in_order, place_in, number_of, StandsIn}
use Rattle.ff_types.specs.Sheets.{Sheet, sheet_of, is_face, lies_up, mark_of, left_face, right_face, edges_of}
use Rattle.ff_types.specs.Inside.{Overlap, is_inside}
use Rattle.ff_types.specs.Cites.{lesser, greater}
use Rattle.ff_types.specs.Terms.{terms_of}
use Rattle.ff_types.specs.Cases.{IsCaseOf, IsTermOf, crease_order, given_by, start_of}
use Rattle.ff_types.specs.FoldedPatterns.{IsFoldedPattern}
use Rattle.ff_types.proofs.SortedPairs.{place_stands}
use Rattle.ff_borders.proofs.TwoSides.{two_faces}
use Rattle.ff_log.specs.declared.claims.Claim.{Claim}
use Rattle.ff_log.specs.declared.claims.Declared.{Declared}
use Rattle.ff_log.specs.declared.logs.LogLine.{LogLine}
use Rattle.ff_log.specs.Logs.{claim}
use Rattle.ff_log.specs.Grounds.{crease_claim, is_up_face, crease_on, UsesOn, AreFaces, sheet_ground, turned_pair, pair_of, UsesIn, is_by, claim_of_given, start_by, ArePair, case_ground, IsAccepted, IsAcceptedIn}
use Rattle.ff_checker.proofs.Refining.{Refines, closes}

-- ---- pairs and numbers

stands : (list : List (ℕ × ℕ)) (p : ℕ × ℕ) (n : ℕ) → place_in list p ≡ Some n → slice_get list n ≡ Some p
stands list p n e = subst (StandsIn list p) e (place_stands list p)

pair_there : (list : List (ℕ × ℕ)) (p : ℕ × ℕ) (n : ℕ) → place_in list p ≡ Some n → pair_at list n ≡ p
pair_there list p n e = get_or_from_slice_get list n p (0, 0) (stands list p n e)

-- a pair turned where its greater face comes first
turned_back : (p q : ℕ) → turned_pair (nat_lt q p) (in_order p q) ≡ (p, q)
turned_back p q = elim (cases_order p q) [
  | inl e ↦ rw (le-ltb q p (omega (arith, e)), le-ltb p q (omega (arith, e))) (λ i. (sym e i, e i))
  | inr k ↦ elim k [
    | inl l ↦ rw (le-ltb q p (omega (arith, l)), lt-ltb p q l) refl
    | inr l ↦ rw (lt-ltb q p l, le-ltb p q (omega (arith, l))) refl
  ]
]

term_pair : (pairs : List (ℕ × ℕ)) (pair : ℕ × ℕ) (t : Term) → IsTermOf pairs pair t → pair_of pairs t ≡ pair
term_pair pairs pair t is = ap₂ turned_pair is.turned (pair_there pairs (in_order pair.0 pair.1) t.var is.variable) ∙ turned_back pair.0 pair.1

same_pairs : (pairs : List (ℕ × ℕ)) (ts : List Term) (ps : List (ℕ × ℕ)) → length ts ≡ length ps
    → ((j : ℕ) → j < length ts → IsTermOf pairs (pair_at ps j) (term_at ts j)) → map (pair_of pairs) ts ≡ ps
same_pairs pairs [] [] l h = refl
same_pairs pairs [] (p ∷ ps) l h = absurd (omega (arith, l))
same_pairs pairs (t ∷ ts) [] l h = absurd (omega (arith, l))
same_pairs pairs (t ∷ ts) (p ∷ ps) l h = ap₂ (λ (x : ℕ × ℕ) (xs : List (ℕ × ℕ)). x ∷ xs) (term_pair pairs p t (h 0 (omega arith)))
    (same_pairs pairs ts ps (omega (arith, l)) (λ j k. h (suc j) (omega (arith, k))))

-- ---- creases

which : (m : Mark) (b : Bool) (v : Order) → crease_order m b ≡ Some v → (m ≡ M) ⊎ (m ≡ V)
which B b v e = cc
which F b v e = cc
which U b v e = cc
which M b v e = inl refl
which V b v e = inr refl

direct : (m : Mark) (b : Bool) (l k : ℕ) (v : Order) → crease_order m b ≡ Some v → crease_claim m b (Some l) (Some k) ≡ Some (claim l k v)
direct B b l k v e = cc
direct F b l k v e = cc
direct U b l k v e = cc
direct V true l k Below e = refl
direct V true l k Above e = cc
direct V false l k Below e = cc
direct V false l k Above e = refl
direct M true l k Below e = cc
direct M true l k Above e = refl
direct M false l k Below e = refl
direct M false l k Above e = cc

across : (m : Mark) (b : Bool) (l k : ℕ) (v : Order) → crease_order m b ≡ Some v → crease_claim m (not b) (Some k) (Some l) ≡ Some (claim l k v)
across B b l k v e = cc
across F b l k v e = cc
across U b l k v e = cc
across V true l k Below e = refl
across V true l k Above e = cc
across V false l k Below e = cc
across V false l k Above e = refl
across M true l k Below e = cc
across M true l k Above e = refl
across M false l k Below e = refl
across M false l k Above e = cc

flags_differ : (m : Mark) (b c : Bool) → (m ≡ M) ⊎ (m ≡ V) → FitFlags m b c → b ≡ not c
flags_differ m b c (inl q) x = subst (λ y. FitFlags y b c) q x
flags_differ m b c (inr q) x = subst (λ y. FitFlags y b c) q x

no_border : (m : Mark) → (m ≡ M) ⊎ (m ≡ V) → m ≢ B
no_border m (inl q) b = let e : M ≡ B = sym q ∙ b in absurd (apart e) where
  apart : M ≡ B → ⊥
  apart e = cc
no_border m (inr q) b = let e : V ≡ B = sym q ∙ b in absurd (apart e) where
  apart : V ≡ B → ⊥
  apart e = cc

-- the parts of a start
pub record IsStart (k : ℕ) (n : Option ℕ) (o : Option Order) (s : Given) : Type 0 where
  pub number : n ≡ Some s.var
  pub order : o ≡ Some s.value
  pub by : s.by ≡ Crease k

start_parts : (k : ℕ) (n : Option ℕ) (o : Option Order) (s : Given) → given_by k n o ≡ Some s → IsStart k n o s
start_parts k None o s e = cc
start_parts k (Some n) None s e = cc
start_parts k (Some n) (Some o) s e = let q : record { var = n; value = o; by = Crease k } ≡ s = cc in
    subst (IsStart k (Some n) (Some o)) q (record { number = refl; order = refl; by = refl })

found : (pairs : List (ℕ × ℕ)) (e : ℕ) (ss : List Given) (c : Claim) → start_by pairs e ss ≡ Some c
    → (s : Given) × Contains ss s × IsTrue (is_by e s.by) × (claim_of_given pairs s ≡ c)
found pairs e [] c h = cc
found pairs e (s ∷ ss) c h = by (is_by e s.by) refl h (λ k. found pairs e ss c k) where
  by : (b : Bool) → b ≡ is_by e s.by → (cond b (Some (claim_of_given pairs s)) (start_by pairs e ss)) ≡ Some c
      → (start_by pairs e ss ≡ Some c → (s2 : Given) × Contains ss s2 × IsTrue (is_by e s2.by) × (claim_of_given pairs s2 ≡ c))
      → (s2 : Given) × Contains (s ∷ ss) s2 × IsTrue (is_by e s2.by) × (claim_of_given pairs s2 ≡ c)
  by true q k rest = let same : claim_of_given pairs s ≡ c = cc in (s, first_member s ss s refl, sym q, same)
  by false q k rest = let r = rest k in (r.0, later_member s ss r.0 r.1, r.2, r.3)

module _ {pattern : Pattern} {faces : Faces} {folded : Folded} (h : IsFoldedPattern pattern faces folded) (case : Case) (is : IsCaseOf (sheet_of pattern faces folded) case) where
  abbrev g : Sheet
  g = sheet_of pattern faces folded

  uses : (c : Cite) (d : Declared) → UsesIn case c d → UsesOn g c d
  uses c d u =
      let con = is.constraints_are u.place c u.constraint u.cited u.there in
      record {
        witnessed = is.witnessed u.place c u.cited;
        is = u.is ∙ ap₂ (λ k (ts : List (ℕ × ℕ)). record { kind = k; terms = ts }) con.kind (same_pairs case.pairs u.constraint.terms (terms_of g c) con.counted con.terms);
      }

  one_crease : (e : ℕ) (s : Given) → e < length pattern.edges → start_of g case.pairs e ≡ Some s → crease_on g e ≡ Some (claim_of_given case.pairs s)
  one_crease e s l q =
      let p = start_parts e (number_of case.pairs (lesser g e) (greater g e)) (crease_order (mark_of g e) (lies_up g (lesser g e))) s q in
      let m = which (mark_of g e) (lies_up g (lesser g e)) s.value p.order in
      let t = two_faces h e l (no_border (mark_of g e) m) in
      let pair : pair_at case.pairs s.var ≡ (lesser g e, greater g e) = pair_there case.pairs (in_order (lesser g e) (greater g e)) s.var p.number
      ∙ rw (lt-ltb (lesser g e) (greater g e) t.0) refl in
      ap (λ b. cond b (crease_claim (mark_of g e) (is_up_face g (left_face g e)) (left_face g e) (right_face g e)) None) (lt-ltb e (length pattern.edges) l)
      ∙ elim t.1.beside [
        | inl b ↦ ap₂ (λ x y. crease_claim (mark_of g e) (is_up_face g x) x y) b.0 b.1 ∙ direct (mark_of g e) (lies_up g (lesser g e)) (lesser g e) (greater g e) s.value p.order
        | inr b ↦ ap₂ (λ x y. crease_claim (mark_of g e) (is_up_face g x) x y) b.0 b.1
            ∙ ap (λ u. crease_claim (mark_of g e) u (Some (greater g e)) (Some (lesser g e)))
            (flags_differ (mark_of g e) (lies_up g (greater g e)) (lies_up g (lesser g e)) m
            (h.folding.flags e (greater g e) (lesser g e) (omega (arith, l, h.faces_are.as_many_sides)) b.0 b.1))
            ∙ across (mark_of g e) (lies_up g (lesser g e)) (lesser g e) (greater g e) s.value p.order
      ]
      ∙ ap (λ x. Some (claim x.0 x.1 s.value)) (sym pair)

  crease : (e : ℕ) (c : Claim) → start_by case.pairs e case.starts ≡ Some c → crease_on g e ≡ Some c
  crease e c q =
      let f = found case.pairs e case.starts c q in
      let k = in_filter_map (start_of g case.pairs) (edges_of g) f.0 (subst (λ ss. Contains ss f.0) is.starts_are f.1) in
      let l = (in_range 0 (length pattern.edges) k.0 k.1).1 in
      let p = start_parts k.0 (number_of case.pairs (lesser g k.0) (greater g k.0)) (crease_order (mark_of g k.0) (lies_up g (lesser g k.0))) f.0 k.2 in
      let same : e ≡ k.0 = eqb-true e k.0 (subst (λ b. IsTrue (is_by e b)) p.by f.2) in
      ap (crease_on g) same ∙ one_crease k.0 f.0 (omega (arith, l)) k.2 ∙ ap (λ x. Some x) f.3

  ordered : (f k n : ℕ) → slice_get case.pairs n ≡ Some (in_order f k) → AreFaces g f k
  ordered f k n q = elim (cases_order f k) [
    | inl e ↦ let r = is.sorted_pairs.rising n (in_order f k) q in absurd (never f k e r)
    | inr o ↦ elim o [
      | inl l ↦ let v = (is.pairs_are f k l).1 (n, q ∙ rw (lt-ltb f k l) refl) in
          record { first = first_face f k v; second = second_face f k v; differ = v.differ }
      | inr l ↦ let v = (is.pairs_are k f l).1 (n, q ∙ rw (le-ltb f k (omega (arith, l))) refl) in
          record { first = second_face k f v; second = first_face k f v; differ = λ e. v.differ (sym e) }
    ]
  ] where
    never : (f k : ℕ) → f ≡ k → (in_order f k).0 < (in_order f k).1 → ⊥
    never f k e r = let q : in_order f k ≡ (k, f) = rw (le-ltb f k (omega (arith, e))) refl in let z : k < f = subst (λ (p : ℕ × ℕ). p.0 < p.1) q r in omega (arith, z, e)

    first_face : (f k : ℕ) → Overlap g f k → IsTrue (is_face g f)
    first_face f k o = (and_parts (is_face g f) _ (and_parts (is_inside g f o.common.at) (is_inside g k o.common.at && true) o.common.inside).0).0

    second_face : (f k : ℕ) → Overlap g f k → IsTrue (is_face g k)
    second_face f k o = (and_parts (is_face g k) _ (and_parts (is_inside g k o.common.at) true (and_parts (is_inside g f o.common.at) (is_inside g k o.common.at && true) o.common.inside).1).0).0

  tries : (f k : ℕ) → ArePair case f k → AreFaces g f k
  tries f k (n, q) = ordered f k n (stands case.pairs (in_order f k) n q)

  refines : (pins : List Pin) → Refines (case_ground case pins) (sheet_ground g pins)
  refines pins = record { uses = uses; crease = crease; pins = λ i c q. q; tries = tries }

  pub accepted : (pins : List Pin) (lines : List LogLine) → IsAcceptedIn case pins lines → IsAccepted g pins lines
  accepted pins lines log = closes (case_ground case pins) (sheet_ground g pins) (refines pins) lines log
