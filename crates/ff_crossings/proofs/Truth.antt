-- The case of a folded sheet is true to it.
use Rattle.std.proofs.Common.{◌≡◌, inl, inr, ℕ, ◌<◌, ◌∙◌, Bool, true, false, not, List, [], ◌∷◌, length, map, get_or, zero, suc, slice_get, Option, Some, None, IsTrue, if◌then◌else◌, refl, ap, sym, subst, arith}
use Rattle.std.proofs.lemmas.Option.{slice_get_within, slice_get-get_or, get_or_from_slice_get}
use Rattle.ff_tables.specs.declared.orders.Order.{Order}
use Rattle.ff_tables.specs.declared.orders.Order.TheVariants.{Below, Above}
use Rattle.ff_tables.specs.declared.terms.Kind.{Kind}
use Rattle.ff_tables.specs.declared.terms.Constraint.{Constraint}
use Rattle.ff_tables.specs.Rows.{HasRow}
use Rattle.ff_tables.specs.Forces.{Meets}
use Rattle.ff_types.specs.declared.patterns.Pattern.{Pattern}
use Rattle.ff_types.specs.declared.faces.Faces.{Faces}
use Rattle.ff_types.specs.declared.faces.Folded.{Folded}
use Rattle.ff_types.specs.declared.cases.Case.{Case}
use Rattle.ff_types.specs.declared.cites.Cite.{Cite}
use Rattle.ff_types.specs.Pairs.{pair_at}
use Rattle.ff_types.specs.Sheets.{Sheet, sheet_of}
use Rattle.ff_types.specs.Inside.{Overlap}
use Rattle.ff_types.specs.Crossings.{IsGeometricStacking}
use Rattle.ff_types.specs.Terms.{kind_of, terms_of, value_in, HasItsRow}
use Rattle.ff_types.specs.Cases.{key, IsCaseOf}
use Rattle.ff_types.specs.Assignments.{says_above, says_below, set_by, IsTrueTo}
use Rattle.ff_types.specs.FoldedPatterns.{IsFoldedPattern}
use Rattle.ff_crossings.specs.CrossingLaws.{HasAllRows}
use Rattle.ff_crossings.proofs.RowStackings.{rows_stack}
use Rattle.ff_crossings.proofs.CiteRows.{cites_have_rows}
use Rattle.ff_crossings.proofs.BorderLaws.{folded_laws}
use Rattle.ff_borders.proofs.Witnesses.{witnessed_hold}
use Rattle.ff_crossings.specs.CaseLaws.{CasesAreTrue}
use Rattle.ff_types.proofs.FewFaces.{overlap_turned}
use Rattle.ff_crossings.proofs.PairSets.{Numbered, numbered, there_overlap, overlap_number, orders_overlaps, lower_value, upper_value, no_value, either_order, lesser_first, greater_first}
use Rattle.ff_crossings.proofs.CaseRows.{row_from_set, set_from_row, same_terms}
use Rattle.ff_crossings.proofs.Creases.{creases_kept}

pub at_place : {A : Type 0} (xs : List A) (n : ℕ) → n < length xs → (x : A) × (slice_get xs n ≡ Some x)
at_place {A} xs n l = by (slice_get xs n) refl where
  by : (o : Option A) → slice_get xs n ≡ o → (x : A) × (slice_get xs n ≡ Some x)
  by (Some x) q = (x, q)
  by None q = absurd (past xs n l q) where
    past : (xs : List A) (n : ℕ) → n < length xs → slice_get xs n ≡ None → ⊥
    past [] n l q = omega (arith, l)
    past (x ∷ xs) zero l q = none_some (slice_get-get_or (x ∷ xs) 0 x l) where
      none_some : slice_get (x ∷ xs) 0 ≡ Some (get_or (x ∷ xs) 0 x) → ⊥
      none_some e = some_none (sym e ∙ q) where
        some_none : Some (get_or (x ∷ xs) 0 x) ≡ None → ⊥
        some_none r = cc
    past (x ∷ xs) (suc n) l q = some_none (sym (slice_get-get_or (x ∷ xs) (suc n) x l) ∙ q) where
      some_none : Some (get_or (x ∷ xs) (suc n) x) ≡ None → ⊥
      some_none r = cc

-- a row of a cite is one of each cite with its key
row_by_key : (g : Sheet) (above : ℕ → ℕ → Bool) (c d : Cite) → key d ≡ key c → HasItsRow g above d → HasItsRow g above c
row_by_key g above c d e (k, has) =
    let t = same_terms g d c e in
    (k, subst (λ (kind : Kind). HasRow kind k (map (value_in above) (terms_of g c))) t.0 (subst (λ ts. HasRow (kind_of d) k (map (value_in above) ts)) t.1 has))

module _ {pattern : Pattern} {faces : Faces} {folded : Folded} (h : IsFoldedPattern pattern faces folded) where
  abbrev g : Sheet
  g = sheet_of pattern faces folded

  module _ (case : Case) (is : IsCaseOf g case) where
    -- the cite of a constraint, and the constraint of a cite
    cite_there : (n : ℕ) (con : Constraint) → slice_get case.system.constraints n ≡ Some con → (c : Cite) × (slice_get case.cites n ≡ Some c)
    cite_there n con e = at_place case.cites n (let m = slice_get_within case.system.constraints n con e in omega (arith, m, case.valid.cited))

    constraint_there : (n : ℕ) (c : Cite) → slice_get case.cites n ≡ Some c → (con : Constraint) × (slice_get case.system.constraints n ≡ Some con)
    constraint_there n c e = at_place case.system.constraints n (let m = slice_get_within case.cites n c e in omega (arith, m, case.valid.cited))

    -- an assignment that meets the constraints gives each cite that holds a row
    all_rows : (a : ℕ → Order) → Meets case.system.constraints a → HasAllRows g (set_by case.pairs a)
    all_rows a meets c holds = by (is.complete c holds) where
      by : (n : ℕ) × (d : Cite) × (slice_get case.cites n ≡ Some d) × (key d ≡ key c) → HasItsRow g (set_by case.pairs a) c
      by (n, d, there, same) =
          let con = constraint_there n d there in
          row_by_key g (set_by case.pairs a) c d same (set_from_row g case.pairs is.sorted_pairs a d con.0 (is.constraints_are n d con.0 there con.1) (meets n con.0 con.1))

    pub to_stacking : (a : ℕ → Order) → Meets case.system.constraints a → IsGeometricStacking g (set_by case.pairs a)
    to_stacking a meets = rows_stack g (folded_laws pattern faces folded h) (set_by case.pairs a) (orders_overlaps g case is a) (all_rows a meets)

    pub to_meets : (a : ℕ → Order) → IsGeometricStacking g (set_by case.pairs a) → Meets case.system.constraints a
    to_meets a geometric n con there =
        let c = cite_there n con there in
        let holds = witnessed_hold h c.0 (is.witnessed n c.0 c.1) in
        row_from_set g case.pairs is.sorted_pairs a c.0 con (is.constraints_are n c.0 con c.1 there) (cites_have_rows g (folded_laws pattern faces folded h) (set_by case.pairs a) geometric c.0 holds)

    -- the assignment of a geometric stacking
    module _ (above : ℕ → ℕ → Bool) (geometric : IsGeometricStacking g above) where
      abbrev assigned : ℕ → Order
      assigned n = if above (pair_at case.pairs n).0 (pair_at case.pairs n).1 then Above else Below

      same_value : (f k : ℕ) → above f k ≡ set_by case.pairs assigned f k
      unfolding Numbered
      same_value f k = elim (numbered case.pairs f k) [
        | inl s ↦ elim (either_order f k (there_overlap g case is f k s.0 s.2).differ) [
          | inl l ↦ by_above s.0 f k (pair_is s.0 (f, k) (s.2 ∙ ap Some (lesser_first f k l))) ∙ sym (lower_value case.pairs (λ n. Some (assigned n)) f k s.0 s.1 l)
          | inr l ↦ by_below s.0 f k (there_overlap g case is f k s.0 s.2) (pair_is s.0 (k, f) (s.2 ∙ ap Some (greater_first f k l))) ∙ sym (upper_value case.pairs (λ n. Some (assigned n)) f k s.0 s.1 l)
        ]
        | inr s ↦ not_true (above f k) (λ t. absurd (s.1 _ (overlap_number g case is f k (geometric.stacking.orders.only f k t)).2)) ∙ sym (no_value case.pairs (λ n. Some (assigned n)) f k s.0)
      ] where
        pair_is : (n : ℕ) (p : ℕ × ℕ) → slice_get case.pairs n ≡ Some p → pair_at case.pairs n ≡ p
        pair_is n p e = get_or_from_slice_get case.pairs n p (0, 0) e

        not_true : (b : Bool) → (IsTrue b → ⊥) → b ≡ false
        not_true true f = absurd (f refl)
        not_true false f = refl

        told_above : (b : Bool) → b ≡ says_above (Some (if b then Above else Below))
        told_above true = refl
        told_above false = refl

        told_below : (b c : Bool) → c ≡ not b → b ≡ says_below (Some (if c then Above else Below))
        told_below true c e = rw e refl
        told_below false c e = rw e refl

        by_above : (n f k : ℕ) → pair_at case.pairs n ≡ (f, k) → above f k ≡ says_above (Some (assigned n))
        by_above n f k e = told_above (above f k) ∙ ap (λ p. says_above (Some (if above p.0 p.1 then Above else Below))) (sym e)

        by_below : (n f k : ℕ) → Overlap g f k → pair_at case.pairs n ≡ (k, f) → above f k ≡ says_below (Some (assigned n))
        by_below n f k o e = told_below (above f k) (above k f) (geometric.stacking.orders.one k f (overlap_turned g f k o)) ∙ ap (λ p. says_below (Some (if above p.0 p.1 then Above else Below))) (sym e)

      pub has_assignment : (a : ℕ → Order) × ((f k : ℕ) → above f k ≡ set_by case.pairs a f k)
      has_assignment = (assigned, same_value)

    pub is_true : IsTrueTo g case
    is_true = record {
      stackings = λ a. (to_stacking a, to_meets a);
      creases = λ a. creases_kept h case is a;
      all = λ above geometric. has_assignment above geometric;
    }

pub cases_are_true : {pattern : Pattern} {faces : Faces} {folded : Folded} → IsFoldedPattern pattern faces folded → CasesAreTrue (sheet_of pattern faces folded)
cases_are_true h case is = is_true h case is
