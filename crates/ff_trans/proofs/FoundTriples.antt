-- The triples that were found are those of each sheet whose face sets the cells have.
use Rattle.std.proofs.Common.{◌≡◌, ℕ, zero, suc, ◌+◌, ◌<◌, ◌≤◌, nat_lt, Result, Ok, Err, OnOk, inl, refl, sym, ap, ◌∙◌, subst, arith, Bool, true, false, ◌&&◌, IsTrue, List, [], ◌∷◌, ◌++◌, length, get_or, slice_get, Option, Some, None, ◌⊎◌, inr}
use Rattle.std.specs.List.{All, Contains, list_all}
use Rattle.std.proofs.lemmas.Bool.Decides.{nat_tests}
use Rattle.ff_tables.specs.declared.terms.Term.{Term}
use Rattle.ff_tables.specs.Orders.{term_at}
use Rattle.ff_types.specs.Terms.{kind_of}
use Rattle.ff_types.specs.declared.limits.TheConstants.{MOST_CONSTRAINTS}
use Rattle.ff_types.proofs.SortedPairs.{number_there}
use Rattle.std.proofs.lemmas.Bool.{ltb-true, false≢true}
use Rattle.std.proofs.lemmas.List.{length_push}
use Rattle.std.proofs.lemmas.Option.{slice_get_within, slice_get-get_or, get_or_from_slice_get}
use Rattle.ff_basics.proofs.Memberships.{filter_in, in_filter, range_in}
use Rattle.ff_basics.proofs.Tests.{both_of}
use Rattle.ff_basics.proofs.Lists.{all_at, member_some}
use Rattle.ff_whole.specs.declared.places.Place.{Place}
use Rattle.ff_types.specs.declared.cites.Cite.{Cite}
use Rattle.ff_types.specs.declared.cites.Cite.TheVariants.{Transitivity}
use Rattle.ff_types.specs.declared.cites.Listed.{Listed}
use Rattle.ff_types.specs.declared.refusals.No.{No}
use Rattle.ff_types.specs.declared.refusals.No.TheVariants.{Refused, NoMemory}
use Rattle.ff_types.specs.Sheets.{Sheet, faces_of, is_face}
use Rattle.ff_types.specs.Inside.{is_inside, over, HaveCommon}
use Rattle.ff_types.specs.Witnesses.{IsWitness, witness_face}
use Rattle.ff_types.specs.Cites.{Holds, Witnessed, HasSmallPlaces}
use Rattle.ff_types.specs.Cases.{IsTermOf, IsConstraintOf}
use Rattle.ff_cells.specs.declared.cell.Cell.{Cell}
use Rattle.ff_cells.specs.FaceSets.{HaveFaceSets}
use Rattle.ff_pairs.specs.Together.{AreTogether, ArePairsOf}
use Rattle.ff_types.specs.Splitting.{IsFull}
use Rattle.ff_trans.specs.Triples.{HasThree, HasCite, IsTriple, AreSomeTriples, AreWitnessed, AreTriples, WhyNoTriples}
use Rattle.ff_types.specs.Pairs.{AreSorted, pair_at}
use Rattle.ff_trans.specs.Rows.{IsListedBefore, IsListedTo, IsFirst, IsOfFaces, IsTaken, AreFoundTo, IsRow, IsReach}
use Rattle.ff_trans.specs.declared.found.Found.{Found}
use Rattle.ff_trans.proofs.Lists.{pair_there, row_takes, row_begins, row_skips, row_ends}

-- ---- tests of members

of_three : {A : Type 0} (p : A → Bool) (x y z : A) → IsTrue (p x) → IsTrue (p y) → IsTrue (p z) → IsTrue (list_all p (x ∷ y ∷ z ∷ []))
of_three p x y z a b c = join (p x) _ a (join (p y) _ b (join (p z) true c refl)) where
  join : (a b : Bool) → IsTrue a → IsTrue b → IsTrue (a && b)
  join true b s t = t
  join false b s t = absurd (false≢true s)

over_has : (g : Sheet) (s : Place) (f : ℕ) → IsTrue (is_inside g f s) → Contains (over g s) f
over_has g s f t = filter_in (λ f. is_inside g f s) (faces_of g) f (range_in 0 (length g.rings) f (omega arith) (let l = ltb-true f (length g.rings) (both_of (is_face g f) _ t).0 in omega (arith, l))) t

-- ---- one triple

listed_cell : (cells : List Cell) (i : ℕ) (c : Cell) → slice_get cells i ≡ Some c → Contains cells c
listed_cell cells i c e = (i, slice_get_within cells i c e, get_or_from_slice_get cells i c c e)

pub cell_listed : (cells : List Cell) (c : Cell) → Contains cells c → (i : ℕ) × (slice_get cells i ≡ Some c)
cell_listed cells c (i, l, e) = (i, slice_get-get_or cells i c l ∙ ap Some e)

module _ (g : Sheet) (cells : List Cell) (have : HaveFaceSets g cells) where
  -- three faces of a cell have a common place, and its corners witness it
  inside_cell : (c : Cell) (m : Contains cells c) (f : ℕ) → Contains c.faces f → IsTrue (is_inside g f (have.each c m).faces.at)
  inside_cell c m f n = (in_filter (λ f. is_inside g f (have.each c m).faces.at) (faces_of g) f (subst (λ xs. Contains xs f) (have.each c m).faces.same n)).1

  holds : (c : Cite) → IsTriple cells c → Holds g c
  holds c t = subst (Holds g) (sym t.cite) (t.low, t.high, record { at = (have.each t.has.cell m).faces.at; place = (have.each t.has.cell m).faces.place; inside = of_three (λ f. is_inside g f (have.each t.has.cell m).faces.at) t.f t.h t.k (inside_cell t.has.cell m t.f t.has.first) (inside_cell t.has.cell m t.h t.has.second) (inside_cell t.has.cell m t.k t.has.third) }) where
    m : Contains cells t.has.cell
    m = listed_cell cells t.place t.has.cell t.has.there

  witnessed : (c : Cite) → IsTriple cells c → Witnessed g c
  witnessed c t = subst (Witnessed g) (sym t.cite) (t.low, t.high, record { are_places = w.are_places; witness = of_three (witness_face g t.has.cell.at) t.f t.h t.k (each t.f t.has.first) (each t.h t.has.second) (each t.k t.has.third) }) where
    w : IsWitness g t.has.cell.faces t.has.cell.at
    w = (have.each t.has.cell (listed_cell cells t.place t.has.cell t.has.there)).witness

    each : (f : ℕ) → Contains t.has.cell.faces f → IsTrue (witness_face g t.has.cell.at f)
    each f n = all_at (witness_face g t.has.cell.at) t.has.cell.faces w.witness f n

  small : (c : Cite) → IsTriple cells c → HasSmallPlaces c
  small c t = subst HasSmallPlaces (sym t.cite) (have.each t.has.cell (listed_cell cells t.place t.has.cell t.has.there)).small

  pub are_witnessed : (list : List Listed) → ((n : ℕ) (l : Listed) → slice_get list n ≡ Some l → IsTriple cells l.cite) → AreWitnessed g list
  are_witnessed list each = record {
    witnessed = λ n l e. witnessed l.cite (each n l e);
    holds = λ n l e. holds l.cite (each n l e);
    small = λ n l e. small l.cite (each n l e);
  }

  -- faces with a common place stand together in a cell
  pub together : (f h k : ℕ) → HaveCommon g (f ∷ h ∷ k ∷ []) → (i : ℕ) × HasThree cells i f h k
  together f h k o = (at.0, record { cell = r.0; there = at.1; first = r.2 f in_f; second = r.2 h in_h; third = r.2 k in_k }) where
    tests : IsTrue (is_inside g f o.at) × IsTrue (list_all (λ f. is_inside g f o.at) (h ∷ k ∷ []))
    tests = both_of (is_inside g f o.at) _ o.inside

    rest : IsTrue (is_inside g h o.at) × IsTrue (list_all (λ f. is_inside g f o.at) (k ∷ []))
    rest = both_of (is_inside g h o.at) _ tests.1

    in_f : Contains (over g o.at) f
    in_f = over_has g o.at f tests.0

    in_h : Contains (over g o.at) h
    in_h = over_has g o.at h rest.0

    in_k : Contains (over g o.at) k
    in_k = over_has g o.at k (both_of (is_inside g k o.at) true rest.1).0

    r : (c : Cell) × Contains cells c × ((f : ℕ) → Contains (over g o.at) f → Contains c.faces f)
    r = have.together o.at o.place (member_some (over g o.at) f in_f)

    at : (i : ℕ) × (slice_get cells i ≡ Some r.0)
    at = cell_listed cells r.0 r.1

-- ---- the lists

module _ (cells : List Cell) (pairs : List (ℕ × ℕ)) (are : ArePairsOf cells pairs) where
  triple_of : (n k : ℕ) (l : Listed) → IsListedBefore cells pairs n k l → IsTriple cells l.cite
  triple_of n k l b = record { f = b.f; h = b.h; k = b.third; low = are.sorted.rising b.number (b.f, b.h) b.pair; high = b.above; place = b.place; has = b.has; first = b.first; cite = b.cite }

  some_triples : (n k : ℕ) (list : List Listed) → IsListedTo cells pairs n k list → AreSomeTriples cells pairs list
  some_triples n k list s = record {
    each = λ m l e. triple_of n k l (s.only m l e);
    constraints_are = λ m l e. (s.only m l e).constraint;
    sorted = s.sorted;
  }

  pair_number : (i f h k : ℕ) → f < h → HasThree cells i f h k → (n : ℕ) × (slice_get pairs n ≡ Some (f, h))
  pair_number i f h k lt t = (are.pairs_are f h lt).0 (record { cell = t.cell; there = listed_cell cells i t.cell t.there; first = t.first; second = t.second })

  pub first_third : (i f h k : ℕ) → f < k → HasThree cells i f h k → (n : ℕ) × (slice_get pairs n ≡ Some (f, k))
  first_third i f h k lt t = (are.pairs_are f k lt).0 (record { cell = t.cell; there = listed_cell cells i t.cell t.there; first = t.first; second = t.third })

  pub second_third : (i f h k : ℕ) → h < k → HasThree cells i f h k → (n : ℕ) × (slice_get pairs n ≡ Some (h, k))
  second_third i f h k lt t = (are.pairs_are h k lt).0 (record { cell = t.cell; there = listed_cell cells i t.cell t.there; first = t.second; second = t.third })

  pub triples_are : (n : ℕ) (list : List Listed) → length pairs ≤ n → IsListedTo cells pairs n 0 list → AreTriples cells pairs list
  triples_are n list far s = record {
    some = some_triples n 0 list s;
    witnessed = λ g have. are_witnessed g cells have list (some_triples n 0 list s).each;
    all = all;
    complete = λ g have f h k at t. (let r = together g cells have f h k t.2 in all f h k t.0 t.1 r.0 r.1);
  } where
    all : (f h k : ℕ) → f < h → h < k → (i : ℕ) → HasThree cells i f h k → HasCite list (0 ∷ f ∷ h ∷ k ∷ [])
    all f h k low high i t =
        let p = pair_number i f h k low t in
        let l = slice_get_within pairs p.0 (f, h) p.1 in
        s.all p.0 f h k i p.1 high t (inl (omega (arith, l, far)))

  pub too_many : (n k : ℕ) (list : List Listed) (x : Listed) → IsListedTo cells pairs n k (list ++ x ∷ []) → (no : No) → IsFull (length list) no → WhyNoTriples cells pairs no
  too_many n k list x s NoMemory full = tt
  too_many n k list x s (Refused r) full =
      let one = length_push list x in
      let many = full.1 in
      let some = some_triples n k (list ++ x ∷ []) s in
      (full.0, (list ++ x ∷ [], some, omega (arith, one, many), λ g have. are_witnessed g cells have (list ++ x ∷ []) some.each))

  -- the faces of a pair are below what is above the faces of the cells
  pub pair_below : (w n f h : ℕ) → All (λ c. All (λ f. f < w) c.faces) cells → slice_get pairs n ≡ Some (f, h) → (f < w) × (h < w)
  pair_below w n f h below e = by ((are.pairs_are f h (are.sorted.rising n (f, h) e)).1 (n, e)) where
    face_below : (c : Cell) (f : ℕ) → Contains cells c → Contains c.faces f → f < w
    face_below c f (k, l, e) (i, m, d) = subst (λ x. x < w) d (subst (λ (z : Cell). All (λ f. f < w) z.faces) e (below k c l) i f m)

    by : AreTogether cells f h → (f < w) × (h < w)
    by t = (face_below t.cell f t.there t.first, face_below t.cell h t.there t.second)

  pub third_below : (w i f h k : ℕ) → All (λ c. All (λ f. f < w) c.faces) cells → HasThree cells i f h k → k < w
  third_below w i f h k below t = by (listed_cell cells i t.cell t.there) t.third where
    by : Contains cells t.cell → Contains t.cell.faces k → k < w
    by (j, l, e) (m, b, d) = subst (λ x. x < w) d (subst (λ (z : Cell). All (λ f. f < w) z.faces) e (below j t.cell l) m k b)

-- one triple is appended
pub one_more : (cells : List Cell) (pairs : List (ℕ × ℕ)) → ArePairsOf cells pairs → (n k : ℕ) (list : List Listed) (x : Listed) (p : ℕ × ℕ) → slice_get pairs n ≡ Some p → n < length pairs
    → (pair_at pairs n).1 < k → (i : ℕ) (c : Cell) → c ≡ get_or cells i c → IsFirst cells (pair_at pairs n).0 (pair_at pairs n).1 k (Some i)
    → x.cite ≡ Transitivity p.0 p.1 k c.at → ((g : Sheet) → IsConstraintOf g pairs x.cite x.constraint) → IsListedTo cells pairs n k list → IsListedTo cells pairs n (k + 1) (list ++ x ∷ [])
one_more cells pairs are n k list x p e within above i c read found cite constraint s =
    row_takes cells pairs are.sorted n k list x within above i found.0 found.1 (cite ∙ ap (λ (z : ℕ × ℕ). Transitivity z.0 z.1 k c.at) (sym (get_or_from_slice_get pairs n p (0, 0) e)) ∙ ap (λ (z : Cell). Transitivity (pair_at pairs n).0 (pair_at pairs n).1 k z.at) same) constraint s
  where
    same : c ≡ found.0.cell
    same = read ∙ get_or_from_slice_get cells i found.0.cell c found.0.there

-- ---- constraints that are counted and not made

untaken : (f h : ℕ) → f < h → false ≡ nat_lt h f
untaken f h lt = grind (arith, nat_tests, lt)

term_of : (pairs : List (ℕ × ℕ)) → AreSorted pairs → (f h : ℕ) → f < h → (n : ℕ) × (slice_get pairs n ≡ Some (f, h)) → (t : Term) × IsTermOf pairs (f, h) t
term_of pairs sorted f h lt (n, e) = (record { var = n; flipped = false }, record { variable = number_there pairs n (f, h) sorted e; turned = untaken f h lt })

-- each three faces in order of which each two overlap have a constraint
pub some_constraint : (pairs : List (ℕ × ℕ)) → AreSorted pairs → (f h k : ℕ) (at : List Place) → f < h → h < k → (n : ℕ) × (slice_get pairs n ≡ Some (f, h))
    → (n : ℕ) × (slice_get pairs n ≡ Some (f, k)) → (n : ℕ) × (slice_get pairs n ≡ Some (h, k)) → (x : Listed) × IsOfFaces pairs f h k at x
some_constraint pairs sorted f h k at low high one two three =
    let a = term_of pairs sorted f h low one in
    let b = term_of pairs sorted f k (omega (arith, low, high)) two in
    let c = term_of pairs sorted h k high three in (
      record { constraint = record { kind = kind_of (Transitivity f h k at); terms = a.0 ∷ b.0 ∷ c.0 ∷ [] }; cite = Transitivity f h k at },
      record { cite = refl; constraint = λ g. record { kind = refl; counted = refl; terms = each g a b c } },
    ) where
      each : (g : Sheet) (a : (t : Term) × IsTermOf pairs (f, h) t) (b : (t : Term) × IsTermOf pairs (f, k) t) (c : (t : Term) × IsTermOf pairs (h, k) t) → (j : ℕ) → j < 3
          → IsTermOf pairs (get_or ((f, h) ∷ (f, k) ∷ (h, k) ∷ []) j (0, 0)) (term_at (a.0 ∷ b.0 ∷ c.0 ∷ []) j)
      each g a b c zero l = a.1
      each g a b c (suc zero) l = b.1
      each g a b c (suc (suc zero)) l = c.1
      each g a b c (suc (suc (suc j))) l = absurd (omega (arith, l))

pub on_both : {A E : Type 0} (r : Result A E) {P Q R : Type 0} → OnOk r P → OnOk r Q → (P → Q → R) → OnOk r R
on_both (Ok v) p q f = f p q
on_both (Err e) p q f = tt

-- one triple is taken
module _ (cells : List Cell) (pairs : List (ℕ × ℕ)) (are : ArePairsOf cells pairs) (n k : ℕ) (old : Found) (p : ℕ × ℕ) (e : slice_get pairs n ≡ Some p) (within : n < length pairs)
    (above : (pair_at pairs n).1 < k) (i : ℕ) (c : Cell) (read : c ≡ get_or cells i c) (found : IsFirst cells (pair_at pairs n).0 (pair_at pairs n).1 k (Some i)) (so : AreFoundTo cells pairs n k old) where
  pub taken_to : (new : Found) → (x : Listed) × IsOfFaces pairs p.0 p.1 k c.at x × IsTaken x old new → new.count ≤ MOST_CONSTRAINTS → AreFoundTo cells pairs n (k + 1) new
  taken_to new (x, of, took) room =
      let long = length_push so.list x in
      let counted = took.count in
      let before = so.count in
      record {
        list = so.list ++ x ∷ [];
        to = one_more cells pairs are n k so.list x p e within above i c read found of.cite of.constraint so.to;
        count = omega (arith, long, counted, before);
        kept = λ t. took.listed (sym took.keeps ∙ t) ∙ ap (λ xs. xs ++ x ∷ []) (so.kept (sym took.keeps ∙ t));
        room = omega (arith, long, counted, before, room);
      }

  pub too_many_taken : (why : No) → IsFull old.count why → WhyNoTriples cells pairs why
  too_many_taken why full =
      let there = pair_there pairs n within in
      let low = are.sorted.rising n (pair_at pairs n) there in
      let x = some_constraint pairs are.sorted (pair_at pairs n).0 (pair_at pairs n).1 k c.at low above (n, there)
      (first_third cells pairs are i (pair_at pairs n).0 (pair_at pairs n).1 k (omega (arith, low, above)) found.0) (second_third cells pairs are i (pair_at pairs n).0 (pair_at pairs n).1 k above found.0) in
      too_many cells pairs are n (k + 1) so.list x.0 (one_more cells pairs are n k so.list x.0 (pair_at pairs n) there within above i c read found x.1.cite x.1.constraint so.to) why
      (subst (λ m. IsFull m why) so.count full)

-- a pair's row begins, and ends
module _ (cells : List Cell) (pairs : List (ℕ × ℕ)) (n : ℕ) where
  pub found_begins : (found : Found) → AreFoundTo cells pairs n 0 found → AreFoundTo cells pairs n ((pair_at pairs n).1 + 1) found
  found_begins found so = record { list = so.list; to = row_begins cells pairs n so.list so.to; count = so.count; kept = so.kept; room = so.room }

  pub found_skips : (k : ℕ) (found : Found) → IsFirst cells (pair_at pairs n).0 (pair_at pairs n).1 k None → AreFoundTo cells pairs n k found → AreFoundTo cells pairs n (k + 1) found
  found_skips k found none so = record { list = so.list; to = row_skips cells pairs n k so.list none so.to; count = so.count; kept = so.kept; room = so.room }

  pub found_ends : (k : ℕ) (found : Found) → ((i third : ℕ) → HasThree cells i (pair_at pairs n).0 (pair_at pairs n).1 third → third < k) → AreFoundTo cells pairs n k found → AreFoundTo cells pairs (n + 1) 0 found
  found_ends k found last so = record { list = so.list; to = row_ends cells pairs n k so.list last so.to; count = so.count; kept = so.kept; room = so.room }

-- no face at the end of the row or after shares a cell with both_of
pub third_before : (cells : List Cell) (f h w k reach : ℕ) (row : List (Option ℕ)) → IsRow cells f h w row → IsReach row reach → h < k → reach ≤ k
    → ((i third : ℕ) → HasThree cells i f h third → third < w) → (i third : ℕ) → HasThree cells i f h third → third < k
third_before cells f h w k reach row r at above far below i third three = elim (either third k) [
  | inl l ↦ l
  | inr le ↦ absurd (subst (IsFirst cells f h third) (at.none third (omega (arith, far, le))) (r.each third (omega (arith, above, le)) (below i third three)) i three)
] where
  either : (a b : ℕ) → (a < b) ⊎ (b ≤ a)
  either a b = grind arith
