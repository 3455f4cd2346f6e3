-- The cells of a whole sweep are the slab cells of the sheet.
use Rattle.std.proofs.Common.{ℕ, zero, suc, ◌≡◌, ◌≢◌, ◌⊎◌, inl, inr, ◌-◌, ◌<◌, ◌≤◌, List, [], ◌∷◌, map, length, get_or, arith, refl, sym, ap, subst, ◌∙◌, ℤ, pos, ◌<ℤ◌, true, IsTrue}
use Rattle.std.specs.List.{All, Contains}
use Rattle.std.proofs.lemmas.List.{length-map, get_or_default}
use Rattle.std.proofs.lemmas.List.Sums.{sum_by-cons}
use Rattle.std.proofs.lemmas.Bool.Decides.{nat_tests}
use Rattle.ff_basics.proofs.Memberships.{first_member, later_member}
use Rattle.ff_whole.proofs.Signs.{linear}
use Rattle.ff_whole.specs.Places.{place_of}
use Rattle.ff_whole.specs.Convex.{point_at}
use Rattle.ff_whole.specs.declared.points.Pt.{Pt}
use Rattle.ff_whole.specs.declared.places.Place.{Place}
use Rattle.ff_types.specs.declared.limits.TheConstants.{MOST_FACES}
use Rattle.ff_types.specs.declared.refusals.No.{No}
use Rattle.ff_types.specs.declared.refusals.No.TheVariants.{Refused, NoMemory}
use Rattle.ff_types.specs.declared.refusals.Refusal.TheVariants.{TooMany}
use Rattle.ff_types.specs.declared.refusals.What.TheVariants.{Entries}
use Rattle.ff_types.specs.declared.patterns.Pattern.{Pattern}
use Rattle.ff_types.specs.declared.faces.Faces.{Faces as FacesRow}
use Rattle.ff_types.specs.declared.faces.Folded.{Folded}
use Rattle.ff_types.specs.Sheets.{Sheet, sheet_of}
use Rattle.ff_types.specs.Inside.{is_inside, over}
use Rattle.ff_types.specs.FoldedPatterns.{IsFoldedPattern}
use Rattle.ff_types.specs.declared.limits.TheConstants.{MOST_CELLS, MOST_ENTRIES}
use Rattle.ff_cells.specs.declared.bars.Bar.{Bar}
use Rattle.ff_cells.specs.declared.cell.Cell.{Cell}
use Rattle.ff_cells.specs.declared.found.Found.{Found}
use Rattle.ff_cells.specs.FaceSets.{IsFaceList, IsCell, HaveFaceSets}
use Rattle.ff_cells.specs.Gap.{run, spot}
use Rattle.ff_cells.specs.Sheet.{IsOver, IsInside}
use Rattle.ff_cells.specs.Steps.{AreBars}
use Rattle.ff_cells.specs.Strip.{at_x, IsCells}
use Rattle.ff_cells.specs.Stopped.{AreStopped}
use Rattle.ff_cells.specs.Merged.{firsts}
use Rattle.ff_cells.specs.Tally.{capped, entries_of, IsTally}
use Rattle.ff_cells.specs.Xs.{AreXs}
use Rattle.ff_cells.specs.SlabCells.{IsBefore, IsNotAfter, IsInCell, StandInCells, AreOneEach, entries, IsSlabCell, AreCells, HasFewCells, WhyNoCells}
use Rattle.ff_cells.proofs.Cuts.{run-opposite, run-trans_first, run-trans_last}
use Rattle.ff_cells.proofs.Strips.{run_to, run_from}
use Rattle.ff_cells.proofs.Faces.{IsStep}
use Rattle.ff_cells.proofs.Drawn.{IsDrawn, drawn, from_inside}
use Rattle.ff_cells.proofs.FaceLists.{over_inside, face_below, some_member}
use Rattle.ff_cells.proofs.Slices.{one_place}
use Rattle.ff_cells.proofs.Rows.{mid, IsGood, IsMet, IsRow, row_empty}
use Rattle.ff_cells.proofs.AllXs as all
use Rattle.ff_cells.proofs.Merging.{AreMerged, are_merged, member_map, all_map}
use Rattle.ff_cells.proofs.OneCount.{together, before_moves}
use Rattle.ff_cells.proofs.Sweeps as sweeps
use Rattle.ff_cells.proofs.Moved as moves

-- ---- lists

all_cells : (P : Cell → Type 0) (cs : List Cell) → ((c : Cell) → Contains cs c → P c) → All P cs
all_cells P cs h k d lt = h (get_or cs k d) (k, lt, get_or_default cs k (get_or cs k d) d lt)

pub entries_are : (g : Sheet) (cs : List Cell) → ((c : Cell) → Contains cs c → c.faces ≡ over g (mid c))
    → entries g (map mid cs) ≡ entries_of cs
entries_are g [] h = refl
entries_are g (x ∷ cs) h =
    let a = sum_by-cons (λ s. length (over g s)) (mid x) (map mid cs) in
    let b = sum_by-cons (λ (c : Cell). length c.faces) x cs in
    let e = ap length (h x (first_member x cs x refl)) in
    let r = entries_are g cs (λ c m. h c (later_member x cs c m)) in
    omega (arith, a, b, e, r)

-- ---- counts up to one past a limit

few_if_capped : (most n : ℕ) → capped most n ≤ most → n ≤ most
few_if_capped most n h = grind (arith, nat_tests, h)

past_if_capped : (most n : ℕ) → most < capped most n → most < n
past_if_capped most n h = grind (arith, nat_tests, h)

few_cells : (cs : List Cell) (found : Found) → IsTally cs found → found.count ≤ MOST_CELLS
    → length cs ≤ MOST_CELLS
few_cells cs found t few = few_if_capped MOST_CELLS (length cs) (subst (λ n. n ≤ MOST_CELLS) t.count few)

few_entries : (cs : List Cell) (found : Found) → IsTally cs found → found.entries ≤ MOST_ENTRIES
    → entries_of cs ≤ MOST_ENTRIES
few_entries cs found t few = few_if_capped MOST_ENTRIES (entries_of cs)
    (subst (λ n. n ≤ MOST_ENTRIES) t.entries few)

-- ---- the whole sweep

module _ {pattern : Pattern} {faces : FacesRow} {folded : Folded} (h : IsFoldedPattern pattern faces folded)
    (bars : List Bar) (are : AreBars folded.points faces.rings folded.up bars) (xs : List ℤ)
    (xs_are : AreXs folded.points xs) where
  abbrev g : Sheet
  g = sheet_of pattern faces folded

  d : IsDrawn g bars
  d = drawn h bars are

  abbrev at : ℕ → ℤ
  at k = get_or xs k (pos 0)

  stand_of : (from to : Place) (cs : List Cell) → IsRow g from to cs → StandInCells g (map mid cs)
  stand_of from to cs r = record {
    each = all_map (IsInCell g) cs (λ c m. (r.each c m).in_cell);
    in_order = r.in_order;
  }

  -- too many cells
  pub too_many_cells : (why : No) → AreStopped bars xs why → WhyNoCells g why
  too_many_cells NoMemory s = tt
  too_many_cells (Refused r) (is, (cs, begun, many)) =
      let b = sweeps.begun d xs_are cs begun in
      inl (
        is,
        (
          map mid cs,
          stand_of (at_x (at 0)) b.0 cs b.1,
          subst (λ n. MOST_CELLS < n) (sym (length-map cs mid)) many,
        ),
      )

  module _ (cs : List Cell) (done : IsCells bars xs (length xs - 1) cs) where
    whole : IsRow g (at_x (at 0)) (at_x (at (length xs - 1))) cs
    whole = by (some (length xs))
      where
        some : (n : ℕ) → (n - 1 ≡ 0) ⊎ (n - 1 < n)
        some zero = inl (omega arith)
        some (suc n) = inr (omega arith)

        by : (length xs - 1 ≡ 0) ⊎ (length xs - 1 < length xs)
            → IsRow g (at_x (at 0)) (at_x (at (length xs - 1))) cs
        by (inl e) = subst (λ n. IsRow g (at_x (at 0)) (at_x (at n)) cs) (sym e)
            (subst (IsRow g (at_x (at 0)) (at_x (at 0))) (sym (subst (λ n. IsCells bars xs n cs) e done))
            (row_empty g (at_x (at 0))))
        by (inr l) = sweeps.cells_row d xs_are (length xs - 1) cs l done

    -- a place in a slab cell is between the first x and the last
    reached : (p : Place) → IsInCell g p → (pos 0 <ℤ run (at_x (at 0)) p)
        × (pos 0 <ℤ run p (at_x (at (length xs - 1))))
    reached p i = by (d.faces.around f p i.place inside (λ b has e. off b has))
      where
        f : ℕ
        f = (some_member (over g p) i.some).0

        t : IsTrue (is_inside g f p)
        t = over_inside g p f (some_member (over g p) i.some).1

        inside : IsInside (IsStep g) f p
        inside = from_inside g f p (d.rings_some f (face_below g f p t)) t

        vertex : (u : ℕ) (q : Pt) → u < length g.images → (point_at g.images u).x ≡ q.x
            → run (spot q) p ≢ pos 0
        vertex u q l e z = i.between (place_of (point_at g.images u)) one_place (inl (u, l, refl))
            (same (point_at g.images u) q e z)
          where
            same : (a b : Pt) → a.x ≡ b.x → run (spot b) p ≡ pos 0 → run (spot a) p ≡ pos 0
            same a b e z = ap (λ x. run (record { x = x; y = a.y; w = pos 1 }) p) e ∙ z

        off : (b : Bar) → Contains bars b → (run (spot b.lo) p ≢ pos 0) × (run p (spot b.hi) ≢ pos 0)
        off b has = let lo = sweeps.bar_lo d xs_are b has in let hi = sweeps.bar_hi d xs_are b has in (
          vertex lo.0 b.lo lo.1 lo.2,
          λ z. (let o = run-opposite (spot b.hi) p in
              vertex hi.0 b.hi hi.1 hi.2 (omega (arith, linear))),
        )

        by : (b : Bar) × Contains bars b × (b.lower ≡ true) × (b.face ≡ f) × IsOver b p
            → (pos 0 <ℤ run (at_x (at 0)) p) × (pos 0 <ℤ run p (at_x (at (length xs - 1))))
        by (b, has, low, face, over_p) =
            let lo = sweeps.bar_lo d xs_are b has in
            let hi = sweeps.bar_hi d xs_are b has in
            let j = all.has xs_are lo.0 lo.1 in
            let k = all.has xs_are hi.0 hi.1 in
            let x = all.up_to xs_are 0 j.0 (omega arith) j.1 in
            let y = all.up_to xs_are k.0 (length xs - 1) (let l = k.1 in omega (arith, l)) (let l = k.1 in
            omega (arith, l)) in
            let a = run_from b.lo (at 0) in
            let z = run_to b.hi (at (length xs - 1)) in
            let j2 = j.2 in let lo2 = lo.2 in let k2 = k.2 in let hi2 = hi.2 in (
              run-trans_last (at_x (at 0)) (spot b.lo) p one_place one_place i.place
                  (omega (arith, linear)) over_p.after,
              run-trans_first p (spot b.hi) (at_x (at (length xs - 1))) i.place one_place one_place
                  over_p.before (omega (arith, linear)),
            )

    met : (p : Place) → IsInCell g p → IsMet g cs p
    met p i = let r = reached p i in whole.all p i r.0 r.1

    one_each : AreOneEach g (map mid cs)
    one_each = record {
      stand = stand_of (at_x (at 0)) (at_x (at (length xs - 1))) cs whole;
      all = λ p i. (let m = met p i in (mid m.cell, member_map cs m.cell m.there, m.not_before, m.not_after));
    }

    merged : AreMerged g cs (firsts cs)
    merged = are_merged g cs

    good : (c : Cell) → Contains (firsts cs) c → IsGood g c
    good c m = whole.each c (merged.sub c m)

    -- the first cell of a set is the one over a place, or comes before it
    not_after : (s : Place) → IsInCell g s → (c d : Cell) → Contains (firsts cs) d → IsInCell g (mid c)
        → (IsBefore g s (mid c) → ⊥) → (IsBefore g (mid c) s → ⊥) → (d ≡ c) ⊎ IsBefore g (mid d) (mid c)
        → IsNotAfter g (mid d) s
    not_after s i c d m j before after (inl e) = subst (λ (z : Cell). IsNotAfter g (mid z) s) (sym e) (inr (after, before))
    not_after s i c d m j before after (inr b) = inl (before_moves (drawn h bars are) (mid d) (mid c) s (good d m).in_cell b
        (together (drawn h bars are) (mid c) s j i after before))

    pub are_cells : AreCells g (firsts cs)
    are_cells = record {
      each = all_cells (IsSlabCell g) (firsts cs) (λ c m. (good c m).slab_cell);
      stand = record {
        each = all_map (IsInCell g) (firsts cs) (λ c m. (good c m).in_cell);
        in_order = merged.in_order whole.in_order;
      };
      apart = merged.apart;
      first = λ s i. (let m = met s i in let f = merged.first whole.in_order m.cell m.there in
          (f.0, f.1, f.2 ∙ m.faces, not_after s i m.cell f.0 f.1 (whole.each m.cell m.there).in_cell m.not_before m.not_after f.3));
    }

    pub counted : (found : Found) → IsTally cs found → found.count ≤ MOST_CELLS → found.entries ≤ MOST_ENTRIES
        → HasFewCells g
    counted found t few short = record {
      places = map mid cs;
      one_each = one_each;
      few = subst (λ n. n ≤ MOST_CELLS) (sym (length-map cs mid)) (few_cells cs found t few);
      few_entries = subst (λ n. n ≤ MOST_ENTRIES)
          (sym (entries_are g cs (λ c m. (whole.each c m).slab_cell.faces))) (few_entries cs found t short);
    }

    pub few_kept : (found : Found) → IsTally cs found → found.count ≤ MOST_CELLS → length (firsts cs) ≤ MOST_CELLS
    few_kept found t few = let a = few_cells cs found t few in let b = merged.short in omega (arith, a, b)

    pub few_kept_entries : (found : Found) → IsTally cs found → found.entries ≤ MOST_ENTRIES
        → entries_of (firsts cs) ≤ MOST_ENTRIES
    few_kept_entries found t few = let a = few_entries cs found t few in let b = merged.few in omega (arith, a, b)

    cell_of : (c : Cell) → IsGood g c → IsCell g c
    cell_of c q = record {
      some = subst (λ fs. 0 < length fs) (sym q.slab_cell.faces) q.in_cell.some;
      faces = record { at = mid c; place = q.in_cell.place; off = q.in_cell.off; same = q.slab_cell.faces };
      witness = q.slab_cell.witness;
      apart = q.slab_cell.apart;
      small = q.slab_cell.small;
    }

    pub face_sets : HaveFaceSets g (firsts cs)
    face_sets = record {
      each = λ c m. cell_of c (good c m);
      all = λ s place off some. (
          let q = moves.moved d s place in
          let m = met q.0 (moves.in_cell d s q.0 q.1 some) in
          let f = merged.sets m.cell m.there in
          (f.0, f.1, f.2 ∙ m.faces ∙ moves.same_over d s q.0 q.1 place off));
      together = λ s place some. (
          let q = moves.moved d s place in
          let m = met q.0 (moves.in_cell d s q.0 q.1 some) in
          let e = merged.sets m.cell m.there in (
            e.0,
            e.1,
            λ f c. subst (λ fs. Contains fs f) (sym (e.2 ∙ m.faces))
                (moves.keeps_over d s q.0 q.1 f c),
          ));
    }

    pub face_lists : All IsFaceList (firsts cs)
    face_lists = all_cells IsFaceList (firsts cs) (λ c m. (let q = good c m in
        record { rising = q.rising; few = few c q }))
      where
        few : (c : Cell) → IsGood g c → All (λ f. f < MOST_FACES) c.faces
        few c q k e lt =
            let i = subst (λ fs. Contains fs (get_or c.faces k e)) q.slab_cell.faces
            (k, lt, get_or_default c.faces k (get_or c.faces k e) e lt) in
            let b = face_below g (get_or c.faces k e) (mid c) (over_inside g (mid c) (get_or c.faces k e) i)
            in
            let n = h.few_faces in
            omega (arith, b, n)

    -- too many entries
    pub too_many_entries : (found : Found) → IsTally cs found → found.count ≤ MOST_CELLS
        → MOST_ENTRIES < found.entries → (why : No) → why ≡ Refused (TooMany Entries MOST_ENTRIES)
        → WhyNoCells g why
    too_many_entries found t few many why is = subst (WhyNoCells g) (sym is) (inr (
      refl,
      (
        map mid cs,
        one_each,
        subst (λ n. n ≤ MOST_CELLS) (sym (length-map cs mid))
            (few_if_capped MOST_CELLS (length cs) (subst (λ n. n ≤ MOST_CELLS) t.count few)),
        subst (λ n. MOST_ENTRIES < n) (sym (entries_are g cs (λ c m. (whole.each c m).slab_cell.faces)))
            (past_if_capped MOST_ENTRIES (entries_of cs) (subst (λ n. MOST_ENTRIES < n) t.entries many)),
      ),
    ))
