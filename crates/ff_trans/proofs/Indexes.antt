-- The cells of each face, cell by cell.
use Rattle.std.proofs.Common.{◌≡◌, ℕ, ◌+◌, ◌<◌, ◌⊎◌, inl, inr, refl, sym, ap, ◌∙◌, subst, arith, List, [], ◌∷◌, ◌++◌, length, replicate, get_or, set, slice_index, slice_set, slice_get, Some, Vec}
use Rattle.std.specs.declared.alloc.Global.{Global}
use Rattle.std.specs.List.{Contains}
use Rattle.std.specs.List.Sorted.{IsStrictlyIncreasing}
use Rattle.std.proofs.lemmas.Bool.{cases_eq}
use Rattle.std.proofs.lemmas.List.{length-set, get_or-set_same, get_or-set_other, get_or-map, get_or-replicate, length-replicate, get_or_append_left, get_or_push, length-append}
use Rattle.std.proofs.lemmas.List.Kept.{AllPairs-from_increasing}
use Rattle.std.proofs.Math.ListN.{take}
use Rattle.std.proofs.Math.Seq.{take-append_seam}
use Rattle.std.proofs.lemmas.Option.{same_Some}
use Rattle.ff_basics.specs.NumberedLists.{list_at, lists_in}
use Rattle.ff_basics.proofs.Numbers.{last_or}
use Rattle.ff_whole.proofs.Searches.{search}
use Rattle.ff_cells.specs.declared.cell.Cell.{Cell}
use Rattle.ff_trans.specs.Rows.{HasFace, AreCellsOf, AreIndexed, IsPut}
use Rattle.ff_trans.proofs.Marks.{place_in, member_at}

-- ---- one cell

pub put_none : (faces : List ℕ) (from cell : ℕ) (lists : List (List ℕ)) → IsPut faces from from cell lists lists
put_none faces from cell lists = record { long = refl; put = λ j g l. absurd (omega (arith, g, l)); same = λ f n. refl }

pub put_more : (faces : List ℕ) (j cell : ℕ) (old mid new : List (List ℕ)) → IsStrictlyIncreasing faces → j < length faces → slice_index faces j < length old
    → IsPut faces 0 j cell old mid → new ≡ slice_set mid (slice_index faces j) (list_at mid (slice_index faces j) ++ cell ∷ []) → IsPut faces 0 (j + 1) cell old new
put_more faces j cell old mid new up l below a e = record {
  long = ap length e ∙ length-set mid f (list_at mid f ++ cell ∷ []) ∙ a.long;
  put = λ i g m. elim (last_or i j m) [
    | inl n ↦ ap (λ ls. list_at ls (slice_index faces i)) e ∙ get_or-set_other mid f (slice_index faces i) (list_at mid f ++ cell ∷ []) [] (different i n) ∙ a.put i g n
    | inr n ↦ ap (λ ls. list_at ls (slice_index faces i)) e ∙ ap (λ k. list_at (set mid f (list_at mid f ++ cell ∷ [])) k) (ap (slice_index faces) n)
        ∙ get_or-set_same mid f (list_at mid f ++ cell ∷ []) [] within ∙ ap (λ xs. xs ++ cell ∷ []) (fresh ∙ ap (list_at old) (ap (slice_index faces) (sym n)))
  ];
  same = λ k none. ap (λ ls. list_at ls k) e ∙ get_or-set_other mid f k (list_at mid f ++ cell ∷ []) [] (λ d. none j (omega arith) (omega arith) (sym d)) ∙ a.same k (λ i g m. none i g (omega (arith, m)));
} where
  f : ℕ
  f = slice_index faces j

  within : f < length mid
  within = subst (λ n. f < n) (sym a.long) below

  rises : (i : ℕ) → i < j → slice_index faces i < f
  rises i m = AllPairs-from_increasing faces up i j 0 m l

  different : (i : ℕ) → i < j → slice_index faces i ≡ f → ⊥
  different i m d = let r = rises i m in omega (arith, r, d)

  fresh : list_at mid f ≡ list_at old f
  fresh = a.same f (λ i g. different i)

-- ---- all of them

pub index_none : (cells : List Cell) (w : ℕ) (lists : List (List ℕ)) → lists ≡ replicate w [] → AreIndexed cells 0 w lists
index_none cells w lists e = record {
  long = ap length e ∙ length-replicate w [];
  each = λ f l. subst (AreCellsOf cells 0 f) (sym (ap (λ ls. list_at ls f) e ∙ get_or-replicate w f [] [] l)) (record { rising = λ x y m n. absurd (omega (arith, n)); each = λ x m. absurd (omega (arith, m)); all = λ i m. absurd (omega (arith, m)) });
}

pub push_index : (xs : List ℕ) (n i : ℕ) → i < length (xs ++ n ∷ []) → ((i < length xs) × (slice_index (xs ++ n ∷ []) i ≡ slice_index xs i)) ⊎ ((i ≡ length xs) × (slice_index (xs ++ n ∷ []) i ≡ n))
push_index xs n i l = elim (cases_eq i (length xs)) [
  | inl e ↦ inr (e, get_or_push xs n 0 i (sym e))
  | inr ne ↦ (let m : i < length xs = omega (arith, l, ne, length-append xs (n ∷ [])) in inl (m, get_or_append_left xs (n ∷ []) 0 i m))
]

module _ (cells : List Cell) (i f : ℕ) (list : List ℕ) (of : AreCellsOf cells i f list) where
  longer : length (list ++ i ∷ []) ≡ length list + 1
  longer = length-append list (i ∷ [])

  kept : (x : ℕ) → x < length list → slice_index (list ++ i ∷ []) x ≡ slice_index list x
  kept x l = get_or_append_left list (i ∷ []) 0 x l

  with_cell : HasFace cells i f → AreCellsOf cells (i + 1) f (list ++ i ∷ [])
  with_cell has = record {
    rising = λ x y l m. elim (push_index list i y m) [
      | inl d ↦ (let b = d.0 in let k = kept x (omega (arith, l, b)) in let r = of.rising x y l d.0 in let e = d.1 in omega (arith, k, r, e))
      | inr d ↦ (let b = d.0 in let k = kept x (omega (arith, l, b)) in let r = (of.each x (omega (arith, l, b))).0 in let e = d.1 in omega (arith, k, r, e))
    ];
    each = λ x m. elim (push_index list i x m) [
      | inl d ↦ subst (λ v. (v < i + 1) × HasFace cells v f) (sym d.1) (let r = of.each x d.0 in let b = r.0 in (omega (arith, b), r.1))
      | inr d ↦ subst (λ v. (v < i + 1) × HasFace cells v f) (sym d.1) (omega arith, has)
    ];
    all = λ k l face. elim (last_or k i l) [
      | inl m ↦ (let r = of.all k m face in let b = r.1 in let e = kept r.0 r.1 in let le = r.2 in
          (r.0, (let n = longer in omega (arith, b, n)), e ∙ le))
      | inr m ↦ (let e : slice_index (list ++ i ∷ []) (length list) ≡ k = get_or_push list i 0 (length list) refl ∙ sym m in
          (length list, (let n = longer in omega (arith, n)), e))
    ];
  }

  without_cell : (HasFace cells i f → ⊥) → AreCellsOf cells (i + 1) f list
  without_cell not = record {
    rising = of.rising;
    each = λ x m. (let r = of.each x m in let b = r.0 in (omega (arith, b), r.1));
    all = λ k l face. elim (last_or k i l) [ inl m ↦ of.all k m face | inr m ↦ absurd (not (subst (λ n. HasFace cells n f) m face)) ];
  }

pub index_more : (cells : List Cell) (i w : ℕ) (c : Cell) (old new : List (List ℕ)) → slice_get cells i ≡ Some c → AreIndexed cells i w old → IsPut c.faces 0 (length c.faces) i old new → AreIndexed cells (i + 1) w new
index_more cells i w c old new at a p = record { long = p.long ∙ a.long; each = each } where
  each : (f : ℕ) → f < w → AreCellsOf cells (i + 1) f (list_at new f)
  each f l = elim (search (length c.faces) (λ j. slice_index c.faces j ≡ f) (λ j. slice_index c.faces j ≡ f → ⊥) (λ j m. cases_eq (slice_index c.faces j) f)) [
    | inl r ↦ subst (AreCellsOf cells (i + 1) f) (sym (subst (λ k. list_at new k ≡ list_at old k ++ i ∷ []) r.2 (p.put r.0 (omega arith) r.1)))
        (with_cell cells i f (list_at old f) (a.each f l) (record { cell = c; there = at; face = member_at c.faces f r.0 r.1 r.2 }))
    | inr none ↦ subst (AreCellsOf cells (i + 1) f) (sym (p.same f (λ j g. none j)))
        (without_cell cells i f (list_at old f) (a.each f l) (λ has. (let q = place_in c.faces f (subst (λ (z : Cell). Contains z.faces f) (same_Some has.cell c (sym has.there ∙ at)) has.face) in none q.0 q.1 q.2)))
  ]

-- what is read of lists that are written whole
pub whole : {A : Type 0} (n : ℕ) (xs ys : List A) → n ≡ length xs → take n (xs ++ ys) ≡ xs
whole n xs ys e = ap (λ k. take k (xs ++ ys)) e ∙ take-append_seam xs ys

-- the cells that were put for a face
pub put_for : (cells : List Cell) (i f : ℕ) (lists : List (Vec ℕ Global)) (v : Vec ℕ Global) (list : List ℕ) → AreIndexed cells i (length lists) (lists_in lists) → f < length lists
    → v ≡ get_or lists f v → list ≡ v.items → AreCellsOf cells i f list
put_for cells i f lists v list index below is read =
    subst (AreCellsOf cells i f) (get_or-map (λ (z : Vec ℕ Global). z.items) lists f v [] below ∙ ap (λ (z : Vec ℕ Global). z.items) (sym is) ∙ sym read) (index.each f below)
