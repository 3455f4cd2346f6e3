-- Cells kept one after the other, the first of each set.
use Rattle.std.proofs.Common.{ℕ, zero, suc, ◌≡◌, ◌≢◌, ◌⊎◌, inl, inr, ◌+◌, ◌<◌, ◌≤◌, List, [], ◌∷◌, ◌++◌, append_assoc, append-nil, map, length, get_or, arith, refl, sym, ap, subst, ◌∙◌, Bool, true, false, cond, ◌||◌, true≢false, is_some}
use Rattle.std.specs.List.{All, Contains}
use Rattle.std.specs.declared.cmp.Ordering.{Ordering}
use Rattle.std.specs.declared.cmp.Ordering.TheVariants.{Less, Equal, Greater}
use Rattle.std.specs.Ordering.{is_eq, nat_cmp}
use Rattle.std.specs.BTreeMap.{is_at}
use Rattle.std.specs.Map.{lookup}
use Rattle.std.specs.Cmp.Lexicographic.{slice_cmp}
use Rattle.std.proofs.lemmas.Bool.{false≢true}
use Rattle.std.proofs.lemmas.Bool.Decides.{nat_tests}
use Rattle.std.specs.FinMap.{slice_cmp-IsAntisymmetric, nat_cmp-IsAntisymmetric}
use Rattle.std.proofs.lemmas.Cmp.{tied_itself, nat_list_cmp_total}
use Rattle.std.proofs.lemmas.List.{get_or_append_left, get_or_push, length_push, get_or_default}
use Rattle.std.proofs.lemmas.List.Folds.{list_any_at}
use Rattle.std.proofs.lemmas.List.Elements.{Contains-append_left, Contains-append_right, Contains-append_cases}
use Rattle.std.proofs.lemmas.List.Sums.{sum_by_push}
use Rattle.ff_basics.proofs.Memberships.{by_member, first_member, later_member, no_member}
use Rattle.ff_basics.proofs.Tests.{equal_of}
use Rattle.ff_whole.specs.declared.places.Place.{Place}
use Rattle.ff_types.specs.Sheets.{Sheet}
use Rattle.ff_types.specs.declared.limits.TheConstants.{MOST_CELLS, MOST_ENTRIES}
use Rattle.ff_cells.specs.declared.cell.Cell.{Cell}
use Rattle.ff_cells.specs.declared.found.Found.{Found}
use Rattle.ff_cells.specs.Merged.{are_same, has_set, with_next, firsts_from, firsts, faces_cmp, AreNumbered}
use Rattle.ff_cells.specs.Tally.{capped, entries_of, IsTally}
use Rattle.ff_cells.specs.SlabCells.{IsBefore, AreInOrder}
use Rattle.ff_cells.proofs.Rows.{mid, cells_append, member_of_all}

-- ---- sets among cells

pub same_is : (xs ys : List ℕ) → are_same xs ys ≡ true → xs ≡ ys
same_is xs ys h = slice_cmp-IsAntisymmetric nat_cmp-IsAntisymmetric xs ys (equal_of (slice_cmp nat_cmp xs ys) h)

is_same : (xs ys : List ℕ) → xs ≡ ys → are_same xs ys ≡ true
is_same xs ys e = subst (λ zs. are_same xs zs ≡ true) e (ap is_eq (tied_itself nat_list_cmp_total xs))

pub has_at : (cells : List Cell) (i : ℕ) (c : Cell) (faces : List ℕ) → i < length cells → get_or cells i c ≡ c
    → c.faces ≡ faces → has_set cells faces ≡ true
has_at cells i c faces lt at e = list_any_at (λ (d : Cell). are_same d.faces faces) cells i c lt
    (subst (λ (d : Cell). are_same d.faces faces ≡ true) (sym at) (is_same c.faces faces e))

has_some : (cells : List Cell) (faces : List ℕ) → has_set cells faces ≡ true
    → (d : Cell) × Contains cells d × (d.faces ≡ faces)
has_some [] faces h = absurd (false≢true h)
has_some (c ∷ cs) faces h = by (are_same c.faces faces) refl (has_some cs faces) h
  where
    by : (b : Bool) → are_same c.faces faces ≡ b
        → (has_set cs faces ≡ true → (d : Cell) × Contains cs d × (d.faces ≡ faces))
        → (b || has_set cs faces) ≡ true → (d : Cell) × Contains (c ∷ cs) d × (d.faces ≡ faces)
    by true e r h = (c, first_member c cs c refl, same_is c.faces faces e)
    by false e r h = let q = r h in (q.0, later_member c cs q.0 q.1, q.2)

pub with_known : (kept : List Cell) (c : Cell) → has_set kept c.faces ≡ true → with_next kept c ≡ kept
with_known kept c e = ap (λ (b : Bool). cond b kept (kept ++ c ∷ [])) e

pub with_new : (kept : List Cell) (c : Cell) → has_set kept c.faces ≡ false → with_next kept c ≡ kept ++ c ∷ []
with_new kept c e = ap (λ (b : Bool). cond b kept (kept ++ c ∷ [])) e

-- the set of the next cell is there, or it is kept too
pub next_cases : (kept : List Cell) (c : Cell)
    → (((d : Cell) × Contains kept d × (d.faces ≡ c.faces)) × (with_next kept c ≡ kept))
    ⊎ (((d : Cell) → Contains kept d → d.faces ≢ c.faces) × (with_next kept c ≡ kept ++ c ∷ []))
next_cases kept c = by (has_set kept c.faces) refl
  where
    by : (b : Bool) → has_set kept c.faces ≡ b
        → (((d : Cell) × Contains kept d × (d.faces ≡ c.faces)) × (with_next kept c ≡ kept))
        ⊎ (((d : Cell) → Contains kept d → d.faces ≢ c.faces) × (with_next kept c ≡ kept ++ c ∷ []))
    by true e = inl (has_some kept c.faces e, with_known kept c e)
    by false e = inr (
      λ d m f. true≢false (sym (has_at kept m.0 d c.faces m.1 m.2 f) ∙ e),
      with_new kept c e,
    )

-- ---- one more cell

firsts_from_push : (kept xs : List Cell) (c : Cell)
    → firsts_from kept (xs ++ c ∷ []) ≡ with_next (firsts_from kept xs) c
firsts_from_push kept [] c = refl
firsts_from_push kept (x ∷ xs) c = firsts_from_push (with_next kept x) xs c

firsts_push : (xs : List Cell) (c : Cell) → firsts (xs ++ c ∷ []) ≡ with_next (firsts xs) c
firsts_push xs c = firsts_from_push [] xs c

capped_before : (most n more : ℕ) → capped most (n + more) ≤ most → capped most n ≤ most
capped_before most n more h = grind (arith, nat_tests, h)

entries_push : (all : List Cell) (c : Cell) → entries_of (all ++ c ∷ []) ≡ entries_of all + length c.faces
entries_push all c = sum_by_push (λ (d : Cell). length d.faces) all c

-- the tally of no cells
pub tally_none : (f : Found) → f.cells.items ≡ [] → f.places.entries ≡ [] → f.count ≡ 0 → f.entries ≡ 0
    → IsTally [] f
tally_none f none empty count entries = record {
  count = count;
  entries = entries;
  kept = λ few. none;
  numbered = λ q. ap (λ es. is_some (lookup (is_at (faces_cmp q)) es)) empty
      ∙ ap (λ cs. has_set cs q.items) (sym none);
}

-- the tally of one more cell
pub tally_next : (old new : Found) (all : List Cell) (c : Cell)
    → ((n : ℕ) → old.count ≡ capped MOST_CELLS n → new.count ≡ capped MOST_CELLS (n + 1))
    → ((n : ℕ) → old.entries ≡ capped MOST_ENTRIES n → new.entries ≡ capped MOST_ENTRIES (n + length c.faces))
    → (AreNumbered old.cells.items old.places → AreNumbered new.cells.items new.places)
    → (new.entries ≤ MOST_ENTRIES → AreNumbered old.cells.items old.places
    → new.cells.items ≡ with_next old.cells.items c)
    → IsTally all old → IsTally (all ++ c ∷ []) new
tally_next old new all c count entries numbered kept t =
    let total = entries (entries_of all) t.entries in
    record {
      count = count (length all) t.count ∙ ap (capped MOST_CELLS) (sym (length_push all c));
      entries = total ∙ ap (capped MOST_ENTRIES) (sym (entries_push all c));
      kept = λ few. kept few t.numbered ∙ ap (λ ks. with_next ks c)
          (t.kept (subst (λ n. n ≤ MOST_ENTRIES) (sym t.entries)
          (capped_before MOST_ENTRIES (entries_of all) (length c.faces) (subst (λ n. n ≤ MOST_ENTRIES) total few))))
          ∙ sym (firsts_push all c);
      numbered = numbered t.numbered;
    }

-- ---- the first of each set

-- what holds of no cells, and of one more where it holds before, holds of all and the first of each set
module _ (P : List Cell → List Cell → Type 0)
    (more : (xs kept : List Cell) (c : Cell) → P xs kept → P (xs ++ c ∷ []) (with_next kept c)) where
  holds_from : (xs kept cs : List Cell) → P xs kept → P (xs ++ cs) (firsts_from kept cs)
  holds_from xs kept [] p = subst (λ zs. P zs kept) (sym (append-nil xs)) p
  holds_from xs kept (c ∷ cs) p = subst (λ zs. P zs (firsts_from (with_next kept c) cs))
      (append_assoc xs (c ∷ []) cs) (holds_from (xs ++ c ∷ []) (with_next kept c) cs (more xs kept c p))

  pub holds_of_firsts : P [] [] → (cs : List Cell) → P cs (firsts cs)
  holds_of_firsts p cs = holds_from [] [] cs p

pub member_map : (cs : List Cell) (c : Cell) → Contains cs c → Contains (map mid cs) (mid c)
member_map [] c m = absurd (no_member c m)
member_map (x ∷ cs) c (zero, lt, e) = first_member (mid x) (map mid cs) (mid c) (ap mid e)
member_map (x ∷ cs) c (suc k, lt, e) = later_member (mid x) (map mid cs) (mid c)
    (member_map cs c (k, omega (arith, lt), e))

pub all_map : (P : Place → Type 0) (cs : List Cell) → ((c : Cell) → Contains cs c → P (mid c))
    → All P (map mid cs)
all_map P [] h k d lt = absurd (omega (arith, lt))
all_map P (x ∷ cs) h zero d lt = h x (first_member x cs x refl)
all_map P (x ∷ cs) h (suc k) d lt = all_map P cs (λ c m. h c (later_member x cs c m)) k d (omega (arith, lt))

-- the cells before the last are in order, and before it
order_of_push : (g : Sheet) (xs : List Cell) (c : Cell) → AreInOrder g (map mid (xs ++ c ∷ []))
    → AreInOrder g (map mid xs) × ((x : Cell) → Contains xs x → IsBefore g (mid x) (mid c))
order_of_push g [] c h = (tt, λ x m. absurd (no_member x m))
order_of_push g (x ∷ xs) c (a, h) =
    let at : (y : Cell) → Contains (xs ++ c ∷ []) y → IsBefore g (mid x) (mid y) = (λ y m.
    member_of_all (IsBefore g (mid x)) (map mid (xs ++ c ∷ [])) a (mid y) (member_map (xs ++ c ∷ []) y m)) in
    let r = order_of_push g xs c h in (
      (all_map (IsBefore g (mid x)) xs (λ y m. at y (Contains-append_left xs (c ∷ []) y m)), r.0),
      λ y m. by_member x xs y
          (λ e. subst (λ z. IsBefore g (mid z) (mid c)) e
          (at c (Contains-append_right xs (c ∷ []) c (first_member c [] c refl))))
          (λ n. r.1 y n) m,
    )

-- what the first of each set have to do with all
pub record AreMerged (g : Sheet) (all kept : List Cell) : Type 0 where
  pub sub : (c : Cell) → Contains kept c → Contains all c
  pub sets : (c : Cell) → Contains all c → (d : Cell) × Contains kept d × (d.faces ≡ c.faces)
  pub apart : (m n : ℕ) (d : Cell) → m < n → n < length kept → (get_or kept m d).faces ≢ (get_or kept n d).faces
  pub in_order : AreInOrder g (map mid all) → AreInOrder g (map mid kept)
  pub first : AreInOrder g (map mid all) → (c : Cell) → Contains all c
      → (d : Cell) × Contains kept d × (d.faces ≡ c.faces) × ((d ≡ c) ⊎ IsBefore g (mid d) (mid c))
  pub short : length kept ≤ length all
  pub few : entries_of kept ≤ entries_of all

merged_none : (g : Sheet) → AreMerged g [] []
merged_none g = record {
  sub = λ c m. m;
  sets = λ c m. absurd (no_member c m);
  apart = λ m n d l k. absurd (omega (arith, k));
  in_order = λ o. o;
  first = λ o c m. absurd (no_member c m);
  short = omega arith;
  few = omega arith;
}

module _ (g : Sheet) (xs kept : List Cell) (c : Cell) (h : AreMerged g xs kept) where
  last_is : (d : Cell) → Contains (c ∷ []) d → d ≡ c
  last_is d m = by_member c [] d (λ e. sym e) (λ n. absurd (no_member d n)) m

  -- the set of the next cell is there
  merged_there : (d : Cell) → Contains kept d → d.faces ≡ c.faces → AreMerged g (xs ++ c ∷ []) kept
  merged_there d m e = record {
    sub = λ x k. Contains-append_left xs (c ∷ []) x (h.sub x k);
    sets = λ x k. elim (Contains-append_cases xs (c ∷ []) x k) [
      | inl l ↦ h.sets x l
      | inr l ↦ (d, m, e ∙ ap (λ (z : Cell). z.faces) (sym (last_is x l)))
    ];
    apart = h.apart;
    in_order = λ o. h.in_order (order_of_push g xs c o).0;
    first = λ o x k. (let p = order_of_push g xs c o in elim (Contains-append_cases xs (c ∷ []) x k) [
      | inl l ↦ h.first p.0 x l
      | inr l ↦ (
        d,
        m,
        e ∙ ap (λ (z : Cell). z.faces) (sym (last_is x l)),
        inr (subst (λ (z : Cell). IsBefore g (mid d) (mid z)) (sym (last_is x l)) (p.1 d (h.sub d m))),
      )
    ]);
    short = let a = length_push xs c in let s = h.short in omega (arith, a, s);
    few = let a = entries_push xs c in let s = h.few in omega (arith, a, s);
  }

  -- its set is new
  merged_new : ((d : Cell) → Contains kept d → d.faces ≢ c.faces) → AreMerged g (xs ++ c ∷ []) (kept ++ c ∷ [])
  merged_new new = record {
    sub = λ x k. elim (Contains-append_cases kept (c ∷ []) x k) [
      | inl l ↦ Contains-append_left xs (c ∷ []) x (h.sub x l)
      | inr l ↦ Contains-append_right xs (c ∷ []) x l
    ];
    sets = λ x k. elim (Contains-append_cases xs (c ∷ []) x k) [
      | inl l ↦ (let q = h.sets x l in (q.0, Contains-append_left kept (c ∷ []) q.0 q.1, q.2))
      | inr l ↦ (x, Contains-append_right kept (c ∷ []) x l, refl)
    ];
    apart = apart;
    in_order = λ o. (let p = order_of_push g xs c o in cells_append g kept (c ∷ []) (h.in_order p.0) (all_map (IsBefore g (mid c)) [] (λ y m. absurd (no_member y m)), tt)
        (λ x y m n. subst (λ (z : Cell). IsBefore g (mid x) (mid z)) (sym (last_is y n)) (p.1 x (h.sub x m))));
    first = λ o x k. (let p = order_of_push g xs c o in elim (Contains-append_cases xs (c ∷ []) x k) [
      | inl l ↦ (let q = h.first p.0 x l in (q.0, Contains-append_left kept (c ∷ []) q.0 q.1, q.2, q.3))
      | inr l ↦ (x, Contains-append_right kept (c ∷ []) x l, refl, inl refl)
    ]);
    short = let a = length_push xs c in let b = length_push kept c in let s = h.short in omega (arith, a, b, s);
    few = let a = entries_push xs c in let b = entries_push kept c in let s = h.few in omega (arith, a, b, s);
  }
    where
      either : (n k : ℕ) → n < k + 1 → (n < k) ⊎ (n ≡ k)
      either n k l = grind (arith, l)

      apart : (m n : ℕ) (d : Cell) → m < n → n < length (kept ++ c ∷ [])
          → (get_or (kept ++ c ∷ []) m d).faces ≢ (get_or (kept ++ c ∷ []) n d).faces
      apart m n d l k = elim (either n (length kept) (let a = length_push kept c in omega (arith, a, k))) [
        | inl lt ↦ subst (λ (z : Cell). z.faces ≢ (get_or (kept ++ c ∷ []) n d).faces)
            (sym (get_or_append_left kept (c ∷ []) d m (omega (arith, l, lt))))
            (subst (λ (z : Cell). (get_or kept m d).faces ≢ z.faces)
            (sym (get_or_append_left kept (c ∷ []) d n lt)) (h.apart m n d l lt))
        | inr e ↦ (let lt : m < length kept = omega (arith, l, e) in
            subst (λ (z : Cell). z.faces ≢ (get_or (kept ++ c ∷ []) n d).faces)
            (sym (get_or_append_left kept (c ∷ []) d m lt))
            (subst (λ (z : Cell). (get_or kept m d).faces ≢ z.faces)
            (sym (ap (λ i. get_or (kept ++ c ∷ []) i d) e ∙ get_or_push kept c d (length kept) refl))
            (new (get_or kept m d) (m, lt, get_or_default kept m (get_or kept m d) d lt))))
      ]

merged_next : (g : Sheet) (xs kept : List Cell) (c : Cell) → AreMerged g xs kept
    → AreMerged g (xs ++ c ∷ []) (with_next kept c)
merged_next g xs kept c h = elim (next_cases kept c) [
  | inl p ↦ subst (AreMerged g (xs ++ c ∷ [])) (sym p.1) (merged_there g xs kept c h p.0.0 p.0.1 p.0.2)
  | inr p ↦ subst (AreMerged g (xs ++ c ∷ [])) (sym p.1) (merged_new g xs kept c h p.0)
]

pub are_merged : (g : Sheet) (cs : List Cell) → AreMerged g cs (firsts cs)
are_merged g cs = holds_of_firsts (AreMerged g) (merged_next g) (merged_none g) cs
