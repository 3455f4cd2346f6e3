-- What the items of a list give: what is so of it, what is among it, and its order.
use Rattle.std.proofs.Common.{◌≡◌, ℕ, ap, subst, IsTrue, List, ◌++◌, Option, Some, option_map, ◌<◌, ◌≤◌, arith}
use Rattle.std.specs.List.{Contains}
use Rattle.ff_basics.proofs.Lists.{filter_map_in, in_filter_map}
use Rattle.ff_types.specs.declared.patterns.Pattern.{Pattern}
use Rattle.ff_types.specs.declared.faces.Faces.{Faces}
use Rattle.ff_types.specs.declared.faces.Folded.{Folded}
use Rattle.ff_types.specs.declared.cites.Cite.{Cite}
use Rattle.ff_types.specs.declared.cites.Listed.{Listed}
use Rattle.ff_types.specs.Faces.{list_before}
use Rattle.ff_types.specs.Sheets.{Sheet, sheet_of}
use Rattle.ff_types.specs.Cases.{key}
use Rattle.ff_types.specs.FoldedPatterns.{IsFoldedPattern}
use Rattle.ff_tacos.specs.Tacos.{AreNumbered, IsTaco}
use Rattle.ff_tacos.specs.Making.{listed_of, given}
use Rattle.ff_tacos.proofs.Flags.{mapped_some}
use Rattle.ff_tacos.proofs.Keys.{family, family_before}
use Rattle.ff_tacos.proofs.Numbered.{is_constraint}
use Rattle.ff_tacos.proofs.Families.{IsGood}
use Rattle.ff_tacos.proofs.Rising.{Rising, rising_filter_map, rising_append, member_either}

abbrev pub ComesBefore : Listed → Listed → Type 0
ComesBefore l o = IsTrue (list_before (key l.cite) (key o.cite))

module _ {pattern : Pattern} {faces : Faces} {folded : Folded} (h : IsFoldedPattern pattern faces folded)
    (pairs : List (ℕ × ℕ)) (all : AreNumbered (sheet_of pattern faces folded) pairs) where
  abbrev g : Sheet
  g = sheet_of pattern faces folded

  -- ---- one family

  pub record IsOf (n : ℕ) (l : Listed) : Type 0 where
    pub taco : IsTaco g pairs l
    pub family : family l.cite ≡ n

  module _ {X : Type 0} (gives : X → Option Cite) (xs : List X) where
    pub given_good : (n : ℕ) → ((x : X) → Contains xs x → (c : Cite) → gives x ≡ Some c → IsGood g n c)
        → (l : Listed) → Contains (given g pairs gives xs) l → IsOf n l
    given_good n ok l m =
        let r = in_filter_map (λ x. option_map (listed_of g pairs) (gives x)) xs l m in
        let s = mapped_some (listed_of g pairs) (gives r.0) l r.2 in
        let good = ok r.0 r.1 s.0 s.1 in
        subst (IsOf n) s.2 (record {
          taco = record {
            of_edges = good.of_edges;
            holds = good.holds;
            witnessed = good.witnessed;
            small = good.small;
            constraint = is_constraint h pairs all s.0 good.holds;
          };
          family = good.family;
        })

    pub given_has : (x : X) (c : Cite) → Contains xs x → gives x ≡ Some c
        → Contains (given g pairs gives xs) (listed_of g pairs c)
    given_has x c m e = filter_map_in (λ x. option_map (listed_of g pairs) (gives x)) xs x
        (listed_of g pairs c) m (ap (option_map (listed_of g pairs)) e)

    pub given_rises : (R : X → X → Type 0)
        → ((x y : X) (a b : Cite) → R x y → gives x ≡ Some a → gives y ≡ Some b
        → IsTrue (list_before (key a) (key b)))
        → Rising R xs → Rising ComesBefore (given g pairs gives xs)
    given_rises R step up = rising_filter_map R ComesBefore (λ x. option_map (listed_of g pairs) (gives x)) by
        xs up where
          by : (x y : X) (l o : Listed) → R x y → option_map (listed_of g pairs) (gives x) ≡ Some l
              → option_map (listed_of g pairs) (gives y) ≡ Some o → ComesBefore l o
          by x y l o r p q =
              let s = mapped_some (listed_of g pairs) (gives x) l p in
              let t = mapped_some (listed_of g pairs) (gives y) o q in
              subst (λ z. ComesBefore z o) s.2
              (subst (λ z. ComesBefore (listed_of g pairs s.0) z) t.2 (step x y s.0 t.0 r s.1 t.1))

  -- ---- families behind one another

  pub record AreUpTo (n : ℕ) (list : List Listed) : Type 0 where
    pub each : (l : Listed) → Contains list l → IsTaco g pairs l × (family l.cite ≤ n)
    pub rises : Rising ComesBefore list

  pub one_family : (n : ℕ) (list : List Listed) → ((l : Listed) → Contains list l → IsOf n l)
      → Rising ComesBefore list → AreUpTo n list
  one_family n list each rises =
      record {
        each = λ l m. (let r = each l m in let f = r.family in (r.taco, omega (arith, f)));
        rises = rises;
      }

  pub one_more : (m n : ℕ) (front list : List Listed) → m < n → AreUpTo m front
      → ((l : Listed) → Contains list l → IsOf n l) → Rising ComesBefore list → AreUpTo n (front ++ list)
  one_more m n front list less before each rises = record {
    each = λ l c. member_either front list l
        (λ k. (let r = before.each l k in let f = r.1 in (r.0, omega (arith, f, less))))
        (λ k. (let r = each l k in let f = r.family in (r.taco, omega (arith, f)))) c;
    rises = rising_append ComesBefore front list before.rises rises
        (λ l o a b. (let r = before.each l a in let s = each o b in let f = r.1 in let k = s.family in
        family_before l.cite o.cite (omega (arith, f, k, less))));
  }
