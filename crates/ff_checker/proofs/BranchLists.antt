-- Open branches, while claims come to hold and are taken back.
use Rattle.std.proofs.Common.{◌≡◌, ◌∙◌, ℕ, ◌≤◌, Bool, true, false, cond, List, [], ◌∷◌, ◌++◌, length, take, map, reverse, refl, sym, ap, ap₂, subst, arith}
use Rattle.std.proofs.lemmas.List.{length-append, length-take-le, take-append-le, take-take, take_all, reverse-append}
use Rattle.ff_log.specs.declared.claims.Claim.{Claim}
use Rattle.ff_log.specs.Logs.{holds, with_claim, reversed, State, close, close_from}
use Rattle.ff_checker.specs.declared.progress.Opened.{Opened}
use Rattle.ff_checker.specs.LogStates.{IsWithin, AreOpened, branch_of}

front_by : (b : Bool) (list : List Claim) (c : Claim) (m : ℕ) → m ≤ length list → take m (cond b list (list ++ c ∷ [])) ≡ take m list
front_by true list c m l = refl
front_by false list c m l = take-append-le m list (c ∷ []) l

pub front_kept : (list : List Claim) (c : Claim) (m : ℕ) → m ≤ length list → take m (with_claim list c) ≡ take m list
front_kept list c m l = front_by (holds list c) list c m l

longer_by : (b : Bool) (list : List Claim) (c : Claim) → length list ≤ length (cond b list (list ++ c ∷ []))
longer_by true list c = omega arith
longer_by false list c = omega (arith, length-append list (c ∷ []))

pub no_shorter : (list : List Claim) (c : Claim) → length list ≤ length (with_claim list c)
no_shorter list c = longer_by (holds list c) list c

opened_longer : (side n m : ℕ) (os : List Opened) → n ≤ m → AreOpened side n os → AreOpened side m os
opened_longer side n m [] l a = tt
opened_longer side n m (o ∷ os) l a = (omega (arith, a.0, l), a.1, a.2)

same_branches : (side n : ℕ) (xs ys : List Claim) (os : List Opened) → AreOpened side n os → ((m : ℕ) → m ≤ n → take m xs ≡ take m ys)
    → map (branch_of xs) os ≡ map (branch_of ys) os
same_branches side n xs ys [] a same = refl
same_branches side n xs ys (o ∷ os) a same = ap₂ (λ before rest. record { tried = o.tried; before = before } ∷ rest) (same o.since a.0)
    (same_branches side o.since xs ys os a.2 (λ m l. same m (omega (arith, l, a.0))))

-- a claim more
pub held_opened : (side side2 : ℕ) (list list2 : List Claim) (c : Claim) (os : List Opened) → side2 ≡ side → list2 ≡ with_claim list c
    → AreOpened side (length list) os → AreOpened side2 (length list2) os
held_opened side side2 list list2 c os s l a =
    subst (λ k. AreOpened k (length list2) os) (sym s) (subst (λ xs. AreOpened side (length xs) os) (sym l)
    (opened_longer side (length list) (length (with_claim list c)) os (no_shorter list c) a))

pub held_branches : (side : ℕ) (list list2 : List Claim) (c : Claim) (os : List Opened) → list2 ≡ with_claim list c → AreOpened side (length list) os
    → map (branch_of list2) os ≡ map (branch_of list) os
held_branches side list list2 c os l a = same_branches side (length list) list2 list os a (λ m k. ap (take m) l ∙ front_kept list c m k)

-- a branch more
pub last_first : (os : List Opened) (o : Opened) → reverse (os ++ o ∷ []) ≡ o ∷ reverse os
last_first os o = reverse-append os (o ∷ [])

pub open_opened : (side side2 : ℕ) (list list2 : List Claim) (c : Claim) (os all : List Opened) (n : ℕ) → IsWithin side c → side2 ≡ side → list2 ≡ with_claim list c
    → n ≡ length list → all ≡ os ++ record { tried = c; since = n } ∷ [] → AreOpened side (length list) (reverse os) → AreOpened side2 (length list2) (reverse all)
open_opened side side2 list list2 c os all n w s l is more a =
    held_opened side side2 list list2 c (reverse all) s l
    (subst (AreOpened side (length list)) (sym (ap reverse more ∙ last_first os (record { tried = c; since = n })))
    (omega (arith, is), w, subst (λ k. AreOpened side k (reverse os)) (sym is) a))

pub open_branches : (side : ℕ) (list list2 : List Claim) (c : Claim) (os all : List Opened) (n : ℕ) → list2 ≡ with_claim list c
    → n ≡ length list → all ≡ os ++ record { tried = c; since = n } ∷ [] → AreOpened side (length list) (reverse os)
    → map (branch_of list2) (reverse all) ≡ record { tried = c; before = list } ∷ map (branch_of list) (reverse os)
open_branches side list list2 c os all n l is more a =
    ap (map (branch_of list2)) (ap reverse more ∙ last_first os (record { tried = c; since = n }))
    ∙ ap₂ (λ before rest. record { tried = c; before = before } ∷ rest)
    (ap (λ k. take k list2) is ∙ ap (take (length list)) l ∙ front_kept list c (length list) (omega arith) ∙ take_all (length list) list (omega arith))
    (held_branches side list list2 c (reverse os) l a)

-- a branch less
module _ (side : ℕ) (list list1 list2 : List Claim) (os all : List Opened) (o : Opened) (more : all ≡ os ++ o ∷ []) (a : AreOpened side (length list) (reverse all)) (l1 : list1 ≡ take o.since list)
    (l2 : list2 ≡ with_claim list1 (reversed o.tried)) where
  first : reverse all ≡ o ∷ reverse os
  first = ap reverse more ∙ last_first os o

  pub older : AreOpened side (length list) (o ∷ reverse os)
  older = subst (AreOpened side (length list)) first a

  left : length list1 ≡ o.since
  left = ap length l1 ∙ length-take-le o.since list older.0

  still : AreOpened side (length list1) (reverse os)
  still = subst (λ k. AreOpened side k (reverse os)) (sym left) older.2

  pub closed_opened : (side2 : ℕ) → side2 ≡ side → AreOpened side2 (length list2) (reverse os)
  closed_opened side2 s = held_opened side side2 list1 list2 (reversed o.tried) (reverse os) s l2 still

  branches : map (branch_of list2) (reverse os) ≡ map (branch_of list) (reverse os)
  branches = held_branches side list1 list2 (reversed o.tried) (reverse os) l2 still
      ∙ same_branches side (length list1) list1 list (reverse os) still (λ m k. ap (take m) l1 ∙ take-take m o.since list (omega (arith, k, left)))

  pub closed_state : (s : State) → s.held ≡ list → s.branches ≡ map (branch_of list) (reverse all)
      → record s { held = list2; branches = map (branch_of list2) (reverse os) } ≡ close s
  closed_state s held is =
      ap₂ (λ xs bs. record s { held = xs; branches = bs }) (l2 ∙ ap (λ xs. with_claim xs (reversed o.tried)) l1) branches
      ∙ ap (close_from s) (sym (is ∙ ap (map (branch_of list)) first))
