-- Lists by number: how many there are, empty ones, one of them read, and a number put to one of them.
use Rattle.std.proofs.Common.{◌≡◌, ℕ, zero, suc, ◌+◌, ◌<◌, refl, sym, ap, ◌∙◌, List, [], ◌∷◌, ◌++◌, length, replicate, get_or, set, Vec}
use Rattle.std.specs.declared.alloc.Global.{Global}
use Rattle.std.proofs.lemmas.List.{map_push, get_or-map, replicate_more}
use Rattle.ff_basics.specs.NumberedLists.{lists_in, list_at}

pub length_in : (lists : List (Vec ℕ Global)) → length (lists_in lists) ≡ length lists
length_in [] = refl
length_in (x ∷ xs) = ap suc (length_in xs)

pub empty_on : (lists new : List (Vec ℕ Global)) (k : ℕ) (v : Vec ℕ Global) → lists_in lists ≡ replicate k []
    → v.items ≡ [] → new ≡ lists ++ v ∷ [] → lists_in new ≡ replicate (k + 1) []
empty_on lists new k v is none e = ap lists_in e ∙ map_push (λ (w : Vec ℕ Global). w.items) lists v
    ∙ ap (λ ls. ls ++ v.items ∷ []) is ∙ ap (λ xs. replicate k [] ++ xs ∷ []) none ∙ replicate_more k []

pub read_at : (lists : List (Vec ℕ Global)) (p : ℕ) (v : Vec ℕ Global) (list : List ℕ) → p < length lists
    → v ≡ get_or lists p v → list ≡ v.items → list ≡ list_at (lists_in lists) p
read_at lists p v list l is read = read ∙ ap (λ (z : Vec ℕ Global). z.items) is
    ∙ sym (get_or-map (λ (z : Vec ℕ Global). z.items) lists p v [] l)

pub put_one : (lists : List (Vec ℕ Global)) (p v : ℕ) (old new : Vec ℕ Global) → p < length lists
    → old ≡ get_or lists p old → new.items ≡ (get_or lists p old).items ++ v ∷ []
    → lists_in (set lists p new) ≡ set (lists_in lists) p (list_at (lists_in lists) p ++ v ∷ [])
put_one lists p v old new l read is =
    let here : list_at (lists_in lists) p ≡ (get_or lists p old).items = get_or-map (λ v. v.items) lists p old [] l in
    map-set lists p new ∙ ap (set (lists_in lists) p) (is ∙ ap (λ xs. xs ++ v ∷ []) (sym here))
  where
    map-set : (ls : List (Vec ℕ Global)) (k : ℕ) (n : Vec ℕ Global) → lists_in (set ls k n) ≡ set (lists_in ls) k n.items
    map-set [] k n = refl
    map-set (x ∷ ls) zero n = refl
    map-set (x ∷ ls) (suc k) n = ap (λ r. x.items ∷ r) (map-set ls k n)
