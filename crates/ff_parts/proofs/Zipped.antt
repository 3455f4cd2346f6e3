-- Two lists that are gone over side by side.
use Rattle.std.proofs.Common.{◌≡◌, List, [], ◌∷◌, None, map, length, refl, sym, ap, ◌∙◌}
use Rattle.std.proofs.lemmas.Iterator.{zips, YieldsList-from_zip, items_from_drains}
use Rattle.std.proofs.lemmas.Iterator.Adapters.{YieldsList-from_vec}
use Rattle.std.proofs.lemmas.Slice.Zip.{firsts-zip, seconds-zip}
use Rattle.std.specs.Iterator.{Yields}
use Rattle.std.specs.Iterator.Adapters.{zip_first, zip_second}
use Rattle.std.specs.List.{zip}
use Rattle.std.specs.Vec.Iter.{into_iter_items, into_iter_len, into_iter_steps}
use Rattle.std.specs.declared.vec.IntoIter.{IntoIter}
use Rattle.std.specs.declared.iter.Zip.{Zip}

pairs_are : {A B : Type 0} (ps : List (A × B)) → map (λ p. (p.0, p.1)) ps ≡ ps
pairs_are [] = refl
pairs_are (p ∷ ps) = ap (λ qs. p ∷ qs) (pairs_are ps)

-- where two lists of one length were gone over to the end, the pairs were those of both
pub paired : {A B Z : Type 0} (xs : List A) (ys : List B) (s t u : Zip (IntoIter A Z) (IntoIter B Z))
    (ps : List (A × B)) → length ys ≡ length xs → into_iter_items (zip_first s) ≡ xs
    → into_iter_len (zip_first s) ≡ length xs → into_iter_items (zip_second s) ≡ ys
    → into_iter_len (zip_second s) ≡ length ys → Yields (zips into_iter_steps into_iter_steps) s ps t
    → zips {A = A} {B = B} into_iter_steps into_iter_steps t None u
    → (map (λ p. p.0) ps ≡ xs) × (map (λ p. p.1) ps ≡ ys)
paired {A} {B} xs ys s t u ps as_many first first_long second second_long yielded ended =
    let e : ps ≡ zip xs ys = sym (pairs_are ps) ∙ items_from_drains ps (t, yielded, λ _. (u, ended))
    (YieldsList-from_zip (YieldsList-from_vec xs first first_long) (YieldsList-from_vec ys second second_long))
    in
    (ap (map (λ (p : A × B). p.0)) e ∙ firsts-zip xs ys as_many, ap (map (λ (p : A × B). p.1)) e ∙ seconds-zip xs ys as_many)
