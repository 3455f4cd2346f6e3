-- How far the marks of a face's row reach.
use Rattle.std.proofs.Common.{ℕ, ◌+◌, ◌<◌, ◌≤◌, Bool, List, get_or, sym, ◌∙◌, subst, inl, inr, arith}
use Rattle.std.specs.List.{All}
use Rattle.ff_pairs.specs.Tables.{Adds, StandsAt, IsAside, IsReach, AreRaised}
use Rattle.ff_pairs.proofs.Marks.{stands_is}

-- what is marked beside a face is reached
pub reached : (w : ℕ) (mid new : List Bool) (old raised faces : List ℕ) (i past : ℕ) → All (λ f. f < past) faces → past ≤ w
    → Adds w mid new (IsAside faces i) → AreRaised old raised faces (i + 1) past → IsReach w mid old → IsReach w new raised
reached w mid new old raised faces i past below le a up r = record {
  long = up.long ∙ r.long;
  past = λ f h p q t. elim ((a.adds f h p q).0 t) [ inl u ↦ (let m = r.past f h p q u in let k = up.kept f in omega (arith, m, k)) | inr u ↦ aside f h u ];
  small = λ f. up.small f w le (r.small f);
} where
  both : (j k f h : ℕ) → j < i + 1 → StandsAt faces j f → StandsAt faces k h → h < get_or raised f 0
  both j k f h le s t =
      let m = subst (λ n. n < past) t.1 (below k h t.0) in
      let n = subst (λ x. past ≤ get_or raised x 0) (sym (stands_is faces j f s)) (up.raised j le) in
      omega (arith, m, n)

  aside : (f h : ℕ) → IsAside faces i f h → h < get_or raised f 0
  aside f h (inl (s, (k, l, m, t))) = both k i f h (omega (arith, l)) t s
  aside f h (inr (s, (k, l, m, t))) = both i k f h (omega arith) s t
