-- What has been read within the limits is a pattern.
use Rattle.std.proofs.Common.{◌≡◌, ◌∙◌, ap, ℕ, ◌<◌, ◌≤◌, ◌⊎◌, inl, inr, List, length, Option, None, Some, option_map, sym, refl}
use Rattle.std.proofs.lemmas.Option.{none-some, same_Some}
use Rattle.ff_basics.proofs.Numbers.{less_or}
use Rattle.serde_json.specs.Data.{Data}
use Rattle.ff_whole.specs.declared.points.Pt.{Pt}
use Rattle.ff_types.specs.declared.limits.TheConstants.{MOST_VERTICES, MOST_EDGES}
use Rattle.ff_types.specs.declared.patterns.EdgeEnds.{EdgeEnds}
use Rattle.ff_types.specs.declared.patterns.Mark.{Mark}
use Rattle.ff_types.specs.Patterns.{edge_at, IsPattern}
use Rattle.ff_read.specs.Refused.{ArePoints, AreEdges, HaveEdges}
use Rattle.ff_read.specs.Spelling.{mark_of, all_of, optional_all_of}
use Rattle.ff_read.proofs.Lists.{as_many}

once_at : (n : ℕ) (edges : List EdgeEnds) → AreEdges n edges → (e k : ℕ) → e < length edges → k < length edges → (edge_at edges e).a ≡ (edge_at edges k).a → (edge_at edges e).b ≡ (edge_at edges k).b
    → (e < k) ⊎ ((e ≡ k) ⊎ (k < e)) → e ≡ k
once_at n edges h e k l m a b (inl o) = absurd (h.once e k o m (inl (a, b)))
once_at n edges h e k l m a b (inr (inl o)) = o
once_at n edges h e k l m a b (inr (inr o)) = absurd (h.once k e o l (inl (sym a, sym b)))

back_at : (n : ℕ) (edges : List EdgeEnds) → AreEdges n edges → (e k : ℕ) → e < length edges → k < length edges → (edge_at edges e).a ≡ (edge_at edges k).b → (edge_at edges e).b ≡ (edge_at edges k).a
    → (e < k) ⊎ ((e ≡ k) ⊎ (k < e)) → ⊥
back_at n edges h e k l m a b (inl o) = h.once e k o m (inr (a, b))
back_at n edges h e k l m a b (inr (inl o)) = (h.joins e l).differ (a ∙ sym (ap (λ i. (edge_at edges i).b) o))
back_at n edges h e k l m a b (inr (inr o)) = h.once k e o l (inr (sym b, sym a))

-- the marks that a list spells
mapped : (o : Option (List Mark)) (marks : Option (List Mark)) (ms : List Mark) → option_map Some o ≡ Some marks → marks ≡ Some ms → o ≡ Some ms
mapped None marks ms e f = absurd (none-some marks e)
mapped (Some xs) marks ms e f = same_Some (Some xs) marks e ∙ f

marked_at : (o : Option (List Data)) (n : ℕ) (marks : Option (List Mark)) (ms : List Mark) → ((ds : List Data) → o ≡ Some ds → length ds ≡ n) → optional_all_of mark_of o ≡ Some marks → marks ≡ Some ms → length ms ≡ n
marked_at None n marks ms h e f = absurd (none-some ms (same_Some None marks e ∙ f))
marked_at (Some ds) n marks ms h e f = as_many mark_of ds ms (mapped (all_of mark_of ds) marks ms e f) ∙ h ds refl

pub is_pattern : (vs es : List Data) (o : Option (List Data)) (points : List Pt) (edges : List EdgeEnds) (marks : Option (List Mark)) → ArePoints vs points → HaveEdges (length points) es edges
    → ((ds : List Data) → o ≡ Some ds → length ds ≡ length es) → optional_all_of mark_of o ≡ Some marks → length points ≤ MOST_VERTICES → length edges ≤ MOST_EDGES → IsPattern points edges marks
is_pattern vs es o points edges marks p h m s few_points few_edges = record {
  few_points = few_points;
  few_edges = few_edges;
  near = p.near;
  joins = h.good.joins;
  once = λ e k l n a b. once_at (length points) edges h.good e k l n a b (less_or e k);
  once_back = λ e k l n a b. back_at (length points) edges h.good e k l n a b (less_or e k);
  marked = λ ms f. marked_at o (length es) marks ms m s f ∙ sym (as_many _ es edges h.spelled);
}
