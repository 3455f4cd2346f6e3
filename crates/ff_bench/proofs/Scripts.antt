-- Whole runs.
use Rattle.std.proofs.Common.{◌≡◌, ℕ, zero, suc, ◌+◌, ◌-◌, ◌<◌, ◌≤◌, ◌⊎◌, List, [], ◌∷◌, ◌++◌, length, get_or, slice_get, take, drop, Result, Ok, Err, IfOk, inl, inr, refl, sym, ap, ◌∙◌, subst, arith, Option, Some, None, ⊎_elim}
use Rattle.ff_viewer.specs.declared.commands.Command.{Command}
use Rattle.ff_journal.specs.declared.entries.Entry.{Entry}
use Rattle.ff_journal.specs.Epochs.{viewer_in}
use Rattle.ff_journal.specs.Journals.{IsLegal, IsLegalFor, IsComplete, commands_of, script_of}
use Rattle.ff_journal.specs.Laws.{LegalForItsScripts}
use Rattle.ff_types.specs.declared.cases.Case.{Case}
use Rattle.ff_desk.specs.Views.{BaseView, total}
use Rattle.ff_door.specs.Entries.{Follows}
use Rattle.ff_bench.specs.Views.{BenchView, PassView, WorkerView, IsPassOf, IsWorkerOf, left_of}
use Rattle.ff_bench.specs.Runs.{AreNewPasses, AllReady, AllPlayed, IsPlayed, HoldsAll, IsEnded, lengths_in, AreSpent, AreShort, ArePasses, AreNewWorkers, AreWorkers, AllWork}
use Rattle.ff_bench.proofs.Following.{commands_on}
use Rattle.ff_bench.proofs.Dealing.{there_in, got_there}

pub lengths_many : (scripts : List (List Command)) → length (lengths_in scripts) ≡ length scripts
lengths_many [] = refl
lengths_many (s ∷ scripts) = ap suc (lengths_many scripts)

pub length_at : (scripts : List (List Command)) (k : ℕ) → get_or (lengths_in scripts) k 0 ≡ length (script_of scripts k)
length_at [] zero = refl
length_at [] (suc k) = refl
length_at (s ∷ scripts) zero = refl
length_at (s ∷ scripts) (suc k) = length_at scripts k

beyond : (scripts : List (List Command)) (k : ℕ) → length scripts ≤ k → script_of scripts k ≡ []
beyond [] zero h = refl
beyond [] (suc k) h = refl
beyond (s ∷ scripts) zero h = absurd (omega (arith, h))
beyond (s ∷ scripts) (suc k) h = beyond scripts k (omega (arith, h))

nothing : {X : Type 0} (xs : List X) → length xs ≤ 0 → xs ≡ []
nothing [] h = refl
nothing (x ∷ xs) h = absurd (omega (arith, h))

pub take_full : {X : Type 0} (l : List X) (n : ℕ) → length l ≤ length (take n l) → take n l ≡ l
take_full [] zero h = refl
take_full [] (suc n) h = refl
take_full (x ∷ xs) zero h = absurd (omega (arith, h))
take_full (x ∷ xs) (suc n) h = ap (λ r. x ∷ r) (take_full xs n (omega (arith, h)))

some_at : {X : Type 0} (l : List X) (i : ℕ) → i < length l → (x : X) × (slice_get l i ≡ Some x)
some_at [] i h = absurd (omega (arith, h))
some_at (y ∷ l) zero h = (y, refl)
some_at (y ∷ l) (suc i) h = some_at l i (omega (arith, h))

got_other : {X : Type 0} (l : List X) (i : ℕ) (x y : X) → i < length l → get_or l i x ≡ get_or l i y
got_other [] i x y h = absurd (omega (arith, h))
got_other (z ∷ l) zero x y h = refl
got_other (z ∷ l) (suc i) x y h = got_other l i x y (omega (arith, h))

-- the passes are ready for their scripts as they are made
pub all_ready : (b : BenchView) (scripts : List (List Command)) (ps : List PassView) → b.door.base.lengths ≡ lengths_in scripts → AreNewPasses b ps → AllReady b scripts ps
all_ready b scripts ps e new = (
  omega (arith, new.as_many, lengths_many scripts, ap (λ (l : List ℕ). length l) e),
  λ k p h.
      let q = get_or ps k p in let r = new.each k q (got_there ps k q h (any k p h)) in record {
        of = r.0;
        viewer = r.1;
        whole = r.0.fits ∙ (ap (λ (z : List ℕ × ℕ). get_or z.0 z.1 0) (λ i. (e i, r.1 i)) ∙ length_at scripts k);
        none = ap (commands_of k) r.2;
      },
)
  where
    any : (k : ℕ) (p : PassView) → k < length ps → get_or ps k (get_or ps k p) ≡ get_or ps k p
    any k p h = got_other ps k (get_or ps k p) p h

-- the passes stay those of the bench
pub played_passes : (b : BenchView) (scripts : List (List Command)) (ps : List PassView) → AllPlayed b scripts ps → ArePasses b ps
played_passes b scripts ps all k p e = let t = there_in ps k p e in subst (λ (x : PassView). IsPassOf b x) t.1 (all k p t.0).of

-- where no viewer has a command left, the journal has all commands
pub all_said : (b : BenchView) (scripts : List (List Command)) (ps : List PassView) (j : List Entry) → b.door.base.lengths ≡ lengths_in scripts → length ps ≡ length scripts → AllPlayed b scripts ps → AreSpent ps
    → HoldsAll ps j → IsEnded b j → (v : ℕ) → commands_of v j ≡ script_of scripts v
all_said b scripts ps j e n all spent holds ended v = ⊎_elim here there (cut (length scripts) v)
  where
    cut : (n v : ℕ) → (v < n) ⊎ (n ≤ v)
    cut zero v = inr (omega arith)
    cut (suc n) zero = inl (omega arith)
    cut (suc n) (suc v) = ⊎_elim (λ l. inl (omega (arith, l))) (λ r. inr (omega (arith, r))) (cut n v)

    one : (p : PassView) → slice_get ps v ≡ Some p → commands_of v j ≡ script_of scripts v
    one p at =
        let t = there_in ps v p at in let q = subst (λ (x : PassView). IsPlayed b scripts v x) t.1 (all v p t.0) in
        let f = subst (λ (k : ℕ). Follows viewer_in k p.seen j) q.viewer (holds v p at) in
        let s = spent v p at in let w = q.whole in let c = ap (λ (k : ℕ). length (commands_of k p.seen)) q.viewer in let m = ap (λ (l : List Command). length l) q.said in
        commands_on v p.seen j f ∙ (q.said ∙ take_full (script_of scripts v) q.entered (omega (arith, s, w, c, m)))

    here : v < length scripts → commands_of v j ≡ script_of scripts v
    here l = let x = some_at ps v (omega (arith, l, n)) in one x.0 x.1

    there : length scripts ≤ v → commands_of v j ≡ script_of scripts v
    there r = let none = beyond scripts v r in let w = ended.within v in
        let z : get_or b.door.base.lengths v 0 ≡ 0 = ap (λ (l : List ℕ). get_or l v 0) e ∙ (length_at scripts v ∙ ap (λ (l : List Command). length l) none) in
        nothing (commands_of v j) (omega (arith, w, z)) ∙ sym none

none_some : {X : Type 0} (x : X) → None ≡ Some x → ⊥
none_some x e = cc

same_script : (s t : List Command) → Some s ≡ Some t → s ≡ t
same_script s t e = cc

pub lengths_get : (scripts : List (List Command)) (k : ℕ) (s : List Command) → slice_get scripts k ≡ Some s → slice_get (lengths_in scripts) k ≡ Some (length s)
lengths_get [] zero s e = absurd (none_some s e)
lengths_get [] (suc k) s e = absurd (none_some s e)
lengths_get (t ∷ scripts) zero s e = ap (λ (l : List Command). Some (length l)) (same_script t s e)
lengths_get (t ∷ scripts) (suc k) s e = lengths_get scripts k s e

pub whole_slice : {X : Type 0} (items new : List X) (n : ℕ) → length new ≡ length items → n ≡ length items → take n (new ++ drop (length new) items) ≡ new
whole_slice [] [] n e m = ap (λ k. take k []) m
whole_slice [] (x ∷ new) n e m = absurd (omega (arith, e))
whole_slice (y ∷ items) [] n e m = absurd (omega (arith, e))
whole_slice (y ∷ items) (x ∷ new) n e m = ap (λ k. take k ((x ∷ new) ++ drop (length (x ∷ new)) (y ∷ items))) m ∙ ap (λ r. x ∷ r) (whole_slice items new (length items) (omega (arith, e)) refl)

few_total : (scripts : List (List Command)) (k : ℕ) (s : List Command) → slice_get scripts k ≡ Some s → length s ≤ total (lengths_in scripts)
few_total [] zero s e = absurd (none_some s e)
few_total [] (suc k) s e = absurd (none_some s e)
few_total (t ∷ scripts) zero s e = let n = ap (λ (l : List Command). length l) (same_script t s e) in omega (arith, n)
few_total (t ∷ scripts) (suc k) s e = let n = few_total scripts k s e in omega (arith, n)

pub are_short : (scripts : List (List Command)) → total (lengths_in scripts) ≤ 1024 → AreShort scripts
are_short scripts few k s e = let n = few_total scripts k s e in omega (arith, n, few)

pub all_work : (b : BenchView) (ws : List WorkerView) → AreNewWorkers b ws → AllWork b ws
all_work b ws new k w h = (new.each k (get_or ws k w) (got_there ws k (get_or ws k w) h (got_other ws k (get_or ws k w) w h))).0

pub work_passes : (b : BenchView) (ws : List WorkerView) → AllWork b ws → AreWorkers b ws
work_passes b ws all k w e = let t = there_in ws k w e in subst (λ (x : WorkerView). IsWorkerOf b x) t.1 (all k w t.0)

pub ok_both : {A E : Type 0} (r : Result A E) (P Q R : A → Type 0) → ((x : A) → P x → Q x → R x) → IfOk r P → IfOk r Q → IfOk r R
ok_both (Ok x) P Q R f p q = f x p q
ok_both (Err e) P Q R f p q = tt

-- how a run ends
pub run_ends : (b : BenchView) (case : Case) (budget : ℕ) (scripts : List (List Command)) (ps : List PassView) (j : List Entry) → b.door.base ≡ record { case = case; budget = budget; lengths = lengths_in scripts }
    → length ps ≡ length scripts → AllPlayed b scripts ps → AreSpent ps → LegalForItsScripts → HoldsAll ps j → IsEnded b j → IsLegalFor case budget scripts j × IsComplete scripts j
run_ends b case budget scripts ps j e n all spent law holds ended =
    let said = all_said b scripts ps j (ap (λ (x : BaseView). x.lengths) e) n all spent holds ended in
    let l = law case budget scripts j (subst (λ (x : BaseView). IsLegal x.case x.budget j) e ended.legal) said in
    (l.0, l.1 ended.all)
