-- Steps one after another, and the end of a trial.
use Rattle.std.proofs.Common.{◌≡◌, ◌≤◌, ◌<◌, ◌+◌, ℕ, List, ◌∷◌, get_or, drop, length, Option, refl, sym, inl, inr, subst, arith}
use Rattle.std.proofs.lemmas.List.{drop_more}
use Rattle.vr_spawn.specs.declared.spawner.SpawnCall.{SpawnCall}
use Rattle.vr_base.specs.declared.status.Status.{Status}
use Rattle.vr_base.specs.declared.status.Status.TheVariants.{Done, NoMemory}
use Rattle.cmd_trial.specs.Run.{Does, DoesAll, Ends, Fails, FailsIn, Faults, Outside, Place, StopsAll, TrialEnds, faults, spawns, spawns_after, tells}
use Rattle.cmd_trial.specs.Script.{AreNext, IsNext, number_after}
use Rattle.cmd_trial.specs.Told.{Trial}
use Rattle.cmd_trial.specs.declared.step.Step.{Step}
use Rattle.cmd_trial.proofs.Causes.{fails_earlier, fails_in_later}

-- ---- steps

pub does_then : (t : Trial) (steps : List Step) (i : ℕ) (d step : Step) (p q p' : Place) → i < length steps → step ≡ get_or steps i d
    → Does t step p q → DoesAll t (drop (i + 1) steps) q p' → DoesAll t (drop i steps) p p'
does_then t steps i d step p q p' h is does rest =
    subst (λ l. DoesAll t l p p') (sym (drop_more steps i d h)) (q, subst (λ s. Does t s p q) is does, rest)

pub fails_then : (t : Trial) (steps : List Step) (i : ℕ) (d step : Step) (p q p' : Place) (b n : Faults) (s : Status) → i < length steps → step ≡ get_or steps i d
    → Does t step p q → FailsIn t (drop (i + 1) steps) q p' b n s → FailsIn t (drop i steps) p p' b n s
fails_then t steps i d step p q p' b n s h is does rest =
    subst (λ l. FailsIn t l p p' b n s) (sym (drop_more steps i d h)) (inr (q, subst (λ x. Does t x p q) is does, rest))

pub fails_here : (t : Trial) (steps : List Step) (i : ℕ) (d step : Step) (p p' : Place) (b mid n : Faults) (s : Status) → i < length steps → step ≡ get_or steps i d
    → mid.link ≡ b.link → mid.counts.write ≡ b.counts.write → mid.counts.spawn ≡ b.counts.spawn
    → Fails t step p p' mid n s → FailsIn t (drop i steps) p p' b n s
fails_here t steps i d step p p' b mid n s h is l w c fails =
    subst (λ x. FailsIn t x p p' b n s) (sym (drop_more steps i d h))
    (inl (fails_earlier t (get_or steps i d) p p' b mid n s (omega (arith, l)) (omega (arith, w)) (omega (arith, c)) (subst (λ x. Fails t x p p' mid n s) is fails)))

pub next_here : (steps : List Step) (i number : ℕ) (d step : Step) → i < length steps → step ≡ get_or steps i d → AreNext number (drop i steps) → IsNext number step
next_here steps i number d step h is next =
    let all : AreNext number (get_or steps i d ∷ drop (i + 1) steps) = subst (λ l. AreNext number l) (drop_more steps i d h) next in
    subst (λ x. IsNext number x) (sym is) all.0

pub next_then : (steps : List Step) (i number after : ℕ) (d step : Step) → i < length steps → step ≡ get_or steps i d → after ≡ number_after number step
    → AreNext number (drop i steps) → AreNext after (drop (i + 1) steps)
next_then steps i number after d step h is at next =
    let all : AreNext number (get_or steps i d ∷ drop (i + 1) steps) = subst (λ l. AreNext number l) (drop_more steps i d h) next in
    subst (λ k. AreNext k (drop (i + 1) steps)) (sym at) (subst (λ x. AreNext (number_after number x) (drop (i + 1) steps)) (sym is) all.1)

-- ---- the end

pub went_through : (t : Trial) (steps : List Step) (p last : Place) (b n : Faults) → n.counts.spawn ≡ b.counts.spawn → DoesAll t steps p last
    → Ends t steps p (tells last last.members.calls) b n Done
went_through t steps p last b n spared does = inl (record { done = refl; spared = spared; last = last; does = does; ends = refl })

pub broke_off : (t : Trial) (steps : List Step) (p last : Place) (running : List (Option ℕ)) (calls : Option (List SpawnCall)) (b : Faults) (link write mid spawn : ℕ) (s : Status)
    → running ≡ last.members.running → mid ≡ spawns_after s b.counts.spawn → mid ≤ spawn → FailsIn t steps p last b (faults link write mid) s
    → StopsAll running (spawns last.members.calls mid) (spawns calls spawn)
    → Ends t steps p (tells last calls) b (faults link write spawn) s
broke_off t steps p last running calls b link write mid spawn s same e h fails stops =
    let stopped : StopsAll last.members.running (spawns last.members.calls mid) (spawns calls spawn) =
    subst (λ r. StopsAll r (spawns last.members.calls mid) (spawns calls spawn)) same stops in
    inr (record {
      last = last;
      fails = fails_in_later t steps p last b link write mid spawn s h fails;
      calls = calls;
      stops = subst (λ k. StopsAll last.members.running (spawns last.members.calls k) (spawns calls spawn)) e stopped;
      ends = refl;
    })

pub ends_short : (t : Trial) (o o' : Outside) (b n : Faults) → o' ≡ o → n ≡ b → TrialEnds t o o' b n NoMemory
ends_short t o o' b n same spared = inl (refl, same, spared)
