-- What a step does.
use Rattle.std.proofs.Common.{◌≡◌, ℕ, List, [], ◌∷◌, true, false, Option, Some, None, Result, Ok, Err, refl, sym, inl, inr, subst}
use Rattle.std.specs.Prelude.{slice_set, IfErr, OnOk}
use Rattle.std.specs.Io.KnownBytes.{Appends}
use Rattle.cmd_client.specs.Asking as ask
use Rattle.vr_base.specs.Causes.{one_more}
use Rattle.vr_edge.specs.Told.{Grows}
use Rattle.vr_header.specs.declared.operation.Operation.{Operation}
use Rattle.vr_spawn.specs.declared.spawner.SpawnCall.{SpawnCall}
use Rattle.vr_base.specs.declared.status.Status.{Status}
use Rattle.vr_base.specs.declared.status.Status.TheVariants.{NoMemory, SpawnFault}
use Rattle.cmd_trial.specs.Run.{BreaksOff, CantCall, Counts, IsCut, IsTold, Members, Starts, Stops, running_at, start_call, stop_call, stops_of}
use Rattle.cmd_trial.proofs.Writing.{rose_one}

-- ---- calls of the spawner

pub started_with : (words texts : List (List ℕ)) (member id : ℕ) (m m' : Members) → texts ≡ words
    → Grows m.calls m'.calls (start_call texts (Some id) ∷ []) → m'.running ≡ slice_set m.running member (Some id) → Starts words member m m'
started_with words texts member id m m' same called runs = record {
  id = id;
  called = subst (λ w. Grows m.calls m'.calls (start_call w (Some id) ∷ [])) same called;
  runs = runs;
}

pub unstarted : (words texts : List (List ℕ)) (m m' : Members) (before now : ℕ) → texts ≡ words
    → Grows m.calls m'.calls (start_call texts None ∷ []) → m'.running ≡ m.running → now ≡ one_more before
    → CantCall (start_call words None ∷ []) m m' before now SpawnFault
unstarted words texts m m' before now same called running e = inr (record {
  fault = refl;
  cause = rose_one before now e;
  called = subst (λ w. Grows m.calls m'.calls (start_call w None ∷ [])) same called;
  running = running;
})

pub uncalled : (calls : List SpawnCall) (m m' : Members) (before now : ℕ) → m' ≡ m → CantCall calls m m' before now NoMemory
uncalled calls m m' before now same = inl (refl, same)

pub stopped_one : (member id : ℕ) (m m' : Members) → running_at m.running member ≡ Some id
    → Grows m.calls m'.calls (stop_call id true ∷ []) → m'.running ≡ slice_set m.running member None → Stops member m m'
stopped_one member id m m' is called runs = record {
  called = subst (λ x. Grows m.calls m'.calls (stops_of x true)) (sym is) called;
  runs = runs;
}

pub stopped_none : (member : ℕ) (m m' : Members) → running_at m.running member ≡ None
    → Grows m.calls m'.calls [] → m'.running ≡ slice_set m.running member None → Stops member m m'
stopped_none member m m' is called runs = record {
  called = subst (λ x. Grows m.calls m'.calls (stops_of x true)) (sym is) called;
  runs = runs;
}

pub unstopped : (member id : ℕ) (m m' : Members) (before now : ℕ) → running_at m.running member ≡ Some id
    → Grows m.calls m'.calls (stop_call id false ∷ []) → m'.running ≡ m.running → now ≡ one_more before
    → CantCall (stops_of (running_at m.running member) false) m m' before now SpawnFault
unstopped member id m m' before now is called running e = inr (record {
  fault = refl;
  cause = rose_one before now e;
  called = subst (λ x. Grows m.calls m'.calls (stops_of x false)) (sym is) called;
  running = running;
})

-- ---- and the line after it

pub told : (Changes : Members → Members → Type 0) (line : List ℕ) (m m' : Members) (t t' : Option (List ℕ)) (r : Result (Unit {0}) Status)
    → Changes m m' → OnOk r (Appends t t' line) → OnOk r (IsTold Changes line m m' t t')
told Changes line m m' t t' (Ok x) changes written = record { changes = changes; written = written }
told Changes line m m' t t' (Err status) changes written = tt

pub told_in_part : (Changes : Members → Members → Type 0) (calls : List SpawnCall) (line : List ℕ) (m m' : Members) (t t' : Option (List ℕ)) (before now : Counts) (r : Result (Unit {0}) Status)
    → Changes m m' → IfErr r (IsCut line t t' before.write now.write) → IfErr r (BreaksOff Changes calls line m m' t t' before now)
told_in_part Changes calls line m m' t t' before now (Ok x) changes cut = tt
told_in_part Changes calls line m m' t t' before now (Err status) changes cut = inr (changes, cut)

pub untold : (Changes : Members → Members → Type 0) (calls : List SpawnCall) (line : List ℕ) (m m' : Members) (t t' : Option (List ℕ)) (before now : Counts) (status : Status)
    → CantCall calls m m' before.spawn now.spawn status → t' ≡ t → BreaksOff Changes calls line m m' t t' before now status
untold Changes calls line m m' t t' before now status cant same = inl (cant, same)

-- ---- the client

-- there was no memory for the operation: nothing was asked
pub untried : (c : ask.Client) (number : ℕ) (operation : Operation) (s : ask.Stand) (b n : ask.Faults)
    → ask.Exchanges c number operation s s b n (Err NoMemory)
untried c number operation s b n = inl (inr (record { port = refl; sent = refl; got = refl; taken = refl }))
