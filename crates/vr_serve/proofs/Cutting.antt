-- Early ends, one piece after another.
use Rattle.std.proofs.Common.{◌≡◌, ◌≢◌, ◌⊎◌, List, [], ◌∷◌, ◌++◌, ℕ, Option, None, Result, Ok, Err, IfErr, OnErr, OnOk, refl, subst, sym, inl, inr}
use Rattle.vr_disk.specs.DiskState.{Disk}
use Rattle.vr_disk.specs.declared.fault.Halt.{Halt}
use Rattle.vr_edge.specs.Datagrams.{Arrival}
use Rattle.vr_mail.specs.Letters.{Gives}
use Rattle.vr_mail.specs.declared.receiving.ReceiveFault.{ReceiveFault}
use Rattle.vr_mail.specs.declared.receiving.ReceiveFault.TheVariants as received
use Rattle.vr_mail.proofs.Growing.{append_nil}
use Rattle.vr_msg.specs.declared.output.Output.{Output}
use Rattle.vr_serve.specs.Causes.{received_stop, stop_of}
use Rattle.vr_serve.specs.Events.{AtReceive, Begins, Come}
use Rattle.vr_serve.specs.Outputs.{datagrams_for, heard, text_from}
use Rattle.vr_serve.specs.Runs.{At, Cut, Doing, End, EndsBehindStep, EndsBetween, EndsInStep, Halting, Passed, PutsFront, end_at}
use Rattle.vr_serve.specs.declared.stop.Stop.TheVariants as stop
use Rattle.vr_serve.proofs.Running.{passed_none, passed_trans}

-- no event was begun
pub cut_none : {S : Type 0} (does : Doing S) (halts : Halting S) (a : At S) (next : List Come) (end : End) → EndsBetween a end → Cut does halts a [] next end
cut_none does halts a next end ends = record {
  begun = [];
  rest = next;
  parts = refl;
  mid = a;
  passed = passed_none does a a.number a.clients refl refl;
  front = ends;
}

-- this one was
cut_begun : {S : Type 0} (does : Doing S) (halts : Halting S) (a : At S) (come : Come) (end : End) → EndsInStep halts a come end ⊎ EndsBehindStep does a come end
    → Cut does halts a [] (come ∷ []) end
cut_begun does halts a come end ends = record {
  begun = come ∷ [];
  rest = [];
  parts = refl;
  mid = a;
  passed = passed_none does a a.number a.clients refl refl;
  front = (refl, ends);
}

-- its step stopped
pub cut_step : {S : Type 0} (does : Doing S) (halts : Halting S) (a : At S) (come : Come) (halt : Halt) (after : S) (disk : Option Disk)
    → halts a.member a.disk come.event halt after disk → Cut does halts a [] (come ∷ []) (end_at (stop_of halt) disk a.taken a.sent)
cut_step does halts a come halt after disk left =
    cut_begun does halts a come (end_at (stop_of halt) disk a.taken a.sent)
    (inl (record { halt = halt; after = after; why = refl; disk = left; taken = refl; sent = refl }))

-- its step was done, and a front of its outputs put out
pub cut_event : {S : Type 0} (does : Doing S) (halts : Halting S) (a : At S) (member : S) (come : Come) (outputs : List Output) (end : End) → end.why ≢ stop.Disk
    → does a.member a.disk come.event outputs member end.disk
    → PutsFront (text_from a.number outputs) (datagrams_for (heard come a.clients) outputs) a.taken end.taken a.sent end.sent → Cut does halts a [] (come ∷ []) end
cut_event does halts a member come outputs end why did front =
    cut_begun does halts a come end (inr (record { outputs = outputs; after = member; why = why; disk = did; front = front }))

-- events happened before
pub cut_after : {S : Type 0} (does : Doing S) (halts : Halting S) (a b : At S) (xs whole next : List Come) (end : End) → Passed does a b xs → Cut does halts b whole next end
    → Cut does halts a (xs ++ whole) next end
cut_after does halts a b xs whole next end p c = record {
  begun = c.begun;
  rest = c.rest;
  parts = c.parts;
  mid = c.mid;
  passed = passed_trans does a b c.mid xs whole p c.passed;
  front = c.front;
}

-- the same, and none besides
pub cut_behind : {S : Type 0} (does : Doing S) (halts : Halting S) (a b : At S) (xs next : List Come) (end : End) → Passed does a b xs → Cut does halts b [] next end
    → Cut does halts a xs next end
cut_behind does halts a b xs next end p c = subst (λ l. Cut does halts a l next end) (append_nil xs) (cut_after does halts a b xs [] next end p c)

pub on_ok : {T E : Type 0} (r : Result T E) (P : Type 0) → P → OnOk r P
on_ok (Ok t) P p = p
on_ok (Err e) P p = tt

pub on_ok_then : {T E : Type 0} (r : Result T E) (X P : Type 0) → (X → P) → OnOk r X → OnOk r P
on_ok_then (Ok t) X P f x = f x
on_ok_then (Err e) X P f x = tt

pub on_ok_all : {T E : Type 0} (r : Result T E) (X Y Z P : Type 0) → (X → Y → Z → P) → OnOk r X → OnOk r Y → OnOk r Z → OnOk r P
on_ok_all (Ok t) X Y Z P f x y z = f x y z
on_ok_all (Err e) X Y Z P f x y z = tt

-- of an answer that is this error
pub if_err_is : {T E : Type 0} (r : Result T E) (P : E → Type 0) (e : E) → r ≡ Err e → P e → IfErr r P
if_err_is r P e is p = subst (λ x. IfErr x P) (sym is) p

-- of an error, by what the call says of errors
pub if_err_by : {T E : Type 0} (r : Result T E) (X : Type 0) (P : E → Type 0) → ((e : E) → r ≡ Err e → X → P e) → OnErr r X → IfErr r P
if_err_by (Ok t) X P f x = tt
if_err_by (Err e) X P f x = f e refl x

pub if_err_then : {T E : Type 0} (r : Result T E) (P Q : E → Type 0) → ((e : E) → P e → Q e) → IfErr r P → IfErr r Q
if_err_then (Ok t) P Q f p = tt
if_err_then (Err e) P Q f p = f e p

-- nothing comes of a receive that failed
pub failed_begins : (version cluster : ℕ) (arrival : Arrival) (f : ReceiveFault) → Gives version cluster arrival (Err f) → Begins version cluster (AtReceive arrival None)
failed_begins version cluster arrival received.Link gives = inr (inl gives, refl)
failed_begins version cluster arrival received.NoMemory gives = inr (inr gives, refl)

-- and why it ends the run
pub received_stops : (f : ReceiveFault) → (received_stop f ≡ stop.Link) ⊎ (received_stop f ≡ stop.NoMemory)
received_stops received.Link = inl refl
received_stops received.NoMemory = inr refl
