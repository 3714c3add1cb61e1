-- Each step, with what all objects tell.
use Rattle.std.proofs.Common.{◌≡◌, ℕ, List, [], ◌∷◌, Bool, false, Option, None, Result, Ok, Err, refl, subst}
use Rattle.std.specs.Prelude.{IfErr, OnOk, is_ok}
use Rattle.cmd_client.specs.Asking as ask
use Rattle.vr_base.specs.Causes.{Rose}
use Rattle.vr_edge.specs.Attaching.{attach_of}
use Rattle.vr_edge.specs.Datagrams.{Arrival}
use Rattle.vr_edge.specs.Told.{Grows}
use Rattle.vr_edge.specs.declared.attach.Attach.{Attach as Attached}
use Rattle.vr_edge.specs.declared.datagram.Datagram.{Datagram}
use Rattle.vr_spawn.specs.declared.spawner.SpawnCall.{SpawnCall}
use Rattle.vr_base.specs.declared.status.Status.{Status}
use Rattle.vr_base.specs.declared.status.Status.TheVariants.{LinkFault}
use Rattle.cmd_trial.specs.Run.{AsksNothing, BreaksOff, CantStart, Does, Fails, HasStarted, IsTold, OnlyAsks, Starts, Stops, faults, members, place, running_at, start_call, started, stopped, stops_of}
use Rattle.cmd_trial.specs.Script.{number_of}
use Rattle.cmd_trial.specs.Told.{Trial, operation_of, start_words}
use Rattle.cmd_trial.specs.declared.course.Course.{Course}
use Rattle.cmd_trial.specs.declared.step.Question.{Question}
use Rattle.cmd_trial.specs.declared.step.Step.TheVariants.{Attach, Ask, Stop}

asks_nothing : (c c' : Course) (sent : Option (List (Option Datagram))) (got : Option (List Arrival)) (w w' : Option (List ℕ)) (calls calls' : Option (List SpawnCall)) (a : Option (List Attached))
    → c'.core ≡ c.core → AsksNothing (place c sent got w calls a) (place c' sent got w' calls' a)
asks_nothing c c' sent got w w' calls calls' a same = record { client = rw same refl; attached = refl }

-- ---- starts

pub has_started : (t : Trial) (member : ℕ) (is_fresh : Bool) (c c' : Course) (sent : Option (List (Option Datagram))) (got : Option (List Arrival)) (w w' : Option (List ℕ)) (calls calls' : Option (List SpawnCall)) (a : Option (List Attached)) (r : Result (Unit {0}) Status)
    → c'.core ≡ c.core → OnOk r (IsTold (Starts (start_words t member is_fresh) member) (started member) (members c.running calls) (members c'.running calls') w w')
    → OnOk r (HasStarted t member is_fresh (place c sent got w calls a) (place c' sent got w' calls' a))
has_started t member is_fresh c c' sent got w w' calls calls' a (Ok x) same told = (told, asks_nothing c c' sent got w w' calls calls' a same)
has_started t member is_fresh c c' sent got w w' calls calls' a (Err status) same told = tt

pub cant_start : (t : Trial) (member : ℕ) (is_fresh : Bool) (c c' : Course) (sent : Option (List (Option Datagram))) (got : Option (List Arrival)) (w w' : Option (List ℕ)) (calls calls' : Option (List SpawnCall)) (a : Option (List Attached))
    (l l' wb wn sb sn : ℕ) (r : Result (Unit {0}) Status)
    → c'.core ≡ c.core
    → IfErr r (BreaksOff (Starts (start_words t member is_fresh) member) (start_call (start_words t member is_fresh) None ∷ []) (started member) (members c.running calls) (members c'.running calls') w w' (faults l wb sb).counts (faults l' wn sn).counts)
    → IfErr r (CantStart t member is_fresh (place c sent got w calls a) (place c' sent got w' calls' a) (faults l wb sb) (faults l' wn sn))
cant_start t member is_fresh c c' sent got w w' calls calls' a l l' wb wn sb sn (Ok x) same broke = tt
cant_start t member is_fresh c c' sent got w w' calls calls' a l l' wb wn sb sn (Err status) same broke = (broke, asks_nothing c c' sent got w w' calls calls' a same)

-- ---- stops

pub has_stopped : (t : Trial) (member : ℕ) (c c' : Course) (sent : Option (List (Option Datagram))) (got : Option (List Arrival)) (w w' : Option (List ℕ)) (calls calls' : Option (List SpawnCall)) (a : Option (List Attached)) (r : Result (Unit {0}) Status)
    → c'.core ≡ c.core → OnOk r (IsTold (Stops member) (stopped member) (members c.running calls) (members c'.running calls') w w')
    → OnOk r (Does t (Stop member) (place c sent got w calls a) (place c' sent got w' calls' a))
has_stopped t member c c' sent got w w' calls calls' a (Ok x) same told = (told, asks_nothing c c' sent got w w' calls calls' a same)
has_stopped t member c c' sent got w w' calls calls' a (Err status) same told = tt

pub cant_stop : (t : Trial) (member : ℕ) (c c' : Course) (sent : Option (List (Option Datagram))) (got : Option (List Arrival)) (w w' : Option (List ℕ)) (calls calls' : Option (List SpawnCall)) (a : Option (List Attached))
    (l l' wb wn sb sn : ℕ) (r : Result (Unit {0}) Status)
    → c'.core ≡ c.core
    → IfErr r (BreaksOff (Stops member) (stops_of (running_at c.running member) false) (stopped member) (members c.running calls) (members c'.running calls') w w' (faults l wb sb).counts (faults l' wn sn).counts)
    → IfErr r (Fails t (Stop member) (place c sent got w calls a) (place c' sent got w' calls' a) (faults l wb sb) (faults l' wn sn))
cant_stop t member c c' sent got w w' calls calls' a l l' wb wn sb sn (Ok x) same broke = tt
cant_stop t member c c' sent got w w' calls calls' a l l' wb wn sb sn (Err status) same broke = (broke, asks_nothing c c' sent got w w' calls calls' a same)

-- ---- the client

pub attached : (t : Trial) (c c' : Course) (sent sent' : Option (List (Option Datagram))) (got got' : Option (List Arrival)) (w : Option (List ℕ)) (calls : Option (List SpawnCall)) (a a' : Option (List Attached)) (r : Result (Unit {0}) Status)
    → c' ≡ c → sent' ≡ sent → got' ≡ got → Grows a a' (attach_of [] t.peers (is_ok r) ∷ []) → OnOk r (Does t Attach (place c sent got w calls a) (place c' sent' got' w calls a'))
attached t c c' sent sent' got got' w calls a a' (Ok x) same i j grown = record { attached = grown; same = rw (same, i, j) refl }
attached t c c' sent sent' got got' w calls a a' (Err status) same i j grown = tt

pub unattached : (t : Trial) (c c' : Course) (sent sent' : Option (List (Option Datagram))) (got got' : Option (List Arrival)) (w : Option (List ℕ)) (calls : Option (List SpawnCall)) (a a' : Option (List Attached)) (l l' wb wn sb sn : ℕ) (r : Result (Unit {0}) Status)
    → c' ≡ c → sent' ≡ sent → got' ≡ got → Grows a a' (attach_of [] t.peers (is_ok r) ∷ []) → IfErr r (λ status. (status ≡ LinkFault) × Rose l l')
    → IfErr r (Fails t Attach (place c sent got w calls a) (place c' sent' got' w calls a') (faults l wb sb) (faults l' wn sn))
unattached t c c' sent sent' got got' w calls a a' l l' wb wn sb sn (Ok x) same i j grown fault = tt
unattached t c c' sent sent' got got' w calls a a' l l' wb wn sb sn (Err status) same i j grown fault =
    (fault.0, fault.1, record { attached = grown; same = rw (same, i, j) refl })

only_asks : (c c' : Course) (sent sent' : Option (List (Option Datagram))) (got got' : Option (List Arrival)) (w w' : Option (List ℕ)) (calls : Option (List SpawnCall)) (a a' : Option (List Attached))
    → c'.running ≡ c.running → a' ≡ a → OnlyAsks (place c sent got w calls a) (place c' sent' got' w' calls a')
only_asks c c' sent sent' got got' w w' calls a a' same kept = record { members = rw same refl; attached = kept }

pub has_asked : (t : Trial) (q : Question) (who : ask.Client) (c c' : Course) (sent sent' : Option (List (Option Datagram))) (got got' : Option (List Arrival)) (w w' : Option (List ℕ)) (calls : Option (List SpawnCall)) (a a' : Option (List Attached)) (b n : ask.Faults) (r : Result (Unit {0}) Status)
    → who ≡ t.client → c'.running ≡ c.running → a' ≡ a → ask.Exchanges who (number_of q) (operation_of q) (ask.stand c.core sent got w) (ask.stand c'.core sent' got' w') b n r
    → OnOk r (Does t (Ask q) (place c sent got w calls a) (place c' sent' got' w' calls a'))
has_asked t q who c c' sent sent' got got' w w' calls a a' b n (Ok x) is same kept e =
    let asked : ask.Exchanges t.client (number_of q) (operation_of q) (ask.stand c.core sent got w) (ask.stand c'.core sent' got' w') b n (Ok x) =
    subst (λ y. ask.Exchanges y (number_of q) (operation_of q) (ask.stand c.core sent got w) (ask.stand c'.core sent' got' w') b n (Ok x)) is e in
    (asked, only_asks c c' sent sent' got got' w w' calls a a' same kept)
has_asked t q who c c' sent sent' got got' w w' calls a a' b n (Err status) is same kept e = tt

pub cant_ask : (t : Trial) (q : Question) (who : ask.Client) (c c' : Course) (sent sent' : Option (List (Option Datagram))) (got got' : Option (List Arrival)) (w w' : Option (List ℕ)) (calls : Option (List SpawnCall)) (a a' : Option (List Attached)) (l l' wb wn sb sn : ℕ) (r : Result (Unit {0}) Status)
    → who ≡ t.client → c'.running ≡ c.running → a' ≡ a
    → ask.Exchanges who (number_of q) (operation_of q) (ask.stand c.core sent got w) (ask.stand c'.core sent' got' w') (ask.faults l wb) (ask.faults l' wn) r
    → IfErr r (Fails t (Ask q) (place c sent got w calls a) (place c' sent' got' w' calls a') (faults l wb sb) (faults l' wn sn))
cant_ask t q who c c' sent sent' got got' w w' calls a a' l l' wb wn sb sn (Ok x) is same kept e = tt
cant_ask t q who c c' sent sent' got got' w w' calls a a' l l' wb wn sb sn (Err status) is same kept e =
    let asked : ask.EndsWith t.client (number_of q) (operation_of q) (ask.stand c.core sent got w) (ask.stand c'.core sent' got' w') (ask.faults l wb) (ask.faults l' wn) status =
    subst (λ y. ask.EndsWith y (number_of q) (operation_of q) (ask.stand c.core sent got w) (ask.stand c'.core sent' got' w') (ask.faults l wb) (ask.faults l' wn) status) is e in
    (asked, only_asks c c' sent sent' got got' w w' calls a a' same kept)
