-- The whole run of a client.
use Rattle.std.proofs.Common.{◌≡◌, ◌⊎◌, ◌+◌, ℕ, true, false, List, [], ◌∷◌, ◌++◌, Option, Ok, Err, refl, sym, subst, inl, inr, arith}
use Rattle.cmd_client.specs.Asking.{Client, Exchanges, Faults, HasNone, Stand, faults}
use Rattle.cmd_client.specs.Run.{AreExchanged, ClientEnds, EndsAt, EndsAttached, EndsLines, EndsRun, Exchange, Outside, Reading, StopsAt, outside, reading_of, standing}
use Rattle.vr_base.specs.Causes.{Rose, one_more}
use Rattle.vr_client.specs.declared.answer.AskFault.TheVariants as fault
use Rattle.vr_edge.specs.Attaching.{attach_of}
use Rattle.vr_edge.specs.Datagrams.{Arrival}
use Rattle.vr_edge.specs.Failing.{EndsFailed}
use Rattle.vr_edge.specs.Told.{Grows}
use Rattle.vr_edge.specs.declared.attach.Attach.{Attach}
use Rattle.vr_edge.specs.declared.datagram.Datagram.{Datagram}
use Rattle.vr_header.specs.declared.operation.Operation.{Operation}
use Rattle.vr_header.specs.declared.operation.Operation.TheVariants.{Register}
use Rattle.vr_mail.proofs.Growing.{failed_after, grows_nil, grows_trans}
use Rattle.vr_base.specs.declared.status.Status.{Status}
use Rattle.vr_base.specs.declared.status.Status.TheVariants as status
use Rattle.cmd_client.proofs.Exchanges.{stops_later}

-- it couldn't register
pub unregistered : (c : Client) (r : Reading) (s : Stand) (s' : Stand) (b n : Faults) (status : Status)
    → Exchanges c 0 Register s s' b n (Err status) → EndsRun c r s r s' b n status
unregistered c r s s' b n status e = inl (refl, e)

pub lines_later : (c : Client) (r : Reading) (s : Stand) (r' : Reading) (s' : Stand) (b m n : Faults) (status : Status)
    → m.link ≡ b.link → m.write ≡ b.write → EndsLines c r s r' s' m n status → EndsLines c r s r' s' b n status
lines_later c r s r' s' b m n status l w e = record {
  exchanges = e.exchanges;
  few = e.few;
  reads = e.reads;
  stands = e.stands;
  done = e.done;
  ends = stops_later c _ e.reads e.stands r' s' b m n status l w e.ends;
}

-- it registered, and asked its lines
pub registered : (c : Client) (r : Reading) (s s'' : Stand) (r' : Reading) (s' : Stand) (b m n : Faults) (status : Status)
    → Exchanges c 0 Register s s'' b m (Ok tt) → m.link ≡ b.link → m.write ≡ b.write → EndsLines c r s'' r' s' m n status → EndsRun c r s r' s' b n status
registered c r s s'' r' s' b m n status e l w lines = inr (e.0, s'', e.1, lines_later c r s'' r' s' b m n status l w lines)

-- ---- the link

-- the link was not attached yet
before_link : (c : Client) (sent : Option (List (Option Datagram))) (got : Option (List Arrival)) (taken left : Option (List ℕ)) (a a' : Option (List Attach)) (o' : Outside) (b n : Faults) (s : Status)
    → EndsAttached c (outside sent got taken left a') o' b n s → EndsAttached c (outside sent got taken left a) o' b n s
before_link c sent got taken left a a' o' b n s (inl x) = inl (record { is = x.is; spared = x.spared; same = x.same })
before_link c sent got taken left a a' o' b n s (inr x) = inr (record { rest = x.rest; port = x.port; ends = x.ends })

-- it was, and went well
pub linked : (c : Client) (peers : List (List ℕ)) (sent sent' : Option (List (Option Datagram))) (got got' : Option (List Arrival)) (taken left : Option (List ℕ)) (a a' : Option (List Attach))
    (l l' w : ℕ) (o' : Outside) (n : Faults) (s : Status) → sent' ≡ sent → got' ≡ got → l' ≡ l → Grows a a' (attach_of [] peers true ∷ []) → o'.attached ≡ a'
    → EndsAttached c (outside sent' got' taken left a') o' (faults l' w) n s → ClientEnds c peers (outside sent got taken left a) o' (faults l w) n s
linked c peers sent sent' got got' taken left a a' l l' w o' n s i j k grown kept e = inr (
  subst (λ x. Grows a x (attach_of [] peers true ∷ [])) (sym kept) grown,
  before_link c sent got taken left a a' o' (faults l w) n s
      (subst (λ x. EndsAttached c (outside x got taken left a') o' (faults l w) n s) i
      (subst (λ x. EndsAttached c (outside sent' x taken left a') o' (faults l w) n s) j
      (subst (λ x. EndsAttached c (outside sent' got' taken left a') o' (faults x w) n s) k e))),
)

pub unlinked : (c : Client) (peers : List (List ℕ)) (sent sent' : Option (List (Option Datagram))) (got got' : Option (List Arrival)) (taken left : Option (List ℕ)) (a a' : Option (List Attach))
    (l l' w : ℕ) → sent' ≡ sent → got' ≡ got → l' ≡ one_more l → Grows a a' (attach_of [] peers false ∷ [])
    → ClientEnds c peers (outside sent got taken left a) (outside sent' got' taken left a') (faults l w) (faults l' w) status.LinkFault
unlinked c peers sent sent' got got' taken left a a' l l' w i j k grown =
    inl (record { is = refl; rose = omega (arith, k); attached = grown; same = rw (i, j) refl })

-- ---- where it ended for its link, the link failed

pub asked_last : (c : Client) (k : ℕ) (x : Operation) (s s' : Stand) → HasNone c k x s s' fault.Link → EndsFailed s.got s'.got
asked_last c k x s s' h = (h.asked.arrivals, subst (λ (l : List Arrival). Grows s.got s'.got (h.asked.arrivals ++ l)) h.asked.ends.0 h.asked.received)

stops_link : (c : Client) (k : ℕ) (r : Reading) (s : Stand) (r' : Reading) (s' : Stand) (b n : Faults)
    → ((s' ≡ s) × StopsAt c.version k r r' status.LinkFault) ⊎ EndsAt c k r s r' s' b n status.LinkFault → Rose b.link n.link × EndsFailed s.got s'.got
stops_link c k r s r' s' b n (inl x) = absurd x.1
stops_link c k r s r' s' b n (inr x) = (x.ends.0, asked_last c k x.operation s s' x.ends.1)

-- all that was received in exchanges
received_of : (c : Client) (k : ℕ) (r : Reading) (s : Stand) (xs : List Exchange) (r' : Reading) (s' : Stand) → AreExchanged c k r s xs r' s'
    → (all : List Arrival) × Grows s.got s'.got all
received_of c k r s [] r' s' e = ([], subst (λ (z : Stand). Grows s.got z.got []) (sym e.1) (grows_nil s.got))
received_of c k r s (x ∷ xs) r' s' e =
    let asked = e.2.answered.asked in
    let rest = received_of c (k + 1) e.0 e.1 xs r' s' e.3 in
    ((asked.arrivals ++ asked.last) ++ rest.0, grows_trans s.got e.1.got s'.got (asked.arrivals ++ asked.last) rest.0 asked.received rest.1)

run_link : (c : Client) (r : Reading) (s : Stand) (r' : Reading) (s' : Stand) (b n : Faults) → EndsRun c r s r' s' b n status.LinkFault
    → Rose b.link n.link × EndsFailed s.got s'.got
run_link c r s r' s' b n (inl x) = (x.1.0, asked_last c 0 Register s s' x.1.1)
run_link c r s r' s' b n (inr x) =
    let asked = x.2.asked in
    let lines = x.3 in
    let done = received_of c 1 r x.1 lines.exchanges lines.reads lines.stands lines.done in
    let last = stops_link c _ lines.reads lines.stands r' s' b n lines.ends in (
      last.0,
      failed_after s.got x.1.got s'.got (asked.arrivals ++ asked.last) asked.received (failed_after x.1.got lines.stands.got s'.got done.0 done.1 last.1),
    )

attached_link : (c : Client) (o o' : Outside) (b n : Faults) → EndsAttached c o o' b n status.LinkFault → Rose b.link n.link × EndsFailed o.got o'.got
attached_link c o o' b n (inl x) = absurd (cc x.is)
attached_link c o o' b n (inr x) = run_link c _ _ _ _ b n x.ends

pub client_link : (c : Client) (o o' : Outside) (b n : Faults) (s : Status) → EndsAttached c o o' b n s → s ≡ status.LinkFault → Rose b.link n.link × EndsFailed o.got o'.got
client_link c o o' b n s e is = attached_link c o o' b n (subst (λ x. EndsAttached c o o' b n x) is e)

-- ---- the client was made, or it wasn't

pub ran : (c : Client) (o o' : Outside) (rest : List ℕ) (port : ℕ) (b n : Faults) (s : Status)
    → EndsRun c (reading_of [] o) (standing 0 o) (reading_of rest o') (standing port o') b n s → EndsAttached c o o' b n s
ran c o o' rest port b n s e = inr (record { rest = rest; port = port; ends = e })

pub unmade : (c : Client) (o : Outside) (b : Faults) → EndsAttached c o o b b status.NoMemory
unmade c o b = inl (record { is = refl; spared = refl; same = refl })
