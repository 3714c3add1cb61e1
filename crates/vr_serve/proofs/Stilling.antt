-- Turns in which nothing comes in the place of datagrams that are refused.
use Rattle.std.proofs.Common.{◌≡◌, ◌∙◌, ℕ, suc, List, [], ◌∷◌, ◌++◌, Option, length, map, refl, ap, sym, subst, inl, inr}
use Rattle.vr_edge.specs.Datagrams.{Arrival, Failed, Nothing, Came}
use Rattle.vr_mail.proofs.Brought.{stilled_one}
use Rattle.vr_mail.specs.Letters.{AreStilled, IsMessage, Stills}
use Rattle.vr_mail.specs.declared.receiving.Letter.{Letter}
use Rattle.vr_serve.specs.Events.{AreTurns, AtReceive, AtTick, Begins, LastTurn, Turn, arrival_in, arrivals, events_of, happened, last_after, last_of, next_in, numbers_in, whole_in}
use Rattle.vr_serve.specs.Laws.{CutsTheSame, RefusedChangeNothing, ServesTheSame, with_arrivals}
use Rattle.vr_serve.specs.Runs.{Doing, Halting}

still_turns : (version cluster : ℕ) (turns : List Turn) (others : List Arrival) → AreTurns version cluster turns → AreStilled version cluster (arrivals turns) others
    → AreTurns version cluster (with_arrivals turns others)
still_turns version cluster [] others b s = tt
still_turns version cluster (t ∷ ts) [] b s = absurd s
still_turns version cluster (t ∷ ts) (a ∷ others) b s =
    (stilled_one version cluster t.arrival a t.letter b.0 s.0, still_turns version cluster ts others b.1 s.1)

same_events : (version cluster last : ℕ) (turns : List Turn) (others : List Arrival) → AreStilled version cluster (arrivals turns) others
    → happened last (with_arrivals turns others) ≡ happened last turns
same_events version cluster last [] others s = refl
same_events version cluster last (t ∷ ts) [] s = absurd s
same_events version cluster last (t ∷ ts) (a ∷ others) s = ap (λ l. events_of last t ++ l) (same_events version cluster (last_after last t.now) ts others s.1)

same_numbers : (version cluster : ℕ) (turns : List Turn) (others : List Arrival) → AreStilled version cluster (arrivals turns) others
    → map (λ t. t.now) (with_arrivals turns others) ≡ map (λ t. t.now) turns
same_numbers version cluster [] others s = refl
same_numbers version cluster (t ∷ ts) [] s = absurd s
same_numbers version cluster (t ∷ ts) (a ∷ others) s = ap (λ l. t.now ∷ l) (same_numbers version cluster ts others s.1)

same_arrivals : (version cluster : ℕ) (turns : List Turn) (others : List Arrival) → AreStilled version cluster (arrivals turns) others
    → arrivals (with_arrivals turns others) ≡ others
same_arrivals version cluster [] [] s = refl
same_arrivals version cluster [] (a ∷ others) s = absurd s
same_arrivals version cluster (t ∷ ts) [] s = absurd s
same_arrivals version cluster (t ∷ ts) (a ∷ others) s = ap (λ l. a ∷ l) (same_arrivals version cluster ts others s.1)

same_count : (version cluster : ℕ) (turns : List Turn) (others : List Arrival) → AreStilled version cluster (arrivals turns) others
    → length (with_arrivals turns others) ≡ length turns
same_count version cluster [] others s = refl
same_count version cluster (t ∷ ts) [] s = absurd s
same_count version cluster (t ∷ ts) (a ∷ others) s = ap (λ n. suc n) (same_count version cluster ts others s.1)

same_last : (version cluster last : ℕ) (turns : List Turn) (others : List Arrival) → AreStilled version cluster (arrivals turns) others
    → last_of last (with_arrivals turns others) ≡ last_of last turns
same_last version cluster last [] others s = refl
same_last version cluster last (t ∷ ts) [] s = absurd s
same_last version cluster last (t ∷ ts) (a ∷ others) s = same_last version cluster (last_after last t.now) ts others s.1

pub refused_change_nothing : RefusedChangeNothing
refused_change_nothing version cluster begins turns others b s = record {
  brought = still_turns version cluster turns others b s;
  events = same_events version cluster begins turns others s;
  numbers = same_numbers version cluster turns others s;
}

pub serves_the_same : {S : Type 0} (does : Doing S) → ServesTheSame does
serves_the_same does version cluster count first member member' disk disk' left left' got got' t t' u u' run others heard heard' s grown = record {
  begins = run.begins;
  turns = with_arrivals run.turns others;
  counted = same_count version cluster run.turns others s ∙ run.counted;
  clock = rw (same_numbers version cluster run.turns others s) run.clock;
  received = rw (same_arrivals version cluster run.turns others s) grown;
  brought = still_turns version cluster run.turns others run.brought s;
  taken = run.taken;
  sent = run.sent;
  puts = run.puts;
  number = run.number;
  clients = run.clients;
  passed = rw (same_events version cluster run.begins run.turns others s) run.passed;
}

-- ---- runs that are cut off

-- the receives of a front, and the last one
record Split (version cluster : ℕ) (xs : List Arrival) (a : Arrival) (others : List Arrival) : Type 0 where
  front : List Arrival
  last : Arrival
  parts : others ≡ front ++ last ∷ []
  stilled : AreStilled version cluster xs front
  still : Stills version cluster a last

split : (version cluster : ℕ) (xs : List Arrival) (a : Arrival) (others : List Arrival) → AreStilled version cluster (xs ++ a ∷ []) others → Split version cluster xs a others
split version cluster [] a [] s = absurd s
split version cluster [] a (o ∷ []) s = record { front = []; last = o; parts = refl; stilled = tt; still = s.0 }
split version cluster [] a (o ∷ p ∷ others) s = absurd s.1
split version cluster (x ∷ xs) a [] s = absurd s
split version cluster (x ∷ xs) a (o ∷ others) s =
    let r = split version cluster xs a others s.1 in
    record { front = o ∷ r.front; last = r.last; parts = ap (λ l. o ∷ l) r.parts; stilled = (s.0, r.stilled); still = r.still }

still_message : (version cluster : ℕ) (a o : Arrival) → IsMessage version cluster a → Stills version cluster a o → IsMessage version cluster o
still_message version cluster Failed o m s = absurd m
still_message version cluster Nothing o m s = absurd m
still_message version cluster (Came d) Failed m s = absurd s
still_message version cluster (Came d) Nothing m s = absurd (s m.0 m.1)
still_message version cluster (Came d) (Came e) m s = rw s m

still_failed : (version cluster : ℕ) (a o : Arrival) → a ≡ Failed → Stills version cluster a o → o ≡ Failed
still_failed version cluster a o is s = subst (λ x. Stills version cluster x o) is s

still_receive : (version cluster : ℕ) (a o : Arrival) (l : Option Letter) → Begins version cluster (AtReceive a l) → Stills version cluster a o → Begins version cluster (AtReceive o l)
still_receive version cluster a o l (inl b) s = inl (stilled_one version cluster a o l b s)
still_receive version cluster a o l (inr b) s = inr (elim b.0 [ inl f ↦ inl (still_failed version cluster a o f s) | inr m ↦ inr (still_message version cluster a o m s) ], b.1)

-- the last turn with another receive: all else of it is as it was
record Stilled (version cluster : ℕ) (last : LastTurn) (o : Arrival) : Type 0 where
  turn : LastTurn
  arrival : arrival_in turn ≡ o
  numbers : numbers_in turn ≡ numbers_in last
  whole : whole_in turn ≡ whole_in last
  next : (tick : ℕ) → next_in tick turn ≡ next_in tick last
  begun : Begins version cluster turn

still_last : (version cluster : ℕ) (last : LastTurn) (o : Arrival) → Begins version cluster last → Stills version cluster (arrival_in last) o → Stilled version cluster last o
still_last version cluster (AtReceive a l) o b s =
    record { turn = AtReceive o l; arrival = refl; numbers = refl; whole = refl; next = λ tick. refl; begun = still_receive version cluster a o l b s }
still_last version cluster (AtTick t) o b s =
    record { turn = AtTick (record t { arrival = o }); arrival = refl; numbers = refl; whole = refl; next = λ tick. refl; begun = stilled_one version cluster t.arrival o t.letter b s }

pub cuts_the_same : {S : Type 0} (does : Doing S) (halts : Halting S) → CutsTheSame does halts
cuts_the_same does halts version cluster count first member disk left left' got got' t u end run others heard heard' s grown =
    let p = split version cluster (arrivals run.turns) (arrival_in run.last) others s in
    let l = still_last version cluster run.last p.last run.begun p.still in
    record {
      begins = run.begins;
      turns = with_arrivals run.turns p.front;
      last = l.turn;
      counted = rw (same_count version cluster run.turns p.front p.stilled) run.counted;
      clock = rw (same_numbers version cluster run.turns p.front p.stilled, l.numbers) run.clock;
      received = rw (same_arrivals version cluster run.turns p.front p.stilled, l.arrival, sym p.parts) grown;
      brought = still_turns version cluster run.turns p.front run.brought p.stilled;
      begun = l.begun;
      taken = run.taken;
      sent = run.sent;
      puts = run.puts;
      cut = rw (same_events version cluster run.begins run.turns p.front p.stilled, l.whole, same_last version cluster run.begins run.turns p.front p.stilled, l.next (last_of run.begins run.turns)) run.cut;
    }
