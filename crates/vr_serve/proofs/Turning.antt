-- Turns one after another.
use Rattle.std.proofs.Common.{◌≡◌, ◌∙◌, ℕ, ◌+◌, ◌<◌, ◌≤◌, List, [], ◌∷◌, ◌++◌, Option, refl, ap, sym, subst, map, length, arith, Result, Ok, Err, IfOk, OnOk, nat_le, true, false}
use Rattle.std.proofs.lemmas.Grind.{common_steps}
use Rattle.vr_disk.specs.DiskState.{Disk}
use Rattle.vr_edge.specs.Told.{GivesNext, Grows}
use Rattle.vr_edge.specs.Datagrams.{Arrival}
use Rattle.vr_edge.specs.declared.datagram.Datagram.{Datagram}
use Rattle.vr_mail.proofs.Brought.{brought_more}
use Rattle.vr_mail.proofs.Growing.{append_nil, assoc, grows_nil, grows_trans}
use Rattle.vr_mail.specs.Letters.{Brings}
use Rattle.vr_msg.specs.declared.event.Event.TheVariants.{Tick}
use Rattle.vr_msg.specs.declared.output.Output.{Output}
use Rattle.vr_serve.specs.Events.{AreTurns, Gives, Turn, arrival_in, arrivals, due, events_of, happened, last_after, last_of, letters, next_in, numbers_in, whole_in}
use Rattle.vr_serve.specs.Outputs.{numbers_after}
use Rattle.vr_serve.specs.Runs.{AreTurnsCut, At, Cut, Doing, End, Halting, HaveTurns, IsCutInTurn, IsServed, IsTurnCut, Passed, PutsFirst, at, begun_at}
use Rattle.vr_serve.specs.declared.clients.Client.{Client}
use Rattle.vr_serve.specs.declared.serving.TheConstants.{TICK}
use Rattle.vr_serve.proofs.Cutting.{cut_after}
use Rattle.vr_serve.proofs.Running.{map_append, passed_none, passed_trans}

last_more : (last : ℕ) (turns : List Turn) (turn : Turn) → last_of last (turns ++ turn ∷ []) ≡ last_after (last_of last turns) turn.now
last_more last [] turn = refl
last_more last (t ∷ turns) turn = last_more (last_after last t.now) turns turn

happened_more : (last : ℕ) (turns : List Turn) (turn : Turn)
    → happened last (turns ++ turn ∷ []) ≡ happened last turns ++ events_of (last_of last turns) turn
happened_more last [] turn = append_nil (events_of last turn)
happened_more last (t ∷ turns) turn =
    ap (λ l. events_of last t ++ l) (happened_more (last_after last t.now) turns turn)
    ∙ sym (assoc (events_of last t) (happened (last_after last t.now) turns) (events_of (last_of (last_after last t.now) turns) turn))

gives_then : (a b c : Option (List ℕ)) (numbers more : List ℕ) → Gives a numbers b → Gives b more c → Gives a (numbers ++ more) c
gives_then a b c [] more given then = subst (λ l. Gives l more c) given then
gives_then a b c (m ∷ numbers) more given then = (given.0, given.1, gives_then given.0 b c numbers more given.2 then)

length_more : {X : Type 0} (xs : List X) (x : X) → length (xs ++ x ∷ []) ≡ length xs + 1
length_more xs x = grind (arith, common_steps)

le_false : (a b : ℕ) → b < a → nat_le a b ≡ false
le_false a b h = grind arith

-- no tick is due before `TICK` after the last one
pub due_none : (last now : ℕ) → now < last + TICK → due last now ≡ []
due_none last now h = rw (le_false (last + TICK) now h) refl

le_true : (a b : ℕ) → a ≤ b → nat_le a b ≡ true
le_true a b h = grind arith

pub due_tick : (last now : ℕ) → last + TICK ≤ now → due last now ≡ record { port = 0; event = Tick } ∷ []
due_tick last now h = rw (le_true (last + TICK) now h) refl

pub both : {T E : Type 0} (r : Result T E) (P : T → Type 0) (X : Type 0) (Q : T → Type 0) → ((t : T) → P t → X → Q t) → IfOk r P → OnOk r X → IfOk r Q
both (Ok t) P X Q f p x = f t p x
both (Err e) P X Q f p x = tt

-- no turn
pub turns_none : {S : Type 0} (does : Doing S) (version cluster tick : ℕ) (a : At S) (left : Option (List ℕ)) (got : Option (List Arrival))
    → HaveTurns does version cluster 0 tick tick a a left left got got
turns_none does version cluster tick a left got = record {
  turns = [];
  counted = refl;
  ticked = refl;
  clock = refl;
  received = grows_nil got;
  brought = tt;
  passed = passed_none does a a.number a.clients refl refl;
}

brought_turn : (version cluster : ℕ) (turns : List Turn) (turn : Turn) → AreTurns version cluster turns → Brings version cluster turn.arrival turn.letter
    → AreTurns version cluster (turns ++ turn ∷ [])
brought_turn version cluster turns turn b new =
    rw (map_append (λ (x : Turn). x.arrival) turns (turn ∷ []), map_append (λ (x : Turn). x.letter) turns (turn ∷ []))
    (brought_more version cluster (arrivals turns) (letters turns) turn.arrival turn.letter b new)

-- one more
pub turns_more : {S : Type 0} (does : Doing S) (version cluster count tick last after : ℕ) (left left' left'' : Option (List ℕ)) (got got' got'' : Option (List Arrival))
    (a b c : At S) (turn : Turn) → HaveTurns does version cluster count tick last a b left left' got got'
    → after ≡ last_after last turn.now → Grows got' got'' (turn.arrival ∷ []) → Brings version cluster turn.arrival turn.letter
    → GivesNext left' left'' turn.now → Passed does b c (events_of last turn)
    → HaveTurns does version cluster (count + 1) tick after a c left left'' got got''
turns_more does version cluster count tick last after left left' left'' got got' got'' a b c turn s is more new next passed = record {
  turns = s.turns ++ turn ∷ [];
  counted = length_more s.turns turn ∙ ap (λ n. n + 1) s.counted;
  ticked = is ∙ (ap (λ n. last_after n turn.now) s.ticked ∙ sym (last_more tick s.turns turn));
  clock = rw (map_append (λ (x : Turn). x.now) s.turns (turn ∷ [])) (gives_then left left' left'' (map (λ x. x.now) s.turns) (turn.now ∷ []) s.clock (left'', next, refl));
  received = rw (map_append (λ (x : Turn). x.arrival) s.turns (turn ∷ [])) (grows_trans got got' got'' (arrivals s.turns) (turn.arrival ∷ []) s.received more);
  brought = brought_turn version cluster s.turns turn s.brought new;
  passed = rw (happened_more tick s.turns turn) (passed_trans does a b c (happened tick s.turns)
      (events_of (last_of tick s.turns) turn) s.passed (rw (sym s.ticked) passed));
}

-- an early end in the turn after these
pub turns_cut : {S : Type 0} (does : Doing S) (halts : Halting S) (version cluster count limit tick last : ℕ) (left left' left'' : Option (List ℕ))
    (got got' got'' : Option (List Arrival)) (a b : At S) (end : End) → HaveTurns does version cluster count tick last a b left left' got got' → count < limit
    → IsTurnCut does halts version cluster last b left' left'' got' got'' end
    → AreTurnsCut does halts version cluster limit tick a left left'' got got'' end
turns_cut does halts version cluster count limit tick last left left' left'' got got' got'' a b end s lt c = record {
  turns = s.turns;
  last = c.last;
  counted = omega (arith, s.counted, lt);
  clock = gives_then left left' left'' (map (λ x. x.now) s.turns) (numbers_in c.last) s.clock c.clock;
  received = grows_trans got got' got'' (arrivals s.turns) (arrival_in c.last ∷ []) s.received c.received;
  brought = s.brought;
  begun = c.begun;
  cut = subst (λ n. Cut does halts a (happened tick s.turns ++ whole_in c.last) (next_in n c.last) end) s.ticked
      (cut_after does halts a b (happened tick s.turns) (whole_in c.last) (next_in last c.last) end s.passed c.cut);
}

-- where a run stands after the first outputs
begins_at : {S : Type 0} (member : S) (disk : Option Disk) (number : ℕ) (clients : List Client) (first : List Output) (t : Option (List ℕ)) (u : Option (List (Option Datagram)))
    → number ≡ numbers_after 0 first → clients ≡ [] → at member disk number clients t u ≡ begun_at member disk first t u
begins_at member disk number clients first t u same none = rw (same, none) refl

-- a whole run
pub served : {S : Type 0} (does : Doing S) (version cluster count begins after number : ℕ) (clients : List Client) (first : List Output) (member : S) (disk : Option Disk)
    (left mid left' : Option (List ℕ)) (got got' : Option (List Arrival)) (t taken : Option (List ℕ)) (u sent : Option (List (Option Datagram))) (b : At S)
    → PutsFirst first t taken u sent → number ≡ numbers_after 0 first → clients ≡ [] → GivesNext left mid begins
    → HaveTurns does version cluster count begins after (at member disk number clients taken sent) b mid left' got got'
    → IsServed does version cluster count first member b.member disk b.disk left left' got got' t b.taken u b.sent
served does version cluster count begins after number clients first member disk left mid left' got got' t taken u sent b puts same none next s = record {
  begins = begins;
  turns = s.turns;
  counted = s.counted;
  clock = (mid, next, s.clock);
  received = s.received;
  brought = s.brought;
  taken = taken;
  sent = sent;
  puts = puts;
  number = b.number;
  clients = b.clients;
  passed = subst (λ a. Passed does a b (happened begins s.turns)) (begins_at member disk number clients first taken sent same none) s.passed;
}

-- one that was cut off
pub served_cut : {S : Type 0} (does : Doing S) (halts : Halting S) (version cluster count begins number : ℕ) (clients : List Client) (first : List Output) (member : S)
    (disk : Option Disk) (left mid left' : Option (List ℕ)) (got got' : Option (List Arrival)) (t taken : Option (List ℕ)) (u sent : Option (List (Option Datagram)))
    (end : End) → PutsFirst first t taken u sent → number ≡ numbers_after 0 first → clients ≡ [] → GivesNext left mid begins
    → AreTurnsCut does halts version cluster count begins (at member disk number clients taken sent) mid left' got got' end
    → IsCutInTurn does halts version cluster count first member disk left left' got got' t u end
served_cut does halts version cluster count begins number clients first member disk left mid left' got got' t taken u sent end puts same none next c = record {
  begins = begins;
  turns = c.turns;
  last = c.last;
  counted = c.counted;
  clock = (mid, next, c.clock);
  received = c.received;
  brought = c.brought;
  begun = c.begun;
  taken = taken;
  sent = sent;
  puts = puts;
  cut = subst (λ a. Cut does halts a (happened begins c.turns ++ whole_in c.last) (next_in (last_of begins c.turns) c.last) end)
      (begins_at member disk number clients first taken sent same none) c.cut;
}
