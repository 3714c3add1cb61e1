-- What the receives of a link over streams have given grows by what each one gives.
use Rattle.std.specs.Option.{option_map}
use Rattle.std.specs.Prelude.{⊤}
use Rattle.std.proofs.Common.{subst, ◌≡◌, ◌∙◌, ◌<◌, ◌≤◌, ◌+◌, ◌-◌, false, ℕ, List, [], ◌∷◌, ◌++◌, length, take, replicate, slice_get, Option, Some, None, Result, Ok, Err, refl, ap, sym, inl, inr, arith}
use Rattle.std.proofs.lemmas.List.{append_assoc, append-nil, get_or-replicate, length-append, length-replicate, take_at}
use Rattle.std.proofs.lemmas.Option.{get_or_from_slice_get, slice_get_within}
use Rattle.vr_edge.specs.Datagrams.{Arrival, Failed, Nothing, received_by}
use Rattle.vr_edge.specs.Told.{Grows, IsNothing}
use Rattle.vr_edge.specs.declared.link.Received.{Received}
use Rattle.vr_edge.specs.declared.link.Received.TheVariants as received
use Rattle.vr_edge.specs.declared.streams.Piece.{Piece}
use Rattle.vr_edge.specs.declared.streams.StreamCall.{StreamCall}
use Rattle.vr_edge.specs.declared.streams.StreamCall.TheVariants as call
use Rattle.vr_stream.proofs.Giving.{told_none}
use Rattle.vr_stream.proofs.Tells.{Tells, came_tells, closed_tells, damage_stands, ended_tells, failed_tells, gave_tells, gives_stand, quiet_tells, settled_tells, settles_stand, silence}
use Rattle.vr_stream.specs.Framers.{HasNoPlace}
use Rattle.vr_stream.specs.Framing.{Call, Comes, Framing, Gave, Gives, Happen, Happens, Occurrence, Settled, Settles, calls_in, ended}
use Rattle.vr_stream.specs.Heard.{Agrees, Heard, AgreesTold, came_at, given, heard, heard_from, is_ready, received_told, settled, standing, standing_in, then_heard}
use Rattle.vr_stream.specs.Lines.{fresh_line, kept}
use Rattle.vr_stream.specs.Receiving.{GivesBy, HearsBy, IsHeard, Polls}
use Rattle.vr_stream.specs.declared.line.Incoming.{Incoming}

grows_then : {X : Type 0} (a b c : Option (List X)) (xs ys : List X) → Grows a b xs → Grows b c ys → Grows a c (xs ++ ys)
grows_then None None c xs ys ab bc = bc
grows_then None (Some l) c xs ys ab bc = absurd (let clash : Some l ≡ None = ab in cc)
grows_then (Some l) None None xs ys ab bc = tt
grows_then (Some l) None (Some n) xs ys ab bc = absurd (let clash : Some n ≡ None = bc in cc)
grows_then (Some l) (Some m) None xs ys ab bc = tt
grows_then (Some l) (Some m) (Some n) xs ys ab bc = bc ∙ (ap (λ z. z ++ ys) ab ∙ append_assoc l xs ys)

pub heard_append : (ports : ℕ) (h : Heard) (cs more : List StreamCall) → heard_from ports h (cs ++ more) ≡ heard_from ports (heard_from ports h cs) more
heard_append ports h [] more = refl
heard_append ports h (c ∷ cs) more = heard_append ports (then_heard ports h c) cs more

pub given_front : (xs ready all : List Arrival) → xs ++ ready ≡ all → given all ready ≡ xs
given_front xs ready all e =
    let count : length xs + length ready ≡ length all = sym (length-append xs ready) ∙ ap length e in
    let size : length xs ≡ length all - length ready = omega (arith, count) in
    ap (take (length all - length ready)) (sym e) ∙ take_at xs ready (length all - length ready) size

tells_of : (f : Framing) (h : Heard) → Agrees f h → Tells (length f.lines) f h (given h.arrivals (standing f))
tells_of f h a = record { count = refl; lines = λ port line there. record { left = a.left port line there; room = a.room port line there }; all = a.fits }

agrees_of : (ports : ℕ) (f : Framing) (h : Heard) (xs : List Arrival) → Tells ports f h xs → Agrees f h
agrees_of ports f h xs t = record {
  left = λ port line there. (t.lines port line there).left;
  room = λ port line there. (t.lines port line there).room;
  fits = ap (λ z. z ++ standing f) (given_front xs (standing f) h.arrivals t.all) ∙ t.all;
}

-- what a link had received it has still, and this more
abbrev pub Adds : Framing → Option (List StreamCall) → Framing → Option (List StreamCall) → List Arrival → Type 0
Adds f old g new more = AgreesTold f old → AgreesTold g new × Grows (received_told f old) (received_told g new) more

pub adds_then : (f g h : Framing) (a b c : Option (List StreamCall)) (xs ys : List Arrival) → Adds f a g b xs → Adds g b h c ys → Adds f a h c (xs ++ ys)
adds_then f g h a b c xs ys x y = λ t.
    let first = x t in
    let then = y first.0 in
    (then.0, grows_then (received_told f a) (received_told g b) (received_told h c) xs ys first.1 then.1)

-- by these calls, whatever there was before
abbrev pub Step : Framing → Framing → List StreamCall → List Arrival → Type 0
Step f g calls more = (h : Heard) (xs : List Arrival) → Tells (length f.lines) f h xs → Tells (length f.lines) g (heard_from (length f.lines) h calls) (xs ++ more)

pub never_told : (g : Framing) → AgreesTold g None
never_told g = λ cs e. absurd (let clash : None ≡ Some cs = e in cc)

step_some : (f g : Framing) (cs ds calls : List StreamCall) (more : List Arrival) → Step f g calls more → ds ≡ cs ++ calls → Agrees f (heard (length f.lines) cs)
    → AgreesTold g (Some ds) × Grows (received_told f (Some cs)) (received_told g (Some ds)) more
step_some f g cs ds calls more s e a =
    let ports = length f.lines in
    let old = heard ports cs in
    let was = given old.arrivals (standing f) in
    let t : Tells ports g (heard_from ports old calls) (was ++ more) = s old was (tells_of f old a) in
    let same : heard_from ports old calls ≡ heard (length g.lines) ds =
    sym (heard_append ports (record { left = λ port. record { deframer = []; over = false }; arrivals = [] }) cs calls)
    ∙ (ap (heard ports) (sym e) ∙ ap (λ n. heard n ds) (sym t.count)) in
    let u : Tells ports g (heard (length g.lines) ds) (was ++ more) = subst (λ h. Tells ports g h (was ++ more)) same t in (
      λ es x. (let d : ds ≡ es = (let o : Some ds ≡ Some es = x in cc) in subst (λ q. Agrees g (heard (length g.lines) q)) d (agrees_of ports g (heard (length g.lines) ds) (was ++ more) u)),
      given_front (was ++ more) (standing g) (heard (length g.lines) ds).arrivals u.all,
    )

pub step_adds : (f g : Framing) (old new : Option (List StreamCall)) (calls : List StreamCall) (more : List Arrival) → Step f g calls more → Grows old new calls
    → Adds f old g new more
step_adds f g None None calls more s e = λ t. (never_told g, refl)
step_adds f g None (Some ds) calls more s e = absurd (let clash : Some ds ≡ None = e in cc)
step_adds f g (Some cs) None calls more s e = λ t. (never_told g, tt)
step_adds f g (Some cs) (Some ds) calls more s e = λ t. step_some f g cs ds calls more s e (t cs refl)

-- one thing that happens, and it alone
pub alone : (f g : Framing) (h : Occurrence) → Happen f (h ∷ []) g → Happens f h g
alone f g h (mid, one, e) = subst (Happens f h) (sym e) one

gave_step : (f g : Framing) (port : ℕ) (to : List ℕ) → Gives port to f g → Step f g [] (came_at port to ∷ [])
gave_step f g port to x = λ h xs t. gave_tells (length f.lines) f g h xs port to t x

no_more : (ports : ℕ) (f : Framing) (h : Heard) (xs : List Arrival) → Tells ports f h xs → Tells ports f h (xs ++ [])
no_more ports f h xs t = subst (Tells ports f h) (sym (append-nil xs)) t

settled_step : (f g : Framing) → Settles f g → Step f g [] []
settled_step f g x = λ h xs t. no_more (length f.lines) g h xs (settled_tells (length f.lines) f g h xs t x)

pub given_some : (f g : Framing) (old new : Option (List StreamCall)) (happened : List Occurrence) (to : List ℕ) (port : ℕ) → Happen f happened g
    → Grows old new (calls_in happened) → happened ≡ Gave port to ∷ [] → Adds f old g new (came_at port to ∷ []) × (silence (standing f) ≡ [])
given_some f g old new happened to port h told e =
    let x : Gives port to f g = alone f g (Gave port to) (subst (λ hs. Happen f hs g) e h) in
    let grows : Grows old new [] = subst (λ hs. Grows old new (calls_in hs)) e told in
    (step_adds f g old new [] (came_at port to ∷ []) (gave_step f g port to x) grows, ap silence (gives_stand f g port to x))

closed_settled : (f g : Framing) (port : ℕ) → Happen f (Call (call.Closed port) ∷ Settled ∷ []) g → Step f g (call.Closed port ∷ []) []
closed_settled f g port (mid, closed, rest) = λ h xs t.
    let over = closed_tells (length f.lines) f mid h xs port t closed in
    no_more (length f.lines) g (then_heard (length f.lines) h (call.Closed port)) xs
    (settled_tells (length f.lines) mid g (then_heard (length f.lines) h (call.Closed port)) xs over (alone mid g Settled rest))

pub given_none : (f g : Framing) (old new : Option (List StreamCall)) (happened : List Occurrence) (to : List ℕ) → Happen f happened g
    → Grows old new (calls_in happened) → GivesBy f happened g to None → Adds f old g new [] × (standing f ≡ [])
given_none f g old new happened to h told (none, inl e) =
    let x : Settles f g = alone f g Settled (subst (λ hs. Happen f hs g) e h) in
    (step_adds f g old new [] [] (settled_step f g x) (subst (λ hs. Grows old new (calls_in hs)) e told), settles_stand f g x)
given_none f g old new happened to h told (none, inr (port, d, e)) = (
  step_adds f g old new (call.Closed port ∷ []) [] (closed_settled f g port (subst (λ hs. Happen f hs g) e h)) (subst (λ hs. Grows old new (calls_in hs)) e told),
  damage_stands f port d,
)

-- bytes without a place close their port
nowhere_step : (f mid g : Framing) (piece : Piece) → f.ready ≡ None → Comes piece f (slice_get f.lines piece.port) mid → HasNoPlace piece.port f
    → g ≡ ended piece.port mid → Step f g (call.Came piece ∷ call.Closed piece.port ∷ []) (Nothing ∷ [])
nowhere_step f mid g piece e comes (inl none) s = λ h xs t.
    let ports = length f.lines in
    let came = came_tells ports f mid h xs piece t e comes in
    let same : mid ≡ f = subst (λ o. Comes piece f o mid) none comes in
    let quiet : standing mid ≡ [] = ap (λ (x : Framing). standing x) same ∙ ap (standing_in f.lines) e in
    let heard_piece : Tells ports mid (then_heard ports h (call.Came piece)) (xs ++ Nothing ∷ []) =
    subst (λ q. Tells ports mid (then_heard ports h (call.Came piece)) (xs ++ silence q)) quiet came in
    closed_tells ports mid g (then_heard ports h (call.Came piece)) (xs ++ Nothing ∷ []) piece.port heard_piece s
nowhere_step f mid g piece e comes (inr (line, there, full)) s = λ h xs t.
    let room = (t.lines piece.port line there).room (ap (λ o. is_ready o piece.port) e) in
    absurd (let clash : 1 ≤ 0 = omega (arith, room, full) in omega (arith, clash))

quiet_step : (f g : Framing) → f.ready ≡ None → g ≡ f → Step f g (call.Quiet ∷ []) (Nothing ∷ [])
quiet_step f g e s = λ h xs t. quiet_tells (length f.lines) f g h xs t e s

ended_step : (f g : Framing) (port : ℕ) → f.ready ≡ None → g ≡ ended port f → Step f g (call.Ended port ∷ []) (Nothing ∷ [])
ended_step f g port e s = λ h xs t. ended_tells (length f.lines) f g h xs port t e s

came_step : (f g : Framing) (piece : Piece) → f.ready ≡ None → Comes piece f (slice_get f.lines piece.port) g → Step f g (call.Came piece ∷ []) (silence (standing g))
came_step f g piece e comes = λ h xs t. came_tells (length f.lines) f g h xs piece t e comes

piece_adds : (f mid g : Framing) (settled polled new : Option (List StreamCall)) (piece : Piece) (happened : List Occurrence) (to : List ℕ) (r : Received)
    → f.ready ≡ None → Comes piece f (slice_get f.lines piece.port) mid → Grows settled polled (call.Came piece ∷ []) → Happen mid happened g
    → Grows polled new (calls_in happened) → HearsBy f (call.Came piece) mid happened g to r → Adds f settled g new (received_by {E = Unit {0}} (Ok r) to ∷ [])
piece_adds f mid g settled polled new piece happened to (received.Datagram port) e comes told h more by =
    let first = step_adds f mid settled polled (call.Came piece ∷ []) (silence (standing mid)) (came_step f mid piece e comes) told in
    let then = given_some mid g polled new happened to port h more by in
    subst (λ q. Adds f settled g new (q ++ came_at port to ∷ [])) then.1
    (adds_then f mid g settled polled new (silence (standing mid)) (came_at port to ∷ []) first then.0)
piece_adds f mid g settled polled new piece happened to received.Part e comes told h more (inl by) =
    let first = step_adds f mid settled polled (call.Came piece ∷ []) (silence (standing mid)) (came_step f mid piece e comes) told in
    let then = given_none mid g polled new happened to h more by in
    subst (λ q. Adds f settled g new (silence q ++ [])) then.1 (adds_then f mid g settled polled new (silence (standing mid)) [] first then.0)
piece_adds f mid g settled polled new piece happened to received.Part e comes told h more (inr (nowhere, s)) =
    let over : g ≡ ended piece.port mid = alone mid g (Call (call.Closed piece.port)) (subst (λ hs. Happen mid hs g) s h) in
    let closed : Grows polled new (call.Closed piece.port ∷ []) = subst (λ hs. Grows polled new (calls_in hs)) s more in
    step_adds f g settled new (call.Came piece ∷ call.Closed piece.port ∷ []) (Nothing ∷ []) (nowhere_step f mid g piece e comes nowhere over)
    (grows_then settled polled new (call.Came piece ∷ []) (call.Closed piece.port ∷ []) told closed)
piece_adds f mid g settled polled new piece happened to received.Quiet e comes told h more by = absurd by

heard_adds : (f g : Framing) (settled polled new : Option (List StreamCall)) (c : StreamCall) (to : List ℕ) (r : Received) → Grows settled polled (c ∷ [])
    → IsHeard f c polled g new to r → Adds f settled g new (received_by {E = Unit {0}} (Ok r) to ∷ [])
heard_adds f g settled polled new (call.Came piece) to r told x = piece_adds f x.mid g settled polled new piece x.happened to r x.call.0 x.call.1 told x.happen x.told x.by
heard_adds f g settled polled new (call.Ended port) to received.Part told x =
    let same : g ≡ x.mid = subst (λ hs. Happen x.mid hs g) x.by x.happen in
    let grows : Grows polled new [] = subst (λ hs. Grows polled new (calls_in hs)) x.by x.told in
    step_adds f g settled new (call.Ended port ∷ []) (Nothing ∷ []) (ended_step f g port x.call.0 (same ∙ x.call.1)) (grows_then settled polled new (call.Ended port ∷ []) [] told grows)
heard_adds f g settled polled new call.Quiet to received.Quiet told x =
    let same : g ≡ x.mid = subst (λ hs. Happen x.mid hs g) x.by x.happen in
    let grows : Grows polled new [] = subst (λ hs. Grows polled new (calls_in hs)) x.by x.told in
    step_adds f g settled new (call.Quiet ∷ []) (Nothing ∷ []) (quiet_step f g x.call.0 (same ∙ x.call.1)) (grows_then settled polled new (call.Quiet ∷ []) [] told grows)
heard_adds f g settled polled new (call.Ended port) to (received.Datagram at) told x = absurd x.by
heard_adds f g settled polled new (call.Ended port) to received.Quiet told x = absurd x.by
heard_adds f g settled polled new call.Quiet to (received.Datagram at) told x = absurd x.by
heard_adds f g settled polled new call.Quiet to received.Part told x = absurd x.by
heard_adds f g settled polled new call.Failed to (received.Datagram at) told x = absurd x.by
heard_adds f g settled polled new call.Failed to received.Part told x = absurd x.by
heard_adds f g settled polled new call.Failed to received.Quiet told x = absurd x.by
heard_adds f g settled polled new (call.Closed port) to (received.Datagram at) told x = absurd x.by
heard_adds f g settled polled new (call.Closed port) to received.Part told x = absurd x.by
heard_adds f g settled polled new (call.Closed port) to received.Quiet told x = absurd x.by

-- ---- what comes of a poll

-- closes, and no other calls
abbrev pub AreCloses : List StreamCall → Type 0
AreCloses [] = ⊤
AreCloses (call.Closed port ∷ cs) = AreCloses cs
AreCloses (call.Came piece ∷ cs) = ⊥
AreCloses (call.Ended port ∷ cs) = ⊥
AreCloses (call.Quiet ∷ cs) = ⊥
AreCloses (call.Failed ∷ cs) = ⊥

-- nothing comes by them
pub closes_bring : (ports : ℕ) (h : Heard) (cs : List StreamCall) → AreCloses cs → (heard_from ports h cs).arrivals ≡ h.arrivals
closes_bring ports h [] a = refl
closes_bring ports h (call.Closed port ∷ cs) a = closes_bring ports (then_heard ports h (call.Closed port)) cs a
closes_bring ports h (call.Came piece ∷ cs) a = absurd a
closes_bring ports h (call.Ended port ∷ cs) a = absurd a
closes_bring ports h (call.Quiet ∷ cs) a = absurd a
closes_bring ports h (call.Failed ∷ cs) a = absurd a

given_closes : (f : Framing) (hs : List Occurrence) (g : Framing) (to : List ℕ) (port : Option ℕ) → GivesBy f hs g to port → AreCloses (calls_in hs)
given_closes f hs g to (Some port) e = subst (λ xs. AreCloses (calls_in xs)) (sym e) tt
given_closes f hs g to None (n, inl e) = subst (λ xs. AreCloses (calls_in xs)) (sym e) tt
given_closes f hs g to None (n, inr (port, d, e)) = subst (λ xs. AreCloses (calls_in xs)) (sym e) tt

heard_closes : (f : Framing) (c : StreamCall) (mid : Framing) (hs : List Occurrence) (g : Framing) (to : List ℕ) (r : Received) → HearsBy f c mid hs g to r
    → AreCloses (calls_in hs)
heard_closes f (call.Came piece) mid hs g to (received.Datagram port) by = given_closes mid hs g to (Some port) by
heard_closes f (call.Came piece) mid hs g to received.Part (inl by) = given_closes mid hs g to None by
heard_closes f (call.Came piece) mid hs g to received.Part (inr (n, e)) = subst (λ xs. AreCloses (calls_in xs)) (sym e) tt
heard_closes f (call.Came piece) mid hs g to received.Quiet by = absurd by
heard_closes f (call.Ended port) mid hs g to received.Part e = subst (λ xs. AreCloses (calls_in xs)) (sym e) tt
heard_closes f (call.Ended port) mid hs g to (received.Datagram at) by = absurd by
heard_closes f (call.Ended port) mid hs g to received.Quiet by = absurd by
heard_closes f call.Quiet mid hs g to received.Quiet e = subst (λ xs. AreCloses (calls_in xs)) (sym e) tt
heard_closes f call.Quiet mid hs g to (received.Datagram at) by = absurd by
heard_closes f call.Quiet mid hs g to received.Part by = absurd by
heard_closes f call.Failed mid hs g to (received.Datagram at) by = absurd by
heard_closes f call.Failed mid hs g to received.Part by = absurd by
heard_closes f call.Failed mid hs g to received.Quiet by = absurd by
heard_closes f (call.Closed port) mid hs g to (received.Datagram at) by = absurd by
heard_closes f (call.Closed port) mid hs g to received.Part by = absurd by
heard_closes f (call.Closed port) mid hs g to received.Quiet by = absurd by

-- these calls, and more after them
abbrev pub with_more : Option (List StreamCall) → List StreamCall → Option (List StreamCall)
with_more calls more = option_map (λ cs. cs ++ more) calls

grows_with : (calls : Option (List StreamCall)) (more : List StreamCall) → Grows calls (with_more calls more) more
grows_with None more = refl
grows_with (Some cs) more = refl

-- by a poll and the closes after it one arrival comes, whether the closes are told or not
pub record AfterPoll (f g : Framing) (old last new : Option (List StreamCall)) (a : Arrival) : Type 0 where
  pub more : List StreamCall
  pub closes : AreCloses more
  pub grown : Grows last new more
  pub told : Adds f old g new (a ∷ [])
  pub whole : Adds f old g (with_more last more) (a ∷ [])
  pub none : old ≡ None → last ≡ None

stays_none : {X : Type 0} (a b c : Option (List X)) (xs ys : List X) → Grows a b xs → Grows b c ys → a ≡ None → c ≡ None
stays_none None None c xs ys ab bc e = bc
stays_none None (Some l) c xs ys ab bc e = absurd (let clash : Some l ≡ None = ab in cc)
stays_none (Some l) b c xs ys ab bc e = absurd (let clash : Some l ≡ None = e in cc)

heard_after : (f g : Framing) (old settled last new : Option (List StreamCall)) (c : StreamCall) (to : List ℕ) (r : Received) (mid : Framing)
    → Adds f old mid settled [] → Grows settled last (c ∷ []) → (old ≡ None → last ≡ None) → IsHeard mid c last g new to r
    → AfterPoll f g old last new (received_by {E = Unit {0}} (Ok r) to)
heard_after f g old settled last new c to r mid first told none h =
    let more = calls_in h.happened in
    let a = received_by {E = Unit {0}} (Ok r) to in
    let virtual : IsHeard mid c last g (with_more last more) to r =
    record { mid = h.mid; call = h.call; happened = h.happened; happen = h.happen; told = grows_with last more; by = h.by } in
    record {
      more = more;
      closes = heard_closes mid c h.mid h.happened g to r h.by;
      grown = h.told;
      told = adds_then f mid g old settled new [] (a ∷ []) first (heard_adds mid g settled last new c to r told h);
      whole = adds_then f mid g old settled (with_more last more) [] (a ∷ []) first (heard_adds mid g settled last (with_more last more) c to r told virtual);
      none = none;
    }

failed_adds : (f mid g : Framing) (old settled new : Option (List StreamCall)) → Adds f old mid settled [] → mid.ready ≡ None → g ≡ mid → Grows settled new (call.Failed ∷ [])
    → Adds f old g new (Failed ∷ [])
failed_adds f mid g old settled new first e s grows =
    let failed : Step mid g (call.Failed ∷ []) (Failed ∷ []) = λ h xs t. failed_tells (length mid.lines) mid g h xs t e s in
    adds_then f mid g old settled new [] (Failed ∷ []) first (step_adds mid g settled new (call.Failed ∷ []) (Failed ∷ []) failed grows)

pub after_poll : {E : Type 0} (f g : Framing) (old new last : Option (List StreamCall)) (to : List ℕ) (result : Result Received E) → Polls f old g new last to result
    → AfterPoll f g old last new (received_by result to)
after_poll f g old new last to (Ok r) p =
    let first = given_none f p.mid old p.settled p.nothing.happened p.held p.nothing.happen p.nothing.told p.nothing.by in
    heard_after f g old p.settled last new p.call to r p.mid first.0 p.told (stays_none old p.settled last (calls_in p.nothing.happened) (p.call ∷ []) p.nothing.told p.told) p.by
after_poll f g old new last to (Err e) p =
    let first = given_none f p.mid old p.settled p.nothing.happened p.held p.nothing.happen p.nothing.told p.nothing.by in
    let polled : Grows p.settled last (call.Failed ∷ []) = subst (λ c. Grows p.settled last (c ∷ [])) p.by.0 p.told in
    let all : Grows p.settled (with_more last []) (call.Failed ∷ []) = grows_then p.settled last (with_more last []) (call.Failed ∷ []) [] polled (grows_with last []) in
    record {
      more = [];
      closes = tt;
      grown = subst (λ n. Grows last n []) (sym p.by.2) (told_none last);
      told = failed_adds f p.mid g old p.settled new first.0 p.nothing.by.0 p.by.1 (subst (λ n. Grows p.settled n (call.Failed ∷ [])) (sym p.by.2) polled);
      whole = failed_adds f p.mid g old p.settled (with_more last []) first.0 p.nothing.by.0 p.by.1 all;
      none = stays_none old p.settled last (calls_in p.nothing.happened) (p.call ∷ []) p.nothing.told p.told;
    }

-- a stream is closed, and nothing is received by that
pub shut_adds : (f g : Framing) (old new : Option (List StreamCall)) (port : ℕ) → g ≡ ended port f → Grows old new (call.Closed port ∷ []) → Adds f old g new []
shut_adds f g old new port e s = step_adds f g old new (call.Closed port ∷ []) []
    (λ h xs t. no_more (length f.lines) g (then_heard (length f.lines) h (call.Closed port)) xs (closed_tells (length f.lines) f g h xs port t e)) s

-- ---- a link that is made

first_agrees : (ports : ℕ) (f : Framing) → f.lines ≡ replicate ports fresh_line → f.ready ≡ None → Agrees f (heard (length f.lines) [])
first_agrees ports f e n =
    let is : (port : ℕ) (line : Incoming) → slice_get f.lines port ≡ Some line → fresh_line ≡ line =
    λ port line there.
    let found : slice_get (replicate ports fresh_line) port ≡ Some line = ap (λ xs. slice_get xs port) (sym e) ∙ there in
    let within : port < length (replicate ports fresh_line) = slice_get_within (replicate ports fresh_line) port line found in
    let below : port < ports = omega (arith, within, length-replicate ports fresh_line) in
    sym (get_or-replicate ports port fresh_line fresh_line below) ∙ get_or_from_slice_get (replicate ports fresh_line) port line fresh_line found in
    record {
      left = λ port line there. is port line there ∙ sym (ap (λ o. settled (is_ready o port) line) n);
      room = λ port line there e. subst (λ l. length (kept l) < 20480) (is port line there) (omega arith);
      fits = (let none : standing f ≡ [] = ap (standing_in f.lines) n in ap (λ s. given [] s ++ s) none);
    }

-- nothing was asked of its streams
pub first_told : (ports : ℕ) (f : Framing) (calls : Option (List StreamCall)) → f.lines ≡ replicate ports fresh_line → f.ready ≡ None → IsNothing calls → AgreesTold f calls
first_told ports f None e n i = never_told f
first_told ports f (Some cs) e n i = λ ds x.
    let same : [] ≡ ds = sym i ∙ (let o : Some cs ≡ Some ds = x in cc) in
    subst (λ q. Agrees f (heard (length f.lines) q)) same (first_agrees ports f e n)
