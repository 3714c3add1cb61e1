-- What the pieces of a run keep, one after another.
use Rattle.std.proofs.Common.{◌≡◌, ◌∙◌, ℕ, List, [], ◌∷◌, Some, Result, Ok, Err, true, ap, inl, refl, subst, sym}
use Rattle.vr_disk.specs.declared.disk.SectorDisk as of_disk
use Rattle.vr_edge.specs.Datagrams.{Arrival}
use Rattle.vr_edge.specs.Told.{Grows}
use Rattle.vr_edge.specs.declared.link.Link as of_link
use Rattle.vr_edge.specs.declared.sink.Sink as of_sink
use Rattle.vr_mail.specs.Letters.{Brings}
use Rattle.vr_mail.specs.declared.receiving.Letter.{Letter}
use Rattle.vr_msg.specs.declared.event.Event.{Event}
use Rattle.vr_serve.specs.Events.{Come, comes_of, event_of}
use Rattle.vr_serve.specs.Runs.{Cut, Passed}
use Rattle.vr_serve.specs.Serving.{Arrives, Handles, Keeps, ending, standing}
use Rattle.vr_serve.specs.declared.member.Member as of_member
use Rattle.vr_serve.specs.declared.objects.Objects.{Objects}
use Rattle.vr_serve.specs.declared.post.Post.{Post}
use Rattle.vr_serve.specs.declared.stop.Stop.{Stop}
use Rattle.vr_serve.specs.declared.stop.Stop.TheVariants as stop
use Rattle.vr_serve.proofs.Cutting.{if_err_then, on_ok_then}
use Rattle.vr_serve.proofs.Ending.{causes_err, causes_later, causes_none, causes_ok, same_stop}
use Rattle.vr_serve.proofs.Running.{passed_none}

-- nothing was done
pub keeps_none : {M D K L T : Type 0} (m : of_member.Ghosts M) (d : of_disk.Ghosts D) (k : of_sink.Ghosts K) (l : of_link.Ghosts L) (o : Objects M D K L) (t : T)
    → m.runs o.member.now ≡ true → Keeps m d k l o o (Ok t)
keeps_none m d k l o t runs = record {
  objects = record { member = refl; disk = refl; sink = refl; link = refl };
  running = runs;
  causes = causes_none (d.faults o.disk.now) (k.faults o.sink.now) (l.faults o.link.now) t;
  attached = refl;
}

-- more was done after an Ok
pub keeps_then : {M D K L S T : Type 0} (m : of_member.Ghosts M) (d : of_disk.Ghosts D) (k : of_sink.Ghosts K) (l : of_link.Ghosts L) (a b c : Objects M D K L)
    (s : S) (result : Result T Stop) → Keeps m d k l a b (Ok s) → Keeps m d k l b c result → Keeps m d k l a c result
keeps_then m d k l a b c s result p q = record {
  objects = record {
    member = q.objects.member ∙ p.objects.member;
    disk = q.objects.disk ∙ p.objects.disk;
    sink = q.objects.sink ∙ p.objects.sink;
    link = q.objects.link ∙ p.objects.link;
  };
  running = q.running;
  causes = causes_later (d.faults a.disk.now) (d.faults b.disk.now) (d.faults c.disk.now) (k.faults a.sink.now) (k.faults b.sink.now) (k.faults c.sink.now)
      (l.faults a.link.now) (l.faults b.link.now) (l.faults c.link.now) result p.causes.disk p.causes.write p.causes.link q.causes;
  attached = q.attached ∙ p.attached;
}

-- an error is handed on
pub keeps_err : {M D K L S T : Type 0} (m : of_member.Ghosts M) (d : of_disk.Ghosts D) (k : of_sink.Ghosts K) (l : of_link.Ghosts L) (a b : Objects M D K L) (why : Stop)
    → Keeps {T = S} m d k l a b (Err why) → Keeps {T = T} m d k l a b (Err why)
keeps_err m d k l a b why p = record { objects = p.objects; running = tt; causes = causes_err why p.causes; attached = p.attached }

-- another value is given
pub keeps_ok : {M D K L S T : Type 0} (m : of_member.Ghosts M) (d : of_disk.Ghosts D) (k : of_sink.Ghosts K) (l : of_link.Ghosts L) (a b : Objects M D K L)
    (s : S) (t : T) → Keeps m d k l a b (Ok s) → Keeps m d k l a b (Ok t)
keeps_ok m d k l a b s t p = record { objects = p.objects; running = p.running; causes = causes_ok s t p.causes; attached = p.attached }

-- an error of the link is one whatever else the call gives
pub stop_linked : {S T : Type 0} (why : Stop) (P : Type 0) → (◌≡◌ {A = Result S Stop} (Err why) (Err stop.Link) → P) → ◌≡◌ {A = Result T Stop} (Err why) (Err stop.Link) → P
stop_linked why P f e = f (ap (λ s. Err s) (same_stop why stop.Link e))

-- no event came
pub handles_none : {M D K L T : Type 0} (m : of_member.Ghosts M) (d : of_disk.Ghosts D) (k : of_sink.Ghosts K) (l : of_link.Ghosts L) (o : Objects M D K L) (post : Post)
    (comes : List Come) (t : T) → comes ≡ [] → m.runs o.member.now ≡ true → Handles m d k l o o post post comes (Ok t)
handles_none m d k l o post comes t none runs = record {
  kept = keeps_none m d k l o t runs;
  received = refl;
  unlinked = λ e. cc;
  passed = subst (λ x. Passed m.does (standing m d k l o post) (standing m d k l o post) x) (sym none)
      (passed_none m.does (standing m d k l o post) post.number post.clients.items refl refl);
  cut = tt;
}

-- the same events, and another number given
pub handles_ok : {M D K L S T : Type 0} (m : of_member.Ghosts M) (d : of_disk.Ghosts D) (k : of_sink.Ghosts K) (l : of_link.Ghosts L) (a b : Objects M D K L) (p q : Post)
    (comes due : List Come) (s : S) (t : T) → due ≡ comes → Handles m d k l a b p q comes (Ok s) → Handles m d k l a b p q due (Ok t)
handles_ok m d k l a b p q comes due s t same h = record {
  kept = keeps_ok m d k l a b s t h.kept;
  received = h.received;
  unlinked = λ e. cc;
  passed = subst (λ x. Passed m.does (standing m d k l a p) (standing m d k l b q) x) (sym same) h.passed;
  cut = tt;
}

pub handles_err : {M D K L S T : Type 0} (m : of_member.Ghosts M) (d : of_disk.Ghosts D) (k : of_sink.Ghosts K) (l : of_link.Ghosts L) (a b : Objects M D K L) (p q : Post)
    (comes due : List Come) (why : Stop) → due ≡ comes → Handles {T = S} m d k l a b p q comes (Err why) → Handles {T = T} m d k l a b p q due (Err why)
handles_err m d k l a b p q comes due why same h = record {
  kept = keeps_err m d k l a b why h.kept;
  received = h.received;
  unlinked = stop_linked why _ h.unlinked;
  passed = tt;
  cut = subst (λ x. Cut m.does m.halts (standing m d k l a p) [] x (ending d k l b why)) (sym same) h.cut;
}

-- a letter came, and its event was handled
pub arrives_some : {M D K L : Type 0} (m : of_member.Ghosts M) (d : of_disk.Ghosts D) (k : of_sink.Ghosts K) (l : of_link.Ghosts L) {version cluster : ℕ}
    {o mid o' : Objects M D K L} {post begun post' : Post} (arrival : Arrival) (letter : Letter) {event : Event} {result : Result (Unit {0}) Stop}
    → Handles m d k l mid o' begun post' (record { port = letter.port; event = event } ∷ []) result → event ≡ event_of letter.message
    → Grows (l.received o.link.now) (l.received mid.link.now) (arrival ∷ []) → Brings version cluster arrival (Some letter)
    → standing m d k l mid begun ≡ standing m d k l o post → Keeps {T = Unit {0}} m d k l o mid (Ok tt) → Arrives m d k l version cluster o o' post post' result
arrives_some m d k l {version} {cluster} {o} {mid} {o'} {post} {begun} {post'} arrival letter {event} {result} h is grown brought same kept =
    let grown' : Grows (l.received o.link.now) (l.received o'.link.now) (arrival ∷ []) = subst (λ got. Grows (l.received o.link.now) got (arrival ∷ [])) (sym h.received) grown in
    let came : record { port = letter.port; event = event } ∷ [] ≡ comes_of (Some letter) = ap (λ (e : Event). record { port = letter.port; event = e } ∷ []) is in
    record {
      kept = keeps_then m d k l o mid o' tt result kept h.kept;
      linked = λ e. absurd (h.unlinked e);
      passed = on_ok_then result _ _ (λ p. (
        arrival,
        Some letter,
        grown',
        brought,
        subst (λ a. Passed m.does a (standing m d k l o' post') (comes_of (Some letter))) same (subst (λ x. Passed m.does (standing m d k l mid begun) (standing m d k l o' post') x) came p),
      )) h.passed;
      cut = if_err_then result _ _ (λ why p. (
        arrival,
        Some letter,
        grown',
        inl brought,
        subst (λ a. Cut m.does m.halts a [] (comes_of (Some letter)) (ending d k l o' why)) same
            (subst (λ x. Cut m.does m.halts (standing m d k l mid begun) [] x (ending d k l o' why)) came p),
      )) h.cut;
    }
