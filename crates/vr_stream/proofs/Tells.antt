-- What each thing that happens to a link adds to what its receives have given.
use Rattle.std.proofs.Common.{subst, ◌≡◌, ◌≢◌, ◌∙◌, ◌<◌, ◌≤◌, ℕ, List, [], ◌∷◌, ◌++◌, Bool, true, false, nat_eq, nat_lt, if◌then◌else◌, length, map, slice_get, slice_set, Option, Some, None, refl, ap, sym, inl, inr, arith}
use Rattle.std.proofs.lemmas.List.{append_assoc, append-nil, get_or-set_other, get_or-set_same, length-set}
use Rattle.std.proofs.lemmas.Option.{get_or_from_slice_get, slice_get-get_or, slice_get_past, slice_get_within}
use Rattle.std.specs.List.{slice_index_or}
use Rattle.vr_edge.specs.Datagrams.{Arrival, Failed, Nothing}
use Rattle.vr_edge.specs.declared.streams.Piece.{Piece}
use Rattle.vr_edge.specs.declared.streams.StreamCall.TheVariants as call
use Rattle.vr_stream.proofs.Giving.{set_there}
use Rattle.vr_stream.proofs.Looked.{short_room}
use Rattle.vr_stream.proofs.Messages.{next_messages, no_messages, none_short}
use Rattle.vr_stream.specs.Cutting.{first_message, messages, rest_of}
use Rattle.vr_stream.specs.Framers.{IsDamaged}
use Rattle.vr_stream.specs.Framing.{Comes, Framing, Gives, IsSettled, Settles, ended, over_at}
use Rattle.vr_stream.specs.Heard.{Heard, arrivals_of, came_at, cut_at, is_ready, over_at_port, settled, standing, standing_at, standing_in, then_heard, with_arrivals}
use Rattle.vr_stream.specs.Lines.{kept}
use Rattle.vr_stream.specs.declared.line.Incoming.{Incoming}

-- a line, and what is left at its port once nothing stands ready
pub record Holds (ready : Bool) (line now : Incoming) : Type 0 where
  pub left : now ≡ settled ready line
  pub room : ready ≡ false → length (kept line) < 20480

abbrev pub Lines : Option ℕ → List Incoming → (ℕ → Incoming) → Type 0
Lines ready lines left = (port : ℕ) (line : Incoming) → slice_get lines port ≡ Some line → Holds (is_ready ready port) line (left port)

-- a line is put at a port
put : (ready more : Option ℕ) (lines : List Incoming) (left : ℕ → Incoming) (at : ℕ) (x y : Incoming) → Lines ready lines left → Holds (is_ready more at) x y
    → ((port : ℕ) → port ≢ at → is_ready more port ≡ is_ready ready port) → Lines more (slice_set lines at x) (λ port. if nat_eq at port then y else left port)
put ready more lines left at x y all here others = λ port line there.
    let within : port < length (slice_set lines at x) = slice_get_within (slice_set lines at x) port line there in
    let below : port < length lines = omega (arith, within, length-set lines at x) in
    let cases : (b : Bool) → nat_eq at port ≡ b → Holds (is_ready more port) line (if b then y else left port) =
    elim [
      | true ↦ λ e.
          let same : at ≡ port = grind (arith, e) in
          let lower : at < length lines = omega (arith, below, same) in
          let is : x ≡ line =
          sym (get_or-set_same lines at x x lower) ∙ ap (λ r. slice_index_or (slice_set lines at x) r x) same
          ∙ get_or_from_slice_get (slice_set lines at x) port line x there in
          subst (λ r. Holds (is_ready more r) line y) same (subst (λ l. Holds (is_ready more at) l y) is here)
      | false ↦ λ e.
          let other : port ≢ at = grind (arith, e) in
          let old : slice_get lines port ≡ Some line =
          slice_get-get_or lines port x below
          ∙ ap Some (sym (get_or-set_other lines at port x x other) ∙ get_or_from_slice_get (slice_set lines at x) port line x there) in
          subst (λ b. Holds b line (left port)) (sym (others port other)) (all port line old)
    ] in
    cases (nat_eq at port) refl

-- nothing is put where there is no port
put_nowhere : (ready : Option ℕ) (lines : List Incoming) (left : ℕ → Incoming) (at : ℕ) (y : Incoming) → Lines ready lines left → slice_get lines at ≡ None
    → Lines ready lines (λ port. if nat_eq at port then y else left port)
put_nowhere ready lines left at y all none = λ port line there.
    let cases : (b : Bool) → nat_eq at port ≡ b → Holds (is_ready ready port) line (if b then y else left port) =
    elim [
      | true ↦ λ e.
          let same : at ≡ port = grind (arith, e) in
          absurd (let clash : Some line ≡ None = sym there ∙ (ap (slice_get lines) (sym same) ∙ none) in cc)
      | false ↦ λ e. all port line there
    ] in
    cases (nat_eq at port) refl

-- what all receives of a link gave
pub record Tells (ports : ℕ) (f : Framing) (h : Heard) (given : List Arrival) : Type 0 where
  pub count : length f.lines ≡ ports
  pub lines : Lines f.ready f.lines h.left
  pub all : given ++ standing f ≡ h.arrivals

none_stand : (f : Framing) → f.ready ≡ None → standing f ≡ []
none_stand f e = ap (standing_in f.lines) e

-- one arrival more, where nothing stands ready
one_more : (ports : ℕ) (f : Framing) (h : Heard) (given : List Arrival) (a : Arrival) → Tells ports f h given → f.ready ≡ None
    → Tells ports f (with_arrivals (a ∷ []) h) (given ++ a ∷ [])
one_more ports f h given a t e =
    let none = none_stand f e in
    let before : given ≡ h.arrivals = sym (append-nil given) ∙ (ap (λ s. given ++ s) (sym none) ∙ t.all) in
    record {
      count = t.count;
      lines = t.lines;
      all = ap (λ s. (given ++ a ∷ []) ++ s) none ∙ (append-nil (given ++ a ∷ []) ∙ ap (λ s. s ++ a ∷ []) before);
    }

pub quiet_tells : (ports : ℕ) (f g : Framing) (h : Heard) (given : List Arrival) → Tells ports f h given → f.ready ≡ None → g ≡ f
    → Tells ports g (then_heard ports h call.Quiet) (given ++ Nothing ∷ [])
quiet_tells ports f g h given t e s = subst (λ x. Tells ports x (with_arrivals (Nothing ∷ []) h) (given ++ Nothing ∷ [])) (sym s) (one_more ports f h given Nothing t e)

pub failed_tells : (ports : ℕ) (f g : Framing) (h : Heard) (given : List Arrival) → Tells ports f h given → f.ready ≡ None → g ≡ f
    → Tells ports g (then_heard ports h call.Failed) (given ++ Failed ∷ [])
failed_tells ports f g h given t e s = subst (λ x. Tells ports x (with_arrivals (Failed ∷ []) h) (given ++ Failed ∷ [])) (sym s) (one_more ports f h given Failed t e)

set_elsewhere : (xs : List Incoming) (at port : ℕ) (x : Incoming) → port ≢ at → slice_get (slice_set xs at x) port ≡ slice_get xs port
set_elsewhere xs at port x other =
    let by : (b : Bool) → nat_lt port (length xs) ≡ b → slice_get (slice_set xs at x) port ≡ slice_get xs port =
    elim [
      | true ↦ λ t.
          let below : port < length xs = grind (arith, t) in
          slice_get-get_or (slice_set xs at x) port x (omega (arith, below, length-set xs at x))
          ∙ (ap Some (get_or-set_other xs at port x x other) ∙ sym (slice_get-get_or xs port x below))
      | false ↦ λ t.
          let past : length xs ≤ port = grind (arith, t) in
          slice_get_past (slice_set xs at x) port (omega (arith, past, length-set xs at x)) ∙ sym (slice_get_past xs port past)
    ] in
    by (nat_lt port (length xs)) refl

-- a connection that is over keeps what stands ready of it
pub over_stands : (f : Framing) (at : ℕ) (line : Incoming) → slice_get f.lines at ≡ Some line
    → standing_in (slice_set f.lines at (record { deframer = line.deframer; over = true })) f.ready ≡ standing f
over_stands f at line e =
    let x : Incoming = record { deframer = line.deframer; over = true } in
    let cases : (o : Option ℕ) → standing_in (slice_set f.lines at x) o ≡ standing_in f.lines o =
    elim [
      | None ↦ refl
      | Some port ↦
          let here : (b : Bool) → nat_eq at port ≡ b → standing_at port (slice_get (slice_set f.lines at x) port) ≡ standing_at port (slice_get f.lines port) =
          elim [
            | true ↦ λ t.
                let same : at ≡ port = grind (arith, t) in
                subst (λ p. standing_at p (slice_get (slice_set f.lines at x) p) ≡ standing_at p (slice_get f.lines p)) same
                (ap (standing_at at) (set_there f.lines at x line e) ∙ sym (ap (standing_at at) e))
            | false ↦ λ t.
                let other : port ≢ at = grind (arith, t) in
                ap (standing_at port) (set_elsewhere f.lines at port x other)
          ] in
          here (nat_eq at port) refl
    ] in
    cases f.ready

settled_over : (b : Bool) (line left : Incoming) → left ≡ settled b line
    → record { deframer = left.deframer; over = true } ≡ settled b (record { deframer = line.deframer; over = true })
settled_over true line left e = ap (λ (l : Incoming). record { deframer = l.deframer; over = true }) e
settled_over false line left e = ap (λ (l : Incoming). record { deframer = l.deframer; over = true }) e

pub over_tells : (ports : ℕ) (f : Framing) (h : Heard) (given : List Arrival) (at : ℕ) → Tells ports f h given → Tells ports (ended at f) (over_at_port at h) given
over_tells ports f h given at t =
    let cases : (o : Option Incoming) → slice_get f.lines at ≡ o → Tells ports (over_at at o f) (over_at_port at h) given =
    elim [
      | None ↦ λ e. record { count = t.count; lines = put_nowhere f.ready f.lines h.left at (record { deframer = (h.left at).deframer; over = true }) t.lines e; all = t.all }
      | Some line ↦ λ e.
          let x : Incoming = record { deframer = line.deframer; over = true } in
          record {
            count = length-set f.lines at x ∙ t.count;
            lines = put f.ready f.ready f.lines h.left at x (record { deframer = (h.left at).deframer; over = true }) t.lines
                (record { left = settled_over (is_ready f.ready at) line (h.left at) (t.lines at line e).left; room = λ n. omega arith })
                (λ port n. refl);
            all = ap (λ s. given ++ s) (over_stands f at line e) ∙ t.all;
          }
    ] in
    cases (slice_get f.lines at) refl

pub closed_tells : (ports : ℕ) (f g : Framing) (h : Heard) (given : List Arrival) (at : ℕ) → Tells ports f h given → g ≡ ended at f
    → Tells ports g (then_heard ports h (call.Closed at)) given
closed_tells ports f g h given at t s = subst (λ x. Tells ports x (over_at_port at h) given) (sym s) (over_tells ports f h given at t)

ended_ready : (f : Framing) (at : ℕ) (o : Option Incoming) → (over_at at o f).ready ≡ f.ready
ended_ready f at None = refl
ended_ready f at (Some line) = refl

pub ended_tells : (ports : ℕ) (f g : Framing) (h : Heard) (given : List Arrival) (at : ℕ) → Tells ports f h given → f.ready ≡ None → g ≡ ended at f
    → Tells ports g (then_heard ports h (call.Ended at)) (given ++ Nothing ∷ [])
ended_tells ports f g h given at t e s =
    let over = over_tells ports f h given at t in
    subst (λ x. Tells ports x (with_arrivals (Nothing ∷ []) (over_at_port at h)) (given ++ Nothing ∷ [])) (sym s)
    (one_more ports (ended at f) (over_at_port at h) given Nothing over (ended_ready f at (slice_get f.lines at) ∙ e))

-- nothing stands ready at a port where no message begins
none_at : (f : Framing) (at : ℕ) (line : Incoming) → f.ready ≡ Some at → slice_get f.lines at ≡ Some line → first_message line.deframer ≡ None → standing f ≡ []
none_at f at line r there e =
    ap (standing_in f.lines) r ∙ (ap (standing_at at) there ∙ ap (λ ms. map (came_at at) ms) (no_messages line.deframer e).0)

settled_none : (line : Incoming) → IsSettled line → first_message line.deframer ≡ None
settled_none line (inl s) = none_short line.deframer s
settled_none line (inr (o, f, b)) = b.none

open_kept : (line : Incoming) → line.over ≡ false → IsSettled line → length line.deframer < 20480
open_kept line e (inl s) = short_room line.deframer s
open_kept line e (inr (o, f, b)) = absurd (let clash : false ≡ true = sym e ∙ o in cc)

settled_kept : (line : Incoming) → IsSettled line → length (kept line) < 20480
settled_kept line s =
    let cases : (b : Bool) → line.over ≡ b → length (if b then [] else line.deframer) < 20480 =
    elim [
      | true ↦ λ e. omega arith
      | false ↦ λ e. open_kept line e s
    ] in
    cases line.over refl

-- what stood ready at a port is given
pub settles_stand : (f g : Framing) → Settles f g → standing f ≡ []
settles_stand f g s =
    let cases : (o : Option ℕ) → f.ready ≡ o → standing f ≡ [] =
    elim [
      | None ↦ λ e. none_stand f e
      | Some at ↦ λ e.
          let here : (l : Option Incoming) → slice_get f.lines at ≡ l → standing f ≡ [] =
          elim [
            | None ↦ λ n. ap (standing_in f.lines) e ∙ ap (standing_at at) n
            | Some line ↦ λ n. none_at f at line e n (settled_none line (s.settled at line e n))
          ] in
          here (slice_get f.lines at) refl
    ] in
    cases f.ready refl

pub damage_stands : (f : Framing) (at : ℕ) → IsDamaged at f → standing f ≡ []
damage_stands f at d = none_at f at d.line d.ready d.stands d.broken.none

settled_holds : (line left : Incoming) → IsSettled line → Holds true line left → Holds false line left
settled_holds line left s h = record {
  left = h.left ∙ ap (λ (d : List ℕ). record { deframer = d; over = line.over }) (no_messages line.deframer (settled_none line s)).1;
  room = λ n. settled_kept line s;
}

ready_at : (o : Option ℕ) (port : ℕ) → is_ready o port ≡ true → o ≡ Some port
ready_at None port e = absurd (let clash : false ≡ true = e in cc)
ready_at (Some at) port e = let same : at ≡ port = grind (arith, e) in ap Some same

pub settled_tells : (ports : ℕ) (f g : Framing) (h : Heard) (given : List Arrival) → Tells ports f h given → Settles f g → Tells ports g h given
settled_tells ports f g h given t s =
    let none = settles_stand f g s in
    let lines : Lines None f.lines h.left = λ port line there.
    let cases : (b : Bool) → is_ready f.ready port ≡ b → Holds b line (h.left port) → Holds false line (h.left port) =
    elim [
      | true ↦ λ e x. settled_holds line (h.left port) (s.settled port line (ready_at f.ready port e) there) x
      | false ↦ λ e x. x
    ] in
    cases (is_ready f.ready port) refl (t.lines port line there) in
    subst (λ x. Tells ports x h given) (sym s.gone)
    (record { count = t.count; lines = lines; all = ap (λ x. given ++ x) (sym none) ∙ t.all })

-- a message that is given is the first of those that stand ready
pub gives_stand : (f g : Framing) (at : ℕ) (message : List ℕ) → Gives at message f g → standing f ≡ came_at at message ∷ standing g
gives_stand f g at message x =
    let line : Incoming = record { deframer = x.rest; over = x.line.over } in
    let n = next_messages message x.rest x.line.deframer x.message (sym x.front) in
    let before : standing f ≡ map (came_at at) (messages x.line.deframer) = ap (standing_in f.lines) x.ready ∙ ap (standing_at at) x.stood in
    let after : standing g ≡ map (came_at at) (messages x.rest) =
    ap (λ (y : Framing). standing y) x.gone
    ∙ (ap (standing_in (slice_set f.lines at line)) x.ready ∙ ap (standing_at at) (set_there f.lines at line x.line x.stood)) in
    before ∙ (ap (λ ms. map (came_at at) ms) n.0 ∙ ap (λ ms. came_at at message ∷ ms) (sym after))

-- the same at each port
same_left : (b : Bool) (line : Incoming) → (if b then line else line) ≡ line
same_left true line = refl
same_left false line = refl

pub gave_tells : (ports : ℕ) (f g : Framing) (h : Heard) (given : List Arrival) (at : ℕ) (message : List ℕ) → Tells ports f h given → Gives at message f g
    → Tells ports g h (given ++ came_at at message ∷ [])
gave_tells ports f g h given at message t x =
    let line : Incoming = record { deframer = x.rest; over = x.line.over } in
    let n = next_messages message x.rest x.line.deframer x.message (sym x.front) in
    let before = t.lines at x.line x.stood in
    let is : is_ready f.ready at ≡ true = ap (λ o. is_ready o at) x.ready ∙ grind arith in
    let left : h.left at ≡ settled true line =
    before.left ∙ (ap (λ b. settled b x.line) is ∙ ap (λ (d : List ℕ). record { deframer = d; over = x.line.over }) n.1) in
    let one : Holds (is_ready f.ready at) line (h.left at) =
    record { left = left ∙ ap (λ b. settled b line) (sym is); room = λ e. absurd (let clash : true ≡ false = sym is ∙ e in cc) } in
    let put_there = put f.ready f.ready f.lines h.left at line (h.left at) t.lines one (λ port n. refl) in
    let lines : Lines f.ready (slice_set f.lines at line) h.left = λ port l there.
    let cases : (b : Bool) → nat_eq at port ≡ b → (if b then h.left at else h.left port) ≡ h.left port =
    elim [
      | true ↦ λ e. let same : at ≡ port = grind (arith, e) in ap h.left same
      | false ↦ λ e. refl
    ] in
    subst (λ y. Holds (is_ready f.ready port) l y) (cases (nat_eq at port) refl) (put_there port l there) in
    let all : (given ++ came_at at message ∷ []) ++ standing g ≡ h.arrivals =
    append_assoc given (came_at at message ∷ []) (standing g) ∙ (ap (λ s. given ++ s) (sym (gives_stand f g at message x)) ∙ t.all) in
    let next : Framing = record { lines = slice_set f.lines at line; ready = f.ready } in
    let gone : g ≡ next = x.gone in
    subst (λ y. Tells ports y h (given ++ came_at at message ∷ [])) (sym gone)
    (record { count = length-set f.lines at line ∙ t.count; lines = lines; all = ap (λ (y : Framing). (given ++ came_at at message ∷ []) ++ standing y) (sym gone) ∙ all })

-- nothing, where bytes ended no message
abbrev pub silence : List Arrival → List Arrival
silence [] = Nothing ∷ []
silence (a ∷ arrivals) = []

bytes_give : (given before : List Arrival) (at : ℕ) (ms : List (List ℕ)) → given ≡ before
    → (given ++ silence (map (came_at at) ms)) ++ map (came_at at) ms ≡ before ++ arrivals_of at ms
bytes_give given before at [] e = append-nil (given ++ Nothing ∷ []) ∙ ap (λ s. s ++ Nothing ∷ []) e
bytes_give given before at (m ∷ ms) e = ap (λ s. s ++ (came_at at m ∷ map (came_at at) ms)) (append-nil given ∙ e)

came_nowhere : (ports : ℕ) (f : Framing) (h : Heard) (given : List Arrival) (piece : Piece) → Tells ports f h given → f.ready ≡ None → slice_get f.lines piece.port ≡ None
    → Tells ports f (then_heard ports h (call.Came piece)) (given ++ silence (standing f))
came_nowhere ports f h given piece t e none =
    let cases : (b : Bool) → nat_lt piece.port ports ≡ b
    → Tells ports f (if b then cut_at piece.port (kept (h.left piece.port) ++ piece.bytes) h else with_arrivals (Nothing ∷ []) h) (given ++ Nothing ∷ []) =
    elim [
      | true ↦ λ l.
          let below : piece.port < length f.lines = (let n : piece.port < ports = grind (arith, l) in omega (arith, n, t.count)) in
          let some = slice_get-get_or f.lines piece.port (record { deframer = []; over = false }) below in
          absurd (let clash = sym none ∙ some in cc)
      | false ↦ λ l. one_more ports f h given Nothing t e
    ] in
    subst (λ s. Tells ports f (then_heard ports h (call.Came piece)) (given ++ silence s)) (sym (none_stand f e)) (cases (nat_lt piece.port ports) refl)

came_there : (ports : ℕ) (f g : Framing) (h : Heard) (given : List Arrival) (piece : Piece) (line : Incoming) → Tells ports f h given → f.ready ≡ None
    → slice_get f.lines piece.port ≡ Some line
    → g ≡ record { lines = slice_set f.lines piece.port (record { deframer = kept line ++ piece.bytes; over = false }); ready = Some piece.port }
    → Tells ports g (then_heard ports h (call.Came piece)) (given ++ silence (standing g))
came_there ports f g h given piece line t e there s =
    let at = piece.port in
    let bytes = kept line ++ piece.bytes in
    let x : Incoming = record { deframer = bytes; over = false } in
    let y : Incoming = record { deframer = rest_of bytes; over = false } in
    let before = t.lines at line there in
    let is : h.left at ≡ line = before.left ∙ ap (λ o. settled (is_ready o at) line) e in
    let same : kept (h.left at) ++ piece.bytes ≡ bytes = ap (λ l. kept l ++ piece.bytes) is in
    let ready : is_ready (Some at) at ≡ true = grind arith in
    let one : Holds (is_ready (Some at) at) x y =
    record { left = ap (λ b. settled b x) (sym ready); room = λ n. absurd (let clash : true ≡ false = sym ready ∙ n in cc) } in
    let others : (port : ℕ) → port ≢ at → is_ready (Some at) port ≡ is_ready f.ready port =
    λ port n. (let no : nat_eq at port ≡ false = grind (arith, n) in no) ∙ ap (λ o. is_ready o port) (sym e) in
    let lines = put f.ready (Some at) f.lines h.left at x y t.lines one others in
    let next : Framing = record { lines = slice_set f.lines at x; ready = Some at } in
    let stands : standing next ≡ map (came_at at) (messages bytes) = ap (standing_at at) (set_there f.lines at x line there) in
    let was : given ≡ h.arrivals = sym (append-nil given) ∙ (ap (λ q. given ++ q) (sym (none_stand f e)) ∙ t.all) in
    let all : (given ++ silence (standing next)) ++ standing next ≡ h.arrivals ++ arrivals_of at (messages bytes) =
    ap (λ q. (given ++ silence q) ++ q) stands ∙ bytes_give given h.arrivals at (messages bytes) was in
    let cut : Tells ports next (cut_at at bytes h) (given ++ silence (standing next)) =
    record { count = length-set f.lines at x ∙ t.count; lines = lines; all = all } in
    let below : nat_lt at ports ≡ true = (let n = slice_get_within f.lines at line there in let c = t.count in let m : at < ports = omega (arith, n, c) in grind (arith, m)) in
    let heard : then_heard ports h (call.Came piece) ≡ cut_at at bytes h =
    ap (λ b. if b then cut_at at (kept (h.left at) ++ piece.bytes) h else with_arrivals (Nothing ∷ []) h) below ∙ ap (λ q. cut_at at q h) same in
    subst (λ q. Tells ports q (then_heard ports h (call.Came piece)) (given ++ silence (standing q))) (sym s)
    (subst (λ q. Tells ports next q (given ++ silence (standing next))) (sym heard) cut)

pub came_tells : (ports : ℕ) (f g : Framing) (h : Heard) (given : List Arrival) (piece : Piece) → Tells ports f h given → f.ready ≡ None
    → Comes piece f (slice_get f.lines piece.port) g → Tells ports g (then_heard ports h (call.Came piece)) (given ++ silence (standing g))
came_tells ports f g h given piece t e comes =
    let cases : (o : Option Incoming) → slice_get f.lines piece.port ≡ o → Comes piece f o g
    → Tells ports g (then_heard ports h (call.Came piece)) (given ++ silence (standing g)) =
    elim [
      | None ↦ λ n c. subst (λ x. Tells ports x (then_heard ports h (call.Came piece)) (given ++ silence (standing x))) (sym c) (came_nowhere ports f h given piece t e n)
      | Some line ↦ λ n c.
          let room = (t.lines piece.port line n).room (ap (λ o. is_ready o piece.port) e) in
          came_there ports f g h given piece line t e n (c room)
    ] in
    cases (slice_get f.lines piece.port) refl comes
