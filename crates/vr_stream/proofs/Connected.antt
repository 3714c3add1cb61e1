-- The messages of each connection, one happening after another.
use Rattle.std.proofs.Common.{subst, ◌≡◌, ◌≢◌, ◌∙◌, ◌<◌, ℕ, List, [], ◌∷◌, ◌++◌, Bool, true, false, nat_eq, if◌then◌else◌, length, slice_get, slice_set, replicate, Option, Some, None, refl, ap, sym, inl, inr, arith}
use Rattle.std.specs.List.{flat_map}
use Rattle.std.proofs.lemmas.Grind.{flat_map-append}
use Rattle.std.proofs.lemmas.List.{append_assoc, get_or-replicate, get_or-set_other, get_or-set_same, length-replicate, length-set}
use Rattle.std.proofs.lemmas.Option.{get_or_from_slice_get, slice_get-get_or, slice_get_within}
use Rattle.std.specs.List.{slice_index_or}
use Rattle.vr_edge.specs.declared.streams.Piece.{Piece}
use Rattle.vr_edge.specs.declared.streams.StreamCall.TheVariants as call
use Rattle.vr_stream.proofs.Fronts.{broken_none, short_none}
use Rattle.vr_stream.proofs.Looked.{short_room}
use Rattle.vr_stream.specs.Connections.{Connection, ConnectionsAreCut, IsCut, closed, connection, first_connection, first_framing, then_at, with_bytes, with_message}
use Rattle.vr_stream.specs.Cutting.{BeginsNone, EachIsMessage}
use Rattle.vr_stream.specs.Framing.{Call, Comes, Framing, Gave, Gives, Happen, Occurrence, Happens, IsSettled, Settled, Settles, ended, over_at}
use Rattle.vr_stream.specs.Lines.{fresh_line, kept}
use Rattle.vr_stream.specs.declared.line.Incoming.{Incoming}

append_nil : (xs : List ℕ) → xs ++ [] ≡ xs
append_nil [] = refl
append_nil (x ∷ xs) = ap (λ ys. x ∷ ys) (append_nil xs)

each_append : (xs ys : List (List ℕ)) → EachIsMessage xs → EachIsMessage ys → EachIsMessage (xs ++ ys)
each_append [] ys a b = b
each_append (x ∷ xs) ys a b = (a.0, each_append xs ys a.1 b)

-- what is kept of a connection at a port
record Holds (port : ℕ) (ready : Option ℕ) (line : Incoming) (c : Connection) : Type 0 where
  over : line.over ≡ c.over
  bytes : flat_map (λ m. m) c.given ++ line.deframer ≡ c.bytes
  each : EachIsMessage c.given
  still : (ready ≡ Some port → ⊥) → IsSettled line

abbrev AllHold : Framing → (ℕ → Connection) → Type 0
AllHold f cs = (port : ℕ) (line : Incoming) → slice_get f.lines port ≡ Some line → Holds port f.ready line (cs port)

-- a line is put at a port
put : (f : Framing) (cs : ℕ → Connection) (at : ℕ) (x : Incoming) (ready : Option ℕ) (up : Connection → Connection)
    → AllHold f cs → Holds at ready x (up (cs at)) → ((port : ℕ) → (ready ≡ Some port → ⊥) → f.ready ≡ Some port → at ≡ port)
    → AllHold (record { lines = slice_set f.lines at x; ready = ready }) (λ port. if nat_eq at port then up (cs port) else cs port)
put f cs at x ready up all here others = λ port line there.
    let within : port < length (slice_set f.lines at x) = slice_get_within (slice_set f.lines at x) port line there in
    let below : port < length f.lines = omega (arith, within, length-set f.lines at x) in
    let cases : (b : Bool) → nat_eq at port ≡ b → Holds port ready line (if b then up (cs port) else cs port) =
    elim [
      | true ↦ λ e.
          let same : at ≡ port = grind (arith, e) in
          let lower : at < length f.lines = omega (arith, below, same) in
          let is : x ≡ line =
          sym (get_or-set_same f.lines at x x lower) ∙ ap (λ r. slice_index_or (slice_set f.lines at x) r x) same
          ∙ get_or_from_slice_get (slice_set f.lines at x) port line x there in
          subst (λ r. Holds r ready line (up (cs r))) same (subst (λ l. Holds at ready l (up (cs at))) is here)
      | false ↦ λ e.
          let other : port ≢ at = grind (arith, e) in
          let old : slice_get f.lines port ≡ Some line =
          slice_get-get_or f.lines port x below
          ∙ ap Some (sym (get_or-set_other f.lines at port x x other) ∙ get_or_from_slice_get (slice_set f.lines at x) port line x there) in
          let h = all port line old in
          record { over = h.over; bytes = h.bytes; each = h.each; still = λ n. h.still (λ r. absurd (other (sym (others port n r)))) }
    ] in
    cases (nat_eq at port) refl

-- nothing is put where there is no port
put_nowhere : (f : Framing) (cs : ℕ → Connection) (at : ℕ) (up : Connection → Connection) → AllHold f cs → slice_get f.lines at ≡ None
    → AllHold f (λ port. if nat_eq at port then up (cs port) else cs port)
put_nowhere f cs at up all none = λ port line there.
    let cases : (b : Bool) → nat_eq at port ≡ b → Holds port f.ready line (if b then up (cs port) else cs port) =
    elim [
      | true ↦ λ e.
          let same : at ≡ port = grind (arith, e) in
          absurd (let clash : Some line ≡ None = sym there ∙ (ap (slice_get f.lines) (sym same) ∙ none) in cc)
      | false ↦ λ e. all port line there
    ] in
    cases (nat_eq at port) refl

settled_over : (line : Incoming) → IsSettled line → IsSettled (record line { over = true })
settled_over line (inl s) = inl s
settled_over line (inr (o, f, b)) = inr (refl, f, b)

ended_holds : (f : Framing) (cs : ℕ → Connection) (at : ℕ) → AllHold f cs → AllHold (ended at f) (λ port. if nat_eq at port then closed (cs port) else cs port)
ended_holds f cs at all =
    let cases : (o : Option Incoming) → slice_get f.lines at ≡ o → AllHold (over_at at o f) (λ port. if nat_eq at port then closed (cs port) else cs port) =
    elim [
      | None ↦ λ e. put_nowhere f cs at closed all e
      | Some l ↦ λ e.
          let h = all at l e in
          put f cs at (record l { over = true }) f.ready closed all
          (record { over = refl; bytes = h.bytes; each = h.each; still = λ n. settled_over l (h.still n) }) (λ port n r. absurd (n r))
    ] in
    cases (slice_get f.lines at) refl

open_room : (line : Incoming) → line.over ≡ false → IsSettled line → length line.deframer < 20480
open_room line e (inl s) = short_room line.deframer s
open_room line e (inr (o, f, b)) = absurd (let clash : false ≡ true = sym e ∙ o in cc)

settled_room : (line : Incoming) → IsSettled line → length (kept line) < 20480
settled_room line s =
    let cases : (b : Bool) → line.over ≡ b → length (if b then [] else line.deframer) < 20480 =
    elim [
      | true ↦ λ e. omega arith
      | false ↦ λ e. open_room line e s
    ] in
    cases line.over refl

-- a line with the bytes that came
with_holds : (port : ℕ) (line : Incoming) (bytes : List ℕ) (c : Connection) (ready : Option ℕ) → Holds port ready line c
    → Holds port (Some port) (record { deframer = kept line ++ bytes; over = false }) (with_bytes bytes c)
with_holds port line bytes c ready h =
    let cases : (b : Bool) → line.over ≡ b → c.over ≡ b
    → Holds port (Some port) (record { deframer = (if b then [] else line.deframer) ++ bytes; over = false })
    (if b then record { bytes = bytes; given = []; over = false } else record { bytes = c.bytes ++ bytes; given = c.given; over = false }) =
    elim [
      | true ↦ λ e k. record { over = refl; bytes = refl; each = tt; still = λ n. absurd (n refl) }
      | false ↦ λ e k. record {
        over = refl;
        bytes = sym (append_assoc (flat_map (λ m. m) c.given) line.deframer bytes) ∙ ap (λ r. r ++ bytes) h.bytes;
        each = h.each;
        still = λ n. absurd (n refl);
      }
    ] in
    let all = cases c.over h.over refl in
    subst (λ b. Holds port (Some port) (record { deframer = (if b then [] else line.deframer) ++ bytes; over = false }) (with_bytes bytes c)) (sym h.over) all

came_holds : (f g : Framing) (cs : ℕ → Connection) (piece : Piece) → AllHold f cs → f.ready ≡ None → Comes piece f (slice_get f.lines piece.port) g
    → AllHold g (λ port. if nat_eq piece.port port then with_bytes piece.bytes (cs port) else cs port)
came_holds f g cs piece all n comes =
    let cases : (o : Option Incoming) → slice_get f.lines piece.port ≡ o → Comes piece f o g
    → AllHold g (λ port. if nat_eq piece.port port then with_bytes piece.bytes (cs port) else cs port) =
    elim [
      | None ↦ λ e c. subst (λ x. AllHold x (λ port. if nat_eq piece.port port then with_bytes piece.bytes (cs port) else cs port)) (sym c) (put_nowhere f cs piece.port (with_bytes piece.bytes) all e)
      | Some l ↦ λ e c.
          let h = all piece.port l e in
          let room = settled_room l (h.still (λ r. absurd (let clash : None ≡ Some piece.port = sym n ∙ r in cc))) in
          subst (λ x. AllHold x (λ port. if nat_eq piece.port port then with_bytes piece.bytes (cs port) else cs port)) (sym (c room))
          (put f cs piece.port (record { deframer = kept l ++ piece.bytes; over = false }) (Some piece.port) (with_bytes piece.bytes) all
          (with_holds piece.port l piece.bytes (cs piece.port) f.ready h) (λ port m r. absurd (let clash : None ≡ Some port = sym n ∙ r in cc)))
    ] in
    cases (slice_get f.lines piece.port) refl comes

gave_holds : (f g : Framing) (cs : ℕ → Connection) (at : ℕ) (message : List ℕ) → AllHold f cs → Gives at message f g
    → AllHold g (λ port. if nat_eq at port then with_message message (cs port) else cs port)
gave_holds f g cs at message all x =
    let h = all at x.line x.stood in
    let given = (cs at).given in
    let bytes : flat_map (λ m. m) (given ++ message ∷ []) ++ x.rest ≡ (cs at).bytes =
    ap (λ r. r ++ x.rest) (flat_map-append (λ m. m) given (message ∷ []))
    ∙ append_assoc (flat_map (λ m. m) given) (message ++ []) x.rest
    ∙ ap (λ r. flat_map (λ m. m) given ++ (r ++ x.rest)) (append_nil message)
    ∙ ap (λ r. flat_map (λ m. m) given ++ r) (sym x.front)
    ∙ h.bytes in
    subst (λ y. AllHold y (λ port. if nat_eq at port then with_message message (cs port) else cs port)) (sym x.gone)
    (put f cs at (record x.line { deframer = x.rest }) f.ready (with_message message) all
    (record { over = h.over; bytes = bytes; each = each_append given (message ∷ []) h.each (x.message, tt); still = λ n. absurd (n x.ready) })
    (λ port n r. absurd (n r)))

settled_holds : (f g : Framing) (cs : ℕ → Connection) → AllHold f cs → Settles f g → AllHold g cs
settled_holds f g cs all x =
    subst (λ y. AllHold y cs) (sym x.gone) (λ port line there.
    let h = all port line there in
    let cases : (o : Option ℕ) → f.ready ≡ o → IsSettled line =
    elim [
      | None ↦ λ e. h.still (λ r. absurd (let clash : None ≡ Some port = sym e ∙ r in cc))
      | Some at ↦ λ e.
          let here : (b : Bool) → nat_eq at port ≡ b → IsSettled line =
          elim [
            | true ↦ λ t. let same : at ≡ port = grind (arith, t) in x.settled port line (e ∙ ap Some same) there
            | false ↦ λ t.
                let other : port ≢ at = grind (arith, t) in
                h.still (λ r. absurd (other (let o : Some port ≡ Some at = sym r ∙ e in cc)))
          ] in
          here (nat_eq at port) refl
    ] in
    record { over = h.over; bytes = h.bytes; each = h.each; still = λ n. cases f.ready refl })

one_holds : (f g : Framing) (h : Occurrence) (cs : ℕ → Connection) → AllHold f cs → Happens f h g → AllHold g (λ port. then_at port (cs port) h)
one_holds f g (Call (call.Came piece)) cs all x = came_holds f g cs piece all x.0 x.1
one_holds f g (Call (call.Ended at)) cs all x = subst (λ y. AllHold y (λ port. if nat_eq at port then closed (cs port) else cs port)) (sym x.1) (ended_holds f cs at all)
one_holds f g (Call (call.Closed at)) cs all x = subst (λ y. AllHold y (λ port. if nat_eq at port then closed (cs port) else cs port)) (sym x) (ended_holds f cs at all)
one_holds f g (Call call.Quiet) cs all x = subst (λ y. AllHold y cs) (sym x.1) all
one_holds f g (Call call.Failed) cs all x = subst (λ y. AllHold y cs) (sym x.1) all
one_holds f g (Gave at message) cs all x = gave_holds f g cs at message all x
one_holds f g Settled cs all x = settled_holds f g cs all x

run_holds : (f g : Framing) (hs : List Occurrence) (cs : ℕ → Connection) → AllHold f cs → Happen f hs g → AllHold g (λ port. connection port (cs port) hs)
run_holds f g [] cs all x = subst (λ y. AllHold y cs) (sym x) all
run_holds f g (h ∷ hs) cs all (mid, one, more) = run_holds mid g hs (λ port. then_at port (cs port) h) (one_holds f mid h cs all one) more

first_holds : (count : ℕ) → AllHold (first_framing count) (λ port. first_connection)
first_holds count = λ port line there.
    let within : port < length (replicate count fresh_line) = slice_get_within (replicate count fresh_line) port line there in
    let below : port < count = omega (arith, within, length-replicate count fresh_line) in
    let is : fresh_line ≡ line =
    sym (get_or-replicate count port fresh_line fresh_line below) ∙ get_or_from_slice_get (replicate count fresh_line) port line fresh_line there in
    subst (λ l. Holds port None l first_connection) is (record { over = refl; bytes = refl; each = tt; still = λ n. inl (inl (omega arith)) })

settled_none : (line : Incoming) → IsSettled line → BeginsNone line.deframer
settled_none line (inl s) = short_none line.deframer s
settled_none line (inr (o, f, b)) = broken_none line.deframer f b

cut_of : (port : ℕ) (ready : Option ℕ) (line : Incoming) (c : Connection) → Holds port ready line c → IsCut port ready line c
cut_of port ready line c h = record {
  all = λ messages rest x. record {
    each = each_append c.given messages h.each x.each;
    joined = ap (λ r. r ++ rest) (flat_map-append (λ m. m) c.given messages)
        ∙ append_assoc (flat_map (λ m. m) c.given) (flat_map (λ m. m) messages) rest
        ∙ ap (λ r. flat_map (λ m. m) c.given ++ r) x.joined
        ∙ h.bytes;
    longest = x.longest;
  };
  still = λ n. record { each = h.each; joined = h.bytes; longest = settled_none line (h.still n) };
}

pub connections_are_cut : ConnectionsAreCut
connections_are_cut count hs f x = λ port line there.
    cut_of port f.ready line (connection port first_connection hs) (run_holds (first_framing count) f hs (λ p. first_connection) (first_holds count) x port line there)
