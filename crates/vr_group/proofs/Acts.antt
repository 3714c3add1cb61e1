-- One of the members acts.
use Rattle.std.proofs.Common.{ℕ, ◌+◌, ◌%◌, ◌<◌, ◌≤◌, ◌≡◌, arith, refl, sym, subst, map, ap, ◌∙◌, List, [], ◌∷◌, ◌++◌, length, get_or, Option, Some, None, Result, Ok, Err}
use Rattle.std.specs.Prelude.{OnOk, slice_get, slice_set}
use Rattle.std.specs.List.{range_with_len}
use Rattle.std.specs.Option.{option_map_or}
use Rattle.std.proofs.lemmas.List.FromFn.{map-range_with_len_more}
use Rattle.std.proofs.lemmas.List.{append-nil}
use Rattle.std.proofs.Math.Nat.{mod-lt}
use Rattle.std.proofs.lemmas.Option.{slice_get_past, slice_get-get_or}
use Rattle.vr_base.specs.declared.kind.Kind.{Kind}
use Rattle.vr_base.specs.declared.memory.NoMemory.{NoMemory}
use Rattle.vr_msg.specs.declared.event.Event.{Event}
use Rattle.vr_msg.specs.declared.event.Event.TheVariants as event
use Rattle.vr_msg.specs.declared.output.Output.{Output}
use Rattle.vr_msg.specs.declared.output.Sent.{Sent}
use Rattle.vr_world.specs.Lying.{Lying, hazards}
use Rattle.vr_world.specs.World.{Acted, Arrives, Begins, Happened, Host, World, at_member, delivered, fresh_host, fresh_world, handles, happens, nothing, with_member}
use Rattle.vr_rules.specs.Outputs.{messages}
use Rattle.vr_group.specs.Group.{HasHappened}
use Rattle.vr_group.specs.Hosts.{HasActed, HaveActed, acted_at}
use Rattle.vr_group.specs.Outputs.{numbered, text_of}
use Rattle.vr_group.proofs.Numbering.{text_same}

abbrev pub Act : Type 0
Act = ℕ → Host Lying → Acted Lying

abbrev pub alone : List (Host Lying) → World Lying
alone ms = record { n = 0; members = ms; sent = [] }

there_is : (act : Act) (ms : List (Host Lying)) (at : ℕ) (m : Host Lying) → slice_get ms at ≡ Some m → acted_at ms at act ≡ with_member (alone ms) at (act at m)
unfolding at_member
there_is act ms at m e = ap (λ o. option_map_or (λ (m : Host Lying). with_member (alone ms) at (act at m)) o (nothing (alone ms))) e

none_is : (act : Act) (ms : List (Host Lying)) (at : ℕ) → slice_get ms at ≡ None → acted_at ms at act ≡ nothing (alone ms)
unfolding at_member
none_is act ms at e = ap (λ o. option_map_or (λ (m : Host Lying). with_member (alone ms) at (act at m)) o (nothing (alone ms))) e

pub acted_there : (act : Act) (ms : List (Host Lying)) (at : ℕ) (m new : Host Lying) (out : List Output) → at < length ms → m ≡ get_or ms at m → HasActed (act at m) new out → HaveActed act ms (slice_set ms at new) at out
acted_there act ms at m new out within is h =
    let x = there_is act ms at m (slice_get-get_or ms at m within ∙ ap Some (sym is)) in
    record { members = ap (slice_set ms at) h.member ∙ sym (ap (λ (h : Happened Lying). h.world.members) x); outputs = h.outputs ∙ sym (ap (λ (h : Happened Lying). h.outputs) x) }

pub acted_past : (act : Act) (ms : List (Host Lying)) (at : ℕ) (out : List Output) → length ms ≤ at → out ≡ [] → HaveActed act ms ms at out
acted_past act ms at out past none =
    let x = none_is act ms at (slice_get_past ms at past) in
    record { members = sym (ap (λ (h : Happened Lying). h.world.members) x); outputs = none ∙ sym (ap (λ (h : Happened Lying). h.outputs) x) }

pub acted_ok : (act : Act) (ms : List (Host Lying)) (at : ℕ) (m new : Host Lying) (out : List Output) (result : Result (Unit {0}) NoMemory) → at < length ms → m ≡ get_or ms at m → OnOk result (HasActed (act at m) new out)
    → OnOk result (HaveActed act ms (slice_set ms at new) at out)
acted_ok act ms at m new out (Ok x) within is h = acted_there act ms at m new out within is h
acted_ok act ms at m new out (Err e) within is h = tt

-- ---- in a group

abbrev left_by : World Lying → List (Host Lying) → List Output → Happened Lying
left_by w ms out = record { world = record { n = w.n; members = ms; sent = w.sent ++ messages out }; outputs = out }

joined_as : (w : World Lying) (index : ℕ) (act : Act) (ms : List (Host Lying)) (out : List Output) (o : Option (Host Lying))
    → ms ≡ (option_map_or (λ (m : Host Lying). with_member (alone w.members) index (act index m)) o (nothing (alone w.members))).world.members
    → out ≡ (option_map_or (λ (m : Host Lying). with_member (alone w.members) index (act index m)) o (nothing (alone w.members))).outputs
    → option_map_or (λ (m : Host Lying). with_member w index (act index m)) o (nothing w) ≡ left_by w ms out
unfolding messages
joined_as w index act ms out (Some m) e k = sym (ap (λ ms. left_by w ms out) e ∙ ap (left_by w (slice_set w.members index (act index m).member)) k)
joined_as w index act ms out None e k =
    let same : nothing w ≡ left_by w w.members [] = ap (λ sent. let h : Happened Lying = record { world = record { n = w.n; members = w.members; sent = sent }; outputs = [] } in h) (sym (append-nil w.sent)) in
    same ∙ sym (ap (λ ms. left_by w ms out) e ∙ ap (left_by w w.members) k)

joined : (w : World Lying) (index : ℕ) (act : Act) (ms : List (Host Lying)) (out : List Output) → HaveActed act w.members ms index out → at_member w index act ≡ left_by w ms out
unfolding at_member
joined w index act ms out h = joined_as w index act ms out (slice_get w.members index) h.members h.outputs

-- what was put out is kept and numbered
pub happened : (w : World Lying) (index : ℕ) (act : Act) (ms : List (Host Lying)) (out : List Output) (before : List ℕ) → HaveActed act w.members ms index out
    → HasHappened (at_member w index act) w (record { n = w.n; members = ms; sent = w.sent ++ messages out }) out before (before ++ text_of (numbered (length w.sent) out))
happened w index act ms out before h =
    let e = sym (joined w index act ms out h) in
    record {
      world = ap (λ (h : Happened Lying). h.world) e;
      outputs = ap (λ (h : Happened Lying). h.outputs) e;
      text = ap (λ (h : Happened Lying). before ++ text_of (numbered (length w.sent) h.outputs)) e;
    }

pub happened_as : (w : World Lying) (index : ℕ) (act : Act) (ms : List (Host Lying)) (sent : List Sent) (out : List Output) (before now : List ℕ) → HaveActed act w.members ms index out
    → sent ≡ w.sent ++ messages out → now ≡ before ++ text_of (numbered (length w.sent) out) → HasHappened (at_member w index act) w (record { n = w.n; members = ms; sent = sent }) out before now
happened_as w index act ms sent out before now h e k = rw (e, k) (happened w index act ms out before h)

-- nothing was put out
pub nothing_happened : (w : World Lying) (before : List ℕ) → HasHappened (nothing w) w w [] before before
nothing_happened w before = record { world = refl; outputs = refl; text = text_same (length w.sent) before }

-- ---- lines

pub delivered_there : (w new : World Lying) (at : ℕ) (s : Sent) (out : List Output) (before now : List ℕ) → slice_get w.sent at ≡ Some s → HasHappened (at_member w s.to (handles hazards (event.Deliver s.message))) w new out before now
    → HasHappened (delivered hazards w (slice_get w.sent at)) w new out before now
delivered_there w new at s out before now e h = subst (λ o. HasHappened (delivered hazards w o) w new out before now) (sym e) h

pub delivered_none : (w : World Lying) (at : ℕ) (before : List ℕ) → slice_get w.sent at ≡ None → HasHappened (delivered hazards w (slice_get w.sent at)) w w [] before before
delivered_none w at before e = subst (λ o. HasHappened (delivered hazards w o) w w [] before before) (sym e) (nothing_happened w before)

pub deliver_nothing : (w : World Lying) (number : ℕ) (out : List Output) (before : List ℕ) → length w.sent ≡ 0 → out ≡ [] → HasHappened (happens hazards w (Arrives number)) w w out before before
deliver_nothing w number out before e none = rw none (delivered_none w (number % length w.sent) before (slice_get_past w.sent (number % length w.sent) (omega (arith, e))))

pub begun : (w new : World Lying) (kind : Kind) (n : ℕ) (out : List Output) (before : List ℕ) → new ≡ fresh_world hazards kind n → out ≡ [] → HasHappened (happens hazards w (Begins kind n)) w new out before before
begun w new kind n out before e none = record { world = e; outputs = none; text = text_same (length w.sent) before }

-- ---- a new group

pub hosts_more : (kind : Kind) (n k : ℕ) (hs : List (Host Lying)) (h : Host Lying) → hs ≡ map (fresh_host hazards kind n) (range_with_len 0 k) → h ≡ fresh_host hazards kind n k
    → hs ++ h ∷ [] ≡ map (fresh_host hazards kind n) (range_with_len 0 (k + 1))
hosts_more kind n k hs h e f = rw (e, f) (sym (map-range_with_len_more (fresh_host hazards kind n) 0 k k (omega arith)))

delivered_to : (w : World Lying) (at : ℕ) (s : Sent) (ms : List (Host Lying)) (sent : List Sent) (out : List Output) (before now : List ℕ) → slice_get w.sent at ≡ Some s
    → HaveActed (handles hazards (event.Deliver s.message)) w.members ms s.to out → sent ≡ w.sent ++ messages out → now ≡ before ++ text_of (numbered (length w.sent) out)
    → HasHappened (delivered hazards w (slice_get w.sent at)) w (record { n = w.n; members = ms; sent = sent }) out before now
delivered_to w at s ms sent out before now there h i j =
    delivered_there w (record { n = w.n; members = ms; sent = sent }) at s out before now there (happened_as w s.to (handles hazards (event.Deliver s.message)) ms sent out before now h i j)

-- the message of a number, counted from the front again past the last
pub letter_delivered : (w : World Lying) (number count to : ℕ) (e : Event) (s : Sent) (ms : List (Host Lying)) (sent : List Sent) (out : List Output) (before now : List ℕ) → count ≡ length w.sent → 0 < count → s ≡ get_or w.sent (number % count) s → to ≡ s.to → e ≡ event.Deliver s.message
    → HaveActed (handles hazards e) w.members ms to out → sent ≡ w.sent ++ messages out → now ≡ before ++ text_of (numbered (length w.sent) out)
    → HasHappened (happens hazards w (Arrives number)) w (record { n = w.n; members = ms; sent = sent }) out before now
letter_delivered w number count to e s ms sent out before now size some is there told h i j =
    let less = mod-lt number some in
    let within : number % count < length w.sent = omega (arith, size, less) in
    let found : slice_get w.sent (number % length w.sent) ≡ Some s = ap (λ k. slice_get w.sent (number % k)) (sym size) ∙ (slice_get-get_or w.sent (number % count) s within ∙ ap Some (sym is)) in
    let acted : HaveActed (handles hazards (event.Deliver s.message)) w.members ms s.to out = subst (λ (e : Event). HaveActed (handles hazards e) w.members ms s.to out) told (subst (λ at. HaveActed (handles hazards e) w.members ms at out) there h) in
    delivered_to w (number % length w.sent) s ms sent out before now found acted i j
