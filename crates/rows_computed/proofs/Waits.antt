-- An acknowledged entry isn't denied: the worlds that the lines of that row come through.
use Rattle.std.proofs.Common.{ℕ, ◌≡◌, refl, ap, List, [], ◌∷◌, ◌++◌, map, Option, Some, None}
use Rattle.std.specs.Option.{option_map_or}
use Rattle.vr_base.specs.declared.mode.Mode.TheVariants.{Strict}
use Rattle.vr_msg.specs.declared.event.Event.TheVariants as event
use Rattle.vr_msg.specs.declared.output.Sent.{Sent}
use Rattle.vr_lie.specs.declared.fault.Fault.TheVariants.{Damage}
use Rattle.vr_rules.specs.Replica.{Replica}
use Rattle.vr_rules.specs.Outputs.{do_view_change, messages, send, start_view_change, wait_line}
use Rattle.vr_rules.specs.Steps.{Effect, Say, Step, after_all, outputs}
use Rattle.vr_rules.specs.Rules.{react}
use Rattle.vr_rules.specs.Opening.{blank, opened}
use Rattle.vr_world.specs.Lying.{Lying, hazards, lying}
use Rattle.vr_world.specs.World.{Arrives, Host, Lies, Starts, Stops, Ticks, World, acts, at_member, happens, lied, stays, with_member}
use Rattle.rows_computed.proofs.Changes.{a0, a1, c0, c1, c1e, changes_0, changes_2, chooses, chooses_1, enters_1, enters_2, m0, m1, m2, m3, ticks_4, waiting, waits_1}
use Rattle.rows_computed.proofs.Lines.{host}
use Rattle.rows_computed.proofs.Path.{sent_2}
use Rattle.rows_computed.proofs.Starts.{wakes_0, wakes_1}

-- ---- the worlds

-- a stopped host
abbrev pub off : Lying → Host Lying
off d = record { replica = None; disk = d; fuse = None }

abbrev pub three : Host Lying → Host Lying → Host Lying → List Sent → World Lying
three a b c sent = record { n = 3; members = a ∷ b ∷ c ∷ []; sent = sent }

abbrev pub changes_to : Replica → ℕ → Sent
changes_to r to = record { from = r.index; to = to; message = start_view_change r }

abbrev pub states_to : Replica → Sent
states_to r = record { from = r.index; to = 1; message = do_view_change r }

abbrev pub sent_3 : List Sent
sent_3 = (sent_2 Strict) ++ changes_to m1 0 ∷ changes_to m1 2 ∷ []

abbrev pub sent_4 : List Sent
sent_4 = sent_3 ++ changes_to c1e 0 ∷ changes_to c1e 1 ∷ states_to c1 ∷ []

abbrev pub sent_5 : List Sent
sent_5 = sent_4 ++ changes_to a0 1 ∷ changes_to a0 2 ∷ []

abbrev pub sent_6 : List Sent
sent_6 = sent_5 ++ states_to a1 ∷ []

pub stops_1 : (a c : Host Lying) (r : Replica) (y : Lying) → (happens hazards (three a (host r y) c (sent_2 Strict)) (Stops 1)).world ≡ three a (off y) c (sent_2 Strict)
unfolding at_member messages
stops_1 a c r y = refl

pub lies_1 : (a c : Host Lying) (y g : Lying) (i : ℕ) → hazards.faulted y (Damage i) ≡ Some g → (happens hazards (three a (off y) c (sent_2 Strict)) (Lies 1 (Damage i))).world ≡ three a (off g) c (sent_2 Strict)
unfolding at_member messages
lies_1 a c y g i e = ap (λ (o : Option Lying). (with_member (three a (off y) c (sent_2 Strict)) 1 (lied (off y) o)).world) e

pub wakes_at_1 : (a c : Host Lying) (y : Lying) → opened lying y ≡ Some (record { replica = m0; script = wakes_1 }) → (happens hazards (three a (off y) c (sent_2 Strict)) (Starts 1)).world ≡ three a (host m0 (after_all lying y wakes_1)) c (sent_2 Strict)
unfolding at_member outputs messages blank
wakes_at_1 a c y e = ap (λ (o : Option Step). (with_member (three a (off y) c (sent_2 Strict)) 1 (option_map_or (acts hazards 1 (off y)) o (stays (off y)))).world) e

pub stops_0 : (b c : Host Lying) (r : Replica) (x : Lying) → (happens hazards (three (host r x) b c (sent_2 Strict)) (Stops 0)).world ≡ three (off x) b c (sent_2 Strict)
unfolding at_member messages
stops_0 b c r x = refl

-- a tick that puts out nothing
pub ticks_at_1 : (a c : Host Lying) (r q : Replica) (y : Lying) → react event.Tick lying r y ≡ record { replica = q; script = [] } → (happens hazards (three a (host r y) c (sent_2 Strict)) (Ticks 1)).world ≡ three a (host q y) c (sent_2 Strict)
unfolding at_member outputs messages after_all
ticks_at_1 a c r q y e = ap (λ (s : Step). three a (host s.replica (after_all lying y s.script)) c (sent_2 Strict ++ messages (outputs s.script))) e

pub enters_at_1 : (a c : Host Lying) (y : Lying) → (happens hazards (three a (host (waiting 4) y) c (sent_2 Strict)) (Ticks 1)).world ≡ three a (host m1 (after_all lying y enters_1)) c sent_3
unfolding at_member outputs messages blank
enters_at_1 a c y = ap (λ (s : Step). three a (host s.replica (after_all lying y s.script)) c (sent_2 Strict ++ messages (outputs s.script))) (ticks_4 y)

pub enters_at_2 : (a b : Host Lying) (z : Lying) → (happens hazards (three a b (host c0 z) sent_3) (Arrives 4)).world ≡ three a b (host c1 (after_all lying z enters_2)) sent_4
unfolding at_member outputs messages blank
enters_at_2 a b z = ap (λ (s : Step). three a b (host s.replica (after_all lying z s.script)) (sent_3 ++ messages (outputs s.script))) (changes_2 z)

pub waits_at_1 : (a c : Host Lying) (y : Lying) → (happens hazards (three a (host m1 y) c sent_4) (Arrives 7)).world ≡ three a (host m2 (after_all lying y (map Say (wait_line 1 m2)))) c sent_4
unfolding at_member outputs messages blank
waits_at_1 a c y = ap (λ (s : Step). three a (host s.replica (after_all lying y s.script)) c (sent_4 ++ messages (outputs s.script))) (waits_1 y)

pub wakes_at_0 : (b c : Host Lying) (x : Lying) → opened lying x ≡ Some (record { replica = a0; script = wakes_0 }) → (happens hazards (three (off x) b c sent_4) (Starts 0)).world ≡ three (host a0 (after_all lying x wakes_0)) b c sent_5
unfolding at_member outputs messages blank
wakes_at_0 b c x e = ap (λ (o : Option Step). (with_member (three (off x) b c sent_4) 0 (option_map_or (acts hazards 0 (off x)) o (stays (off x)))).world) e

abbrev pub states_0 : List Effect
states_0 = Say (send 1 (do_view_change a1) a1) ∷ []

pub states_at_0 : (b c : Host Lying) (x : Lying) → (happens hazards (three (host a0 x) b c sent_5) (Arrives 3)).world ≡ three (host a1 (after_all lying x states_0)) b c sent_6
unfolding at_member outputs messages blank
states_at_0 b c x = ap (λ (s : Step). three (host s.replica (after_all lying x s.script)) b c (sent_5 ++ messages (outputs s.script))) (changes_0 x)

abbrev pub sent_7 : Lying → List Sent
sent_7 y = sent_6 ++ messages (outputs (chooses y).script)

pub chooses_at_1 : (a c : Host Lying) (y : Lying) → (happens hazards (three a (host m2 y) c sent_6) (Arrives 10)).world ≡ three a (host m3 (after_all lying y (chooses y).script)) c (sent_7 y)
unfolding at_member blank
chooses_at_1 a c y = ap (λ (r : Replica). three a (host r (after_all lying y (chooses y).script)) c (sent_7 y)) (chooses_1 y)
