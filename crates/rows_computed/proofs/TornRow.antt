-- A torn prepare: what the lines of that row hash, and that the names of it don't collide.
use Rattle.std.proofs.Common.{ℕ, ◌≡◌, arith, inl, inr, refl, sym, ap, subst, false, List, [], ◌∷◌, ◌++◌, drop, Option, Some}
use Rattle.std.specs.Option.{option_map_or}
use Rattle.vr_base.specs.Kinds.{strict}
use Rattle.vr_base.specs.declared.mode.Mode.TheVariants.{Strict}
use Rattle.vr_disk.specs.DiskState.{Face, Fuse, cut}
use Rattle.vr_disk.specs.Sectors.{writes}
use Rattle.vr_header.specs.NoCollision.{NoCollision}
use Rattle.vr_msg.specs.declared.event.Event.{Event}
use Rattle.vr_msg.specs.declared.event.Event.TheVariants as event
use Rattle.vr_msg.specs.declared.output.Sent.{Sent}
use Rattle.vr_rings.specs.Calls.{header_calls, prepare_calls}
use Rattle.vr_rules.specs.Replica.{Replica}
use Rattle.vr_rules.specs.Outputs.{do_view_change, messages, prepare, start_view_change}
use Rattle.vr_rules.specs.Sectors.{script_calls}
use Rattle.vr_rules.specs.Steps.{Step, Write, after_all, outputs}
use Rattle.vr_rules.specs.Rules.{react}
use Rattle.vr_rules.specs.Opening.{blank, opened}
use Rattle.vr_world.specs.Lying.{Lying, cut_calls, hazards, lying}
use Rattle.vr_world.specs.World.{Arrives, AsksInVersion, Fuses, Happening, Host, Starts, Ticks, World, acts, at_member, fresh_world, happens, stays, went_or_halted, with_member}
use Rattle.law_4_disks.specs.Naming.{IsHashedIn}
use Rattle.law_4_disks.specs.Worlds.{IsHashedCut, Work, begun_by, begun_in}
use Rattle.law_6_one_log.specs.Schedules.{IsHashed}
use Rattle.rows_computed.proofs.Changes.{c0, c1, c1e, enters_2}
use Rattle.rows_computed.proofs.Denied.{also, enters_2_one, idle_text, makes_one, start_line_text, step_line, x1, z1}
use Rattle.rows_computed.proofs.Disks.{Plain, plain_all}
use Rattle.rows_computed.proofs.Entries.{first}
use Rattle.rows_computed.proofs.Halted.{IsNear, LeftBlank, cut_text, left_blank, torn}
use Rattle.rows_computed.proofs.Happenings.{registers, torn_prepare}
use Rattle.rows_computed.proofs.Lines.{Hashes, HashesAt, IsText, blank_disk, blank_plain, host, line_text, none_left, root, same_work, then_lines, used_text}
use Rattle.rows_computed.proofs.Names.{IsAny, tells_apart}
use Rattle.rows_computed.proofs.Path.{asks_0, begins, goes_0, quiet_host, sent_1}
use Rattle.rows_computed.proofs.Revived.{changes_next, chooses_none, enters_next, idles, idles_0, idles_1, idles_2, idles_3, idles_4, n1, revives, starts_blank}
use Rattle.rows_computed.proofs.Steps.{b0, b1, makes, p0, p1, step_0, step_1, stores}
use Rattle.rows_computed.proofs.Stored.{one}
use Rattle.rows_computed.proofs.Taken.{first_taken}
use Rattle.rows_computed.proofs.Waits.{off, three}

-- ---- the worlds

-- a fuse that cuts the third call
abbrev third : Fuse
third = record { calls = 2; code = 26 }

abbrev fused_host : Lying → Host Lying
fused_host y = record { replica = Some (b0 Strict); disk = y; fuse = Some third }

abbrev halted_disk : Lying → Lying
halted_disk y = cut_calls 2 26 y (script_calls y.version (stores first (b1 Strict)) y.face)

abbrev sent_3 : List Sent
sent_3 = (sent_1 Strict) ++ record { from = 1; to = 0; message = start_view_change n1 } ∷ record { from = 1; to = 2; message = start_view_change n1 } ∷ []

abbrev sent_4 : List Sent
sent_4 = sent_3 ++ record { from = 2; to = 0; message = start_view_change c1e } ∷ record { from = 2; to = 1; message = start_view_change c1e } ∷ record { from = 2; to = 1; message = do_view_change c1 } ∷ []

fuses_1 : (a c : Host Lying) (y : Lying) → (happens hazards (three a (host (b0 Strict) y) c (sent_1 Strict)) (Fuses 1 2 26)).world ≡ three a (fused_host y) c (sent_1 Strict)
unfolding at_member messages
fuses_1 a c y = refl

-- a file of version 1
abbrev file_of : Face → List (Option (List ℕ)) → Lying
file_of f held = record { face = f; held = held; version = 1 }

halts_1 : (a c : Host Lying) (f : Face) (held : List (Option (List ℕ))) → (happens hazards (three a (fused_host (file_of f held)) c (sent_1 Strict)) (Arrives 0)).world ≡ three a (off (halted_disk (file_of f held))) c (sent_1 Strict)
unfolding at_member messages script_calls prepare_calls header_calls writes
halts_1 a c f held =
    let y = file_of f held in ap (λ (s : Step). (with_member (three a (fused_host y) c (sent_1 Strict)) 1 (went_or_halted hazards 1 (fused_host y) s (Some third))).world) (step_1 Strict y)

torn_is : (halted_disk (blank_disk Strict 1)).face ≡ torn
unfolding cut script_calls prepare_calls writes
torn_is = refl

revives_at_1 : (a c : Host Lying) (y : Lying) → opened lying y ≡ Some (record { replica = (b0 Strict); script = revives }) → (happens hazards (three a (off y) c (sent_1 Strict)) (Starts 1)).world ≡ three a (host (b0 Strict) (after_all lying y revives)) c (sent_1 Strict)
unfolding at_member outputs messages blank
revives_at_1 a c y e = ap (λ (o : Option Step). (with_member (three a (off y) c (sent_1 Strict)) 1 (option_map_or (acts hazards 1 (off y)) o (stays (off y)))).world) e

idles_at_1 : (a c : Host Lying) (r q : Replica) (y : Lying) → react event.Tick lying r y ≡ record { replica = q; script = [] } → (happens hazards (three a (host r y) c (sent_1 Strict)) (Ticks 1)).world ≡ three a (host q y) c (sent_1 Strict)
unfolding at_member outputs messages after_all
idles_at_1 a c r q y e = ap (λ (s : Step). three a (host s.replica (after_all lying y s.script)) c (sent_1 Strict ++ messages (outputs s.script))) e

enters_at_1 : (a c : Host Lying) (y : Lying) → (happens hazards (three a (host (idles 4) y) c (sent_1 Strict)) (Ticks 1)).world ≡ three a (host n1 (after_all lying y enters_next)) c sent_3
unfolding at_member outputs messages blank
enters_at_1 a c y = ap (λ (s : Step). three a (host s.replica (after_all lying y s.script)) c (sent_1 Strict ++ messages (outputs s.script))) (idles_4 y)

enters_at_2 : (a b : Host Lying) (z : Lying) → (happens hazards (three a b (host c0 z) sent_3) (Arrives 3)).world ≡ three a b (host c1 (after_all lying z enters_2)) sent_4
unfolding at_member outputs messages blank
enters_at_2 a b z = ap (λ (s : Step). three a b (host s.replica (after_all lying z s.script)) (sent_3 ++ messages (outputs s.script))) (changes_next z)

-- ---- what is hashed where the fuse cuts

abbrev cut_world : World Lying
cut_world = three (host (p1 Strict) x1) (fused_host (blank_disk Strict 1)) (quiet_host Strict) (sent_1 Strict)

abbrev prepared : Event
prepared = event.Deliver (prepare first (p1 Strict))

same_fuse : (a b : Fuse) → Some a ≡ Some b → a ≡ b
same_fuse a b e = cc

-- the third call is one of the write
in_write : (b : List ℕ) → IsHashedIn (stores first (b1 Strict)) (blank_disk Strict 1) 2 26 b → IsNear b
unfolding prepare_calls header_calls writes
in_write b (inl h) = cut_text b h.1
in_write b (inr h) = let past = h.0 in absurd (omega (arith, past))

is_cut : (b : List ℕ) → IsHashedCut (record { host = fused_host (blank_disk Strict 1); script = (react prepared lying (b0 Strict) (blank_disk Strict 1)).script }) b → IsNear b
is_cut b h =
    let fuse : h.0 ≡ third = sym (same_fuse third h.0 h.1) in
    let cut = subst (λ (u : Fuse). IsHashedIn (react prepared lying (b0 Strict) (blank_disk Strict 1)).script (blank_disk Strict 1) u.calls u.code b) fuse h.2 in
    in_write b (subst (λ (s : Step). IsHashedIn s.script (blank_disk Strict 1) 2 26 b) (step_1 Strict (blank_disk Strict 1)) cut)

begun_cut : begun_in cut_world (Arrives 0) ≡ Write false first ∷ []
unfolding prepare_calls header_calls writes
begun_cut = ap (λ (s : Step). begun_by (Some third) s.script (blank_disk Strict 1)) (step_1 Strict (blank_disk Strict 1))

cut_line : (b : List ℕ) → HashesAt cut_world (Arrives 0) b → IsNear b
cut_line b (inl h) =
    let same = same_work (record { host = fused_host (blank_disk Strict 1); script = (react prepared lying (b0 Strict) (blank_disk Strict 1)).script }) h.0 h.1 in
    is_cut b (subst (λ (k : Work). IsHashedCut k b) (sym same) h.2)
cut_line b (inr u) = inl (used_text one cut_world (Arrives 0) (fused_host (blank_disk Strict 1)) (Write false first ∷ []) refl begun_cut (blank_plain Strict one).1 ((inl refl, first_taken), tt) b u)

-- ---- the whole row

abbrev y1 : Lying
y1 = halted_disk (blank_disk Strict 1)

left : LeftBlank y1
left = left_blank y1 refl torn_is

abbrev y2 : Lying
y2 = after_all lying y1 revives

plain_y2 : Plain one y2
plain_y2 = plain_all one revives y1 (tt, (tt, tt)) left.plain

abbrev y3 : Lying
y3 = after_all lying y2 enters_next

plain_y3 : Plain one y3
plain_y3 = plain_all one enters_next y2 (tt, (tt, (tt, tt))) plain_y2

near : (w : World Lying) (x : Happening) → ((b : List ℕ) → HashesAt w x b → IsText one b) → (b : List ℕ) → HashesAt w x b → IsNear b
near w x line b h = inl (line b h)

hashed : Hashes IsNear (fresh_world hazards strict 3) torn_prepare
hashed =
    let xs = torn_prepare in
    let a = host (p1 Strict) x1 in
    let c = (quiet_host Strict) in
    let c_last = host c1 z1 in
    let w0 = three (host (p0 Strict) (blank_disk Strict 0)) (host (b0 Strict) (blank_disk Strict 1)) c [] in
    let w1 = three a (host (b0 Strict) (blank_disk Strict 1)) c (sent_1 Strict) in
    let w2 = cut_world in
    let w3 = three a (off y1) c (sent_1 Strict) in
    let w4 = three a (host (b0 Strict) y2) c (sent_1 Strict) in
    let w5 = three a (host (idles 1) y2) c (sent_1 Strict) in
    let w6 = three a (host (idles 2) y2) c (sent_1 Strict) in
    let w7 = three a (host (idles 3) y2) c (sent_1 Strict) in
    let w8 = three a (host (idles 4) y2) c (sent_1 Strict) in
    let w9 = three a (host n1 y3) c sent_3 in
    let w10 = three a (host n1 y3) c_last sent_4 in
    let w11 = (happens hazards w10 (Arrives 6)).world in
    let stated = event.Deliver (do_view_change c1) in
    let h10 : Hashes IsNear w10 (drop 10 xs) = then_lines IsNear w10 w11 (Arrives 6) [] refl (near w10 (Arrives 6) (line_text one w10 (Arrives 6) (host n1 y3) (react stated lying n1 y3).script refl refl plain_y3 (chooses_none y3))) (none_left IsNear w11 (inl root)) in
    let h9 : Hashes IsNear w9 (drop 9 xs) = then_lines IsNear w9 w10 (Arrives 3) (drop 10 xs) (enters_at_2 a (host n1 y3) (blank_disk Strict 2)) (near w9 (Arrives 3) (step_line w9 (Arrives 3) (event.Deliver (start_view_change n1)) c0 c1 (blank_disk Strict 2) enters_2 refl (changes_next (blank_disk Strict 2)) (blank_plain Strict one).2 enters_2_one)) h10 in
    let h8 : Hashes IsNear w8 (drop 8 xs) = then_lines IsNear w8 w9 (Ticks 1) (drop 9 xs) (enters_at_1 a c y2) (near w8 (Ticks 1) (step_line w8 (Ticks 1) event.Tick (idles 4) n1 y2 enters_next refl (idles_4 y2) plain_y2 (tt, (tt, (tt, tt))))) h9 in
    let h7 : Hashes IsNear w7 (drop 7 xs) = then_lines IsNear w7 w8 (Ticks 1) (drop 8 xs) (idles_at_1 a c (idles 3) (idles 4) y2 (idles_3 y2)) (near w7 (Ticks 1) (step_line w7 (Ticks 1) event.Tick (idles 3) (idles 4) y2 [] refl (idles_3 y2) plain_y2 tt)) h8 in
    let h6 : Hashes IsNear w6 (drop 6 xs) = then_lines IsNear w6 w7 (Ticks 1) (drop 7 xs) (idles_at_1 a c (idles 2) (idles 3) y2 (idles_2 y2)) (near w6 (Ticks 1) (step_line w6 (Ticks 1) event.Tick (idles 2) (idles 3) y2 [] refl (idles_2 y2) plain_y2 tt)) h7 in
    let h5 : Hashes IsNear w5 (drop 5 xs) = then_lines IsNear w5 w6 (Ticks 1) (drop 6 xs) (idles_at_1 a c (idles 1) (idles 2) y2 (idles_1 y2)) (near w5 (Ticks 1) (step_line w5 (Ticks 1) event.Tick (idles 1) (idles 2) y2 [] refl (idles_1 y2) plain_y2 tt)) h6 in
    let h4 : Hashes IsNear w4 (drop 4 xs) = then_lines IsNear w4 w5 (Ticks 1) (drop 5 xs) (idles_at_1 a c (b0 Strict) (idles 1) y2 (idles_0 y2)) (near w4 (Ticks 1) (step_line w4 (Ticks 1) event.Tick (b0 Strict) (idles 1) y2 [] refl (idles_0 y2) plain_y2 tt)) h5 in
    let start = starts_blank y1 left.opens left.looks in
    let h3 : Hashes IsNear w3 (drop 3 xs) = then_lines IsNear w3 w4 (Starts 1) (drop 4 xs) (revives_at_1 a c y1 start) (near w3 (Starts 1) (start_line_text w3 (Starts 1) (b0 Strict) y1 revives refl start left.plain (tt, (tt, tt)))) h4 in
    let h2 : Hashes IsNear w2 (drop 2 xs) = then_lines IsNear w2 w3 (Arrives 0) (drop 3 xs) (halts_1 a c (blank_disk Strict 1).face (blank_disk Strict 1).held) cut_line h3 in
    let h1 : Hashes IsNear w1 (drop 1 xs) = then_lines IsNear w1 w2 (Fuses 1 2 26) (drop 2 xs) (fuses_1 a c (blank_disk Strict 1)) (near w1 (Fuses 1 2 26) (idle_text w1 (Fuses 1 2 26) refl refl)) h2 in
    let h0 : Hashes IsNear w0 xs = then_lines IsNear w0 w1 (AsksInVersion 0 registers) (drop 1 xs) (goes_0 Strict (blank_disk Strict 0) (host (b0 Strict) (blank_disk Strict 1))) (near w0 (AsksInVersion 0 registers) (step_line w0 (AsksInVersion 0 registers) (event.Request registers) (p0 Strict) (p1 Strict) (blank_disk Strict 0) (makes first (p1 Strict)) (asks_0 Strict (blank_disk Strict 0)) (step_0 Strict (blank_disk Strict 0)) (blank_plain Strict one).0 makes_one)) h1 in
    subst (λ (w : World Lying). Hashes IsNear w xs) (sym (begins Strict)) h0

pub torn_never : NoCollision (IsHashed (fresh_world hazards strict 3) torn_prepare)
torn_never = tells_apart (IsHashed (fresh_world hazards strict 3) torn_prepare) (λ b h. any b (hashed b h))
  where
    any : (b : List ℕ) → IsNear b → IsAny b
    any b (inl t) = inl (also b t)
    any b (inr e) = inr e
