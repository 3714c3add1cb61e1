-- The worlds that the lines of the schedule come through, and what they put out.
use Rattle.std.proofs.Common.{ℕ, ◌≡◌, refl, List, [], ◌∷◌, ◌++◌, map}
use Rattle.vr_base.specs.Bytes.{name_of}
use Rattle.vr_base.specs.declared.mode.Mode.TheVariants.{Strict}
use Rattle.vr_msg.specs.declared.event.Event.TheVariants as event
use Rattle.vr_msg.specs.declared.output.Output.{Output}
use Rattle.vr_msg.specs.declared.output.Sent.{Sent}
use Rattle.vr_rules.specs.Opening.{blank}
use Rattle.vr_rules.specs.Outputs.{commit_line, do_view_change, messages, prepare, prepare_ok, start_view, start_view_change}
use Rattle.vr_rules.specs.Replica.{Replica}
use Rattle.vr_rules.specs.Rules.{react}
use Rattle.vr_rules.specs.Steps.{Say, after_all, outputs}
use Rattle.vr_rules.specs.Words.{value_of}
use Rattle.vr_world.specs.Lying.{Lying, lying}
use Rattle.vr_world.specs.World.{Arrives, AsksInVersion, Happening, Stops, Ticks, World, at_member}
use Rattle.rows_computed.proofs.Changes.{c0}
use Rattle.rows_computed.proofs.Dropped.{begins_v, changes_u, chooses_one, chooses_v, counted_third, counted_v, counts, counts_0, counts_1, counts_2, counts_3, counts_4, enters_u, enters_v, makes_third, makes_v, q1, stores_2, stores_third, stores_u, takes_over, takes_u, u1, u2, u3, u3c, u4, v1, v2, v2c, v3, v4, v4c, v5}
use Rattle.rows_computed.proofs.DroppedRow as row
use Rattle.rows_computed.proofs.DroppedRow.{s3, x0, x1, y0, y1, y2, y3, y4, y5, z0, z1, z2, z3, z4}
use Rattle.rows_computed.proofs.Entries.{first, first_header, third, third_header}
use Rattle.rows_computed.proofs.Happenings.{registers, registers_later}
use Rattle.rows_computed.proofs.Kept.{read_entry}
use Rattle.rows_computed.proofs.Lines.{host}
use Rattle.rows_computed.proofs.Path.{asks_0, sent_1, sent_2}
use Rattle.rows_computed.proofs.Steps.{answers, b0, b1, makes, p0, p1, step_0, step_1, stores}
use Rattle.rows_computed.proofs.Waits.{off, three}
use Rattle.rows_computed.proofs.Going.{Goes, acts, rests, then}

-- ---- the worlds

-- a world of replica 1 and 2, where the primary is stopped
abbrev led : Replica → Lying → Replica → Lying → List Sent → World Lying
led r y q z sent = three (off x1) (host r y) (host q z) sent

abbrev pub w0 : World Lying
w0 = three (host (p0 Strict) x0) (host (b0 Strict) y0) (host c0 z0) []

abbrev w1 : World Lying
w1 = three (host (p1 Strict) x1) (host (b0 Strict) y0) (host c0 z0) (sent_1 Strict)

abbrev w2 : World Lying
w2 = three (host (p1 Strict) x1) (host (b1 Strict) y1) (host c0 z0) (sent_2 Strict)

abbrev w3 : World Lying
w3 = three (host (p1 Strict) x1) (host (b1 Strict) y1) (host q1 z1) s3

abbrev w4 : World Lying
w4 = led (b1 Strict) y1 q1 z1 s3

abbrev ticked : ℕ → World Lying
ticked k = led (counts k) y1 q1 z1 s3

abbrev w9 : World Lying
w9 = led v1 y2 q1 z1 (row.told s3)

abbrev w10 : World Lying
w10 = led v1 y2 u1 z2 (row.stated s3)

abbrev w11 : World Lying
w11 = led v2 y3 u1 z2 (row.chosen s3)

abbrev pub w12 : World Lying
w12 = led v2 y3 u2 z3 (row.taken s3)

abbrev pub w13 : World Lying
w13 = led v3 y4 u2 z3 (row.taken s3)

abbrev w14 : World Lying
w14 = led v4 y5 u2 z3 (row.made s3)

abbrev w15 : World Lying
w15 = led v4 y5 u4 z4 (row.stored s3)

abbrev pub w16 : World Lying
w16 = led v5 (after_all lying y5 (answers third v4c)) u4 z4 (row.stored s3)

-- ---- the lines

line_0 : Goes w0 w1 (AsksInVersion 0 registers ∷ []) (outputs (makes first (p1 Strict)))
unfolding at_member outputs messages blank
line_0 = acts w0 (AsksInVersion 0 registers) 0 (event.Request registers) (p0 Strict) (p1 Strict) x0 (makes first (p1 Strict)) (λ b h. h) refl (asks_0 Strict x0) (step_0 Strict x0) row.plain_x0 row.makes_first_of

line_1 : Goes w1 w2 (Arrives 0 ∷ []) (outputs (stores first (b1 Strict)))
unfolding at_member outputs messages blank
line_1 = acts w1 (Arrives 0) 1 (event.Deliver (prepare first (p1 Strict))) (b0 Strict) (b1 Strict) y0 (stores first (b1 Strict)) (λ b h. h) refl refl (step_1 Strict y0) row.plain_y0 row.stores_first_of

line_2 : Goes w2 w3 (Arrives 1 ∷ []) (outputs (stores first q1))
unfolding at_member outputs messages blank
line_2 = acts w2 (Arrives 1) 2 (event.Deliver (prepare first (p1 Strict))) c0 q1 z0 (stores first q1) (λ b h. h) refl refl (stores_2 z0) row.plain_z0 row.stores_2_of

line_3 : Goes w3 w4 (Stops 0 ∷ []) []
unfolding at_member messages
line_3 = rests w3 w4 (Stops 0) (λ b h. h) refl refl refl

-- a tick at which replica 1 counts
counted : (r q : Replica) → react event.Tick lying r y1 ≡ record { replica = q; script = [] } → Goes (led r y1 q1 z1 s3) (led q y1 q1 z1 s3) (Ticks 1 ∷ []) []
unfolding at_member outputs messages after_all
counted r q is = acts (led r y1 q1 z1 s3) (Ticks 1) 1 event.Tick r q y1 [] (λ b h. h) refl refl is row.plain_y1 tt

line_8 : Goes (ticked 4) w9 (Ticks 1 ∷ []) (outputs enters_v)
unfolding at_member outputs messages blank
line_8 = acts (ticked 4) (Ticks 1) 1 event.Tick (counts 4) v1 y1 enters_v (λ b h. h) refl refl (counts_4 y1) row.plain_y1 row.enters_v_of

line_9 : Goes w9 w10 (Arrives 5 ∷ []) (outputs enters_u)
unfolding at_member outputs messages blank
line_9 = acts w9 (Arrives 5) 2 (event.Deliver (start_view_change v1)) q1 u1 z1 enters_u (λ b h. h) refl refl (changes_u z1) row.plain_z1 row.enters_u_of

line_10 : Goes w10 w11 (Arrives 8 ∷ []) (outputs chooses_v)
unfolding at_member outputs messages blank
line_10 = acts w10 (Arrives 8) 1 (event.Deliver (do_view_change u1)) v1 v2 y2 chooses_v (λ b h. h) refl refl (chooses_one y2 (read_entry 1 first (after_all lying y2 begins_v) row.has_begun)) row.plain_y2 row.chooses_of

line_11 : Goes w11 w12 (Arrives 10 ∷ []) (outputs takes_u)
unfolding at_member outputs messages blank
line_11 = acts w11 (Arrives 10) 2 (event.Deliver (start_view v2)) u1 u2 z2 takes_u (λ b h. h) refl refl (takes_over z2) row.plain_z2 row.takes_of

pub line_12 : Goes w12 w13 (Arrives 13 ∷ []) (outputs (answers first v2c))
unfolding at_member outputs messages blank
line_12 = acts w12 (Arrives 13) 1 (event.Deliver (prepare_ok name_of first_header u2)) v2 v3 y3 (answers first v2c) (λ b h. h) refl refl (counted_v y3 (read_entry 1 first y3 row.has_y3)) row.plain_y3 row.answers_1_of

line_13 : Goes w13 w14 (AsksInVersion 1 registers_later ∷ []) (outputs makes_v)
unfolding at_member outputs messages blank value_of
line_13 = acts w13 (AsksInVersion 1 registers_later) 1 (event.Request registers_later) v3 v4 y4 makes_v (λ b h. h) refl (row.asks_at_1 y4) (makes_third y4) row.plain_y4 row.makes_third_of

line_14 : Goes w14 w15 (Arrives 15 ∷ []) (outputs (stores_u ++ map Say (commit_line first u3c)))
unfolding at_member outputs messages blank
line_14 = acts w14 (Arrives 15) 2 (event.Deliver (prepare third v4)) u2 u4 z3 (stores_u ++ map Say (commit_line first u3c)) (λ b h. h) refl refl (stores_third z3 (read_entry 1 first (after_all lying z3 stores_u) row.has_stored)) row.plain_z3 row.stores_third_of

line_15 : Goes w15 w16 (Arrives 16 ∷ []) (outputs (answers third v4c))
unfolding at_member outputs messages blank
line_15 = acts w15 (Arrives 16) 1 (event.Deliver (prepare_ok name_of third_header u3)) v4 v5 y5 (answers third v4c) (λ b h. h) refl refl (counted_third y5 row.reads_y5) row.plain_y5 row.answers_third_of

-- ---- up to the first reply, with it, and all

abbrev pub until_reply : List Happening
until_reply =
    AsksInVersion 0 registers ∷ Arrives 0 ∷ Arrives 1 ∷ Stops 0 ∷ Ticks 1 ∷ Ticks 1 ∷ Ticks 1 ∷ Ticks 1 ∷ Ticks 1 ∷ Arrives 5 ∷ Arrives 8 ∷ Arrives 10 ∷ []

abbrev pub after_reply : List Happening
after_reply = AsksInVersion 1 registers_later ∷ Arrives 15 ∷ Arrives 16 ∷ []

abbrev pub said_first : List Output
said_first =
    outputs (makes first (p1 Strict)) ++ (outputs (stores first (b1 Strict)) ++ (outputs (stores first q1) ++ (outputs enters_v ++ (outputs enters_u ++ (outputs chooses_v ++ outputs takes_u)))))

abbrev pub said_stored : List Output
said_stored = outputs (stores_u ++ map Say (commit_line first u3c))

abbrev pub said_last : List Output
said_last = outputs makes_v ++ (said_stored ++ outputs (answers third v4c))

pub goes_first : Goes w0 w12 until_reply said_first
goes_first =
    then line_0 (then line_1 (then line_2 (then line_3 (then (counted (b1 Strict) (counts 1) (counts_0 y1)) (then (counted (counts 1) (counts 2) (counts_1 y1 row.entry_y1 row.header_y1))
    (then (counted (counts 2) (counts 3) (counts_2 y1)) (then (counted (counts 3) (counts 4) (counts_3 y1)) (then line_8 (then line_9 (then line_10 line_11))))))))))

pub goes_last : Goes w13 w16 after_reply said_last
goes_last = then line_13 (then line_14 line_15)
