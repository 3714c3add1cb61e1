-- A stopped member's file becomes one of version 2: what the lines of that row hash, and that the names of it don't collide.
use Rattle.std.proofs.Common.{ℕ, ◌≡◌, ◌⊎◌, inl, inr, refl, sym, ap, ◌∙◌, subst, List, [], ◌∷◌, drop, Option, Some, None}
use Rattle.std.specs.Prelude.{Contains}
use Rattle.std.specs.List.{AllByRecursion}
use Rattle.std.specs.Option.{option_map}
use Rattle.vr_base.specs.Kinds.{strict}
use Rattle.vr_base.specs.declared.mode.Mode.TheVariants.{Strict}
use Rattle.vr_disk.specs.DiskState.{Fuse}
use Rattle.vr_header.specs.NoCollision.{NoCollision}
use Rattle.vr_msg.specs.declared.event.Event.TheVariants as event
use Rattle.vr_msg.specs.declared.output.Sent.{Sent}
use Rattle.vr_rules.specs.Outputs.{prepare}
use Rattle.vr_rules.specs.Steps.{Effect, after_all}
use Rattle.vr_super.specs.Copies.{SuperValue}
use Rattle.vr_world.specs.Group.{migration}
use Rattle.vr_world.specs.Lying.{Lying, hazards, lying}
use Rattle.vr_world.specs.Safe.{IsWritten}
use Rattle.vr_world.specs.World.{Arrives, AsksInVersion, Host, Migrates, Stops, World, fresh_world, happens, movable}
use Rattle.law_4_disks.specs.Worlds.{IsHashedAt, Migration, moved_of}
use Rattle.law_6_one_log.specs.Schedules.{IsHashed, IsUsedAt}
use Rattle.law_6_one_log.proofs.Names.{contains_none}
use Rattle.rows_computed.proofs.Denied.{also, idle_text, makes_one, step_line}
use Rattle.rows_computed.proofs.Happenings.{moved, registers}
use Rattle.rows_computed.proofs.Lines.{Hashes, IsText, begun_text, blank_disk, blank_plain, host, none_left, root, then_lines}
use Rattle.rows_computed.proofs.Names.{tells_apart}
use Rattle.rows_computed.proofs.Path.{asks_0, begins, goes_0, goes_1, quiet_host, sent_1, sent_2}
use Rattle.rows_computed.proofs.Steps.{b0, b1, makes, p0, p1, step_0, step_1, stores}
use Rattle.rows_computed.proofs.Disks.{IsOf}
use Rattle.rows_computed.proofs.Entries.{first}
use Rattle.rows_computed.proofs.Stored.{one}
use Rattle.rows_computed.proofs.Taken.{first_taken}
use Rattle.rows_computed.proofs.Waits.{off, stops_1, three}

-- ---- a migration that no fuse cuts writes no text that has a name

abbrev moving : Lying → SuperValue → Migration
moving y v = record { host = off y; value = v }

some_moving : (a b : Migration) → Some a ≡ Some b → a ≡ b
some_moving a b e = cc

never_cut : (y : Lying) (o : Option SuperValue) (k : Migration) (u : Fuse) → option_map (moving y) o ≡ Some k → k.host.fuse ≡ Some u → ⊥
never_cut y None k u e f = absurd cc
never_cut y (Some v) k u e f =
    let bad : None ≡ Some u = ap (λ (q : Migration). q.host.fuse) (some_moving (moving y v) k e) ∙ f in
    absurd cc

writes_none : (y : Lying) (o : Option SuperValue) (e : Effect) (b : List ℕ) → Contains (moved_of (option_map (moving y) o)) e → IsWritten e b → IsText one b
writes_none y None e b i w = absurd (contains_none e i)
writes_none y (Some v) e b i w = begun_text 1 one (migration v) e b (tt, (tt, tt)) i w

migrates_text : (a c : Host Lying) (y : Lying) (sent : List Sent) (b : List ℕ) → IsHashedAt (three a (off y) c sent) (Migrates 1) b ⊎ IsUsedAt (three a (off y) c sent) (Migrates 1) b → IsText one b
migrates_text a c y sent b (inl h) = absurd (never_cut y (movable hazards (off y)) h.0 h.2.0 h.1 h.2.1)
migrates_text a c y sent b (inr (inl u)) = absurd (contains_none u.0 u.1)
migrates_text a c y sent b (inr (inr u)) = writes_none y (movable hazards (off y)) u.0 b u.1 u.2

-- ---- the whole row

abbrev x0 : Lying
x0 = blank_disk Strict 0

abbrev y0 : Lying
y0 = blank_disk Strict 1

abbrev y1 : Lying
y1 = after_all lying y0 (stores first (b1 Strict))

abbrev x1 : Lying
x1 = after_all lying x0 (makes first (p1 Strict))

stores_one : AllByRecursion (IsOf one) (stores first (b1 Strict))
stores_one = ((inl refl, first_taken), (tt, tt))

hashed : Hashes (IsText one) (fresh_world hazards strict 3) moved
hashed =
    let T = IsText one in
    let c = quiet_host Strict in
    let w0 = three (host (p0 Strict) x0) (host (b0 Strict) y0) c [] in
    let w1 = three (host (p1 Strict) x1) (host (b0 Strict) y0) c (sent_1 Strict) in
    let w2 = three (host (p1 Strict) x1) (host (b1 Strict) y1) c (sent_2 Strict) in
    let w3 = three (host (p1 Strict) x1) (off y1) c (sent_2 Strict) in
    let w4 = (happens hazards w3 (Migrates 1)).world in
    let h3 : Hashes T w3 (drop 3 moved) = then_lines T w3 w4 (Migrates 1) [] refl (migrates_text (host (p1 Strict) x1) c y1 (sent_2 Strict)) (none_left T w4 root) in
    let h2 : Hashes T w2 (drop 2 moved) = then_lines T w2 w3 (Stops 1) (drop 3 moved) (stops_1 (host (p1 Strict) x1) c (b1 Strict) y1) (idle_text w2 (Stops 1) refl refl) h3 in
    let h1 : Hashes T w1 (drop 1 moved) = then_lines T w1 w2 (Arrives 0) (drop 2 moved) (goes_1 Strict x1 y0) (step_line w1 (Arrives 0) (event.Deliver (prepare first (p1 Strict))) (b0 Strict) (b1 Strict) y0 (stores first (b1 Strict)) refl (step_1 Strict y0) (blank_plain Strict one).1 stores_one) h2 in
    let h0 : Hashes T w0 moved = then_lines T w0 w1 (AsksInVersion 0 registers) (drop 1 moved) (goes_0 Strict x0 (host (b0 Strict) y0)) (step_line w0 (AsksInVersion 0 registers) (event.Request registers) (p0 Strict) (p1 Strict) x0 (makes first (p1 Strict)) (asks_0 Strict x0) (step_0 Strict x0) (blank_plain Strict one).0 makes_one) h1 in
    subst (λ (w : World Lying). Hashes T w moved) (sym (begins Strict)) h0

pub moved_never : NoCollision (IsHashed (fresh_world hazards strict 3) moved)
moved_never = tells_apart (IsHashed (fresh_world hazards strict 3) moved) (λ b h. inl (also b (hashed b h)))
