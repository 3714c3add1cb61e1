-- The plain path: what its lines hash, and that the names of it don't collide.
use Rattle.std.proofs.Common.{ℕ, ◌≡◌, arith, inl, inr, refl, sym, ap, ◌∙◌, subst, false, List, [], ◌∷◌, ◌++◌, map, drop, Some}
use Rattle.std.specs.List.{AllByRecursion}
use Rattle.vr_base.specs.Bytes.{name_of}
use Rattle.vr_base.specs.Kinds.{of_mode}
use Rattle.vr_base.specs.declared.mode.Mode.{Mode}
use Rattle.vr_header.specs.Made.{Whole}
use Rattle.vr_header.specs.NoCollision.{NoCollision}
use Rattle.vr_msg.specs.declared.event.Event.TheVariants as event
use Rattle.vr_msg.specs.declared.output.Sent.{Sent}
use Rattle.vr_state.specs.Folds as state
use Rattle.vr_state.specs.Sessions as sess
use Rattle.vr_msg.specs.declared.request.RequestFields.{RequestFields}
use Rattle.vr_rules.specs.Replica.{Replica, version}
use Rattle.vr_rules.specs.Outputs.{messages, prepare, prepare_ok, commit_line}
use Rattle.vr_rules.specs.Steps.{Say, Step, after_all, outputs}
use Rattle.vr_rules.specs.Rules.{react}
use Rattle.vr_rules.specs.Opening.{blank, fresh}
use Rattle.vr_world.specs.Lying.{Lying, hazards, lying}
use Rattle.vr_world.specs.World.{Arrives, AsksInVersion, Host, World, at_member, fresh_world, happens, in_version}
use Rattle.law_4_disks.specs.Worlds.{stepping}
use Rattle.law_6_one_log.specs.Schedules.{IsHashed}
use Rattle.rows_computed.proofs.Happenings.{plain, registers, puts}
use Rattle.rows_computed.proofs.Disks.{IsOf, Plain, entry_there, plain_all, written_apart, written_there}
use Rattle.rows_computed.proofs.Entries.{first, first_header, second, second_header}
use Rattle.rows_computed.proofs.Lines.{Hashes, HashesAt, IsText, blank_disk, blank_plain, host, line_text, none_left, root, then_lines}
use Rattle.rows_computed.proofs.Names.{both, tells_apart}
use Rattle.rows_computed.proofs.Taken.{first_taken, second_taken}
use Rattle.rows_computed.proofs.Steps.{answers, b0, b1, b2, b2c, b3, makes, p0, p1, p1c, p2, p3, p3c, step_0, step_1, step_2, step_3, step_4, step_5, stores, stores_second}

-- ---- the worlds

-- the backup that hears nothing
abbrev pub quiet_host : Mode → Host Lying
quiet_host m = host (fresh (of_mode m) 0 3 2) (blank_disk m 2)

abbrev pub group_of : Mode → Host Lying → Host Lying → List Sent → World Lying
group_of m a b sent = record { n = 3; members = a ∷ b ∷ quiet_host m ∷ []; sent = sent }

-- the prepares of an entry, and its acknowledgement
abbrev pub prepares : Whole → Replica → List Sent
prepares e r = record { from = 0; to = 1; message = prepare e r } ∷ record { from = 0; to = 2; message = prepare e r } ∷ []

abbrev pub acknowledges : Whole → Replica → Sent
acknowledges e r = record { from = 1; to = 0; message = prepare_ok name_of e.header r }

abbrev pub sent_1 : Mode → List Sent
sent_1 m = prepares first (p1 m)

abbrev pub sent_2 : Mode → List Sent
sent_2 m = (sent_1 m) ++ acknowledges first (b1 m) ∷ []

abbrev pub sent_4 : Mode → List Sent
sent_4 m = (sent_2 m) ++ prepares second (p3 m)

abbrev pub sent_5 : Mode → List Sent
sent_5 m = (sent_4 m) ++ acknowledges second (b2 m) ∷ []

pub begins : (m : Mode) → fresh_world hazards (of_mode m) 3 ≡ group_of m (host (p0 m) (blank_disk m 0)) (host (b0 m) (blank_disk m 1)) []
unfolding fresh_world
begins m = refl

pub goes_0 : (m : Mode) (x : Lying) (b : Host Lying) → (happens hazards (group_of m (host (p0 m) x) b []) (AsksInVersion 0 registers)).world ≡ group_of m (host (p1 m) (after_all lying x (makes first (p1 m)))) b (sent_1 m)
unfolding at_member outputs messages blank
goes_0 m x b = ap (λ (s : Step). group_of m (host s.replica (after_all lying x s.script)) b (messages (outputs s.script))) (step_0 m x)

pub goes_1 : (m : Mode) (x y : Lying) → (happens hazards (group_of m (host (p1 m) x) (host (b0 m) y) (sent_1 m)) (Arrives 0)).world ≡ group_of m (host (p1 m) x) (host (b1 m) (after_all lying y (stores first (b1 m)))) (sent_2 m)
unfolding at_member outputs messages blank
goes_1 m x y = ap (λ (s : Step). group_of m (host (p1 m) x) (host s.replica (after_all lying y s.script)) (sent_1 m ++ messages (outputs s.script))) (step_1 m y)

pub goes_2 : (m : Mode) (x : Lying) (b : Host Lying) → lying.entry x 1 ≡ Some first → (happens hazards (group_of m (host (p1 m) x) b (sent_2 m)) (Arrives 2)).world ≡ group_of m (host (p2 m) (after_all lying x (answers first (p1c m)))) b (sent_2 m)
unfolding at_member outputs messages blank
goes_2 m x b reads = ap (λ (s : Step). group_of m (host s.replica (after_all lying x s.script)) b (sent_2 m ++ messages (outputs s.script))) (step_2 m x reads)

goes_3 : (m : Mode) (x : Lying) (b : Host Lying) → (happens hazards (group_of m (host (p2 m) x) b (sent_2 m)) (AsksInVersion 0 puts)).world ≡ group_of m (host (p3 m) (after_all lying x (makes second (p3 m)))) b (sent_4 m)
unfolding at_member outputs messages blank
goes_3 m x b = ap (λ (s : Step). group_of m (host s.replica (after_all lying x s.script)) b (sent_2 m ++ messages (outputs s.script))) (step_3 m x)

pub goes_4 : (m : Mode) (x y : Lying) → lying.entry (stores_second m y) 1 ≡ Some first
    → (happens hazards (group_of m (host (p3 m) x) (host (b1 m) y) (sent_4 m)) (Arrives 3)).world ≡ group_of m (host (p3 m) x) (host (b3 m) (after_all lying y (stores second (b2 m) ++ map Say (commit_line first (b2c m))))) (sent_5 m)
unfolding at_member outputs messages blank
goes_4 m x y reads = ap (λ (s : Step). group_of m (host (p3 m) x) (host s.replica (after_all lying y s.script)) (sent_4 m ++ messages (outputs s.script))) (step_4 m y reads)

-- ---- what is hashed

answers_first : (m : Mode) → AllByRecursion (IsOf both) (answers first (p1c m))
unfolding blank state.applied state.answered state.executed sess.checked
answers_first m = (tt, (tt, tt))

stores_both : (m : Mode) → AllByRecursion (IsOf both) (stores second (b2 m) ++ map Say (commit_line first (b2c m)))
stores_both m = ((inr (inl refl), second_taken), (tt, (tt, tt)))

answers_second : (m : Mode) → AllByRecursion (IsOf both) (answers second (p3c m))
unfolding blank state.applied state.answered state.executed sess.checked
answers_second m = (tt, (tt, tt))

-- a replica of version 1 is asked as the line says
pub asks_of : (q : RequestFields) (r : Replica) (x : Lying) → in_version (version r) q ≡ q → Some (stepping (event.Request (in_version (version r) q)) (host r x) r) ≡ Some (stepping (event.Request q) (host r x) r)
asks_of q r x e = ap (λ (f : RequestFields). Some (stepping (event.Request f) (host r x) r)) e

pub asks_0 : (m : Mode) (x : Lying) → Some (stepping (event.Request (in_version (version (p0 m)) registers)) (host (p0 m) x) (p0 m)) ≡ Some (stepping (event.Request registers) (host (p0 m) x) (p0 m))
unfolding blank
asks_0 m x = asks_of registers (p0 m) x refl

asks_3 : (m : Mode) (x : Lying) → Some (stepping (event.Request (in_version (version (p2 m)) puts)) (host (p2 m) x) (p2 m)) ≡ Some (stepping (event.Request puts) (host (p2 m) x) (p2 m))
unfolding blank
asks_3 m x = asks_of puts (p2 m) x refl

line_0 : (m : Mode) (x : Lying) (b : Host Lying) → Plain both x → (t : List ℕ) → HashesAt (group_of m (host (p0 m) x) b []) (AsksInVersion 0 registers) t → IsText both t
line_0 m x b p = line_text both (group_of m (host (p0 m) x) b []) (AsksInVersion 0 registers) (host (p0 m) x) (react (event.Request registers) lying (p0 m) x).script refl (asks_0 m x) p (subst (λ (s : Step). AllByRecursion (IsOf both) s.script) (sym (step_0 m x)) ((inl refl, first_taken), (tt, (tt, tt))))

pub line_1 : (m : Mode) (x y : Lying) → Plain both y → (t : List ℕ) → HashesAt (group_of m (host (p1 m) x) (host (b0 m) y) (sent_1 m)) (Arrives 0) t → IsText both t
line_1 m x y p = line_text both (group_of m (host (p1 m) x) (host (b0 m) y) (sent_1 m)) (Arrives 0) (host (b0 m) y) (react (event.Deliver (prepare first (p1 m))) lying (b0 m) y).script refl refl p (subst (λ (s : Step). AllByRecursion (IsOf both) s.script) (sym (step_1 m y)) ((inl refl, first_taken), (tt, tt)))

pub line_2 : (m : Mode) (x : Lying) (b : Host Lying) → Plain both x → lying.entry x 1 ≡ Some first → (t : List ℕ) → HashesAt (group_of m (host (p1 m) x) b (sent_2 m)) (Arrives 2) t → IsText both t
line_2 m x b p reads = line_text both (group_of m (host (p1 m) x) b (sent_2 m)) (Arrives 2) (host (p1 m) x) (react (event.Deliver (prepare_ok name_of first_header (b1 m))) lying (p1 m) x).script refl refl p (subst (λ (s : Step). AllByRecursion (IsOf both) s.script) (sym (step_2 m x reads)) (answers_first m))

line_3 : (m : Mode) (x : Lying) (b : Host Lying) → Plain both x → (t : List ℕ) → HashesAt (group_of m (host (p2 m) x) b (sent_2 m)) (AsksInVersion 0 puts) t → IsText both t
line_3 m x b p = line_text both (group_of m (host (p2 m) x) b (sent_2 m)) (AsksInVersion 0 puts) (host (p2 m) x) (react (event.Request puts) lying (p2 m) x).script refl (asks_3 m x) p (subst (λ (s : Step). AllByRecursion (IsOf both) s.script) (sym (step_3 m x)) ((inr (inl refl), second_taken), (tt, (tt, tt))))

pub line_4 : (m : Mode) (x y : Lying) → Plain both y → lying.entry (stores_second m y) 1 ≡ Some first → (t : List ℕ) → HashesAt (group_of m (host (p3 m) x) (host (b1 m) y) (sent_4 m)) (Arrives 3) t → IsText both t
line_4 m x y p reads = line_text both (group_of m (host (p3 m) x) (host (b1 m) y) (sent_4 m)) (Arrives 3) (host (b1 m) y) (react (event.Deliver (prepare second (p3 m))) lying (b1 m) y).script refl refl p (subst (λ (s : Step). AllByRecursion (IsOf both) s.script) (sym (step_4 m y reads)) (stores_both m))

pub line_5 : (m : Mode) (x y : Lying) → Plain both x → lying.entry x 2 ≡ Some second → (t : List ℕ) → HashesAt (group_of m (host (p3 m) x) (host (b3 m) y) (sent_5 m)) (Arrives 5) t → IsText both t
line_5 m x y p reads = line_text both (group_of m (host (p3 m) x) (host (b3 m) y) (sent_5 m)) (Arrives 5) (host (p3 m) x) (react (event.Deliver (prepare_ok name_of second_header (b2 m))) lying (p3 m) x).script refl refl p (subst (λ (s : Step). AllByRecursion (IsOf both) s.script) (sym (step_5 m x reads)) (answers_second m))

-- ---- the disks

abbrev pub x0 : Mode → Lying
x0 m = blank_disk m 0

abbrev pub y0 : Mode → Lying
y0 m = blank_disk m 1

abbrev pub x1 : Mode → Lying
x1 m = after_all lying (x0 m) (makes first (p1 m))

abbrev pub y1 : Mode → Lying
y1 m = after_all lying (y0 m) (stores first (b1 m))

abbrev pub x2 : Mode → Lying
x2 m = after_all lying (x1 m) (answers first (p1c m))

abbrev pub x3 : Mode → Lying
x3 m = after_all lying (x2 m) (makes second (p3 m))

abbrev pub y2 : Mode → Lying
y2 m = after_all lying (y1 m) (stores second (b2 m) ++ map Say (commit_line first (b2c m)))

pub plain_x0 : (m : Mode) → Plain both (x0 m)
plain_x0 m = (blank_plain m both).0

pub plain_y0 : (m : Mode) → Plain both (y0 m)
plain_y0 m = (blank_plain m both).1

pub plain_x1 : (m : Mode) → Plain both (x1 m)
plain_x1 m = plain_all both (makes first (p1 m)) (x0 m) ((inl refl, first_taken), (tt, (tt, tt))) (plain_x0 m)

pub plain_y1 : (m : Mode) → Plain both (y1 m)
plain_y1 m = plain_all both (stores first (b1 m)) (y0 m) ((inl refl, first_taken), (tt, tt)) (plain_y0 m)

pub plain_x2 : (m : Mode) → Plain both (x2 m)
plain_x2 m = plain_all both (answers first (p1c m)) (x1 m) (answers_first m) (plain_x1 m)

pub plain_x3 : (m : Mode) → Plain both (x3 m)
plain_x3 m = plain_all both (makes second (p3 m)) (x2 m) ((inr (inl refl), second_taken), (tt, (tt, tt))) (plain_x2 m)

pub reads_x1 : (m : Mode) → lying.entry (x1 m) 1 ≡ Some first
unfolding after_all
reads_x1 m = written_there false first (x0 m).face (plain_x0 m).count first_taken

pub reads_y2 : (m : Mode) → lying.entry (stores_second m (y1 m)) 1 ≡ Some first
unfolding after_all
reads_y2 m = written_apart false second (y1 m).face 1 (λ e. omega (arith, e)) ∙ written_there false first (y0 m).face (plain_y0 m).count first_taken

pub reads_x3 : (m : Mode) → lying.entry (x3 m) 2 ≡ Some second
unfolding after_all
reads_x3 m = entry_there both false second (x2 m) (plain_x2 m) second_taken

-- ---- the whole path

abbrev pub world_1 : Mode → World Lying
world_1 m = group_of m (host (p1 m) (x1 m)) (host (b0 m) (y0 m)) (sent_1 m)

abbrev pub world_2 : Mode → World Lying
world_2 m = group_of m (host (p1 m) (x1 m)) (host (b1 m) (y1 m)) (sent_2 m)

abbrev pub world_3 : Mode → World Lying
world_3 m = group_of m (host (p2 m) (x2 m)) (host (b1 m) (y1 m)) (sent_2 m)

abbrev pub world_4 : Mode → World Lying
world_4 m = group_of m (host (p3 m) (x3 m)) (host (b1 m) (y1 m)) (sent_4 m)

abbrev pub world_5 : Mode → World Lying
world_5 m = group_of m (host (p3 m) (x3 m)) (host (b3 m) (y2 m)) (sent_5 m)

hashed : (m : Mode) → Hashes (IsText both) (fresh_world hazards (of_mode m) 3) plain
hashed m =
    let w0 = group_of m (host (p0 m) (x0 m)) (host (b0 m) (y0 m)) [] in
    let h5 : Hashes (IsText both) (world_5 m) (drop 5 plain) = then_lines (IsText both) (world_5 m) (happens hazards (world_5 m) (Arrives 5)).world (Arrives 5) [] refl (line_5 m (x3 m) (y2 m) (plain_x3 m) (reads_x3 m)) (none_left (IsText both) (happens hazards (world_5 m) (Arrives 5)).world root) in
    let h4 : Hashes (IsText both) (world_4 m) (drop 4 plain) = then_lines (IsText both) (world_4 m) (world_5 m) (Arrives 3) (drop 5 plain) (goes_4 m (x3 m) (y1 m) (reads_y2 m)) (line_4 m (x3 m) (y1 m) (plain_y1 m) (reads_y2 m)) h5 in
    let h3 : Hashes (IsText both) (world_3 m) (drop 3 plain) = then_lines (IsText both) (world_3 m) (world_4 m) (AsksInVersion 0 puts) (drop 4 plain) (goes_3 m (x2 m) (host (b1 m) (y1 m))) (line_3 m (x2 m) (host (b1 m) (y1 m)) (plain_x2 m)) h4 in
    let h2 : Hashes (IsText both) (world_2 m) (drop 2 plain) = then_lines (IsText both) (world_2 m) (world_3 m) (Arrives 2) (drop 3 plain) (goes_2 m (x1 m) (host (b1 m) (y1 m)) (reads_x1 m)) (line_2 m (x1 m) (host (b1 m) (y1 m)) (plain_x1 m) (reads_x1 m)) h3 in
    let h1 : Hashes (IsText both) (world_1 m) (drop 1 plain) = then_lines (IsText both) (world_1 m) (world_2 m) (Arrives 0) (drop 2 plain) (goes_1 m (x1 m) (y0 m)) (line_1 m (x1 m) (y0 m) (plain_y0 m)) h2 in
    let h0 : Hashes (IsText both) w0 plain = then_lines (IsText both) w0 (world_1 m) (AsksInVersion 0 registers) (drop 1 plain) (goes_0 m (x0 m) (host (b0 m) (y0 m))) (line_0 m (x0 m) (host (b0 m) (y0 m)) (plain_x0 m)) h1 in
    subst (λ (w : World Lying). Hashes (IsText both) w plain) (sym (begins m)) h0

pub plain_never : (m : Mode) → NoCollision (IsHashed (fresh_world hazards (of_mode m) 3) plain)
plain_never m = tells_apart (IsHashed (fresh_world hazards (of_mode m) 3) plain) (λ b h. inl (hashed m b h))
