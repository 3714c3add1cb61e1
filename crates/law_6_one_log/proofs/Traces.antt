-- What a run that is safe says of outputs that are its own but for some lines aside.
use Rattle.vr_base.proofs.Members.{least_of}
use Rattle.vr_base.specs.Groups.{least_members}
use Rattle.vr_base.specs.declared.kind.Kind.{Kind}
use Rattle.std.proofs.Common.{ℕ, ◌-◌, ◌^◌, ◌<◌, ◌≤◌, ◌≡◌, ◌∙◌, inl, inr, arith, refl, sym, ap, subst, List, Some}
use Rattle.std.specs.Prelude.{slice_get, take}
use Rattle.vr_header.specs.declared.header.Header.{Header}
use Rattle.vr_header.specs.Made.{Whole}
use Rattle.vr_header.specs.Names.{root_header}
use Rattle.vr_header.specs.NoCollision.{NoCollision}
use Rattle.vr_header.specs.Spelling.{IsHeader}
use Rattle.vr_msg.specs.declared.frame.Frame.{Frame}
use Rattle.vr_msg.specs.declared.frame.Frame.TheVariants as frame
use Rattle.vr_msg.specs.declared.output.Chosen.{Chosen}
use Rattle.vr_msg.specs.declared.output.Committed.{Committed}
use Rattle.vr_msg.specs.declared.output.Output.{Output}
use Rattle.vr_msg.specs.declared.output.Output.TheVariants as output
use Rattle.vr_msg.specs.declared.output.Sent.{Sent}
use Rattle.vr_state.proofs.Once.{each_once}
use Rattle.vr_world.specs.Commitment as said
use Rattle.vr_world.specs.Commitment.{AreCommitted, Evidence, HasSent, IsBackedMessage, IsCommitted, IsLine, Stored, Vouches}
use Rattle.vr_world.specs.Group.{Played, fresh_group}
use Rattle.vr_rules.specs.Opening.{AreKinds, IsKind}
use Rattle.vr_world.specs.Lying.{Lying}
use Rattle.vr_world.specs.Safe.{IsHashed, IsJustified, KeepsEntry, Safe, before, evidence, run_outputs}
use Rattle.vr_world.specs.Storing.{run_stored}
use Rattle.vr_world.specs.World.{Happened}
use Rattle.law_1_machine.specs.Basics.{In}
use Rattle.law_4_disks.specs.Worlds.{IsAside, IsMatched, Said}
use Rattle.law_4_disks.specs.Worlds as worlds
use Rattle.law_3_outputs.specs.Followed.{IsFitRun}
use Rattle.law_2_chains.proofs.StoredLists.{contains_in}
use Rattle.law_3_outputs.proofs.Sets.{get_in, in_get, in_left, in_right}
use Rattle.law_3_outputs.proofs.Traces.{in_either, output_of_move}
use Rattle.law_6_one_log.specs.Laws.{HasOneLog, KeepsLog, KeepsOneLog}
use Rattle.law_6_one_log.specs.Outputs.{IsCutByNacks, IsOnceInSession, IsPlaced, RestsOn}
use Rattle.law_6_one_log.proofs.Places.{in_said, matches, placed}

-- ---- outputs

pub said_in : (ws gs : List Output) → Said ws gs → (o : Output) → (IsAside o → ⊥) → In o ws → In o gs
said_in _ _ worlds.none o not i = absurd i
said_in _ _ (worlds.both os ws gs rest) o not i =
    elim (in_either os ws o i) [
      | inl here ↦ in_left os gs o here
      | inr later ↦ in_right os gs o (said_in ws gs rest o not later)
    ]
said_in _ _ (worlds.aside a ws gs is rest) o not (inl same) = absurd (not (subst IsAside (sym same) is))
said_in _ _ (worlds.aside a ws gs is rest) o not (inr later) = said_in ws gs rest o not later

-- what these send, those send too
abbrev SendNoMore : List Output → List Output → Type 0
SendNoMore xs ys = (s : Sent) → In (output.Send s) xs → In (output.Send s) ys

to_run : (ws gs : List Output) → Said ws gs → SendNoMore ws gs
to_run ws gs all s i = said_in ws gs all (output.Send s) (λ a. a) i

from_run : (ws gs : List Output) → Said ws gs → SendNoMore gs ws
from_run ws gs all s i = in_said ws gs all (output.Send s) i

-- with the same stored
module _ (stored : List Stored) (xs ys : List Output) (all : SendNoMore xs ys) where
  abbrev less : Evidence
  less = record { outputs = xs; stored = stored }

  abbrev more : Evidence
  more = record { outputs = ys; stored = stored }

  sent_said : (r : ℕ) (m : Frame) → HasSent xs r m → HasSent ys r m
  sent_said r m h =
      let g = in_get ys (output.Send (record { from = r; to = h.to; message = m })) (all (record { from = r; to = h.to; message = m }) (get_in xs h.at _ h.is)) in
      record { at = g.0; to = h.to; is = g.1 }

  vouch_said : (n view r : ℕ) (c : Header) → Vouches n less view r c → Vouches n more view r c
  vouch_said n view r c (said.acknowledged a s v k e) = said.acknowledged a (sent_said r _ s) v k e
  vouch_said n view r c (said.prepared p s l v e) = said.prepared p (sent_said r _ s) l v e
  vouch_said n view r c (said.alone one first there) = said.alone one first there

  committed_said : (cluster n view : ℕ) (c : Header) → IsCommitted cluster n less view c → IsCommitted cluster n more view c
  committed_said cluster n _ _ said.root = said.root
  committed_said cluster n _ _ (said.stands_on earlier view d c prior le stands quorum) =
      said.stands_on earlier view d c (committed_said cluster n earlier d prior) le stands
      (record { voters = quorum.voters; enough = quorum.enough; each = λ r h. let y = quorum.each r h in (y.0, vouch_said n view r c y.1) })

  numbers_said : (home n : ℕ) (log : List Whole) (last commit : ℕ) → AreCommitted home n less log last commit → AreCommitted home n more log last commit
  numbers_said home n log last commit h op above upto =
      let e = h op above upto in
      record { entry = e.entry; at = e.at; number = e.number; view = e.view; early = e.early; committed = committed_said home n e.view e.entry.header e.committed }

  message_said : (home n : ℕ) (log : List Whole) (m : Frame) → IsBackedMessage home n less log m → IsBackedMessage home n more log m
  message_said home n log (frame.Request q) h = tt
  message_said home n log (frame.Reply r) h = tt
  message_said home n log (frame.Prepare p) h = numbers_said home n log p.view p.commit h
  message_said home n log (frame.PrepareOk p) h = tt
  message_said home n log (frame.Commit c) h = numbers_said home n log c.view c.commit h
  message_said home n log (frame.StartViewChange s) h = tt
  message_said home n log (frame.DoViewChange d) h = tt
  message_said home n log (frame.StartView v) h = numbers_said home n log v.view v.commit h
  message_said home n log (frame.GetView g) h = tt
  message_said home n log (frame.GetPrepare g) h = tt
  message_said home n log (frame.GivePrepare g) h = tt
  message_said home n log (frame.GetBlock g) h = tt
  message_said home n log (frame.GiveBlock g) h = tt
  message_said home n log (frame.GetSync g) h = tt
  message_said home n log (frame.SyncView v) h = (numbers_said home n log v.view v.commit h.0, h.1)

  -- a choice of a log is justified in what says no more
  justified_said : (n : ℕ) (p : Played) (l : Chosen) → IsJustified n more p l → IsJustified n less p l
  justified_said n p l j = record {
    replica = j.replica;
    is_of = j.is_of;
    event = j.event;
    by_event = j.by_event;
    log_view = j.log_view;
    commit = j.commit;
    reach = j.reach;
    intact = j.intact;
    deniers = j.deniers;
    enough = j.enough;
    each = λ i h. let d = j.each i h in record { statement = d.statement; stated = d.stated; denies = d.denies; silent = λ c op v. d.silent c op (vouch_said n l.log_view i c v) };
  }

  line_said : (home n : ℕ) (log : List Whole) (c : Committed) → IsLine home n less log c → IsLine home n more log c
  line_said home n log c h = record { at = h.at; number = h.number; view = h.view; committed = committed_said home n h.view c.entry.header h.committed }

-- ---- a safe run

module _ (cluster n : ℕ) (run : List Played) (safe : Safe cluster n run) where
  line_at : NoCollision (IsHashed run (root_header cluster)) → (c : Committed) → In (output.Commit c) (run_outputs run) → slice_get safe.log (c.entry.header.op - 1) ≡ Some c.entry
  line_at never c i =
      let m = output_of_move run (output.Commit c) i in
      let k = in_get m.1.moved.outputs (output.Commit c) m.3 in
      (safe.backed m.0 k.0 m.1 (output.Commit c) never (record { at = m.2; is = k.1 })).at

  one_line : NoCollision (IsHashed run (root_header cluster)) → (c d : Committed) → In (output.Commit c) (run_outputs run) → In (output.Commit d) (run_outputs run) → c.entry.header.op ≡ d.entry.header.op → c.entry ≡ d.entry
  one_line never c d i j same =
      let two : Some c.entry ≡ Some d.entry = sym (line_at never c i) ∙ (ap (λ (k : ℕ). slice_get safe.log (k - 1)) same ∙ line_at never d j) in
      cc

  one_entry : (v w : ℕ) (c d : Header) → IsHeader c → IsHeader d → NoCollision (IsHashed run c) → NoCollision (IsHashed run d) → 0 < c.op → c.op ≡ d.op → IsCommitted cluster n (evidence run) v c
      → IsCommitted cluster n (evidence run) w d → c ≡ d
  one_entry v w c d fc fd nc nd above same kc kd =
      let a = safe.one v c fc nc above kc in
      let b = safe.one w d fd nd (omega arith) kd in
      let two : Some a.0 ≡ Some b.0 = sym a.1 ∙ (ap (λ (k : ℕ). slice_get safe.log (k - 1)) same ∙ b.1) in
      let one : a.0 ≡ b.0 = cc in
      sym a.2 ∙ (ap (λ (e : Whole). e.header) one ∙ b.2)

module _ (home n : ℕ) (run : List Played) (safe : Safe home n run) where
  -- what an output that was put out there rests on
  rests : NoCollision (IsHashed run (root_header home)) → (front : List Output) (o : Output) → IsPlaced run front o → RestsOn home n safe.log run front o
  rests never front (output.Send s) x =
      let gs = before run x.move x.number x.moved in
      record { at = x; so = message_said gs.stored gs.outputs front (from_run front gs.outputs x.place) home n safe.log s.message (safe.backed x.move x.number x.moved (output.Send s) never x.is) }
  rests never front (output.Commit c) x =
      let gs = before run x.move x.number x.moved in
      record { at = x; so = line_said gs.stored gs.outputs front (from_run front gs.outputs x.place) home n safe.log c (safe.backed x.move x.number x.moved (output.Commit c) never x.is) }
  rests never front (output.Reply a) x =
      let gs = before run x.move x.number x.moved in
      let so = safe.backed x.move x.number x.moved (output.Reply a) never x.is in
      record { at = x; so = so; committed = numbers_said gs.stored gs.outputs front (from_run front gs.outputs x.place) home n safe.log a.view _ so.applied }
  rests never front (output.Choose l) x = tt
  rests never front (output.Wait w) x = tt
  rests never front (output.Start s) x = tt
  rests never front (output.Halted replica) x = tt
  rests never front (output.Migrated replica) x = tt
  rests never front output.Done x = tt
  rests never front output.KeptOut x = tt

  kept_in : (view : ℕ) (c : Header) → IsHeader c → NoCollision (IsHashed run c) → 0 < c.op → IsCommitted home n (evidence run) view c → (o : Output) → In o (run_outputs run) → KeepsEntry view c o
  kept_in view c form never above is o i =
      let m = output_of_move run o i in
      let k = in_get m.1.moved.outputs o m.3 in
      safe.kept view c form never above is m.0 k.0 m.1 o (record { at = m.2; is = k.1 })

  cut_in : NoCollision (IsHashed run (root_header home)) → (front outputs : List Output) → SendNoMore outputs (run_outputs run) → (l : Chosen) → IsPlaced run front (output.Choose l) → IsCutByNacks n run front outputs l
  cut_in never front outputs all l x = record { at = x; so = justified_said (run_stored run) outputs (run_outputs run) all n x.moved l (safe.backed x.move x.number x.moved (output.Choose l) never x.is) }

-- ---- what happened

-- lines of stops and faults say nothing of an entry
kept_aside : (view : ℕ) (c : Header) (o : Output) → ((IsAside o → ⊥) → KeepsEntry view c o) → KeepsEntry view c o
kept_aside view c (output.Send s) h = h (λ a. a)
kept_aside view c (output.Choose l) h = h (λ a. a)
kept_aside view c (output.Commit l) h = tt
kept_aside view c (output.Reply a) h = tt
kept_aside view c (output.Wait w) h = tt
kept_aside view c (output.Start s) h = tt
kept_aside view c (output.Halted replica) h = tt
kept_aside view c (output.Migrated replica) h = tt
kept_aside view c output.Done h = tt
kept_aside view c output.KeptOut h = tt

rests_aside : (home n : ℕ) (log : List Whole) (run : List Played) (front : List Output) (o : Output) → ((IsAside o → ⊥) → RestsOn home n log run front o) → RestsOn home n log run front o
rests_aside home n log run front (output.Send s) h = h (λ a. a)
rests_aside home n log run front (output.Choose l) h = tt
rests_aside home n log run front (output.Commit l) h = h (λ a. a)
rests_aside home n log run front (output.Reply a) h = h (λ a. a)
rests_aside home n log run front (output.Wait w) h = tt
rests_aside home n log run front (output.Start s) h = tt
rests_aside home n log run front (output.Halted replica) h = tt
rests_aside home n log run front (output.Migrated replica) h = tt
rests_aside home n log run front output.Done h = tt
rests_aside home n log run front output.KeptOut h = tt

place_of : (run : List Played) (ws : List Output) → Said ws (run_outputs run) → (number : ℕ) (o : Output) → slice_get ws number ≡ Some o → (IsAside o → ⊥) → IsPlaced run (take number ws) o
place_of run ws all number o e not =
    let m = matches ws (run_outputs run) all number o e not in
    let p = placed run m.at o m.is in
    record { move = p.move; number = p.number; moved = p.moved; is = p.is; place = rw p.same m.said }

once : (log : List Whole) → IsOnceInSession log
once log before between later d e is client request first second = each_once before between d e client request first second

-- what happened keeps the log of the run that it is
pub kept_of : (kinds : ℕ → Kind) (home n : ℕ) (h : Happened Lying) (m : IsMatched (fresh_group kinds home n) h) → NoCollision (IsHashed m.run (root_header home)) → (o : HasOneLog home n m.run) → (k : KeepsLog kinds home n h) × (k.safe.log ≡ o.safe.log)
kept_of kinds home n h m never o =
    let s = o.safe in
    let gs = run_outputs m.run in
    let all = to_run h.outputs gs m.said in (
      record {
        matched = m;
        safe = s;
        names = never;
        folds = λ t p is. (o.folds never t p is).1;
        rests = λ number o e. rests_aside home n s.log m.run (take number h.outputs) o (λ not. rests home n m.run s never (take number h.outputs) o (place_of m.run h.outputs m.said number o e not));
        lines = λ c d i j same. one_line home n m.run s never c d (said_in h.outputs gs m.said (output.Commit c) (λ a. a) (contains_in (output.Commit c) h.outputs i))
            (said_in h.outputs gs m.said (output.Commit d) (λ a. a) (contains_in (output.Commit d) h.outputs j)) same;
        logged = λ v c fc nc above kc. s.one v c fc nc above (committed_said (run_stored m.run) h.outputs gs all home n v c kc);
        one = λ v w c d fc fd nc nd above same kc kd. one_entry home n m.run s v w c d fc fd nc nd above same (committed_said (run_stored m.run) h.outputs gs all home n v c kc) (committed_said (run_stored m.run) h.outputs gs all home n w d kd);
        kept = λ v c fc nc above kc o i. kept_aside v c o (λ not. kept_in home n m.run s v c fc nc above (committed_said (run_stored m.run) h.outputs gs all home n v c kc) o (said_in h.outputs gs m.said o not (contains_in o h.outputs i)));
        cut = λ number l e. cut_in home n m.run s never (take number h.outputs) h.outputs all l (place_of m.run h.outputs m.said number (output.Choose l) e (λ a. a));
        once = once s.log;
      },
      refl,
    )

pub keeps_log : (kinds : ℕ → Kind) (home n : ℕ) → AreKinds kinds n → home < 2 ^ 64 → 1 ≤ n → n ≤ 6 → ((run : List Played) → IsFitRun home n run → HasOneLog home n run) → (h : Happened Lying) (m : IsMatched (fresh_group kinds home n) h) → NoCollision (IsHashed m.run (root_header home))
    → KeepsLog kinds home n h
keeps_log kinds home n k number some many one h m never =
    let fit : IsFitRun home n m.run = record { number = number; some = some; many = many; moves = m.reads; files = m.files; kinds = kinds; are_kinds = k; of_run = m.is } in
    (kept_of kinds home n h m never (one m.run fit)).0

-- of the group that a schedule begins
pub keeps : (kind : Kind) (n : ℕ) → IsKind kind → least_members kind.version ≤ n → n ≤ 6 → ((run : List Played) → IsFitRun 0 n run → HasOneLog 0 n run) → (h : Happened Lying) (m : IsMatched (fresh_group (λ i. kind) 0 n) h) → NoCollision (IsHashed m.run (root_header 0))
    → KeepsOneLog kind n h
keeps kind n k least many one h m never = let some = (least_of kind.version).0 in keeps_log (λ i. kind) 0 n (λ i l. (k, least)) (omega arith) (omega (arith, some, least)) many one h m never
