-- At its end a step sends what it said.
use Rattle.std.proofs.Common.{ℕ, ◌%◌, ◌≤◌, arith, ◌≡◌, ◌∙◌, ◌⊎◌, inl, inr, refl, sym, ap, subst, List, [], ◌∷◌, Some}
use Rattle.vr_header.specs.declared.header.Header.{Header}
use Rattle.vr_msg.specs.declared.frame.Frame.{Frame}
use Rattle.vr_msg.specs.declared.frame.Frame.TheVariants as frame
use Rattle.vr_msg.specs.declared.output.Output.{Output}
use Rattle.vr_msg.specs.declared.output.Output.TheVariants as output
use Rattle.vr_msg.specs.declared.output.Sent.{Sent}
use Rattle.vr_rules.specs.Replica.{Replica}
use Rattle.vr_rules.specs.Steps.{Step}
use Rattle.law_1_machine.specs.Basics.{In}
use Rattle.law_1_machine.specs.Group.{Group, sends}
use Rattle.law_1_machine.specs.Members.{Memory, Message}
use Rattle.law_1_machine.specs.Members as machine
use Rattle.law_1_machine.specs.Headers.{Headers}
use Rattle.law_1_machine.specs.Laws.{Backed, Committed, at_root, stands_on}
use Rattle.law_1_machine.specs.Quorums.{Quorums}
use Rattle.law_1_machine.specs.Machine as move
use Rattle.law_1_machine.proofs.Laws.{log_backed}
use Rattle.law_1_machine.proofs.Moves.{memory_of, reached_good}
use Rattle.law_2_chains.specs.Local.{Local, carried}
use Rattle.law_2_chains.specs.Reflecting.{entries_by, IsDisk}
use Rattle.vr_rules.specs.Words.{log_header}
use Rattle.vr_rules.specs.Deciding.{log_of}
use Rattle.law_2_chains.specs.Chains.{WasMade, Setup, IsReached, WasSent, MayBeSent, MayBeSaid, Every, Mid, Goes}
use Rattle.law_2_chains.proofs.Moving.{stops}
use Rattle.law_2_chains.specs.Finished.{AreBacked, IsSaid, acknowledged, prepared, a_commit, a_start, a_checkpoint, a_statement, IsTrue, Finished, Finishes}

-- where more was sent, what is committed stays so
pub committed_more : {H : Type 0} (q : Quorums) (hs : Headers H) (a b : List (Message H)) → ((m : Message H) → In m a → In m b) → (u k : ℕ) (c : H) → Committed q hs a u k c → Committed q hs b u k c
committed_more q hs a b f _ _ _ at_root = at_root
committed_more q hs a b f _ _ _ (stands_on u v k c d le before e set enough each) =
    stands_on u v k c d le (committed_more q hs a b f v k d before) e set enough (λ i l t. elim (each i l t) [ inl h ↦ inl (f _ h) | inr p ↦ inr (p.0, (p.1.0, f _ p.1.1)) ])

-- more was sent
pub sent_more : (u : Setup) (a b : List (Message Header)) → ((m : Message Header) → In m a → In m b) → (x : Frame) → WasSent u a x → WasSent u b x
sent_more u a b f (frame.Request q) h = tt
sent_more u a b f (frame.Reply y) h = tt
sent_more u a b f (frame.Prepare p) h = f _ h
sent_more u a b f (frame.PrepareOk y) h = (h.0, h.1, f _ h.2)
sent_more u a b f (frame.Commit c) h = f _ h
sent_more u a b f (frame.StartViewChange c) h = tt
sent_more u a b f (frame.DoViewChange d) h = f _ h
sent_more u a b f (frame.StartView v) h = f _ h
sent_more u a b f (frame.GetView g) h = tt
sent_more u a b f (frame.GetPrepare g) h = tt
sent_more u a b f (frame.GivePrepare g) h = tt
sent_more u a b f (frame.GetBlock g) h = tt
sent_more u a b f (frame.GiveBlock g) h = tt
sent_more u a b f (frame.GetSync g) h = tt
sent_more u a b f (frame.SyncView v) h = (f _ h.0, (h.1.0, f _ h.1.1))

pub true_more : (u : Setup) (before a b : List (Message Header)) → ((m : Message Header) → In m a → In m b) → (o : Output) → IsTrue u before a o → IsTrue u before b o
true_more u before a b f (output.Send s) h = (sent_more u a b f s.message h.0, h.1)
true_more u before a b f (output.Commit c) h = h
true_more u before a b f (output.Reply r) h = tt
true_more u before a b f (output.Choose c) h = tt
true_more u before a b f (output.Wait w) h = tt
true_more u before a b f (output.Start s) h = tt
true_more u before a b f (output.Halted r) h = tt
true_more u before a b f (output.Migrated r) h = tt
true_more u before a b f output.Done h = tt
true_more u before a b f output.KeptOut h = tt

-- a message is still said where more is
pub said_more : (u : Setup) (os ps : List Output) → ((o : Output) → In o os → In o ps) → (m : Message Header) → IsSaid u os m → IsSaid u ps m
said_more u os ps f _ (acknowledged s a h i e n) = acknowledged s a h (f (output.Send s) i) e n
said_more u os ps f _ (prepared s p i e) = prepared s p (f (output.Send s) i) e
said_more u os ps f _ (a_commit from v c) = a_commit from v c
said_more u os ps f _ (a_start from v lo top c hs) = a_start from v lo top c hs
said_more u os ps f _ (a_checkpoint from v p root) = a_checkpoint from v p root
said_more u os ps f _ (a_statement from v t) = a_statement from v t

module _ (u : Setup) (before : List (Message Header)) (i : ℕ) (m : Memory Header) (served : AreBacked u before m.log_view m.commit) where
  -- a commit number up to the memory's, in its view
  numbers : (view commit : ℕ) → m.log_view ≡ view → commit ≤ m.commit → AreBacked u before view commit
  numbers view commit same l k z a = subst (λ v. (h : Header) × Backed u.quorums (entries_by u.hash u.cluster) before v k h) same (served k z (omega arith))

  -- some are sent of what was said
  pub record Sends (s : Group Header) (os : List Output) : Type 0 where
    pub after : Group Header
    pub reached : IsReached u after
    pub members : after.members ≡ s.members
    pub made : after.made ≡ s.made
    pub chosen : after.chosen ≡ s.chosen
    pub more : (x : Message Header) → In x s.sent → In x after.sent
    pub told : Every (IsTrue u before after.sent) os
    pub only : (x : Message Header) → In x after.sent → In x s.sent ⊎ IsSaid u os x

  abbrev Runs : Group Header → Type 0
  Runs s = (s.members i).memory ≡ Some m

  -- one message
  send_one : (s : Group Header) (o : Output) (x : Message Header) → IsReached u s → move.Step u.quorums (entries_by u.hash u.cluster) s (sends s x) → IsTrue u before (x ∷ s.sent) o → IsSaid u (o ∷ []) x → Sends s (o ∷ [])
  send_one s o x reached step true said = record {
    after = sends s x;
    reached = move.and_then s (sends s x) reached step;
    members = refl;
    made = refl;
    chosen = refl;
    more = λ y h. inr h;
    told = (true, tt);
    only = λ y h. elim h [ inl e ↦ inr (subst (IsSaid u (o ∷ [])) (sym e) said) | inr h ↦ inl h ];
  }

  send_none : (s : Group Header) (o : Output) → IsReached u s → IsTrue u before s.sent o → Sends s (o ∷ [])
  send_none s o reached true = record { after = s; reached = reached; members = refl; made = refl; chosen = refl; more = λ y h. h; told = (true, tt); only = λ y h. inl h }

  send_frame : (s : Group Header) (w : Sent) (x : Frame) → w.message ≡ x → IsReached u s → Runs s → MayBeSent u i m (s.members i).slots x → (IsTrue u before s.sent (output.Send w) → Sends s (output.Send w ∷ [])) → Sends s (output.Send w ∷ [])
  send_frame s w (frame.Request q) e reached runs may none = none (rw e (tt, tt))
  send_frame s w (frame.Reply a) e reached runs may none = none (rw e (tt, tt))
  send_frame s w (frame.Prepare p) e reached runs may none =
      let v = may.2 in
      let op : ℕ = p.entry.header.op in
      let x : Message Header = machine.Prepare i m.log_view op p.entry.header p.commit in
      let is : machine.Prepare p.replica p.view op p.entry.header p.commit ≡ x = rw (may.0, v.of_log) refl in
      send_one s (output.Send w) x reached (move.prepares i m op p.entry.header p.commit runs (record { at = v.in_view ∙ sym v.of_log; known = v.known; held = v.held }) (may.1 ∙ ap (λ y. y % u.quorums.n) (sym v.of_log)) may.3)
      (rw e (inl is, numbers p.view p.commit v.of_log may.3)) (subst (IsSaid u (output.Send w ∷ [])) is (prepared w p (inl refl) e))
  send_frame s w (frame.PrepareOk a) e reached runs may none =
      let h = may.1.0 in
      let v = may.1.2 in
      let x : Message Header = machine.Prepare_ok i m.log_view a.op h in
      let is : machine.Prepare_ok a.replica a.view a.op h ≡ x = rw (may.0, v.of_log) refl in
      send_one s (output.Send w) x reached (move.accepts i m a.op h runs (record { at = v.in_view ∙ sym v.of_log; known = v.known; held = v.held }))
      (rw e ((h, may.1.1, inl is), tt)) (subst (IsSaid u (output.Send w ∷ [])) is (acknowledged w a h (inl refl) e may.1.1))
  send_frame s w (frame.Commit c) e reached runs may none =
      let x : Message Header = machine.Commit i m.log_view c.commit in
      let is : machine.Commit c.replica c.view c.commit ≡ x = rw (may.0, may.2) refl in
      send_one s (output.Send w) x reached (move.says i m x runs (move.commits c.commit (may.1 ∙ sym may.2) may.3)) (rw e (inl is, numbers c.view c.commit may.2 may.3)) (a_commit i m.log_view c.commit)
  send_frame s w (frame.StartViewChange c) e reached runs may none = none (rw e (tt, tt))
  send_frame s w (frame.DoViewChange d) e reached runs may none = absurd may
  send_frame s w (frame.StartView v) e reached runs may none =
      let y = may.1 in
      let x : Message Header = machine.Start_view i m.log_view v.body.lo m.head v.commit (log_header (log_of v)) in
      let is : machine.Start_view v.replica v.view v.body.lo v.head v.commit (log_header (log_of v)) ≡ x = rw (may.0, y.of_log, y.reach) refl in
      send_one s (output.Send w) x reached
      (move.says i m x runs (move.starts_view v.body.lo v.commit (log_header (log_of v)) (y.in_view ∙ sym y.of_log) y.backed
      (λ k h is. let z = y.known k h is in (z.0, rw y.reach (z.1), z.2)) (λ k a b. let top : k ≤ v.head = subst (λ n. k ≤ n) y.reach b in y.whole k a top)))
      (rw e (inl is, numbers v.view v.commit y.of_log y.backed)) (a_start i m.log_view v.body.lo m.head v.commit (log_header (log_of v)))
  send_frame s w (frame.GetView g) e reached runs may none = none (rw e (tt, tt))
  send_frame s w (frame.GetPrepare g) e reached runs may none = none (rw e (tt, tt))
  send_frame s w (frame.GivePrepare g) e reached runs may none = none (rw e (tt, tt))
  send_frame s w (frame.GetBlock g) e reached runs may none = none (rw e (tt, tt))
  send_frame s w (frame.GiveBlock g) e reached runs may none = none (rw e (tt, tt))
  send_frame s w (frame.GetSync g) e reached runs may none = none (rw e (tt, tt))
  send_frame s w (frame.SyncView v) e reached runs may none = absurd may

  send_output : (s : Group Header) (o : Output) → IsReached u s → Runs s → MayBeSaid u before i m (s.members i).slots o → Sends s (o ∷ [])
  send_output s (output.Send w) reached runs may = send_frame s w w.message refl reached runs may (send_none s (output.Send w) reached)
  send_output s (output.Commit c) reached runs may = send_none s (output.Commit c) reached may
  send_output s (output.Reply a) reached runs may = send_none s (output.Reply a) reached tt
  send_output s (output.Choose c) reached runs may = send_none s (output.Choose c) reached tt
  send_output s (output.Wait w) reached runs may = send_none s (output.Wait w) reached tt
  send_output s (output.Start w) reached runs may = send_none s (output.Start w) reached tt
  send_output s (output.Halted r) reached runs may = send_none s (output.Halted r) reached tt
  send_output s (output.Migrated r) reached runs may = send_none s (output.Migrated r) reached tt
  send_output s output.Done reached runs may = send_none s output.Done reached tt
  send_output s output.KeptOut reached runs may = send_none s output.KeptOut reached tt

  pub send_all : (os : List Output) (s : Group Header) → IsReached u s → Runs s → Every (MayBeSaid u before i m (s.members i).slots) os → Sends s os
  send_all [] s reached runs may = record { after = s; reached = reached; members = refl; made = refl; chosen = refl; more = λ x h. h; told = tt; only = λ x h. inl h }
  send_all (o ∷ os) s reached runs may =
      let one = send_output s o reached runs may.0 in
      let same = one.members in
      let runs' : Runs one.after = ap (λ f. (f i).memory) same ∙ runs in
      let may' = subst (λ f. Every (MayBeSaid u before i m (f i).slots) os) (sym same) may.1 in
      let rest = send_all os one.after one.reached runs' may' in
      record {
        after = rest.after;
        reached = rest.reached;
        members = rest.members ∙ same;
        made = rest.made ∙ one.made;
        chosen = rest.chosen ∙ one.chosen;
        more = λ x h. rest.more x (one.more x h);
        told = (true_more u before one.after.sent rest.after.sent rest.more o one.told.0, rest.told);
        only = λ x h. elim (rest.only x h) [
          | inr said ↦ inr (said_more u os (o ∷ os) (λ p j. inr j) x said)
          | inl old ↦ elim (one.only x old) [
            | inl older ↦ inl older
            | inr said ↦ inr (said_more u (o ∷ []) (o ∷ os) (λ p j. elim j [ inl e ↦ inl e | inr none ↦ absurd none ]) x said)
          ]
        ];
      }

-- ---- the end

-- a running member's commit number is backed by what was sent before its step
pub counted : (u : Setup) (start : Group Header) (i : ℕ) (r : Replica) (l : Local) (s : Group Header) (x : Mid u start i r l s) → AreBacked u start.sent x.memory.log_view x.memory.commit
counted u start i r l s x k z a =
    let q = u.quorums in
    let hs = entries_by u.hash u.cluster in
    let good = reached_good q hs s x.under.reached in
    let knows = (memory_of q hs good.0 s good.1 i x.memory x.running).1.knows in
    let is = log_backed q hs good.0 s good.1 x.memory.log_view x.memory.commit k knows.begun knows.settled z a in
    subst (λ sent. (h : Header) × Backed q hs sent x.memory.log_view k h) x.under.sent (good.0.log x.memory.log_view k, is)

pub finished : (u : Setup) (start : Group Header) (i : ℕ) (r : Replica) (l : Local) (s : Group Header) → Mid u start i r l s → (a : Group Header) × Finished u start i r l a
finished u start i r l s x =
    let y = send_all u start.sent i x.memory (counted u start i r l s x) l.said s x.under.reached x.running x.ready in
    let same = y.members in (
      y.after,
      record {
        reached = y.reached;
        others = λ j n. ap (λ f. f j) same ∙ x.under.others j n;
        disk = subst (λ f. IsDisk l.member (f i)) (sym same) x.under.disk;
        made = subst (λ z. Every (WasMade z) l.made) (sym y.made) x.under.made;
        none_made = y.made ∙ x.under.none_made;
        memory = x.memory;
        running = ap (λ f. (f i).memory) same ∙ x.running;
        reflects = x.reflects;
        sound = x.sound;
        place = x.place;
        size = x.size;
        stored = x.stored;
        served = counted u start i r l s x;
        kept = λ m h. y.more m (subst (In m) (sym x.under.sent) h);
        chosen = λ c h. subst (In c) (sym y.chosen) (x.under.chosen c h);
        told = y.told;
        only = λ m h. elim (y.only m h) [ inl old ↦ inl (subst (In m) x.under.sent old) | inr said ↦ inr said ];
      },
    )

-- a word that is a chain can be carried out to its end
pub goes_finishes : (u : Setup) (start : Group Header) (i : ℕ) (l : Local) (x : Step) → Goes u start i l x → Finishes u start i l x
goes_finishes u start i l x g = let y = finished u start i x.replica (carried x.script l) g.after g.ends in record { after = y.0; ends = y.1; cuts = g.cuts; stopped = let z = g.ends.under in stops u start i (carried x.script l) (carried x.script l) g.after z z.disk z.made }
