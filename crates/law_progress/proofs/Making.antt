-- The entry of a request is made and stored, and acknowledgements of it are counted.
use Rattle.std.proofs.Common.{arith, ℕ, ◌+◌, ◌-◌, ◌<◌, ◌≤◌, ◌≡◌, ◌∙◌, inl, inr, refl, sym, ap, subst, Bool, true, cond, List, [], ◌∷◌, ◌++◌, length, get_or, map, Option, Some, None, ◌%◌, append-nil}
use Rattle.std.specs.Prelude.{All}
use Rattle.std.specs.Option.{option_and_then}
use Rattle.std.proofs.lemmas.Bool.{cases_eq}
use Rattle.std.proofs.lemmas.List.{get_or-drop, get_or-set_same}
use Rattle.std.proofs.lemmas.List.Elements.{All-cons, All-nil, All-weaker}
use Rattle.vr_base.specs.Replicas.{has_replica, no_replicas, with_replica}
use Rattle.vr_base.specs.declared.replicas.Replicas.{Replicas}
use Rattle.vr_header.proofs.SameHeaders.{same_header_of}
use Rattle.vr_header.specs.declared.header.Header.{Header}
use Rattle.vr_header.specs.declared.part.Part.TheVariants.{Here}
use Rattle.vr_header.specs.Made.{Whole}
use Rattle.vr_header.specs.Same.{same_header}
use Rattle.vr_header.specs.Parts.{has_header}
use Rattle.vr_msg.specs.declared.frame.Frame.{Frame}
use Rattle.vr_msg.specs.declared.frame.PrepareOk.{PrepareOk}
use Rattle.vr_msg.specs.declared.output.Output.{Output}
use Rattle.vr_msg.specs.declared.output.Sent.{Sent}
use Rattle.vr_msg.specs.declared.request.RequestFields.{RequestFields}
use Rattle.vr_rules.proofs.Heads.{forgetting_at, forgetting_checkpoint, forgetting_first, forgetting_head, gone, head_knows, head_reaches, with_part_at, with_part_spans}
use Rattle.vr_rules.proofs.Keeping.{spans_of}
use Rattle.vr_rules.proofs.Ruling.{keeps_acknowledged}
use Rattle.vr_rules.proofs.Storing.{MayStore, kept_stored, with_part_known}
use Rattle.vr_rules.specs.Outputs.{messages, others, prepare, send, send_to_all}
use Rattle.vr_rules.specs.Replica.{Replica, ackers_at, forgetting, head, knows, part_at, with_part}
use Rattle.vr_rules.specs.Rules.{acknowledged, make, next_entry}
use Rattle.vr_rules.specs.Sound.{IsSound}
use Rattle.vr_rules.specs.Steps.{Effect, Say, Setting, Step, Write, ◌⨾◌, after_all, change, does, outputs, says}
use Rattle.vr_rules.specs.Words.{advance, entry_of, stored, write, writes}
use Rattle.law_progress.proofs.Lists.{has_new, has_old, with_flags}
use Rattle.law_progress.proofs.Mute.{sends, sends_said}
use Rattle.law_progress.proofs.Standing as standing
use Rattle.law_progress.proofs.Standing.{Stands}
use Rattle.law_progress.specs.Answering.{LeadsLevel}

-- ---- who has acknowledged an op

part_acks : (k : ℕ) (h : Header) (r : Replica) (j : ℕ) → ackers_at (with_part k (Here h) r) j ≡ ackers_at r j
unfolding with_part
part_acks k h r j = refl

part_checkpoint : (k : ℕ) (h : Header) (r : Replica) → (with_part k (Here h) r).checkpoint ≡ r.checkpoint
unfolding with_part
part_checkpoint k h r = refl

forgot_acks : (r : Replica) (k : ℕ) → r.first + gone r ≤ k → ackers_at (forgetting r) k ≡ ackers_at r k
unfolding forgetting
forgot_acks r k l =
    let place : gone r + (k - (r.first + gone r)) ≡ k - r.first = omega (arith, l) in
    get_or-drop (gone r) r.ackers (k - (r.first + gone r)) no_replicas ∙ ap (λ i. get_or r.ackers i no_replicas) place

-- ---- what is sent to all others

abbrev pub sent_to : Frame → Replica → ℕ → Sent
sent_to message r to = record { from = r.index; to = to; message = message }

sent_each : (message : Frame) (r : Replica) (xs : List ℕ) → messages (map (λ to. send to message r) xs) ≡ map (sent_to message r) xs
unfolding messages
sent_each message r [] = refl
sent_each message r (x ∷ xs) = ap (λ (ys : List Sent). sent_to message r x ∷ ys) (sent_each message r xs)

sent_all : (message : Replica → Frame) (r : Replica) → messages (send_to_all message r) ≡ map (sent_to (message r) r) (others r.index r.n)
unfolding send_to_all
sent_all message r = sent_each (message r) r (others r.index r.n)

module _ {F : Type 0} (s : Setting F) (q : RequestFields) (old : Replica) (l : LeadsLevel old) (sound : IsSound old) where
  abbrev pub e : Whole
  e = next_entry s.hash q old

  entry_op : e.header.op ≡ old.commit + 1
  unfolding next_entry
  entry_op = ap (λ k. k + 1) l.level

  -- the primary with the entry
  abbrev pub made : Replica
  made = stored e old

  made_same : made ≡ standing.apart_from old made
  unfolding forgetting with_part
  made_same = refl

  module _ (may : MayStore e old) where
    made_sound : IsSound made
    made_sound = (kept_stored e old sound may).sound

    abbrev k : ℕ
    k = e.header.op

    abbrev laid : Replica
    laid = with_part k (Here e.header) old

    low : laid.first + gone laid ≤ k
    low =
        let reach = made_sound.lists.reach in
        let first = forgetting_first laid in
        let checkpoint = forgetting_checkpoint laid in
        let same = part_checkpoint k e.header old in
        let above = may.above in
        omega (arith, reach, first, checkpoint, same, above)

    laid_here : part_at laid k ≡ Here e.header
    laid_here =
        let reach = sound.lists.reach in
        let parts = sound.lists.parts in
        let above = may.above in
        let window = may.window in
        with_part_at k (Here e.header) old (omega (arith, reach, above)) (omega (arith, parts, window))

    made_here : part_at made k ≡ Here e.header
    made_here = forgetting_at laid k low ∙ laid_here

    made_reaches : k ≤ head made
    made_reaches =
        let spans = spans_of old sound in
        let reach = sound.lists.reach in
        let above = may.above in
        let same = part_checkpoint k e.header old in
        let level = l.level in
        let op = entry_op in
        let up = head_reaches laid k (with_part_spans k (Here e.header) old spans) (λ j a b. elim (cases_eq j k) [
          | inl at ↦ subst (λ i. knows laid i ≡ true) (sym at) (ap has_header laid_here)
          | inr other ↦ with_part_known k (Here e.header) old j spans (omega (arith, reach, above)) may.window (λ i. refl) (head_knows old j spans (omega (arith, a, same)) (omega (arith, b, other, level, op)))
        ]) in
        let at = forgetting_head laid (with_part_spans k (Here e.header) old spans) in
        omega (arith, up, at)

    made_acks : ackers_at made k ≡ no_replicas
    made_acks =
        let level = l.level in
        let op = entry_op in
        let place : old.commit + 1 ≡ head old + 1 = omega (arith, level) in
        forgot_acks laid k low ∙ part_acks k e.header old k ∙ ap (ackers_at old) (op ∙ place) ∙ l.unheard

    pub made_stands : (f : F) → entry_of e.header s f ≡ Some e → Stands s q old [] made f
    made_stands f reads = record {
      same = made_same;
      sound = made_sound;
      reaches = let reaches = made_reaches in let op = entry_op in omega (arith, reaches, op);
      here = subst (λ i. part_at made i ≡ Here e.header) entry_op made_here;
      flags = ap (λ (x : Replicas). length x.0) (subst (λ i. ackers_at made i ≡ no_replicas) entry_op made_acks);
      acks = All-nil (λ i. has_replica (ackers_at made (old.commit + 1)) i ≡ true);
      reads = reads;
    }

  -- ---- an acknowledgement is counted

  module _ (a : PrepareOk) (acked : List ℕ) (r : Replica) (f : F) (t : Stands s q old acked r f) (at : a.op ≡ old.commit + 1) (few : a.replica < 6) where
    abbrev after : Replica
    after = acknowledged a r

    head_after : head after ≡ head r
    unfolding head
    head_after = refl

    part_after : (k : ℕ) → part_at after k ≡ part_at r k
    unfolding part_at
    part_after k = refl

    sound_after : IsSound after
    unfolding change
    sound_after = ((keeps_acknowledged a).every s r f t.sound).kept.sound

    acks_after : ackers_at after (old.commit + 1) ≡ with_replica (ackers_at r (old.commit + 1)) a.replica
    acks_after =
        let o = t.sound.order in
        let x = t.sound.lists in
        let ackers = x.ackers in
        let parts = x.parts in
        let reach = x.reach in
        let near = t.sound.near in
        let low = o.applied in
        let commit : r.commit ≡ old.commit = ap (λ (y : Replica). y.commit) t.same in
        let applied : r.applied ≡ old.applied = ap (λ (y : Replica). y.applied) t.same in
        let level = l.applied in
        let within : a.op - r.first < length r.ackers = omega (arith, at, ackers, parts, reach, near, low, commit, applied, level) in
        let placed : ackers_at after a.op ≡ with_replica (ackers_at r a.op) a.replica = get_or-set_same r.ackers (a.op - r.first) (with_replica (ackers_at r a.op) a.replica) no_replicas within in
        subst (λ k. ackers_at after k ≡ with_replica (ackers_at r k) a.replica) at placed

    pub counted_stands : Stands s q old (a.replica ∷ acked) after f
    counted_stands =
        let acks = ackers_at r (old.commit + 1) in
        let new = with_replica acks a.replica in
        let Has : ℕ → Type 0 = λ i. has_replica new i ≡ true in
        let all : All Has (a.replica ∷ acked) = All-cons Has a.replica acked (has_new acks a.replica t.flags few) (All-weaker (λ i. has_replica acks i ≡ true) Has (λ i there. has_old acks a.replica i t.flags there) acked t.acks) in
        record {
          same = ap (λ (x : Replica). record x { ackers = after.ackers }) t.same;
          sound = sound_after;
          reaches = let reaches = t.reaches in let same = head_after in omega (arith, reaches, same);
          here = part_after (old.commit + 1) ∙ t.here;
          flags = ap (λ (x : Replicas). length x.0) acks_after ∙ with_flags acks a.replica t.flags;
          acks = subst (λ x. All (λ i. has_replica x i ≡ true) (a.replica ∷ acked)) (sym acks_after) all;
          reads = t.reads;
        }

  -- ---- the step that makes it

  -- what the entry's slot reads as isn't changed by what is said
  module _ (f : F) (said : (g : F) (o : Output) (slot : ℕ) → s.entry (s.after g (Say o)) slot ≡ s.entry g slot)
      (back : (again : Bool) → s.entry (s.after f (Write again e)) (e.header.op % 64) ≡ Some e) where
    all_said : (os : List Output) (g : F) (slot : ℕ) → s.entry (after_all s g (map Say os)) slot ≡ s.entry g slot
    unfolding after_all
    all_said [] g slot = refl
    all_said (o ∷ os) g slot = all_said os (s.after g (Say o)) slot ∙ said g o slot

    abbrev pub prepares : List Output
    prepares = send_to_all (prepare e) made

    abbrev pub script : List Effect
    script = writes e old ∷ map Say prepares

    pub read_back : entry_of e.header s (after_all s f script) ≡ Some e
    unfolding after_all
    read_back =
        let there = all_said prepares (s.after f (writes e old)) (e.header.op % 64) ∙ back _ in
        ap (λ (o : Option Whole). option_and_then (λ (x : Whole). cond (same_header x.header e.header) (Some x) None) o) there
        ∙ ap (λ (b : Bool). cond b (Some e) None) (same_header_of e.header e.header refl)

    abbrev pub advances : Step
    advances = advance s made (after_all s f script)

    pub make_is : make e s old f ≡ record { replica = advances.replica; script = writes e old ∷ (map Say prepares ++ advances.script) }
    unfolding make write does change says ◌⨾◌ after_all
    make_is = refl

    pub make_waits : advances ≡ record { replica = made; script = [] } → make e s old f ≡ record { replica = made; script = script }
    make_waits waits =
        make_is ∙ ap (λ (x : Step). record { replica = x.replica; script = writes e old ∷ (map Say prepares ++ x.script) }) waits
        ∙ ap (λ (es : List Effect). record { replica = made; script = writes e old ∷ es }) (append-nil (map Say prepares))

    pub script_sends : sends script ≡ map (sent_to (prepare e made) made) (others made.index made.n)
    unfolding outputs
    script_sends = sends_said prepares ∙ sent_all (prepare e) made
