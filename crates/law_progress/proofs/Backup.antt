-- A backup that lags in nothing takes the prepare, and sends its acknowledgement alone.
use Rattle.std.proofs.Common.{arith, ℕ, ◌<◌, ◌≡◌, ◌≢◌, ◌∙◌, refl, sym, ap, false, List, [], ◌∷◌, ◌++◌, map}
use Rattle.vr_header.specs.declared.header.Header.{Header}
use Rattle.vr_header.specs.Made.{Whole}
use Rattle.vr_header.specs.Names.{name_by}
use Rattle.vr_msg.specs.Normal.{primary}
use Rattle.vr_msg.specs.declared.event.Event.TheVariants as event
use Rattle.vr_msg.specs.declared.frame.Frame.TheVariants as frame
use Rattle.vr_msg.specs.declared.frame.Prepare.{Prepare}
use Rattle.vr_msg.specs.declared.frame.PrepareOk.{PrepareOk}
use Rattle.vr_msg.specs.declared.output.Output.{Output}
use Rattle.vr_msg.specs.declared.output.Sent.{Sent}
use Rattle.vr_msg.specs.declared.request.RequestFields.{RequestFields}
use Rattle.vr_rules.specs.Outputs.{messages, prepare_ok, to_primary}
use Rattle.vr_rules.specs.Replica.{Replica, forgetting, is_frozen, version, with_part}
use Rattle.vr_rules.specs.Rules.{acknowledge, next_entry, react}
use Rattle.vr_rules.specs.Sound.{IsSound}
use Rattle.vr_rules.specs.Steps.{Say, Setting, Step, Word, ◌⨾◌, after_all, change, does, outputs, says}
use Rattle.vr_rules.specs.Words.{learn, rested, stored, write, writes}
use Rattle.law_progress.proofs.Making.{sent_to}
use Rattle.law_progress.proofs.Mute.{Mute, mute_learn, sends, sends_append, sends_said}
use Rattle.law_progress.proofs.Ruling.{IsNextFor, prepare_taken}
use Rattle.law_progress.specs.Answering.{FollowsLevel, LeadsLevel}

-- the prepare of the entry that is made of this request
abbrev pub prepared : {F : Type 0} → Setting F → RequestFields → Replica → Prepare
prepared s q old =
    let e = next_entry s.hash q old in
    let made = stored e old in
    record { version = version made; replica = made.index; view = made.view; commit = made.commit; entry = e }

-- what acknowledges it
abbrev pub vouch : {F : Type 0} → Setting F → RequestFields → Replica → Replica → PrepareOk
vouch s q old b =
    let h = (next_entry s.hash q old).header in
    record { version = version b; cluster = b.cluster; replica = b.index; view = b.view; op = h.op; name = name_by s.hash h; made = h.view }

abbrev pub ack : {F : Type 0} → Setting F → RequestFields → Replica → Replica → Sent
ack s q old b = sent_to (frame.PrepareOk (vouch s q old b)) b (primary b.n b.view)

module _ {F : Type 0} (s : Setting F) where
  one_sent : (hash : List ℕ → List ℕ) (h : Header) (r : Replica) → messages (to_primary (prepare_ok hash h) r) ≡ sent_to (prepare_ok hash h r) r (primary r.n r.view) ∷ []
  unfolding messages
  one_sent hash h r = refl

  same_ack : (e : Whole) (b : Replica)
      → sent_to (prepare_ok s.hash e.header (stored e (rested b))) (stored e (rested b)) (primary (stored e (rested b)).n (stored e (rested b)).view) ≡ sent_to (prepare_ok s.hash e.header b) b (primary b.n b.view)
  unfolding forgetting with_part
  same_ack e b = refl

  -- it rests, writes and acknowledges, and what comes then is mute
  taken_sends : (w : Word F) (e : Whole) (b : Replica) (f : F) → Mute w
      → sends ((change rested ⨾ write e ⨾ acknowledge s.hash e.header ⨾ w) s b f).script ≡ sent_to (prepare_ok s.hash e.header b) b (primary b.n b.view) ∷ []
  unfolding change write does says ◌⨾◌ outputs
  taken_sends w e b f mute =
      let r : Replica = stored e (rested b) in
      let os : List Output = to_primary (prepare_ok s.hash e.header) r in
      let g = after_all s (after_all s (after_all s f []) (writes e (rested b) ∷ [])) (map Say os) in
      let x = w s r g in
      sends_append (map Say os) x.script
      ∙ ap (λ (ys : List Sent). sends (map Say os) ++ ys) (mute.every s r g)
      ∙ ap (λ (ys : List Sent). ys ++ []) (sends_said os ∙ one_sent s.hash e.header r)
      ∙ ap (λ (y : Sent). y ∷ []) (same_ack e b)

  module _ (q : RequestFields) (old b : Replica) (l : LeadsLevel old) (group : q.cluster ≡ old.cluster) (n : b.n ≡ old.n) (low : old.index < old.n) (other : old.index ≢ b.index)
      (follows : FollowsLevel s.hash old b) where
    is_next : IsNextFor s.hash (prepared s q old) b
    unfolding forgetting with_part next_entry
    is_next =
        let level = follows.level in
        let room = follows.room in
        record {
          of_version = sym follows.of_version;
          of_group = group ∙ sym follows.of_group;
          member = omega (arith, low, n);
          other = other;
          leads = l.leads ∙ ap (λ k. primary k old.view) (sym n);
          view = sym follows.view;
          started = follows.started ∙ sym follows.view;
          op = omega (arith, level);
          room = omega (arith, level, room);
          stands = sym follows.same;
        }

    pub prepare_answered : (f : F) → is_frozen b ≡ false → IsSound b → sends (react (event.Deliver (frame.Prepare (prepared s q old))) s b f).script ≡ ack s q old b ∷ []
    prepare_answered f awake sound =
        ap (λ (x : Step). sends x.script) (prepare_taken s (prepared s q old) b f awake sound is_next)
        ∙ taken_sends (learn (prepared s q old).commit) (next_entry s.hash q old) b f (mute_learn (prepared s q old).commit)
