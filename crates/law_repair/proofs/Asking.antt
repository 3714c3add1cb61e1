-- What an ask puts out.
use Rattle.std.proofs.Common.{◌<◌, ◌+◌, ◌++◌, not, subst, arith, ℕ, zero, suc, ◌-◌, ◌≡◌, ◌≢◌, ◌∙◌, ◌⊎◌, inl, inr, refl, sym, ap, Bool, true, false, cond, List, [], ◌∷◌, append-nil, get_or, map, Option, Some, None}
use Rattle.std.specs.Prelude.{nat_le, nat_lt, ◌||◌, find}
use Rattle.std.proofs.lemmas.Bool.{lt-leb, ltb-true}
use Rattle.vr_msg.specs.declared.event.Event.TheVariants.{Tick}
use Rattle.vr_rules.specs.Deciding.{first_of, tick_table}
use Rattle.vr_rules.specs.Outputs.{commit_message, send_to_all, start_view_change, get_block, get_prepare, send_to}
use Rattle.vr_rules.specs.Replica.{head, is_started, leads, Replica, is_absent, is_alone, part_at, parts_from}
use Rattle.vr_rules.specs.Rules.{backup_ticks, changing_ticks, idler, next_view, obey_tick, on_event, on_tick, primary_ticks, react}
use Rattle.vr_rules.specs.Steps.{Step, Word, after_all, quiet, when, Say, Setting, ◌⨾◌, by, change, naming, outputs, says}
use Rattle.vr_rules.specs.Words.{prepare_again, speak, turned, visit, ask, ask_for, ask_peer, least_absent, peer}
use Rattle.vr_rules.specs.declared.rule.Rule.TheVariants.{TickedBackup, TickedChanging, TickedPrimary}
use Rattle.vr_rules.proofs.Combining.{Keeps, keeps_by, keeps_says, keeps_then, keeps_when}
use Rattle.vr_rules.proofs.Halves.{regrouped}
use Rattle.vr_rules.proofs.Reacting.{keeps_idler}
use Rattle.vr_rules.proofs.SendsScripts.{outputs_append, outputs_said}
use Rattle.vr_rules.proofs.Trying.{keeps_speak}
use Rattle.vr_rules.proofs.Visiting.{keeps_visit}
use Rattle.vr_rules.proofs.Wording.{keeps_prepare_again}
use Rattle.law_repair.specs.Asks.{AsksEntry, AsksLast, IsShort, TicksAsk, stays_on, AsksBlock, LacksEntry, ShortReplicasAsk}
use Rattle.std.specs.Option.{option_and_then, option_map_or}
use Rattle.std.proofs.lemmas.List.{get_or-drop}
use Rattle.vr_ckpt.specs.declared.name.Name.{Name}
use Rattle.vr_header.specs.declared.header.Header.{Header}
use Rattle.vr_header.specs.declared.part.Part.{Part}
use Rattle.vr_header.specs.declared.part.Part.TheVariants.{Here, Lost, Wanted, Unknown, Nothing}
use Rattle.vr_msg.specs.declared.frame.Frame.{Frame}
use Rattle.vr_header.specs.Parts.{header_of}
use Rattle.vr_rules.specs.Sound.{IsSound}
use Rattle.vr_rules.proofs.Heads.{part_within}

-- ---- the least absent entry

-- where one of a list passes, one is found that does
record Found (ps : List Part) : Type 0 where
  part : Part
  is : find is_absent ps ≡ Some part
  passes : is_absent part ≡ true

found_one : (ps : List Part) (i : ℕ) → is_absent (get_or ps i Nothing) ≡ true → Found ps
found_one [] i e = absurd cc
found_one (p ∷ ps) zero e = record { part = p; is = ap (λ b. cond b (Some p) (find is_absent ps)) e; passes = e }
found_one (p ∷ ps) (suc i) e =
    let rest = found_one ps i e in
    let go : (b : Bool) → is_absent p ≡ b → Found (p ∷ ps) = elim [
      | true ↦ λ t. record { part = p; is = ap (λ b. cond b (Some p) (find is_absent ps)) t; passes = t }
      | false ↦ λ t. record { part = rest.part; is = ap (λ b. cond b (Some p) (find is_absent ps)) t ∙ rest.is; passes = rest.passes }
    ] in
    go (is_absent p) refl

find_passes : (ps : List Part) (p : Part) → find is_absent ps ≡ Some p → is_absent p ≡ true
find_passes [] p e = absurd cc
find_passes (q ∷ ps) p e =
    let go : (b : Bool) → is_absent q ≡ b → cond b (Some q) (find is_absent ps) ≡ Some p → is_absent p ≡ true = elim [
      | true ↦ λ t k. let same : q ≡ p = cc in sym (ap is_absent same) ∙ t
      | false ↦ λ t k. find_passes ps p k
    ] in
    go (is_absent q) refl e

absent_header : (p : Part) → is_absent p ≡ true → (h : Header) × (header_of p ≡ Some h)
absent_header (Here h) e = absurd cc
absent_header (Lost h) e = (h, refl)
absent_header (Wanted h) e = (h, refl)
absent_header Unknown e = absurd cc
absent_header Nothing e = absurd cc

least_of : (ps qs : List Part) (p : Part) (o : Option Part) → find is_absent ps ≡ o → find is_absent qs ≡ Some p → is_absent p ≡ true
    → (h : Header) × (option_and_then header_of (option_map_or Some (find is_absent ps) (find is_absent qs)) ≡ Some h)
least_of ps qs p (Some q) i e t =
    let h = absent_header q (find_passes ps q i) in
    (h.0, ap (λ o. option_and_then header_of (option_map_or Some o (find is_absent qs))) i ∙ h.1)
least_of ps qs p None i e t =
    let h = absent_header p t in
    (h.0, ap (λ o. option_and_then header_of (option_map_or Some o (find is_absent qs))) i ∙ (ap (option_and_then header_of) e ∙ h.1))

least_there : (r : Replica) → IsSound r → LacksEntry r → (h : Header) × (least_absent r ≡ Some h)
least_there r sound l =
    let reach = sound.lists.reach in
    let above = l.above in
    let n : ℕ = r.checkpoint + 1 - r.first in
    let i : ℕ = l.op - (r.checkpoint + 1) in
    let place : n + i ≡ l.op - r.first = omega (arith, reach, above) in
    let at : get_or (parts_from r (r.checkpoint + 1)) i Nothing ≡ part_at r l.op =
    get_or-drop n r.parts i Nothing ∙ (ap (λ j. get_or r.parts j Nothing) place ∙ sym (part_within r l.op (omega (arith, reach, above)))) in
    let found = found_one (parts_from r (r.checkpoint + 1)) i (ap is_absent at ∙ l.absent) in
    least_of (parts_from r (r.applied + 1)) (parts_from r (r.checkpoint + 1)) found.part (find is_absent (parts_from r (r.applied + 1))) refl found.is found.passes

-- ---- the ask

module _ {F : Type 0} (s : Setting F) (r : Replica) (f : F) where
  peer_asked : (message : Replica → Frame) → outputs (ask_peer message s r f).script ≡ send_to (peer r) (message r) r
  unfolding ask_peer ◌⨾◌ says change
  peer_asked message = ap outputs (append-nil (map Say (send_to (peer r) (message r) r))) ∙ outputs_said (send_to (peer r) (message r) r)

  -- it asks by the three lists
  record By (names : List Name) (absent : Option Header) (worn : List Name) : Type 0 where
    message : Frame
    sent : outputs (ask_for names absent worn s r f).script ≡ send_to (peer r) message r
    what : AsksBlock r names message ⊎ (((h : Header) × ((absent ≡ Some h) × (message ≡ get_prepare s.hash h r))) ⊎ AsksBlock r worn message)

  first_block : (name : Name) (names : List Name) → AsksBlock r (name ∷ names) (get_block name r)
  first_block name names = record { name = name; among = (0, omega arith, refl); is = refl }

  asks_by : (names : List Name) (absent : Option Header) (worn : List Name) → (names ≢ []) ⊎ (((h : Header) × (absent ≡ Some h)) ⊎ (worn ≢ [])) → By names absent worn
  unfolding naming
  asks_by (name ∷ names) absent worn short = record { message = get_block name r; sent = peer_asked (get_block name); what = inl (first_block name names) }
  asks_by [] (Some h) worn short = record { message = get_prepare s.hash h r; sent = peer_asked (get_prepare s.hash h); what = inr (inl (h, (refl, refl))) }
  asks_by [] None (name ∷ names) short = record { message = get_block name r; sent = peer_asked (get_block name); what = inr (inr (first_block name names)) }
  asks_by [] None [] short = absurd (elim short [
    | inl n ↦ n refl
    | inr rest ↦ elim rest [ inl h ↦ (let none : None ≡ Some h.0 = h.1 in cc) | inr w ↦ w refl ]
  ])

-- it does so where it isn't alone
pub short_replicas_ask : {F : Type 0} → ShortReplicasAsk F
unfolding ask by
short_replicas_ask s r f sound other short =
    let kinds : (r.missing ≢ []) ⊎ (((h : Header) × (least_absent r ≡ Some h)) ⊎ (r.worn ≢ [])) =
    elim short [ inl n ↦ inl n | inr rest ↦ inr (elim rest [ inl l ↦ inl (least_there r sound l) | inr w ↦ inr w ]) ] in
    let b = asks_by s r f r.missing (least_absent r) r.worn kinds in
    record {
      message = b.message;
      sent = ap (λ b. outputs (when (not b) (ask_for r.missing (least_absent r) r.worn) s r f).script) other ∙ b.sent;
      what = elim b.what [
        | inl block ↦ inl block
        | inr rest ↦ inr (elim rest [ inl entry ↦ inl (record { header = entry.0; least = entry.1.0; is = entry.1.1 }) | inr block ↦ inr block ])
      ];
    }

-- ---- ticks

-- an ask changes nothing but whose turn it is
module _ {F : Type 0} (s : Setting F) (r : Replica) (f : F) where
  record Turns (x : Step) : Type 0 where
    turn : ℕ
    is : x.replica ≡ record r { turn = turn }

  peer_turns : (message : Replica → Frame) → Turns (ask_peer message s r f)
  unfolding ask_peer ◌⨾◌ says change
  peer_turns message = record { turn = (turned r).turn; is = refl }

  for_turns : (names : List Name) (absent : Option Header) (worn : List Name) → Turns (ask_for names absent worn s r f)
  unfolding naming quiet
  for_turns (name ∷ names) absent worn = let t = peer_turns (get_block name) in record { turn = t.turn; is = t.is }
  for_turns [] (Some h) worn = let t = peer_turns (get_prepare s.hash h) in record { turn = t.turn; is = t.is }
  for_turns [] None (name ∷ names) = let t = peer_turns (get_block name) in record { turn = t.turn; is = t.is }
  for_turns [] None [] = record { turn = r.turn; is = refl }

  ask_turns : Turns (ask s r f)
  unfolding ask by quiet
  ask_turns =
      let each : (b : Bool) → Turns (when (not b) (ask_for r.missing (least_absent r) r.worn) s r f) = elim [
        | true ↦ record { turn = r.turn; is = refl }
        | false ↦ for_turns r.missing (least_absent r) r.worn
      ] in
      let t = each (is_alone r) in
      record { turn = t.turn; is = t.is }

-- so what is missing is as before
short_turned : (t : ℕ) (r : Replica) → IsShort (record r { turn = t }) → IsShort r
unfolding part_at
short_turned t r (inl n) = inl n
short_turned t r (inr (inl l)) = inr (inl (record { op = l.op; above = l.above; absent = l.absent }))
short_turned t r (inr (inr w)) = inr (inr w)

block_turned : (t : ℕ) (r : Replica) (names : List Name) (m : Frame) → AsksBlock r names m → AsksBlock (record r { turn = t }) names m
block_turned t r names m a = record { name = a.name; among = a.among; is = a.is }

module _ {F : Type 0} (s : Setting F) where
  entry_turned : (t : ℕ) (r : Replica) (m : Frame) → AsksEntry s r m → AsksEntry s (record r { turn = t }) m
  entry_turned t r m a = record { header = a.header; least = a.least; is = a.is }

  -- words that end by asking
  ends_asking : (v : Word F) → Keeps v → (r : Replica) (f : F) → IsSound r → let x = (v ⨾ ask) s r f in is_alone x.replica ≡ false → IsShort x.replica → AsksLast s x
  unfolding ◌⨾◌
  ends_asking v keeps r f sound other short =
      let a = v s r f in
      let d : F = after_all s f a.script in
      let b = ask s a.replica d in
      let t = ask_turns s a.replica d in
      let was = short_turned t.turn a.replica (subst IsShort t.is short) in
      let several : is_alone a.replica ≡ false = sym (ap is_alone t.is) ∙ other in
      let asked = short_replicas_ask s a.replica d (keeps.every s r f sound).kept.sound several was in
      let turned : Replica = record a.replica { turn = t.turn } in
      let what : AsksBlock turned turned.missing asked.message ⊎ (AsksEntry s turned asked.message ⊎ AsksBlock turned turned.worn asked.message) = elim asked.what [
        | inl block ↦ inl (block_turned t.turn a.replica a.replica.missing asked.message block)
        | inr rest ↦ inr (elim rest [
          | inl entry ↦ inl (entry_turned t.turn a.replica asked.message entry)
          | inr block ↦ inr (block_turned t.turn a.replica a.replica.worn asked.message block)
        ])
      ] in
      let said : outputs (a.script ++ b.script) ≡ outputs a.script ++ send_to (peer a.replica) asked.message turned = outputs_append a.script b.script ∙ ap (λ os. outputs a.script ++ os) asked.sent in
      record {
        before = outputs a.script;
        message = asked.message;
        to = peer a.replica;
        sent = subst (λ (q : Replica). outputs (a.script ++ b.script) ≡ outputs a.script ++ send_to (peer a.replica) asked.message q) (sym t.is) said;
        what = subst (λ (q : Replica). AsksBlock q q.missing asked.message ⊎ (AsksEntry s q asked.message ⊎ AsksBlock q q.worn asked.message)) (sym t.is) what;
      }

  abbrev Asked : Word F → Replica → F → Type 0
  Asked w r f = is_alone (w s r f).replica ≡ false → IsShort (w s r f).replica → AsksLast s (w s r f)

  by_group : (v w : Word F) (r : Replica) (f : F) → v s r f ≡ w s r f → Asked v r f → Asked w r f
  by_group v w r f e = subst (λ (x : Step). is_alone x.replica ≡ false → IsShort x.replica → AsksLast s x) e

  primary_asks : (r : Replica) (f : F) → IsSound r → Asked primary_ticks r f
  primary_asks r f sound =
      let first : Word F = says (send_to_all commit_message) in
      let again : Word F = by (λ r. when (nat_lt r.commit (head r)) (prepare_again (r.commit + 1))) in
      let v : Word F = (first ⨾ again) ⨾ visit in
      let keeps : Keeps v = keeps_then _ _ (keeps_then first again (keeps_says _) (keeps_by _ (λ r. keeps_when (nat_lt r.commit (head r)) _ (keeps_prepare_again (r.commit + 1))))) keeps_visit in
      by_group (v ⨾ ask) primary_ticks r f (regrouped (first ⨾ again) visit ask s r f ∙ regrouped first again (visit ⨾ ask) s r f) (ends_asking v keeps r f sound)

  looks_on : (v : Word F) → Keeps v → (r : Replica) (f : F) → IsSound r → Asked (v ⨾ (visit ⨾ ask)) r f
  looks_on v keeps r f sound = by_group ((v ⨾ visit) ⨾ ask) (v ⨾ (visit ⨾ ask)) r f (regrouped v visit ask s r f) (ends_asking (v ⨾ visit) (keeps_then v visit keeps keeps_visit) r f sound)

  backup_asks : (r : Replica) (f : F) → IsSound r → r.idle < 4 → Asked backup_ticks r f
  unfolding ◌⨾◌ change by after_all
  backup_asks r f sound low =
      let few : nat_le 5 (r.idle + 1) ≡ false = lt-leb 5 (r.idle + 1) (omega (arith, low)) in
      subst (λ b. Asked (change idler ⨾ (λ s q g. cond b next_view (visit ⨾ ask) s q g)) r f) (sym few) (looks_on (change idler) keeps_idler r f sound)

  changing_asks : (r : Replica) (f : F) → IsSound r → r.idle < 9 → Asked changing_ticks r f
  unfolding ◌⨾◌ change by after_all
  changing_asks r f sound low =
      let few : nat_le 10 (r.idle + 1) ≡ false = lt-leb 10 (r.idle + 1) (omega (arith, low)) in
      let tells : Word F = says (send_to_all start_view_change) in
      let v : Word F = (change idler ⨾ tells) ⨾ speak in
      let keeps : Keeps v = keeps_then _ _ (keeps_then _ _ keeps_idler (keeps_says _)) keeps_speak in
      let on : Asked (change idler ⨾ (tells ⨾ (speak ⨾ (visit ⨾ ask)))) r f =
      by_group (v ⨾ (visit ⨾ ask)) (change idler ⨾ (tells ⨾ (speak ⨾ (visit ⨾ ask)))) r f (regrouped (change idler ⨾ tells) speak (visit ⨾ ask) s r f ∙ regrouped (change idler) tells (speak ⨾ (visit ⨾ ask)) s r f)
      (looks_on v keeps r f sound) in
      subst (λ b. Asked (change idler ⨾ (λ s q g. cond b next_view (tells ⨾ (speak ⨾ (visit ⨾ ask))) s q g)) r f) (sym few) on

  tick_asks : (r : Replica) (f : F) → IsSound r → stays_on r ≡ true → Asked (obey_tick (first_of (tick_table r))) r f
  unfolding first_of
  tick_asks r f sound on =
      elim (leads r) as (λ b. (b || nat_lt r.idle (cond (is_started r) 4 9)) ≡ true → Asked (obey_tick (cond b TickedPrimary (cond (is_started r) TickedBackup TickedChanging))) r f) [
        | true ↦ λ t. primary_asks r f sound
        | false ↦ elim (is_started r) as (λ b. nat_lt r.idle (cond b 4 9) ≡ true → Asked (obey_tick (cond b TickedBackup TickedChanging)) r f) [
          | true ↦ λ t. backup_asks r f sound (ltb-true r.idle 4 t)
          | false ↦ λ t. changing_asks r f sound (ltb-true r.idle 9 t)
        ]
      ] on

pub ticks_ask : {F : Type 0} → TicksAsk F
unfolding react on_tick by
ticks_ask s r f sound live on = subst (λ b. Asked s (when (not b) (λ s q g. on_event Tick s q g)) r f) (sym live) (tick_asks s r f sound on)
