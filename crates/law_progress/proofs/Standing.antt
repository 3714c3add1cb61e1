-- The primary's state between its prepares and the answer: the entry is stored, and not enough have acknowledged it.
use Rattle.std.proofs.Common.{arith, ℕ, zero, suc, ◌+◌, ◌-◌, ◌<◌, ◌≤◌, ◌≡◌, ◌∙◌, refl, sym, ap, subst, Bool, true, false, cond, ◌&&◌, List, [], ◌∷◌, ◌++◌, length, map, Option, Some}
use Rattle.std.specs.Prelude.{All, Contains, nat_le, nat_lt}
use Rattle.std.specs.Cmp.Derive.{both_true}
use Rattle.std.specs.List.{prefix_len, range_with_len}
use Rattle.std.proofs.lemmas.Bool.{eq-eqb, le-leb, lt-ltb}
use Rattle.std.proofs.lemmas.List.Elements.{All-cons, All-weaker, Contains-append_left, Contains-append_right}
use Rattle.vr_base.specs.Replicas.{has_replica, size, with_replica}
use Rattle.vr_base.specs.declared.replicas.Replicas.{Replicas}
use Rattle.vr_state.specs.Asks.{is_fresh}
use Rattle.vr_state.specs.Folds as state
use Rattle.vr_state.specs.declared.session.SessionAnswer.{SessionAnswer}
use Rattle.vr_state.specs.declared.session.SessionAnswer.TheVariants as said
use Rattle.vr_header.specs.declared.header.Header.{Header}
use Rattle.vr_header.specs.declared.part.Part.{Part}
use Rattle.vr_header.specs.declared.part.Part.TheVariants.{Here, Lost, Wanted, Unknown, Nothing}
use Rattle.vr_header.specs.Made.{Whole}
use Rattle.vr_msg.specs.Choice.{ops}
use Rattle.vr_msg.specs.Normal.{primary}
use Rattle.vr_msg.specs.declared.output.Output.{Output}
use Rattle.vr_msg.specs.declared.request.RequestFields.{RequestFields}
use Rattle.vr_msg.specs.declared.reply.ReplyKind.{ReplyKind}
use Rattle.vr_msg.specs.declared.reply.ReplyKind.TheVariants as reply
use Rattle.vr_rules.proofs.SendsScripts.{outputs_append, outputs_said}
use Rattle.vr_rules.specs.Deciding.{session_answer}
use Rattle.vr_rules.specs.Outputs.{applied_reply, asker_of, commit_line, kind_of, replies}
use Rattle.vr_rules.specs.Replica.{Replica, ackers_at, head, is_here, leads, part_at, replication}
use Rattle.vr_rules.specs.Rules.{next_entry}
use Rattle.vr_rules.specs.Sound.{IsSound}
use Rattle.vr_rules.specs.Steps.{Effect, Say, Setting, Step, Word, ◌⨾◌, after_all, by, change, outputs, quiet, reading, says, times, when}
use Rattle.vr_rules.specs.Words as words
use Rattle.vr_rules.specs.Words.{advance, advanced, apply, apply_entry, apply_next, entry_of, has_quorum, is_loaded, or_lost, votes, with_entry, with_entry_at}
use Rattle.law_progress.proofs.Lists.{front_none, front_some, has_new, has_old, size_most}
use Rattle.law_progress.specs.Answering.{AreDistinct, LeadsLevel, answer}

-- ---- the entry that is made is stored

-- an entry's file is a record of the same replica but for what it knows of ops
abbrev pub apart_from : Replica → Replica → Replica
apart_from old r = record old { first = r.first; parts = r.parts; ackers = r.ackers }

module _ {F : Type 0} (s : Setting F) (q : RequestFields) (old : Replica) where
  abbrev pub e : Whole
  e = next_entry s.hash q old

  abbrev pub op : ℕ
  op = old.commit + 1

  -- The entry is stored, and these have acknowledged it.
  pub record Stands (acked : List ℕ) (r : Replica) (f : F) : Type 0 where
    pub same : r ≡ apart_from old r
    pub sound : IsSound r
    pub reaches : op ≤ head r
    pub here : part_at r op ≡ Here e.header
    pub flags : length (ackers_at r op).0 ≡ 6
    pub acks : All (λ i. has_replica (ackers_at r op) i ≡ true) acked
    pub reads : entry_of e.header s f ≡ Some e

  -- ---- advance waits where they are too few

  advance_is : (r : Replica) (f : F) → advance s r f ≡ apply s (advanced r) f
  unfolding advance ◌⨾◌ change after_all
  advance_is r f = refl

  row : (r : Replica) → old.commit ≡ r.commit → op ≤ head r → ops r.commit (head r) ≡ range_with_len op (suc (head r - op))
  row r c l = let n : head r - r.commit ≡ suc (head r - op) = omega (arith, c, l) in let a : r.commit + 1 ≡ op = omega (arith, c) in rw (n, a) refl

  stays_there : (r : Replica) (n : ℕ) → n ≡ 0 → record r { commit = r.commit + n } ≡ r
  stays_there r n z = let c : r.commit + n ≡ r.commit = omega (arith, z) in ap (λ (k : ℕ). record r { commit = k }) c

  advanced_stays : (r : Replica) → old.commit ≡ r.commit → op ≤ head r → has_quorum r op ≡ false → advanced r ≡ r
  unfolding advanced
  advanced_stays r c l few =
      stays_there r (prefix_len (has_quorum r) (ops r.commit (head r))) (ap (prefix_len (has_quorum r)) (row r c l) ∙ front_none (has_quorum r) op (suc (head r - op)) few)

  nothing_applies : (r : Replica) (f : F) → r.applied ≡ r.commit → apply s r f ≡ record { replica = r; script = [] }
  unfolding apply by times quiet
  nothing_applies r f level = let none : r.commit - r.applied ≡ 0 = omega (arith, level) in ap (λ n. times n apply_next s r f) none

  pub advance_waits : (r : Replica) (f : F) → old.commit ≡ r.commit → r.applied ≡ r.commit → op ≤ head r → has_quorum r op ≡ false → advance s r f ≡ record { replica = r; script = [] }
  advance_waits r f c level l few =
      advance_is r f ∙ ap (λ (x : Replica). apply s x f) (advanced_stays r c l few) ∙ nothing_applies r f level

  -- ---- and else the entry is applied, and its request answered

  when_true : (b : Bool) (w : Word F) (r : Replica) (f : F) → b ≡ true → when b w s r f ≡ w s r f
  when_true true w r f t = refl
  when_true false w r f t = absurd cc

  read_there : (w : Whole → Word F) (p : Part) (h : Header) (x : Whole) (r : Replica) (f : F) → p ≡ Here h → entry_of h s f ≡ Some x → with_entry w p s r f ≡ w x s r f
  unfolding reading
  read_there w p h x r f is reads = ap (λ (y : Part). with_entry w y s r f) is ∙ ap (λ (o : Option Whole). or_lost h w o s r f) reads

  entry_applies : (r : Replica) (f : F) (h : Header) (x : Whole) → r.missing ≡ [] → r.applied < r.commit → part_at r (r.applied + 1) ≡ Here h → entry_of h s f ≡ Some x
      → apply_next s r f ≡ apply_entry x s r f
  unfolding apply_next with_entry_at by
  entry_applies r f h x none l is reads =
      when_true (is_loaded r && nat_lt r.applied r.commit) _ r f (both_true (eq-eqb (length r.missing) 0 (ap length none)) (lt-ltb r.applied r.commit l))
      ∙ read_there apply_entry (part_at r (r.applied + 1)) h x r f is reads

  -- what a fresh request's entry answers
  fresh_is : (a : SessionAnswer) → is_fresh a ≡ true → a ≡ said.Fresh
  fresh_is said.Fresh t = refl
  fresh_is (said.Repeat outcome at) t = absurd cc
  fresh_is said.Old t = absurd cc
  fresh_is said.Gap t = absurd cc
  fresh_is said.Evicted t = absurd cc

  outcome_is : is_fresh (session_answer q old) ≡ true → (state.applied old.state e).reply ≡ (state.executed old.state e).reply
  unfolding state.applied state.answered next_entry
  outcome_is fresh = ap (λ (a : SessionAnswer). (state.answered old.state e a).reply) (fresh_is (session_answer q old) fresh)

  kind_is : head old ≡ old.commit → is_fresh (session_answer q old) ≡ true → kind_of (state.applied old.state e).reply ≡ reply.Outcome (record { op = head old + 1; outcome = state.outcome_of old.state e })
  unfolding state.executed next_entry
  kind_is level fresh = ap kind_of (outcome_is fresh)

  abbrev replies_of : Replica → List Output
  replies_of r = replies (asker_of e) (kind_of (state.applied r.state e).reply) r

  reply_is : is_fresh (session_answer q old) ≡ true → head old ≡ old.commit → replies_of old ≡ answer s.hash q old ∷ []
  unfolding next_entry
  reply_is fresh level = ap (λ (k : ReplyKind). replies (asker_of e) k old) (kind_is level fresh)

  -- ---- the entry's outputs

  entry_said : (x : Whole) (r : Replica) (f : F) (o : Output) → Contains (applied_reply x r) o → Contains (outputs (apply_entry x s r f).script) o
  unfolding apply_entry ◌⨾◌ says
  entry_said x r f o there =
      let line : List Effect = map Say (commit_line x r) in
      let told : List Effect = map Say (applied_reply x r) in
      let rest = (change (words.applied x) ⨾ by (λ z. when (words.is_checkpoint z.applied) words.make_checkpoint)) s r (after_all s (after_all s f line) told) in
      subst (λ os. Contains os o) (sym (outputs_append line (told ++ rest.script)))
      (Contains-append_right (outputs line) (outputs (told ++ rest.script)) o
      (subst (λ os. Contains os o) (sym (outputs_append told rest.script)) (Contains-append_left (outputs told) (outputs rest.script) o (subst (λ os. Contains os o) (sym (outputs_said (applied_reply x r))) there))))

  first_time : (n : ℕ) (r : Replica) (f : F) (o : Output) → 0 < n → Contains (outputs (apply_next s r f).script) o → Contains (outputs (times n apply_next s r f).script) o
  unfolding times ◌⨾◌
  first_time zero r f o l there = absurd (omega (arith, l))
  first_time (suc n) r f o l there =
      let x = apply_next s r f in
      let rest = times n apply_next s x.replica (after_all s f x.script) in
      subst (λ os. Contains os o) (sym (outputs_append x.script rest.script)) (Contains-append_left (outputs x.script) (outputs rest.script) o there)

  applies_first : (r : Replica) (f : F) (o : Output) → r.applied < r.commit → Contains (outputs (apply_next s r f).script) o → Contains (outputs (apply s r f).script) o
  unfolding apply by
  applies_first r f o l there = first_time (r.commit - r.applied) r f o (omega (arith, l)) there

  module _ (l : LeadsLevel old) (fresh : is_fresh (session_answer q old) ≡ true) where
    leading : (r : Replica) → r ≡ apart_from old r → leads r ≡ true
    leading r same = ap leads same ∙ both_true (eq-eqb old.view old.log_view l.started) (eq-eqb old.index (primary old.n old.view) l.leads)

    -- a replica that has advanced
    abbrev with_commit : ℕ → Replica → Replica
    with_commit c r = record r { commit = c }

    reply_said : (r : Replica) (c : ℕ) → r ≡ apart_from old r → Contains (applied_reply e (with_commit c r)) (answer s.hash q old)
    reply_said r c same =
        let told : applied_reply e (with_commit c r) ≡ replies_of r = if_so (leads r) (replies_of r) (leading r same) in
        let is : applied_reply e (with_commit c r) ≡ answer s.hash q old ∷ [] = told ∙ ap replies_of same ∙ reply_is fresh l.level in
        subst (λ os. Contains os (answer s.hash q old)) (sym is) (0, omega arith, refl)
      where
        if_so : (b : Bool) (os : List Output) → b ≡ true → cond b os [] ≡ os
        if_so true os t = refl
        if_so false os t = absurd cc

    same_part : (r : Replica) (c k : ℕ) → part_at (with_commit c r) k ≡ part_at r k
    unfolding part_at
    same_part r c k = refl

    advanced_by : (r : Replica) → advanced r ≡ with_commit (r.commit + prefix_len (has_quorum r) (ops r.commit (head r))) r
    unfolding advanced
    advanced_by r = refl

    pub advance_answers : (acked : List ℕ) (r : Replica) (f : F) → Stands acked r f → has_quorum r op ≡ true → Contains (outputs (advance s r f).script) (answer s.hash q old)
    advance_answers acked r f t many =
        let commit : r.commit ≡ old.commit = ap (λ (x : Replica). x.commit) t.same in
        let applied : r.applied ≡ old.applied = ap (λ (x : Replica). x.applied) t.same in
        let missing : r.missing ≡ [] = ap (λ (x : Replica). x.missing) t.same ∙ l.loaded in
        let level = l.applied in
        let n : ℕ = prefix_len (has_quorum r) (ops r.commit (head r)) in
        let some : 0 < n = subst (λ xs. 0 < prefix_len (has_quorum r) xs) (sym (row r (sym commit) t.reaches)) (front_some (has_quorum r) op (suc (head r - op)) (omega arith) many) in
        let z : Replica = with_commit (r.commit + n) r in
        let above : z.applied < z.commit = omega (arith, applied, level, commit, some) in
        let place : op ≡ z.applied + 1 = omega (arith, applied, level) in
        let here : part_at z (z.applied + 1) ≡ Here e.header = same_part r (r.commit + n) (z.applied + 1) ∙ subst (λ k. part_at r k ≡ Here e.header) place t.here in
        let next : apply_next s z f ≡ apply_entry e s z f = entry_applies z f e.header e missing above here t.reads in
        let said : Contains (outputs (apply_next s z f).script) (answer s.hash q old) =
        subst (λ (x : Step). Contains (outputs x.script) (answer s.hash q old)) (sym next) (entry_said e z f (answer s.hash q old) (reply_said r (r.commit + n) t.same)) in
        let all : Contains (outputs (apply s z f).script) (answer s.hash q old) = applies_first z f (answer s.hash q old) above said in
        subst (λ (x : Step). Contains (outputs x.script) (answer s.hash q old)) (sym (advance_is r f ∙ ap (λ (x : Replica). apply s x f) (advanced_by r))) all

    -- ---- enough make a quorum

    pub quorum_of : (acked : List ℕ) (r : Replica) (f : F) → Stands acked r f → AreDistinct (old.index ∷ acked) → old.index < 6 → replication old.n ≤ length acked + 1 → has_quorum r op ≡ true
    quorum_of acked r f t apart low enough =
        let index : r.index ≡ old.index = ap (λ (x : Replica). x.index) t.same in
        let n : r.n ≡ old.n = ap (λ (x : Replica). x.n) t.same in
        let acks = ackers_at r op in
        let set : Replicas = with_replica acks old.index in
        let own : has_replica set old.index ≡ true = has_new acks old.index t.flags low in
        let all : All (λ i. has_replica set i ≡ true) (old.index ∷ acked) =
        All-cons (λ i. has_replica set i ≡ true) old.index acked own (All-weaker (λ i. has_replica acks i ≡ true) (λ i. has_replica set i ≡ true) (λ i there. has_old acks old.index i t.flags there) acked t.acks) in
        let most = size_most set (old.index ∷ acked) apart all in
        let is : votes r op ≡ set = votes_here r (part_at r op) e.header t.here ∙ ap (with_replica acks) index in
        subst (λ k. nat_le (replication k) (size (votes r op)) ≡ true) (sym n) (subst (λ v. nat_le (replication old.n) (size v) ≡ true) (sym is) (le-leb (replication old.n) (size set) (omega (arith, most, enough))))
      where
        votes_here : (r : Replica) (p : Part) (h : Header) → p ≡ Here h → cond (is_here p) (with_replica (ackers_at r op) r.index) (ackers_at r op) ≡ with_replica (ackers_at r op) r.index
        votes_here r (Here g) h is = refl
        votes_here r (Lost g) h is = absurd cc
        votes_here r (Wanted g) h is = absurd cc
        votes_here r Unknown h is = absurd cc
        votes_here r Nothing h is = absurd cc
