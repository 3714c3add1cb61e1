-- What a replica tells of its log may be sent.
use Rattle.std.proofs.Common.{arith, ℕ, ◌≡◌, ◌≤◌, ◌<◌, ◌+◌, ◌-◌, ◌∙◌, refl, sym, ap, subst, inl, inr, Bool, true, false, List, [], ◌∷◌, length}
use Rattle.std.specs.Prelude.{◌&&◌, nat_lt}
use Rattle.std.proofs.lemmas.Bool.{and_parts, cases_lt, le-ltb, lt-ltb, ltb-true}
use Rattle.vr_header.specs.declared.header.Header.{Header}
use Rattle.vr_msg.specs.declared.frame.Frame.{Frame}
use Rattle.vr_msg.specs.declared.statement.Statement.{Statement}
use Rattle.vr_header.specs.declared.part.Part.TheVariants.{Nothing}
use Rattle.vr_msg.specs.Forms.{IsDoViewChange, IsStartView, IsSyncView}
use Rattle.vr_msg.specs.Logs.{FromOp, IsEntryAt}
use Rattle.vr_header.specs.Parts.{has_header}
use Rattle.vr_rules.specs.Deciding.{reaches_down}
use Rattle.vr_rules.specs.Replica.{Replica, head, last_view, part_at, run, run_start, statement_of, knows, version}
use Rattle.vr_rules.specs.Outputs.{send_to_all}
use Rattle.vr_rules.specs.Sound.{IsSound}
use Rattle.vr_rules.proofs.Heads.{Spans, head_from, head_knows, known_within, prefix_reaches}
use Rattle.vr_rules.proofs.Keeping.{spans_of}
use Rattle.vr_rules.proofs.Storing.{head_number}
use Rattle.vr_rules.proofs.Stating.{back, back_at, run_of, run_size, own_statement}
use Rattle.vr_rules.proofs.SavesCore.{Listed, run_listed}
use Rattle.vr_volatile.specs.Ready.{IsReady}
use Rattle.vr_volatile.specs.declared.telling.Sender.{Sender}
use Rattle.vr_volatile.specs.Sends.{sends}

-- itself, as the sender of a message
abbrev pub sender : Replica → Sender
sender r = record { version = version r; cluster = r.cluster; replica = r.index; view = r.view }

listed_views : (r : Replica) (op : ℕ) (hs : List Header) → r.log_view ≤ r.view → FromOp (Listed r) op hs → FromOp (IsEntryAt (version r) r.cluster r.view) op hs
listed_views r op [] l h = tt
listed_views r op (x ∷ xs) l h =
    let is = h.0.1 in
    let made = is.made in
    (record { entry = is.entry; of_version = is.of_version; of_group = is.of_group; at_op = is.at_op; made = omega arith }, listed_views r (op + 1) xs l h.1)

pub may_start : (f : Sender) (q r : Replica) (hs : List Header) (lo top n : ℕ) → f ≡ sender r → q ≡ r → IsReady r → r.view ≤ last_view → hs ≡ run r → top ≡ head r → n ≡ length hs → lo ≡ top - n
    → IsStartView (record { version = f.version; cluster = f.cluster; replica = f.replica; view = f.view; head = top; commit = q.commit; body = record { lo = lo; headers = hs } })
unfolding IsReady
may_start f q r hs lo top n from same h v e i l k =
    let s = h.sound in
    let w = run_of r s in
    let start = w.start in
    let listed = listed_views r (run_start r + 1) (run r) s.order.views (run_listed r s) in
    rw (from, same, k, l, e, i) (record { view = omega arith; head = head_number r s; commit = s.order.known; count = omega arith; short = w.short; headers = listed })

pub may_state : (f : Sender) (r : Replica) (s : Statement) → f ≡ sender r → IsReady r → r.view ≤ last_view → r.log_view < r.view → s ≡ statement_of r
    → IsDoViewChange (record { version = f.version; cluster = f.cluster; replica = f.replica; view = f.view; statement = s })
unfolding IsReady statement_of
may_state f r s from h v l e = rw (from, e) (record { view = omega arith; log_view = l; statement = (own_statement r h.sound).statement })

pub all_told : (message : Replica → Frame) (m : Frame) (r : Replica) → m ≡ message r → sends r.index r.n m ≡ send_to_all message r
unfolding sends send_to_all
all_told message m r e = rw e refl

-- ---- the checkpoint with the log from below it

-- where the checkpoint's own header is known, those down to it are
near_known : (r : Replica) (i : ℕ) → Spans r → knows r r.checkpoint ≡ true → i ≤ head r - r.checkpoint → knows r (head r - i) ≡ true
near_known r i s e l =
    let from = head_from r in
    elim (cases_lt r.checkpoint (head r - i)) [
      | inl above ↦ head_knows r (head r - i) s above (omega arith)
      | inr last ↦ let place : r.checkpoint ≡ head r - i = omega arith in subst (λ k. knows r k ≡ true) place e
    ]

-- so that the run begins below it
known_reaches : (r : Replica) → IsSound r → knows r r.checkpoint ≡ true → run_start r < r.checkpoint
known_reaches r h e =
    let s = spans_of r h in
    let first = (known_within r r.checkpoint s e).0 in
    let low = h.lists.first in
    let from = head_from r in
    let size = run_size r in
    let start = (run_of r h).start in
    let least = prefix_reaches has_header (back r) (head r - r.checkpoint + 1) Nothing refl
    (λ i l. ap has_header (back_at r i h (omega arith)) ∙ near_known r i s e (omega arith)) in
    omega arith

down_known : (r : Replica) → IsSound r → knows r r.checkpoint ≡ nat_lt (run_start r) r.checkpoint
down_known r h =
    elim (cases_lt (run_start r) r.checkpoint) [
      | inl below ↦ (run_of r h).known r.checkpoint below (head_from r) ∙ sym (lt-ltb (run_start r) r.checkpoint below)
      | inr past ↦
          elim (knows r r.checkpoint) as (λ b. knows r r.checkpoint ≡ b → b ≡ nat_lt (run_start r) r.checkpoint) [
            | true ↦ λ e. let below = known_reaches r h e in absurd (omega (arith, below, past))
            | false ↦ λ e. sym (le-ltb (run_start r) r.checkpoint past)
          ] refl
    ]

pub reaches_is : (r : Replica) (b : Bool) → IsReady r → b ≡ (nat_lt 0 r.checkpoint && has_header (part_at r r.checkpoint)) → b ≡ reaches_down r
unfolding IsReady
reaches_is r b h e = e ∙ ap (λ (t : Bool). nat_lt 0 r.checkpoint && t) (down_known r h.sound)

pub may_sync : (f : Sender) (q r : Replica) (hs : List Header) (lo top n : ℕ) → f ≡ sender r → q ≡ r → IsReady r → r.view ≤ last_view → reaches_down r ≡ true → hs ≡ run r → top ≡ head r → n ≡ length hs → lo ≡ top - n
    → IsSyncView (record { version = f.version; cluster = f.cluster; replica = f.replica; view = f.view; head = top; commit = q.commit; checkpoint = q.checkpoint; root_address = q.root.address; root_name = q.root.sum; body = record { lo = lo; headers = hs } })
unfolding IsReady
may_sync f q r hs lo top n from same h v down e i l k =
    let s = h.sound in
    let w = run_of r s in
    let start = w.start in
    let listed = listed_views r (run_start r + 1) (run r) s.order.views (run_listed r s) in
    let applied = s.order.applied in
    let commit = s.order.commit in
    let below = and_parts (nat_lt 0 r.checkpoint) (nat_lt (run_start r) r.checkpoint) down in
    rw (from, same, k, l, e, i) (record {
      view = omega arith;
      head = head_number r s;
      order = (ltb-true (run_start r) r.checkpoint below.1, omega (arith, applied, commit), s.order.known);
      every = s.checkpoint;
      address = h.savable.address;
      count = omega arith;
      short = w.short;
      headers = listed;
    })
