-- Which rules apply in the normal case, and which words they are.
use Rattle.std.proofs.Common.{arith, ℕ, ◌+◌, ◌-◌, ◌<◌, ◌≤◌, ◌≡◌, ◌≢◌, ◌∙◌, refl, sym, ap, subst, Bool, true, false, ◌&&◌, ◌||◌, ◌==◌, length, Option, Some, None}
use Rattle.std.specs.Prelude.{is_some, nat_le, nat_lt, not}
use Rattle.std.specs.Cmp.Derive.{both_true}
use Rattle.std.specs.Option.{option_map_or}
use Rattle.std.proofs.lemmas.Bool.{eq-eqb, le-leb, le-ltb, lt-leb, lt-ltb, ne_eqb, true≢false}
use Rattle.vr_state.specs.Asks.{is_fresh}
use Rattle.vr_header.specs.declared.header.Header.{Header}
use Rattle.vr_header.specs.Names.{name_by}
use Rattle.vr_header.specs.Same.{same_header}
use Rattle.vr_msg.specs.Normal.{last_op, pipeline, primary, same_sum}
use Rattle.vr_msg.specs.declared.event.Event.{Event}
use Rattle.vr_msg.specs.declared.event.Event.TheVariants as event
use Rattle.vr_msg.specs.declared.frame.Frame.TheVariants as frame
use Rattle.vr_msg.specs.declared.frame.Prepare.{Prepare}
use Rattle.vr_msg.specs.declared.frame.PrepareOk.{PrepareOk}
use Rattle.vr_msg.specs.declared.request.RequestFields.{RequestFields}
use Rattle.vr_rules.proofs.Heads.{head_from, head_stops}
use Rattle.vr_rules.proofs.Keeping.{spans_of}
use Rattle.vr_rules.proofs.Ruling.{by_rows}
use Rattle.vr_rules.specs.Deciding.{Hash, first_of, is_for, is_from, is_from_primary, is_in_flight, is_known, is_named, is_unknown, prepare_ok_table, prepare_table, request_table, session_answer}
use Rattle.vr_rules.specs.Replica.{Replica, head, head_header, header_at, is_frozen, leads, version, window_end}
use Rattle.vr_rules.specs.declared.rule.Rule.TheVariants.{Counted, Made, Next}
use Rattle.vr_rules.specs.Rules.{acknowledge, acknowledged, make, next_entry, obey_prepare, obey_prepare_ok, obey_request, on_event, on_prepare, on_prepare_ok, on_request, react}
use Rattle.vr_rules.specs.Sound.{IsSound}
use Rattle.vr_rules.specs.Steps.{Setting, ◌⨾◌, by, change, naming, when}
use Rattle.vr_rules.specs.Words.{advance, is_loaded, learn, rested, write}
use Rattle.law_progress.proofs.Lists.{same_sum_of}
use Rattle.law_progress.specs.Answering.{IsNew, LeadsLevel}

-- ---- tests

not_then : {X : Type 0} (b : Bool) → b ≡ false → b ≡ true → X
not_then b f t = absurd (true≢false (sym t ∙ f))

not_true : (b : Bool) → b ≡ true → not b ≡ false
not_true b t = ap not t

not_false : (b : Bool) → b ≡ false → not b ≡ true
not_false b f = ap not f

neither : (a b : Bool) → a ≡ false → b ≡ false → (a || b) ≡ false
neither a b x y = rw (x, y) refl

first_not : (a b : Bool) → a ≡ false → (a && b) ≡ false
first_not a b x = rw x refl

is_for_of : (v cluster : ℕ) (r : Replica) → v ≡ version r → cluster ≡ r.cluster → is_for v cluster r ≡ true
is_for_of v cluster r a b = both_true (eq-eqb v (version r) a) (eq-eqb cluster r.cluster b)

is_from_of : (v cluster sender : ℕ) (r : Replica) → v ≡ version r → cluster ≡ r.cluster → sender < r.n → sender ≢ r.index → is_from v cluster sender r ≡ true
is_from_of v cluster sender r a b c d =
    both_true (is_for_of v cluster r a b) (both_true (lt-ltb sender r.n c) (not_false (sender == r.index) (ne_eqb sender r.index d)))

unknown_next : (r : Replica) → IsSound r → header_at r (head r + 1) ≡ None
unknown_next r h =
    elim (header_at r (head r + 1)) as (λ o. header_at r (head r + 1) ≡ o → o ≡ None) [
      | None ↦ λ e. refl
      | Some d ↦ λ e. absurd (head_stops r (spans_of r h) (ap is_some e))
    ] refl

-- an awake replica obeys
pub awake_obeys : {F : Type 0} (e : Event) (s : Setting F) (r : Replica) (f : F) → is_frozen r ≡ false → react e s r f ≡ on_event e s r f
unfolding react by
awake_obeys e s r f awake = ap (λ b. when (not b) (on_event e) s r f) awake

-- ---- a request is made an entry of

nothing_open : (client : ℕ) (r : Replica) → head r ≡ r.commit → is_in_flight client r ≡ false
unfolding is_in_flight
nothing_open client r level = let none : head r - r.commit ≡ 0 = omega (arith, level) in rw none refl

made_rule : (q : RequestFields) (r : Replica) → LeadsLevel r → IsNew q r → first_of (request_table q r) ≡ Made
made_rule q r l n =
    let for : is_for q.version q.cluster r ≡ true = is_for_of q.version q.cluster r n.of_version n.of_group in
    let lead : leads r ≡ true = both_true (eq-eqb r.view r.log_view l.started) (eq-eqb r.index (primary r.n r.view) l.leads) in
    let loaded : is_loaded r ≡ true = eq-eqb (length r.missing) 0 (ap length l.loaded) in
    let applied = l.applied in
    let level = l.level in
    let room = l.room in
    by_rows (λ x. x ≡ Made) (request_table q r) (
      λ t. not_then (not (is_for q.version q.cluster r)) (not_true _ for) t,
      λ n0. (
        λ t. not_then (not (leads r)) (not_true _ lead) t,
        λ n1. (
          λ t. not_then (not (is_loaded r) || nat_lt r.applied r.commit) (neither (not (is_loaded r)) (nat_lt r.applied r.commit) (not_true _ loaded) (le-ltb r.applied r.commit (omega (arith, applied)))) t,
          λ n2. (
            λ t. not_then (is_in_flight q.client r) (nothing_open q.client r level) t,
            λ n3. (
              λ t. not_then (not (is_fresh (session_answer q r))) (not_true _ n.fresh) t,
              λ n4. (
                λ t. not_then (nat_le pipeline (head r - r.commit) || nat_le last_op (head r)) (neither (nat_le pipeline (head r - r.commit)) (nat_le last_op (head r)) (lt-leb pipeline (head r - r.commit) (omega (arith, level))) (lt-leb last_op (head r) room)) t,
                λ n5. (λ t. refl, λ n6. absurd (true≢false n6)),
              ),
            ),
          ),
        ),
      ),
    )

pub request_makes : {F : Type 0} (s : Setting F) (q : RequestFields) (r : Replica) (f : F) → is_frozen r ≡ false → LeadsLevel r → IsNew q r
    → react (event.Request q) s r f ≡ make (next_entry s.hash q r) s r f
unfolding on_request naming by
request_makes s q r f awake l n =
    awake_obeys (event.Request q) s r f awake ∙ ap (λ x. obey_request s.hash q x s r f) (made_rule q r l n)

-- ---- a prepare of the next entry is taken

-- it is the primary's of this backup's view, with the entry after its head
pub record IsNextFor (hash : Hash) (p : Prepare) (b : Replica) : Type 0 where
  pub of_version : p.version ≡ version b
  pub of_group : p.entry.header.cluster ≡ b.cluster
  pub member : p.replica < b.n
  pub other : p.replica ≢ b.index
  pub leads : p.replica ≡ primary b.n p.view
  pub view : p.view ≡ b.view
  pub started : b.log_view ≡ b.view
  pub op : p.entry.header.op ≡ head b + 1
  pub room : head b < window_end b
  pub stands : p.entry.header.parent ≡ name_by hash (head_header hash b)

next_rule : (hash : Hash) (p : Prepare) (b : Replica) → IsSound b → IsNextFor hash p b → first_of (prepare_table hash p b) ≡ Next
next_rule hash p b h i =
    let d = p.entry.header in
    let view = i.view in
    let started = i.started in
    let op = i.op in
    let room = i.room in
    let from = head_from b in
    let sent : is_from_primary p.version d.cluster p.replica p.view b ≡ true =
    both_true (is_from_of p.version d.cluster p.replica b i.of_version i.of_group i.member i.other) (eq-eqb p.replica (primary b.n p.view) i.leads) in
    let none : header_at b d.op ≡ None = subst (λ k. header_at b k ≡ None) (sym op) (unknown_next b h) in
    let unknown : is_unknown d.op b ≡ true = ap (λ (o : Option Header). not (is_some o)) none in
    by_rows (λ x. x ≡ Next) (prepare_table hash p b) (
      λ t. not_then (not (is_from_primary p.version d.cluster p.replica p.view b)) (not_true _ sent) t,
      λ n0. (
        λ t. not_then (nat_lt p.view b.view) (le-ltb p.view b.view (omega (arith, view))) t,
        λ n1. (
          λ t. not_then (nat_lt b.log_view p.view) (le-ltb b.log_view p.view (omega (arith, view, started))) t,
          λ n2. (
            λ t. not_then (nat_le d.op b.checkpoint) (lt-leb d.op b.checkpoint (omega (arith, op, from))) t,
            λ n3. (
              λ t. not_then (nat_lt (window_end b) d.op) (le-ltb (window_end b) d.op (omega (arith, op, room))) t,
              λ n4. (
                λ t. not_then (is_known d d.op b) (ap (λ (o : Option Header). option_map_or (λ x. same_header x d) o false) none) t,
                λ n5. (
                  λ t. refl,
                  λ n6. not_then (is_unknown d.op b && ((d.op == head b + 1) && same_sum d.parent (name_by hash (head_header hash b)))) n6 (both_true unknown (both_true (eq-eqb d.op (head b + 1) op) (same_sum_of d.parent (name_by hash (head_header hash b)) i.stands))),
                ),
              ),
            ),
          ),
        ),
      ),
    )

pub prepare_taken : {F : Type 0} (s : Setting F) (p : Prepare) (b : Replica) (f : F) → is_frozen b ≡ false → IsSound b → IsNextFor s.hash p b
    → react (event.Deliver (frame.Prepare p)) s b f ≡ (change rested ⨾ write p.entry ⨾ acknowledge s.hash p.entry.header ⨾ learn p.commit) s b f
unfolding on_prepare naming by
prepare_taken s p b f awake h i =
    awake_obeys (event.Deliver (frame.Prepare p)) s b f awake ∙ ap (λ x. obey_prepare s.hash p x s b f) (next_rule s.hash p b h i)

-- ---- an acknowledgement is counted

-- another member has this entry, which is above the commit number
pub record MayCount (hash : Hash) (a : PrepareOk) (h : Header) (r : Replica) : Type 0 where
  pub of_version : a.version ≡ version r
  pub of_group : a.cluster ≡ r.cluster
  pub member : a.replica < r.n
  pub other : a.replica ≢ r.index
  pub leads : leads r ≡ true
  pub view : a.view ≡ r.view
  pub above : r.commit < a.op
  pub upto : a.op ≤ head r
  pub known : header_at r a.op ≡ Some h
  pub name : a.name ≡ name_by hash h

counted_rule : (hash : Hash) (a : PrepareOk) (h : Header) (r : Replica) → MayCount hash a h r → first_of (prepare_ok_table hash a r) ≡ Counted
counted_rule hash a h r c =
    let named : is_named hash a.name a.op r ≡ true = ap (λ (o : Option Header). option_map_or (λ d. same_sum (name_by hash d) a.name) o false) c.known ∙ same_sum_of (name_by hash h) a.name (sym c.name) in
    by_rows (λ x. x ≡ Counted) (prepare_ok_table hash a r) (
      λ t. not_then (not (is_from a.version a.cluster a.replica r)) (not_true _ (is_from_of a.version a.cluster a.replica r c.of_version c.of_group c.member c.other)) t,
      λ n0. (
        λ t. refl,
        λ n1. not_then (leads r && ((a.view == r.view) && (nat_lt r.commit a.op && (nat_le a.op (head r) && is_named hash a.name a.op r)))) n1
            (both_true c.leads (both_true (eq-eqb a.view r.view c.view) (both_true (lt-ltb r.commit a.op c.above) (both_true (le-leb a.op (head r) c.upto) named)))),
      ),
    )

pub ack_counted : {F : Type 0} (s : Setting F) (a : PrepareOk) (h : Header) (r : Replica) (f : F) → is_frozen r ≡ false → MayCount s.hash a h r
    → react (event.Deliver (frame.PrepareOk a)) s r f ≡ (change (acknowledged a) ⨾ advance) s r f
unfolding on_prepare_ok naming by
ack_counted s a h r f awake c =
    awake_obeys (event.Deliver (frame.PrepareOk a)) s r f awake ∙ ap (λ x. obey_prepare_ok a x s r f) (counted_rule s.hash a h r c)
