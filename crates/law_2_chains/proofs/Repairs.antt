-- Commit messages, and the repair of entries: each of their rules is a chain.
use Rattle.std.proofs.Common.{ℕ, zero, suc, ◌+◌, ◌-◌, ◌%◌, ◌<◌, ◌≡◌, ◌∙◌, inl, inr, arith, refl, sym, ap, subst, Bool, true, false, cond, List, [], ◌∷◌, length, map, Some, None}
use Rattle.std.specs.Prelude.{slice_get, nat_lt, nat_le, ◌&&◌}
use Rattle.std.proofs.lemmas.Bool.{and_parts, cases_lt, ltb-true, ltb-false, eqb-true, le-leb, lt-leb}
use Rattle.vr_header.specs.declared.header.Header.{Header}
use Rattle.vr_header.specs.declared.part.Part.TheVariants.{Here}
use Rattle.vr_header.specs.Made.{Whole}
use Rattle.vr_header.specs.Names.{name_by}
use Rattle.vr_header.specs.Parts.{header_of}
use Rattle.vr_msg.specs.declared.frame.Frame.TheVariants as frame
use Rattle.vr_msg.specs.declared.frame.Commit.{Commit}
use Rattle.vr_msg.specs.declared.frame.GetPrepare.{GetPrepare}
use Rattle.vr_msg.specs.declared.frame.GetView.{GetView}
use Rattle.vr_msg.specs.declared.frame.GivePrepare.{GivePrepare}
use Rattle.vr_msg.specs.Normal.{primary}
use Rattle.vr_rules.specs.Replica.{Replica, header_at, head, is_started, is_primary, leads, part_at, run, run_start}
use Rattle.vr_rules.specs.Outputs.{others, send, send_to, send_to_all, to_primary, prepare, prepare_ok, start_view, give_prepare}
use Rattle.vr_rules.specs.Steps.{Setting, Word, ◌⨾◌, quiet, change, says, by, naming, when}
use Rattle.vr_rules.specs.Words.{log_header, rested, stored, learn, apply, resend}
use Rattle.vr_rules.specs.Deciding.{commit_table, get_view_table, get_prepare_table, give_prepare_table, is_known}
use Rattle.vr_rules.specs.Rules.{ask_view, obey_commit, on_commit, tell_view, obey_get_view, on_get_view, obey_get_prepare, on_get_prepare, obey_give_prepare, on_give_prepare}
use Rattle.vr_rules.proofs.Ruling.{by_rows, may_store_given}
use Rattle.vr_rules.proofs.Stating.{run_of}
use Rattle.vr_rules.proofs.Taking.{log_reaches}
use Rattle.vr_rules.proofs.Trying.{from_at}
use Rattle.vr_rules.specs.Sound.{IsSound}
use Rattle.law_1_machine.specs.Group.{Group}
use Rattle.law_1_machine.specs.Members.{Memory}
use Rattle.law_1_machine.specs.Parts.{header}
use Rattle.law_1_machine.specs.Machine.{is_known as known_there}
use Rattle.law_2_chains.specs.Local.{Local}
use Rattle.law_2_chains.specs.Reflecting.{Reflects}
use Rattle.law_2_chains.specs.Chains.{Setup, Every, AsksNothing, MayBeSaid, MayStart, WasSent, Mid, Goes}
use Rattle.law_2_chains.proofs.Scripts.{goes_quiet, goes_by, goes_naming}
use Rattle.law_2_chains.proofs.Moving.{goes_says}
use Rattle.law_2_chains.proofs.Writing.{told_header, stored_here, goes_write_then}
use Rattle.law_2_chains.proofs.Saving.{run_knows}
use Rattle.law_2_chains.proofs.Applying.{goes_says_then, goes_with_entry_at, goes_apply}
use Rattle.law_2_chains.proofs.Learning.{by_commit, goes_learn}
use Rattle.law_2_chains.proofs.Vouching.{may_vouch, mid_rested, goes_change_then, goes_ask_view, goes_ask_view_then}
use Rattle.law_2_chains.proofs.Prepares.{known_is}

pub every_mapped : {X Y : Type 0} (P : Y → Type 0) (f : X → Y) (xs : List X) → ((x : X) → P (f x)) → Every P (map f xs)
every_mapped P f [] h = tt
every_mapped P f (x ∷ xs) h = (h x, every_mapped P f xs h)

-- what is got is within the list
pub got_within : {X : Type 0} (xs : List X) (i : ℕ) (x : X) → slice_get xs i ≡ Some x → i < length xs
got_within [] i x e = absurd cc
got_within (y ∷ ys) zero x e = omega arith
got_within (y ∷ ys) (suc i) x e = let l = got_within ys i x e in omega arith

pub started_is : (r : Replica) → is_started r ≡ true → r.view ≡ r.log_view
started_is r e = eqb-true r.view r.log_view e

pub leads_is : (r : Replica) → leads r ≡ true → (r.view ≡ r.log_view) × (r.index ≡ r.view % r.n)
leads_is r e = let p = and_parts (is_started r) (is_primary r) e in (eqb-true r.view r.log_view p.0, eqb-true r.index (primary r.n r.view) p.1)

-- the log of a view that has begun, of a replica that is what a memory says
pub may_start_of : (r : Replica) (m : Memory Header) → Reflects r m → IsSound r → r.view ≡ r.log_view → MayStart m r.view (run_start r) (head r) r.commit (log_header (record { view = r.view; lo = run_start r; headers = run r; head = head r; commit = r.commit }))
may_start_of r m f sound begun =
    let c = f.commit in
    let w = run_of r sound in
    let size = w.start in
    let at : (k : ℕ) → run_start r < k → log_header (record { view = r.view; lo = run_start r; headers = run r; head = head r; commit = r.commit }) k ≡ slice_get (run r) (k - (run_start r + 1)) =
    λ k a. rw (lt-leb k (run_start r) a) refl in
    record {
      in_view = f.view;
      of_log = f.log_view ∙ sym begun;
      reach = f.reach;
      backed = omega arith;
      known = λ k h e.
          elim (cases_lt (run_start r) k) [
            | inl above ↦
                let got : slice_get (run r) (k - (run_start r + 1)) ≡ Some h = sym (at k above) ∙ e in
                let within = got_within (run r) (k - (run_start r + 1)) h got in
                let place : run_start r + 1 + (k - (run_start r + 1)) ≡ k = omega arith in
                let is : header_of (part_at r k) ≡ Some h = subst (λ j. header_of (part_at r j) ≡ Some h) place (from_at (λ j g. header_of (part_at r j) ≡ Some g) (run_start r + 1) (run r) (k - (run_start r + 1)) h (run_knows r sound) got) in
                (above, omega arith, ap header (f.parts k) ∙ (told_header (part_at r k) ∙ is))
            | inr below ↦ let no_header : None ≡ Some h = rw (le-leb k (run_start r) below) at e in absurd cc
          ];
      whole = λ k a b. let y = log_reaches (run r) (k - (run_start r + 1)) (omega arith) in (y.0, at k a ∙ y.1);
    }

module _ (u : Setup) (start : Group Header) (i : ℕ) where
  -- a stored entry is prepared by the primary of a view that has begun
  pub may_prepare : (e : Whole) (r : Replica) (l : Local) (s : Group Header) (x : Mid u start i r l s) → r.view ≡ r.log_view → r.index ≡ r.view % r.n → part_at r e.header.op ≡ Here e.header
      → Every (MayBeSaid u start.sent i x.memory (s.members i).slots) (send_to_all (prepare e) r)
  unfolding send_to_all
  may_prepare e r l s x begun first is =
      let c = x.reflects.commit in
      let place : i ≡ r.view % u.quorums.n = sym x.place ∙ (first ∙ ap (λ n. r.view % n) x.size) in
      every_mapped (MayBeSaid u start.sent i x.memory (s.members i).slots) (λ to. send to (prepare e r) r) (others r.index r.n) (λ to. (x.place, place, may_vouch u start i r l s x e.header.op e.header begun is, omega arith))

  -- the log of a view that has begun is told
  pub may_start : (r : Replica) (l : Local) (s : Group Header) (x : Mid u start i r l s) → r.view ≡ r.log_view → MayStart x.memory r.view (run_start r) (head r) r.commit (log_header (record { view = r.view; lo = run_start r; headers = run r; head = head r; commit = r.commit }))
  may_start r l s x begun = may_start_of r x.memory x.reflects x.sound begun

  pub goes_tell_view : {F : Type 0} (to : ℕ) (t : Setting F) (r : Replica) (f : F) (l : Local) (s : Group Header) → Mid u start i r l s → leads r ≡ true → Goes u start i l (tell_view to t r f)
  goes_tell_view to t r f l s x lead = goes_says u start i (λ r. send_to to (start_view r) r) t r f l s x ((x.place, may_start r l s x (leads_is r lead).0), tt)

  goes_ask_then : {F : Type 0} (c : Commit) (t : Setting F) (r : Replica) (f : F) (l : Local) (s : Group Header) (x : Mid u start i r l s)
      → ((k : Local) (a : Group Header) (d : F) → Mid u start i r k a → Goes u start i k (learn c.commit t r d))
      → Goes u start i l ((by (λ r. when (nat_lt (head r) c.head) (ask_view c.view c.replica)) ⨾ learn c.commit) t r f)
  unfolding by quiet ◌⨾◌
  goes_ask_then c t r f l s x go =
      elim (nat_lt (head r) c.head) as (λ b. Goes u start i l ((when b (ask_view c.view c.replica) ⨾ learn c.commit) t r f)) [
        | true ↦ goes_ask_view_then u start i c.view c.replica (learn c.commit) t r f l s x go
        | false ↦ go l s _ x
      ]

  -- ---- a commit message (rules 16 to 18)

  pub goes_commit : {F : Type 0} (c : Commit) (t : Setting F) (r : Replica) (f : F) (l : Local) (s : Group Header) → Mid u start i r l s → WasSent u start.sent (frame.Commit c) → Goes u start i l (on_commit c t r f)
  unfolding on_commit
  goes_commit c t r f l s x sent =
      let views = x.sound.order.views in
      let idle = goes_quiet u start i t r f l s x in
      let y = mid_rested u start i r l s x in
      let hears : r.log_view ≡ c.view → Goes u start i l ((change rested ⨾ by (λ r. when (nat_lt (head r) c.head) (ask_view c.view c.replica)) ⨾ learn c.commit) t r f) =
      λ same. goes_change_then u start i rested _ t r f l s y (λ d. goes_ask_then c t (rested r) d l s y (λ k a e z. goes_learn u start i c.commit t (rested r) e k a z (rw same (by_commit c.replica sent)))) in
      goes_by u start i _ t r f l (by_rows (λ z. Goes u start i l (obey_commit c z t r f)) (commit_table c r) (
        λ a. idle,
        λ n0. (
          λ a. idle,
          λ n1. (λ a. goes_ask_view u start i c.view c.replica t r f l s x, λ n2. (λ a. hears (let p = ltb-false c.view r.view n1 in let q = ltb-false r.log_view c.view n2 in omega arith), λ n3. idle)),
        ),
      ))

  -- ---- an entry is asked for, and given (rules 28, 29)

  pub goes_get_prepare : {F : Type 0} (g : GetPrepare) (t : Setting F) (r : Replica) (f : F) (l : Local) (s : Group Header) → Mid u start i r l s → Goes u start i l (on_get_prepare g t r f)
  unfolding on_get_prepare
  goes_get_prepare g t r f l s x =
      let idle = goes_quiet u start i t r f l s x in
      goes_naming u start i _ t r f l (goes_by u start i _ t r f l (by_rows (λ z. Goes u start i l (obey_get_prepare g z t r f)) (get_prepare_table t.hash g r) (
        λ a. idle,
        λ n0. (λ a. goes_with_entry_at u start i g.op _ t r f l s x (λ e is. goes_says u start i (λ r. send_to g.replica (give_prepare e r) r) t r f l s x (tt, tt)), λ n1. idle),
      )))

  pub goes_get_view : {F : Type 0} (g : GetView) (t : Setting F) (r : Replica) (f : F) (l : Local) (s : Group Header) → Mid u start i r l s → Goes u start i l (on_get_view g t r f)
  unfolding on_get_view
  goes_get_view g t r f l s x =
      let idle = goes_quiet u start i t r f l s x in
      goes_by u start i _ t r f l (by_rows (λ z. Goes u start i l (obey_get_view g z t r f)) (get_view_table g r) (
        λ a. idle,
        λ n0. (λ a. goes_tell_view g.replica t r f l s x (and_parts (leads r) (nat_le g.view r.view) a).0, λ n1. idle),
      ))

  resends : {F : Type 0} (hash : List ℕ → List ℕ) (e : Whole) (b : Bool) (t : Setting F) (r : Replica) (f : F) (l : Local) (s : Group Header) (x : Mid u start i r l s) → hash ≡ u.hash → is_primary r ≡ b → r.view ≡ r.log_view
      → part_at r e.header.op ≡ Here e.header → (w : Word F) → ((k : Local) (a : Group Header) (d : F) → Mid u start i r k a → Goes u start i k (w t r d))
      → Goes u start i l ((cond b (says (send_to_all (prepare e))) (says (to_primary (prepare_ok hash e.header))) ⨾ w) t r f)
  resends hash e true t r f l s x same first begun is w go =
      goes_says_then u start i (send_to_all (prepare e)) w t r f l s x (may_prepare e r l s x begun (eqb-true r.index (primary r.n r.view) first) is) go
  resends hash e false t r f l s x same first begun is w go =
      goes_says_then u start i (to_primary (prepare_ok hash e.header)) w t r f l s x
      ((x.place, (e.header, ap (λ (y : List ℕ → List ℕ). name_by y e.header) (sym same), may_vouch u start i r l s x e.header.op e.header begun is)), tt) go

  pub goes_resend_then : {F : Type 0} (e : Whole) (w : Word F) (t : Setting F) (r : Replica) (f : F) (l : Local) (s : Group Header) (x : Mid u start i r l s) → t.hash ≡ u.hash → part_at r e.header.op ≡ Here e.header
      → ((k : Local) (a : Group Header) (d : F) → Mid u start i r k a → Goes u start i k (w t r d)) → Goes u start i l ((resend e ⨾ w) t r f)
  unfolding resend naming by quiet ◌⨾◌
  goes_resend_then e w t r f l s x same is go =
      elim (is_started r && nat_lt r.commit e.header.op) as (λ b. (is_started r && nat_lt r.commit e.header.op) ≡ b
      → Goes u start i l ((when b (cond (is_primary r) (says (send_to_all (prepare e))) (says (to_primary (prepare_ok t.hash e.header)))) ⨾ w) t r f)) [
        | true ↦ λ b. resends t.hash e (is_primary r) t r f l s x same refl (started_is r (and_parts (is_started r) _ b).0) is w go
        | false ↦ λ b. go l s _ x
      ] refl

  pub goes_give_prepare : {F : Type 0} (g : GivePrepare) (t : Setting F) (r : Replica) (f : F) (l : Local) (s : Group Header) → Mid u start i r l s → t.hash ≡ u.hash → Every AsksNothing l.said
      → Goes u start i l (on_give_prepare g t r f)
  unfolding on_give_prepare
  goes_give_prepare g t r f l s x same free =
      let idle = goes_quiet u start i t r f l s x in
      let op : ℕ = g.entry.header.op in
      goes_by u start i _ t r f l (by_rows (λ z. Goes u start i l (obey_give_prepare g z t r f)) (give_prepare_table g r) (
        λ a. idle,
        λ n0. (
          λ a.
              let p = and_parts (nat_lt r.checkpoint op) _ a in
              let c = and_parts (is_known g.entry.header op r) _ p.1 in
              let known = known_is g.entry.header (header_at r op) c.0 in
              let may = may_store_given g.entry r x.sound (ltb-true r.checkpoint op p.0) c.0 in
              goes_write_then u start i g.entry r l s x may free (known_there (ap header (x.reflects.parts op) ∙ (told_header (part_at r op) ∙ known))) _ t f (λ k b d y.
              goes_resend_then g.entry apply t (stored g.entry r) d k b y same (stored_here g.entry r x.sound may) (λ k b d y. goes_apply u start i t (stored g.entry r) d k b y)),
          λ n1. idle,
        ),
      ))
