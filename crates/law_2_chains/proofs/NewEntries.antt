-- An entry is made by the primary of its view, stored and prepared: what holds then, whatever the size of the group.
use Rattle.std.proofs.Common.{ℕ, suc, ◌+◌, ◌-◌, ◌%◌, ◌^◌, ◌≤◌, ◌<◌, ◌≡◌, ◌∙◌, ◌⊎◌, inl, inr, arith, refl, sym, ap, subst, true, not, List, [], ◌∷◌, Option, Some, None, is_some}
use Rattle.std.specs.Prelude.{nat_lt, nat_le, nat_eq}
use Rattle.std.specs.Cmp.Lexicographic.{pointwise}
use Rattle.std.specs.Option.{option_map_or}
use Rattle.std.proofs.lemmas.Bool.{and_from, or_parts, cases_lt, eq-eqb, not-false, ltb-false, leb-false, true≢false}
use Rattle.vr_header.specs.declared.header.Header.{Header}
use Rattle.vr_header.specs.Made.{Whole}
use Rattle.vr_header.specs.Names.{name_by, root_by}
use Rattle.vr_msg.specs.declared.frame.Frame.TheVariants as frame
use Rattle.vr_msg.specs.declared.output.Output.{Output}
use Rattle.vr_msg.specs.declared.request.RequestFields.{RequestFields}
use Rattle.vr_msg.specs.Normal.{same_sum}
use Rattle.vr_state.specs.declared.session.SessionAnswer.{SessionAnswer}
use Rattle.vr_state.specs.declared.session.SessionAnswer.TheVariants as answer
use Rattle.vr_rules.specs.Sound.{IsNameBytes}
use Rattle.vr_rules.specs.Replica.{Replica, last_view, head, header_at, leads, part_at}
use Rattle.vr_rules.specs.Outputs.{prepare, send_to_all}
use Rattle.vr_rules.specs.declared.asker.Asker.{Asker}
use Rattle.vr_rules.specs.Steps.{Effect, Setting, Step, ◌⨾◌, quiet, change, does, says, by, naming, after_all}
use Rattle.vr_rules.specs.Words.{is_loaded, writes, write, stored, advance}
use Rattle.vr_rules.specs.Deciding.{request_table, session_answer}
use Rattle.vr_rules.specs.Rules.{asker_by, next_entry, make, stored_reply, obey_request, on_request}
use Rattle.vr_rules.specs.Laws.{IsMessage}
use Rattle.vr_rules.proofs.Reacting.{may_store_next}
use Rattle.vr_rules.proofs.Ruling.{by_rows, for_of}
use Rattle.vr_rules.proofs.Storing.{MayStore}
use Rattle.law_1_machine.specs.Basics.{In}
use Rattle.law_1_machine.specs.Group.{Group, made_at}
use Rattle.law_1_machine.specs.Machine as move
use Rattle.law_1_machine.specs.Members.{Memory}
use Rattle.law_1_machine.specs.Parts.{header}
use Rattle.law_2_chains.specs.Local.{Local}
use Rattle.law_2_chains.specs.Reflecting.{entries_by}
use Rattle.law_2_chains.specs.Chains.{Setup, Every, AsksNothing, WasMade, Mid, Goes}
use Rattle.law_2_chains.specs.Begins.{with_made}
use Rattle.law_2_chains.proofs.Tallies.{Tallies}
use Rattle.law_2_chains.proofs.Readying.{free_ready}
use Rattle.law_2_chains.proofs.Scripts.{every_map, goes_quiet}
use Rattle.law_2_chains.proofs.Moving.{goes_says}
use Rattle.law_2_chains.proofs.Writing.{told_header, stored_fields}
use Rattle.law_2_chains.proofs.Staying.{Stays, stays_quiet, stays_says}
use Rattle.law_2_chains.proofs.Tabling.{Tabled, tabled_stays}
use Rattle.law_2_chains.proofs.Repairs.{leads_is}
use Rattle.law_2_chains.proofs.Calm.{Calms, calms_quiet, calms_says}
use Rattle.law_2_chains.proofs.StoredLists.{IsCalm}

same_text : (xs : List ℕ) → pointwise nat_eq xs xs ≡ true
same_text [] = refl
same_text (x ∷ xs) = and_from (nat_eq x x) (pointwise nat_eq xs xs) (eq-eqb x x refl) (same_text xs)

-- ---- an entry is made

module _ (u : Setup) (start : Group Header) (i : ℕ) where
  -- the machine makes it, and the step begins there
  unfoldable pub mid_makes : (r : Replica) (l : Local) (x : Mid u start i r l start) (h : Header) → move.Step u.quorums (entries_by u.hash u.cluster) start (with_made h start)
      → Mid u (with_made h start) i r l (with_made h start)
  mid_makes r l x h step = record {
    under = record {
      reached = move.and_then start (with_made h start) x.under.reached step;
      sent = refl;
      chosen = λ c h. h;
      others = λ j n. refl;
      disk = x.under.disk;
      made = every_map (WasMade start.made) (WasMade (with_made h start).made) l.made (λ g i. inr i) x.under.made;
      none_made = refl;
    };
    memory = x.memory;
    running = x.running;
    reflects = x.reflects;
    sound = x.sound;
    place = x.place;
    size = x.size;
    stored = x.stored;
    ready = x.ready;
  }

-- the primary of a view that has begun may make an entry at its head, and store it
pub record MayMake (u : Setup) (start : Group Header) (i : ℕ) (e : Whole) (r : Replica) (l : Local) : Type 0 where
  pub mid : Mid u start i r l start
  pub tables : Tallies u start i r
  pub may : MayStore e r
  pub lead : leads r ≡ true
  pub op : e.header.op ≡ head r + 1
  pub view : e.header.view ≡ r.view
  pub top : 0 < head r → is_some (header_at r (head r)) ≡ true
  pub stands : e.header.parent ≡ name_by u.hash (option_map_or (λ h. h) (header_at r (head r)) (root_by u.hash u.cluster))
  pub free : Every AsksNothing l.said

module _ (u : Setup) (start : Group Header) (i : ℕ) (e : Whole) (r : Replica) (l : Local) (y : MayMake u start i e r l) where
  abbrev m : Memory Header
  m = y.mid.memory

  -- with the entry made
  abbrev pub made : Group Header
  made = with_made e.header start

  follows_it : (d : Header) → e.header.parent ≡ name_by u.hash d → same_sum e.header.parent (name_by u.hash d) ≡ true
  follows_it d is = rw is (same_text (name_by u.hash d).0)

  parent_is : (o : Option Header) → header_at r (head r) ≡ o
      → ((m.head ≡ 0) × (same_sum e.header.parent (name_by u.hash (root_by u.hash u.cluster)) ≡ true)) ⊎ ((h : Header) × (header (m.parts m.head) ≡ Some h) × (same_sum e.header.parent (name_by u.hash h) ≡ true))
  parent_is None is =
      let reach = y.mid.reflects.reach in
      let none : head r ≡ 0 = elim (cases_lt 0 (head r)) [ inl some ↦ absurd (true≢false (sym (y.top some) ∙ ap (λ (o : Option Header). is_some o) is)) | inr z ↦ omega arith ] in
      inl (omega arith, follows_it (root_by u.hash u.cluster) (y.stands ∙ ap (λ (o : Option Header). name_by u.hash (option_map_or (λ h. h) o (root_by u.hash u.cluster))) is))
  parent_is (Some d) is = inr (
    d,
    ap (λ k. header (m.parts k)) y.mid.reflects.reach ∙ (ap header (y.mid.reflects.parts (head r)) ∙ (told_header (part_at r (head r)) ∙ is)),
    follows_it d (y.stands ∙ ap (λ (o : Option Header). name_by u.hash (option_map_or (λ h. h) o (root_by u.hash u.cluster))) is),
  )

  pub now : (m.log_view ≡ e.header.view) × (suc m.head ≡ e.header.op)
  now =
      let reach = y.mid.reflects.reach in
      let log_view = y.mid.reflects.log_view in
      let begun = (leads_is r y.lead).0 in
      (omega arith, omega arith)

  pub not_made : In (made_at e.header.view e.header.op e.header) start.made → ⊥
  not_made is = y.tables.top y.lead e.header.op e.header (omega arith) (subst (λ v. In (made_at v e.header.op e.header) start.made) y.view is)

  pub makes : move.Step u.quorums (entries_by u.hash u.cluster) start made
  makes =
      let f = y.mid.reflects in
      let p = leads_is r y.lead in
      let reach = f.reach in
      let view = f.view in
      let log_view = f.log_view in
      let begun = p.0 in
      let so : ℕ → ℕ → Type 0 = λ v k. move.Step u.quorums (entries_by u.hash u.cluster) start (record start { made = made_at v k e.header ∷ start.made }) in
      let step : so m.log_view (suc m.head) =
      move.makes i m e.header y.mid.running (omega arith) (sym y.mid.place ∙ (p.1 ∙ (ap (λ n. r.view % n) y.mid.size ∙ ap (λ v. v % u.quorums.n) (begun ∙ sym log_view)))) (omega arith) (omega arith) (parent_is (header_at r (head r)) refl)
      (λ h is. y.tables.top y.lead (suc m.head) h (omega arith) (subst (λ v. In (made_at v (suc m.head) h) start.made) (log_view ∙ sym begun) is)) in
      subst (λ v. so v e.header.op) now.0 (subst (so m.log_view) now.1 step)

  pub fields : ((stored e r).index ≡ r.index) × ((stored e r).commit ≡ r.commit) × ((stored e r).n ≡ r.n)
  fields = stored_fields e r y.mid.sound y.may

  pub known_op : (r.commit < e.header.op) × (r.checkpoint ≤ r.commit)
  known_op =
      let known = y.mid.sound.order.known in
      let a = y.mid.sound.order.applied in
      let b = y.mid.sound.order.commit in
      (omega arith, omega arith)

-- ---- the rules

module _ (u : Setup) (start : Group Header) (i : ℕ) where
  pub says_reply : {F : Type 0} (a : Asker) (x : SessionAnswer) (t : Setting F) (r : Replica) (f : F) (l : Local) (s : Group Header) → Mid u start i r l s → Goes u start i l (stored_reply a x t r f)
  says_reply a answer.Fresh t r f l s x = goes_quiet u start i t r f l s x
  says_reply a (answer.Repeat outcome op) t r f l s x = goes_says u start i _ t r f l s x (tt, tt)
  says_reply a answer.Old t r f l s x = goes_says u start i _ t r f l s x (tt, tt)
  says_reply a answer.Gap t r f l s x = goes_says u start i _ t r f l s x (tt, tt)
  says_reply a answer.Evicted t r f l s x = goes_says u start i _ t r f l s x (tt, tt)

pub next_is : (u : Setup) (hash : List ℕ → List ℕ) (q : RequestFields) (r : Replica) → hash ≡ u.hash → r.cluster ≡ u.cluster
    → ((next_entry hash q r).header.op ≡ head r + 1) × ((next_entry hash q r).header.view ≡ r.view)
    × ((next_entry hash q r).header.parent ≡ name_by u.hash (option_map_or (λ h. h) (header_at r (head r)) (root_by u.hash u.cluster)))
unfolding next_entry
next_is u hash q r same group = (
  refl,
  refl,
  ap (λ (y : List ℕ → List ℕ). name_by y (option_map_or (λ h. h) (header_at r (head r)) (root_by y r.cluster))) same
      ∙ ap (λ (c : ℕ). name_by u.hash (option_map_or (λ h. h) (header_at r (head r)) (root_by u.hash c))) group,
)

pub stays_reply : {F : Type 0} (a : Asker) (x : SessionAnswer) → Stays {F = F} (stored_reply a x)
stays_reply a answer.Fresh = stays_quiet
stays_reply a (answer.Repeat outcome op) = stays_says _
stays_reply a answer.Old = stays_says _
stays_reply a answer.Gap = stays_says _
stays_reply a answer.Evicted = stays_says _

pub calms_reply : {F : Type 0} (a : Asker) (x : SessionAnswer) → Calms {F = F} (stored_reply a x)
calms_reply a answer.Fresh = calms_quiet
calms_reply a (answer.Repeat outcome op) = calms_says _
calms_reply a answer.Old = calms_says _
calms_reply a answer.Gap = calms_says _
calms_reply a answer.Evicted = calms_says _

-- what it writes first
pub make_script : {F : Type 0} (e : Whole) (t : Setting F) (r : Replica) (f : F) → (later : List Effect) × ((make e t r f).script ≡ writes e r ∷ later)
unfolding make write does change ◌⨾◌
make_script e t r f = (((says (send_to_all (prepare e)) ⨾ advance) t (stored e r) (after_all t f (writes e r ∷ []))).script, refl)

module _ (u : Setup) (start : Group Header) (i : ℕ) where
  -- what is asked of the handling of a request holds, where it holds of each way to handle it
  pub by_request : {F : Type 0} (P : Step → Type 0) (q : RequestFields) (t : Setting F) (r : Replica) (f : F) (l : Local) → ((z : Step) → Every (IsCalm r.view r.log_view) z.script → ((s : Group Header) → Mid u s i r l s → Tallies u s i r → Goes u s i l z × Tabled u s i z) → P z)
      → ((e : Whole) → MayMake u start i e r l → P (make e t r f)) → Mid u start i r l start → Tallies u start i r → t.hash ≡ u.hash → r.cluster ≡ u.cluster → ((bytes : List ℕ) → IsNameBytes (t.hash bytes)) → r.view ≤ last_view
      → (0 < head r → is_some (header_at r (head r)) ≡ true) → Every AsksNothing l.said → IsMessage (frame.Request q) → P (on_request q t r f)
  unfolding on_request naming by
  by_request P q t r f l so makes_it x tables same group names last top free m =
      let h = x.sound in
      let idle = so (quiet t r f) (calms_quiet.every t r f) (λ s y z. (goes_quiet u s i t r f l s y, tabled_stays u s i quiet t r f stays_quiet y.sound z)) in
      let says_it : (os : Replica → List Output) → Every AsksNothing (os r) → P (says os t r f) =
      λ os plain.
      so (says os t r f) ((calms_says os).every t r f) (λ s y z. (goes_says u s i os t r f l s y (free_ready u s.sent i y.memory (s.members i).slots (os r) plain), tabled_stays u s i (says os) t r f (stays_says os) y.sound z)) in
      by_rows (λ z. P (obey_request t.hash q z t r f)) (request_table q r) (
        λ c. idle,
        λ n0. (
          λ c. says_it _ (tt, tt),
          λ n1. (
            λ c. says_it _ (tt, tt),
            λ n2. (
              λ c. idle,
              λ n3. (
                λ c. so (stored_reply (asker_by t.hash q) (session_answer q r) t r f) ((calms_reply (asker_by t.hash q) (session_answer q r)).every t r f) (λ s y z. (says_reply u s i (asker_by t.hash q) (session_answer q r) t r f l s y, tabled_stays u s i _ t r f (stays_reply (asker_by t.hash q) (session_answer q r)) y.sound z)),
                λ n4. (
                  λ c. says_it _ (tt, tt),
                  λ n5. (
                    λ c.
                        let lead = not-false (leads r) n1 in
                        let both = leads_is r lead in
                        let behind = or_parts (not (is_loaded r)) (nat_lt r.applied r.commit) n2 in
                        let full = or_parts (nat_le 8 (head r - r.commit)) (nat_le (2 ^ 62) (head r)) n5 in
                        let few = leb-false 8 (head r - r.commit) full.0 in
                        let known = h.order.known in
                        let may = may_store_next t.hash q r names h m (for_of q.version q.cluster r (not-false _ n0)) both.0 last (ltb-false r.applied r.commit behind.1) (omega arith) (leb-false (2 ^ 62) (head r) full.1) in
                        let is = next_is u t.hash q r same group in
                        makes_it (next_entry t.hash q r) (record { mid = x; tables = tables; may = may; lead = lead; op = is.0; view = is.1; top = top; stands = is.2; free = free }),
                    λ n6. idle,
                  ),
                ),
              ),
            ),
          ),
        ),
      )
