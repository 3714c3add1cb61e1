-- A request is answered: the primary makes its entry, and then the rounds.
use Rattle.std.proofs.Common.{arith, ℕ, ◌+◌, ◌-◌, ◌*◌, ◌<◌, ◌≤◌, ◌≡◌, ◌∙◌, inl, inr, refl, sym, ap, subst, Bool, true, false, List, [], ◌∷◌, ◌++◌, length, map, Option, Some, None, ◌%◌}
use Rattle.std.specs.Prelude.{Contains, max, nat_le, nat_lt, slice_get}
use Rattle.std.specs.Option.{option_map_or}
use Rattle.std.proofs.lemmas.Bool.{and_parts, cases_Bool, leb-true, ltb-false, or_parts}
use Rattle.std.proofs.lemmas.List.{length-append, length-map}
use Rattle.std.proofs.lemmas.List.Elements.{All-contains, Contains-append_left, Contains-append_right}
use Rattle.vr_base.specs.Versions.{by_version}
use Rattle.vr_header.specs.Made.{Whole}
use Rattle.vr_msg.specs.declared.event.Event.TheVariants as event
use Rattle.vr_msg.specs.declared.output.Output.{Output}
use Rattle.vr_msg.specs.declared.output.Sent.{Sent}
use Rattle.vr_msg.specs.declared.request.RequestFields.{RequestFields}
use Rattle.vr_rules.proofs.FitSteps.{whole_next}
use Rattle.vr_rules.proofs.Reacting.{may_store_next}
use Rattle.vr_rules.proofs.SendsScripts.{outputs_append}
use Rattle.vr_rules.proofs.Storing.{MayStore}
use Rattle.vr_rules.specs.Outputs.{others, prepare}
use Rattle.vr_rules.specs.Replica.{Replica, is_frozen, is_spent, last_view, replication, version}
use Rattle.vr_rules.specs.Rules.{make, next_entry, react}
use Rattle.vr_rules.specs.Sound.{IsSound}
use Rattle.vr_rules.specs.Steps.{Effect, Say, Setting, Step, Write, after_all, output_of, outputs}
use Rattle.vr_rules.specs.Words.{has_quorum, stored, writes}
use Rattle.vr_world.proofs.FitLies.{lies_fit}
use Rattle.vr_world.specs.Lying.{hazards, lying}
use Rattle.vr_world.specs.World.{Asks, AsksInVersion, Happened, Happening, Hazards, Host, World, asks, at_member, happen, happens, in_version, nothing, with_member}
use Rattle.law_progress.proofs.Lists.{All-each, but_at, but_length, got_map, got_other, got_right, got_set}
use Rattle.law_progress.proofs.Making as making
use Rattle.law_progress.proofs.Making.{sent_to}
use Rattle.law_progress.proofs.Rounds as rounds
use Rattle.law_progress.proofs.Rounds.{Midst, acted, rounds_answer, steps_at}
use Rattle.law_progress.proofs.Ruling.{request_makes}
use Rattle.law_progress.proofs.Standing.{Stands, advance_answers}
use Rattle.law_progress.proofs.Writing.{written_reads}
use Rattle.law_progress.specs.Answering as answering
use Rattle.law_progress.specs.Answering.{AreDistinct, HasBackup, IsAsk, IsLevel, IsNew, LeadsLevel, RequestsAreAnswered, Runs, answer, normal_lines, place_beside}

less_none : (k : ℕ) → k - 0 ≡ k
less_none k = omega arith

-- ---- how many lines

rounds_length : (p first next : ℕ) (bs : List ℕ) → length (answering.rounds p first next bs) ≡ 2 * length bs
unfolding answering.rounds
rounds_length p first next [] = refl
rounds_length p first next (b ∷ bs) = let rest = rounds_length p first (next + 1) bs in omega (arith, rest)

lines_length : {F : Type 0} (w : World F) (ask : Happening) (p : ℕ) (bs : List ℕ) → length (normal_lines w ask p bs) ≡ 2 * length bs + 1
unfolding normal_lines
lines_length w ask p bs = let rest = rounds_length p (length w.sent) (length w.sent + (w.n - 1)) bs in omega (arith, rest)

module _ {F : Type 0} (hz : Hazards F) (w : World F) (q : RequestFields) (p : ℕ) (bs : List ℕ) (l : IsLevel hz.setting.hash w p bs) (new : IsNew q l.replica)
    (may : MayStore (next_entry hz.setting.hash q l.replica) l.replica)
    (said : (g : F) (o : Output) (slot : ℕ) → hz.setting.entry (hz.setting.after g (Say o)) slot ≡ hz.setting.entry g slot)
    (back : (again : Bool) → hz.setting.entry (hz.setting.after l.disk (Write again (next_entry hz.setting.hash q l.replica))) ((next_entry hz.setting.hash q l.replica).header.op % 64) ≡ Some (next_entry hz.setting.hash q l.replica))
    (few : w.n ≤ 6) (ask : Happening) (is_ask : IsAsk p q ask) where
  abbrev s : Setting F
  s = hz.setting

  abbrev old : Replica
  old = l.replica

  abbrev e : Whole
  e = next_entry s.hash q old

  abbrev made : Replica
  made = stored e old

  abbrev told : Output
  told = answer s.hash q old

  abbrev op : ℕ
  op = old.commit + 1

  low : p < w.n
  low = let is = l.runs.sound.member in let size = l.runs.size in let index = l.runs.index in omega (arith, is, size, index)

  abbrev script : List Effect
  script = making.script s q old l.leads l.runs.sound l.disk said back

  abbrev disk : F
  disk = after_all s l.disk script

  stands : Stands s q old [] made disk
  stands = making.made_stands s q old l.leads l.runs.sound may disk (making.read_back s q old l.leads l.runs.sound l.disk said back)

  -- the primary's place, size and view stay
  made_index : made.index ≡ p
  made_index = ap (λ (x : Replica). x.index) stands.same ∙ l.runs.index

  made_size : made.n ≡ w.n
  made_size = ap (λ (x : Replica). x.n) stands.same ∙ l.runs.size

  makes : react (event.Request q) s old l.disk ≡ make e s old l.disk
  makes = request_makes s q old l.disk l.runs.awake l.leads new

  steps_so : happens hz w (Asks p q) ≡ with_member w p (acted hz l.disk (react (event.Request q) s old l.disk))
  steps_so = steps_at hz w p old l.disk (event.Request q) l.runs.member

  same_request : in_version (version old) q ≡ q
  same_request = let same = new.of_version in let m : max q.version (version old) ≡ q.version = omega (arith, same) in ap (λ (v : ℕ). record q { version = v }) m

  -- in the version of its file it is the same request
  steps_in_version : happens hz w (AsksInVersion p q) ≡ with_member w p (acted hz l.disk (react (event.Request q) s old l.disk))
  unfolding at_member
  steps_in_version =
      ap (λ (o : Option (Host F)). option_map_or (λ m. with_member w p (asks hz q p m)) o (nothing w)) l.runs.member
      ∙ ap (λ (x : RequestFields). with_member w p (acted hz l.disk (react (event.Request x) s old l.disk))) same_request

  asked : happens hz w ask ≡ with_member w p (acted hz l.disk (make e s old l.disk))
  asked = elim is_ask [
    | inl is ↦ ap (happens hz w) is ∙ steps_so
    | inr is ↦ ap (happens hz w) is ∙ steps_in_version
  ] ∙ ap (λ (x : Step). with_member w p (acted hz l.disk x)) makes

  abbrev lines : List Happening
  lines = answering.rounds p (length w.sent) (length w.sent + (w.n - 1)) bs

  contains_first : Contains (happens hz w ask).outputs told → Contains (happen hz w (normal_lines w ask p bs)).outputs told
  unfolding happen normal_lines
  contains_first there = Contains-append_left (happens hz w ask).outputs (happen hz (happens hz w ask).world lines).outputs told there

  contains_rest : Contains (happen hz (happens hz w ask).world lines).outputs told → Contains (happen hz w (normal_lines w ask p bs)).outputs told
  unfolding happen normal_lines
  contains_rest there = Contains-append_right (happens hz w ask).outputs (happen hz (happens hz w ask).world lines).outputs told there

  -- ---- where that is a quorum already

  said_last : (effect : Effect) (es ds : List Effect) → Contains (outputs ds) told → Contains (outputs (effect ∷ (es ++ ds))) told
  unfolding outputs
  said_last effect es ds there =
      Contains-append_right (output_of effect) (outputs (es ++ ds)) told (subst (λ os. Contains os told) (sym (outputs_append es ds)) (Contains-append_right (outputs es) (outputs ds) told there))

  at_once : has_quorum made op ≡ true → Contains (happens hz w ask).outputs told
  at_once many =
      let said_it = advance_answers s q old l.leads new.fresh [] made disk stands many in
      let all = said_last (writes e old) (map Say (making.prepares s q old l.leads l.runs.sound l.disk said back)) (making.advances s q old l.leads l.runs.sound l.disk said back).script said_it in
      subst (λ (h : Happened F). Contains h.outputs told) (sym asked)
      (subst (λ (x : Step). Contains (outputs x.script) told) (sym (making.make_is s q old l.leads l.runs.sound l.disk said back)) all)

  -- ---- and where it isn't yet

  abbrev after : World F
  after = (with_member w p (acted hz l.disk (record { replica = made; script = script }))).world

  after_sent : after.sent ≡ w.sent ++ map (sent_to (prepare e made) made) (others made.index made.n)
  after_sent = ap (λ (ms : List Sent). w.sent ++ ms) (making.script_sends s q old l.leads l.runs.sound l.disk said back)

  others_are : others made.index made.n ≡ others p w.n
  others_are = ap (λ i. others i made.n) made_index ∙ ap (others p) made_size

  sent_at : (b : ℕ) → HasBackup s.hash w p old b → slice_get after.sent (length w.sent + place_beside p b) ≡ Some (sent_to (prepare e made) made b)
  sent_at b h =
      let is = h.runs.sound.member in
      let own = h.runs.size in
      let at = h.runs.index in
      let there : slice_get (others made.index made.n) (place_beside p b) ≡ Some b =
      ap (λ (xs : List ℕ). slice_get xs (place_beside p b)) others_are ∙ ap (slice_get (others p w.n)) (sym (less_none (place_beside p b))) ∙ but_at p 0 w.n b (omega arith) (omega (arith, low)) (omega arith) (omega (arith, is, own, at)) h.other in
      ap (λ (ms : List Sent). slice_get ms (length w.sent + place_beside p b)) after_sent
      ∙ got_right w.sent (map (sent_to (prepare e made) made) (others made.index made.n)) (length w.sent + place_beside p b) (place_beside p b) refl
      ∙ got_map (sent_to (prepare e made) made) (others made.index made.n) (place_beside p b) b there

  after_long : length w.sent + (w.n - 1) ≡ length after.sent
  after_long =
      let all = but_length p 0 w.n (omega arith) (omega (arith, low)) in
      let many : length (others made.index made.n) ≡ w.n - 1 = ap length others_are ∙ all in
      let mapped = length-map (others made.index made.n) (sent_to (prepare e made) made) in
      let sum = length-append w.sent (map (sent_to (prepare e made) made) (others made.index made.n)) in
      let long : length after.sent ≡ length (w.sent ++ map (sent_to (prepare e made) made) (others made.index made.n)) = ap length after_sent in
      omega (arith, many, mapped, sum, long)

  still : (b : ℕ) → HasBackup s.hash w p old b → HasBackup s.hash after p old b
  still b h = record {
    other = h.other;
    replica = h.replica;
    disk = h.disk;
    runs = record {
      member = got_other w.members p b (record { replica = Some made; disk = disk; fuse = None }) h.other ∙ h.runs.member;
      index = h.runs.index;
      size = h.runs.size;
      sound = h.runs.sound;
      awake = h.runs.awake;
    };
    follows = h.follows;
  }

  midst : has_quorum made op ≡ false → Midst hz q old p w.n (length w.sent) l.leads l.runs.sound new.fresh new.of_group l.runs.awake l.runs.index l.runs.size low few after [] bs (length w.sent + (w.n - 1))
  midst too_few =
      let size = l.runs.size in
      let enough = l.enough in
      record {
        replica = made;
        disk = disk;
        member = got_set w.members p (record { replica = Some made; disk = disk; fuse = None }) (record { replica = Some old; disk = l.disk; fuse = None }) l.runs.member;
        size_is = refl;
        stands = stands;
        too_few = too_few;
        apart = (λ there. let none = there.1 in omega (arith, none), tt);
        prepared = λ b there. sent_at b (All-contains (HasBackup s.hash w p old) bs b l.follow there);
        follow = All-each (HasBackup s.hash after p old) bs (λ b there. still b (All-contains (HasBackup s.hash w p old) bs b l.follow there));
        distinct = l.distinct;
        new = λ b there none. let l = none.1 in omega (arith, l);
        next_is = after_long;
        enough = let k : ℕ = replication old.n in let all : k ≤ length bs + 1 = subst (λ j. replication j ≤ length bs + 1) (sym size) enough in omega (arith, all);
      }

  later : has_quorum made op ≡ false → Contains (happen hz (happens hz w ask).world lines).outputs told
  later too_few =
      let waits = rounds.waits_then hz q old p w.n (length w.sent) l.leads l.runs.sound new.fresh new.of_group l.runs.awake l.runs.index l.runs.size low few [] made disk stands too_few in
      let step = asked ∙ ap (λ (x : Step). with_member w p (acted hz l.disk x)) (making.make_waits s q old l.leads l.runs.sound l.disk said back waits) in
      subst (λ (h : Happened F). Contains (happen hz h.world lines).outputs told) (sym step)
      (rounds_answer hz q old p w.n (length w.sent) l.leads l.runs.sound new.fresh new.of_group l.runs.awake l.runs.index l.runs.size low few bs [] after (length w.sent + (w.n - 1)) (midst too_few))

  pub answered : Contains (happen hz w (normal_lines w ask p bs)).outputs told
  answered = elim (cases_Bool (has_quorum made op)) [
    | inl many ↦ contains_first (at_once many)
    | inr too_few ↦ contains_rest (later too_few)
  ]

-- ---- on the disks of the program

view_low : (r : Replica) → is_frozen r ≡ false → r.view ≤ last_view
view_low r awake = ltb-false last_view r.view (or_parts (nat_lt last_view r.view) (is_spent r) awake).0

size_few : (r : Replica) → IsSound r → r.n ≤ 6
size_few r h = leb-true r.n 6 (and_parts _ (nat_le r.n 6) h.size).1

made_version : (q : RequestFields) (r : Replica) (v : ℕ) → q.version ≡ version r → version r ≤ by_version v 1 2 → (next_entry lying.hash q r).header.version ≤ by_version v 1 2
unfolding next_entry
made_version q r v same takes = subst (λ k. k ≤ by_version v 1 2) (sym same) takes

pub requests_are_answered : RequestsAreAnswered
requests_are_answered w q ask p bs is_ask l new long takes =
    let old = l.replica in
    let lead = l.leads in
    let level = lead.level in
    let room = lead.room in
    let applied = lead.applied in
    let may = may_store_next lying.hash q old lies_fit.names l.runs.sound new.form (new.of_version, new.of_group) lead.started (view_low old l.runs.awake) (omega (arith, applied)) (omega (arith, level)) room in
    let e = next_entry lying.hash q old in
    let whole = whole_next lying q old lies_fit.program new.form may in
    let version_is : e.header.version ≤ by_version l.disk.version 1 2 = made_version q old l.disk.version new.of_version takes in
    let size = l.runs.size in
    let six = size_few old l.runs.sound in
    (lines_length w ask p bs, answered hazards w q p bs l new may (λ g o slot. refl) (λ again. written_reads l.disk again e long whole version_is) (omega (arith, size, six)) ask is_ask)
