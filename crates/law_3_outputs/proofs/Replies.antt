-- The replies of a run: each is the plain sessions' and machine's over entries that are committed.
use Rattle.std.proofs.Common.{ℕ, zero, suc, ◌+◌, ◌-◌, ◌≤◌, ◌<◌, ◌≡◌, ◌∙◌, ◌⊎◌, inl, inr, arith, refl, sym, ap, subst, Bool, true, false, cond, ◌||◌, List, [], ◌∷◌, map, length, take, drop, set, Some, None}
use Rattle.std.specs.Prelude.{slice_get, count_by}
use Rattle.std.specs.List.{list_any, range_with_len}
use Rattle.std.specs.Option.{option_map_or}
use Rattle.std.proofs.lemmas.Bool.{cases_lt, true≢false}
use Rattle.std.proofs.lemmas.List.Sums.{sum_by-cons}
use Rattle.std.proofs.lemmas.Option.{slice_get_within}
use Rattle.vr_header.specs.Made.{Whole}
use Rattle.vr_header.specs.Names.{root_header}
use Rattle.vr_header.specs.NoCollision.{NoCollision}
use Rattle.vr_msg.specs.declared.event.Event.{Event}
use Rattle.vr_msg.specs.declared.output.Output.{Output}
use Rattle.vr_msg.specs.declared.output.Output.TheVariants as output
use Rattle.vr_msg.specs.declared.output.Committed.{Committed}
use Rattle.vr_msg.specs.declared.reply.ReplyFields.{ReplyFields}
use Rattle.vr_world.specs.Group.{Arrival, IsArrival, Group, Member, Move, Moved, Moves, Played, Run, Runs, Recovers, Steps, ended, finished, fresh_group, fresh_member, goes, migrates, migrates_cut, migration, recovers, recovers_cut, steps, crashes, cuts, stepped, started, mended, resumed, once_mended, opening_script, cut_in_two, carried_out, cut_after, found, keeps_all}
use Rattle.vr_rules.specs.Replica.{Replica, is_frozen}
use Rattle.vr_rules.specs.Opening.{blank, fresh}
use Rattle.vr_rules.specs.Rules.{react}
use Rattle.vr_world.proofs.InTwo.{opening_in_two}
use Rattle.vr_world.specs.Lying.{Lying, lying}
use Rattle.vr_rules.specs.Steps.{Step, by, outputs, quiet}
use Rattle.law_1_machine.specs.Basics.{In}
use Rattle.law_2_chains.specs.Bridge.{ServesWell}
use Rattle.law_2_chains.specs.Chains.{Setup}
use Rattle.law_2_chains.specs.Finished.{AreBacked}
use Rattle.law_2_chains.specs.Reflecting.{entries_by}
use Rattle.vr_world.specs.Commitment.{IsReplyOf, is_line_of, lines_by}
use Rattle.vr_world.specs.Safe.{IsHashed, IsTrueReply}
use Rattle.law_2_chains.proofs.Finishing.{committed_more}
use Rattle.law_3_outputs.specs.Followed.{IsFollowed, by_then, own_vouches, stored_until}
use Rattle.law_3_outputs.specs.Answering.{one_if, HasState, IsMute, Jumps, lines, IsTold, Told, Leaves}
use Rattle.law_3_outputs.specs.Replied.{IsReplied, IsServed, IsStepped}
use Rattle.law_3_outputs.proofs.Fitting.{arrives, fit_at, move_of, opening_of}
use Rattle.law_3_outputs.proofs.Orders.{in_order_lined}
use Rattle.law_3_outputs.proofs.Resuming.{resumed_have, said_right}
use Rattle.law_3_outputs.proofs.Ordering.{come_in_order}
use Rattle.vr_world.specs.GroupFit.{IsFitMove}
use Rattle.vr_world.proofs.FitLies.{lies_fit}
use Rattle.law_3_outputs.proofs.Sets.{get_in, in_get, in_left}
use Rattle.law_3_outputs.proofs.Traces.{every_in}
use Rattle.law_3_outputs.proofs.Log.{the_log, log_numbered, is_log, in_log}
use Rattle.law_3_outputs.proofs.Backed.{backed_line, backed_numbers, at_end}
use Rattle.law_3_outputs.proofs.Answers.{right_react}
use Rattle.law_3_outputs.proofs.Hushing.{opening_silent}

-- ---- lists

got_set : {X : Type 0} (xs : List X) (i j : ℕ) (y z : X) → slice_get (set xs i y) j ≡ Some z → ((j ≡ i) × (z ≡ y)) ⊎ (slice_get xs j ≡ Some z)
got_set [] i j y z e = inr e
got_set (x ∷ xs) zero zero y z e = inl (refl, (let o : Some y ≡ Some z = e in cc))
got_set (x ∷ xs) zero (suc j) y z e = inr e
got_set (x ∷ xs) (suc i) zero y z e = inr e
got_set (x ∷ xs) (suc i) (suc j) y z e = elim (got_set xs i j y z e) [ inl p ↦ inl (ap suc p.0, p.1) | inr o ↦ inr o ]

lines_are : (i : ℕ) (os : List Output) → lines_by i os ≡ lines i os
unfolding lines
lines_are i [] = refl
lines_are i (o ∷ os) =
    let rest = lines_are i os in
    let c : count_by (is_line_of i) (o ∷ os) ≡ cond (is_line_of i o) 1 0 + count_by (is_line_of i) os = sum_by-cons (λ (z : Output). cond (is_line_of i z) 1 0) o os in
    omega arith

lines_front : (i number : ℕ) (os : List Output) → lines i (take number os) ≤ lines i os
unfolding lines
lines_front i zero [] = omega arith
lines_front i (suc number) [] = omega arith
lines_front i zero (o ∷ os) = omega arith
lines_front i (suc number) (o ∷ os) = let rest = lines_front i number os in omega arith

-- where there is one, it stands at a place
line_before : (i number : ℕ) (os : List Output) → 0 < lines i (take number os) → (j : ℕ) × (c : Committed) × (j < number) × (slice_get os j ≡ Some (output.Commit c))
unfolding lines
line_before i zero [] h = absurd (omega (arith, h))
line_before i (suc number) [] h = absurd (omega (arith, h))
line_before i zero (o ∷ os) h = absurd (omega (arith, h))
line_before i (suc number) (output.Commit c ∷ os) h = (0, c, omega arith, refl)
line_before i (suc number) (output.Send s ∷ os) h = let r = line_before i number os (omega (arith, h)) in let l = r.2 in (suc r.0, r.1, omega arith, r.3)
line_before i (suc number) (output.Reply a ∷ os) h = let r = line_before i number os (omega (arith, h)) in let l = r.2 in (suc r.0, r.1, omega arith, r.3)
line_before i (suc number) (output.Choose l ∷ os) h = let r = line_before i number os (omega (arith, h)) in let l = r.2 in (suc r.0, r.1, omega arith, r.3)
line_before i (suc number) (output.Wait w ∷ os) h = let r = line_before i number os (omega (arith, h)) in let l = r.2 in (suc r.0, r.1, omega arith, r.3)
line_before i (suc number) (output.Start s ∷ os) h = let r = line_before i number os (omega (arith, h)) in let l = r.2 in (suc r.0, r.1, omega arith, r.3)
line_before i (suc number) (output.Halted n ∷ os) h = let r = line_before i number os (omega (arith, h)) in let l = r.2 in (suc r.0, r.1, omega arith, r.3)
line_before i (suc number) (output.Migrated n ∷ os) h = let r = line_before i number os (omega (arith, h)) in let l = r.2 in (suc r.0, r.1, omega arith, r.3)
line_before i (suc number) (output.Done ∷ os) h = let r = line_before i number os (omega (arith, h)) in let l = r.2 in (suc r.0, r.1, omega arith, r.3)
line_before i (suc number) (output.KeptOut ∷ os) h = let r = line_before i number os (omega (arith, h)) in let l = r.2 in (suc r.0, r.1, omega arith, r.3)

-- the last output is a line, or there is none and the one before was
after : ℕ → Bool → List Output → Bool
after i b [] = b
after i b (o ∷ os) = after i (is_line_of i o) os

told_at : (log : List Whole) (i m : ℕ) (b : Bool) (os : List Output) (number : ℕ) (o : Output) → Told log i m b os → slice_get os number ≡ Some o → IsTold log (m + lines i (take number os)) (after i b (take number os)) o
unfolding Told lines after
told_at log i m b [] number o h e = absurd cc
told_at log i m b (p ∷ os) zero o h e = let s : p ≡ o = (let t : Some p ≡ Some o = e in cc) in subst (λ k. IsTold log k b o) (let z : m ≡ m + 0 = omega arith in z) (subst (IsTold log m b) s h.0)
told_at log i m b (p ∷ os) (suc number) o h e =
    subst (λ k. IsTold log k (after i (is_line_of i p) (take number os)) o) (let z : m + one_if (is_line_of i p) + lines i (take number os) ≡ m + (one_if (is_line_of i p) + lines i (take number os)) = omega arith in z)
    (told_at log i (m + one_if (is_line_of i p)) (is_line_of i p) os number o h.1 e)

or_false : (b : Bool) → (b || false) ≡ b
or_false true = refl
or_false false = refl

after_some : (i : ℕ) (b : Bool) (o : Output) (os : List Output) → after i b (o ∷ os) ≡ list_any (is_line_of i) (drop (length os) (o ∷ os))
unfolding after
after_some i b o [] = sym (or_false (is_line_of i o))
after_some i b o (p ∷ os) = after_some i (is_line_of i o) p os

after_is : (i : ℕ) (os : List Output) → after i false os ≡ list_any (is_line_of i) (drop (length os - 1) os)
unfolding after
after_is i [] = refl
after_is i (o ∷ os) = after_some i false o os ∙ ap (λ k. list_any (is_line_of i) (drop k (o ∷ os))) (let z : length os ≡ suc (length os) - 1 = omega arith in z)

-- ---- moves

-- each member that runs, and isn't at the end of its numbers, has the state of the log
abbrev pub AllHave : List Whole → Group → Type 0
AllHave log g = (at : ℕ) (m : Member) (r : Replica) → Runs g at m r → is_frozen r ≡ false → HasState log r

changed_have : (log : List Whole) (g h : Group) (at : ℕ) (m : Member) → h.members ≡ set g.members at m → AllHave log g → ((r : Replica) → m.replica ≡ Some r → is_frozen r ≡ false → HasState log r) → AllHave log h
changed_have log g h at m same have own j m' r runs free =
    elim (got_set g.members at j m m' (subst (λ (ms : List Member). slice_get ms j ≡ Some m') same runs.member)) [
      | inl new ↦ own r (ap (λ (z : Member). z.replica) (sym new.1) ∙ runs.running) free
      | inr old ↦ have j m' r (record { member = old; running = runs.running }) free
    ]

-- a frozen replica does nothing
frozen_stays : (e : Event) (r : Replica) (f : Lying) → is_frozen r ≡ true → is_frozen (stepped e r f).replica ≡ false → ⊥
unfolding react by quiet
frozen_stays e r f z free =
    let same : (stepped e r f).replica ≡ r = rw z refl in
    true≢false (sym z ∙ (ap is_frozen (sym same) ∙ free))

frozen_silent : (e : Event) (r : Replica) (f : Lying) (number : ℕ) (o : Output) → is_frozen r ≡ true → slice_get (outputs (stepped e r f).script) number ≡ Some o → ⊥
unfolding react by quiet outputs
frozen_silent e r f number o z there =
    let none : outputs (stepped e r f).script ≡ [] = rw z refl in
    let no : None ≡ Some o = sym (ap (λ (os : List Output). slice_get os number) none) ∙ there in absurd cc

got_map : {X Y : Type 0} (f : X → Y) (xs : List X) (i : ℕ) (z : Y) → slice_get (map f xs) i ≡ Some z → (x : X) × (f x ≡ z)
got_map f [] i z e = absurd cc
got_map f (x ∷ xs) zero z e = (x, (let o : Some (f x) ≡ Some z = e in cc))
got_map f (x ∷ xs) (suc i) z e = got_map f xs i z e

module _ (cluster n : ℕ) (u : Setup) (run : List Played) (x : IsFollowed cluster n u run) (y : IsReplied cluster n u run x) (never : NoCollision (IsHashed run (root_header cluster))) where
  abbrev log : List Whole
  log = the_log cluster n u run x

  -- what is applied is in the log
  applied_within : (t : ℕ) → t ≤ length run → (r : Replica) → IsServed u (x.group t).sent r → r.applied ≤ length log
  applied_within t l r served =
      let order = served.applied in
      elim (cases_lt 0 r.applied) [
        | inr none ↦ omega arith
        | inl some ↦
            let b = served.backed r.applied some order in
            let w = in_log cluster n u run x b.1.0 r.applied b.0 some (at_end cluster n u run x t l b.1.0 r.applied b.0 b.1.2) in
            let within = slice_get_within log (r.applied - 1) w.0.entry w.1 in
            omega arith
      ]

  -- at one place of the run
  module _ (t : ℕ) (p : Played) (is : slice_get run t ≡ Some p) where
    line_at : (c : Committed) → In (output.Commit c) p.moved.outputs → slice_get log (c.entry.header.op - 1) ≡ Some c.entry
    line_at c i = let k = in_get p.moved.outputs (output.Commit c) i in (backed_line cluster n u run x t k.0 p is never c i ((x.carried t p is).said k.0 (output.Commit c) k.1)).at

    -- a step
    step_leaves : (at : ℕ) (arrival : Arrival) (e : Event) (f : Lying) (m : Member) (r : Replica) → p.move ≡ Steps at arrival e f → IsArrival p.before at arrival e → Runs p.before at m r → p.moved.outputs ≡ outputs (stepped e r f).script → HasState log r
        → Leaves log r false (stepped e r f) ⊎ Jumps r (stepped e r f)
    step_leaves at arrival e f m r move came runs said had =
        let served = y.served t at p m r is runs in
        let fit = fit_at cluster n run x.fit t p is in
        let own = (fit.0.0.members at m runs.member).running r runs.running in
        let may : IsFitMove (Steps at arrival e f) = subst IsFitMove move fit.1 in
        let order = come_in_order lying r f e lies_fit.names own.0.sound (arrives cluster p.before at arrival e fit.0.0 may.0 came) in
        let puts = y.puts never log (is_log cluster n u run x) t at arrival p e f m r is move runs in
        let lined = in_order_lined log r.index r.applied (outputs (stepped e r f).script) order.ordered (λ c i. line_at c (subst (λ (os : List Output). In (output.Commit c) os) (sym said) i)) in
        right_react log (log_numbered cluster n u run x) lying r f (applied_within t (let w = slice_get_within run t p is in omega arith) r served) e puts had lined

  -- a step of a replica that has its state, or is frozen and does nothing
  had_after : (t : ℕ) (p : Played) (is : slice_get run t ≡ Some p) (at : ℕ) (arrival : Arrival) (e : Event) (f : Lying) (m : Member) (r : Replica) → p.move ≡ Steps at arrival e f → IsArrival p.before at arrival e → p.moved.outputs ≡ outputs (stepped e r f).script → Runs p.before at m r
      → (is_frozen r ≡ false → HasState log r) → is_frozen (stepped e r f).replica ≡ false → HasState log (stepped e r f).replica
  unfolding react by
  had_after t p is at arrival e f m r move came said runs had free =
      let go : (b : Bool) → is_frozen r ≡ b → HasState log (stepped e r f).replica = elim [
        | false ↦ λ z. elim (step_leaves t p is at arrival e f m r move came runs said (had z)) [ inl left ↦ left.state | inr jump ↦ λ none. absurd (jump.missing none) ]
        | true ↦ λ z. absurd (frozen_stays e r f z free)
      ] in
      go (is_frozen r) refl

  -- one move keeps all states
  moved_have : (t : ℕ) (g : Group) (move : Move) (moved : Moved) → slice_get run t ≡ Some (record { before = g; move = move; moved = moved }) → Moves g move moved → AllHave log g → AllHave log moved.group
  moved_have t g _ _ is (steps at arrival e f m r runs came) have =
      let step = stepped e r f in
      let h = finished g at m step in
      let p : Played = record { before = g; move = Steps at arrival e f; moved = h } in
      changed_have log g h.group at (record (carried_out step.script m) { replica = Some step.replica }) refl have (λ q e' free.
      let same : step.replica ≡ q = (let o : Some step.replica ≡ Some q = e' in cc) in
      subst (λ r. is_frozen r ≡ false → HasState log r) same (had_after t p is at arrival e f m r refl came refl runs (have at m r runs)) free)
  moved_have t g _ _ is (cuts at arrival e f k m r runs came) have = changed_have log g _ at (record (cut_after k (stepped e r f).script m) { replica = None }) refl have (λ q e' free. absurd cc)
  moved_have t g _ _ is (crashes at m member) have = changed_have log g _ at (record m { replica = None }) refl have (λ q e' free. absurd cc)
  moved_have t g _ _ is (recovers at v d m opens) have =
      let h = started g at m v d in
      let p : Played = record { before = g; move = Recovers at v d; moved = h } in
      changed_have log g h.group at (record (carried_out (resumed v d).script (once_mended v d m)) { replica = Some (resumed v d).replica }) refl have (λ q e' free.
      let same : (resumed v d).replica ≡ q = (let o : Some (resumed v d).replica ≡ Some q = e' in cc) in
      subst (λ r. is_frozen r ≡ false → HasState log r) same (λ free.
      let fit = fit_at cluster n run x.fit t p is in
      let value = opening_of cluster g at m v fit.0.0 opens.member opens.value in
      let had = y.loads never log (is_log cluster n u run x) t at p v d is refl free in
      resumed_have log (log_numbered cluster n u run x) v d value fit.1 free had (λ c i. line_at t p is c (said_right (mended v d).script (resumed v d).script (output.Commit c) i))) free)
  moved_have t g _ _ is (recovers_cut at v f k m opens) have = changed_have log g _ at (record (cut_in_two (mended v f).script (resumed v f).script (keeps_all (found v f)) k m) { replica = None }) refl have (λ q e' free. absurd cc)
  moved_have t g _ _ is (migrates at v m opens) have = changed_have log g _ at (record (carried_out (migration v) m) { replica = None }) refl have (λ q e' free. absurd cc)
  moved_have t g _ _ is (migrates_cut at v k m opens) have = changed_have log g _ at (record (cut_after k (migration v) m) { replica = None }) refl have (λ q e' free. absurd cc)

  -- a group that was just made
  fresh_have : AllHave log (fresh_group x.fit.kinds cluster n)
  unfolding fresh_group blank
  fresh_have at m r runs free =
      let y = got_map (λ i. fresh_member (x.fit.kinds i) cluster n i) (range_with_len 0 n) at m runs.member in
      let same : fresh (x.fit.kinds y.0) cluster n y.0 ≡ r = (let o : Some (fresh (x.fit.kinds y.0) cluster n y.0) ≡ Some r = ap (λ (z : Member). z.replica) y.1 ∙ runs.running in cc) in
      subst (HasState log) same (λ none. refl)

  all_have : (d : ℕ) (g : Group) (ps : List Played) → Run g ps → ((k : ℕ) (p : Played) → slice_get ps k ≡ Some p → slice_get run (d + k) ≡ Some p) → AllHave log g → (k : ℕ) (p : Played) → slice_get ps k ≡ Some p → AllHave log p.before
  all_have d _ _ (ended g) sub have k p e = absurd cc
  all_have d _ _ (goes g move moved later moves rest) sub have zero p e =
      let s : record { before = g; move = move; moved = moved } ≡ p = (let o : Some (record { before = g; move = move; moved = moved }) ≡ Some p = e in cc) in
      subst (λ (p : Played). AllHave log p.before) s have
  all_have d _ _ (goes g move moved later moves rest) sub have (suc k) p e =
      all_have (suc d) moved.group later rest (λ j q i. subst (λ z. slice_get run z ≡ Some q) (let z : d + suc j ≡ suc d + j = omega arith in z) (sub (suc j) q i)) (moved_have (d + 0) g move moved (sub zero _ refl) moves have) k p e

  pub have_at : (t : ℕ) (p : Played) → slice_get run t ≡ Some p → AllHave log p.before
  have_at t p e = all_have 0 (fresh_group x.fit.kinds cluster n) run x.fit.of_run (λ k q i. subst (λ z. slice_get run z ≡ Some q) (let z : k ≡ 0 + k = omega arith in z) i) fresh_have t p e

  pub have_after : (t : ℕ) (p : Played) → slice_get run t ≡ Some p → AllHave log p.moved.group
  have_after t p e = moved_have t p.before p.move p.moved e (move_of (fresh_group x.fit.kinds cluster n) run x.fit.of_run t p e) (have_at t p e)

  -- ---- a reply

  module _ (t number : ℕ) (a : ReplyFields) where
    -- a step that replies takes over no checkpoint
    no_jump : (z : Step) (r : Replica) (os : List Output) → os ≡ outputs z.script → slice_get os number ≡ Some (output.Reply a) → Leaves log r false z ⊎ Jumps r z → Leaves log r false z
    no_jump z r os said there (inl left) = left
    no_jump z r os said there (inr jump) = absurd (every_in IsMute (outputs z.script) (output.Reply a) (subst (λ (x : List Output). In (output.Reply a) x) said (get_in os number (output.Reply a) there)) jump.mute)

    -- what the replica has applied when it replies
    applied_backed : (p : Played) (is : slice_get run t ≡ Some p) (at : ℕ) (arrival : Arrival) (e : Event) (f : Lying) (m : Member) (r : Replica) → p.move ≡ Steps at arrival e f → Runs p.before at m r → IsStepped r (stepped e r f).replica p.moved.outputs → a.view ≡ (stepped e r f).replica.view
        → (stepped e r f).replica.applied ≡ r.applied + lines r.index p.moved.outputs → AreBacked u (by_then u (x.group t) p number) a.view (r.applied + lines r.index (take number p.moved.outputs))
    applied_backed p is at arrival e f m r move runs step view applied k z l =
        let os = p.moved.outputs in
        let own = y.served t at p m r is runs in
        let now : List Output = take number os in
        let few : lines r.index now ≤ lines r.index os = lines_front r.index number os in
        let order = own.applied in
        let order' = step.applied in
        let views = step.views in
        let rises = step.rises in
        elim (cases_lt 0 (lines r.index now)) [
          | inr none ↦
              let b = own.backed k z (omega arith) in
              let early = b.1.1 in
              (b.0, (b.1.0, omega arith, committed_more u.quorums (entries_by u.hash u.cluster) (x.group t).sent (by_then u (x.group t) p number) (λ h i. in_left (x.group t).sent (own_vouches u (stored_until p number)) h i) b.1.0 k b.0 b.1.2))
          | inl some ↦
              let j = line_before r.index number os some in
              let serves : ServesWell u p.before (Steps at arrival e f) (by_then u (x.group t) p number) = subst (λ (y : Move). ServesWell u p.before y (by_then u (x.group t) p number)) move ((x.carried t p is).served j.0 number j.1 j.2 j.3) in
              let b = serves m r runs k z (omega arith) in
              let early = b.1.1 in
              (b.0, (b.1.0, omega arith, b.1.2))
        ]

    reply_of_step : (p : Played) (is : slice_get run t ≡ Some p) (at : ℕ) (arrival : Arrival) (e : Event) (f : Lying) (m : Member) (r : Replica) → p.move ≡ Steps at arrival e f → IsArrival p.before at arrival e → p.moved.outputs ≡ outputs (stepped e r f).script → Runs p.before at m r
        → slice_get p.moved.outputs number ≡ Some (output.Reply a) → HasState log r → IsTrueReply cluster n log run t number p a
    reply_of_step p is at arrival e f m r move came said runs there had =
        let os = p.moved.outputs in
        let front = take number os in
        let left = no_jump (stepped e r f) r os said there (step_leaves t p is at arrival e f m r move came runs said had) in
        let step = y.steps t at arrival p e f m r is move runs in
        let own = step.present a (subst (λ (z : List Output). In (output.Reply a) z) said (get_in os number (output.Reply a) there)) in
        let place : a.replica ≡ at = own.0 ∙ (((fit_at cluster n run x.fit t p is).0.0.members at m runs.member).running r runs.running).1.index in
        let by_lines : lines_by a.replica front ≡ lines r.index front = lines_are a.replica front ∙ ap (λ i. lines i front) own.0 in
        let applied : (stepped e r f).replica.applied ≡ r.applied + lines r.index os = left.applied ∙ ap (λ (z : List Output). r.applied + lines r.index z) (sym said) in
        let told : Told log r.index r.applied false os = subst (Told log r.index r.applied false) (sym said) left.told in
        let so = told_at log r.index r.applied false os number (output.Reply a) told there in
        let last : after r.index false front ≡ list_any (is_line_of a.replica) (drop (length front - 1) front) = ap (λ i. after i false front) (sym own.0) ∙ after_is a.replica front in
        record {
          replica = r;
          is_of = ap (λ i. option_map_or (λ (z : Member). z.replica) (slice_get p.before.members i) None) place ∙ (ap (λ o. option_map_or (λ (z : Member). z.replica) o None) runs.member ∙ runs.running);
          applied = backed_numbers cluster n u run x t number p is a.view (r.applied + lines_by a.replica front)
              (subst (λ c. AreBacked u (by_then u (x.group t) p number) a.view (r.applied + c)) (sym by_lines)
              (applied_backed p is at arrival e f m r move runs (subst (IsStepped r (stepped e r f).replica) (sym said) step) own.1 applied));
          said = subst (λ c. IsReplyOf log (r.applied + lines_by a.replica front) (r.applied + lines_by a.replica front - one_if c) a a.kind) last
              (subst (λ c. IsReplyOf log (r.applied + c) (r.applied + c - one_if (after r.index false front)) a a.kind) (sym by_lines) so);
        }

    reply_of_move : (g : Group) (move : Move) (moved : Moved) → slice_get run t ≡ Some (record { before = g; move = move; moved = moved }) → Moves g move moved → slice_get moved.outputs number ≡ Some (output.Reply a)
        → IsTrueReply cluster n log run t number (record { before = g; move = move; moved = moved }) a
    reply_of_move g _ _ is (steps at arrival e f m r runs came) there =
        let p : Played = record { before = g; move = Steps at arrival e f; moved = finished g at m (stepped e r f) } in
        let go : (b : Bool) → is_frozen r ≡ b → IsTrueReply cluster n log run t number p a = elim [
          | false ↦ λ z. reply_of_step p is at arrival e f m r refl came refl runs there (have_at t p is at m r runs z)
          | true ↦ λ z. absurd (frozen_silent e r f number (output.Reply a) z there)
        ] in
        go (is_frozen r) refl
    reply_of_move g _ _ is (cuts at arrival e f k m r runs came) there = absurd cc
    reply_of_move g _ _ is (crashes at m member) there = absurd cc
    reply_of_move g _ _ is (recovers at v f m opens) there = absurd (opening_silent lying v f a (subst (λ (s : Step). In (output.Reply a) (outputs s.script)) (sym (opening_in_two v f)) (get_in (outputs (opening_script v f)) number (output.Reply a) there)))
    reply_of_move g _ _ is (recovers_cut at v f k m opens) there = absurd cc
    reply_of_move g _ _ is (migrates at v m opens) there = absurd cc
    reply_of_move g _ _ is (migrates_cut at v k m opens) there = absurd cc

    pub true_reply : (p : Played) → slice_get run t ≡ Some p → slice_get p.moved.outputs number ≡ Some (output.Reply a) → IsTrueReply cluster n log run t number p a
    true_reply p is there = reply_of_move p.before p.move p.moved is (move_of (fresh_group x.fit.kinds cluster n) run x.fit.of_run t p is) there
