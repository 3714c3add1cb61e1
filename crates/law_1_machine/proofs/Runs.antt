-- The four runs, move by move.
-- s0 to s5: member 0 starts, makes entry 1, writes it and prepares it. a6 to a14 go on to the choice that keeps it, c14 to c16 to
-- one whose saving is cut, j10 to j17 to a jump, and d6 to d11 to the choice that drops it. Headers are numbers here, and each stands on each.
use Rattle.law_1_machine.specs.Basics.{In, update}
use Rattle.law_1_machine.specs.Choosing.{Chosen, plainly}
use Rattle.law_1_machine.specs.Group.{Group, Made, Vouches, becomes, decides, made_at, sends}
use Rattle.law_1_machine.specs.Headers.{Headers}
use Rattle.law_1_machine.specs.Laws.{at_root, stands_on}
use Rattle.law_1_machine.specs.Machine.{chooses_cut, opens_cut, remembers, tallies, loads, checkpoints, starts_view, tells_root, jumps, at_first, and_then, Chooses, Reached, accepts, chooses, enters, fresh, makes, was_made, prepares, saves, says, starts, states, was_prepared, begins_write, ends_write}
use Rattle.law_1_machine.specs.Members.{Superblock, Start_view, Checkpoint, Choice, Do_view_change, Memory, Names, Prepare, Prepare_ok, Statement, Tells, statement, superblock}
use Rattle.law_1_machine.specs.Opening.{Opened, Reaches, Sound, opened}
use Rattle.law_1_machine.specs.Parts.{Lost, denied, Here, Nothing, Part, header}
use Rattle.law_1_machine.specs.Quorums.{Quorums}
use Rattle.law_1_machine.specs.Runs.{ACommittedEntryIsKept, ADeniedEntryIsDropped, ACutChoiceIsFound, AMemberJumps}
use Rattle.law_1_machine.specs.Taking.{Jumps, jumped, Takes, taken}
use Rattle.std.proofs.Common.{zero, suc, Bool, true, false, List, ℕ, ◌%◌, ◌≤◌, ◌<◌, ◌≡◌, ◌⊎◌, inl, inr, arith, refl, sym, ap, ◌∙◌, [], ◌∷◌, Option, Some, None, subst}
use Rattle.std.proofs.lemmas.Bool.{cases_eq}
use Rattle.law_1_machine.proofs.Counting.{at_update}
use Rattle.law_1_machine.proofs.Moves.{reached_good}
use Rattle.law_1_machine.proofs.Laws.{durability}

abbrev trio : Quorums
trio = record { n = 3; replication = 2; nack = 2; overlap = refl; not_empty = omega arith }

abbrev numbers : Headers ℕ
numbers = record { number = λ x. x; made = λ x. 0; follows = λ a b. true; root = 0; root_number = refl }

abbrev empty : ℕ → Part ℕ
empty k = Nothing

-- what is known where entry 1 is there
abbrev one : ℕ → Part ℕ
one = update empty 1 (Here 1)

abbrev stored : (ℕ → Part ℕ) → ℕ → Option ℕ
stored parts k = header (parts k)

some_same : {X : Type 0} (a b : X) → Some a ≡ Some b → a ≡ b
some_same a b e = cc

-- ---- what an empty disk gives

abbrev m0 : Memory ℕ
m0 = opened (fresh trio numbers).last empty 0

sound_empty : (made : List (Made ℕ)) → Sound numbers made (λ s. None) (fresh trio numbers).last empty
sound_empty made = record { named = λ k a b. refl; low = λ k h a e. absurd cc; above = λ k h a e. absurd cc; kept = λ k h a e. absurd cc }

opened_empty : Opened (λ s. None) 0 empty (λ s. None)
opened_empty = record { found = λ k h a e. absurd cc; stays = λ k a b n. refl; only = λ s h e. absurd cc }

reaches_empty : Reaches 0 0 empty 0
reaches_empty = record { up = omega arith; window = omega arith; whole = λ k a b. absurd (omega arith); next = refl }

reaches_one : Reaches 0 0 one 1
unfolding update
reaches_one = record {
  up = omega arith;
  window = omega arith;
  whole = λ k a b. (1, subst (λ i. header (one i) ≡ Some 1) (let e : 1 ≡ k = omega arith in e) refl);
  next = refl;
}

-- what is saved names all that is known, and what is stated tells all of it
names_all : (m : Memory ℕ) → Names m (stored m.parts)
names_all m = record { known = λ k h e. e; all = λ k a b. refl }

tells_all : (m : Memory ℕ) → Tells m m.parts
tells_all m = record { above = λ k a. refl; known = λ k h e. e }

-- ---- the beginning of both runs

abbrev m1 : Memory ℕ
m1 = record m0 { parts = one; head = 1 }

abbrev s0 : Group ℕ
s0 = record { members = λ r. fresh trio numbers; made = []; sent = []; chosen = [] }

abbrev s1 : Group ℕ
s1 = becomes s0 0 (record (s0.members 0) { slots = λ s. None; memory = Some m0 })

abbrev s2 : Group ℕ
s2 = record s1 { made = made_at 0 1 1 ∷ s1.made }

abbrev s3 : Group ℕ
s3 = becomes s2 0 (record (s2.members 0) { slots = update (s2.members 0).slots (1 % 64) None })

abbrev s4 : Group ℕ
s4 = becomes s3 0 (record (s3.members 0) { slots = update (s3.members 0).slots (1 % 64) (Some 1); memory = Some m1 })

abbrev s5 : Group ℕ
s5 = sends s4 (Prepare 0 0 1 1 0)

reached5 : Reached trio numbers s5
unfolding update
reached5 =
    let r0 : Reached trio numbers s0 = at_first in
    let r1 : Reached trio numbers s1 = and_then s0 s1 r0 (starts 0 empty (λ s. None) 0 refl refl (sound_empty []) opened_empty reaches_empty) in
    let r2 : Reached trio numbers s2 = and_then s1 s2 r1 (makes 0 m0 1 refl refl refl refl refl (inl (refl, refl)) (λ x e. e)) in
    let r3 : Reached trio numbers s3 = and_then s2 s3 r2 (begins_write 0 m0 1 1 None refl (was_made (inl refl)) (omega arith) (omega arith) (λ x e. cc) (inl refl) (λ a b. absurd cc)) in
    let r4 : Reached trio numbers s4 = and_then s3 s4 r3 (ends_write 0 m0 1 1 1 refl (was_made (inl refl)) (omega arith) (omega arith) reaches_one (omega arith)) in
    and_then s4 s5 r4 (prepares 0 m1 1 1 0 refl (record { at = refl; known = refl; held = inr (refl, refl) }) refl (omega arith))

-- ---- member 1 gets the entry

abbrev a6 : Group ℕ
a6 = becomes s5 1 (record (s5.members 1) { slots = λ s. None; memory = Some m0 })

abbrev a7 : Group ℕ
a7 = becomes a6 1 (record (a6.members 1) { slots = update (a6.members 1).slots (1 % 64) None })

abbrev a8 : Group ℕ
a8 = becomes a7 1 (record (a7.members 1) { slots = update (a7.members 1).slots (1 % 64) (Some 1); memory = Some m1 })

abbrev a9 : Group ℕ
a9 = sends a8 (Prepare_ok 1 0 1 1)

reached9 : Reached trio numbers a9
unfolding update
reached9 =
    let r6 : Reached trio numbers a6 = and_then s5 a6 reached5 (starts 1 empty (λ s. None) 0 refl refl (sound_empty s5.made) opened_empty reaches_empty) in
    let r7 : Reached trio numbers a7 = and_then a6 a7 r6 (begins_write 1 m0 1 1 None refl (was_prepared 0 0 (inl refl)) (omega arith) (omega arith) (λ x e. cc) (inl refl) (λ a b. absurd cc)) in
    let r8 : Reached trio numbers a8 = and_then a7 a8 r7 (ends_write 1 m0 1 1 1 refl (was_prepared 0 0 (inl refl)) (omega arith) (omega arith) reaches_one (omega arith)) in
    and_then a8 a9 r8 (accepts 1 m1 1 1 refl (record { at = refl; known = refl; held = inr (refl, refl) }))

-- members 0 and 1
abbrev first_two : ℕ → Bool
first_two zero = true
first_two (suc zero) = true
first_two (suc (suc i)) = false

by_both : (i : ℕ) → i < 3 → first_two i ≡ true → Vouches trio a9.sent i 0 1 1
by_both zero l t = inr (refl, (0, inr (inl refl)))
by_both (suc zero) l t = inl (inl refl)
by_both (suc (suc i)) l t = absurd cc

-- ---- members 1 and 2 enter view 1, and member 2 states that it has nothing

abbrev m1' : Memory ℕ
m1' = record m1 { view = 1 }

abbrev m0' : Memory ℕ
m0' = record m0 { view = 1 }

abbrev a10 : Group ℕ
a10 = becomes a9 1 (record (a9.members 1) { last = superblock m1' (stored one); under = None; memory = Some m1' })

abbrev a11 : Group ℕ
a11 = becomes a10 2 (record (a10.members 2) { slots = λ s. None; memory = Some m0 })

abbrev a12 : Group ℕ
a12 = becomes a11 2 (record (a11.members 2) { last = superblock m0' (stored empty); under = None; memory = Some m0' })

abbrev a13 : Group ℕ
a13 = sends a12 (Do_view_change 2 1 (statement m0' empty))

reached13 : Reached trio numbers a13
unfolding update
reached13 =
    let r10 : Reached trio numbers a10 = and_then a9 a10 reached9 (saves 1 m1 m1' (stored one) refl (enters 1 (omega arith)) (names_all m1')) in
    let r11 : Reached trio numbers a11 = and_then a10 a11 r10 (starts 2 empty (λ s. None) 0 refl refl (sound_empty a10.made) opened_empty reaches_empty) in
    let r12 : Reached trio numbers a12 = and_then a11 a12 r11 (saves 2 m0 m0' (stored empty) refl (enters 1 (omega arith)) (names_all m0')) in
    and_then a12 a13 r12 (says 2 m0' (Do_view_change 2 1 (statement m0' empty)) refl (states empty (omega arith) (tells_all m0')))

-- two statements: of member 1, with what it has, and of member 2
abbrev two_heard : Memory ℕ → ℕ → Option (Statement ℕ)
two_heard m = update (update (λ i. None) 1 (Some (statement m m.parts))) 2 (Some (statement m0' empty))

heard_is : (m : Memory ℕ) (i : ℕ) (t : Statement ℕ) → two_heard m i ≡ Some t → ((i ≡ 1) × (statement m m.parts ≡ t)) ⊎ ((i ≡ 2) × (statement m0' empty ≡ t))
heard_is m i t =
    at_update (λ o. o ≡ Some t → ((i ≡ 1) × (statement m m.parts ≡ t)) ⊎ ((i ≡ 2) × (statement m0' empty ≡ t))) (update (λ i. None) 1 (Some (statement m m.parts))) 2 (Some (statement m0' empty)) i
    (λ e h. inr (e, some_same (statement m0' empty) t h))
    (λ _. at_update (λ o. o ≡ Some t → ((i ≡ 1) × (statement m m.parts ≡ t)) ⊎ ((i ≡ 2) × (statement m0' empty ≡ t))) (λ i. None) 1 (Some (statement m m.parts)) i
    (λ e h. inl (e, some_same (statement m m.parts) t h)) (λ _ h. absurd cc))

-- what holds of both statements holds of each
of_heard : (P : Statement ℕ → Type 0) (m : Memory ℕ) → P (statement m m.parts) → P (statement m0' empty) → (i : ℕ) (t : Statement ℕ) → two_heard m i ≡ Some t → P t
of_heard P m a b i t e = elim (heard_is m i t e) [ inl p ↦ subst P p.1 a | inr p ↦ subst P p.1 b ]

-- members 1 and 2
abbrev last_two : ℕ → Bool
last_two zero = false
last_two (suc i) = true

-- ---- the choice that keeps the entry

abbrev log_one : ℕ → Option ℕ
log_one = update (λ k. None) 1 (Some 1)

log_one_is : (k h : ℕ) → log_one k ≡ Some h → (k ≡ 1) × (1 ≡ h)
log_one_is k h = at_update (λ o. o ≡ Some h → (k ≡ 1) × (1 ≡ h)) (λ k. None) 1 (Some 1) k (λ e s. (e, some_same 1 h s)) (λ _ s. absurd cc)

kept : Chosen trio (two_heard m1') 0 0 1 log_one
unfolding update
kept = record {
  some_log_view = (1, statement m1' one, omega arith, refl, refl);
  no_later_log_view = of_heard (λ t. t.log_view ≤ 0) m1' (omega arith) (omega arith);
  some_commit = (1, statement m1' one, refl, refl);
  no_later_commit = of_heard (λ t. t.commit ≤ 0) m1' (omega arith) (omega arith);
  named = λ k h e. let p = log_one_is k h e in (1, statement m1' one, refl, refl, subst (λ j. header (one j) ≡ Some h) (sym p.0) (ap Some p.1));
  unnamed = λ k i t n e at. of_heard (λ t. header (t.tags k) ≡ None) m1'
      (at_update (λ (p : Part ℕ). header p ≡ None) empty 1 (Here 1) k (λ a. let bad : log_one k ≡ Some 1 = subst (λ j. log_one j ≡ Some 1) (sym a) refl in let no : None ≡ Some 1 = sym n ∙ bad in absurd cc) (λ _. refl))
      refl i t e;
  ahead = omega arith;
  whole = λ k a b. (1, subst (λ j. log_one j ≡ Some 1) (let e : 1 ≡ k = omega arith in e) refl);
  deniers = last_two;
  many = omega arith;
  deny = λ i l t. elim (cases_eq i 1) [
    | inl e ↦ (statement m1' one, subst (λ j. two_heard m1' j ≡ Some (statement m1' one)) (sym e) refl, plainly refl)
    | inr n ↦ elim (cases_eq i 2) [
      | inl e ↦ (statement m0' empty, subst (λ j. two_heard m1' j ≡ Some (statement m0' empty)) (sym e) refl, plainly refl)
      | inr d ↦ (let z : i ≡ 0 = omega arith in let no : last_two 0 ≡ true = subst (λ j. last_two j ≡ true) z t in absurd cc)
    ]
  ];
}

takes_one : Takes m1' 1 0 1 0 log_one one 0 1
unfolding update
takes_one = record {
  view = omega arith;
  low_commit = omega arith;
  commit_head = omega arith;
  window = omega arith;
  below = λ k l. refl;
  between = λ k h a b d e. let p = log_one_is k h e in
      record {
        named = subst (λ j. header (one j) ≡ Some h) (sym p.0) (ap Some p.1);
        stays = λ n f. n;
        here = λ x e. e;
      };
  above = λ k a. inl (omega arith, at_update (λ p. p ≡ Nothing) empty 1 (Here 1) k (λ e. absurd (omega arith)) (λ _. refl));
  committed = (omega arith, omega arith, inl refl);
  reach = (omega arith, omega arith);
  more = λ k a b. absurd (omega arith);
  next = refl;
}

keeps : Chooses trio numbers a13 1 m1' one 0 1
unfolding update
keeps = record {
  lower = omega arith;
  leads = refl;
  log_view = 0;
  commit = 0;
  head = 1;
  heard = two_heard m1';
  log = log_one;
  heard_from = λ i t e. elim (heard_is m1' i t e) [
    | inl p ↦ inr (p.0, (one, tells_all m1', sym p.1))
    | inr p ↦ inl (subst (λ j. In (Do_view_change j 1 t) a13.sent) (sym p.0) (subst (λ t. In (Do_view_change 2 1 t) a13.sent) p.1 (inl refl)))
  ];
  choice = kept;
  low = 0;
  headers = log_one;
  source = λ k h e. let p = log_one_is k h e in let a = p.0 in (omega arith, omega arith, inl (e, omega arith));
  whole = λ k a b. (1, subst (λ j. log_one j ≡ Some 1) (let e : 1 ≡ k = omega arith in e) refl);
  takes = takes_one;
}

abbrev choice_kept : Choice ℕ
choice_kept = record { by = 1; view = 1; log_view = 0; commit = 0; head = 1; heard = two_heard m1'; log = log_one }

abbrev a14 : Group ℕ
a14 =
    let m = taken m1' 1 one 0 1 in
    decides (becomes a13 1 (record (a13.members 1) { last = superblock m (stored one); under = None; memory = Some m })) choice_kept

pub a_committed_entry_is_kept : ACommittedEntryIsKept
unfolding update keeps kept
a_committed_entry_is_kept = (
  trio,
  refl,
  refl,
  refl,
  numbers,
  a14,
  and_then a13 a14 reached13 (chooses 1 m1' one 0 1 (stored one) refl keeps (names_all (taken m1' 1 one 0 1))),
  stands_on 0 0 0 1 0 (omega arith) at_root refl first_two (omega arith) (λ i l t. later i (by_both i l t)),
  choice_kept,
  inl refl,
  refl,
  refl,
  statement m0' empty,
  refl,
  refl,
)
  where
    later : (i : ℕ) → Vouches trio a9.sent i 0 1 1 → Vouches trio a14.sent i 0 1 1
    later i (inl a) = inl (inr a)
    later i (inr p) = inr (p.0, (p.1.0, inr p.1.1))

-- ---- the choice that drops it

abbrev d6 : Group ℕ
d6 = becomes s5 1 (record (s5.members 1) { slots = λ s. None; memory = Some m0 })

abbrev d7 : Group ℕ
d7 = becomes d6 1 (record (d6.members 1) { last = superblock m0' (stored empty); under = None; memory = Some m0' })

abbrev d8 : Group ℕ
d8 = becomes d7 2 (record (d7.members 2) { slots = λ s. None; memory = Some m0 })

abbrev d9 : Group ℕ
d9 = becomes d8 2 (record (d8.members 2) { last = superblock m0' (stored empty); under = None; memory = Some m0' })

abbrev d10 : Group ℕ
d10 = sends d9 (Do_view_change 2 1 (statement m0' empty))

reached10 : Reached trio numbers d10
unfolding update
reached10 =
    let r6 : Reached trio numbers d6 = and_then s5 d6 reached5 (starts 1 empty (λ s. None) 0 refl refl (sound_empty s5.made) opened_empty reaches_empty) in
    let r7 : Reached trio numbers d7 = and_then d6 d7 r6 (saves 1 m0 m0' (stored empty) refl (enters 1 (omega arith)) (names_all m0')) in
    let r8 : Reached trio numbers d8 = and_then d7 d8 r7 (starts 2 empty (λ s. None) 0 refl refl (sound_empty d7.made) opened_empty reaches_empty) in
    let r9 : Reached trio numbers d9 = and_then d8 d9 r8 (saves 2 m0 m0' (stored empty) refl (enters 1 (omega arith)) (names_all m0')) in
    and_then d9 d10 r9 (says 2 m0' (Do_view_change 2 1 (statement m0' empty)) refl (states empty (omega arith) (tells_all m0')))

dropped : Chosen trio (two_heard m0') 0 0 0 (λ k. None)
unfolding update
dropped = record {
  some_log_view = (1, statement m0' empty, omega arith, refl, refl);
  no_later_log_view = of_heard (λ t. t.log_view ≤ 0) m0' (omega arith) (omega arith);
  some_commit = (1, statement m0' empty, refl, refl);
  no_later_commit = of_heard (λ t. t.commit ≤ 0) m0' (omega arith) (omega arith);
  named = λ k h e. absurd cc;
  unnamed = λ k i t n e at. of_heard (λ t. header (t.tags k) ≡ None) m0' refl refl i t e;
  ahead = omega arith;
  whole = λ k a b. absurd (omega arith);
  deniers = last_two;
  many = omega arith;
  deny = λ i l t. elim (cases_eq i 1) [
    | inl e ↦ (statement m0' empty, subst (λ j. two_heard m0' j ≡ Some (statement m0' empty)) (sym e) refl, plainly refl)
    | inr n ↦ elim (cases_eq i 2) [
      | inl e ↦ (statement m0' empty, subst (λ j. two_heard m0' j ≡ Some (statement m0' empty)) (sym e) refl, plainly refl)
      | inr d ↦ (let z : i ≡ 0 = omega arith in let no : last_two 0 ≡ true = subst (λ j. last_two j ≡ true) z t in absurd cc)
    ]
  ];
}

takes_none : Takes m0' 1 0 0 0 (λ k. None) empty 0 0
takes_none = record {
  view = omega arith;
  low_commit = omega arith;
  commit_head = omega arith;
  window = omega arith;
  below = λ k l. refl;
  between = λ k h a b d e. absurd cc;
  above = λ k a. inl (omega arith, refl);
  committed = (omega arith, omega arith, inl refl);
  reach = (omega arith, omega arith);
  more = λ k a b. absurd (omega arith);
  next = refl;
}

drops_it : Chooses trio numbers d10 1 m0' empty 0 0
unfolding update
drops_it = record {
  lower = omega arith;
  leads = refl;
  log_view = 0;
  commit = 0;
  head = 0;
  heard = two_heard m0';
  log = λ k. None;
  heard_from = λ i t e. elim (heard_is m0' i t e) [
    | inl p ↦ inr (p.0, (empty, tells_all m0', sym p.1))
    | inr p ↦ inl (subst (λ j. In (Do_view_change j 1 t) d10.sent) (sym p.0) (subst (λ t. In (Do_view_change 2 1 t) d10.sent) p.1 (inl refl)))
  ];
  choice = dropped;
  low = 0;
  headers = λ k. None;
  source = λ k h e. absurd cc;
  whole = λ k a b. absurd (omega arith);
  takes = takes_none;
}

abbrev choice_dropped : Choice ℕ
choice_dropped = record { by = 1; view = 1; log_view = 0; commit = 0; head = 0; heard = two_heard m0'; log = λ k. None }

abbrev d11 : Group ℕ
d11 =
    let m = taken m0' 1 empty 0 0 in
    decides (becomes d10 1 (record (d10.members 1) { last = superblock m (stored empty); under = None; memory = Some m })) choice_dropped

pub a_denied_entry_is_dropped : ADeniedEntryIsDropped
unfolding update drops_it dropped
a_denied_entry_is_dropped = (
  trio,
  refl,
  refl,
  refl,
  numbers,
  d11,
  and_then d10 d11 reached10 (chooses 1 m0' empty 0 0 (stored empty) refl drops_it (names_all (taken m0' 1 empty 0 0))),
  inr (inl refl),
  choice_dropped,
  inl refl,
  refl,
  refl,
  refl,
  λ later reached made x p.
      let b = reached_good trio numbers later reached in
      let d = (durability trio numbers b.0 later b.1 0 1 x (omega arith) p).chosen choice_dropped made (omega arith) in
      let l = d.0 in absurd (omega arith),
)

-- ---- the saving of the choice is cut, and the next opening finds it

abbrev cut_value : Superblock ℕ
cut_value = superblock (taken m1' 1 one 0 1) (stored one)

abbrev c14 : Group ℕ
c14 = decides (becomes a13 1 (record (a13.members 1) { under = Some cut_value; memory = None })) choice_kept

abbrev c15 : Group ℕ
c15 = becomes c14 1 (record (c14.members 1) { last = cut_value; under = None; memory = None })

abbrev slots_one : ℕ → Option ℕ
slots_one = update (update (λ s. None) (1 % 64) None) (1 % 64) (Some 1)

abbrev c16 : Group ℕ
c16 = becomes c15 1 (record (c15.members 1) { slots = slots_one; memory = Some (opened cut_value one 1) })

sound_one : (made : List (Made ℕ)) → Sound numbers made slots_one cut_value one
unfolding update
sound_one made = record {
  named = λ k a b. refl;
  low = λ k h a e. e;
  above = λ k h a. at_update (λ (p : Part ℕ). header p ≡ Some h → (k ≤ 64) × In (made_at 1 k h) made) empty 1 (Here 1) k (λ e. absurd (omega arith)) (λ _ e. absurd cc);
  kept = λ k h a in_slot number. elim [
    | inl p ↦ subst (λ j. denied (one j) ≡ false) (let b = p.0 in let e : 1 ≡ k = omega arith in e) refl
    | inr p ↦ (let e = p.1 in absurd (omega arith))
  ];
}

opened_one : Opened slots_one 0 one slots_one
unfolding update
opened_one = record {
  found = λ k h a. at_update (λ (p : Part ℕ). p ≡ Here h → slots_one (k % 64) ≡ Some h) empty 1 (Here 1) k
      (λ e p. subst (λ j. slots_one (j % 64) ≡ Some h) (sym e) (let same : header (Here 1) ≡ header (Here h) = ap header p in same)) (λ _ p. absurd cc);
  stays = λ k a b n. refl;
  only = λ s h e. inl e;
}

reaches_still : Reaches 0 1 one 1
unfolding update
reaches_still = record { up = omega arith; window = omega arith; whole = λ k a b. absurd (omega arith); next = refl }

pub a_cut_choice_is_found : ACutChoiceIsFound
unfolding update keeps kept
a_cut_choice_is_found =
    let r14 : Reached trio numbers c14 = and_then a13 c14 reached13 (chooses_cut 1 m1' one 0 1 (stored one) refl keeps (names_all (taken m1' 1 one 0 1))) in
    let r15 : Reached trio numbers c15 = and_then c14 c15 r14 (opens_cut 1 cut_value refl) in (
      trio,
      refl,
      refl,
      refl,
      numbers,
      c16,
      and_then c15 c16 r15 (starts 1 one slots_one 1 refl refl (sound_one c15.made) opened_one reaches_still),
      opened cut_value one 1,
      refl,
      refl,
      refl,
      choice_kept,
      inl refl,
      refl,
      refl,
    )

-- ---- a checkpoint, and a jump to it

abbrev m2 : Memory ℕ
m2 = record m1 { commit = 1 }

abbrev m3 : Memory ℕ
m3 = record m2 { state = Some [] }

abbrev m4 : Memory ℕ
m4 = record m3 { checkpoint = 1; applied = 1; root = 1 ∷ []; state = Some (1 ∷ []) }

-- what is known after the jump
abbrev lost : ℕ → Part ℕ
lost = update empty 1 (Lost 1)

abbrev m5 : Memory ℕ
m5 = jumped m0 0 1 (1 ∷ []) lost 1 1

abbrev m6 : Memory ℕ
m6 = record m5 { state = Some (1 ∷ []) }

abbrev j10 : Group ℕ
j10 = becomes a9 0 (record (a9.members 0) { memory = Some m2 })

abbrev j11 : Group ℕ
j11 = becomes j10 0 (record (j10.members 0) { memory = Some m3 })

abbrev j12 : Group ℕ
j12 = becomes j11 0 (record (j11.members 0) { last = superblock m4 (stored one); under = None; memory = Some m4 })

abbrev j13 : Group ℕ
j13 = sends j12 (Start_view 0 0 0 1 1 log_one)

abbrev j14 : Group ℕ
j14 = sends j13 (Checkpoint 0 0 1 (1 ∷ []))

abbrev j15 : Group ℕ
j15 = becomes j14 2 (record (j14.members 2) { slots = λ s. None; memory = Some m0 })

abbrev j16 : Group ℕ
j16 = becomes j15 2 (record (j15.members 2) { last = superblock m5 (stored lost); under = None; memory = Some m5 })

abbrev j17 : Group ℕ
j17 = becomes j16 2 (record (j16.members 2) { memory = Some m6 })

jumps_one : Jumps m0 0 0 1 1 1 log_one lost 1 1
unfolding update
jumps_one = record {
  view = omega arith;
  past = (omega arith, omega arith, omega arith);
  commit_head = omega arith;
  window = omega arith;
  below = λ k a b. at_update (λ (p : Part ℕ). p ≡ Nothing) empty 1 (Lost 1) k (λ e. absurd (omega arith)) (λ _. refl);
  unsure = λ k a b. absurd (omega arith);
  lost = λ k h a b e. let p = log_one_is k h e in subst (λ j. lost j ≡ Lost h) (sym p.0) (ap Lost p.1);
  between = λ k h a b e. absurd (omega arith);
  above = λ k a. inr (refl, inl (at_update (λ (p : Part ℕ). p ≡ Nothing) empty 1 (Lost 1) k (λ e. absurd (omega arith)) (λ _. refl)));
  committed = (omega arith, omega arith, inr refl);
  reach = (omega arith, omega arith);
  more = λ k a b. absurd (omega arith);
  next = refl;
}

pub a_member_jumps : AMemberJumps
unfolding update
a_member_jumps =
    let r10 : Reached trio numbers j10 = and_then a9 j10 reached9 (remembers 0 m1 m2 refl (tallies first_two (omega arith) (λ i l t. (1, by_both i l t)) (omega arith))) in
    let r11 : Reached trio numbers j11 = and_then j10 j11 r10 (remembers 0 m2 m3 refl (loads refl)) in
    let r12 : Reached trio numbers j12 = and_then j11 j12 r11 (saves 0 m3 m4 (stored one) refl (checkpoints 1 [] refl (omega arith) refl) (names_all m4)) in
    let r13 : Reached trio numbers j13 = and_then j12 j13 r12 (says 0 m4 (Start_view 0 0 0 1 1 log_one) refl (starts_view 0 1 log_one refl (omega arith)
    (λ k h e. let p = log_one_is k h e in let a = p.0 in (omega arith, omega arith, subst (λ j. header (one j) ≡ Some h) (sym p.0) (ap Some p.1)))
    (λ k a b. (1, subst (λ j. log_one j ≡ Some 1) (let e : 1 ≡ k = omega arith in e) refl)))) in
    let r14 : Reached trio numbers j14 = and_then j13 j14 r13 (says 0 m4 (Checkpoint 0 0 1 (1 ∷ [])) refl (tells_root refl)) in
    let r15 : Reached trio numbers j15 = and_then j14 j15 r14 (starts 2 empty (λ s. None) 0 refl refl (sound_empty j14.made) opened_empty reaches_empty) in
    let r16 : Reached trio numbers j16 = and_then j15 j16 r15
    (saves 2 m0 m5 (stored lost) refl (jumps 0 0 0 1 1 1 log_one lost 1 1 (inr (inl refl)) 0 (1 ∷ []) (inl refl) jumps_one) (names_all m5)) in
    (trio, refl, refl, refl, numbers, j17, and_then j16 j17 r16 (remembers 2 m5 m6 refl (loads refl)), m6, refl, refl, refl, refl, refl)
