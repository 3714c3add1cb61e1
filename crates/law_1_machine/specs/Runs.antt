-- Four runs of three members, in which a replication quorum and a nack quorum are two each.
-- In all of them the primary of view 0 makes entry 1 and prepares it; member 2 never gets it, and where there is a view change member 1
-- leads it, hearing member 2. They show that the guards of the moves can be met together, and that a choice both keeps and drops.
use Rattle.std.specs.Prelude.{ℕ, ◌≡◌, true, [], ◌∷◌, Some}
use Rattle.law_1_machine.specs.Basics.{In}
use Rattle.law_1_machine.specs.Quorums.{Quorums}
use Rattle.law_1_machine.specs.Headers.{Headers}
use Rattle.law_1_machine.specs.Parts.{Here, Lost, denied}
use Rattle.law_1_machine.specs.Members.{Memory, Statement, Choice, Prepare}
use Rattle.law_1_machine.specs.Group.{Group}
use Rattle.law_1_machine.specs.Machine.{Running, Reached}
use Rattle.law_1_machine.specs.Laws.{Committed}

-- entry 1 is committed in view 0 by members 0 and 1; view 1 keeps it, though member 2 denies it
abbrev pub ACommittedEntryIsKept : Type 0
ACommittedEntryIsKept =
    (q : Quorums) × (q.n ≡ 3) × (q.replication ≡ 2) × (q.nack ≡ 2) × (hs : Headers ℕ) × (s : Group ℕ) × Reached q hs s
    × Committed q hs s.sent 0 1 1
    × (c : Choice ℕ) × In c s.chosen × (c.view ≡ 1) × (c.log 1 ≡ Some 1)
    × (t : Statement ℕ) × (c.heard 2 ≡ Some t) × (denied (t.tags 1) ≡ true)

-- entry 1 was prepared in view 0, and members 1 and 2 deny it: the log of view 1 ends before it, and in no run that has made this
-- choice is it ever committed in view 0
abbrev pub ADeniedEntryIsDropped : Type 0
ADeniedEntryIsDropped =
    (q : Quorums) × (q.n ≡ 3) × (q.replication ≡ 2) × (q.nack ≡ 2) × (hs : Headers ℕ) × (s : Group ℕ) × Reached q hs s
    × In (Prepare 0 0 1 1 0) s.sent
    × (c : Choice ℕ) × In c s.chosen × (c.view ≡ 1) × (c.log_view ≡ 0) × (c.head ≡ 0)
    × ((later : Group ℕ) → Reached q hs later → In c later.chosen → (x : ℕ) → Committed q hs later.sent 0 1 x → ⊥)

-- the saving of the choice that keeps entry 1 is cut, and the next opening of member 1 finds it: it goes by the log of view 1
abbrev pub ACutChoiceIsFound : Type 0
ACutChoiceIsFound =
    (q : Quorums) × (q.n ≡ 3) × (q.replication ≡ 2) × (q.nack ≡ 2) × (hs : Headers ℕ) × (s : Group ℕ) × Reached q hs s
    × (m : Memory ℕ) × Running q hs s 1 m × (m.log_view ≡ 1) × (m.parts 1 ≡ Here 1)
    × (c : Choice ℕ) × In c s.chosen × (c.view ≡ 1) × (c.head ≡ 1)

-- member 0 counts the quorum, applies entry 1 and takes a checkpoint; member 2 jumps to it and loads its state
abbrev pub AMemberJumps : Type 0
AMemberJumps =
    (q : Quorums) × (q.n ≡ 3) × (q.replication ≡ 2) × (q.nack ≡ 2) × (hs : Headers ℕ) × (s : Group ℕ) × Reached q hs s
    × (m : Memory ℕ) × Running q hs s 2 m × (m.checkpoint ≡ 1) × (m.commit ≡ 1) × (m.state ≡ Some (1 ∷ [])) × (m.parts 1 ≡ Lost 1)
