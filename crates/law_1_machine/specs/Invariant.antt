-- What holds of a group after each move, whatever has happened.
-- There is a history such that each disk, each memory and each message is true of it. The history's marks for a member are those of
-- the superblock value that it last finished.
use Rattle.std.specs.Prelude.{List, ℕ, ◌+◌, ◌%◌, ◌≤◌, ◌<◌, ◌≡◌, true, None, Some}
use Rattle.law_1_machine.specs.Basics.{In, Each}
use Rattle.law_1_machine.specs.Quorums.{Quorums}
use Rattle.law_1_machine.specs.Headers.{Headers}
use Rattle.law_1_machine.specs.History.{History, InLog, HistoryOk}
use Rattle.law_1_machine.specs.Members.{Superblock, Memory, Message, Choice}
use Rattle.law_1_machine.specs.Group.{Member, Made, made_at, Group, Vouches}
use Rattle.law_1_machine.specs.Claims.{SuperblockOk, MemoryOk, UnderOk, Fact, ChoiceOk, BegunBy}

module _ {H : Type 0} where
  -- y is no further back than x
  pub record Ahead (x y : Superblock H) : Type 0 where
    pub view : x.view ≤ y.view
    pub log_view : x.log_view ≤ y.log_view
    pub checkpoint : x.checkpoint ≤ y.checkpoint

  -- what a running member goes by is what it last saved
  pub record Tied (x : Superblock H) (m : Memory H) : Type 0 where
    pub view : m.view ≡ x.view
    pub log_view : m.log_view ≡ x.log_view
    pub checkpoint : m.checkpoint ≡ x.checkpoint

  -- the history's marks for r are those of x
  pub record Marked (g : History H) (r : ℕ) (x : Superblock H) : Type 0 where
    pub view : g.view r ≡ x.view
    pub log_view : g.log_view r ≡ x.log_view
    pub checkpoint : g.checkpoint r ≡ x.checkpoint

  -- what holds of one member; only a stopped one has a value whose saving was cut
  pub record MemberOk (q : Quorums) (hs : Headers H) (g : History H) (chosen : List (Choice H)) (r : ℕ) (m : Member H) : Type 0 where
    pub marked : Marked g r m.last
    pub last : SuperblockOk q g r m.slots m.last
    pub slots : (s : ℕ) (h : H) → m.slots s ≡ Some h → hs.number h ≤ m.last.checkpoint + 64
    pub under : Each (λ x. (m.memory ≡ None) × Ahead m.last x × UnderOk q g chosen r m.slots x) m.under
    pub memory : Each (λ x. Tied m.last x × MemoryOk q g r m.slots x) m.memory

  -- the invariant, with the history g
  pub record Invariant (q : Quorums) (hs : Headers H) (g : History H) (s : Group H) : Type 0 where
    pub history : HistoryOk q hs g
    -- only a view's own primary begins it
    pub led : (w : ℕ) → g.finished w ≡ true → w ≤ g.log_view (w % q.n)
    pub members : (r : ℕ) → MemberOk q hs g s.chosen r (s.members r)
    -- what was made in a view is what its log has above its base
    pub made : (x : Made H) → In x s.made → (g.finished x.view ≡ true) × (g.base x.view < x.number) × InLog g x.view x.number x.entry
    pub made_all : (w k : ℕ) → g.finished w ≡ true → g.base w < k → k ≤ g.length w → In (made_at w k (g.log w k)) s.made
    -- each vouch was sent
    pub spoken : (r u k : ℕ) → g.vouched r u k ≡ true → Vouches q s.sent r u k (g.log u k)
    -- each message says what is so
    pub facts : (m : Message H) → In m s.sent → Fact q g m
    -- each view but the first begins with a choice that was made for it
    pub begun_by : (w : ℕ) → 0 < w → g.finished w ≡ true → (c : Choice H) × BegunBy g s.chosen w c
    -- each choice is one with which its view may begin
    pub choices : (c : Choice H) → In c s.chosen → ChoiceOk q g s.sent c
