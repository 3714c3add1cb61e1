-- Worked choices.
use Rattle.std.specs.Prelude.{ℕ, ◌-◌, List, [], ◌∷◌, map, replicate, ◌≡◌, refl, unwrap_or}
use Rattle.std.specs.List.{range_with_len}
use Rattle.vr_base.specs.declared.table.Quorums.{Quorums}
use Rattle.vr_base.specs.Groups.{quorums_of}
use Rattle.vr_header.specs.declared.command.Command.TheVariants.{Entry}
use Rattle.vr_header.specs.declared.header.Header.{Header}
use Rattle.vr_header.specs.declared.part.Part.{Part}
use Rattle.vr_header.specs.declared.part.Part.TheVariants.{Here, Lost, Wanted, Unknown}
use Rattle.vr_header.specs.Same.{same_header}
use Rattle.vr_msg.specs.declared.statement.Statement.{Statement}
use Rattle.vr_msg.specs.declared.choice.Choice.{Choice}
use Rattle.vr_msg.specs.declared.choice.Choice.TheVariants.{Ends, WaitsAt, TooFew}
use Rattle.vr_msg.specs.Choice.{choice, named_by, row_end, log_headers}

-- the header of an entry
abbrev entry : ℕ → ℕ → Header
entry op made =
    record {
      body = record { 0 = replicate 16 7 };
      parent = record { 0 = replicate 16 0 };
      request_name = record { 0 = replicate 16 0 };
      cluster = 1;
      client = 1;
      request = 1;
      view = made;
      op = op;
      commit = 0;
      size = 129;
      command = Entry;
      replica = 0;
      kind = 0;
      aux = 0;
      version = 1;
    }

abbrev stated : ℕ → ℕ → ℕ → ℕ → List Part → Statement
stated log_view commit head first parts =
    record { log_view = log_view; commit = commit; head = head; body = record { first = first; parts = parts } }

abbrev no_quorums : Quorums
no_quorums = record { replication = 0; view_change = 0; nack = 0 }

abbrev chosen : ℕ → List Statement → Choice
chosen n ss = choice (unwrap_or (quorums_of n) no_quorums) ss

abbrev h : ℕ → Header
h op = entry op 0

abbrev g : ℕ → Header
g op = entry op 1

abbrev empty : Statement
empty = stated 0 0 0 1 []

-- n = 3
alone : chosen 3 (empty ∷ []) ≡ TooFew
unfolding choice named_by row_end log_headers same_header
alone = refl

nothing_known : chosen 3 (empty ∷ empty ∷ []) ≡ Ends []
unfolding choice named_by row_end log_headers same_header
nothing_known = refl

one_has_it : chosen 3 (stated 0 0 1 1 (Here (h 1) ∷ []) ∷ empty ∷ []) ≡ Ends (h 1 ∷ [])
unfolding choice named_by row_end log_headers same_header
one_has_it = refl

one_lost_it : chosen 3 (stated 0 0 1 1 (Lost (h 1) ∷ []) ∷ empty ∷ []) ≡ WaitsAt 1
unfolding choice named_by row_end log_headers same_header
one_lost_it = refl

newer_log_wins : chosen 3 (stated 0 0 3 1 (Here (h 1) ∷ Here (h 2) ∷ Here (h 3) ∷ []) ∷ stated 1 0 1 1 (Here (g 1) ∷ []) ∷ []) ≡ Ends (g 1 ∷ [])
unfolding choice named_by row_end log_headers same_header
newer_log_wins = refl

-- groups of two to six, and of one too
abbrev several : List ℕ
several = 2 ∷ 3 ∷ 4 ∷ 5 ∷ 6 ∷ []

abbrev sizes : List ℕ
sizes = 1 ∷ several

abbrev view_change : ℕ → ℕ
view_change n = (unwrap_or (quorums_of n) no_quorums).view_change

-- all of a view-change quorum have op 1
not_cut : map (λ n. chosen n (replicate (view_change n) (stated 0 0 1 1 (Here (h 1) ∷ [])))) sizes ≡ replicate 6 (Ends (h 1 ∷ []))
unfolding choice named_by row_end log_headers same_header
not_cut = refl

-- one has ops 1 and 2 of an older view: it denies op 2 by what it has there, since the newer log names none
cut_older : map (λ n. chosen n (stated 0 0 2 1 (Here (h 1) ∷ Here (h 2) ∷ []) ∷ replicate (view_change n - 1) (stated 1 0 1 1 (Here (h 1) ∷ [])))) several
    ≡ replicate 5 (Ends (h 1 ∷ []))
unfolding choice named_by row_end log_headers same_header
cut_older = refl

-- the newer log names op 2, and who has an older one denies it by silence
cut_silent : map (λ n. chosen n (stated 0 0 1 1 (Here (h 1) ∷ []) ∷ replicate (view_change n - 1) (stated 1 0 2 1 (Here (h 1) ∷ Wanted (g 2) ∷ [])))) several
    ≡ replicate 5 (Ends (h 1 ∷ []))
unfolding choice named_by row_end log_headers same_header
cut_silent = refl

-- a replica alone keeps all that it has
kept_alone : chosen 1 (stated 0 0 2 1 (Here (h 1) ∷ Here (h 2) ∷ []) ∷ []) ≡ Ends (h 1 ∷ h 2 ∷ [])
unfolding choice named_by row_end log_headers same_header
kept_alone = refl

-- none that has lost op 1 denies it
waits : map (λ n. chosen n (replicate (view_change n) (stated 0 0 1 1 (Lost (h 1) ∷ [])))) sizes ≡ replicate 6 (WaitsAt 1)
unfolding choice named_by row_end log_headers same_header
waits = refl

-- nor does one that doesn't know what it had, as long as its log is of the greatest log view
waits_unknown : map (λ n. chosen n (replicate (view_change n) (stated 0 0 0 1 (Unknown ∷ [])))) sizes ≡ replicate 6 (WaitsAt 1)
unfolding choice named_by row_end log_headers same_header
waits_unknown = refl

too_few : map (λ n. chosen n (replicate (view_change n - 1) (stated 0 0 1 1 (Here (h 1) ∷ [])))) sizes ≡ replicate 6 TooFew
unfolding choice named_by row_end log_headers same_header
too_few = refl

-- the example of docs/RULES.md
abbrev worked : List Part → Choice
worked rest =
    chosen 5 (
    stated 2 4 6 3 (Here (g 3) ∷ Here (g 4) ∷ Lost (g 5) ∷ Wanted (g 6) ∷ [])
    ∷ stated 2 3 5 2 (Here (g 2) ∷ Here (g 3) ∷ Here (g 4) ∷ Here (g 5) ∷ rest)
    ∷ stated 1 4 7 4 (Here (g 4) ∷ Here (h 5) ∷ Here (h 6) ∷ Here (h 7) ∷ [])
    ∷ [])

worked_ends : worked [] ≡ Ends (g 3 ∷ g 4 ∷ g 5 ∷ [])
unfolding choice named_by row_end log_headers same_header
worked_ends = refl

worked_waits : worked (Unknown ∷ []) ≡ WaitsAt 6
unfolding choice named_by row_end log_headers same_header
worked_waits = refl

-- at most 64 headers below the head, and only as far down as the first statement with the greatest commit number reaches
long : chosen 3 (
    stated 0 40 60 1 (map (λ k. Here (h k)) (range_with_len 1 60))
    ∷ stated 0 38 70 10 (map (λ k. Here (h k)) (range_with_len 10 61))
    ∷ []) ≡ Ends (map h (range_with_len 7 64))
unfolding choice named_by row_end log_headers same_header
long = refl

short : chosen 3 (stated 0 5 6 5 (Here (h 5) ∷ Here (h 6) ∷ []) ∷ stated 1 5 6 2 (map (λ k. Here (h k)) (range_with_len 2 5)) ∷ [])
    ≡ Ends (h 5 ∷ h 6 ∷ [])
unfolding choice named_by row_end log_headers same_header
short = refl
