-- What a program comes to, by what its maker gave.
use Rattle.std.specs.Global.{Global}
use Rattle.std.specs.Prelude.{ℕ, ◌≡◌, ◌≢◌, true, false, List, [], ◌∷◌, MatchResult, Option, Some, None, Result, Ok, Err, String, Vec}
use Rattle.std.specs.declared.alloc.AllocError.{AllocError}
use Rattle.vr_disk.specs.declared.disk.SectorDisk as of_disk
use Rattle.vr_edge.specs.Attaching.{texts_of}
use Rattle.vr_edge.specs.Told.{Grows}
use Rattle.vr_edge.specs.declared.clock.Clock as of_clock
use Rattle.vr_edge.specs.declared.link.Link as of_link
use Rattle.vr_edge.specs.declared.sink.Sink as of_sink
use Rattle.vr_edge.specs.declared.source.Source as of_source
use Rattle.vr_spawn.specs.declared.spawner.Spawner as of_spawner
use Rattle.vr_base.specs.Texts.{code_of}
use Rattle.vr_base.specs.declared.status.Status.{Status}
use Rattle.vr_base.specs.declared.status.Status.TheVariants.{NoMemory}
use Rattle.vr_top.specs.Ends.{Ends, Tries}
use Rattle.vr_top.specs.Making.{Making, Ground, Made, Path, TakenBack, Words, texts_told}
use Rattle.vr_top.specs.Outside.{outside, trial_outside}
use Rattle.vr_top.specs.Telling.{Tells}
use Rattle.vr_top.specs.declared.maker.Objects.{Objects}
use Rattle.vr_top.specs.declared.program.Untold.{Untold}
use Rattle.vr_top.specs.declared.program.Untold.TheVariants as untold
use Rattle.vr_args.specs.Asked.{asked}

-- the words after the program's name; none where one of them is no text
abbrev pub words_after : Result (List (List ℕ)) Untold → List (List ℕ)
words_after (Ok []) = []
words_after (Ok (name ∷ words)) = words
words_after (Err why) = []

-- the path, where it is told
abbrev pub path_told : {T : Type 0} → Result T Untold → Option T
path_told (Ok path) = Some path
path_told (Err why) = None

-- the words are known, or memory was short for telling them
abbrev pub KnowsWords : Result (Vec (String Global) Global) Untold → Result (Vec (String Global) Global) AllocError → Type 0
KnowsWords told result =
    MatchResult result (λ words. (texts_of words.items ≡ words_after (texts_told told)) × (texts_told told ≢ Err untold.NoMemory)) (λ e. told ≡ Err untold.NoMemory)

-- likewise the path
abbrev pub KnowsPath : {T : Type 0} → Result T Untold → Result (Option T) AllocError → Type 0
KnowsPath told result = MatchResult result (λ path. (path ≡ path_told told) × (told ≢ Err untold.NoMemory)) (λ e. told ≡ Err untold.NoMemory)

-- a run with these words finds the objects so, leaves them so, and comes to this status
pub record Runs {S K D L C P : Type 0} (s : of_source.Ghosts S) (k : of_sink.Ghosts K) (d : of_disk.Ghosts D) (l : of_link.Ghosts L) (c : of_clock.Ghosts C) (p : of_spawner.Ghosts P)
    (words : List (List ℕ)) (o o' : Objects S K D L C P) (status : Status) : Type 0 where
  pub ends : Ends (asked words) (outside s k d l c o.source o.sink o.disk o.link o.clock) (outside s k d l c o'.source o'.sink o'.disk o'.link o'.clock) status
  pub trial : Tries (asked words) (trial_outside k l p o.sink o.link o.spawner) (trial_outside k l p o'.sink o'.link o'.spawner) status

-- What a maker was asked for in turn, each at most once, and the status that this comes to. Where memory is short for one of them, it is asked for nothing after
-- it, and nothing is run. Else one run is made over its objects, with the words that were told, and it takes them back as that run left them.
pub data Makes {O T : Type 0} (Run : List (List ℕ) → O → O → Status → Type 0) : List (Making O T) → Status → Type 0 where
  no_words : Makes Run (Words (Err untold.NoMemory) ∷ []) NoMemory
  no_path : (words : Result (List (List ℕ)) Untold) → words ≢ Err untold.NoMemory → Makes Run (Words words ∷ Path (Err untold.NoMemory) ∷ []) NoMemory
  no_objects : (words : Result (List (List ℕ)) Untold) (path : Result T Untold) (e : AllocError) → words ≢ Err untold.NoMemory → path ≢ Err untold.NoMemory
      → Makes Run (Words words ∷ Path path ∷ Made (path_told path) (Err e) ∷ []) NoMemory
  runs : (words : Result (List (List ℕ)) Untold) (path : Result T Untold) (o o' : O) (status : Status) → words ≢ Err untold.NoMemory → path ≢ Err untold.NoMemory
      → Run (words_after words) o o' status → Makes Run (Words words ∷ Path path ∷ Made (path_told path) (Ok o) ∷ TakenBack o' ∷ []) status

-- the same, once what a run stands on is there; without it nothing is made
pub data Comes {O T : Type 0} (Run : List (List ℕ) → O → O → Status → Type 0) : List (Making O T) → Status → Type 0 where
  no_ground : Comes Run (Ground false ∷ []) NoMemory
  makes : (calls : List (Making O T)) (status : Status) → Makes Run calls status → Comes Run (Ground true ∷ calls) status

-- a maker was called so, and that comes to this status
abbrev pub Began : {O T : Type 0} → (List (Making O T) → Status → Type 0) → Option (List (Making O T)) → Option (List (Making O T)) → Status → Type 0
Began Comes old new status = (calls : List _) × Grows old new calls × Comes calls status

-- the objects were made, run over and given back, or memory was short for it
abbrev pub Ran : {M O T : Type 0} → (List (List ℕ) → O → O → Status → Type 0) → (M → Option (List (Making O T))) → M → M → Result Status AllocError → Type 0
Ran Run made maker maker' result = MatchResult result (λ status. Began (Makes Run) (made maker) (made maker') status) (λ e. Began (Makes Run) (made maker) (made maker') NoMemory)

-- the status that a program came to is told: its line on standard error, and its code
pub record IsTold {M S K D L C P T E : Type 0} (s : of_source.Ghosts S) (k : of_sink.Ghosts K) (d : of_disk.Ghosts D) (l : of_link.Ghosts L) (c : of_clock.Ghosts C) (p : of_spawner.Ghosts P)
    (made : M → Option (List (Making (Objects S K D L C P) T))) (e : of_sink.Ghosts E) (maker maker' : M) (errors errors' : E) (code : ℕ) : Type 0 where
  pub status : Status
  pub came : Began (Comes (Runs s k d l c p)) (made maker) (made maker') status
  pub code_is : code ≡ code_of status
  pub told : Tells e status errors errors'
