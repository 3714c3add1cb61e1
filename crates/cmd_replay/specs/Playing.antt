-- A replay line by line, as it goes through the pieces of its source.
use Rattle.std.specs.Io.KnownBytes.{Appends}
use Rattle.std.specs.Prelude.{ℕ, ◌+◌, ◌≡◌, ◌≤◌, ◌==◌, nat_lt, true, List, [], ◌∷◌, ◌++◌, length, Option, Some, None, if◌then◌else◌}
use Rattle.vr_lines.specs.Cuts.{cut, whole_lines}
use Rattle.vr_lines.specs.Grammar.{longest}
use Rattle.vr_lines.specs.declared.line.Line.{Line}
use Rattle.vr_world.specs.Lying.{Lying, hazards}
use Rattle.vr_world.specs.World.{World, happens, no_world}
use Rattle.vr_group.specs.Outputs.{Numbered, numbered, text_of}
use Rattle.vr_group.specs.Group.{Group}
use Rattle.vr_group.specs.Lines.{happening, version_behind}
use Rattle.cmd_replay.specs.declared.playing.Replay.{Replay}
use Rattle.cmd_replay.specs.Schedule.{line_at, limit}

-- where a line is played: a world, and the version of the lines from here on
pub record Scene : Type 0 where
  pub world : World Lying
  pub version : ℕ

-- that of a group
abbrev pub scene_of : Group → Scene
scene_of g = record { world = g.world; version = g.version }

-- before the first line
abbrev pub no_scene : Scene
no_scene = record { world = no_world; version = 1 }

-- a scene after a line, and the line's outputs
pub record Come : Type 0 where
  pub scene : Scene
  pub outputs : List Numbered

-- what happens at a line: the first makes a group
unfoldable pub comes : Scene → Line → Come
comes w line =
    let h = happens hazards w.world (happening line) in
    record { scene = record { world = h.world; version = version_behind w.version line }; outputs = numbered (length w.world.sent) h.outputs }

-- what lines come to, and what they put out
pub record Played : Type 0 where
  pub scene : Scene
  pub number : ℕ  -- how many lines were taken
  pub refused : Option ℕ  -- the number of the first line that was refused
  pub outputs : List Numbered

abbrev pub judged : Scene → ℕ → Option Line → Played
judged w number None = record { scene = w; number = number; refused = Some (number + 1); outputs = [] }
judged w number (Some line) =
    let c = comes w line in
    record { scene = c.scene; number = number + 1; refused = None; outputs = c.outputs }

-- one line, after so many others
unfoldable pub taken : Scene → ℕ → List ℕ → Played
taken w number text = judged w number (line_at w.version w.world.n number text)

abbrev pub behind : List Numbered → Played → Played
behind outputs t = record { scene = t.scene; number = t.number; refused = t.refused; outputs = outputs ++ t.outputs }

-- after a refusal nothing is taken
abbrev pub and_then : Option ℕ → Played → Played → Played
and_then (Some k) t later = t
and_then None t later = behind t.outputs later

-- further lines
unfoldable pub plays : Scene → ℕ → List (List ℕ) → Played
plays w number [] = record { scene = w; number = number; refused = None; outputs = [] }
plays w number (text ∷ texts) =
    let t = taken w number text in
    and_then t.refused t (plays t.scene t.number texts)

-- the most bytes that a line of any version has
abbrev pub longest_line : ℕ
longest_line = longest 2

-- what has not ended is judged as soon as it is too long
abbrev pub if_too_long : List ℕ → List (List ℕ)
if_too_long bytes = if nat_lt longest_line (length bytes) then bytes ∷ [] else []

-- the lines that are judged when so many bytes have come
unfoldable pub heard : List ℕ → List (List ℕ)
heard bytes = whole_lines bytes ++ if_too_long (cut bytes).last

-- what has come and wasn't taken yet
abbrev pub hears_lines : Replay → Played
hears_lines s = plays (scene_of s.group) s.number (heard s.lines.bytes)

-- further bytes
abbrev pub hears : Replay → List ℕ → Played
hears s bytes = plays (scene_of s.group) s.number (heard (s.lines.bytes ++ bytes))

-- what holds of a replay between two pieces
pub record IsReplay (s : Replay) : Type 0 where
  pub live : s.group.live ≡ true
  pub part : whole_lines s.lines.bytes ≡ []
  pub short : length s.lines.bytes ≤ longest_line
  pub few : s.number ≤ limit

-- these bytes were heard, and the text of their lines went out
pub record HearsAll (old new : Replay) (bytes : List ℕ) (taken_old taken_new : Option (List ℕ)) : Type 0 where
  pub scene : scene_of new.group ≡ (plays (scene_of old.group) old.number (heard bytes)).scene
  pub number : new.number ≡ (plays (scene_of old.group) old.number (heard bytes)).number
  pub accepted : (plays (scene_of old.group) old.number (heard bytes)).refused ≡ None
  pub partial : new.lines.bytes ≡ (cut bytes).last
  pub sound : IsReplay new
  pub text : Appends taken_old taken_new (text_of (plays (scene_of old.group) old.number (heard bytes)).outputs)

-- a piece of the source was heard
abbrev pub Hears : Replay → Replay → List ℕ → Option (List ℕ) → Option (List ℕ) → Type 0
Hears old new piece taken_old taken_new = HearsAll old new (old.lines.bytes ++ piece) taken_old taken_new

-- the end of the source: what stands is the last line; a schedule has at least one
abbrev pub none_left : Scene → ℕ → Played
none_left w number =
    record { scene = w; number = number; refused = if number == 0 then Some 1 else None; outputs = [] }

unfoldable pub ends : Replay → Played
ends s = if length s.lines.bytes == 0 then none_left (scene_of s.group) s.number else taken (scene_of s.group) s.number s.lines.bytes
