-- The whole language of schedules, line by line.
use Rattle.std.specs.Prelude.{ℕ, Bool, not, nat_lt, ◌==◌, ◌^◌, List, [], ◌∷◌, length, Option, Some, None, option_and_then, if◌then◌else◌, codes}
use Rattle.std.specs.Option.{option_map}
use Rattle.std.specs.Str.{bytes_eq}
use Rattle.vr_base.specs.Groups.{is_size}
use Rattle.vr_base.specs.Versions.{by_version}
use Rattle.vr_base.specs.declared.kind.Kind.{Kind}
use Rattle.vr_base.specs.declared.mode.Mode.{Mode}
use Rattle.vr_base.specs.declared.mode.Mode.TheVariants.{Strict, Careful}
use Rattle.vr_header.specs.declared.operation.Operation.{Operation}
use Rattle.vr_header.specs.Made.{is_register}
use Rattle.vr_lines.specs.declared.line.Line.{Line}
use Rattle.vr_lines.specs.declared.line.Line.TheVariants.{Cluster, Request, Deliver, Tick, Stop, Start, Migrate, Fuse, Damage, Stale, Unread, Misdirect}
use Rattle.vr_lines.specs.declared.member.Place.{Place}
use Rattle.vr_lines.specs.declared.request.Asked.{Asked}
use Rattle.vr_lines.specs.Numbers.{number_of, number_below}
use Rattle.vr_lines.specs.Operations.{operation_words}
use Rattle.vr_lines.specs.Versions.{line_sectors}
use Rattle.vr_lines.specs.Words.{only_word, words_of}

-- ---- the line that makes a group

-- the version of a group's files, after their mode: 1, where nothing stands there
abbrev pub version_words : List (List ℕ) → Option ℕ
version_words [] = Some 1
version_words (word ∷ []) = if bytes_eq word (codes "v2") then Some 2 else None
version_words _ = None

-- files of this mode, and of the version after it
abbrev pub kind_of : Mode → List (List ℕ) → Option Kind
kind_of mode words = option_map (λ version. record { mode = mode; version = version }) (version_words words)

-- what a group's files are, after its size: `careful` and `v2`, in this order; strict and of version 1, where nothing stands there
abbrev pub kind_words : List (List ℕ) → Option Kind
kind_words [] = kind_of Strict []
kind_words (word ∷ words) = if bytes_eq word (codes "careful") then kind_of Careful words else kind_of Strict (word ∷ words)

-- N from 2 to 6, and from 1 for files of version 2
abbrev pub size_of : ℕ → List ℕ → Option ℕ
size_of version word = option_and_then (λ n. if is_size version n then Some n else None) (number_below 256 word)

-- `cluster N`, `cluster N careful`, `cluster N v2`, `cluster N careful v2`
abbrev pub cluster_line : List (List ℕ) → Option Line
cluster_line [] = None
cluster_line (size ∷ words) = option_and_then (λ kind. option_map (λ n. Cluster n kind) (size_of kind.version size)) (kind_words words)

-- ---- lines of clients and the network

-- `deliver X` with X below 2 ^ 64
abbrev pub deliver_line : List (List ℕ) → Option Line
deliver_line words = option_and_then (λ a. option_map Deliver (number_of a)) (only_word words)

-- replica, client and number of a request: `R C Q` with R below n, C from 1 to 2 ^ 64 - 1 and Q below 2 ^ 32
unfoldable pub asked_by : ℕ → List ℕ → List ℕ → List ℕ → Option Asked
asked_by n r c q =
    option_and_then
    (λ replica. option_and_then
    (λ client. option_and_then
    (λ request. if client == 0 then None else Some (record { replica = replica; client = client; request = request }))
    (number_below (2 ^ 32) q))
    (number_of c))
    (number_below n r)

-- a session begins exactly with request number 0
abbrev pub is_fitting : Operation → ℕ → Bool
is_fitting operation request = if is_register operation then request == 0 else not (request == 0)

-- a request is of the group's version
abbrev pub request_for : ℕ → Asked → Operation → Option Line
request_for version asked operation =
    if is_fitting operation asked.request
    then Some (Request asked.replica (record { version = version; cluster = 0; client = asked.client; request = asked.request; operation = operation }))
    else None

-- the operation after
abbrev pub behind_asked : ℕ → Asked → List (List ℕ) → Option Line
behind_asked version asked words = option_and_then (request_for version asked) (operation_words version words)

-- `request R C Q OP`
abbrev pub request_line : ℕ → ℕ → List (List ℕ) → Option Line
request_line version n (r ∷ c ∷ q ∷ words) = option_and_then (λ asked. behind_asked version asked words) (asked_by n r c q)
request_line version n _ = None

-- ---- lines that speak of one replica

-- R alone, below n
abbrev pub replica_word : ℕ → List (List ℕ) → Option ℕ
replica_word n words = option_and_then (number_below n) (only_word words)

-- `tick R`
abbrev pub tick_line : ℕ → List (List ℕ) → Option Line
tick_line n words = option_map Tick (replica_word n words)

-- `stop R`
abbrev pub stop_line : ℕ → List (List ℕ) → Option Line
stop_line n words = option_map Stop (replica_word n words)

-- `start R`
abbrev pub start_line : ℕ → List (List ℕ) → Option Line
start_line n words = option_map Start (replica_word n words)

-- `migrate R`
abbrev pub migrate_line : ℕ → List (List ℕ) → Option Line
migrate_line n words = option_map Migrate (replica_word n words)

-- J from 1 to 1,000,000
abbrev pub call_of : List ℕ → Option ℕ
call_of word = option_and_then (λ call. if call == 0 then None else Some call) (number_below 1000001 word)

-- CODE below 2 ^ 64
abbrev pub fused : ℕ → List ℕ → List ℕ → List ℕ → Option Line
fused n r j code =
    option_and_then
    (λ replica. option_and_then
    (λ call. option_map (Fuse replica call) (number_of code))
    (call_of j))
    (number_below n r)

-- `fuse R J CODE`
abbrev pub fuse_line : ℕ → List (List ℕ) → Option Line
fuse_line n (r ∷ j ∷ code ∷ []) = fused n r j code
fuse_line n _ = None

-- a sector that lines of a version speak of
abbrev pub sector_of : ℕ → List ℕ → Option ℕ
sector_of version word = number_below (line_sectors version) word

abbrev pub place_of : ℕ → ℕ → List ℕ → List ℕ → Option Place
place_of version n r s =
    option_and_then (λ replica. option_map (λ sector. record { replica = replica; sector = sector }) (sector_of version s)) (number_below n r)

-- R S
abbrev pub sector_words : ℕ → ℕ → List (List ℕ) → Option Place
sector_words version n (r ∷ s ∷ []) = place_of version n r s
sector_words version n _ = None

-- `damage R S`
abbrev pub damage_line : ℕ → ℕ → List (List ℕ) → Option Line
damage_line version n words = option_map (λ p. Damage p.replica p.sector) (sector_words version n words)

-- `stale R S`
abbrev pub stale_line : ℕ → ℕ → List (List ℕ) → Option Line
stale_line version n words = option_map (λ p. Stale p.replica p.sector) (sector_words version n words)

-- `unread R S`
abbrev pub unread_line : ℕ → ℕ → List (List ℕ) → Option Line
unread_line version n words = option_map (λ p. Unread p.replica p.sector) (sector_words version n words)

-- S isn't T
abbrev pub misdirected : ℕ → ℕ → List ℕ → List ℕ → List ℕ → Option Line
misdirected version n r s t =
    option_and_then
    (λ replica. option_and_then
    (λ sector. option_and_then
    (λ other. if sector == other then None else Some (Misdirect replica sector other))
    (sector_of version t))
    (sector_of version s))
    (number_below n r)

-- `misdirect R S T`
abbrev pub misdirect_line : ℕ → ℕ → List (List ℕ) → Option Line
misdirect_line version n (r ∷ s ∷ t ∷ []) = misdirected version n r s t
misdirect_line version n _ = None

-- what becomes of a disk
abbrev pub lost_words : ℕ → ℕ → List ℕ → List (List ℕ) → Option Line
lost_words version n word words =
    if bytes_eq word (codes "fuse") then fuse_line n words
    else (if bytes_eq word (codes "damage") then damage_line version n words
    else (if bytes_eq word (codes "stale") then stale_line version n words
    else (if bytes_eq word (codes "unread") then unread_line version n words
    else (if bytes_eq word (codes "misdirect") then misdirect_line version n words
    else None))))

-- by its first word and those after it
abbrev pub member_line : ℕ → ℕ → List ℕ → List (List ℕ) → Option Line
member_line version n word words =
    if bytes_eq word (codes "tick") then tick_line n words
    else (if bytes_eq word (codes "stop") then stop_line n words
    else (if bytes_eq word (codes "start") then start_line n words
    else (if bytes_eq word (codes "migrate") then migrate_line n words
    else lost_words version n word words)))

-- ---- all lines

-- a line by its first word and those after it, for a group of n replicas of a version; n is 0 and the version 1 before the first line,
-- which makes the group, and no other line does
abbrev pub line_behind : ℕ → ℕ → List ℕ → List (List ℕ) → Option Line
line_behind version n word words =
    if n == 0 then (if bytes_eq word (codes "cluster") then cluster_line words else None)
    else (if bytes_eq word (codes "request") then request_line version n words
    else (if bytes_eq word (codes "deliver") then deliver_line words
    else member_line version n word words))

unfoldable pub line_words : ℕ → ℕ → List (List ℕ) → Option Line
line_words version n [] = None
line_words version n (word ∷ words) = line_behind version n word words

-- the most bytes that a line of a version has: `request 5 18446744073709551615 4294967295 put KEY VALUE` with 64 bytes and 1,024, in version 2 3,000
abbrev pub longest : ℕ → ℕ
longest version = by_version version 1135 3111

-- and a line of any version
abbrev pub longest_line : ℕ
longest_line = longest 2

-- the line of a version that these bytes spell, without its end
unfoldable pub parse : ℕ → ℕ → List ℕ → Option Line
parse version n bytes = if nat_lt (longest version) (length bytes) then None else line_words version n (words_of bytes)
