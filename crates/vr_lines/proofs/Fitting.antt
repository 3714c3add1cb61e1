-- Each line that is read speaks of the group.
use Rattle.std.proofs.Common.{◌≡◌, ◌<◌, ◌≤◌, ◌^◌, ℕ, List, [], ◌∷◌, eqb, refl, arith, Option, Some, None}
use Rattle.std.specs.Prelude.{nat_lt, codes, length}
use Rattle.std.specs.Option.{IfSome, option_map}
use Rattle.std.specs.Str.{bytes_eq}
use Rattle.std.proofs.lemmas.Bool.{lt-ltb}
use Rattle.std.proofs.lemmas.Bool.Decides.{nat_tests}
use Rattle.vr_base.specs.Groups.{is_size, least_members}
use Rattle.vr_base.specs.declared.kind.Kind.{Kind}
use Rattle.vr_base.specs.declared.mode.Mode.{Mode}
use Rattle.vr_base.specs.declared.mode.Mode.TheVariants.{Strict, Careful}
use Rattle.vr_base.proofs.Members.{sized}
use Rattle.vr_base.proofs.Versions.{between}
use Rattle.vr_header.specs.declared.operation.Operation.{Operation}
use Rattle.vr_lines.specs.declared.line.Line.{Line}
use Rattle.vr_lines.specs.declared.line.Line.TheVariants.{Cluster, Request, Deliver, Tick, Stop, Start, Migrate, Fuse, Misdirect}
use Rattle.vr_lines.specs.declared.member.Place.{Place}
use Rattle.vr_lines.specs.declared.request.Asked.{Asked}
use Rattle.vr_lines.specs.Fits.{IsLineOf, IsSector}
use Rattle.vr_lines.specs.Grammar.{asked_by, behind_asked, call_of, cluster_line, damage_line, deliver_line, fuse_line, fused, is_fitting, kind_of, line_behind, kind_words, line_words, longest, longest_line, lost_words, member_line, migrate_line, misdirect_line, misdirected, parse, place_of, replica_word, request_for, request_line, sector_of, sector_words, size_of, stale_line, start_line, stop_line, tick_line, unread_line, version_words}
use Rattle.vr_lines.specs.Numbers.{number_below, number_of}
use Rattle.vr_lines.specs.Operations.{operation_words}
use Rattle.vr_lines.specs.Versions.{line_sectors}
use Rattle.vr_lines.specs.Words.{only_word, words_of}
use Rattle.vr_lines.proofs.Answers.{either, through, mapped, it_is, below}

-- ---- the line that makes a group

abbrev IsSize : ℕ → ℕ → Type 0
IsSize version n = (least_members version ≤ n) × (n ≤ 6)

size_fits : (version : ℕ) (word : List ℕ) → IfSome (size_of version word) (IsSize version)
size_fits version word =
    through (IsSize version) (number_below 256 word) _ (λ n e. either (IsSize version) (is_size version n) (Some n) None (λ t. sized version n t) (λ t. tt))

abbrev IsVersion : ℕ → Type 0
IsVersion version = (1 ≤ version) × (version ≤ 2)

version_fits : (words : List (List ℕ)) → IfSome (version_words words) IsVersion
version_fits [] = (omega arith, omega arith)
version_fits (word ∷ []) = either IsVersion (bytes_eq word (codes "v2")) (Some 2) None (λ t. (omega arith, omega arith)) (λ t. tt)
version_fits (word ∷ more ∷ words) = tt

abbrev IsKind : Kind → Type 0
IsKind kind = IsVersion kind.version

kind_fits : (mode : Mode) (words : List (List ℕ)) → IfSome (kind_of mode words) IsKind
kind_fits mode words = mapped IsKind (version_words words) _ (λ version e. it_is IsVersion (version_words words) version (version_fits words) e)

kinds_fit : (words : List (List ℕ)) → IfSome (kind_words words) IsKind
kinds_fit [] = kind_fits Strict []
kinds_fit (word ∷ words) =
    either IsKind (bytes_eq word (codes "careful")) (kind_of Careful words) (kind_of Strict (word ∷ words)) (λ t. kind_fits Careful words) (λ t. kind_fits Strict (word ∷ words))

cluster_fits : (version : ℕ) (words : List (List ℕ)) → IfSome (cluster_line words) (IsLineOf version 0)
cluster_fits version [] = tt
cluster_fits version (size ∷ words) =
    through (IsLineOf version 0) (kind_words words) _ (λ kind e.
    let files = it_is IsKind (kind_words words) kind (kinds_fit words) e in
    mapped (IsLineOf version 0) (size_of kind.version size) (λ n. Cluster n kind) (λ n h.
    let is = it_is (IsSize kind.version) (size_of kind.version size) n (size_fits kind.version size) h in
    (refl, is.0, is.1, files.0, files.1)))

-- ---- lines of clients and the network

deliver_fits : (version n : ℕ) (words : List (List ℕ)) → 0 < n → IfSome (deliver_line words) (IsLineOf version n)
deliver_fits version n words h =
    through (IsLineOf version n) (only_word words) (λ a. option_map Deliver (number_of a)) (λ a e. mapped (IsLineOf version n) (number_of a) Deliver (λ x k. h))

asked_fits : (n : ℕ) (r c q : List ℕ) → IfSome (asked_by n r c q) (λ a. a.replica < n)
unfolding asked_by
asked_fits n r c q =
    through (λ a. a.replica < n) (number_below n r) _ (λ replica e.
    through (λ a. a.replica < n) (number_of c) _ (λ client h.
    through (λ a. a.replica < n) (number_below (2 ^ 32) q) _ (λ request k.
    either (λ a. a.replica < n) (eqb client 0) None (Some (record { replica = replica; client = client; request = request })) (λ t. tt) (λ t. below n r replica e))))

request_fits : (version n : ℕ) (a : Asked) (o : Operation) → a.replica < n → IfSome (request_for version a o) (IsLineOf version n)
request_fits version n a o h =
    either (IsLineOf version n) (is_fitting o a.request) (Some (Request a.replica (record { version = version; cluster = 0; client = a.client; request = a.request; operation = o }))) None (λ e. (h, refl)) (λ e. tt)

asking_fits : (version n : ℕ) (words : List (List ℕ)) → IfSome (request_line version n words) (IsLineOf version n)
asking_fits version n [] = tt
asking_fits version n (r ∷ []) = tt
asking_fits version n (r ∷ c ∷ []) = tt
asking_fits version n (r ∷ c ∷ q ∷ words) =
    through (IsLineOf version n) (asked_by n r c q) (λ asked. behind_asked version asked words) (λ a e.
    through (IsLineOf version n) (operation_words version words) (request_for version a) (λ o h.
    request_fits version n a o (it_is (λ a. a.replica < n) (asked_by n r c q) a (asked_fits n r c q) e)))

-- ---- lines that speak of one replica

some_below : (n : ℕ) (w : List ℕ) (o : Option ℕ) → number_below n w ≡ o → IfSome o (λ r. r < n)
some_below n w None e = tt
some_below n w (Some r) e = below n w r e

is_below : (n : ℕ) (w : List ℕ) → IfSome (number_below n w) (λ r. r < n)
is_below n w = some_below n w (number_below n w) refl

replica_fits : (version n : ℕ) (words : List (List ℕ)) (make : ℕ → Line) → ((r : ℕ) → r < n → IsLineOf version n (make r)) → IfSome (option_map make (replica_word n words)) (IsLineOf version n)
replica_fits version n words make h =
    mapped (IsLineOf version n) (replica_word n words) make (λ r e.
    h r (it_is (λ r. r < n) (replica_word n words) r (through (λ r. r < n) (only_word words) (number_below n) (λ w k. is_below n w)) e))

abbrev IsCall : ℕ → Type 0
IsCall call = (1 ≤ call) × (call ≤ 1000000)

call_fits : (j : List ℕ) → IfSome (call_of j) IsCall
call_fits j =
    through IsCall (number_below 1000001 j) _ (λ call e.
    either IsCall (eqb call 0) None (Some call) (λ t. tt)
    (λ t. let most = below 1000001 j call e in (grind (arith, nat_tests), omega (arith, most))))

fused_fits : (version n : ℕ) (r j code : List ℕ) → IfSome (fused n r j code) (IsLineOf version n)
fused_fits version n r j code =
    through (IsLineOf version n) (number_below n r) _ (λ replica e.
    through (IsLineOf version n) (call_of j) _ (λ call h.
    mapped (IsLineOf version n) (number_of code) (Fuse replica call) (λ c k.
    let is = it_is IsCall (call_of j) call (call_fits j) h in (below n r replica e, is.0, is.1))))

fuse_fits : (version n : ℕ) (words : List (List ℕ)) → IfSome (fuse_line n words) (IsLineOf version n)
fuse_fits version n [] = tt
fuse_fits version n (r ∷ []) = tt
fuse_fits version n (r ∷ j ∷ []) = tt
fuse_fits version n (r ∷ j ∷ code ∷ []) = fused_fits version n r j code
fuse_fits version n (r ∷ j ∷ code ∷ more ∷ words) = tt

sector_below : (version : ℕ) (word : List ℕ) (sector : ℕ) → sector_of version word ≡ Some sector → IsSector version sector
sector_below version word sector e = below (line_sectors version) word sector e

abbrev IsPlaceOf : ℕ → ℕ → Place → Type 0
IsPlaceOf version n p = (p.replica < n) × IsSector version p.sector

place_fits : (version n : ℕ) (r s : List ℕ) → IfSome (place_of version n r s) (IsPlaceOf version n)
place_fits version n r s =
    through (IsPlaceOf version n) (number_below n r) _ (λ replica e.
    mapped (IsPlaceOf version n) (sector_of version s) _ (λ sector h. (below n r replica e, sector_below version s sector h)))

places_fit : (version n : ℕ) (words : List (List ℕ)) → IfSome (sector_words version n words) (IsPlaceOf version n)
places_fit version n [] = tt
places_fit version n (r ∷ []) = tt
places_fit version n (r ∷ s ∷ []) = place_fits version n r s
places_fit version n (r ∷ s ∷ more ∷ words) = tt

sector_fits : (version n : ℕ) (words : List (List ℕ)) (make : Place → Line) → ((p : Place) → IsPlaceOf version n p → IsLineOf version n (make p)) → IfSome (option_map make (sector_words version n words)) (IsLineOf version n)
sector_fits version n words make h =
    mapped (IsLineOf version n) (sector_words version n words) make (λ p e. h p (it_is (IsPlaceOf version n) (sector_words version n words) p (places_fit version n words) e))

misdirected_fits : (version n : ℕ) (r s t : List ℕ) → IfSome (misdirected version n r s t) (IsLineOf version n)
misdirected_fits version n r s t =
    through (IsLineOf version n) (number_below n r) _ (λ replica e.
    through (IsLineOf version n) (sector_of version s) _ (λ sector h.
    through (IsLineOf version n) (sector_of version t) _ (λ other k.
    either (IsLineOf version n) (eqb sector other) None (Some (Misdirect replica sector other)) (λ d. tt)
    (λ d. (below n r replica e, sector_below version s sector h, sector_below version t other k, λ same. grind (arith, nat_tests))))))

misdirect_fits : (version n : ℕ) (words : List (List ℕ)) → IfSome (misdirect_line version n words) (IsLineOf version n)
misdirect_fits version n [] = tt
misdirect_fits version n (r ∷ []) = tt
misdirect_fits version n (r ∷ s ∷ []) = tt
misdirect_fits version n (r ∷ s ∷ t ∷ []) = misdirected_fits version n r s t
misdirect_fits version n (r ∷ s ∷ t ∷ more ∷ words) = tt

lost_fits : (version n : ℕ) (word : List ℕ) (words : List (List ℕ)) → IfSome (lost_words version n word words) (IsLineOf version n)
lost_fits version n word words =
    either (IsLineOf version n) (bytes_eq word (codes "fuse")) (fuse_line n words) _ (λ e. fuse_fits version n words)
    (λ e. either (IsLineOf version n) (bytes_eq word (codes "damage")) (damage_line version n words) _ (λ e. sector_fits version n words _ (λ p h. h))
    (λ e. either (IsLineOf version n) (bytes_eq word (codes "stale")) (stale_line version n words) _ (λ e. sector_fits version n words _ (λ p h. h))
    (λ e. either (IsLineOf version n) (bytes_eq word (codes "unread")) (unread_line version n words) _ (λ e. sector_fits version n words _ (λ p h. h))
    (λ e. either (IsLineOf version n) (bytes_eq word (codes "misdirect")) (misdirect_line version n words) None (λ e. misdirect_fits version n words) (λ e. tt)))))

member_fits : (version n : ℕ) (word : List ℕ) (words : List (List ℕ)) → IfSome (member_line version n word words) (IsLineOf version n)
member_fits version n word words =
    either (IsLineOf version n) (bytes_eq word (codes "tick")) (tick_line n words) _ (λ e. replica_fits version n words Tick (λ r h. h))
    (λ e. either (IsLineOf version n) (bytes_eq word (codes "stop")) (stop_line n words) _ (λ e. replica_fits version n words Stop (λ r h. h))
    (λ e. either (IsLineOf version n) (bytes_eq word (codes "start")) (start_line n words) _ (λ e. replica_fits version n words Start (λ r h. h))
    (λ e. either (IsLineOf version n) (bytes_eq word (codes "migrate")) (migrate_line n words) (lost_words version n word words) (λ e. replica_fits version n words Migrate (λ r h. h)) (λ e. lost_fits version n word words))))

-- ---- all lines

behind_fits : (version n : ℕ) (word : List ℕ) (words : List (List ℕ)) → IfSome (line_behind version n word words) (IsLineOf version n)
behind_fits version n word words =
    either (IsLineOf version n) (eqb n 0) _ _
    (λ e. let none : n ≡ 0 = grind (arith, nat_tests) in
    rw none (either (IsLineOf version 0) (bytes_eq word (codes "cluster")) (cluster_line words) None (λ t. cluster_fits version words) (λ t. tt)))
    (λ e. let some : 0 < n = grind (arith, nat_tests) in
    either (IsLineOf version n) (bytes_eq word (codes "request")) (request_line version n words) _ (λ t. asking_fits version n words)
    (λ t. either (IsLineOf version n) (bytes_eq word (codes "deliver")) (deliver_line words) (member_line version n word words) (λ u. deliver_fits version n words some) (λ u. member_fits version n word words)))

words_fit : (version n : ℕ) (words : List (List ℕ)) → IfSome (line_words version n words) (IsLineOf version n)
unfolding line_words
words_fit version n [] = tt
words_fit version n (word ∷ words) = behind_fits version n word words

pub parse_fits : (version n : ℕ) (bytes : List ℕ) → IfSome (parse version n bytes) (IsLineOf version n)
unfolding parse
parse_fits version n bytes = either (IsLineOf version n) (nat_lt (longest version) (length bytes)) None (line_words version n (words_of bytes)) (λ e. tt) (λ e. words_fit version n (words_of bytes))

-- what is longer than every line of a version is none of it
pub long_parse : (version n : ℕ) (bytes : List ℕ) → longest version < length bytes → parse version n bytes ≡ None
unfolding parse
long_parse version n bytes h = rw (lt-ltb (longest version) (length bytes) h) refl

-- so is what is longer than a line of any version
pub longer_parse : (version n : ℕ) (bytes : List ℕ) → longest_line < length bytes → parse version n bytes ≡ None
longer_parse version n bytes h = let most = between version 1135 3111 (omega arith) in long_parse version n bytes (omega (arith, h, most))

pub parsed_fits : (version n : ℕ) (bytes : List ℕ) (l : Line) → parse version n bytes ≡ Some l → IsLineOf version n l
parsed_fits version n bytes l e = it_is (IsLineOf version n) (parse version n bytes) l (parse_fits version n bytes) e
