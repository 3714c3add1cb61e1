-- The request of each line that is read can be asked.
use Rattle.std.proofs.Common.{◌≡◌, ◌<◌, ◌≤◌, ◌^◌, ℕ, List, [], ◌∷◌, true, eqb, refl, arith, Some, None}
use Rattle.std.specs.Prelude.{◌↔◌, codes, length, nat_lt}
use Rattle.std.specs.Option.{IfSome, option_map}
use Rattle.std.specs.Str.{bytes_eq}
use Rattle.std.proofs.lemmas.Bool.Decides.{nat_tests}
use Rattle.vr_header.specs.Bodies.{IsOperation}
use Rattle.vr_header.specs.declared.operation.Operation.{Operation}
use Rattle.vr_header.specs.declared.operation.Operation.TheVariants as operation
use Rattle.vr_lines.specs.Grammar.{asked_by, behind_asked, cluster_line, damage_line, deliver_line, fuse_line, is_fitting, line_behind, line_words, longest, lost_words, member_line, migrate_line, misdirect_line, kind_words, parse, replica_word, request_for, request_line, sector_of, sector_words, size_of, stale_line, start_line, stop_line, tick_line, unread_line}
use Rattle.vr_lines.specs.Numbers.{digits_on, number_below, number_of, with_digit}
use Rattle.vr_lines.specs.Operations.{operation_words}
use Rattle.vr_lines.specs.Words.{only_word, words_of}
use Rattle.vr_lines.specs.declared.line.Line.{Line}
use Rattle.vr_lines.specs.declared.line.Line.TheVariants.{Cluster, Request, Deliver, Tick, Stop, Start, Migrate, Fuse, Misdirect}
use Rattle.vr_lines.specs.declared.member.Place.{Place}
use Rattle.vr_lines.specs.declared.request.Asked.{Asked}
use Rattle.vr_lines.proofs.Answers.{below, either, it_is, mapped, through}
use Rattle.vr_lines.proofs.Operations.{operation_fits}
use Rattle.vr_group.specs.Headline.{HasAsked}

-- ---- numbers

digit_below : (n b m : ℕ) → with_digit n b ≡ Some m → m < 2 ^ 64
digit_below n b m e =
    it_is (λ m. m < 2 ^ 64) (with_digit n b) m
    (either (λ m. m < 2 ^ 64) _ (Some _) None (λ t. grind (arith, nat_tests)) (λ t. tt)) e

digits_below : (n : ℕ) (bytes : List ℕ) → n < 2 ^ 64 → IfSome (digits_on n bytes) (λ m. m < 2 ^ 64)
unfolding digits_on
digits_below n [] h = h
digits_below n (b ∷ bytes) h = through (λ m. m < 2 ^ 64) (with_digit n b) (λ m. digits_on m bytes) (λ m e. digits_below m bytes (digit_below n b m e))

number_fits : (bytes : List ℕ) → IfSome (number_of bytes) (λ m. m < 2 ^ 64)
unfolding number_of
number_fits [] = tt
number_fits (b ∷ bytes) = either (λ m. m < 2 ^ 64) _ None (digits_on 0 (b ∷ bytes)) (λ t. tt) (λ t. digits_below 0 (b ∷ bytes) (omega arith))

-- ---- requests

record IsNumbered (a : Asked) : Type 0 where
  client : a.client < 2 ^ 64
  request : a.request < 2 ^ 32

asked_fits : (n : ℕ) (r c q : List ℕ) → IfSome (asked_by n r c q) IsNumbered
unfolding asked_by
asked_fits n r c q =
    through IsNumbered (number_below n r) _ (λ replica e.
    through IsNumbered (number_of c) _ (λ client h.
    through IsNumbered (number_below (2 ^ 32) q) _ (λ request k.
    either IsNumbered (eqb client 0) None (Some (record { replica = replica; client = client; request = request })) (λ t. tt)
    (λ t. record { client = it_is (λ m. m < 2 ^ 64) (number_of c) client (number_fits c) h; request = below (2 ^ 32) q request k }))))

fits_form : (a : Asked) (o : Operation) → is_fitting o a.request ≡ true → (o ≡ operation.Register) ↔ (a.request ≡ 0)
fits_form a operation.Register e = (λ same. grind (arith, nat_tests), λ zero. refl)
fits_form a (operation.Put key value) e = (λ same. absurd cc, λ zero. absurd (grind (arith, nat_tests)))
fits_form a (operation.Get key) e = (λ same. absurd cc, λ zero. absurd (grind (arith, nat_tests)))
fits_form a (operation.Delete key) e = (λ same. absurd cc, λ zero. absurd (grind (arith, nat_tests)))

request_fits : (version : ℕ) (a : Asked) (o : Operation) → (1 ≤ version) × (version ≤ 2) → IsNumbered a → IsOperation version o → IfSome (request_for version a o) HasAsked
request_fits version a o files is of =
    either HasAsked (is_fitting o a.request) (Some (Request a.replica (record { version = version; cluster = 0; client = a.client; request = a.request; operation = o }))) None
    (λ e. (record { form = record { first = fits_form a o e; fits = of }; client = is.client; request = is.request; version = files }, omega arith)) (λ e. tt)

asking_fits : (version n : ℕ) (words : List (List ℕ)) → (1 ≤ version) × (version ≤ 2) → IfSome (request_line version n words) HasAsked
asking_fits version n [] files = tt
asking_fits version n (r ∷ []) files = tt
asking_fits version n (r ∷ c ∷ []) files = tt
asking_fits version n (r ∷ c ∷ q ∷ words) files =
    through HasAsked (asked_by n r c q) (λ asked. behind_asked version asked words) (λ a e.
    through HasAsked (operation_words version words) (request_for version a) (λ o h.
    request_fits version a o files (it_is IsNumbered (asked_by n r c q) a (asked_fits n r c q) e)
    (it_is (IsOperation version) (operation_words version words) o (operation_fits version words) h)))

-- ---- lines that speak of one replica ask nothing

replica_asks : (n : ℕ) (words : List (List ℕ)) (make : ℕ → Line) → ((r : ℕ) → HasAsked (make r)) → IfSome (option_map make (replica_word n words)) HasAsked
replica_asks n words make h = mapped HasAsked (replica_word n words) make (λ r e. h r)

fuse_asks : (n : ℕ) (words : List (List ℕ)) → IfSome (fuse_line n words) HasAsked
fuse_asks n [] = tt
fuse_asks n (r ∷ []) = tt
fuse_asks n (r ∷ j ∷ []) = tt
fuse_asks n (r ∷ j ∷ code ∷ []) = through HasAsked (number_below n r) _ (λ replica e. through HasAsked _ _ (λ call h. mapped HasAsked (number_of code) (Fuse replica call) (λ c k. tt)))
fuse_asks n (r ∷ j ∷ code ∷ more ∷ words) = tt

sector_asks : (version n : ℕ) (words : List (List ℕ)) (make : Place → Line) → ((p : Place) → HasAsked (make p)) → IfSome (option_map make (sector_words version n words)) HasAsked
sector_asks version n words make h = mapped HasAsked (sector_words version n words) make (λ p e. h p)

misdirect_asks : (version n : ℕ) (words : List (List ℕ)) → IfSome (misdirect_line version n words) HasAsked
misdirect_asks version n [] = tt
misdirect_asks version n (r ∷ []) = tt
misdirect_asks version n (r ∷ s ∷ []) = tt
misdirect_asks version n (r ∷ s ∷ t ∷ []) =
    through HasAsked (number_below n r) _ (λ replica e.
    through HasAsked (sector_of version s) _ (λ sector h.
    through HasAsked (sector_of version t) _ (λ other k.
    either HasAsked (eqb sector other) None (Some (Misdirect replica sector other)) (λ d. tt) (λ d. tt))))
misdirect_asks version n (r ∷ s ∷ t ∷ more ∷ words) = tt

lost_asks : (version n : ℕ) (word : List ℕ) (words : List (List ℕ)) → IfSome (lost_words version n word words) HasAsked
lost_asks version n word words =
    either HasAsked (bytes_eq word (codes "fuse")) (fuse_line n words) _ (λ e. fuse_asks n words)
    (λ e. either HasAsked (bytes_eq word (codes "damage")) (damage_line version n words) _ (λ e. sector_asks version n words _ (λ p. tt))
    (λ e. either HasAsked (bytes_eq word (codes "stale")) (stale_line version n words) _ (λ e. sector_asks version n words _ (λ p. tt))
    (λ e. either HasAsked (bytes_eq word (codes "unread")) (unread_line version n words) _ (λ e. sector_asks version n words _ (λ p. tt))
    (λ e. either HasAsked (bytes_eq word (codes "misdirect")) (misdirect_line version n words) None (λ e. misdirect_asks version n words) (λ e. tt)))))

member_asks : (version n : ℕ) (word : List ℕ) (words : List (List ℕ)) → IfSome (member_line version n word words) HasAsked
member_asks version n word words =
    either HasAsked (bytes_eq word (codes "tick")) (tick_line n words) _ (λ e. replica_asks n words Tick (λ r. tt))
    (λ e. either HasAsked (bytes_eq word (codes "stop")) (stop_line n words) _ (λ e. replica_asks n words Stop (λ r. tt))
    (λ e. either HasAsked (bytes_eq word (codes "start")) (start_line n words) _ (λ e. replica_asks n words Start (λ r. tt))
    (λ e. either HasAsked (bytes_eq word (codes "migrate")) (migrate_line n words) (lost_words version n word words) (λ e. replica_asks n words Migrate (λ r. tt)) (λ e. lost_asks version n word words))))

-- ---- all lines

cluster_asks : (words : List (List ℕ)) → IfSome (cluster_line words) HasAsked
cluster_asks [] = tt
cluster_asks (size ∷ words) = through HasAsked (kind_words words) _ (λ kind e. mapped HasAsked (size_of kind.version size) (λ n. Cluster n kind) (λ n h. tt))

deliver_asks : (words : List (List ℕ)) → IfSome (deliver_line words) HasAsked
deliver_asks words = through HasAsked (only_word words) (λ a. option_map Deliver (number_of a)) (λ a e. mapped HasAsked (number_of a) Deliver (λ x k. tt))

behind_asks : (version n : ℕ) (word : List ℕ) (words : List (List ℕ)) → (1 ≤ version) × (version ≤ 2) → IfSome (line_behind version n word words) HasAsked
behind_asks version n word words files =
    either HasAsked (eqb n 0) _ _
    (λ e. either HasAsked (bytes_eq word (codes "cluster")) (cluster_line words) None (λ t. cluster_asks words) (λ t. tt))
    (λ e. either HasAsked (bytes_eq word (codes "request")) (request_line version n words) _ (λ t. asking_fits version n words files)
    (λ t. either HasAsked (bytes_eq word (codes "deliver")) (deliver_line words) (member_line version n word words) (λ u. deliver_asks words) (λ u. member_asks version n word words)))

words_ask : (version n : ℕ) (words : List (List ℕ)) → (1 ≤ version) × (version ≤ 2) → IfSome (line_words version n words) HasAsked
unfolding line_words
words_ask version n [] files = tt
words_ask version n (word ∷ words) files = behind_asks version n word words files

parse_asks : (version n : ℕ) (bytes : List ℕ) → (1 ≤ version) × (version ≤ 2) → IfSome (parse version n bytes) HasAsked
unfolding parse
parse_asks version n bytes files = either HasAsked (nat_lt (longest version) (length bytes)) None (line_words version n (words_of bytes)) (λ e. tt) (λ e. words_ask version n (words_of bytes) files)

pub parsed_asks : (version n : ℕ) (bytes : List ℕ) (l : Line) → (1 ≤ version) × (version ≤ 2) → parse version n bytes ≡ Some l → HasAsked l
parsed_asks version n bytes l files e = it_is HasAsked (parse version n bytes) l (parse_asks version n bytes files) e
