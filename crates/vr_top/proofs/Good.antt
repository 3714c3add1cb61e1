-- What words ask for is in range.
use Rattle.std.proofs.Common.{◌≡◌, ◌<◌, ℕ, List, Bool, true, false, Option, Some, None, length, refl, sym, ap, subst, arith}
use Rattle.std.specs.Prelude.{◌≢◌, ◌==◌, nat_lt, codes, if◌then◌else◌, option_and_then}
use Rattle.std.specs.Option.{option_map}
use Rattle.std.specs.Str.{bytes_eq}
use Rattle.std.proofs.lemmas.Bool.Decides.{nat_tests}
use Rattle.clap.specs.Words.{Row, Text, all_of, first_of}
use Rattle.vr_base.specs.Groups.{is_size}
use Rattle.vr_base.specs.declared.kind.Kind.{Kind}
use Rattle.vr_top.specs.Roles.{IsGood}
use Rattle.vr_lines.specs.Numbers.{number_below, number_of}
use Rattle.vr_args.specs.Asked.{Asked, Client, ClientAsked, Migrate, MigrateAsked, Node, NodeAsked, Replay, Soak, asked, asked_at, asker_at, below_at, client_at, entered_by, fresh_at, id_at, is_taken, least_by, member_at, migrate_at, mover_at, n_at, node_at, number_at, peers_at, soak_at, Trial, TrialAsked, trial_at, trier_at, version_at}
use Rattle.vr_args.specs.declared.command.SoakWords.{SoakWords}

-- ---- tests

if_some : {Y : Type 0} (b : Bool) (x : Option Y) (y : Y) → (if b then x else None) ≡ Some y → (b ≡ true) × (x ≡ Some y)
if_some true x y e = (refl, e)
if_some false x y e = absurd (cc e)

if_none : {Y : Type 0} (b : Bool) (x : Option Y) (y : Y) → (if b then None else x) ≡ Some y → (b ≡ false) × (x ≡ Some y)
if_none false x y e = (refl, e)
if_none true x y e = absurd (cc e)

map_some : {X Y : Type 0} (f : X → Y) (x : Option X) (y : Y) → option_map f x ≡ Some y → (a : X) × (x ≡ Some a) × (f a ≡ y)
map_some f None y e = absurd (cc e)
map_some f (Some a) y e = (a, refl, cc e)

-- ---- values

sized_peers : (version : ℕ) (x : Option (List Text)) (peers : List Text)
    → option_and_then (λ peers. if is_size version (length peers) then Some peers else None) x ≡ Some peers → is_size version (length peers) ≡ true
sized_peers version None peers e = absurd (cc e)
sized_peers version (Some a) peers e =
    let b = if_some (is_size version (length a)) (Some a) peers e in
    let same : a ≡ peers = cc (b.1) in
    subst (λ x. is_size version (length x) ≡ true) same b.0

peers_size : (version : ℕ) (rows : List Row) (peers : List Text) → peers_at version rows ≡ Some peers → is_size version (length peers) ≡ true
unfolding peers_at
peers_size version rows peers e = sized_peers version (all_of (codes "addr") rows) peers e

below_some : (bound : ℕ) (x : Option ℕ) (n : ℕ) → option_and_then (λ n. if nat_lt n bound then Some n else None) x ≡ Some n → n < bound
below_some bound None n e = absurd (cc e)
below_some bound (Some a) n e =
    let b = if_some (nat_lt a bound) (Some a) n e in
    let same : a ≡ n = cc (b.1) in
    let less : nat_lt n bound ≡ true = subst (λ x. nat_lt x bound ≡ true) same b.0 in
    grind (arith, nat_tests)

below_text : (bound : ℕ) (x : Option Text) (n : ℕ) → option_and_then (number_below bound) x ≡ Some n → n < bound
below_text bound None n e = absurd (cc e)
below_text bound (Some text) n e = below_some bound (number_of text) n e

member_by : (fresh : Option Kind) (peers : List Text) (cluster replica : Option ℕ) (file : Option Text) (turns : Option ℕ) (a : NodeAsked)
    → option_and_then
    (λ cluster. option_and_then
    (λ replica. option_and_then
    (λ file. option_map
    (λ turns. record { cluster = cluster; replica = replica; file = file; turns = turns; peers = peers; fresh = fresh })
    turns)
    file)
    replica)
    cluster
    ≡ Some a → (a.fresh ≡ fresh) × (a.peers ≡ peers) × (replica ≡ Some a.replica)
member_by fresh peers None replica file turns a e = absurd (cc e)
member_by fresh peers (Some c) None file turns a e = absurd (cc e)
member_by fresh peers (Some c) (Some r) None turns a e = absurd (cc e)
member_by fresh peers (Some c) (Some r) (Some f) None a e = absurd (cc e)
member_by fresh peers (Some c) (Some r) (Some f) (Some t) a e =
    let same : record { cluster = c; replica = r; file = f; turns = t; peers = peers; fresh = fresh } ≡ a = cc e in
    (sym (ap (λ (x : NodeAsked). x.fresh) same), sym (ap (λ (x : NodeAsked). x.peers) same), ap (λ (x : NodeAsked). Some x.replica) same)

member_good : (fresh : Option Kind) (peers : List Text) (rows : List Row) (a : NodeAsked) → member_at fresh peers rows ≡ Some a
    → (a.fresh ≡ fresh) × (a.peers ≡ peers) × (a.replica < length peers)
unfolding member_at
member_good fresh peers rows a e =
    let m = member_by fresh peers (number_at (codes "cluster") rows) (below_at (length peers) (codes "replica") rows) (first_of (codes "file") rows) (number_at (codes "turns") rows) a e in
    (m.0, m.1, below_text (length peers) (first_of (codes "replica") rows) a.replica m.2)

node_with : (fresh : Option Kind) (rows : List Row) (p : Option (List Text)) → ((peers : List Text) → p ≡ Some peers → is_size (least_by fresh) (length peers) ≡ true) → (a : NodeAsked)
    → option_and_then (λ peers. member_at fresh peers rows) p ≡ Some a → IsGood (Node a)
node_with fresh rows None h a e = absurd (cc e)
node_with fresh rows (Some peers) h a e =
    let m = member_good fresh peers rows a e in
    let size : is_size (least_by fresh) (length peers) ≡ true = h peers refl in
    let by_peers : is_size (least_by fresh) (length a.peers) ≡ true = subst (λ x. is_size (least_by fresh) (length x) ≡ true) (sym m.1) size in
    (subst (λ x. is_size (least_by x) (length a.peers) ≡ true) (sym m.0) by_peers, subst (λ x. a.replica < length x) (sym m.1) m.2)

node_by : (rows : List Row) (f : Option (Option Kind)) (a : NodeAsked)
    → option_and_then (λ fresh. option_and_then (λ peers. member_at fresh peers rows) (peers_at (least_by fresh) rows)) f ≡ Some a → IsGood (Node a)
node_by rows None a e = absurd (cc e)
node_by rows (Some fresh) a e = node_with fresh rows (peers_at (least_by fresh) rows) (peers_size (least_by fresh) rows) a e

node_good : (rows : List Row) (a : NodeAsked) → node_at rows ≡ Some a → IsGood (Node a)
unfolding node_at
node_good rows a e = node_by rows (fresh_at rows) a e

id_by : (x : Option ℕ) (id : ℕ) → option_and_then (λ id. if id == 0 then None else Some id) x ≡ Some id → id ≢ 0
id_by None id e = absurd (cc e)
id_by (Some a) id e =
    let b = if_none (a == 0) (Some a) id e in
    let same : a ≡ id = cc (b.1) in
    let no : (id == 0) ≡ false = subst (λ x. (x == 0) ≡ false) same b.0 in
    grind (arith, nat_tests)

id_good : (rows : List Row) (id : ℕ) → id_at rows ≡ Some id → id ≢ 0
unfolding id_at
id_good rows id e = id_by (number_at (codes "id") rows) id e

asker_by : (version : ℕ) (peers : List Text) (cluster id turns : Option ℕ) (a : ClientAsked)
    → option_and_then
    (λ cluster. option_and_then
    (λ id. option_map
    (λ turns. record { version = version; cluster = cluster; id = id; turns = turns; peers = peers })
    turns)
    id)
    cluster
    ≡ Some a → (a.version ≡ version) × (a.peers ≡ peers) × (id ≡ Some a.id)
asker_by version peers None id turns a e = absurd (cc e)
asker_by version peers (Some c) None turns a e = absurd (cc e)
asker_by version peers (Some c) (Some i) None a e = absurd (cc e)
asker_by version peers (Some c) (Some i) (Some t) a e =
    let same : record { version = version; cluster = c; id = i; turns = t; peers = peers } ≡ a = cc e in
    (sym (ap (λ (x : ClientAsked). x.version) same), sym (ap (λ (x : ClientAsked). x.peers) same), ap (λ (x : ClientAsked). Some x.id) same)

asker_good : (version : ℕ) (peers : List Text) (rows : List Row) (a : ClientAsked) → asker_at version peers rows ≡ Some a
    → (a.version ≡ version) × (a.peers ≡ peers) × (a.id ≢ 0)
unfolding asker_at
asker_good version peers rows a e =
    let m = asker_by version peers (number_at (codes "cluster") rows) (id_at rows) (number_at (codes "turns") rows) a e in
    (m.0, m.1, id_good rows a.id m.2)

client_by : (version : ℕ) (rows : List Row) (p : Option (List Text)) → ((peers : List Text) → p ≡ Some peers → is_size version (length peers) ≡ true) → (a : ClientAsked)
    → option_and_then (λ peers. asker_at version peers rows) p ≡ Some a → IsGood (Client a)
client_by version rows None h a e = absurd (cc e)
client_by version rows (Some peers) h a e =
    let m = asker_good version peers rows a e in
    let size : is_size version (length peers) ≡ true = h peers refl in
    let by_peers : is_size version (length a.peers) ≡ true = subst (λ x. is_size version (length x) ≡ true) (sym m.1) size in
    (subst (λ x. is_size x (length a.peers) ≡ true) (sym m.0) by_peers, m.2)

client_good : (rows : List Row) (a : ClientAsked) → client_at rows ≡ Some a → IsGood (Client a)
unfolding client_at
client_good rows a e = client_by (version_at rows) rows (peers_at (version_at rows) rows) (peers_size (version_at rows) rows) a e

trier_by : (peers : List Text) (cluster turns : Option ℕ) (files : Option Text) (a : TrialAsked)
    → option_and_then
    (λ cluster. option_and_then
    (λ turns. option_map (λ files. record { cluster = cluster; turns = turns; files = files; peers = peers }) files)
    turns)
    cluster
    ≡ Some a → a.peers ≡ peers
trier_by peers None turns files a e = absurd (cc e)
trier_by peers (Some c) None files a e = absurd (cc e)
trier_by peers (Some c) (Some t) None a e = absurd (cc e)
trier_by peers (Some c) (Some t) (Some f) a e =
    let same : record { cluster = c; turns = t; files = f; peers = peers } ≡ a = cc e in
    sym (ap (λ (x : TrialAsked). x.peers) same)

trier_good : (peers : List Text) (rows : List Row) (a : TrialAsked) → trier_at peers rows ≡ Some a → a.peers ≡ peers
unfolding trier_at
trier_good peers rows a e = trier_by peers (number_at (codes "cluster") rows) (number_at (codes "turns") rows) (first_of (codes "files") rows) a e

trial_by : (rows : List Row) (p : Option (List Text)) → ((peers : List Text) → p ≡ Some peers → is_size 1 (length peers) ≡ true) → (a : TrialAsked)
    → option_and_then (λ peers. trier_at peers rows) p ≡ Some a → IsGood (Trial a)
trial_by rows None h a e = absurd (cc e)
trial_by rows (Some peers) h a e =
    let size : is_size 1 (length peers) ≡ true = h peers refl in
    subst (λ x. is_size 1 (length x) ≡ true) (sym (trier_good peers rows a e)) size

trial_good : (rows : List Row) (a : TrialAsked) → trial_at rows ≡ Some a → IsGood (Trial a)
unfolding trial_at
trial_good rows a e = trial_by rows (peers_at 1 rows) (peers_size 1 rows) a e

soak_by : (seed count : Option ℕ) (w : SoakWords) → option_and_then (λ seed. option_map (λ count. record { seed = seed; count = count }) count) seed ≡ Some w → count ≡ Some w.count
soak_by None count w e = absurd (cc e)
soak_by (Some s) None w e = absurd (cc e)
soak_by (Some s) (Some c) w e =
    let same : record { seed = s; count = c } ≡ w = cc e in
    ap (λ (x : SoakWords). Some x.count) same

soak_good : (rows : List Row) (w : SoakWords) → soak_at rows ≡ Some w → IsGood (Soak w)
unfolding soak_at
soak_good rows w e = below_text 1000000 (first_of (codes "count") rows) w.count (soak_by (number_at (codes "seed") rows) (below_at 1000000 (codes "count") rows) w e)

n_by : (x : Option ℕ) (n : ℕ) → option_and_then (λ n. if is_size 2 n then Some n else None) x ≡ Some n → is_size 2 n ≡ true
n_by None n e = absurd (cc e)
n_by (Some a) n e =
    let b = if_some (is_size 2 a) (Some a) n e in
    let same : a ≡ n = cc (b.1) in
    subst (λ x. is_size 2 x ≡ true) same b.0

n_good : (rows : List Row) (n : ℕ) → n_at rows ≡ Some n → is_size 2 n ≡ true
unfolding n_at
n_good rows n e = n_by (number_at (codes "n") rows) n e

mover_by : (n : ℕ) (cluster replica : Option ℕ) (file : Option Text) (a : MigrateAsked)
    → option_and_then
    (λ cluster. option_and_then
    (λ replica. option_map (λ file. record { config = record { cluster = cluster; replica = replica; n = n }; file = file }) file)
    replica)
    cluster
    ≡ Some a → (a.config.n ≡ n) × (replica ≡ Some a.config.replica)
mover_by n None replica file a e = absurd (cc e)
mover_by n (Some c) None file a e = absurd (cc e)
mover_by n (Some c) (Some r) None a e = absurd (cc e)
mover_by n (Some c) (Some r) (Some f) a e =
    let same : record { config = record { cluster = c; replica = r; n = n }; file = f } ≡ a = cc e in
    (sym (ap (λ (x : MigrateAsked). x.config.n) same), ap (λ (x : MigrateAsked). Some x.config.replica) same)

mover_good : (n : ℕ) (rows : List Row) (a : MigrateAsked) → mover_at n rows ≡ Some a → (a.config.n ≡ n) × (a.config.replica < n)
unfolding mover_at
mover_good n rows a e =
    let m = mover_by n (number_at (codes "cluster") rows) (below_at n (codes "replica") rows) (first_of (codes "file") rows) a e in
    (m.0, below_text n (first_of (codes "replica") rows) a.config.replica m.1)

migrate_by : (rows : List Row) (x : Option ℕ) → ((n : ℕ) → x ≡ Some n → is_size 2 n ≡ true) → (a : MigrateAsked)
    → option_and_then (λ n. mover_at n rows) x ≡ Some a → IsGood (Migrate a)
migrate_by rows None h a e = absurd (cc e)
migrate_by rows (Some n) h a e =
    let m = mover_good n rows a e in
    (subst (λ x. is_size 2 x ≡ true) (sym m.0) (h n refl), subst (λ x. a.config.replica < x) (sym m.0) m.1)

migrate_good : (rows : List Row) (a : MigrateAsked) → migrate_at rows ≡ Some a → IsGood (Migrate a)
unfolding migrate_at
migrate_good rows a e = migrate_by rows (n_at rows) (n_good rows) a e

-- ---- commands

abbrev at_migrate : Text → List Row → Option Asked
at_migrate name rows = if bytes_eq name (codes "migrate") then option_map Migrate (migrate_at rows) else None

abbrev at_trial : Text → List Row → Option Asked
at_trial name rows = if bytes_eq name (codes "trial") then option_map Trial (trial_at rows) else at_migrate name rows

abbrev at_client : Text → List Row → Option Asked
at_client name rows = if bytes_eq name (codes "client") then option_map Client (client_at rows) else at_trial name rows

abbrev at_node : Text → List Row → Option Asked
at_node name rows = if bytes_eq name (codes "node") then option_map Node (node_at rows) else at_client name rows

abbrev at_soak : Text → List Row → Option Asked
at_soak name rows = if bytes_eq name (codes "soak") then option_map Soak (soak_at rows) else at_node name rows

sixth : (b : Bool) (rows : List Row) (a : Asked) → (if b then option_map Migrate (migrate_at rows) else None) ≡ Some a → IsGood a
sixth b rows a e =
    let x = if_some b (option_map Migrate (migrate_at rows)) a e in
    let y = map_some Migrate (migrate_at rows) a x.1 in
    subst IsGood y.2 (migrate_good rows y.0 y.1)

fifth : (b : Bool) (rows : List Row) (a : Asked) (z : Option Asked) → (z ≡ Some a → IsGood a) → (if b then option_map Trial (trial_at rows) else z) ≡ Some a → IsGood a
fifth true rows a z later e =
    let y = map_some Trial (trial_at rows) a e in
    subst IsGood y.2 (trial_good rows y.0 y.1)
fifth false rows a z later e = later e

fourth : (b : Bool) (rows : List Row) (a : Asked) (z : Option Asked) → (z ≡ Some a → IsGood a) → (if b then option_map Client (client_at rows) else z) ≡ Some a → IsGood a
fourth true rows a z later e =
    let y = map_some Client (client_at rows) a e in
    subst IsGood y.2 (client_good rows y.0 y.1)
fourth false rows a z later e = later e

third : (b : Bool) (rows : List Row) (a : Asked) (z : Option Asked) → (z ≡ Some a → IsGood a) → (if b then option_map Node (node_at rows) else z) ≡ Some a → IsGood a
third true rows a z later e =
    let y = map_some Node (node_at rows) a e in
    subst IsGood y.2 (node_good rows y.0 y.1)
third false rows a z later e = later e

second : (b : Bool) (rows : List Row) (a : Asked) (z : Option Asked) → (z ≡ Some a → IsGood a) → (if b then option_map Soak (soak_at rows) else z) ≡ Some a → IsGood a
second true rows a z later e =
    let y = map_some Soak (soak_at rows) a e in
    subst IsGood y.2 (soak_good rows y.0 y.1)
second false rows a z later e = later e

first : (b : Bool) (a : Asked) (z : Option Asked) → (z ≡ Some a → IsGood a) → (if b then Some Replay else z) ≡ Some a → IsGood a
first true a z later e = let same : Replay ≡ a = cc e in subst IsGood same tt
first false a z later e = later e

command_good : (name : Text) (rows : List Row) (a : Asked) → asked_at name rows ≡ Some a → IsGood a
unfolding asked_at
command_good name rows a e =
    first (bytes_eq name (codes "replay")) a (at_soak name rows)
    (λ x. second (bytes_eq name (codes "soak")) rows a (at_node name rows)
    (λ y. third (bytes_eq name (codes "node")) rows a (at_client name rows)
    (λ z. fourth (bytes_eq name (codes "client")) rows a (at_trial name rows)
    (λ w. fifth (bytes_eq name (codes "trial")) rows a (at_migrate name rows) (λ v. sixth (bytes_eq name (codes "migrate")) rows a v) w) z) y) x) e

taken_good : (x : Option (Text × List Row)) (a : Asked) → option_and_then (λ p. asked_at p.0 p.1) x ≡ Some a → IsGood a
taken_good None a e = absurd (cc e)
taken_good (Some p) a e = command_good p.0 p.1 a e

pub asked_good : (words : List Text) (a : Asked) → asked words ≡ Some a → IsGood a
unfolding asked
asked_good words a e =
    let x = if_some (is_taken words) (option_and_then (λ p. asked_at p.0 p.1) (entered_by words)) a e in
    taken_good (entered_by words) a x.1
