-- Command lines, each with what it asks for.
use Rattle.std.proofs.Common.{◌≡◌, ℕ, List, [], ◌∷◌, map, Option, Some, None, refl}
use Rattle.std.specs.Prelude.{codes, replicate}
use Rattle.clap.specs.Faults.{defaults_fault, walk_fault}
use Rattle.clap.specs.Walk.{walked}
use Rattle.clap.specs.Words.{Text}
use Rattle.vr_base.specs.declared.kind.Kind.{Kind}
use Rattle.vr_base.specs.declared.mode.Mode.{Mode}
use Rattle.vr_base.specs.declared.mode.Mode.TheVariants.{Careful, Strict}
use Rattle.vr_lines.specs.Numbers.{digits_on, number_of}
use Rattle.vr_lines.specs.Words.{words_of}
use Rattle.vr_args.specs.Asked.{Asked, Client, Migrate, Node, asked, asked_at, asker_at, client_at, entered_by, faults_in, flag_at, fresh_at, id_at, member_at, migrate_at, mover_at, n_at, node_at, peers_at, trial_at, trier_at, version_at}
use Rattle.vr_args.specs.Forms.{above, addresses, client, flag, making, migrate, node, peered, plain, replay, running, soak, taking, the_command, top, trial, wanted, wanting}

-- what the words between single spaces ask for
abbrev meant : List ℕ → Option Asked
meant line = asked (words_of line)

-- member 0 of group 5, that serves two turns
abbrev member : List Text → Option Kind → Option Asked
member peers fresh = Some (Node (record { cluster = 5; replica = 0; file = codes "f"; turns = 2; peers = peers; fresh = fresh }))

-- on a file that is made so
abbrev made : Mode → ℕ → Option Kind
made mode version = Some (record { mode = mode; version = version })

-- client 7 of group 5, that waits three turns
abbrev asker : ℕ → List Text → Option Asked
asker version peers = Some (Client (record { version = version; cluster = 5; id = 7; turns = 3; peers = peers }))

-- a file is made
new : (meant (codes "node 5 0 f 2 a b --fresh") ≡ member (codes "a" ∷ codes "b" ∷ []) (made Strict 1))
    × (meant (codes "node 5 0 f 2 a b --fresh --careful") ≡ member (codes "a" ∷ codes "b" ∷ []) (made Careful 1))
    × (meant (codes "node 5 0 f 2 a b --fresh --v2") ≡ member (codes "a" ∷ codes "b" ∷ []) (made Strict 2))
    × (meant (codes "node 5 0 f 2 --v2 a --careful b --fresh") ≡ member (codes "a" ∷ codes "b" ∷ []) (made Careful 2))
    × (meant (codes "node 5 0 f 2 a --fresh --v2") ≡ member (codes "a" ∷ []) (made Strict 2))
    × (meant (codes "node 5 0 f 2 a --fresh --careful --v2") ≡ member (codes "a" ∷ []) (made Careful 2))
unfolding words_of walk_fault walked defaults_fault number_of digits_on asked faults_in entered_by asked_at node_at member_at client_at asker_at id_at trial_at trier_at migrate_at mover_at n_at peers_at fresh_at version_at flag_at the_command running top migrate trial client node making soak replay peered plain wanting flag addresses wanted above taking
new = (refl, refl, refl, refl, refl, refl)

-- a file is found again, which says itself whether its group has one member
again : (meant (codes "node 5 0 f 2 a b") ≡ member (codes "a" ∷ codes "b" ∷ []) None)
    × (meant (codes "node 5 0 f 2 a") ≡ member (codes "a" ∷ []) None)
unfolding words_of walk_fault walked defaults_fault number_of digits_on asked faults_in entered_by asked_at node_at member_at client_at asker_at id_at trial_at trier_at migrate_at mover_at n_at peers_at fresh_at version_at flag_at the_command running top migrate trial client node making soak replay peered plain wanting flag addresses wanted above taking
again = (refl, refl)

-- One alone may not have a new file of version 1, mode and version are of a new file, and there are from 1 to 6 addresses.
no_member : map meant
    (codes "node 5 0 f 2 a --fresh"
    ∷ codes "node 5 0 f 2 a --fresh --careful"
    ∷ codes "node 5 0 f 2 a --v2"
    ∷ codes "node 5 0 f 2 a b --v2"
    ∷ codes "node 5 0 f 2 a b --careful"
    ∷ codes "node 5 0 f 2 a b --careful --v2"
    ∷ codes "node 5 1 f 2 a --fresh --v2"
    ∷ codes "node 5 1 f 2 a"
    ∷ codes "node 5 0 f 2 --fresh --v2"
    ∷ codes "node 5 0 f 2"
    ∷ codes "node 5 0 f 2 a b c d e f g --fresh --v2"
    ∷ codes "node 5 0 f 2 a b c d e f g"
    ∷ codes "node 5 0 f 2 a --fresh --v2 --v2"
    ∷ codes "node 5 0 f 2 a --fresh --v2=1"
    ∷ codes "node 5 0 f 2 a --fresh --v3"
    ∷ codes "node 5 0 f 2 a --fresh --V2"
    ∷ [])
    ≡ replicate 16 None
unfolding words_of walk_fault walked defaults_fault number_of digits_on asked faults_in entered_by asked_at node_at member_at client_at asker_at id_at trial_at trier_at migrate_at mover_at n_at peers_at fresh_at version_at flag_at the_command running top migrate trial client node making soak replay peered plain wanting flag addresses wanted above taking
no_member = refl

-- a client of each version
clients : (meant (codes "client 5 7 3 a b") ≡ asker 1 (codes "a" ∷ codes "b" ∷ []))
    × (meant (codes "client 5 7 3 a b --v2") ≡ asker 2 (codes "a" ∷ codes "b" ∷ []))
    × (meant (codes "client 5 7 3 --v2 a") ≡ asker 2 (codes "a" ∷ []))
unfolding words_of walk_fault walked defaults_fault number_of digits_on asked faults_in entered_by asked_at node_at member_at client_at asker_at id_at trial_at trier_at migrate_at mover_at n_at peers_at fresh_at version_at flag_at the_command running top migrate trial client node making soak replay peered plain wanting flag addresses wanted above taking
clients = (refl, refl, refl)

-- of version 1 none asks one alone, and none makes a file
no_client : map meant
    (codes "client 5 7 3 a"
    ∷ codes "client 5 7 3 --v2"
    ∷ codes "client 5 7 3"
    ∷ codes "client 5 0 3 a --v2"
    ∷ codes "client 5 7 3 a b c d e f g --v2"
    ∷ codes "client 5 7 3 a --v2 --v2"
    ∷ codes "client 5 7 3 a b --fresh"
    ∷ codes "client 5 7 3 a b --fresh --v2"
    ∷ [])
    ≡ replicate 8 None
unfolding words_of walk_fault walked defaults_fault number_of digits_on asked faults_in entered_by asked_at node_at member_at client_at asker_at id_at trial_at trier_at migrate_at mover_at n_at peers_at fresh_at version_at flag_at the_command running top migrate trial client node making soak replay peered plain wanting flag addresses wanted above taking
no_client = refl

-- a trial's files are of version 1
no_trial : map meant
    (codes "trial 5 20 f a"
    ∷ codes "trial 5 20 f a --v2"
    ∷ codes "trial 5 20 f a b --v2"
    ∷ [])
    ≡ replicate 3 None
unfolding words_of walk_fault walked defaults_fault number_of digits_on asked faults_in entered_by asked_at node_at member_at client_at asker_at id_at trial_at trier_at migrate_at mover_at n_at peers_at fresh_at version_at flag_at the_command running top migrate trial client node making soak replay peered plain wanting flag addresses wanted above taking
no_trial = refl

-- the file of this member of group 5 is migrated
abbrev mover : ℕ → ℕ → Option Asked
mover replica n = Some (Migrate (record { config = record { cluster = 5; replica = replica; n = n }; file = codes "f" }))

-- a file becomes one of version 2
migrations : (map meant
    (codes "migrate 5 0 1 f"
    ∷ codes "migrate 5 1 2 f"
    ∷ codes "migrate 5 2 3 f"
    ∷ codes "migrate 5 0 6 f"
    ∷ codes "migrate 5 5 6 f"
    ∷ [])
    ≡ mover 0 1 ∷ mover 1 2 ∷ mover 2 3 ∷ mover 0 6 ∷ mover 5 6 ∷ [])
    × (meant (codes "migrate 18446744073709551615 0 2 f") ≡ Some (Migrate (record { config = record { cluster = 18446744073709551615; replica = 0; n = 2 }; file = codes "f" })))
unfolding words_of walk_fault walked defaults_fault number_of digits_on asked faults_in entered_by asked_at node_at member_at client_at asker_at id_at trial_at trier_at migrate_at mover_at n_at peers_at fresh_at version_at flag_at the_command running top migrate trial client node making soak replay peered plain wanting flag addresses wanted above taking
migrations = (refl, refl)

-- there are four words, a group of from 1 to 6 and a number below that
no_migration : map meant
    (codes "migrate 5 0 0 f"
    ∷ codes "migrate 5 0 7 f"
    ∷ codes "migrate 5 0 257 f"
    ∷ codes "migrate 5 1 1 f"
    ∷ codes "migrate 5 6 6 f"
    ∷ codes "migrate 5 256 2 f"
    ∷ codes "migrate 18446744073709551616 0 2 f"
    ∷ codes "migrate 5 0 18446744073709551618 f"
    ∷ codes "migrate 05 0 2 f"
    ∷ codes "migrate 5 00 2 f"
    ∷ codes "migrate 5 0 02 f"
    ∷ codes "migrate 5 0 f 2"
    ∷ codes "migrate 5 0 2"
    ∷ codes "migrate 5 0 2 f g"
    ∷ codes "migrate 5 0 2 f --v2"
    ∷ codes "migrate 5 0 2 f --fresh"
    ∷ codes "migrate 5 0 2 f --careful"
    ∷ codes "migrate"
    ∷ codes "Migrate 5 0 2 f"
    ∷ [])
    ≡ replicate 19 None
unfolding words_of walk_fault walked defaults_fault number_of digits_on asked faults_in entered_by asked_at node_at member_at client_at asker_at id_at trial_at trier_at migrate_at mover_at n_at peers_at fresh_at version_at flag_at the_command running top migrate trial client node making soak replay peered plain wanting flag addresses wanted above taking
no_migration = refl
