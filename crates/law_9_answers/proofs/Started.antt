-- What the words of a trial ask for, computed.
use Rattle.std.proofs.Common.{refl, true, false, [], ◌∷◌}
use Rattle.std.specs.Fmt.{digits}
use Rattle.std.specs.Prelude.{codes}
use Rattle.clap.specs.Faults.{defaults_fault, walk_fault}
use Rattle.clap.specs.Walk.{walked}
use Rattle.vr_lines.specs.Numbers.{digits_on, number_of}
use Rattle.vr_args.specs.Forms.{above, addresses, client, flag, making, migrate, node, peered, plain, replay, running, soak, taking, the_command, top, trial, wanted, wanting}
use Rattle.vr_args.specs.Asked.{asked, asked_at, asker_at, client_at, entered_by, faults_in, flag_at, fresh_at, id_at, member_at, migrate_at, mover_at, n_at, node_at, peers_at, trial_at, trier_at, version_at}
use Rattle.cmd_trial.specs.Told as start
use Rattle.law_9_answers.specs.Started.{StartsMember, TrialsStartMembers, made_as, trial_of_size}

made_3_0 : StartsMember (trial_of_size 3) 0 true
unfolding walk_fault walked defaults_fault start.member_words digits number_of digits_on asked faults_in entered_by asked_at node_at member_at client_at asker_at id_at trial_at trier_at migrate_at mover_at n_at peers_at fresh_at version_at flag_at the_command running top migrate trial client node making soak replay peered plain wanting flag addresses wanted above taking
made_3_0 = record { node = record { cluster = 5; replica = 0; file = codes "/tmp/f0"; turns = 1000000; peers = codes "127.0.0.1:4000" ∷ codes "127.0.0.1:4001" ∷ codes "127.0.0.1:4002" ∷ []; fresh = made_as true }; asked = refl; config = refl; fresh = refl }

made_3_1 : StartsMember (trial_of_size 3) 1 true
unfolding walk_fault walked defaults_fault start.member_words digits number_of digits_on asked faults_in entered_by asked_at node_at member_at client_at asker_at id_at trial_at trier_at migrate_at mover_at n_at peers_at fresh_at version_at flag_at the_command running top migrate trial client node making soak replay peered plain wanting flag addresses wanted above taking
made_3_1 = record { node = record { cluster = 5; replica = 1; file = codes "/tmp/f1"; turns = 1000000; peers = codes "127.0.0.1:4000" ∷ codes "127.0.0.1:4001" ∷ codes "127.0.0.1:4002" ∷ []; fresh = made_as true }; asked = refl; config = refl; fresh = refl }

made_3_2 : StartsMember (trial_of_size 3) 2 true
unfolding walk_fault walked defaults_fault start.member_words digits number_of digits_on asked faults_in entered_by asked_at node_at member_at client_at asker_at id_at trial_at trier_at migrate_at mover_at n_at peers_at fresh_at version_at flag_at the_command running top migrate trial client node making soak replay peered plain wanting flag addresses wanted above taking
made_3_2 = record { node = record { cluster = 5; replica = 2; file = codes "/tmp/f2"; turns = 1000000; peers = codes "127.0.0.1:4000" ∷ codes "127.0.0.1:4001" ∷ codes "127.0.0.1:4002" ∷ []; fresh = made_as true }; asked = refl; config = refl; fresh = refl }

made_2_0 : StartsMember (trial_of_size 2) 0 true
unfolding walk_fault walked defaults_fault start.member_words digits number_of digits_on asked faults_in entered_by asked_at node_at member_at client_at asker_at id_at trial_at trier_at migrate_at mover_at n_at peers_at fresh_at version_at flag_at the_command running top migrate trial client node making soak replay peered plain wanting flag addresses wanted above taking
made_2_0 = record { node = record { cluster = 5; replica = 0; file = codes "/tmp/f0"; turns = 1000000; peers = codes "127.0.0.1:4000" ∷ codes "127.0.0.1:4001" ∷ []; fresh = made_as true }; asked = refl; config = refl; fresh = refl }

made_2_1 : StartsMember (trial_of_size 2) 1 true
unfolding walk_fault walked defaults_fault start.member_words digits number_of digits_on asked faults_in entered_by asked_at node_at member_at client_at asker_at id_at trial_at trier_at migrate_at mover_at n_at peers_at fresh_at version_at flag_at the_command running top migrate trial client node making soak replay peered plain wanting flag addresses wanted above taking
made_2_1 = record { node = record { cluster = 5; replica = 1; file = codes "/tmp/f1"; turns = 1000000; peers = codes "127.0.0.1:4000" ∷ codes "127.0.0.1:4001" ∷ []; fresh = made_as true }; asked = refl; config = refl; fresh = refl }

made_6_0 : StartsMember (trial_of_size 6) 0 true
unfolding walk_fault walked defaults_fault start.member_words digits number_of digits_on asked faults_in entered_by asked_at node_at member_at client_at asker_at id_at trial_at trier_at migrate_at mover_at n_at peers_at fresh_at version_at flag_at the_command running top migrate trial client node making soak replay peered plain wanting flag addresses wanted above taking
made_6_0 = record { node = record { cluster = 5; replica = 0; file = codes "/tmp/f0"; turns = 1000000; peers = codes "127.0.0.1:4000" ∷ codes "127.0.0.1:4001" ∷ codes "127.0.0.1:4002" ∷ codes "127.0.0.1:4003" ∷ codes "127.0.0.1:4004" ∷ codes "127.0.0.1:4005" ∷ []; fresh = made_as true }; asked = refl; config = refl; fresh = refl }

made_6_5 : StartsMember (trial_of_size 6) 5 true
unfolding walk_fault walked defaults_fault start.member_words digits number_of digits_on asked faults_in entered_by asked_at node_at member_at client_at asker_at id_at trial_at trier_at migrate_at mover_at n_at peers_at fresh_at version_at flag_at the_command running top migrate trial client node making soak replay peered plain wanting flag addresses wanted above taking
made_6_5 = record { node = record { cluster = 5; replica = 5; file = codes "/tmp/f5"; turns = 1000000; peers = codes "127.0.0.1:4000" ∷ codes "127.0.0.1:4001" ∷ codes "127.0.0.1:4002" ∷ codes "127.0.0.1:4003" ∷ codes "127.0.0.1:4004" ∷ codes "127.0.0.1:4005" ∷ []; fresh = made_as true }; asked = refl; config = refl; fresh = refl }

found_3_0 : StartsMember (trial_of_size 3) 0 false
unfolding walk_fault walked defaults_fault start.member_words digits number_of digits_on asked faults_in entered_by asked_at node_at member_at client_at asker_at id_at trial_at trier_at migrate_at mover_at n_at peers_at fresh_at version_at flag_at the_command running top migrate trial client node making soak replay peered plain wanting flag addresses wanted above taking
found_3_0 = record { node = record { cluster = 5; replica = 0; file = codes "/tmp/f0"; turns = 1000000; peers = codes "127.0.0.1:4000" ∷ codes "127.0.0.1:4001" ∷ codes "127.0.0.1:4002" ∷ []; fresh = made_as false }; asked = refl; config = refl; fresh = refl }

found_3_1 : StartsMember (trial_of_size 3) 1 false
unfolding walk_fault walked defaults_fault start.member_words digits number_of digits_on asked faults_in entered_by asked_at node_at member_at client_at asker_at id_at trial_at trier_at migrate_at mover_at n_at peers_at fresh_at version_at flag_at the_command running top migrate trial client node making soak replay peered plain wanting flag addresses wanted above taking
found_3_1 = record { node = record { cluster = 5; replica = 1; file = codes "/tmp/f1"; turns = 1000000; peers = codes "127.0.0.1:4000" ∷ codes "127.0.0.1:4001" ∷ codes "127.0.0.1:4002" ∷ []; fresh = made_as false }; asked = refl; config = refl; fresh = refl }

found_3_2 : StartsMember (trial_of_size 3) 2 false
unfolding walk_fault walked defaults_fault start.member_words digits number_of digits_on asked faults_in entered_by asked_at node_at member_at client_at asker_at id_at trial_at trier_at migrate_at mover_at n_at peers_at fresh_at version_at flag_at the_command running top migrate trial client node making soak replay peered plain wanting flag addresses wanted above taking
found_3_2 = record { node = record { cluster = 5; replica = 2; file = codes "/tmp/f2"; turns = 1000000; peers = codes "127.0.0.1:4000" ∷ codes "127.0.0.1:4001" ∷ codes "127.0.0.1:4002" ∷ []; fresh = made_as false }; asked = refl; config = refl; fresh = refl }

found_2_0 : StartsMember (trial_of_size 2) 0 false
unfolding walk_fault walked defaults_fault start.member_words digits number_of digits_on asked faults_in entered_by asked_at node_at member_at client_at asker_at id_at trial_at trier_at migrate_at mover_at n_at peers_at fresh_at version_at flag_at the_command running top migrate trial client node making soak replay peered plain wanting flag addresses wanted above taking
found_2_0 = record { node = record { cluster = 5; replica = 0; file = codes "/tmp/f0"; turns = 1000000; peers = codes "127.0.0.1:4000" ∷ codes "127.0.0.1:4001" ∷ []; fresh = made_as false }; asked = refl; config = refl; fresh = refl }

found_2_1 : StartsMember (trial_of_size 2) 1 false
unfolding walk_fault walked defaults_fault start.member_words digits number_of digits_on asked faults_in entered_by asked_at node_at member_at client_at asker_at id_at trial_at trier_at migrate_at mover_at n_at peers_at fresh_at version_at flag_at the_command running top migrate trial client node making soak replay peered plain wanting flag addresses wanted above taking
found_2_1 = record { node = record { cluster = 5; replica = 1; file = codes "/tmp/f1"; turns = 1000000; peers = codes "127.0.0.1:4000" ∷ codes "127.0.0.1:4001" ∷ []; fresh = made_as false }; asked = refl; config = refl; fresh = refl }

found_6_0 : StartsMember (trial_of_size 6) 0 false
unfolding walk_fault walked defaults_fault start.member_words digits number_of digits_on asked faults_in entered_by asked_at node_at member_at client_at asker_at id_at trial_at trier_at migrate_at mover_at n_at peers_at fresh_at version_at flag_at the_command running top migrate trial client node making soak replay peered plain wanting flag addresses wanted above taking
found_6_0 = record { node = record { cluster = 5; replica = 0; file = codes "/tmp/f0"; turns = 1000000; peers = codes "127.0.0.1:4000" ∷ codes "127.0.0.1:4001" ∷ codes "127.0.0.1:4002" ∷ codes "127.0.0.1:4003" ∷ codes "127.0.0.1:4004" ∷ codes "127.0.0.1:4005" ∷ []; fresh = made_as false }; asked = refl; config = refl; fresh = refl }

found_6_5 : StartsMember (trial_of_size 6) 5 false
unfolding walk_fault walked defaults_fault start.member_words digits number_of digits_on asked faults_in entered_by asked_at node_at member_at client_at asker_at id_at trial_at trier_at migrate_at mover_at n_at peers_at fresh_at version_at flag_at the_command running top migrate trial client node making soak replay peered plain wanting flag addresses wanted above taking
found_6_5 = record { node = record { cluster = 5; replica = 5; file = codes "/tmp/f5"; turns = 1000000; peers = codes "127.0.0.1:4000" ∷ codes "127.0.0.1:4001" ∷ codes "127.0.0.1:4002" ∷ codes "127.0.0.1:4003" ∷ codes "127.0.0.1:4004" ∷ codes "127.0.0.1:4005" ∷ []; fresh = made_as false }; asked = refl; config = refl; fresh = refl }

pub trials_start : TrialsStartMembers
trials_start = (
  (made_3_0, made_3_1, made_3_2, made_2_0, made_2_1, made_6_0, made_6_5),
  (found_3_0, found_3_1, found_3_2, found_2_0, found_2_1, found_6_0, found_6_5),
)
