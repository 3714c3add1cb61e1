use Rattle.std.proofs.Common.{arith}
use Rattle.vr_ckpt.proofs.Placing.{keys_room, sessions_room}
use Rattle.vr_ckpt.proofs.Roots.{numbers_of}
use Rattle.vr_ckpt.proofs.root.root_in.Goals as goal

pub sessions_size-requires : goal.sessions_size-requires
sessions_size-requires c = (numbers_of c.args.op c.args.bytes.now c.requires).long

pub keys_size-requires : goal.keys_size-requires
keys_size-requires c = (numbers_of c.args.op c.args.bytes.now c.requires).long

pub both-requires : goal.both-requires
both-requires c = (numbers_of c.args.op c.args.bytes.now c.requires).long

pub names_at-requires-clause-room : goal.names_at-requires-clause-room
names_at-requires-clause-room c = rw (c.of_sessions.ensures, c.payloads-sessions.ensures, c.sessions_size.ensures) (sessions_room _ (numbers_of c.args.op c.args.bytes.now c.requires).sessions)

pub names_at-requires-clause-within : goal.names_at-requires-clause-within
names_at-requires-clause-within c =
    let n = numbers_of c.args.op c.args.bytes.now c.requires in
    let s = n.size in
    rw (c.payloads-sessions.ensures, c.sessions_size.ensures) (omega arith)

pub names_at-requires-2-clause-room : goal.names_at-requires-2-clause-room
names_at-requires-2-clause-room c = rw (c.of_keys.ensures, c.payloads-keys.ensures, c.keys_size.ensures) (keys_room _ (numbers_of c.args.op c.args.bytes.now c.requires).keys)

pub names_at-requires-2-clause-within : goal.names_at-requires-2-clause-within
names_at-requires-2-clause-within c =
    let n = numbers_of c.args.op c.args.bytes.now c.requires in
    let s = n.size in
    rw (c.payloads-sessions.ensures, c.sessions_size.ensures, c.payloads-keys.ensures, c.keys_size.ensures) (omega arith)
