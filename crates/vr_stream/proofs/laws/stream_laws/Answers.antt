use Rattle.vr_stream.proofs.Connected.{connections_are_cut}
use Rattle.vr_stream.proofs.Found.{messages_are_cut}
use Rattle.vr_stream.proofs.laws.stream_laws.Goals as goal

pub returns : goal.returns
returns c = record { connections = connections_are_cut; messages = messages_are_cut }
