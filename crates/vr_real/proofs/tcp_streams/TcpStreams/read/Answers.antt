use Rattle.vr_real.proofs.tcp_streams.TcpStreams.read.Goals as goal

pub returns-in-Bytes-clause-bound : goal.returns-in-Bytes-clause-bound
returns-in-Bytes-clause-bound g c = let polled = c.in_ok-polled.ensures.bound _ c.args.self.now.few in rw c.in-Bytes.is at polled

pub returns-in-Ended-clause-bound : goal.returns-in-Ended-clause-bound
returns-in-Ended-clause-bound g c = let polled = c.in_ok-polled.ensures.bound _ c.args.self.now.few in rw c.in-Ended.is at polled
