use Rattle.vr_io_policy.proofs.page_buffer.PageBuffer.new.Goals as goal

pub returns : goal.returns
returns c = c.in_ok-zeros.ensures
