-- `transfer_channel::write_back`.
use Rattle.channels.proofs.CountsOthers.{write-back-fields}
use Rattle.receiver.proofs.transfer_channel.write_back.Goals as goal

pub returns : goal.returns
returns c = let x = c.args in write-back-fields x.t.now x.c x.x c.put_bytes.new.heads c.put_bytes.ensures
