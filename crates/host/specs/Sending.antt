-- What a call for the next block leaves, as a host has it: what a writer answers, and the sender.
use Rattle.answers.specs.Written.{Written as Answer}
use Rattle.sender.specs.declared.state.Sender.{Sender}
use Rattle.host.specs.Written.{written_of}
use Rattle.host.specs.declared.sending.Sent.{Sent}

abbrev pub sent_by : Answer → Sender → Sent
sent_by a s = record { sender = s; length = (written_of a).length; refused = (written_of a).refused }
