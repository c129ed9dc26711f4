use Rattle.std.proofs.Common.{rules}
use Rattle.vab_exchanges.specs.Session.{packet}
use Rattle.vab_session.proofs.tell.reply_packet.Goals as goal

pub returns : goal.returns
unfolding packet
returns c = search rules
