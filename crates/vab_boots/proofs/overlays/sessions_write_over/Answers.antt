use Rattle.vab_boots.proofs.Sessions.{overlays_begin, sessions_write, sessions_write_whole}
use Rattle.vab_boots.proofs.Sessions.{written_is_read}
use Rattle.vab_boots.proofs.overlays.sessions_write_over.Goals as goal

pub returns-clause-begin : goal.returns-clause-begin
returns-clause-begin c = overlays_begin

pub returns-clause-write : goal.returns-clause-write
returns-clause-write c = sessions_write

pub returns-clause-whole : goal.returns-clause-whole
returns-clause-whole c = sessions_write_whole

pub returns-clause-read : goal.returns-clause-read
returns-clause-read c = written_is_read
