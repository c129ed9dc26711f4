use Rattle.vab_boots.proofs.Wiping.{wiped_is_empty, wipe_is_whole, refused_keeps}
use Rattle.vab_boots.proofs.wipes.wiped_slot_is_empty.Goals as goal

pub returns-clause-done : goal.returns-clause-done
returns-clause-done c = wiped_is_empty

pub returns-clause-whole : goal.returns-clause-whole
returns-clause-whole c = wipe_is_whole

pub returns-clause-refused : goal.returns-clause-refused
returns-clause-refused c = refused_keeps
