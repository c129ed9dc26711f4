use Rattle.vab_targets.proofs.FreeStatus.{flash_finds_free}
use Rattle.vab_targets.proofs.statuses.finds_free_status.Goals as goal

pub returns : goal.returns
returns c = record { free = flash_finds_free }
