use Rattle.std.proofs.Common.{◌∙◌}
use Rattle.vab_layout.specs.Slots.{other_slot}
use Rattle.vab_layout.proofs.ApartLaws.{apart_own}
use Rattle.vab_partitions.proofs.target.bad_target.Goals as goal

pub first_bad-requires-clause-twins : goal.first_bad-requires-clause-twins
first_bad-requires-clause-twins c =
    let own =
    apart_own (other_slot c.args.slot) c.args.apart _ c.requires.source_own in
    rw (c.twins.ensures, c.in_ok-source.ensures.value) own
