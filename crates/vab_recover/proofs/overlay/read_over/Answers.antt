use Rattle.std.proofs.Common.{◌≡◌, ℕ, List, [], ◌∷◌, Ok, Err, ap}
use Rattle.vab_blocks.specs.Blocks.{first_sector_of}
use Rattle.vab_layout.specs.Layout.{blocks_of_partition}
use Rattle.vab_device.specs.declared.device.Part.{Part}
use Rattle.vab_device.specs.Kept.{sectors_of}
use Rattle.vab_space.specs.declared.Chunk.TheVariants.{One}
use Rattle.vab_recover.proofs.OverlaidLaws.{over_read, over_is, over_scanned, over_own, over_long}
use Rattle.vab_recover.proofs.OverlaidLaws.{over_small, over_on_disk}
use Rattle.vab_recover.proofs.overlay.read_over.Goals as goal

pub part-requires-clause-small : goal.part-requires-clause-small
part-requires-clause-small g c =
    let o = c.args.overlay in
    (over_own c.args.slot c.args.table.now o.partition.now o.store.now c.requires.is
    c.requires.keeps c.requires.judged c.requires.own).size

pub part-requires-clause-long : goal.part-requires-clause-long
part-requires-clause-long g c =
    let o = c.args.overlay in
    over_long c.args.slot c.args.table.now o.partition.now o.store.now c.requires.is
    c.requires.keeps c.requires.judged

pub part-requires-clause-base : goal.part-requires-clause-base
part-requires-clause-base g c =
    let o = c.args.overlay in
    (over_own c.args.slot c.args.table.now o.partition.now o.store.now c.requires.is
    c.requires.keeps c.requires.judged c.requires.own).base

pub map-requires-clause-small : goal.map-requires-clause-small
map-requires-clause-small g c =
    let o = c.args.overlay in
    over_small c.args.slot c.args.table.now o.partition.now o.store.now c.requires.is
    c.requires.keeps c.requires.judged

pub scan_over-requires : goal.scan_over-requires
scan_over-requires g c =
    let o = c.args.overlay in
    over_on_disk c.args.slot c.args.table.now o.partition.now o.store.now c.requires.is
    c.requires.keeps c.requires.judged (g.D.Disk.size c.args.d.now) c.in_ok-store.store
    c.requires.on_disk c.in_ok-store.ensures.blocks

pub returns-in-Err-clause-fault : goal.returns-in-Err-clause-fault
returns-in-Err-clause-fault g c = λ t kind.
    let o = c.args.overlay in
    let base : List ℕ = c.in_ok-part.part.map in
    over_read c.args.slot c.args.table.now o.partition.now o.store.now c.requires.is base
    c.in_ok-store.store (g.D.Disk.seen c.args.d.now) (Err c.in-Err.fault)
    (ap (λ (p : Part). p.map) c.in_ok-part.ensures.part) c.in_ok-store.ensures.blocks
    (c.in-Err.ensures.fault t base c.len.ensures.count kind)

pub returns-in-Ok-clause-part : goal.returns-in-Ok-clause-part
returns-in-Ok-clause-part g c =
    let o = c.args.overlay in
    let part : Part = c.in_ok-part.part in
    let name = o.partition.now.name in
    let of_base : part.map
    ≡ sectors_of (first_sector_of c.args.table.now)
    (blocks_of_partition c.args.table.now o.partition.now) =
    ap (λ (p : Part). p.map) c.in_ok-part.ensures.part in
    record {
      scanned = record { name = name; chunk = One; exceptions = c.in-Ok.view } ∷ [];
      is =
          over_is c.args.slot c.args.table.now o.partition.now o.store.now c.requires.is part
          c.in_ok-store.store c.in-Ok.view c.in_ok-part.ensures.part
          c.in_ok-store.ensures.blocks;
      are =
          over_scanned c.args.slot c.args.table.now o.partition.now o.store.now c.requires.is
          c.len.result part.map c.in_ok-store.store c.in-Ok.view c.len.ensures.count of_base
          c.in_ok-store.ensures.blocks c.in-Ok.ensures.fits;
      read = λ t.
          over_read c.args.slot c.args.table.now o.partition.now o.store.now c.requires.is
          part.map c.in_ok-store.store (g.D.Disk.seen c.args.d.now)
          (Ok (record { name = name; chunk = One; exceptions = c.in-Ok.view })) of_base
          c.in_ok-store.ensures.blocks (c.in-Ok.ensures.ok t part.map c.len.ensures.count);
    }
