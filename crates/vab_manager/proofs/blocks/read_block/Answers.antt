use Rattle.std.proofs.Common.{◌<◌, ℕ, List, length, Result, Ok, Err, subst, sym}
use Rattle.std.specs.Prelude.{OnOk}
use Rattle.vab_device.specs.declared.device.Part.{Part}
use Rattle.vab_device.specs.declared.device.Device.{Device}
use Rattle.vab_manager.specs.Blocks.{KeepsPart, HasBlock}
use Rattle.vab_manager.proofs.BlockLaws.{kept_once, part_kept, block_is}
use Rattle.vab_manager.proofs.blocks.read_block.Goals as goal

on_ok_map : {A E : Type 0} (r : Result A E) (P Q : Type 0) → (P → Q) → OnOk r P → OnOk r Q
on_ok_map (Ok x) P Q f is = f is
on_ok_map (Err e) P Q f is = tt

-- the block is one of the partition that is kept
below : (d : Device) (slot : ℕ) (name : List ℕ) (block : ℕ) (p : Part)
    → KeepsPart d slot name p
    → HasBlock d slot name block
    → block < length p.map
below d slot name block p kept has = subst (λ (q : Part). block < length q.map)
    (kept_once d slot name has.0 p has.1 kept) has.2

pub read_part-requires-clause-kept : goal.read_part-requires-clause-kept
read_part-requires-clause-kept g c =
    part_kept c.args.device.now (g.D.Disk.size c.args.d.now) c.args.slot c.args.name.now
    c.in-Some.part.now c.requires.kept (sym c.in-Some.ensures)

pub read_part-requires-clause-block : goal.read_part-requires-clause-block
read_part-requires-clause-block g c =
    below c.args.device.now c.args.slot c.args.name.now c.args.block c.in-Some.part.now
    (sym c.in-Some.ensures) c.requires.block

pub returns-clause-bytes : goal.returns-clause-bytes
returns-clause-bytes g c = λ t.
    let d = c.args.d.now in
    let p = c.in-Some.part.now in
    let kept = sym c.in-Some.ensures in
    on_ok_map c.read_part.result _ _
    (block_is c.args.device.now (g.D.Disk.size d) (g.D.Disk.seen d) c.args.slot c.args.name.now p
    c.args.block c.read_part.new.out c.requires.kept
    (λ s lt. (g.met.D.Disk.whole d s (g.D.Disk.seen d s) lt (g.met.D.Disk.seen_held d s)).long)
    c.requires.slot kept
    (below c.args.device.now c.args.slot c.args.name.now c.args.block p kept c.requires.block))
    (c.read_part.ensures.bytes t)
