use Rattle.std.proofs.Common.{◌≡◌, List, ℕ, get_or, sym, subst}
use Rattle.std.specs.Prelude.{OnOk}
use Rattle.vab_gate.specs.Gate.{sectors_at}
use Rattle.vab_device.proofs.InPlaceLaws.{read_in_place}
use Rattle.vab_manager.proofs.SeenLaws.{seen_block}
use Rattle.vab_manager.proofs.reading.read_part.Goals as goal

pub returns-in-Some-clause-bytes : goal.returns-in-Some-clause-bytes
returns-in-Some-clause-bytes g c = λ t.
    subst (λ (bytes : List ℕ). OnOk c.read_block.result (c.read_block.new.out ≡ bytes))
    (seen_block (g.D.Disk.size c.args.d.now) c.args.part.now c.in-Some.store
    c.in-Written.chunk c.in-Written.view
    (record {
      store_is = c.in-Some.is;
      image_is = c.in-Written.is;
      kept = c.requires.kept;
    })
    (g.D.Disk.seen c.args.d.now) c.args.block c.requires.block)
    (c.read_block.ensures.bytes t)

-- where it has no store, its own block
pub returns-in-None-clause-bytes : goal.returns-in-None-clause-bytes
returns-in-None-clause-bytes g c = λ t.
    subst (λ (l : List ℕ). OnOk c.read_at-in-None.result
    (c.read_at-in-None.new.out
    ≡ sectors_at 8 (g.D.Disk.seen c.args.d.now) (get_or l c.args.block 0)))
    (sym (read_in_place (g.D.Disk.size c.args.d.now) c.args.part.now c.in-Written.chunk
    c.in-Written.view c.requires.kept c.in-None.is c.in-Written.is))
    (c.read_at-in-None.ensures.bytes t)
