use Rattle.std.proofs.Common.{◌≡◌, [], Ok, true, sym, subst}
use Rattle.vab_disk.specs.Disk.{Image}
use Rattle.vab_space.specs.declared.Chunk.TheVariants.{One}
use Rattle.vab_store.specs.Clean.{ends_clean}
use Rattle.vab_store.specs.Scan.{scan_of}
use Rattle.vab_overlaying.proofs.BlankLaws.{always, blank_list, blank_clean}
use Rattle.vab_overlaying.proofs.beginning.put_head.Goals as goal

pub returns-clause-scanned : goal.returns-clause-scanned
returns-clause-scanned g c = λ t.
    let store = c.args.store.now in
    always c.settle.result _
    (λ bound.
    subst (λ (i : Image). scan_of One store bound i ≡ Ok [])
    (sym (c.settle.ensures.syncs.seen t))
    (blank_list store (g.D.Disk.seen c.write_store.new.d) (c.in_ok-write_store.ensures.scanned t)
    bound))

pub returns-clause-clean : goal.returns-clause-clean
returns-clause-clean g c = λ t.
    let store = c.args.store.now in
    always c.settle.result _
    (subst (λ (i : Image). ends_clean store 0 i ≡ true)
    (sym (c.settle.ensures.syncs.seen t))
    (blank_clean store (g.D.Disk.seen c.write_store.new.d) (c.in_ok-write_store.ensures.holds t)))
