use Rattle.std.proofs.lemmas.Bool.{false≢true}
use Rattle.std.proofs.Common.{sym, ◌∙◌, ap, subst}
use Rattle.vab_disk.specs.Disk.{Image}
use Rattle.vab_buffer.specs.declared.run.Run.{Run}
use Rattle.vab_buffer.specs.Run.{Has}
use Rattle.vab_buffer.proofs.HeldLaws.{over_apart}
use Rattle.vab_buffer.proofs.buffered.BufferedDisk.read_sector.Goals as goal

pub returns-clause-bytes : goal.returns-clause-bytes
returns-clause-bytes g c = λ t.
    let d = c.args.self.now in
    let image = g.S.RunStore.seen c.fetch.new.self.store in
    let apart : Has c.fetch.new.self.held c.args.at → ⊥ = λ has.
    let was : Has d.held c.args.at =
    subst (λ (run : Run). Has run c.args.at) c.fetch.ensures.held has in
    false≢true (sym c.if-has.false ∙ c.has.ensures.1 was) in
    c.fetch.new.self.fetched t c.args.at c.get-2.new.out c.get-2.ensures
    ∙ sym (over_apart c.fetch.new.self.held image c.args.at apart)
    ∙ ap (λ (i : Image). i c.args.at) (c.fetch.ensures.reads.seen t)
