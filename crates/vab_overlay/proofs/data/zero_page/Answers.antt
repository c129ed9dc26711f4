use Rattle.std.proofs.Common.{◌≡◌, ℕ, List, Option, replicate, sym, subst}
use Rattle.std.specs.Prelude.{OnOk, IfSome}
use Rattle.std.proofs.lemmas.List.{length-replicate}
use Rattle.std.proofs.lemmas.Result.{on_ok_weaker}
use Rattle.vab_store.specs.Layout.{chunk_bytes}
use Rattle.vab_store.proofs.ChunkLaws.{chunk_here}
use Rattle.vab_overlay.proofs.data.zero_page.Goals as goal

pub returns-in-Some-clause-zeros : goal.returns-in-Some-clause-zeros
returns-in-Some-clause-zeros g c = λ t.
    let store : List ℕ = c.args.store.now in
    let new = g.D.Disk.seen c.write_at.new.d in
    let zeros : List ℕ = replicate 4096 0 in
    subst
    (λ (o : Option ℕ). OnOk c.write_at.result
    (IfSome o (λ page. chunk_bytes store new page ≡ replicate 4096 0)))
    (sym c.in-Some.is)
    (on_ok_weaker c.write_at.result
    (λ is.
    chunk_here store (g.D.Disk.seen c.args.d.now) new c.in-Some.page zeros
    (length-replicate {A = ℕ} 4096 0) is)
    (c.write_at.ensures.written t))
