use Rattle.std.proofs.Common.{ℕ, List, sym, ap, subst}
use Rattle.vab_exceptions.specs.declared.area.Exception.{Exception}
use Rattle.vab_device.specs.Mounted.{blocks_there}
use Rattle.vab_overlaying.specs.Over.{PutsOver}
use Rattle.vab_device.specs.Mounted.{exceptions_in}
use Rattle.vab_overlaying.proofs.writing.put_over.Goals as goal

pub returns-clause-puts : goal.returns-clause-puts
returns-clause-puts g c =
    let e = c.overlay_write.ensures in
    subst
    (λ (store : List ℕ). PutsOver g.D.Disk store (exceptions_in c.args.part.now.image)
    c.overlay_write.new.view c.args.block c.args.from.now c.args.d.now c.overlay_write.new.d
    c.overlay_write.result)
    (sym (ap blocks_there c.in-Some.is))
    (subst
    (λ (es : List Exception). PutsOver g.D.Disk c.in-Some.store es
    c.overlay_write.new.view c.args.block c.args.from.now c.args.d.now c.overlay_write.new.d
    c.overlay_write.result)
    (sym (ap exceptions_in c.in-Written.is))
    (record {
      full = e.full;
      entered = e.entered;
      failed = e.failed;
      fits = e.fits;
      written = e.written;
      rest = e.rest;
      time = e.time;
      touches = e.touches;
      unwritten = e.unwritten;
      counts = e.counts;
    }))
