use Rattle.std.proofs.Common.{◌∙◌, ◌<◌, sym, subst, arith}
use Rattle.vab_disk.specs.Disk.{Image, IsSector}
use Rattle.vab_adopt.specs.declared.fault.AdoptFault.{AdoptFault}
use Rattle.vab_adopt.specs.Adopted.{adopt_refusal, HasHeadsOf}
use Rattle.vab_adopt.specs.Adopting.{Says}
use Rattle.vab_adopt.specs.Named.{IsNamed}
use Rattle.vab_adopt.proofs.FoundLaws.{err_of}
use Rattle.vab_adopt.proofs.HeadLaws.{heads_adopt}
use Rattle.vab_adopt.proofs.NamedLaws.{refusal_named}
use Rattle.vab_adopt.proofs.adopting.adopt_device.Goals as goal

pub returns-in_err-adopted-clause-refused : goal.returns-in_err-adopted-clause-refused
returns-in_err-adopted-clause-refused g c = λ t f is. c.look.ensures.reads

pub returns-in_err-put_heads-clause-refused : goal.returns-in_err-put_heads-clause-refused
returns-in_err-put_heads-clause-refused g c = λ t f is.
    let both = sym (c.in_ok-adopted.ensures.found t).none ∙ is in cc

pub returns-clause-refused : goal.returns-clause-refused
returns-clause-refused g c = λ t f is.
    let both = sym (c.in_ok-adopted.ensures.found t).none ∙ is in cc

pub returns-in_err-adopted-clause-named : goal.returns-in_err-adopted-clause-named
returns-in_err-adopted-clause-named g c = λ t.
    let size = g.D.Disk.size c.args.d.now in
    let slot = c.args.slot in
    let old = g.D.Disk.seen c.args.d.now in
    let sector : 4 < size → IsSector (old 4) =
    λ below. g.met.D.Disk.whole c.args.d.now 4 (old 4) below
    (g.met.D.Disk.seen_held c.args.d.now 4) in
    err_of c.from_residual.result _ (λ (f : AdoptFault). IsNamed slot f)
    c.from_residual.ensures.1
    (λ e is. refusal_named size slot old e c.requires.slot sector
    (subst (λ (f : AdoptFault). Says f (adopt_refusal size slot old)) (sym is)
    (c.in_err-adopted.ensures.refused t)))

pub returns-clause-adopted : goal.returns-clause-adopted
returns-clause-adopted g c = λ t.
    let slot = c.args.slot in
    let size = g.D.Disk.size c.args.d.now in
    let old = g.D.Disk.seen c.args.d.now in
    let new = g.D.Disk.seen c.put_heads.new.d in
    let found = c.in_ok-adopted.ensures.found t in
    let sector : IsSector (old 4) =
    g.met.D.Disk.whole c.args.d.now 4 (old 4) (omega (arith, c.in_ok-adopted.ensures.enough))
    (g.met.D.Disk.seen_held c.args.d.now 4) in
    let has : HasHeadsOf slot old new =
    subst (λ (i : Image). HasHeadsOf slot i new) (c.look.ensures.reads.seen t)
    (c.in_ok-put_heads.ensures.heads t) in
    record {
      mounted = found.mounted;
      is = found.is;
      stands =
          heads_adopt size slot old new found.mounted c.requires.slot sector found.is has
          ∙ found.is;
      counted = found.counted;
      dropped = found.dropped;
    }
