use Rattle.std.proofs.Common.{◌∙◌, ◌<◌, ℕ, sym, ap, subst, arith}
use Rattle.vab_disk.specs.Disk.{Image}
use Rattle.vab_disk.proofs.CallLaws.{reads_then}
use Rattle.vab_device.specs.Kept.{IsDevice}
use Rattle.vab_device.specs.Mounted.{mounted_on}
use Rattle.vab_recover.specs.Opened.{IsOpened, with_tables}
use Rattle.vab_adopt.specs.declared.fault.AdoptFault.{AdoptFault}
use Rattle.vab_adopt.specs.Adopted.{adopted, adopt_refusal, with_heads}
use Rattle.vab_adopt.specs.Adopting.{Says}
use Rattle.vab_adopt.specs.Dropped.{dropped as dropped_of}
use Rattle.vab_adopt.proofs.CountLaws.{counted, present_at}
use Rattle.vab_adopt.proofs.FoundLaws.{adopted_means, err_of, heads_whole}
use Rattle.vab_adopt.proofs.RefusalLaws.{none_refused, adopted_unrefused}
use Rattle.vab_adopt.proofs.adopting.look.Goals as goal

pub returns-in_err-device-clause-refused : goal.returns-in_err-device-clause-refused
returns-in_err-device-clause-refused g c = λ t.
    let size = g.D.Disk.size c.args.d.now in
    let old = g.D.Disk.seen c.args.d.now in
    let n = c.update_there.ensures.reads.quiet.size ∙ c.check_none.ensures.reads.quiet.size in
    let s = c.update_there.ensures.reads.seen t ∙ c.check_none.ensures.reads.seen t in
    let none = c.in_ok-check_none.ensures.none t in
    err_of c.from_residual-in_err-device.result _
    (λ (x : AdoptFault). Says x (adopt_refusal size c.args.slot old))
    c.from_residual-in_err-device.ensures.1
    (λ e is.
    subst (λ (x : AdoptFault). Says x (adopt_refusal size c.args.slot old)) (sym is)
    (λ kind.
    none_refused size c.args.slot old none.0 _ none.1
    ((λ i. adopted (sym n i) c.args.slot (sym s i)) ∙ c.in_err-device.ensures.fault t kind)))

pub count-requires-clause-present : goal.count-requires-clause-present
count-requires-clause-present g c = (
  c.in_ok-device.device.tail.super_end,
  present_at c.in_ok-device.device c.in_ok-device.field-0-1 (g.D.Disk.size c.update_there.new.d)
      c.args.slot c.in_ok-device.ensures.kept,
)

pub returns-clause-found : goal.returns-clause-found
returns-clause-found g c = λ t.
    let size : ℕ = g.D.Disk.size c.args.d.now in
    let old = g.D.Disk.seen c.args.d.now in
    let slot : ℕ = c.args.slot in
    let n = c.update_there.ensures.reads.quiet.size ∙ c.check_none.ensures.reads.quiet.size in
    let s = c.update_there.ensures.reads.seen t ∙ c.check_none.ensures.reads.seen t in
    let d = c.in_ok-device.device in
    let tables = c.in_ok-device.field-0-1 in
    let none = c.in_ok-check_none.ensures.none t in
    let opened : IsOpened d tables size (with_heads slot old) =
    subst (λ (k : ℕ). IsOpened d tables k (with_heads slot old)) n
    (subst
    (λ (i : Image). IsOpened d tables (g.D.Disk.size c.update_there.new.d) (with_heads slot i)) s
    (c.in_ok-device.ensures.opened t)) in
    let kept : IsDevice (with_tables tables d) size =
    subst (λ (k : ℕ). IsDevice (with_tables tables d) k) n c.in_ok-device.ensures.kept in
    let four : 4 < size = omega (arith, kept.enough) in
    let means = adopted_means size slot old d tables opened in
    record {
      mounted = mounted_on (with_tables tables d) (with_heads slot old);
      is = means;
      none = adopted_unrefused size slot old none.0 _ none.1 means;
      counted =
          counted (with_heads slot old) d.tail.super_end
          (λ s inside.
          heads_whole size slot old four
          (λ k below. g.met.D.Disk.whole c.args.d.now k (old k) below
          (g.met.D.Disk.seen_held c.args.d.now k))
          s (omega (arith, inside, kept.ends)))
          d tables slot c.count.result (present_at d tables size slot kept)
          c.count.ensures.counts;
      dropped =
          c.count.ensures.dropped
          ∙ c.in_ok-dropped.ensures.is t
          (omega (arith, kept.enough, c.check_none.ensures.reads.quiet.size))
          ∙ ap dropped_of (c.check_none.ensures.reads.seen t);
    }

pub returns-clause-reads : goal.returns-clause-reads
returns-clause-reads g c =
    reads_then g.D.Disk c.args.d.now c.update_there.new.d c.read_adopted.new.d
    (reads_then g.D.Disk c.args.d.now c.check_none.new.d c.update_there.new.d
    c.check_none.ensures.reads c.update_there.ensures.reads)
    c.read_adopted.ensures.reads
