use Rattle.std.proofs.Common.{◌≡◌, ◌+◌, ◌-◌, ℕ, List, [], ◌∷◌, ◌++◌, length, Option, refl}
use Rattle.std.proofs.Common.{sym, ◌∙◌, ap, subst, arith, length-append}
use Rattle.std.proofs.lemmas.List.Elements.{All-push}
use Rattle.vab_disk.specs.Disk.{Image}
use Rattle.vab_disk.proofs.CallLaws.{reads_none, reads_then}
use Rattle.vab_marks.specs.declared.status.PartStatus.{PartStatus}
use Rattle.vab_statuses.specs.Statuses.{entry_of, statuses_from, AreFitting, NamesDiffer, FitsEntry}
use Rattle.vab_statuses.specs.Statuses.{repeats}
use Rattle.vab_statuses.specs.Answers.{TellsBad}
use Rattle.vab_statuses.proofs.ReadLaws.{from_begin, from_end, left_ok, left_bad, differ_more}
use Rattle.vab_statuses.proofs.ReadLaws.{none_differ}
use Rattle.vab_statuses.proofs.reading.read_first.Goals as goal

pub loop-i-init : goal.loop-i-init
loop-i-init g c =
    let image : Image = g.D.Disk.seen c.args.d.now in
    let none : c.new-statuses.result.items ≡ [] = c.new-statuses.ensures in
    let all_left : c.args.count ≡ c.args.count - 0 = omega arith in
    record {
      so_far = λ t.
          from_begin c.args.count image
          ∙ ap (λ (l : List (Option PartStatus)). statuses_from c.args.count image l) (sym none)
          ∙ ap (λ (k : ℕ). statuses_from k image c.new-statuses.result.items) all_left;
      all = ap length none;
      fits = subst AreFitting (sym none) (λ k d below. absurd (omega arith));
      differ = subst NamesDiffer (sym none) none_differ;
      reads = reads_none g.D.Disk _;
      steady = refl;
    }

pub returns-in-Err-clause-bad : goal.returns-in-Err-clause-bad
returns-in-Err-clause-bad g c = λ t.
    let image : Image = g.D.Disk.seen c.args.d.now in
    let done : List (Option PartStatus) = c.loop-i.statuses.items in
    let at : ℕ = 2049 + c.loop-i.i in
    let told = c.in-Err.ensures.bad t in
    let of_done = subst (λ (l : List (Option PartStatus)).
    TellsBad (entry_of at l (g.D.Disk.seen c.loop-i.d at)) c.in-Err.fault)
    c.as_slice.ensures.value told in
    let of_image = subst (λ (m : Image). TellsBad (entry_of at done (m at)) c.in-Err.fault)
    (c.loop-i.invariant.reads.seen t) of_done in
    left_bad c.args.count c.loop-i.i image done c.in-Err.fault c.loop-i-test.true
    c.loop-i.invariant.all
    (c.loop-i.invariant.so_far t) of_image

pub loop-i-preserved : goal.loop-i-preserved
loop-i-preserved g c =
    let image : Image = g.D.Disk.seen c.args.d.now in
    let done : List (Option PartStatus) = c.loop-i.statuses.items in
    let at : ℕ = 2049 + c.loop-i.i in
    let status : Option PartStatus = c.in-Ok.status in
    let inv = c.loop-i.invariant in
    let ok = c.in-Ok.ensures in
    let more : c.push.new.self.items ≡ done ++ status ∷ [] = c.push.ensures.items in
    record {
      so_far = λ t.
          left_ok c.args.count c.loop-i.i image done status c.loop-i-test.true inv.all
          (inv.so_far t)
          (ap (λ (m : Image). entry_of at done (m at)) (sym (inv.reads.seen t))
          ∙ ap (λ (l : List (Option PartStatus)). entry_of at l (g.D.Disk.seen c.loop-i.d at))
          (sym c.as_slice.ensures.value)
          ∙ ok.ok t)
          ∙ ap
          (λ (l : List (Option PartStatus)).
          statuses_from (c.args.count - (c.loop-i.i + 1)) image l)
          (sym more);
      all = omega (arith, ap length more, length-append done (status ∷ []), inv.all);
      fits = subst AreFitting (sym more) (All-push FitsEntry done status inv.fits ok.fits);
      differ = subst NamesDiffer (sym more)
          (differ_more status done
          (ap (λ (l : List (Option PartStatus)). repeats status l) (sym c.as_slice.ensures.value)
          ∙ ok.other)
          inv.differ);
      reads = reads_then g.D.Disk _ _ _ inv.reads ok.reads;
      steady = ok.counts ∙ inv.steady;
    }

pub returns-clause-ok : goal.returns-clause-ok
returns-clause-ok g c = λ t.
    let image : Image = g.D.Disk.seen c.args.d.now in
    let none : c.args.count - c.loop-i.i ≡ 0 = omega arith in
    c.loop-i.invariant.so_far t
    ∙ ap (λ (k : ℕ). statuses_from k image c.loop-i.statuses.items) none
    ∙ from_end image c.loop-i.statuses.items
