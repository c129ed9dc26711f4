use Rattle.std.proofs.Common.{◌≡◌, ◌∙◌, inl, inr, ⊎_elim, ◌+◌, [], ◌∷◌, Ok, refl, sym, ap}
use Rattle.std.proofs.Common.{subst}
use Rattle.vab_disk.specs.declared.disk.Disk.{Ghosts}
use Rattle.vab_disk.specs.Disk.{Adds, LeavesEither, Image}
use Rattle.vab_disk.specs.Calls.{IsAtRest}
use Rattle.vab_disk.proofs.Moments.{adds_wider}
use Rattle.vab_marks.specs.declared.mark.MarkPhase.TheVariants as marks
use Rattle.vab_marks.specs.Mark.{mark_of, mark_spelling, rephased}
use Rattle.vab_device.specs.declared.device.Device.{Device}
use Rattle.vab_device.specs.Does.{LeavesStep}
use Rattle.vab_device.specs.Kept.{IsDevice}
use Rattle.vab_device.specs.Mounted.{mounted_on, count_at}
use Rattle.vab_device.specs.Reading.{device, Represents}
use Rattle.vab_device.specs.Updates.{merge_ended}
use Rattle.vab_device.proofs.ReadingLaws.{device_stands}
use Rattle.vab_device.proofs.Steps.{marked}
use Rattle.vab_merging.specs.Ends.{EndsMerge}
use Rattle.vab_merging.specs.Kept.{ended_device}
use Rattle.vab_merging.proofs.EndedLaws.{ended_represents, ended_means}
use Rattle.vab_merging.proofs.KeptLaws.{ended_kept}
use Rattle.vab_merging.proofs.ending.end_merge.Goals as goal

-- each outcome is the device before the mark or with it
module _ {D : Type 0} (g : Ghosts D) (d : Device) (old new : D)
    (dev : IsDevice d (g.size old))
    (is : g.is_modelled → Represents d (g.size old) (g.seen old))
    (merging : d.mark.phase ≡ marks.Merging)
    (none : g.is_modelled → count_at d.a + count_at d.b ≡ 0)
    (read : mark_of (mark_spelling (rephased marks.Completed d.mark))
    ≡ Ok (rephased marks.Completed d.mark)) where
  abbrev after : Image
  after = marked (g.seen old) (mark_spelling (rephased marks.Completed d.mark))

  represents : g.is_modelled → Represents (ended_device d) (g.size old) after
  represents t =
      ended_represents d (g.size old) (g.seen old) dev (is t) merging (none t) read

  means : g.is_modelled
      → mounted_on (ended_device d) after ≡ merge_ended (mounted_on d (g.seen old))
  means t = ended_means d (g.size old) (g.seen old) dev (is t) merging (none t) read

  time : (g.is_modelled
      → IsAtRest g old
      → Adds g.moment g.outcomes old new (LeavesEither (g.told old) (g.seen old) after))
      → g.is_modelled
      → IsAtRest g old
      → Adds g.moment g.outcomes old new
      (LeavesStep (g.told old) (g.size old)
      (mounted_on d (g.seen old) ∷ merge_ended (mounted_on d (g.seen old)) ∷ []))
  time gate t rest =
      adds_wider g.moment g.outcomes old new _ _ (gate t rest)
      (λ o leaves.
      ⊎_elim
      (λ same. record {
        told_so_far = leaves.told_so_far;
        mounted = mounted_on d (g.seen old);
        step = inl refl;
        means =
            ap (device (g.size old)) same ∙ device_stands d (g.size old) (g.seen old) (is t);
      })
      (λ now. record {
        told_so_far = leaves.told_so_far;
        mounted = merge_ended (mounted_on d (g.seen old));
        step = inr (inl refl);
        means =
            ap (device (g.size old)) now
            ∙ device_stands (ended_device d) (g.size old) after (represents t)
            ∙ ap Ok (means t);
      })
      leaves.either)

pub returns-in-Err : goal.returns-in-Err
returns-in-Err g c = record {
  is = tt;
  kept = tt;
  represents = λ t. tt;
  means = λ t. tt;
  rest = λ t. tt;
  quiet = c.put_mark.ensures.touches.quiet;
  touches = c.put_mark.ensures.touches;
  time = time g.D.Disk c.args.device c.args.d.now c.put_mark.new.d c.requires.kept
      c.requires.represents c.requires.merging c.requires.none c.put_mark.ensures.read
      c.put_mark.ensures.gate;
  faults = record { steady = tt; cause = c.in-Err.ensures.faults.cause };
}

pub returns-in-Ok : goal.returns-in-Ok
returns-in-Ok g c =
    let d = c.args.device in
    let old = c.args.d.now in
    let new = c.put_mark.new.d in
    let whole : EndsMerge g.D.Disk d old new (Ok (ended_device d)) = record {
      is = refl;
      kept = ended_kept d (g.D.Disk.size old) c.requires.kept c.requires.merging;
      represents = λ t.
          subst (λ (i : Image). Represents (ended_device d) (g.D.Disk.size old) i)
          (sym (c.in-Ok.ensures.written t))
          (represents g.D.Disk d old new c.requires.kept c.requires.represents c.requires.merging
          c.requires.none c.put_mark.ensures.read t);
      means = λ t.
          ap (mounted_on (ended_device d)) (c.in-Ok.ensures.written t)
          ∙ means g.D.Disk d old new c.requires.kept c.requires.represents c.requires.merging
          c.requires.none c.put_mark.ensures.read t;
      rest = c.in-Ok.ensures.settled;
      quiet = c.put_mark.ensures.touches.quiet;
      touches = c.put_mark.ensures.touches;
      time = time g.D.Disk d old new c.requires.kept c.requires.represents c.requires.merging
          c.requires.none c.put_mark.ensures.read c.put_mark.ensures.gate;
      faults = record { steady = c.in-Ok.ensures.faults.steady; cause = tt };
    } in
    subst (λ (next : Device). EndsMerge g.D.Disk d old new (Ok next)) (sym c.ended.ensures) whole
