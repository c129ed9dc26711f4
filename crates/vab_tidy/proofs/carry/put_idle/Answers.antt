use Rattle.std.proofs.Common.{◌≡◌, ◌≢◌, ◌∙◌, inl, inr, ⊎_elim, ℕ, List, Ok, refl, sym, ap, subst}
use Rattle.std.specs.Prelude.{Some, false}
use Rattle.vab_disk.specs.declared.disk.Disk.{Ghosts}
use Rattle.vab_disk.specs.Disk.{Image, Adds, LeavesEither, IsAt, set_sector}
use Rattle.vab_disk.specs.Calls.{IsAtRest, Touches}
use Rattle.vab_disk.specs.Written.{set_here, set_there}
use Rattle.vab_disk.proofs.Moments.{adds_wider}
use Rattle.vab_marks.specs.declared.mark.MarkPhase.TheVariants as marks
use Rattle.vab_marks.specs.declared.version.MarkVersion.TheVariants.{Two}
use Rattle.vab_marks.specs.Mark.{mark_of, mark_spelling, rephased}
use Rattle.vab_marks.specs.Version.{version_in}
use Rattle.vab_tables.specs.declared.table.Table.{Table}
use Rattle.vab_tables.specs.Text.{IsTableText}
use Rattle.vab_lpstore.specs.Layout.{BothHold}
use Rattle.vab_lpstore.specs.Loading.{slot_table}
use Rattle.vab_lpstore.proofs.StoreLaws.{both_table}
use Rattle.vab_device.specs.declared.device.Device.{Device}
use Rattle.vab_device.specs.Kept.{IsDevice, table_of_slot}
use Rattle.vab_device.specs.Reading.{device, Represents, mark_in, version_at}
use Rattle.vab_tidy.specs.Stays.{LeavesSame, IsInOrder, HoldsTable}
use Rattle.vab_tidy.specs.Tidied.{HasCompleted}
use Rattle.vab_device.proofs.SlotTable.{has_table}
use Rattle.vab_tidy.proofs.MarkLaws.{idle_there, marked_means, marked_represents}
use Rattle.vab_device.proofs.StandsLaws.{StandsIdle, stands_idle}
use Rattle.vab_tidy.proofs.carry.put_idle.Goals as goal
use Rattle.vab_device.proofs.ReadingLaws.{bare_known}

module _ {D : Type 0} (g : Ghosts D) (d : Device) (bytes : List ℕ) (old new : D)
    (dev : IsDevice d (g.size old))
    (is : g.is_modelled → Represents d (g.size old) (g.seen old))
    (idle : d.mark.phase ≡ marks.Idle)
    (plain : d.mark.overlaid ≡ false)
    (read : mark_of bytes ≡ Ok (rephased marks.Idle d.mark))
    (two : version_in bytes ≡ Two) where
  abbrev after : Image
  after = set_sector (g.seen old) 2048 bytes

  own : (t : Table) × (table_of_slot d d.mark.slot ≡ Some t)
  own = has_table d (g.size old) dev

  st : g.is_modelled → StandsIdle d (g.size old) (g.seen old) own.0
  st t = stands_idle d (g.size old) (g.seen old) own.0 dev.slot idle plain own.1 (is t)

  elsewhere : (s : ℕ) → s ≢ 2048 → after s ≡ g.seen old s
  elsewhere s other = set_there (g.seen old) 2048 bytes s other

  pub mark_now : mark_of (after 2048) ≡ Ok (rephased marks.Idle d.mark)
  mark_now = ap mark_of (set_here (g.seen old) 2048 bytes 2048 refl) ∙ read

  mark : g.is_modelled → mark_in after ≡ Ok (rephased marks.Idle d.mark)
  mark t = idle_there d.mark after bare mark_now
    where
      bare : d.mark.physical ≡ false
      bare = bare_known (g.seen old) (rephased marks.Idle d.mark) (st t).reads.mark

  version : version_at after ≡ Two
  version = ap version_in (set_here (g.seen old) 2048 bytes 2048 refl) ∙ two

  means : g.is_modelled → device (g.size old) after ≡ device (g.size old) (g.seen old)
  means t = marked_means d (g.size old) (g.seen old) own.0 (st t) after elsewhere (mark t)
      version

  represents : g.is_modelled → Represents d (g.size old) after
  represents t = marked_represents d (g.size old) (g.seen old) own.0 (st t) after elsewhere (mark t)
      version

  time : (g.is_modelled
      → IsAtRest g old
      → Adds g.moment g.outcomes old new (LeavesEither (g.told old) (g.seen old) after))
      → g.is_modelled
      → IsAtRest g old
      → Adds g.moment g.outcomes old new
      (LeavesSame (g.told old) (g.size old) (g.seen old))
  time gate t rest =
      adds_wider g.moment g.outcomes old new _ _ (gate t rest)
      (λ o leaves. record {
        told_so_far = leaves.told_so_far;
        same =
            ⊎_elim
            (λ was. ap (device (g.size old)) was)
            (λ now. ap (device (g.size old)) now ∙ means t)
            leaves.either;
      })

  -- where both copies hold the table, they do with the other mark
  holds : g.is_modelled → HoldsTable d after
  holds t = λ u is. held u (some_one own.0 u (sym own.1 ∙ is))
    where
      some_one : (u v : Table) → Some u ≡ Some v → u ≡ v
      some_one u v e = cc

      copy : (text : List ℕ)
          × IsTableText d.geometry.max text own.0
          × BothHold d.geometry d.mark.slot text after
      copy =
          (stands_idle d (g.size old) after own.0 dev.slot idle plain own.1 (represents t)).copies.0

      held : (u : Table) → own.0 ≡ u → slot_table d.geometry d.mark.slot after ≡ Ok u
      held u e =
          both_table d.geometry d.mark.slot copy.0 own.0 after copy.2 copy.1 ∙ ap Ok e

  order : (g.is_modelled
      → IsAtRest g old
      → Adds g.moment g.outcomes old new (LeavesEither (g.told old) (g.seen old) after))
      → g.is_modelled
      → IsAtRest g old
      → HasCompleted d.mark (g.seen old)
      → Adds g.moment g.outcomes old new (λ o. IsInOrder d o.image)
  order gate t rest has =
      adds_wider g.moment g.outcomes old new _ _ (gate t rest)
      (λ o leaves.
      ⊎_elim
      (λ was. inl (ap (λ (i : Image). mark_of (i 2048)) was ∙ has))
      (λ now. inr (subst (HoldsTable d) (sym now) (holds t)))
      leaves.either)

pub returns-in-Err-clause-stays : goal.returns-in-Err-clause-stays
returns-in-Err-clause-stays g c =
    let old = c.args.d.now in
    let new = c.put_gate.new.d in
    record {
      is = tt;
      kept = tt;
      represents = λ t. tt;
      same = λ t. tt;
      settled = λ t rest. tt;
      quiet = c.put_gate.ensures.touches.quiet;
      touches =
          subst (λ (l : List ℕ). Touches g.D.Disk (IsAt 2048 l) old new)
          (c.encode_mark.ensures.spelled ∙ ap mark_spelling c.with_phase-mark.ensures)
          c.put_gate.ensures.touches;
      time =
          time g.D.Disk c.args.device _ old new c.requires.kept c.requires.represents
          c.requires.idle c.requires.plain
          (c.encode_mark.ensures.decoded ∙ ap Ok c.with_phase-mark.ensures)
          c.encode_mark.ensures.version c.put_gate.ensures.gate;
      order =
          order g.D.Disk c.args.device _ old new c.requires.kept c.requires.represents
          c.requires.idle c.requires.plain
          (c.encode_mark.ensures.decoded ∙ ap Ok c.with_phase-mark.ensures)
          c.encode_mark.ensures.version c.put_gate.ensures.gate;
      faults = record { steady = tt; cause = c.in-Err.ensures.faults.cause };
    }

pub returns-in-Ok-clause-stays : goal.returns-in-Ok-clause-stays
returns-in-Ok-clause-stays g c =
    let d = c.args.device in
    let old = c.args.d.now in
    let new = c.put_gate.new.d in
    let read = c.encode_mark.ensures.decoded ∙ ap Ok c.with_phase-mark.ensures in
    let two = c.encode_mark.ensures.version in
    record {
      is = refl;
      kept = c.requires.kept;
      represents = λ t.
          subst (λ (i : Image). Represents d (g.D.Disk.size old) i)
          (sym (c.in-Ok.ensures.written t))
          (represents g.D.Disk d _ old new c.requires.kept c.requires.represents c.requires.idle
          c.requires.plain read two t);
      same = λ t.
          ap (device (g.D.Disk.size old)) (c.in-Ok.ensures.written t)
          ∙ means g.D.Disk d _ old new c.requires.kept c.requires.represents c.requires.idle
          c.requires.plain read two t;
      settled = λ t rest. c.in-Ok.ensures.settled t;
      quiet = c.put_gate.ensures.touches.quiet;
      touches =
          subst (λ (l : List ℕ). Touches g.D.Disk (IsAt 2048 l) old new)
          (c.encode_mark.ensures.spelled ∙ ap mark_spelling c.with_phase-mark.ensures)
          c.put_gate.ensures.touches;
      time =
          time g.D.Disk d _ old new c.requires.kept c.requires.represents c.requires.idle
          c.requires.plain read two c.put_gate.ensures.gate;
      order =
          order g.D.Disk d _ old new c.requires.kept c.requires.represents c.requires.idle
          c.requires.plain read two c.put_gate.ensures.gate;
      faults = record { steady = c.in-Ok.ensures.faults.steady; cause = tt };
    }
