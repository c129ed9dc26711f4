-- What an overlay that begins does, by what it does to the disk.
use Rattle.std.proofs.Common.{◌≡◌, ℕ, ◌≤◌, List, length, Result, Ok}
use Rattle.std.proofs.Common.{Err, refl, sym, subst}
use Rattle.std.specs.Prelude.{Option, IfOk}
use Rattle.vab_disk.specs.declared.disk.Disk.{Ghosts}
use Rattle.vab_disk.specs.Disk.{Adds, DiskFailed}
use Rattle.vab_disk.specs.Calls.{IsAtRest, Touches}
use Rattle.vab_disk.proofs.CallLaws.{reads_none}
use Rattle.vab_disk.proofs.Moments.{adds_wider}
use Rattle.vab_gate.specs.declared.gate.DiskFault.{DiskFault}
use Rattle.vab_geometry.specs.declared.geometry.Geometry.{Geometry}
use Rattle.vab_tables.specs.declared.table.Table.{Table}
use Rattle.vab_tables.specs.Text.{IsTableText}
use Rattle.vab_tables.specs.Reading.{table_of}
use Rattle.vab_lpstore.specs.Layout.{copy_sectors, primary_bytes, backup_bytes, text_sectors}
use Rattle.vab_lpstore.specs.Layout.{BothHold}
use Rattle.vab_lpstore.specs.Storing.{IsOfTable, LeavesEitherTable, SameElsewhere}
use Rattle.vab_lpstore.proofs.StoreLaws.{text_fits, begins_read, store_elsewhere}
use Rattle.vab_model.specs.declared.command.Refusal.{Refusal}
use Rattle.vab_model.specs.declared.command.Reply.{Reply}
use Rattle.vab_model.specs.declared.command.Reply.TheVariants as replies
use Rattle.vab_model.specs.Commands.{Overlay}
use Rattle.vab_device.specs.declared.device.Device.{Device}
use Rattle.vab_device.specs.Does.{Does}
use Rattle.vab_device.specs.Kept.{IsDevice}
use Rattle.vab_device.specs.Mounted.{mounted_on}
use Rattle.vab_device.specs.Reading.{Represents}
use Rattle.vab_device.proofs.DoesLaws.{does_nothing, step_follows}
use Rattle.vab_overlaying.specs.declared.prepared.Prepared.{Prepared}
use Rattle.vab_overlaying.specs.Begun.{with_table, IsOfHead, Begins}
use Rattle.vab_overlaying.specs.Prepared.{AreWhole, Refuses, IsPrepared}
use Rattle.vab_overlaying.specs.Writes.{IsOfOverlay}
use Rattle.vab_overlaying.proofs.BeginLaws.{prepared_lies, prepared_table, prepared_short}
use Rattle.vab_overlaying.proofs.BeginLaws.{prepared_stands, prepared_begins, next_begins}
use Rattle.vab_overlaying.proofs.BeginLaws.{table_in, head_in}
use Rattle.vab_device.proofs.BehindLaws.{LeavesMounted, fails_behind, does_behind}
use Rattle.vab_overlaying.proofs.KeptLaws.{table_kept}
use Rattle.vab_device.proofs.StandsLaws.{StandsIdle, stands_idle}
use Rattle.vab_overlaying.proofs.TableLaws.{geometry_stays, leaves_stored, mounted_behind}
use Rattle.vab_overlaying.proofs.TableLaws.{represents_stored}

-- where both copies are of one table, the slot's table is that one or the new one
abbrev pub StoresTable : {D : Type 0}
    → Ghosts D
    → Geometry
    → (slot : ℕ)
    → D
    → D
    → List ℕ
    → Type 0
StoresTable g geometry slot old new text = g.is_modelled
    → IsAtRest g old
    → (t v : Table)
    → table_of geometry.max (primary_bytes geometry slot (g.seen old)) ≡ Ok t
    → table_of geometry.max (backup_bytes geometry slot (g.seen old)) ≡ Ok t
    → IsTableText geometry.max text v
    → Adds g.moment g.outcomes old new
    (LeavesEitherTable (g.told old) geometry slot (text_sectors (length text)) (g.seen old) t v)

module _ {D : Type 0} (g : Ghosts D) (d : Device) (staged : Option (List ℕ)) (name : List ℕ)
    (size : ℕ) (old : D)
    (kept : IsDevice d (g.size old))
    (represents : g.is_modelled → Represents d (g.size old) (g.seen old))
    (whole : g.is_modelled → AreWhole (g.size old) (g.seen old)) where
  -- ---- a refusal

  pub refused_by : (r : Refusal)
      → Refuses d name size r
      → Does g d staged (Overlay name size) (IsOfOverlay d name) old old
      (Ok (d, replies.Refused r))
  refused_by r refuses =
      does_nothing g d staged (Overlay name size) (IsOfOverlay d name) refuses.refused
      (replies.Refused r) old old kept represents
      (λ t. refuses.is (g.size old) (g.seen old) staged kept (represents t) (whole t))
      (reads_none g old) refl

  -- ---- the table is stored

  module _ (x : Prepared) (is : IsPrepared d name size x) (mid : D)
      (touches : Touches g (IsOfTable d.geometry d.mark.slot x.text) old mid)
      (table : StoresTable g d.geometry d.mark.slot old mid x.text) where
    abbrev n : ℕ
    n = text_sectors (length x.text)

    fits : text_sectors (length x.text) ≤ copy_sectors d.geometry
    fits =
        text_fits d.geometry (length x.text) kept.geometry
        (prepared_short d (g.size old) name size x kept is)

    st : g.is_modelled → StandsIdle d (g.size old) (g.seen old) is.table
    st t =
        stands_idle d (g.size old) (g.seen old) is.table kept.slot is.measured.asked.idle
        is.measured.asked.plain is.is (represents t)

    means : g.is_modelled
        → IsAtRest g old
        → Adds g.moment g.outcomes old mid
        (LeavesMounted (g.told old) (g.size old) (mounted_on d (g.seen old)))
    means t rest =
        let copy = (st t).copies.0 in
        adds_wider g.moment g.outcomes old mid _ _
        (table t rest is.table x.table
        (begins_read d.geometry.max (primary_bytes d.geometry d.mark.slot (g.seen old))
        copy.0 is.table copy.1 copy.2.primary)
        (begins_read d.geometry.max (backup_bytes d.geometry d.mark.slot (g.seen old))
        copy.0 is.table copy.1 copy.2.backup)
        (prepared_stands d (g.size old) name size x kept is))
        (λ o leaves.
        leaves_stored d (g.size old) n (g.seen old) is.table x.table (g.told old) o (represents t)
        (st t) kept.slot kept.geometry (prepared_lies d (g.size old) name size x kept is)
        is.stored.plain fits leaves)

    begins : g.is_modelled → Begins d staged name size x.part (length x.store) (g.seen old)
    begins t =
        prepared_begins d (g.size old) name size x kept is (g.seen old) (represents t) staged
        (whole t)

    -- or the disk fails
    pub fails_table : (fault : DiskFault)
        → DiskFailed (g.faults old) (g.faults mid)
        → Does g d staged (Overlay name size) (IsOfOverlay d name) old mid (Err fault)
    fails_table fault failed =
        fails_behind g d staged (Overlay name size) (IsOfTable d.geometry d.mark.slot x.text)
        (IsOfOverlay d name) old mid touches
        (λ t. table_in d (g.size old) name size x kept is) means
        (λ t. step_follows (begins t)) fault failed

    -- ---- and by then

    mid_size : g.size mid ≡ g.size old
    mid_size = touches.quiet.size

    pub mid_kept : IsDevice (with_table d x.table) (g.size mid)
    mid_kept =
        subst (λ (k : ℕ). IsDevice (with_table d x.table) k) (sym mid_size)
        (table_kept d (g.size old) x.table kept is.measured.asked.idle is.measured.asked.plain
        (prepared_table d (g.size old) name size x kept is))

    module _ (held : g.is_modelled → BothHold d.geometry d.mark.slot x.text (g.seen mid)) where
      elsewhere : (t : g.is_modelled)
          → SameElsewhere d.geometry d.mark.slot n (g.seen old) (g.seen mid)
      elsewhere t =
          store_elsewhere d.geometry d.mark.slot x.text (g.seen old) (g.seen mid)
          (touches.seen t)

      old_represents : g.is_modelled → Represents (with_table d x.table) (g.size old) (g.seen mid)
      old_represents t =
          represents_stored d (g.size old) n (g.seen old) (g.seen mid) is.table x.table (st t)
          kept.slot kept.geometry (prepared_lies d (g.size old) name size x kept is)
          is.stored.plain fits (elsewhere t) x.text
          (prepared_stands d (g.size old) name size x kept is) (held t)

      pub mid_represents : g.is_modelled
          → Represents (with_table d x.table) (g.size mid) (g.seen mid)
      mid_represents t =
          subst (λ (k : ℕ). Represents (with_table d x.table) k (g.seen mid)) (sym mid_size)
          (old_represents t)

      pub mid_begins : (g.is_modelled → AreWhole (g.size mid) (g.seen mid))
          → g.is_modelled
          → Begins (with_table d x.table) staged name size x.part (length x.store) (g.seen mid)
      mid_begins still t =
          next_begins d (g.size old) name size x kept is (g.seen old) (represents t) (g.seen mid)
          staged
          (subst (λ (k : ℕ). IsDevice (with_table d x.table) k) mid_size mid_kept)
          (old_represents t)
          (subst (λ (k : ℕ). AreWhole k (g.seen mid)) mid_size (still t))

      mid_same : g.is_modelled
          → mounted_on (with_table d x.table) (g.seen mid) ≡ mounted_on d (g.seen old)
      mid_same t =
          mounted_behind d (g.size old) n (g.seen old) (g.seen mid) is.table x.table x.text
          (represents t) (st t) kept.slot kept.geometry
          (prepared_lies d (g.size old) name size x kept is) is.stored.plain fits (elsewhere t)
          (prepared_stands d (g.size old) name size x kept is) (held t)

      -- then it begins over the partition
      pub does_overlay : (new : D) (r : Result (Device × Reply) DiskFault)
          → (g.is_modelled → IsAtRest g mid)
          → g.faults mid ≡ g.faults old
          → Does g (with_table d x.table) staged (Overlay name size)
          (IsOfHead (with_table d x.table) x.store) mid new r
          → IfOk r (λ y. y.1 ≡ replies.Done)
          → Does g d staged (Overlay name size) (IsOfOverlay d name) old new r
      does_overlay new r settled counts later done =
          does_behind g d staged (Overlay name size) (IsOfTable d.geometry d.mark.slot x.text)
          (IsOfOverlay d name) old mid touches
          (λ t. table_in d (g.size old) name size x kept is) means
          (λ t. step_follows (begins t)) (with_table d x.table) mid_same
          (geometry_stays d x.table) refl
          (IsOfHead (with_table d x.table) x.store) new r
          (λ t. head_in d (g.size old) name size x kept is) settled counts later done
