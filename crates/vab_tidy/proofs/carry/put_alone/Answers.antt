use Rattle.std.proofs.Common.{inl, ◌≡◌, ℕ, ◌≤◌, true, List, length, Ok, refl, sym, subst}
use Rattle.std.proofs.Common.{arith}
use Rattle.vab_disk.specs.declared.disk.Disk.{Ghosts}
use Rattle.vab_disk.specs.Disk.{Adds}
use Rattle.vab_disk.specs.Calls.{IsAtRest, Touches}
use Rattle.vab_disk.proofs.Moments.{adds_wider}
use Rattle.vab_tables.specs.declared.table.Table.{Table}
use Rattle.vab_tables.specs.Text.{IsTableText}
use Rattle.vab_tables.specs.Reading.{table_of}
use Rattle.vab_lpstore.specs.Layout.{copy_sectors, primary_bytes, backup_bytes, text_sectors}
use Rattle.vab_lpstore.specs.Layout.{BothHold}
use Rattle.vab_lpstore.specs.Storing.{IsOfTable, LeavesEitherTable, SameElsewhere}
use Rattle.vab_lpstore.proofs.StoreLaws.{text_fits, begins_read, both_table, store_elsewhere}
use Rattle.vab_layout.specs.Layout.{layout_of}
use Rattle.vab_device.specs.declared.device.Device.{Device}
use Rattle.vab_device.specs.Kept.{IsDevice, lies_in}
use Rattle.vab_device.specs.Reading.{device, Represents}
use Rattle.vab_tidy.specs.declared.prepared.Alone.{Alone}
use Rattle.vab_tidy.specs.Kept.{with_table}
use Rattle.vab_tidy.specs.Planned.{IsAloneFor}
use Rattle.vab_tidy.specs.Stays.{LeavesSame, Stays, IsInOrder}
use Rattle.vab_tidy.specs.Tidied.{HasCompleted}
use Rattle.vab_tidy.proofs.MarkLaws.{completed_stays}
use Rattle.vab_device.proofs.SlotTable.{kept_table}
use Rattle.vab_tidy.proofs.KeptLaws.{alone_of, table_kept}
use Rattle.vab_device.proofs.PlaceLaws.{copies_on_disk}
use Rattle.vab_device.proofs.StandsLaws.{StandsIdle, stands_idle}
use Rattle.vab_tidy.proofs.TableLaws.{means_alone, represents_alone, leaves_alone}
use Rattle.vab_tidy.proofs.carry.put_alone.Goals as goal

-- where both copies are of one table, the slot's table is that one or the new one
abbrev StoresTable : {D : Type 0} → Ghosts D → Device → List ℕ → D → D → Type 0
StoresTable g d text old new = g.is_modelled
    → IsAtRest g old
    → (t u : Table)
    → table_of d.geometry.max (primary_bytes d.geometry d.mark.slot (g.seen old)) ≡ Ok t
    → table_of d.geometry.max (backup_bytes d.geometry d.mark.slot (g.seen old)) ≡ Ok t
    → IsTableText d.geometry.max text u
    → Adds g.moment g.outcomes old new
    (LeavesEitherTable (g.told old) d.geometry d.mark.slot (text_sectors (length text))
    (g.seen old) t u)

module _ {D : Type 0} (g : Ghosts D) (d : Device) (x : Alone) (text : List ℕ) (old new : D)
    (dev : IsDevice d (g.size old))
    (is : g.is_modelled → Represents d (g.size old) (g.seen old))
    (a : IsAloneFor d x)
    (short : length text ≤ d.geometry.max)
    (stands : IsTableText d.geometry.max text x.table)
    (touches : Touches g (IsOfTable d.geometry d.mark.slot text) old new) where
  abbrev n : ℕ
  n = text_sectors (length text)

  st : g.is_modelled → StandsIdle d (g.size old) (g.seen old) a.table
  st t = stands_idle d (g.size old) (g.seen old) a.table dev.slot a.idle a.plain a.is
      (is t)

  lies : lies_in d.tail.super_end d.geometry (layout_of a.table).device ≡ true
  lies = (kept_table d (g.size old) a.table dev a.is).lies

  fits : n ≤ copy_sectors d.geometry
  fits = text_fits d.geometry (length text) dev.geometry short

  either : StoresTable g d text old new
      → g.is_modelled
      → IsAtRest g old
      → Adds g.moment g.outcomes old new
      (LeavesEitherTable (g.told old) d.geometry d.mark.slot n (g.seen old) a.table x.table)
  either table t rest =
      let copy = (st t).copies.0 in
      table t rest a.table x.table
      (begins_read d.geometry.max (primary_bytes d.geometry d.mark.slot (g.seen old)) copy.0
      a.table copy.1 copy.2.primary)
      (begins_read d.geometry.max (backup_bytes d.geometry d.mark.slot (g.seen old)) copy.0
      a.table copy.1 copy.2.backup)
      stands

  time : StoresTable g d text old new
      → g.is_modelled
      → IsAtRest g old
      → Adds g.moment g.outcomes old new
      (LeavesSame (g.told old) (g.size old) (g.seen old))
  time table t rest =
      adds_wider g.moment g.outcomes old new _ _ (either table t rest)
      (λ o.
      leaves_alone d (g.size old) n (g.seen old) a.table x.table (g.told old) o (st t) dev.slot
      dev.geometry lies a.alone.layout fits)

  order : StoresTable g d text old new
      → g.is_modelled
      → IsAtRest g old
      → HasCompleted d.mark (g.seen old)
      → Adds g.moment g.outcomes old new (λ o. IsInOrder (with_table x.table d) o.image)
  order table t rest has =
      adds_wider g.moment g.outcomes old new _ _ (either table t rest)
      (λ o leaves.
      inl (completed_stays d.geometry d.mark.slot n d.mark (g.seen old) o.image
      leaves.others has))

  others : g.is_modelled
      → SameElsewhere d.geometry d.mark.slot n (g.seen old) (g.seen new)
  others t =
      store_elsewhere d.geometry d.mark.slot text (g.seen old) (g.seen new) (touches.seen t)

  represents : (t : g.is_modelled)
      → BothHold d.geometry d.mark.slot text (g.seen new)
      → Represents (with_table x.table d) (g.size old) (g.seen new)
  represents t held =
      represents_alone d (g.size old) n (g.seen old) (g.seen new) a.table x.table (st t) dev.slot
      dev.geometry lies a.alone.layout fits (others t) text stands held

  same : (t : g.is_modelled)
      → BothHold d.geometry d.mark.slot text (g.seen new)
      → device (g.size old) (g.seen new) ≡ device (g.size old) (g.seen old)
  same t held =
      means_alone d (g.size old) n (g.seen old) (g.seen new) a.table x.table (st t) dev.slot
      dev.geometry lies a.alone.layout fits (others t)
      (both_table d.geometry d.mark.slot text x.table (g.seen new) held stands)

  kept : IsDevice (with_table x.table d) (g.size old)
  kept =
      table_kept d (g.size old) x.table dev a.idle
      (alone_of d.tail.super_end d.mark.slot d.geometry a.table x dev.geometry
      (kept_table d (g.size old) a.table dev a.is) a.alone)

pub store_table-requires-clause-on_disk : goal.store_table-requires-clause-on_disk
store_table-requires-clause-on_disk g c =
    let dev = c.requires.kept in
    let on = copies_on_disk c.args.device.geometry c.args.device.mark.slot
    c.args.device.tail.super_end dev.geometry dev.slot dev.copies_on in
    omega (arith, on, dev.ends)

-- the text that is written
text_is : (d : Device) (x : Alone) (text : List ℕ)
    → text ≡ x.text
    → IsAloneFor d x
    → (length text ≤ d.geometry.max) × IsTableText d.geometry.max text x.table
text_is d x text is a =
    let max = d.geometry.max in
    subst (λ (l : List ℕ). (length l ≤ max) × IsTableText max l x.table) (sym is)
    (a.alone.fits, a.alone.stands)

pub returns-in-Err : goal.returns-in-Err
returns-in-Err g c =
    let d = c.args.device in
    let x = c.args.alone in
    let text = text_is d x _ c.as_slice-text.ensures c.requires.alone in
    record {
      is = tt;
      kept = tt;
      represents = λ t. tt;
      same = λ t. tt;
      settled = λ t rest. tt;
      quiet = c.store_table.ensures.touches.quiet;
      touches =
          subst
          (λ (l : List ℕ).
          Touches g.D.Disk (IsOfTable d.geometry d.mark.slot l) c.args.d.now c.store_table.new.d)
          c.as_slice-text.ensures c.store_table.ensures.touches;
      time =
          time g.D.Disk d x _ c.args.d.now c.store_table.new.d c.requires.kept
          c.requires.represents c.requires.alone text.0 text.1 c.store_table.ensures.touches
          c.store_table.ensures.table;
      order =
          order g.D.Disk d x _ c.args.d.now c.store_table.new.d c.requires.kept
          c.requires.represents c.requires.alone text.0 text.1 c.store_table.ensures.touches
          c.store_table.ensures.table;
      faults = record { steady = tt; cause = c.in-Err.ensures.faults.cause };
    }

pub returns-in-Ok : goal.returns-in-Ok
returns-in-Ok g c =
    let d = c.args.device in
    let x = c.args.alone in
    let old = c.args.d.now in
    let new = c.store_table.new.d in
    let text = text_is d x _ c.as_slice-text.ensures c.requires.alone in
    let touches = c.store_table.ensures.touches in
    let W = IsOfTable d.geometry d.mark.slot x.text in
    let whole : Stays g.D.Disk W (with_table x.table d) old new (Ok (with_table x.table d)) =
    record {
      is = refl;
      kept =
          kept g.D.Disk d x _ old new c.requires.kept c.requires.represents c.requires.alone
          text.0 text.1 touches;
      represents = λ t.
          represents g.D.Disk d x _ old new c.requires.kept c.requires.represents
          c.requires.alone text.0 text.1 touches t (c.in-Ok.ensures.stored t);
      same = λ t.
          same g.D.Disk d x _ old new c.requires.kept c.requires.represents c.requires.alone
          text.0 text.1 touches t (c.in-Ok.ensures.stored t);
      settled = λ t rest. c.in-Ok.ensures.settled t;
      quiet = touches.quiet;
      touches =
          subst
          (λ (l : List ℕ). Touches g.D.Disk (IsOfTable d.geometry d.mark.slot l) old new)
          c.as_slice-text.ensures touches;
      time =
          time g.D.Disk d x _ old new c.requires.kept c.requires.represents c.requires.alone
          text.0 text.1 touches c.store_table.ensures.table;
      order =
          order g.D.Disk d x _ old new c.requires.kept c.requires.represents c.requires.alone
          text.0 text.1 touches c.store_table.ensures.table;
      faults = record { steady = c.in-Ok.ensures.faults.steady; cause = tt };
    } in
    subst (λ (next : Device). Stays g.D.Disk W (with_table x.table d) old new (Ok next))
    (sym c.with_table.ensures) whole
