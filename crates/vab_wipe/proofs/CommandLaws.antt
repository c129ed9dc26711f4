-- What a wipe does, by what it does to the disk.
use Rattle.std.proofs.Common.{◌≡◌, ◌∙◌, inl, inr, ⊎_elim, ℕ, ◌≤◌, true, false}
use Rattle.std.proofs.Common.{List, length, Ok, Err, refl, sym, ap, subst, arith}
use Rattle.std.specs.Prelude.{Option, Some}
use Rattle.vab_disk.specs.declared.disk.Disk.{Ghosts}
use Rattle.vab_disk.specs.Disk.{Image, Outcome, Adds, DiskFailed}
use Rattle.vab_disk.specs.Calls.{IsAtRest, Touches}
use Rattle.vab_disk.proofs.CallLaws.{reads_none, touches_wider}
use Rattle.vab_disk.proofs.Moments.{adds_wider}
use Rattle.vab_gate.specs.declared.gate.DiskFault.{DiskFault}
use Rattle.vab_geometry.specs.declared.geometry.Geometry.{Geometry}
use Rattle.vab_tables.specs.declared.table.Table.{Table}
use Rattle.vab_tables.specs.Spelling.{table_size_of, table_text}
use Rattle.vab_tables.specs.Text.{IsTableText}
use Rattle.vab_tables.specs.Reading.{table_of}
use Rattle.vab_lpstore.specs.Layout.{copy_sectors, primary_bytes, backup_bytes}
use Rattle.vab_lpstore.specs.Layout.{text_sectors, BothHold}
use Rattle.vab_lpstore.specs.Loading.{slot_table}
use Rattle.vab_lpstore.specs.Storing.{IsOfTable, LeavesEitherTable, SameElsewhere}
use Rattle.vab_lpstore.proofs.StoreLaws.{text_fits, begins_read, both_table, store_elsewhere}
use Rattle.vab_layout.specs.Layout.{layout_of}
use Rattle.vab_super_image.specs.SuperImage.{wiped as wiped_table}
use Rattle.vab_model.specs.declared.state.GroupLimit.{GroupLimit}
use Rattle.vab_model.specs.declared.command.Refusal.{Refusal}
use Rattle.vab_model.specs.declared.command.Reply.TheVariants as replies
use Rattle.vab_model.specs.Commands.{UpdateSuper}
use Rattle.vab_model.specs.Effects.{Effect, does, steps_of, after_of, IsOneOf, wanting, effect_map}
use Rattle.vab_device.specs.declared.device.Part.{Part}
use Rattle.vab_device.specs.declared.device.Device.{Device}
use Rattle.vab_device.specs.Does.{LeavesStep, effect_of, Does}
use Rattle.vab_device.specs.Kept.{lies_in, parts_of, limits_of, table_of_slot, IsDevice}
use Rattle.vab_device.specs.Mounted.{Mounted, mounted_on}
use Rattle.vab_device.specs.Reading.{device, Represents}
use Rattle.vab_device.specs.Updates.{wiped}
use Rattle.vab_device.proofs.DoesLaws.{does_nothing, step_follows}
use Rattle.vab_device.proofs.ReadingLaws.{device_same, device_stands}
use Rattle.vab_device.proofs.RepairLaws.{repair_same}
use Rattle.vab_device.proofs.SlotTable.{has_table}
use Rattle.vab_device.proofs.StandsLaws.{StandsIdle, read_at, stands_idle}
use Rattle.vab_wipe.specs.Kept.{with_slot, with_wiped}
use Rattle.vab_wipe.specs.Prepared.{Refuses, IsPrepared}
use Rattle.vab_wipe.specs.Writes.{IsOfWipe}
use Rattle.vab_wipe.proofs.JudgedLaws.{effect_judged, effect_refused, image_done, fits_full}
use Rattle.vab_wipe.proofs.KeptLaws.{device_stays, new_lies, wiped_kept, geometry_stays}
use Rattle.vab_wipe.proofs.TableLaws.{means_wiped, represents_wiped}

groups_of_wiped : (t u : Table) → u ≡ wiped_table t → u.groups ≡ t.groups
unfolding wiped_table
groups_of_wiped t u is = ap (λ (x : Table). x.groups) is

-- where both copies are of one table, the slot's table is that one or the new one
abbrev pub StoresTable : {D : Type 0}
    → Ghosts D
    → Geometry
    → (slot : ℕ)
    → D
    → D
    → List ℕ
    → Type 0
StoresTable g geometry slot old new text = g.is_modelled
    → IsAtRest g old
    → (t v : Table)
    → table_of geometry.max (primary_bytes geometry slot (g.seen old)) ≡ Ok t
    → table_of geometry.max (backup_bytes geometry slot (g.seen old)) ≡ Ok t
    → IsTableText geometry.max text v
    → Adds g.moment g.outcomes old new
    (LeavesEitherTable (g.told old) geometry slot (text_sectors (length text)) (g.seen old) t v)

module _ {D : Type 0} (g : Ghosts D) (d : Device) (staged : Option (List ℕ)) where
  -- ---- a refusal

  pub refused_by : (r : Refusal) (old : D)
      → IsDevice d (g.size old)
      → (g.is_modelled → Represents d (g.size old) (g.seen old))
      → Refuses d staged r
      → Does g d staged UpdateSuper (IsOfWipe d staged) old old (Ok (d, replies.Refused r))
  refused_by r old kept is refuses =
      does_nothing g d staged UpdateSuper (IsOfWipe d staged) refuses.refused (replies.Refused r)
      old old kept is
      (λ t. effect_refused d (g.size old) (g.seen old) staged kept r refuses)
      (reads_none g old) refl

  -- ---- the copies are written

  module _
      (u : Table) (text : List ℕ) (parts : List Part) (groups : List GroupLimit)
      (p : IsPrepared d staged u text parts groups)
      (old new : D)
      (kept : IsDevice d (g.size old))
      (is : g.is_modelled → Represents d (g.size old) (g.seen old))
      (touches : Touches g (IsOfTable d.geometry d.mark.slot text) old new)
      (table : StoresTable g d.geometry d.mark.slot old new text) where
    abbrev n : ℕ
    n = text_sectors (length text)

    own : (t : Table) × (table_of_slot d d.mark.slot ≡ Some t)
    own = has_table d (g.size old) kept

    st : g.is_modelled → StandsIdle d (g.size old) (g.seen old) own.0
    st t =
        stands_idle d (g.size old) (g.seen old) own.0 kept.slot p.taken.are.idle
        p.taken.are.bare own.1 (is t)

    short : length text ≤ d.geometry.max
    short = omega (arith, p.spelled.long, p.emptied.size)

    fits : text_sectors (length text) ≤ copy_sectors d.geometry
    fits = text_fits d.geometry (length text) kept.geometry short

    stands : IsTableText d.geometry.max text u
    stands = p.spelled.stands d.geometry.max p.emptied.size

    lies : lies_in d.tail.super_end d.geometry (layout_of u).device ≡ true
    lies = new_lies d (g.size old) staged own.0 u p.image kept own.1 p.taken p.emptied

    stays : (layout_of u).device ≡ (layout_of own.0).device
    stays = device_stays d (g.size old) staged own.0 u p.image kept own.1 p.taken p.emptied

    same_groups : u.groups ≡ p.image.table.groups
    same_groups = groups_of_wiped p.image.table u p.emptied.is

    wiped_size : table_size_of (wiped_table p.image.table) ≤ d.geometry.max
    wiped_size =
        subst (λ (x : Table). table_size_of x ≤ d.geometry.max) p.emptied.is p.emptied.size

    abbrev next : Mounted
    next = wiped (mounted_on d (g.seen old)) d.mark.slot p.image

    gives : effect_of g d staged UpdateSuper false old
        ≡ wanting true (does replies.Done (wiped (mounted_on d (g.seen old)) d.mark.slot p.image))
    gives =
        effect_judged d (g.size old) (g.seen old) staged kept
        ∙ ap (effect_map (wiped (mounted_on d (g.seen old)) d.mark.slot))
        (image_done d (g.size old) staged p.taken.bytes kept p.taken.are p.image p.taken.is
        (g.seen old) p.taken.free (fits_full d p.image wiped_size))

    text_is : text ≡ table_text (wiped_table p.image.table)
    text_is = p.spelled.text_is ∙ ap table_text p.emptied.is

    writes : (s : ℕ) (b : List ℕ)
        → IsOfTable d.geometry d.mark.slot text s b
        → IsOfWipe d staged s b
    writes s b of_text = record {
      idle = p.taken.are.idle;
      bare = p.taken.are.bare;
      bytes = p.taken.bytes;
      are_staged = p.taken.are.are_staged;
      image = p.image;
      is = p.taken.is;
      short = subst (λ (l : List ℕ). length l ≤ d.geometry.max) text_is short;
      writes =
          subst (λ (l : List ℕ). IsOfTable d.geometry d.mark.slot l s b) text_is of_text;
    }

    -- an image with the new table
    means : (t : g.is_modelled) (image : Image)
        → SameElsewhere d.geometry d.mark.slot n (g.seen old) image
        → slot_table d.geometry d.mark.slot image ≡ Ok u
        → device (g.size old) image
        ≡ Ok (wiped (mounted_on d (g.seen old)) d.mark.slot p.image)
    means t image others there =
        means_wiped d (g.size old) n (g.seen old) image own.0 u p.image (st t) kept.slot lies
        p.emptied.own p.emptied.layout same_groups stays others there

    -- an outcome is the device before or after
    old_table : (t : g.is_modelled)
        → slot_table d.geometry d.mark.slot (g.seen old) ≡ Ok own.0
    old_table t =
        let copy = (st t).copies.0 in
        both_table d.geometry d.mark.slot copy.0 own.0 (g.seen old) copy.2 copy.1

    leaves : (t : g.is_modelled) (o : Outcome)
        → LeavesEitherTable (g.told old) d.geometry d.mark.slot n (g.seen old) own.0 u o
        → LeavesStep (g.told old) (g.size old)
        (steps_of (mounted_on d (g.seen old)) (effect_of g d staged UpdateSuper false old)) o
    leaves t o left = ⊎_elim
        (λ same. record {
          told_so_far = left.told_so_far;
          mounted = mounted_on d (g.seen old);
          step = inl refl;
          means =
              device_same (g.size old) (read_at d.mark d.control d.tail d.geometry own.0)
              (g.seen old) o.image (st t).reads
              (repair_same (g.size old) n d.mark.slot
              (read_at d.mark d.control d.tail d.geometry own.0) (g.seen old) o.image kept.geometry
              kept.slot kept.slot fits (st t).reads left.others (same ∙ sym (old_table t)))
              ∙ device_stands d (g.size old) (g.seen old) (is t);
        })
        (λ there. record {
          told_so_far = left.told_so_far;
          mounted = next;
          step =
              subst
              (λ (e : Effect Mounted). IsOneOf (steps_of (mounted_on d (g.seen old)) e) next)
              (sym gives) (inr (inl refl));
          means = means t o.image left.others there;
        })
        left.table

    steps : g.is_modelled
        → IsAtRest g old
        → Adds g.moment g.outcomes old new
        (LeavesStep (g.told old) (g.size old)
        (steps_of (mounted_on d (g.seen old)) (effect_of g d staged UpdateSuper false old)))
    steps t rest =
        let copy = (st t).copies.0 in
        adds_wider g.moment g.outcomes old new _ _
        (table t rest own.0 u
        (begins_read d.geometry.max (primary_bytes d.geometry d.mark.slot (g.seen old))
        copy.0 own.0 copy.1 copy.2.primary)
        (begins_read d.geometry.max (backup_bytes d.geometry d.mark.slot (g.seen old))
        copy.0 own.0 copy.1 copy.2.backup)
        stands)
        (leaves t)

    -- the disk failed
    pub fails_wipe : (fault : DiskFault)
        → DiskFailed (g.faults old) (g.faults new)
        → Does g d staged UpdateSuper (IsOfWipe d staged) old new (Err fault)
    fails_wipe fault rose = record {
      refused = false;
      kept = tt;
      follows = tt;
      represents = λ t. tt;
      after = λ t. tt;
      reply = λ t. tt;
      rest = λ t rest. tt;
      quiet = touches.quiet;
      still = λ t none. absurd (step_follows gives none);
      touches = λ t.
          touches_wider g (IsOfWipe d staged) (IsOfTable d.geometry d.mark.slot text) old new
          touches writes;
      time = steps;
      faults = record { steady = tt; cause = rose };
    }

    elsewhere : (t : g.is_modelled)
        → SameElsewhere d.geometry d.mark.slot n (g.seen old) (g.seen new)
    elsewhere t =
        store_elsewhere d.geometry d.mark.slot text (g.seen old) (g.seen new) (touches.seen t)

    represents : (t : g.is_modelled)
        → BothHold d.geometry d.mark.slot text (g.seen new)
        → Represents (with_wiped d u) (g.size old) (g.seen new)
    represents t held =
        represents_wiped d (g.size old) n (g.seen old) (g.seen new) own.0 u p.image (st t)
        kept.slot lies p.emptied.own p.emptied.layout same_groups stays (elsewhere t) text stands
        held

    after : (t : g.is_modelled)
        → BothHold d.geometry d.mark.slot text (g.seen new)
        → mounted_on (with_wiped d u) (g.seen new)
        ≡ wiped (mounted_on d (g.seen old)) d.mark.slot p.image
    after t held =
        let means_so = means t (g.seen new) (elsewhere t)
        (both_table d.geometry d.mark.slot text u (g.seen new) held stands) in
        let stands_so = device_stands (with_wiped d u) (g.size old) (g.seen new)
        (represents t held) in
        let both : Ok (mounted_on (with_wiped d u) (g.seen new))
        ≡ Ok (wiped (mounted_on d (g.seen old)) d.mark.slot p.image) =
        sym stands_so ∙ means_so in
        cc

    does_with : (g.is_modelled → BothHold d.geometry d.mark.slot text (g.seen new))
        → (g.is_modelled → IsAtRest g new)
        → g.faults new ≡ g.faults old
        → Does g d staged UpdateSuper (IsOfWipe d staged) old new
        (Ok (with_wiped d u, replies.Done))
    does_with held settled counts = record {
      refused = false;
      kept = wiped_kept d (g.size old) staged own.0 u p.image kept own.1 p.taken p.emptied;
      follows = record {
        geometry = geometry_stays d u;
        source = λ no. absurd (let bad : true ≡ false = no in cc);
      };
      represents = λ t. represents t (held t);
      after = λ t.
          after t (held t)
          ∙ ap (λ (e : Effect Mounted). after_of (mounted_on d (g.seen old)) e) (sym gives);
      reply = λ t. ap (λ (e : Effect Mounted). e.reply) (sym gives);
      rest = λ t rest. settled t;
      quiet = touches.quiet;
      still = λ t none. absurd (step_follows gives none);
      touches = λ t.
          touches_wider g (IsOfWipe d staged) (IsOfTable d.geometry d.mark.slot text) old new
          touches writes;
      time = steps;
      faults = record { steady = counts; cause = tt };
    }

    -- they are written
    pub does_wipe : (g.is_modelled → BothHold d.geometry d.mark.slot text (g.seen new))
        → (g.is_modelled → IsAtRest g new)
        → g.faults new ≡ g.faults old
        → Does g d staged UpdateSuper (IsOfWipe d staged) old new
        (Ok (with_slot d u parts groups, replies.Done))
    does_wipe held settled counts =
        subst
        (λ (x : List Part × List GroupLimit).
        Does g d staged UpdateSuper (IsOfWipe d staged) old new
        (Ok (with_slot d u x.0 x.1, replies.Done)))
        (let a : List Part × List GroupLimit =
        (parts_of d.mark.slot (layout_of u), limits_of d.mark.slot u.groups) in
        let b : List Part × List GroupLimit = (parts, groups) in
        let same : a ≡ b = (λ k. (sym p.spelled.parts_are k, sym p.spelled.groups_are k)) in
        same)
        (does_with held settled counts)
