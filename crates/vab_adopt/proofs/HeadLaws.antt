-- What a disk with the heads of the adopted device means.
use Rattle.std.proofs.Common.{◌≡◌, ◌≢◌, ◌∙◌, ℕ, ◌-◌, ◌*◌, ◌≤◌, ◌<◌, false, List, [], Ok, Err}
use Rattle.std.proofs.Common.{refl, sym, ap, subst, arith}
use Rattle.std.proofs.lemmas.Bool.{le-leb, lt-leb}
use Rattle.vab_disk.specs.Disk.{Image, IsSector, set_sector}
use Rattle.vab_disk.specs.Written.{set_here, set_there}
use Rattle.vab_bootctl.specs.Control.{control_of, KeepsRest}
use Rattle.vab_marks.specs.declared.version.MarkVersion.TheVariants.{Two}
use Rattle.vab_marks.specs.Mark.{mark_of, idle_mark, mark_spelling}
use Rattle.vab_marks.specs.Version.{version_in, partitions_under}
use Rattle.vab_marks.proofs.MarkLaws.{version_spelled}
use Rattle.vab_geometry.specs.declared.geometry.Geometry.{Geometry}
use Rattle.vab_device.specs.declared.fault.StartFault.{StartFault}
use Rattle.vab_device.specs.declared.fault.StartFault.TheVariants.{TooSmall}
use Rattle.vab_device.specs.Kept.{copies_end}
use Rattle.vab_device.specs.Mounted.{Mounted}
use Rattle.vab_device.specs.Phases.{phase_at}
use Rattle.vab_device.specs.Reading.{Read, mark_read, mark_in, statuses_at, geometry_at, device}
use Rattle.vab_device.specs.Reading.{stores_of, kept, Reads, SameRead, whole_disk, tail_at}
use Rattle.vab_device.proofs.Behind.{images_behind, stores_behind, plan_behind, overlay_behind}
use Rattle.vab_device.proofs.OpeningLaws.{control_seen_in, device_small}
use Rattle.vab_device.proofs.ReadingLaws.{DeviceWas, device_was, device_same}
use Rattle.vab_device.proofs.SameLaws.{tail_kept, geometry_same, images_same}
use Rattle.vab_device.proofs.StoreLaws.{statuses_kept, stores_kept, plan_kept, overlay_kept}
use Rattle.vab_recover.specs.Behind.{SameSuper}
use Rattle.vab_recover.specs.Opened.{IsMarked, IsHeaded, ends_at}
use Rattle.vab_recover.proofs.BehindLaws.{tables_as}
use Rattle.vab_recover.proofs.FrameLaws.{no_ends}
use Rattle.vab_adopt.specs.Adopted.{adopted, adopted_control, control_sector, with_heads}
use Rattle.vab_adopt.specs.Adopted.{HasHeadsOf}
use Rattle.vab_adopt.proofs.SectorLaws.{control_there, mark_there}
use Rattle.vab_make.specs.Steps.{blanked}

-- ---- the disk with its heads

pub has_heads : (slot : ℕ) (image : Image)
    → slot < 2
    → IsSector (image 4)
    → HasHeadsOf slot image (with_heads slot image)
unfolding with_heads
has_heads slot image below is =
    let bytes = control_sector (adopted_control slot) (blanked (image 4)) in
    let mark = mark_spelling (idle_mark slot) in
    let mid : Image = set_sector image 4 bytes in
    let at_four : set_sector mid 2048 mark 4 ≡ bytes =
    set_there mid 2048 mark 4 (λ e. omega (arith, e)) ∙ set_here image 4 bytes 4 refl in
    let control = control_there slot (image 4) below is in
    record {
      control = record {
        control = ap control_of at_four ∙ control.control;
        rest = subst (λ (b : List ℕ). KeepsRest (blanked (image 4)) b) (sym at_four) control.rest;
      };
      mark = ap mark_of (set_here mid 2048 mark 2048 refl) ∙ mark_there slot below;
      version =
          ap version_in (set_here mid 2048 mark 2048 refl) ∙ version_spelled Two (idle_mark slot);
      others = λ s not_four not_mark.
          set_there mid 2048 mark s not_mark ∙ set_there image 4 bytes s not_four;
    }

-- ---- two disks with these heads

-- they have the same `super`, which is the old disk's
pub same_super : (slot : ℕ) (old one other : Image)
    → HasHeadsOf slot old one
    → HasHeadsOf slot old other
    → SameSuper one other
same_super slot old one other is is_too = λ s le.
    is_too.others s (λ e. omega (arith, e, le)) (λ e. omega (arith, e, le))
    ∙ sym (is.others s (λ e. omega (arith, e, le)) (λ e. omega (arith, e, le)))

pub old_super : (slot : ℕ) (old one : Image) → HasHeadsOf slot old one → SameSuper old one
old_super slot old one is = λ s le.
    is.others s (λ e. omega (arith, e, le)) (λ e. omega (arith, e, le))

pub mark_means : (slot : ℕ) (image : Image)
    → mark_of (image 2048) ≡ Ok (idle_mark slot)
    → mark_in image ≡ Ok (idle_mark slot)
unfolding mark_in
mark_means slot image is = ap mark_read is

no_statuses : (image : Image) → statuses_at false image ≡ Ok []
unfolding statuses_at
no_statuses image = refl

module _
    (size slot : ℕ) (old one other : Image) (r : Read)
    (is : HasHeadsOf slot old one) (is_too : HasHeadsOf slot old other)
    (reads : Reads size r one) where
  stays : (s : ℕ) → s ≢ 4 → s ≢ 2048 → other s ≡ one s
  stays s not_four not_mark =
      is_too.others s not_four not_mark ∙ sym (is.others s not_four not_mark)

  within : 512 * (4096 - 4096) ≤ copies_end r.geometry
  within = omega arith

  same_read : SameRead size r one other
  same_read =
      let a = (phase_at r.mark).has_a in
      let b = (phase_at r.mark).has_b in
      let super = same_super slot old one other is is_too in
      record {
        most = omega (arith, ap partitions_under is.version, ap partitions_under is_too.version);
        mark = mark_means slot other is_too.mark ∙ sym (mark_means slot one is.mark);
        statuses = statuses_kept (phase_at r.mark).reads_statuses one other
            (is_too.version ∙ sym is.version)
            (λ read s there.
            stays s (λ e. omega (arith, e, there.from)) (λ e. omega (arith, e, there.from)));
        control =
            control_seen_in a b other (adopted_control slot) is_too.control.control
            ∙ sym (control_seen_in a b one (adopted_control slot) is.control.control);
        tail = tail_kept r.mark.physical size one other
            (λ some. stays 2113 (λ e. omega (arith, e)) (λ e. omega (arith, e)));
        geometry =
            geometry_same r.tail.super_end one other (super 4104 (omega arith))
            (super 4112 (omega arith));
        tables = tables_as r.tail.super_end r.geometry (phase_at r.mark).tables one other
            super;
        stores = stores_kept (stores_of r) one other r.scanned
            (λ s there. super s (stores_behind size 4096 r one s reads within there))
            reads.stores;
        images_a = images_same one other (kept r).a
            (λ s there. super s (images_behind size 4096 0 _ _ r one s reads within there));
        images_b = images_same one other (kept r).b
            (λ s there. super s (images_behind size 4096 1 _ _ r one s reads within there));
        plan = plan_kept (kept r).plan one other
            (λ s there. super s (plan_behind size 4096 r one s reads within there));
        overlay = overlay_kept (kept r).overlay one other
            (λ s there. super s (overlay_behind size 4096 r one s reads within there));
      }

-- they mean the same
pub heads_mean : (size slot : ℕ) (old one other : Image) (m : Mounted)
    → HasHeadsOf slot old one
    → HasHeadsOf slot old other
    → device size one ≡ Ok m
    → device size other ≡ device size one
heads_mean size slot old one other m is is_too means =
    let was : DeviceWas size one m = device_was size one m means in
    device_same size was.read one other was.reads
    (same_read size slot old one other was.read is is_too was.reads)

-- a disk with these heads is the adopted device, where there is one
pub heads_adopt : (size slot : ℕ) (old new : Image) (m : Mounted)
    → slot < 2
    → IsSector (old 4)
    → adopted size slot old ≡ Ok m
    → HasHeadsOf slot old new
    → device size new ≡ adopted size slot old
unfolding adopted
heads_adopt size slot old new m below is means has =
    heads_mean size slot old (with_heads slot old) new m (has_heads slot old below is) has means

-- ---- what is read in front of the tables

module _
    (size slot : ℕ) (image : Image)
    (below : slot < 2) (is : IsSector (image 4)) (enough : 4120 ≤ size) where
  has : HasHeadsOf slot image (with_heads slot image)
  has = has_heads slot image below is

  marked : IsMarked size (with_heads slot image) (idle_mark slot) Two []
  marked = record {
    enough = le-leb 4120 size enough;
    mark = mark_means slot (with_heads slot image) has.mark;
    version = has.version;
    statuses = no_statuses (with_heads slot image);
  }

  same_geometry : geometry_at size (with_heads slot image) ≡ geometry_at size image
  same_geometry =
      let super = old_super slot image (with_heads slot image) has in
      geometry_same size image (with_heads slot image) (super 4104 (omega arith))
      (super 4112 (omega arith))

  -- there are no physical partitions
  no_tail : tail_at false size (with_heads slot image) ≡ Ok (whole_disk size)
  unfolding tail_at
  no_tail = refl

  pub heads_read : (g : Geometry)
      → geometry_at size image ≡ Ok g
      → IsHeaded size (with_heads slot image) (idle_mark slot) Two [] (adopted_control slot)
      (whole_disk size) g
  heads_read g geometry = record {
    marked = marked;
    control = has.control.control;
    ends = no_tail;
    geometry = same_geometry ∙ geometry;
  }

  -- without a geometry nothing is adopted
  pub none_read : (f : StartFault)
      → geometry_at size image ≡ Err f
      → adopted size slot image ≡ Err f
  unfolding adopted
  none_read f bad =
      no_ends size (with_heads slot image) (idle_mark slot) Two [] (adopted_control slot)
      f marked
      has.control.control bad_ends
    where
      bad_ends : ends_at false size (with_heads slot image) ≡ Err f
      bad_ends = rw (no_tail, same_geometry ∙ bad) refl

-- neither on too few sectors
pub small_read : (size slot : ℕ) (image : Image)
    → size < 4120
    → adopted size slot image ≡ Err (TooSmall 4120 size)
unfolding adopted
small_read size slot image few = device_small size (with_heads slot image) (lt-leb 4120 size few)
