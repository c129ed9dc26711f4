-- The gate of a status, by what the calls before it say.
use Rattle.std.proofs.Common.{◌≡◌, ◌∙◌, inl, inr, ℕ, ◌+◌, ◌≤◌, ◌<◌, List, [], ◌++◌, length, get_or}
use Rattle.std.proofs.Common.{sym, ap, subst, Ok, arith, true, false, refl}
use Rattle.std.specs.Prelude.{Bool, Option, Some, None, All, is_some}
use Rattle.std.specs.Str.{bytes_eq}
use Rattle.std.proofs.lemmas.List.{length-set}
use Rattle.std.proofs.lemmas.List.Quantifiers.{position-Some}
use Rattle.vab_disk.specs.Disk.{Image, IsAt, set_sector}
use Rattle.vab_disk.specs.Calls.{InSectors, SameBut}
use Rattle.vab_exceptions.specs.declared.area.Exception.{Exception}
use Rattle.vab_names.specs.Names.{base_of, suffix_of}
use Rattle.vab_names.proofs.NameLaws.{of_slot}
use Rattle.vab_names.proofs.NameCases.{base_short, full_slot, same_name}
use Rattle.vab_layout.specs.Slots.{other_slot}
use Rattle.vab_marks.specs.declared.status.PartStatus.{PartStatus}
use Rattle.vab_marks.specs.declared.status.StatusImage.{StatusImage}
use Rattle.vab_marks.specs.declared.status.StatusImage.TheVariants.{Stored, InPlace}
use Rattle.vab_marks.specs.Status.{status_of, status_spelling}
use Rattle.vab_statuses.specs.Statuses.{IsOfStatuses, IsFirstFree}
use Rattle.vab_statuses.proofs.StatusesLaws.{first_is_free}
use Rattle.vab_space.specs.declared.Chunk.{Chunk}
use Rattle.vab_space.specs.declared.Chunk.TheVariants.{One}
use Rattle.vab_store.specs.Layout.{InFirst}
use Rattle.vab_store.specs.Scan.{scan_of}
use Rattle.vab_store.specs.View.{Fits}
use Rattle.vab_store.specs.Writing.{planned_of}
use Rattle.vab_install.specs.InPlace.{HoldsImage}
use Rattle.vab_install.specs.Snapshot.{HoldsBlocks}
use Rattle.vab_model.specs.Commands.{Flash}
use Rattle.vab_model.specs.Effects.{does, wanting}
use Rattle.vab_model.specs.declared.command.Reply.TheVariants.{Done}
use Rattle.vab_device.specs.declared.device.Device.{Device}
use Rattle.vab_device.specs.declared.device.Part.{Part}
use Rattle.vab_device.specs.declared.device.PartImage.TheVariants.{Written}
use Rattle.vab_device.specs.Kept.{IsDevice, ArePresent, AreParts, IsPart, IsStored}
use Rattle.vab_device.specs.Mounted.{mounted_on, blocks_there}
use Rattle.vab_device.specs.Reading.{Represents, IsOfBlocks}
use Rattle.vab_device.specs.Updates.{effect_on}
use Rattle.vab_device.proofs.NamedParts.{all_set}
use Rattle.vab_flash.specs.declared.chosen.Destination.{Destination}
use Rattle.vab_flash.specs.declared.chosen.Destination.TheVariants.{Store, Blocks}
use Rattle.vab_flash.specs.Chosen.{destination_of, IsChosen}
use Rattle.vab_flash.specs.Chosen.{base_of_place, differing_at, store_at, store_long}
use Rattle.vab_flash.specs.Chosen.{needed_at, with_written}
use Rattle.vab_flash.specs.Place.{HasPlace, plan_or, planned_at, no_planned}
use Rattle.vab_flash.specs.Touched.{blocks_by, IsOfFlash}
use Rattle.vab_flash.proofs.InPlaceLaws.{represents_placed, effect_placed}
use Rattle.vab_flash.proofs.PlacedLaws.{of_store, of_blocks}
use Rattle.vab_flash.proofs.ReadyLaws.{planned_kept, store_kept, first_in, represents_stored}
use Rattle.vab_flash.proofs.ReadyLaws.{effect_stored}

-- the image in its store
pub stored : (d : Device) (size : ℕ) (old : Image) (device_is : IsDevice d size)
    (is : Represents d size old) (name : List ℕ) (staged : Option (List ℕ)) (place : ℕ)
    (bytes : List ℕ) (chosen : IsChosen d name staged place Store bytes)
    (chunk : Chunk) (whole : (s : ℕ) → s < size → length (old s) ≡ 512)
    (on_disk : All (λ s. s + 8 ≤ size) (base_of_place d place))
    (mid : Image) (es : List Exception) (free : ℕ) (status : PartStatus)
    → needed_at chunk d place old bytes ≤ store_long d place
    → es ≡ planned_of chunk (differing_at chunk d place old bytes)
    → Fits chunk (length (planned_at d place).map) (store_at d place) es
    → SameBut (InSectors (InFirst (store_at d place) (needed_at chunk d place old bytes))) old mid
    → scan_of chunk (store_at d place) (length (planned_at d place).map) mid ≡ Ok es
    → HoldsBlocks chunk (base_of_place d place) (store_at d place) es mid bytes
    (length (planned_at d place).map)
    → IsFirstFree old (Some free)
    → IsOfStatuses free
    → status ≡ record { name = name; image = Stored (length es) chunk }
    → status_of (status_spelling status) ≡ Ok status
    → (effect_on (mounted_on d old) staged (Flash name chunk)
    ≡ wanting true (does Done (mounted_on (with_written d place chunk es)
    (set_sector mid free (status_spelling status)))))
    × Represents (with_written d place chunk es) size
    (set_sector mid free (status_spelling status))
stored d size old device_is is name staged place bytes chosen chunk whole on_disk mid es free status
    room es_is fits but scan holds first there status_is read =
    let decoded : status_of (status_spelling status)
    ≡ Ok (record { name = name; image = Stored (length es) chunk }) = read ∙ ap Ok status_is in (
      effect_stored d size old device_is is name staged place bytes chosen chunk whole on_disk mid
          es free (status_spelling status) room es_is fits but scan holds
          (λ l h. sym (first_is_free old l (Some free) h first)) there decoded,
      represents_stored d size old device_is is name staged place bytes chosen chunk whole on_disk
          mid es free (status_spelling status) room es_is fits but scan holds
          (λ l h. sym (first_is_free old l (Some free) h first)) there decoded,
    )

-- the image in the partition's own blocks
pub placed : (d : Device) (size : ℕ) (old : Image) (device_is : IsDevice d size)
    (is : Represents d size old) (name : List ℕ) (staged : Option (List ℕ)) (place : ℕ)
    (bytes : List ℕ) (chosen : IsChosen d name staged place Blocks bytes)
    (chunk : Chunk) (mid : Image) (free : ℕ) (status : PartStatus)
    → SameBut (InSectors (InFirst (planned_at d place).map (length (planned_at d place).map))) old
    mid
    → HoldsImage (planned_at d place).map bytes mid (length (planned_at d place).map)
    → IsFirstFree old (Some free)
    → IsOfStatuses free
    → status ≡ record { name = name; image = InPlace }
    → status_of (status_spelling status) ≡ Ok status
    → (effect_on (mounted_on d old) staged (Flash name chunk)
    ≡ does Done (mounted_on (with_written d place One [])
    (set_sector mid free (status_spelling status))))
    × Represents (with_written d place One []) size (set_sector mid free (status_spelling status))
placed d size old device_is is name staged place bytes chosen chunk mid free status but holds first
    there status_is read =
    let decoded : status_of (status_spelling status)
    ≡ Ok (record { name = name; image = InPlace }) = read ∙ ap Ok status_is in (
      effect_placed d size old device_is is name staged place bytes chosen mid free
          (status_spelling status) but holds
          (λ l h. sym (first_is_free old l (Some free) h first)) there decoded chunk,
      represents_placed d size old device_is is name staged place bytes chosen mid free
          (status_spelling status) but holds
          (λ l h. sym (first_is_free old l (Some free) h first)) there decoded,
    )

-- the name of a status
pub name_short : (d : Device) (size place : ℕ) (q : Part)
    → IsDevice d size
    → place < length (plan_or d.plan)
    → q ≡ planned_at d place
    → length q.name ≤ 34
name_short d size place q is below same =
    let planned = planned_kept d size place is below in
    omega (
      arith,
      ap (λ (x : Part). length x.name) same,
      base_short (planned_at d place).name planned.name,
    )

pub name_is : (d : Device) (name : List ℕ) (place : ℕ)
    → HasPlace d name place
    → (planned_at d place).name ++ suffix_of (other_slot d.mark.slot) ≡ name
name_is d name place has =
    let at = position-Some (λ p. bytes_eq p.name (base_of name)) has.plan place no_planned
    has.place_is in
    let whole : plan_or d.plan ≡ has.plan = ap plan_or has.plan_is in
    let base : (planned_at d place).name ≡ base_of name =
    ap (λ (ps : List Part). (get_or ps place no_planned).name) whole
    ∙ same_name _ (base_of name) at.1 in
    ap (λ (b : List ℕ). b ++ suffix_of (other_slot d.mark.slot)) base
    ∙ sym (of_slot (other_slot d.mark.slot) name (full_slot (other_slot d.mark.slot) name has.full))

-- ---- what is kept then

pub written_kept : (d : Device) (size : ℕ) (name : List ℕ) (staged : Option (List ℕ)) (place : ℕ)
    (to : Destination) (bytes : List ℕ) (chunk : Chunk) (es : List Exception)
    → IsDevice d size
    → IsChosen d name staged place to bytes
    → IsStored d.tail.super_end (planned_at d place).map (planned_at d place).store
    (Written chunk es)
    → IsDevice (with_written d place chunk es) size
written_kept d size name staged place to bytes chunk es is chosen stored_is =
    let plan_is = chosen.has.plan_is in
    let whole : plan_or d.plan ≡ chosen.has.plan = ap plan_or plan_is in
    let all : AreParts d.tail.super_end (plan_or d.plan) =
    subst (AreParts d.tail.super_end) (sym whole)
    (subst (λ (o : Option (List Part)). ArePresent d.tail.super_end o) plan_is is.plan) in
    let old : IsPart d.tail.super_end (planned_at d place) =
    planned_kept d size place is chosen.within in
    let one : IsPart d.tail.super_end
    (record (planned_at d place) { image = Written chunk es }) = record {
      name = old.name;
      on_disk = old.on_disk;
      once = old.once;
      small = old.small;
      store = stored_is;
    } in
    record {
      enough = is.enough;
      ends = is.ends;
      geometry = is.geometry;
      control = is.control;
      phase = is.phase;
      slot = is.slot;
      flags = is.flags;
      current = is.current;
      has_a = is.has_a;
      has_b = is.has_b;
      copies_on = is.copies_on;
      parts_a = is.parts_a;
      parts_b = is.parts_b;
      table_a = is.table_a;
      table_b = is.table_b;
      source = is.source;
      target = is.target;
      planned = ap (λ (o : Option (List Part)). is_some o) (sym plan_is) ∙ is.planned;
      plan = record {
        each = all_set (IsPart d.tail.super_end) (plan_or d.plan) place
            (record (planned_at d place) { image = Written chunk es }) all.each one;
        few = omega (
          arith,
          all.few,
          length-set (plan_or d.plan) place
              (record (planned_at d place) { image = Written chunk es }),
        );
      };
      update = is.update;
      overlaid = is.overlaid;
      overlay = is.overlay;
    }

-- in its store the exceptions keep the rules of a list
pub kept_stored : (d : Device) (size : ℕ) (name : List ℕ) (staged : Option (List ℕ)) (place : ℕ)
    (bytes : List ℕ) (chunk : Chunk) (es : List Exception)
    → IsDevice d size
    → IsChosen d name staged place Store bytes
    → Fits chunk (length (planned_at d place).map) (store_at d place) es
    → IsDevice (with_written d place chunk es) size
kept_stored d size name staged place bytes chunk es is chosen fits =
    let there = of_store d.mark.apart (planned_at d place).store chosen.fits.goes in
    written_kept d size name staged place Store bytes chunk es is chosen
    (subst
    (λ (o : Option (List ℕ)).
    IsStored d.tail.super_end (planned_at d place).map o (Written chunk es))
    (sym there) (
      store_kept d.tail.super_end (planned_at d place) (store_at d place)
          (planned_kept d size place is chosen.within) there,
      fits,
    ))

-- in place there are none
pub kept_placed : (d : Device) (size : ℕ) (name : List ℕ) (staged : Option (List ℕ)) (place : ℕ)
    (bytes : List ℕ)
    → IsDevice d size
    → IsChosen d name staged place Blocks bytes
    → IsDevice (with_written d place One []) size
kept_placed d size name staged place bytes is chosen =
    let none = (of_blocks d.mark.apart (planned_at d place).store chosen.fits.goes).0 in
    written_kept d size name staged place Blocks bytes One [] is chosen
    (subst
    (λ (o : Option (List ℕ)).
    IsStored d.tail.super_end (planned_at d place).map o (Written One []))
    (sym none) refl)

-- ---- what is written

pub by_stored : (apart : Bool) (store : Option (List ℕ)) (own : List ℕ)
    → destination_of apart store ≡ Some Store
    → blocks_by apart store own ≡ blocks_there store
by_stored apart (Some store) own goes = refl
by_stored true None own goes = absurd (let no : Some Blocks ≡ Some Store = goes in cc)
by_stored false None own goes = absurd (let no : None ≡ Some Store = goes in cc)

pub by_placed : (apart : Bool) (store : Option (List ℕ)) (own : List ℕ)
    → destination_of apart store ≡ Some Blocks
    → blocks_by apart store own ≡ own
by_placed apart (Some store) own goes =
    absurd (let no : Some Store ≡ Some Blocks = goes in cc)
by_placed true None own goes = refl
by_placed false None own goes = absurd (let no : None ≡ Some Blocks = goes in cc)

pub by_none : (apart : Bool) (store : Option (List ℕ)) (own : List ℕ)
    → destination_of apart store ≡ None
    → blocks_by apart store own ≡ []
by_none apart (Some store) own goes = absurd (let no : Some Store ≡ None = goes in cc)
by_none true None own goes = absurd (let no : Some Blocks ≡ None = goes in cc)
by_none false None own goes = refl

pub in_flash : (d : Device) (name : List ℕ) (staged : Option (List ℕ)) (place : ℕ)
    (bytes : List ℕ) (n : ℕ)
    → IsChosen d name staged place Store bytes
    → n ≤ store_long d place
    → (s : ℕ) (b : List ℕ)
    → InSectors (InFirst (store_at d place) n) s b
    → IsOfFlash d name s b
in_flash d name staged place bytes n chosen room s b w = record {
  place = place;
  has = chosen.has;
  writes =
      inl (subst (λ (ss : List ℕ). IsOfBlocks ss s)
      (sym (by_stored d.mark.apart (planned_at d place).store (planned_at d place).map
      chosen.fits.goes))
      (first_in (store_at d place) n s room w));
}

pub own_in_flash : (d : Device) (name : List ℕ) (staged : Option (List ℕ)) (place : ℕ)
    (bytes : List ℕ)
    → IsChosen d name staged place Blocks bytes
    → (s : ℕ) (b : List ℕ)
    → InSectors (InFirst (planned_at d place).map (length (planned_at d place).map)) s b
    → IsOfFlash d name s b
own_in_flash d name staged place bytes chosen s b w = record {
  place = place;
  has = chosen.has;
  writes =
      inl (subst (λ (ss : List ℕ). IsOfBlocks ss s)
      (sym (by_placed d.mark.apart (planned_at d place).store (planned_at d place).map
      chosen.fits.goes))
      (first_in (planned_at d place).map (length (planned_at d place).map) s (omega arith) w));
}

pub status_in_flash : (d : Device) (name : List ℕ) (place free : ℕ) (image : StatusImage)
    (status : PartStatus)
    → HasPlace d name place
    → IsOfStatuses free
    → status ≡ record { name = name; image = image }
    → (s : ℕ) (b : List ℕ)
    → IsAt free (status_spelling status) s b
    → IsOfFlash d name s b
status_in_flash d name place free image status has there is s b at = record {
  place = place;
  has = has;
  writes = inr (record {
    there = subst IsOfStatuses (sym at.0) there;
    image = image;
    is = at.1 ∙ ap status_spelling is;
  });
}
