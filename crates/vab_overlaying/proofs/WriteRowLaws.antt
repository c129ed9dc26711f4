-- What a write over the overlaid partition makes of a device.
use Rattle.std.proofs.Common.{◌≡◌, ◌∙◌, ℕ, ◌+◌, ◌*◌, ◌≤◌, ◌<◌, List, length, get_or, refl, sym, ap}
use Rattle.std.proofs.Common.{subst, arith, true, false, eq-eqb}
use Rattle.std.specs.Prelude.{Option, Some, None, ◌==◌, nat_le, nat_lt}
use Rattle.std.proofs.lemmas.Bool.{lt-ltb, le-ltb, le-leb, lt-leb}
use Rattle.std.proofs.lemmas.List.Elements.{All-get_or}
use Rattle.vab_disk.specs.Disk.{Image}
use Rattle.vab_space.specs.Space.{need_of}
use Rattle.vab_space.specs.declared.Chunk.TheVariants.{One}
use Rattle.vab_overlay.specs.Overlaid.{MayOverlay}
use Rattle.vab_model.specs.declared.command.Refusal.TheVariants as refusals
use Rattle.vab_model.specs.declared.command.Reply.TheVariants as replies
use Rattle.vab_model.specs.declared.state.Overlay.{Overlay}
use Rattle.vab_model.specs.declared.state.State.{State}
use Rattle.vab_model.specs.Commands.{OverlayWrite}
use Rattle.vab_model.specs.Effects.{does, refuses, wanting, effect_map}
use Rattle.vab_model.specs.Machine.{machine_effect}
use Rattle.vab_model.specs.Over.{written_over}
use Rattle.vab_model.specs.Overlay.{with_overlay, if_room, write_row}
use Rattle.vab_model.specs.Plans.{blocks_in}
use Rattle.vab_device.specs.declared.device.Part.{Part}
use Rattle.vab_device.specs.declared.device.PartImage.TheVariants.{Written}
use Rattle.vab_device.specs.declared.device.Device.{Device}
use Rattle.vab_device.specs.Kept.{IsDevice, IsPart, IsOverlay, IsOverlaidOn, parts_at}
use Rattle.vab_device.specs.Mounted.{Mounted, mounted_on, state_on, overlay_by, overlay_on}
use Rattle.vab_device.specs.Mounted.{in_state}
use Rattle.vab_device.specs.Mounted.{bytes_at, sectors_read, blocks_there}
use Rattle.vab_device.specs.Updates.{effect_on}
use Rattle.vab_device.specs.Mounted.{exceptions_in}
use Rattle.vab_overlaying.proofs.SeenLaws.{bytes_long}

-- ---- the overlaid partition of a device

-- it is on a slot with images
on_slot : (size : ℕ) (parts : Option (List Part)) (p : Part)
    → IsOverlay size parts (Some p)
    → (ps : List Part) × (parts ≡ Some ps) × IsOverlaidOn size ps p
on_slot size None p is = absurd is
on_slot size (Some ps) p is = (ps, refl, is)

pub overlaid_on : (d : Device) (size : ℕ) (p : Part)
    → IsDevice d size
    → d.overlay ≡ Some p
    → (ps : List Part) × (parts_at d d.mark.slot ≡ Some ps) × IsOverlaidOn d.tail.super_end ps p
overlaid_on d size p is over =
    on_slot d.tail.super_end (parts_at d d.mark.slot) p
    (subst (λ (o : Option Part). IsOverlay d.tail.super_end (parts_at d d.mark.slot) o) over
    is.overlay)

module _ (super_end : ℕ) (ps : List Part) (p : Part) (is : IsOverlaidOn super_end ps p) where
  abbrev q : Part
  q = record p { store = Some is.store; image = Written One is.exceptions }

  pub shape : p ≡ record p { store = Some is.store; image = Written One is.exceptions }
  shape = (λ i. record p { store = is.stored i; image = is.written i })

  part_is : IsPart super_end q
  part_is = subst (IsPart super_end) shape is.part

  -- on a disk on which `super` ends
  module _ (size : ℕ) (ends : super_end ≤ size) where
    -- its blocks are of 4096 bytes each, where each sector is of 512
    pub over_long : (image : Image)
        → ((s : ℕ) → s < size → length (image s) ≡ 512)
        → length (bytes_at image (sectors_read p)) ≡ 4096 * length p.map
    over_long image whole =
        ap (λ (x : Part). length (bytes_at image (sectors_read x))) shape
        ∙ bytes_long p.map is.store is.exceptions image part_is.store.1 super_end
        (λ s lt. whole s (omega (arith, lt, ends)))
        part_is.on_disk
        part_is.store.0.on_disk

    -- a block of it may be written into its store
    pub may_over : (block : ℕ)
        → block < length p.map
        → MayOverlay (blocks_there p.store) (exceptions_in p.image) block size
    may_over block inside =
        let store_on = part_is.store.0.on_disk in
        subst (λ (x : Part). MayOverlay (blocks_there x.store) (exceptions_in x.image) block size)
        (sym shape)
        (record {
          bound = length p.map;
          above = inside;
          fits = part_is.store.1;
          on_disk = λ i below.
              let on : get_or is.store i 0 + 8 ≤ super_end =
              All-get_or (λ (s : ℕ). s + 8 ≤ super_end) is.store i 0 below store_on in
              omega (arith, on, ends);
        })

-- ---- the machine's row

rows_to_room : (s : State) (o : Overlay) (block : ℕ) (bytes : List ℕ)
    → length bytes ≡ 4096
    → block < blocks_in o.bytes
    → write_row s (Some bytes) block (Some o) ≡ if_room s o block bytes
rows_to_room s o block bytes long inside =
    let is_long : (length bytes == 4096) ≡ true = eq-eqb (length bytes) 4096 long in
    let is_inside : nat_lt block (blocks_in o.bytes) ≡ true =
    lt-ltb block (blocks_in o.bytes) inside in
    rw (is_long, is_inside) refl

room_done : (s : State) (o : Overlay) (block : ℕ) (bytes : List ℕ)
    → need_of (length o.blocks + 1) ≤ o.store
    → if_room s o block bytes
    ≡ wanting true (does replies.Done (with_overlay s (Some (written_over block bytes o))))
room_done s o block bytes room =
    let has : nat_le (need_of (length o.blocks + 1)) o.store ≡ true =
    le-leb (need_of (length o.blocks + 1)) o.store room in
    rw has refl

room_full : (s : State) (o : Overlay) (block : ℕ) (bytes : List ℕ)
    → o.store < need_of (length o.blocks + 1)
    → if_room s o block bytes ≡ refuses (refusals.StoreFull (need_of (length o.blocks + 1)) o.store)
room_full s o block bytes full =
    let has : nat_le (need_of (length o.blocks + 1)) o.store ≡ false =
    lt-leb (need_of (length o.blocks + 1)) o.store full in
    rw has refl

module _ (d : Device) (image : Image) (block : ℕ) where
  abbrev m : Mounted
  m = mounted_on d image

  -- of what is overlaid
  row_of : (staged : Option (List ℕ)) (o : Option Overlay)
      → overlay_on image d.overlay ≡ o
      → effect_on (mounted_on d image) staged (OverlayWrite block)
      ≡ effect_map (in_state (mounted_on d image)) (write_row (state_on d image) staged block o)
  unfolding state_on machine_effect
  row_of staged o is =
      ap
      (λ (x : Option Overlay). effect_map (in_state (mounted_on d image))
      (write_row (state_on d image) staged block x))
      is

  pub not_overlaid : (staged : Option (List ℕ))
      → d.overlay ≡ None
      → effect_on (mounted_on d image) staged (OverlayWrite block) ≡ refuses refusals.NotOverlaid
  not_overlaid staged none = row_of staged None (ap (overlay_on image) none)

  module _ (p : Part) (over : d.overlay ≡ Some p) where
    pub nothing_staged : effect_on (mounted_on d image) None (OverlayWrite block)
        ≡ refuses refusals.NothingStaged
    nothing_staged = row_of None (Some (overlay_by image p)) (ap (overlay_on image) over)

    pub bad_length : (bytes : List ℕ)
        → (length bytes == 4096) ≡ false
        → effect_on (mounted_on d image) (Some bytes) (OverlayWrite block)
        ≡ refuses (refusals.BadLength (length bytes))
    bad_length bytes other =
        row_of (Some bytes) (Some (overlay_by image p)) (ap (overlay_on image) over)
        ∙ rw other refl

    module _ (bytes : List ℕ) (long : length bytes ≡ 4096)
        (blocks : length (bytes_at image (sectors_read p)) ≡ 4096 * length p.map) where
      count : blocks_in (overlay_by image p).bytes ≡ length p.map
      count = omega (arith, blocks)

      pub bad_block : length p.map ≤ block
          → effect_on (mounted_on d image) (Some bytes) (OverlayWrite block)
          ≡ refuses (refusals.BadBlock block (length p.map))
      bad_block outside =
          let is_long : (length bytes == 4096) ≡ true = eq-eqb (length bytes) 4096 long in
          let out : nat_lt block (length p.map) ≡ false =
          le-ltb block (length p.map) outside in
          row_of (Some bytes) (Some (overlay_by image p)) (ap (overlay_on image) over)
          ∙ rw (is_long, count, out) refl

      module _ (inside : block < length p.map) where
        to_room : effect_on (mounted_on d image) (Some bytes) (OverlayWrite block)
            ≡ effect_map (in_state (mounted_on d image))
            (if_room (state_on d image) (overlay_by image p) block bytes)
        to_room =
            row_of (Some bytes) (Some (overlay_by image p)) (ap (overlay_on image) over)
            ∙ ap (effect_map (in_state (mounted_on d image)))
            (rows_to_room (state_on d image) (overlay_by image p) block bytes long
            (omega (arith, inside, count)))

        pub store_full : (overlay_by image p).store
            < need_of (length (overlay_by image p).blocks + 1)
            → effect_on (mounted_on d image) (Some bytes) (OverlayWrite block)
            ≡ refuses
            (refusals.StoreFull (need_of (length (overlay_by image p).blocks + 1))
            (overlay_by image p).store)
        store_full full =
            to_room
            ∙ ap (effect_map (in_state (mounted_on d image)))
            (room_full (state_on d image) (overlay_by image p) block bytes full)

        pub is_done : need_of (length (overlay_by image p).blocks + 1)
            ≤ (overlay_by image p).store
            → effect_on (mounted_on d image) (Some bytes) (OverlayWrite block)
            ≡ wanting true
            (does replies.Done
            (in_state (mounted_on d image)
            (with_overlay (state_on d image)
            (Some (written_over block bytes (overlay_by image p))))))
        is_done room =
            to_room
            ∙ ap (effect_map (in_state (mounted_on d image)))
            (room_done (state_on d image) (overlay_by image p) block bytes room)
