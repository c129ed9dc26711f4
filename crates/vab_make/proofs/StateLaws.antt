-- A disk with all the parts of the device is the device.
use Rattle.std.proofs.Common.{◌≡◌, ◌∙◌, ℕ, suc, ◌+◌, ◌*◌, ◌<◌, ◌≤◌, ◌^◌, true, false, leb, List, []}
use Rattle.std.proofs.Common.{◌∷◌, length, get_or, take, codes, Result, Ok, refl, sym, ap, subst}
use Rattle.std.proofs.Common.{arith}
use Rattle.std.specs.Prelude.{All, map, Some, None}
use Rattle.std.specs.List.{range_with_len}
use Rattle.std.proofs.lemmas.Bool.{le-leb, and_from}
use Rattle.std.proofs.lemmas.List.Elements.{All-head, All-tail}
use Rattle.std.proofs.lemmas.List.Sums.{sum_by-cons}
use Rattle.vab_disk.specs.Disk.{Image}
use Rattle.vab_names.specs.Names.{is_of_slot, base_of}
use Rattle.vab_names.proofs.NameLaws.{base_of-append}
use Rattle.vab_space.specs.Space.{blocks_of}
use Rattle.vab_marks.specs.declared.mark.UpdateMark.{UpdateMark}
use Rattle.vab_marks.specs.declared.mark.MarkPhase.TheVariants as marks
use Rattle.vab_marks.specs.declared.sector.MarkFault.{MarkFault}
use Rattle.vab_marks.specs.Mark.{mark_of, mark_at}
use Rattle.vab_geometry.specs.declared.geometry.Geometry.{Geometry}
use Rattle.vab_geometry.specs.Geometry.{IsGeometry}
use Rattle.vab_geometry.specs.Reading.{geometry_of}
use Rattle.vab_geometry.specs.Loading.{geometry_in, first_of}
use Rattle.vab_lpstore.specs.Layout.{copy_sectors, text_sectors}
use Rattle.vab_lpstore.proofs.StoreLaws.{both_table, text_fits}
use Rattle.vab_set.specs.declared.set.SetImage.{SetImage}
use Rattle.vab_set.specs.Spelling.{IsImage}
use Rattle.vab_tables.specs.declared.entries.Group.{Group}
use Rattle.vab_tables.specs.Rules.{cap_of}
use Rattle.vab_layout.specs.declared.layout.Layout.{Layout}
use Rattle.vab_layout.specs.Layout.{layout_of, table_of}
use Rattle.vab_layout.specs.Plain.{plain}
use Rattle.vab_layout.proofs.LayoutLaws.{layout_again}
use Rattle.vab_model.specs.declared.state.Image.{Image as ImageOfSlot}
use Rattle.vab_model.specs.declared.state.GroupLimit.{GroupLimit}
use Rattle.vab_model.specs.declared.state.Phase.TheVariants as phases
use Rattle.vab_device.specs.declared.device.Part.{Part}
use Rattle.vab_device.specs.Idle.{idle_read}
use Rattle.vab_device.specs.Kept.{sectors_of, part_on, parts_of, limits_of, super_bytes, copies_end}
use Rattle.vab_device.specs.Kept.{lies_in}
use Rattle.vab_device.specs.Mounted.{Mounted, bytes_at, image_on, state_on, mounted_on}
use Rattle.vab_device.specs.Phases.{own_check}
use Rattle.vab_device.specs.Reading.{Read, mark_read, mark_in, geometry_read, geometry_at}
use Rattle.vab_device.specs.Reading.{table_read, table_at, tail_at, whole_disk, kept, Reads}
use Rattle.vab_device.proofs.IdleLaws.{reads_idle}
use Rattle.vab_device.proofs.OpeningLaws.{control_seen_in}
use Rattle.vab_device.proofs.ReadingLaws.{device_of}
use Rattle.vab_make.specs.Made.{parts_from, made_layout, made_geometry, made_places, made_control}
use Rattle.vab_make.specs.Made.{filled, made_image, made_state, made_device_of, set_blocks}
use Rattle.vab_make.specs.Making.{IsMade}
use Rattle.vab_make.specs.Prepared.{IsMost, IsPrepared}
use Rattle.vab_make.specs.Steps.{HoldsBlocks, HasAll}
use Rattle.vab_make.proofs.LayoutLaws.{part_at, made_groups, layout_keeps, own_all, parts_pass}
use Rattle.vab_make.proofs.BlockLaws.{blocks_bytes, blocks_moved}
use Rattle.vab_names.specs.Names.{most_partitions}
use Rattle.vab_marks.specs.declared.version.MarkVersion.TheVariants.{Two}
use Rattle.vab_marks.specs.Version.{version_in, partitions_under}
use Rattle.vab_device.specs.Reading.{most_at}

-- ---- images

-- the images of a set stand from this block on
abbrev StandsFrom : ℕ → List SetImage → Image → Type 0
StandsFrom at set image =
    (j : ℕ) (d : SetImage)
    → j < length set
    → HoldsBlocks (blocks_of (get_or set j d).size) (6144 + 8 * (at + set_blocks (take j set)))
    (get_or set j d).bytes image

image_is : (at : ℕ) (x : SetImage) (image : Image)
    → IsImage x
    → HoldsBlocks (blocks_of x.size) (6144 + 8 * at) x.bytes image
    → image_on image (part_on 2048 (part_at at x)) ≡ made_image x
image_is at x image is holds =
    let make : List ℕ → List ℕ → List ℕ → ImageOfSlot =
    λ name group bytes. record { name = name; group = Some group; bytes = bytes } in
    let bytes : bytes_at image (sectors_of 2048 (range_with_len at (blocks_of x.size))) ≡ filled x =
    blocks_bytes (blocks_of x.size) at x.bytes image (omega (arith, is.short)) holds in
    (λ i. make (base_of-append 0 x.name i) (base_of-append 0 (codes "main") i) (bytes i))

-- where the partitions of the set stand on the disk
abbrev stood : ℕ → List SetImage → List Part
stood at set = map (part_on 2048) (parts_from at set)

images_are : (at : ℕ) (set : List SetImage) (image : Image)
    → All IsImage set
    → StandsFrom at set image
    → map (image_on image) (stood at set) ≡ map made_image set
images_are at [] image all stand = refl
images_are at (x ∷ xs) image all stand =
    let next : ℕ = at + blocks_of x.size in
    let first : 6144 + 8 * (at + 0) ≡ 6144 + 8 * at = omega arith in
    let here =
    image_is at x image (All-head IsImage x xs all)
    (blocks_moved (blocks_of x.size) (6144 + 8 * (at + 0)) (6144 + 8 * at) x.bytes image first
    (stand 0 x (omega arith))) in
    let rest : StandsFrom next xs image =
    λ j d lt.
    let sum = sum_by-cons (λ (y : SetImage). blocks_of y.size) x (take j xs) in
    let place : 6144 + 8 * (at + set_blocks (x ∷ take j xs))
    ≡ 6144 + 8 * (at + blocks_of x.size + set_blocks (take j xs)) =
    omega (arith, sum) in
    blocks_moved (blocks_of (get_or xs j d).size) _ _ (get_or xs j d).bytes image place
    (stand (suc j) d (omega (arith, lt))) in
    (λ i. here i ∷ images_are next xs image (All-tail IsImage x xs all) rest i)

limits_are : (limit : ℕ)
    → (let one : List GroupLimit = record { name = codes "main"; limit = limit } ∷ [] in
    limits_of 0 (made_groups limit) ≡ one)
unfolding is_of_slot base_of
limits_are limit = refl

-- ---- the parts of the disk

pub most_geometry : (max : ℕ) → IsMost max → IsGeometry (made_geometry max)
most_geometry max most = record {
  sectors = most.sectors;
  least = most.least;
  most = omega (arith, most.most);
  two = omega arith;
  eight = omega arith;
}

-- the mark of a device without an update, with images in slot a
abbrev pub idle_one : UpdateMark
idle_one = mark_at marks.Idle 0

-- the bytes are those of this mark, of version 2
pub record IsIdle (bytes : List ℕ) : Type 0 where
  pub mark : (let is : Result UpdateMark MarkFault = Ok idle_one in mark_of bytes ≡ is)
  pub version : version_in bytes ≡ Two

mark_is : (image : Image) → IsIdle (image 2048) → mark_in image ≡ Ok idle_one
unfolding mark_in
mark_is image idle = ap mark_read idle.mark

-- no physical partitions stand behind `super`
ends_with : (size : ℕ) (image : Image)
    → tail_at idle_one.physical size image ≡ Ok (whole_disk size)
unfolding tail_at
ends_with size image = refl

geometry_is : (max size : ℕ) (image : Image)
    → IsMost max
    → 6152 ≤ size
    → geometry_of (image 4104) ≡ Ok (made_geometry max)
    → geometry_at size image ≡ Ok (made_geometry max)
unfolding geometry_at geometry_in
geometry_is max size image most enough primary =
    let ends : leb (copies_end (made_geometry max)) (super_bytes size) ≡ true =
    le-leb _ _ (omega (arith, most.most, enough)) in
    ap (λ r. geometry_read size (first_of r (geometry_of (image 4112)))) primary ∙ rw ends refl

module _
    (set : List SetImage) (limit max size : ℕ) (text : List ℕ) (image : Image)
    (small : size < 2 ^ 55) (is : IsPrepared set limit max size text)
    (has : HasAll set max text image) where
  abbrev made : Layout
  made = made_layout set limit size

  again : layout_of (table_of made) ≡ made
  again = layout_again made (layout_keeps set limit size is.room is.limited small)

  table_is : table_at size (made_geometry max) 0 image ≡ Ok (table_of made)
  unfolding table_at made_layout
  table_is =
      let g : Geometry = made_geometry max in
      let table = both_table g 0 text (table_of made) image has.places.table is.stands in
      let ends : leb (copies_end g) 1048576 ≡ true = le-leb _ _ (omega (arith, is.most.most)) in
      let within : leb (super_bytes size) (super_bytes size) ≡ true = le-leb _ _ (omega arith) in
      let lies : lies_in size g made.device ≡ true = and_from _ _ within ends in
      ap (table_read size g 0) table ∙ rw (again, lies) refl

  parts_are : own_check most_partitions 0 (table_of made) ≡ None
  unfolding made_layout
  parts_are = rw (again, parts_pass set is.room.images) refl

  parts_read : IsIdle (image 2048) → own_check (most_at image) 0 (table_of made) ≡ None
  parts_read idle =
      subst (λ v. own_check (partitions_under v) 0 (table_of made) ≡ None) (sym idle.version)
      parts_are

  -- what is read of the disk
  abbrev reading : Read
  reading =
      idle_read idle_one made_control (whole_disk size) (made_geometry max) (table_of made)

  reads : IsIdle (image 2048) → Reads size reading image
  reads mark =
      reads_idle size image idle_one
      (le-leb 4120 size (omega (arith, is.room.enough))) (mark_is image mark) refl
      made_control (whole_disk size) (made_geometry max) (table_of made) refl
      (control_seen_in true false image made_control has.control)
      (ends_with size image)
      (geometry_is max size image is.most is.room.enough has.places.primary)
      table_is (parts_read mark) refl

  -- ---- what it means

  -- of a table with this layout and these groups
  abbrev meant : Layout → List Group → Mounted
  meant l groups = record {
    state = record {
      cap = cap_of l.device;
      groups = limits_of 0 groups;
      control = made_control;
      a = Some (map (image_on image) (parts_of 0 l));
      b = None;
      physical = [];
      phase = phases.Idle;
      overlay = None;
    };
    places = record { geometry = made_geometry max; a = Some (plain 0 l); b = None };
  }

  of_read : mounted_on (kept reading) image
      ≡ meant (layout_of (table_of made)) (table_of made).groups
  unfolding state_on
  of_read = refl

  of_made : meant made (made_groups limit) ≡ made_device_of set limit max size
  unfolding made_layout made_state made_places
  of_made =
      let stand : StandsFrom 0 set image =
      λ j d lt.
      let place : 6144 + 8 * set_blocks (take j set) ≡ 6144 + 8 * (0 + set_blocks (take j set)) =
      omega arith in
      blocks_moved (blocks_of (get_or set j d).size) _ _ (get_or set j d).bytes image place
      (has.images j d lt) in
      let images : map (image_on image) (parts_of 0 made) ≡ map made_image set =
      ap (λ parts. map (image_on image) (map (part_on 2048) parts)) (own_all 0 set)
      ∙ images_are 0 set image is.room.images.each stand in
      rw (images, limits_are limit) refl

  groups_are : (table_of made).groups ≡ made_groups limit
  unfolding table_of made_layout
  groups_are = refl

  -- where all the parts stand and the mark is Idle, the disk is the device
  pub all_made : IsIdle (image 2048) → IsMade set limit max size image
  all_made mark =
      device_of size reading image (reads mark)
      ∙ ap Ok (of_read ∙ (λ i. meant (again i) (groups_are i)) ∙ of_made)

-- ---- the copies of the table

-- a text of at most the maximum has room in a copy
pub geometry_fits : (g : Geometry) (n : ℕ)
    → IsMost g.max
    → g.slots ≡ 2
    → n ≤ g.max
    → text_sectors n ≤ copy_sectors g
geometry_fits g n most two le =
    text_fits g n
    (record {
      sectors = most.sectors;
      least = most.least;
      most = omega (arith, most.most);
      two = omega (arith, two);
      eight = omega (arith, two);
    })
    le
