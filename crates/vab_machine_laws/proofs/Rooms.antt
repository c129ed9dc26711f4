-- The blocks in use, by a table's partitions and by the plan that it has.
use Rattle.std.proofs.Common.{◌≡◌, ◌∙◌, ℕ, Bool, true, false, cond}
use Rattle.std.proofs.Common.{List, [], ◌∷◌, length, inl, inr, refl, sym, ap, arith}
use Rattle.std.specs.Prelude.{Some, map, option_map, Contains, nat_le}
use Rattle.std.specs.Str.{bytes_eq}
use Rattle.std.proofs.lemmas.Bool.{cases_Bool}
use Rattle.std.proofs.lemmas.List.Elements.{All-contains}
use Rattle.vab_disk.specs.Disk.{Image}
use Rattle.vab_names.specs.Names.{is_of_slot, base_of, in_slot, store_of}
use Rattle.vab_names.proofs.NameCases.{same_name, in_slot_is}
use Rattle.vab_space.specs.declared.Want.{Want}
use Rattle.vab_space.specs.Space.{used_of}
use Rattle.vab_tables.specs.Rules.{cap_of}
use Rattle.vab_blocks.proofs.Contained.{first, later, of_filter, in_map}
use Rattle.vab_layout.specs.declared.layout.Part.{Part}
use Rattle.vab_layout.specs.declared.layout.Layout.{Layout}
use Rattle.vab_layout.specs.Plain.{plain}
use Rattle.vab_layout.specs.Slots.{other_slot, own_parts, twins_by, blocks_named, before_of}
use Rattle.vab_builder.specs.Sizes.{source_sizes, want_of, used_by}
use Rattle.vab_builder.proofs.PartLaws.{named_own}
use Rattle.vab_builder.proofs.SlotLaws.{other_slot_again}
use Rattle.vab_model.specs.declared.state.Image.{Image as ImageOfSlot}
use Rattle.vab_model.specs.declared.state.PlanEntry.{PlanEntry}
use Rattle.vab_model.specs.declared.state.Plan.{Plan}
use Rattle.vab_model.specs.declared.command.Refusal.TheVariants as refusals
use Rattle.vab_model.specs.Plans.{listed, images_of, bytes_named, blocks_in, store_blocks, in_use}
use Rattle.vab_model.specs.Plans.{twins_of, want_of as want_entry, at_entry, with_entries}
use Rattle.vab_model.specs.Machine.{unless, planned, if_room}
use Rattle.vab_device.specs.Kept.{sectors_of, part_on, parts_of, IsPart}
use Rattle.vab_device.specs.Mounted.{Mounted, image_on}
use Rattle.vab_device.specs.Stores.{first_named}
use Rattle.vab_device.specs.Updates.{entry_by}
use Rattle.vab_device.proofs.OwnParts.{length-sectors_of}
use Rattle.vab_edit.proofs.NamedLaws.{base_eq}
use Rattle.vab_edit.proofs.PlanLaws.{map_among, map_map}
use Rattle.vab_flash.proofs.SourceLaws.{full_or}
use Rattle.vab_targets.specs.Sectors.{HasWholeSectors}
use Rattle.vab_targets.proofs.EndLaws.{whole_front}
use Rattle.vab_targets.proofs.Sectors.{blocks_long}
use Rattle.vab_targets.proofs.Installed.{IsInstalled}
use Rattle.vab_machine_laws.proofs.Sources.{HasSource}

-- ---- stores

pub store_same : (name : List ℕ) (ps : List Part)
    → store_blocks (option_map (λ (s : Part). length s.blocks) (first_named name ps))
    ≡ length (blocks_named name ps)
store_same name [] = refl
store_same name (p ∷ ps) = elim (cases_Bool (bytes_eq p.name name)) [
  | inl t ↦ rw t refl
  | inr f ↦ rw f (store_same name ps)
]

-- ---- the images of the source

-- images are as long as their partitions
module _ (source : ℕ) (pic : Part → ImageOfSlot)
    (named : (p : Part) → (pic p).name ≡ base_of p.name) where
  pub before_by : (name : List ℕ) (ps : List Part)
      → ((p : Part) → Contains ps p → is_of_slot source p.name ≡ true)
      → ((p : Part) → Contains ps p → blocks_in (pic p).bytes ≡ length p.blocks)
      → blocks_in (bytes_named (base_of name) (map pic ps))
      ≡ length (blocks_named (in_slot source name) ps)
  before_by name [] of long = refl
  before_by name (p ∷ ps) of long =
      let same : bytes_eq (pic p).name (base_of name) ≡ bytes_eq p.name (in_slot source name) =
      ap (λ (n : List ℕ). bytes_eq n (base_of name)) (named p)
      ∙ full_or source name p (of p (first p ps)) in
      elim (cases_Bool (bytes_eq p.name (in_slot source name))) [
        | inl t ↦ rw (same, t) (long p (first p ps))
        | inr f ↦
            rw (same, f) (before_by name ps (λ q c. of q (later p ps q c))
            (λ q c. long q (later p ps q c)))
      ]

module _
    (size : ℕ) (image : Image) (m : Mounted) (source : ℕ) (plan : Plan)
    (whole : HasWholeSectors size image)
    (i : IsInstalled m source plan)
    (h : HasSource size image m source) where
  abbrev o : ℕ
  o = other_slot source

  abbrev at : ℕ
  at = h.l.device.first_logical_sector

  abbrev own : List Part
  own = own_parts source h.l.parts

  -- the twins of the target's partitions, and of the plan's entries
  abbrev twins : List Part
  twins = twins_by plan.apart i.s.parts

  abbrev pictured : List ImageOfSlot
  pictured = twins_of plan.apart (images_of m.state source)

  abbrev pic : Part → ImageOfSlot
  pic p = image_on image (part_on at p)

  plain_same : plain source i.s ≡ plain source h.l
  plain_same =
      (let a : Some (plain source i.s) ≡ Some (plain source h.l) = sym i.from ∙ h.from in cc)

  own_same : own_parts source i.s.parts ≡ own
  unfolding plain
  own_same = ap (λ (l : Layout). l.parts) plain_same

  device_same : i.s.device ≡ h.l.device
  unfolding plain
  device_same = ap (λ (l : Layout). l.device) plain_same

  pub cap_same : m.state.cap ≡ cap_of i.t.device
  cap_same = h.cap ∙ ap cap_of (sym device_same ∙ i.update.device)

  pictures_are : h.pictures ≡ map pic own
  pictures_are = h.are ∙ map_map (part_on at) (image_on image) own

  long : (p : Part) → Contains own p → blocks_in (pic p).bytes ≡ length p.blocks
  long p c =
      let on = (All-contains (IsPart h.super_end) (parts_of source h.l) (part_on at p) h.parts.each
      (in_map (part_on at) own p c)).on_disk in
      let bytes = blocks_long h.super_end image (sectors_of at p.blocks)
      (whole_front h.super_end size image h.ends whole) on in
      omega (arith, bytes, length-sectors_of at p.blocks)

  of_source : (p : Part) → Contains own p → is_of_slot source p.name ≡ true
  of_source p c = (of_filter (λ (x : Part). is_of_slot source x.name) h.l.parts p c).1

  images_same : images_of m.state source ≡ h.pictures
  images_same = ap listed h.images

  pub sizes_same : map (λ (x : ImageOfSlot). blocks_in x.bytes) (images_of m.state source)
      ≡ source_sizes o i.s.parts
  sizes_same =
      let blocks : ImageOfSlot → ℕ = λ x. blocks_in x.bytes in
      let count : Part → ℕ = λ p. length p.blocks in
      ap (map blocks) (images_same ∙ pictures_are)
      ∙ map_map pic blocks own
      ∙ map_among (λ p. blocks (pic p)) count own long
      ∙ ap (map count) (sym own_same)
      ∙ ap (λ (n : ℕ). map count (own_parts n i.s.parts)) (sym (other_slot_again source i.below))

  source_same : (name : List ℕ)
      → blocks_in (bytes_named (base_of name) (images_of m.state source))
      ≡ length (before_of o i.s.parts name)
  source_same name =
      ap (λ (x : List ImageOfSlot). blocks_in (bytes_named (base_of name) x))
      (images_same ∙ pictures_are)
      ∙ before_by source pic (λ p. refl) name own of_source long
      ∙ ap (λ (ps : List Part). length (blocks_named (in_slot source name) ps)) (sym own_same)
      ∙ ap length (named_own source (in_slot source name) i.s.parts (in_slot_is source name))
      ∙ ap (λ (n : ℕ). length (blocks_named (in_slot n name) i.s.parts))
      (sym (other_slot_again source i.below))

  pub before_same : (name : List ℕ)
      → blocks_in (bytes_named (base_of name) pictured) ≡ length (before_of o twins name)
  before_same name = by_twins plan.apart
    where
      by_twins : (b : Bool)
          → blocks_in (bytes_named (base_of name) (twins_of b (images_of m.state source)))
          ≡ length (before_of o (twins_by b i.s.parts) name)
      by_twins true = refl
      by_twins false = source_same name

  -- what an entry wants is what its partition does
  pub want_same : (p : Part)
      → want_entry pictured (entry_by i.t plan.entries p)
      ≡ want_of o twins i.t.parts p
  want_same p =
      let before = before_same p.name in
      let store = store_same (store_of p.name) i.t.parts in
      (λ j. record { before = before j; blocks = length p.blocks; store = store j })

  pub of_target : (p : Part) → Contains (own_parts o i.t.parts) p → is_of_slot o p.name ≡ true
  of_target p c = (of_filter (λ (x : Part). is_of_slot o x.name) i.t.parts p c).1

  -- what the entries of a changed plan want
  pub changed_wants : (name : List ℕ) (change : PlanEntry → PlanEntry) (want : Part → Want)
      → is_of_slot o name ≡ true
      → ((p : Part)
      → Contains (own_parts o i.t.parts) p
      → p.name ≡ name
      → want_entry pictured (change (entry_by i.t plan.entries p)) ≡ want p)
      → map (want_entry pictured) (at_entry (base_of name) change plan.entries)
      ≡ map (λ p. cond (bytes_eq p.name name) (want p) (want_of o twins i.t.parts p))
      (own_parts o i.t.parts)
  changed_wants name change want of each =
      let mine : List Part = own_parts o i.t.parts in
      let f : PlanEntry → PlanEntry =
      λ e. cond (bytes_eq e.name (base_of name)) (change e) e in
      let entry : Part → PlanEntry = entry_by i.t plan.entries in
      ap (λ (x : List PlanEntry). map (want_entry pictured) (map f x)) i.again
      ∙ ap (map (want_entry pictured)) (map_map entry f mine)
      ∙ map_map (λ p. f (entry p)) (want_entry pictured) mine
      ∙ map_among (λ p. want_entry pictured (f (entry p)))
      (λ p. cond (bytes_eq p.name name) (want p) (want_of o twins i.t.parts p)) mine
      (λ p c.
      let same = base_eq o p.name name (of_target p c) of in
      elim (cases_Bool (bytes_eq p.name name)) [
        | inl t ↦ rw (same, t) (each p c (same_name p.name name t))
        | inr n ↦ rw (same, n) (want_same p)
      ])

  -- the room that is asked for
  pub room_is : (next : List PlanEntry) (wants : List Want)
      → map (want_entry pictured) next ≡ wants
      → if_room m.state source (with_entries plan next)
      ≡ unless (nat_le (used_by o i.s.parts wants) (cap_of i.t.device))
      (refusals.NoRoom (used_by o i.s.parts wants) (cap_of i.t.device))
      (planned m.state source (with_entries plan next))
  room_is next wants are =
      let sizes = sizes_same in
      let cap = cap_same in
      let used : in_use (images_of m.state source) (with_entries plan next)
      ≡ used_by o i.s.parts wants =
      (λ j. used_of (sizes j) (are j)) in
      (λ j.
      unless (nat_le (used j) (cap j)) (refusals.NoRoom (used j) (cap j))
      (planned m.state source (with_entries plan next)))
