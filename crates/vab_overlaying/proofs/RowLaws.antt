-- The row of an overlay that begins, of a kept device and its disk.
use Rattle.std.proofs.Common.{◌≡◌, ◌⊎◌, ◌∙◌, inl, inr, ℕ, ◌+◌, ◌*◌, ◌≤◌}
use Rattle.std.proofs.Common.{true, false, List, [], ◌∷◌, ◌++◌, length, refl, sym, ap, subst, arith}
use Rattle.std.proofs.Common.{length-append}
use Rattle.std.specs.Prelude.{◌==◌, if◌then◌else◌, nat_le, Bool, Option, Some, None, is_some, map}
use Rattle.std.specs.Prelude.{option_map, sum, sum_by, All, take}
use Rattle.std.specs.List.{flat_map}
use Rattle.std.specs.Str.{bytes_eq}
use Rattle.std.proofs.lemmas.Bool.{cases_Bool, eqb-true}
use Rattle.std.proofs.lemmas.List.Elements.{All-head, All-tail}
use Rattle.std.proofs.lemmas.List.Sums.{sum-map, sum_by-cons}
use Rattle.vab_disk.specs.Disk.{Image}
use Rattle.vab_gate.specs.Gate.{sectors_at}
use Rattle.vab_copies.proofs.CopyLaws.{length-sectors}
use Rattle.vab_names.specs.Names.{is_full, base_of, is_of_slot}
use Rattle.vab_marks.specs.declared.mark.MarkPhase.{MarkPhase}
use Rattle.vab_marks.specs.declared.mark.MarkPhase.TheVariants as marks
use Rattle.vab_marks.specs.Mark.{is_idle}
use Rattle.vab_tables.specs.declared.entries.Group.{Group}
use Rattle.vab_tables.specs.declared.table.Table.{Table}
use Rattle.vab_tables.specs.Rules.{cap_of}
use Rattle.vab_blocks.specs.Blocks.{free_below}
use Rattle.vab_layout.specs.declared.layout.Layout.{Layout}
use Rattle.vab_layout.specs.Layout.{layout_of, blocks_of_parts}
use Rattle.vab_layout.specs.Plain.{plain, default_group, own_groups}
use Rattle.vab_builder.specs.Import.{stores_group}
use Rattle.vab_builder.specs.Overlay.{with_overlay, overlay_part}
use Rattle.vab_builder.proofs.ImportLaws.{own_parts_again, own_groups_named}
use Rattle.vab_builder.proofs.ListLaws.{filter_all}
use Rattle.vab_builder.proofs.SlotLaws.{default_of_no_slot}
use Rattle.vab_model.specs.declared.state.Image.{Image as ImageOfSlot}
use Rattle.vab_model.specs.declared.state.Overlay.{Overlay as OverlayOf}
use Rattle.vab_model.specs.declared.command.Refusal.TheVariants as refusals
use Rattle.vab_model.specs.Commands.{Overlay}
use Rattle.vab_model.specs.Effects.{Effect, refuses, if_plain}
use Rattle.vab_model.specs.Overlay.{is_store_size, store_of_size, used_over, unless, overlay_image}
use Rattle.vab_model.specs.Plans.{blocks_in}
use Rattle.vab_model.specs.State.{image_named}
use Rattle.vab_device.specs.declared.device.Part.{Part}
use Rattle.vab_device.specs.declared.device.PartImage.TheVariants.{Kept}
use Rattle.vab_device.specs.declared.device.Device.{Device}
use Rattle.vab_device.specs.Kept.{IsDevice, IsPart, has_slot, part_named, parts_at, table_of_slot}
use Rattle.vab_device.specs.Mounted.{Mounted, mounted_on, state_on, image_on, bytes_at, overlay_on}
use Rattle.vab_device.specs.Updates.{effect_on, overlay_begun, over_table}
use Rattle.vab_device.proofs.OverlayLaws.{plain_none}
use Rattle.vab_device.proofs.PhaseCases.{cases_slot, planned_of, unplanned_of}
use Rattle.vab_overlaying.specs.Prepared.{AreWhole, IsAsked}

-- ---- where there is an update or an overlay

over_some : (image : Image) (o : Option Part) → is_some (overlay_on image o) ≡ is_some o
over_some image None = refl
over_some image (Some p) = refl

over_refused : (o : Option OverlayOf) (next : Effect Mounted)
    → is_some o ≡ true
    → if_plain o next ≡ refuses refusals.NotIdle
over_refused None next some = absurd cc
over_refused (Some o) next some = refl

plain_refused : (o : Option OverlayOf) (next : Effect Mounted)
    → next ≡ refuses refusals.NotIdle
    → if_plain o next ≡ refuses refusals.NotIdle
plain_refused None next is = is
plain_refused (Some o) next is = refl

pub overlaid_refused : (d : Device) (n : ℕ) (image : Image) (staged : Option (List ℕ))
    (name : List ℕ) (size : ℕ)
    → IsDevice d n
    → d.mark.overlaid ≡ true
    → effect_on (mounted_on d image) staged (Overlay name size) ≡ refuses refusals.NotIdle
unfolding state_on
overlaid_refused d n image staged name size dev overlaid =
    over_refused (overlay_on image d.overlay)
    (overlay_begun (mounted_on d image) name size (state_on d image).phase)
    (over_some image d.overlay ∙ dev.overlaid ∙ overlaid)

planned_refused : (d : Device) (image : Image) (staged : Option (List ℕ)) (name : List ℕ) (size : ℕ)
    (plan : List Part)
    → d.plan ≡ Some plan
    → effect_on (mounted_on d image) staged (Overlay name size) ≡ refuses refusals.NotIdle
unfolding state_on
planned_refused d image staged name size plan is =
    plain_refused (overlay_on image d.overlay)
    (overlay_begun (mounted_on d image) name size (state_on d image).phase) (rw is refl)

staged_refused : (d : Device) (image : Image) (staged : Option (List ℕ)) (name : List ℕ) (size : ℕ)
    → d.plan ≡ None
    → d.mark.phase ≡ marks.Staged
    → effect_on (mounted_on d image) staged (Overlay name size) ≡ refuses refusals.NotIdle
unfolding state_on
staged_refused d image staged name size plan phase =
    plain_refused (overlay_on image d.overlay)
    (overlay_begun (mounted_on d image) name size (state_on d image).phase) (rw (plan, phase) refl)

merging_refused : (d : Device) (image : Image) (staged : Option (List ℕ)) (name : List ℕ) (size : ℕ)
    → d.plan ≡ None
    → d.mark.phase ≡ marks.Merging
    → effect_on (mounted_on d image) staged (Overlay name size) ≡ refuses refusals.NotIdle
unfolding state_on
merging_refused d image staged name size plan phase =
    plain_refused (overlay_on image d.overlay)
    (overlay_begun (mounted_on d image) name size (state_on d image).phase) (rw (plan, phase) refl)

pub update_refused : (d : Device) (n : ℕ) (image : Image) (staged : Option (List ℕ))
    (name : List ℕ) (size : ℕ)
    → IsDevice d n
    → is_idle d.mark.phase ≡ false
    → effect_on (mounted_on d image) staged (Overlay name size) ≡ refuses refusals.NotIdle
update_refused d n image staged name size dev update = by_phase dev.phase
  where
    by_phase : (d.mark.phase ≡ marks.Idle) ⊎ (d.mark.phase ≡ marks.Installing)
        ⊎ (d.mark.phase ≡ marks.Staged) ⊎ (d.mark.phase ≡ marks.Merging)
        → effect_on (mounted_on d image) staged (Overlay name size) ≡ refuses refusals.NotIdle
    by_phase (inl e) =
        absurd (let no : true ≡ false = sym (ap is_idle e) ∙ update in cc)
    by_phase (inr (inl e)) =
        let plan = planned_of d n dev e in
        planned_refused d image staged name size plan.0 plan.1
    by_phase (inr (inr (inl e))) =
        staged_refused d image staged name size (unplanned_of d n marks.Staged dev refl e) e
    by_phase (inr (inr (inr e))) =
        merging_refused d image staged name size (unplanned_of d n marks.Merging dev refl e) e

-- ---- the row of a slot alone

-- the name and the size, the image, and the table
abbrev pub asked_row : Mounted
    → (cap slot : ℕ)
    → List ImageOfSlot
    → Layout
    → List ℕ
    → (size : ℕ)
    → Effect Mounted
asked_row m cap slot images l name size =
    unless (is_full slot name) refusals.BadName
    (unless (is_store_size size) refusals.BadSize
    (overlay_image cap images size (over_table m name slot (Some l))
    (image_named (base_of name) images)))

-- the table of a slot, where the slot is known
slot_at : {X : Type 0} (n k : ℕ) (a b x : X)
    → n ≡ k
    → (if n == 0 then a else b) ≡ x
    → (if k == 0 then a else b) ≡ x
slot_at n k a b x is same = subst (λ (m : ℕ). (if m == 0 then a else b) ≡ x) is same

row_a : (d : Device) (image : Image) (staged : Option (List ℕ)) (name : List ℕ) (size : ℕ)
    (ps : List Part) (t : Table)
    → d.overlay ≡ None
    → d.plan ≡ None
    → d.mark.phase ≡ marks.Idle
    → d.mark.slot ≡ 0
    → d.control.current ≡ 0
    → d.a ≡ Some ps
    → d.table_a ≡ Some t
    → effect_on (mounted_on d image) staged (Overlay name size)
    ≡ asked_row (mounted_on d image) d.cap d.mark.slot (map (image_on image) ps)
    (plain d.mark.slot (layout_of t)) name size
unfolding state_on
row_a d image staged name size ps t bare plan phase slot current parts table =
    rw (bare, plan, phase, slot, current, parts, table) refl

row_b : (d : Device) (image : Image) (staged : Option (List ℕ)) (name : List ℕ) (size : ℕ)
    (ps : List Part) (t : Table)
    → d.overlay ≡ None
    → d.plan ≡ None
    → d.mark.phase ≡ marks.Idle
    → d.mark.slot ≡ 1
    → d.control.current ≡ 1
    → d.b ≡ Some ps
    → d.table_b ≡ Some t
    → effect_on (mounted_on d image) staged (Overlay name size)
    ≡ asked_row (mounted_on d image) d.cap d.mark.slot (map (image_on image) ps)
    (plain d.mark.slot (layout_of t)) name size
unfolding state_on
row_b d image staged name size ps t bare plan phase slot current parts table =
    rw (bare, plan, phase, slot, current, parts, table) refl

current_is : (d : Device) (n : ℕ)
    → IsDevice d n
    → d.mark.phase ≡ marks.Idle
    → d.control.current ≡ d.mark.slot
current_is d n dev idle =
    sym (eqb-true d.mark.slot d.control.current
    (sym (ap (λ (p : MarkPhase). has_slot p d.mark.slot d.control.current) idle) ∙ dev.current))

pub row_is : (d : Device) (n : ℕ) (image : Image) (staged : Option (List ℕ)) (name : List ℕ)
    (size : ℕ) (ps : List Part) (t : Table)
    → IsDevice d n
    → d.mark.phase ≡ marks.Idle
    → d.mark.overlaid ≡ false
    → parts_at d d.mark.slot ≡ Some ps
    → table_of_slot d d.mark.slot ≡ Some t
    → effect_on (mounted_on d image) staged (Overlay name size)
    ≡ asked_row (mounted_on d image) d.cap d.mark.slot (map (image_on image) ps)
    (plain d.mark.slot (layout_of t)) name size
row_is d n image staged name size ps t dev idle bare parts table =
    let none = plain_none d n dev bare in
    let plan = unplanned_of d n marks.Idle dev refl idle in
    let current = current_is d n dev idle in
    elim (cases_slot d.mark.slot dev.slot) [
      | inl first ↦
          row_a d image staged name size ps t none plan idle first (current ∙ first)
          (slot_at d.mark.slot 0 d.a d.b (Some ps) first parts)
          (slot_at d.mark.slot 0 d.table_a d.table_b (Some t) first table)
      | inr one ↦
          row_b d image staged name size ps t none plan idle one (current ∙ one)
          (slot_at d.mark.slot 1 d.a d.b (Some ps) one parts)
          (slot_at d.mark.slot 1 d.table_a d.table_b (Some t) one table)
    ]

-- ---- the images

pub images_named : (image : Image) (base : List ℕ) (ps : List Part)
    → image_named base (map (image_on image) ps)
    ≡ option_map (image_on image) (part_named base ps)
images_named image base [] = refl
images_named image base (p ∷ ps) = elim (cases_Bool (bytes_eq p.name base)) [
  | inl here ↦ rw here refl
  | inr other ↦ rw other (images_named image base ps)
]

pieces_long : (f : ℕ → List ℕ) (xs : List ℕ)
    → All (λ x. length (f x) ≡ 4096) xs
    → length (flat_map f xs) ≡ 4096 * length xs
pieces_long f [] long = refl
pieces_long f (x ∷ xs) long =
    omega (
      arith,
      length-append (f x) (flat_map f xs),
      All-head (λ x. length (f x) ≡ 4096) x xs long,
      pieces_long f xs (All-tail (λ x. length (f x) ≡ 4096) x xs long),
    )

bytes_long : (n : ℕ) (image : Image) (blocks : List ℕ)
    → AreWhole n image
    → All (λ s. s + 8 ≤ n) blocks
    → length (bytes_at image blocks) ≡ 4096 * length blocks
unfolding bytes_at
bytes_long n image blocks whole on_disk =
    pieces_long (λ s. sectors_at 8 image s) blocks
    (λ k d lt.
    length-sectors 8 image _ (λ i below. whole _ (omega (arith, on_disk k d lt, below))))

-- a partition that is kept has as many blocks as its image
abbrev pub IsCounted : Image → Part → Type 0
IsCounted image p = blocks_in (image_on image p).bytes ≡ length p.map

pub counted : (n : ℕ) (image : Image) (p : Part)
    → AreWhole n image
    → IsPart n p
    → p.image ≡ Kept
    → IsCounted image p
counted n image p whole is kept =
    let long = bytes_long n image p.map whole is.on_disk in
    rw kept (omega (arith, long))

abbrev image_blocks : ImageOfSlot → ℕ
image_blocks i = blocks_in i.bytes

abbrev part_blocks : Part → ℕ
part_blocks p = length p.map

all_counted : (image : Image) (ps : List Part)
    → All (IsCounted image) ps
    → sum_by image_blocks (map (image_on image) ps) ≡ sum_by part_blocks ps
all_counted image [] are = refl
all_counted image (p ∷ ps) are =
    sum_by-cons image_blocks (image_on image p) (map (image_on image) ps)
    ∙ (let here = All-head (IsCounted image) p ps are in
    let rest = all_counted image ps (All-tail (IsCounted image) p ps are) in
    (λ i. here i + rest i))
    ∙ sym (sum_by-cons part_blocks p ps)

sizes_counted : (image : Image) (ps : List Part)
    → All (IsCounted image) ps
    → sum (map (λ (i : ImageOfSlot). blocks_in i.bytes) (map (image_on image) ps))
    ≡ sum_by (λ p. length p.map) ps
sizes_counted image ps are =
    sum-map image_blocks (map (image_on image) ps) ∙ all_counted image ps are

-- ---- the table without other stores

groups_again : (slot : ℕ) (groups : List Group)
    → own_groups slot (default_group ∷ own_groups slot groups) ≡ own_groups slot groups
groups_again slot groups =
    rw (default_of_no_slot slot)
    (filter_all (λ (g : Group). is_of_slot slot g.name) (own_groups slot groups)
    (own_groups_named slot groups))

-- stores that were there make no difference
pub plain_over : (slot : ℕ) (l : Layout) (name : List ℕ) (n : ℕ)
    → with_overlay slot (plain slot l) name n ≡ with_overlay slot l name n
unfolding with_overlay plain
plain_over slot l name n =
    let own = own_parts_again slot l.parts in
    let groups = groups_again slot l.groups in
    (λ i. record {
      parts =
          own i
          ++ record (overlay_part slot l name n) {
            blocks = take n (free_below (cap_of l.device) (blocks_of_parts (own i)));
          }
          ∷ [];
      groups = default_group ∷ (groups i ++ stores_group ∷ []);
      device = l.device;
      flags = l.flags;
    })

-- ---- the row of a partition that is there

pub found_row : (d : Device) (n : ℕ) (image : Image) (staged : Option (List ℕ)) (name : List ℕ)
    (size blocks : ℕ) (ps : List Part) (p : Part) (t : Table)
    → IsDevice d n
    → IsAsked d name size
    → parts_at d d.mark.slot ≡ Some ps
    → table_of_slot d d.mark.slot ≡ Some t
    → part_named (base_of name) ps ≡ Some p
    → IsCounted image p
    → All (IsCounted image) ps
    → blocks ≡ store_of_size (length p.map) size
    → effect_on (mounted_on d image) staged (Overlay name size)
    ≡ unless (nat_le (sum_by (λ q. length q.map) ps + blocks) d.cap)
    (refusals.NoRoom (sum_by (λ q. length q.map) ps + blocks) d.cap)
    (over_table (mounted_on d image) name d.mark.slot (Some (plain d.mark.slot (layout_of t)))
    (image_on image p) blocks)
found_row d n image staged name size blocks ps p t dev asked parts table named here each long =
    let m = mounted_on d image in
    let images = map (image_on image) ps in
    let next = over_table m name d.mark.slot (Some (plain d.mark.slot (layout_of t))) in
    let total : ℕ = sum_by (λ q. length q.map) ps in
    let is : image_named (base_of name) images ≡ Some (image_on image p) =
    images_named image (base_of name) ps ∙ ap (option_map (image_on image)) named in
    let count : store_of_size (blocks_in (image_on image p).bytes) size ≡ blocks =
    ap (λ (k : ℕ). store_of_size k size) here ∙ sym long in
    let used : used_over images blocks ≡ total + blocks =
    omega (arith, sizes_counted image ps each) in
    row_is d n image staged name size ps t dev asked.idle asked.plain parts table
    ∙ ap
    (λ (b : Bool).
    unless b refusals.BadName
    (unless (is_store_size size) refusals.BadSize
    (overlay_image d.cap images size next (image_named (base_of name) images))))
    asked.full
    ∙ ap
    (λ (b : Bool).
    unless b refusals.BadSize
    (overlay_image d.cap images size next (image_named (base_of name) images)))
    asked.sized
    ∙ ap (overlay_image d.cap images size next) is
    ∙ ap
    (λ (k : ℕ).
    unless (nat_le (used_over images k) d.cap) (refusals.NoRoom (used_over images k) d.cap)
    (next (image_on image p) k))
    count
    ∙ ap
    (λ (u : ℕ).
    unless (nat_le u d.cap) (refusals.NoRoom u d.cap) (next (image_on image p) blocks))
    used
