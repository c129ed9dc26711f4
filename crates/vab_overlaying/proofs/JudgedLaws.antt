-- Why no overlay begins: each refusal is that of the row.
use Rattle.std.proofs.Common.{◌≡◌, ◌⊎◌, ◌∙◌, inl, inr, ⊎_elim, ℕ, ◌+◌, ◌<◌, true, false, List}
use Rattle.std.proofs.Common.{length, refl, sym, ap, arith, eq-eqb}
use Rattle.std.specs.Prelude.{nat_le, Some, None, map, option_map}
use Rattle.std.specs.Prelude.{sum_by}
use Rattle.std.specs.Prelude.{Bool, not, ◌&&◌}
use Rattle.std.proofs.lemmas.Bool.{lt-leb}
use Rattle.std.proofs.lemmas.List.Elements.{All-contains}
use Rattle.vab_names.specs.Names.{is_full, base_of}
use Rattle.vab_marks.specs.declared.mark.MarkPhase.{MarkPhase}
use Rattle.vab_marks.specs.declared.mark.MarkPhase.TheVariants as marks
use Rattle.vab_marks.specs.declared.mark.UpdateMark.{UpdateMark}
use Rattle.vab_marks.specs.Mark.{is_idle}
use Rattle.vab_tables.specs.declared.table.Table.{Table}
use Rattle.vab_layout.specs.Plain.{plain}
use Rattle.vab_model.specs.declared.command.Refusal.TheVariants as refusals
use Rattle.vab_model.specs.Effects.{refuses}
use Rattle.vab_model.specs.Overlay.{is_store_size, store_of_size}
use Rattle.vab_model.specs.State.{image_named}
use Rattle.vab_device.specs.declared.device.Part.{Part}
use Rattle.vab_device.specs.declared.device.Device.{Device}
use Rattle.vab_device.specs.Kept.{IsDevice, has_slot, part_named, parts_at, table_of_slot}
use Rattle.vab_device.specs.Mounted.{image_on}
use Rattle.vab_device.proofs.OverlayLaws.{has_parts}
use Rattle.vab_device.proofs.PhaseCases.{some_of}
use Rattle.vab_overlaying.specs.Prepared.{is_free, Refuses, IsAsked}
use Rattle.vab_overlaying.proofs.RowLaws.{overlaid_refused, update_refused, row_is, images_named}
use Rattle.vab_overlaying.proofs.RowLaws.{IsCounted, found_row}
use Rattle.vab_overlaying.proofs.CountLaws.{each_counted, named_there}

-- the slot of the mark has partitions, and a table
pub slot_parts : (d : Device) (n : ℕ)
    → IsDevice d n
    → d.mark.phase ≡ marks.Idle
    → (ps : List Part) × (parts_at d d.mark.slot ≡ Some ps)
slot_parts d n dev idle =
    some_of (parts_at d d.mark.slot)
    (has_parts d n d.mark.slot dev dev.slot
    ∙ ap (λ (p : MarkPhase). has_slot p d.mark.slot d.mark.slot) idle
    ∙ eq-eqb d.mark.slot d.mark.slot refl)

pub slot_table : (d : Device) (n : ℕ)
    → IsDevice d n
    → (t : Table) × (table_of_slot d d.mark.slot ≡ Some t)
slot_table d n dev = some_of (table_of_slot d d.mark.slot) dev.source

-- ---- what is asked

idle_only : (p : MarkPhase) → is_idle p ≡ true → p ≡ marks.Idle
idle_only marks.Idle is = refl
idle_only marks.Installing is = absurd cc
idle_only marks.Staged is = absurd cc
idle_only marks.Merging is = absurd cc
idle_only marks.Completed is = absurd cc

pub no_name : {P : Type 0} → (P → false ≡ true) → P → ⊥
no_name never is = let no : false ≡ true = never is in cc

-- what a test says of a mark
bare_of : (overlaid idle : Bool)
    → (not overlaid && idle) ≡ true
    → (overlaid ≡ false) × (idle ≡ true)
bare_of false true is = (refl, refl)
bare_of false false is = absurd cc
bare_of true idle is = absurd cc

busy_of : (overlaid idle : Bool)
    → (not overlaid && idle) ≡ false
    → (overlaid ≡ true) ⊎ (idle ≡ false)
busy_of true idle is = inl refl
busy_of false false is = inr refl
busy_of false true is = absurd cc

pub free_bare : (m : UpdateMark) → is_free m ≡ true → m.overlaid ≡ false
free_bare m is = (bare_of m.overlaid (is_idle m.phase) is).0

pub free_idle : (m : UpdateMark) → is_free m ≡ true → m.phase ≡ marks.Idle
free_idle m is = idle_only m.phase (bare_of m.overlaid (is_idle m.phase) is).1

pub refuses_busy : (d : Device) (name : List ℕ) (size : ℕ)
    → is_free d.mark ≡ false
    → Refuses d name size refusals.NotIdle
refuses_busy d name size busy = record {
  refused = false;
  wants = false;
  is = λ n image staged dev is whole.
      ⊎_elim (λ overlaid. overlaid_refused d n image staged name size dev overlaid)
      (λ update. update_refused d n image staged name size dev update)
      (busy_of d.mark.overlaid (is_idle d.mark.phase) busy);
}

pub refuses_name : (d : Device) (name : List ℕ) (size : ℕ)
    → d.mark.phase ≡ marks.Idle
    → d.mark.overlaid ≡ false
    → is_full d.mark.slot name ≡ false
    → Refuses d name size refusals.BadName
refuses_name d name size idle plain bad = record {
  refused = false;
  wants = false;
  is = λ n image staged dev is whole.
      let ps = slot_parts d n dev idle in
      let t = slot_table d n dev in
      row_is d n image staged name size ps.0 t.0 dev idle plain ps.1 t.1 ∙ rw bad refl;
}

pub refuses_size : (d : Device) (name : List ℕ) (size : ℕ)
    → d.mark.phase ≡ marks.Idle
    → d.mark.overlaid ≡ false
    → is_full d.mark.slot name ≡ true
    → is_store_size size ≡ false
    → Refuses d name size refusals.BadSize
refuses_size d name size idle plain full bad = record {
  refused = false;
  wants = false;
  is = λ n image staged dev is whole.
      let ps = slot_parts d n dev idle in
      let t = slot_table d n dev in
      row_is d n image staged name size ps.0 t.0 dev idle plain ps.1 t.1 ∙ rw (full, bad) refl;
}

-- ---- the partition

pub refuses_unknown : (d : Device) (name : List ℕ) (size : ℕ) (ps : List Part)
    → IsAsked d name size
    → parts_at d d.mark.slot ≡ Some ps
    → part_named (base_of name) ps ≡ None
    → Refuses d name size refusals.Unknown
refuses_unknown d name size ps asked parts none = record {
  refused = false;
  wants = false;
  is = λ n image staged dev is whole.
      let t = slot_table d n dev in
      let missing : image_named (base_of name) (map (image_on image) ps) ≡ None =
      images_named image (base_of name) ps ∙ ap (option_map (image_on image)) none in
      row_is d n image staged name size ps t.0 dev asked.idle asked.plain parts t.1
      ∙ rw (asked.full, asked.sized, missing) refl;
}

pub refuses_room : (d : Device) (name : List ℕ) (size used blocks : ℕ) (ps : List Part) (p : Part)
    → IsAsked d name size
    → parts_at d d.mark.slot ≡ Some ps
    → part_named (base_of name) ps ≡ Some p
    → blocks ≡ store_of_size (length p.map) size
    → used ≡ sum_by (λ q. length q.map) ps + blocks
    → d.cap < used
    → Refuses d name size (refusals.NoRoom used d.cap)
refuses_room d name size used blocks ps p asked parts named long sum full = record {
  refused = false;
  wants = false;
  is = λ n image staged dev is whole.
      let t = slot_table d n dev in
      let each = each_counted d n image t.0 ps dev is whole asked.idle asked.plain t.1 parts in
      let here = All-contains (IsCounted image) ps p each (named_there (base_of name) ps p named) in
      let many : nat_le (sum_by (λ q. length q.map) ps + blocks) d.cap ≡ false =
      lt-leb (sum_by (λ q. length q.map) ps + blocks) d.cap (omega (arith, sum, full)) in
      found_row d n image staged name size blocks ps p t.0 dev asked parts t.1 named here each long
      ∙ rw many (ap (λ (u : ℕ). refuses (refusals.NoRoom u d.cap)) (sym sum));
}
