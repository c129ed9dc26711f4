-- What is known of a device whose parts were judged.
use Rattle.std.proofs.Common.{◌≡◌, ◌∙◌, inl, inr, ℕ, ◌+◌, ◌≤◌, true, false, List, refl, sym, ap}
use Rattle.std.proofs.Common.{subst, arith}
use Rattle.std.specs.Prelude.{Bool, Option, Some, None, IfSome, IsNone, All}
use Rattle.std.proofs.lemmas.Bool.{cases_Bool}
use Rattle.vab_bootctl.specs.declared.slots.Control.{Control}
use Rattle.vab_marks.specs.declared.mark.MarkPhase.{MarkPhase}
use Rattle.vab_marks.specs.declared.mark.MarkPhase.TheVariants as marks
use Rattle.vab_marks.specs.declared.mark.UpdateMark.{UpdateMark}
use Rattle.vab_marks.specs.Mark.{is_idle}
use Rattle.vab_marks.specs.declared.status.PartStatus.{PartStatus}
use Rattle.vab_geometry.specs.declared.geometry.Geometry.{Geometry}
use Rattle.vab_tables.specs.declared.table.Table.{Table}
use Rattle.vab_tables.specs.Rules.{end_of}
use Rattle.vab_lpstore.specs.declared.loaded.Loaded.{Loaded}
use Rattle.vab_layout.specs.Layout.{layout_of}
use Rattle.vab_layout.proofs.LayoutLaws.{layout_keeps}
use Rattle.vab_layout.specs.Slots.{other_slot, twins_by, IsOwn}
use Rattle.vab_device.specs.declared.device.Device.{Device}
use Rattle.vab_partitions.specs.Merging.{IsMerging}
use Rattle.vab_device.specs.Kept.{has_slot, reads_both, IsTableOf, AreParts, AreOfUpdate, IsDevice}
use Rattle.vab_device.specs.Phases.{plan_of}
use Rattle.vab_device.specs.Stores.{Scanned}
use Rattle.vab_physical.specs.declared.tail.Tail.{Tail}
use Rattle.vab_recover.specs.declared.table.Tables.{Tables}
use Rattle.vab_plan.specs.Scans.{IsTargetTable}
use Rattle.vab_recover.specs.Scans.{IsScanned}
use Rattle.vab_recover.specs.Opened.{with_tables, AreHeads}
use Rattle.vab_recover.specs.Opened.{IsTableThere, AreTablesThere, IsAssembled, is_merging}
use Rattle.vab_recover.specs.Opened.{through_of, through_slot, overlay_by}
use Rattle.vab_recover.specs.Overlay.{KeepsOverlay, AreOverScanned}
use Rattle.vab_recover.specs.declared.stores.Stored.{Stored}
use Rattle.vab_recover.proofs.OverlaidLaws.{overlaid_here}
use Rattle.vab_recover.proofs.DeviceLaws.{device_kept, plan_kept, target_table, merging_table}
use Rattle.vab_recover.proofs.DeviceLaws.{target_on_disk}
use Rattle.vab_recover.proofs.FrameLaws.{kept_is, through_parts}

pub some_all : {X : Type 0} (P Q : X → Type 0) (x : Option X)
    → ((y : X) → P y → Q y)
    → IfSome x P
    → IfSome x Q
some_all P Q None f p = tt
some_all P Q (Some y) f p = f y p

pub some_both : {X : Type 0} (P Q R : X → Type 0) (x : Option X)
    → ((y : X) → P y → Q y → R y)
    → IfSome x P
    → IfSome x Q
    → IfSome x R
some_both P Q R None f p q = tt
some_both P Q R (Some y) f p q = f y p q

module _ (apart : Bool) (size slot : ℕ) (g : Geometry) (s : Table) (t : Option Loaded) where
  targets_are : IfSome t (IsTableThere size g)
      → IfSome t (λ l. AreOfUpdate apart slot s l.table)
      → IfSome t (λ l. IsTargetTable (other_slot slot) l.table)
  targets_are there update =
      some_both (IsTableThere size g) (λ l. AreOfUpdate apart slot s l.table)
      (λ l. IsTargetTable (other_slot slot) l.table) t
      (λ l there update.
      target_table (other_slot slot) (twins_by apart (layout_of s).parts) (layout_of s).parts
      l.table there.text.rules update.target)
      there update

  targets_kept : IfSome t (IsTableThere size g)
      → IfSome t (λ l. AreOfUpdate apart slot s l.table)
      → IfSome t (λ l. IsTableOf size g (other_slot slot) l.table)
  targets_kept there update =
      some_both (IsTableThere size g) (λ l. AreOfUpdate apart slot s l.table)
      (λ l. IsTableOf size g (other_slot slot) l.table) t
      (λ l there update. record {
        rules = there.text.rules;
        small = there.small;
        own = update.target.own;
        lies = there.lies;
      })
      there update

-- what is known of the partitions of a table that are read through stores
plans_kept : (size slot : ℕ) (g : Geometry) (t : Option Loaded) (scanned : List Scanned)
    → 4120 ≤ size
    → IfSome t (IsTableThere size g)
    → IfSome t (λ l. IsTargetTable slot l.table)
    → IfSome t (λ l. All (IsScanned slot (layout_of l.table)) scanned)
    → IfSome t (λ l. AreParts size (plan_of slot (layout_of l.table) scanned))
plans_kept size slot g t scanned enough there target are =
    some_both
    (λ l. IsTableThere size g l × IsTargetTable slot l.table)
    (λ l. All (IsScanned slot (layout_of l.table)) scanned)
    (λ l. AreParts size (plan_of slot (layout_of l.table) scanned)) t
    (λ l both are. plan_kept size slot g l.table enough both.1 both.0.lies scanned are)
    (some_both (IsTableThere size g) (λ l. IsTargetTable slot l.table)
    (λ l. IsTableThere size g l × IsTargetTable slot l.table) t
    (λ l there target. (there, target)) there target)
    are

-- ---- the table that is read through stores

not_both : (phase : MarkPhase) → is_merging phase ≡ true → reads_both phase ≡ false
not_both marks.Idle is = absurd cc
not_both marks.Installing is = absurd cc
not_both marks.Staged is = absurd cc
not_both marks.Merging is = refl
not_both marks.Completed is = absurd cc

merging_is : (phase : MarkPhase) → is_merging phase ≡ true → phase ≡ marks.Merging
merging_is marks.Idle is = absurd cc
merging_is marks.Installing is = absurd cc
merging_is marks.Staged is = absurd cc
merging_is marks.Merging is = refl
merging_is marks.Completed is = absurd cc

module _
    (size : ℕ) (tail : Tail) (g : Geometry) (m : UpdateMark) (t : Tables)
    (there : AreTablesThere tail.super_end g m t)
    (update : IfSome t.target (λ l. AreOfUpdate m.apart m.slot t.source.table l.table))
    (merging : IsNone t.target
    → is_merging m.phase ≡ true
    → IsMerging m.slot (layout_of t.source.table).parts) where
  pub source_on_disk : 4120 ≤ tail.super_end
      → tail.super_end ≤ size
      → 4096 + end_of (layout_of t.source.table).device ≤ size
  source_on_disk enough ends =
      omega (
        arith,
        target_on_disk tail.super_end g t.source.table enough there.source.text.rules
            there.source.lies,
        ends,
      )

  alone : is_merging m.phase ≡ true → IsNone t.target
  alone is = there.both ∙ not_both m.phase is

  own_table : is_merging m.phase ≡ true → IsTargetTable m.slot t.source.table
  own_table is =
      merging_table m.slot t.source.table there.source.text.rules (merging (alone is) is)

  pub through_are :
      IfSome (through_of m.phase t.source t.target)
      (λ l. IsTargetTable (through_slot m.phase m.slot) l.table)
  through_are = elim (cases_Bool (is_merging m.phase)) [
    | inl is ↦ rw is (own_table is)
    | inr not ↦
        rw not (targets_are m.apart tail.super_end m.slot g t.source.table t.target there.target
        update)
  ]

  through_there : IfSome (through_of m.phase t.source t.target) (IsTableThere tail.super_end g)
  through_there = elim (cases_Bool (is_merging m.phase)) [
    | inl is ↦ rw is there.source
    | inr not ↦ rw not there.target
  ]

  pub through_on_disk : 4120 ≤ tail.super_end
      → tail.super_end ≤ size
      → IfSome (through_of m.phase t.source t.target)
      (λ l. 4096 + end_of (layout_of l.table).device ≤ size)
  through_on_disk enough ends =
      some_all (IsTableThere tail.super_end g)
      (λ l. 4096 + end_of (layout_of l.table).device ≤ size)
      (through_of m.phase t.source t.target)
      (λ l there.
      omega (
        arith,
        target_on_disk tail.super_end g l.table enough there.text.rules there.lies,
        ends,
      ))
      through_there

  -- the device that was put together is one on the disk
  pub assembled_kept : (d : Device) (ss : List (Option PartStatus)) (c : Control)
      (x : Stored) (scanned : List Scanned)
      → AreHeads size m c tail g
      → has_slot m.phase m.slot c.current ≡ true
      → IsOwn m.slot (layout_of t.source.table).parts
      → (IsNone t.target
      → is_merging m.phase ≡ false
      → KeepsOverlay m.overlaid m.slot (layout_of t.source.table))
      → IsAssembled d m c tail g t.source.table x
      → x.through ≡ through_parts m.phase m.slot t.source t.target scanned
      → x.overlay ≡ overlay_by m t.source.table scanned
      → IfSome (through_of m.phase t.source t.target)
      (λ l. All (IsScanned (through_slot m.phase m.slot) (layout_of l.table)) scanned)
      → (is_idle m.phase ≡ true
      → AreOverScanned m.overlaid m.slot (layout_of t.source.table) scanned)
      → IsDevice (with_tables t d) size
  assembled_kept d ss c x scanned heads current own judged is planned overlaid are over =
      let kept =
      kept_is d t m ss c tail g x scanned heads.phase heads.slot there.both is planned overlaid in
      let parts = plans_kept tail.super_end (through_slot m.phase m.slot) g
      (through_of m.phase t.source t.target) scanned heads.enough through_there through_are are in
      subst (λ (x : Device). IsDevice x size) (sym kept)
      (device_kept size m ss c tail g t.source.table t.target scanned heads current
      (record {
        rules = there.source.text.rules;
        small = there.source.small;
        own = own;
        lies = there.source.lies;
      })
      (targets_kept m.apart tail.super_end m.slot g t.source.table t.target there.target update)
      update there.both (of_target parts) (of_own parts)
      (λ idle.
      overlaid_here tail.super_end m.slot g (layout_of t.source.table) m.overlaid scanned
      heads.enough (layout_keeps t.source.table there.source.text.rules) own there.source.lies
      (judged (there.both ∙ ap reads_both idle) (ap is_merging idle))
      (over (ap is_idle idle))))
    where
      none_all : {X : Type 0} (P : X → Type 0) (x : Option X) → IsNone x → IfSome x P
      none_all P None is = tt
      none_all P (Some y) is = absurd (let no : true ≡ false = is in cc)

      of_target : IfSome (through_of m.phase t.source t.target)
          (λ l. AreParts tail.super_end (plan_of (through_slot m.phase m.slot) (layout_of l.table)
          scanned))
          → IfSome t.target
          (λ l. AreParts tail.super_end (plan_of (other_slot m.slot) (layout_of l.table) scanned))
      of_target parts = elim (cases_Bool (is_merging m.phase)) [
        | inl is ↦
            none_all
            (λ (l : Loaded).
            AreParts tail.super_end (plan_of (other_slot m.slot) (layout_of l.table) scanned))
            t.target (alone is)
        | inr not ↦ rw not at parts
      ]

      of_own : IfSome (through_of m.phase t.source t.target)
          (λ l. AreParts tail.super_end (plan_of (through_slot m.phase m.slot) (layout_of l.table)
          scanned))
          → m.phase ≡ marks.Merging
          → AreParts tail.super_end (plan_of m.slot (layout_of t.source.table) scanned)
      of_own parts merging =
          let is : is_merging m.phase ≡ true = ap is_merging merging in
          rw is at parts
