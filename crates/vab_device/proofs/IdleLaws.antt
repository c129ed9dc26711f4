-- What the links of a disk without an update answer.
use Rattle.std.proofs.Common.{◌≡◌, ◌∙◌, ℕ, true, false, leb, List, [], ◌∷◌, Result, Ok, Err, refl}
use Rattle.std.proofs.Common.{sym, ap, subst}
use Rattle.std.specs.Prelude.{Bool, Option, Some, None, ◌==◌}
use Rattle.vab_disk.specs.Disk.{Image}
use Rattle.vab_bootctl.specs.declared.slots.Control.{Control}
use Rattle.vab_marks.specs.declared.mark.UpdateMark.{UpdateMark}
use Rattle.vab_marks.specs.declared.mark.MarkPhase.TheVariants as marks
use Rattle.vab_geometry.specs.declared.geometry.Geometry.{Geometry}
use Rattle.vab_layout.specs.Layout.{layout_of}
use Rattle.vab_tables.specs.declared.table.Table.{Table}
use Rattle.vab_physical.specs.declared.tail.Tail.{Tail}
use Rattle.vab_device.specs.declared.fault.StartFault.{StartFault}
use Rattle.vab_device.specs.Checks.{first_fault, or_else, ◌>>=◌}
use Rattle.vab_device.specs.Idle.{control_read_of, idle_read}
use Rattle.vab_device.specs.Phases.{Phase, idle, slot_checks, phase_at, own_check, overlay_checks}
use Rattle.vab_device.specs.Reading.{Read, mark_in, statuses_at, control_in, geometry_at, table_at}
use Rattle.vab_device.specs.Reading.{tables_in, part_fault, state_fault, stores_of, device, Reads}
use Rattle.vab_device.specs.Reading.{most_at, tail_at}
use Rattle.vab_device.specs.Stores.{scans_in}
use Rattle.vab_device.proofs.OpeningLaws.{device_no_control, device_no_geometry, device_no_tables}
use Rattle.vab_device.proofs.OpeningLaws.{device_judged, device_stated, reads_of, or_first}
use Rattle.vab_device.proofs.ReadingLaws.{FrameReads, idle_at}
use Rattle.vab_device.specs.Phases.{overlay_wanted}

-- where the phase is that one, what is said of it is said of each phase
of_idle : (m : UpdateMark) (P : Phase → Type 0)
    → m.phase ≡ marks.Idle
    → P (idle m)
    → P (phase_at m)
of_idle m P is p = subst P (sym (idle_at m is)) p

no_statuses : (image : Image) → statuses_at false image ≡ Ok []
unfolding statuses_at
no_statuses image = refl

module _
    (size : ℕ) (image : Image) (m : UpdateMark)
    (enough : leb 4120 size ≡ true)
    (mark : mark_in image ≡ Ok m)
    (is_idle : m.phase ≡ marks.Idle) where
  statuses : statuses_at (phase_at m).reads_statuses image ≡ Ok []
  statuses =
      of_idle m (λ p. statuses_at p.reads_statuses image ≡ Ok []) is_idle (no_statuses image)

  control_is : (x : Result Control StartFault)
      → control_in (m.slot == 0) (m.slot == 1) image ≡ x
      → control_in (phase_at m).has_a (phase_at m).has_b image ≡ x
  control_is x is =
      of_idle m (λ p. control_in p.has_a p.has_b image ≡ x) is_idle is

  pub idle_no_control : (f : StartFault)
      → control_in (m.slot == 0) (m.slot == 1) image ≡ Err f
      → device size image ≡ Err f
  idle_no_control f is =
      device_no_control size image m [] f enough mark statuses (control_is (Err f) is)

  pub idle_no_geometry : (c : Control) (tail : Tail) (f : StartFault)
      → control_in (m.slot == 0) (m.slot == 1) image ≡ Ok c
      → tail_at m.physical size image ≡ Ok tail
      → geometry_at tail.super_end image ≡ Err f
      → device size image ≡ Err f
  idle_no_geometry c tail f control ends geometry =
      device_no_geometry size image m [] c tail f enough mark statuses
      (control_is (Ok c) control) ends geometry

  tables_are : (super_end : ℕ) (g : Geometry) (x : Result (List Table) StartFault)
      → tables_in super_end g (m.slot ∷ []) image ≡ x
      → tables_in super_end g (phase_at m).tables image ≡ x
  tables_are super_end g x is =
      of_idle m (λ p. tables_in super_end g p.tables image ≡ x) is_idle is

  pub idle_no_table : (c : Control) (tail : Tail) (g : Geometry) (f : StartFault)
      → control_in (m.slot == 0) (m.slot == 1) image ≡ Ok c
      → tail_at m.physical size image ≡ Ok tail
      → geometry_at tail.super_end image ≡ Ok g
      → table_at tail.super_end g m.slot image ≡ Err f
      → device size image ≡ Err f
  idle_no_table c tail g f control ends geometry table =
      device_no_tables size image m [] c tail g f enough mark statuses
      (control_is (Ok c) control) ends geometry
      (tables_are tail.super_end g (Err f)
      (ap (λ x. x >>= λ t. tables_in tail.super_end g [] image >>= λ ts. Ok (t ∷ ts)) table))

  -- ---- the rules

  module _
      (c : Control) (tail : Tail) (g : Geometry) (t : Table)
      (plain : m.overlaid ≡ false)
      (control : control_in (m.slot == 0) (m.slot == 1) image ≡ Ok (control_read_of m.slot c))
      (ends : tail_at m.physical size image ≡ Ok tail)
      (geometry : geometry_at tail.super_end image ≡ Ok g)
      (table : table_at tail.super_end g m.slot image ≡ Ok t) where
    read : Read
    read = idle_read m c tail g t

    frame_reads : FrameReads size image (idle_read m c tail g t)
    frame_reads = record {
      enough = enough;
      mark = mark;
      statuses = statuses;
      control = control_is (Ok (control_read_of m.slot c)) control;
      tail = ends;
      geometry = geometry;
      tables = tables_are tail.super_end g (Ok (t ∷ []))
          (ap (λ x. x >>= λ t. tables_in tail.super_end g [] image >>= λ ts. Ok (t ∷ ts)) table);
    }

    parts_are : part_fault (most_at image) (idle_read m c tail g t)
        ≡ own_check (most_at image) m.slot t
    parts_are =
        of_idle m
        (λ p.
        first_fault (p.part_checks (most_at image) (t ∷ []))
        ≡ own_check (most_at image) m.slot t)
        is_idle
        (subst
        (λ (b : Bool).
        first_fault
        (own_check (most_at image) m.slot t ∷ overlay_checks b m.slot (layout_of t))
        ≡ own_check (most_at image) m.slot t)
        (sym plain) (or_first (own_check (most_at image) m.slot t)))

    state_is : state_fault (idle_read m c tail g t)
        ≡ first_fault (slot_checks m.slot (control_read_of m.slot c))
    state_is =
        of_idle m
        (λ p.
        first_fault (p.state_checks (control_read_of m.slot c) (t ∷ []) [])
        ≡ first_fault (slot_checks m.slot (control_read_of m.slot c)))
        is_idle refl

    no_stores : scans_in (stores_of (idle_read m c tail g t)) image ≡ Ok []
    no_stores =
        of_idle m (λ p. scans_in (p.stores (t ∷ []) []) image ≡ Ok []) is_idle
        (subst
        (λ (b : Bool). scans_in (overlay_wanted b m.slot (layout_of t)) image ≡ Ok [])
        (sym plain) refl)

    pub idle_judged : (f : StartFault)
        → or_else (own_check (most_at image) m.slot t)
        (first_fault (slot_checks m.slot (control_read_of m.slot c)))
        ≡ Some f
        → device size image ≡ Err f
    idle_judged f is = by_check (own_check (most_at image) m.slot t) parts_are is
      where
        by_check : (x : Option StartFault)
            → part_fault (most_at image) (idle_read m c tail g t) ≡ x
            → or_else x (first_fault (slot_checks m.slot (control_read_of m.slot c))) ≡ Some f
            → device size image ≡ Err f
        by_check None parts is =
            device_stated size (idle_read m c tail g t) image [] f frame_reads parts no_stores
            (state_is ∙ is)
        by_check (Some h) parts is =
            device_judged size (idle_read m c tail g t) image f frame_reads (parts ∙ is)

    pub reads_idle : own_check (most_at image) m.slot t ≡ None
        → first_fault (slot_checks m.slot (control_read_of m.slot c)) ≡ None
        → Reads size (idle_read m c tail g t) image
    reads_idle parts state =
        reads_of size (idle_read m c tail g t) image [] frame_reads (parts_are ∙ parts) no_stores
        (state_is ∙ state)
