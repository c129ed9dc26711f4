-- A device with an update and its disk, by the tables that are kept.
use Rattle.std.proofs.Common.{◌≡◌, ◌∙◌, inl, inr, ℕ, zero, suc, ◌<◌, List, [], ◌∷◌, true, false, Ok}
use Rattle.std.proofs.Common.{refl, sym, ap, subst, arith}
use Rattle.std.specs.Prelude.{Option, Some, is_some}
use Rattle.vab_disk.specs.Disk.{Image}
use Rattle.vab_bootctl.specs.declared.slots.Control.{Control}
use Rattle.vab_bootctl.specs.Control.{control_of}
use Rattle.vab_marks.specs.declared.mark.MarkPhase.{MarkPhase}
use Rattle.vab_marks.specs.declared.mark.MarkPhase.TheVariants as marks
use Rattle.vab_marks.specs.declared.mark.UpdateMark.{UpdateMark}
use Rattle.vab_marks.specs.Mark.{rephased, resloted}
use Rattle.vab_marks.specs.declared.status.PartStatus.{PartStatus}
use Rattle.vab_tables.specs.declared.table.Table.{Table}
use Rattle.vab_geometry.specs.declared.geometry.Geometry.{Geometry}
use Rattle.vab_layout.specs.Layout.{layout_of}
use Rattle.vab_layout.specs.Slots.{other_slot}
use Rattle.vab_physical.specs.declared.tail.Tail.{Tail}
use Rattle.vab_device.specs.declared.device.Part.{Part}
use Rattle.vab_device.specs.declared.device.Device.{Device}
use Rattle.vab_device.specs.Kept.{table_of_slot, is_installing, IsPhase, IsDevice}
use Rattle.vab_device.specs.Phases.{plan_of}
use Rattle.vab_device.specs.Reading.{Reads, Represents, AgreeCopies}
use Rattle.vab_device.specs.Stores.{Scanned}
use Rattle.vab_edit.specs.Tables.{HasTables}
use Rattle.vab_edit.proofs.InstallingLaws.{read_at, stands_installing}
use Rattle.vab_edit.proofs.NextLaws.{device_at}
use Rattle.vab_marks.specs.declared.version.MarkVersion.TheVariants.{Two}
use Rattle.vab_device.specs.Reading.{version_at}

pub record StandsUpdate (d : Device) (size : ℕ) (image : Image) (s t : Table) : Type 0 where
  pub statuses : List (Option PartStatus)
  pub seen : Control
  pub scanned : List Scanned
  pub reads : Reads size (read_at d.mark d.mark.slot statuses seen d.tail d.geometry s t scanned)
      image
  pub is : d ≡ device_at d.mark d.mark.slot statuses seen d.tail d.geometry s t scanned d.control
  pub control : control_of (image 4) ≡ Ok d.control
  pub copies : AgreeCopies d.geometry (d.mark.slot ∷ other_slot d.mark.slot ∷ []) (s ∷ t ∷ []) image
  pub version : version_at image ≡ Two

pub installing_phase : (m : MarkPhase) → IsPhase m → is_installing m ≡ true → m ≡ marks.Installing
installing_phase m (inl is) t =
    absurd (let bad : false ≡ true = sym (ap is_installing is) ∙ t in cc)
installing_phase m (inr (inl is)) t = is
installing_phase m (inr (inr (inl is))) t =
    absurd (let bad : false ≡ true = sym (ap is_installing is) ∙ t in cc)
installing_phase m (inr (inr (inr is))) t =
    absurd (let bad : false ≡ true = sym (ap is_installing is) ∙ t in cc)

-- where partitions are planned, an update is installed
pub planned_phase : (d : Device) (size : ℕ) (plan : List Part)
    → IsDevice d size
    → d.plan ≡ Some plan
    → d.mark.phase ≡ marks.Installing
planned_phase d size plan is planned =
    installing_phase d.mark.phase is.phase (sym is.planned ∙ ap is_some planned)

source_at : (base : UpdateMark) (k : ℕ) (statuses : List (Option PartStatus)) (seen : Control)
    (tail : Tail) (g : Geometry) (s t : Table) (scanned : List Scanned) (c : Control)
    → k < 2
    → table_of_slot (device_at base k statuses seen tail g s t scanned c) k ≡ Some s
source_at base zero statuses seen tail g s t scanned c below = refl
source_at base (suc zero) statuses seen tail g s t scanned c below = refl
source_at base (suc (suc n)) statuses seen tail g s t scanned c below =
    absurd (omega (arith, below))

target_at : (base : UpdateMark) (k : ℕ) (statuses : List (Option PartStatus)) (seen : Control)
    (tail : Tail) (g : Geometry) (s t : Table) (scanned : List Scanned) (c : Control)
    → k < 2
    → table_of_slot (device_at base k statuses seen tail g s t scanned c) (other_slot k) ≡ Some t
target_at base zero statuses seen tail g s t scanned c below = refl
target_at base (suc zero) statuses seen tail g s t scanned c below = refl
target_at base (suc (suc n)) statuses seen tail g s t scanned c below =
    absurd (omega (arith, below))

some_same : {X : Type 0} (a b : X) → Some a ≡ Some b → a ≡ b
some_same a b e = cc

pub stands_update : (d : Device) (size : ℕ) (image : Image) (s t : Table)
    → IsDevice d size
    → HasTables d s t
    → Represents d size image
    → StandsUpdate d size image s t
stands_update d size image s t is has represents =
    let phase = planned_phase d size has.old_plan is has.is_planned in
    let st = stands_installing d size image represents phase in
    let slot : d.mark.slot ≡ st.slot = ap (λ (x : Device). x.mark.slot) st.is in
    let tail : d.tail ≡ st.tail = ap (λ (x : Device). x.tail) st.is in
    let geometry : d.geometry ≡ st.geometry = ap (λ (x : Device). x.geometry) st.is in
    let below : st.slot < 2 = omega (arith, is.slot, slot) in
    let source : s ≡ st.source =
    some_same s st.source
    (sym has.source ∙ ap (λ (x : Device). table_of_slot x x.mark.slot) st.is
    ∙ source_at st.base st.slot st.statuses st.seen st.tail st.geometry st.source st.target
    st.scanned d.control below) in
    let target : t ≡ st.target =
    some_same t st.target
    (sym has.target ∙ ap (λ (x : Device). table_of_slot x (other_slot x.mark.slot)) st.is
    ∙ target_at st.base st.slot st.statuses st.seen st.tail st.geometry st.source st.target
    st.scanned d.control below) in
    let marked : d.mark ≡ rephased marks.Installing (resloted st.slot st.base) =
    ap (λ (x : Device). x.mark) st.is in
    let all : (let x : UpdateMark × Tail × Geometry × Table × Table = (
      rephased marks.Installing (resloted st.slot st.base),
      st.tail,
      st.geometry,
      st.source,
      st.target,
    ) in
    let y : UpdateMark × Tail × Geometry × Table × Table =
    (d.mark, d.tail, d.geometry, s, t) in x ≡ y) =
    (λ i. (sym marked i, sym tail i, sym geometry i, sym source i, sym target i)) in
    record {
      statuses = st.statuses;
      seen = st.seen;
      scanned = st.scanned;
      reads = subst
          (λ (x : UpdateMark × Tail × Geometry × Table × Table).
          Reads size (read_at x.0 x.0.slot st.statuses st.seen x.1 x.2 x.3 x.4 st.scanned) image)
          all st.reads;
      is = subst
          (λ (x : UpdateMark × Tail × Geometry × Table × Table).
          d ≡ device_at x.0 x.0.slot st.statuses st.seen x.1 x.2 x.3 x.4 st.scanned d.control)
          all st.is;
      control = st.control;
      copies = subst
          (λ (x : UpdateMark × Tail × Geometry × Table × Table).
          AgreeCopies x.2 (x.0.slot ∷ other_slot x.0.slot ∷ []) (x.3 ∷ x.4 ∷ []) image)
          all st.copies;
      version = st.version;
    }

-- what is planned
pub planned_at : (d : Device) (size : ℕ) (image : Image) (s t : Table) (plan : List Part)
    → (st : StandsUpdate d size image s t)
    → d.plan ≡ Some plan
    → plan ≡ plan_of (other_slot d.mark.slot) (layout_of t) st.scanned
planned_at d size image s t plan st is =
    some_same plan (plan_of (other_slot d.mark.slot) (layout_of t) st.scanned)
    (sym is ∙ ap (λ (x : Device). x.plan) st.is)
