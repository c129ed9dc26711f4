-- What holds of a kept device over every disk.
use Rattle.std.proofs.Common.{◌≡◌, ◌≢◌, ℕ, ◌+◌, ◌*◌, ◌≤◌, ◌<◌, inl, inr, true, List, []}
use Rattle.std.proofs.Common.{◌∷◌, ◌++◌, length, get_or, Option, Some, None, refl, sym, ◌∙◌, ap}
use Rattle.std.proofs.Common.{subst, arith}
use Rattle.std.proofs.Common.{zero, suc, false}
use Rattle.std.specs.Prelude.{All, AllPairs, Contains, is_some}
use Rattle.std.proofs.lemmas.Bool.{cases_Bool}
use Rattle.std.proofs.lemmas.List.{length-map, get_or-map}
use Rattle.std.proofs.lemmas.List.Elements.{All-map, Contains-get_or}
use Rattle.vab_device.proofs.StoreParts.{store_is}
use Rattle.vab_names.specs.Names.{is_of_slot}
use Rattle.vab_bootctl.specs.declared.slots.Control.{Control}
use Rattle.vab_geometry.specs.declared.geometry.Geometry.{Geometry}
use Rattle.vab_marks.specs.declared.mark.MarkPhase.TheVariants as marks
use Rattle.vab_marks.specs.declared.mark.UpdateMark.{UpdateMark}
use Rattle.vab_tables.specs.declared.table.Table.{Table}
use Rattle.vab_tables.specs.Rules.{cap_of, KeepsRules}
use Rattle.vab_layout.specs.declared.layout.Part.{Part as PartOfLayout}
use Rattle.vab_layout.specs.declared.layout.Layout.{Layout}
use Rattle.vab_layout.specs.Layout.{layout_of, blocks_of_parts}
use Rattle.vab_layout.specs.Rules.{IsLayout}
use Rattle.vab_layout.proofs.LayoutLaws.{layout_keeps}
use Rattle.vab_layout.specs.Slots.{other_slot, own_parts, IsOwn, IsDistinct}
use Rattle.vab_device.specs.Kept.{lies_in, sectors_of, part_on, parts_of}
use Rattle.vab_device.specs.Kept.{IsPart, AreParts, IsTableOf}
use Rattle.vab_device.specs.Kept.{IsDevice}
use Rattle.std.specs.Prelude.{Bool, option_map, IfSome}
use Rattle.std.specs.Str.{bytes_eq}
use Rattle.std.proofs.lemmas.Slice.Eq.{bytes_eq-Decides}
use Rattle.std.proofs.lemmas.List.Elements.{All-head, All-tail}
use Rattle.std.proofs.lemmas.List.Kept.{AllPairs-filter}
use Rattle.vab_names.specs.Names.{store_of}
use Rattle.vab_marks.specs.declared.mark.MarkPhase.{MarkPhase}
use Rattle.vab_marks.specs.declared.status.PartStatus.{PartStatus}
use Rattle.vab_lpstore.specs.declared.loaded.Loaded.{Loaded}
use Rattle.vab_layout.specs.Slots.{store_parts, is_updated, IsTargetBeside}
use Rattle.vab_device.specs.Kept.{IsStore, IsStored, IsPart, AreParts, AreOfUpdate, IsPhase}
use Rattle.vab_device.specs.Kept.{has_slot, reads_both, IsOverlay}
use Rattle.vab_device.specs.Phases.{store_on, planned_image, planned_on, plan_of, overlay_of}
use Rattle.vab_device.specs.Reading.{kept}
use Rattle.vab_device.specs.Stores.{Scanned, first_named, scanned_named}
use Rattle.vab_partitions.specs.Merging.{IsMerging}
use Rattle.vab_plan.specs.Scans.{IsTargetTable}
use Rattle.vab_recover.specs.Scans.{AreExceptions, IsScanned}
use Rattle.vab_recover.specs.Opened.{read_of, target_tables, AreHeads}
use Rattle.vab_device.proofs.MarkLaws.{not_overlaid}
use Rattle.vab_device.proofs.OwnParts.{length-sectors_of}
use Rattle.vab_physical.specs.declared.tail.Tail.{Tail}
use Rattle.vab_device.proofs.OwnParts.{blocks_on, parts_kept}

-- ---- the partitions that are planned

-- a store's image, where it is there
stored : (size first : ℕ) (base : List ℕ) (x : Option PartOfLayout) (updated : Bool)
    (s : Option Scanned)
    → ((q : PartOfLayout) → x ≡ Some q → IsStore size base (sectors_of first q.blocks))
    → ((e : Scanned)
    → s ≡ Some e
    → (store : Option (List ℕ))
    × (option_map (λ q. sectors_of first q.blocks) x ≡ store)
    × AreExceptions e.chunk (length base) store e.exceptions)
    → IsStored size base (option_map (λ q. sectors_of first q.blocks) x) (planned_image updated s)
stored size first base None false s store fits = tt
stored size first base None true None store fits = tt
stored size first base None true (Some e) store fits =
    let f = fits e refl in
    subst (λ (o : Option (List ℕ)). AreExceptions e.chunk (length base) o e.exceptions) (sym f.1)
    f.2
stored size first base (Some q) false s store fits = store q refl
stored size first base (Some q) true None store fits = store q refl
stored size first base (Some q) true (Some e) store fits =
    let f = fits e refl in (
      store q refl,
      subst (λ (o : Option (List ℕ)). AreExceptions e.chunk (length base) o e.exceptions)
          (sym f.1) f.2,
    )

-- the scan of a name is one of the scans
scan_is : (P : Scanned → Type 0) (name : List ℕ) (ss : List Scanned) (e : Scanned)
    → All P ss
    → scanned_named name ss ≡ Some e
    → P e × (e.name ≡ name)
scan_is P name [] e all is = absurd (let no : None ≡ Some e = is in cc)
scan_is P name (s ∷ ss) e all is = elim (cases_Bool (bytes_eq s.name name)) [
  | inl here ↦
      let found : Some s ≡ Some e = rw here at is in
      let same : s ≡ e = cc in
      subst (λ (t : Scanned). P t × (t.name ≡ name)) same
      (All-head P s ss all, (bytes_eq-Decides s.name name).0 here)
  | inr other ↦
      let found : scanned_named name ss ≡ Some e = rw other at is in
      scan_is P name ss e (All-tail P s ss all) found
]

-- where names differ, each is found by its own
found_at : (ps : List PartOfLayout) (k : ℕ) (d : PartOfLayout)
    → AllPairs (λ a b. a.name ≢ b.name) ps
    → k < length ps
    → first_named (get_or ps k d).name ps ≡ Some (get_or ps k d)
found_at [] k d differ lt = absurd (omega (arith, lt))
found_at (p ∷ ps) zero d differ lt =
    let here = (bytes_eq-Decides p.name p.name).1 refl in rw here refl
found_at (p ∷ ps) (suc k) d differ lt = elim (cases_Bool (bytes_eq p.name (get_or ps k d).name)) [
  | inl same ↦
      absurd (differ 0 (suc k) d (omega arith) lt
      ((bytes_eq-Decides p.name (get_or ps k d).name).0 same))
  | inr other ↦
      rw other
      (found_at ps k d
      (λ i j d low below. differ (suc i) (suc j) d (omega (arith, low)) (omega (arith, below)))
      (omega (arith, lt)))
]

module _
    (size slot : ℕ) (g : Geometry) (t : Table)
    (enough : 4120 ≤ size)
    (target : IsTargetTable slot t)
    (lies : lies_in size g (layout_of t).device ≡ true) where
  abbrev l : Layout
  l = layout_of t

  abbrev first : ℕ
  first = (layout_of t).device.first_logical_sector

  layout : IsLayout (layout_of t)
  layout = layout_keeps t target.rules

  planned_is : (ss : List Scanned) (p : PartOfLayout)
      → All (IsScanned slot l) ss
      → Contains (own_parts slot l.parts) p
      → first_named p.name (own_parts slot l.parts) ≡ Some p
      → IsPart size (part_on first p)
      → IsPart size (planned_on l ss p)
  planned_is ss p are own found part = record {
    name = part.name;
    on_disk = part.on_disk;
    once = part.once;
    small = part.small;
    store =
        stored size first (sectors_of first p.blocks) (first_named (store_of p.name) l.parts)
        (is_updated p) (scanned_named p.name ss)
        (λ q is. store_is size slot g l enough layout target.once lies p q own is)
        (λ e is.
        let s = scan_is (IsScanned slot l) p.name ss e are is in
        let x = s.0 in
        let same : Some x.part ≡ Some p =
        sym x.named
        ∙ ap (λ (n : List ℕ). first_named n (own_parts slot l.parts)) s.1
        ∙ found in
        let part_is : x.part ≡ p = cc in
        let long : length x.part.blocks ≡ length (sectors_of first p.blocks) =
        ap (λ (q : PartOfLayout). length q.blocks) part_is
        ∙ sym (length-sectors_of first p.blocks) in (
          x.store,
          sym (ap (store_on l) s.1) ∙ x.stored,
          subst (λ (n : ℕ). AreExceptions e.chunk n x.store e.exceptions) long x.fits,
        ));
  }

  pub plan_kept : (ss : List Scanned)
      → All (IsScanned slot l) ss
      → AreParts size (plan_of slot l ss)
  plan_kept ss are =
      let mine : List PartOfLayout = own_parts slot l.parts in
      let parts = parts_kept size slot g l enough layout target.own lies in
      let differ : AllPairs (λ a b. a.name ≢ b.name) mine =
      AllPairs-filter (λ (a b : PartOfLayout). a.name ≢ b.name)
      (λ (p : PartOfLayout). is_of_slot slot p.name) l.parts
      layout.part_names in
      let long = length-map mine (part_on first) in
      record {
        each = All-map (IsPart size) (planned_on l ss) mine
            (λ k d lt. planned_is ss (get_or mine k d) are (Contains-get_or mine k d lt)
            (found_at mine k d differ lt)
            (subst (IsPart size) (get_or-map (part_on first) mine k d (part_on first d) lt)
            (parts.each k (part_on first d) (omega (arith, lt, long)))));
        few = omega (arith, target.own.few, length-map mine (planned_on l ss));
      }

-- ---- the device

-- the partition that is overlaid, of a slot with these
pub record IsOverlaidHere
    (size : ℕ)
    (overlaid : Bool)
    (slot : ℕ)
    (l : Layout)
    (ss : List Scanned) : Type 0 where
  pub there : is_some (overlay_of overlaid slot l ss) ≡ overlaid
  pub fits : IsOverlay size (Some (parts_of slot l)) (overlay_of overlaid slot l ss)

by_case : (size : ℕ) (base : UpdateMark) (phase : MarkPhase) (slot : ℕ)
    (statuses : List (Option PartStatus))
    (c : Control) (tail : Tail)
    (g : Geometry) (s : Table) (t : Option Loaded) (ss : List Scanned)
    → AreHeads size (record base { phase = phase; slot = slot }) c tail g
    → has_slot phase slot c.current ≡ true
    → IsTableOf tail.super_end g slot s
    → IfSome t (λ l. IsTableOf tail.super_end g (other_slot slot) l.table)
    → IfSome t (λ l. AreOfUpdate base.apart slot s l.table)
    → is_some t ≡ reads_both phase
    → IfSome t (λ l. AreParts tail.super_end (plan_of (other_slot slot) (layout_of l.table) ss))
    → (phase ≡ marks.Merging → AreParts tail.super_end (plan_of slot (layout_of s) ss))
    → (phase ≡ marks.Idle → IsOverlaidHere tail.super_end base.overlaid slot (layout_of s) ss)
    → AreParts tail.super_end (parts_of slot (layout_of s))
    → (let m : UpdateMark = record base { phase = phase; slot = slot } in
    IsDevice (record (kept (read_of m statuses c tail g (s ∷ target_tables t) ss)) { control = c })
    size)
by_case size base marks.Idle zero statuses c tail g s None ss
    heads current source target update both plan own over parts =
    record {
      enough = heads.enough;
      ends = heads.ends;
      geometry = heads.geometry;
      control = heads.control;
      phase = inl refl;
      slot = heads.slot;
      flags = heads.flags;
      current = current;
      has_a = refl;
      has_b = refl;
      copies_on = heads.copies_on;
      parts_a = parts;
      parts_b = tt;
      table_a = source;
      table_b = tt;
      source = refl;
      target = refl;
      planned = refl;
      plan = tt;
      update = tt;
      overlaid = (over refl).there;
      overlay = (over refl).fits;
    }
by_case size base marks.Idle (suc zero) statuses c tail g s None ss
    heads current source target update both plan own over parts =
    record {
      enough = heads.enough;
      ends = heads.ends;
      geometry = heads.geometry;
      control = heads.control;
      phase = inl refl;
      slot = heads.slot;
      flags = heads.flags;
      current = current;
      has_a = refl;
      has_b = refl;
      copies_on = heads.copies_on;
      parts_a = tt;
      parts_b = parts;
      table_a = tt;
      table_b = source;
      source = refl;
      target = refl;
      planned = refl;
      plan = tt;
      update = tt;
      overlaid = (over refl).there;
      overlay = (over refl).fits;
    }
by_case size base marks.Installing zero statuses c tail g s (Some l) ss
    heads current source target update both plan own over parts =
    record {
      enough = heads.enough;
      ends = heads.ends;
      geometry = heads.geometry;
      control = heads.control;
      phase = inr (inl refl);
      slot = heads.slot;
      flags = heads.flags;
      current = current;
      has_a = refl;
      has_b = refl;
      copies_on = heads.copies_on;
      parts_a = parts;
      parts_b = tt;
      table_a = source;
      table_b = target;
      source = refl;
      target = refl;
      planned = refl;
      plan = plan;
      update = update;
      overlaid =
          sym (not_overlaid (record base { phase = marks.Installing; slot = 0 }) heads.flags refl);
      overlay = tt;
    }
by_case size base marks.Installing (suc zero) statuses c tail g s (Some l) ss
    heads current source target update both plan own over parts =
    record {
      enough = heads.enough;
      ends = heads.ends;
      geometry = heads.geometry;
      control = heads.control;
      phase = inr (inl refl);
      slot = heads.slot;
      flags = heads.flags;
      current = current;
      has_a = refl;
      has_b = refl;
      copies_on = heads.copies_on;
      parts_a = tt;
      parts_b = parts;
      table_a = target;
      table_b = source;
      source = refl;
      target = refl;
      planned = refl;
      plan = plan;
      update = update;
      overlaid =
          sym (not_overlaid (record base { phase = marks.Installing; slot = 1 }) heads.flags refl);
      overlay = tt;
    }
by_case size base marks.Staged zero statuses c tail g s (Some l) ss
    heads current source target update both plan own over parts =
    record {
      enough = heads.enough;
      ends = heads.ends;
      geometry = heads.geometry;
      control = heads.control;
      phase = inr (inr (inl refl));
      slot = heads.slot;
      flags = heads.flags;
      current = refl;
      has_a = refl;
      has_b = refl;
      copies_on = heads.copies_on;
      parts_a = parts;
      parts_b = plan;
      table_a = source;
      table_b = target;
      source = refl;
      target = refl;
      planned = refl;
      plan = tt;
      update = update;
      overlaid =
          sym (not_overlaid (record base { phase = marks.Staged; slot = 0 }) heads.flags refl);
      overlay = tt;
    }
by_case size base marks.Staged (suc zero) statuses c tail g s (Some l) ss
    heads current source target update both plan own over parts =
    record {
      enough = heads.enough;
      ends = heads.ends;
      geometry = heads.geometry;
      control = heads.control;
      phase = inr (inr (inl refl));
      slot = heads.slot;
      flags = heads.flags;
      current = refl;
      has_a = refl;
      has_b = refl;
      copies_on = heads.copies_on;
      parts_a = plan;
      parts_b = parts;
      table_a = target;
      table_b = source;
      source = refl;
      target = refl;
      planned = refl;
      plan = tt;
      update = update;
      overlaid =
          sym (not_overlaid (record base { phase = marks.Staged; slot = 1 }) heads.flags refl);
      overlay = tt;
    }
by_case size base phase (suc (suc n)) statuses c tail g s t ss
    heads current source target update both plan own over parts =
    absurd (omega (arith, heads.slot))
by_case size base marks.Idle zero statuses c tail g s (Some l) ss
    heads current source target update both plan own over parts =
    absurd (let no : true ≡ false = both in cc)
by_case size base marks.Idle (suc zero) statuses c tail g s (Some l) ss
    heads current source target update both plan own over parts =
    absurd (let no : true ≡ false = both in cc)
by_case size base marks.Installing zero statuses c tail g s None ss
    heads current source target update both plan own over parts =
    absurd (let no : false ≡ true = both in cc)
by_case size base marks.Installing (suc zero) statuses c tail g s None ss
    heads current source target update both plan own over parts =
    absurd (let no : false ≡ true = both in cc)
by_case size base marks.Staged zero statuses c tail g s None ss
    heads current source target update both plan own over parts =
    absurd (let no : false ≡ true = both in cc)
by_case size base marks.Staged (suc zero) statuses c tail g s None ss
    heads current source target update both plan own over parts =
    absurd (let no : false ≡ true = both in cc)
by_case size base marks.Merging zero statuses c tail g s None ss
    heads current source target update both plan own over parts =
    record {
      enough = heads.enough;
      ends = heads.ends;
      geometry = heads.geometry;
      control = heads.control;
      phase = inr (inr (inr refl));
      slot = heads.slot;
      flags = heads.flags;
      current = current;
      has_a = refl;
      has_b = refl;
      copies_on = heads.copies_on;
      parts_a = own refl;
      parts_b = tt;
      table_a = source;
      table_b = tt;
      source = refl;
      target = refl;
      planned = refl;
      plan = tt;
      update = tt;
      overlaid =
          sym (not_overlaid (record base { phase = marks.Merging; slot = 0 }) heads.flags refl);
      overlay = tt;
    }
by_case size base marks.Merging (suc zero) statuses c tail g s None ss
    heads current source target update both plan own over parts =
    record {
      enough = heads.enough;
      ends = heads.ends;
      geometry = heads.geometry;
      control = heads.control;
      phase = inr (inr (inr refl));
      slot = heads.slot;
      flags = heads.flags;
      current = current;
      has_a = refl;
      has_b = refl;
      copies_on = heads.copies_on;
      parts_a = tt;
      parts_b = own refl;
      table_a = tt;
      table_b = source;
      source = refl;
      target = refl;
      planned = refl;
      plan = tt;
      update = tt;
      overlaid =
          sym (not_overlaid (record base { phase = marks.Merging; slot = 1 }) heads.flags refl);
      overlay = tt;
    }
by_case size base marks.Merging zero statuses c tail g s (Some l) ss
    heads current source target update both plan own over parts =
    absurd (let no : true ≡ false = both in cc)
by_case size base marks.Merging (suc zero) statuses c tail g s (Some l) ss
    heads current source target update both plan own over parts =
    absurd (let no : true ≡ false = both in cc)
by_case size base marks.Completed slot statuses c tail g s t ss
    heads current source target update both plan own over parts =
    absurd (no_phase heads.phase)
  where
    no_phase : IsPhase marks.Completed → ⊥
    no_phase (inl e) = absurd (let no : marks.Completed ≡ marks.Idle = e in cc)
    no_phase (inr (inl e)) = absurd (let no : marks.Completed ≡ marks.Installing = e in cc)
    no_phase (inr (inr (inl e))) = absurd (let no : marks.Completed ≡ marks.Staged = e in cc)
    no_phase (inr (inr (inr e))) = absurd (let no : marks.Completed ≡ marks.Merging = e in cc)

-- What was read of a disk of so many sectors is a device there.
pub device_kept : (size : ℕ) (m : UpdateMark) (statuses : List (Option PartStatus)) (c : Control)
    (tail : Tail) (g : Geometry) (s : Table) (t : Option Loaded) (ss : List Scanned)
    → AreHeads size m c tail g
    → has_slot m.phase m.slot c.current ≡ true
    → IsTableOf tail.super_end g m.slot s
    → IfSome t (λ l. IsTableOf tail.super_end g (other_slot m.slot) l.table)
    → IfSome t (λ l. AreOfUpdate m.apart m.slot s l.table)
    → is_some t ≡ reads_both m.phase
    → IfSome t (λ l. AreParts tail.super_end (plan_of (other_slot m.slot) (layout_of l.table) ss))
    → (m.phase ≡ marks.Merging → AreParts tail.super_end (plan_of m.slot (layout_of s) ss))
    → (m.phase ≡ marks.Idle → IsOverlaidHere tail.super_end m.overlaid m.slot (layout_of s) ss)
    → IsDevice
    (record (kept (read_of m statuses c tail g (s ∷ target_tables t) ss)) { control = c })
    size
device_kept size m statuses c tail g s t ss heads current source target update both plan own over =
    by_case size m m.phase m.slot statuses c tail g s t ss heads current source target update both
    plan own over
    (parts_kept tail.super_end m.slot g (layout_of s) heads.enough (layout_keeps s source.rules)
    source.own source.lies)

-- a slot's table whose blocks stand once
once_table : (slot : ℕ) (t : Table)
    → KeepsRules t
    → IsOwn slot (layout_of t).parts
    → IsDistinct
    (blocks_of_parts
    (own_parts slot (layout_of t).parts ++ store_parts slot (layout_of t).parts))
    → IsTargetTable slot t
once_table slot t keeps own once = record {
  rules = keeps;
  own = own;
  once = once;
}

pub target_table : (slot : ℕ) (twins source : List PartOfLayout) (t : Table)
    → KeepsRules t
    → IsTargetBeside slot twins source (layout_of t).parts
    → IsTargetTable slot t
target_table slot twins source t keeps target = once_table slot t keeps target.own target.once

pub merging_table : (slot : ℕ) (t : Table)
    → KeepsRules t
    → IsMerging slot (layout_of t).parts
    → IsTargetTable slot t
merging_table slot t keeps merging = once_table slot t keeps merging.own merging.once

pub target_on_disk : (size : ℕ) (g : Geometry) (t : Table)
    → 4120 ≤ size
    → KeepsRules t
    → lies_in size g (layout_of t).device ≡ true
    → 4096 + ((layout_of t).device.first_logical_sector + 8 * cap_of (layout_of t).device) ≤ size
target_on_disk size g t enough keeps lies =
    omega (arith, blocks_on size g (layout_of t).device enough (layout_keeps t keeps).device lies)
