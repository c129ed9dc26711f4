-- Behind the gate of its status a partition is written: what is read then, and what that means.
use Rattle.std.proofs.Common.{◌≡◌, ◌≢◌, ◌⊎◌, ◌∙◌, inl, inr, ⊎_elim, ℕ, ◌<◌, true, false}
use Rattle.std.proofs.Common.{List, []}
use Rattle.std.proofs.Common.{◌∷◌, ◌++◌, length, get_or, set, Result, Ok, refl, sym, ap, subst}
use Rattle.std.specs.Prelude.{Some, None, map, if◌then◌else◌, ◌==◌, Contains}
use Rattle.std.specs.Prelude.{AllPairs}
use Rattle.std.specs.Str.{bytes_eq}
use Rattle.std.proofs.lemmas.List.{map-append}
use Rattle.vab_disk.specs.Disk.{Image}
use Rattle.vab_bootctl.specs.Control.{control_of}
use Rattle.vab_names.specs.Names.{is_of_slot, base_of, suffix_of}
use Rattle.vab_names.proofs.NameLaws.{of_slot}
use Rattle.vab_model.specs.declared.state.PlanImage.{PlanImage}
use Rattle.vab_model.specs.declared.state.PlanImage.TheVariants as models
use Rattle.vab_model.specs.declared.state.PlanEntry.{PlanEntry}
use Rattle.vab_model.specs.declared.state.Phase.TheVariants.{Installing}
use Rattle.vab_marks.specs.declared.status.PartStatus.{PartStatus}
use Rattle.vab_marks.specs.declared.status.StatusImage.{StatusImage}
use Rattle.vab_statuses.specs.Statuses.{IsOfStatuses, statuses_in, written_in, with_status, free_in}
use Rattle.vab_exceptions.specs.declared.area.Exception.{Exception}
use Rattle.vab_space.specs.declared.Chunk.{Chunk}
use Rattle.vab_layout.specs.declared.layout.Part.{Part as PartOfLayout}
use Rattle.vab_layout.specs.declared.layout.Layout.{Layout}
use Rattle.vab_layout.specs.Layout.{layout_of}
use Rattle.vab_layout.specs.Slots.{other_slot, own_parts, is_updated}
use Rattle.vab_blocks.proofs.Contained.{first as first_of, later}
use Rattle.vab_blocks.proofs.Contained.{none_in_nil, of_filter, cons_cases}
use Rattle.vab_names.proofs.NameCases.{ne_name, eq_name}
use Rattle.vab_device.specs.declared.fault.StartFault.{StartFault}
use Rattle.vab_device.specs.declared.device.Part.{Part}
use Rattle.vab_device.specs.declared.device.PartImage.TheVariants.{Written}
use Rattle.vab_device.specs.declared.device.Device.{Device}
use Rattle.vab_device.specs.Checks.{◌>>=◌}
use Rattle.vab_device.specs.Kept.{sectors_of, IsDevice}
use Rattle.vab_device.specs.Phases.{planned_on, planned_image, plan_of}
use Rattle.vab_device.specs.Mounted.{bytes_at, written_sectors, entry_on, entries_on, images_on}
use Rattle.vab_device.specs.Mounted.{state_on, mounted_on, overlay_on}
use Rattle.vab_device.specs.Flashed.{filled, with_image}
use Rattle.vab_device.specs.Reading.{Read, read_table, kept, IsOfWritten, IsOfPlanned}
use Rattle.vab_device.proofs.StoreLaws.{plan_kept}
use Rattle.vab_device.specs.Reading.{statuses_read, statuses_at, IsOfBlocks}
use Rattle.vab_device.specs.Stores.{Wanted, Scanned, wanted_of}
use Rattle.vab_device.specs.Stores.{scan_at, scans_in, scanned_named}
use Rattle.vab_flash.proofs.ApartLaws.{BelongTo}
use Rattle.vab_flash.proofs.JoinLaws.{IsJoined, status_joins, ScansBoth, scans_apart}
use Rattle.vab_flash.proofs.JoinLaws.{scans_together}
use Rattle.vab_flash.proofs.JoinLaws.{others_kept, new_found}
use Rattle.vab_flash.proofs.InstallingLaws.{Installs, installing_read, parts_same}
use Rattle.vab_flash.proofs.DeadLaws.{mark_stays, control_stays, control_sector, tail_stays}
use Rattle.vab_flash.proofs.DeadLaws.{geometry_stays}
use Rattle.vab_flash.proofs.DeadLaws.{tables_stay, copies_agree, stores_stay}
use Rattle.vab_flash.proofs.DeadLaws.{plan_sectors, images_a_stay, images_b_stay}
use Rattle.vab_device.proofs.NamedParts.{set_one}
use Rattle.vab_marks.specs.declared.version.MarkVersion.TheVariants.{Two}
use Rattle.vab_statuses.specs.Statuses.{statuses_under}
use Rattle.vab_device.specs.Reading.{version_at}
use Rattle.vab_device.proofs.MostLaws.{parts_under}
use Rattle.vab_flash.proofs.DeadLaws.{version_stays}

-- ---- one entry of a list

-- ---- behind the gate

module _
    (d : Device) (size : ℕ) (old : Image) (i : Installs d size old) (device : IsDevice d size)
    (name blocks : List ℕ) (part : PartOfLayout)
    (own : is_of_slot (other_slot i.slot) name ≡ true)
    (belong : BelongTo i.slot (layout_of i.source).parts (layout_of i.target).parts name blocks)
    (unread : scanned_named name i.scanned ≡ None)
    (new : Image) (there : StatusImage) (chunk : Chunk) (es : List Exception) (free : ℕ)
    (same : (s : ℕ)
    → (IsOfStatuses s → ⊥)
    → (IsOfBlocks
    (sectors_of (layout_of i.target).device.first_logical_sector blocks) s → ⊥)
    → new s ≡ old s)
    (free_is : free_in i.statuses ≡ Some free)
    (joined : statuses_in new
    ≡ Ok (with_status i.statuses free (record { name = name; image = there })))
    (w : Wanted)
    (wanted_one : wanted_of i.base.apart (other_slot i.slot) (layout_of i.target)
    (record { name = name; image = there })
    ≡ Ok w)
    (scan_one : scan_at w new ≡ Ok (record { name = name; chunk = chunk; exceptions = es })) where
  abbrev read_was : Read
  read_was =
      installing_read i.base i.slot i.statuses i.seen i.tail i.geometry i.source i.target
      i.others i.scanned

  abbrev layout : Layout
  layout = layout_of i.target

  abbrev at : ℕ
  at = layout.device.first_logical_sector

  abbrev status : PartStatus
  status = record { name = name; image = there }

  abbrev one : Scanned
  one = record { name = name; chunk = chunk; exceptions = es }

  abbrev wanted : PartStatus → Result Wanted StartFault
  wanted st = wanted_of i.base.apart (other_slot i.slot) layout st

  joins : IsJoined (written_in i.statuses) (written_in (with_status i.statuses free status)) status
  joins = status_joins i.statuses free status free_is

  read_both : ScansBoth (map wanted joins.before) (map wanted joins.behind) new i.scanned
  read_both =
      scans_apart (map wanted joins.before) (map wanted joins.behind) new i.scanned
      (ap (λ (ws : List (Result Wanted StartFault)). scans_in ws new)
      (sym (ap (map wanted) joins.others ∙ map-append wanted joins.before joins.behind))
      ∙ stores_stay d size old i device name blocks belong unread new same
      ∙ i.reads.stores)

  -- what is read of the stores then
  pub scanned_then : List Scanned
  scanned_then = read_both.before ++ one ∷ read_both.behind

  read_then : scans_in (map wanted (written_in (with_status i.statuses free status))) new
      ≡ Ok scanned_then
  unfolding scanned_then
  read_then =
      let behind : scans_in (wanted status ∷ map wanted joins.behind) new
      ≡ Ok (one ∷ read_both.behind) =
      ap (λ (w : Result Wanted StartFault). scans_in (w ∷ map wanted joins.behind) new) wanted_one
      ∙ (λ k. scan_one k >>= λ s. read_both.of_second k >>= λ rest. Ok (s ∷ rest)) in
      ap (λ (ws : List (Result Wanted StartFault)). scans_in ws new)
      (ap (map wanted) joins.all ∙ map-append wanted joins.before (status ∷ joins.behind))
      ∙ scans_together (map wanted joins.before) (wanted status ∷ map wanted joins.behind) new
      read_both.before (one ∷ read_both.behind) read_both.of_first behind

  -- the exceptions of another partition stay
  pub other_exceptions : (other : List ℕ)
      → name ≢ other
      → scanned_named other scanned_then ≡ scanned_named other i.scanned
  unfolding scanned_then
  other_exceptions other differs =
      others_kept other read_both.before read_both.behind one (ne_name name other differs)
      ∙ ap (scanned_named other) (sym read_both.both)

  -- and this one has those
  pub own_exceptions : scanned_named name scanned_then ≡ Some one
  unfolding scanned_then
  own_exceptions =
      new_found name read_both.before read_both.behind one (eq_name name name refl)
      (ap (scanned_named name) (sym read_both.both) ∙ unread)

  -- the device then
  abbrev pub device_then : Device
  device_then = record d {
    plan = Some (plan_of (other_slot i.slot) layout scanned_then);
  }

  abbrev read_with : List Scanned → Read
  read_with ss =
      installing_read i.base i.slot (with_status i.statuses free status) i.seen i.tail
      i.geometry i.source i.target i.others ss

  abbrev form : Device
  form = record (kept (read_with scanned_then)) { control = d.control }

  -- the source's partitions stay
  sources_stay : record form { a = (kept read_was).a; b = (kept read_was).b } ≡ form
  sources_stay =
      let a = parts_same 0 (i.slot == 0) (read_table 0 read_was) i.scanned scanned_then in
      let b = parts_same 1 (i.slot == 1) (read_table 1 read_was) i.scanned scanned_then in
      (λ k. record form { a = a k; b = b k })

  version_was : version_at new ≡ version_at old
  version_was = version_stays d size old i device name blocks belong unread new same

  version_then : version_at new ≡ Two
  version_then = version_was ∙ i.version

  pub installs_then : Installs device_then size new
  unfolding statuses_at
  installs_then = record {
    base = i.base;
    slot = i.slot;
    statuses = with_status i.statuses free status;
    seen = i.seen;
    tail = i.tail;
    geometry = i.geometry;
    source = i.source;
    target = i.target;
    others = i.others;
    scanned = scanned_then;
    reads = record {
      enough = i.reads.enough;
      mark = mark_stays d size old i device name blocks belong unread new same ∙ i.reads.mark;
      statuses =
          ap (λ v. statuses_read (statuses_under v new)) version_then
          ∙ ap statuses_read joined;
      control =
          control_stays d size old i device name blocks belong unread new same _ _
          ∙ i.reads.control;
      tail =
          tail_stays d size old i device name blocks belong unread new same ∙ i.reads.tail;
      geometry =
          geometry_stays d size old i device name blocks belong unread new same
          ∙ i.reads.geometry;
      tables =
          tables_stay d size old i device name blocks belong unread new same ∙ i.reads.tables;
      parts = parts_under read_was old new version_was i.reads.parts;
      stores = read_then;
      state = i.reads.state;
    };
    is =
        ap (λ (k : Device). record k {
          plan = Some (plan_of (other_slot i.slot) layout scanned_then);
        }) i.is
        ∙ sources_stay;
    control =
        ap control_of (control_sector d size old i device name blocks belong unread new same)
        ∙ i.control;
    copies = copies_agree d size old i device name blocks belong unread new same;
    version = version_then;
  }

  -- ---- the entries then

  other_entry : (p : PartOfLayout)
      → p.name ≢ name
      → planned_on layout scanned_then p ≡ planned_on layout i.scanned p
  other_entry p differs =
      let es_same = other_exceptions p.name (λ e. differs (sym e)) in
      (λ k. record (planned_on layout i.scanned p) {
        image = planned_image (is_updated p) (es_same k);
      })

  pub own_entry : (p : PartOfLayout)
      → p.name ≡ name
      → is_updated p ≡ true
      → planned_on layout scanned_then p
      ≡ record (planned_on layout i.scanned p) { image = Written chunk es }
  own_entry p named updated =
      let es_is : scanned_named p.name scanned_then ≡ Some one =
      ap (λ (n : List ℕ). scanned_named n scanned_then) named ∙ own_exceptions in
      (λ k. record (planned_on layout i.scanned p) {
        image = planned_image (updated k) (es_is k);
      })

  -- the plan with that image at the partition's place
  pub plan_then : (k : ℕ) (d : PartOfLayout)
      → k < length (own_parts (other_slot i.slot) layout.parts)
      → get_or (own_parts (other_slot i.slot) layout.parts) k d ≡ part
      → part.name ≡ name
      → is_updated part ≡ true
      → AllPairs (λ a b. a.name ≢ b.name) (own_parts (other_slot i.slot) layout.parts)
      → set (plan_of (other_slot i.slot) layout i.scanned) k
      (record (planned_on layout i.scanned part) { image = Written chunk es })
      ≡ plan_of (other_slot i.slot) layout scanned_then
  plan_then k d below is named updated differ =
      ap (set (plan_of (other_slot i.slot) layout i.scanned) k) (sym (own_entry part named updated))
      ∙ set_one (planned_on layout i.scanned) (planned_on layout scanned_then)
      (own_parts (other_slot i.slot) layout.parts) k part d below is differ
      (λ p c differs. other_entry p (λ e. differs (e ∙ sym named)))

  -- ---- what that means

  written_there : (ps : List PartOfLayout) (p : PartOfLayout) (s : ℕ)
      → Contains ps p
      → IsOfWritten (planned_on layout i.scanned p) (planned_on layout i.scanned p).image s
      → IsOfPlanned (map (planned_on layout i.scanned) ps) s
  written_there [] p s c is = absurd (none_in_nil p c)
  written_there (x ∷ xs) p s c is = elim (cons_cases x xs p c) [
    | inl here ↦
        inl (subst (λ (y : PartOfLayout).
        IsOfWritten (planned_on layout i.scanned y) (planned_on layout i.scanned y).image s)
        (sym here) is)
    | inr there ↦ inr (written_there xs p s there is)
  ]

  entry_stays : (p : PartOfLayout)
      → Contains (own_parts (other_slot i.slot) layout.parts) p
      → entry_on new (planned_on layout i.scanned p) ≡ entry_on old (planned_on layout i.scanned p)
  entry_stays p c =
      let x : Part = planned_on layout i.scanned p in
      let whole : entries_on new (Some (x ∷ [])) ≡ entries_on old (Some (x ∷ [])) =
      plan_kept (Some (x ∷ [])) old new
      (λ s is.
      ⊎_elim
      (λ here.
      plan_sectors d size old i device name blocks belong unread new same s
      (written_there (own_parts (other_slot i.slot) layout.parts) p s c here))
      (λ none. absurd none) is) in
      let both : Some (entry_on new x ∷ []) ≡ Some (entry_on old x ∷ []) = whole in
      cc

  module _
      (staged : List ℕ)
      (named : part.name ≡ name)
      (updated : is_updated part ≡ true)
      (only : (p : PartOfLayout)
      → Contains (own_parts (other_slot i.slot) layout.parts) p
      → (p ≡ part) ⊎ (p.name ≢ name))
      (bytes : bytes_at new
      (written_sectors (planned_on layout i.scanned part) chunk es)
      ≡ filled staged (length (sectors_of at part.blocks))) where
    abbrev written : PlanImage
    written = models.Written (filled staged (length (sectors_of at part.blocks))) (length es)

    abbrev changed : PlanEntry → PlanEntry
    changed e = if bytes_eq e.name (base_of name) then record e { image = written } else e

    own_changed : entry_on new (planned_on layout scanned_then part)
        ≡ changed (entry_on old (planned_on layout i.scanned part))
    own_changed =
        let is : bytes_eq (base_of part.name) (base_of name) ≡ true =
        eq_name (base_of part.name) (base_of name) (ap base_of named) in
        let old_entry : PlanEntry = entry_on old (planned_on layout i.scanned part) in
        ap (entry_on new) (own_entry part named updated)
        ∙ (λ k. record old_entry { image = models.Written (bytes k) (length es) })
        ∙ rw is refl

    other_changed : (p : PartOfLayout)
        → Contains (own_parts (other_slot i.slot) layout.parts) p
        → p.name ≢ name
        → entry_on new (planned_on layout scanned_then p)
        ≡ changed (entry_on old (planned_on layout i.scanned p))
    other_changed p c differs =
        let of : is_of_slot (other_slot i.slot) p.name ≡ true =
        (of_filter (λ q. is_of_slot (other_slot i.slot) q.name) layout.parts p c).1 in
        let other : bytes_eq (base_of p.name) (base_of name) ≡ false =
        ne_name (base_of p.name) (base_of name)
        (λ e.
        differs (of_slot (other_slot i.slot) p.name of
        ∙ ap (λ (b : List ℕ). b ++ suffix_of (other_slot i.slot)) e
        ∙ sym (of_slot (other_slot i.slot) name own))) in
        ap (entry_on new) (other_entry p differs) ∙ entry_stays p c ∙ rw other refl

    each_changed : (p : PartOfLayout)
        → Contains (own_parts (other_slot i.slot) layout.parts) p
        → entry_on new (planned_on layout scanned_then p)
        ≡ changed (entry_on old (planned_on layout i.scanned p))
    each_changed p c =
        ⊎_elim
        (λ here.
        subst (λ (x : PartOfLayout).
        entry_on new (planned_on layout scanned_then x)
        ≡ changed (entry_on old (planned_on layout i.scanned x))) (sym here) own_changed)
        (λ differs. other_changed p c differs) (only p c)

    all_changed : (ps : List PartOfLayout)
        → ((p : PartOfLayout)
        → Contains ps p
        → Contains (own_parts (other_slot i.slot) layout.parts) p)
        → map (entry_on new) (map (planned_on layout scanned_then) ps)
        ≡ map changed (map (entry_on old) (map (planned_on layout i.scanned) ps))
    all_changed [] within = refl
    all_changed (p ∷ ps) within =
        let here = each_changed p (within p (first_of p ps)) in
        let rest = all_changed ps (λ x c. within x (later p ps x c)) in
        (λ k. here k ∷ rest k)

    pub entries_then : map (entry_on new) (plan_of (other_slot i.slot) layout scanned_then)
        ≡ with_image (base_of name) written
        (map (entry_on old) (plan_of (other_slot i.slot) layout i.scanned))
    entries_then = all_changed (own_parts (other_slot i.slot) layout.parts) (λ p c. c)

    pub mounted_then : mounted_on device_then new
        ≡ record (mounted_on d old) {
          state = record (state_on d old) {
            phase =
                Installing d.mark.slot (record {
                  apart = d.mark.apart;
                  entries =
                      with_image (base_of name) written
                      (map (entry_on old) (plan_of (other_slot i.slot) layout i.scanned));
                });
          };
        }
    unfolding state_on
    mounted_then =
        let a : images_on new d.a ≡ images_on old d.a =
        subst (λ (k : Device). images_on new k.a ≡ images_on old k.a) (sym i.is)
        (images_a_stay d size old i device name blocks belong unread new same) in
        let b : images_on new d.b ≡ images_on old d.b =
        subst (λ (k : Device). images_on new k.b ≡ images_on old k.b) (sym i.is)
        (images_b_stay d size old i device name blocks belong unread new same) in
        let o : overlay_on new d.overlay ≡ overlay_on old d.overlay =
        subst (λ (k : Device). overlay_on new k.overlay ≡ overlay_on old k.overlay) (sym i.is)
        refl in
        (λ k. record (mounted_on d old) {
          state = record (state_on d old) {
            a = a k;
            b = b k;
            phase =
                Installing d.mark.slot
                (record { apart = d.mark.apart; entries = entries_then k });
            overlay = o k;
          };
        })
