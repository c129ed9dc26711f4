-- Behind the gate of its status a partition has its image, wherever that stands.
use Rattle.std.proofs.Common.{◌≡◌, ◌∙◌, inl, inr, ⊎_elim, ℕ, ◌≤◌, List, length, set, Ok, sym}
use Rattle.std.proofs.Common.{ap, subst, arith}
use Rattle.std.specs.Prelude.{Option, Some, map}
use Rattle.vab_disk.specs.Disk.{Image, set_sector}
use Rattle.vab_disk.specs.Written.{set_there}
use Rattle.vab_names.specs.Names.{base_of}
use Rattle.vab_space.specs.declared.Chunk.{Chunk}
use Rattle.vab_exceptions.specs.declared.area.Exception.{Exception}
use Rattle.vab_marks.specs.declared.status.PartStatus.{PartStatus}
use Rattle.vab_marks.specs.declared.status.StatusImage.{StatusImage}
use Rattle.vab_marks.specs.Status.{status_of}
use Rattle.vab_statuses.specs.Statuses.{statuses_in, free_in, with_status, IsOfStatuses}
use Rattle.vab_statuses.proofs.StatusesLaws.{statuses_put, statuses_same}
use Rattle.vab_layout.specs.Layout.{layout_of}
use Rattle.vab_layout.specs.Slots.{other_slot, own_parts}
use Rattle.vab_model.specs.declared.state.PlanImage.TheVariants as models
use Rattle.vab_model.specs.declared.state.Phase.TheVariants.{Installing}
use Rattle.vab_device.specs.declared.device.Part.{Part}
use Rattle.vab_device.specs.declared.device.PartImage.TheVariants.{Written}
use Rattle.vab_device.specs.declared.device.Device.{Device}
use Rattle.vab_device.specs.Kept.{sectors_of, IsDevice}
use Rattle.vab_device.specs.Mounted.{bytes_at, written_sectors, entry_on, state_on, mounted_on}
use Rattle.vab_device.specs.Phases.{plan_of}
use Rattle.vab_device.specs.Reading.{Represents, IsOfBlocks}
use Rattle.vab_device.specs.Stores.{Wanted, wanted_of, scan_at}
use Rattle.vab_device.specs.Flashed.{filled, with_image}
use Rattle.vab_device.proofs.BlockLaws.{bytes_same}
use Rattle.vab_device.proofs.NamedParts.{one_of_name}
use Rattle.vab_flash.specs.Chosen.{with_written}
use Rattle.vab_flash.specs.Place.{plan_or, planned_at}
use Rattle.vab_flash.proofs.ApartLaws.{BelongTo}
use Rattle.vab_flash.proofs.DeadLaws.{not_low, unnamed}
use Rattle.vab_flash.proofs.GateLaws.{device_then, installs_then, plan_then, mounted_then}
use Rattle.vab_flash.proofs.InstallingLaws.{Installs, installs_represents, statuses_were}
use Rattle.vab_flash.proofs.PlacedLaws.{Placed}

-- Where the blocks that belong to a partition were written, and then a status of it.
module _ (d : Device) (size : ℕ) (old : Image) (device_is : IsDevice d size)
    (i : Installs d size old) (name : List ℕ) (place : ℕ) (p : Placed d size old i name place)
    (blocks bytes : List ℕ)
    (belong : BelongTo i.slot (layout_of i.source).parts (layout_of i.target).parts name blocks)
    (mid : Image) (there : StatusImage) (chunk : Chunk) (es : List Exception)
    (free : ℕ) (spelled : List ℕ)
    (mid_same : (s : ℕ)
    → (IsOfBlocks (sectors_of (layout_of i.target).device.first_logical_sector blocks) s → ⊥)
    → mid s ≡ old s)
    (w : Wanted)
    (wanted_one : wanted_of i.base.apart (other_slot i.slot) (layout_of i.target)
    (record { name = name; image = there })
    ≡ Ok w)
    (scan_one : (image : Image)
    → ((s : ℕ) → 4096 ≤ s → image s ≡ mid s)
    → scan_at w image ≡ Ok (record { name = name; chunk = chunk; exceptions = es }))
    (free_is : (statuses : List (Option PartStatus))
    → statuses_in old ≡ Ok statuses
    → free_in statuses ≡ Some free)
    (in_statuses : IsOfStatuses free)
    (decoded : status_of spelled ≡ Ok (record { name = name; image = there }))
    (seen_high : (s : ℕ)
    → IsOfBlocks (written_sectors (planned_at d place) chunk es) s
    → 4096 ≤ s)
    (bytes_mid : bytes_at mid (written_sectors (planned_at d place) chunk es)
    ≡ filled bytes (length (planned_at d place).map)) where
  abbrev pub gated : Image
  gated = set_sector mid free spelled

  abbrev at : ℕ
  at = (layout_of i.target).device.first_logical_sector

  stay : (s : ℕ)
      → (IsOfStatuses s → ⊥)
      → (IsOfBlocks (sectors_of at blocks) s → ⊥)
      → gated s ≡ old s
  stay s status not =
      set_there mid free spelled s (λ e. status (subst IsOfStatuses (sym e) in_statuses))
      ∙ mid_same s not

  high_stays : (s : ℕ) → 4096 ≤ s → gated s ≡ mid s
  high_stays s high =
      set_there mid free spelled s (λ e. omega (arith, e, in_statuses.below, high))

  were : statuses_in old ≡ Ok i.statuses
  were = statuses_were d size old i

  joined : statuses_in gated
      ≡ Ok (with_status i.statuses free (record { name = name; image = there }))
  joined =
      statuses_put mid spelled i.statuses free (record { name = name; image = there })
      (statuses_same old mid
      (λ s is.
      mid_same s
      (not_low d size old i device_is name blocks belong p.unread s (omega (arith, is.below))))
      ∙ were)
      (free_is i.statuses were)
      (unnamed d size old i device_is name blocks belong p.unread)
      decoded

  scan_then : scan_at w gated ≡ Ok (record { name = name; chunk = chunk; exceptions = es })
  scan_then = scan_one gated high_stays

  next : Device
  next = device_then d size old i device_is name blocks p.part p.own belong p.unread gated there
      chunk es free stay (free_is i.statuses were) joined w wanted_one scan_then

  represents_then : Represents next size gated
  unfolding next
  represents_then =
      installs_represents next size gated
      (installs_then d size old i device_is name blocks p.part p.own belong p.unread gated there
      chunk es free stay (free_is i.statuses were) joined w wanted_one scan_then)

  -- it is what is kept
  next_is : next ≡ with_written d place chunk es
  unfolding next
  next_is =
      ap (λ (plan : List Part). record d { plan = Some plan })
      (sym (plan_then d size old i device_is name blocks p.part p.own belong p.unread gated there
      chunk es free stay (free_is i.statuses were) joined w wanted_one scan_then place p.part
      p.within (p.at_place p.part) p.named p.updated p.differ)
      ∙ ap (λ (x : Part).
      set (plan_of (other_slot i.slot) (layout_of i.target) i.scanned) place
      (record x { image = Written chunk es })) (sym p.planned)
      ∙ ap (λ (plan : List Part).
      set plan place (record (planned_at d place) { image = Written chunk es }))
      (sym p.plan_is))

  pub represents_next : Represents (with_written d place chunk es) size gated
  represents_next = subst (λ (k : Device). Represents k size gated) next_is represents_then

  -- ---- what it means

  part_long : length (planned_at d place).map ≡ length (sectors_of at p.part.blocks)
  part_long = ap (λ (x : Part). length x.map) p.planned

  name_is : (planned_at d place).name ≡ base_of name
  name_is = ap (λ (x : Part). x.name) p.planned ∙ ap base_of p.named

  bytes_then : bytes_at gated (written_sectors (planned_at d place) chunk es)
      ≡ filled bytes (length (planned_at d place).map)
  bytes_then =
      bytes_same mid gated (written_sectors (planned_at d place) chunk es)
      (λ s is. high_stays s (seen_high s is))
      ∙ bytes_mid

  pub mounted_next : mounted_on (with_written d place chunk es) gated
      ≡ record (mounted_on d old) {
        state = record (state_on d old) {
          phase =
              Installing d.mark.slot (record {
                apart = d.mark.apart;
                entries =
                    with_image (planned_at d place).name
                    (models.Written (filled bytes (length (planned_at d place).map)) (length es))
                    (map (entry_on old) (plan_or d.plan));
              });
        };
      }
  unfolding next
  mounted_next =
      let means = mounted_then d size old i device_is name blocks p.part p.own belong p.unread gated
      there chunk es free stay (free_is i.statuses were) joined w wanted_one scan_then
      bytes p.named p.updated
      (λ q c.
      ⊎_elim (λ same. inl same) (λ differs. inr (λ e. differs (e ∙ sym p.named)))
      (one_of_name (own_parts (other_slot i.slot) (layout_of i.target).parts) q p.part p.differ
      c
      p.there))
      (subst (λ (x : Part).
      bytes_at gated (written_sectors x chunk es) ≡ filled bytes (length x.map)) p.planned
      bytes_then) in
      let named = sym name_is in
      let long = sym part_long in
      let planned = sym p.plan_is in
      ap (λ (k : Device). mounted_on k gated) (sym next_is)
      ∙ means
      ∙ (λ k. record (mounted_on d old) {
        state = record (state_on d old) {
          phase =
              Installing d.mark.slot (record {
                apart = d.mark.apart;
                entries =
                    with_image (named k) (models.Written (filled bytes (long k)) (length es))
                    (map (entry_on old) (planned k));
              });
        };
      })
