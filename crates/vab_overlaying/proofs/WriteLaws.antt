-- What a disk means of which the store is the one before a block was written, or the one with it.
use Rattle.std.proofs.Common.{◌≡◌, ◌∙◌, inl, inr, ℕ, ◌+◌, ◌≤◌, ◌<◌, List, length}
use Rattle.std.proofs.Common.{Ok, sym, ap, subst, arith, true}
use Rattle.std.specs.Prelude.{Option, Some}
use Rattle.std.proofs.lemmas.Bool.{cases_lt, le-leb}
use Rattle.std.proofs.lemmas.List.{length-map}
use Rattle.vab_disk.specs.Disk.{Image}
use Rattle.vab_exceptions.specs.declared.area.Exception.{Exception}
use Rattle.vab_space.specs.Space.{need_of}
use Rattle.vab_space.specs.declared.Chunk.TheVariants.{One}
use Rattle.vab_store.specs.Setting.{entry_place}
use Rattle.vab_store.specs.View.{Fits}
use Rattle.vab_store.proofs.ScanLaws.{scan_of_ok}
use Rattle.vab_store.proofs.SettingLaws.{length-set_held, length-set_behind}
use Rattle.vab_overlay.specs.Overlaid.{IsEntered, IsKept, IsWritten}
use Rattle.vab_model.specs.declared.command.Reply.TheVariants as replies
use Rattle.vab_model.specs.declared.state.Overlay.{Overlay}
use Rattle.vab_model.specs.Commands.{OverlayWrite}
use Rattle.vab_model.specs.Effects.{does, wanting}
use Rattle.vab_model.specs.Over.{written_over}
use Rattle.vab_model.specs.Overlay.{with_overlay}
use Rattle.vab_device.specs.declared.device.Part.{Part}
use Rattle.vab_device.specs.declared.device.Device.{Device}
use Rattle.vab_device.specs.Kept.{IsDevice}
use Rattle.vab_device.specs.Mounted.{Mounted, mounted_on, state_on, overlay_by, overlay_on}
use Rattle.vab_device.specs.Mounted.{in_state}
use Rattle.vab_device.specs.Reading.{device, Represents, IsOfBlocks}
use Rattle.vab_device.specs.Updates.{effect_on}
use Rattle.vab_device.proofs.PartBlocks.{sectors_long}
use Rattle.vab_device.proofs.ReadingLaws.{device_stands}
use Rattle.vab_overlaying.specs.Over.{with_list, with_over}
use Rattle.vab_overlaying.proofs.NextLaws.{base, store, fits, disjoint, part_kept}
use Rattle.vab_overlaying.proofs.NextLaws.{represents_over, mounted_over}
use Rattle.vab_overlaying.proofs.PutLaws.{blocks_set}
use Rattle.vab_overlaying.proofs.WriteRowLaws.{overlaid_on, over_long, is_done}
use Rattle.vab_overlaying.proofs.SeenLaws.{bytes_kept, bytes_put}
use Rattle.vab_overlaying.proofs.ShapeLaws.{part_by, IsList, IsOver, first_of}

-- a list with an entry has one more at most
entered_most : (es : List Exception) (block : ℕ) (now : List Exception)
    → IsEntered es block now
    → length now ≤ length es + 1
entered_most es block now is = elim (cases_lt (entry_place es block) (length es)) [
  | inl held ↦
      omega (arith, ap length is.entered, length-set_held es block is.chunk held)
  | inr behind ↦
      omega (arith, ap length is.entered, length-set_behind es block is.chunk behind)
]

module _ (d : Device) (size : ℕ) (old : Image) (dev : IsDevice d size)
    (is : Represents d size old) (p : Part) (over : d.overlay ≡ Some p)
    (i : IsOver d size old is.read p) (block : ℕ) (from : List ℕ)
    (inside : block < length p.map) (long : length from ≡ 4096)
    (whole : (s : ℕ) → s < size → length (old s) ≡ 512) where
  abbrev map : List ℕ
  map = base d size old dev is p over i

  abbrev chunks : List ℕ
  chunks = store d size old dev is p over i

  abbrev es : List Exception
  es = i.exceptions

  -- the machine's overlay before and after
  abbrev before : Overlay
  before = overlay_by old p

  abbrev pub after : Mounted
  after =
      in_state (mounted_on d old)
      (with_overlay (state_on d old) (Some (written_over block from before)))

  pub below : block < length map
  below = omega (arith, inside, ap (λ (q : Part). length q.map) i.part)

  store_long : length chunks ≡ length i.over.store.blocks
  store_long = sectors_long (first_of i.table) i.over.store.blocks

  -- ---- the row

  pub effect : need_of (length es + 1) ≤ length chunks
      → effect_on (mounted_on d old) (Some from) (OverlayWrite block)
      ≡ wanting true (does replies.Done after)
  effect room =
      let on = overlaid_on d size p dev over in
      is_done d old block p over from long
      (over_long d.tail.super_end on.0 p on.2 size dev.ends old whole) inside
      (subst
      (λ (q : Part). need_of (length (overlay_by old q).blocks + 1) ≤ (overlay_by old q).store)
      (sym i.part) (omega (arith, room, length-map es (λ (e : Exception). e.old_chunk))))

  overlay_is : with_overlay (state_on d old) (Some (overlay_by old p)) ≡ state_on d old
  unfolding state_on
  overlay_is =
      ap (λ (o : Option Part). with_overlay (state_on d old) (overlay_on old o)) (sym over)

  -- ---- an image of which the store alone is another

  module _ (new : Image)
      (stay : (s : ℕ) → (IsOfBlocks chunks s → ⊥) → new s ≡ old s) where
    -- with the list from before
    pub kept_means : IsKept chunks (length map) es old new
        → device size new ≡ Ok (mounted_on d old)
    kept_means k =
        let list : IsList i.table i.over es new = record { over = k.overlaid; few = i.list.few } in
        let same : overlay_by new (part_by i.table i.over es)
        ≡ overlay_by old (part_by i.table i.over es) =
        (λ j. record (overlay_by old (part_by i.table i.over es)) {
          bytes = bytes_kept map chunks es es old new (fits d size old dev is p over i)
              (fits d size old dev is p over i)
              (λ n at. k.same map n (disjoint d size old dev is p over i) at) j;
        }) in
        let as_was : with_overlay (state_on d old) (Some (overlay_by new (with_list p es)))
        ≡ state_on d old =
        ap (λ (q : Part). with_overlay (state_on d old) (Some (overlay_by new (with_list q es))))
        i.part
        ∙ ap (λ (o : Overlay). with_overlay (state_on d old) (Some o)) same
        ∙ ap (λ (q : Part). with_overlay (state_on d old) (Some (overlay_by old q))) (sym i.part)
        ∙ overlay_is in
        device_stands (with_over d p es) size new
        (represents_over d size old dev is p over i es new stay list)
        ∙ ap (λ (m : Mounted). Ok m)
        (mounted_over d size old dev is p over i es new stay list
        ∙ ap (in_state (mounted_on d old)) as_was)

    -- with the block's entry
    module _ (now : List Exception)
        (w : IsWritten chunks (length map) es now block from old new)
        (room : need_of (length es + 1) ≤ length chunks) where
      list : IsList i.table i.over now new
      list = record {
        over = w.overlaid;
        few = le-leb (length now) (length i.over.store.blocks)
            (omega (arith, entered_most es block now w.entered, room, store_long));
      }

      fits_now : Fits One (length map) chunks now
      fits_now = (scan_of_ok chunks (length map) new now w.overlaid.scanned).fits

      written : overlay_by new (part_by i.table i.over now)
          ≡ written_over block from (overlay_by old (part_by i.table i.over es))
      written =
          let blocks = ap
          (λ (l : List Exception). (overlay_by new (part_by i.table i.over l)).blocks)
          w.entered.entered
          ∙ blocks_set es block w.entered.chunk in
          let kept = part_kept d size old dev is p over i in
          let bytes = bytes_put map chunks es now old new (fits d size old dev is p over i) fits_now
          d.tail.super_end block from (λ s lt. whole s (omega (arith, lt, dev.ends)))
          kept.on_disk kept.store.0.on_disk below long (w.here map)
          (λ n at other. w.others map n (disjoint d size old dev is p over i) at other) in
          (λ j. record (overlay_by old (part_by i.table i.over es)) {
            blocks = blocks j;
            bytes = bytes j;
          })

      pub written_represents : Represents (with_over d p now) size new
      written_represents = represents_over d size old dev is p over i now new stay list

      pub written_mounted : mounted_on (with_over d p now) new ≡ after
      written_mounted =
          let as_is : overlay_by new (with_list p now) ≡ written_over block from before =
          ap (λ (q : Part). overlay_by new (with_list q now)) i.part
          ∙ written
          ∙ ap (λ (q : Part). written_over block from (overlay_by old q)) (sym i.part) in
          mounted_over d size old dev is p over i now new stay list
          ∙ ap
          (λ (o : Overlay). in_state (mounted_on d old) (with_overlay (state_on d old) (Some o)))
          as_is

      pub written_means : device size new ≡ Ok after
      written_means =
          device_stands (with_over d p now) size new written_represents
          ∙ ap (λ (m : Mounted). Ok m) written_mounted
