-- What a write over the overlaid partition does, by what the write into its store does.
use Rattle.std.proofs.Common.{◌≡◌, ◌∙◌, inl, inr, ⊎_elim, ℕ, ◌+◌, ◌≤◌, ◌<◌, List, length}
use Rattle.std.proofs.Common.{Ok, Err, Result, refl, sym, ap, subst, true, false, arith, ◌*◌}
use Rattle.std.specs.Prelude.{Option, Some, Bool, is_some}
use Rattle.std.proofs.lemmas.List.{length-map}
use Rattle.vab_disk.specs.declared.disk.Disk.{Ghosts}
use Rattle.vab_disk.specs.Disk.{Image, Outcome, Adds, LeavesWith}
use Rattle.vab_disk.specs.Calls.{IsAtRest, InSectors, Touches}
use Rattle.vab_disk.proofs.CallLaws.{touches_wider, reads_none}
use Rattle.vab_disk.proofs.Moments.{adds_wider}
use Rattle.vab_exceptions.specs.declared.area.Exception.{Exception}
use Rattle.vab_gate.specs.declared.gate.DiskFault.{DiskFault}
use Rattle.vab_space.specs.Space.{need_of}
use Rattle.vab_space.specs.declared.Chunk.TheVariants.{One}
use Rattle.vab_store.specs.View.{Fits}
use Rattle.vab_overlay.specs.declared.fault.OverlayFault.{OverlayFault}
use Rattle.vab_overlay.specs.declared.fault.OverlayFault.TheVariants as faults
use Rattle.vab_overlay.specs.Overlaid.{IsWritten, LeavesOverlaid, IsOverlaying}
use Rattle.vab_model.specs.declared.command.Reply.{Reply}
use Rattle.vab_model.specs.declared.command.Reply.TheVariants as replies
use Rattle.vab_model.specs.declared.command.Refusal.TheVariants as refusals
use Rattle.vab_model.specs.Commands.{OverlayWrite}
use Rattle.vab_model.specs.Effects.{Effect, does, wanting, steps_of, after_of, IsOneOf}
use Rattle.vab_model.specs.Effects.{answers, refuses, unless_refused}
use Rattle.vab_device.specs.declared.device.Part.{Part}
use Rattle.vab_device.specs.declared.device.PartImage.{PartImage}
use Rattle.vab_device.specs.declared.device.PartImage.TheVariants as images
use Rattle.vab_device.specs.declared.device.Device.{Device}
use Rattle.vab_device.specs.Does.{Does, LeavesStep, effect_of}
use Rattle.vab_device.specs.Kept.{IsDevice, IsPart, IsOverlay, IsOverlaidOn}
use Rattle.vab_device.specs.Mounted.{Mounted, mounted_on, blocks_there, blocks_over, bytes_at}
use Rattle.vab_device.specs.Mounted.{sectors_read}
use Rattle.vab_device.specs.Reading.{Represents, IsOfBlocks}
use Rattle.vab_device.specs.Updates.{effect_on}
use Rattle.vab_device.proofs.DoesLaws.{follows_kept, step_follows, does_nothing}
use Rattle.vab_overlaying.specs.Over.{with_list, with_over, PutsOver}
use Rattle.vab_device.specs.Mounted.{exceptions_in}
use Rattle.vab_overlaying.specs.Writes.{IsOfOverlaid}
use Rattle.vab_overlaying.proofs.NextLaws.{base, store}
use Rattle.vab_device.proofs.InStores.{in_blocks}
use Rattle.vab_overlaying.proofs.WriteRowLaws.{overlaid_on, shape, over_long, store_full, is_done}
use Rattle.vab_overlaying.proofs.ShapeLaws.{IsOver, over_of}
use Rattle.vab_overlaying.proofs.WriteLaws.{after, effect, below, kept_means, written_represents}
use Rattle.vab_overlaying.proofs.WriteLaws.{written_mounted, written_means}
use Rattle.vab_device.proofs.DoesLaws.{adds_both}

-- the device with a list that fits is one
over_kept : (d : Device) (size : ℕ) (p : Part) (block : ℕ) (now : List Exception)
    → IsDevice d size
    → d.overlay ≡ Some p
    → block < length p.map
    → ((bound : ℕ)
    → block < bound
    → Fits One bound (blocks_there p.store) (exceptions_in p.image)
    → Fits One bound (blocks_there p.store) now)
    → IsDevice (with_over d p now) size
over_kept d size p block now is over inside grows =
    let on = overlaid_on d size p is over in
    let x : IsOverlaidOn d.tail.super_end on.0 p = on.2 in
    let part = subst (IsPart d.tail.super_end) (shape d.tail.super_end on.0 p x) x.part in
    let was = subst
    (λ (q : Part). Fits One (length p.map) (blocks_there q.store) (exceptions_in q.image))
    (sym (shape d.tail.super_end on.0 p x)) part.store.1 in
    let fits : Fits One (length p.map) x.store now =
    subst (λ (xs : List ℕ). Fits One (length p.map) xs now) (ap blocks_there x.stored)
    (grows (length p.map) inside was) in
    let next : IsPart d.tail.super_end
    (record p { store = Some x.store; image = images.Written One now })
    = record {
      name = part.name;
      on_disk = part.on_disk;
      once = part.once;
      small = part.small;
      store = (part.store.0, fits);
    } in
    let overlay : IsOverlaidOn d.tail.super_end on.0 (with_list p now) = record {
      part =
          subst (λ (o : Option (List ℕ)).
          IsPart d.tail.super_end (record p { store = o; image = images.Written One now }))
          (sym x.stored) next;
      store = x.store;
      exceptions = now;
      stored = x.stored;
      written = refl;
      base = x.base;
      apart = x.apart;
    } in
    record {
      enough = is.enough;
      ends = is.ends;
      geometry = is.geometry;
      control = is.control;
      phase = is.phase;
      slot = is.slot;
      flags = is.flags;
      current = is.current;
      has_a = is.has_a;
      has_b = is.has_b;
      copies_on = is.copies_on;
      parts_a = is.parts_a;
      parts_b = is.parts_b;
      table_a = is.table_a;
      table_b = is.table_b;
      source = is.source;
      target = is.target;
      planned = is.planned;
      plan = is.plan;
      update = is.update;
      overlaid = ap is_some (sym over) ∙ is.overlaid;
      overlay =
          subst
          (λ (ps : Option (List Part)). IsOverlay d.tail.super_end ps (Some (with_list p now)))
          (sym on.1) overlay;
    }

module _ {D : Type 0} (g : Ghosts D) (d : Device) (p : Part) (over : d.overlay ≡ Some p)
    (block : ℕ) (from : List ℕ)
    (inside : block < length p.map) (long : length from ≡ 4096)
    (old new : D) (now : List Exception)
    (dev : IsDevice d (g.size old))
    (is : g.is_modelled → Represents d (g.size old) (g.seen old))
    (whole : g.is_modelled → (s : ℕ) → s < g.size old → length (g.seen old s) ≡ 512) where
  abbrev W : ℕ → List ℕ → Type 0
  W = InSectors (IsOfOverlaid d)

  -- what is written stands in the store
  within : (store : List ℕ) (s : ℕ) (b : List ℕ)
      → p.store ≡ Some store
      → IsOverlaying store (exceptions_in p.image) block from (g.seen old) s b
      → IsOfOverlaid d s
  within store s b stored w = record {
    part = p;
    is = over;
    store = store;
    stored = stored;
    inside = in_blocks store w.inside.block s w.inside.within w.inside.here;
  }

  module _ {A : Type 0} (r : Result A OverlayFault)
      (puts : PutsOver g (blocks_there p.store) (exceptions_in p.image) now block from old new r)
      (room : need_of (length (exceptions_in p.image) + 1) ≤ length (blocks_there p.store)) where
    touches_over : Touches g (InSectors (IsOfOverlaid d)) old new
    touches_over =
        let on = overlaid_on d (g.size old) p dev over in
        touches_wider g W _ old new puts.touches
        (λ s b w.
        within on.2.store s b on.2.stored
        (subst
        (λ (xs : List ℕ). IsOverlaying xs (exceptions_in p.image) block from (g.seen old) s b)
        (ap blocks_there on.2.stored) w))

    module _ (t : g.is_modelled) where
      abbrev size : ℕ
      size = g.size old

      abbrev image : Image
      image = g.seen old

      abbrev i : IsOver d size image (is t).read p
      i = over_of d size image dev (is t) p over

      abbrev chunks : List ℕ
      chunks = store d size image dev (is t) p over i

      abbrev map : List ℕ
      map = base d size image dev (is t) p over i

      abbrev step : Mounted
      step = after d size image dev (is t) p over i block from inside long (whole t)

      puts_here : PutsOver g chunks i.exceptions now block from old new r
      puts_here =
          subst
          (λ (q : Part). PutsOver g (blocks_there q.store) (exceptions_in q.image) now block from
          old new r)
          i.part puts

      room_here : need_of (length i.exceptions + 1) ≤ length chunks
      room_here =
          subst
          (λ (q : Part). need_of (length (exceptions_in q.image) + 1)
          ≤ length (blocks_there q.store))
          i.part room

      at : block < length map
      at = below d size image dev (is t) p over i block from inside long (whole t)

      pub effect_is : effect_on (mounted_on d image) (Some from) (OverlayWrite block)
          ≡ wanting true (does replies.Done step)
      effect_is = effect d size image dev (is t) p over i block from inside long (whole t) room_here

      abbrev e : Effect Mounted
      e = effect_on (mounted_on d image) (Some from) (OverlayWrite block)

      -- an image of which the store alone is another
      leaves : IsAtRest g old
          → (o : Outcome)
          → LeavesOverlaid chunks (length map) i.exceptions block from (g.told old) image o
          → LeavesWith (IsOverlaying chunks i.exceptions block from image) (g.told old)
          (g.may_leave old) o
          → LeavesStep (g.told old) size (steps_of (mounted_on d image) e) o
      leaves rest o over_is with_is =
          let stay : (s : ℕ) → (IsOfBlocks chunks s → ⊥) → o.image s ≡ image s = λ s not.
          ⊎_elim (λ held. rest s (o.image s) held)
          (λ w.
          absurd (not (in_blocks chunks w.inside.block s w.inside.within w.inside.here)))
          (with_is.each_sector s) in
          ⊎_elim
          (λ kept. record {
            told_so_far = over_is.told_so_far;
            mounted = mounted_on d image;
            step = inl refl;
            means = kept_means d size image dev (is t) p over i block from inside long (whole t)
                o.image stay kept;
          })
          (λ w. record {
            told_so_far = over_is.told_so_far;
            mounted = step;
            step =
                subst (λ (x : Effect Mounted). IsOneOf (steps_of (mounted_on d image) x) step)
                (sym effect_is) (inr (inl refl));
            means = written_means d size image dev (is t) p over i block from inside long (whole t)
                o.image stay w.0 w.1 room_here;
          })
          over_is.either

      pub time_over : IsAtRest g old
          → Adds g.moment g.outcomes old new
          (LeavesStep (g.told old) size (steps_of (mounted_on d image) e))
      time_over rest =
          adds_wider g.moment g.outcomes old new _ _
          (adds_both g.moment g.outcomes old new _ _
          (puts_here.time t rest (length map) at i.list.over)
          (puts_here.touches.time t))
          (λ o both. leaves rest o both.0 both.1)

      -- the image behind the write
      stay_now : (s : ℕ) → (IsOfBlocks chunks s → ⊥) → g.seen new s ≡ image s
      stay_now s not =
          ⊎_elim (λ same. same)
          (λ w.
          absurd (not (in_blocks chunks w.inside.block s w.inside.within w.inside.here)))
          (puts_here.touches.seen t s)

      module _ (w : IsWritten chunks (length map) i.exceptions now block from image (g.seen new))
        where
          pub represents_now : Represents (with_over d p now) size (g.seen new)
          represents_now =
              written_represents d size image dev (is t) p over i block from inside long (whole t)
              (g.seen new) stay_now now w room_here

          pub mounted_now : mounted_on (with_over d p now) (g.seen new) ≡ step
          mounted_now =
              written_mounted d size image dev (is t) p over i block from inside long (whole t)
              (g.seen new) stay_now now w room_here

  -- ---- what it answers

  -- the disk has failed
  pub fails_over : {A : Type 0} (fault : DiskFault)
      → PutsOver {A = A} g (blocks_there p.store) (exceptions_in p.image) now block from old new
      (Err faults.DiskFault)
      → Does g d (Some from) (OverlayWrite block) (InSectors (IsOfOverlaid d)) old new (Err fault)
  fails_over {A} fault puts =
      let r : Result A OverlayFault = Err faults.DiskFault in
      let room = puts.full in
      record {
        refused = false;
        kept = tt;
        follows = tt;
        represents = λ t. tt;
        after = λ t. tt;
        reply = λ t. tt;
        rest = λ t rest. tt;
        quiet = puts.touches.quiet;
        still = λ t none. absurd (step_follows (effect_is r puts room t) none);
        touches = λ t. touches_over r puts room;
        time = λ t rest. time_over r puts room t rest;
        faults = record { steady = tt; cause = puts.counts };
      }

  -- the block is written
  pub does_over : {A : Type 0} (x : A)
      → PutsOver g (blocks_there p.store) (exceptions_in p.image) now block from old new (Ok x)
      → Does g d (Some from) (OverlayWrite block) (InSectors (IsOfOverlaid d)) old new
      (Ok (with_over d p now, replies.Done))
  does_over {A} x puts =
      let r : Result A OverlayFault = Ok x in
      let room = puts.full in
      let w = λ (t : g.is_modelled). (puts_here r puts room t).written t
      (length (map r puts room t)) (at r puts room t) (i r puts room t).list.over in
      record {
        refused = false;
        kept = over_kept d (g.size old) p block now dev over inside puts.fits;
        follows = follows_kept d (OverlayWrite block) (with_over d p now)
            (record { geometry = refl; slot = refl; parts = refl });
        represents = λ t. represents_now r puts room t (w t);
        after = λ t.
            mounted_now r puts room t (w t)
            ∙ ap (λ (e : Effect Mounted). after_of (mounted_on d (g.seen old)) e)
            (sym (effect_is r puts room t));
        reply = λ t. ap (λ (e : Effect Mounted). e.reply) (sym (effect_is r puts room t));
        rest = λ t rest. puts.rest t;
        quiet = puts.touches.quiet;
        still = λ t none. absurd (step_follows (effect_is r puts room t) none);
        touches = λ t. touches_over r puts room;
        time = λ t rest. time_over r puts room t rest;
        faults = record { steady = puts.counts; cause = tt };
      }

  -- with its own list the device is itself
  same_device : with_over d p (exceptions_in p.image) ≡ d
  same_device =
      let on = overlaid_on d (g.size old) p dev over in
      let image : images.Written One (exceptions_in p.image) ≡ p.image =
      ap (λ (es : List Exception). images.Written One es) (ap exceptions_in on.2.written)
      ∙ sym on.2.written in
      ap (λ (x : PartImage). record d { overlay = Some (record p { image = x }) }) image
      ∙ (λ j. record d { overlay = sym over j })

  blocks_long : (x : PartImage) → length (blocks_over x) ≡ length (exceptions_in x)
  blocks_long images.Kept = refl
  blocks_long images.Declared = refl
  blocks_long (images.Written k es) = length-map es (λ (e : Exception). e.old_chunk)

  bytes_there : (t : g.is_modelled)
      → length (bytes_at (g.seen old) (sectors_read p)) ≡ 4096 * length p.map
  bytes_there t =
      let on = overlaid_on d (g.size old) p dev over in
      over_long d.tail.super_end on.0 p on.2 (g.size old) dev.ends (g.seen old) (whole t)

  abbrev needed : ℕ
  needed = need_of (length (exceptions_in p.image) + 1)

  abbrev has : ℕ
  has = length (blocks_there p.store)

  refuses_over : (refused : Bool) (reply : Reply) {wants : Bool}
      → (g.is_modelled
      → effect_of g d (Some from) (OverlayWrite block) refused old ≡ wanting wants (answers reply))
      → new ≡ old
      → now ≡ exceptions_in p.image
      → Does g d (Some from) (OverlayWrite block) (InSectors (IsOfOverlaid d)) old new
      (Ok (with_over d p now, reply))
  refuses_over refused reply {wants} told none same =
      subst
      (λ (x : D). Does g d (Some from) (OverlayWrite block) (InSectors (IsOfOverlaid d)) old x
      (Ok (with_over d p now, reply)))
      (sym none)
      (subst
      (λ (k : Device). Does g d (Some from) (OverlayWrite block) (InSectors (IsOfOverlaid d)) old
      old (Ok (k, reply)))
      (sym (ap (with_over d p) same ∙ same_device))
      (does_nothing g d (Some from) (OverlayWrite block) (InSectors (IsOfOverlaid d)) refused reply
      old old {wants = wants} dev is told (reads_none g old) refl))

  -- the store is full
  pub full_over : {A : Type 0} (need have : ℕ)
      → PutsOver {A = A} g (blocks_there p.store) (exceptions_in p.image) now block from old new
      (Err (faults.Full need have))
      → Does g d (Some from) (OverlayWrite block) (InSectors (IsOfOverlaid d)) old new
      (Ok (with_over d p now, replies.Refused (refusals.StoreFull need have)))
  full_over {A} need have puts =
      refuses_over false (replies.Refused (refusals.StoreFull need have)) {wants = false}
      (λ t.
      let long_is : need_of (length (blocks_over p.image) + 1) ≡ needed =
      ap (λ (n : ℕ). need_of (n + 1)) (blocks_long p.image) in
      store_full d (g.seen old) block p over from long (bytes_there t) inside
      (omega (arith, long_is, puts.full.2))
      ∙ ap (λ (n : ℕ). refuses (refusals.StoreFull n has)) (long_is ∙ sym puts.full.0)
      ∙ ap (λ (n : ℕ). refuses (refusals.StoreFull need n)) (sym puts.full.1))
      puts.unwritten puts.failed

  -- memory is refused
  pub refused_over : {A : Type 0}
      → PutsOver {A = A} g (blocks_there p.store) (exceptions_in p.image) now block from old new
      (Err faults.NoMemory)
      → Does g d (Some from) (OverlayWrite block) (InSectors (IsOfOverlaid d)) old new
      (Ok (with_over d p now, replies.Refused refusals.NoMemory))
  refused_over {A} puts =
      refuses_over true (replies.Refused refusals.NoMemory) {wants = false}
      (λ t.
      let long_is : need_of (length (blocks_over p.image) + 1) ≡ needed =
      ap (λ (n : ℕ). need_of (n + 1)) (blocks_long p.image) in
      ap (unless_refused true)
      (is_done d (g.seen old) block p over from long (bytes_there t) inside
      (omega (arith, long_is, puts.full))))
      puts.unwritten puts.failed
