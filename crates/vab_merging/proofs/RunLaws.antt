-- The run in a partition's store is some turns of the device.
use Rattle.std.proofs.Common.{◌≡◌, ◌⊎◌, ◌∙◌, inl, inr, ⊎_elim, ℕ, ◌+◌, ◌-◌, ◌≤◌, ◌<◌}
use Rattle.std.proofs.Common.{true, List, length, get_or, take, Result, Ok, Err, refl, sym, ap}
use Rattle.std.proofs.Common.{subst, arith, length-take-le}
use Rattle.std.specs.Prelude.{Option, Some, None, is_some, All, IfOk}
use Rattle.std.proofs.lemmas.List.{get_or_default}
use Rattle.std.proofs.lemmas.List.Elements.{All-get_or}
use Rattle.vab_disk.specs.declared.disk.Disk.{Ghosts}
use Rattle.vab_disk.specs.Disk.{Image, Adds}
use Rattle.vab_disk.specs.Calls.{InSectors, IsAtRest, Touches, SameBut}
use Rattle.vab_disk.proofs.CallLaws.{touches_wider, reads_none, quiet_none, touches_none}
use Rattle.vab_disk.proofs.Moments.{adds_wider, adds_none}
use Rattle.vab_gate.specs.declared.gate.DiskFault.{DiskFault}
use Rattle.vab_marks.specs.declared.mark.MarkPhase.TheVariants as marks
use Rattle.vab_exceptions.specs.declared.area.Exception.{Exception}
use Rattle.vab_space.specs.declared.Chunk.{Chunk}
use Rattle.vab_space.specs.Chunks.{entries_in}
use Rattle.vab_store.specs.Layout.{IsOnDisk}
use Rattle.vab_store.specs.Scan.{scan_of}
use Rattle.vab_store.specs.View.{exception_at}
use Rattle.vab_store.proofs.ViewLaws.{take-at}
use Rattle.vab_merge.specs.Copied.{InChunk, InBlocksOf}
use Rattle.vab_merge.specs.Run.{IsLongest}
use Rattle.vab_merge.specs.Merged.{MayMerge, CanMerge, WithoutLast, IsMerging}
use Rattle.vab_store.specs.Sectors.{entry_sector}
use Rattle.vab_merge.proofs.TurnLaws.{IsMergedSector, merged_sector}
use Rattle.vab_device.specs.declared.device.Part.{Part}
use Rattle.vab_device.specs.declared.device.PartImage.{PartImage}
use Rattle.vab_device.specs.declared.device.PartImage.TheVariants.{Kept, Declared, Written}
use Rattle.vab_device.specs.declared.device.Device.{Device}
use Rattle.vab_device.specs.Kept.{IsDevice, IsPart, IsStored}
use Rattle.vab_device.specs.Mounted.{mounted_on, count_of, blocks_there}
use Rattle.vab_device.specs.Reading.{device, Represents}
use Rattle.vab_device.specs.Updates.{merged_to}
use Rattle.vab_device.proofs.ReadingLaws.{device_stands}
use Rattle.vab_merging.specs.Part.{chunk_in, store_in, RunsPart}
use Rattle.vab_device.specs.Mounted.{exceptions_in}
use Rattle.vab_merging.specs.Run.{LeavesTurns, MakesTurns}
use Rattle.vab_merging.specs.Turns.{next_of, own_of, no_part, part_at, cut_part, cut_at}
use Rattle.vab_merging.specs.Turns.{left_in}
use Rattle.vab_merging.specs.RunWrites.{IsOfTurn, IsOfTurns}
use Rattle.vab_merging.proofs.OwnLaws.{Single, single_of, own_kept, mounted_here}
use Rattle.vab_merging.proofs.TurnLaws.{next_has, cut_kept, cut_turned, left_cut, count_here}
use Rattle.vab_merging.proofs.TurnLaws.{turned_zero, next_cut, part_cut_at}
use Rattle.vab_merging.proofs.MergesLaws.{Merges, merges_of, Rules, rules_of, Placed, placed_of}
use Rattle.vab_merging.proofs.SeenLaws.{merged_in}
use Rattle.vab_merging.proofs.CutLaws.{exceptions_count, Touched, touched_of, base_apart}
use Rattle.vab_merging.proofs.CutLaws.{store_apart, disjoint, scan_kept_is, represents_then}
use Rattle.vab_merging.proofs.CutLaws.{mounted_then}
use Rattle.vab_device.proofs.DoesLaws.{adds_both}

-- ---- outcomes

-- ---- a partition that is kept

-- what a run in its store asks for over every disk
pub record IsRunnable (size : ℕ) (p : Part) : Type 0 where
  pub store : is_some p.store ≡ true
  pub may : MayMerge (chunk_in p.image) p.map (store_in p) (exceptions_in p.image) size

on_disk : (super_end size : ℕ) (map : List ℕ)
    → super_end ≤ size
    → All (λ s. s + 8 ≤ super_end) map
    → IsOnDisk map size
on_disk super_end size map ends all j below =
    omega (arith, ends, All-get_or (λ s. s + 8 ≤ super_end) map j 0 below all)

pub runnable : (super_end size : ℕ) (p : Part)
    → super_end ≤ size
    → IsPart super_end p
    → 0 < count_of p.image
    → IsRunnable size p
runnable super_end size p ends is some = by_image p.store p.image is.store some
  where
    by_image : (store : Option (List ℕ)) (image : PartImage)
        → IsStored super_end p.map store image
        → 0 < count_of image
        → IsRunnable size (record p { store = store; image = image })
    by_image store Kept stored some = absurd (omega (arith, some))
    by_image store Declared stored some = absurd (omega (arith, some))
    by_image None (Written k es) stored some =
        absurd (omega (arith, ap (λ (xs : List Exception). length xs) stored, some))
    by_image (Some store) (Written k es) stored some = record {
      store = refl;
      may = record {
        fits = stored.1;
        base_on_disk = on_disk super_end size p.map ends is.on_disk;
        store_on_disk = on_disk super_end size store ends stored.0.on_disk;
      };
    }

-- a partition that was taken out of the list
pub taken_is : (d : Device) (items : List Part) (place : ℕ) (x : Part)
    → place < length (own_of d)
    → items ≡ own_of d
    → x ≡ get_or items place x
    → x ≡ part_at d place
taken_is d items place x below same is =
    is
    ∙ ap (λ (ps : List Part). get_or ps place x) same
    ∙ get_or_default (own_of d) place x no_part below

-- what is said of the count alone
pub counted : {D A B : Type 0} (g : Ghosts D) (p : Part) (f : A → ℕ) (h : B → ℕ) (most : ℕ)
    (old new : D) (x : A) (y : B)
    → f x ≡ h y
    → RunsPart g p f most old new (Ok x)
    → RunsPart g p h most old new (Ok y)
counted g p f h most old new x y same runs = record {
  some = subst (λ (n : ℕ). 0 < n) same runs.some;
  longest =
      subst
      (λ (n : ℕ). IsLongest (entries_in (chunk_in p.image)) (exceptions_in p.image) most n)
      same runs.longest;
  merged = λ t scan.
      subst
      (λ (n : ℕ).
      WithoutLast (chunk_in p.image) p.map (store_in p) (exceptions_in p.image) n (g.seen old)
      (g.seen new))
      same (runs.merged t scan);
  rest = runs.rest;
  time = runs.time;
  touches = runs.touches;
  faults = record { steady = runs.faults.steady; cause = tt };
}

pub failed : {D A B : Type 0} (g : Ghosts D) (p : Part) (f : A → ℕ) (h : B → ℕ) (most : ℕ)
    (old new : D) (fault : DiskFault)
    → RunsPart g p f most old new (Err fault)
    → RunsPart g p h most old new (Err fault)
failed g p f h most old new fault runs = record {
  some = tt;
  longest = tt;
  merged = λ t scan. tt;
  rest = λ t rest. tt;
  time = runs.time;
  touches = runs.touches;
  faults = record { steady = tt; cause = runs.faults.cause };
}

-- ---- the next run

module _ (d : Device) (size place : ℕ)
    (is : IsDevice d size)
    (merging : d.mark.phase ≡ marks.Merging)
    (next : next_of d ≡ Some place) where
  abbrev part : Part
  part = part_at d place

  abbrev es : List Exception
  es = exceptions_in part.image

  abbrev chunk : Chunk
  chunk = chunk_in part.image

  pub single : Single d
  single = single_of d size is merging

  pub below : place < length (own_of d)
  below = (next_has d place next).0

  pub some : 0 < count_of part.image
  some = (next_has d place next).1

  pub part_is : IsPart d.tail.super_end part
  part_is =
      All-get_or (IsPart d.tail.super_end) (own_of d) place no_part below
      (own_kept d size single is).each

  pub runs_here : IsRunnable size part
  runs_here = runnable d.tail.super_end size part is.ends part_is some

  long : length es ≡ count_of part.image
  long = exceptions_count part.image

  -- ---- its sectors

  stored : (list : Option (List ℕ)) → is_some list ≡ true → list ≡ Some (blocks_there list)
  stored None is = absurd cc
  stored (Some store) is = refl

  written_cut : (n : ℕ) (image : PartImage)
      → 0 < count_of image
      → (cut_part n (record part { image = image })).image
      ≡ Written (chunk_in image) (take (length (exceptions_in image) - n) (exceptions_in image))
  written_cut n Kept has = absurd (omega (arith, has))
  written_cut n Declared has = absurd (omega (arith, has))
  written_cut n (Written k list) has = refl

  module _ (most s : ℕ) (w : IsMergedSector chunk part.map (store_in part) es most s) where
    -- the turns before that of this exception
    abbrev before : ℕ
    before = length es - 1 - w.place

    abbrev left : List Exception
    left = take (length es - before) es

    abbrev device_then : Device
    device_then = cut_at place before d

    part_then : part_at device_then place ≡ cut_part before part
    part_then = part_cut_at d place before below

    left_long : length left ≡ w.place + 1
    left_long =
        omega (arith, length-take-le (length es - before) es (omega arith), w.within)

    last : length left - 1 ≡ w.place
    last = omega (arith, left_long)

    last_is : exception_at left (length left - 1) ≡ exception_at es w.place
    last_is =
        ap (exception_at left) last
        ∙ take-at es (length es - before) w.place (omega (arith, w.within))

    sector_then : InBlocksOf chunk part.map es w.place s
        ⊎ (s ≡ entry_sector chunk (store_in part) w.place)
        → InBlocksOf chunk (part_at device_then place).map left (length left - 1) s
        ⊎ (s ≡ entry_sector chunk (store_in part) (length left - 1))
    sector_then (inl here) =
        let map_is : (part_at device_then place).map ≡ part.map =
        ap (λ (x : Part). x.map) part_then in
        inl (subst
        (λ (m : List ℕ). InChunk chunk m (exception_at left (length left - 1)).old_chunk s)
        (sym map_is)
        (subst (λ (e : Exception). InChunk chunk part.map e.old_chunk s) (sym last_is) here))
    sector_then (inr entry) =
        inr (entry ∙ ap (entry_sector chunk (store_in part)) (sym last))

    turn_then : IsOfTurn device_then s
    turn_then = record {
      place = place;
      next = next_cut d place before next (omega (arith, long, w.within));
      store = store_in part;
      stored = ap (λ (x : Part). x.store) part_then ∙ stored part.store runs_here.store;
      chunk = chunk;
      exceptions = left;
      written = ap (λ (x : Part). x.image) part_then ∙ written_cut before part.image some;
      some = omega (arith, left_long);
      here = sector_then w.here;
    }

    -- what is written for an exception is so by the turn that takes it
    pub sector_of_turn : IsOfTurns most d s
    sector_of_turn = record {
      before = before;
      below = omega (arith, w.within, w.may_run.at_most);
      turn =
          subst (λ (x : Device). IsOfTurn x s)
          (cut_turned before d size place is merging next (omega (arith, long))) turn_then;
    }

  -- ---- where the contents of the disk are told

  module _ (old : Image) (represents : Represents d size old) where
    pub i : Merges d size old
    i = merges_of d size old represents merging

    pub rules : Rules d size old i
    rules = rules_of d size old i is

    pub p : Placed d size old i place
    p = placed_of d size old i place single is rules below some

    pub can : CanMerge chunk part.map (store_in part) es size
    can = record {
      may = runs_here.may;
      base_apart = base_apart d size old i single rules place p runs_here.may.fits;
      store_apart = store_apart d size old i single rules place p runs_here.may.fits;
      disjoint = disjoint d size old i single rules place p runs_here.may.fits;
    }

    pub scanned : scan_of chunk (store_in part) (length part.map) old ≡ Ok es
    scanned = scan_kept_is d size old i single rules place p runs_here.may.fits

    -- an image on which its last exceptions are gone
    module _ (k most : ℕ) (new : Image)
        (few : k ≤ length es)
        (without : WithoutLast chunk part.map (store_in part) es k old new)
        (but : SameBut (IsMerging chunk part.map (store_in part) es most old) old new) where
      stay : (s : ℕ)
          → (Touched d size old i single rules place p runs_here.may.fits s → ⊥)
          → new s ≡ old s
      stay s not =
          ⊎_elim (λ same. same)
          (λ w.
          absurd (not (touched_of d size old i single rules place p runs_here.may.fits s
          (merged_in chunk part.map (store_in part) es most s runs_here.may.fits
          (merged_sector chunk part.map (store_in part) es most old s (new s) w)))))
          (but s)

      pub represents_cut : Represents (cut_at place k d) size new
      represents_cut =
          represents_then d size old i single rules place p runs_here.may.fits k new few without
          stay

      pub mounted_cut : mounted_on (cut_at place k d) new
          ≡ merged_to (mounted_on d old) d.mark.slot (left_in d - k)
      mounted_cut =
          mounted_then d size old i single rules place p runs_here.may.fits k new few without stay

      pub means_cut : device size new
          ≡ Ok (merged_to (mounted_on d old) d.mark.slot (left_in d - k))
      means_cut =
          device_stands (cut_at place k d) size new represents_cut ∙ ap Ok mounted_cut

  within_left : (k : ℕ) → k ≤ length es → k ≤ left_in d
  within_left k few = omega (arith, few, long, count_here (own_of d) place)

  -- ---- the promise

  module _ {D : Type 0} (g : Ghosts D) (most : ℕ) (old new : D)
      (size_is : g.size old ≡ size)
      (represents : g.is_modelled → Represents d size (g.seen old)) where
    abbrev Runs : Result (Device × ℕ) DiskFault → Type 0
    Runs result = RunsPart g part (λ r. r.1) most old new result

    touches_turns : (result : Result (Device × ℕ) DiskFault)
        → Runs result
        → Touches g (InSectors (IsOfTurns most d)) old new
    touches_turns result runs =
        touches_wider g (InSectors (IsOfTurns most d))
        (IsMerging chunk part.map (store_in part) es most (g.seen old)) old new runs.touches
        (λ s b w.
        sector_of_turn most s
        (merged_sector chunk part.map (store_in part) es most (g.seen old) s b w))

    leaves : (result : Result (Device × ℕ) DiskFault)
        → Runs result
        → g.is_modelled
        → IsAtRest g old
        → Adds g.moment g.outcomes old new
        (LeavesTurns (g.told old) size (mounted_on d (g.seen old)) d.mark.slot most (left_in d))
    leaves result runs t rest =
        adds_wider g.moment g.outcomes old new _ _
        (adds_both g.moment g.outcomes old new _ _
        (runs.time t rest (scanned (g.seen old) (represents t))) (runs.touches.time t))
        (λ o both. record {
          told_so_far = both.0.told_so_far;
          made = both.0.dropped;
          at_most = both.0.may_run.at_most;
          within = within_left both.0.dropped both.0.may_run.run.within;
          means =
              means_cut (g.seen old) (represents t) both.0.dropped most o.image
              both.0.may_run.run.within both.0.without
              (λ s.
              ⊎_elim (λ was. inl (rest s (o.image s) was)) (λ w. inr w)
              (both.1.each_sector s));
        })

    none_next : next_of d ≡ None → ⊥
    none_next none = let bad : Some place ≡ None = sym next ∙ none in cc

    pub makes : (result : Result (Device × ℕ) DiskFault)
        → IfOk result (λ r. r.0 ≡ cut_at place r.1 d)
        → Runs result
        → MakesTurns g d most old new result
    makes (Err fault) cut runs = record {
      is = tt;
      at_most = tt;
      none = tt;
      still = λ none. tt;
      reads = λ none. absurd (none_next none);
      kept = tt;
      represents = λ t. tt;
      means = λ t. tt;
      rest = runs.rest;
      quiet = runs.touches.quiet;
      touches = λ t. touches_turns (Err fault) runs;
      time =
          subst
          (λ (n : ℕ).
          g.is_modelled
          → IsAtRest g old
          → Adds g.moment g.outcomes old new
          (LeavesTurns (g.told old) n (mounted_on d (g.seen old)) d.mark.slot most (left_in d)))
          (sym size_is) (leaves (Err fault) runs);
      faults = runs.faults;
    }
    makes (Ok r) cut runs =
        let few : r.1 ≤ length es = runs.longest.run.within in
        let count : r.1 ≤ count_of part.image = omega (arith, few, long) in
        record {
          is = cut ∙ cut_turned r.1 d size place is merging next count;
          at_most = runs.longest.at_most;
          none = λ zero. absurd (omega (arith, zero, runs.some));
          still = λ none. absurd (none_next none);
          reads = λ none. absurd (none_next none);
          kept =
              subst (IsDevice r.0) (sym size_is)
              (subst (λ (x : Device). IsDevice x size) (sym cut)
              (cut_kept d size place r.1 single is below));
          represents = λ t.
              subst (λ (n : ℕ). Represents r.0 n (g.seen new)) (sym size_is)
              (subst (λ (x : Device). Represents x size (g.seen new)) (sym cut)
              (represents_cut (g.seen old) (represents t) r.1 most (g.seen new) few
              (runs.merged t (scanned (g.seen old) (represents t))) (runs.touches.seen t)));
          means = λ t. (
            within_left r.1 few,
            ap left_in cut ∙ left_cut d place r.1 count,
            ap (λ (x : Device). mounted_on x (g.seen new)) cut
                ∙ mounted_cut (g.seen old) (represents t) r.1 most (g.seen new) few
                (runs.merged t (scanned (g.seen old) (represents t))) (runs.touches.seen t),
          );
          rest = runs.rest;
          quiet = runs.touches.quiet;
          touches = λ t. touches_turns (Ok r) runs;
          time =
              subst
              (λ (n : ℕ).
              g.is_modelled
              → IsAtRest g old
              → Adds g.moment g.outcomes old new
              (LeavesTurns (g.told old) n (mounted_on d (g.seen old)) d.mark.slot most
              (left_in d)))
              (sym size_is) (leaves (Ok r) runs);
          faults = runs.faults;
        }

-- ---- where none is left

module _ {D : Type 0} (g : Ghosts D) (d : Device) (most : ℕ) (old : D)
    (is : IsDevice d (g.size old))
    (merging : d.mark.phase ≡ marks.Merging)
    (represents : g.is_modelled → Represents d (g.size old) (g.seen old))
    (none : next_of d ≡ None) where
  pub makes_none : MakesTurns g d most old old (Ok (d, 0))
  makes_none =
      let whole : left_in d - 0 ≡ left_in d = omega arith in
      record {
        is = sym (turned_zero d);
        at_most = omega arith;
        none = λ zero. none;
        still = λ none. refl;
        reads = λ none. reads_none g old;
        kept = is;
        represents = λ t. represents t;
        means = λ t. (
          omega arith,
          sym whole,
          mounted_here d (g.seen old) (single_of d (g.size old) is merging)
              ∙ ap (merged_to (mounted_on d (g.seen old)) d.mark.slot) (sym whole),
        );
        rest = λ t rest. rest;
        quiet = quiet_none g old;
        touches = λ t. touches_none g (InSectors (IsOfTurns most d)) old;
        time = λ t rest. adds_none g.moment g.outcomes old _;
        faults = record { steady = refl; cause = tt };
      }
