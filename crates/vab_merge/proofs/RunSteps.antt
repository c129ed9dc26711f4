-- The steps of a run that is merged, on a disk.
use Rattle.std.proofs.Common.{◌≡◌, inl, inr, ⊎_elim, ℕ, ◌+◌, ◌-◌, ◌*◌, ◌/◌, ◌≤◌, ◌<◌, List, length}
use Rattle.std.proofs.Common.{take, refl, sym, ◌∙◌, ap, subst, arith}
use Rattle.std.specs.Prelude.{slice_index, Ok}
use Rattle.std.proofs.lemmas.Bool.{cases_lt}
use Rattle.vab_space.specs.declared.Chunk.{Chunk}
use Rattle.vab_disk.specs.Disk.{Image, Adds}
use Rattle.vab_disk.specs.declared.disk.Disk.{Ghosts}
use Rattle.vab_disk.specs.Calls.{InSectors, SameBut, Touches, IsAtRest}
use Rattle.vab_disk.proofs.Moments.{adds_wider, adds_on}
use Rattle.vab_disk.proofs.CallLaws.{quiet_then, touches_on, touches_wider}
use Rattle.vab_exceptions.specs.declared.area.Exception.{Exception}
use Rattle.vab_space.specs.Chunks.{entries_in, page_block}
use Rattle.vab_space.proofs.ChunkLaws.{page_inside}
use Rattle.vab_store.specs.Scan.{scan_of}
use Rattle.std.proofs.lemmas.List.{take_all}
use Rattle.vab_store.specs.Seen.{view_block}
use Rattle.vab_store.proofs.ScanLaws.{scan_of_ok}
use Rattle.vab_store.proofs.ChunkLaws.{apart_sector}
use Rattle.vab_store.specs.Sectors.{page_sector}
use Rattle.vab_merge.specs.Run.{IsRun, IsLongest}
use Rattle.vab_merge.specs.Copied.{InCopied, AreCopied}
use Rattle.vab_merge.specs.Cleared.{IsClearedAt, IsClearing, AreCleared}
use Rattle.vab_merge.specs.Merged.{CanMerge, WithoutLast, MayRun, LeavesMerged, IsMerging}
use Rattle.vab_merge.proofs.CopyLaws.{copied_of_base}
use Rattle.vab_merge.proofs.RunLaws.{run_fewer, run_one}
use Rattle.vab_merge.proofs.MergeLaws.{copy_keeps, Ready, clear_keeps, clear_drops}

-- ---- runs

pub may_none : (k : Chunk) (es : List Exception) (n : ℕ) → MayRun k es n 0
may_none k es n = record {
  run = record {
    within = omega arith;
    joined = λ j behind inside. absurd (omega (arith, behind, inside));
  };
  at_most = omega arith;
}

-- ---- which sectors are written

copied_sector : (k : Chunk) (base store : List ℕ) (es : List Exception) (n : ℕ) (image : Image)
    (s : ℕ) (b : List ℕ)
    → IsRun (entries_in k) es n
    → InCopied k base es (length es - n) s
    → IsMerging k base store es n image s b
copied_sector k base store es n image s b run is = record {
  place = is.place;
  within = is.within;
  may_run = record {
    run = run_fewer (entries_in k) es n (length es - is.place) run (omega (arith, is.behind));
    at_most = omega (arith, is.behind);
  };
  here = inl is.here;
}

cleared_sector : (k : Chunk) (base store : List ℕ) (es : List Exception) (n : ℕ) (image : Image)
    (s : ℕ) (b : List ℕ)
    → IsRun (entries_in k) es n
    → 0 < n
    → IsClearing k store (length es - n) (length es) image s b
    → IsMerging k base store es n image s b
cleared_sector k base store es n image s b run some is =
    let within_run = run.within in
    let last : length es - (length es - n) ≡ n = omega (arith, within_run) in
    record {
      place = length es - n;
      within = omega (arith, some, within_run);
      may_run = record {
        run = subst (IsRun (entries_in k) es) (sym last) run;
        at_most = omega (arith, last);
      };
      here = inr is;
    }

-- a page's sectors stay while blocks are copied
page_kept : (k : Chunk) (base store : List ℕ) (es : List Exception) (size first : ℕ)
    (old mid : Image) (i : ℕ)
    → CanMerge k base store es size
    → SameBut (InSectors (InCopied k base es first)) old mid
    → 32 * i < length es
    → mid (page_sector k store i) ≡ old (page_sector k store i)
page_kept k base store es size first old mid i can but below =
    let page : ℕ = page_block k (i / 8) in
    let inside : page < length store =
    page_inside k (length store) (i / 8) (omega (arith, below, can.may.fits.room)) in
    let s : ℕ = page_sector k store i in
    ⊎_elim (λ same. same)
    (λ written.
    let in_base = copied_of_base k base es first s written in
    let b : ℕ = in_base.block in
    ⊎_elim
    (λ before. absurd (omega (arith, before)))
    (λ behind. absurd (omega (arith, behind)))
    (apart_sector (slice_index base b) (slice_index store page) s
    (can.disjoint b page in_base.within inside) in_base.here))
    (but s)

-- so what is zeroed behind that is told by what they held before it
clearing_before : (k : Chunk) (base store : List ℕ) (es : List Exception) (size first : ℕ)
    (old mid : Image) (s : ℕ) (b : List ℕ)
    → CanMerge k base store es size
    → SameBut (InSectors (InCopied k base es first)) old mid
    → IsClearing k store first (length es) mid s b
    → IsClearing k store first (length es) old s b
clearing_before k base store es size first old mid s b can but is =
    let i : ℕ = is.sector in
    let same : mid s ≡ old s =
    ap mid is.here
    ∙ page_kept k base store es size first old mid i can but is.within.below
    ∙ ap old (sym is.here) in
    record {
      sector = i;
      within = is.within;
      here = is.here;
      cleared = subst (λ (x : List ℕ). IsClearedAt first (length es) i x b) same is.cleared;
    }

module _ {D : Type 0} (g : Ghosts D) (k : Chunk) (base store : List ℕ) (es : List Exception) (n : ℕ)
    (run : IsRun (entries_in k) es n) where
  pub touches_copied : (old mid : D)
      → Touches g (InSectors (InCopied k base es (length es - n))) old mid
      → Touches g (IsMerging k base store es n (g.seen old)) old mid
  touches_copied old mid touches =
      touches_wider g (IsMerging k base store es n (g.seen old))
      (InSectors (InCopied k base es (length es - n))) old mid touches
      (λ s b is. copied_sector k base store es n (g.seen old) s b run is)

  pub touches_merged : (old mid new : D)
      → 0 < n
      → (g.is_modelled → CanMerge k base store es (g.size old))
      → Touches g (InSectors (InCopied k base es (length es - n))) old mid
      → Touches g (IsClearing k store (length es - n) (length es) (g.seen mid)) mid new
      → Touches g (IsMerging k base store es n (g.seen old)) old new
  touches_merged old mid new some can copied cleared = record {
    quiet = quiet_then g old mid new copied.quiet cleared.quiet;
    seen = λ t. (joined t).seen t;
    crash = λ t. (joined t).crash t;
    time = λ t. (joined t).time t;
  }
    where
      joined : g.is_modelled → Touches g (IsMerging k base store es n (g.seen old)) old new
      joined t =
          touches_on g (InSectors (InCopied k base es (length es - n)))
          (IsClearing k store (length es - n) (length es) (g.seen mid))
          (IsMerging k base store es n (g.seen old)) old mid new copied cleared
          (λ s b is. copied_sector k base store es n (g.seen old) s b run is)
          (λ s b is.
          cleared_sector k base store es n (g.seen old) s b run some
          (clearing_before k base store es (g.size old) (length es - n) (g.seen old) (g.seen mid) s
          b (can t) (copied.seen t) is))

  -- the same, where no call failed
  pub cleared_since : (old mid new : D)
      → g.is_modelled
      → CanMerge k base store es (g.size old)
      → Touches g (InSectors (InCopied k base es (length es - n))) old mid
      → AreCleared k store (length es - n) (length es) (g.seen mid) (g.seen new)
      → AreCleared k store (length es - n) (length es) (g.seen old) (g.seen new)
  cleared_since old mid new t can copied all i them =
      subst
      (λ (x : List ℕ). IsClearedAt (length es - n) (length es) i x
      (g.seen new (page_sector k store i)))
      (page_kept k base store es (g.size old) (length es - n) (g.seen old) (g.seen mid) i can
      (copied.seen t) them.below)
      (all i them)

  -- ---- what a crash leaves

  pub time_copied : (old mid : D)
      → g.is_modelled
      → CanMerge k base store es (g.size old)
      → IsAtRest g old
      → scan_of k store (length base) (g.seen old) ≡ Ok es
      → Touches g (InSectors (InCopied k base es (length es - n))) old mid
      → Adds g.moment g.outcomes old mid (LeavesMerged k base store es n (g.told old) (g.seen old))
  time_copied old mid t can rest scanned touches =
      adds_wider g.moment g.outcomes old mid _ _ (touches.time t)
      (λ o leaves. record {
        told_so_far = leaves.told_so_far;
        dropped = 0;
        may_run = may_none k es n;
        without =
            copy_keeps k base store es (g.size old) (length es - n) (g.seen old) o.image can
            (scan_of_ok store (length base) (g.seen old) es scanned)
            (λ s.
            ⊎_elim (λ was. inl (rest s (o.image s) was)) (λ w. inr w) (leaves.each_sector s));
      })

  pub ready_of : (old mid : D)
      → g.is_modelled
      → 0 < n
      → CanMerge k base store es (g.size old)
      → scan_of k store (length base) (g.seen old) ≡ Ok es
      → Touches g (InSectors (InCopied k base es (length es - n))) old mid
      → AreCopied k base store es (length es - n) (length es) (g.seen old) (g.seen mid)
      → ((s : ℕ) → s < g.size mid → length (g.seen mid s) ≡ 512)
      → Ready k base store es (g.size old) (length es - n) (g.seen old) (g.seen mid)
  ready_of old mid t some can scanned touches copied whole =
      let first : ℕ = length es - n in
      let below : first < length es = omega (arith, some, run.within) in
      record {
        can = can;
        scan = scan_of_ok store (length base) (g.seen old) es scanned;
        some = below;
        but = touches.seen t;
        copied = copied;
        whole = λ p inside i lt.
            let on_disk =
            can.may.store_on_disk (page_block k p) (page_inside k (length store) p inside) in
            whole (slice_index store (page_block k p) + i)
            (omega (arith, lt, on_disk, touches.quiet.size));
      }

  pub time_merged : (old mid new : D)
      → g.is_modelled
      → 0 < n
      → CanMerge k base store es (g.size old)
      → IsAtRest g old
      → scan_of k store (length base) (g.seen old) ≡ Ok es
      → Touches g (InSectors (InCopied k base es (length es - n))) old mid
      → AreCopied k base store es (length es - n) (length es) (g.seen old) (g.seen mid)
      → ((s : ℕ) → s < g.size mid → length (g.seen mid s) ≡ 512)
      → IsAtRest g mid
      → Touches g (IsClearing k store (length es - n) (length es) (g.seen mid)) mid new
      → Adds g.moment g.outcomes old new (LeavesMerged k base store es n (g.told old) (g.seen old))
  time_merged old mid new t some can rest scanned touches copied whole mid_rest cleared =
      let ready = ready_of old mid t some can scanned touches copied whole in
      let more : Adds g.moment g.outcomes mid new
      (LeavesMerged k base store es n (g.told old) (g.seen old)) =
      adds_wider g.moment g.outcomes mid new _ _ (cleared.time t)
      (λ o leaves.
      let kept = clear_keeps k base store es (g.size old) (length es - n) (g.seen old) (g.seen mid)
      o.image ready
      (λ s. ⊎_elim (λ was. inl (mid_rest s (o.image s) was)) (λ w. inr w) (leaves.each_sector s)) in
      record {
        told_so_far = leaves.told_so_far ∙ touches.quiet.told t;
        dropped = kept.0;
        may_run = record {
          run = run_fewer (entries_in k) es n kept.0 run (omega (arith, kept.1, run.within));
          at_most = omega (arith, kept.1, run.within);
        };
        without = kept.2;
      }) in
      adds_on g.moment g.outcomes old mid new _ _
      (time_copied old mid t can rest scanned touches) more (λ o is. is)

  -- what is left where no call failed
  pub merged : (old mid new : D)
      → g.is_modelled
      → 0 < n
      → CanMerge k base store es (g.size old)
      → scan_of k store (length base) (g.seen old) ≡ Ok es
      → Touches g (InSectors (InCopied k base es (length es - n))) old mid
      → AreCopied k base store es (length es - n) (length es) (g.seen old) (g.seen mid)
      → ((s : ℕ) → s < g.size mid → length (g.seen mid s) ≡ 512)
      → Touches g (IsClearing k store (length es - n) (length es) (g.seen mid)) mid new
      → AreCleared k store (length es - n) (length es) (g.seen mid) (g.seen new)
      → WithoutLast k base store es n (g.seen old) (g.seen new)
  merged old mid new t some can scanned touches copied whole cleared all =
      let ready = ready_of old mid t some can scanned touches copied whole in
      let left : length es - (length es - n) ≡ n = omega (arith, run.within) in
      subst (λ (m : ℕ). WithoutLast k base store es m (g.seen old) (g.seen new)) left
      (clear_drops k base store es (g.size old) (length es - n) (g.seen old) (g.seen mid)
      (g.seen new) ready (cleared.seen t) all)

-- ---- a run within more

pub leaves_more : {D : Type 0} (g : Ghosts D) (k : Chunk) (base store : List ℕ)
    (es : List Exception) (n most : ℕ)
    (old new : D)
    → n ≤ most
    → Adds g.moment g.outcomes old new (LeavesMerged k base store es n (g.told old) (g.seen old))
    → Adds g.moment g.outcomes old new (LeavesMerged k base store es most (g.told old) (g.seen old))
leaves_more g k base store es n most old new le adds =
    adds_wider g.moment g.outcomes old new _ _ adds
    (λ o leaves. record {
      told_so_far = leaves.told_so_far;
      dropped = leaves.dropped;
      may_run = record {
        run = leaves.may_run.run;
        at_most = omega (arith, leaves.may_run.at_most, le);
      };
      without = leaves.without;
    })

pub merging_more : {D : Type 0} (g : Ghosts D) (k : Chunk) (base store : List ℕ)
    (es : List Exception) (n most : ℕ) (old new : D)
    → n ≤ most
    → Touches g (IsMerging k base store es n (g.seen old)) old new
    → Touches g (IsMerging k base store es most (g.seen old)) old new
merging_more g k base store es n most old new le touches =
    touches_wider g (IsMerging k base store es most (g.seen old))
    (IsMerging k base store es n (g.seen old)) old new touches
    (λ s b is. record {
      place = is.place;
      within = is.within;
      may_run = record { run = is.may_run.run; at_most = omega (arith, is.may_run.at_most, le) };
      here = is.here;
    })

-- nothing is zeroed where nothing is merged
pub clears_none : (k : Chunk) (store : List ℕ) (first end : ℕ) (old : Image)
    → first ≡ end
    → AreCleared k store first end old old
clears_none k store first end old none i them = record {
  long = refl;
  kept = λ n out. refl;
  gone = λ n over below. absurd (omega (arith, over, below, none));
}

-- nothing is merged where no exception is left
pub without_none : (k : Chunk) (base store : List ℕ) (es : List Exception) (old : Image)
    → scan_of k store (length base) old ≡ Ok es
    → WithoutLast k base store es 0 old old
without_none k base store es old scanned =
    let whole : take (length es - 0) es ≡ es = take_all (length es - 0) es (omega arith) in
    record {
      scanned = scanned ∙ ap (λ l. Ok l) (sym whole);
      same = λ block below. ap (λ (l : List Exception). view_block k base store l old block)
          whole;
    }

pub empty_run : (k : Chunk) (es : List Exception) (most : ℕ)
    → 0 < most
    → IsLongest (entries_in k) es most 0
    → length es ≡ 0
empty_run k es most some is = elim (cases_lt 0 (length es)) [
  | inl left ↦
      let one : 1 ≤ 0 = is.longest 1 (omega (arith, some)) (run_one (entries_in k) es left) in
      absurd (omega (arith, one))
  | inr none ↦ omega (arith, none)
]
