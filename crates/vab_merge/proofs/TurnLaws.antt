-- What a merge leaves, and that the next may follow.
use Rattle.std.proofs.Common.{◌≡◌, ◌⊎◌, inl, inr, ℕ, ◌-◌, ◌*◌, ◌/◌, ◌≤◌, ◌<◌, List, length, take}
use Rattle.std.proofs.Common.{◌∙◌, sym, ap, arith, length-take-le}
use Rattle.std.proofs.lemmas.Bool.{cases_lt}
use Rattle.vab_space.specs.Chunks.{entries_in}
use Rattle.vab_disk.specs.Disk.{Image}
use Rattle.vab_space.specs.declared.Chunk.{Chunk}
use Rattle.vab_exceptions.specs.declared.area.Exception.{Exception}
use Rattle.vab_store.specs.View.{Fits}
use Rattle.vab_store.proofs.ViewLaws.{take_fits}
use Rattle.vab_store.specs.Sectors.{page_sector}
use Rattle.vab_merge.specs.declared.merge.Ran.{Ran}
use Rattle.vab_merge.specs.declared.merge.Ran.TheVariants.{Merged, Empty}
use Rattle.vab_merge.specs.Copied.{InBlocksOf}
use Rattle.vab_merge.specs.Cleared.{IsClearing}
use Rattle.vab_merge.specs.Merged.{MayMerge, CanMerge, MayRun, IsRan, dropped_by, IsMerging}
use Rattle.vab_store.specs.Sectors.{entry_sector}
use Rattle.vab_merge.proofs.RunLaws.{run_fewer}
use Rattle.vab_merge.proofs.RunSteps.{may_none}

-- ---- the exceptions without the last n

pub fits_left : (k : Chunk) (bound : ℕ) (store : List ℕ) (es : List Exception) (n : ℕ)
    → Fits k bound store es
    → Fits k bound store (take (length es - n) es)
fits_left k bound store es n fits = take_fits bound store es (length es - n) (omega arith) fits

pub length_left : (es : List Exception) (n : ℕ)
    → length (take (length es - n) es) ≡ length es - n
length_left es n = length-take-le (length es - n) es (omega arith)

-- they may be merged too
pub may_left : (k : Chunk) (base store : List ℕ) (es : List Exception) (size n : ℕ)
    → MayMerge k base store es size
    → MayMerge k base store (take (length es - n) es) size
may_left k base store es size n may = record {
  fits = fits_left k (length base) store es n may.fits;
  base_on_disk = may.base_on_disk;
  store_on_disk = may.store_on_disk;
}

pub can_left : (k : Chunk) (base store : List ℕ) (es : List Exception) (size n : ℕ)
    → CanMerge k base store es size
    → CanMerge k base store (take (length es - n) es) size
can_left k base store es size n can = record {
  may = may_left k base store es size n can.may;
  base_apart = can.base_apart;
  store_apart = can.store_apart;
  disjoint = can.disjoint;
}

-- ---- how many are merged

pub run_within : (k : Chunk) (es : List Exception) (most n : ℕ)
    → MayRun k es most n
    → (n ≤ length es) × (n ≤ most)
run_within k es most n may = (may.run.within, may.at_most)

-- what is told to be merged is a run
pub ran_run : (k : Chunk) (es : List Exception) (most : ℕ) (ran : Ran)
    → IsRan k es most ran
    → MayRun k es most (dropped_by ran)
ran_run k es most Empty is = may_none k es most
ran_run k es most (Merged n) is = record { run = is.1.run; at_most = is.1.at_most }

-- ---- which sectors are written

-- a sector of the blocks, or of the entry, of an exception that is merged
pub record IsMergedSector
    (k : Chunk)
    (base store : List ℕ)
    (es : List Exception)
    (most s : ℕ) : Type 0 where
  pub place : ℕ
  pub within : place < length es
  pub may_run : MayRun k es most (length es - place)
  pub here : InBlocksOf k base es place s ⊎ (s ≡ entry_sector k store place)

-- a sector in which entries are zeroed is the sector of one of them
pub merged_sector : (k : Chunk) (base store : List ℕ) (es : List Exception) (most : ℕ)
    (image : Image) (s : ℕ) (b : List ℕ)
    → IsMerging k base store es most image s b
    → IsMergedSector k base store es most s
merged_sector k base store es most image s b is = by_kind is.here
  where
    by_kind : InBlocksOf k base es is.place s ⊎ IsClearing k store is.place (length es) image s b
        → IsMergedSector k base store es most s
    by_kind (inl copied) = record {
      place = is.place;
      within = is.within;
      may_run = is.may_run;
      here = inl copied;
    }
    by_kind (inr zeroed) =
        let i : ℕ = zeroed.sector in
        elim (cases_lt is.place (32 * i)) [
          | inl before ↦
              let at : (32 * i) / 32 ≡ i = omega arith in
              record {
                place = 32 * i;
                within = zeroed.within.below;
                may_run = record {
                  run = run_fewer (entries_in k) es (length es - is.place) (length es - 32 * i)
                      is.may_run.run (omega (arith, before));
                  at_most = omega (arith, before, is.may_run.at_most);
                };
                here = inr (zeroed.here ∙ ap (page_sector k store) (sym at));
              }
          | inr at_begin ↦
              let at : is.place / 32 ≡ i = omega (arith, at_begin, zeroed.within.from) in
              record {
                place = is.place;
                within = is.within;
                may_run = is.may_run;
                here = inr (zeroed.here ∙ ap (page_sector k store) (sym at));
              }
        ]
