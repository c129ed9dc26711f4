-- What calls of the store, and what is held back, make of the disk over it.
use Rattle.std.proofs.Common.{◌≡◌, inl, inr, ⊎_elim, ℕ, ◌≤◌, List, refl, sym, ◌∙◌, ap, subst, arith}
use Rattle.vab_disk.specs.declared.disk.Disk.{Ghosts as DiskGhosts}
use Rattle.vab_disk.specs.Disk.{Image, Outcome, Leaves, IsSettled, Adds, Nothing, IsAt, Writes}
use Rattle.vab_disk.specs.Disk.{SameHoldings, set_sector}
use Rattle.vab_disk.specs.Calls.{IsQuiet, OnlyReads, OnlySyncs, SameBut}
use Rattle.vab_disk.proofs.CallLaws.{set_same_but}
use Rattle.vab_gate.specs.Gate.{set_sectors}
use Rattle.vab_gate.proofs.Blocks.{set_none}
use Rattle.vab_buffer.specs.declared.store.RunStore.{Ghosts}
use Rattle.vab_buffer.specs.declared.run.Run.{Run}
use Rattle.vab_buffer.specs.Run.{over, IsKept, Has, Gains}
use Rattle.vab_buffer.specs.Store.{OnlyWrites}
use Rattle.vab_buffer.specs.Held.{as_disk, disk_over}
use Rattle.vab_buffer.specs.DiskLaws.{leaves_more, set_inside, set_outside, cases_among}

-- nothing is kept in an empty run
pub none_kept : (run : Run) (s : ℕ) (b : List ℕ) → run.count ≡ 0 → IsKept run s b → ⊥
none_kept run s b none kept = omega (arith, none, kept.first, kept.last)

pub none_over : (run : Run) (image : Image) → run.count ≡ 0 → over image run ≡ image
none_over run image none =
    ap (λ (n : ℕ). set_sectors n image run.first run.bytes.items) none
    ∙ sym (set_none image run.first run.bytes.items)

-- what a read through the run gives: a kept sector, or one of the image
pub kept_over : (run : Run) (image : Image) (s : ℕ) (b : List ℕ)
    → IsKept run s b
    → b ≡ over image run s
kept_over run image s b kept =
    kept.here ∙ sym (set_inside run.count image run.first run.bytes.items s kept.first kept.last)

pub over_apart : (run : Run) (image : Image) (s : ℕ)
    → (Has run s → ⊥)
    → over image run s ≡ image s
over_apart run image s apart = elim (cases_among run.first run.count s) [
  | inl here ↦ absurd (apart (record { from = here.0; below = here.1 }))
  | inr out ↦ set_outside run.count image run.first run.bytes.items s out
]

-- the sectors outside of the run, in an image that only the run may have changed
pub over_same : (run : Run) (old new : Image)
    → SameBut (IsKept run) old new
    → over new run ≡ over old run
over_same run old new same = λ i s. each s i
  where
    each : (s : ℕ) → over new run s ≡ over old run s
    each s = elim (cases_among run.first run.count s) [
      | inl here ↦
          set_inside run.count new run.first run.bytes.items s here.0 here.1
          ∙ sym (set_inside run.count old run.first run.bytes.items s here.0 here.1)
      | inr out ↦
          let was : new s ≡ old s =
          ⊎_elim (λ was. was)
          (λ kept. absurd (⊎_elim (λ below. omega (arith, below, kept.first))
          (λ above. omega (arith, above, kept.last)) out))
          (same s) in
          set_outside run.count new run.first run.bytes.items s out
          ∙ was
          ∙ sym (set_outside run.count old run.first run.bytes.items s out)
    ]

module _
    {S D : Type 0}
    (g : Ghosts S)
    (store_of : D → S)
    (held_of : D → Run)
    (failed : D → ℕ) where
  abbrev pub disk : DiskGhosts D
  disk = disk_over g store_of held_of failed

  -- the store's calls tell and hear nothing, so the disk's don't
  pub quiet_below : (a b : D)
      → IsQuiet (as_disk g) (store_of a) (store_of b)
      → failed a ≤ failed b
      → IsQuiet disk a b
  quiet_below a b quiet rises = record {
    size = quiet.size;
    told = quiet.told;
    left = quiet.left;
    heard = quiet.heard;
    counts = record { disk = rises; source = omega arith; sink = omega arith };
  }

  -- What leaves no value new and none away reads alone.
  pub still : (a b : D) (P : Outcome → Type 0)
      → IsQuiet (as_disk g) (store_of a) (store_of b)
      → failed a ≤ failed b
      → (g.is_modelled → disk.seen b ≡ disk.seen a)
      → (g.is_modelled → SameHoldings (disk.may_leave a) (disk.may_leave b))
      → (g.is_modelled → Adds g.moment g.outcomes (store_of a) (store_of b) P)
      → ((o : Outcome) → g.is_modelled → P o → Leaves (disk.told a) (disk.may_leave a) o)
      → OnlyReads disk a b
  still a b P quiet rises seen crash time now = record {
    quiet = quiet_below a b quiet rises;
    seen = seen;
    crash = crash;
    time = λ t. record {
      later = (time t).later;
      keeps = λ m o le was.
          ⊎_elim
          (λ below. inl ((time t).keeps m o le below))
          (λ left. inr (leaves_more (disk.told b) (disk.told a) (disk.may_leave a)
          (disk.may_leave b) (sym (quiet.told t)) (crash t).keeps o left))
          was;
      adds = λ m o le left.
          ⊎_elim
          (λ below.
          ⊎_elim (λ was. inl (inl was)) (λ new. inl (inr (now o t new)))
          ((time t).adds m o le below))
          (λ leaves. inl (inr (leaves_more (disk.told a) (disk.told b) (disk.may_leave b)
          (disk.may_leave a) (quiet.told t) (crash t).no_more o leaves)))
          left;
    };
  }

  -- a read of the store
  pub reads_below : (a b : D)
      → OnlyReads (as_disk g) (store_of a) (store_of b)
      → held_of b ≡ held_of a
      → failed a ≤ failed b
      → OnlyReads disk a b
  reads_below a b reads same rises =
      still a b Nothing reads.quiet rises
      (λ t i. over (reads.seen t i) (same i))
      (λ t. record {
        keeps = λ s x was.
            ⊎_elim (λ below. inl ((reads.crash t).keeps s x below))
            (λ kept. inr (subst (λ (run : Run). IsKept run s x) (sym same) kept)) was;
        no_more = λ s x now.
            ⊎_elim (λ below. inl ((reads.crash t).no_more s x below))
            (λ kept. inr (subst (λ (run : Run). IsKept run s x) same kept)) now;
      })
      reads.time
      (λ o t none. absurd none)

  -- what a write of the run may have left in the store could be left before
  writes_leave : (a b : D)
      → OnlyWrites (as_disk g) (IsKept (held_of a)) (store_of a) (store_of b)
      → (o : Outcome)
      → g.is_modelled
      → Leaves (g.told (store_of a)) (g.may_leave (store_of b)) o
      → Leaves (disk.told a) (disk.may_leave a) o
  writes_leave a b writes o t left =
      leaves_more (g.told (store_of a)) (g.told (store_of a)) (g.may_leave (store_of b))
      (disk.may_leave a) refl (writes.crash t).adds o left

  -- The run was written: it is held back no more, and a crash may still leave its sectors.
  pub wrote_out : ((d : S) (s : ℕ) → g.may_leave d s (g.seen d s))
      → (a b : D)
      → OnlyWrites (as_disk g) (IsKept (held_of a)) (store_of a) (store_of b)
      → (g.is_modelled → g.seen (store_of b) ≡ over (g.seen (store_of a)) (held_of a))
      → (held_of b).count ≡ 0
      → failed a ≤ failed b
      → OnlyReads disk a b
  wrote_out seen_held a b writes seen none rises =
      still a b _ writes.quiet rises
      (λ t. none_over (held_of b) (g.seen (store_of b)) none ∙ seen t)
      (λ t. record {
        keeps = λ s x was.
            ⊎_elim (λ below. inl ((writes.crash t).keeps s x below))
            (λ kept. inl (
            let is : x ≡ g.seen (store_of b) s =
            kept_over (held_of a) (g.seen (store_of a)) s x kept
            ∙ sym (ap (λ (i : Image). i s) (seen t)) in
            subst (g.may_leave (store_of b) s) (sym is) (seen_held (store_of b) s))) was;
        no_more = λ s x now.
            ⊎_elim (λ below. (writes.crash t).adds s x below)
            (λ kept. absurd (none_kept (held_of b) s x none kept)) now;
      })
      writes.time
      (writes_leave a b writes)

  -- The run may have been written in part: it is held back as it was.
  pub wrote_part : (a b : D)
      → OnlyWrites (as_disk g) (IsKept (held_of a)) (store_of a) (store_of b)
      → held_of b ≡ held_of a
      → failed a ≤ failed b
      → OnlyReads disk a b
  wrote_part a b writes same rises =
      still a b _ writes.quiet rises
      (λ t.
      ap (λ (run : Run). over (g.seen (store_of b)) run) same
      ∙ over_same (held_of a) (g.seen (store_of a)) (g.seen (store_of b)) (writes.seen t))
      (λ t. record {
        keeps = λ s x was.
            ⊎_elim (λ below. inl ((writes.crash t).keeps s x below))
            (λ kept. inr (subst (λ (run : Run). IsKept run s x) (sym same) kept)) was;
        no_more = λ s x now.
            ⊎_elim (λ below. (writes.crash t).adds s x below)
            (λ kept. inr (subst (λ (run : Run). IsKept run s x) same kept)) now;
      })
      writes.time
      (writes_leave a b writes)

  pub held_seen_more : (at : ℕ) (bytes : List ℕ) (a b : D)
      → store_of b ≡ store_of a
      → Gains at bytes (held_of a) (held_of b)
      → disk.seen b ≡ set_sector (disk.seen a) at bytes
  held_seen_more at bytes a b same gains =
      ap (λ (d : S). over (g.seen d) (held_of b)) same ∙ gains.over (g.seen (store_of a))

  pub held_leave_more : (at : ℕ) (bytes : List ℕ) (a b : D)
      → store_of b ≡ store_of a
      → Gains at bytes (held_of a) (held_of b)
      → Writes (IsAt at bytes) (disk.may_leave a) (disk.may_leave b)
  held_leave_more at bytes a b same gains = record {
    keeps = λ s x was.
        ⊎_elim
        (λ below. inl (subst (λ (d : S). g.may_leave d s x) (sym same) below))
        (λ kept. inr (gains.kept.keeps s x kept)) was;
    adds = λ s x now.
        ⊎_elim
        (λ below. inl (inl (subst (λ (d : S). g.may_leave d s x) same below)))
        (λ kept. ⊎_elim (λ was. inl (inr was)) (λ new. inr new) (gains.kept.adds s x kept))
        now;
  }

  -- a sector more is held back
  pub held_more : (at : ℕ) (bytes : List ℕ) (a b : D)
      → store_of b ≡ store_of a
      → failed b ≡ failed a
      → Gains at bytes (held_of a) (held_of b)
      → OnlyWrites disk (IsAt at bytes) a b
  held_more at bytes a b same steady gains = record {
    quiet = record {
      size = ap g.size same;
      told = λ t. ap g.told same;
      left = λ t. ap g.input_left same;
      heard = λ t. ap g.heard same;
      counts = record {
        disk = omega (arith, steady);
        source = omega arith;
        sink = omega arith;
      };
    };
    seen = λ t. set_same_but (disk.seen a) (disk.seen b) at bytes
        (inr (held_seen_more at bytes a b same gains));
    crash = λ t. held_leave_more at bytes a b same gains;
    time = λ t. record {
      later = omega (arith, ap g.moment same);
      keeps = λ m o le was.
          ⊎_elim
          (λ below. inl (subst (λ (d : S). g.outcomes d m o) (sym same) below))
          (λ left. inr (leaves_more (disk.told b) (disk.told a) (disk.may_leave a)
          (disk.may_leave b) (sym (ap g.told same))
          (held_leave_more at bytes a b same gains).keeps o left))
          was;
      adds = λ m o le left.
          ⊎_elim
          (λ below. inl (inl (subst (λ (d : S). g.outcomes d m o) same below)))
          (λ leaves. inr (leaves_more (disk.told a) (disk.told b) (disk.may_leave b)
          (disk.may_leave b) (ap g.told same) (λ s x held. held) o leaves))
          left;
    };
  }

  -- a sync of the store, with nothing held back
  pub syncs_below : ((d : S) (t : ℕ) (o : Outcome)
      → t ≤ g.moment d
      → Leaves (g.told d) (g.may_leave d) o
      → g.outcomes d t o)
      → (a b : D)
      → OnlySyncs (as_disk g) (store_of a) (store_of b)
      → (held_of a).count ≡ 0
      → held_of b ≡ held_of a
      → failed a ≤ failed b
      → OnlySyncs disk a b
  syncs_below counts_now a b syncs none same rises =
      let crash : g.is_modelled
      → (s : ℕ) (x : List ℕ)
      → disk.may_leave b s x
      → disk.may_leave a s x =
      λ t s x now.
      ⊎_elim (λ below. inl (syncs.crash t s x below))
      (λ kept. inr (subst (λ (run : Run). IsKept run s x) same kept)) now in
      record {
        quiet = quiet_below a b syncs.quiet rises;
        seen = λ t i. over (syncs.seen t i) (same i);
        crash = crash;
        time = λ t. record {
          later = (syncs.time t).later;
          keeps = λ m o le was.
              let below : g.outcomes (store_of a) m o =
              ⊎_elim (λ below. below)
              (λ left. counts_now (store_of a) m o le (leaves_more (g.told (store_of a))
              (g.told (store_of a)) (disk.may_leave a) (g.may_leave (store_of a)) refl
              (λ s x held. ⊎_elim (λ below. below)
              (λ kept. absurd (none_kept (held_of a) s x none kept)) held) o left))
              was in
              inl ((syncs.time t).keeps m o le below);
          adds = λ m o le left.
              ⊎_elim
              (λ below.
              ⊎_elim (λ was. inl (inl was)) (λ none. absurd none)
              ((syncs.time t).adds m o le below))
              (λ leaves. inl (inr (leaves_more (disk.told a) (disk.told b) (disk.may_leave b)
              (disk.may_leave a) (syncs.quiet.told t) (crash t) o leaves)))
              left;
        };
      }

  pub settled_below : (d : D)
      → IsSettled (g.seen (store_of d)) (g.may_leave (store_of d))
      → (held_of d).count ≡ 0
      → IsSettled (disk.seen d) (disk.may_leave d)
  settled_below d settled none s x held =
      ⊎_elim
      (λ below.
      settled s x below
      ∙ sym (ap (λ (i : Image). i s) (none_over (held_of d) (g.seen (store_of d)) none)))
      (λ kept. absurd (none_kept (held_of d) s x none kept))
      held

  pub same_below : (a b c : D)
      → SameHoldings (disk.may_leave a) (disk.may_leave b)
      → SameHoldings (g.may_leave (store_of b)) (g.may_leave (store_of c))
      → held_of c ≡ held_of b
      → SameHoldings (disk.may_leave a) (disk.may_leave c)
  same_below a b c first second same = record {
    keeps = λ s x was.
        ⊎_elim (λ below. inl (second.keeps s x below))
        (λ kept. inr (subst (λ (run : Run). IsKept run s x) (sym same) kept))
        (first.keeps s x was);
    no_more = λ s x now.
        first.no_more s x
        (⊎_elim (λ below. inl (second.no_more s x below))
        (λ kept. inr (subst (λ (run : Run). IsKept run s x) same kept)) now);
  }
