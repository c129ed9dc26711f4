-- What is read of a disk of version 1 at each moment while the mark of version 2 is written.
use Rattle.std.proofs.Common.{◌≡◌, ◌∙◌, inl, inr, ⊎_elim, ℕ, List, Ok, refl, sym, ap}
use Rattle.std.proofs.Common.{replicate, arith}
use Rattle.vab_disk.specs.declared.disk.Disk.{Ghosts}
use Rattle.vab_disk.specs.Disk.{Image, Outcome, Adds, LeavesEither, LeavesWith, IsAt, set_sector}
use Rattle.vab_disk.specs.Calls.{InSectors, IsAtRest, SameBut, Touches}
use Rattle.vab_disk.specs.Written.{set_here, set_there}
use Rattle.vab_disk.proofs.CallLaws.{touches_then}
use Rattle.vab_disk.proofs.Moments.{adds_on, adds_wider}
use Rattle.vab_marks.specs.declared.mark.UpdateMark.{UpdateMark}
use Rattle.vab_marks.specs.declared.version.MarkVersion.TheVariants.{One, Two}
use Rattle.vab_marks.specs.Mark.{mark_of, mark_spelling}
use Rattle.vab_marks.specs.Version.{version_in}
use Rattle.vab_device.specs.Reading.{Read, Reads, SameRead, device, version_at}
use Rattle.vab_device.proofs.ReadingLaws.{device_same}
use Rattle.vab_tidy.specs.Migration.{IsOfAdded, IsOfMigration}
use Rattle.vab_tidy.specs.Stays.{LeavesSame}
use Rattle.vab_tidy.proofs.MigrationLaws.{same_before, same_behind, blank_of}

-- a run of writes, where what is written is known of a modelled disk alone
pub touches_where : {D : Type 0} (g : Ghosts D) (V W : ℕ → List ℕ → Type 0) (a b : D)
    → Touches g W a b
    → (g.is_modelled → (s : ℕ) (x : List ℕ) → W s x → V s x)
    → Touches g V a b
touches_where g V W a b ab wider = record {
  quiet = ab.quiet;
  seen = λ t s.
      ⊎_elim (λ same. inl same) (λ w. inr (wider t s (g.seen b s) w)) (ab.seen t s);
  crash = λ t s x now. ⊎_elim (λ was. inl was) (λ w. inr (wider t s x w)) (ab.crash t s x now);
  time = λ t.
      adds_wider g.moment g.outcomes a b _ _ (ab.time t)
      (λ o leaves. record {
        told_so_far = leaves.told_so_far;
        each_sector = λ s.
            ⊎_elim (λ was. inl was) (λ w. inr (wider t s (o.image s) w)) (leaves.each_sector s);
      });
}

-- ---- while the statuses that version 2 adds are made none, and then the mark is written

module _
    (old mid : Image)
    (was : version_at old ≡ One)
    (zeroing : SameBut (InSectors IsOfAdded) old mid) where
  others : (s : ℕ) → (IsOfAdded s → ⊥) → mid s ≡ old s
  others s not = ⊎_elim (λ same. same) (λ w. absurd (not w)) (zeroing s)

  pub mark_stays : mid 2048 ≡ old 2048
  mark_stays = others 2048 (λ w. omega (arith, w.from))

  pub zeroed_same : (size : ℕ) (r : Read) → Reads size r old → SameRead size r old mid
  zeroed_same size r reads =
      same_before size r old mid reads (λ s not other. others s not) (ap mark_of mark_stays) was
      (ap version_in mark_stays ∙ was)

  pub raised_same : (size : ℕ) (r : Read) (m : UpdateMark) (bytes : List ℕ)
      → mark_of (old 2048) ≡ Ok m
      → mark_of bytes ≡ Ok m
      → version_in bytes ≡ Two
      → ((s : ℕ) → IsOfAdded s → mid s ≡ replicate 512 0)
      → Reads size r old
      → SameRead size r old (set_sector mid 2048 bytes)
  raised_same size r m bytes marked read two zeros reads =
      let here : set_sector mid 2048 bytes 2048 ≡ bytes = set_here mid 2048 bytes 2048 refl in
      same_behind size r old (set_sector mid 2048 bytes) reads
      (λ s not other. set_there mid 2048 bytes s other ∙ others s not)
      (ap mark_of here ∙ read ∙ sym marked) was (ap version_in here ∙ two)
      (blank_of (set_sector mid 2048 bytes)
      (λ s w. set_there mid 2048 bytes s (λ e. omega (arith, w.from, e)) ∙ zeros s w))

module _ {D : Type 0} (g : Ghosts D) (old mid : D)
    (was : g.is_modelled → version_at (g.seen old) ≡ One)
    (zeroing : Touches g (InSectors IsOfAdded) old mid) where
  pub zeroing_touches : Touches g (IsOfMigration (g.seen old)) old mid
  zeroing_touches =
      touches_where g _ _ old mid zeroing (λ t s x w. record { old = was t; writes = inl w })

  settled_but : g.is_modelled
      → IsAtRest g old
      → (o : Outcome)
      → LeavesWith (InSectors IsOfAdded) (g.told old) (g.may_leave old) o
      → SameBut (InSectors IsOfAdded) (g.seen old) o.image
  settled_but t rest o leaves =
      λ s. ⊎_elim (λ held. inl (rest s (o.image s) held)) (λ w. inr w) (leaves.each_sector s)

  -- each outcome while they are made none
  pub zeroing_time : g.is_modelled
      → IsAtRest g old
      → (r : Read)
      → Reads (g.size old) r (g.seen old)
      → Adds g.moment g.outcomes old mid (LeavesSame (g.told old) (g.size old) (g.seen old))
  zeroing_time t rest r reads =
      adds_wider g.moment g.outcomes old mid _ _ (zeroing.time t)
      (λ o leaves. record {
        told_so_far = leaves.told_so_far;
        same =
            device_same (g.size old) r (g.seen old) o.image reads
            (zeroed_same (g.seen old) o.image (was t) (settled_but t rest o leaves) (g.size old) r
            reads);
      })

  module _ (new : D) (m : UpdateMark) (bytes : List ℕ)
      (marked : g.is_modelled → mark_of (g.seen old 2048) ≡ Ok m)
      (spelled : bytes ≡ mark_spelling m)
      (read : mark_of bytes ≡ Ok m)
      (two : version_in bytes ≡ Two) where
    pub raising_touches : Touches g (IsAt 2048 bytes) mid new
        → Touches g (IsOfMigration (g.seen old)) old new
    raising_touches writing =
        touches_then g _ old mid new zeroing_touches
        (touches_where g _ _ mid new writing
        (λ t s x w. record {
          old = was t;
          writes = inr (record { mark = m; read = marked t; writes = (w.0, w.1 ∙ spelled) });
        }))

    module _
        (zeros : g.is_modelled → (s : ℕ) → IsOfAdded s → g.seen mid s ≡ replicate 512 0) where
      pub raising_same : g.is_modelled
          → (r : Read)
          → Reads (g.size old) r (g.seen old)
          → SameRead (g.size old) r (g.seen old) (set_sector (g.seen mid) 2048 bytes)
      raising_same t r reads =
          raised_same (g.seen old) (g.seen mid) (was t) (zeroing.seen t) (g.size old) r m bytes
          (marked t) read two (zeros t) reads

      pub raising_time : (g.is_modelled → IsAtRest g mid)
          → (g.is_modelled
          → IsAtRest g mid
          → Adds g.moment g.outcomes mid new
          (LeavesEither (g.told mid) (g.seen mid) (set_sector (g.seen mid) 2048 bytes)))
          → g.is_modelled
          → IsAtRest g old
          → (r : Read)
          → Reads (g.size old) r (g.seen old)
          → Adds g.moment g.outcomes old new
          (LeavesSame (g.told old) (g.size old) (g.seen old))
      raising_time settled gate t rest r reads =
          adds_on g.moment g.outcomes old mid new _ _ (zeroing_time t rest r reads)
          (gate t (settled t))
          (λ o leaves. record {
            told_so_far = leaves.told_so_far ∙ zeroing.quiet.told t;
            same =
                ⊎_elim
                (λ still.
                ap (device (g.size old)) still
                ∙ device_same (g.size old) r (g.seen old) (g.seen mid) reads
                (zeroed_same (g.seen old) (g.seen mid) (was t) (zeroing.seen t) (g.size old) r
                reads))
                (λ now.
                ap (device (g.size old)) now
                ∙ device_same (g.size old) r (g.seen old) (set_sector (g.seen mid) 2048 bytes)
                reads (raising_same t r reads))
                leaves.either;
          })
